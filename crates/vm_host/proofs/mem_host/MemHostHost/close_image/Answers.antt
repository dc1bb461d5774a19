use Rattle.std.proofs.Common.{◌≡◌, ℕ, List, length, sym, ◌∙◌, ap, subst, refl}
use Rattle.vm_host.specs.Crash.{Passes}
use Rattle.vm_host.specs.Past.{Change, given_back, file_of, LeftSince, made_at}
use Rattle.vm_host.specs.MemState.{HostState}
use Rattle.vm_host.proofs.GivenBack.{own-given_back, other-given_back, same_made, passes_back}
use Rattle.vm_host.proofs.mem_host.MemHostHost.close_image.Goals as goal

pub returns-clause-content : goal.returns-clause-content
returns-clause-content c = λ _ _.
    let past = ap (λ (m : HostState). m.past) c.give_back.ensures.after ∙ ap (λ (m : HostState). given_back m.past c.args.name.now c.into_bytes.result.items) c.count_image.ensures ∙ ap (λ (b : List ℕ). given_back c.args.self.now.past c.args.name.now b) c.into_bytes.ensures in
    ap (λ (l : List Change). file_of l c.args.name.now) past ∙ own-given_back c.args.self.now.past c.args.name.now c.args.image.bytes (c.requires refl)

pub returns-clause-leaves : goal.returns-clause-leaves
returns-clause-leaves c =
    let past = ap (λ (m : HostState). m.past) c.give_back.ensures.after ∙ ap (λ (m : HostState). given_back m.past c.args.name.now c.into_bytes.result.items) c.count_image.ensures ∙ ap (λ (b : List ℕ). given_back c.args.self.now.past c.args.name.now b) c.into_bytes.ensures in
    let same = ap made_at past ∙ same_made c.args.self.now.past c.args.name.now c.args.image.bytes in
    record {
      told = refl;
      files = λ _ q ne. ap (λ (l : List Change). file_of l q) past ∙ other-given_back c.args.self.now.past c.args.name.now c.args.image.bytes q ne;
      made = λ _ q ne. ap (λ (F : List ℕ → ℕ). F q) same;
      time = λ _. subst (λ (l : List Change). Passes (λ q. q ≡ c.args.name.now) (length c.args.self.now.past) (length l) (LeftSince c.args.self.now.past) (LeftSince l)) (sym past) (passes_back c.args.self.now.past c.args.name.now c.args.image.bytes (c.requires refl));
    }

pub returns-clause-made : goal.returns-clause-made
returns-clause-made c = λ _.
    let past = ap (λ (m : HostState). m.past) c.give_back.ensures.after ∙ ap (λ (m : HostState). given_back m.past c.args.name.now c.into_bytes.result.items) c.count_image.ensures ∙ ap (λ (b : List ℕ). given_back c.args.self.now.past c.args.name.now b) c.into_bytes.ensures in
    ap made_at past ∙ same_made c.args.self.now.past c.args.name.now c.args.image.bytes
