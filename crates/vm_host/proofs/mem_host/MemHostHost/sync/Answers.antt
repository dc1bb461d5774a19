use Rattle.std.proofs.Common.{refl, List, ◌∷◌, Some, length, sym, ◌∙◌, ap, ◌≡◌, subst, rules}
use Rattle.vm_host.specs.declared.event.Kind.TheVariants.{Held}
use Rattle.vm_host.specs.Past.{Change, file_of, made_at}
use Rattle.vm_host.specs.MemState.{HostState}
use Rattle.vm_host.proofs.Unwritten.{unread}
use Rattle.vm_host.proofs.Pasts.{held_to, ReadsPast}
use Rattle.vm_host.proofs.mem_host.MemHostHost.sync.Goals as goal

pub returns-clause-leaves : goal.returns-clause-leaves
returns-clause-leaves c =
    let same : c.in_ok-same.same.items ≡ c.in-Some.bytes.now = search rules in
    let past = ap (λ (m : HostState). m.past) c.call_fails.ensures.after in
    let e : Change = record { name = c.args.name.now; bytes = c.in_ok-same.same.items; kind = Held } in
    let is : file_of c.args.self.now.past c.args.name.now ≡ Some c.in_ok-same.same.items = ap (λ (l : List Change). file_of l c.args.name.now) (sym past) ∙ sym c.in-Some.ensures ∙ ap Some (sym same) in
    record {
      told = refl;
      files = search rules;
      made = search rules;
      crash = λ _. held_to c.args.self.now.past c.remember.new.self.past c.args.name.now c.in_ok-same.same.items
          (ap (λ (m : HostState). m.past) c.in_ok-remember.ensures.ok ∙ ap (λ (l : List Change). e ∷ l) past)
          is
          (subst (λ (l : List Change). ReadsPast l) past c.call_fails.ensures.reads);
      image_faults = search rules;
    }

pub returns-then-call_fails-clause-leaves : goal.returns-then-call_fails-clause-leaves
returns-then-call_fails-clause-leaves c = unread c.args.self.now c.call_fails.new.self (search rules) (search rules)

pub returns-in_err-same-clause-leaves : goal.returns-in_err-same-clause-leaves
returns-in_err-same-clause-leaves c = unread c.args.self.now c.call_fails.new.self (search rules) (search rules)

pub returns-in_err-remember-clause-leaves : goal.returns-in_err-remember-clause-leaves
returns-in_err-remember-clause-leaves c = unread c.args.self.now c.remember.new.self (search rules) (search rules)
