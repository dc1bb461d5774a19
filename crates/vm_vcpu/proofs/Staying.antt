-- What entries leave of a runner's copies and of the number of vCPUs.
use Rattle.std.proofs.Common.{◌≡◌, ℕ, true, List, [], ◌∷◌, ◌++◌, length, refl, sym, ap, subst, ◌∙◌, arith}
use Rattle.std.specs.Prelude.{slice_index}
use Rattle.std.proofs.lemmas.Bool.{and_parts}
use Rattle.vm_law.specs.declared.journal.Signed.{Signed}
use Rattle.vm_host.specs.Views.{ImageView}
use Rattle.vm_state.specs.Machine.{cpu_count}
use Rattle.vm_state.specs.Sound.{IsSoundState}
use Rattle.vm_state.specs.Start.{boot}
use Rattle.vm_state.specs.State.{State}
use Rattle.vm_table.specs.History.{after_all, is_lawful_all}
use Rattle.vm_table.specs.Table.{lawful, after}
use Rattle.vm_table.proofs.Keeps.{after_keeps}
use Rattle.vm_table.proofs.Plan.{after_cpus, after_pages}
use Rattle.vm_laws.specs.Owned.{version_of}
use Rattle.vm_laws.proofs.Histories.{lawful_split}
use Rattle.vm_laws.proofs.Pages.{after_page}
use Rattle.vm_board.specs.Board.{IsBoard}
use Rattle.vm_board.specs.Pages.{page_of}
use Rattle.vm_board.specs.View.{BoardView}
use Rattle.vm_vcpu.specs.Copies.{AreCopies, AreRenewed, CopiesView}
use Rattle.vm_vcpu.specs.Turn.{Grows}

pub copies_after : (s : State) (x : Signed) (c : CopiesView) → IsSoundState s → lawful s x.by x.entry ≡ true → AreCopies s c → AreCopies (after s x) c
copies_after s x c h m a = record {
  size = a.size ∙ sym (after_page s x 0 h m).size;
  count = a.count ∙ sym (after_pages s x);
  earlier = λ page. (let g = (after_page s x page h m).grows in let e = a.earlier page in omega (arith, g, e));
  pages = λ page e. (
      let k = after_page s x page h m in
      let g = k.grows in
      let f = a.earlier page in
      let still : version_of (after s x) page ≡ version_of s page = omega (arith, g, f, e) in
      let was : slice_index s.versions page ≡ slice_index c.versions page = omega (arith, g, f, e) in
      a.pages page was ∙ sym (k.stays still));
}

pub copies_all : (s : State) (xs : List Signed) (c : CopiesView) → IsSoundState s → is_lawful_all s xs ≡ true → AreCopies s c → AreCopies (after_all s xs) c
copies_all s [] c h m a = a
copies_all s (x ∷ xs) c h m a =
    let t = and_parts (lawful s x.by x.entry) (is_lawful_all (after s x) xs) m in
    copies_all (after s x) xs c (after_keeps s x h t.0) t.1 (copies_after s x c h t.0 a)

pub cpus_all : (s : State) (xs : List Signed) → cpu_count (after_all s xs).machine ≡ cpu_count s.machine
cpus_all s [] = refl
cpus_all s (x ∷ xs) = cpus_all (after s x) xs ∙ after_cpus s x

-- renewed copies are copies
pub renewed_are_copies : (s : State) (c : CopiesView) → AreRenewed s c → AreCopies s c
renewed_are_copies s c r = record {
  size = ap (λ (xs : List ℕ). length xs) r.code;
  count = ap (λ (xs : List ℕ). length xs) r.versions;
  earlier = λ page. (let e = ap (λ (xs : List ℕ). slice_index xs page) r.versions in omega (arith, e));
  pages = λ page e. ap (λ (xs : List ℕ). page_of xs page) r.code;
}

-- what a board added is lawful where it stood
module _ {I : Type 0} (seen : I → ImageView) where
  pub added_lawful : (old new : BoardView I) (added : List Signed) → IsBoard seen old → IsBoard seen new → Grows old new added → is_lawful_all old.state added ≡ true
  added_lawful old new added a b g =
      let legal : is_lawful_all (boot old.start) (old.journal ++ added) ≡ true = subst (λ (j : List Signed). is_lawful_all (boot old.start) j ≡ true) g.goes.journal (subst (λ s. is_lawful_all (boot s) new.journal ≡ true) g.goes.start b.legal) in
      subst (λ (s : State). is_lawful_all s added ≡ true) (sym a.last) (lawful_split (boot old.start) old.journal added legal)
