-- Only control closes a run, and nothing is added to a closed one.
use Rattle.std.proofs.Common.{◌≡◌, ℕ, ◌<◌, true, false, List, [], ◌∷◌, refl, sym, ap, ◌∙◌, inl, inr, arith}
use Rattle.std.proofs.lemmas.Bool.{and_parts, true≢false}
use Rattle.std.proofs.lemmas.Bool.Decides.{nat_tests}
use Rattle.std.proofs.lemmas.Grind.{common_steps}
use Rattle.vm_law.specs.declared.journal.Entry.{Entry}
use Rattle.vm_law.specs.declared.journal.Entry.TheVariants.{Close}
use Rattle.vm_law.specs.declared.journal.Signed.{Signed}
use Rattle.vm_host.specs.Views.{ImageView}
use Rattle.vm_state.specs.State.{State}
use Rattle.vm_orders.specs.Ending.{may_close}
use Rattle.vm_table.specs.History.{after_all, is_lawful_all}
use Rattle.vm_table.specs.Table.{after, allowed, counted, lawful}
use Rattle.vm_rounds.proofs.Passing.{lawful_tells}
use Rattle.vm_rounds.proofs.Staying.{IsClose, effect_stays}
use Rattle.vm_rounds.proofs.Walking.{AreOf}
use Rattle.vm_board.specs.View.{BoardView}
use Rattle.vm_solo.proofs.Crews.{Moves}

close_by : (s : State) (p : ℕ) → may_close s p ≡ true → p ≡ 0
unfolding may_close
close_by s p m = grind (arith, nat_tests, common_steps, and_parts)

not_close : (s : State) (p : ℕ) (e : Entry) → 0 < p → allowed s p e ≡ true → IsClose e → (e ≡ Close) → ⊥
unfolding allowed
not_close s p Close l m c h = (let z = close_by s p m in omega (arith, z, l))
not_close s p e l m c h = c

is_close : (e : Entry) → IsClose e → e ≡ Close
is_close Close c = refl
is_close e c = absurd c

stays_open : (s : State) (x : Signed) → 0 < x.by → lawful s x.by x.entry ≡ true → (after s x).closed ≡ false
unfolding after counted
stays_open s x l m =
    let t = lawful_tells s x m in
    elim (effect_stays s x.by x.entry) [
      | inl k ↦ k.closed ∙ t.0
      | inr c ↦ absurd (not_close s x.by x.entry l t.1 c (is_close x.entry c))
    ]

none_added : (s : State) (p : ℕ) (xs : List Signed) → 0 < p → is_lawful_all s xs ≡ true → AreOf p xs → (after_all s xs).closed ≡ true → xs ≡ []
none_added s p [] l m o c = refl
none_added s p (x ∷ xs) l m o c =
    let a = and_parts (lawful s x.by x.entry) (is_lawful_all (after s x) xs) m in
    let by = o.0 in
    let none = none_added (after s x) p xs l a.1 o.1 c in
    absurd (true≢false (sym (ap (λ (ys : List Signed). (after_all (after s x) ys).closed) (sym none) ∙ c) ∙ stays_open s x (omega (arith, by, l)) a.0))

pub shut_stays : {I : Type 0} (seen : I → ImageView) (old new : BoardView I) (p : ℕ) (xs : List Signed) → 0 < p → Moves seen old new p xs → new.state.closed ≡ true → new.state ≡ old.state
shut_stays seen old new p xs l m c =
    m.state ∙ ap (λ (ys : List Signed). after_all old.state ys) (none_added old.state p xs l m.lawful m.of (ap (λ (s : State). s.closed) (sym m.state) ∙ c))
