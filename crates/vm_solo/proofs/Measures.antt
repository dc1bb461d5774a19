-- What falls with each round of a crew.
use Rattle.std.specs.Prelude.{Option, Some, None, is_some, is_none, ◌&&◌, if◌then◌else◌}
use Rattle.std.proofs.Common.{◌≡◌, ℕ, ◌-◌, ◌<◌, Bool, true, false, List, [], ◌∷◌, ◌++◌, refl, sym, ap, subst, ◌∙◌, inl, inr, arith}
use Rattle.std.proofs.lemmas.Bool.{and_parts, cases_Bool, true≢false}
use Rattle.std.proofs.lemmas.Bool.Decides.{nat_tests}
use Rattle.std.proofs.lemmas.Grind.{common_steps}
use Rattle.vm_law.specs.declared.journal.EndCause.TheVariants.{Outside}
use Rattle.vm_law.specs.declared.journal.Entry.TheVariants.{End}
use Rattle.vm_law.specs.declared.journal.Signed.{Signed}
use Rattle.vm_host.specs.Views.{ImageView}
use Rattle.vm_state.specs.declared.run_state.Why.{Why}
use Rattle.vm_state.specs.Requests.{pass_count}
use Rattle.vm_state.specs.State.{State}
use Rattle.vm_orders.specs.Ending.{may_end}
use Rattle.vm_table.specs.Rounds.{Rounds, after_round, chosen, added}
use Rattle.vm_table.specs.Table.{allowed, lawful}
use Rattle.vm_laws.specs.Ending.{need}
use Rattle.vm_rounds.proofs.Closed.{ended_all}
use Rattle.vm_control.specs.Turn.{turn_of}
use Rattle.vm_solo.specs.Fits.{IsCrew}
use Rattle.vm_solo.specs.Rounds.{PlaysRound, after_others, round_of_crew, rounds_of}
use Rattle.vm_solo.specs.View.{CrewView}
use Rattle.vm_solo.proofs.Falling.{adds, adds_same, ended_falls, one_unless, round_falls, twice}
use Rattle.vm_solo.proofs.Others.{round_is}
use Rattle.vm_solo.proofs.Standing.{crew_stands}

-- a run that has ended isn't ended once more
none_or_some : (o : Option Why) → is_some o ≡ true → is_none o ≡ false
none_or_some None h = absurd (true≢false (sym h))
none_or_some (Some w) h = refl

end_tells : (s : State) → lawful s 0 (End Outside) ≡ true → is_none s.ended ≡ true
unfolding lawful allowed may_end
end_tells s m = grind (arith, nat_tests, common_steps, and_parts)

no_end : (s : State) → is_some s.ended ≡ true → lawful s 0 (End Outside) ≡ false
no_end s h = elim (cases_Bool (lawful s 0 (End Outside))) [
  | inr never ↦ never
  | inl may ↦ absurd (true≢false (sym (end_tells s may) ∙ none_or_some s.ended h))
]

and_false : (a b : Bool) → b ≡ false → (a && b) ≡ false
and_false true b e = e
and_false false b e = refl

turn_is : (s : State) (failed : Bool) → (failed && lawful s 0 (End Outside)) ≡ false → turn_of s failed ≡ chosen s 0
turn_is s failed e = ap (λ (b : Bool). if b then record { by = 0; entry = End Outside } ∷ [] else chosen s 0) e

round_as : (r : Rounds) (failed : Bool) → (failed && lawful r.state 0 (End Outside)) ≡ false → round_of_crew failed r ≡ after_round r
round_as r failed e = ap (λ (xs : List Signed). after_others (added r xs) (pass_count r.state.machine - 1)) (turn_is r.state failed e) ∙ sym (round_is r)

-- where the work outside hasn't failed, or the run has ended, the round is that of one thread
pub open_round : (r : Rounds) → round_of_crew false r ≡ after_round r
open_round r = round_as r false refl

pub ended_round : (r : Rounds) (failed : Bool) → is_some r.state.ended ≡ true → round_of_crew failed r ≡ after_round r
ended_round r failed h = round_as r failed (and_false failed _ (no_end r.state h))

module _ {I : Type 0} (seen : I → ImageView) where
  -- the measure doesn't ask what the calls to come answer
  pub falls_by : (f : State → ℕ) (old new : CrewView I) (made : List Bool) → rounds_of new [] ≡ after_round (rounds_of old (made ++ []))
      → twice (f (after_round (rounds_of old (made ++ []))).state) (after_round (rounds_of old (made ++ []))) < twice (f old.board.state) (rounds_of old (made ++ []))
      → twice (f new.board.state) (rounds_of new []) < twice (f old.board.state) (rounds_of old [])
  falls_by f old new made e l =
      let now : twice (f new.board.state) (rounds_of new []) ≡ twice (f (after_round (rounds_of old (made ++ []))).state) (after_round (rounds_of old (made ++ []))) = ap (λ (r : Rounds). twice (f r.state) r) e in
      let was : one_unless (adds (rounds_of old (made ++ []))) ≡ one_unless (adds (rounds_of old [])) = ap (λ (b : Bool). one_unless b) (adds_same (rounds_of old []) (made ++ [])) in
      omega (arith, now, was, l)

  pub ended_round_falls : (old new : CrewView I) → IsCrew seen old → old.board.state.closed ≡ false → is_some old.board.state.ended ≡ true → PlaysRound old new → twice (need new.board.state) (rounds_of new []) < twice (need old.board.state) (rounds_of old [])
  ended_round_falls old new h g e p =
      let r = rounds_of old (p.made ++ []) in
      falls_by need old new p.made (p.plays [] ∙ ended_round r old.control.failed e) (ended_falls r (crew_stands seen old (p.made ++ []) h) g e)

  pub ended_stays : (old new : CrewView I) → IsCrew seen old → is_some old.board.state.ended ≡ true → PlaysRound old new → is_some new.board.state.ended ≡ true
  ended_stays old new h e p =
      let r = rounds_of old (p.made ++ []) in
      let a = round_falls r (crew_stands seen old (p.made ++ []) h) in
      let same = ap (λ (t : Rounds). t.state) (p.plays [] ∙ ended_round r old.control.failed e) ∙ a.state in
      subst (λ (s : State). is_some s.ended ≡ true) (sym same) (ended_all r.state a.entries e)
