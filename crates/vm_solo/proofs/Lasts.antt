-- What falls with each round of a crew whose run hasn't ended.
use Rattle.std.specs.Prelude.{Option, Some, None, is_none, is_some, if◌then◌else◌}
use Rattle.std.proofs.Common.{◌≡◌, ◌⊎◌, ℕ, ◌+◌, ◌<◌, ◌≤◌, Bool, true, false, [], ◌++◌, refl, sym, ap, subst, ◌∙◌, inl, inr, arith}
use Rattle.std.proofs.lemmas.Bool.{true≢false}
use Rattle.vm_host.specs.Views.{ImageView}
use Rattle.vm_state.specs.declared.run_state.Why.{Why}
use Rattle.vm_state.specs.State.{State}
use Rattle.vm_orders.specs.Ending.{entry_limit}
use Rattle.vm_table.specs.Rounds.{Rounds, after_round}
use Rattle.vm_rounds.proofs.Closed.{to_come}
use Rattle.vm_rounds.proofs.Lasting.{before_last}
use Rattle.vm_rounds.proofs.Returning.{Nearer, one_nearer}
use Rattle.vm_solo.specs.Fits.{IsCrew}
use Rattle.vm_solo.specs.Playing.{is_going}
use Rattle.vm_solo.specs.Rounds.{PlaysRound, round_of_crew, rounds_of}
use Rattle.vm_solo.specs.View.{CrewView}
use Rattle.vm_solo.proofs.Ended.{Shut}
use Rattle.vm_solo.proofs.Falling.{early_falls, twice}
use Rattle.vm_solo.proofs.Measures.{falls_by, open_round}
use Rattle.vm_solo.proofs.Played.{crew_shut, failed_ends}
use Rattle.vm_solo.proofs.Standing.{crew_stands}

-- a run of which something has failed ends in the next round
abbrev pub left : Bool → Bool → ℕ → ℕ
left over failed n = if over then 0 else if failed then 1 else 2 + n

left_falls : (b f g : Bool) (m n : ℕ) → (f ≡ true → b ≡ true) → (f ≡ false → (b ≡ true) ⊎ (m < n)) → left b g m < left false f n
left_falls true true g m n ends falls = omega arith
left_falls true false g m n ends falls = omega arith
left_falls false true g m n ends falls = absurd (true≢false (sym (ends refl)))
left_falls false false g m n ends falls = by g (falls refl)
  where
    by : (g : Bool) → (false ≡ true) ⊎ (m < n) → left false g m < left false false n
    by g (inl bad) = absurd (true≢false (sym bad))
    by true (inr l) = omega arith
    by false (inr l) = omega (arith, l)

is_over : (o : Option Why) → is_none o ≡ true → is_some o ≡ false
is_over None h = refl
is_over (Some w) h = absurd (true≢false (sym h))

no_why : (o : Option Why) → is_none o ≡ true → o ≡ None
no_why None h = refl
no_why (Some w) h = absurd (true≢false (sym h))

going_open : (s : State) → Shut s → is_going s ≡ true → s.closed ≡ false
going_open s h g = by s.closed refl
  where
    by : (b : Bool) → s.closed ≡ b → b ≡ false
    by false e = refl
    by true e = absurd (true≢false (sym (h e) ∙ is_over s.ended g))

abbrev pub rounds_left : {I : Type 0} → CrewView I → ℕ → ℕ
rounds_left c n = left (is_some c.board.state.ended) c.control.failed n

module _ {I : Type 0} (seen : I → ImageView) where
  left_less : (old new : CrewView I) (m n : ℕ) → IsCrew seen old → is_going old.board.state ≡ true → PlaysRound old new → (old.control.failed ≡ false → (is_some new.board.state.ended ≡ true) ⊎ (m < n)) → rounds_left new m < rounds_left old n
  left_less old new m n h g p less =
      subst (λ (b : Bool). rounds_left new m < left b old.control.failed n) (sym (is_over old.board.state.ended g))
      (left_falls (is_some new.board.state.ended) old.control.failed new.control.failed m n (λ f. ap (λ (o : Option Why). is_some o) (failed_ends seen old new h f p)) less)

  open_plays : (old new : CrewView I) (p : PlaysRound old new) → old.control.failed ≡ false → rounds_of new [] ≡ after_round (rounds_of old (p.made ++ []))
  open_plays old new p f = (let r = rounds_of old (p.made ++ []) in p.plays [] ∙ ap (λ (b : Bool). round_of_crew b r) f ∙ open_round r)

  -- before so many entries stand
  pub early_less : (old new : CrewView I) → IsCrew seen old → is_going old.board.state ≡ true → old.board.state.entries < entry_limit → PlaysRound old new
      → rounds_left new (twice (to_come new.board.state) (rounds_of new [])) < rounds_left old (twice (to_come old.board.state) (rounds_of old []))
  early_less old new h g l p =
      left_less old new _ _ h g p
      (λ f. (let r = rounds_of old (p.made ++ []) in inr (falls_by seen to_come old new p.made (open_plays old new p f) (early_falls r (crew_stands seen old (p.made ++ []) h) (going_open old.board.state (crew_shut seen old h) g) (omega (arith, l))))))

  -- and from then on
  pub late_less : (old new : CrewView I) → IsCrew seen old → is_going old.board.state ≡ true → entry_limit ≤ old.board.state.entries → PlaysRound old new
      → rounds_left new (before_last new.board.state) < rounds_left old (before_last old.board.state)
  late_less old new h g l p =
      left_less old new _ _ h g p
      (λ f. (
      let r = rounds_of old (p.made ++ []) in
      subst (λ (t : Rounds). Nearer (before_last old.board.state) t.state) (sym (open_plays old new p f))
      (one_nearer r (crew_stands seen old (p.made ++ []) h) (going_open old.board.state (crew_shut seen old h) g) (no_why old.board.state.ended g) l).0
      ))

  -- as many entries stand after it, or the run has ended
  late_open : (old new : CrewView I) → IsCrew seen old → is_going old.board.state ≡ true → old.control.failed ≡ false → entry_limit ≤ old.board.state.entries → PlaysRound old new → entry_limit ≤ new.board.state.entries
  late_open old new h g f l p =
      let r = rounds_of old (p.made ++ []) in
      let a = one_nearer r (crew_stands seen old (p.made ++ []) h) (going_open old.board.state (crew_shut seen old h) g) (no_why old.board.state.ended g) l in
      subst (λ (t : Rounds). entry_limit ≤ t.state.entries) (sym (open_plays old new p f)) a.1

  late_by : (old new : CrewView I) (b : Bool) → old.control.failed ≡ b → IsCrew seen old → is_going old.board.state ≡ true → entry_limit ≤ old.board.state.entries → PlaysRound old new → is_going new.board.state ≡ true → entry_limit ≤ new.board.state.entries
  late_by old new false f h going l p g = late_open old new h going f l p
  late_by old new true f h going l p g = absurd (true≢false (sym (ap (λ (o : Option Why). is_some o) (failed_ends seen old new h f p)) ∙ is_over new.board.state.ended g))

  pub late_stays : (old new : CrewView I) → IsCrew seen old → is_going old.board.state ≡ true → entry_limit ≤ old.board.state.entries → PlaysRound old new → is_going new.board.state ≡ true → entry_limit ≤ new.board.state.entries
  late_stays old new h going l p g = late_by old new old.control.failed refl h going l p g
