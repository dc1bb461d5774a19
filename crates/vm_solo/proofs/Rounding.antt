-- A round of a crew, pass by pass.
use Rattle.std.proofs.Common.{◌≡◌, ℕ, suc, ◌+◌, ◌-◌, Bool, true, List, [], ◌++◌, length, append_assoc, refl, sym, ap, subst, ◌∙◌, arith}
use Rattle.std.proofs.lemmas.List.{append-nil}
use Rattle.vm_law.specs.declared.journal.Signed.{Signed}
use Rattle.vm_host.specs.Views.{ImageView}
use Rattle.vm_state.specs.Requests.{pass_count}
use Rattle.vm_state.specs.State.{State}
use Rattle.vm_table.specs.Rounds.{Rounds, added, after_pass}
use Rattle.vm_board.specs.View.{BoardView}
use Rattle.vm_control.specs.Turn.{turn_of}
use Rattle.vm_solo.specs.Fits.{IsCrew}
use Rattle.vm_solo.specs.Playing.{Continues, PlaysControl, PlaysPass}
use Rattle.vm_solo.specs.Rounds.{PlaysRound, after_others, rounds_of}
use Rattle.vm_solo.specs.View.{CrewView}

-- a state that is closed is the one before, and that the first
pub still_shut : (mid last first : State) → (last.closed ≡ true → last ≡ mid) → (mid.closed ≡ true → mid ≡ first) → last.closed ≡ true → last ≡ first
still_shut mid last first f g e = let a = f e in a ∙ g (ap (λ (s : State). s.closed) (sym a) ∙ e)

module _ {I : Type 0} where
  -- the passes 1 to n have taken their turns
  pub record PlaysOthers (n : ℕ) (old new : CrewView I) : Type 0 where
    pub made : List Bool
    pub plays : (calls : List Bool) → rounds_of new calls ≡ after_others (rounds_of old (made ++ calls)) n

  -- the passes n + 1 to n + k have, behind those
  abbrev pub PlaysBehind : ℕ → ℕ → CrewView I → CrewView I → Type 0
  PlaysBehind n k old new = (first : CrewView I) → PlaysOthers n first old → PlaysOthers (n + k) first new

  pub continues_same : (b : BoardView I) → Continues b b
  continues_same b = record { start = refl; entries = []; journal = sym (append-nil b.journal) }

  pub continues_then : (a b c : BoardView I) → Continues a b → Continues b c → Continues a c
  continues_then a b c x y = record {
    start = y.start ∙ x.start;
    entries = x.entries ++ y.entries;
    journal = y.journal ∙ ap (λ (h : List Signed). h ++ y.entries) x.journal ∙ append_assoc a.journal x.entries y.entries;
  }

  pub none_played : (c : CrewView I) → PlaysOthers 0 c c
  none_played c = record { made = []; plays = λ calls. refl }

  pub one_played : (n : ℕ) (a b c : CrewView I) → PlaysOthers n a b → PlaysPass (1 + n) b c → PlaysOthers (n + 1) a c
  one_played n a b c x y =
      let one : n + 1 ≡ suc n = omega arith in
      let next : 1 + n ≡ suc n = omega arith in
      record {
        made = x.made ++ y.made;
        plays = λ calls.
            y.plays calls ∙ ap (λ (r : Rounds). after_pass r (1 + n)) (x.plays (y.made ++ calls)) ∙ ap (λ (k : ℕ). after_pass (after_others (rounds_of a (x.made ++ (y.made ++ calls))) n) k) next
            ∙ ap (λ (k : ℕ). after_others (rounds_of a (x.made ++ (y.made ++ calls))) k) (sym one) ∙ ap (λ (cs : List Bool). after_others (rounds_of a cs) (n + 1)) (sym (append_assoc x.made y.made calls));
      }

  pub none_behind : (n : ℕ) (c : CrewView I) → PlaysBehind n 0 c c
  none_behind n c first x = let e : n + 0 ≡ n = omega arith in subst (λ (k : ℕ). PlaysOthers k first c) (sym e) x

  pub one_behind : (n k m : ℕ) (a b c : CrewView I) → m ≡ n → PlaysBehind n k a b → PlaysPass (1 + m + k) b c → PlaysBehind n (k + 1) a c
  one_behind n k m a b c e x y first z =
      let p : 1 + m + k ≡ 1 + (n + k) = omega (arith, e) in
      let q : (n + k) + 1 ≡ n + (k + 1) = omega arith in
      subst (λ (j : ℕ). PlaysOthers j first c) q (one_played (n + k) first b c (x first z) (subst (λ (j : ℕ). PlaysPass j b c) p y))

  pub round_played : (seen : I → ImageView) (a b c : CrewView I) (n : ℕ) → IsCrew seen a → n ≡ length a.runners + length a.workers → PlaysControl a b → PlaysOthers n b c → PlaysRound a c
  round_played seen a b c n crew e x y =
      let runners = crew.runners.count in
      let workers = crew.workers.count in
      let last : n ≡ pass_count a.board.state.machine - 1 = omega (arith, e, runners, workers) in
      record {
        made = y.made;
        plays = λ calls.
            y.plays calls ∙ ap (λ (r : Rounds). after_others r n) (x (y.made ++ calls))
            ∙ ap (λ (k : ℕ). after_others (added (rounds_of a (y.made ++ calls)) (turn_of a.board.state a.control.failed)) k) last;
      }
