-- At which rounds a crew stands, and which it plays.
use Rattle.std.specs.Prelude.{◌≡◌, ℕ, zero, suc, ◌+◌, ◌-◌, Bool, false, List, [], ◌++◌, length, map, replicate, Option, None}
use Rattle.vm_law.specs.declared.journal.Signed.{Signed}
use Rattle.vm_state.specs.Requests.{pass_count}
use Rattle.vm_table.specs.Rounds.{Rounds, added, after_pass, first_round}
use Rattle.vm_control.specs.Turn.{turn_of}
use Rattle.vm_vcpu.specs.View.{lease_now}
use Rattle.vm_blkwork.specs.Turn.{answer_of}
use Rattle.vm_blkwork.specs.declared.worker.Worker.{Worker}
use Rattle.vm_solo.specs.View.{CrewView}

-- ---- a round in which control adds these entries

-- the turns of the passes 1 to n
abbrev pub after_others : Rounds → ℕ → Rounds
after_others r zero = r
after_others r (suc n) = after_pass (after_others r n) (suc n)

abbrev pub after_round_with : Rounds → List Signed → Rounds
after_round_with r first = after_others (added r first) (pass_count r.state.machine - 1)

-- control ends the run where its work outside has failed
abbrev pub round_of_crew : Bool → Rounds → Rounds
round_of_crew failed r = after_round_with r (turn_of r.state failed)

-- ---- a crew

module _ {I : Type 0} where
  -- what the image call of each pass answered that is out; control and the runners make none
  abbrev pub answers_of : ℕ → List (Worker I) → List (Option Bool)
  answers_of cpus workers = replicate (1 + cpus) None ++ map (λ w. answer_of w.out) workers

  -- it stands at these rounds, where the image calls to come answer this
  abbrev pub rounds_of : CrewView I → List Bool → Rounds
  rounds_of c calls = record {
    state = c.board.state;
    history = c.board.journal;
    leased = map lease_now c.runners;
    answered = answers_of (length c.runners) c.workers;
    calls = calls;
  }

  -- it played a round, in which the image calls answered `made`
  pub record PlaysRound (old new : CrewView I) : Type 0 where
    pub made : List Bool
    pub plays : (calls : List Bool) → rounds_of new calls ≡ round_of_crew old.control.failed (rounds_of old (made ++ calls))

  -- it is new: it stands at the first round, and wrote nothing yet
  pub record IsNew (c : CrewView I) : Type 0 where
    pub first : (calls : List Bool) → rounds_of c calls ≡ first_round c.board.start calls
    pub control : c.control ≡ record { wrote = []; held = []; failed = false }
    pub fault : c.fault ≡ None
    pub fed : c.board.starved ≡ false
