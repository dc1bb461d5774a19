-- What `make` answers and keeps.
use Rattle.std.specs.Prelude.{◌≡◌, ◌≢◌, ◌⊎◌, ℕ, ◌<◌, ◌≤◌, Bool, true, false, List, ◌++◌, Option, Some, None}
use Rattle.vm_host.specs.Counts.{Rose}
use Rattle.vm_host.specs.Leaves.{Takes, TakesSome}
use Rattle.vm_host.specs.Views.{SinkView}
use Rattle.vm_making.specs.Line.{TakesUpTo, total_line}
use Rattle.vm_outcome.specs.declared.outcome.Ending.{Ending}
use Rattle.vm_outcome.specs.declared.outcome.Ending.TheVariants.{Ran, Refused}
use Rattle.vm_outcome.specs.declared.outcome.Kept.{Kept}
use Rattle.vm_outcome.specs.Outside.{sent_in}
use Rattle.vm_outcome.specs.Telling.{has_doubt}
use Rattle.vm_solo.specs.Ending.{IsCutShort}
use Rattle.vm_state.specs.declared.run_state.Why.{Why}
use Rattle.vm_state.specs.declared.run_state.Why.TheVariants as why
use Rattle.vm_status.specs.declared.refusal.Refusal.TheVariants.{Console, Memory}
use Rattle.vm_table.specs.History.{is_closed, last_state, why_ended}
use Rattle.vm_table.specs.Rounds.{IsSolo}

-- it came to its end by the rounds of one thread, closed, for this reason; it has no disk, so that no sector is in doubt
pub record HasEnded (k : Kept) (why : Why) : Type 0 where
  pub calls : List Bool
  pub solo : IsSolo k.start calls k.journal
  pub closed : is_closed k.start k.journal ≡ true
  pub ended : why_ended k.start k.journal ≡ Some why
  pub no_doubt : has_doubt (last_state k.start k.journal) ≡ false

-- what a run of these numbers answers that is kept, where the console took this
pub data RunAnswers (cpus number : ℕ) (k : Kept) (old new : SinkView) (ending : Ending) : Type 0 where
  -- it finished, and the console took what its guest sent, and then the line of the total
  told : HasEnded k why.Finished → Takes (sent_in k ++ total_line cpus number) old new → ending ≡ Ran why.Finished false → RunAnswers cpus number k old new ending
  -- it finished, and the console took what its guest sent, and then refused some of the line
  untold : HasEnded k why.Finished → TakesUpTo (sent_in k) (total_line cpus number) old new → ending ≡ Refused Console → RunAnswers cpus number k old new ending
  -- it stopped or spent its instructions, and the console took what its guest sent, and no line
  ended : (reason : Why) → HasEnded k reason → reason ≢ why.Finished → reason ≢ why.Outside → Takes (sent_in k) old new → ending ≡ Ran reason false
      → RunAnswers cpus number k old new ending
  -- the console refused what the guest sent; the run then ended by that
  unwritten : is_closed k.start k.journal ≡ true → IsCutShort k.start k.journal (why_ended k.start k.journal) → TakesSome (sent_in k) old new → ending ≡ Refused Console
      → RunAnswers cpus number k old new ending
  -- memory is out
  spent : TakesSome (sent_in k) old new → ending ≡ Refused Memory → RunAnswers cpus number k old new ending

-- what `make` answers and keeps
pub data MakeAnswers (cpus number : ℕ) (old new : SinkView) (ending : Ending) (kept : Option Kept) : Type 0 where
  -- the run began
  began : (k : Kept) → kept ≡ Some k → RunAnswers cpus number k old new ending → MakeAnswers cpus number old new ending kept
  -- memory was out before
  spent : kept ≡ None → ending ≡ Refused Memory → MakeAnswers cpus number old new ending kept

-- The count of the console behind a status: no other count is behind one. It doesn't rise without a status for it, and after it
-- memory may run out.
pub record HasMakeCauses (status : ℕ) (old new : SinkView) : Type 0 where
  pub no_host : (status ≢ 6) × (status ≢ 7)
  pub unwritten : status ≡ 9 → Rose old.faults new.faults
  pub only_unwritten : old.faults < new.faults → (status ≡ 9) ⊎ (status ≡ 71)
  pub later : old.faults ≤ new.faults
