-- How a run ends of which control's work outside has failed.
use Rattle.std.specs.Prelude.{◌≡◌, ℕ, suc, Bool, List, ◌++◌, Option, Some, None}
use Rattle.vm_law.specs.declared.journal.Signed.{Signed}
use Rattle.vm_state.specs.declared.run_state.Why.{Why}
use Rattle.vm_state.specs.declared.run_state.Why.TheVariants.{Outside}
use Rattle.vm_state.specs.declared.start.Start.{Start}
use Rattle.vm_table.specs.Rounds.{first_round, rounds_from}

-- a run that hasn't ended ends by the failure outside
abbrev pub or_outside : Option Why → Why
or_outside None = Outside
or_outside (Some why) = why

-- in the last of these rounds it failed; the run then ends by that, unless it had ended by the end of that round
pub record IsCutShort (start : Start) (history : List Signed) (why : Option Why) : Type 0 where
  pub calls : List Bool
  pub before : ℕ
  pub rest : List Signed
  pub made : history ≡ (rounds_from (first_round start calls) (suc before)).history ++ rest
  pub ended : why ≡ Some (or_outside (rounds_from (first_round start calls) (suc before)).state.ended)
