-- The status of each ending.
use Rattle.std.specs.Prelude.{ℕ, Bool, true, false, Option, Some, None, Result, Ok, Err}
use Rattle.vm_state.specs.declared.run_state.Why.{Why}
use Rattle.vm_state.specs.declared.run_state.Why.TheVariants as why
use Rattle.vm_outcome.specs.declared.outcome.Ending.{Ending}
use Rattle.vm_outcome.specs.declared.outcome.Ending.TheVariants.{Done, Ran, Untold, Refused}
use Rattle.vm_status.specs.Lines.{status_of}
use Rattle.vm_status.specs.declared.refusal.Refusal.{Refusal}

-- the status of a run that ended so, where nothing outside failed; 9 where the outside ended it
abbrev pub why_status : Why → Bool → ℕ
why_status why.Finished true = 8
why_status why.Finished false = 0
why_status (why.Stopped cpu stop rip) doubt = 4
why_status why.Budget doubt = 5
why_status why.Outside doubt = 9

abbrev pub ending_status : Ending → ℕ
ending_status Done = 0
ending_status (Ran why doubt) = why_status why doubt
ending_status Untold = 9
ending_status (Refused refusal) = status_of refusal

-- the ending of a run that ended so, and of which a sector is in doubt or none
abbrev pub ended_as : Option Why → Bool → Ending
ended_as None doubt = Done
ended_as (Some why) doubt = Ran why doubt

-- the status of a refusal; 0 where there is none
abbrev pub result_status : {X : Type 0} → Result X Refusal → ℕ
result_status (Ok x) = 0
result_status (Err refusal) = status_of refusal
