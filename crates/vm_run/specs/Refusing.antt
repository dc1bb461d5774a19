-- Words that give no command.
use Rattle.vm_cmd.specs.declared.command.CmdError.{CmdError}
use Rattle.vm_cmd.specs.declared.command.CmdError.TheVariants as words
use Rattle.vm_host.specs.Views.{SinkView}
use Rattle.vm_outcome.specs.declared.outcome.Ending.{Ending}
use Rattle.vm_outcome.specs.declared.outcome.Ending.TheVariants.{Refused}
use Rattle.vm_outcome.specs.Telling.{TakesLine}
use Rattle.vm_status.specs.Lines.{line_of}
use Rattle.vm_status.specs.declared.refusal.Refusal.{Refusal}
use Rattle.vm_status.specs.declared.refusal.Refusal.TheVariants.{Usage, Memory}

abbrev pub refusal_of : CmdError → Refusal
refusal_of words.Usage = Usage
refusal_of words.Memory = Memory

-- the log took the line of a refusal
abbrev pub TellsRefusal : Ending → SinkView → SinkView → Type 0
TellsRefusal (Refused refusal) old new = TakesLine (line_of refusal) old new
TellsRefusal other old new = ⊥
