-- What a reading answers.
use Rattle.std.specs.Prelude.{◌≡◌, Option, Some, None, Result, Ok, Err, ⊤}
use Rattle.vm_cmd.specs.declared.command.CmdError.{CmdError}
use Rattle.vm_cmd.specs.declared.command.CmdError.TheVariants.{Usage, Memory}

-- the refusal is Usage exactly where nothing was read; Memory says nothing
abbrev pub Refuses : {X : Type 0} → CmdError → Option X → Type 0
Refuses Usage read = read ≡ None
Refuses Memory read = ⊤

-- Ok with what was read, or the refusal
abbrev pub Answers : {X : Type 0} → Result X CmdError → Option X → Type 0
Answers (Ok x) read = read ≡ Some x
Answers (Err e) read = Refuses e read
