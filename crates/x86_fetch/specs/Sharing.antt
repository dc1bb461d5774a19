-- An instruction that isn't local, where it is done by itself.
use Rattle.std.specs.Prelude.{◌≡◌, Bool, true, false, Option, Result, Ok, Err}
use Rattle.vm_law.specs.Memory.{Memory}
use Rattle.vm_law.specs.declared.context.Ctx.{Ctx}
use Rattle.x86_exec.specs.declared.effect.NotDone.{NotDone}
use Rattle.x86_exec.specs.declared.effect.Stored.{Stored}
use Rattle.x86_exec.specs.Kept.{IsDoneAs}
use Rattle.x86_exec.specs.Shared.{attempted}
use Rattle.x86_fetch.specs.declared.fetching.Next.{Next}
use Rattle.x86_fetch.specs.declared.fetching.Next.TheVariants.{Local, Shared, Undefined, OutOfCode}

-- nothing was done
abbrev pub IsLeft : Result (Option Stored) NotDone → Type 0
IsLeft (Ok stored) = true ≡ false
IsLeft (Err e) = Unit {0}

-- what stands at RIP is another instruction than a local one, and is done, or it isn't done
abbrev pub IsNextDoneAs : Result (Option Stored) NotDone → Ctx → Memory → Next → Ctx → Memory → Type 0
IsNextDoneAs r c mem (Shared insn len) after new = IsDoneAs r (attempted c insn len mem insn.op) after new
IsNextDoneAs r c mem (Local insn len) after new = IsLeft r
IsNextDoneAs r c mem Undefined after new = IsLeft r
IsNextDoneAs r c mem OutOfCode after new = IsLeft r
