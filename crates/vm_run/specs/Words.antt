-- What the words of a command line ask for, and what of it isn't built yet.
use Rattle.std.specs.Prelude.{◌≡◌, ◌≤◌, ◌⊎◌, ℕ, Bool, false, Option, Some, None, codes}
use Rattle.vm_cmd.specs.Word.{Word}
use Rattle.vm_cmd.specs.declared.command.Command.{Command}
use Rattle.vm_cmd.specs.declared.command.Command.TheVariants.{Run, Solo, Replay, Show, Asm, Make, Convert, Arrive, Inspect}
use Rattle.vm_cmd.specs.declared.command.RunWords.{RunWords}
use Rattle.vm_outcome.specs.declared.outcome.Ending.{Ending}
use Rattle.vm_outcome.specs.declared.outcome.Ending.TheVariants.{Refused}
use Rattle.vm_status.specs.declared.kind.Kind.TheVariants as kinds
use Rattle.vm_status.specs.declared.refusal.Refusal.TheVariants.{Bad, Memory}
use Rattle.vm_status.specs.declared.role.Role.TheVariants as roles

-- the command that isn't built yet
abbrev pub unbuilt : Command → Option Word
unbuilt (Solo w) = None
unbuilt (Replay w journal) = None
unbuilt (Run w) = None
unbuilt (Show config) = None
unbuilt (Asm file out) = None
unbuilt (Make cpus number) = None
unbuilt (Convert file out) = Some (codes "convert")
unbuilt (Arrive file out) = Some (codes "arrive")
unbuilt (Inspect w i) = Some (codes "inspect")

-- refused as not built yet, or for want of memory
abbrev pub IsLater : Word → Ending → Type 0
IsLater word ending = (ending ≡ Refused (Bad roles.Start word 0 kinds.Later)) ⊎ (ending ≡ Refused Memory)

-- the report is to tell the state of each vCPU
abbrev pub asks_state : Command → Bool
asks_state (Solo w) = w.state
asks_state (Run w) = w.state
asks_state (Replay w journal) = w.state
asks_state other = false

-- the limit of instructions is in its range
pub record IsWithin (w : RunWords) : Type 0 where
  pub some_limit : 1 ≤ w.limit
  pub limit : w.limit ≤ 20000000

-- the number of vCPUs is in its range
pub record IsCount (cpus : ℕ) : Type 0 where
  pub some_cpu : 1 ≤ cpus
  pub few : cpus ≤ 16

abbrev pub HasLimit : Command → Type 0
HasLimit (Solo w) = IsWithin w
HasLimit (Run w) = IsWithin w
HasLimit (Replay w journal) = IsWithin w
HasLimit (Make cpus number) = IsCount cpus
HasLimit other = Unit {0}

-- it starts no thread: it is any command but `run`
abbrev pub IsStill : Command → Type 0
IsStill (Run w) = ⊥
IsStill other = Unit {0}
