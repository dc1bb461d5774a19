-- What `asm` answers.
use Rattle.std.specs.Prelude.{◌≡◌, ◌⊎◌, ℕ, List, Option, None}
use Rattle.vm_host.specs.Leaves.{ReadsHost}
use Rattle.vm_host.specs.Told.{WhereTold}
use Rattle.vm_host.specs.Views.{HostView}
use Rattle.vm_law.specs.declared.image.FlatImage.{FlatImage}
use Rattle.vm_outcome.specs.declared.outcome.Ending.{Ending}
use Rattle.vm_outcome.specs.declared.outcome.Ending.TheVariants.{Done, Refused}
use Rattle.vm_outcome.specs.Causes.{IsNamed}
use Rattle.vm_outcome.specs.Files.{IsFileOf, IsRefusedAt}
use Rattle.vm_assembling.specs.Assembling.{IsAssembly, IsAssemblyFault, HoldsImage}
use Rattle.vm_status.specs.declared.kind.Kind.{Kind}
use Rattle.vm_status.specs.declared.refusal.Refusal.{Refusal}
use Rattle.vm_status.specs.declared.refusal.Refusal.TheVariants.{Bad, HostFault, Missing, Memory}
use Rattle.vm_status.specs.declared.role.Role.TheVariants.{Assembly}

-- from one file to another
pub data AsmAnswers (host host_now : HostView) (file out : List ℕ) (ending : Ending) : Type 0 where
  -- the image that the text spells stands in OUT
  assembled : (f : FlatImage) → IsFileOf host.tells (host.file file) IsAssembly f → HoldsImage out f host host_now → ending ≡ Done
      → AsmAnswers host host_now file out ending
  -- the text spells one, and the host refused it
  unwritten : (f : FlatImage) → IsFileOf host.tells (host.file file) IsAssembly f → IsNamed out host_now → ending ≡ Refused (HostFault out)
      → AsmAnswers host host_now file out ending
  -- the text spells none: its first fault, and no file changed
  refused : (at : ℕ) (kind : Kind) → IsRefusedAt host.tells (host.file file) IsAssembly IsAssemblyFault at kind → ReadsHost host host_now
      → ending ≡ Refused (Bad Assembly file at kind) → AsmAnswers host host_now file out ending
  -- there is no such file, and none changed
  missing : WhereTold host.tells (host.file file ≡ None) → ReadsHost host host_now → ending ≡ Refused (Missing file) → AsmAnswers host host_now file out ending
  -- the host refused to read it, and none changed
  unread : IsNamed file host_now → ReadsHost host host_now → ending ≡ Refused (HostFault file) → AsmAnswers host host_now file out ending
  -- memory is out
  spent : ending ≡ Refused Memory → AsmAnswers host host_now file out ending

-- the host refused a file, or memory did
abbrev pub IsUnwritten : List ℕ → HostView → Refusal → Type 0
IsUnwritten name host refusal = (IsNamed name host × (refusal ≡ HostFault name)) ⊎ (refusal ≡ Memory)
