-- Files as a command reads them, each in its grammar. `told`: the host tells its files; `file`: what the file of a name reads as.
use Rattle.std.specs.Prelude.{◌≡◌, ◌==◌, ◌&&◌, ◌+◌, ◌%◌, nat_lt, nat_le, ℕ, Bool, false, List, length, Option, Some, None, Result, Ok, Err, if◌then◌else◌}
use Rattle.cfg_text.specs.Values as cfg_text
use Rattle.cfg_text.specs.declared.error.CfgKind.{CfgKind}
use Rattle.cfg_vm.specs.Outcome.{Fault as PlanFault}
use Rattle.cfg_vm.specs.Table.{Variables, plan_of}
use Rattle.ctl_script.specs.Script as ctl_script
use Rattle.ctl_script.specs.declared.fault.ScriptKind.{ScriptKind}
use Rattle.text_reader.specs.Line.{Fault}
use Rattle.vm_host.specs.Told.{WhereTold}
use Rattle.vm_image.specs.Fault.{first_fault}
use Rattle.vm_image.specs.declared.error.ImageKind.{ImageKind}
use Rattle.vm_law.specs.Image.{IsImage}
use Rattle.vm_law.specs.declared.image.FlatImage.{FlatImage}
use Rattle.vm_law.specs.declared.plan.Plan.{Plan}
use Rattle.vm_law.specs.declared.script.Order.{Order}
use Rattle.vm_status.specs.declared.kind.Kind.TheVariants.{Length, Long}
use Rattle.vm_status.specs.declared.refusal.Refusal.{Refusal}
use Rattle.vm_status.specs.declared.refusal.Refusal.TheVariants.{Bad, BadPlan, HostFault, Missing}
use Rattle.vm_status.specs.declared.role.Role.{Role}
use Rattle.vm_status.specs.declared.role.Role.TheVariants.{Configuration, Image, Disk, Script}
use Rattle.vm_start.specs.Answers.{Answers, Is, ◌>>=◌}
use Rattle.vm_start.specs.Kinds.{cfg_kind, plan_kind, image_kind, script_kind}

-- a configuration and a script have at most 1 MiB
abbrev pub text_limit : ℕ
text_limit = 1048576

-- an image has a header of 24 bytes, and as many bytes more as there are of memory
abbrev pub image_limit : ℕ → ℕ
image_limit memory = memory + 24

-- ---- what the bytes of a file of this name say, or their first fault

-- a file that is longer than its limit is refused there
abbrev pub within : Role → List ℕ → ℕ → List ℕ → Result (List ℕ) Refusal
within role name most bytes = if nat_lt most (length bytes) then Err (Bad role name most Long) else Ok bytes

abbrev pub configured : List ℕ → Result Variables (Fault CfgKind) → Result Variables Refusal
configured name (Ok variables) = Ok variables
configured name (Err fault) = Err (Bad Configuration name fault.line (cfg_kind fault.kind))

abbrev pub planned : List ℕ → Result Plan PlanFault → Result Plan Refusal
planned name (Ok plan) = Ok plan
planned name (Err fault) = Err (BadPlan name fault.variable (plan_kind fault.kind))

-- a configuration's text, and then the plan that its variables give
abbrev pub PlanIn : List ℕ → List ℕ → Answers Plan
PlanIn name bytes = do
  text ← Is (within Configuration name text_limit bytes)
  variables ← Is (configured name (cfg_text.read text))
  Is (planned name (plan_of variables false))

-- an image that the memory allows
abbrev pub Imaged : List ℕ → ℕ → List ℕ → Answers FlatImage
Imaged name memory bytes (Ok image) = IsImage memory bytes image
Imaged name memory bytes (Err refusal) = (at : ℕ) × ((kind : ImageKind) × (first_fault memory bytes ≡ Some (at, kind)) × (refusal ≡ Bad Image name at (image_kind kind)))

abbrev pub ImageIn : List ℕ → ℕ → List ℕ → Answers FlatImage
ImageIn name memory bytes = do
  image ← Is (within Image name (image_limit memory) bytes)
  Imaged name memory image

-- whole sectors of 512 bytes, from one of them to 64 MiB
abbrev pub is_disk_size : ℕ → Bool
is_disk_size size = size % 512 == 0 && nat_le 512 size && nat_le size 67108864

abbrev pub disk_in : List ℕ → List ℕ → Result (List ℕ) Refusal
disk_in name bytes = if is_disk_size (length bytes) then Ok bytes else Err (Bad Disk name (length bytes) Length)

abbrev pub scripted : List ℕ → Result (List Order) (Fault ScriptKind) → Result (List Order) Refusal
scripted name (Ok script) = Ok script
scripted name (Err fault) = Err (Bad Script name fault.line (script_kind fault.kind))

-- a script for the plan
abbrev pub ScriptIn : List ℕ → Plan → List ℕ → Answers (List Order)
ScriptIn name plan bytes = do
  text ← Is (within Script name text_limit bytes)
  Is (scripted name (ctl_script.script_of plan text))

-- ---- the bytes of a file

-- all of them; there is no such file; or the host failed at it
pub data FileOf (told : Bool) (file : List ℕ → Option (List ℕ)) (name : List ℕ) (answer : Result (List ℕ) Refusal) : Type 0 where
  found : (bytes : List ℕ) → WhereTold told (file name ≡ Some bytes) → answer ≡ Ok bytes → FileOf told file name answer
  missing : WhereTold told (file name ≡ None) → answer ≡ Err (Missing name) → FileOf told file name answer
  failed : answer ≡ Err (HostFault name) → FileOf told file name answer
