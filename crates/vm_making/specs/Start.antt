-- The start of a workload.
use Rattle.std.specs.Prelude.{◌≡◌, ℕ, [], ◌∷◌, Ok}
use Rattle.asm_insn.specs.Spelling.{Speller, IsSpeller}
use Rattle.vm_asm.specs.Assembly.{assembled}
use Rattle.vm_asm.specs.Workload.{workload_text}
use Rattle.vm_law.specs.declared.image.FlatImage.{FlatImage}
use Rattle.vm_law.specs.declared.plan.Plan.{Plan}
use Rattle.vm_law.specs.declared.script.Order.TheVariants.{WaitQuiet}
use Rattle.vm_making.specs.Counts.{counts}
use Rattle.vm_start.specs.Start.{default_plan}
use Rattle.vm_state.specs.declared.start.Origin.TheVariants.{Flat}
use Rattle.vm_state.specs.declared.start.Start.{Start}

-- the default plan with so many vCPUs: 256 MiB of memory, no disk and no script
abbrev pub plan_of : ℕ → Plan
plan_of cpus = record default_plan { cpus = cpus }

-- a run from this image waits until nothing more can happen by itself, and has 10,000,000 instructions
abbrev pub start_from : ℕ → FlatImage → Start
start_from cpus image = record { plan = plan_of cpus; origin = Flat image; disks = []; script = WaitQuiet ∷ []; limit = 10000000 }

-- the start of the guest whose text has the counts of the number, each instruction in its canonical spelling
pub record IsStartOf (cpus number : ℕ) (start : Start) : Type 0 where
  pub spell : Speller
  pub canonical : IsSpeller spell
  pub image : FlatImage
  pub spelled : assembled spell (workload_text (counts cpus number)) ≡ Ok image
  pub is : start ≡ start_from cpus image
