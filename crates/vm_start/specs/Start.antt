-- The start that words and files give, or the first refusal.
use Rattle.std.specs.Prelude.{◌++◌, ℕ, Bool, List, [], ◌∷◌, take, Option, Some, None, is_some, Result, Ok, Err, MatchBool, codes, map, if◌then◌else◌}
use Rattle.std.specs.List.{list_any}
use Rattle.std.specs.Str.{bytes_eq}
use Rattle.vm_cmd.specs.declared.command.RunWords.{RunWords}
use Rattle.vm_law.specs.Image.{magic}
use Rattle.vm_law.specs.declared.image.FlatImage.{FlatImage}
use Rattle.vm_law.specs.declared.plan.DiskPlan.{DiskPlan}
use Rattle.vm_law.specs.declared.plan.Plan.{Plan}
use Rattle.vm_law.specs.declared.script.Order.{Order}
use Rattle.vm_law.specs.declared.script.Order.TheVariants as order
use Rattle.vm_state.specs.declared.start.Origin.TheVariants.{Flat}
use Rattle.vm_state.specs.declared.start.Start.{Start}
use Rattle.vm_status.specs.declared.kind.Kind.TheVariants.{Later, Twice}
use Rattle.vm_status.specs.declared.refusal.Refusal.{Refusal}
use Rattle.vm_status.specs.declared.refusal.Refusal.TheVariants.{Bad}
use Rattle.vm_status.specs.declared.role.Role.TheVariants as role
use Rattle.vm_start.specs.declared.setup.Setup.{Setup}
use Rattle.vm_start.specs.declared.starting.Parts.{Parts}
use Rattle.vm_start.specs.Answers.{Answers, Is, ◌>>=◌}
use Rattle.vm_start.specs.Later.{later_word}
use Rattle.vm_start.specs.Files.{FileOf, PlanIn, ImageIn, ScriptIn, disk_in}

-- ---- what isn't built yet

-- nothing, or a refusal of the start at a word
abbrev pub or_later : Option (List ℕ) → Result (Unit {0}) Refusal → Result (Unit {0}) Refusal
or_later None next = next
or_later (Some word) next = Err (Bad role.Start word 0 Later)

-- the first order that isn't built is refused
abbrev pub built : List Order → Result (Unit {0}) Refusal
built [] = Ok tt
built (o ∷ os) = or_later (later_word o) (built os)

-- a run that begins from a checkpoint is refused
abbrev pub built_words : RunWords → Result (Unit {0}) Refusal
built_words words = if is_some words.restore then Err (Bad role.Start (codes "--restore") 0 Later) else Ok tt

-- ---- names

abbrev pub is_among : List (List ℕ) → List ℕ → Bool
is_among names name = list_any (λ n. bytes_eq n name) names

-- the first name that stands among those before it
abbrev pub different_from : List (List ℕ) → List (List ℕ) → Result (Unit {0}) Refusal
different_from before [] = Ok tt
different_from before (name ∷ names) = if is_among before name then Err (Bad role.Start name 0 Twice) else different_from (before ++ name ∷ []) names

abbrev pub name_in : Option (List ℕ) → List (List ℕ)
name_in None = []
name_in (Some name) = name ∷ []

abbrev pub paths_of : List DiskPlan → List (List ℕ)
paths_of disks = map (λ (d : DiskPlan). d.path) disks

-- FILE, flat.image, flat.script, the disks, and the journal
abbrev pub names_of : List ℕ → Plan → Option (List ℕ) → List (List ℕ)
names_of file plan journal = file ∷ (name_in plan.image ++ (name_in plan.script ++ (paths_of plan.disks ++ name_in journal)))

-- ---- the steps

-- one vCPU, 256 MiB of memory, no name, no disk and no script
abbrev pub default_plan : Plan
default_plan = record { cpus = 1; memory = 268435456; name = []; image = None; script = None; disks = []; notbuilt = [] }

-- the file begins as that of an image
abbrev pub has_magic : List ℕ → Bool
has_magic bytes = bytes_eq (take 8 bytes) magic

-- a plan that restores nothing names its image
abbrev pub image_name : Option (List ℕ) → List ℕ
image_name None = []
image_name (Some name) = name

abbrev pub start_from : Parts → ℕ → Start
start_from parts limit = record { plan = parts.setup.plan; origin = Flat parts.setup.image; disks = parts.disks; script = parts.script; limit = limit }

-- the bytes are an image, which the default plan takes
abbrev pub FlatSetup : List ℕ → List ℕ → Answers Setup
FlatSetup name bytes = do
  image ← ImageIn name default_plan.memory bytes
  Is (Ok (record { plan = default_plan; image = image }))

module _ (told : Bool) (file : List ℕ → Option (List ℕ)) where
  -- the plan in a configuration file
  abbrev pub PlanOf : List ℕ → Answers Plan
  PlanOf name = do
    bytes ← FileOf told file name
    PlanIn name bytes

  abbrev pub ImageOf : List ℕ → ℕ → Answers FlatImage
  ImageOf name memory = do
    bytes ← FileOf told file name
    ImageIn name memory bytes

  -- they are a configuration, whose plan names the image
  abbrev pub PlannedSetup : List ℕ → List ℕ → Answers Setup
  PlannedSetup name bytes = do
    plan ← PlanIn name bytes
    image ← ImageOf (image_name plan.image) plan.memory
    Is (Ok (record { plan = plan; image = image }))

  -- bytes that begin as an image's are an image, and others a configuration
  abbrev pub SetupIn : List ℕ → List ℕ → Answers Setup
  SetupIn name bytes answer = MatchBool (has_magic bytes) (FlatSetup name bytes answer) (PlannedSetup name bytes answer)

  abbrev pub SetupOf : List ℕ → Answers Setup
  SetupOf name = do
    bytes ← FileOf told file name
    SetupIn name bytes

  abbrev pub DiskOf : List ℕ → Answers (List ℕ)
  DiskOf name = do
    bytes ← FileOf told file name
    Is (disk_in name bytes)

  -- one disk after the other
  abbrev pub DisksOf : List DiskPlan → Answers (List (List ℕ))
  DisksOf [] = Is (Ok [])
  DisksOf (d ∷ ds) = do
    disk ← DiskOf d.path
    disks ← DisksOf ds
    Is (Ok (disk ∷ disks))

  -- where no script is named the run waits until nothing more can happen by itself
  abbrev pub ScriptOf : Plan → Option (List ℕ) → Answers (List Order)
  ScriptOf plan None = Is (Ok (order.WaitQuiet ∷ []))
  ScriptOf plan (Some name) = do
    bytes ← FileOf told file name
    ScriptIn name plan bytes

  -- all that is read for a start: FILE with its image, the disks in order, and the script
  abbrev pub PartsOf : List ℕ → Answers Parts
  PartsOf name = do
    setup ← SetupOf name
    disks ← DisksOf setup.plan.disks
    script ← ScriptOf setup.plan setup.plan.script
    Is (Ok (record { setup = setup; disks = disks; script = script }))

  -- The start of a command that is told these words, and writes its journal to the file of this name or reads it from there.
  abbrev pub StartOf : RunWords → Option (List ℕ) → Answers Start
  StartOf words journal = do
    options ← Is (built_words words)
    parts ← PartsOf words.file
    names ← Is (different_from [] (names_of words.file parts.setup.plan journal))
    orders ← Is (built parts.script)
    Is (Ok (start_from parts words.limit))

  abbrev pub IsPlanOf : List ℕ → Plan → Type 0
  IsPlanOf name plan = PlanOf name (Ok plan)

  abbrev pub IsStartOf : RunWords → Option (List ℕ) → Start → Type 0
  IsStartOf words journal start = StartOf words journal (Ok start)
