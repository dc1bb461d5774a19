-- The refusals of a start and of a plan are those of files and names.
use Rattle.std.specs.Prelude.{MatchBool, codes, is_some, nat_lt, if◌then◌else◌}
use Rattle.std.proofs.Common.{◌≡◌, ℕ, zero, suc, Bool, true, false, List, [], ◌∷◌, length, Option, Some, None, Result, Ok, Err, Contains, refl, sym, subst, ap, arith, ◌++◌}
use Rattle.cfg_text.specs.Values as cfg_text
use Rattle.cfg_text.specs.declared.error.CfgKind.{CfgKind}
use Rattle.cfg_vm.specs.Outcome.{Fault as PlanFault}
use Rattle.cfg_vm.specs.Table.{Variables, plan_of}
use Rattle.ctl_script.specs.Script as ctl_script
use Rattle.ctl_script.specs.declared.fault.ScriptKind.{ScriptKind}
use Rattle.text_reader.specs.Line.{Fault}
use Rattle.vm_cmd.specs.declared.command.RunWords.{RunWords}
use Rattle.vm_law.specs.declared.plan.DiskPlan.{DiskPlan}
use Rattle.vm_law.specs.declared.plan.Plan.{Plan}
use Rattle.vm_law.specs.declared.script.Order.{Order}
use Rattle.vm_start.specs.Answers.{Answers, Is, Then, goes_on, ends, ◌>>=◌}
use Rattle.vm_start.specs.Files as files
use Rattle.vm_start.specs.Files.{FileOf, found, missing, failed, PlanIn, ImageIn, Imaged, ScriptIn, configured, disk_in, is_disk_size, planned, scripted, within}
use Rattle.vm_start.specs.Later.{later_word}
use Rattle.vm_start.specs.Start.{DiskOf, DisksOf, FlatSetup, ImageOf, PartsOf, PlanOf, PlannedSetup, ScriptOf, SetupIn, SetupOf, StartOf, built, built_words, different_from, has_magic, is_among, names_of, or_later}
use Rattle.vm_status.specs.Lines.{status_of}
use Rattle.vm_status.specs.declared.kind.Kind.{Kind}
use Rattle.vm_status.specs.declared.kind.Kind.TheVariants.{Later, Length, Long, Twice}
use Rattle.vm_status.specs.declared.refusal.Refusal.{Refusal}
use Rattle.vm_status.specs.declared.refusal.Refusal.TheVariants.{Bad, BadPlan, HostFault, Missing}
use Rattle.vm_status.specs.declared.role.Role.{Role}
use Rattle.vm_status.specs.declared.role.Role.TheVariants as roles

-- a file isn't what it is read as, the host failed at it, or there is none
abbrev pub OfFiles : Refusal → Type 0
OfFiles r = Contains (3 ∷ 6 ∷ 7 ∷ []) (status_of r)

bad : (role : Role) (name : List ℕ) (place : ℕ) (kind : Kind) (r : Refusal) → r ≡ Bad role name place kind → OfFiles r
bad role name place kind r e = subst OfFiles (sym e) (0, omega arith, refl)

-- each step's refusals are such
abbrev pub AllOf : {X : Type 0} → Answers X → Type 0
AllOf First = (r : Refusal) → First (Err r) → OfFiles r

module _ {X : Type 0} where
  inner : (r q : Refusal) → ◌≡◌ {A = Result X Refusal} (Err r) (Err q) → r ≡ q
  inner r q e = cc

  is_ok_of : (x : X) → AllOf (Is {X = X} (Ok x))
  is_ok_of x r e = absurd (let bad : ◌≡◌ {A = Result X Refusal} (Err r) (Ok x) = e in cc)

  is_err_of : (q : Refusal) → OfFiles q → AllOf (Is {X = X} (Err q))
  is_err_of q h r e = subst OfFiles (sym (inner r q e)) h

then_of : {X Y : Type 0} (First : Answers X) (next : X → Answers Y) → AllOf First → ((x : X) → AllOf (next x)) → AllOf (First >>= next)
then_of First next f n r (goes_on x h k) = n x r k
then_of {Y = Y} First next f n r (ends q h e) = subst OfFiles (sym (inner {X = Y} r q e)) (f q h)

file_of : (told : Bool) (file : List ℕ → Option (List ℕ)) (name : List ℕ) → AllOf (FileOf told file name)
file_of told file name r (found bytes is e) = absurd (let bad : ◌≡◌ {A = Result (List ℕ) Refusal} (Err r) (Ok bytes) = e in cc)
file_of told file name r (missing gone e) = subst OfFiles (sym (inner {X = List ℕ} r _ e)) (2, omega arith, refl)
file_of told file name r (failed e) = subst OfFiles (sym (inner {X = List ℕ} r _ e)) (1, omega arith, refl)

within_of : (role : Role) (name : List ℕ) (most : ℕ) (bytes : List ℕ) → AllOf (Is (within role name most bytes))
within_of role name most bytes = go (nat_lt most (length bytes)) where
  go : (b : Bool) → AllOf (Is {X = List ℕ} (if b then Err (Bad role name most Long) else Ok bytes))
  go true = is_err_of _ (0, omega arith, refl)
  go false = is_ok_of bytes

configured_of : (name : List ℕ) (v : Result Variables (Fault CfgKind)) → AllOf (Is (configured name v))
configured_of name (Ok x) = is_ok_of x
configured_of name (Err x) = is_err_of _ (0, omega arith, refl)

planned_of : (name : List ℕ) (v : Result Plan PlanFault) → AllOf (Is (planned name v))
planned_of name (Ok x) = is_ok_of x
planned_of name (Err x) = is_err_of _ (0, omega arith, refl)

scripted_of : (name : List ℕ) (v : Result (List Order) (Fault ScriptKind)) → AllOf (Is (scripted name v))
scripted_of name (Ok x) = is_ok_of x
scripted_of name (Err x) = is_err_of _ (0, omega arith, refl)

plan_in_of : (name bytes : List ℕ) → AllOf (PlanIn name bytes)
plan_in_of name bytes =
    then_of _ _ (within_of _ name _ bytes) (λ text. then_of _ _ (configured_of name (cfg_text.read text)) (λ variables. planned_of name (plan_of variables false)))

imaged_of : (name : List ℕ) (memory : ℕ) (bytes : List ℕ) → AllOf (Imaged name memory bytes)
imaged_of name memory bytes r (at, k) = bad _ name at _ r k.2

image_in_of : (name : List ℕ) (memory : ℕ) (bytes : List ℕ) → AllOf (ImageIn name memory bytes)
image_in_of name memory bytes = then_of _ _ (within_of _ name _ bytes) (λ image. imaged_of name memory image)

disk_in_of : (name bytes : List ℕ) → AllOf (Is (disk_in name bytes))
disk_in_of name bytes = go (is_disk_size (length bytes)) where
  go : (b : Bool) → AllOf (Is {X = List ℕ} (if b then Ok bytes else Err (Bad roles.Disk name (length bytes) Length)))
  go true = is_ok_of bytes
  go false = is_err_of _ (0, omega arith, refl)

script_in_of : (name : List ℕ) (plan : Plan) (bytes : List ℕ) → AllOf (ScriptIn name plan bytes)
script_in_of name plan bytes = then_of _ _ (within_of _ name _ bytes) (λ text. scripted_of name (ctl_script.script_of plan text))

or_later_of : (o : Option (List ℕ)) (next : Result (Unit {0}) Refusal) → AllOf (Is next) → AllOf (Is (or_later o next))
or_later_of None next h = h
or_later_of (Some word) next h = is_err_of _ (0, omega arith, refl)

built_of : (os : List Order) → AllOf (Is (built os))
built_of [] = is_ok_of tt
built_of (o ∷ os) = or_later_of (later_word o) (built os) (built_of os)

different_of : (before names : List (List ℕ)) → AllOf (Is (different_from before names))
different_of before [] = is_ok_of tt
different_of before (name ∷ names) = go (is_among before name) (different_of (before ++ name ∷ []) names) where
  go : (b : Bool) → AllOf (Is (different_from (before ++ name ∷ []) names))
      → AllOf (Is {X = Unit {0}} (if b then Err (Bad roles.Start name 0 Twice) else different_from (before ++ name ∷ []) names))
  go true rest = is_err_of _ (0, omega arith, refl)
  go false rest = rest

words_of : (w : RunWords) → AllOf (Is (built_words w))
words_of w = go w.restore where
  go : (o : Option (List ℕ)) → AllOf (Is {X = Unit {0}} (if is_some o then Err (Bad roles.Start (codes "--restore") 0 Later) else Ok tt))
  go None = is_ok_of tt
  go (Some name) = is_err_of _ (0, omega arith, refl)

module _ (told : Bool) (file : List ℕ → Option (List ℕ)) where
  pub plan_of_files : (name : List ℕ) → AllOf (PlanOf told file name)
  plan_of_files name = then_of _ _ (file_of told file name) (λ bytes. plan_in_of name bytes)

  flat_of : (name bytes : List ℕ) → AllOf (FlatSetup name bytes)
  flat_of name bytes = then_of _ _ (image_in_of name _ bytes) (λ image. is_ok_of _)

  image_of : (name : List ℕ) (memory : ℕ) → AllOf (ImageOf told file name memory)
  image_of name memory = then_of _ _ (file_of told file name) (λ bytes. image_in_of name memory bytes)

  planned_setup_of : (name bytes : List ℕ) → AllOf (PlannedSetup told file name bytes)
  planned_setup_of name bytes = then_of _ _ (plan_in_of name bytes) (λ plan. then_of _ _ (image_of _ plan.memory) (λ image. is_ok_of _))

  setup_in_of : (name bytes : List ℕ) → AllOf (SetupIn told file name bytes)
  setup_in_of name bytes = go (has_magic bytes) where
    go : (b : Bool) → AllOf (λ answer. MatchBool b (FlatSetup name bytes answer) (PlannedSetup told file name bytes answer))
    go true = flat_of name bytes
    go false = planned_setup_of name bytes

  setup_of : (name : List ℕ) → AllOf (SetupOf told file name)
  setup_of name = then_of _ _ (file_of told file name) (λ bytes. setup_in_of name bytes)

  disks_of : (ds : List DiskPlan) → AllOf (DisksOf told file ds)
  disks_of [] = is_ok_of []
  disks_of (d ∷ ds) = then_of _ _ (then_of _ _ (file_of told file d.path) (λ bytes. disk_in_of d.path bytes)) (λ disk. then_of _ _ (disks_of ds) (λ disks. is_ok_of _))

  script_of_files : (plan : Plan) (o : Option (List ℕ)) → AllOf (ScriptOf told file plan o)
  script_of_files plan None = is_ok_of _
  script_of_files plan (Some name) = then_of _ _ (file_of told file name) (λ bytes. script_in_of name plan bytes)

  parts_of : (name : List ℕ) → AllOf (PartsOf told file name)
  parts_of name =
      then_of _ _ (setup_of name)
      (λ setup. then_of _ _ (disks_of setup.plan.disks)
      (λ disks. then_of _ _ (script_of_files setup.plan setup.plan.script)
      (λ script. is_ok_of _)))

  pub start_of_files : (w : RunWords) (journal : Option (List ℕ)) → AllOf (StartOf told file w journal)
  start_of_files w journal =
      then_of _ _ (words_of w)
      (λ options. then_of _ _ (parts_of w.file)
      (λ parts. then_of _ _ (different_of [] (names_of w.file parts.setup.plan journal))
      (λ names. then_of _ _ (built_of parts.script)
      (λ orders. is_ok_of _))))

-- a refusal of files isn't the console's
pub of_files_no_console : (r : Refusal) → OfFiles r → status_of r ≡ 9 → ⊥
of_files_no_console r (zero, l, e) nine = omega (arith, e, nine)
of_files_no_console r (suc zero, l, e) nine = omega (arith, e, nine)
of_files_no_console r (suc (suc zero), l, e) nine = omega (arith, e, nine)
of_files_no_console r (suc (suc (suc k)), l, e) nine = omega (arith, l)
