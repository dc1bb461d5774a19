-- A start that words and files give: a run can begin from it, and its disks are apart.
use Rattle.std.proofs.Common.{◌≡◌, ℕ, ◌≤◌, Bool, true, false, List, [], ◌∷◌, Option, Some, None, Result, Ok, Err, refl, sym, subst, ap, lit≤}
use Rattle.std.specs.Prelude.{MatchBool}
use Rattle.std.proofs.lemmas.List.Elements.{All-nil}
use Rattle.ctl_script.specs.Script.{script_of}
use Rattle.cfg_vm.specs.Outcome.{Fault as PlanFault}
use Rattle.cfg_vm.specs.Table.{plan_of}
use Rattle.text_reader.specs.Line.{Fault}
use Rattle.ctl_script.specs.declared.fault.ScriptKind.{ScriptKind}
use Rattle.vm_cmd.specs.declared.command.RunWords.{RunWords}
use Rattle.vm_law.specs.Image.{IsAllowed}
use Rattle.vm_law.specs.declared.plan.Plan.{Plan}
use Rattle.vm_law.specs.declared.script.Order.{Order}
use Rattle.vm_law.specs.declared.script.Order.TheVariants as order
use Rattle.vm_state.specs.Script.{is_allowed, may_stand, may_follow}
use Rattle.vm_state.specs.Start.{IsSound, IsPlan, IsPlanned}
use Rattle.vm_state.specs.declared.start.Start.{Start}
use Rattle.vm_status.specs.declared.kind.Kind.TheVariants.{Later}
use Rattle.vm_status.specs.declared.refusal.Refusal.{Refusal}
use Rattle.vm_status.specs.declared.refusal.Refusal.TheVariants.{Bad, BadPlan}
use Rattle.vm_status.specs.declared.role.Role.TheVariants as role
use Rattle.vm_start.specs.Answers.{Is}
use Rattle.vm_start.specs.Files.{FileOf, PlanIn, ImageIn, ScriptIn, Imaged, planned, scripted, text_limit, within}
use Rattle.vm_start.specs.Images.{AreApart, AreFilesOf, IsDiskOf}
use Rattle.vm_start.specs.Kinds.{script_kind, plan_kind}
use Rattle.vm_start.specs.Later.{later_word}
use Rattle.vm_start.specs.Start.{SetupOf, SetupIn, FlatSetup, PlannedSetup, DisksOf, ScriptOf, PartsOf, StartOf, built, built_words, or_later, different_from, names_of, start_from, default_plan, has_magic, image_name, ImageOf}
use Rattle.vm_start.specs.declared.setup.Setup.{Setup}
use Rattle.vm_start.specs.declared.starting.Parts.{Parts}
use Rattle.vm_start.proofs.Read.{disks_read}
use Rattle.vm_start.proofs.Apart.{apart, journal_apart}
use Rattle.vm_start.proofs.Plans.{IsReady, plan_ready}
use Rattle.vm_start.proofs.Scripts.{AllBuilt, allowed}
use Rattle.vm_start.proofs.Steps.{ok_then}

-- ---- the plan and its image

planned_is : (name : List ℕ) (r : Result Plan PlanFault) (plan : Plan) → Ok plan ≡ planned name r → r ≡ Ok plan
planned_is name (Ok p) plan e = let same : p ≡ plan = cc in ap (λ (q : Plan). Ok q) same
planned_is name (Err f) plan e = absurd (let bad : ◌≡◌ {A = Result Plan Refusal} (Ok plan) (Err (BadPlan name f.variable (plan_kind f.kind))) = e in cc)

pub plan_in_ready : (name bytes : List ℕ) (plan : Plan) → PlanIn name bytes (Ok plan) → IsReady plan
plan_in_ready name bytes plan h =
    let text = ok_then (Is (within _ name text_limit bytes)) _ plan h in
    let variables = ok_then _ (λ vs. Is (planned name (plan_of vs false))) plan text.2 in
    plan_ready variables.0 plan (planned_is name (plan_of variables.0 false) plan variables.2)

record IsSetUp (setup : Setup) : Type 0 where
  plan : IsPlan setup.plan
  image : IsAllowed setup.plan.memory setup.image

default_sound : IsPlan default_plan
default_sound = record {
  some_cpu = lit≤ tt;
  cpus = lit≤ tt;
  memory = record { least = lit≤ tt; most = lit≤ tt; whole = refl };
  disks = lit≤ tt;
  each_disk = All-nil IsPlanned;
}

image_allowed : (name : List ℕ) (memory : ℕ) (bytes : List ℕ) (image : _) → ImageIn name memory bytes (Ok image) → IsAllowed memory image
image_allowed name memory bytes image h = let text = ok_then _ (λ b. Imaged name memory b) image h in text.2.allowed

module _ (told : Bool) (file : List ℕ → Option (List ℕ)) where
  flat_set_up : (name bytes : List ℕ) (setup : Setup) → FlatSetup name bytes (Ok setup) → IsSetUp setup
  flat_set_up name bytes setup h =
      let image = ok_then (ImageIn name default_plan.memory bytes) _ setup h in
      let made : ◌≡◌ {A = Result Setup Refusal} (Ok setup) (Ok (record { plan = default_plan; image = image.0 })) = image.2 in
      let same : ◌≡◌ {A = Setup} (record { plan = default_plan; image = image.0 }) setup = cc in
      subst IsSetUp same (record { plan = default_sound; image = image_allowed name _ bytes image.0 image.1 })

  planned_set_up : (name bytes : List ℕ) (setup : Setup) → PlannedSetup told file name bytes (Ok setup) → IsSetUp setup
  planned_set_up name bytes setup h =
      let plan = ok_then (PlanIn name bytes) _ setup h in
      let image = ok_then (ImageOf told file (image_name plan.0.image) plan.0.memory) _ setup plan.2 in
      let read = ok_then (FileOf told file (image_name plan.0.image)) (λ b. ImageIn (image_name plan.0.image) plan.0.memory b) image.0 image.1 in
      let made : ◌≡◌ {A = Result Setup Refusal} (Ok setup) (Ok (record { plan = plan.0; image = image.0 })) = image.2 in
      let same : ◌≡◌ {A = Setup} (record { plan = plan.0; image = image.0 }) setup = cc in
      subst IsSetUp same (record { plan = (plan_in_ready name bytes plan.0 plan.1).sound; image = image_allowed _ plan.0.memory read.0 image.0 read.2 })

  setup_either : (name bytes : List ℕ) (setup : Setup) (b : Bool) → MatchBool b (FlatSetup name bytes (Ok setup)) (PlannedSetup told file name bytes (Ok setup)) → IsSetUp setup
  setup_either name bytes setup true h = flat_set_up name bytes setup h
  setup_either name bytes setup false h = planned_set_up name bytes setup h

  set_up : (name : List ℕ) (setup : Setup) → SetupOf told file name (Ok setup) → IsSetUp setup
  set_up name setup h =
      let bytes = ok_then (FileOf told file name) (SetupIn told file name) setup h in
      setup_either name bytes.0 setup (has_magic bytes.0) bytes.2

-- ---- the script

built_one : (o : Order) (word : Option (List ℕ)) (rest : Result (Unit {0}) Refusal) → or_later word rest ≡ Ok tt → (word ≡ None) × (rest ≡ Ok tt)
built_one o None rest e = (refl, e)
built_one o (Some word) rest e = absurd (let bad : ◌≡◌ {A = Result (Unit {0}) Refusal} (Err (Bad role.Start word 0 Later)) (Ok tt) = e in cc)

all_built : (script : List Order) → built script ≡ Ok tt → AllBuilt script
all_built [] e = tt
all_built (o ∷ os) e = let t = built_one o (later_word o) (built os) e in (t.0, all_built os t.1)

scripted_is : (name : List ℕ) (r : Result (List Order) (Fault ScriptKind)) (script : List Order) → Ok script ≡ scripted name r → r ≡ Ok script
scripted_is name (Ok s) script e = let same : s ≡ script = cc in ap (λ (q : List Order). Ok q) same
scripted_is name (Err f) script e = absurd (let bad : ◌≡◌ {A = Result (List Order) Refusal} (Ok script) (Err (Bad role.Script name f.line (script_kind f.kind))) = e in cc)

wait_allowed : (plan : Plan) → is_allowed plan (order.WaitQuiet ∷ []) ≡ true
unfolding may_follow may_stand
wait_allowed plan = refl

module _ (told : Bool) (file : List ℕ → Option (List ℕ)) where
  script_allowed : (plan : Plan) (name : Option (List ℕ)) (script : List Order) → ScriptOf told file plan name (Ok script) → built script ≡ Ok tt → is_allowed plan script ≡ true
  script_allowed plan None script h e =
      let made : ◌≡◌ {A = Result (List Order) Refusal} (Ok script) (Ok (order.WaitQuiet ∷ [])) = h in
      let same : order.WaitQuiet ∷ [] ≡ script = cc in
      subst (λ (s : List Order). is_allowed plan s ≡ true) same (wait_allowed plan)
  script_allowed plan (Some name) script h e =
      let bytes = ok_then (FileOf told file name) (ScriptIn name plan) script h in
      let text = ok_then _ (λ t. Is (scripted name (script_of plan t))) script bytes.2 in
      allowed plan text.0 script (scripted_is name (script_of plan text.0) script text.2) (all_built script e)

  -- ---- the whole

  pub record IsGood (words : RunWords) (journal : Option (List ℕ)) (start : Start) : Type 0 where
    pub sound : 1 ≤ words.limit → words.limit ≤ 20000000 → IsSound start
    pub apart : AreApart start.plan
    pub journal_apart : (name : List ℕ) → journal ≡ Some name → IsDiskOf start.plan name → ⊥
    pub disks : told ≡ true → AreFilesOf file start

  module _ (words : RunWords) (journal : Option (List ℕ)) where
    good_parts : (parts : Parts) → PartsOf told file words.file (Ok parts) → different_from [] (names_of words.file parts.setup.plan journal) ≡ Ok tt → built parts.script ≡ Ok tt
        → IsGood words journal (start_from parts words.limit)
    good_parts parts h different is_built =
        let setup = ok_then (SetupOf told file words.file) _ parts h in
        let disks = ok_then (DisksOf told file setup.0.plan.disks) _ parts setup.2 in
        let script = ok_then (ScriptOf told file setup.0.plan setup.0.plan.script) _ parts disks.2 in
        let made : ◌≡◌ {A = Result Parts Refusal} (Ok parts) (Ok (record { setup = setup.0; disks = disks.0; script = script.0 })) = script.2 in
        let is_setup : setup.0 ≡ parts.setup = cc in
        let is_disks : disks.0 ≡ parts.disks = cc in
        let is_script : script.0 ≡ parts.script = cc in
        let up = subst IsSetUp is_setup (set_up told file words.file setup.0 setup.1) in
        let read_disks = subst (λ (s : Setup). DisksOf told file s.plan.disks (Ok parts.disks)) is_setup (subst (λ (l : List (List ℕ)). DisksOf told file setup.0.plan.disks (Ok l)) is_disks disks.1) in
        let has = disks_read told file parts.setup.plan.disks parts.disks read_disks in
        let read_script = subst (λ (s : Setup). ScriptOf told file s.plan s.plan.script (Ok parts.script)) is_setup
        (subst (λ (l : List Order). ScriptOf told file setup.0.plan setup.0.plan.script (Ok l)) is_script script.1) in
        record {
          sound = λ low most. record {
            plan = up.plan;
            disks = has.count;
            each_disk = has.each;
            origin = up.image;
            script = script_allowed parts.setup.plan parts.setup.plan.script parts.script read_script is_built;
            some_limit = low;
            limit = most;
          };
          apart = apart words.file parts.setup.plan journal different;
          journal_apart = journal_apart words.file parts.setup.plan journal different;
          disks = has.file_each;
        }

    unit_is : (r : Result (Unit {0}) Refusal) (u : Unit {0}) → Ok u ≡ r → r ≡ Ok tt
    unit_is r u e = sym e

    pub start_good : (start : Start) → StartOf told file words journal (Ok start) → IsGood words journal start
    start_good start h =
        let options = ok_then (Is (built_words words)) _ start h in
        let parts = ok_then (PartsOf told file words.file) _ start options.2 in
        let names = ok_then (Is (different_from [] (names_of words.file parts.0.setup.plan journal))) _ start parts.2 in
        let orders = ok_then (Is (built parts.0.script)) _ start names.2 in
        let made : ◌≡◌ {A = Result Start Refusal} (Ok start) (Ok (start_from parts.0 words.limit)) = orders.2 in
        let same : start_from parts.0 words.limit ≡ start = cc in
        subst (λ (s : Start). IsGood words journal s) same (good_parts parts.0 parts.1 (unit_is _ names.0 names.1) (unit_is _ orders.0 orders.1))
