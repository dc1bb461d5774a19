-- Where a host tells its files, words and files give one start or one refusal, unless the host fails.
use Rattle.std.proofs.Common.{◌≡◌, inl, inr, ℕ, Bool, true, false, List, [], ◌∷◌, Option, Some, None, Result, Ok, Err, refl, sym, subst, ap, ◌∙◌}
use Rattle.std.specs.Prelude.{MatchBool, MatchResult, IfOk}
use Rattle.vm_cmd.specs.declared.command.RunWords.{RunWords}
use Rattle.vm_host.specs.Counts.{Rose}
use Rattle.vm_host.specs.Views.{HostView}
use Rattle.vm_image.proofs.Faults.{image_accepted}
use Rattle.vm_image.proofs.Images.{image_back}
use Rattle.vm_law.specs.Image.{IsImage}
use Rattle.vm_law.specs.declared.image.FlatImage.{FlatImage}
use Rattle.vm_law.specs.declared.plan.DiskPlan.{DiskPlan}
use Rattle.vm_law.specs.declared.plan.Plan.{Plan}
use Rattle.vm_status.specs.Lines.{status_of}
use Rattle.vm_status.specs.declared.refusal.Refusal.{Refusal}
use Rattle.vm_status.specs.declared.refusal.Refusal.TheVariants.{HostFault, Memory, Missing}
use Rattle.vm_start.specs.Answers.{Answers, Is, Then, goes_on, ends, UpToMemory}
use Rattle.vm_start.specs.Causes.{HasReadCauses, NoneRefused}
use Rattle.vm_start.specs.Files as files
use Rattle.vm_start.specs.Files.{FileOf, PlanIn, Imaged, ImageIn, ScriptIn, disk_in}
use Rattle.vm_start.proofs.Steps.{if_ok}
use Rattle.vm_start.specs.Start.{PlanOf, ImageOf, FlatSetup, PlannedSetup, SetupOf, DiskOf, DisksOf, ScriptOf, PartsOf, StartOf, has_magic, image_name}

abbrev pub IsFailure : Refusal → Type 0
IsFailure e = (name : List ℕ) × (e ≡ HostFault name)

-- one value at most, and beside it no refusal but a failure of the host
pub record IsExact {X : Type 0} (P : Answers X) : Type 0 where
  pub one : (x y : X) → P (Ok x) → P (Ok y) → x ≡ y
  pub only : (x : X) (e : Refusal) → P (Ok x) → P (Err e) → IsFailure e

is_one : {X : Type 0} (r : Result X Refusal) (x y : X) → Ok x ≡ r → Ok y ≡ r → x ≡ y
is_one r x y e f = cc

is_not_both : {X : Type 0} (r : Result X Refusal) (x : X) (e : Refusal) → Ok x ≡ r → Err e ≡ r → ⊥
is_not_both r x e p q = cc

pub is_exact : {X : Type 0} (r : Result X Refusal) → IsExact (Is r)
is_exact r = record { one = λ x y e f. is_one r x y e f; only = λ x e p q. absurd (is_not_both r x e p q) }

ok_err : {X : Type 0} (x : X) (e : Refusal) → ◌≡◌ {A = Result X Refusal} (Ok x) (Err e) → ⊥
ok_err x e p = cc

err_is : {X : Type 0} (e f : Refusal) → ◌≡◌ {A = Result X Refusal} (Err e) (Err f) → e ≡ f
err_is e f p = cc

module _ {X Y : Type 0} (First : Answers X) (next : X → Answers Y) (first : IsExact First) (then : (x : X) → IsExact (next x)) where
  one_then : (x y : Y) → Then First next (Ok x) → Then First next (Ok y) → x ≡ y
  one_then x y (goes_on a p m) (goes_on b q n) =
      let same : b ≡ a = first.one b a q p in
      (then a).one x y m (subst (λ (c : X). next c (Ok y)) same n)
  one_then x y (goes_on a p m) (ends e q bad) = absurd (ok_err y e bad)
  one_then x y (ends e p bad) h = absurd (ok_err x e bad)

  only_then : (x : Y) (e : Refusal) → Then First next (Ok x) → Then First next (Err e) → IsFailure e
  only_then x e (goes_on a p m) (goes_on b q n) =
      let same : b ≡ a = first.one b a q p in
      (then a).only x e m (subst (λ (c : X). next c (Err e)) same n)
  only_then x e (goes_on a p m) (ends f q is) = subst IsFailure (sym (err_is e f is)) (first.only a f p q)
  only_then x e (ends f p bad) h = absurd (ok_err x f bad)

  pub then_exact : IsExact (Then First next)
  then_exact = record { one = one_then; only = only_then }

-- ---- files

some_none : {X : Type 0} (o : Option X) (x : X) → o ≡ Some x → o ≡ None → ⊥
some_none o x e f = cc

module _ (file : List ℕ → Option (List ℕ)) where
  file_one : (name : List ℕ) (x y : List ℕ) → FileOf true file name (Ok x) → FileOf true file name (Ok y) → x ≡ y
  file_one name x y (files.found a p e) (files.found b q f) =
      let here : file name ≡ Some a = p refl in
      let there : file name ≡ Some b = q refl in
      cc
  file_one name x y (files.found a p e) (files.missing q f) = absurd (ok_err y (Missing name) f)
  file_one name x y (files.found a p e) (files.failed f) = absurd (ok_err y (HostFault name) f)
  file_one name x y (files.missing q f) h = absurd (ok_err x (Missing name) f)
  file_one name x y (files.failed f) h = absurd (ok_err x (HostFault name) f)

  file_only : (name : List ℕ) (x : List ℕ) (e : Refusal) → FileOf true file name (Ok x) → FileOf true file name (Err e) → IsFailure e
  file_only name x e (files.found a p is) (files.found b q bad) = absurd (ok_err b e (sym bad))
  file_only name x e (files.found a p is) (files.missing none bad) = absurd (some_none (file name) a (p refl) (none refl))
  file_only name x e (files.found a p is) (files.failed bad) = (name, err_is e (HostFault name) bad)
  file_only name x e (files.missing q f) h = absurd (ok_err x (Missing name) f)
  file_only name x e (files.failed f) h = absurd (ok_err x (HostFault name) f)

  file_exact : (name : List ℕ) → IsExact (FileOf true file name)
  file_exact name = record { one = file_one name; only = file_only name }

-- ---- grammars

plan_exact : (name bytes : List ℕ) → IsExact (PlanIn name bytes)
plan_exact name bytes = then_exact _ _ (is_exact _) (λ text. then_exact _ _ (is_exact _) (λ variables. is_exact _))

abbrev made : ℕ → ℕ → List ℕ → FlatImage
made entry code payload = record { entry = entry; code = code; payload = payload }

same_image : (f g : FlatImage) → f.entry ≡ g.entry → f.code ≡ g.code → f.payload ≡ g.payload → f ≡ g
same_image f g entry code payload =
    ap (λ (x : ℕ). made x f.code f.payload) entry
    ∙ ap (λ (x : ℕ). made g.entry x f.payload) code
    ∙ ap (λ (x : List ℕ). made g.entry g.code x) payload

one_image : (memory : ℕ) (bytes : List ℕ) (f g : FlatImage) → IsImage memory bytes f → IsImage memory bytes g → f ≡ g
one_image memory bytes f g p q =
    let first = image_back memory bytes f p in
    let second = image_back memory bytes g q in
    same_image f g (sym first.entry ∙ second.entry) (sym first.code ∙ second.code) (sym first.payload ∙ second.payload)

imaged_exact : (name : List ℕ) (memory : ℕ) (bytes : List ℕ) → IsExact (Imaged name memory bytes)
imaged_exact name memory bytes = record {
  one = λ f g p q. one_image memory bytes f g p q;
  only = λ f e p q. absurd (some_none _ _ q.1.1 (image_accepted memory bytes f p));
}

image_exact : (name : List ℕ) (memory : ℕ) (bytes : List ℕ) → IsExact (ImageIn name memory bytes)
image_exact name memory bytes = then_exact _ _ (is_exact _) (λ image. imaged_exact name memory image)

script_exact : (name : List ℕ) (plan : Plan) (bytes : List ℕ) → IsExact (ScriptIn name plan bytes)
script_exact name plan bytes = then_exact _ _ (is_exact _) (λ text. is_exact _)

either_exact : {X : Type 0} (b : Bool) (P Q : Answers X) → IsExact P → IsExact Q → IsExact (λ answer. MatchBool b (P answer) (Q answer))
either_exact true P Q p q = p
either_exact false P Q p q = q

-- ---- the steps

module _ (file : List ℕ → Option (List ℕ)) where
  pub plan_of_exact : (name : List ℕ) → IsExact (PlanOf true file name)
  plan_of_exact name = then_exact _ _ (file_exact file name) (λ bytes. plan_exact name bytes)

  image_of_exact : (name : List ℕ) (memory : ℕ) → IsExact (ImageOf true file name memory)
  image_of_exact name memory = then_exact _ _ (file_exact file name) (λ bytes. image_exact name memory bytes)

  flat_exact : (name bytes : List ℕ) → IsExact (FlatSetup name bytes)
  flat_exact name bytes = then_exact _ _ (image_exact name _ bytes) (λ image. is_exact _)

  planned_exact : (name bytes : List ℕ) → IsExact (PlannedSetup true file name bytes)
  planned_exact name bytes = then_exact _ _ (plan_exact name bytes) (λ plan. then_exact _ _ (image_of_exact (image_name plan.image) plan.memory) (λ image. is_exact _))

  setup_exact : (name : List ℕ) → IsExact (SetupOf true file name)
  setup_exact name = then_exact _ _ (file_exact file name)
      (λ bytes. either_exact (has_magic bytes) (FlatSetup name bytes) (PlannedSetup true file name bytes) (flat_exact name bytes) (planned_exact name bytes))

  disk_exact : (name : List ℕ) → IsExact (DiskOf true file name)
  disk_exact name = then_exact _ _ (file_exact file name) (λ bytes. is_exact _)

  disks_exact : (plans : List DiskPlan) → IsExact (DisksOf true file plans)
  disks_exact [] = is_exact _
  disks_exact (d ∷ ds) = then_exact _ _ (disk_exact d.path) (λ disk. then_exact _ _ (disks_exact ds) (λ disks. is_exact _))

  script_of_exact : (plan : Plan) (name : Option (List ℕ)) → IsExact (ScriptOf true file plan name)
  script_of_exact plan None = is_exact _
  script_of_exact plan (Some name) = then_exact _ _ (file_exact file name) (λ bytes. script_exact name plan bytes)

  parts_exact : (name : List ℕ) → IsExact (PartsOf true file name)
  parts_exact name = then_exact _ _ (setup_exact name) (λ setup. then_exact _ _ (disks_exact setup.plan.disks) (λ disks.
      then_exact _ _ (script_of_exact setup.plan setup.plan.script) (λ script. is_exact _)))

  pub start_exact : (words : RunWords) (journal : Option (List ℕ)) → IsExact (StartOf true file words journal)
  start_exact words journal = then_exact _ _ (is_exact _) (λ options. then_exact _ _ (parts_exact words.file) (λ parts.
      then_exact _ _ (is_exact _) (λ names. then_exact _ _ (is_exact _) (λ orders. is_exact _))))

-- ---- what came of it

failure_rose : {X : Type 0} (e : Refusal) (old new : HostView) → HasReadCauses {X = X} (Err e) old new → IsFailure e → Rose old.faults new.faults
failure_rose e old new causes failure = causes.failed (ap status_of failure.1)

module _ {X : Type 0} (P : Answers X) (exact : IsExact P) where
  -- where no count rose, what can be given is given
  pub completes : (x : X) (r : Result X Refusal) (old new : HostView) → UpToMemory P r → HasReadCauses r old new → P (Ok x) → NoneRefused old new
      → MatchResult r (λ y. y ≡ x) (λ e. e ≡ Memory)
  completes x (Ok y) old new h causes p calm = exact.one y x h p
  completes x (Err e) old new (inl m) causes p calm = m
  completes x (Err e) old new (inr h) causes p calm = absurd (calm.not_failed (failure_rose e old new causes (exact.only x e p h)))

  -- a value is given only where no refusal but a failure is due
  pub refuses : (e : Refusal) (r : Result X Refusal) → UpToMemory P r → P (Err e) → IfOk r (λ x. IsFailure e)
  refuses e r h p = if_ok P (λ x. IsFailure e) r h (λ x q. exact.only x e q p)
