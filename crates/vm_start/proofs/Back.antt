-- What holds of a host's files after a call that only reads holds of those before it.
use Rattle.std.proofs.Common.{◌≡◌, ◌<◌, length, inl, inr, Bool, true, false, ℕ, List, [], ◌∷◌, Option, Some, None, Result, Ok, Err, sym, ap, ◌∙◌, subst, IsSomeAnd}
use Rattle.std.specs.Prelude.{MatchBool}
use Rattle.vm_host.specs.Leaves.{ReadsHost}
use Rattle.vm_host.specs.Told.{WhereTold}
use Rattle.vm_host.specs.Views.{HostView}
use Rattle.vm_law.specs.declared.plan.DiskPlan.{DiskPlan}
use Rattle.vm_law.specs.declared.plan.Plan.{Plan}
use Rattle.vm_law.specs.declared.script.Order.{Order}
use Rattle.vm_law.specs.declared.image.FlatImage.{FlatImage}
use Rattle.vm_status.specs.declared.refusal.Refusal.{Refusal}
use Rattle.vm_status.specs.declared.role.Role.{Role}
use Rattle.vm_start.specs.declared.setup.Setup.{Setup}
use Rattle.vm_start.specs.Answers.{Answers, Then, goes_on, ends, UpToMemory}
use Rattle.vm_start.specs.Files as files
use Rattle.vm_start.specs.Files.{FileOf, PlanIn, ImageIn, ScriptIn, disk_in}
use Rattle.vm_start.specs.Start.{ImageOf, FlatSetup, PlannedSetup, SetupIn, DiskOf, DisksOf, ScriptOf, has_magic, image_name}
use Rattle.vm_start.specs.Steps as steps
use Rattle.vm_start.specs.Steps.{Unread}

module _ {X Y : Type 0} (P Q : Answers X) (next other : X → Answers Y) (first : (r : Result X Refusal) → P r → Q r) (rest : (x : X) (r : Result Y Refusal) → next x r → other x r) where
  then_as : (r : Result Y Refusal) → Then P next r → Then Q other r
  then_as r (goes_on x p n) = goes_on x (first (Ok x) p) (rest x r n)
  then_as r (ends e p is) = ends e (first (Err e) p) is

pub up_as : {X : Type 0} (P Q : Answers X) → ((r : Result X Refusal) → P r → Q r) → (r : Result X Refusal) → UpToMemory P r → UpToMemory Q r
up_as P Q f (Ok x) h = f (Ok x) h
up_as P Q f (Err e) (inl m) = inl m
up_as P Q f (Err e) (inr h) = inr (f (Err e) h)

module _ (a b : HostView) (reads : ReadsHost a b) where
  same_file : (name : List ℕ) → a.tells ≡ true → a.file name ≡ b.file name
  same_file name t = ap (λ (F : List ℕ → Option (List ℕ)). F name) (sym (reads.files t))

  file_as : (name : List ℕ) (r : Result (List ℕ) Refusal) → FileOf b.tells b.file name r → FileOf a.tells a.file name r
  file_as name r (files.found bytes is e) = files.found bytes (λ t. same_file name t ∙ is (reads.told ∙ t)) e
  file_as name r (files.missing none e) = files.missing (λ t. same_file name t ∙ none (reads.told ∙ t)) e
  file_as name r (files.failed e) = files.failed e

  pub file_back : (name : List ℕ) (bytes : List ℕ) → WhereTold b.tells (b.file name ≡ Some bytes) → WhereTold a.tells (a.file name ≡ Some bytes)
  file_back name bytes is t = same_file name t ∙ is (reads.told ∙ t)

  pub unread_back : (role : Role) (name : List ℕ) (most : ℕ) (e : Refusal) → Unread b.tells (b.file name) role name most e → Unread a.tells (a.file name) role name most e
  unread_back role name most e (steps.missing is none) = steps.missing is (λ t. same_file name t ∙ none (reads.told ∙ t))
  unread_back role name most e (steps.failed is) = steps.failed is
  unread_back role name most e (steps.long is far) = steps.long is (λ t. subst (λ (o : Option (List ℕ)). IsSomeAnd o (λ f. most < length f)) (sym (same_file name t)) (far (reads.told ∙ t)))
  unread_back role name most e (steps.spent is) = steps.spent is

  image_as : (name : List ℕ) (memory : ℕ) (r : Result FlatImage Refusal) → ImageOf b.tells b.file name memory r → ImageOf a.tells a.file name memory r
  image_as name memory = then_as _ _ _ _ (file_as name) (λ bytes r h. h)

  planned_as : (name bytes : List ℕ) (r : Result Setup Refusal) → PlannedSetup b.tells b.file name bytes r → PlannedSetup a.tells a.file name bytes r
  planned_as name bytes = then_as _ _ _ _ (λ r h. h) (λ plan. then_as _ _ _ _ (image_as (image_name plan.image) plan.memory) (λ image r h. h))

  either_as : (P Q R : Type 0) (c : Bool) → (Q → R) → MatchBool c P Q → MatchBool c P R
  either_as P Q R true f h = h
  either_as P Q R false f h = f h

  pub setup_as : (name bytes : List ℕ) (r : Result Setup Refusal) → SetupIn b.tells b.file name bytes r → SetupIn a.tells a.file name bytes r
  setup_as name bytes r h = either_as (FlatSetup name bytes r) _ _ (has_magic bytes) (planned_as name bytes r) h

  pub disk_as : (name : List ℕ) (r : Result (List ℕ) Refusal) → DiskOf b.tells b.file name r → DiskOf a.tells a.file name r
  disk_as name = then_as _ _ _ _ (file_as name) (λ bytes r h. h)

  pub disks_as : (plans : List DiskPlan) (r : Result (List (List ℕ)) Refusal) → DisksOf b.tells b.file plans r → DisksOf a.tells a.file plans r
  disks_as [] r h = h
  disks_as (p ∷ ps) r h = then_as _ _ _ _ (disk_as p.path) (λ disk. then_as _ _ _ _ (disks_as ps) (λ disks s k. k)) r h

  pub script_as : (plan : Plan) (name : Option (List ℕ)) (r : Result (List Order) Refusal) → ScriptOf b.tells b.file plan name r → ScriptOf a.tells a.file plan name r
  script_as plan None r h = h
  script_as plan (Some name) r h = then_as _ _ _ _ (file_as name) (λ bytes s k. k) r h
