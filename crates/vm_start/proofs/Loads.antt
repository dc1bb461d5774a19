-- What a file that was read, or wasn't, says of the steps behind it.
use Rattle.std.proofs.Common.{◌≡◌, ◌⊎◌, inl, inr, ℕ, suc, ◌+◌, ◌<◌, ◌≤◌, Bool, true, false, List, ◌∷◌, ◌++◌, length, replicate, take, min, Option, Some, None, IsSomeAnd, Result, Ok, Err, refl, sym, subst, ap, ◌∙◌, arith, length-append, length-take}
use Rattle.std.specs.Prelude.{nat_lt, ◌==◌, ◌&&◌, ◌%◌, IsErrOf}
use Rattle.std.specs.Str.{bytes_eq}
use Rattle.std.proofs.lemmas.Bool.{le-ltb, cases_lt, eqb-true}
use Rattle.std.proofs.lemmas.Bool.Decides.{nat_tests}
use Rattle.std.proofs.lemmas.List.{length-replicate, take_all}
use Rattle.vm_host.specs.Files.{ReadsFrom}
use Rattle.vm_host.specs.Told.{WhereTold}
use Rattle.vm_law.specs.Image.{magic}
use Rattle.vm_law.specs.declared.plan.Plan.{Plan}
use Rattle.ckpt_store.specs.declared.loading.LoadFault.{LoadFault}
use Rattle.ckpt_store.specs.declared.loading.LoadFault.TheVariants as loading
use Rattle.vm_host.specs.declared.host.HostFault as host_fault
use Rattle.vm_host.specs.declared.host.HostFault.TheVariants as host
use Rattle.vm_status.specs.declared.kind.Kind.TheVariants.{Length, Long}
use Rattle.vm_status.specs.declared.refusal.Refusal.{Refusal}
use Rattle.vm_status.specs.declared.refusal.Refusal.TheVariants.{Bad, Memory}
use Rattle.vm_status.specs.declared.role.Role.{Role}
use Rattle.vm_status.specs.declared.role.Role.TheVariants as roles
use Rattle.vm_start.specs.Answers.{Answers, Then, goes_on, ends, UpToMemory}
use Rattle.vm_start.specs.Files as files
use Rattle.vm_start.specs.Files.{FileOf, within, text_limit, image_limit, PlanIn, ImageIn, ScriptIn, is_disk_size, disk_in}
use Rattle.vm_start.specs.Start.{DiskOf, has_magic, SetupIn, SetupOf}
use Rattle.vm_start.specs.Steps as steps
use Rattle.vm_start.specs.Steps.{Unread, after_host, unloaded}
use Rattle.vm_start.proofs.Steps.{on}

-- the value that is there
pub there : {X : Type 0} (o : Option X) (P : X → Type 0) → IsSomeAnd o P → (x : X) × (o ≡ Some x) × P x
there (Some x) P h = (x, refl, h)
there None P h = absurd h

some_is : {X : Type 0} (o : Option X) (x y : X) → o ≡ Some x → o ≡ Some y → x ≡ y
some_is o x y e f = cc

-- bytes of this shape and more than so many of them, which the file has where its host tells it
pub record IsLong (told : Bool) (file : Option (List ℕ)) (most : ℕ) (Shape : List ℕ → Type 0) : Type 0 where
  pub bytes : List ℕ
  pub is_file : WhereTold told (file ≡ Some bytes)
  pub far : most < length bytes
  pub shape : Shape bytes

abbrev HasLong : ℕ → (List ℕ → Type 0) → Type 0
HasLong most Shape = (b : List ℕ) × (most < length b) × Shape b

long_of : (told : Bool) (file : Option (List ℕ)) (most : ℕ) (Shape : List ℕ → Type 0) → HasLong most Shape
    → WhereTold told (IsSomeAnd file Shape) → WhereTold told (IsSomeAnd file (λ f. most < length f)) → IsLong told file most Shape
long_of true file most Shape some shape far =
    let f = there file (λ f. most < length f) (far refl) in
    let g = there file Shape (shape refl) in
    let same : g.0 ≡ f.0 = some_is file g.0 f.0 g.1 f.1 in
    record { bytes = f.0; is_file = λ _. f.1; far = f.2; shape = subst Shape same g.2 }
long_of false file most Shape some shape far =
    record { bytes = some.0; is_file = λ t. absurd (let e : false ≡ true = t in cc); far = some.1; shape = some.2 }

module _ (told : Bool) (file : List ℕ → Option (List ℕ)) (name : List ℕ) {X : Type 0} (next : List ℕ → Answers X) where
  -- the file was read
  pub read : (bytes : List ℕ) (r : Result X Refusal) → WhereTold told (file name ≡ Some bytes) → UpToMemory (next bytes) r → UpToMemory (Then (FileOf told file name) next) r
  read bytes r is_file h = on (FileOf told file name) next bytes r (files.found bytes is_file refl) h

  -- it wasn't, where a file of this shape that is too long is refused by what follows
  pub unread : (role : Role) (most : ℕ) (Shape : List ℕ → Type 0) → HasLong most Shape → WhereTold told (IsSomeAnd (file name) Shape)
      → ((b : List ℕ) → most < length b → Shape b → next b (Err (Bad role name most Long)))
      → (e : Refusal) → Unread told (file name) role name most e → UpToMemory (Then (FileOf told file name) next) (Err e)
  unread role most Shape some shape long e (steps.missing is none) = inr (ends e (files.missing none (ap (λ (f : Refusal). Err f) is)) refl)
  unread role most Shape some shape long e (steps.failed is) = inr (ends e (files.failed (ap (λ (f : Refusal). Err f) is)) refl)
  unread role most Shape some shape long e (steps.long is far) =
      let l = long_of told (file name) most Shape some shape far in
      inr (goes_on l.bytes (files.found l.bytes l.is_file refl) (subst (λ (f : Refusal). next l.bytes (Err f)) (sym is) (long l.bytes l.far l.shape)))
  unread role most Shape some shape long e (steps.spent is) = inl is

  -- the same where no shape is asked for
  pub unread_plain : (role : Role) (most : ℕ) → ((b : List ℕ) → most < length b → next b (Err (Bad role name most Long)))
      → (e : Refusal) → Unread told (file name) role name most e → UpToMemory (Then (FileOf told file name) next) (Err e)
  unread_plain role most long e (steps.missing is none) = inr (ends e (files.missing none (ap (λ (f : Refusal). Err f) is)) refl)
  unread_plain role most long e (steps.failed is) = inr (ends e (files.failed (ap (λ (f : Refusal). Err f) is)) refl)
  unread_plain role most long e (steps.long is far) =
      unread role most (λ b. most < length b) (replicate (suc most) 0, omega (arith, length-replicate {A = ℕ} (suc most) 0), omega (arith, length-replicate {A = ℕ} (suc most) 0)) far
      (λ b l _. long b l) e (steps.long is far)
  unread_plain role most long e (steps.spent is) = inl is

-- ---- limits

pub within_long : (role : Role) (name : List ℕ) (most : ℕ) (bytes : List ℕ) → most < length bytes → Err (Bad role name most Long) ≡ within role name most bytes
within_long role name most bytes far = let e : nat_lt most (length bytes) ≡ true = grind (arith, nat_tests) in rw e refl

pub within_ok : (role : Role) (name : List ℕ) (most : ℕ) (bytes : List ℕ) → length bytes ≤ most → Ok bytes ≡ within role name most bytes
within_ok role name most bytes le = rw (le-ltb most (length bytes) le) refl

pub plan_long : (name bytes : List ℕ) → text_limit < length bytes → PlanIn name bytes (Err (Bad roles.Configuration name text_limit Long))
plan_long name bytes far = ends _ (within_long roles.Configuration name text_limit bytes far) refl

pub image_long : (name : List ℕ) (memory : ℕ) (bytes : List ℕ) → image_limit memory < length bytes → ImageIn name memory bytes (Err (Bad roles.Image name (image_limit memory) Long))
image_long name memory bytes far = ends _ (within_long roles.Image name (image_limit memory) bytes far) refl

pub script_long : (name : List ℕ) (plan : Plan) (bytes : List ℕ) → text_limit < length bytes → ScriptIn name plan bytes (Err (Bad roles.Script name text_limit Long))
script_long name plan bytes far = ends _ (within_long roles.Script name text_limit bytes far) refl

-- ---- FILE

long_image : (most : ℕ) → HasLong most (λ f. true ≡ has_magic f)
long_image most = (magic ++ replicate most 0, omega (arith, length-append magic (replicate most 0), length-replicate {A = ℕ} most 0), refl)

long_text : (most : ℕ) → HasLong most (λ f. false ≡ has_magic f)
long_text most = (0 ∷ replicate most 0, omega (arith, length-replicate {A = ℕ} most 0), refl)

module _ (told : Bool) (file : List ℕ → Option (List ℕ)) (name : List ℕ) where
  flat_long : (bytes : List ℕ) → image_limit 268435456 < length bytes → has_magic bytes ≡ true
      → SetupIn told file name bytes (Err (Bad roles.Image name (image_limit 268435456) Long))
  flat_long bytes far begins = rw begins (ends _ (image_long name 268435456 bytes far) refl)

  planned_long : (bytes : List ℕ) → text_limit < length bytes → has_magic bytes ≡ false
      → SetupIn told file name bytes (Err (Bad roles.Configuration name text_limit Long))
  planned_long bytes far begins = rw begins (ends _ (plan_long name bytes far) refl)

  pub flat_unread : WhereTold told (IsSomeAnd (file name) (λ f. true ≡ has_magic f)) → (e : Refusal)
      → Unread told (file name) roles.Image name 268435480 e → UpToMemory (SetupOf told file name) (Err e)
  flat_unread begins e u =
      unread told file name (SetupIn told file name) roles.Image 268435480 (λ f. true ≡ has_magic f)
      (long_image 268435480) begins
      (λ b far shape. flat_long b far (sym shape)) e u

  pub planned_unread : WhereTold told (IsSomeAnd (file name) (λ f. false ≡ has_magic f)) → (e : Refusal)
      → Unread told (file name) roles.Configuration name 1048576 e → UpToMemory (SetupOf told file name) (Err e)
  planned_unread begins e u =
      unread told file name (SetupIn told file name) roles.Configuration 1048576 (λ f. false ≡ has_magic f)
      (long_text 1048576) begins
      (λ b far shape. planned_long b far (sym shape)) e u

-- ---- the front of a file

first_eight : (f : List ℕ) (n : ℕ) → n ≡ min 8 (length f) → take n f ≡ take 8 f
first_eight f n e = elim (cases_lt (length f) 8) [
  | inl short ↦ take_all n f (omega (arith, e, short)) ∙ sym (take_all 8 f (omega (arith, short)))
  | inr long ↦ let eight : n ≡ 8 = omega (arith, e, long) in ap (λ (k : ℕ). take k f) eight
]

-- the front of a file tells how it begins
pub front_tells : (f buffer : List ℕ) (n : ℕ) → length buffer ≡ 8 → ReadsFrom f 0 buffer n → has_magic (take n buffer) ≡ has_magic f
front_tells f buffer n eight reads =
    let count : n ≡ min 8 (length f) = omega (arith, reads.count, eight) in
    let bytes : take n buffer ≡ take n f = reads.bytes in
    ap (λ (l : List ℕ). bytes_eq (take 8 l) magic) bytes
    ∙ ap (λ (l : List ℕ). bytes_eq l magic) (take_all 8 (take n f) (omega (arith, length-take n f, count)) ∙ first_eight f n count)

-- ---- calls of the host

some_weaker : {X : Type 0} (o : Option X) (P Q : X → Type 0) → ((x : X) → P x → Q x) → IsSomeAnd o P → IsSomeAnd o Q
some_weaker (Some x) P Q f h = f x h
some_weaker None P Q f h = h

pub front_of : (o : Option (List ℕ)) (buffer : List ℕ) (n : ℕ) → length buffer ≡ 8 → IsSomeAnd o (λ f. ReadsFrom f 0 buffer n) → IsSomeAnd o (λ f. has_magic (take n buffer) ≡ has_magic f)
front_of o buffer n eight h = some_weaker o _ _ (λ f reads. front_tells f buffer n eight reads) h

both_in : (file : Option (List ℕ)) (size : ℕ) → IsSomeAnd file (λ f. size ≡ length f) → IsSomeAnd file (λ f. size < length f) → ⊥
both_in (Some f) size e lt = omega (arith, e, lt)
both_in None size e lt = e

first_of : (a b c : Bool) → (a && b && c) ≡ true → a ≡ true
first_of true b c e = refl
first_of false b c e = absurd (let f : false ≡ true = e in cc)

odd_is_bad : (a b c : Bool) → a ≡ false → (a && b && c) ≡ false
odd_is_bad a b c e = rw e refl

next_is_bad : (size : ℕ) → is_disk_size size ≡ true → is_disk_size (size + 1) ≡ false
next_is_bad size good =
    let even : size % 512 ≡ 0 = eqb-true (size % 512) 0 (first_of _ _ _ good) in
    let odd : ((size + 1) % 512 == 0) ≡ false = grind (arith, nat_tests) in
    odd_is_bad _ _ _ odd

module _ (told : Bool) (file : List ℕ → Option (List ℕ)) (name : List ℕ) where
  -- a call failed at the file
  pub unfound : {T : Type 0} (fault : host_fault.HostFault) → WhereTold told (IsErrOf {T = T} (Err fault) host.Missing → file name ≡ None)
      → (after_host name fault ≡ Memory) ⊎ FileOf told file name (Err (after_host name fault))
  unfound host.Missing none = inr (files.missing (λ t. none t refl) refl)
  unfound host.Failed none = inr (files.failed refl)
  unfound host.Memory none = inl refl

  -- bytes of this size, which are the file's where it is told
  record IsMeasured (size : ℕ) : Type 0 where
    bytes : List ℕ
    is_file : WhereTold told (file name ≡ Some bytes)
    size_is : length bytes ≡ size

  measured_in : (t : Bool) (size : ℕ) → t ≡ told → WhereTold told (IsSomeAnd (file name) (λ f. size ≡ length f)) → IsMeasured size
  measured_in true size e h = let f = there (file name) (λ f. size ≡ length f) (h (sym e)) in record { bytes = f.0; is_file = λ _. f.1; size_is = sym f.2 }
  measured_in false size e h = record {
    bytes = replicate size 0;
    is_file = λ t. absurd (let bad : false ≡ true = e ∙ t in cc);
    size_is = length-replicate {A = ℕ} size 0;
  }

  bad_size : (bytes : List ℕ) (size : ℕ) → length bytes ≡ size → is_disk_size size ≡ false → Err (Bad roles.Disk name size Length) ≡ disk_in name bytes
  bad_size bytes size e bad =
      let far : is_disk_size (length bytes) ≡ false = ap is_disk_size e ∙ bad in
      rw far (ap (λ (n : ℕ). Err (Bad roles.Disk name n Length)) (sym e))

  -- a disk of no size of a disk
  pub disk_refused : (size : ℕ) → WhereTold told (IsSomeAnd (file name) (λ f. size ≡ length f)) → is_disk_size size ≡ false → DiskOf told file name (Err (Bad roles.Disk name size Length))
  disk_refused size h bad =
      let m = measured_in told size refl h in
      goes_on m.bytes (files.found m.bytes m.is_file refl) (bad_size m.bytes size m.size_is bad)

  -- a disk that has grown since it was measured
  pub disk_grown : (size : ℕ) → WhereTold told (IsSomeAnd (file name) (λ f. size ≡ length f)) → WhereTold told (IsSomeAnd (file name) (λ f. size < length f))
      → is_disk_size size ≡ true → DiskOf told file name (Err (Bad roles.Disk name (size + 1) Length))
  disk_grown size measured far good = disk_refused (size + 1) (λ t. absurd (both_in (file name) size (measured t) (far t))) (next_is_bad size good)

  -- a disk that wasn't read whole
  pub disk_unloaded : {T : Type 0} (size : ℕ) (fault : LoadFault) → WhereTold told (IsErrOf {T = T} (Err fault) (loading.Host host.Missing) → file name ≡ None)
      → WhereTold told (IsErrOf {T = T} (Err fault) loading.Long → IsSomeAnd (file name) (λ f. size < length f))
      → WhereTold told (IsSomeAnd (file name) (λ f. size ≡ length f)) → is_disk_size size ≡ true → UpToMemory (DiskOf told file name) (Err (unloaded name size fault))
  disk_unloaded size (loading.Host host.Missing) missing long measured good = inr (ends _ (files.missing (λ t. missing t refl) refl) refl)
  disk_unloaded size (loading.Host host.Failed) missing long measured good = inr (ends _ (files.failed refl) refl)
  disk_unloaded size (loading.Host host.Memory) missing long measured good = inl refl
  disk_unloaded size loading.Long missing long measured good = inr (disk_grown size measured (λ t. long t refl) good)
