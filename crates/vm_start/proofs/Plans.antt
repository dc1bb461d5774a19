-- A plan that a configuration gives is one that a machine may have, and it names its image.
use Rattle.std.proofs.Common.{◌≡◌, ℕ, ◌+◌, ◌*◌, ◌-◌, ◌%◌, ◌≤◌, Bool, true, false, List, [], ◌∷◌, length, take, Option, Some, None, Result, Ok, Err, refl, subst, ap, lit≤, arith}
use Rattle.std.specs.Prelude.{nat_lt, ◌==◌, if◌then◌else◌, codes, IsSome}
use Rattle.std.specs.List.{All}
use Rattle.std.proofs.lemmas.Bool.{eqb-true}
use Rattle.std.proofs.lemmas.Bool.Decides.{nat_tests}
use Rattle.std.proofs.lemmas.List.Elements.{All-nil, All-cons}
use Rattle.guest_ram.specs.GuestRam.{IsSize}
use Rattle.text_reader.specs.Digits.{number}
use Rattle.vm_law.specs.declared.plan.DiskPlan.{DiskPlan}
use Rattle.vm_law.specs.declared.plan.Plan.{Plan}
use Rattle.cfg_vm.specs.declared.error.PlanKind.{PlanKind}
use Rattle.cfg_vm.specs.declared.error.PlanKind.TheVariants as kind
use Rattle.cfg_vm.specs.Number.{number_then, counted, count_or, sized, digits_then, with_unit, bytes_of_bare, ends_with, memory_or, boolean_or}
use Rattle.cfg_vm.specs.Outcome.{Fault, named, ◌>>=◌}
use Rattle.cfg_vm.specs.Slot.{slot_name}
use Rattle.cfg_vm.specs.Table.{Variables, value, path_of, file_value, file_of, disk_slots, disk_of, disks_from, disks_of, name_or, notbuilt_of, plan_of}
use Rattle.vm_state.specs.Start.{IsPlan, IsPlanned}

-- ---- values, or nothing that is said

abbrev Where : {E X : Type 0} → (X → Type 0) → Result X E → Type 0
Where P (Ok x) = P x
Where P (Err e) = Unit {0}

pub of_ok : {E X : Type 0} (P : X → Type 0) (r : Result X E) (x : X) → Where P r → r ≡ Ok x → P x
of_ok P (Ok y) x h e = let same : y ≡ x = cc in subst P same h
of_ok {E} {X} P (Err f) x h e = absurd (let bad : ◌≡◌ {A = Result X E} (Err f) (Ok x) = e in cc)

pub bind_ok : {X Y : Type 0} (r : Result X Fault) (next : X → Result Y Fault) (y : Y) → (r >>= next) ≡ Ok y → (x : X) × (r ≡ Ok x) × (next x ≡ Ok y)
bind_ok (Ok x) next y e = (x, refl, e)
bind_ok {X} {Y} (Err f) next y e = absurd (let bad : ◌≡◌ {A = Result Y Fault} (Err f) (Ok y) = e in cc)

named_ok : {X : Type 0} (variable : List ℕ) (r : Result X PlanKind) (x : X) → named variable r ≡ Ok x → r ≡ Ok x
named_ok {X} variable (Ok y) x e = let same : y ≡ x = cc in ap (λ (z : X). Ok z) same
named_ok {X} variable (Err k) x e = absurd (let bad : ◌≡◌ {A = Result X Fault} (Err (record { variable = variable; kind = k })) (Ok x) = e in cc)

-- ---- numbers

abbrev Within : ℕ → Result ℕ PlanKind → Type 0
Within high r = Where (λ n. (1 ≤ n) × (n ≤ high)) r

within_of : (high n : ℕ) (b c : Bool) → nat_lt high n ≡ b → nat_lt n 1 ≡ c → Within high (if b then Err kind.Range else if c then Err kind.Range else Ok n)
within_of high n true c e f = tt
within_of high n false true e f = tt
within_of high n false false e f = (grind (arith, nat_tests), grind (arith, nat_tests))

then_where : (P : ℕ → Type 0) (next : ℕ → Result ℕ PlanKind) (o : Option ℕ) → ((n : ℕ) → Where P (next n)) → Where P (number_then next o)
then_where P next None f = tt
then_where P next (Some n) f = f n

count_within : (default high : ℕ) → 1 ≤ default → default ≤ high → (o : Option (List ℕ)) → Within high (count_or default high o)
count_within default high low most None = (low, most)
count_within default high low most (Some text) = then_where _ (counted high) (number 10 text) (λ n. within_of high n (nat_lt high n) (nat_lt n 1) refl refl)

abbrev Sized : Result ℕ PlanKind → Type 0
Sized r = Where IsSize r

sized_of : (n : ℕ) (b c d : Bool) → nat_lt 1073741824 n ≡ b → nat_lt n 1048576 ≡ c → (n % 4096 == 0) ≡ d
    → Sized (if b then Err kind.Range else if c then Err kind.Range else if d then Ok n else Err kind.Range)
sized_of n true c d e f g = tt
sized_of n false true d e f g = tt
sized_of n false false true e f g = record { least = grind (arith, nat_tests); most = grind (arith, nat_tests); whole = eqb-true (n % 4096) 0 g }
sized_of n false false false e f g = tt

is_sized : (n : ℕ) → Sized (sized n)
is_sized n = sized_of n (nat_lt 1073741824 n) (nat_lt n 1048576) (n % 4096 == 0) refl refl refl

either : (b : Bool) (x y : Result ℕ PlanKind) → Sized x → Sized y → Sized (if b then x else y)
either true x y p q = p
either false x y p q = q

digits_sized : (next : ℕ → Result ℕ PlanKind) (digits : List ℕ) → ((n : ℕ) → Sized (next n)) → Sized (digits_then next digits)
digits_sized next digits f = either (nat_lt 18 (length digits)) (Err kind.Number) (number_then next (number 10 digits)) tt (then_where IsSize next (number 10 digits) f)

unit_sized : (unit : ℕ) (digits : List ℕ) → Sized (with_unit unit digits)
unit_sized unit digits = digits_sized (λ n. sized (n * unit)) digits (λ n. is_sized (n * unit))

memory_sized : (o : Option (List ℕ)) → Sized (memory_or o)
memory_sized None = record { least = lit≤ tt; most = lit≤ tt; whole = refl }
memory_sized (Some text) =
    either (ends_with 75 107 text) _ _ (unit_sized 1024 (take (length text - 1) text))
    (either (ends_with 77 109 text) _ _ (unit_sized 1048576 (take (length text - 1) text))
    (either (ends_with 71 103 text) _ _ (unit_sized 1073741824 (take (length text - 1) text))
    (digits_sized (λ n. sized (bytes_of_bare n)) text (λ n. is_sized (bytes_of_bare n)))))

-- ---- disks

workers_are : (path : List ℕ) (ro : Bool) (workers : ℕ) (d : DiskPlan) → ◌≡◌ {A = Result DiskPlan Fault} (Ok (record { path = path; ro = ro; workers = workers })) (Ok d) → workers ≡ d.workers
workers_are path ro workers d e = cc

module _ (vs : Variables) where
  disk_planned : (s : _) (d : DiskPlan) → disk_of vs s ≡ Ok d → IsPlanned d
  disk_planned s d e =
      let p = bind_ok (path_of (slot_name s (codes "path")) (value vs (slot_name s (codes "path"))))
      (λ (path : List ℕ). named (slot_name s (codes "ro")) (boolean_or (value vs (slot_name s (codes "ro")))) >>= (λ (ro : Bool).
      named (slot_name s (codes "workers")) (count_or 2 8 (value vs (slot_name s (codes "workers")))) >>= (λ (workers : ℕ).
      Ok (record { path = path; ro = ro; workers = workers })))) d e in
      let r = bind_ok (named (slot_name s (codes "ro")) (boolean_or (value vs (slot_name s (codes "ro")))))
      (λ (ro : Bool). named (slot_name s (codes "workers")) (count_or 2 8 (value vs (slot_name s (codes "workers")))) >>= (λ (workers : ℕ).
      Ok (record { path = p.0; ro = ro; workers = workers }))) d p.2 in
      let w = bind_ok (named (slot_name s (codes "workers")) (count_or 2 8 (value vs (slot_name s (codes "workers")))))
      (λ (workers : ℕ). Ok (record { path = p.0; ro = r.0; workers = workers })) d r.2 in
      let text = value vs (slot_name s (codes "workers")) in
      let workers = of_ok (λ (n : ℕ). (1 ≤ n) × (n ≤ 8)) (count_or 2 8 text) w.0 (count_within 2 8 (lit≤ tt) (lit≤ tt) text) (named_ok (slot_name s (codes "workers")) (count_or 2 8 text) w.0 w.1) in
      let same : w.0 ≡ d.workers = workers_are p.0 r.0 w.0 d w.2 in
      record { some_worker = omega (arith, workers.0, same); workers = omega (arith, workers.1, same) }

  many_is_none : (s : _) (d : DiskPlan) → ◌≡◌ {A = Result DiskPlan Fault} (named (slot_name s (codes "device")) (Err kind.Many)) (Ok d) → ⊥
  many_is_none s d e = let bad : ◌≡◌ {A = Result DiskPlan Fault} (Err (record { variable = slot_name s (codes "device"); kind = kind.Many })) (Ok d) = e in cc

  next_fits : (count : ℕ) (s : _) (d : DiskPlan) (b : Bool) → (count == 8) ≡ b → (if b then named (slot_name s (codes "device")) (Err kind.Many) else disk_of vs s) ≡ Ok d
      → (count ≡ 8 → ⊥) × IsPlanned d
  next_fits count s d true e is = absurd (many_is_none s d is)
  next_fits count s d false e is = (λ eight. absurd (grind (arith, nat_tests)), disk_planned s d is)

  record ArePlanned (count : ℕ) (disks : List DiskPlan) : Type 0 where
    few : count + length disks ≤ 8
    each : All IsPlanned disks

  planned_from : (ss : List _) (count : ℕ) (disks : List DiskPlan) → count ≤ 8 → disks_from vs count ss ≡ Ok disks → ArePlanned count disks
  planned_from [] count disks le e =
      let made : ◌≡◌ {A = Result (List DiskPlan) Fault} (Ok []) (Ok disks) = e in
      let same : [] ≡ disks = cc in
      subst (λ (l : List DiskPlan). ArePlanned count l) same (record { few = omega arith; each = All-nil IsPlanned })
  planned_from (s ∷ ss) count disks le e =
      let d = bind_ok _ _ disks e in
      let rest = bind_ok _ _ disks d.2 in
      let one = next_fits count s d.0 (count == 8) refl d.1 in
      let more = planned_from ss (count + 1) rest.0 (omega (arith, le, one.0)) rest.1 in
      let made : ◌≡◌ {A = Result (List DiskPlan) Fault} (Ok (d.0 ∷ rest.0)) (Ok disks) = rest.2 in
      let same : d.0 ∷ rest.0 ≡ disks = cc in
      subst (λ (l : List DiskPlan). ArePlanned count l) same (record { few = omega (arith, more.few); each = All-cons IsPlanned d.0 rest.0 one.1 more.each })

-- ---- the image

some_is_some : {X : Type 0} (x : X) (o : Option X) → Some x ≡ o → IsSome o
some_is_some {X} x o e = subst (λ (p : Option X). IsSome p) e refl

needs_file : (variable : List ℕ) (o p : Option (List ℕ)) → file_value variable true o ≡ Ok p → IsSome p
needs_file variable None p e = absurd (let bad : ◌≡◌ {A = Result (Option (List ℕ)) Fault} (Err (record { variable = variable; kind = kind.Path })) (Ok p) = e in cc)
needs_file variable (Some text) p e =
    let path = bind_ok (path_of variable (Some text)) (λ q. Ok (Some q)) p e in
    let made : ◌≡◌ {A = Result (Option (List ℕ)) Fault} (Ok (Some path.0)) (Ok p) = path.2 in
    let same : Some path.0 ≡ p = cc in
    some_is_some path.0 p same

-- ---- the plan

pub record IsReady (plan : Plan) : Type 0 where
  pub sound : IsPlan plan
  pub image : IsSome plan.image

-- the fields of a plan that was made
record AreParts (cpus memory : ℕ) (disks : List DiskPlan) (image : Option (List ℕ)) (plan : Plan) : Type 0 where
  cpus_are : cpus ≡ plan.cpus
  memory_is : memory ≡ plan.memory
  disks_are : disks ≡ plan.disks
  image_is : image ≡ plan.image

made_of : (cpus memory : ℕ) (name : List ℕ) (image script : Option (List ℕ)) (disks : List DiskPlan) (others : List (List ℕ)) (plan : Plan)
    → ◌≡◌ {A = Result Plan Fault} (Ok (record { cpus = cpus; memory = memory; name = name; image = image; script = script; disks = disks; notbuilt = others })) (Ok plan)
    → AreParts cpus memory disks image plan
made_of cpus memory name image script disks others plan e = record { cpus_are = cc; memory_is = cc; disks_are = cc; image_is = cc }

module _ (vs : Variables) where
  abbrev last : ℕ → ℕ → List DiskPlan → Option (List ℕ) → Option (List ℕ) → Result Plan Fault
  last cpus memory disks image script =
      Ok (record { cpus = cpus; memory = memory; name = name_or vs; image = image; script = script; disks = disks; notbuilt = notbuilt_of vs })

  abbrev after_image : ℕ → ℕ → List DiskPlan → Option (List ℕ) → Result Plan Fault
  after_image cpus memory disks image = file_of vs (codes "flat.script") false >>= last cpus memory disks image

  abbrev after_disks : ℕ → ℕ → List DiskPlan → Result Plan Fault
  after_disks cpus memory disks = file_of vs (codes "flat.image") true >>= after_image cpus memory disks

  abbrev after_memory : ℕ → ℕ → Result Plan Fault
  after_memory cpus memory = disks_of vs >>= after_disks cpus memory

  abbrev after_cpus : ℕ → Result Plan Fault
  after_cpus cpus = named (codes "memory.size") (memory_or (value vs (codes "memory.size"))) >>= after_memory cpus

  pub plan_ready : (plan : Plan) → plan_of vs false ≡ Ok plan → IsReady plan
  plan_ready plan e =
      let cpus_text = value vs (codes "cpus") in
      let memory_text = value vs (codes "memory.size") in
      let cpus = bind_ok (named (codes "cpus") (count_or 1 16 cpus_text)) after_cpus plan e in
      let memory = bind_ok (named (codes "memory.size") (memory_or memory_text)) (after_memory cpus.0) plan cpus.2 in
      let disks = bind_ok (disks_of vs) (after_disks cpus.0 memory.0) plan memory.2 in
      let image = bind_ok (file_of vs (codes "flat.image") true) (after_image cpus.0 memory.0 disks.0) plan disks.2 in
      let script = bind_ok (file_of vs (codes "flat.script") false) (last cpus.0 memory.0 disks.0 image.0) plan image.2 in
      let parts = made_of cpus.0 memory.0 (name_or vs) image.0 script.0 disks.0 (notbuilt_of vs) plan script.2 in
      let n = of_ok (λ (n : ℕ). (1 ≤ n) × (n ≤ 16)) (count_or 1 16 cpus_text) cpus.0 (count_within 1 16 (lit≤ tt) (lit≤ tt) cpus_text) (named_ok (codes "cpus") (count_or 1 16 cpus_text) cpus.0 cpus.1) in
      let size = of_ok IsSize (memory_or memory_text) memory.0 (memory_sized memory_text) (named_ok (codes "memory.size") (memory_or memory_text) memory.0 memory.1) in
      let planned = planned_from vs (disk_slots vs) 0 disks.0 (omega arith) disks.1 in
      record {
        sound = record {
          some_cpu = subst (λ (k : ℕ). 1 ≤ k) parts.cpus_are n.0;
          cpus = subst (λ (k : ℕ). k ≤ 16) parts.cpus_are n.1;
          memory = subst IsSize parts.memory_is size;
          disks = subst (λ (l : List DiskPlan). length l ≤ 8) parts.disks_are (omega (arith, planned.few));
          each_disk = subst (λ (l : List DiskPlan). All IsPlanned l) parts.disks_are planned.each;
        };
        image = subst (λ (o : Option (List ℕ)). IsSome o) parts.image_is (needs_file (codes "flat.image") (value vs (codes "flat.image")) image.0 image.1);
      }
