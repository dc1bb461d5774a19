-- Disks that were read one after the other.
use Rattle.std.proofs.Common.{◌≡◌, inl, inr, ℕ, zero, suc, ◌<◌, ◌≤◌, ◌%◌, Bool, true, false, List, [], ◌∷◌, ◌++◌, ◌+◌, length, take, drop, Option, Some, Result, Ok, Err, refl, sym, subst, ap, ◌∙◌, add-one, arith}
use Rattle.std.specs.Prelude.{◌&&◌, ◌==◌, nat_le, if◌then◌else◌, slice_index_or}
use Rattle.std.specs.List.{All}
use Rattle.std.proofs.lemmas.Bool.{eqb-true}
use Rattle.std.proofs.lemmas.Bool.Decides.{nat_tests}
use Rattle.std.proofs.lemmas.List.Elements.{All-nil, All-cons}
use Rattle.vm_host.specs.Told.{WhereTold}
use Rattle.vm_law.specs.declared.plan.DiskPlan.{DiskPlan}
use Rattle.vm_state.specs.Start.{IsDisk, no_plan}
use Rattle.vm_status.specs.declared.kind.Kind.TheVariants.{Length}
use Rattle.vm_status.specs.declared.refusal.Refusal.{Refusal}
use Rattle.vm_status.specs.declared.refusal.Refusal.TheVariants.{Bad, HostFault, Missing}
use Rattle.vm_status.specs.declared.role.Role.TheVariants.{Disk}
use Rattle.vm_start.specs.Answers.{Is, goes_on, ends, UpToMemory}
use Rattle.vm_start.specs.Files as files
use Rattle.vm_start.specs.Files.{FileOf, is_disk_size, disk_in}
use Rattle.vm_start.specs.Start.{DiskOf, DisksOf}
use Rattle.vm_start.proofs.Steps.{ok_then}

-- lists, cut at a place
take_next : {X : Type 0} (xs : List X) (i : ℕ) (d : X) → i < length xs → take (suc i) xs ≡ take i xs ++ slice_index_or xs i d ∷ []
take_next [] i d lt = absurd (omega arith)
take_next (x ∷ xs) zero d lt = refl
take_next {X} (x ∷ xs) (suc i) d lt = ap (λ (l : List X). x ∷ l) (take_next xs i d (omega arith))

cut_next : {X : Type 0} (xs : List X) (i : ℕ) (d : X) → i < length xs → xs ≡ take i xs ++ slice_index_or xs i d ∷ drop (suc i) xs
cut_next [] i d lt = absurd (omega arith)
cut_next (x ∷ xs) zero d lt = refl
cut_next {X} (x ∷ xs) (suc i) d lt = ap (λ (l : List X). x ∷ l) (cut_next xs i d (omega arith))

both_of : (a b : Bool) → (a && b) ≡ true → (a ≡ true) × (b ≡ true)
both_of true true e = (refl, refl)
both_of true false e = absurd (let f : false ≡ true = e in cc)
both_of false b e = absurd (let f : false ≡ true = e in cc)

le_of : (n m : ℕ) → nat_le n m ≡ true → n ≤ m
le_of n m e = grind (arith, nat_tests)

disk_sized : (bytes : List ℕ) → is_disk_size (length bytes) ≡ true → IsDisk bytes
disk_sized bytes e =
    let t = both_of (length bytes % 512 == 0 && nat_le 512 (length bytes)) _ e in
    let u = both_of (length bytes % 512 == 0) _ t.0 in
    record { some = le_of 512 (length bytes) u.1; most = le_of (length bytes) 67108864 t.1; whole = eqb-true (length bytes % 512) 0 u.0 }

is_sized : (name bytes disk : List ℕ) (b : Bool) → is_disk_size (length bytes) ≡ b
    → Ok disk ≡ (if b then Ok bytes else Err (Bad Disk name (length bytes) Length)) → (disk ≡ bytes) × IsDisk bytes
is_sized name bytes disk true e is = (let same : disk ≡ bytes = cc in same, disk_sized bytes e)
is_sized name bytes disk false e is = absurd (let bad : ◌≡◌ {A = Result (List ℕ) Refusal} (Ok disk) (Err (Bad Disk name (length bytes) Length)) = is in cc)

module _ (told : Bool) (file : List ℕ → Option (List ℕ)) where
  file_is : (name bytes : List ℕ) → FileOf told file name (Ok bytes) → WhereTold told (file name ≡ Some bytes)
  file_is name bytes (files.found b is e) = let same : b ≡ bytes = cc in subst (λ (l : List ℕ). WhereTold told (file name ≡ Some l)) same is
  file_is name bytes (files.missing none e) = absurd (let bad : ◌≡◌ {A = Result (List ℕ) Refusal} (Ok bytes) (Err (Missing name)) = e in cc)
  file_is name bytes (files.failed e) = absurd (let bad : ◌≡◌ {A = Result (List ℕ) Refusal} (Ok bytes) (Err (HostFault name)) = e in cc)

  disk_is : (name disk : List ℕ) → DiskOf told file name (Ok disk) → WhereTold told (file name ≡ Some disk) × IsDisk disk
  disk_is name disk h =
      let t = ok_then (FileOf told file name) (λ bytes. Is (disk_in name bytes)) disk h in
      let s = is_sized name t.0 disk (is_disk_size (length t.0)) refl t.2 in
      subst (λ (l : List ℕ). WhereTold told (file name ≡ Some l) × IsDisk l) (sym s.0) (file_is name t.0 t.1, s.1)

  abbrev AreRead : List DiskPlan → List (List ℕ) → Type 0
  AreRead [] [] = Unit {0}
  AreRead [] (x ∷ xs) = ⊥
  AreRead (p ∷ ps) [] = ⊥
  AreRead (p ∷ ps) (x ∷ xs) = (WhereTold told (file p.path ≡ Some x) × IsDisk x) × AreRead ps xs

  are_read : (plans : List DiskPlan) (disks : List (List ℕ)) → DisksOf told file plans (Ok disks) → AreRead plans disks
  are_read [] disks h = let made : ◌≡◌ {A = Result (List (List ℕ)) Refusal} (Ok disks) (Ok []) = h in let same : [] ≡ disks = cc in subst (λ (l : List (List ℕ)). AreRead [] l) same tt
  are_read (p ∷ ps) disks h =
      let d = ok_then (DiskOf told file p.path) _ disks h in
      let ds = ok_then (DisksOf told file ps) (λ rest. Is (Ok (d.0 ∷ rest))) disks d.2 in
      let made : ◌≡◌ {A = Result (List (List ℕ)) Refusal} (Ok disks) (Ok (d.0 ∷ ds.0)) = ds.2 in
      let same : d.0 ∷ ds.0 ≡ disks = cc in
      subst (λ (l : List (List ℕ)). AreRead (p ∷ ps) l) same (disk_is p.path d.0 d.1, are_read ps ds.0 ds.1)

  count_read : (plans : List DiskPlan) (disks : List (List ℕ)) → AreRead plans disks → length disks ≡ length plans
  count_read [] [] h = refl
  count_read [] (x ∷ xs) h = absurd h
  count_read (p ∷ ps) [] h = absurd h
  count_read (p ∷ ps) (x ∷ xs) h = ap (λ (n : ℕ). suc n) (count_read ps xs h.1)

  all_disks : (plans : List DiskPlan) (disks : List (List ℕ)) → AreRead plans disks → All IsDisk disks
  all_disks [] [] h = All-nil IsDisk
  all_disks [] (x ∷ xs) h = absurd h
  all_disks (p ∷ ps) [] h = absurd h
  all_disks (p ∷ ps) (x ∷ xs) h = All-cons IsDisk x xs h.0.1 (all_disks ps xs h.1)

  each_file : (plans : List DiskPlan) (disks : List (List ℕ)) → AreRead plans disks → told ≡ true → (d : ℕ) → d < length plans
      → file (slice_index_or plans d no_plan).path ≡ Some (slice_index_or disks d [])
  each_file [] disks h t d lt = absurd (omega arith)
  each_file (p ∷ ps) [] h t d lt = absurd h
  each_file (p ∷ ps) (x ∷ xs) h t zero lt = h.0.0 t
  each_file (p ∷ ps) (x ∷ xs) h t (suc d) lt = each_file ps xs h.1 t d (omega arith)

  pub record HasDisks (plans : List DiskPlan) (disks : List (List ℕ)) : Type 0 where
    pub count : length disks ≡ length plans
    pub each : All IsDisk disks
    pub file_each : told ≡ true → (d : ℕ) → d < length plans → file (slice_index_or plans d no_plan).path ≡ Some (slice_index_or disks d [])

  pub disks_read : (plans : List DiskPlan) (disks : List (List ℕ)) → DisksOf told file plans (Ok disks) → HasDisks plans disks
  disks_read plans disks h =
      let r = are_read plans disks h in
      record { count = count_read plans disks r; each = all_disks plans disks r; file_each = each_file plans disks r }

  -- ---- one disk more

  pub disks_more : (plans : List DiskPlan) (p : DiskPlan) (xs : List (List ℕ)) (x : List ℕ) → DisksOf told file plans (Ok xs) → DiskOf told file p.path (Ok x)
      → DisksOf told file (plans ++ p ∷ []) (Ok (xs ++ x ∷ []))
  disks_more [] p xs x h one =
      let made : ◌≡◌ {A = Result (List (List ℕ)) Refusal} (Ok xs) (Ok []) = h in
      let same : [] ≡ xs = cc in
      subst (λ (l : List (List ℕ)). DisksOf told file (p ∷ []) (Ok (l ++ x ∷ []))) same (goes_on x one (goes_on [] refl refl))
  disks_more (q ∷ qs) p xs x h one =
      let d = ok_then (DiskOf told file q.path) _ xs h in
      let ds = ok_then (DisksOf told file qs) (λ rest. Is (Ok (d.0 ∷ rest))) xs d.2 in
      let made : ◌≡◌ {A = Result (List (List ℕ)) Refusal} (Ok xs) (Ok (d.0 ∷ ds.0)) = ds.2 in
      let same : d.0 ∷ ds.0 ≡ xs = cc in
      subst (λ (l : List (List ℕ)). DisksOf told file (q ∷ qs ++ p ∷ []) (Ok (l ++ x ∷ []))) same
      (goes_on d.0 d.1 (goes_on (ds.0 ++ x ∷ []) (disks_more qs p ds.0 x ds.1 one) refl))

  -- a refusal behind disks
  pub disks_end : (plans : List DiskPlan) (p : DiskPlan) (more : List DiskPlan) (xs : List (List ℕ)) (e : Refusal) → DisksOf told file plans (Ok xs) → DiskOf told file p.path (Err e)
      → DisksOf told file (plans ++ p ∷ more) (Err e)
  disks_end [] p more xs e h one = ends e one refl
  disks_end (q ∷ qs) p more xs e h one =
      let d = ok_then (DiskOf told file q.path) _ xs h in
      let ds = ok_then (DisksOf told file qs) (λ rest. Is (Ok (d.0 ∷ rest))) xs d.2 in
      goes_on d.0 d.1 (ends e (disks_end qs p more ds.0 e ds.1 one) refl)

  -- a disk more of a plan's
  pub disks_next : (plans : List DiskPlan) (i : ℕ) (d : DiskPlan) (name : List ℕ) (xs : List (List ℕ)) (x : List ℕ) → i < length plans → name ≡ (slice_index_or plans i d).path
      → DisksOf told file (take i plans) (Ok xs) → DiskOf told file name (Ok x) → DisksOf told file (take (i + 1) plans) (Ok (xs ++ x ∷ []))
  disks_next plans i d name xs x lt is h one =
      let p = slice_index_or plans i d in
      subst (λ (l : List DiskPlan). DisksOf told file l (Ok (xs ++ x ∷ []))) (sym (ap (λ (n : ℕ). take n plans) (add-one i) ∙ take_next plans i d lt))
      (disks_more (take i plans) p xs x h (subst (λ (n : List ℕ). DiskOf told file n (Ok x)) is one))

  -- a plan's disk that is refused
  pub disks_stop : (plans : List DiskPlan) (i : ℕ) (d : DiskPlan) (name : List ℕ) (xs : List (List ℕ)) (e : Refusal) → i < length plans → name ≡ (slice_index_or plans i d).path
      → DisksOf told file (take i plans) (Ok xs) → UpToMemory (DiskOf told file name) (Err e) → UpToMemory (DisksOf told file plans) (Err e)
  disks_stop plans i d name xs e lt is h (inl m) = inl m
  disks_stop plans i d name xs e lt is h (inr one) =
      let p = slice_index_or plans i d in
      inr (subst (λ (l : List DiskPlan). DisksOf told file l (Err e)) (sym (cut_next plans i d lt))
      (disks_end (take i plans) p (drop (suc i) plans) xs e h (subst (λ (n : List ℕ). DiskOf told file n (Err e)) is one)))
