-- What different names say of the disks.
use Rattle.std.proofs.Common.{◌≡◌, ◌≢◌, ◌⊎◌, inl, inr, ℕ, zero, suc, ◌<◌, Bool, true, false, List, [], ◌∷◌, ◌++◌, length, Option, Some, Result, Ok, Err, refl, sym, subst, arith, append_assoc}
use Rattle.std.specs.Prelude.{◌||◌, if◌then◌else◌, slice_index_or}
use Rattle.std.specs.Str.{bytes_eq}
use Rattle.std.proofs.lemmas.List.{append-nil}
use Rattle.std.proofs.lemmas.Slice.Eq.{bytes_eq-Decides}
use Rattle.vm_law.specs.declared.plan.DiskPlan.{DiskPlan}
use Rattle.vm_law.specs.declared.plan.Plan.{Plan}
use Rattle.vm_state.specs.Start.{no_plan}
use Rattle.vm_status.specs.declared.kind.Kind.TheVariants.{Twice}
use Rattle.vm_status.specs.declared.refusal.Refusal.{Refusal}
use Rattle.vm_status.specs.declared.refusal.Refusal.TheVariants.{Bad}
use Rattle.vm_status.specs.declared.role.Role.TheVariants as role
use Rattle.vm_start.specs.Images.{AreApart, IsDiskOf}
use Rattle.vm_start.specs.Start.{is_among, different_from, name_in, paths_of, names_of}

-- the name stands in the list
abbrev IsIn : List ℕ → List (List ℕ) → Type 0
IsIn x [] = ⊥
IsIn x (n ∷ ns) = (x ≡ n) ⊎ IsIn x ns

in_left : (x : List ℕ) (a b : List (List ℕ)) → IsIn x a → IsIn x (a ++ b)
in_left x [] b h = absurd h
in_left x (n ∷ ns) b (inl e) = inl e
in_left x (n ∷ ns) b (inr h) = inr (in_left x ns b h)

in_right : (x : List ℕ) (a b : List (List ℕ)) → IsIn x b → IsIn x (a ++ b)
in_right x [] b h = h
in_right x (n ∷ ns) b h = inr (in_right x ns b h)

or_first : (a b : Bool) → (a || b) ≡ false → (a ≡ false) × (b ≡ false)
or_first true b e = absurd (let bad : true ≡ false = e in cc)
or_first false b e = (refl, e)

not_in : (x : List ℕ) (names : List (List ℕ)) → is_among names x ≡ false → IsIn x names → ⊥
not_in x [] e h = h
not_in x (n ∷ ns) e (inl same) = let t = or_first (bytes_eq n x) _ e in let true_one = (bytes_eq-Decides n x).1 (sym same) in cc
not_in x (n ∷ ns) e (inr h) = not_in x ns (or_first (bytes_eq n x) _ e).1 h

-- none of the names stands before it
abbrev Fresh : List (List ℕ) → List (List ℕ) → Type 0
Fresh before [] = Unit {0}
Fresh before (n ∷ ns) = (IsIn n before → ⊥) × Fresh (before ++ n ∷ []) ns

refused : (name : List ℕ) → ◌≡◌ {A = Result (Unit {0}) Refusal} (Err (Bad role.Start name 0 Twice)) (Ok tt) → ⊥
refused name e = cc

fresh_one : (before : List (List ℕ)) (n : List ℕ) (ns : List (List ℕ)) (b : Bool) → is_among before n ≡ b
    → ◌≡◌ {A = Result (Unit {0}) Refusal} (if b then Err (Bad role.Start n 0 Twice) else different_from (before ++ n ∷ []) ns) (Ok tt)
    → (IsIn n before → ⊥) × (different_from (before ++ n ∷ []) ns ≡ Ok tt)
fresh_one before n ns true e is = absurd (refused n is)
fresh_one before n ns false e is = (not_in n before e, is)

fresh : (names before : List (List ℕ)) → different_from before names ≡ Ok tt → Fresh before names
fresh [] before e = tt
fresh (n ∷ ns) before e = let t = fresh_one before n ns (is_among before n) refl e in (t.0, fresh ns (before ++ n ∷ []) t.1)

-- a name that stands before comes no more
later : (before ms : List (List ℕ)) (x : List ℕ) → Fresh before ms → IsIn x before → IsIn x ms → ⊥
later before [] x f inb h = h
later before (m ∷ ms) x f inb (inl e) = f.0 (subst (λ (y : List ℕ). IsIn y before) e inb)
later before (m ∷ ms) x f inb (inr h) = later (before ++ m ∷ []) ms x f.1 (in_left x before (m ∷ []) inb) h

skip : (a b before : List (List ℕ)) → Fresh before (a ++ b) → Fresh (before ++ a) b
skip [] b before f = subst (λ (l : List (List ℕ)). Fresh l b) (sym (append-nil before)) f
skip (x ∷ xs) b before f = subst (λ (l : List (List ℕ)). Fresh l b) (append_assoc before (x ∷ []) xs) (skip xs b (before ++ x ∷ []) f.1)

in_at : (ds : List DiskPlan) (k : ℕ) → k < length ds → IsIn (slice_index_or ds k no_plan).path (paths_of ds)
in_at [] k lt = absurd (omega arith)
in_at (d ∷ ds) zero lt = inl refl
in_at (d ∷ ds) (suc k) lt = inr (in_at ds k (omega arith))

pairs : (ds : List DiskPlan) (before post : List (List ℕ)) → Fresh before (paths_of ds ++ post) → (i j : ℕ) → i < j → j < length ds
    → (slice_index_or ds i no_plan).path ≢ (slice_index_or ds j no_plan).path
pairs [] before post f i j lt within e = omega arith
pairs (d ∷ ds) before post f zero zero lt within e = omega arith
pairs (d ∷ ds) before post f (suc i) zero lt within e = omega arith
pairs (d ∷ ds) before post f zero (suc j) lt within e =
    later (before ++ d.path ∷ []) (paths_of ds ++ post) d.path f.1 (in_right d.path before (d.path ∷ []) (inl refl))
    (in_left d.path (paths_of ds) post (subst (λ (y : List ℕ). IsIn y (paths_of ds)) (sym e) (in_at ds j (omega arith))))
pairs (d ∷ ds) before post f (suc i) (suc j) lt within e = pairs ds (before ++ d.path ∷ []) post f.1 i j (omega arith) (omega arith) e

module _ (file : List ℕ) (plan : Plan) (journal : Option (List ℕ)) (different : different_from [] (names_of file plan journal) ≡ Ok tt) where
  -- the names from the disks' on
  from_disks : (before : List (List ℕ)) × Fresh before (paths_of plan.disks ++ name_in journal)
  from_disks =
      let all = fresh (names_of file plan journal) [] different in
      let first = skip (name_in plan.image) (name_in plan.script ++ (paths_of plan.disks ++ name_in journal)) (file ∷ []) all.1 in
      let second = skip (name_in plan.script) (paths_of plan.disks ++ name_in journal) (file ∷ [] ++ name_in plan.image) first in
      (_, second)

  pub apart : AreApart plan
  apart i j lt within = pairs plan.disks from_disks.0 (name_in journal) from_disks.1 i j lt within

  pub journal_apart : (name : List ℕ) → journal ≡ Some name → IsDiskOf plan name → ⊥
  journal_apart name is disk =
      let rest = skip (paths_of plan.disks) (name_in journal) from_disks.0 from_disks.1 in
      let one = subst (λ (o : Option (List ℕ)). Fresh (from_disks.0 ++ paths_of plan.disks) (name_in o)) is rest in
      one.0 (in_right name from_disks.0 (paths_of plan.disks) (subst (λ (y : List ℕ). IsIn y (paths_of plan.disks)) (sym disk.2) (in_at plan.disks disk.0 disk.1)))
