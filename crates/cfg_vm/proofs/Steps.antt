-- Loops over places, disks and variables.
use Rattle.std.proofs.Common.{◌≡◌, ◌∙◌, ℕ, suc, ◌+◌, ◌<◌, ◌≤◌, Bool, true, false, cond, ltb, List, [], ◌∷◌, ◌++◌, length, drop, refl, sym, ap, arith, add-one, drop-cons, append_assoc}
use Rattle.std.specs.Prelude.{Some, None, Result, Ok, Err, slice_get}
use Rattle.std.proofs.lemmas.Option.{slice_get_within, get_or_from_slice_get}
use Rattle.vm_law.specs.declared.plan.DiskPlan.{DiskPlan}
use Rattle.cfg_vm.specs.declared.error.PlanError.{PlanError}
use Rattle.cfg_vm.specs.declared.error.PlanError.TheVariants as error
use Rattle.cfg_vm.specs.declared.slot.Slot.{Slot}
use Rattle.cfg_vm.specs.Slot.{place}
use Rattle.cfg_vm.specs.Table.{Variables, is_built, notbuilt_among, put_slot}
use Rattle.std.specs.List.{filter, insert, position_or_len}
use Rattle.std.specs.Prelude.{position, nat_lt, not, map}
use Rattle.std.proofs.lemmas.Bool.{ltb-true, ltb-false}
use Rattle.std.proofs.lemmas.List.{take_all, drop_all}
use Rattle.cfg_vm.specs.Outcome.{Fault, Refuses, ◌>>=◌}

pub drop_at : {X : Type 0} (xs : List X) (i : ℕ) (x : X) → slice_get xs i ≡ Some x → drop i xs ≡ x ∷ drop (i + 1) xs
drop_at xs i x is = rw add-one (drop-cons xs i x (slice_get_within xs i x is) ∙ ap (λ y. y ∷ drop (suc i) xs) (get_or_from_slice_get xs i x x is))

-- disks that are planned already, before those that follow
abbrev pub onto : List DiskPlan → Result (List DiskPlan) Fault → Result (List DiskPlan) Fault
onto done (Ok more) = Ok (done ++ more)
onto done (Err e) = Err e

pub onto_next : (done : List DiskPlan) (disk : DiskPlan) (rest : Result (List DiskPlan) Fault) → onto done (rest >>= (λ disks. Ok (disk ∷ disks))) ≡ onto (done ++ disk ∷ []) rest
onto_next done disk (Ok more) = ap (λ (ds : List DiskPlan). Ok ds) (sym (append_assoc done (disk ∷ []) more))
onto_next done disk (Err e) = refl

pub refuses_first : {X Y : Type 0} (e : PlanError) (r : Result X Fault) (next : X → Result Y Fault) → Refuses e r → Refuses e (r >>= next)
refuses_first error.Memory r next h = tt
refuses_first (error.Fault variable kind) r next h = rw h refl

-- ---- what isn't built

pub among_next : (vs : Variables) (v : List ℕ × List ℕ) (rest : Variables) → notbuilt_among vs (v ∷ rest) ≡ notbuilt_among vs (v ∷ []) ++ notbuilt_among vs rest
among_next vs v rest = go (not (is_built vs v))
  where
    go : (t : Bool) → map (λ w. w.0) (cond t (v ∷ filter (λ w. not (is_built vs w)) rest) (filter (λ w. not (is_built vs w)) rest)) ≡ map (λ w. w.0) (cond t (v ∷ []) []) ++ notbuilt_among vs rest
    go true = refl
    go false = refl

-- ---- places in ascending order

one_more : (n : ℕ) → 1 + n ≡ suc n
one_more n = omega arith

put_at : (new : Slot) (xs : List Slot) → insert xs (position_or_len (λ s. nat_lt (place new) (place s)) xs) new ≡ put_slot new xs
put_at new [] = refl
put_at new (s ∷ ss) = go (nat_lt (place new) (place s)) (put_at new ss)
  where
    go : (t : Bool) → insert ss (position_or_len (λ x. nat_lt (place new) (place x)) ss) new ≡ put_slot new ss
        → insert (s ∷ ss) (cond (not t) (1 + position_or_len (λ x. nat_lt (place new) (place x)) ss) 0) new ≡ cond t (new ∷ s ∷ ss) (s ∷ put_slot new ss)
    go true later = refl
    go false later = rw (one_more (position_or_len (λ x. nat_lt (place new) (place x)) ss)) (ap (λ (xs : List Slot). s ∷ xs) later)

pub put_found : (new : Slot) (xs : List Slot) (at : ℕ) → Some at ≡ position (λ s. nat_lt (place new) (place s)) xs → (at ≤ length xs) × (insert xs at new ≡ put_slot new xs)
put_found new xs at is = go (ltb (position_or_len (λ s. nat_lt (place new) (place s)) xs) (length xs)) refl is
  where
    go : (t : Bool) → ltb (position_or_len (λ s. nat_lt (place new) (place s)) xs) (length xs) ≡ t → Some at ≡ cond t (Some (position_or_len (λ s. nat_lt (place new) (place s)) xs)) None → (at ≤ length xs) × (insert xs at new ≡ put_slot new xs)
    go true e is =
        let same : at ≡ position_or_len (λ s. nat_lt (place new) (place s)) xs = cc in
        let less : position_or_len (λ s. nat_lt (place new) (place s)) xs < length xs = ltb-true _ _ e in
        (omega (arith, same, less), rw same (put_at new xs))
    go false e is = absurd cc

-- where none is behind, it goes last
pub put_last : (new : Slot) (xs : List Slot) → None ≡ position (λ s. nat_lt (place new) (place s)) xs → xs ++ new ∷ [] ≡ put_slot new xs
put_last new xs is = go (ltb (position_or_len (λ s. nat_lt (place new) (place s)) xs) (length xs)) refl is
  where
    go : (t : Bool) → ltb (position_or_len (λ s. nat_lt (place new) (place s)) xs) (length xs) ≡ t → None ≡ cond t (Some (position_or_len (λ s. nat_lt (place new) (place s)) xs)) None → xs ++ new ∷ [] ≡ put_slot new xs
    go true e is = absurd cc
    go false e is =
        let past : length xs ≤ position_or_len (λ s. nat_lt (place new) (place s)) xs = ltb-false _ _ e in
        sym (ap (λ (ys : List Slot). ys ++ new ∷ drop (position_or_len (λ s. nat_lt (place new) (place s)) xs) xs) (take_all (position_or_len (λ s. nat_lt (place new) (place s)) xs) xs past) ∙ ap (λ (ys : List Slot). xs ++ new ∷ ys) (drop_all (position_or_len (λ s. nat_lt (place new) (place s)) xs) xs past)) ∙ put_at new xs
