-- A sector of a disk is in doubt only where a call of the disk's image failed.
use Rattle.std.specs.Prelude.{◌||◌, ◌==◌, nat_lt, slice_set, slice_index_or, replicate, if◌then◌else◌}
use Rattle.std.specs.List.{count_by, list_any, range_with_len}
use Rattle.std.proofs.Common.{◌≡◌, ℕ, zero, suc, ◌+◌, ◌<◌, Bool, true, false, List, [], ◌∷◌, map, length, get_or, refl, sym, ap, subst, ◌∙◌, inl, inr, Option, Some, None, arith}
use Rattle.std.proofs.lemmas.Bool.{cases_Bool, cases_eq, cases_lt, or_parts, and_from, true≢false, eq-eqb}
use Rattle.std.proofs.lemmas.List.{set_past}
use Rattle.std.proofs.lemmas.Grind.{get_or-set_at}
use Rattle.blk_queue.specs.Progress.{is_flush}
use Rattle.blk_queue.specs.Queue.{request_of}
use Rattle.blk_queue.specs.declared.progress.Unfinished.{Unfinished}
use Rattle.vm_law.specs.declared.journal.Entry.{Entry}
use Rattle.vm_law.specs.declared.journal.Entry.TheVariants.{Hold, Put}
use Rattle.vm_law.specs.declared.journal.Signed.{Signed}
use Rattle.vm_state.specs.declared.image.DiskImage.{DiskImage}
use Rattle.vm_state.specs.declared.start.Start as start_type
use Rattle.vm_state.specs.Machine.{drive_at, drive_count}
use Rattle.vm_state.specs.Requests.{capacity_of, next_sector}
use Rattle.vm_state.specs.Start.{boot, boot_image, first_state}
use Rattle.vm_state.specs.State.{State, image_at, no_image}
use Rattle.vm_disks.specs.Images.{after_hold, after_put, come_back, request_put, sector_put}
use Rattle.vm_board.specs.Homes.{has_failed, is_failed_put}
use Rattle.vm_board.proofs.Images.{after_images, hold_others, put_others}
use Rattle.vm_outcome.specs.Telling.{has_doubt}
use Rattle.vm_table.specs.History.{after_all, last_state}
use Rattle.vm_table.specs.Table.{after, counted, effect}
use Rattle.vm_table.specs.Tally.{tally_of}

-- ---- lists of marks

-- a mark stands
abbrev pub marked : List Bool → Bool
marked xs = list_any (λ (b : Bool). b) xs

set_unmarked : (xs : List Bool) (k : ℕ) → marked xs ≡ false → marked (slice_set xs k false) ≡ false
set_unmarked [] k h = refl
set_unmarked (x ∷ xs) zero h = (or_parts x (marked xs) h).1
set_unmarked (x ∷ xs) (suc k) h = let p = or_parts x (marked xs) h in or_both x (marked (slice_set xs k false)) p.0 (set_unmarked xs k p.1) where
  or_both : (a b : Bool) → a ≡ false → b ≡ false → (a || b) ≡ false
  or_both true b p q = p
  or_both false b p q = q

pub unmarked_at : (xs : List Bool) (k : ℕ) → marked xs ≡ false → slice_index_or xs k false ≡ false
unmarked_at [] k h = refl
unmarked_at (x ∷ xs) zero h = (or_parts x (marked xs) h).0
unmarked_at (x ∷ xs) (suc k) h = unmarked_at xs k (or_parts x (marked xs) h).1

unmarked_count : (xs : List Bool) → marked xs ≡ false → count_by (λ (b : Bool). b) xs ≡ 0
unmarked_count [] h = refl
unmarked_count (true ∷ xs) h = absurd (true≢false h)
unmarked_count (false ∷ xs) h = unmarked_count xs h

unmarked_replicate : (n : ℕ) → marked (replicate n false) ≡ false
unmarked_replicate zero = refl
unmarked_replicate (suc n) = unmarked_replicate n

-- ---- one entry

abbrev pub IsClear : State → ℕ → Type 0
IsClear s d = marked (image_at s d).doubt ≡ false

put_clear : (image : DiskImage) (bytes : List ℕ) (o : Option Unfinished) → marked image.doubt ≡ false → marked (come_back (request_put image bytes o true)).doubt ≡ false
put_clear image bytes None h = h
put_clear image bytes (Some x) h =
    elim (is_flush x.request) as (λ b. marked (if b then image else sector_put image bytes (next_sector x) true).doubt ≡ false)
    [ true ↦ h | false ↦ set_unmarked image.doubt (next_sector x) h ]

-- image d is another that is clear too
at_clear : (s : State) (d : ℕ) (x : DiskImage) → IsClear s d → marked x.doubt ≡ false → marked (get_or (slice_set s.images d x) d no_image).doubt ≡ false
at_clear s d x h c =
    elim (cases_lt d (length s.images)) [
      | inl l ↦ rw (get_or-set_at s.images d d x no_image refl l) c
      | inr past ↦ rw (set_past s.images d x past) h
    ]

held_clear : (s : State) (p d id : ℕ) → IsClear s d → IsClear (after s (record { by = p; entry = Hold d id })) d
unfolding after counted effect after_hold
held_clear s p d id h = at_clear s d _ h h

given_clear : (s : State) (p d id : ℕ) → IsClear s d → IsClear (after s (record { by = p; entry = Put d id true })) d
unfolding after counted effect after_put
given_clear s p d id h = at_clear s d _ h (put_clear (image_at s d) (drive_at s.machine d).bytes (request_of (drive_at s.machine d).queue id) h)

abbrev same_marks : (s t : State) (d : ℕ) → (image_at t d).doubt ≡ (image_at s d).doubt → IsClear s d → IsClear t d
same_marks s t d e h = ap marked e ∙ h

entry_clear : (s : State) (d p : ℕ) (e : Entry) → is_failed_put d e ≡ false → IsClear s d → IsClear (after s (record { by = p; entry = e })) d
entry_clear s d p (Hold c id) f h =
    elim (cases_eq d c) [
      | inl e ↦ subst (λ (n : ℕ). IsClear (after s (record { by = p; entry = Hold n id })) d) e (held_clear s p d id h)
      | inr ne ↦ same_marks s (after s (record { by = p; entry = Hold c id })) d ((hold_others s p c id p).each d ne).doubt h
    ]
entry_clear s d p (Put c id true) f h =
    elim (cases_eq d c) [
      | inl e ↦ subst (λ (n : ℕ). IsClear (after s (record { by = p; entry = Put n id true })) d) e (given_clear s p d id h)
      | inr ne ↦ same_marks s (after s (record { by = p; entry = Put c id true })) d ((put_others s c id p true).each d ne).doubt h
    ]
entry_clear s d p (Put c id false) f h =
    same_marks s (after s (record { by = p; entry = Put c id false })) d ((put_others s c id p false).each d (λ e. true≢false (sym (and_from (c == d) true (eq-eqb c d (sym e)) refl) ∙ f))).doubt h
entry_clear s d p e f h = same_marks s (after s (record { by = p; entry = e })) d ((after_images s (record { by = p; entry = e }) refl).each d).doubt h

all_clear : (s : State) (d : ℕ) (xs : List Signed) → has_failed d xs ≡ false → IsClear s d → IsClear (after_all s xs) d
all_clear s d [] f h = h
all_clear s d (x ∷ xs) f h =
    let p = or_parts (is_failed_put d x.entry) (has_failed d xs) f in
    all_clear (after s x) d xs p.1 (entry_clear s d x.by x.entry p.0 h)

-- ---- a history

boot_clear_in : (disks : List (List ℕ)) (d : ℕ) → marked (get_or (map boot_image disks) d no_image).doubt ≡ false
unfolding no_image
boot_clear_in [] d = refl
boot_clear_in (bytes ∷ disks) zero = unmarked_replicate (capacity_of bytes)
boot_clear_in (bytes ∷ disks) (suc d) = boot_clear_in disks d

pub boot_clear : (start : start_type.Start) (d : ℕ) → IsClear (boot start) d
unfolding first_state
boot_clear start d = boot_clear_in start.disks d

pub never_in_doubt : (start : start_type.Start) (history : List Signed) (d : ℕ) → has_failed d history ≡ false → IsClear (last_state start history) d
never_in_doubt start history d f = all_clear (boot start) d history f (boot_clear start d)

-- ---- the disk of which a sector is in doubt

some_in : (p : ℕ → Bool) (a n : ℕ) → list_any p (range_with_len a n) ≡ true → (d : ℕ) × (d < a + n) × (p d ≡ true)
some_in p a zero h = absurd (true≢false (sym h))
some_in p a (suc n) h =
    elim (cases_Bool (p a)) [
      | inl found ↦ (a, omega arith, found)
      | inr lacks ↦ (let later = some_in p (a + 1) n (rest (p a) (list_any p (range_with_len (a + 1) n)) lacks h) in (later.0, omega (arith, later.1), later.2))
    ] where
      rest : (x y : Bool) → x ≡ false → (x || y) ≡ true → y ≡ true
      rest true y f h = absurd (true≢false f)
      rest false y f h = h

doubt_at : (s : State) (d : ℕ) → IsClear s d → nat_lt 0 (tally_of s d).doubt ≡ false
doubt_at s d h = ap (λ (n : ℕ). nat_lt 0 n) (unmarked_count (image_at s d).doubt h)

pub doubt_has_cause : (start : start_type.Start) (history : List Signed) → has_doubt (last_state start history) ≡ true
    → (d : ℕ) × (d < drive_count (last_state start history).machine) × (has_failed d history ≡ true)
doubt_has_cause start history h =
    let s = last_state start history in
    let found = some_in (λ d. nat_lt 0 (tally_of s d).doubt) 0 (drive_count s.machine) h in
    elim (cases_Bool (has_failed found.0 history)) [
      | inl failed ↦ (found.0, omega (arith, found.1), failed)
      | inr never ↦ absurd (true≢false (sym found.2 ∙ doubt_at s found.0 (never_in_doubt start history found.0 never)))
    ]
