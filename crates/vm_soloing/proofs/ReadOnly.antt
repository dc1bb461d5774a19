-- The image of a read-only disk reads as the disk, in every sector.
use Rattle.std.specs.Prelude.{◌==◌, ◌*◌, not, slice_get, slice_set, slice_index_or}
use Rattle.std.specs.List.{find}
use Rattle.std.proofs.Common.{◌≡◌, ℕ, zero, suc, ◌+◌, ◌<◌, ◌≤◌, Bool, true, false, List, [], ◌∷◌, ◌++◌, map, length, take, drop, get_or, refl, sym, ap, subst, ◌∙◌, inl, inr, Option, Some, None, cond, arith, length-drop}
use Rattle.std.proofs.lemmas.Bool.{cases_eq, cases_lt, and_parts, true≢false, eqb-true}
use Rattle.std.proofs.lemmas.List.{set_past, take-append-drop, drop-drop}
use Rattle.std.proofs.lemmas.Grind.{get_or-set_at}
use Rattle.std.proofs.lemmas.Option.{slice_get_within, get_or_from_slice_get, slice_get-get_or}
use Rattle.blk_queue.specs.Progress.{is_flush, is_flush_kind, is_read, is_read_kind}
use Rattle.blk_queue.specs.Queue.{request_of}
use Rattle.blk_queue.specs.Sound.{passes}
use Rattle.blk_queue.specs.declared.progress.Unfinished.{Unfinished}
use Rattle.vm_law.specs.declared.block.Kind.{Kind}
use Rattle.vm_law.specs.declared.block.Kind.TheVariants.{Read, Write, Flush}
use Rattle.vm_law.specs.declared.journal.Entry.{Entry}
use Rattle.vm_law.specs.declared.journal.Entry.TheVariants.{Hold, Put}
use Rattle.vm_law.specs.declared.journal.Signed.{Signed}
use Rattle.vm_state.specs.declared.image.DiskImage.{DiskImage}
use Rattle.vm_state.specs.declared.image.Holder.{Holder}
use Rattle.vm_state.specs.Machine.{drive_at, drive_count, is_drive}
use Rattle.vm_state.specs.Requests.{sector_of}
use Rattle.vm_state.specs.Sound.{IsSoundState}
use Rattle.vm_state.specs.State.{State, image_at, no_image}
use Rattle.vm_disks.specs.Images.{after_hold, after_put, come_back, is_holder, may_put, request_put}
use Rattle.vm_board.specs.Homes.{ReadsAs}
use Rattle.vm_board.proofs.Images.{after_images, hold_others, put_others}
use Rattle.vm_blkwork.proofs.Own.{Holds, holds_at}
use Rattle.vm_disks.proofs.Going.{request_here}
use Rattle.vm_table.specs.Table.{after, allowed, counted, effect, lawful}
use Rattle.vm_table.specs.History.{IsLegal, after_all, is_lawful_all, last_state}
use Rattle.vm_table.proofs.Keeps.{after_keeps}
use Rattle.vm_table.proofs.Plan.{after_drives}
use Rattle.vm_state.specs.declared.start.Start as start_type
use Rattle.vm_state.specs.Start.{IsSound, boot, boot_image, first_state, no_plan}
use Rattle.vm_soloing.proofs.Doubts.{boot_clear, marked, unmarked_at}
use Rattle.vm_soloing.proofs.Rights.{after_ro}
use Rattle.vm_soloing.proofs.Plans.{boot_drives_count, boot_is_sound, boot_ro}

-- ---- one entry

-- the image of disk d stays as it is but for who has it
pub record Remains (x y : DiskImage) : Type 0 where
  pub bytes : y.bytes ≡ x.bytes
  pub doubt : y.doubt ≡ x.doubt

remains : (x : DiskImage) → Remains x x
remains x = record { bytes = refl; doubt = refl }

at_remains : (s : State) (d : ℕ) (x : DiskImage) → Remains (image_at s d) x → Remains (image_at s d) (get_or (slice_set s.images d x) d no_image)
at_remains s d x h =
    elim (cases_lt d (length s.images)) [
      | inl l ↦ rw (get_or-set_at s.images d d x no_image refl l) h
      | inr past ↦ rw (set_past s.images d x past) (remains (image_at s d))
    ]

hold_remains : (s : State) (p d id : ℕ) → Remains (image_at s d) (image_at (after s (record { by = p; entry = Hold d id })) d)
unfolding after counted effect after_hold
hold_remains s p d id = at_remains s d _ (record { bytes = refl; doubt = refl })

put_flush : (image : DiskImage) (bytes : List ℕ) (o : Option Unfinished) (ok : Bool) (x : Unfinished) → o ≡ Some x → is_flush x.request ≡ true → Remains image (come_back (request_put image bytes o ok))
put_flush image bytes None ok x e f = record { bytes = refl; doubt = refl }
put_flush image bytes (Some y) ok x e f =
    let same : y ≡ x = cc in
    subst (λ (z : Unfinished). Remains image (come_back (request_put image bytes (Some z) ok))) (sym same)
    (rw f (record { bytes = refl; doubt = refl }))

put_remains : (s : State) (p d id : ℕ) (ok : Bool) (x : Unfinished) → request_of (drive_at s.machine d).queue id ≡ Some x → is_flush x.request ≡ true
    → Remains (image_at s d) (image_at (after s (record { by = p; entry = Put d id ok })) d)
unfolding after counted effect after_put
put_remains s p d id ok x e f = at_remains s d _ (put_flush (image_at s d) (drive_at s.machine d).bytes (request_of (drive_at s.machine d).queue id) ok x e f)

-- ---- which request it is

neither : (k : Kind) → is_read_kind k ≡ false → (k ≡ Write → ⊥) → is_flush_kind k ≡ true
neither Read r w = absurd (true≢false r)
neither Write r w = absurd (w refl)
neither Flush r w = refl

not_false : (b : Bool) → not b ≡ true → b ≡ false
not_false true e = absurd (true≢false (sym e))
not_false false e = refl

-- the request for which the image is out is no read
is_no_read : (s : State) (d p id : ℕ) (h : Holds s d p id) → is_read h.has.item.request ≡ false
is_no_read s d p id h =
    not_false _ (ap (λ (o : Option Unfinished). passes (λ (x : Unfinished). not (is_read x.request)) o) (sym h.has.is)
    ∙ sym (h.names.test id (λ (x : Unfinished). not (is_read x.request))) ∙ h.writes)

holder_is : (p id : ℕ) (o : Option Holder) → is_holder p id o ≡ true → o ≡ Some (record { by = p; id = id })
holder_is p id None e = absurd (true≢false (sym e))
holder_is p id (Some h) e =
    let t = and_parts (h.by == p) (h.id == id) e in
    let by : h.by ≡ p = eqb-true h.by p t.0 in
    let one : h.id ≡ id = eqb-true h.id id t.1 in
    ap (λ (n : ℕ). Some (record { by = n; id = h.id })) by ∙ ap (λ (n : ℕ). Some (record { by = p; id = n })) one

-- a request that is found stands at a place
found_place : (test : Unfinished → Bool) (xs : List Unfinished) (x : Unfinished) → find test xs ≡ Some x → (k : ℕ) × (slice_get xs k ≡ Some x)
found_place test [] x e = absurd cc
found_place test (y ∷ ys) x e = at (test y) refl e (found_place test ys x) where
  at : (b : Bool) → test y ≡ b → cond b (Some y) (find test ys) ≡ Some x → (find test ys ≡ Some x → (k : ℕ) × (slice_get ys k ≡ Some x))
      → (k : ℕ) × (slice_get (y ∷ ys) k ≡ Some x)
  at true is e later = (0, slice_get-get_or (y ∷ ys) 0 y (omega arith) ∙ e)
  at false is e later =
      let there = later e in
      let within = slice_get_within ys there.0 x there.1 in
      let here : get_or ys there.0 x ≡ x = get_or_from_slice_get ys there.0 x x there.1 in
      (suc there.0, slice_get-get_or (y ∷ ys) (suc there.0) x (omega (arith, within)) ∙ ap (λ (z : Unfinished). Some z) here)

module _ (s : State) (sound : IsSoundState s) (d : ℕ) (there : d < drive_count s.machine) (ro : (drive_at s.machine d).ro ≡ true) where
  flush_there : (p id : ℕ) (h : Holds s d p id) → is_flush h.has.item.request ≡ true
  flush_there p id h =
      let x = h.has.item in
      let found = found_place (λ (y : Unfinished). y.id == id) (drive_at s.machine d).queue.requests x h.has.is in
      let fits = request_here s.machine.ram (drive_at s.machine d) found.0 x (sound.machine.each_drive d there) found.1 in
      neither x.request.kind (is_no_read s d p id h) (fits.accepted.writable ro)

  put_stays : (p id : ℕ) (ok : Bool) → may_put s p d id ≡ true → Remains (image_at s d) (image_at (after s (record { by = p; entry = Put d id ok })) d)
  unfolding may_put
  put_stays p id ok may =
      let holder = holder_is p id (image_at s d).holder (and_parts (is_drive s.machine d) (is_holder p id (image_at s d).holder) may).1 in
      let h = holds_at s d p id sound there holder in
      put_remains s p d id ok h.has.item h.has.is (flush_there p id h)

  entry_remains : (p : ℕ) (e : Entry) → allowed s p e ≡ true → Remains (image_at s d) (image_at (after s (record { by = p; entry = e })) d)
  unfolding allowed
  entry_remains p (Hold c id) may =
      elim (cases_eq d c) [
        | inl e ↦ subst (λ (n : ℕ). Remains (image_at s d) (image_at (after s (record { by = p; entry = Hold n id })) d)) e (hold_remains s p d id)
        | inr ne ↦ (let k = (hold_others s p c id p).each d ne in record { bytes = k.bytes; doubt = k.doubt })
      ]
  entry_remains p (Put c id ok) may =
      elim (cases_eq d c) [
        | inl e ↦ subst (λ (n : ℕ). Remains (image_at s d) (image_at (after s (record { by = p; entry = Put n id ok })) d)) e
            (put_stays p id ok (subst (λ (n : ℕ). may_put s p n id ≡ true) (sym e) may))
        | inr ne ↦ (let k = (put_others s c id p ok).each d ne in record { bytes = k.bytes; doubt = k.doubt })
      ]
  entry_remains p e may = let k = (after_images s (record { by = p; entry = e }) refl).each d in record { bytes = k.bytes; doubt = k.doubt }

then_remains : (x y z : DiskImage) → Remains x y → Remains y z → Remains x z
then_remains x y z a b = record { bytes = b.bytes ∙ a.bytes; doubt = b.doubt ∙ a.doubt }

after_remains : (s : State) (x : Signed) → IsSoundState s → lawful s x.by x.entry ≡ true → (d : ℕ) → d < drive_count s.machine → (drive_at s.machine d).ro ≡ true
    → Remains (image_at s d) (image_at (after s x) d)
unfolding lawful
after_remains s x sound may d there ro = entry_remains s sound d there ro x.by x.entry (and_parts (not s.closed) (allowed s x.by x.entry) may).1

all_remains : (s : State) (xs : List Signed) → IsSoundState s → is_lawful_all s xs ≡ true → (d : ℕ) → d < drive_count s.machine → (drive_at s.machine d).ro ≡ true
    → Remains (image_at s d) (image_at (after_all s xs) d)
all_remains s [] sound may d there ro = remains (image_at s d)
all_remains s (x ∷ xs) sound may d there ro =
    let t = and_parts (lawful s x.by x.entry) (is_lawful_all (after s x) xs) may in
    then_remains (image_at s d) (image_at (after s x) d) (image_at (after_all (after s x) xs) d)
    (after_remains s x sound t.0 d there ro)
    (all_remains (after s x) xs (after_keeps s x sound t.0) t.1 d (omega (arith, there, after_drives s x)) (after_ro s x d ∙ ro))

-- ---- contents

same_sectors : (n : ℕ) (a b : List ℕ) → length a ≤ n → length b ≡ length a → ((k : ℕ) → sector_of a k ≡ sector_of b k) → a ≡ b
same_sectors zero a b le same each = empty a b (omega (arith, le)) (omega (arith, le, same)) where
  empty : (a b : List ℕ) → length a ≡ 0 → length b ≡ 0 → a ≡ b
  empty [] [] p q = refl
  empty [] (x ∷ xs) p q = absurd (omega (arith, q))
  empty (x ∷ xs) b p q = absurd (omega (arith, p))
same_sectors (suc n) [] [] le same each = refl
same_sectors (suc n) [] (y ∷ ys) le same each = absurd (omega (arith, same))
same_sectors (suc n) (x ∷ xs) b le same each =
    let a = x ∷ xs in
    let rest : drop 512 a ≡ drop 512 b =
    same_sectors n (drop 512 a) (drop 512 b) (omega (arith, le, length-drop 512 a)) (omega (arith, same, length-drop 512 a, length-drop 512 b))
    (λ k. sector_on a k ∙ each (k + 1) ∙ sym (sector_on b k)) in
    sym (take-append-drop 512 a) ∙ ap (λ (l : List ℕ). l ++ drop 512 a) (each 0) ∙ ap (λ (l : List ℕ). take 512 b ++ l) rest ∙ take-append-drop 512 b
  where
    sector_on : (l : List ℕ) (k : ℕ) → sector_of (drop 512 l) k ≡ sector_of l (k + 1)
    sector_on l k = ap (λ (m : List ℕ). take 512 m) (drop-drop (512 * k) 512 l ∙ ap (λ (n : ℕ). drop n l) (omega arith))

pub reads_whole : (content : List ℕ) (image : DiskImage) → ReadsAs content image → marked image.doubt ≡ false → content ≡ image.bytes
reads_whole content image reads clear =
    same_sectors (length content) content image.bytes (omega arith) (sym reads.size) (λ k. reads.each k (unmarked_at image.doubt k clear))

-- ---- a history

boot_image_in : (disks : List (List ℕ)) (d : ℕ) → (get_or (map boot_image disks) d no_image).bytes ≡ get_or disks d []
unfolding no_image
boot_image_in [] d = refl
boot_image_in (bytes ∷ disks) zero = refl
boot_image_in (bytes ∷ disks) (suc d) = boot_image_in disks d

boot_bytes : (start : start_type.Start) (d : ℕ) → (image_at (boot start) d).bytes ≡ get_or start.disks d []
unfolding first_state
boot_bytes start d = boot_image_in start.disks d

-- a read-only disk reads as the start's disk
pub reads_as_disk : (start : start_type.Start) (history : List Signed) → IsSound start → IsLegal start history → (d : ℕ) → d < length start.plan.disks
    → (slice_index_or start.plan.disks d no_plan).ro ≡ true → (content : List ℕ) → ReadsAs content (image_at (last_state start history) d) → content ≡ get_or start.disks d []
reads_as_disk start history sound legal d within ro content reads =
    let s = boot start in
    let there : d < drive_count s.machine = omega (arith, within, boot_drives_count start sound) in
    let kept = all_remains s history (boot_is_sound start sound) legal d there (boot_ro start sound d within ∙ ro) in
    reads_whole content (image_at (last_state start history) d) reads (ap marked kept.doubt ∙ boot_clear start d) ∙ kept.bytes ∙ boot_bytes start d
