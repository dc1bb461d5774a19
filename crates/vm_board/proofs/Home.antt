-- Images at home, in a history that is one entry longer.
use Rattle.std.proofs.Common.{◌≡◌, ◌≢◌, ℕ, ◌+◌, ◌<◌, Bool, true, false, not, List, [], ◌∷◌, ◌++◌, zero, suc, map, length, get_or, refl, sym, ap, subst, ◌∙◌, inl, inr, Option, Some, None, arith}
use Rattle.std.specs.Prelude.{◌||◌, ◌&&◌, ◌==◌, slice_index_or, slice_set, is_none}
use Rattle.std.proofs.Math.ListN.{length-set}
use Rattle.std.proofs.lemmas.List.{get_or-set_other, length-map}
use Rattle.std.proofs.lemmas.Bool.{cases_eq, and_parts, true≢false}
use Rattle.std.proofs.lemmas.Bool.Decides.{nat_tests}
use Rattle.std.proofs.lemmas.Grind.{get_or-set_at, common_steps}
use Rattle.vm_law.specs.declared.journal.Entry.{Entry}
use Rattle.vm_law.specs.declared.journal.Entry.TheVariants.{Hold, Put}
use Rattle.vm_law.specs.declared.journal.Signed.{Signed}
use Rattle.vm_host.specs.Views.{ImageView}
use Rattle.vm_state.specs.declared.image.DiskImage.{DiskImage}
use Rattle.vm_state.specs.declared.image.Holder.{Holder}
use Rattle.vm_state.specs.declared.start.Start.{Start}
use Rattle.blk_queue.specs.Queue.{request_of}
use Rattle.vm_state.specs.Machine.{drive_at, drive_count, is_drive}
use Rattle.vm_state.specs.Sound.{IsSoundState}
use Rattle.vm_state.specs.Start.{boot, boot_image, first_state}
use Rattle.vm_state.specs.State.{State, image_at, no_image}
use Rattle.vm_disks.specs.Images.{may_hold, after_hold, may_put, after_put, is_holder}
use Rattle.vm_table.specs.History.{last_state}
use Rattle.vm_table.specs.Table.{allowed, lawful, effect, counted, after}
use Rattle.vm_board.specs.Calls.{moves_image}
use Rattle.vm_board.specs.Homes.{ReadsAs, IsAtHome, IsHomeOrOut, IsFresh, AreFresh, AreHomes, has_failed, is_failed_put, flushes_from, is_flush_of, is_flushed_put}
use Rattle.vm_board.proofs.Histories.{after_more, failed_more, flushes_more, one_where}
use Rattle.vm_board.proofs.Images.{Stays, OthersStay, after_images, hold_others, put_others}

-- ---- one image

reads_stay : (content : List ℕ) (x y : DiskImage) → y.bytes ≡ x.bytes → y.doubt ≡ x.doubt → ReadsAs content x → ReadsAs content y
reads_stay content x y b m r = record {
  size = r.size ∙ sym (ap (λ (bs : List ℕ). length bs) b);
  each = λ k h. rw b (r.each k (sym (ap (λ (bs : List Bool). slice_index_or bs k false) m) ∙ h));
}

pub at_home_bytes : (start : Start) (journal : List Signed) (x : Signed) (d : ℕ) (v : ImageView)
    → (image_at (after (last_state start journal) x) d).bytes ≡ (image_at (last_state start journal) d).bytes → (image_at (after (last_state start journal) x) d).doubt ≡ (image_at (last_state start journal) d).doubt
    → is_failed_put d x.entry ≡ false → is_flushed_put (last_state start journal) d x.entry ≡ false
    → IsAtHome start journal d v → IsAtHome start (journal ++ x ∷ []) d v
at_home_bytes start journal x d v b m f n h =
    let last = after_more (boot start) journal x in record {
      reads = λ told. subst (λ (t : State). ReadsAs v.content (image_at t d)) (sym last) (reads_stay v.content _ _ b m (h.reads told));
      failed = λ e. h.failed (failed_before (has_failed d journal) (is_failed_put d x.entry) (sym (failed_more d journal x) ∙ e) f);
      synced = rw (flushes_more (boot start) d journal x, n, zero_more (flushes_from (boot start) d journal)) h.synced;
    } where
      failed_before : (a b : Bool) → (a || b) ≡ true → b ≡ false → a ≡ true
      failed_before true b e f = refl
      failed_before false b e f = absurd (true≢false (sym e ∙ f))

      zero_more : (n : ℕ) → n + one_where false ≡ n
      zero_more n = grind arith

pub at_home_more : (start : Start) (journal : List Signed) (x : Signed) (d : ℕ) (v : ImageView)
    → Stays (image_at (last_state start journal) d) (image_at (after (last_state start journal) x) d) → is_failed_put d x.entry ≡ false → is_flushed_put (last_state start journal) d x.entry ≡ false
    → IsAtHome start journal d v → IsAtHome start (journal ++ x ∷ []) d v
at_home_more start journal x d v s f n h = at_home_bytes start journal x d v s.bytes s.doubt f n h

-- what isn't a Put says nothing of an image
no_failure : (d : ℕ) (e : Entry) → moves_image e ≡ false → is_failed_put d e ≡ false
no_failure d (Put c id ok) m = absurd (true≢false m)
no_failure d e m = refl

no_flush : (s : State) (d : ℕ) (e : Entry) → moves_image e ≡ false → is_flushed_put s d e ≡ false
no_flush s d (Put c id ok) m = absurd (true≢false m)
no_flush s d e m = refl

other_disk : (c d : ℕ) → d ≢ c → (c == d) ≡ false
other_disk c d ne = grind (arith, nat_tests, ne)

-- ---- each image

module _ {I : Type 0} (seen : I → ImageView) where
  home_or_out : (start : Start) (before now : List Signed) (d : ℕ) (h k : Option Holder) (o : Option I) → k ≡ h → ((v : ImageView) → IsAtHome start before d v → IsAtHome start now d v)
      → IsHomeOrOut seen start before d h o → IsHomeOrOut seen start now d k o
  home_or_out start before now d h k o e f x = subst (λ (y : Option Holder). IsHomeOrOut seen start now d y o) (sym e) (by_cases h o x) where
    by_cases : (h : Option Holder) (o : Option I) → IsHomeOrOut seen start before d h o → IsHomeOrOut seen start now d h o
    by_cases None None x = x
    by_cases None (Some image) x = f (seen image) x
    by_cases (Some y) None x = x
    by_cases (Some y) (Some image) x = x

  -- disk d's image stays, and the entry says nothing of it
  disk_stays : (start : Start) (journal : List Signed) (x : Signed) (d : ℕ) (o : Option I) → Stays (image_at (last_state start journal) d) (image_at (after (last_state start journal) x) d)
      → is_failed_put d x.entry ≡ false → is_flushed_put (last_state start journal) d x.entry ≡ false
      → IsHomeOrOut seen start journal d (image_at (last_state start journal) d).holder o → IsHomeOrOut seen start (journal ++ x ∷ []) d (image_at (last_state start (journal ++ x ∷ [])) d).holder o
  disk_stays start journal x d o s f n h =
      home_or_out start journal (journal ++ x ∷ []) d (image_at (last_state start journal) d).holder _ o
      (ap (λ (t : State). (image_at t d).holder) (after_more (boot start) journal x) ∙ s.holder)
      (λ v. at_home_more start journal x d v s f n) h

  -- an entry that moves no image
  pub homes_stay : (start : Start) (journal : List Signed) (x : Signed) (images : List (Option I)) → moves_image x.entry ≡ false → AreHomes seen start journal images → AreHomes seen start (journal ++ x ∷ []) images
  homes_stay start journal x images m h =
      let a = after_images (last_state start journal) x m in record {
        count = h.count ∙ sym (ap (λ (t : State). length t.images) (after_more (boot start) journal x) ∙ a.count);
        each = λ d l. disk_stays start journal x d (get_or images d None) (a.each d) (no_failure d x.entry m) (no_flush (last_state start journal) d x.entry m) (h.each d l);
      }

  -- the image of disk c goes out, or comes back
  one_set : (start : Start) (journal : List Signed) (x : Signed) (images : List (Option I)) (c : ℕ) (o : Option I) → OthersStay (last_state start journal).images (after (last_state start journal) x).images c
      → ((d : ℕ) → d ≢ c → is_failed_put d x.entry ≡ false) → ((d : ℕ) → d ≢ c → is_flushed_put (last_state start journal) d x.entry ≡ false)
      → IsHomeOrOut seen start (journal ++ x ∷ []) c (image_at (last_state start (journal ++ x ∷ [])) c).holder o
      → AreHomes seen start journal images → AreHomes seen start (journal ++ x ∷ []) (slice_set images c o)
  one_set start journal x images c o s f n one h = record {
    count = length-set images c o ∙ h.count ∙ sym (ap (λ (t : State). length t.images) (after_more (boot start) journal x) ∙ s.count);
    each = λ d l. (let within : d < length images = subst (λ n. d < n) (length-set images c o) l in
        elim (cases_eq d c) [
          | inl e ↦ subst (λ k. IsHomeOrOut seen start (journal ++ x ∷ []) k (image_at (last_state start (journal ++ x ∷ [])) k).holder (get_or (slice_set images c o) k None)) (sym e)
              (rw (get_or-set_at images c c o None refl (subst (λ k. k < length images) e within)) one)
          | inr other ↦ rw (get_or-set_other images c d o None other) (disk_stays start journal x d (get_or images d None) (s.each d other) (f d other) (n d other) (h.each d within))
        ]);
  }

-- ---- Hold and Put of disk c

hold_here : (s : State) (c id q : ℕ) → c < length s.images → (image_at (after s (record { by = q; entry = Hold c id })) c).holder ≡ Some (record { by = q; id = id })
unfolding after counted effect after_hold
hold_here s c id q l = ap (λ (x : DiskImage). x.holder) (get_or-set_at s.images c c _ no_image refl l)

hold_stays_bytes : (s : State) (c id q : ℕ) → c < length s.images → (image_at (after s (record { by = q; entry = Hold c id })) c).bytes ≡ (image_at s c).bytes
unfolding after counted effect after_hold
hold_stays_bytes s c id q l = ap (λ (x : DiskImage). x.bytes) (get_or-set_at s.images c c _ no_image refl l)

hold_stays_doubt : (s : State) (c id q : ℕ) → c < length s.images → (image_at (after s (record { by = q; entry = Hold c id })) c).doubt ≡ (image_at s c).doubt
unfolding after counted effect after_hold
hold_stays_doubt s c id q l = ap (λ (x : DiskImage). x.doubt) (get_or-set_at s.images c c _ no_image refl l)

put_here : (s : State) (c id q : ℕ) (ok : Bool) → c < length s.images → (image_at (after s (record { by = q; entry = Put c id ok })) c).holder ≡ None
unfolding after counted effect after_put
put_here s c id q ok l = ap (λ (x : DiskImage). x.holder) (get_or-set_at s.images c c _ no_image refl l)

hold_allowed : (s : State) (q c id : ℕ) → lawful s q (Hold c id) ≡ true → (is_drive s.machine c ≡ true) × (is_none (image_at s c).holder ≡ true)
unfolding lawful allowed may_hold
hold_allowed s q c id l = (grind (arith, nat_tests, common_steps, and_parts), grind (arith, nat_tests, common_steps, and_parts))

put_allowed : (s : State) (q c id : ℕ) (ok : Bool) → lawful s q (Put c id ok) ≡ true → (is_drive s.machine c ≡ true) × (is_holder q id (image_at s c).holder ≡ true)
unfolding lawful allowed may_put
put_allowed s q c id ok l = (grind (arith, nat_tests, common_steps, and_parts), grind (arith, nat_tests, common_steps, and_parts))

pub hold_drives : (s : State) (c id q : ℕ) → drive_count (after s (record { by = q; entry = Hold c id })).machine ≡ drive_count s.machine
unfolding after counted effect after_hold
hold_drives s c id q = length-set s.machine.drives c _

is_there : (s : State) (c : ℕ) → is_drive s.machine c ≡ true → c < drive_count s.machine
is_there s c d = grind (arith, nat_tests, d)

pub hold_drive : (s : State) (q c id : ℕ) → lawful s q (Hold c id) ≡ true → c < drive_count (after s (record { by = q; entry = Hold c id })).machine
hold_drive s q c id l = subst (λ n. c < n) (sym (hold_drives s c id q)) (is_there s c (hold_allowed s q c id l).0)

same_number : (n : ℕ) → (n == n) ≡ true
same_number n = grind (arith, nat_tests)

pub hold_holder : (s : State) (q c id : ℕ) → c < length s.images → is_holder q id (image_at (after s (record { by = q; entry = Hold c id })) c).holder ≡ true
hold_holder s q c id l = ap (is_holder q id) (hold_here s c id q l) ∙ both_true (q == q) (id == id) (same_number q) (same_number id) where
  both_true : (a b : Bool) → a ≡ true → b ≡ true → (a && b) ≡ true
  both_true a b p r = grind (arith, common_steps)

within : (s : State) (c : ℕ) → IsSoundState s → is_drive s.machine c ≡ true → c < length s.images
within s c h d = grind (arith, nat_tests, h.images.count, d)

pub hold_within : (s : State) (q c id : ℕ) → IsSoundState s → lawful s q (Hold c id) ≡ true → c < length s.images
hold_within s q c id h l = within s c h (hold_allowed s q c id l).0

pub put_within : (s : State) (q c id : ℕ) (ok : Bool) → IsSoundState s → lawful s q (Put c id ok) ≡ true → c < length s.images
put_within s q c id ok h l = within s c h (put_allowed s q c id ok l).0

no_flush_there : (s : State) (c d id : ℕ) (ok : Bool) → d ≢ c → is_flushed_put s d (Put c id ok) ≡ false
no_flush_there s c d id ok ne = ap (λ b. b && ok && is_flush_of (request_of (drive_at s.machine d).queue id)) (other_disk c d ne)

module _ {I : Type 0} (seen : I → ImageView) where
  pub homes_hold : (start : Start) (journal : List Signed) (images : List (Option I)) (q c id : ℕ) → c < length (last_state start journal).images → AreHomes seen start journal images
      → AreHomes seen start (journal ++ record { by = q; entry = Hold c id } ∷ []) (slice_set images c None)
  homes_hold start journal images q c id l h =
      let x : Signed = record { by = q; entry = Hold c id } in
      let e : (image_at (last_state start (journal ++ x ∷ [])) c).holder ≡ Some (record { by = q; id = id }) = ap (λ (t : State). (image_at t c).holder) (after_more (boot start) journal x) ∙ hold_here (last_state start journal) c id q l in
      one_set seen start journal x images c None (hold_others (last_state start journal) q c id q) (λ d ne. refl) (λ d ne. refl)
      (subst (λ (o : Option Holder). IsHomeOrOut seen start (journal ++ x ∷ []) c o None) (sym e) tt) h

  pub homes_put : (start : Start) (journal : List Signed) (images : List (Option I)) (q c id : ℕ) (ok : Bool) (image : I) → c < length (last_state start journal).images
      → IsAtHome start (journal ++ record { by = q; entry = Put c id ok } ∷ []) c (seen image) → AreHomes seen start journal images
      → AreHomes seen start (journal ++ record { by = q; entry = Put c id ok } ∷ []) (slice_set images c (Some image))
  homes_put start journal images q c id ok image l home h =
      let x : Signed = record { by = q; entry = Put c id ok } in
      let e : (image_at (last_state start (journal ++ x ∷ [])) c).holder ≡ None = ap (λ (t : State). (image_at t c).holder) (after_more (boot start) journal x) ∙ put_here (last_state start journal) c id q ok l in
      one_set seen start journal x images c (Some image) (put_others (last_state start journal) c id q ok)
      (λ d ne. ap (λ b. b && not ok) (other_disk c d ne)) (λ d ne. no_flush_there (last_state start journal) c d id ok ne)
      (subst (λ (o : Option Holder). IsHomeOrOut seen start (journal ++ x ∷ []) c o (Some image)) (sym e) home) h

  -- ---- what goes out

  -- the image of disk c is there, and stays as at home while it is out
  pub record GoesOut (start : Start) (journal : List Signed) (images : List (Option I)) (x : Signed) (c : ℕ) : Type 0 where
    pub image : I
    pub there : slice_index_or images c None ≡ Some image
    pub home : IsAtHome start (journal ++ x ∷ []) c (seen image)

  out_by : (start : Start) (journal : List Signed) (images : List (Option I)) (x : Signed) (c : ℕ) (h : Option Holder) (o : Option I) → slice_index_or images c None ≡ o → is_none h ≡ true
      → ((v : ImageView) → IsAtHome start journal c v → IsAtHome start (journal ++ x ∷ []) c v) → IsHomeOrOut seen start journal c h o → GoesOut start journal images x c
  out_by start journal images x c None None e n f home = absurd home
  out_by start journal images x c None (Some image) e n f home = record { image = image; there = e; home = f (seen image) home }
  out_by start journal images x c (Some y) o e n f home = absurd (true≢false (sym n))

  pub goes_out : (start : Start) (journal : List Signed) (images : List (Option I)) (q c id : ℕ) → c < length (last_state start journal).images
      → lawful (last_state start journal) q (Hold c id) ≡ true → AreHomes seen start journal images → GoesOut start journal images (record { by = q; entry = Hold c id }) c
  goes_out start journal images q c id l m h =
      let s = last_state start journal in
      let x : Signed = record { by = q; entry = Hold c id } in
      out_by start journal images x c (image_at s c).holder (slice_index_or images c None) refl (hold_allowed s q c id m).1
      (λ v. at_home_bytes start journal x c v (hold_stays_bytes s c id q l) (hold_stays_doubt s c id q l) refl refl)
      (h.each c (subst (λ n. c < n) (sym h.count) l))

  -- ---- the start

  record IsHere (start : Start) (images : List I) (disks : List (List ℕ)) (d : ℕ) : Type 0 where
    pub disk : List ℕ
    pub image : I
    pub at : slice_index_or (map Some images) d None ≡ Some image
    pub of : slice_index_or (map boot_image disks) d no_image ≡ boot_image disk
    pub fresh : IsFresh disk (seen image)

  here : (start : Start) (disks : List (List ℕ)) (images : List I) → AreFresh seen disks images → (d : ℕ) → d < length images → IsHere start images disks d
  here start [] [] a d l = absurd (omega arith)
  here start [] (x ∷ xs) a d l = absurd a
  here start (k ∷ ks) [] a d l = absurd a
  here start (k ∷ ks) (x ∷ xs) a zero l = record { disk = k; image = x; at = refl; of = refl; fresh = a.0 }
  here start (k ∷ ks) (x ∷ xs) a (suc d) l = let r = here start ks xs a.1 d (omega arith) in record { disk = r.disk; image = r.image; at = r.at; of = r.of; fresh = r.fresh }

  as_many : (disks : List (List ℕ)) (images : List I) → AreFresh seen disks images → length images ≡ length disks
  as_many [] [] a = refl
  as_many [] (x ∷ xs) a = absurd a
  as_many (k ∷ ks) [] a = absurd a
  as_many (k ∷ ks) (x ∷ xs) a = ap suc (as_many ks xs a.1)

  pub boot_homes : (start : Start) (images : List I) → AreFresh seen start.disks images → AreHomes seen start [] (map Some images)
  unfolding first_state
  boot_homes start images a = record {
    count = length-map images Some ∙ as_many start.disks images a ∙ sym (length-map start.disks boot_image);
    each = λ d l. (let r = here start start.disks images a d (subst (λ n. d < n) (length-map images Some) l) in
        rw (r.of, r.at) (record {
          reads = λ told. (let same = r.fresh.0 told in rw (r.of, same) (record { size = refl; each = λ k h. refl }));
          failed = λ e. absurd (true≢false (sym e));
          synced = omega arith;
        }));
  }
