-- An image after the call on it: it is as one at home after the Put that is due.
use Rattle.std.proofs.Common.{◌≡◌, ℕ, ◌+◌, ◌-◌, ◌*◌, ◌^◌, ◌<◌, ◌≤◌, Bool, true, false, not, List, [], ◌∷◌, ◌++◌, take, drop, length, refl, sym, ap, subst, ◌∙◌, inl, inr, Option, Some, None, arith}
use Rattle.std.specs.Prelude.{◌||◌, ◌&&◌, ◌==◌, min, if◌then◌else◌}
use Rattle.std.proofs.lemmas.List.{get_or-set_other}
use Rattle.std.proofs.lemmas.Bool.{cases_eq, true≢false}
use Rattle.std.proofs.lemmas.Bool.Decides.{nat_tests}
use Rattle.std.proofs.lemmas.Grind.{get_or-set_at}
use Rattle.vm_law.specs.declared.journal.Entry.TheVariants.{Put}
use Rattle.vm_law.specs.declared.journal.Signed.{Signed}
use Rattle.vm_host.specs.Counts.{Rose}
use Rattle.vm_host.specs.Views.{ImageView}
use Rattle.blk_queue.specs.Progress.{is_flush}
use Rattle.blk_queue.specs.Queue.{request_of}
use Rattle.blk_queue.specs.declared.progress.Unfinished.{Unfinished}
use Rattle.vm_state.specs.declared.image.DiskImage.{DiskImage}
use Rattle.vm_state.specs.declared.start.Start.{Start}
use Rattle.vm_state.specs.Machine.{drive_at}
use Rattle.vm_state.specs.Requests.{capacity_of, next_sector, sector_of, with_sector}
use Rattle.vm_state.specs.Start.{boot}
use Rattle.vm_state.specs.State.{State, image_at, no_image}
use Rattle.vm_disks.specs.Images.{after_put, come_back, request_put, sector_put}
use Rattle.vm_disks.proofs.Segments.{length_sector}
use Rattle.vm_table.specs.History.{last_state}
use Rattle.vm_table.specs.Table.{effect, counted, after}
use Rattle.vm_board.specs.Homes.{IsAtHome, ReadsAs, has_failed, flushes_from, is_flush_of, held_of, held_sector}
use Rattle.vm_board.proofs.Histories.{after_more, failed_more, flushes_more, one_where}
use Rattle.vm_blkwork.specs.Outside.{IsMade, IsWritten}
use Rattle.vm_blkwork.proofs.Sectors.{other_sector, written_sector, written_outside}

pub put_image : (s : State) (p d id : ℕ) (ok : Bool) → d < length s.images
    → image_at (after s (record { by = p; entry = Put d id ok })) d ≡ come_back (request_put (image_at s d) (drive_at s.machine d).bytes (request_of (drive_at s.machine d).queue id) ok)
unfolding after counted effect after_put
put_image s p d id ok l = get_or-set_at s.images d d _ no_image refl l

-- ---- what it reads as

reads_same : (old new : List ℕ) (image : DiskImage) → new ≡ old → ReadsAs old image → ReadsAs new (come_back image)
reads_same old new image e r = record { size = rw e r.size; each = λ k h. rw e (r.each k h) }

reads_written : (bytes : List ℕ) (image : DiskImage) (k : ℕ) (old new : ImageView) → length image.bytes ≡ length bytes → 512 * k + 512 ≤ length bytes → old.tells ≡ true
    → ReadsAs old.content image → IsWritten k (sector_of bytes k) old new true → ReadsAs new.content (come_back (sector_put image bytes k true))
reads_written bytes image k old new size inside told r w =
    let piece = sector_of bytes k in
    let long = length_sector bytes k inside in
    let here : 512 * k + 512 ≤ length image.bytes = omega (arith, size, inside) in
    let there : 512 * k + 512 ≤ length old.content = omega (arith, r.size, here) in
    let lower : 512 * k ≤ length image.bytes = omega (arith, here) in
    let lower_old : 512 * k ≤ length old.content = omega (arith, there) in
    let holds : new.content ≡ with_sector old.content k piece = w.written told refl ∙ ap (λ n. take (512 * k) old.content ++ piece ++ drop (512 * k + n) old.content) long in
    let others = w.leaves.others told in
    let outside = written_outside image.bytes piece k long here in
    record {
      size = others.size ∙ r.size ∙ sym outside.size;
      each = λ j h. elim (cases_eq j k) [
        | inl e ↦ ap (λ n. sector_of new.content n) e ∙ ap (λ ys. sector_of ys k) holds ∙ written_sector old.content piece k long lower_old
            ∙ sym (ap (λ n. sector_of (with_sector image.bytes k piece) n) e ∙ written_sector image.bytes piece k long lower)
        | inr ne ↦ other_sector old.content new.content j k others ne ∙ r.each j (sym (get_or-set_other image.doubt k j false false ne) ∙ h)
            ∙ sym (other_sector image.bytes (with_sector image.bytes k piece) j k outside ne)
      ];
    }

marked : (bytes : List ℕ) (k n : ℕ) → n ≡ capacity_of bytes → 512 * k + 512 ≤ length bytes → k < n
marked bytes k n e l = omega (arith, e, l)

reads_failed : (bytes : List ℕ) (image : DiskImage) (k : ℕ) (old new : ImageView) → length image.doubt ≡ capacity_of bytes → 512 * k + 512 ≤ length bytes → old.tells ≡ true
    → ReadsAs old.content image → IsWritten k (sector_of bytes k) old new false → ReadsAs new.content (come_back (sector_put image bytes k false))
reads_failed bytes image k old new marks inside told r w =
    let others = w.leaves.others told in
    let mark = marked bytes k (length image.doubt) marks inside in
    record {
      size = others.size ∙ r.size;
      each = λ j h. elim (cases_eq j k) [
        | inl e ↦ absurd (true≢false (sym (get_or-set_at image.doubt k j true false e mark) ∙ h))
        | inr ne ↦ other_sector old.content new.content j k others ne ∙ r.each j (sym (get_or-set_other image.doubt k j true false ne) ∙ h)
      ];
    }

-- how the image stands beside the disk
pub record Beside (bytes : List ℕ) (o : Option Unfinished) (image : DiskImage) : Type 0 where
  pub size : length image.bytes ≡ length bytes
  pub marks : length image.doubt ≡ capacity_of bytes
  pub inside : (x : Unfinished) → o ≡ Some x → is_flush x.request ≡ false → 512 * next_sector x + 512 ≤ length bytes

reads_at : (bytes : List ℕ) (x : Unfinished) (b : Bool) (image : DiskImage) (ok : Bool) (old new : ImageView) → is_flush x.request ≡ b → Beside bytes (Some x) image → old.tells ≡ true
    → ReadsAs old.content image → IsMade (if b then None else Some (next_sector x, sector_of bytes (next_sector x))) old new ok
    → ReadsAs new.content (come_back (if b then image else sector_put image bytes (next_sector x) ok))
reads_at bytes x true image ok old new e s told r w = reads_same old.content new.content image (w.leaves.content told) r
reads_at bytes x false image true old new e s told r w = reads_written bytes image (next_sector x) old new s.size (s.inside x refl e) told r w
reads_at bytes x false image false old new e s told r w = reads_failed bytes image (next_sector x) old new s.marks (s.inside x refl e) told r w

reads_put : (bytes : List ℕ) (o : Option Unfinished) (image : DiskImage) (ok : Bool) (old new : ImageView) → Beside bytes o image → old.tells ≡ true → ReadsAs old.content image
    → IsMade (held_of bytes o) old new ok → ReadsAs new.content (come_back (request_put image bytes o ok))
reads_put bytes None image ok old new s told r w = reads_same old.content new.content image (w.leaves.content told) r
reads_put bytes (Some x) image ok old new s told r w = reads_at bytes x (is_flush x.request) image ok old new refl s told r w

-- ---- its counts

made_told : (sector : Option (ℕ × List ℕ)) (old new : ImageView) (ok : Bool) → IsMade sector old new ok → new.tells ≡ old.tells
made_told None old new ok m = m.leaves.told
made_told (Some x) old new ok m = m.leaves.told

sync_counted : (flushed : Bool) (f old new : ℕ) (ok : Bool) → (ok ≡ true → Rose old new) → (ok ≡ false → new ≡ old) → min f (2 ^ 64 - 1) ≤ old → min (f + one_where (ok && flushed)) (2 ^ 64 - 1) ≤ new
sync_counted true f old new true y n h = let r = y refl in let one : one_where true ≡ 1 = refl in omega (arith, r, h, one)
sync_counted false f old new true y n h = let r = y refl in let none : one_where false ≡ 0 = refl in omega (arith, r, h, none)
sync_counted flushed f old new false y n h = let r = n refl in let none : one_where false ≡ 0 = refl in omega (arith, r, h, none)

write_counted : (f old new : ℕ) (ok : Bool) → new ≡ old → min f (2 ^ 64 - 1) ≤ old → min (f + one_where (ok && false)) (2 ^ 64 - 1) ≤ new
write_counted f old new true e h = let none : one_where false ≡ 0 = refl in omega (arith, e, h, none)
write_counted f old new false e h = let none : one_where false ≡ 0 = refl in omega (arith, e, h, none)

counted_at : (bytes : List ℕ) (x : Unfinished) (b : Bool) (f : ℕ) (ok : Bool) (old new : ImageView) → is_flush x.request ≡ b → IsMade (if b then None else Some (next_sector x, sector_of bytes (next_sector x))) old new ok
    → min f (2 ^ 64 - 1) ≤ old.syncs → min (f + one_where (ok && b)) (2 ^ 64 - 1) ≤ new.syncs
counted_at bytes x true f ok old new e w h = sync_counted true f old.syncs new.syncs ok w.synced w.failed h
counted_at bytes x false f ok old new e w h = write_counted f old.syncs new.syncs ok w.leaves.syncs h

syncs_counted : (bytes : List ℕ) (o : Option Unfinished) (f : ℕ) (ok : Bool) (old new : ImageView) → IsMade (held_of bytes o) old new ok → min f (2 ^ 64 - 1) ≤ old.syncs
    → min (f + one_where (ok && is_flush_of o)) (2 ^ 64 - 1) ≤ new.syncs
syncs_counted bytes None f ok old new w h = sync_counted false f old.syncs new.syncs ok w.synced w.failed h
syncs_counted bytes (Some x) f ok old new w h = counted_at bytes x (is_flush x.request) f ok old new refl w h

same_disk : (d : ℕ) → (d == d) ≡ true
same_disk d = grind (arith, nat_tests)

faults_counted : (before ok : Bool) (old new : ℕ) → (before ≡ true → 0 < old) → (ok ≡ false → Rose old new) → (ok ≡ true → new ≡ old) → (before || (true && not ok)) ≡ true → 0 < new
faults_counted before false old new b r q e = let rose = r refl in omega (arith, rose)
faults_counted true true old new b r q e = let same = q refl in let some = b refl in omega (arith, same, some)
faults_counted false true old new b r q e = absurd (true≢false (sym e))

-- ---- after the Put

pub home_put : (start : Start) (journal : List Signed) (p d id : ℕ) (ok : Bool) (old new : ImageView) → d < length (last_state start journal).images
    → Beside (drive_at (last_state start journal).machine d).bytes (request_of (drive_at (last_state start journal).machine d).queue id) (image_at (last_state start journal) d)
    → IsAtHome start journal d old → IsMade (held_sector (last_state start journal) d id) old new ok → (ok ≡ false → Rose old.faults new.faults) → (ok ≡ true → new.faults ≡ old.faults)
    → IsAtHome start (journal ++ record { by = p; entry = Put d id ok } ∷ []) d new
home_put start journal p d id ok old new l beside h made rose quiet =
    let x : Signed = record { by = p; entry = Put d id ok } in
    let s = last_state start journal in
    let bytes = (drive_at s.machine d).bytes in
    let o = request_of (drive_at s.machine d).queue id in
    record {
      reads = λ told. (
          let before : old.tells ≡ true = sym (made_told (held_sector s d id) old new ok made) ∙ told in
          let here : ReadsAs new.content (come_back (request_put (image_at s d) bytes o ok)) = reads_put bytes o (image_at s d) ok old new beside before (h.reads before) made in
          subst (λ (t : State). ReadsAs new.content (image_at t d)) (sym (after_more (boot start) journal x)) (subst (λ (im : DiskImage). ReadsAs new.content im) (sym (put_image s p d id ok l)) here));
      failed = λ e. faults_counted (has_failed d journal) ok old.faults new.faults h.failed rose quiet
          (ap (λ b. has_failed d journal || (b && not ok)) (sym (same_disk d)) ∙ sym (failed_more d journal x) ∙ e);
      synced = rw (flushes_more (boot start) d journal x, same_disk d) (syncs_counted bytes o (flushes_from (boot start) d journal) ok old new made h.synced);
    }
