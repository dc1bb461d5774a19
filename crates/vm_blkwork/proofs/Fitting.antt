-- A worker that fits a history fits it after its own turn, after its work outside, and after entries of others.
use Rattle.std.proofs.Common.{◌≡◌, ℕ, ◌+◌, ◌*◌, ◌<◌, ◌≤◌, Bool, true, false, not, List, [], ◌∷◌, ◌++◌, length, refl, sym, ap, subst, ◌∙◌, inl, inr, Option, Some, None, arith}
use Rattle.std.specs.Prelude.{◌||◌, ◌&&◌, ◌==◌, slice_index_or, is_none, if◌then◌else◌}
use Rattle.std.proofs.lemmas.Bool.{and_parts, and_from, true≢false}
use Rattle.std.proofs.lemmas.Bool.Decides.{nat_tests}
use Rattle.std.proofs.lemmas.List.Folds.{find_at, list_all_at}
use Rattle.std.specs.List.{position_or_len}
use Rattle.vm_law.specs.declared.journal.Entry.{Entry}
use Rattle.vm_law.specs.declared.journal.Entry.TheVariants.{Hold, Put}
use Rattle.vm_law.specs.declared.journal.Signed.{Signed}
use Rattle.vm_host.specs.Views.{ImageView}
use Rattle.blk_queue.specs.Progress.{is_flush}
use Rattle.blk_queue.specs.Queue.{request_of}
use Rattle.blk_queue.specs.declared.progress.Unfinished.{Unfinished}
use Rattle.vm_state.specs.declared.image.DiskImage.{DiskImage}
use Rattle.vm_state.specs.declared.image.Holder.{Holder}
use Rattle.vm_state.specs.declared.start.Start.{Start}
use Rattle.vm_state.specs.Machine.{drive_at, drive_count, is_drive}
use Rattle.vm_state.specs.Requests.{is_worker, next_sector, sector_of}
use Rattle.vm_state.specs.Sound.{IsSoundState}
use Rattle.vm_state.specs.Start.{boot}
use Rattle.vm_state.specs.State.{State, image_at, no_image, none_held}
use Rattle.vm_disks.specs.Images.{come_back, is_holder, may_put, request_put, sector_put}
use Rattle.vm_table.specs.History.{last_state}
use Rattle.vm_table.specs.Rounds.{is_its}
use Rattle.vm_table.specs.Table.{allowed, lawful, after}
use Rattle.vm_table.specs.Turns.{first_lawful}
use Rattle.vm_table.proofs.Keeps.{after_keeps}
use Rattle.vm_table.proofs.Plan.{after_drives, after_worker}
use Rattle.vm_laws.specs.Owned.{KeepsImage, SameWork, is_put_of}
use Rattle.vm_laws.proofs.Lending.{image_is_owned}
use Rattle.vm_laws.proofs.Sounding.{sound_after}
use Rattle.vm_board.specs.Calls.{moves_image}
use Rattle.vm_board.specs.Homes.{IsAtHome, ReadsAs, has_failed, is_failed_put, flushes_from, is_flush_of, is_flushed_put, held_of, held_sector}
use Rattle.vm_board.proofs.Histories.{after_more, lawful_more, failed_more, flushes_more, one_where}
use Rattle.vm_board.proofs.Holding.{held_inside}
use Rattle.vm_board.proofs.Home.{at_home_bytes, hold_holder}
use Rattle.vm_board.proofs.Images.{after_images, hold_others, put_others}
use Rattle.vm_blkwork.proofs.Own.{own_keeps}
use Rattle.std.proofs.lemmas.Bool.{cases_eq}
use Rattle.vm_blkwork.specs.declared.outside.Out.{Out}
use Rattle.vm_blkwork.specs.declared.worker.Worker.{Worker}
use Rattle.vm_blkwork.specs.Fits.{IsKept, IsOut, HasOut, WorkerFits}
use Rattle.vm_blkwork.specs.Outside.{LiesOn, CanCall, IsMade, IsAnswered, IsCalledAs, CalledOnce, GoneOutside}
use Rattle.vm_blkwork.proofs.Choosing.{chosen_lawful, chosen_work, one_disk, worker_of}
use Rattle.vm_blkwork.proofs.Putting.{Beside, home_put, put_image}
use Rattle.vm_blkwork.proofs.Shut.{last_rests}

-- ---- an entry that leaves an image and its request

held_same : (b c : List ℕ) (o p : Option Unfinished) → c ≡ b → SameWork o p → held_of c p ≡ held_of b o
held_same b c None p e w = rw w refl
held_same b c (Some x) None e w = absurd w
held_same b c (Some x) (Some y) e w = rw (w.0, w.1, e) refl

flush_same : (o p : Option Unfinished) → SameWork o p → is_flush_of p ≡ is_flush_of o
flush_same None p w = rw w refl
flush_same (Some x) None w = absurd w
flush_same (Some x) (Some y) w = rw w.0 refl

-- the image after the Put that is due has the same bytes and the same sectors in doubt
record Alike (x y : DiskImage) : Type 0 where
  pub bytes : y.bytes ≡ x.bytes
  pub doubt : y.doubt ≡ x.doubt

put_at : (x y : DiskImage) (b : List ℕ) (k : ℕ) (ok : Bool) → Alike x y → Alike (sector_put x b k ok) (sector_put y b k ok)
put_at x y b k true a = record { bytes = rw a.bytes refl; doubt = rw a.doubt refl }
put_at x y b k false a = record { bytes = a.bytes; doubt = rw a.doubt refl }

put_if : (x y : DiskImage) (b : List ℕ) (k : ℕ) (ok flush : Bool) → Alike x y → Alike (if flush then x else sector_put x b k ok) (if flush then y else sector_put y b k ok)
put_if x y b k ok true a = a
put_if x y b k ok false a = put_at x y b k ok a

put_alike : (x y : DiskImage) (b c : List ℕ) (o p : Option Unfinished) (ok : Bool) → Alike x y → c ≡ b → SameWork o p → Alike (come_back (request_put x b o ok)) (come_back (request_put y c p ok))
put_alike x y b c None p ok a e w = rw w (record { bytes = a.bytes; doubt = a.doubt })
put_alike x y b c (Some u) None ok a e w = absurd w
put_alike x y b c (Some u) (Some v) ok a e w =
    let r = put_if x y b (next_sector u) ok (is_flush u.request) a in
    rw (w.0, w.1, e) (record { bytes = r.bytes; doubt = r.doubt })

reads_alike : (content : List ℕ) (x y : DiskImage) → Alike x y → ReadsAs content x → ReadsAs content y
reads_alike content x y a r = record {
  size = r.size ∙ sym (ap (λ (bs : List ℕ). length bs) a.bytes);
  each = λ k h. rw a.bytes (r.each k (sym (ap (λ (bs : List Bool). slice_index_or bs k false) a.doubt) ∙ h));
}

no_failure : (d : ℕ) (e : Entry) → is_put_of d e ≡ false → is_failed_put d e ≡ false
no_failure d (Put c id ok) n = ap (λ b. b && not ok) n
no_failure d e n = refl

no_flush : (s : State) (d : ℕ) (e : Entry) → is_put_of d e ≡ false → is_flushed_put s d e ≡ false
no_flush s d (Put c id ok) n = ap (λ b. b && ok && is_flush_of (request_of (drive_at s.machine d).queue id)) n
no_flush s d e n = refl

or_none : (a b c : Bool) → b ≡ false → ((a || b) || c) ≡ (a || c)
or_none true b c e = refl
or_none false b c e = rw e refl

none_more : (n : ℕ) → n + one_where false ≡ n
none_more n = grind arith

module _ (start : Start) (journal : List Signed) (x : Signed) (d : ℕ) where
  abbrev S : State
  S = last_state start journal

  abbrev T : State
  T = after S x

  later_failed : (p id : ℕ) (ok : Bool) → is_put_of d x.entry ≡ false → has_failed d ((journal ++ x ∷ []) ++ record { by = p; entry = Put d id ok } ∷ []) ≡ has_failed d (journal ++ record { by = p; entry = Put d id ok } ∷ [])
  later_failed p id ok n =
      let y : Signed = record { by = p; entry = Put d id ok } in
      failed_more d (journal ++ x ∷ []) y ∙ ap (λ b. b || is_failed_put d y.entry) (failed_more d journal x)
      ∙ or_none (has_failed d journal) (is_failed_put d x.entry) (is_failed_put d y.entry) (no_failure d x.entry n) ∙ sym (failed_more d journal y)

  later_flushes : (p id : ℕ) (ok : Bool) → is_put_of d x.entry ≡ false → SameWork (request_of (drive_at S.machine d).queue id) (request_of (drive_at T.machine d).queue id)
      → flushes_from (boot start) d ((journal ++ x ∷ []) ++ record { by = p; entry = Put d id ok } ∷ []) ≡ flushes_from (boot start) d (journal ++ record { by = p; entry = Put d id ok } ∷ [])
  later_flushes p id ok n w =
      let y : Signed = record { by = p; entry = Put d id ok } in
      let now : is_flushed_put (last_state start (journal ++ x ∷ [])) d y.entry ≡ is_flushed_put S d y.entry =
      ap (λ (u : State). is_flushed_put u d y.entry) (after_more (boot start) journal x) ∙ ap (λ b. (d == d) && ok && b) (flush_same (request_of (drive_at S.machine d).queue id) (request_of (drive_at T.machine d).queue id) w) in
      flushes_more (boot start) d (journal ++ x ∷ []) y
      ∙ ap (λ k. k + one_where (is_flushed_put (last_state start (journal ++ x ∷ [])) d y.entry)) (flushes_more (boot start) d journal x ∙ ap (λ b. flushes_from (boot start) d journal + one_where b) (no_flush S d x.entry n) ∙ none_more (flushes_from (boot start) d journal))
      ∙ ap (λ b. flushes_from (boot start) d journal + one_where b) now ∙ sym (flushes_more (boot start) d journal y)

  kept_stays : (p id : ℕ) (a : Option Bool) (v : ImageView) → KeepsImage S T d id → is_put_of d x.entry ≡ false → d < length S.images → d < length T.images
      → IsKept start journal p d id a v → IsKept start (journal ++ x ∷ []) p d id a v
  kept_stays p id None v k n l m h = at_home_bytes start journal x d v k.bytes k.doubt (no_failure d x.entry n) (no_flush S d x.entry n) h
  kept_stays p id (Some ok) v k n l m h =
      let y : Signed = record { by = p; entry = Put d id ok } in
      let before : image_at (last_state start (journal ++ y ∷ [])) d ≡ come_back (request_put (image_at S d) (drive_at S.machine d).bytes (request_of (drive_at S.machine d).queue id) ok) =
      ap (λ (u : State). image_at u d) (after_more (boot start) journal y) ∙ put_image S p d id ok l in
      let now : image_at (last_state start ((journal ++ x ∷ []) ++ y ∷ [])) d ≡ come_back (request_put (image_at T d) (drive_at T.machine d).bytes (request_of (drive_at T.machine d).queue id) ok) =
      ap (λ (u : State). image_at u d) (after_more (boot start) (journal ++ x ∷ []) y ∙ ap (λ (u : State). after u y) (after_more (boot start) journal x)) ∙ put_image T p d id ok m in
      let alike = put_alike (image_at S d) (image_at T d) (drive_at S.machine d).bytes (drive_at T.machine d).bytes (request_of (drive_at S.machine d).queue id) (request_of (drive_at T.machine d).queue id) ok
      (record { bytes = k.bytes; doubt = k.doubt }) k.disk k.work in
      record {
        reads = λ told. subst (λ (im : DiskImage). ReadsAs v.content im) (sym now) (reads_alike v.content _ _ alike (subst (λ (im : DiskImage). ReadsAs v.content im) before (h.reads told)));
        failed = λ e. h.failed (sym (later_failed p id ok n) ∙ e);
        synced = rw (later_flushes p id ok n k.work) h.synced;
      }

module _ {I : Type 0} (seen : I → ImageView) where
  out_stays : (start : Start) (journal : List Signed) (x : Signed) (p d : ℕ) (out : Out I) → KeepsImage (last_state start journal) (after (last_state start journal) x) d out.id → is_put_of d x.entry ≡ false
      → d < length (last_state start journal).images → d < length (after (last_state start journal) x).images → IsOut seen start journal p d out → IsOut seen start (journal ++ x ∷ []) p d out
  out_stays start journal x p d out k n l m h =
      let s = last_state start journal in
      let t = after s x in
      let more = after_more (boot start) journal x in
      record {
        holder = ap (λ (u : State). (image_at u d).holder) more ∙ k.holder ∙ h.holder;
        sector = h.sector ∙ sym (ap (λ (u : State). held_sector u d out.id) more ∙ held_same (drive_at s.machine d).bytes (drive_at t.machine d).bytes (request_of (drive_at s.machine d).queue out.id) (request_of (drive_at t.machine d).queue out.id) k.disk k.work);
        home = kept_stays start journal x d p out.id out.answer (seen out.image) k n l m h.home;
      }

-- ---- what is known where a worker fits

held_by_one : (p id : ℕ) (h : Option Holder) → is_holder p id h ≡ true → h ≡ Some (record { by = p; id = id })
held_by_one p id None e = absurd (true≢false (sym e))
held_by_one p id (Some h) e =
    let a = and_parts (h.by == p) (h.id == id) e in
    let by : h.by ≡ p = grind (arith, nat_tests, a.0) in
    let it : h.id ≡ id = grind (arith, nat_tests, a.1) in
    ap (λ (k : ℕ). Some (let o : Holder = record { by = k; id = h.id } in o)) by ∙ ap (λ (k : ℕ). Some (let o : Holder = record { by = p; id = k } in o)) it

holds_it : (p id : ℕ) (h : Option Holder) → h ≡ Some (record { by = p; id = id }) → is_holder p id h ≡ true
holds_it p id h e = rw e (and_from (p == p) (id == id) (grind (arith, nat_tests)) (grind (arith, nat_tests)))

out_not_none : (h : Option Holder) (k : Holder) → h ≡ Some k → is_none h ≡ false
out_not_none h k e = ap (λ (o : Option Holder). is_none o) e

some_out : (s : State) (d : ℕ) (h : Holder) → d < length s.images → (image_at s d).holder ≡ Some h → none_held s ≡ false
some_out s d h l e = list_all_at (λ (x : DiskImage). is_none x.holder) s.images d no_image l (out_not_none (image_at s d).holder h e)

is_open : (b : Bool) → (b ≡ true → ⊥) → b ≡ false
is_open true f = absurd (f refl)
is_open false f = refl

put_lawful : (s : State) (p d id : ℕ) (ok : Bool) → s.closed ≡ false → is_drive s.machine d ≡ true → (image_at s d).holder ≡ Some (record { by = p; id = id }) → lawful s p (Put d id ok) ≡ true
unfolding lawful allowed may_put
put_lawful s p d id ok going there h =
    and_from (not s.closed) _ (ap not going) (and_from (is_drive s.machine d) (is_holder p id (image_at s d).holder) there (holds_it p id (image_at s d).holder h))

inside_of : (s : State) (p d id : ℕ) → IsSoundState s → d < drive_count s.machine → (image_at s d).holder ≡ Some (record { by = p; id = id })
    → (x : Unfinished) → request_of (drive_at s.machine d).queue id ≡ Some x → is_flush x.request ≡ false → 512 * next_sector x + 512 ≤ length (drive_at s.machine d).bytes
inside_of s p d id h l held x at f =
    let q = (drive_at s.machine d).queue in
    held_inside s p d id (position_or_len (λ (y : Unfinished). y.id == id) q.requests) x h l (holds_it p id (image_at s d).holder held)
    (sym (find_at (λ (y : Unfinished). y.id == id) q.requests) ∙ at) at f

lies_on : (bytes : List ℕ) (o : Option Unfinished) (v : ImageView) → ((x : Unfinished) → o ≡ Some x → is_flush x.request ≡ false → 512 * next_sector x + 512 ≤ length bytes)
    → (v.tells ≡ true → length v.content ≡ length bytes) → LiesOn (held_of bytes o) v
lies_on bytes None v f g = tt
lies_on bytes (Some x) v f g = at (is_flush x.request) refl where
  at : (b : Bool) → is_flush x.request ≡ b → LiesOn (if b then None else Some (next_sector x, sector_of bytes (next_sector x))) v
  at true e = tt
  at false e = λ told. (let size = g told in let inside = f x refl e in omega (arith, size, inside))

module _ {I : Type 0} (seen : I → ImageView) where
  pub sound_of : (start : Start) (journal : List Signed) (w : Worker I) → WorkerFits seen start journal w → IsSoundState (last_state start journal)
  sound_of start journal w f = sound_after start journal f.sound f.legal

  pub drive_of : (start : Start) (journal : List Signed) (w : Worker I) → WorkerFits seen start journal w → w.disk < drive_count (last_state start journal).machine
  drive_of start journal w f = let d = (worker_of (last_state start journal).machine w.by w.disk f.number).drive in grind (arith, nat_tests, d)

  image_of : (start : Start) (journal : List Signed) (w : Worker I) → WorkerFits seen start journal w → w.disk < length (last_state start journal).images
  image_of start journal w f = let c = (sound_of start journal w f).images.count in let d = drive_of start journal w f in omega (arith, c, d)

  image_after : (start : Start) (journal : List Signed) (w : Worker I) (x : Signed) → WorkerFits seen start journal w → lawful (last_state start journal) x.by x.entry ≡ true → w.disk < length (after (last_state start journal) x).images
  image_after start journal w x f m =
      let s = last_state start journal in
      let c = (after_keeps s x (sound_of start journal w f) m).images.count in
      let e = after_drives s x in
      let d = drive_of start journal w f in
      omega (arith, c, e, d)

  pub grown : (start : Start) (journal : List Signed) (w : Worker I) (x : Signed) (o : Option (Out I)) → WorkerFits seen start journal w → lawful (last_state start journal) x.by x.entry ≡ true
      → HasOut seen start (journal ++ x ∷ []) w.by w.disk o → WorkerFits seen start (journal ++ x ∷ []) (record { disk = w.disk; by = w.by; out = o })
  grown start journal w x o f m h = record {
    sound = f.sound;
    legal = lawful_more (boot start) journal x f.legal m;
    number = ap (λ (u : State). is_worker u.machine w.by w.disk) (after_more (boot start) journal x) ∙ after_worker (last_state start journal) x w.by w.disk ∙ f.number;
    has = h;
  }

  -- ---- its own entry, but for a Hold

  own_has : (start : Start) (journal : List Signed) (w : Worker I) (e : Entry) (o : Option (Out I)) → WorkerFits seen start journal w → first_lawful (last_state start journal) w.by ≡ Some e → moves_image e ≡ false
      → HasOut seen start journal w.by w.disk o → HasOut seen start (journal ++ record { by = w.by; entry = e } ∷ []) w.by w.disk o
  own_has start journal w e None f c n h =
      let x : Signed = record { by = w.by; entry = e } in
      ap (λ (u : State). is_its w.by (image_at u w.disk).holder) (after_more (boot start) journal x) ∙ ap (λ (k : Option Holder). is_its w.by k) ((after_images (last_state start journal) x n).each w.disk).holder ∙ h
  own_has start journal w e (Some out) f c n h =
      let x : Signed = record { by = w.by; entry = e } in
      let s = last_state start journal in
      let k = own_keeps s w.by w.disk out.id e (sound_of start journal w f) (drive_of start journal w f) f.number h.holder c n in
      out_stays seen start journal x w.by w.disk out k.0 k.1 (image_of start journal w f) (image_after start journal w x f (chosen_lawful s w.by e c)) h

  pub own_fits : (start : Start) (journal : List Signed) (w : Worker I) (e : Entry) → WorkerFits seen start journal w → first_lawful (last_state start journal) w.by ≡ Some e → moves_image e ≡ false
      → WorkerFits seen start (journal ++ record { by = w.by; entry = e } ∷ []) w
  own_fits start journal w e f c n =
      grown start journal w (record { by = w.by; entry = e }) w.out f (chosen_lawful (last_state start journal) w.by e c) (own_has start journal w e w.out f c n f.has)

  -- ---- a Hold

  pub hold_disk : (start : Start) (journal : List Signed) (w : Worker I) (c id : ℕ) → WorkerFits seen start journal w → first_lawful (last_state start journal) w.by ≡ Some (Hold c id) → c ≡ w.disk
  hold_disk start journal w c id f m = let s = last_state start journal in one_disk s.machine w.by c w.disk (chosen_work s w.by w.disk (Hold c id) f.number m) f.number

  pub hold_fits : (start : Start) (journal : List Signed) (w : Worker I) (c id : ℕ) (sector : Option (ℕ × List ℕ)) (image : I) → WorkerFits seen start journal w → first_lawful (last_state start journal) w.by ≡ Some (Hold c id)
      → sector ≡ held_sector (after (last_state start journal) (record { by = w.by; entry = Hold c id })) c id → IsAtHome start (journal ++ record { by = w.by; entry = Hold c id } ∷ []) c (seen image)
      → WorkerFits seen start (journal ++ record { by = w.by; entry = Hold c id } ∷ []) (record { disk = w.disk; by = w.by; out = Some (record { id = id; sector = sector; answer = None; image = image }) })
  hold_fits start journal w c id sector image f m e home =
      let s = last_state start journal in
      let x : Signed = record { by = w.by; entry = Hold c id } in
      let same = hold_disk start journal w c id f m in
      let l : c < length s.images = subst (λ k. k < length s.images) (sym same) (image_of start journal w f) in
      let here : IsOut seen start (journal ++ x ∷ []) w.by c (record { id = id; sector = sector; answer = None; image = image }) = record {
        holder = ap (λ (u : State). (image_at u c).holder) (after_more (boot start) journal x) ∙ held_by_one w.by id _ (hold_holder s w.by c id l);
        sector = e ∙ sym (ap (λ (u : State). held_sector u c id) (after_more (boot start) journal x));
        home = home;
      } in
      grown start journal w x (Some (record { id = id; sector = sector; answer = None; image = image })) f (chosen_lawful s w.by (Hold c id) m)
      (subst (λ k. IsOut seen start (journal ++ x ∷ []) w.by k (record { id = id; sector = sector; answer = None; image = image })) same here)

  -- ---- a Put

  pub back_lawful : (start : Start) (journal : List Signed) (w : Worker I) (out : Out I) (ok : Bool) → WorkerFits seen start journal w → IsOut seen start journal w.by w.disk out → lawful (last_state start journal) w.by (Put w.disk out.id ok) ≡ true
  back_lawful start journal w out ok f h =
      let s = last_state start journal in
      let none = some_out s w.disk (record { by = w.by; id = out.id }) (image_of start journal w f) h.holder in
      let going = is_open s.closed (λ c. true≢false (sym (last_rests start journal f.legal c) ∙ none)) in
      put_lawful s w.by w.disk out.id ok going (worker_of s.machine w.by w.disk f.number).drive h.holder

  pub back_fits : (start : Start) (journal : List Signed) (w : Worker I) (out : Out I) (ok : Bool) → WorkerFits seen start journal w → IsOut seen start journal w.by w.disk out
      → WorkerFits seen start (journal ++ record { by = w.by; entry = Put w.disk out.id ok } ∷ []) (record { disk = w.disk; by = w.by; out = None })
  back_fits start journal w out ok f h =
      let s = last_state start journal in
      let x : Signed = record { by = w.by; entry = Put w.disk out.id ok } in
      grown start journal w x None f (back_lawful start journal w out ok f h)
      (ap (λ (u : State). is_its w.by (image_at u w.disk).holder) (after_more (boot start) journal x) ∙ ap (λ (i : DiskImage). is_its w.by i.holder) (put_image s w.by w.disk out.id ok (image_of start journal w f)))

  -- ---- its work outside

  beside_of : (start : Start) (journal : List Signed) (w : Worker I) (id : ℕ) → WorkerFits seen start journal w → (image_at (last_state start journal) w.disk).holder ≡ Some (record { by = w.by; id = id })
      → Beside (drive_at (last_state start journal).machine w.disk).bytes (request_of (drive_at (last_state start journal).machine w.disk).queue id) (image_at (last_state start journal) w.disk)
  beside_of start journal w id f h =
      let s = last_state start journal in
      let sound = sound_of start journal w f in
      let l = drive_of start journal w f in
      let i = sound.images.each w.disk l in
      record { size = i.size; marks = i.marks; inside = inside_of s w.by w.disk id sound l h }

  unmade : (start : Start) (journal : List Signed) (p d : ℕ) (out : Out I) → IsOut seen start journal p d out → out.answer ≡ None → IsAtHome start journal d (seen out.image)
  unmade start journal p d out h e = subst (λ (a : Option Bool). IsKept start journal p d out.id a (seen out.image)) e h.home

  pub can_call : (start : Start) (journal : List Signed) (w : Worker I) (out : Out I) → WorkerFits seen start journal w → IsOut seen start journal w.by w.disk out → out.answer ≡ None → CanCall seen out
  can_call start journal w out f h e =
      let s = last_state start journal in
      let beside = beside_of start journal w out.id f h.holder in
      let home = unmade start journal w.by w.disk out h e in
      subst (λ (x : Option (ℕ × List ℕ)). LiesOn x (seen out.image)) (sym h.sector)
      (lies_on (drive_at s.machine w.disk).bytes (request_of (drive_at s.machine w.disk).queue out.id) (seen out.image) beside.inside (λ told. (home.reads told).size ∙ beside.size))

  answered_out : (start : Start) (journal : List Signed) (w : Worker I) (old new : Out I) (ok : Bool) → WorkerFits seen start journal w → IsOut seen start journal w.by w.disk old → old.answer ≡ None → new.answer ≡ Some ok → IsAnswered seen old new ok
      → IsOut seen start journal w.by w.disk new
  answered_out start journal w old new ok f h none made i =
      let s = last_state start journal in
      let home = home_put start journal w.by w.disk old.id ok (seen old.image) (seen new.image) (image_of start journal w f) (beside_of start journal w old.id f h.holder) (unmade start journal w.by w.disk old h none)
      (subst (λ (x : Option (ℕ × List ℕ)). IsMade x (seen old.image) (seen new.image) ok) h.sector i.made) i.failed i.quiet in
      record {
        holder = rw i.id h.holder;
        sector = i.sector ∙ h.sector ∙ ap (λ k. held_sector s w.disk k) (sym i.id);
        home = subst (λ (a : Option Bool). IsKept start journal w.by w.disk new.id a (seen new.image)) (sym made) (rw i.id home);
      }

  called_out : (start : Start) (journal : List Signed) (w : Worker I) (old new : Out I) (b : Option Bool) → WorkerFits seen start journal w → IsOut seen start journal w.by w.disk old → old.answer ≡ None → new.answer ≡ b → IsCalledAs seen old new b
      → IsOut seen start journal w.by w.disk new
  called_out start journal w old new None f h none e i = absurd i
  called_out start journal w old new (Some ok) f h none e i = answered_out start journal w old new ok f h none e i

  once_out : (start : Start) (journal : List Signed) (w : Worker I) (old new : Out I) (a : Option Bool) → WorkerFits seen start journal w → IsOut seen start journal w.by w.disk old → old.answer ≡ a → CalledOnce seen old new a
      → IsOut seen start journal w.by w.disk new
  once_out start journal w old new None f h e i = called_out start journal w old new new.answer f h e refl i
  once_out start journal w old new (Some ok) f h e i = subst (λ (o : Out I). IsOut seen start journal w.by w.disk o) (sym i) h

  gone_has : (start : Start) (journal : List Signed) (w : Worker I) (o n : Option (Out I)) → WorkerFits seen start journal w → HasOut seen start journal w.by w.disk o → GoneOutside seen o n → HasOut seen start journal w.by w.disk n
  gone_has start journal w None n f h g = subst (λ (k : Option (Out I)). HasOut seen start journal w.by w.disk k) (sym g) h
  gone_has start journal w (Some old) None f h g = absurd g
  gone_has start journal w (Some old) (Some new) f h g = once_out start journal w old new old.answer f h refl g

  pub gone_fits : (start : Start) (journal : List Signed) (w : Worker I) (n : Option (Out I)) → GoneOutside seen w.out n → WorkerFits seen start journal w → WorkerFits seen start journal (record { disk = w.disk; by = w.by; out = n })
  gone_fits start journal w n g f = record { sound = f.sound; legal = f.legal; number = f.number; has = gone_has start journal w w.out n f f.has g }

  -- ---- entries of other passes

  others_its : (p q id : ℕ) (h : Option Holder) → (q == p) ≡ false → is_holder q id h ≡ true → is_its p h ≡ false
  others_its p q id None ne e = refl
  others_its p q id (Some h) ne e = let a = and_parts (h.by == q) (h.id == id) e in grind (arith, nat_tests, a.0, ne)

  none_its : (s : State) (q : ℕ) (e : Entry) (p d : ℕ) → (q == p) ≡ false → d < length s.images → is_its p (image_at s d).holder ≡ false → is_its p (image_at (after s (record { by = q; entry = e })) d).holder ≡ false
  none_its s q (Hold c id) p d ne l h =
      elim (cases_eq d c) [
        | inl same ↦ subst (λ k. is_its p (image_at (after s (record { by = q; entry = Hold c id })) k).holder ≡ false) (sym same) (others_its p q id _ ne (hold_holder s q c id (subst (λ k. k < length s.images) same l)))
        | inr other ↦ ap (λ (k : Option Holder). is_its p k) ((hold_others s q c id q).each d other).holder ∙ h
      ]
  none_its s q (Put c id ok) p d ne l h =
      elim (cases_eq d c) [
        | inl same ↦ subst (λ k. is_its p (image_at (after s (record { by = q; entry = Put c id ok })) k).holder ≡ false) (sym same) (ap (λ (i : DiskImage). is_its p i.holder) (put_image s q c id ok (subst (λ k. k < length s.images) same l)))
        | inr other ↦ ap (λ (k : Option Holder). is_its p k) ((put_others s c id q ok).each d other).holder ∙ h
      ]
  none_its s q e p d ne l h = ap (λ (k : Option Holder). is_its p k) ((after_images s (record { by = q; entry = e }) refl).each d).holder ∙ h

  other_has : (start : Start) (journal : List Signed) (w : Worker I) (x : Signed) (o : Option (Out I)) → WorkerFits seen start journal w → lawful (last_state start journal) x.by x.entry ≡ true → (x.by == w.by) ≡ false
      → HasOut seen start journal w.by w.disk o → HasOut seen start (journal ++ x ∷ []) w.by w.disk o
  other_has start journal w x None f m ne h =
      ap (λ (u : State). is_its w.by (image_at u w.disk).holder) (after_more (boot start) journal x) ∙ none_its (last_state start journal) x.by x.entry w.by w.disk ne (image_of start journal w f) h
  other_has start journal w x (Some out) f m ne h =
      let k = image_is_owned (last_state start journal) x w.disk w.by out.id (sound_of start journal w f) (drive_of start journal w f) m h.holder ne in
      out_stays seen start journal x w.by w.disk out k.0 k.1 (image_of start journal w f) (image_after start journal w x f m) h

  -- it fits after an entry of another pass
  pub other_fits : (start : Start) (journal : List Signed) (w : Worker I) (x : Signed) → WorkerFits seen start journal w → lawful (last_state start journal) x.by x.entry ≡ true → (x.by == w.by) ≡ false
      → WorkerFits seen start (journal ++ x ∷ []) w
  other_fits start journal w x f m ne = grown start journal w x w.out f m (other_has start journal w x w.out f m ne f.has)
