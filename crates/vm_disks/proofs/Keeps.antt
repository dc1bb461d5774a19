-- Each lawful entry of a worker keeps what holds of every run: Begin, Move, Hold, Put.
use Rattle.std.specs.Prelude.{Option, Some, None, ◌==◌, ◌&&◌, ◌||◌, nat_lt, nat_le, is_none, if◌then◌else◌, slice_set}
use Rattle.std.specs.List.{All, list_any}
use Rattle.std.proofs.Common.{◌≡◌, ℕ, ◌+◌, ◌*◌, ◌<◌, ◌≤◌, Bool, true, false, not, List, ◌++◌, length, take, drop, get_or, set, refl, sym, ap, subst, ◌∙◌, arith, inl, inr}
use Rattle.std.proofs.Math.ListN.{length-set}
use Rattle.std.proofs.Common.{length-append, length-drop, length-take}
use Rattle.std.proofs.lemmas.Bool.{and_parts, true≢false, ltb-true, eqb-true}
use Rattle.std.proofs.lemmas.Bool.Decides.{nat_tests}
use Rattle.std.proofs.lemmas.Grind.{common_steps}
use Rattle.std.proofs.lemmas.List.{set-get_or}
use Rattle.std.proofs.lemmas.List.Folds.{list_any_at}
use Rattle.vm_law.specs.Memory.{Memory, KeepsSize, read_of, written}
use Rattle.vm_law.specs.declared.block.Request.{Request}
use Rattle.vm_vblk.proofs.Writes.{size_written}
use Rattle.blk_queue.specs.declared.progress.Progress.{Progress}
use Rattle.blk_queue.specs.declared.progress.Progress.TheVariants.{Pending, Blocked, Busy}
use Rattle.blk_queue.specs.declared.progress.Unfinished.{Unfinished}
use Rattle.blk_queue.specs.Progress.{begun_by, dropped_of, has_more, has_failed, failed_of, is_busy, is_dropped, is_flush, is_pending, is_read, moved_of, moves, one_more, pends, puts}
use Rattle.blk_queue.specs.Queue.{Queue, request_of, some_request}
use Rattle.blk_queue.specs.Steps.{begun, begun_at, first_pending, with_progress}
use Rattle.blk_queue.proofs.Fitting.{FitsAlone}
use Rattle.blk_queue.proofs.Sound.{more_fits}
use Rattle.vm_state.specs.declared.drive.Drive.{Drive}
use Rattle.vm_state.specs.declared.image.DiskImage.{DiskImage}
use Rattle.vm_state.specs.declared.image.Holder.{Holder}
use Rattle.vm_state.specs.Machine.{MachineState, drive_at, drive_count, is_drive, with_drive}
use Rattle.vm_state.specs.Requests.{first_worker, has_worker, is_busy_by, is_worker, next_address, next_sector, sector_of, with_sector}
use Rattle.vm_state.specs.State.{State, image_at, no_image, with_image, with_machine}
use Rattle.vm_state.specs.Sound.{IsHeld, IsSoundState, RequestFits, WorkerFits, is_midway, is_out}
use Rattle.vm_disks.specs.Queueing.{has_id, may_begin, after_begin, with_queue}
use Rattle.vm_disks.specs.Moving.{may_move, after_move, with_read}
use Rattle.vm_disks.specs.Images.{may_hold, after_hold, may_put, after_put, is_holder, sector_put, request_put, come_back, with_write}
use Rattle.vm_disks.proofs.Lookup.{Is, is_there}
use Rattle.vm_disks.proofs.Segments.{Reaches, length_sector, reaches, read_is_no_flush}
use Rattle.vm_disks.proofs.Going.{PutsTells, held_puts, less_moved, moves_tells, not_true, puts_tells}
use Rattle.vm_disks.proofs.KeptQueues.{Found, found, is_request_of, its_fact}
use Rattle.vm_disks.proofs.KeptRows.{Goes, QueueFits, fits_now, keeps_row, progress_fits, still_held}

-- ---- where the image stays

image_stays : (s : State) (t : MachineState) (d : ℕ) → IsSoundState (with_image (with_machine s t) d (image_at s d)) → IsSoundState (with_machine s t)
image_stays s t d h = subst (λ (is : List DiskImage). IsSoundState (record (with_machine s t) { images = is })) (set-get_or s.images d no_image) h

-- ---- Begin

record BeginTells (s : State) (p d id : ℕ) : Type 0 where
  worker : is_worker s.machine p d ≡ true
  first : has_id id (first_pending (drive_at s.machine d).queue) ≡ true

begin_tells : (s : State) (p d id : ℕ) → may_begin s p d id ≡ true → BeginTells s p d id
unfolding may_begin
begin_tells s p d id m =
    let a = and_parts _ _ m in
    let b = and_parts _ _ a.0 in
    let c = and_parts _ _ b.0 in
    let e = and_parts _ _ c.0 in
    record { worker = e.0; first = c.1 }

pub record WorkerTells (s : State) (p d : ℕ) : Type 0 where
  pub drive : d < drive_count s.machine
  pub from : first_worker s.machine d ≤ p
  pub to : p < first_worker s.machine d + (drive_at s.machine d).workers

pub worker_tells : (s : State) (p d : ℕ) → is_worker s.machine p d ≡ true → WorkerTells s p d
unfolding is_worker
worker_tells s p d m = record {
  drive = grind (arith, nat_tests, common_steps, and_parts);
  from = grind (arith, nat_tests, common_steps, and_parts);
  to = grind (arith, nat_tests, common_steps, and_parts);
}

pending_drops : (p : Progress) → pends p ≡ true → dropped_of p ≡ false
pending_drops Pending h = refl
pending_drops Blocked h = refl
pending_drops (Busy w moved failed dropped) h = absurd (true≢false (sym h))

pending_rests : (by count : ℕ) (p : Progress) → pends p ≡ true → is_midway by count p ≡ false
pending_rests by count Pending h = refl
pending_rests by count Blocked h = refl
pending_rests by count (Busy w moved failed dropped) h = absurd (true≢false (sym h))

and_false : (a b : Bool) → b ≡ false → (a && b) ≡ false
and_false true b h = h
and_false false b h = refl

begin_with : (s : State) (p d id : ℕ) (o : Option Unfinished) → IsSoundState s → WorkerTells s p d → first_pending (drive_at s.machine d).queue ≡ o → has_id id o ≡ true
    → IsSoundState (with_machine s (with_queue s.machine d (begun_at (drive_at s.machine d).queue p o)))
begin_with s p d id None h w e m = absurd (true≢false (sym m))
begin_with s p d id (Some x) h w e m =
    let q : Queue = (drive_at s.machine d).queue in
    let now = fits_now s d h w.drive in
    let f : Found is_pending q.requests x = found is_pending q.requests x e in
    let there : request_of q x.id ≡ Some x = is_request_of q is_pending x now.sound f in
    image_stays s (with_queue s.machine d (with_progress q x.id (begun_by p))) d
    (keeps_row s d s.machine.ram (with_progress q x.id (begun_by p)) (drive_at s.machine d).bytes (image_at s d) h w.drive (record { code = refl; size = refl }) refl
    (progress_fits s d x.id (begun_by p) x (image_at s d) h w.drive
    (record { there = there; fits = λ before. omega arith; dropped = λ _. pending_drops x.progress f.so; worker = (w.from, w.to) })
    (still_held s d x.id (begun_by p) x (image_at s d).holder now.sound there (λ holder. and_false ((x.id == holder.id) && not (is_read x.request)) (is_midway holder.by x.request.count x.progress) (pending_rests holder.by x.request.count x.progress f.so)) now.held)
    refl refl refl refl))

pub keeps_begin : (s : State) (p d id : ℕ) → IsSoundState s → may_begin s p d id ≡ true → IsSoundState (after_begin s p d)
unfolding after_begin begun
keeps_begin s p d id h m =
    let t = begin_tells s p d id m in
    begin_with s p d id (first_pending (drive_at s.machine d).queue) h (worker_tells s p d t.worker) refl t.first

-- ---- one more sector

more_drops : (ok : Bool) (p : Progress) → dropped_of (one_more ok p) ≡ dropped_of p
more_drops ok Pending = refl
more_drops ok Blocked = refl
more_drops ok (Busy w moved failed dropped) = refl

more_works : (from count : ℕ) (ok : Bool) (p : Progress) → WorkerFits from count p → WorkerFits from count (one_more ok p)
more_works from count ok Pending h = h
more_works from count ok Blocked h = h
more_works from count ok (Busy w moved failed dropped) h = h

more_goes : (s : State) (d id : ℕ) (ok : Bool) (x : Unfinished) → IsSoundState s → d < drive_count s.machine → request_of (drive_at s.machine d).queue id ≡ Some x → has_more x.request.count x.progress ≡ true
    → Goes s d id (one_more ok) x
more_goes s d id ok x h l there more =
    let now = fits_now s d h l in
    record {
      there = there;
      fits = more_fits x ok more;
      dropped = λ e. sym (more_drops ok x.progress) ∙ e;
      worker = more_works (first_worker s.machine d) (drive_at s.machine d).workers ok x.progress (its_fact (λ (y : Unfinished). WorkerFits (first_worker s.machine d) (drive_at s.machine d).workers y.progress) (drive_at s.machine d).queue id x there now.workers);
    }

sector_reaches : (s : State) (d id : ℕ) (x : Unfinished) → IsSoundState s → d < drive_count s.machine → request_of (drive_at s.machine d).queue id ≡ Some x → has_more x.request.count x.progress ≡ true → is_flush x.request ≡ false
    → Reaches s.machine.ram (length (drive_at s.machine d).bytes) x.request (moved_of x.progress)
sector_reaches s d id x h l there more sectors =
    let now = fits_now s d h l in
    let its = its_fact (RequestFits s.machine.ram (drive_at s.machine d)) (drive_at s.machine d).queue id x there now.requests in
    reaches s.machine.ram (drive_at s.machine d).bytes x.request (moved_of x.progress) h.machine.ram its.accepted.sound its.accepted.fits its.accepted.whole sectors (less_moved x.request.count x.progress more)

length_read : (ram : Memory) (at : ℕ) → at + 512 ≤ length ram.bytes → length (read_of ram at 512) ≡ 512
length_read ram at l = simp (length-take, length-drop) (omega (arith, l))

length_with : (bytes piece : List ℕ) (k : ℕ) → length piece ≡ 512 → 512 * k + 512 ≤ length bytes → length (with_sector bytes k piece) ≡ length bytes
length_with bytes piece k e l = simp (length-append, length-take, length-drop) (omega (arith, e, l))

-- ---- Move

record MoveTells (s : State) (p d id : ℕ) : Type 0 where
  drive : d < drive_count s.machine
  some : some_request (drive_at s.machine d).queue id (λ (x : Unfinished). is_busy_by p x && moves x) ≡ true

move_tells : (s : State) (p d id : ℕ) → may_move s p d id ≡ true → MoveTells s p d id
unfolding may_move
move_tells s p d id m = let a = and_parts _ _ m in record { drive = ltb-true _ _ a.0; some = a.1 }

read_in_size : (s : State) (d id : ℕ) (x : Unfinished) → request_of (drive_at s.machine d).queue id ≡ Some x → Reaches s.machine.ram (length (drive_at s.machine d).bytes) x.request (moved_of x.progress)
    → KeepsSize s.machine.ram (with_read s.machine.ram (drive_at s.machine d).bytes (request_of (drive_at s.machine d).queue id))
read_in_size s d id x there r =
    let long = length_sector (drive_at s.machine d).bytes (next_sector x) r.sector in
    let far = r.address in
    rw there (record { code = refl; size = size_written s.machine.ram (next_address x) (sector_of (drive_at s.machine d).bytes (next_sector x)) (omega (arith, long, far)) })

pub keeps_move : (s : State) (p d id : ℕ) → IsSoundState s → may_move s p d id ≡ true → IsSoundState (after_move s d id)
unfolding after_move
keeps_move s p d id h m =
    let t = move_tells s p d id m in
    let q : Queue = (drive_at s.machine d).queue in
    let now = fits_now s d h t.drive in
    let i = is_there q id (λ (x : Unfinished). is_busy_by p x && moves x) now.sound t.some in
    let x : Unfinished = i.request in
    let is = moves_tells x (and_parts (is_busy_by p x) (moves x) i.so).1 in
    let r = sector_reaches s d id x h t.drive i.there is.1 (read_is_no_flush x.request.kind is.0) in
    let ram : Memory = with_read s.machine.ram (drive_at s.machine d).bytes (request_of q id) in
    image_stays s (with_queue (record s.machine { ram = ram }) d (with_progress q id (one_more true))) d
    (keeps_row s d ram (with_progress q id (one_more true)) (drive_at s.machine d).bytes (image_at s d) h t.drive (read_in_size s d id x i.there r) refl
    (progress_fits s d id (one_more true) x (image_at s d) h t.drive (more_goes s d id true x h t.drive i.there is.1)
    (still_held s d id (one_more true) x (image_at s d).holder now.sound i.there (λ holder. reads_rest holder x is.0) now.held)
    refl refl refl refl))
  where
    reads_rest : (holder : Holder) (x : Unfinished) → is_read x.request ≡ true → is_out holder x ≡ false
    reads_rest holder x read = grind (arith, common_steps)

-- ---- Hold

record HoldTells (s : State) (p d id : ℕ) : Type 0 where
  drive : d < drive_count s.machine
  some : some_request (drive_at s.machine d).queue id (λ (x : Unfinished). is_busy_by p x && puts x && not (is_dropped x)) ≡ true

hold_tells : (s : State) (p d id : ℕ) → may_hold s p d id ≡ true → HoldTells s p d id
unfolding may_hold
hold_tells s p d id m = let a = and_parts _ _ m in let b = and_parts _ _ a.0 in record { drive = ltb-true _ _ b.0; some = a.1 }

midway_if : (p count : ℕ) (x : Progress) → has_worker p x ≡ true → has_more count x ≡ true → failed_of x ≡ false → is_midway p count x ≡ true
midway_if p count Pending w m f = absurd (true≢false (sym w))
midway_if p count Blocked w m f = absurd (true≢false (sym w))
midway_if p count (Busy worker moved failed dropped) w m f = grind (arith, common_steps)

write_size : (s : State) (d id : ℕ) (x : Unfinished) (b : Bool) → IsSoundState s → d < drive_count s.machine → request_of (drive_at s.machine d).queue id ≡ Some x → has_more x.request.count x.progress ≡ true → is_flush x.request ≡ b
    → length (if b then (drive_at s.machine d).bytes else with_sector (drive_at s.machine d).bytes (next_sector x) (read_of s.machine.ram (next_address x) 512)) ≡ length (drive_at s.machine d).bytes
write_size s d id x true h l there more e = refl
write_size s d id x false h l there more e =
    let r = sector_reaches s d id x h l there more e in
    length_with (drive_at s.machine d).bytes (read_of s.machine.ram (next_address x) 512) (next_sector x) (length_read s.machine.ram (next_address x) r.address) r.sector

pub keeps_hold : (s : State) (p d id : ℕ) → IsSoundState s → may_hold s p d id ≡ true → IsSoundState (after_hold s p d id)
unfolding after_hold
keeps_hold s p d id h m =
    let t = hold_tells s p d id m in
    let q : Queue = (drive_at s.machine d).queue in
    let now = fits_now s d h t.drive in
    let i = is_there q id (λ (x : Unfinished). is_busy_by p x && puts x && not (is_dropped x)) now.sound t.some in
    let x : Unfinished = i.request in
    let a = and_parts (is_busy_by p x && puts x) (not (is_dropped x)) i.so in
    let b = and_parts (is_busy_by p x) (puts x) a.0 in
    let is = puts_tells x b.1 in
    let f = found (λ (y : Unfinished). y.id == id) q.requests x i.there in
    let holder : Holder = record { by = p; id = id } in
    let out : is_out holder x ≡ true = out_if holder x f.so is.no_read (midway_if p x.request.count x.progress b.0 is.more is.well) in
    let size : length (with_write s.machine.ram (drive_at s.machine d).bytes (request_of q id)) ≡ length (drive_at s.machine d).bytes =
    rw i.there (write_size s d id x (is_flush x.request) h t.drive i.there is.more refl) in
    keeps_row s d s.machine.ram q (with_write s.machine.ram (drive_at s.machine d).bytes (request_of q id)) (record (image_at s d) { holder = Some holder }) h t.drive (record { code = refl; size = refl }) size
    (record {
      sound = now.sound;
      requests = now.requests;
      workers = now.workers;
      held = list_any_at (is_out holder) q.requests f.at x f.within (ap (is_out holder) (sym f.is) ∙ out);
      counted = now.counted;
      size = now.size;
      marks = now.marks;
    })
  where
    out_if : (holder : Holder) (x : Unfinished) → (x.id == holder.id) ≡ true → is_read x.request ≡ false → is_midway holder.by x.request.count x.progress ≡ true → is_out holder x ≡ true
    out_if holder x a b c = grind (arith, common_steps)

-- ---- Put

pub record PutTells (s : State) (p d id : ℕ) : Type 0 where
  pub drive : d < drive_count s.machine
  pub holder : is_holder p id (image_at s d).holder ≡ true

pub put_tells : (s : State) (p d id : ℕ) → may_put s p d id ≡ true → PutTells s p d id
unfolding may_put
put_tells s p d id m = let a = and_parts _ _ m in record { drive = ltb-true _ _ a.0; holder = a.1 }

record PutKeeps (image new : DiskImage) : Type 0 where
  bytes : length new.bytes ≡ length image.bytes
  doubt : length new.doubt ≡ length image.doubt
  finished : new.finished ≡ image.finished
  cancelled : new.cancelled ≡ image.cancelled

sector_put_keeps : (image : DiskImage) (bytes : List ℕ) (k : ℕ) (ok : Bool) → 512 * k + 512 ≤ length bytes → length image.bytes ≡ length bytes → PutKeeps image (come_back (sector_put image bytes k ok))
sector_put_keeps image bytes k true l e = record {
  bytes = length_with image.bytes (sector_of bytes k) k (length_sector bytes k l) (omega (arith, l, e));
  doubt = length-set image.doubt k false;
  finished = refl;
  cancelled = refl;
}
sector_put_keeps image bytes k false l e = record { bytes = refl; doubt = length-set image.doubt k true; finished = refl; cancelled = refl }

put_keeps : (image : DiskImage) (bytes : List ℕ) (x : Unfinished) (ok b : Bool) → is_flush x.request ≡ b → (b ≡ false → 512 * next_sector x + 512 ≤ length bytes) → length image.bytes ≡ length bytes
    → PutKeeps image (come_back (if b then image else sector_put image bytes (next_sector x) ok))
put_keeps image bytes x ok true e l same = record { bytes = refl; doubt = refl; finished = refl; cancelled = refl }
put_keeps image bytes x ok false e l same = sector_put_keeps image bytes (next_sector x) ok (l refl) same

put_home : (image : DiskImage) (bytes : List ℕ) (o : Option Unfinished) (ok : Bool) → (come_back (request_put image bytes o ok)).holder ≡ None
put_home image bytes o ok = refl

pub keeps_put : (s : State) (p d id : ℕ) (ok : Bool) → IsSoundState s → may_put s p d id ≡ true → IsSoundState (after_put s d id ok)
unfolding after_put
keeps_put s p d id ok h m =
    let t = put_tells s p d id m in
    let q : Queue = (drive_at s.machine d).queue in
    let now = fits_now s d h t.drive in
    let some = held_puts q.requests p id (image_at s d).holder t.holder now.held in
    let i = is_there q id puts now.sound some in
    let x : Unfinished = i.request in
    let is = puts_tells x i.so in
    let bytes : List ℕ = (drive_at s.machine d).bytes in
    let image : DiskImage = come_back (request_put (image_at s d) bytes (request_of q id) ok) in
    let k : PutKeeps (image_at s d) image =
    rw i.there (put_keeps (image_at s d) bytes x ok (is_flush x.request) refl (λ e. (sector_reaches s d id x h t.drive i.there is.more e).sector) now.size) in
    keeps_row s d s.machine.ram (with_progress q id (one_more ok)) bytes image h t.drive (record { code = refl; size = refl }) refl
    (progress_fits s d id (one_more ok) x image h t.drive (more_goes s d id ok x h t.drive i.there is.more) tt k.finished k.cancelled k.bytes k.doubt)
