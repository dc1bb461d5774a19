-- A request that is completed keeps what holds of every run: Finish.
use Rattle.std.specs.Prelude.{Option, Some, None, ◌==◌, ◌&&◌, ◌||◌, nat_lt, if◌then◌else◌, bit_or}
use Rattle.std.specs.List.{All, list_any}
use Rattle.std.proofs.Common.{◌≡◌, ◌≢◌, ℕ, zero, suc, ◌+◌, ◌*◌, ◌%◌, ◌^◌, ◌<◌, ◌≤◌, Bool, true, false, not, List, [], ◌∷◌, ◌++◌, length, get_or, set, refl, sym, ap, subst, ◌∙◌, arith, inl, inr}
use Rattle.std.proofs.lemmas.Bool.{and_parts, true≢false, ltb-true, eq-eqb}
use Rattle.std.proofs.Math.ListN.{length-set}
use Rattle.std.proofs.lemmas.List.{get_or-set_same}
use Rattle.byteorder.specs.Endian.{little_bytes}
use Rattle.vm_law.specs.Memory.{Memory, KeepsSize, written}
use Rattle.vm_law.specs.declared.chips.WindowState.{WindowState}
use Rattle.vq_ring.specs.Ring.{lies_in}
use Rattle.vq_ring.specs.Used.{used_element, used_entry, with_used, wants_interrupt}
use Rattle.vq_ring.proofs.Rings.{lies}
use Rattle.vm_vblk.specs.Queue.{completed, counted}
use Rattle.vm_vblk.specs.Window.{IsState, LiesOver, ring_of}
use Rattle.vm_vblk.proofs.Writes.{size_written}
use Rattle.blk_queue.specs.declared.progress.Finished.{Finished}
use Rattle.blk_queue.specs.declared.progress.Unfinished.{Unfinished}
use Rattle.blk_queue.specs.Progress.{ends, is_dropped, told}
use Rattle.blk_queue.specs.Queue.{Queue, request_of, some_request}
use Rattle.blk_queue.specs.Steps.{left}
use Rattle.vm_devices.specs.Windows.{with_window}
use Rattle.vm_devices.proofs.KeptLines.{keeps_window}
use Rattle.vm_state.specs.declared.drive.Drive.{Drive}
use Rattle.vm_state.specs.declared.image.DiskImage.{DiskImage}
use Rattle.vm_state.specs.declared.image.Holder.{Holder}
use Rattle.vm_state.specs.Machine.{MachineState, drive_at, drive_count, no_drive, with_drive}
use Rattle.vm_state.specs.Requests.{first_worker, is_busy_by}
use Rattle.vm_state.specs.State.{State, image_at, with_image, with_machine}
use Rattle.vm_state.specs.Sound.{IsDrive, ImageFits, IsSoundState, RequestFits, size_allows}
use Rattle.vm_disks.specs.Queueing.{with_queue}
use Rattle.vm_disks.specs.Moving.{is_held_for, may_finish, after_finish, finished_as, told_driver}
use Rattle.vm_disks.proofs.Lookup.{Is, is_there}
use Rattle.vm_disks.proofs.Going.{not_true}
use Rattle.vm_disks.proofs.KeptQueues.{its_fact}
use Rattle.vm_disks.proofs.KeptDrives.{drive_over, keeps_ram, keeps_changed_drive, window_changed}
use Rattle.vm_disks.proofs.KeptRows.{fits_now, keeps_row, left_fits, left_held}

-- ---- memory after a chain was completed has as many bytes

pub completed_keeps : (m : Memory) (w : WindowState) (head at status len : ℕ) → lies_in (ring_of w) m ≡ true → at < length m.bytes → KeepsSize m (completed m w head at status len)
unfolding completed with_used
completed_keeps m w head at status len h l =
    let t = lies (ring_of w) m.code (length m.bytes) h in
    let one : Memory = written m at (status ∷ []) in
    let first : length one.bytes ≡ length m.bytes = size_written m at (status ∷ []) (omega (arith, l)) in
    let entry : ℕ = used_entry (ring_of w) w.used_index in
    let two : Memory = written one entry (used_element head len) in
    let some : 0 < w.queue_num = t.1 in
    let far : w.queue_used + 6 + 8 * w.queue_num ≤ length m.bytes = t.8 in
    let place : w.used_index % w.queue_num < w.queue_num = omega (arith, some) in
    let second : length two.bytes ≡ length one.bytes = size_written one entry (used_element head len) (omega (arith, far, place, first)) in
    let third : length (written two (w.queue_used + 2) (little_bytes 2 ((w.used_index + 1) % 2 ^ 16))).bytes ≡ length two.bytes =
    size_written two (w.queue_used + 2) (little_bytes 2 ((w.used_index + 1) % 2 ^ 16)) (omega (arith, far, first, second, some)) in
    record { code = refl; size = third ∙ second ∙ first }

-- ---- the window after it

or_one : (n : ℕ) → n < 4 → bit_or n 1 < 4
or_one zero l = omega arith
or_one (suc zero) l = omega arith
or_one (suc (suc zero)) l = omega arith
or_one (suc (suc (suc zero))) l = omega arith
or_one (suc (suc (suc (suc n)))) l = absurd (omega (arith, l))

counted_if : (b : Bool) (n : ℕ) → n < 4 → (if b then bit_or n 1 else n) < 4
counted_if true n l = or_one n l
counted_if false n l = l

pub counted_is : (m : Memory) (w : WindowState) → IsState w → IsState (counted m w)
unfolding counted
counted_is m w h = record {
  size = h.size;
  ready = h.ready;
  interrupt = counted_if (wants_interrupt m (ring_of w)) w.interrupt_status h.interrupt;
  notified = h.notified;
}

pub counted_drive : (m : Memory) (drive : Drive) → IsDrive m drive → IsDrive m (record drive { window = counted m drive.window })
unfolding counted
counted_drive m drive h = record {
  some_worker = h.some_worker;
  workers = h.workers;
  some_sector = h.some_sector;
  sectors = h.sectors;
  whole = h.whole;
  ro = h.ro;
  capacity = h.capacity;
  registers = counted_here h.registers;
  tables = h.tables;
  queue = h.queue;
  requests = λ k d l.
      let f : RequestFits m drive (get_or drive.queue.requests k d) = h.requests k d l in
      record { accepted = record { sound = f.accepted.sound; fits = f.accepted.fits; whole = f.accepted.whole; bare = f.accepted.bare; writable = f.accepted.writable }; window = f.window };
}
  where
    counted_here : IsState drive.window → IsState (counted m drive.window)
    counted_here i = counted_is m drive.window i

-- ---- the driver is told

pub record CanTell (s : State) (d : ℕ) (x : Finished) : Type 0 where
  pub ready : (drive_at s.machine d).window.queue_ready ≡ true
  pub above_code : s.machine.ram.code ≤ x.status_at
  pub in_ram : x.status_at < length s.machine.ram.bytes

pub keeps_told : (s : State) (d : ℕ) (x : Finished) → IsSoundState s → d < drive_count s.machine → CanTell s d x → IsSoundState (with_machine s (told_driver s.machine d x))
unfolding told_driver
keeps_told s d x h l t =
    let drive : Drive = drive_at s.machine d in
    let its = h.machine.each_drive d l in
    let ram : Memory = completed s.machine.ram drive.window x.head x.status_at x.status x.len in
    let k : KeepsSize s.machine.ram ram = completed_keeps s.machine.ram drive.window x.head x.status_at x.status x.len (its.tables t.ready) t.in_ram in
    let y : Drive = record drive { window = counted ram drive.window } in
    let image = h.images.each d l in
    keeps_changed_drive s (with_window (record s.machine { ram = ram }) d y) d y h l (window_changed s.machine ram d y k)
    (keeps_window (record s.machine { ram = ram }) d y (keeps_ram s.machine ram h.machine k) l (counted_drive ram drive (drive_over s.machine.ram ram drive k its))) refl
    (record { workers = image.workers; size = image.size; marks = image.marks; held = image.held; counted = image.counted })

-- ---- Finish

record FinishTells (s : State) (p d id : ℕ) : Type 0 where
  drive : d < drive_count s.machine
  home : is_held_for id (image_at s d).holder ≡ false
  some : some_request (drive_at s.machine d).queue id (λ (x : Unfinished). is_busy_by p x && ends x) ≡ true

finish_tells : (s : State) (p d id : ℕ) → may_finish s p d id ≡ true → FinishTells s p d id
unfolding may_finish
finish_tells s p d id m =
    let a = and_parts _ _ m in
    let b = and_parts _ _ a.0 in
    record { drive = ltb-true _ _ b.0; home = not_true (is_held_for id (image_at s d).holder) b.1; some = a.1 }

other_held : (id : ℕ) (o : Option Holder) → is_held_for id o ≡ false → (holder : Holder) → o ≡ Some holder → holder.id ≢ id
other_held id o home holder e same =
    let here : is_held_for id (Some holder) ≡ false = subst (λ (x : Option Holder). is_held_for id x ≡ false) e home in
    true≢false (sym (eq-eqb holder.id id same) ∙ here)

ready_tells : (ready : Bool) (allows : Bool) → (ready && allows) ≡ true → ready ≡ true
ready_tells ready allows h = (and_parts ready allows h).0

-- what is told of a request that isn't dropped can be told
can_tell : (s : State) (d id : ℕ) (x : Unfinished) → IsSoundState s → d < drive_count s.machine → request_of (drive_at s.machine d).queue id ≡ Some x → is_dropped x ≡ false → (q : Queue) (image : DiskImage)
    → CanTell (with_image (with_machine s (with_queue s.machine d q)) d image) d (told x)
can_tell s d id x h l there gone q image =
    let now = fits_now s d h l in
    let its : RequestFits s.machine.ram (drive_at s.machine d) x = its_fact (RequestFits s.machine.ram (drive_at s.machine d)) (drive_at s.machine d).queue id x there now.requests in
    let same : drive_at (with_queue s.machine d q) d ≡ record (drive_at s.machine d) { queue = q } = get_or-set_same s.machine.drives d (record (drive_at s.machine d) { queue = q }) no_drive l in
    record {
      ready = ap (λ (y : Drive). y.window.queue_ready) same ∙ ready_tells (drive_at s.machine d).window.queue_ready (size_allows (drive_at s.machine d).window.queue_num x.request) (its.window gone);
      above_code = its.accepted.fits.above_code;
      in_ram = its.accepted.fits.in_ram;
    }

finish_with : (s : State) (d id : ℕ) (x : Unfinished) (b : Bool) → IsSoundState s → d < drive_count s.machine → request_of (drive_at s.machine d).queue id ≡ Some x → is_dropped x ≡ b → (q : Queue) (image : DiskImage)
    → IsSoundState (with_image (with_machine s (with_queue s.machine d q)) d image)
    → IsSoundState (with_image (with_machine s (if b then with_queue s.machine d q else told_driver (with_queue s.machine d q) d (told x))) d image)
finish_with s d id x true h l there gone q image next = next
finish_with s d id x false h l there gone q image next =
    keeps_told (with_image (with_machine s (with_queue s.machine d q)) d image) d (told x) next (subst (λ (n : ℕ). d < n) (sym (length-set s.machine.drives d (record (drive_at s.machine d) { queue = q }))) l)
    (can_tell s d id x h l there gone q image)

pub keeps_finish : (s : State) (p d id : ℕ) → IsSoundState s → may_finish s p d id ≡ true → IsSoundState (after_finish s d id)
unfolding after_finish
keeps_finish s p d id h m =
    let t = finish_tells s p d id m in
    let q : Queue = (drive_at s.machine d).queue in
    let now = fits_now s d h t.drive in
    let i = is_there q id (λ (x : Unfinished). is_busy_by p x && ends x) now.sound t.some in
    let x : Unfinished = i.request in
    let image : DiskImage = record (image_at s d) { finished = (image_at s d).finished + 1 } in
    let next : IsSoundState (with_image (with_machine s (with_queue s.machine d (left q id))) d image) =
    keeps_row s d s.machine.ram (left q id) (drive_at s.machine d).bytes image h t.drive (record { code = refl; size = refl }) refl
    (left_fits s d id x image h t.drive i.there (left_held s d id (image_at s d).holder (other_held id (image_at s d).holder t.home) now.held) (omega arith) refl refl) in
    rw i.there (finish_with s d id x (is_dropped x) h t.drive i.there refl (left q id) image next)
