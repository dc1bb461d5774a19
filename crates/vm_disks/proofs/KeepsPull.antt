-- A chain that a worker takes keeps what holds of every run: Pull.
use Rattle.std.specs.Prelude.{Option, Some, None, ◌==◌, ◌&&◌, ◌||◌, nat_lt, nat_le, if◌then◌else◌, bit_or, slice_get, slice_index, is_none}
use Rattle.std.specs.List.{All, list_any, list_all}
use Rattle.std.proofs.Common.{◌≡◌, ◌≢◌, ℕ, zero, suc, ◌+◌, ◌-◌, ◌%◌, ◌^◌, ◌<◌, ◌≤◌, Bool, true, false, not, List, [], ◌∷◌, ◌++◌, length, map, get_or, set, refl, sym, ap, subst, ◌∙◌, arith, inl, inr}
use Rattle.std.proofs.lemmas.Bool.{and_parts, true≢false, ltb-true, lt-ltb}
use Rattle.std.proofs.lemmas.Bool.Decides.{nat_tests}
use Rattle.std.proofs.lemmas.Grind.{common_steps}
use Rattle.std.proofs.lemmas.List.{length-append, length-map}
use Rattle.std.proofs.lemmas.List.Folds.{list_all-map}
use Rattle.std.proofs.lemmas.Option.{slice_get_within, get_or_from_slice_get}
use Rattle.vm_law.specs.Memory.{Memory, KeepsSize, read_of}
use Rattle.vm_law.specs.declared.block.ChainList.{ChainList}
use Rattle.vm_law.specs.declared.block.Descriptor.{Descriptor}
use Rattle.vm_law.specs.declared.block.Kind.{Kind}
use Rattle.vm_law.specs.declared.block.Kind.TheVariants.{Read, Write, Flush}
use Rattle.vm_law.specs.declared.block.Request.{Request}
use Rattle.vm_law.specs.declared.block.Segment.{Segment}
use Rattle.vm_law.specs.declared.chips.WindowState.{WindowState}
use Rattle.vq_ring.specs.Ring.{lies_in}
use Rattle.vq_ring.specs.declared.ring.Ring.{Ring}
use Rattle.vq_ring.specs.Chain.{IsNext, Tells, descriptor_at, next_chain}
use Rattle.vq_ring.specs.declared.chain.Chain.{Chain}
use Rattle.vq_ring.specs.declared.chain.Chain.TheVariants as chain
use Rattle.vq_ring.proofs.Reached.{tells, usable}
use Rattle.vblk_req.specs.Request.{IfAccept, asked, data_of, flush, header_of, is_refused, is_request, is_whole, goes, sector_of, sectors_of, segment_of, status_of, transfer, transfer_of, type_of}
use Rattle.vblk_req.specs.Request.{IsSound as IsAsked}
use Rattle.vblk_req.specs.declared.ask.Ask.{Ask}
use Rattle.vblk_req.specs.declared.ask.Ask.TheVariants as ask
use Rattle.vblk_req.proofs.Sound.{asked_sound}
use Rattle.vm_vblk.specs.Queue.{AskFits, Fits, asked_by, breaks, completed, counted, pull_of, pulled_ask, pulled_chain, taken}
use Rattle.vm_vblk.specs.Window.{IsState, LiesOver, broken, has_more, ring_of, waits}
use Rattle.vm_vblk.proofs.Asked.{asked_fits}
use Rattle.blk_queue.specs.declared.progress.Progress.{Progress}
use Rattle.blk_queue.specs.declared.progress.Progress.TheVariants.{Pending, Blocked}
use Rattle.blk_queue.specs.declared.progress.Unfinished.{Unfinished}
use Rattle.blk_queue.specs.Progress.{HasItsData, IsRequest, is_flush, is_flush_kind}
use Rattle.blk_queue.specs.Queue.{Queue}
use Rattle.blk_queue.specs.Steps.{joined}
use Rattle.vm_devices.specs.Windows.{with_window}
use Rattle.vm_devices.proofs.KeptLines.{keeps_window}
use Rattle.vm_state.specs.declared.drive.Drive.{Drive}
use Rattle.vm_state.specs.declared.image.Holder.{Holder}
use Rattle.vm_state.specs.Machine.{MachineState, drive_at, drive_count}
use Rattle.vm_state.specs.Requests.{capacity_of, first_worker, is_worker}
use Rattle.vm_state.specs.State.{State, image_at, with_machine}
use Rattle.vm_state.specs.Sound.{FlushIsBare, IsAccepted, IsDrive, IsHeld, IsSoundState, IsWhole, ImageFits, RequestFits, StandsAt, WorkerFits, size_allows}
use Rattle.vm_disks.specs.Queueing.{can_pull, may_pull, after_pull, pulled_in}
use Rattle.vm_disks.proofs.Taken.{IsTaken, asked_taken, asks_request}
use Rattle.vm_disks.proofs.KeptQueues.{all_joined, held_joined, sound_joined}
use Rattle.vm_disks.proofs.KeptDrives.{drive_over, keeps_ram, keeps_changed_drive, lies_over, window_changed}
use Rattle.vm_disks.proofs.KeptRows.{QueueFits, fits_now}
use Rattle.vm_disks.proofs.Keeps.{WorkerTells, worker_tells}
use Rattle.vm_disks.proofs.KeepsFinish.{completed_keeps, counted_is}

-- ---- the window of a queue that goes on

pub record SameQueue (w v : WindowState) : Type 0 where
  pub registers : IsState v
  pub ro : v.ro ≡ w.ro
  pub sectors : v.sectors ≡ w.sectors
  pub ready : v.queue_ready ≡ w.queue_ready
  pub ring : ring_of v ≡ ring_of w

taken_is : (m : Memory) (w : WindowState) → IsState w → IsState (taken m w)
unfolding taken
taken_is m w h = record {
  size = h.size;
  ready = h.ready;
  interrupt = h.interrupt;
  notified = λ e. h.notified (and_parts w.notified _ e).0;
}

taken_same : (m : Memory) (w : WindowState) → IsState w → SameQueue w (taken m w)
unfolding taken
taken_same m w h = record { registers = taken_is m w h; ro = refl; sectors = refl; ready = refl; ring = refl }

answered_same : (m : Memory) (w : WindowState) → IsState w → SameQueue w (taken m (counted m w))
unfolding taken counted
answered_same m w h = record { registers = taken_is m (counted m w) (counted_is m w h); ro = refl; sectors = refl; ready = refl; ring = refl }

or_two : (n : ℕ) → n < 4 → bit_or n 2 < 4
or_two zero l = omega arith
or_two (suc zero) l = omega arith
or_two (suc (suc zero)) l = omega arith
or_two (suc (suc (suc zero))) l = omega arith
or_two (suc (suc (suc (suc n)))) l = absurd (omega (arith, l))

broken_same : (w : WindowState) → IsState w → SameQueue w (broken w)
broken_same w h = record {
  registers = record { size = h.size; ready = h.ready; interrupt = or_two w.interrupt_status h.interrupt; notified = λ e. absurd (true≢false (sym e)) };
  ro = refl;
  sectors = refl;
  ready = refl;
  ring = refl;
}

-- ---- a run whose drive has another window and queue, and memory of as many bytes

window_for : (drive : Drive) (w : WindowState) (x : Unfinished) → SameQueue drive.window w → StandsAt drive.window.queue_ready drive.window.queue_num x → StandsAt w.queue_ready w.queue_num x
window_for drive w x v h e =
    ap (λ (b : Bool). b && size_allows w.queue_num x.request) v.ready ∙ ap (λ r. drive.window.queue_ready && size_allows r.size x.request) v.ring ∙ h e

lies_for : (m : Memory) (w v : WindowState) → SameQueue w v → LiesOver m w → LiesOver m v
lies_for m w v same h e = ap (λ r. lies_in r m) same.ring ∙ h (sym same.ready ∙ e)

drive_with : (s : State) (d : ℕ) (w : WindowState) (q : Queue) → IsDrive s.machine.ram (drive_at s.machine d) → SameQueue (drive_at s.machine d).window w → QueueFits s d q (image_at s d)
    → IsDrive s.machine.ram (record (drive_at s.machine d) { window = w; queue = q })
drive_with s d w q h v f = record {
  some_worker = h.some_worker;
  workers = h.workers;
  some_sector = h.some_sector;
  sectors = h.sectors;
  whole = h.whole;
  ro = v.ro ∙ h.ro;
  capacity = v.sectors ∙ h.capacity;
  registers = v.registers;
  tables = lies_for s.machine.ram (drive_at s.machine d).window w v h.tables;
  queue = f.sound;
  requests = λ k x l.
      let r : RequestFits s.machine.ram (drive_at s.machine d) (get_or q.requests k x) = f.requests k x l in
      record {
        accepted = record { sound = r.accepted.sound; fits = r.accepted.fits; whole = r.accepted.whole; bare = r.accepted.bare; writable = r.accepted.writable };
        window = window_for (drive_at s.machine d) w (get_or q.requests k x) v r.window;
      };
}

keeps_queue : (s : State) (d : ℕ) (ram : Memory) (w : WindowState) (q : Queue) → IsSoundState s → d < drive_count s.machine → KeepsSize s.machine.ram ram → SameQueue (drive_at s.machine d).window w → QueueFits s d q (image_at s d)
    → IsSoundState (with_machine s (with_window (record s.machine { ram = ram }) d (record (drive_at s.machine d) { window = w; queue = q })))
keeps_queue s d ram w q h l k v f =
    let y : Drive = record (drive_at s.machine d) { window = w; queue = q } in
    let is : IsDrive ram y = drive_over s.machine.ram ram y k (drive_with s d w q (h.machine.each_drive d l) v f) in
    keeps_changed_drive s (with_window (record s.machine { ram = ram }) d y) d y h l (window_changed s.machine ram d y k)
    (keeps_window (record s.machine { ram = ram }) d y (keeps_ram s.machine ram h.machine k) l is) refl
    (record { workers = f.workers; size = f.size; marks = f.marks; held = f.held; counted = f.counted })

-- ---- what may be taken

record PullTells (s : State) (p d : ℕ) : Type 0 where
  worker : WorkerTells s p d
  ready : (drive_at s.machine d).window.queue_ready ≡ true
  few : length (drive_at s.machine d).queue.requests < 64
  next : (drive_at s.machine d).queue.next < 2 ^ 32 - 1

record CanTells (ram : Memory) (drive : Drive) : Type 0 where
  ready : drive.window.queue_ready ≡ true
  few : length drive.queue.requests < 64
  next : drive.queue.next < 2 ^ 32 - 1

can_tells : (ram : Memory) (drive : Drive) → can_pull ram drive ≡ true → CanTells ram drive
unfolding can_pull
can_tells ram drive m =
    let a = and_parts _ _ m in
    let b = and_parts _ _ a.0 in
    let c = and_parts _ _ b.0 in
    record { ready = (and_parts _ _ c.1).0; few = ltb-true _ _ b.1; next = ltb-true _ _ a.1 }

pull_tells : (s : State) (p d : ℕ) → may_pull s p d ≡ true → PullTells s p d
unfolding may_pull
pull_tells s p d m =
    let a = and_parts _ _ m in
    let b = and_parts _ _ a.0 in
    let c = and_parts _ _ b.0 in
    let t = can_tells s.machine.ram (drive_at s.machine d) c.1 in
    record { worker = worker_tells s p d c.0; ready = t.ready; few = t.few; next = t.next }

-- ---- a request that joins

-- a request of a chain of at most as many descriptors as the queue has
record FromChain (s : State) (d head count : ℕ) (q : Request) : Type 0 where
  asked : IsAsked (capacity_of (drive_at s.machine d).bytes) q
  fits : Fits s.machine.ram q
  taken : IsTaken head count (drive_at s.machine d).ro q
  within : head < (drive_at s.machine d).window.queue_num
  short : count ≤ (drive_at s.machine d).window.queue_num

is_less : (a b : ℕ) → a < b → nat_lt a b ≡ true
is_less a b l = lt-ltb a b l

allowed : (s : State) (d head count : ℕ) (q : Request) → FromChain s d head count q → size_allows (drive_at s.machine d).window.queue_num q ≡ true
allowed s d head count q f =
    let same = f.taken.first in
    let small = f.taken.short in
    let within = f.within in
    let fit = f.short in
    let one = is_less q.head (drive_at s.machine d).window.queue_num (omega (arith, same, within)) in
    let two = is_less (length q.segments.items + 1) (drive_at s.machine d).window.queue_num (omega (arith, small, fit)) in
    grind (arith, common_steps)

joins : (s : State) (d head count : ℕ) (q : Request) (p : Progress) → (drive_at s.machine d).window.queue_ready ≡ true → FromChain s d head count q
    → RequestFits s.machine.ram (drive_at s.machine d) (record { id = (drive_at s.machine d).queue.next; request = q; progress = p })
joins s d head count q p ready f =
    let ok = allowed s d head count q f in
    record {
      accepted = record { sound = f.asked; fits = f.fits; whole = f.taken.whole; bare = f.taken.bare; writable = f.taken.writable };
      window = λ e. ap (λ b. b && size_allows (drive_at s.machine d).window.queue_num q) ready ∙ ok;
    }

held_more : (q : Queue) (r : Request) (o : Option Holder) → IsHeld q.requests o → IsHeld (joined q r).requests o
held_more q r None h = tt
held_more q r (Some holder) h = held_joined q r holder h

length_joined : (q : Queue) (r : Request) → length (joined q r).requests ≡ length q.requests + 1
unfolding joined
length_joined q r = length-append q.requests _

next_joined : (q : Queue) (r : Request) → (joined q r).next ≡ q.next + 1
unfolding joined
next_joined q r = refl

joined_fits : (s : State) (p d head count : ℕ) (q : Request) → IsSoundState s → PullTells s p d → FromChain s d head count q → QueueFits s d (joined (drive_at s.machine d).queue q) (image_at s d)
joined_fits s p d head count q h t f =
    let now = fits_now s d h t.worker.drive in
    let queue : Queue = (drive_at s.machine d).queue in
    record {
      sound = sound_joined queue q now.sound t.few t.next (asks_request (capacity_of (drive_at s.machine d).bytes) count (drive_at s.machine d).ro head q f.asked f.taken);
      requests = all_joined (RequestFits s.machine.ram (drive_at s.machine d)) queue q now.requests (joins s d head count q Pending t.ready f) (joins s d head count q Blocked t.ready f);
      workers = all_joined (λ (y : Unfinished). WorkerFits (first_worker s.machine d) (drive_at s.machine d).workers y.progress) queue q now.workers tt tt;
      held = held_more queue q (image_at s d).holder now.held;
      counted =
          let n = length_joined queue q in
          let e = next_joined queue q in
          let c = now.counted in
          omega (arith, n, e, c);
      size = now.size;
      marks = now.marks;
    }

-- ---- what the chain asks for

abbrev with_taken : Memory → WindowState → WindowState
with_taken m w = taken m w

pulled_ask_keeps : (s : State) (p d head count : ℕ) (a : Ask) → IsSoundState s → PullTells s p d → IfAccept a (IsAsked (capacity_of (drive_at s.machine d).bytes)) → IfAccept a (IsTaken head count (drive_at s.machine d).ro)
    → AskFits s.machine.ram a → head < (drive_at s.machine d).window.queue_num → count ≤ (drive_at s.machine d).window.queue_num
    → IsSoundState (with_machine s (pulled_in s.machine d (pulled_ask s.machine.ram (drive_at s.machine d).window head a)))
unfolding pulled_in pulled_ask
pulled_ask_keeps s p d head count (ask.Accept q) h t asked taken fits l short =
    let w : WindowState = (drive_at s.machine d).window in
    let state = (h.machine.each_drive d t.worker.drive).registers in
    keeps_queue s d s.machine.ram (with_taken s.machine.ram w) (joined (drive_at s.machine d).queue q) h t.worker.drive (record { code = refl; size = refl }) (taken_same s.machine.ram w state)
    (joined_fits s p d head count q h t (record { asked = asked; fits = fits; taken = taken; within = l; short = short }))
pulled_ask_keeps s p d head count (ask.Answer status at) h t asked taken fits l short =
    let w : WindowState = (drive_at s.machine d).window in
    let drive = h.machine.each_drive d t.worker.drive in
    let ram : Memory = completed s.machine.ram w head at status 1 in
    keeps_queue s d ram (with_taken ram (counted ram w)) (drive_at s.machine d).queue h t.worker.drive (completed_keeps s.machine.ram w head at status 1 (drive.tables t.ready) fits.1) (answered_same ram w drive.registers)
    (fits_now s d h t.worker.drive)
pulled_ask_keeps s p d head count ask.Bad h t asked taken fits l short =
    let w : WindowState = (drive_at s.machine d).window in
    keeps_queue s d s.machine.ram (broken w) (drive_at s.machine d).queue h t.worker.drive (record { code = refl; size = refl }) (broken_same w (h.machine.each_drive d t.worker.drive).registers) (fits_now s d h t.worker.drive)

broken_pull : (s : State) (p d : ℕ) → IsSoundState s → PullTells s p d
    → IsSoundState (with_machine s (pulled_in s.machine d (breaks s.machine.ram (drive_at s.machine d).window)))
unfolding pulled_in
broken_pull s p d h t =
    let w : WindowState = (drive_at s.machine d).window in
    keeps_queue s d s.machine.ram (broken w) (drive_at s.machine d).queue h t.worker.drive (record { code = refl; size = refl }) (broken_same w (h.machine.each_drive d t.worker.drive).registers) (fits_now s d h t.worker.drive)

-- the head and the count of a chain that stands next are within the queue
record InQueue (size head count : ℕ) : Type 0 where
  first : head < size
  short : count ≤ size

in_queue : (m : Memory) (r : Ring) (last : ℕ) (c : ChainList) → IsNext m r last c.head c.descriptors.items → InQueue r.size c.head (length c.descriptors.items)
in_queue m r last c h =
    let path = h.chain.path in
    let first : 0 < length h.chain.places = slice_get_within h.chain.places 0 c.head path.begins in
    let here : get_or h.chain.places 0 0 ≡ c.head = get_or_from_slice_get h.chain.places 0 c.head 0 path.begins in
    let inside : get_or h.chain.places 0 0 < r.size = path.within 0 first in
    let long : length c.descriptors.items ≡ length h.chain.places = ap (λ (ds : List Descriptor). length ds) h.chain.listed ∙ length-map h.chain.places (descriptor_at m r) in
    let short = h.chain.short in
    record { first = subst (λ (n : ℕ). n < r.size) here inside; short = omega (arith, long, short) }

pulled_chain_keeps : (s : State) (p d : ℕ) (c : Chain) → IsSoundState s → PullTells s p d → Tells s.machine.ram (ring_of (drive_at s.machine d).window) (drive_at s.machine d).window.last_avail c
    → IsSoundState (with_machine s (pulled_in s.machine d (pulled_chain s.machine.ram (drive_at s.machine d).window c)))
unfolding pulled_chain asked_by
pulled_chain_keeps s p d (chain.Good c) h t next =
    let w : WindowState = (drive_at s.machine d).window in
    let drive = h.machine.each_drive d t.worker.drive in
    let q = in_queue s.machine.ram (ring_of w) w.last_avail c next in
    let header : List ℕ = read_of s.machine.ram (header_of c.descriptors.items).addr 16 in
    pulled_ask_keeps s p d c.head (length c.descriptors.items) (asked c.head c.descriptors.items header w.sectors w.ro) h t
    (subst (λ (n : ℕ). IfAccept (asked c.head c.descriptors.items header w.sectors w.ro) (IsAsked n)) drive.capacity (asked_sound c.head c.descriptors.items header w.sectors w.ro))
    (subst (λ (b : Bool). IfAccept (asked c.head c.descriptors.items header w.sectors w.ro) (IsTaken c.head (length c.descriptors.items) b)) drive.ro (asked_taken c.head c.descriptors.items header w.sectors w.ro))
    (asked_fits s.machine.ram c.head c.descriptors.items header w.sectors w.ro (usable s.machine.ram (ring_of w) w.last_avail (chain.Good c) next))
    q.first q.short
pulled_chain_keeps s p d chain.Bad h t next = broken_pull s p d h t
pulled_chain_keeps s p d chain.None h t next = broken_pull s p d h t

pub keeps_pull : (s : State) (p d : ℕ) → IsSoundState s → may_pull s p d ≡ true → IsSoundState (after_pull s d)
unfolding after_pull pull_of
keeps_pull s p d h m =
    let w : WindowState = (drive_at s.machine d).window in
    pulled_chain_keeps s p d (next_chain s.machine.ram (ring_of w) w.last_avail) h (pull_tells s p d m) (tells s.machine.ram (ring_of w) w.last_avail)
