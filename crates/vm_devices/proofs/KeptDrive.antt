-- What holds of a drive is kept by the writes to its window.
use Rattle.std.specs.Prelude.{if◌then◌else◌, ◌==◌, ◌||◌, bit_and, bit_or}
use Rattle.std.specs.List.{All, filter}
use Rattle.std.proofs.Common.{◌≡◌, ℕ, zero, suc, ◌-◌, ◌<◌, Bool, true, false, not, ◌&&◌, List, [], ◌∷◌, map, refl, sym, ap, subst, arith, ◌∙◌}
use Rattle.std.proofs.lemmas.List.Elements.{All-weaker, All-cons, All-nil, All-head, All-tail}
use Rattle.std.proofs.lemmas.Bool.{and_parts}
use Rattle.std.proofs.lemmas.Grind.{common_steps}
use Rattle.vm_law.specs.Memory.{Memory}
use Rattle.vm_law.specs.declared.chips.WindowState.{WindowState}
use Rattle.vq_ring.specs.declared.ring.Ring.{Ring}
use Rattle.vq_ring.specs.Ring.{ring_ok, lies_in, is_size}
use Rattle.vm_vblk.proofs.Bits.{keeps_working}
use Rattle.vm_vblk.specs.Window.{IsState, LiesOver, after_write, at_start, broken, hears, is_open, made_ready, ring_of, settable, with_half, with_status, works}
use Rattle.vm_vblk.specs.declared.register.Register.{Register}
use Rattle.vm_vblk.specs.declared.register.Register.TheVariants.{DeviceFeaturesSel, DriverFeatures, DriverFeaturesSel, QueueSel, QueueNum, QueueReady, QueueNotify, InterruptAck, Status, QueueDescLow, QueueDescHigh, QueueDriverLow, QueueDriverHigh, QueueDeviceLow, QueueDeviceHigh}
use Rattle.blk_queue.specs.Progress.{is_busy, is_dropped, works as works_on}
use Rattle.blk_queue.specs.Queue.{Queue}
use Rattle.blk_queue.proofs.Sound.{sound_emptied}
use Rattle.blk_queue.specs.declared.progress.Progress.{Progress}
use Rattle.blk_queue.specs.declared.progress.Progress.TheVariants.{Pending, Blocked, Busy}
use Rattle.blk_queue.specs.declared.progress.Unfinished.{Unfinished}
use Rattle.blk_queue.specs.Steps.{emptied, mark_dropped}
use Rattle.vm_state.specs.declared.drive.Drive.{Drive}
use Rattle.vm_state.specs.Sound.{IsDrive, RequestFits, size_allows}

-- a window that is in order over a memory, of the same disk; where the queue was ready it is so yet, with the same size
pub record IsNext (mem : Memory) (w v : WindowState) : Type 0 where
  pub ro : v.ro ≡ w.ro
  pub sectors : v.sectors ≡ w.sectors
  pub state : IsState v
  pub lies : LiesOver mem v
  pub stays : w.queue_ready ≡ true → (v.queue_ready ≡ true) × (v.queue_num ≡ w.queue_num)

next_same : (mem : Memory) (w : WindowState) → IsState w → LiesOver mem w → IsNext mem w w
next_same mem w h l = record { ro = refl; sectors = refl; state = h; lies = l; stays = λ e. (e, refl) }

-- what is written while the queue isn't ready is free, but for its size
while_open : (mem : Memory) (w v : WindowState) → IsState w → is_open w ≡ true → v.ro ≡ w.ro → v.sectors ≡ w.sectors → v.queue_ready ≡ w.queue_ready
    → ((v.queue_num == 0) || is_size v.queue_num) ≡ true → v.interrupt_status ≡ w.interrupt_status → v.notified ≡ w.notified → v.status ≡ w.status → IsNext mem w v
while_open mem w v h open_now ro sectors ready size interrupt notified status =
    let shut : w.queue_ready ≡ false = (let parts = (and_parts (not w.queue_ready) (w.queue_sel == 0) open_now).0 in grind (arith, common_steps)) in
    record {
      ro = ro;
      sectors = sectors;
      state = record {
        size = size;
        ready = λ e. absurd (grind (arith, common_steps));
        interrupt = subst (λ (n : ℕ). n < 4) (sym interrupt) h.interrupt;
        notified = λ e. absurd (let f = h.notified (sym notified ∙ e) in grind (arith, common_steps));
      };
      lies = λ e. absurd (grind (arith, common_steps));
      stays = λ e. absurd (grind (arith, common_steps));
    }

-- what leaves the queue and the status alone
beside : (mem : Memory) (w v : WindowState) → IsState w → LiesOver mem w → v.ro ≡ w.ro → v.sectors ≡ w.sectors → ring_of v ≡ ring_of w
    → v.queue_ready ≡ w.queue_ready → v.interrupt_status ≡ w.interrupt_status → v.notified ≡ w.notified → v.status ≡ w.status → IsNext mem w v
beside mem w v h l ro sectors ring ready interrupt notified status =
    let num : v.queue_num ≡ w.queue_num = ap (λ (r : Ring). r.size) ring in
    record {
      ro = ro;
      sectors = sectors;
      state = record {
        size = subst (λ (n : ℕ). ((n == 0) || is_size n) ≡ true) (sym num) h.size;
        ready = λ e. subst (λ (n : ℕ). is_size n ≡ true) (sym num) (h.ready (sym ready ∙ e));
        interrupt = subst (λ (n : ℕ). n < 4) (sym interrupt) h.interrupt;
        notified = λ e. ap (λ (b : Bool). b && works v.status) ready ∙ ap (λ (n : ℕ). w.queue_ready && works n) status ∙ h.notified (sym notified ∙ e);
      };
      lies = λ e. ap (λ (r : Ring). lies_in r mem) ring ∙ l (sym ready ∙ e);
      stays = λ e. (ready ∙ e, num);
    }

or_two : (n : ℕ) → n < 4 → bit_or n 2 < 4
or_two zero h = omega arith
or_two (suc zero) h = omega arith
or_two (suc (suc zero)) h = omega arith
or_two (suc (suc (suc zero))) h = omega arith
or_two (suc (suc (suc (suc n)))) h = absurd (omega arith)

broken_next : (mem : Memory) (w : WindowState) → IsState w → LiesOver mem w → IsNext mem w (broken w)
broken_next mem w h l = record {
  ro = refl;
  sectors = refl;
  state = record { size = h.size; ready = h.ready; interrupt = or_two w.interrupt_status h.interrupt; notified = λ e. absurd (grind (arith, common_steps)) };
  lies = l;
  stays = λ e. (e, refl);
}

sized : (r : Ring) (mem : Memory) → lies_in r mem ≡ true → is_size r.size ≡ true
unfolding ring_ok
sized r mem h = grind (arith, common_steps, and_parts)

-- an open queue is made ready
made_if : (mem : Memory) (w : WindowState) → IsState w → LiesOver mem w → is_open w ≡ true → (b : Bool) → lies_in (ring_of w) mem ≡ b
    → IsNext mem w (if b then record w { queue_ready = true } else broken w)
made_if mem w h l free true e = record {
  ro = refl;
  sectors = refl;
  state = record {
    size = h.size;
    ready = λ _. sized (ring_of w) mem e;
    interrupt = h.interrupt;
    notified = λ f. (let g = h.notified f in grind (arith, common_steps, and_parts));
  };
  lies = λ _. e;
  stays = λ f. (refl, refl);
}
made_if mem w h l free false e = broken_next mem w h l

if_next : (mem : Memory) (w v : WindowState) (b : Bool) → IsState w → LiesOver mem w → (b ≡ true → IsNext mem w v) → IsNext mem w (if b then v else w)
if_next mem w v true h l k = k refl
if_next mem w v false h l k = next_same mem w h l

mask_free : (b : Bool) → bit_and (if b then 0xBF else 0xB7) 64 ≡ 0
mask_free true = refl
mask_free false = refl

ack_small : (n bits : ℕ) → n < 4 → n - bit_and n bits < 4
ack_small n bits h = omega arith

-- a register is written, unless it is a status of 0, which is a reset
abbrev pub is_reset : Register → ℕ → Bool
is_reset Status value = value == 0
is_reset r value = false

status_next : (mem : Memory) (w : WindowState) (value : ℕ) → IsState w → LiesOver mem w → (value == 0) ≡ false → IsNext mem w (with_status w value)
status_next mem w value h l some = rw some (record {
  ro = refl;
  sectors = refl;
  state = record {
    size = h.size;
    ready = h.ready;
    interrupt = h.interrupt;
    notified = λ e.
        let before = and_parts w.queue_ready (works w.status) (h.notified e) in
        let working = keeps_working w.status value (settable w) before.1 (mask_free _) in
        let ready = before.0 in
        grind (arith, common_steps);
  };
  lies = l;
  stays = λ e. (e, refl);
})

pub written_next : (mem : Memory) (w : WindowState) (value : ℕ) → IsState w → LiesOver mem w → (r : Register) → is_reset r value ≡ false → IsNext mem w (after_write mem w r value)
written_next mem w value h l DeviceFeaturesSel other = beside mem w (record w { device_features_sel = value }) h l refl refl refl refl refl refl refl
written_next mem w value h l DriverFeatures other =
    beside mem w (record w { driver_features = with_half w.driver_features w.driver_features_sel value }) h l refl refl refl refl refl refl refl
written_next mem w value h l DriverFeaturesSel other = beside mem w (record w { driver_features_sel = value }) h l refl refl refl refl refl refl refl
written_next mem w value h l QueueSel other = beside mem w (record w { queue_sel = value }) h l refl refl refl refl refl refl refl
written_next mem w value h l QueueNum other =
    if_next mem w (record w { queue_num = value }) (is_open w && is_size value) h l
    (λ e. let parts = and_parts (is_open w) (is_size value) e in
    while_open mem w (record w { queue_num = value }) h parts.0 refl refl refl (let f = parts.1 in grind (arith, common_steps)) refl refl refl)
written_next mem w value h l QueueReady other =
    if_next mem w (made_ready mem w) (is_open w && (value == 1)) h l (λ e. made_if mem w h l (and_parts (is_open w) (value == 1) e).0 (lies_in (ring_of w) mem) refl)
written_next mem w value h l QueueNotify other = if_next mem w (record w { notified = true }) (hears mem w value) h l (λ e. record {
  ro = refl;
  sectors = refl;
  state = record { size = h.size; ready = h.ready; interrupt = h.interrupt; notified = λ _. grind (arith, common_steps, and_parts) };
  lies = l;
  stays = λ f. (f, refl);
})
written_next mem w value h l InterruptAck other = record {
  ro = refl;
  sectors = refl;
  state = record { size = h.size; ready = h.ready; interrupt = ack_small w.interrupt_status value h.interrupt; notified = h.notified };
  lies = l;
  stays = λ e. (e, refl);
}
written_next mem w value h l Status other = status_next mem w value h l other
written_next mem w value h l QueueDescLow other =
    if_next mem w (record w { queue_desc = with_half w.queue_desc 0 value }) (is_open w) h l (λ e. while_open mem w (record w { queue_desc = with_half w.queue_desc 0 value }) h e refl refl refl h.size refl refl refl)
written_next mem w value h l QueueDescHigh other =
    if_next mem w (record w { queue_desc = with_half w.queue_desc 1 value }) (is_open w) h l (λ e. while_open mem w (record w { queue_desc = with_half w.queue_desc 1 value }) h e refl refl refl h.size refl refl refl)
written_next mem w value h l QueueDriverLow other =
    if_next mem w (record w { queue_avail = with_half w.queue_avail 0 value }) (is_open w) h l (λ e. while_open mem w (record w { queue_avail = with_half w.queue_avail 0 value }) h e refl refl refl h.size refl refl refl)
written_next mem w value h l QueueDriverHigh other =
    if_next mem w (record w { queue_avail = with_half w.queue_avail 1 value }) (is_open w) h l (λ e. while_open mem w (record w { queue_avail = with_half w.queue_avail 1 value }) h e refl refl refl h.size refl refl refl)
written_next mem w value h l QueueDeviceLow other =
    if_next mem w (record w { queue_used = with_half w.queue_used 0 value }) (is_open w) h l (λ e. while_open mem w (record w { queue_used = with_half w.queue_used 0 value }) h e refl refl refl h.size refl refl refl)
written_next mem w value h l QueueDeviceHigh other =
    if_next mem w (record w { queue_used = with_half w.queue_used 1 value }) (is_open w) h l (λ e. while_open mem w (record w { queue_used = with_half w.queue_used 1 value }) h e refl refl refl h.size refl refl refl)
written_next mem w value h l _ other = next_same mem w h l

-- ---- the requests at such a window

-- a request stands at the window where it is ready with the same size, or it was dropped
stands_next : (mem : Memory) (d : Drive) (v : WindowState) (x : Unfinished) → IsNext mem d.window v → (b : Bool) → d.window.queue_ready ≡ b → RequestFits mem d x → RequestFits mem (record d { window = v }) x
stands_next mem d v x n true ready h = record {
  accepted = h.accepted;
  window = λ live.
      let before = h.window live in
      let stays = n.stays ready in
      ap (λ (b : Bool). b && size_allows v.queue_num x.request) (stays.0 ∙ sym ready)
      ∙ ap (λ (k : ℕ). d.window.queue_ready && size_allows k x.request) stays.1
      ∙ before;
}
stands_next mem d v x n false shut h = record {
  accepted = h.accepted;
  window = λ live. absurd (let before = h.window live in grind (arith, common_steps, and_parts));
}

all_stand : (mem : Memory) (d : Drive) (v : WindowState) (xs : List Unfinished) → IsNext mem d.window v → All (RequestFits mem d) xs → All (RequestFits mem (record d { window = v })) xs
all_stand mem d v xs n h = All-weaker (RequestFits mem d) (RequestFits mem (record d { window = v })) (λ x. stands_next mem d v x n d.window.queue_ready refl) xs h

pub next_drive : (mem : Memory) (d : Drive) (v : WindowState) → IsDrive mem d → IsNext mem d.window v → IsDrive mem (record d { window = v })
next_drive mem d v h n = record {
  some_worker = h.some_worker;
  workers = h.workers;
  some_sector = h.some_sector;
  sectors = h.sectors;
  whole = h.whole;
  ro = n.ro ∙ h.ro;
  capacity = n.sectors ∙ h.capacity;
  registers = n.state;
  tables = n.lies;
  queue = h.queue;
  requests = all_stand mem d v d.queue.requests n h.requests;
}

-- ---- a reset

start_state : (sectors : ℕ) (ro : Bool) → IsState (at_start sectors ro)
start_state sectors ro = record {
  size = refl;
  ready = λ e. absurd (grind (arith, common_steps));
  interrupt = omega arith;
  notified = λ e. absurd (grind (arith, common_steps));
}

gone : (mem : Memory) (d : Drive) (v : WindowState) (x : Unfinished) (p : Progress) → x.progress ≡ p → works_on p ≡ true → RequestFits mem d x → (q : Queue)
    → RequestFits mem (record d { window = v; queue = q }) (mark_dropped x)
gone mem d v x Pending e busy h q = absurd (grind (arith, common_steps))
gone mem d v x Blocked e busy h q = absurd (grind (arith, common_steps))
gone mem d v x (Busy w moved failed dropped) e busy h q = record {
  accepted = h.accepted;
  window = λ live. absurd (let f : is_dropped (mark_dropped x) ≡ true = rw e refl in grind (arith, common_steps));
}

-- whoever is busy is dropped, and the others leave
dropped_step : (mem : Memory) (d : Drive) (v : WindowState) (q : Queue) (x : Unfinished) (xs : List Unfinished) (b : Bool) → is_busy x ≡ b → RequestFits mem d x
    → All (RequestFits mem (record d { window = v; queue = q })) (map mark_dropped (filter is_busy xs))
    → All (RequestFits mem (record d { window = v; queue = q })) (map mark_dropped (if b then x ∷ filter is_busy xs else filter is_busy xs))
dropped_step mem d v q x xs true e h rest =
    All-cons (RequestFits mem (record d { window = v; queue = q })) (mark_dropped x) (map mark_dropped (filter is_busy xs)) (gone mem d v x x.progress refl e h q) rest
dropped_step mem d v q x xs false e h rest = rest

all_dropped : (mem : Memory) (d : Drive) (v : WindowState) (q : Queue) (xs : List Unfinished) → All (RequestFits mem d) xs
    → All (RequestFits mem (record d { window = v; queue = q })) (map mark_dropped (filter is_busy xs))
all_dropped mem d v q [] h = All-nil (RequestFits mem (record d { window = v; queue = q }))
all_dropped mem d v q (x ∷ xs) h =
    dropped_step mem d v q x xs (is_busy x) refl (All-head (RequestFits mem d) x xs h) (all_dropped mem d v q xs (All-tail (RequestFits mem d) x xs h))

pub reset_drive : (mem : Memory) (d : Drive) (sectors : ℕ) (ro : Bool) → IsDrive mem d → sectors ≡ d.window.sectors → ro ≡ d.window.ro
    → IsDrive mem (record d { window = at_start sectors ro; queue = emptied d.queue })
unfolding emptied
reset_drive mem d sectors ro h same_sectors same_ro = record {
  some_worker = h.some_worker;
  workers = h.workers;
  some_sector = h.some_sector;
  sectors = h.sectors;
  whole = h.whole;
  ro = same_ro ∙ h.ro;
  capacity = same_sectors ∙ h.capacity;
  registers = start_state sectors ro;
  tables = λ e. absurd (grind (arith, common_steps));
  queue = sound_emptied d.queue h.queue;
  requests = all_dropped mem d (at_start sectors ro) (emptied d.queue) d.queue.requests h.requests;
}
