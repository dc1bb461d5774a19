-- What each entry makes of a disk's queue and of its bytes.
use Rattle.std.proofs.Common.{◌≡◌, ◌≢◌, ℕ, ◌<◌, Bool, true, false, not, List, get_or, set, refl, sym, ap, subst, ◌∙◌, inl, inr, ◌⊎◌, arith, Option, Some, None}
use Rattle.std.specs.Prelude.{◌&&◌, ◌==◌, slice_index, Result, Ok, Err, if◌then◌else◌}
use Rattle.std.proofs.lemmas.List.{get_or-set_other, get_or_past}
use Rattle.std.proofs.lemmas.Bool.{cases_Bool, cases_eq, cases_lt, and_parts, true≢false}
use Rattle.std.proofs.lemmas.Bool.Decides.{nat_tests}
use Rattle.std.proofs.lemmas.Grind.{common_steps, get_or-set_at}
use Rattle.vm_law.specs.declared.context.Ctx.{Ctx}
use Rattle.vm_law.specs.declared.context.Stop.{Stop}
use Rattle.vm_law.specs.declared.insn.Insn.{Insn}
use Rattle.vm_law.specs.declared.journal.Entry.{Entry}
use Rattle.vm_law.specs.declared.journal.Entry.TheVariants.{Claim, Start, Enter, Slice, Step, Exit, Sleep, Wake, Yield, Turn, Meet, Pull, Begin, Move, Hold, Put, Finish, Feed, Wish, Done, End, Close, Tick}
use Rattle.vm_law.specs.declared.journal.Signed.{Signed}
use Rattle.vm_law.specs.declared.script.Order.{Order}
use Rattle.vm_law.specs.declared.script.Order.TheVariants as order
use Rattle.vm_lapic.specs.Apic.{ready}
use Rattle.vm_uart.specs.Uart as uart
use Rattle.vm_vblk.specs.Queue as vblk
use Rattle.vm_vblk.specs.declared.pulled.Pulled.{Pulled}
use Rattle.vm_vblk.specs.declared.pulled.Pulled.TheVariants as pulled
use Rattle.x86_exec.specs.declared.effect.Effect.{Effect}
use Rattle.x86_exec.specs.declared.effect.Effect.TheVariants as effect
use Rattle.x86_exec.specs.Shared as exec
use Rattle.x86_fetch.specs.declared.fetching.Next.{Next}
use Rattle.x86_fetch.specs.declared.fetching.Next.TheVariants.{Local, Shared, Undefined, OutOfCode}
use Rattle.x86_trap.specs.Delivery.{delivered, Delivered}
use Rattle.blk_queue.specs.declared.progress.Finished.{Finished}
use Rattle.blk_queue.specs.declared.progress.Progress.{Progress}
use Rattle.blk_queue.specs.declared.progress.Progress.TheVariants.{Pending, Blocked, Busy}
use Rattle.blk_queue.specs.declared.progress.Unfinished.{Unfinished}
use Rattle.blk_queue.specs.Progress.{told, is_busy, is_read, moves, puts, ends, is_dropped, works, one_more}
use Rattle.blk_queue.specs.Queue.{Queue, has_request, request_of, some_request}
use Rattle.blk_queue.specs.Sound.{IsSound, NamesOne, passes}
use Rattle.blk_queue.specs.Steps.{begun, cancelled, emptied, empty, first_pending, left, with_progress}
use Rattle.blk_queue.proofs.Names.{names_one}
use Rattle.vm_meet.specs.declared.meeting.Meeting.{Meeting}
use Rattle.vm_state.specs.declared.cpu.Cpu.{Cpu}
use Rattle.vm_state.specs.declared.drive.Drive.{Drive}
use Rattle.vm_state.specs.declared.image.Holder.{Holder}
use Rattle.vm_state.specs.Machine.{MachineState, cpu_at, cpu_count, drive_at, drive_count, with_drive, no_drive, uart_pin, takes_nmi, takes_vector}
use Rattle.vm_state.specs.Requests.{is_worker, is_busy_by, has_worker}
use Rattle.vm_state.specs.Sound.{IsHeld, is_out, is_midway, IsSoundState}
use Rattle.vm_state.specs.State.{State, image_at, next_order, with_machine}
use Rattle.vm_owners.specs.Owners.{after_claim, after_start, after_exit, after_sleep, after_wake, after_yield}
use Rattle.vm_owners.specs.Turn.{turn_in, after_turn}
use Rattle.vm_devices.specs.Ports.{port_read, port_written, with_serial}
use Rattle.vm_devices.specs.Windows.{with_window, window_written}
use Rattle.vm_devices.specs.Timers.{ticked}
use Rattle.vm_running.specs.Enter.{stopped_at, entered, settled, delivered_in, taken, nmi_taken, vector_taken, interrupt_taken, after_enter}
use Rattle.vm_running.specs.Slice.{spent, after_slice}
use Rattle.vm_running.specs.Step.{next_at, stepped_to, stored_in, after_trap, trapped, performed_as, performed, after_step, printed, port_in, port_out, window_load, window_store}
use Rattle.vm_disks.specs.Queueing.{may_pull, queue_with, pulled_in, after_pull, has_id, may_begin, with_queue, after_begin}
use Rattle.vm_disks.specs.Moving.{may_move, read_in, after_move, may_finish, told_driver, finished_as, after_finish}
use Rattle.vm_disks.specs.Images.{may_hold, written_out, after_hold, is_holder, may_put, after_put}
use Rattle.vm_orders.specs.Duties.{after_feed, after_meet, after_tick, after_wish}
use Rattle.vm_orders.specs.Done.{ordered, ordered_as, noted_as, said_as, after_done, request_cancelled, noted}
use Rattle.vm_orders.specs.Ending.{after_end, after_close}
use Rattle.vm_table.specs.Table.{allowed, lawful, effect, counted, after}
use Rattle.vm_laws.specs.Entries.{is_finish_of, is_work_on}
use Rattle.vm_laws.specs.Requests.{queue_of, is_request, takes_in}
use Rattle.vm_laws.proofs.Heard.{Hears, hears_followed}
use Rattle.vm_laws.proofs.Accesses.{DriveAccessed, drive_same, drive_set, accessed_window, accessed_read, accessed_written}
use Rattle.vm_laws.proofs.Framing.{hears_fired_below}
use Rattle.vm_laws.proofs.Needs.{taken_turn}
use Rattle.vm_laws.proofs.Queues.{QueueStep, busy, waits, any_more, test_has, waits_alone, step_same, step_more, step_begun, step_finish, step_cancel, step_emptied, step_joined}

-- ---- one drive is another

pub drive_case : (P : Drive → Type 0) (m : MachineState) (c d : ℕ) (x : Drive) → c < drive_count m → (c ≡ d → P x) → (d ≢ c → P (drive_at m d)) → P (drive_at (with_drive m c x) d)
drive_case P m c d x l f g =
    elim (cases_eq d c) [
      | inl same ↦ rw (get_or-set_at m.drives c d x no_drive same l) (f (sym same))
      | inr other ↦ rw (get_or-set_other m.drives c d x no_drive other) (g other)
    ]

pub at_drives : (P : Drive → Type 0) (old new : List Drive) (d : ℕ) → new ≡ old → P (get_or old d no_drive) → P (get_or new d no_drive)
at_drives P old new d e h = subst (λ (ds : List Drive). P (get_or ds d no_drive)) (sym e) h

-- ---- entries that change no drive

settled_drives : (s : State) (i : ℕ) (d : Delivered) (r : Result (Unit {0}) Stop) → (settled s i d r).machine.drives ≡ s.machine.drives
unfolding settled stopped_at
settled_drives s i d (Ok u) = refl
settled_drives s i d (Err why) = refl

taken_drives : (s : State) (i : ℕ) (c : Cpu) (v : ℕ) (nmi : Bool) → (delivered_in (taken s i c) i v nmi).machine.drives ≡ s.machine.drives
taken_drives s i c v nmi =
    let t = taken s i c in
    let d = delivered (cpu_at t.machine i).ctx t.machine.ram v None nmi in
    settled_drives t i d d.answer

nmi_drives : (s : State) (i : ℕ) → (nmi_taken s i).machine.drives ≡ s.machine.drives
unfolding nmi_taken
nmi_drives s i = taken_drives s i _ 2 true

vector_drives : (s : State) (i : ℕ) (o : Option ℕ) → (vector_taken s i o).machine.drives ≡ s.machine.drives
unfolding vector_taken
vector_drives s i None = refl
vector_drives s i (Some v) = taken_drives s i _ v false

interrupt_if : (s : State) (i : ℕ) (a b : Bool) → (if a then nmi_taken s i else if b then vector_taken s i (ready (cpu_at s.machine i).lapic) else s).machine.drives ≡ s.machine.drives
interrupt_if s i true b = nmi_drives s i
interrupt_if s i false true = vector_drives s i _
interrupt_if s i false false = refl

interrupt_drives : (s : State) (i : ℕ) → (interrupt_taken s i).machine.drives ≡ s.machine.drives
unfolding interrupt_taken
interrupt_drives s i = interrupt_if s i (takes_nmi (cpu_at s.machine i)) (takes_vector (cpu_at s.machine i))

entered_drives : (s : State) (p i grant : ℕ) → (entered s p i grant).machine.drives ≡ s.machine.drives
unfolding entered
entered_drives s p i grant = refl

pub enter_drives : (s : State) (p i grant : ℕ) → (after_enter s p i grant).machine.drives ≡ s.machine.drives
unfolding after_enter
enter_drives s p i grant = interrupt_drives (entered s p i grant) i ∙ entered_drives s p i grant

turn_in_drives : (s : State) (i : ℕ) (o : Option Meeting) → (turn_in s i o).machine.drives ≡ s.machine.drives
turn_in_drives s i None = refl
turn_in_drives s i (Some x) = (taken_turn s i x.kind).same.0

pub turn_drives : (s : State) (i : ℕ) → (after_turn s i).machine.drives ≡ s.machine.drives
unfolding after_turn
turn_drives s i = turn_in_drives s i s.machine.meet

pub slice_drives : (s : State) (i n : ℕ) → (after_slice s i n).machine.drives ≡ s.machine.drives
unfolding after_slice spent
slice_drives s i n = refl

pub tick_drives : (s : State) (n : ℕ) → (after_tick s n).machine.drives ≡ s.machine.drives
unfolding after_tick ticked
tick_drives s n = (hears_fired_below s.machine n (cpu_count s.machine)).drives

pub feed_drives : (s : State) → (after_feed s).machine.drives ≡ s.machine.drives
unfolding after_feed with_serial
feed_drives s =
    let u = uart.after_receive s.machine.uart (slice_index s.input 0) in
    (hears_followed (record s.machine { uart = u }) uart_pin (uart.line s.machine.uart) (uart.line u)).drives

-- ---- Step: a drive keeps its bytes, and its queue or what a reset makes of it

stepped_drives : (s : State) (j : ℕ) (c : Ctx) (halted : Bool) → (stepped_to s j c halted).machine.drives ≡ s.machine.drives
unfolding stepped_to spent
stepped_drives s j c halted = refl

stopped_drives : (s : State) (j : ℕ) (why : Stop) → (stopped_at s j why).machine.drives ≡ s.machine.drives
unfolding stopped_at
stopped_drives s j why = refl

trap_drives : (s : State) (j : ℕ) (d : Delivered) (r : Result (Unit {0}) Stop) → (after_trap s j d r).machine.drives ≡ s.machine.drives
unfolding stepped_to spent
trap_drives s j d (Ok u) = refl
trap_drives s j d (Err why) = stopped_drives s j why

trapped_drives : (s : State) (j rip v : ℕ) (error : Option ℕ) → (trapped s j rip v error).machine.drives ≡ s.machine.drives
unfolding trapped
trapped_drives s j rip v error = let d = delivered (record (cpu_at s.machine j).ctx { rip = rip }) s.machine.ram v error false in trap_drives s j d d.answer

stored_drives : (s : State) (j : ℕ) (x : exec.Shared) → (stepped_to (stored_in s x) j x.ctx false).machine.drives ≡ s.machine.drives
unfolding stepped_to spent
stored_drives s j x = refl

still : (m : MachineState) (new : List Drive) (d : ℕ) → new ≡ m.drives → DriveAccessed (drive_at m d) (get_or new d no_drive)
still m new d e = at_drives (λ y. DriveAccessed (drive_at m d) y) m.drives new d e (drive_same (drive_at m d))

then_still : (m n : MachineState) (new : List Drive) (d : ℕ) → DriveAccessed (drive_at m d) (drive_at n d) → new ≡ n.drives → DriveAccessed (drive_at m d) (get_or new d no_drive)
then_still m n new d a e = at_drives (λ y. DriveAccessed (drive_at m d) y) n.drives new d e a

performed_as_drive : (s : State) (p j : ℕ) (insn : Insn) (len : ℕ) (x : exec.Shared) (e : Effect) (d : ℕ) → DriveAccessed (drive_at s.machine d) (drive_at (performed_as s p j insn len x e).machine d)
unfolding performed_as port_in port_out window_load window_store
performed_as_drive s p j insn len x effect.Done d = still s.machine _ d (stored_drives s j x)
performed_as_drive s p j insn len x effect.Halt d = still s.machine _ d (stepped_drives s j x.ctx true)
performed_as_drive s p j insn len x (effect.Trap v error) d = still s.machine _ d (trapped_drives s j _ v error)
performed_as_drive s p j insn len x (effect.Stop why) d = still s.machine _ d (stopped_drives s j why)
performed_as_drive s p j insn len x (effect.PortIn port w) d = then_still s.machine (port_read s.machine port w) _ d ((accessed_read s port w).machine.drive d) (stepped_drives (with_machine s (port_read s.machine port w)) j _ false)
performed_as_drive s p j insn len x (effect.PortOut port w value) d = then_still s.machine (port_written s.machine port w value) _ d ((accessed_written s port w value).machine.drive d) (stepped_drives (printed (with_machine s (port_written s.machine port w value)) _) j x.ctx false)
performed_as_drive s p j insn len x (effect.Load a) d = still s.machine _ d (stepped_drives s j _ false)
performed_as_drive s p j insn len x (effect.Store a value) d = then_still s.machine (window_written s p j a value).machine _ d ((accessed_window s p j a value).machine.drive d) (stepped_drives (window_written s p j a value) j x.ctx false)

performed_drive : (s : State) (p j : ℕ) (n : Next) (d : ℕ) → DriveAccessed (drive_at s.machine d) (drive_at (performed s p j n).machine d)
unfolding performed
performed_drive s p j (Local insn len) d = drive_same (drive_at s.machine d)
performed_drive s p j (Shared insn len) d = let x = exec.shared (cpu_at s.machine j).ctx insn len s.machine.ram in performed_as_drive s p j insn len x x.effect d
performed_drive s p j Undefined d = still s.machine _ d (trapped_drives s j _ 6 None)
performed_drive s p j OutOfCode d = still s.machine _ d (stopped_drives s j _)

pub step_drive : (s : State) (p j d : ℕ) → DriveAccessed (drive_at s.machine d) (drive_at (after_step s p j).machine d)
unfolding after_step
step_drive s p j d = performed_drive s p j (next_at s j) d

-- ---- what is known of the queues

pub record Known (s : State) : Type 0 where
  pub queues : (d : ℕ) → IsSound (queue_of s.machine d)
  pub held : (d : ℕ) → d < drive_count s.machine → IsHeld (queue_of s.machine d).requests (image_at s d).holder

names_at : (s : State) → Known s → (d : ℕ) → NamesOne (queue_of s.machine d)
names_at s k d = names_one (queue_of s.machine d) (k.queues d)

flags : (q r : Queue) (id : ℕ) (a f w x y z : Bool) → x ≡ a → y ≡ f → z ≡ w → QueueStep q r id a f w → QueueStep q r id x y z
flags q r id a f w x y z xa yf zw k = subst (λ b. QueueStep q r id b y z) (sym xa) (subst (λ b. QueueStep q r id a b z) (sym yf) (subst (λ b. QueueStep q r id a f b) (sym zw) k))

-- ---- the entries of workers

eq_true : (c d : ℕ) → c ≡ d → (c == d) ≡ true
eq_true c d e = grind (arith, nat_tests)

eq_false : (c d : ℕ) → d ≢ c → (c == d) ≡ false
eq_false c d ne = grind (arith, nat_tests)

-- of another disk
elsewhere : (s : State) (e : Entry) (c d id : ℕ) (y : Drive) → d ≢ c → takes_in s d e ≡ false → is_finish_of d id e ≡ false → is_work_on d id e ≡ false → y.queue ≡ queue_of s.machine d → QueueStep (queue_of s.machine d) y.queue id (takes_in s d e) (is_finish_of d id e) (is_work_on d id e)
elsewhere s e c d id y ne a f w q =
    flags (queue_of s.machine d) y.queue id false false false (takes_in s d e) (is_finish_of d id e) (is_work_on d id e) a f w
    (subst (λ r. QueueStep (queue_of s.machine d) r id false false false) (sym q) (step_same (queue_of s.machine d) (queue_of s.machine d) id false refl refl refl (λ h. absurd (true≢false (sym h)))))

pulled_step : (q : Queue) (a : Pulled) (id : ℕ) → IsSound q → QueueStep q (queue_with q a) id (is_request a) false false
pulled_step q (pulled.Request r) id s = step_joined q r id s
pulled_step q pulled.Answered id s = step_same q q id false refl refl refl (λ h. absurd (true≢false (sym h)))
pulled_step q pulled.Broken id s = step_same q q id false refl refl refl (λ h. absurd (true≢false (sym h)))

pub pull_tells : (s : State) (p c : ℕ) → may_pull s p c ≡ true → c < drive_count s.machine
unfolding may_pull is_worker
pull_tells s p c m = grind (arith, nat_tests, common_steps, and_parts)

and_true : (b : Bool) → (true && b) ≡ b
and_true b = refl

pull_step : (s : State) (p c d id : ℕ) → Known s → may_pull s p c ≡ true → QueueStep (queue_of s.machine d) (queue_of (after_pull s c).machine d) id (takes_in s d (Pull c)) false false
unfolding after_pull pulled_in with_window
pull_step s p c d id k m =
    let x = vblk.pull_of s.machine.ram (drive_at s.machine c).window in
    let y : Drive = record (drive_at s.machine c) { window = x.window; queue = queue_with (drive_at s.machine c).queue x.answer } in
    let u = with_drive (record s.machine { ram = x.memory }) c y in
    let h = hears_followed u _ _ _ in
    at_drives (λ z. QueueStep (queue_of s.machine d) z.queue id (takes_in s d (Pull c)) false false) u.drives _ d h.drives
    (drive_case (λ z. QueueStep (queue_of s.machine d) z.queue id (takes_in s d (Pull c)) false false) (record s.machine { ram = x.memory }) c d y (pull_tells s p c m)
    (λ e. subst (λ n. QueueStep (queue_of s.machine n) (queue_with (drive_at s.machine c).queue x.answer) id (takes_in s n (Pull c)) false false) e
    (flags (queue_of s.machine c) (queue_with (queue_of s.machine c) x.answer) id (is_request x.answer) false false (takes_in s c (Pull c)) false false (ap (λ b. b && is_request x.answer) (eq_true c c refl)) refl refl (pulled_step (queue_of s.machine c) x.answer id (k.queues c))))
    (λ ne. elsewhere s (Pull c) c d id (drive_at s.machine d) ne (ap (λ b. b && is_request (vblk.pull_of s.machine.ram (drive_at s.machine d).window).answer) (eq_false c d ne)) refl refl refl))

pub begin_tells : (s : State) (p c fid : ℕ) → may_begin s p c fid ≡ true → (c < drive_count s.machine) × (has_id fid (first_pending (drive_at s.machine c).queue) ≡ true)
unfolding may_begin is_worker
begin_tells s p c fid m = (grind (arith, nat_tests, common_steps, and_parts), grind (arith, nat_tests, common_steps, and_parts))

id_passes : (fid : ℕ) (o : Option Unfinished) → has_id fid o ≡ true → passes (λ (x : Unfinished). x.id == fid) o ≡ true
id_passes fid None h = h
id_passes fid (Some x) h = h

-- a disk's other queue, by what is so where it is this disk, and where it isn't
queue_case : (s : State) (e : Entry) (c d id : ℕ) (r : Queue) → c < drive_count s.machine → takes_in s d e ≡ false
    → (c ≡ d → QueueStep (queue_of s.machine d) r id false (is_finish_of d id e) (is_work_on d id e)) → (d ≢ c → (is_finish_of d id e ≡ false) × (is_work_on d id e ≡ false))
    → QueueStep (queue_of s.machine d) (queue_of (with_queue s.machine c r) d) id (takes_in s d e) (is_finish_of d id e) (is_work_on d id e)
queue_case s e c d id r l a f g =
    drive_case (λ z. QueueStep (queue_of s.machine d) z.queue id (takes_in s d e) (is_finish_of d id e) (is_work_on d id e)) s.machine c d (record (drive_at s.machine c) { queue = r }) l
    (λ same. flags (queue_of s.machine d) r id false (is_finish_of d id e) (is_work_on d id e) (takes_in s d e) (is_finish_of d id e) (is_work_on d id e) a refl refl (f same))
    (λ ne. let t = g ne in elsewhere s e c d id (drive_at s.machine d) ne a t.0 t.1 refl)

and_left : (a b : Bool) → a ≡ false → (a && b) ≡ false
and_left a b e = ap (λ x. x && b) e

begin_step : (s : State) (p c fid d id : ℕ) → Known s → may_begin s p c fid ≡ true → QueueStep (queue_of s.machine d) (queue_of (after_begin s p c).machine d) id false false (is_work_on d id (Begin c fid))
unfolding after_begin
begin_step s p c fid d id k m =
    let t = begin_tells s p c fid m in
    queue_case s (Begin c fid) c d id (begun (queue_of s.machine c) p) t.0 refl
    (λ e. subst (λ n. QueueStep (queue_of s.machine n) (begun (queue_of s.machine c) p) id false false ((c == n) && (fid == id))) e
    (flags (queue_of s.machine c) (begun (queue_of s.machine c) p) id false false (fid == id) false false ((c == c) && (fid == id)) refl refl (ap (λ b. b && (fid == id)) (eq_true c c refl))
    (step_begun (queue_of s.machine c) p fid id (first_pending (queue_of s.machine c)) refl (id_passes fid (first_pending (queue_of s.machine c)) t.1))))
    (λ ne. (refl, and_left (c == d) (fid == id) (eq_false c d ne)))

works_if : (p : ℕ) (x : Progress) → has_worker p x ≡ true → works x ≡ true
works_if p Pending h = h
works_if p Blocked h = h
works_if p (Busy w moved failed gone) h = refl

worker_busy : (p : ℕ) (x : Unfinished) → is_busy_by p x ≡ true → is_busy x ≡ true
worker_busy p x h = works_if p x.progress h

-- a worker that works on it has it
pub busy_from : (q : Queue) (p fid : ℕ) (test : Unfinished → Bool) → some_request q fid (λ x. is_busy_by p x && test x) ≡ true → busy q fid ≡ true
busy_from q p fid test h =
    any_more (λ (x : Unfinished). (x.id == fid) && (is_busy_by p x && test x)) (λ (x : Unfinished). (x.id == fid) && is_busy x) q.requests
    (λ x t. (let a = and_parts (x.id == fid) (is_busy_by p x && test x) t in let b = and_parts (is_busy_by p x) (test x) a.1 in rw (a.0, worker_busy p x b.0) refl)) h

no_waits : (q : Queue) (id : ℕ) → NamesOne q → busy q id ≡ true → waits q id ≡ false
no_waits q id n b = elim (cases_Bool (waits q id)) [ inr f ↦ f | inl t ↦ absurd (waits_alone q id n t b) ]

has_it : (q : Queue) (c d fid id : ℕ) → NamesOne q → busy q fid ≡ true → ((c == d) && (fid == id)) ≡ true → (has_request q id ≡ true) × (waits q id ≡ false)
has_it q c d fid id n b h =
    let e : fid ≡ id = (let t = and_parts (c == d) (fid == id) h in grind (arith, nat_tests, t.1)) in
    subst (λ k. (has_request q k ≡ true) × (waits q k ≡ false)) e (test_has q fid is_busy b, no_waits q fid n b)

pub move_tells : (s : State) (p c fid : ℕ) → may_move s p c fid ≡ true → (c < drive_count s.machine) × (some_request (drive_at s.machine c).queue fid (λ x. is_busy_by p x && moves x) ≡ true)
unfolding may_move
move_tells s p c fid m = (grind (arith, nat_tests, common_steps, and_parts), grind (arith, nat_tests, common_steps, and_parts))

more_step : (s : State) (e : Entry) (c fid d id : ℕ) (ok : Bool) → Known s → c < drive_count s.machine → busy (queue_of s.machine c) fid ≡ true → takes_in s d e ≡ false → is_finish_of d id e ≡ false → is_work_on d id e ≡ ((c == d) && (fid == id))
    → QueueStep (queue_of s.machine d) (queue_of (with_queue s.machine c (with_progress (queue_of s.machine c) fid (one_more ok))) d) id (takes_in s d e) (is_finish_of d id e) (is_work_on d id e)
more_step s e c fid d id ok k l b a f w =
    queue_case s e c d id (with_progress (queue_of s.machine c) fid (one_more ok)) l a
    (λ same. flags (queue_of s.machine d) (with_progress (queue_of s.machine c) fid (one_more ok)) id false false ((c == d) && (fid == id)) false (is_finish_of d id e) (is_work_on d id e) refl f w
    (subst (λ n. QueueStep (queue_of s.machine n) (with_progress (queue_of s.machine c) fid (one_more ok)) id false false ((c == n) && (fid == id))) same
    (step_more (queue_of s.machine c) fid id ok ((c == c) && (fid == id)) (has_it (queue_of s.machine c) c c fid id (names_at s k c) b))))
    (λ ne. (f, w ∙ and_left (c == d) (fid == id) (eq_false c d ne)))

pub read_in_drives : (m : MachineState) (c : ℕ) (o : ℕ) → (read_in m c o).drives ≡ m.drives
read_in_drives m c o = refl

move_step : (s : State) (p c fid d id : ℕ) → Known s → may_move s p c fid ≡ true → QueueStep (queue_of s.machine d) (queue_of (after_move s c fid).machine d) id false false (is_work_on d id (Move c fid))
unfolding after_move
move_step s p c fid d id k m =
    let t = move_tells s p c fid m in
    let e = read_in_drives s.machine c fid in
    subst (λ (ds : List Drive). QueueStep (queue_of s.machine d) (get_or (set ds c (record (get_or ds c no_drive) { queue = with_progress (get_or ds c no_drive).queue fid (one_more true) })) d no_drive).queue id false false ((c == d) && (fid == id))) (sym e)
    (more_step s (Move c fid) c fid d id true k t.0 (busy_from (queue_of s.machine c) p fid moves t.1) refl refl refl)

hold_tells : (s : State) (p c fid : ℕ) → may_hold s p c fid ≡ true → some_request (drive_at s.machine c).queue fid (λ x. is_busy_by p x && puts x && not (is_dropped x)) ≡ true
unfolding may_hold
hold_tells s p c fid m = grind (arith, nat_tests, common_steps, and_parts)

hold_busy : (q : Queue) (p fid : ℕ) → some_request q fid (λ x. is_busy_by p x && puts x && not (is_dropped x)) ≡ true → busy q fid ≡ true
hold_busy q p fid h =
    any_more (λ (x : Unfinished). (x.id == fid) && (is_busy_by p x && puts x && not (is_dropped x))) (λ (x : Unfinished). (x.id == fid) && is_busy x) q.requests
    (λ x t. (let a = and_parts (x.id == fid) (is_busy_by p x && puts x && not (is_dropped x)) t in
    let b = and_parts (is_busy_by p x && puts x) (not (is_dropped x)) a.1 in
    let c = and_parts (is_busy_by p x) (puts x) b.0 in
    rw (a.0, worker_busy p x c.0) refl)) h

written_if : (m : MachineState) (c : ℕ) (x : Drive) (b : Bool) (d : ℕ) → x.queue ≡ (drive_at m c).queue → (drive_at (if b then m else with_drive m c x) d).queue ≡ (drive_at m d).queue
written_if m c x true d e = refl
written_if m c x false d e = drive_set (λ a b. b.queue ≡ a.queue) m c x (λ k. refl) e d

pub written_out_queue : (m : MachineState) (c : ℕ) (o : ℕ) (d : ℕ) → (drive_at (written_out m c o) d).queue ≡ (drive_at m d).queue
written_out_queue m c o d = written_if m c _ false d refl

hold_step : (s : State) (p c fid d id : ℕ) → Known s → may_hold s p c fid ≡ true → QueueStep (queue_of s.machine d) (queue_of (after_hold s p c fid).machine d) id false false (is_work_on d id (Hold c fid))
unfolding after_hold
hold_step s p c fid d id k m =
    let q = written_out_queue s.machine c fid d in
    subst (λ r. QueueStep (queue_of s.machine d) r id false false ((c == d) && (fid == id))) (sym q)
    (step_same (queue_of s.machine d) (queue_of s.machine d) id ((c == d) && (fid == id)) refl refl refl
    (λ h. let e : c ≡ d = (let t = and_parts (c == d) (fid == id) h in grind (arith, nat_tests, t.0)) in
    has_it (queue_of s.machine d) c d fid id (names_at s k d) (subst (λ n. busy (queue_of s.machine n) fid ≡ true) e (hold_busy (queue_of s.machine c) p fid (hold_tells s p c fid m))) h))

pub put_tells : (s : State) (p c fid : ℕ) → may_put s p c fid ≡ true → (c < drive_count s.machine) × (is_holder p fid (image_at s c).holder ≡ true)
unfolding may_put
put_tells s p c fid m = (grind (arith, nat_tests, common_steps, and_parts), grind (arith, nat_tests, common_steps, and_parts))

midway_busy : (p count : ℕ) (x : Progress) → is_midway p count x ≡ true → works x ≡ true
midway_busy p count Pending h = h
midway_busy p count Blocked h = h
midway_busy p count (Busy w moved failed gone) h = refl

out_busy : (fid : ℕ) (h : Holder) (x : Unfinished) → (h.id == fid) ≡ true → is_out h x ≡ true → ((x.id == fid) && is_busy x) ≡ true
out_busy fid h x e o =
    let a = and_parts ((x.id == h.id) && not (is_read x.request)) (is_midway h.by x.request.count x.progress) o in
    let b = and_parts (x.id == h.id) (not (is_read x.request)) a.0 in
    let c : (x.id == fid) ≡ true = grind (arith, nat_tests, b.0, e) in
    rw (c, midway_busy h.by x.request.count x.progress a.1) refl

pub holder_busy : (p fid : ℕ) (q : Queue) (o : Option Holder) → is_holder p fid o ≡ true → IsHeld q.requests o → busy q fid ≡ true
holder_busy p fid q None h k = absurd (true≢false (sym h))
holder_busy p fid q (Some y) h k = let t = and_parts (y.by == p) (y.id == fid) h in any_more (is_out y) (λ (x : Unfinished). (x.id == fid) && is_busy x) q.requests (λ x a. out_busy fid y x t.1 a) k

put_step : (s : State) (p c fid : ℕ) (ok : Bool) (d id : ℕ) → Known s → may_put s p c fid ≡ true → QueueStep (queue_of s.machine d) (queue_of (after_put s c fid ok).machine d) id false false (is_work_on d id (Put c fid ok))
unfolding after_put
put_step s p c fid ok d id k m =
    let t = put_tells s p c fid m in
    more_step s (Put c fid ok) c fid d id ok k t.0 (holder_busy p fid (queue_of s.machine c) (image_at s c).holder t.1 (k.held c t.0)) refl refl refl

pub finish_tells : (s : State) (p c fid : ℕ) → may_finish s p c fid ≡ true → (c < drive_count s.machine) × (some_request (drive_at s.machine c).queue fid (λ x. is_busy_by p x && ends x) ≡ true)
unfolding may_finish
finish_tells s p c fid m = (grind (arith, nat_tests, common_steps, and_parts), grind (arith, nat_tests, common_steps, and_parts))

told_by : (u : MachineState) (c : ℕ) (y : Drive) (n : MachineState) (d : ℕ) → y.queue ≡ (drive_at u c).queue → Hears (with_drive u c y) n → (drive_at n d).queue ≡ (drive_at u d).queue
told_by u c y n d q h = ap (λ (ds : List Drive). (get_or ds d no_drive).queue) h.drives ∙ drive_set (λ a b. b.queue ≡ a.queue) u c y (λ k. refl) q d

told_queue : (m : MachineState) (c : ℕ) (x : Finished) (d : ℕ) → (drive_at (told_driver m c x) d).queue ≡ (drive_at m d).queue
unfolding told_driver with_window
told_queue m c x d = told_by (record m { ram = _ }) c _ _ d refl (hears_followed _ _ _ _)

told_if : (m : MachineState) (c : ℕ) (x : Finished) (b : Bool) (d : ℕ) → (drive_at (if b then m else told_driver m c x) d).queue ≡ (drive_at m d).queue
told_if m c x true d = refl
told_if m c x false d = told_queue m c x d

pub finished_queue : (m : MachineState) (c : ℕ) (o : Option Unfinished) (d : ℕ) → (drive_at (finished_as m c o) d).queue ≡ (drive_at m d).queue
finished_queue m c None d = refl
finished_queue m c (Some x) d = told_if m c (told x) (told x).silent d

finish_step : (s : State) (p c fid d id : ℕ) → Known s → may_finish s p c fid ≡ true → QueueStep (queue_of s.machine d) (queue_of (after_finish s c fid).machine d) id false (is_finish_of d id (Finish c fid)) (is_work_on d id (Finish c fid))
unfolding after_finish
finish_step s p c fid d id k m =
    let t = finish_tells s p c fid m in
    let n = with_queue s.machine c (left (queue_of s.machine c) fid) in
    let q = finished_queue n c (request_of (drive_at s.machine c).queue fid) d in
    subst (λ r. QueueStep (queue_of s.machine d) r id false ((c == d) && (fid == id)) ((c == d) && (fid == id))) (sym q)
    (queue_case s (Finish c fid) c d id (left (queue_of s.machine c) fid) t.0 refl
    (λ e. subst (λ j. QueueStep (queue_of s.machine j) (left (queue_of s.machine c) fid) id false ((c == j) && (fid == id)) ((c == j) && (fid == id))) e
    (flags (queue_of s.machine c) (left (queue_of s.machine c) fid) id false (fid == id) (fid == id) false ((c == c) && (fid == id)) ((c == c) && (fid == id)) refl
    (ap (λ b. b && (fid == id)) (eq_true c c refl)) (ap (λ b. b && (fid == id)) (eq_true c c refl)) (step_finish (queue_of s.machine c) fid id (names_at s k c) (busy_from (queue_of s.machine c) p fid ends t.1))))
    (λ ne. (and_left (c == d) (fid == id) (eq_false c d ne), and_left (c == d) (fid == id) (eq_false c d ne))))

-- ---- an order

cancel_at : (m : MachineState) (c d fid id : ℕ) → QueueStep (queue_of m d) (queue_of (with_queue m c (cancelled (queue_of m c) fid)) d) id false false false
cancel_at m c d fid id =
    drive_set (λ a b. QueueStep a.queue b.queue id false false false) m c (record (drive_at m c) { queue = cancelled (queue_of m c) fid })
    (λ k. step_same (queue_of m k) (queue_of m k) id false refl refl refl (λ h. absurd (true≢false (sym h)))) (step_cancel (queue_of m c) fid id) d

stays_at : (m : MachineState) (new : List Drive) (d id : ℕ) → new ≡ m.drives → QueueStep (queue_of m d) (get_or new d no_drive).queue id false false false
stays_at m new d id e = at_drives (λ z. QueueStep (queue_of m d) z.queue id false false false) m.drives new d e (step_same (queue_of m d) (queue_of m d) id false refl refl refl (λ h. absurd (true≢false (sym h))))

ordered_step : (s : State) (o : Order) (d id : ℕ) → QueueStep (queue_of s.machine d) (queue_of (ordered s o).machine d) id false false false
unfolding ordered request_cancelled
ordered_step s (order.Input bytes) d id = stays_at s.machine s.machine.drives d id refl
ordered_step s (order.Nmi i) d id = stays_at s.machine s.machine.drives d id refl
ordered_step s (order.Cancel c fid) d id = cancel_at s.machine c d fid id
ordered_step s (order.Set i reg value) d id = stays_at s.machine s.machine.drives d id refl
ordered_step s order.Resume d id = stays_at s.machine s.machine.drives d id refl
ordered_step s o d id = stays_at s.machine s.machine.drives d id refl

done_as_step : (s : State) (o : Option Order) (d id : ℕ) → QueueStep (queue_of s.machine d) (queue_of (noted_as (ordered_as s o) o (said_as s o)).machine d) id false false false
unfolding noted
done_as_step s None d id = stays_at s.machine s.machine.drives d id refl
done_as_step s (Some o) d id = ordered_step s o d id

done_step : (s : State) (d id : ℕ) → QueueStep (queue_of s.machine d) (queue_of (after_done s).machine d) id false false false
unfolding after_done
done_step s d id = done_as_step s (next_order s) d id

-- ---- a Step

accessed_as : (q r : Queue) (id : ℕ) → (r ≡ q) ⊎ (r ≡ emptied q) → QueueStep q r id false false false
accessed_as q r id (inl e) = subst (λ x. QueueStep q x id false false false) (sym e) (step_same q q id false refl refl refl (λ h. absurd (true≢false (sym h))))
accessed_as q r id (inr e) = subst (λ x. QueueStep q x id false false false) (sym e) (step_emptied q id)

accessed_step : (c e : Drive) (id : ℕ) → DriveAccessed c e → QueueStep c.queue e.queue id false false false
accessed_step c e id a = accessed_as c.queue e.queue id a.queue

-- ---- every entry

effect_step : (s : State) (p : ℕ) (e : Entry) (d id : ℕ) → Known s → allowed s p e ≡ true → QueueStep (queue_of s.machine d) (queue_of (effect s p e).machine d) id (takes_in s d e) (is_finish_of d id e) (is_work_on d id e)
unfolding allowed effect after_claim after_start after_exit after_sleep after_wake after_yield after_meet after_wish after_end after_close
effect_step s p (Claim j) d id k m = stays_at s.machine _ d id refl
effect_step s p (Start j) d id k m = stays_at s.machine _ d id refl
effect_step s p (Enter j grant) d id k m = stays_at s.machine (after_enter s p j grant).machine.drives d id (enter_drives s p j grant)
effect_step s p (Slice j n) d id k m = stays_at s.machine (after_slice s j n).machine.drives d id (slice_drives s j n)
effect_step s p (Step j) d id k m = accessed_step (drive_at s.machine d) (drive_at (after_step s p j).machine d) id (step_drive s p j d)
effect_step s p (Exit j) d id k m = stays_at s.machine _ d id refl
effect_step s p (Sleep j) d id k m = stays_at s.machine _ d id refl
effect_step s p (Wake j) d id k m = stays_at s.machine _ d id refl
effect_step s p (Yield j) d id k m = stays_at s.machine _ d id refl
effect_step s p (Turn j) d id k m = stays_at s.machine (after_turn s j).machine.drives d id (turn_drives s j)
effect_step s p Meet d id k m = stays_at s.machine _ d id refl
effect_step s p (Pull c) d id k m = pull_step s p c d id k m
effect_step s p (Begin c fid) d id k m = begin_step s p c fid d id k m
effect_step s p (Move c fid) d id k m = move_step s p c fid d id k m
effect_step s p (Hold c fid) d id k m = hold_step s p c fid d id k m
effect_step s p (Put c fid ok) d id k m = put_step s p c fid ok d id k m
effect_step s p (Finish c fid) d id k m = finish_step s p c fid d id k m
effect_step s p Feed d id k m = stays_at s.machine (after_feed s).machine.drives d id (feed_drives s)
effect_step s p Wish d id k m = stays_at s.machine _ d id refl
effect_step s p (Done n) d id k m = done_step s d id
effect_step s p (End c) d id k m = stays_at s.machine s.machine.drives d id refl
effect_step s p Close d id k m = stays_at s.machine s.machine.drives d id refl
effect_step s p (Tick n) d id k m = stays_at s.machine (after_tick s n).machine.drives d id (tick_drives s n)

pub after_step_of : (s : State) (x : Signed) (d id : ℕ) → Known s → lawful s x.by x.entry ≡ true → QueueStep (queue_of s.machine d) (queue_of (after s x).machine d) id (takes_in s d x.entry) (is_finish_of d id x.entry) (is_work_on d id x.entry)
unfolding after counted lawful
after_step_of s x d id k m = effect_step s x.by x.entry d id k (and_parts (not s.closed) (allowed s x.by x.entry) m).1

-- ---- what is known of a sound state

empty_sound : IsSound (empty 0)
empty_sound = record { few = omega arith; next = omega arith; ids = omega arith; requests = tt }

no_queue : no_drive.queue ≡ empty 0
unfolding no_drive
no_queue = refl

pub known : (s : State) → IsSoundState s → Known s
known s h = record {
  queues = λ d. elim (cases_lt d (drive_count s.machine)) [
    | inl l ↦ (h.machine.each_drive d l).queue
    | inr past ↦ subst (λ q. IsSound q) (sym (ap (λ (x : Drive). x.queue) (get_or_past s.machine.drives d no_drive past) ∙ no_queue)) empty_sound
  ];
  held = λ d l. (h.images.each d l).held;
}
