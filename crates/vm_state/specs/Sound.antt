-- What holds of every machine, and of every run in whatever order its entries came.
use Rattle.std.specs.Prelude.{◌≡◌, ℕ, ◌+◌, ◌-◌, ◌%◌, ◌<◌, ◌≤◌, ◌⊎◌, Bool, true, false, not, ◌&&◌, ◌||◌, ◌==◌, nat_lt, List, [], ◌∷◌, length, drop, slice_index, slice_index_or, Option, Some, None, is_some, if◌then◌else◌}
use Rattle.std.specs.List.{All, list_any, list_all, count_by}
use Rattle.guest_ram.specs.GuestRam.{IsSound as IsRam}
use Rattle.vm_law.specs.Memory.{Memory}
use Rattle.vm_law.specs.declared.block.Kind.TheVariants.{Write}
use Rattle.vm_law.specs.declared.block.Request.{Request}
use Rattle.vm_law.specs.declared.block.Segment.{Segment}
use Rattle.vm_law.specs.declared.script.Order.{Order}
use Rattle.vm_law.specs.declared.script.Order.TheVariants.{WaitQuiet, WaitConsole, WaitExecuted, Input, Nmi, Rendezvous, Pause, Resume, Checkpoint, Set, Get, Cancel, Against, Send}
use Rattle.vm_law.specs.declared.stage.MeetKind.{MeetKind}
use Rattle.vm_law.specs.declared.stage.MeetKind.TheVariants.{Routing, Sample}
use Rattle.vm_law.specs.declared.stage.Owned.{Owned}
use Rattle.vm_law.specs.declared.stage.Owned.TheVariants.{Idle, Frozen, Running, Sleeping}
use Rattle.x86_op.specs.Flow.{masked_flags}
use Rattle.vm_ioapic.specs.Ioapic.{IsChip, pin_at}
use Rattle.vm_uart.specs.Uart.{Serial, line}
use Rattle.vblk_req.specs.Request.{IsSound as IsAsked}
use Rattle.vm_vblk.specs.Window.{IsState, LiesOver, line as window_line}
use Rattle.vm_vblk.specs.Queue.{Fits}
use Rattle.blk_queue.specs.Sound.{IsSound as IsQueue}
use Rattle.blk_queue.specs.Progress.{is_dropped, is_flush, is_read}
use Rattle.blk_queue.specs.declared.progress.Progress.{Progress}
use Rattle.blk_queue.specs.declared.progress.Progress.TheVariants.{Pending, Blocked, Busy}
use Rattle.blk_queue.specs.declared.progress.Unfinished.{Unfinished}
use Rattle.vm_meet.specs.Meeting.{awaits, is_named}
use Rattle.vm_meet.specs.declared.meeting.Meeting.{Meeting}
use Rattle.vm_timer.specs.Timers.{left_of}
use Rattle.vm_state.specs.declared.cpu.Cpu.{Cpu}
use Rattle.vm_state.specs.declared.cpu.Seat.{Seat}
use Rattle.vm_state.specs.declared.drive.Drive.{Drive}
use Rattle.vm_state.specs.declared.image.DiskImage.{DiskImage}
use Rattle.vm_state.specs.declared.image.Holder.{Holder}
use Rattle.vm_state.specs.Machine.{MachineState, cpu_at, cpu_count, cpu_numbers, drive_at, drive_count, uart_pin}
use Rattle.vm_state.specs.Requests.{capacity_of, first_worker}
use Rattle.vm_state.specs.State.{State, empty_seat, next_order, no_image, open_grants, page_count}

-- ---- a machine

abbrev pub runs : Owned → Bool
runs Idle = false
runs (Frozen p) = false
runs (Running p) = true
runs (Sleeping p) = false

-- what a vCPU that isn't started hasn't: it runs no guest code, and none has left it halted, in a shadow or in an NMI
abbrev pub has_run : Cpu → Bool
has_run cpu = cpu.halted || cpu.ctx.shadow || cpu.ctx.nmi_block || runs cpu.stage

-- vCPU i: RFLAGS has only the bits that are built, a start-up waits only for one that isn't started, which hasn't run; and
-- its APIC has its number
pub record IsCpu (i : ℕ) (cpu : Cpu) : Type 0 where
  pub flags : masked_flags cpu.ctx.rflags ≡ cpu.ctx.rflags
  pub waits : (is_some cpu.startup && cpu.started) ≡ false
  pub unstarted : cpu.started ≡ false → has_run cpu ≡ false
  pub number : cpu.lapic.cpu ≡ i

-- a timer is disarmed where its initial count is 0, and where there is no vCPU
pub record AreTimers (m : MachineState) (timers : List ℕ) : Type 0 where
  pub count : length timers ≡ 16
  pub disarmed : (i : ℕ) → (cpu_at m i).lapic.timer_initial ≡ 0 → left_of timers i ≡ 0

abbrev pub number_of : Bool → ℕ
number_of b = if b then 1 else 0

-- pin 4 is the serial port's line, the pins from 16 on are the drives', and no other is asserted
abbrev pub drive_line : List Drive → ℕ → ℕ
drive_line [] d = 0
drive_line (x ∷ xs) d = if d == 0 then number_of (window_line x.window) else drive_line xs (d - 1)

abbrev pub line_of : MachineState → ℕ → ℕ
line_of m pin = if pin == uart_pin then number_of (line m.uart) else if nat_lt pin 16 then 0 else drive_line m.drives (pin - 16)

abbrev pub ArePins : MachineState → Type 0
ArePins m = (pin : ℕ) → pin < 32 → (pin_at m.ioapic pin).count ≡ line_of m pin

-- a serial port: only bits that a register keeps are set, and no more bytes wait than it has room for
pub record IsSerial (u : Serial) : Type 0 where
  pub ier : u.ier < 16
  pub fcr : u.fcr < 2
  pub received : length u.received ≤ 16

-- an unfinished request is one that its disk accepts, in buffers that lie where they may
abbrev pub IsWhole : Request → Type 0
IsWhole q = list_all (λ (x : Segment). x.len % 512 == 0) q.segments.items ≡ true

abbrev pub FlushIsBare : Request → Type 0
FlushIsBare q = is_flush q ≡ true → (q.start ≡ 0) × (q.count ≡ 1) × (q.segments.items ≡ [])

pub record IsAccepted (memory : Memory) (ro : Bool) (capacity : ℕ) (q : Request) : Type 0 where
  pub sound : IsAsked capacity q
  pub fits : Fits memory q
  pub whole : IsWhole q
  pub bare : FlushIsBare q
  pub writable : ro ≡ true → q.kind ≡ Write → ⊥

-- beside the window: it is ready and its size allows the request, unless this was dropped
abbrev pub size_allows : ℕ → Request → Bool
size_allows size q = nat_lt q.head size && nat_lt (length q.segments.items + 1) size

abbrev pub StandsAt : Bool → ℕ → Unfinished → Type 0
StandsAt ready size x = is_dropped x ≡ false → (ready && size_allows size x.request) ≡ true

pub record RequestFits (memory : Memory) (drive : Drive) (x : Unfinished) : Type 0 where
  pub accepted : IsAccepted memory drive.ro (capacity_of drive.bytes) x.request
  pub window : StandsAt drive.window.queue_ready drive.window.queue_num x

-- a drive: its window is that of its disk, and its queue and requests are in order
pub record IsDrive (memory : Memory) (drive : Drive) : Type 0 where
  pub some_worker : 1 ≤ drive.workers
  pub workers : drive.workers ≤ 8
  pub some_sector : 512 ≤ length drive.bytes
  pub sectors : length drive.bytes ≤ 67108864
  pub whole : length drive.bytes % 512 ≡ 0
  pub ro : drive.window.ro ≡ drive.ro
  pub capacity : drive.window.sectors ≡ capacity_of drive.bytes
  pub registers : IsState drive.window
  pub tables : LiesOver memory drive.window
  pub queue : IsQueue drive.queue
  pub requests : All (RequestFits memory drive) drive.queue.requests

-- what holds of every machine
pub record IsMachine (m : MachineState) : Type 0 where
  pub some_cpu : 1 ≤ cpu_count m
  pub cpus : cpu_count m ≤ 16
  pub first : (cpu_at m 0).started ≡ true
  pub each_cpu : (i : ℕ) → IsCpu i (cpu_at m i)
  pub ram : IsRam m.ram
  pub some_code : 1 ≤ m.ram.code
  pub code : m.ram.code ≤ 16777216
  pub ioapic : IsChip m.ioapic
  pub uart : IsSerial m.uart
  pub pins : ArePins m
  pub drives : drive_count m ≤ 8
  pub each_drive : (d : ℕ) → d < drive_count m → IsDrive m.ram (drive_at m d)
  pub timers : AreTimers m m.timers

-- ---- vCPUs of a run: each is owned by control or by its runner, and runs and sleeps by its runner alone

abbrev pub IsOwner : ℕ → Owned → Type 0
IsOwner i Idle = Unit {0}
IsOwner i (Frozen p) = (p ≡ 0) ⊎ (p ≡ 1 + i)
IsOwner i (Running p) = p ≡ 1 + i
IsOwner i (Sleeping p) = p ≡ 1 + i

-- a grant is open only while the vCPU runs; it did something in its stay once the grant is used up or it is halted
abbrev pub Stays : Owned → Bool → Seat → Type 0
Stays Idle halted seat = seat.left ≡ 0
Stays (Frozen p) halted seat = seat.left ≡ 0
Stays (Running p) halted seat = (seat.left ≡ 0 → seat.stayed ≡ true) × (halted ≡ true → seat.stayed ≡ true)
Stays (Sleeping p) halted seat = seat.left ≡ 0

pub record SeatFits (i executed : ℕ) (cpu : Cpu) (seat : Seat) : Type 0 where
  pub owner : IsOwner i cpu.stage
  pub stay : Stays cpu.stage cpu.halted seat
  pub ran : seat.ran ≤ executed

pub record SeatsFit (m : MachineState) (seats : List Seat) (executed : ℕ) : Type 0 where
  pub count : length seats ≡ cpu_count m
  pub each : (i : ℕ) → SeatFits i executed (cpu_at m i) (slice_index_or seats i empty_seat)

-- ---- an open meeting names vCPUs of the machine alone, and waits for some of them

pub record IsMeetingOf (m : MachineState) (x : Meeting) : Type 0 where
  pub named : (i : ℕ) → cpu_count m ≤ i → is_named x i ≡ false
  pub waits : list_any (awaits (Some x)) (cpu_numbers m) ≡ true

abbrev pub MeetFits : MachineState → Option Meeting → Type 0
MeetFits m None = Unit {0}
MeetFits m (Some x) = IsMeetingOf m x

-- ---- drives of a run, and their images

-- the pass is one of the workers from this one on
abbrev pub WorkerFits : ℕ → ℕ → Progress → Type 0
WorkerFits from count Pending = Unit {0}
WorkerFits from count Blocked = Unit {0}
WorkerFits from count (Busy w moved failed dropped) = (from ≤ w) × (w < from + count)

-- a request for which the pass may hold the image: it is no read, the pass has it, and units of it are left
abbrev pub is_midway : ℕ → ℕ → Progress → Bool
is_midway p count Pending = false
is_midway p count Blocked = false
is_midway p count (Busy w moved failed dropped) = (w == p) && nat_lt moved count && not failed

abbrev pub is_out : Holder → Unfinished → Bool
is_out h x = (x.id == h.id) && not (is_read x.request) && is_midway h.by x.request.count x.progress

abbrev pub IsHeld : List Unfinished → Option Holder → Type 0
IsHeld xs None = Unit {0}
IsHeld xs (Some h) = list_any (is_out h) xs ≡ true

-- each busy request is its workers'; the image is as long as the disk, its holder has a request of it, and each id that was
-- given out is unfinished or was counted, where the queue did not begin with it
pub record ImageFits (from : ℕ) (drive : Drive) (image : DiskImage) : Type 0 where
  pub workers : All (λ (x : Unfinished). WorkerFits from drive.workers x.progress) drive.queue.requests
  pub size : length image.bytes ≡ length drive.bytes
  pub marks : length image.doubt ≡ capacity_of drive.bytes
  pub held : IsHeld drive.queue.requests image.holder
  pub counted : image.finished + image.cancelled + length drive.queue.requests ≤ drive.queue.next

pub record ImagesFit (m : MachineState) (images : List DiskImage) : Type 0 where
  pub count : length images ≡ drive_count m
  pub each : (d : ℕ) → d < drive_count m → ImageFits (first_worker m d) (drive_at m d) (slice_index_or images d no_image)

-- ---- the script: what may stand while a pause is wished, and while none is

abbrev pub IsNext : ℕ → Bool → Order → Bool → Type 0
IsNext cpus false WaitQuiet after = after ≡ false
IsNext cpus false (WaitConsole n) after = after ≡ false
IsNext cpus false (WaitExecuted n) after = after ≡ false
IsNext cpus false Pause after = after ≡ true
IsNext cpus paused (Input bytes) after = after ≡ paused
IsNext cpus paused (Nmi i) after = (after ≡ paused) × (i < cpus)
IsNext cpus paused Rendezvous after = after ≡ paused
IsNext cpus paused (Cancel d id) after = after ≡ paused
IsNext cpus paused (Send name) after = after ≡ paused
IsNext cpus true Resume after = after ≡ false
IsNext cpus true (Checkpoint name) after = after ≡ true
IsNext cpus true (Against name base) after = after ≡ true
IsNext cpus true (Set i reg number) after = (after ≡ true) × (i < cpus) × (reg < 18)
IsNext cpus true (Get i reg) after = (after ≡ true) × (i < cpus) × (reg < 18)
IsNext cpus paused order after = ⊥

abbrev pub ScriptFits : ℕ → Bool → List Order → Type 0
ScriptFits cpus paused [] = Unit {0}
ScriptFits cpus paused (o ∷ os) = (after : Bool) × IsNext cpus paused o after × ScriptFits cpus after os

-- the orders that are left: some order is, and they begin paused where a pause is wished, or with the pause that is wished
abbrev pub is_pause_first : List Order → Bool
is_pause_first [] = false
is_pause_first (Pause ∷ os) = true
is_pause_first (o ∷ os) = false

abbrev pub OrdersFit : ℕ → Bool → List Order → Type 0
OrdersFit cpus false os = ScriptFits cpus false os
OrdersFit cpus true os = ScriptFits cpus true os ⊎ ((is_pause_first os ≡ true) × ScriptFits cpus false os)

pub record ScriptStands (cpus : ℕ) (pause : Bool) (place : ℕ) (script : List Order) : Type 0 where
  pub within : place < length script
  pub orders : OrdersFit cpus pause (drop place script)

-- ---- a run

abbrev pub is_sample : MeetKind → Bool
is_sample Routing = false
is_sample Sample = true

-- the vCPUs that a meeting for samples waits for
abbrev pub is_sampled : Option Meeting → ℕ → Bool
is_sampled None i = false
is_sampled (Some x) i = is_sample x.kind && awaits (Some x) i

-- a meeting for samples is open
abbrev pub samples_under_way : Option Meeting → Bool
samples_under_way None = false
samples_under_way (Some x) = is_sample x.kind

-- no more vCPUs note something in an order's rendezvous than there are, and only after it was opened
pub record SamplesFit (s : State) : Type 0 where
  pub opened : samples_under_way s.machine.meet ≡ true → s.begun ≡ true
  pub asked : s.begun ≡ true → next_order s ≡ Some Rendezvous
  pub few : length s.samples + count_by (is_sampled s.machine.meet) (cpu_numbers s.machine) ≤ 16
  pub none : s.begun ≡ false → s.samples ≡ []

-- what was counted
pub record CountsFit (s : State) : Type 0 where
  pub granted : s.executed + open_grants s.seats ≤ s.limit
  pub limit : s.limit ≤ 20000000
  pub seen : s.seen ≤ s.executed
  pub pages : length s.versions ≡ page_count s.machine.ram.code
  pub versions : (page : ℕ) → slice_index s.versions page ≤ s.executed
  pub script : length s.script ≤ 10001
  pub answers : length s.answers ≡ s.place

pub record IsSoundState (s : State) : Type 0 where
  pub machine : IsMachine s.machine
  pub seats : SeatsFit s.machine s.seats s.executed
  pub meet : MeetFits s.machine s.machine.meet
  pub images : ImagesFit s.machine s.images
  pub counts : CountsFit s
  pub samples : SamplesFit s
  pub script : s.ended ≡ None → ScriptStands (cpu_count s.machine) s.machine.pause s.place s.script
