-- An order of the script is done: Done.
use Rattle.std.specs.Prelude.{ℕ, ◌+◌, Bool, true, false, not, ◌&&◌, ◌||◌, ◌==◌, ◌<◌, nat_le, List, [], ◌∷◌, ◌++◌, length, slice_index, slice_set, Option, Some, None, is_none, if◌then◌else◌}
use Rattle.vm_law.specs.declared.context.Ctx.{Ctx}
use Rattle.vm_law.specs.declared.script.Order.{Order}
use Rattle.vm_law.specs.declared.script.Order.TheVariants.{WaitQuiet, WaitConsole, WaitExecuted, Input, Nmi, Rendezvous, Pause, Resume, Checkpoint, Set, Get, Cancel, Against, Send}
use Rattle.x86_op.specs.Flow.{masked_flags}
use Rattle.blk_queue.specs.declared.progress.Cancelled.{Cancelled}
use Rattle.blk_queue.specs.declared.progress.Cancelled.TheVariants as reply
use Rattle.blk_queue.specs.declared.progress.Progress.{Progress}
use Rattle.blk_queue.specs.Progress.{is_busy, is_waiting, works}
use Rattle.blk_queue.specs.Queue.{Queue, has_request, some_request}
use Rattle.blk_queue.specs.Steps.{cancelled}
use Rattle.vm_disks.specs.Queueing.{with_queue}
use Rattle.vm_state.specs.declared.image.DiskImage.{DiskImage}
use Rattle.vm_state.specs.declared.run_state.Answer.{Answer}
use Rattle.vm_state.specs.declared.run_state.Said.{Said}
use Rattle.vm_state.specs.declared.run_state.Said.TheVariants as said
use Rattle.vm_state.specs.declared.run_state.Why.TheVariants.{Finished}
use Rattle.vm_state.specs.Machine.{MachineState, cpu_at, drive_at, with_cpu, with_ctx, all_frozen, is_frozen}
use Rattle.vm_state.specs.Requests.{none_busy}
use Rattle.vm_state.specs.State.{State, image_at, next_order, none_held, with_image, with_machine}
use Rattle.vm_state.specs.View.{bytes_in}
use Rattle.vm_orders.specs.Quiet.{is_quiet}

-- ---- when

-- a pause is wished, and nothing is under way: the machine can be cut
unfoldable pub is_cut : State → Bool
is_cut s = s.machine.pause && all_frozen s.machine && none_busy s.machine && none_held s && is_none s.machine.meet

-- what a wait waits for; of another order nothing
abbrev pub has_come : State → Order → Bool
has_come s WaitQuiet = is_quiet s
has_come s (WaitConsole n) = nat_le n (length s.console)
has_come s (WaitExecuted n) = nat_le n s.executed
has_come s order = false

abbrev pub is_wait : Order → Bool
is_wait WaitQuiet = true
is_wait (WaitConsole n) = true
is_wait (WaitExecuted n) = true
is_wait order = false

-- the order's condition
abbrev pub is_met : State → Order → Bool
is_met s WaitQuiet = is_quiet s
is_met s (WaitConsole n) = has_come s (WaitConsole n) || is_quiet s
is_met s (WaitExecuted n) = has_come s (WaitExecuted n) || is_quiet s
is_met s (Input bytes) = true
is_met s (Nmi i) = true
is_met s (Cancel d id) = true
is_met s Rendezvous = s.begun && is_none s.machine.meet
is_met s Pause = is_cut s
is_met s (Checkpoint name) = is_cut s
is_met s (Against name base) = is_cut s
is_met s (Send name) = not s.machine.pause || is_cut s
is_met s (Set i reg value) = is_frozen (cpu_at s.machine i).stage 0
is_met s (Get i reg) = is_frozen (cpu_at s.machine i).stage 0
is_met s Resume = s.machine.pause && all_frozen s.machine && is_none s.machine.meet

abbrev pub is_ready : State → Option Order → Bool
is_ready s None = false
is_ready s (Some order) = is_met s order

-- the order at place k comes next
unfoldable pub may_done : State → ℕ → ℕ → Bool
may_done s p k = (p == 0) && (k == s.place) && is_none s.ended && is_ready s (next_order s)

-- ---- what

-- registers by their numbers: 0 to 15 as in a context, RIP 16, RFLAGS 17
abbrev pub register_of : Ctx → ℕ → ℕ
register_of c reg = if reg == 16 then c.rip else if reg == 17 then c.rflags else slice_index c.regs reg

abbrev pub with_register : Ctx → ℕ → ℕ → Ctx
with_register c reg value =
    if reg == 16 then record c { rip = value }
    else if reg == 17 then record c { rflags = masked_flags value }
    else record c { regs = slice_set c.regs reg value }

-- a request that no worker has leaves the queue, and is counted
abbrev pub cancel_counted : DiskImage → Queue → ℕ → DiskImage
cancel_counted image q id = if some_request q id is_waiting then record image { cancelled = image.cancelled + 1 } else image

unfoldable pub request_cancelled : State → ℕ → ℕ → State
request_cancelled s d id =
    with_image (with_machine s (with_queue s.machine d (cancelled (drive_at s.machine d).queue id))) d
    (cancel_counted (image_at s d) (drive_at s.machine d).queue id)

-- what the order does to the machine
unfoldable pub ordered : State → Order → State
ordered s (Nmi i) = with_machine s (with_cpu s.machine i (record (cpu_at s.machine i) { nmi = true }))
ordered s (Cancel d id) = request_cancelled s d id
ordered s (Set i reg value) = with_machine s (with_ctx s.machine i (with_register (cpu_at s.machine i).ctx reg value))
ordered s Resume = with_machine s (record s.machine { pause = false })
ordered s order = s

-- what is said to it
abbrev pub cancel_said : Queue → ℕ → Said
cancel_said q id = if some_request q id is_waiting then said.Done else if some_request q id is_busy then said.Busy else said.Unknown

-- what a cancel is answered, by how far the request is
abbrev pub said_by : Option Progress → Said
said_by None = said.Unknown
said_by (Some p) = if works p then said.Busy else said.Done

-- a cancel took the request off
abbrev pub is_off : Cancelled → Bool
is_off reply.Done = true
is_off reply.Unknown = false
is_off reply.Busy = false

-- the vCPU and the register that an order names are there
abbrev pub Names : ℕ → Order → Type 0
Names cpus (Nmi i) = i < cpus
Names cpus (Set i reg value) = (i < cpus) × (reg < 18)
Names cpus (Get i reg) = (i < cpus) × (reg < 18)
Names cpus order = Unit {0}

abbrev pub NamesNext : ℕ → Option Order → Type 0
NamesNext cpus None = Unit {0}
NamesNext cpus (Some order) = Names cpus order

unfoldable pub said_to : State → Order → Said
said_to s (Cancel d id) = cancel_said (drive_at s.machine d).queue id
said_to s (Get i reg) = said.Value (register_of (cpu_at s.machine i).ctx reg)
said_to s WaitQuiet = said.Met
said_to s (WaitConsole n) = if has_come s (WaitConsole n) then said.Met else said.Quiet
said_to s (WaitExecuted n) = if has_come s (WaitExecuted n) then said.Met else said.Quiet
said_to s order = said.Plain

-- with what the vCPUs noted, if it was a rendezvous
abbrev pub answer_of : State → Order → Said → Answer
answer_of s order said = record { order = order; said = said; samples = record { items = s.samples } }

-- the order is done, and this was said to it. The bytes of an input join the input, and after the last order the run has
-- ended
unfoldable pub noted : State → Order → Said → State
noted s order said = record s {
  input = s.input ++ bytes_in order;
  answers = s.answers ++ answer_of s order said ∷ [];
  samples = [];
  place = s.place + 1;
  begun = false;
  ended = if s.place + 1 == length s.script then Some Finished else s.ended;
}

-- the same of the order that comes next, where one does
abbrev pub ordered_as : State → Option Order → State
ordered_as s None = s
ordered_as s (Some order) = ordered s order

abbrev pub said_as : State → Option Order → Said
said_as s None = said.Plain
said_as s (Some order) = said_to s order

abbrev pub noted_as : State → Option Order → Said → State
noted_as s None said = s
noted_as s (Some order) said = noted s order said

unfoldable pub after_done : State → State
after_done s = noted_as (ordered_as s (next_order s)) (next_order s) (said_as s (next_order s))
