-- Enter, Slice and what an instruction does leave the images of a run; a store to a disk's window aside.
use Rattle.std.proofs.Common.{◌≡◌, ℕ, Bool, true, false, refl, ◌∙◌, Option, Some, None}
use Rattle.std.specs.Prelude.{Result, Ok, Err, if◌then◌else◌}
use Rattle.vm_law.specs.declared.context.Ctx.{Ctx}
use Rattle.vm_law.specs.declared.context.Stop.{Stop}
use Rattle.vm_lapic.specs.Apic.{ready}
use Rattle.x86_exec.specs.Shared as exec
use Rattle.x86_trap.specs.Delivery.{delivered, Delivered}
use Rattle.vm_state.specs.declared.cpu.Cpu.{Cpu}
use Rattle.vm_state.specs.Machine.{cpu_at, takes_nmi, takes_vector}
use Rattle.vm_state.specs.State.{State}
use Rattle.vm_running.specs.Enter.{stopped_at, entered, settled, delivered_in, taken, nmi_taken, vector_taken, interrupt_taken, after_enter}
use Rattle.vm_running.specs.Slice.{spent, after_slice}
use Rattle.vm_running.specs.Step.{stepped_to, stored_in, after_trap, trapped}

settled_images : (s : State) (i : ℕ) (d : Delivered) (r : Result (Unit {0}) Stop) → (settled s i d r).images ≡ s.images
unfolding settled stopped_at
settled_images s i d (Ok u) = refl
settled_images s i d (Err why) = refl

taken_images : (s : State) (i : ℕ) (c : Cpu) (v : ℕ) (nmi : Bool) → (delivered_in (taken s i c) i v nmi).images ≡ s.images
taken_images s i c v nmi = let d = delivered (cpu_at (taken s i c).machine i).ctx (taken s i c).machine.ram v None nmi in settled_images (taken s i c) i d d.answer

nmi_images : (s : State) (i : ℕ) → (nmi_taken s i).images ≡ s.images
unfolding nmi_taken
nmi_images s i = taken_images s i _ 2 true

vector_images : (s : State) (i : ℕ) (o : Option ℕ) → (vector_taken s i o).images ≡ s.images
unfolding vector_taken
vector_images s i None = refl
vector_images s i (Some v) = taken_images s i _ v false

interrupt_if : (s : State) (i : ℕ) (a b : Bool) → (if a then nmi_taken s i else if b then vector_taken s i (ready (cpu_at s.machine i).lapic) else s).images ≡ s.images
interrupt_if s i true b = nmi_images s i
interrupt_if s i false true = vector_images s i _
interrupt_if s i false false = refl

interrupt_images : (s : State) (i : ℕ) → (interrupt_taken s i).images ≡ s.images
unfolding interrupt_taken
interrupt_images s i = interrupt_if s i (takes_nmi (cpu_at s.machine i)) (takes_vector (cpu_at s.machine i))

entered_images : (s : State) (p i grant : ℕ) → (entered s p i grant).images ≡ s.images
unfolding entered
entered_images s p i grant = refl

pub enter_images : (s : State) (p i grant : ℕ) → (after_enter s p i grant).images ≡ s.images
unfolding after_enter
enter_images s p i grant = interrupt_images (entered s p i grant) i ∙ entered_images s p i grant

pub slice_images : (s : State) (i n : ℕ) → (after_slice s i n).images ≡ s.images
unfolding after_slice spent
slice_images s i n = refl

pub stepped_images : (s : State) (j : ℕ) (c : Ctx) (halted : Bool) → (stepped_to s j c halted).images ≡ s.images
unfolding stepped_to spent
stepped_images s j c halted = refl

pub stopped_images : (s : State) (j : ℕ) (why : Stop) → (stopped_at s j why).images ≡ s.images
unfolding stopped_at
stopped_images s j why = refl

trap_images : (s : State) (j : ℕ) (d : Delivered) (r : Result (Unit {0}) Stop) → (after_trap s j d r).images ≡ s.images
unfolding stepped_to spent
trap_images s j d (Ok u) = refl
trap_images s j d (Err why) = stopped_images s j why

pub trapped_images : (s : State) (j rip v : ℕ) (error : Option ℕ) → (trapped s j rip v error).images ≡ s.images
unfolding trapped
trapped_images s j rip v error = let d = delivered (record (cpu_at s.machine j).ctx { rip = rip }) s.machine.ram v error false in trap_images s j d d.answer

pub stored_images : (s : State) (j : ℕ) (x : exec.Shared) → (stepped_to (stored_in s x) j x.ctx false).images ≡ s.images
unfolding stepped_to spent
stored_images s j x = refl
