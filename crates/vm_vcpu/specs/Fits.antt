-- When a runner fits a state of the run: what it has out is what the run has.
use Rattle.std.specs.Prelude.{◌≡◌, ℕ, ◌+◌, ◌<◌, true, false}
use Rattle.x86_fetch.specs.Slices.{most_local, stepped_by}
use Rattle.vm_law.specs.declared.context.Ctx.{Ctx}
use Rattle.vm_meet.specs.Meeting.{started_by}
use Rattle.vm_state.specs.Machine.{cpu_at, cpu_count, is_running}
use Rattle.vm_state.specs.State.{State, seat_at}
use Rattle.vm_vcpu.specs.declared.out.Out.{Out}
use Rattle.vm_vcpu.specs.declared.out.Out.TheVariants.{Nothing, Leased, Ran}
use Rattle.vm_vcpu.specs.Copies.{CopiesView, AreCopies}
use Rattle.vm_vcpu.specs.View.{RunnerView}

-- the vCPU runs by the pass with this context and this grant, isn't halted, and the pass didn't open the meeting that is open
pub record HasOut (s : State) (i p : ℕ) (start : Ctx) (grant : ℕ) : Type 0 where
  pub runs : is_running (cpu_at s.machine i).stage p ≡ true
  pub halted : (cpu_at s.machine i).halted ≡ false
  pub ctx : (cpu_at s.machine i).ctx ≡ start
  pub left : (seat_at s i).left ≡ grant
  pub starter : started_by s.machine.meet p ≡ false

-- what it ran ahead is as much as its grant and its copies allow
abbrev pub OutFits : State → ℕ → ℕ → CopiesView → Out → Type 0
OutFits s i p c Nothing = Unit {0}
OutFits s i p c (Leased ctx left) = HasOut s i p ctx left
OutFits s i p c (Ran start left count ctx) =
    HasOut s i p start left × (count ≡ most_local c.code start left) × (ctx ≡ stepped_by c.code start count)

pub record RunnerFits (s : State) (r : RunnerView) : Type 0 where
  pub cpu : r.cpu < cpu_count s.machine
  pub pass : r.by ≡ 1 + r.cpu
  pub copies : AreCopies s r.copies
  pub out : OutFits s r.cpu r.by r.copies r.out
