-- An instruction that is done on the vCPU's registers and on memory where they stand.
use Rattle.std.specs.Prelude.{slice_set, Option, Result, Ok, IsTrue}
use Rattle.std.proofs.Common.{◌≡◌, ℕ, zero, suc, ◌<◌, List, [], ◌∷◌, false, refl, sym, ap, ◌∙◌, arith}
use Rattle.std.proofs.lemmas.Bool.Decides.{nat_tests}
use Rattle.std.proofs.lemmas.List.{get_or-set_same}
use Rattle.vm_law.specs.Memory.{Memory}
use Rattle.vm_law.specs.declared.context.Ctx.{Ctx}
use Rattle.vm_law.specs.declared.insn.Insn.{Insn}
use Rattle.x86_exec.specs.declared.effect.Effect.{Effect}
use Rattle.x86_exec.specs.declared.effect.Effect.TheVariants as effect
use Rattle.x86_exec.specs.declared.effect.Stored.{Stored}
use Rattle.x86_exec.specs.Shared as exec
use Rattle.x86_exec.specs.Shared.{settled}
use Rattle.x86_fetch.specs.declared.fetching.Next.{Next}
use Rattle.x86_fetch.specs.declared.fetching.Next.TheVariants.{Local, Shared, Undefined, OutOfCode}
use Rattle.x86_fetch.specs.Sharing.{IsNextDoneAs}
use Rattle.vm_state.specs.declared.cpu.Cpu.{Cpu}
use Rattle.vm_state.specs.Machine.{cpu_at, cpu_count, is_cpu, unstarted_cpu}
use Rattle.vm_state.specs.State.{State, versions_after}
use Rattle.vm_running.specs.Slice.{spent}
use Rattle.vm_running.specs.Step.{attempt, counted, done_by, moved_on, performed, performed_as, shared_at, stepped_to}

set_again : {X : Type 0} (xs : List X) (i : ℕ) (x y : X) → slice_set (slice_set xs i x) i y ≡ slice_set xs i y
set_again [] i x y = refl
set_again (z ∷ zs) zero x y = refl
set_again (z ∷ zs) (suc i) x y = ap (λ ws. z ∷ ws) (set_again zs i x y)

done_in_place : (s : State) (i : ℕ) (x : exec.Shared) → i < cpu_count s.machine → x.memory.code ≡ s.machine.ram.code
    → stepped_to (counted (moved_on s i x.ctx x.memory) x.stored) i (cpu_at (moved_on s i x.ctx x.memory).machine i).ctx false ≡ done_by s i x
unfolding stepped_to
done_in_place s i x there code =
    let cpus = s.machine.cpus in
    let cpu = cpu_at s.machine i in
    let moved : Cpu = record cpu { ctx = x.ctx } in
    let next : Cpu = record cpu { ctx = x.ctx; halted = false } in
    let with_all : ℕ → List Cpu → State = λ n cs. spent (record s { machine = record s.machine { cpus = cs; ram = x.memory }; versions = versions_after s.versions n x.stored }) i 1 in
    ap (λ (b : Cpu). with_all x.memory.code (slice_set (slice_set cpus i moved) i (record b { halted = false }))) (get_or-set_same cpus i moved (unstarted_cpu i) there)
    ∙ ap (λ (cs : List Cpu). with_all x.memory.code cs) (set_again cpus i moved next)
    ∙ ap (λ (n : ℕ). with_all n (slice_set cpus i next)) code

-- one step after the other
goes_in_place : (s moved noted gone : State) (i : ℕ) (insn : Insn) (len : ℕ) (c : Ctx) (mem : Memory) (stored : Option Stored) → IsTrue (is_cpu s.machine i)
    → attempt s i insn len ≡ Ok (record { effect = effect.Done; ctx = c; memory = mem; stored = stored }) → mem.code ≡ s.machine.ram.code
    → moved ≡ moved_on s i c mem → noted ≡ counted moved stored → gone ≡ stepped_to noted i (cpu_at noted.machine i).ctx false → gone ≡ done_by s i (shared_at s i insn len)
goes_in_place s moved noted gone i insn len c mem stored cpu known code moves notes goes =
    let x : exec.Shared = record { effect = effect.Done; ctx = c; memory = mem; stored = stored } in
    goes ∙ ap (λ (t : State). stepped_to t i (cpu_at t.machine i).ctx false) (notes ∙ ap (λ (t : State). counted t stored) moves)
    ∙ done_in_place s i x (grind (arith, nat_tests)) code
    ∙ ap (λ (y : exec.Shared). done_by s i y) (sym (ap (λ (r : Result exec.Shared Effect). settled (cpu_at s.machine i).ctx s.machine.ram r) known))

-- what is done by itself
follows_done : (s : State) (p i : ℕ) (insn : Insn) (len : ℕ) (c : Ctx) (mem : Memory) (stored : Option Stored)
    → attempt s i insn len ≡ Ok (record { effect = effect.Done; ctx = c; memory = mem; stored = stored })
    → done_by s i (shared_at s i insn len) ≡ performed_as s p i insn len (shared_at s i insn len) (shared_at s i insn len).effect
unfolding performed_as
follows_done s p i insn len c mem stored known =
    sym (ap (λ (e : Effect). performed_as s p i insn len (shared_at s i insn len) e) (ap (λ (r : Result exec.Shared Effect). (settled (cpu_at s.machine i).ctx s.machine.ram r).effect) known))

-- the next instruction, whatever stands there
pub next_in_place : (s moved noted gone : State) (p i : ℕ) (next : Next) (c : Ctx) (mem : Memory) (stored : Option Stored) → IsTrue (is_cpu s.machine i)
    → IsNextDoneAs (Ok stored) (cpu_at s.machine i).ctx s.machine.ram next c mem → mem.code ≡ s.machine.ram.code
    → moved ≡ moved_on s i c mem → noted ≡ counted moved stored → gone ≡ stepped_to noted i (cpu_at noted.machine i).ctx false → gone ≡ performed s p i next
unfolding performed
next_in_place s moved noted gone p i (Shared insn len) c mem stored cpu known code moves notes goes =
    goes_in_place s moved noted gone i insn len c mem stored cpu known code moves notes goes ∙ follows_done s p i insn len c mem stored known
next_in_place s moved noted gone p i (Local insn len) c mem stored cpu known code moves notes goes = absurd (cc)
next_in_place s moved noted gone p i Undefined c mem stored cpu known code moves notes goes = absurd (cc)
next_in_place s moved noted gone p i OutOfCode c mem stored cpu known code moves notes goes = absurd (cc)
