-- What follows from an instruction is the same once its memory stands.
use Rattle.std.specs.Prelude.{Option}
use Rattle.std.proofs.Common.{◌≡◌, ℕ, false, ap, ◌∙◌}
use Rattle.vm_law.specs.Memory.{Memory}
use Rattle.vm_law.specs.declared.context.Ctx.{Ctx}
use Rattle.vm_law.specs.declared.insn.Insn.{Insn}
use Rattle.x86_exec.specs.declared.effect.Effect.{Effect}
use Rattle.x86_exec.specs.declared.effect.Effect.TheVariants as effect
use Rattle.x86_exec.specs.declared.effect.Stored.{Stored}
use Rattle.x86_exec.specs.Shared.{Shared}
use Rattle.x86_exec.specs.Kept.{Leaves}
use Rattle.vm_state.specs.State.{State, versions_after}
use Rattle.vm_running.specs.Step.{performed_as, with_ram, stepped_to}

module _ (s : State) (p i : ℕ) (insn : Insn) (len : ℕ) (x : Shared) where
  -- where memory stays
  unchanged : (e : Effect) → x.memory ≡ s.machine.ram → performed_as (with_ram s x.memory) p i insn len x e ≡ performed_as s p i insn len x e
  unchanged e same = ap (λ (m : Memory). performed_as (with_ram s m) p i insn len x e) same

  by_effect : (c : Ctx) (e : Effect) → x.memory.code ≡ s.machine.ram.code → Leaves e c x.ctx s.machine.ram x.memory
      → performed_as (with_ram s x.memory) p i insn len x e ≡ performed_as s p i insn len x e
  unfolding performed_as
  by_effect c effect.Done code leaves =
      ap (λ (n : ℕ). stepped_to (with_ram (record s { versions = versions_after s.versions n x.stored }) x.memory) i x.ctx false) code
  by_effect c effect.Halt code leaves = unchanged effect.Halt leaves
  by_effect c (effect.Trap v error) code leaves = unchanged (effect.Trap v error) leaves.1
  by_effect c (effect.Stop why) code leaves = unchanged (effect.Stop why) leaves.1
  by_effect c (effect.PortIn port w) code leaves = unchanged (effect.PortIn port w) leaves.1
  by_effect c (effect.PortOut port w value) code leaves = unchanged (effect.PortOut port w value) leaves
  by_effect c (effect.Load a) code leaves = unchanged (effect.Load a) leaves.1
  by_effect c (effect.Store a value) code leaves = unchanged (effect.Store a value) leaves

pub shared_there : (s t : State) (p i : ℕ) (insn : Insn) (len : ℕ) (x : Shared) (e : Effect) (c before : Ctx) (stored : Option Stored)
    → t ≡ with_ram s x.memory → e ≡ x.effect → c ≡ x.ctx → stored ≡ x.stored → x.memory.code ≡ s.machine.ram.code → Leaves x.effect before x.ctx s.machine.ram x.memory
    → performed_as t p i insn len (record { effect = e; ctx = c; memory = t.machine.ram; stored = stored }) e ≡ performed_as s p i insn len x x.effect
shared_there s t p i insn len x e c before stored is asks goes stores code leaves =
    ap (λ (u : State). performed_as u p i insn len (record { effect = e; ctx = c; memory = u.machine.ram; stored = stored }) e) is
    ∙ ap (λ (f : Effect). performed_as (with_ram s x.memory) p i insn len (record { effect = f; ctx = c; memory = x.memory; stored = stored }) f) asks
    ∙ ap (λ (d : Ctx). performed_as (with_ram s x.memory) p i insn len (record { effect = x.effect; ctx = d; memory = x.memory; stored = stored }) x.effect) goes
    ∙ ap (λ (o : Option Stored). performed_as (with_ram s x.memory) p i insn len (record { effect = x.effect; ctx = x.ctx; memory = x.memory; stored = o }) x.effect) stores
    ∙ by_effect s p i insn len x before x.effect code leaves
