-- What an instruction leaves, by what it asks and by what it stored.
use Rattle.std.specs.Prelude.{◌≡◌, ℕ, ◌+◌, ◌≤◌, ◌<◌, ◌^◌, Bool, true, false, List, length, Option, Some, None, Result, Ok, Err}
use Rattle.vm_law.specs.Memory.{Memory, written, KeepsSize}
use Rattle.vm_law.specs.declared.context.Ctx.{Ctx}
use Rattle.vm_law.specs.declared.insn.Insn.{Insn}
use Rattle.x86_exec.specs.declared.effect.Effect.{Effect}
use Rattle.x86_exec.specs.declared.effect.Effect.TheVariants as effect
use Rattle.x86_exec.specs.declared.effect.Stored.{Stored}
use Rattle.x86_exec.specs.declared.effect.NotDone.{NotDone}
use Rattle.x86_exec.specs.declared.effect.Performed.{Performed}
use Rattle.x86_exec.specs.Shared.{Shared, shared}

-- only what is done may have changed memory; what isn't done yet, or can't be, has changed nothing
abbrev pub Leaves : Effect → Ctx → Ctx → Memory → Memory → Type 0
Leaves effect.Done c after mem new = Unit {0}
Leaves effect.Halt c after mem new = new ≡ mem
Leaves (effect.Trap vector error) c after mem new = (after ≡ c) × (new ≡ mem)
Leaves (effect.Stop why) c after mem new = (after ≡ c) × (new ≡ mem)
Leaves (effect.PortIn port width) c after mem new = (after ≡ c) × (new ≡ mem)
Leaves (effect.PortOut port width value) c after mem new = new ≡ mem
Leaves (effect.Load area) c after mem new = (after ≡ c) × (new ≡ mem)
Leaves (effect.Store area value) c after mem new = new ≡ mem

-- as many bytes as were stored, and inside memory, are others
pub record IsStored (mem new : Memory) (s : Stored) : Type 0 where
  pub piece : List ℕ
  pub long : length piece ≡ s.len
  pub inside : s.at + s.len ≤ length mem.bytes
  pub there : new ≡ written mem s.at piece

-- where nothing was stored memory stays
abbrev pub Stores : Option Stored → Memory → Memory → Type 0
Stores None mem new = new ≡ mem
Stores (Some s) mem new = IsStored mem new s

-- what an attempt comes to
abbrev pub outcome : Result Performed Effect → Ctx → Memory → Result Shared Effect
outcome (Ok p) c mem = Ok (record { effect = p.effect; ctx = c; memory = mem; stored = p.stored })
outcome (Err e) c mem = Err e

-- it is done, and asks nothing
abbrev pub is_done_effect : Effect → Bool
is_done_effect effect.Done = true
is_done_effect e = false

abbrev pub is_done : Result Shared Effect → Bool
is_done (Ok s) = is_done_effect s.effect
is_done (Err e) = false

-- where it is done this is the context, and memory, after it; else it isn't done
abbrev pub IsDoneAs : Result (Option Stored) NotDone → Result Shared Effect → Ctx → Memory → Type 0
IsDoneAs (Ok stored) r c mem = r ≡ Ok (record { effect = effect.Done; ctx = c; memory = mem; stored = stored })
IsDoneAs (Err e) r c mem = is_done r ≡ false

abbrev pub SharedLeaves : Type 0
SharedLeaves = (c : Ctx) (insn : Insn) (len : ℕ) (mem : Memory) → Leaves (shared c insn len mem).effect c (shared c insn len mem).ctx mem (shared c insn len mem).memory

abbrev pub SharedStores : Type 0
SharedStores = (c : Ctx) (insn : Insn) (len : ℕ) (mem : Memory) → length mem.bytes < 2 ^ 64 → Stores (shared c insn len mem).stored mem (shared c insn len mem).memory

-- how many bytes there are and how many of them are code stays
abbrev pub SharedKeepsSize : Type 0
SharedKeepsSize = (c : Ctx) (insn : Insn) (len : ℕ) (mem : Memory) → length mem.bytes < 2 ^ 64 → KeepsSize mem (shared c insn len mem).memory
