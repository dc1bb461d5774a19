-- Where an instruction stores, and that memory stays where it stores nothing.
use Rattle.std.proofs.Common.{◌≡◌, ℕ, ◌+◌, ◌%◌, ◌^◌, ◌<◌, ◌≤◌, Bool, true, false, ◌&&◌, ◌==◌, List, ◌++◌, length, take, drop, Option, Some, None, Result, Ok, Err, IfOk, if◌then◌else◌, refl, arith}
use Rattle.std.proofs.lemmas.Grind.{common_steps}
use Rattle.byteorder.specs.Endian.{little_bytes}
use Rattle.byteorder.specs.Numbers.{length-bytes_low_first}
use Rattle.vm_law.specs.Memory.{Memory, written, KeepsSize}
use Rattle.vm_law.specs.declared.context.Ctx.{Ctx}
use Rattle.vm_law.specs.declared.context.Stop.TheVariants as stop
use Rattle.vm_law.specs.declared.insn.Insn.{Insn}
use Rattle.vm_law.specs.declared.insn.Mem.{Mem}
use Rattle.vm_law.specs.declared.insn.Op.{Op}
use Rattle.vm_law.specs.declared.insn.Op.TheVariants as op
use Rattle.vm_bus.specs.declared.area.Area.{Area}
use Rattle.vm_bus.specs.declared.area.Area.TheVariants as area
use Rattle.vm_bus.specs.Area.{area_in}
use Rattle.vm_bus.proofs.Inside.{IsPlaced, area_placed}
use Rattle.x86_op.specs.declared.access.Way.{Way}
use Rattle.x86_op.specs.declared.access.Way.TheVariants as way
use Rattle.x86_op.specs.declared.access.Access.{Access}
use Rattle.x86_op.specs.Done.{Done}
use Rattle.x86_op.specs.Table.{computed}
use Rattle.x86_op.specs.Access.{access_of}
use Rattle.x86_exec.specs.declared.effect.Effect.{Effect}
use Rattle.x86_exec.specs.declared.effect.Effect.TheVariants as effect
use Rattle.x86_exec.specs.declared.effect.Stored.{Stored}
use Rattle.x86_exec.specs.declared.reached.Place.{Place}
use Rattle.x86_exec.specs.declared.reached.Place.TheVariants as place
use Rattle.x86_exec.specs.Reached.{reached, windowed, IsThere}
use Rattle.x86_exec.specs.Shared.{Shared, asks, is_plain, stored_at, ended, stores, accessed, alone, with_access, iret, lidt, out, attempted, settled}
use Rattle.x86_exec.specs.Kept.{IsStored, Stores, SharedStores, SharedKeepsSize}
use Rattle.x86_op.proofs.Bounds.{IsAddress, IsBounded, Bounded, access_bounded}
use Rattle.x86_exec.proofs.Chains.{accessed_ends, alone_ends, iret_ends, lidt_ends}

abbrev Kept : Memory → Shared → Type 0
Kept mem s = Stores s.stored mem s.memory

unchanged : (c : Ctx) (mem : Memory) (e : Effect) → Kept mem (asks e c mem)
unchanged c mem e = refl

pub number_stored : (mem : Memory) (at len number : ℕ) → at + len ≤ length mem.bytes → IsStored mem (written mem at (little_bytes len number)) (record { at = at; len = len })
number_stored mem at len number inside = record {
  piece = little_bytes len number;
  long = length-bytes_low_first 0 len number;
  inside = inside;
  there = refl;
}

-- a store goes to memory that is there
abbrev MayGo : Memory → ℕ → ℕ → Result Place Effect → Type 0
MayGo mem at len (Ok p) = IsThere mem at len p
MayGo mem at len (Err e) = Unit {0}

chosen_may : (mem : Memory) (at len : ℕ) (b : Bool) (x : Area) (e : Effect) → MayGo mem at len (if b then Ok (place.Window x) else Err e)
chosen_may mem at len true x e = tt
chosen_may mem at len false x e = tt

windowed_may : (mem : Memory) (at len : ℕ) (plain : Bool) (x : Area) (offset : ℕ) → MayGo mem at len (windowed plain x offset)
unfolding windowed
windowed_may mem at len plain x offset = chosen_may mem at len (plain && (offset % 4 == 0)) x (effect.Stop stop.Device)

pub reached_may : (mem : Memory) (plain : Bool) (at len : ℕ) (x : Area) → IsPlaced at len (length mem.bytes) x → MayGo mem at len (reached plain x)
unfolding reached
reached_may mem plain at len area.Noncanonical placed = tt
reached_may mem plain at len (area.Lapic offset) placed = windowed_may mem at len plain (area.Lapic offset) offset
reached_may mem plain at len (area.Ioapic offset) placed = windowed_may mem at len plain (area.Ioapic offset) offset
reached_may mem plain at len (area.Disk k offset) placed = windowed_may mem at len plain (area.Disk k offset) offset
reached_may mem plain at len area.Split placed = tt
reached_may mem plain at len area.Nothing placed = tt
reached_may mem plain at len area.Code placed = placed
reached_may mem plain at len area.Ram placed = placed

may_if_ok : (mem : Memory) (at len : ℕ) (r : Result Place Effect) → MayGo mem at len r → IfOk r (λ p. IsThere mem at len p)
may_if_ok mem at len (Ok p) may = may
may_if_ok mem at len (Err e) may = tt

pub reached_there : (mem : Memory) (plain : Bool) (at len : ℕ) (x : Area) → IsPlaced at len (length mem.bytes) x → IfOk (reached plain x) (λ p. IsThere mem at len p)
reached_there mem plain at len x placed = may_if_ok mem at len (reached plain x) (reached_may mem plain at len x placed)

place_there : (mem : Memory) (plain : Bool) (at len : ℕ) (p : Place) → length mem.bytes < 2 ^ 64 → at < 2 ^ 64 → 0 < len → len ≤ 8 → reached plain (area_in mem at len) ≡ Ok p → IsThere mem at len p
place_there mem plain at len p size fits some short is =
    rw is at (reached_may mem plain at len (area_in mem at len) (area_placed at len mem.code (length mem.bytes) fits (omega arith) size some))

-- where nothing is stored it doesn't matter where the access goes
MayEnd : Memory → Access → Place → Bool → Type 0
MayEnd mem a p true = IsThere mem a.at a.len p
MayEnd mem a p false = Unit {0}

ended_kept : (mem : Memory) (a : Access) (p : Place) (done : Done) (store : Bool) → MayEnd mem a p store → Kept mem (ended mem a p done store)
unfolding MayEnd ended stored_at
ended_kept mem a place.Memory done true may = number_stored mem a.at a.len done.stored may
ended_kept mem a (place.Window x) done true may = refl
ended_kept mem a p done false may = refl

any_end : (mem : Memory) (a : Access) (p : Place) (store : Bool) → IsThere mem a.at a.len p → MayEnd mem a p store
unfolding MayEnd
any_end mem a p true there = there
any_end mem a p false there = tt

may_end : (c : Ctx) (insn : Insn) (read : ℕ) (mem : Memory) (at len : ℕ) (k : Way) (p : Place) → length mem.bytes < 2 ^ 64 → IsAddress k at → 0 < len → len ≤ 8
    → reached (is_plain insn) (area_in mem at len) ≡ Ok p → MayEnd mem (record { way = k; at = at; len = len }) p (stores c insn read k)
unfolding stores MayEnd
may_end c insn read mem at len way.Load p size fits some short is = tt
may_end c insn read mem at len way.Store p size fits some short is = place_there mem (is_plain insn) at len p size fits some short is
may_end c insn read mem at len way.Modify p size fits some short is = place_there mem (is_plain insn) at len p size fits some short is
may_end c insn read mem at len way.Compare p size fits some short is =
    any_end mem (record { way = way.Compare; at = at; len = len }) p _ (place_there mem (is_plain insn) at len p size fits some short is)

accessed_kept : (c : Ctx) (insn : Insn) (len : ℕ) (mem : Memory) (a : Access) → length mem.bytes < 2 ^ 64 → IsBounded a → Kept mem (settled c mem (accessed c insn len mem a))
accessed_kept c insn len mem a size bounded =
    accessed_ends c insn len mem a (Kept mem) (unchanged c mem) (λ p read is.
    ended_kept mem a p (computed c insn len read) (stores c insn read a.way) (may_end c insn read mem a.at a.len a.way p size bounded.fits bounded.some bounded.short is))

alone_kept : (c : Ctx) (insn : Insn) (len : ℕ) (mem : Memory) → Kept mem (settled c mem (alone c insn len mem))
alone_kept c insn len mem = alone_ends c insn len mem (Kept mem) (unchanged c mem) refl

with_access_kept : (c : Ctx) (insn : Insn) (len : ℕ) (mem : Memory) (x : Option Access) → length mem.bytes < 2 ^ 64 → Bounded x → Kept mem (settled c mem (with_access c insn len mem x))
unfolding with_access
with_access_kept c insn len mem None size bounded = alone_kept c insn len mem
with_access_kept c insn len mem (Some a) size bounded = accessed_kept c insn len mem a size bounded

iret_kept : (c : Ctx) (len : ℕ) (mem : Memory) → Kept mem (settled c mem (iret c len mem))
iret_kept c len mem = iret_ends c len mem (Kept mem) (unchanged c mem) (λ frame. refl)

lidt_kept : (c : Ctx) (len : ℕ) (mem : Memory) (a : Mem) → Kept mem (settled c mem (lidt c len mem a))
lidt_kept c len mem a = lidt_ends c len mem a (Kept mem) (unchanged c mem) (λ operand. refl)

attempted_kept : (c : Ctx) (insn : Insn) (len : ℕ) (mem : Memory) (o : Op) → length mem.bytes < 2 ^ 64 → Kept mem (settled c mem (attempted c insn len mem o))
unfolding attempted out
attempted_kept c insn len mem (op.In port) size = refl
attempted_kept c insn len mem (op.Out port) size = refl
attempted_kept c insn len mem (op.Int v) size = refl
attempted_kept c insn len mem op.Ud2 size = refl
attempted_kept c insn len mem op.Hlt size = refl
attempted_kept c insn len mem op.Iret size = iret_kept c len mem
attempted_kept c insn len mem (op.Lidt a) size = lidt_kept c len mem a
attempted_kept c insn len mem o size = with_access_kept c insn len mem (access_of c insn len) size (access_bounded c insn len)

pub shared_stores : SharedStores
shared_stores c insn len mem size = attempted_kept c insn len mem insn.op size

spliced_length : (xs piece : List ℕ) (at : ℕ) → at + length piece ≤ length xs → length (take at xs ++ piece ++ drop (at + length piece) xs) ≡ length xs
spliced_length xs piece at inside = grind (arith, common_steps)

stored_size : (mem new : Memory) (at len : ℕ) (piece : List ℕ) → length piece ≡ len → at + len ≤ length mem.bytes → new ≡ written mem at piece → KeepsSize mem new
stored_size mem new at len piece long inside there =
    rw there (record { code = refl; size = spliced_length mem.bytes piece at (omega arith) })

-- what is stored keeps the size
pub keeps_size : (s : Option Stored) (mem new : Memory) → Stores s mem new → KeepsSize mem new
keeps_size None mem new h = rw h (record { code = refl; size = refl })
keeps_size (Some s) mem new h = stored_size mem new s.at s.len h.piece h.long h.inside h.there

pub shared_keeps_size : SharedKeepsSize
shared_keeps_size c insn len mem size = keeps_size _ mem _ (shared_stores c insn len mem size)
