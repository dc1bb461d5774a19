-- What is told of a store before it is run is what the instruction asks.
use Rattle.std.specs.Prelude.{◌%◌, ◌==◌, Option, Some, None, Result, Ok, if◌then◌else◌}
use Rattle.std.proofs.Common.{◌≡◌, ℕ, Bool, true, false, not, ◌&&◌, List, refl, sym, ap, ◌∙◌}
use Rattle.byteorder.specs.Endian.{little_number}
use Rattle.vm_law.specs.Memory.{Memory, read_of}
use Rattle.vm_law.specs.declared.context.Ctx.{Ctx}
use Rattle.vm_law.specs.declared.insn.Insn.{Insn}
use Rattle.vm_law.specs.declared.insn.Op.{Op}
use Rattle.vm_law.specs.declared.insn.Op.TheVariants as op
use Rattle.vm_bus.specs.Area.{area_in}
use Rattle.vm_bus.specs.declared.area.Area.{Area}
use Rattle.vm_bus.specs.declared.area.Area.TheVariants as area
use Rattle.x86_op.specs.Access.{access_of}
use Rattle.x86_op.specs.Table.{faults, matches_accumulator}
use Rattle.x86_op.specs.declared.access.Access.{Access}
use Rattle.x86_op.specs.declared.access.Way.{Way}
use Rattle.x86_op.specs.declared.access.Way.TheVariants as way
use Rattle.x86_exec.specs.declared.effect.Effect.{Effect}
use Rattle.x86_exec.specs.declared.effect.Effect.TheVariants as effect
use Rattle.x86_exec.specs.Steps.{◌>>=◌}
use Rattle.x86_exec.specs.Reached.{reached, windowed, bytes_at}
use Rattle.x86_exec.specs.Shared.{Shared, is_plain, is_plain_op, number_at, loaded, divides, stores, asks, stored_at, ended, accessed, alone, with_access, returned, iret, with_idt, lidt, out, attempted, settled, shared}
use Rattle.vm_state.specs.State.{State}
use Rattle.vm_devices.specs.Windows.{is_routing_write}
use Rattle.vm_running.specs.Routing.{is_store, stored_to, plain_store, number_stored}
use Rattle.vm_running.specs.Step.{is_routing_effect}

-- a store of this number there
abbrev pub rerouted_at : State → ℕ → Option Area → Bool
rerouted_at s n None = false
rerouted_at s n (Some (area.Ioapic offset)) = (offset % 4 == 0) && is_routing_write s (area.Ioapic offset) n
rerouted_at s n (Some x) = false

module _ (s : State) (c : Ctx) (insn : Insn) (len : ℕ) (mem : Memory) where
  abbrev asked : Result Shared Effect → Bool
  asked r = is_routing_effect s (settled c mem r).effect

  -- the number in memory
  abbrev there : Access → ℕ
  there a = little_number a.len (read_of mem a.at a.len)

  -- in memory nothing is asked
  ram_asks : (a : Access) → area_in mem a.at a.len ≡ area.Ram → (w : Way) → a.way ≡ w → (n : Bool) → faults c insn (there a) ≡ n → (g : Bool) → faults c insn 0 ≡ g
      → (st : Bool) → matches_accumulator c insn (there a) ≡ st → asked (accessed c insn len mem a) ≡ false
  unfolding accessed reached loaded number_at divides stores ended stored_at
  ram_asks a e way.Load f true h g k st m = rw (e, f, h) refl
  ram_asks a e way.Load f false h g k st m = rw (e, f, h) refl
  ram_asks a e way.Store f n h true k st m = rw (e, f, k) refl
  ram_asks a e way.Store f n h false k st m = rw (e, f, k) refl
  ram_asks a e way.Modify f true h g k st m = rw (e, f, h) refl
  ram_asks a e way.Modify f false h g k st m = rw (e, f, h) refl
  ram_asks a e way.Compare f true h g k st m = rw (e, f, h) refl
  ram_asks a e way.Compare f false h g k true m = rw (e, f, h, m) refl
  ram_asks a e way.Compare f false h g k false m = rw (e, f, h, m) refl

  code_asks : (a : Access) → area_in mem a.at a.len ≡ area.Code → (w : Way) → a.way ≡ w → (n : Bool) → faults c insn (there a) ≡ n → (g : Bool) → faults c insn 0 ≡ g
      → (st : Bool) → matches_accumulator c insn (there a) ≡ st → asked (accessed c insn len mem a) ≡ false
  unfolding accessed reached loaded number_at divides stores ended stored_at
  code_asks a e way.Load f true h g k st m = rw (e, f, h) refl
  code_asks a e way.Load f false h g k st m = rw (e, f, h) refl
  code_asks a e way.Store f n h true k st m = rw (e, f, k) refl
  code_asks a e way.Store f n h false k st m = rw (e, f, k) refl
  code_asks a e way.Modify f true h g k st m = rw (e, f, h) refl
  code_asks a e way.Modify f false h g k st m = rw (e, f, h) refl
  code_asks a e way.Compare f true h g k st m = rw (e, f, h) refl
  code_asks a e way.Compare f false h g k true m = rw (e, f, h, m) refl
  code_asks a e way.Compare f false h g k false m = rw (e, f, h, m) refl

  -- no store to these windows changes the routing
  lapic_asks : (a : Access) (offset : ℕ) → area_in mem a.at a.len ≡ area.Lapic offset → (b : Bool) → is_plain insn ≡ b → (d : Bool) → (offset % 4 == 0) ≡ d
      → (w : Way) → a.way ≡ w → (g : Bool) → faults c insn 0 ≡ g → asked (accessed c insn len mem a) ≡ false
  unfolding accessed reached windowed loaded number_at divides stores ended stored_at is_routing_write
  lapic_asks a offset e false p d m w f g k = rw (e, p) refl
  lapic_asks a offset e true p false m w f g k = rw (e, p, m) refl
  lapic_asks a offset e true p true m way.Load f g k = rw (e, p, m, f) refl
  lapic_asks a offset e true p true m way.Store f true k = rw (e, p, m, f, k) refl
  lapic_asks a offset e true p true m way.Store f false k = rw (e, p, m, f, k) refl
  lapic_asks a offset e true p true m way.Modify f g k = rw (e, p, m, f) refl
  lapic_asks a offset e true p true m way.Compare f g k = rw (e, p, m, f) refl

  disk_asks : (a : Access) (i offset : ℕ) → area_in mem a.at a.len ≡ area.Disk i offset → (b : Bool) → is_plain insn ≡ b → (d : Bool) → (offset % 4 == 0) ≡ d
      → (w : Way) → a.way ≡ w → (g : Bool) → faults c insn 0 ≡ g → asked (accessed c insn len mem a) ≡ false
  unfolding accessed reached windowed loaded number_at divides stores ended stored_at is_routing_write
  disk_asks a i offset e false p d m w f g k = rw (e, p) refl
  disk_asks a i offset e true p false m w f g k = rw (e, p, m) refl
  disk_asks a i offset e true p true m way.Load f g k = rw (e, p, m, f) refl
  disk_asks a i offset e true p true m way.Store f true k = rw (e, p, m, f, k) refl
  disk_asks a i offset e true p true m way.Store f false k = rw (e, p, m, f, k) refl
  disk_asks a i offset e true p true m way.Modify f g k = rw (e, p, m, f) refl
  disk_asks a i offset e true p true m way.Compare f g k = rw (e, p, m, f) refl

  -- where an access goes that is a mere store of a plain MOV
  abbrev goes : Bool → Bool → Bool → Area → Option Area
  goes b g st x = if b && not g then (if st then Some x else None) else None

  abbrev target : Option Area → Bool
  target x = rerouted_at s (number_stored c insn len) x

  quiet : (x : Area) → target (Some x) ≡ false → (b g st : Bool) → false ≡ target (goes b g st x)
  quiet x h true true st = refl
  quiet x h false g st = refl
  quiet x h true false true = sym h
  quiet x h true false false = refl

  abbrev Routes : Access → Type 0
  Routes a = asked (accessed c insn len mem a) ≡ target (goes (is_plain insn) (faults c insn 0) (is_store a.way) (area_in mem a.at a.len))

  -- a store to the window of the I/O APIC is what it is
  at_ioapic : (a : Access) (offset : ℕ) → area_in mem a.at a.len ≡ area.Ioapic offset → (b : Bool) → is_plain insn ≡ b → (d : Bool) → (offset % 4 == 0) ≡ d
      → (w : Way) → a.way ≡ w → (g : Bool) → faults c insn 0 ≡ g → Routes a
  unfolding accessed reached windowed loaded number_at divides stores ended stored_at
  at_ioapic a offset e false p d m w f g k = rw (e, p) refl
  at_ioapic a offset e true p false m way.Load f true k = rw (e, p, f, k, m) refl
  at_ioapic a offset e true p false m way.Load f false k = rw (e, p, f, k, m) refl
  at_ioapic a offset e true p false m way.Store f true k = rw (e, p, f, k, m) refl
  at_ioapic a offset e true p false m way.Store f false k = rw (e, p, f, k, m) refl
  at_ioapic a offset e true p false m way.Modify f true k = rw (e, p, f, k, m) refl
  at_ioapic a offset e true p false m way.Modify f false k = rw (e, p, f, k, m) refl
  at_ioapic a offset e true p false m way.Compare f true k = rw (e, p, f, k, m) refl
  at_ioapic a offset e true p false m way.Compare f false k = rw (e, p, f, k, m) refl
  at_ioapic a offset e true p true m way.Load f true k = rw (e, p, f, k, m) refl
  at_ioapic a offset e true p true m way.Load f false k = rw (e, p, f, k, m) refl
  at_ioapic a offset e true p true m way.Store f true k = rw (e, p, f, k, m) refl
  at_ioapic a offset e true p true m way.Store f false k = rw (e, p, f, k, m) refl
  at_ioapic a offset e true p true m way.Modify f true k = rw (e, p, f, k, m) refl
  at_ioapic a offset e true p true m way.Modify f false k = rw (e, p, f, k, m) refl
  at_ioapic a offset e true p true m way.Compare f true k = rw (e, p, f, k, m) refl
  at_ioapic a offset e true p true m way.Compare f false k = rw (e, p, f, k, m) refl

  elsewhere : (a : Access) (x : Area) → target (Some x) ≡ false → area_in mem a.at a.len ≡ x → asked (accessed c insn len mem a) ≡ false → Routes a
  elsewhere a x h e none = none ∙ quiet x h (is_plain insn) (faults c insn 0) (is_store a.way) ∙ ap (λ (y : Area). target (goes (is_plain insn) (faults c insn 0) (is_store a.way) y)) (sym e)

  routes : (a : Access) (x : Area) → area_in mem a.at a.len ≡ x → Routes a
  unfolding accessed reached is_routing_write
  routes a area.Ram e = elsewhere a area.Ram refl e (ram_asks a e a.way refl (faults c insn (there a)) refl (faults c insn 0) refl (matches_accumulator c insn (there a)) refl)
  routes a area.Code e = elsewhere a area.Code refl e (code_asks a e a.way refl (faults c insn (there a)) refl (faults c insn 0) refl (matches_accumulator c insn (there a)) refl)
  routes a (area.Lapic offset) e = elsewhere a (area.Lapic offset) refl e (lapic_asks a offset e (is_plain insn) refl (offset % 4 == 0) refl a.way refl (faults c insn 0) refl)
  routes a (area.Ioapic offset) e = at_ioapic a offset e (is_plain insn) refl (offset % 4 == 0) refl a.way refl (faults c insn 0) refl
  routes a (area.Disk k offset) e = elsewhere a (area.Disk k offset) refl e (disk_asks a k offset e (is_plain insn) refl (offset % 4 == 0) refl a.way refl (faults c insn 0) refl)
  routes a area.Noncanonical e = elsewhere a area.Noncanonical refl e (rw e refl)
  routes a area.Split e = elsewhere a area.Split refl e (rw e refl)
  routes a area.Nothing e = elsewhere a area.Nothing refl e (rw e refl)

  alone_asks : (g : Bool) → faults c insn 0 ≡ g → asked (alone c insn len mem) ≡ false
  unfolding alone divides
  alone_asks true e = rw e refl
  alone_asks false e = rw e refl

  nowhere : (b : Bool) → false ≡ target (if b then None else None)
  nowhere true = refl
  nowhere false = refl

  with_routes : (o : Option Access) → asked (with_access c insn len mem o) ≡ target (if is_plain insn && not (faults c insn 0) then stored_to mem o else None)
  unfolding with_access
  with_routes None = alone_asks (faults c insn 0) refl ∙ nowhere (is_plain insn && not (faults c insn 0))
  with_routes (Some a) = routes a (area_in mem a.at a.len) refl

  popped : (f : List ℕ → Shared) (at n : ℕ) → ((l : List ℕ) → is_routing_effect s (f l).effect ≡ false) → (x : Area) → area_in mem at n ≡ x
      → asked (bytes_at mem at n >>= (λ l. Ok (f l))) ≡ false
  unfolding bytes_at reached windowed
  popped f at n h area.Ram e = rw e (h _)
  popped f at n h area.Code e = rw e (h _)
  popped f at n h (area.Lapic offset) e = rw e refl
  popped f at n h (area.Ioapic offset) e = rw e refl
  popped f at n h (area.Disk k offset) e = rw e refl
  popped f at n h area.Noncanonical e = rw e refl
  popped f at n h area.Split e = rw e refl
  popped f at n h area.Nothing e = rw e refl

  not_plain : is_plain insn ≡ false → false ≡ target (plain_store c insn len mem)
  unfolding plain_store
  not_plain e = rw e refl

  routed : (o : Op) → insn.op ≡ o → asked (attempted c insn len mem o) ≡ target (plain_store c insn len mem)
  unfolding attempted plain_store is_plain_op iret lidt out
  routed (op.In port) e = not_plain (rw e refl)
  routed (op.Out port) e = not_plain (rw e refl)
  routed (op.Int v) e = not_plain (rw e refl)
  routed op.Ud2 e = not_plain (rw e refl)
  routed op.Hlt e = not_plain (rw e refl)
  routed op.Iret e = popped (λ (l : List ℕ). asks effect.Done (returned c len l) mem) _ _ (λ l. refl) _ refl ∙ not_plain (rw e refl)
  routed (op.Lidt a) e = popped (λ (l : List ℕ). asks effect.Done (with_idt c len l) mem) _ _ (λ l. refl) _ refl ∙ not_plain (rw e refl)
  routed o e = with_routes (access_of c insn len)

pub routing_told : (s : State) (c : Ctx) (insn : Insn) (len : ℕ) (mem : Memory)
    → is_routing_effect s (shared c insn len mem).effect ≡ rerouted_at s (number_stored c insn len) (plain_store c insn len mem)
routing_told s c insn len mem = routed s c insn len mem insn.op refl

pub ruleset routing_steps = (routing_told)
