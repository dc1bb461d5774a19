-- A Step opens a rendezvous where it changes the interrupt routing, and else leaves both.
use Rattle.std.proofs.Common.{◌≡◌, ℕ, Bool, true, false, not, cond, List, [], ◌∷◌, map, filter, set, refl, sym, ap, ◌∙◌, arith, Option, Some, None}
use Rattle.std.specs.Prelude.{◌&&◌, ◌==◌, if◌then◌else◌}
use Rattle.std.specs.FinSet as finset
use Rattle.std.specs.Option.{option_to_list}
use Rattle.std.proofs.Math.Seq.{map-set_same}
use Rattle.std.proofs.lemmas.Bool.{and_parts, true≢false}
use Rattle.std.proofs.lemmas.Bool.Decides.{nat_tests}
use Rattle.vm_law.specs.CpuSet.{Cpus}
use Rattle.vm_law.specs.declared.insn.Insn.{Insn}
use Rattle.vm_law.specs.declared.stage.MeetKind.TheVariants.{Routing}
use Rattle.vm_bus.specs.declared.area.Area.{Area}
use Rattle.vm_bus.specs.declared.area.Area.TheVariants as area
use Rattle.vm_lapic.specs.Window as lapic_window
use Rattle.vm_ioapic.specs.declared.entry.DeliveryMode.{DeliveryMode}
use Rattle.vm_ioapic.specs.declared.entry.DeliveryMode.TheVariants as mode
use Rattle.vm_ioapic.specs.declared.entry.Redirection.{Redirection}
use Rattle.vm_ioapic.specs.declared.pin.Pin.{Pin}
use Rattle.vm_ioapic.specs.declared.register.Register.{Register}
use Rattle.vm_ioapic.specs.declared.register.Register.TheVariants as register
use Rattle.vm_ioapic.specs.Entry.{routes, mode_of, mode_number, same, with_low, with_high, destination_of, is_target}
use Rattle.vm_ioapic.specs.Pin as pin
use Rattle.vm_ioapic.specs.Ioapic.{Chip, pin_at, selected, after_write, change, is_level_for, tmr}
use Rattle.vm_uart.specs.Uart as uart
use Rattle.vm_vblk.specs.declared.pulled.WindowEffect.{WindowEffect}
use Rattle.vm_vblk.specs.declared.pulled.WindowEffect.TheVariants as window_effect
use Rattle.x86_exec.specs.declared.effect.Effect.{Effect}
use Rattle.x86_exec.specs.declared.effect.Effect.TheVariants as effect
use Rattle.x86_exec.specs.Shared as exec
use Rattle.x86_fetch.specs.declared.fetching.Next.{Next}
use Rattle.x86_fetch.specs.declared.fetching.Next.TheVariants.{Local, Shared, Undefined, OutOfCode}
use Rattle.vm_meet.specs.Meeting.{opened}
use Rattle.vm_state.specs.declared.drive.Drive.{Drive}
use Rattle.vm_state.specs.Machine.{MachineState, cpu_at, with_drive, is_drive, started_cpus, uart_pin}
use Rattle.vm_state.specs.State.{State, with_machine, lag_of}
use Rattle.vm_devices.specs.Messages.{all_sent}
use Rattle.vm_devices.specs.Ports.{with_serial, read_at, written_at, port_read, port_written, offset_of as port_offset}
use Rattle.vm_devices.specs.Windows.{lapic_kept, lapic_written, reroutes, routing_opened, ioapic_written, with_window, register_followed, drive_written, window_written, is_routing_write}
use Rattle.vm_running.specs.Step.{next_at, performed_as, performed, after_step, printed, is_routing_effect, is_routing_next, would_route, port_in, port_out, window_load, window_store}
use Rattle.vm_laws.specs.Meetings.{route_of, routing_of}
use Rattle.vm_laws.proofs.Heard.{Hears, entries_of, hears_followed, hears_all_sent}
use Rattle.vm_laws.proofs.Accesses.{followed_hears, kept_alone}
use Rattle.vm_laws.proofs.Framing.{Same, stepped_same, stopped_same, trapped_same, stored_same}

-- ---- the routing, of machines whose pins have the same entries

map_twice : (ps : List Pin) → map route_of (map (λ (p : Pin). p.entry) ps) ≡ map (λ (p : Pin). route_of p.entry) ps
map_twice [] = refl
map_twice (p ∷ ps) = ap (λ (es : List Redirection). route_of p.entry ∷ es) (map_twice ps)

pub same_routing : (m n : MachineState) → entries_of n.ioapic ≡ entries_of m.ioapic → routing_of n ≡ routing_of m
same_routing m n e = sym (map_twice n.ioapic.pins) ∙ ap (λ (es : List Redirection). map route_of es) e ∙ map_twice m.ioapic.pins

-- trigger modes hang on the routing alone
abbrev level_route : ℕ → ℕ → Redirection → Bool
level_route i n r = r.level && is_target (destination_of r) i n

abbrev vectors_in : List Redirection → List ℕ
vectors_in rs = map (λ (r : Redirection). r.vector) rs

kept_vector : (i n : ℕ) (p : Pin) (b : Bool) (xs : List Pin) (ys : List Redirection) → map (λ (p : Pin). p.entry.vector) xs ≡ vectors_in ys → map (λ (p : Pin). p.entry.vector) (cond b (p ∷ xs) xs) ≡ vectors_in (cond b (route_of p.entry ∷ ys) ys)
kept_vector i n p true xs ys e = ap (λ (vs : List ℕ). p.entry.vector ∷ vs) e
kept_vector i n p false xs ys e = e

level_same : (i n : ℕ) (p : Pin) → is_level_for i n p ≡ level_route i n (route_of p.entry)
unfolding is_level_for
level_same i n p = refl

vectors_same : (i n : ℕ) (ps : List Pin) → map (λ (p : Pin). p.entry.vector) (filter (is_level_for i n) ps) ≡ vectors_in (filter (level_route i n) (map (λ (p : Pin). route_of p.entry) ps))
vectors_same i n [] = refl
vectors_same i n (p ∷ ps) =
    let xs = filter (is_level_for i n) ps in
    let ys = filter (level_route i n) (map (λ (p : Pin). route_of p.entry) ps) in
    kept_vector i n p (is_level_for i n p) xs ys (vectors_same i n ps) ∙ ap (λ b. vectors_in (cond b (route_of p.entry ∷ ys) ys)) (level_same i n p)

pub same_modes : (m n : MachineState) (i k : ℕ) → routing_of n ≡ routing_of m → tmr n.ioapic i k ≡ tmr m.ioapic i k
same_modes m n i k e =
    ap (λ (vs : List ℕ). finset.from_list vs) (vectors_same i k n.ioapic.pins ∙ ap (λ (rs : List Redirection). vectors_in (filter (level_route i k) rs)) e ∙ sym (vectors_same i k m.ioapic.pins))

-- ---- a write of the I/O APIC that doesn't change the routing

mode_back : (m : DeliveryMode) → mode_of (mode_number m) ≡ m
mode_back mode.Fixed = refl
mode_back mode.LowestPriority = refl
mode_back mode.Smi = refl
mode_back mode.Reserved3 = refl
mode_back mode.Nmi = refl
mode_back mode.Init = refl
mode_back mode.Reserved6 = refl
mode_back mode.ExtInt = refl

same_mode : (a b : DeliveryMode) → (mode_number a == mode_number b) ≡ true → a ≡ b
same_mode a b h = let e : mode_number a ≡ mode_number b = grind (arith, nat_tests, h) in sym (mode_back a) ∙ ap mode_of e ∙ mode_back b

same_bool : (a b : Bool) → same a b ≡ true → a ≡ b
same_bool true true h = refl
same_bool true false h = absurd (true≢false (sym h))
same_bool false true h = absurd (true≢false (sym h))
same_bool false false h = refl

not_false : (b : Bool) → not b ≡ false → b ≡ true
not_false true h = refl
not_false false h = absurd (true≢false h)

route_by : (e f : Redirection) → e.vector ≡ f.vector → e.mode ≡ f.mode → e.logical ≡ f.logical → e.level ≡ f.level → e.destination ≡ f.destination → route_of f ≡ route_of e
route_by e f a b c d g = rw (a, b, c, d, g) refl

same_route : (e f : Redirection) → routes e f ≡ false → route_of f ≡ route_of e
unfolding routes
same_route e f h =
    let t = not_false _ h in
    let a = and_parts (e.vector == f.vector && mode_number e.mode == mode_number f.mode && same e.logical f.logical && same e.level f.level) (e.destination == f.destination) t in
    let b = and_parts (e.vector == f.vector && mode_number e.mode == mode_number f.mode && same e.logical f.logical) (same e.level f.level) a.0 in
    let c = and_parts (e.vector == f.vector && mode_number e.mode == mode_number f.mode) (same e.logical f.logical) b.0 in
    let d = and_parts (e.vector == f.vector) (mode_number e.mode == mode_number f.mode) c.0 in
    let v : e.vector ≡ f.vector = grind (arith, nat_tests, d.0) in
    let g : e.destination ≡ f.destination = grind (arith, nat_tests, a.1) in
    route_by e f v (same_mode e.mode f.mode d.1) (same_bool e.logical f.logical c.1) (same_bool e.level f.level b.1) g

sent_entry : (b : Bool) (p : Pin) → (if b then record p { remote_irr = true } else p).entry ≡ p.entry
sent_entry true p = refl
sent_entry false p = refl

written_entry : (p : Pin) (e : Redirection) → (pin.after_write p e).entry ≡ e
unfolding pin.after_write
written_entry p e = sent_entry (pin.is_due (pin.with_entry p e) && e.level) (pin.with_entry p e)

pin_route : (c : Chip) (n : ℕ) (e : Redirection) → routes (pin_at c n).entry e ≡ false → map (λ (p : Pin). route_of p.entry) (set c.pins n (pin.after_write (pin_at c n) e)) ≡ map (λ (p : Pin). route_of p.entry) c.pins
pin_route c n e h =
    map-set_same (λ (p : Pin). route_of p.entry) c.pins n (pin.after_write (pin_at c n) e) pin.pin_at_start
    (ap route_of (written_entry (pin_at c n) e) ∙ same_route (pin_at c n).entry e h)

chip_route : (c : Chip) (r : Register) (value : ℕ) → (change c r value).routing ≡ false → map (λ (p : Pin). route_of p.entry) (after_write c r value).pins ≡ map (λ (p : Pin). route_of p.entry) c.pins
chip_route c register.Select value h = refl
chip_route c register.Id value h = refl
chip_route c register.Version value h = refl
chip_route c (register.Low n) value h = pin_route c n (with_low (pin_at c n).entry value) h
chip_route c (register.High n) value h = pin_route c n (with_high (pin_at c n).entry value) h
chip_route c register.Nothing value h = refl

-- ---- what an access makes of the rendezvous and of the routing

-- both stay, or a rendezvous for the routing was opened by the pass
pub data Routed (p : ℕ) (m n : MachineState) : Type 0 where
  stays : n.meet ≡ m.meet → routing_of n ≡ routing_of m → Routed p m n
  opens : (named : Cpus) → n.meet ≡ Some (opened Routing p named) → Routed p m n

abbrev Stays : MachineState → MachineState → Type 0
Stays m n = (n.meet ≡ m.meet) × (routing_of n ≡ routing_of m)

by_hears : (m u n : MachineState) → u.meet ≡ m.meet → entries_of u.ioapic ≡ entries_of m.ioapic → Hears u n → Stays m n
by_hears m u n e i h = (h.meet ∙ e, same_routing m n (h.entries ∙ i))

serial_stays : (m : MachineState) (u : uart.Serial) → Stays m (with_serial m u)
unfolding with_serial
serial_stays m u = by_hears m (record m { uart = u }) _ refl refl (hears_followed (record m { uart = u }) uart_pin (uart.line m.uart) (uart.line u))

read_stays : (m : MachineState) (at : Option ℕ) → Stays m (read_at m at)
read_stays m None = (refl, refl)
read_stays m (Some offset) = serial_stays m _

written_stays : (m : MachineState) (at : Option ℕ) (value : ℕ) → Stays m (written_at m at value)
written_stays m None value = (refl, refl)
written_stays m (Some offset) value = serial_stays m _

port_read_stays : (m : MachineState) (port : ℕ) (w : _) → Stays m (port_read m port w)
unfolding port_read
port_read_stays m port w = read_stays m (port_offset port w)

port_written_stays : (m : MachineState) (port : ℕ) (w : _) (value : ℕ) → Stays m (port_written m port w value)
unfolding port_written
port_written_stays m port w value = written_stays m (port_offset port w) value

lapic_stays : (m : MachineState) (i lag offset value : ℕ) → Stays m (lapic_written m i lag offset value)
unfolding lapic_written
lapic_stays m i lag offset value =
    let k = lapic_kept m i lag offset value in
    let a = kept_alone m i lag offset value in
    by_hears m k _ a.meet (ap entries_of a.ioapic) (followed_hears k (lapic_window.effect_of (cpu_at m i).lapic offset value))

window_stays : (m : MachineState) (d : ℕ) (x : Drive) → Stays m (with_window m d x)
unfolding with_window
window_stays m d x = by_hears m (with_drive m d x) _ refl refl (hears_followed _ _ _ _)

followed_stays : (s : State) (d : ℕ) (x : Drive) (e : WindowEffect) → Stays s.machine (register_followed s d x e).machine
followed_stays s d x window_effect.Nothing = window_stays s.machine d x
followed_stays s d x window_effect.Reset = window_stays s.machine d _

drive_if : (s : State) (d : ℕ) (x : Drive) (e : WindowEffect) (b : Bool) → Stays s.machine (if b then register_followed s d x e else s).machine
drive_if s d x e true = followed_stays s d x e
drive_if s d x e false = (refl, refl)

drive_stays : (s : State) (d offset value : ℕ) → Stays s.machine (drive_written s d offset value).machine
unfolding drive_written
drive_stays s d offset value = drive_if s d _ _ (is_drive s.machine d)

ioapic_if : (m n : MachineState) (p : ℕ) (b : Bool) → (b ≡ false → Stays m n) → (b ≡ false → Stays m (if b then routing_opened n p else n)) × Routed p m (if b then routing_opened n p else n)
ioapic_if m n p true h = ((λ e. absurd (true≢false e)), opens (started_cpus n) refl)
ioapic_if m n p false h = ((λ e. h e), (let t = h refl in stays t.0 t.1))

ioapic_both : (m : MachineState) (p offset value : ℕ) → (reroutes m offset value ≡ false → Stays m (ioapic_written m p offset value)) × Routed p m (ioapic_written m p offset value)
unfolding ioapic_written reroutes
ioapic_both m p offset value =
    let r = selected m.ioapic offset in
    let chip = record m { ioapic = after_write m.ioapic r value } in
    let sent_out = all_sent chip (option_to_list (change m.ioapic r value).message) in
    let h = hears_all_sent chip (option_to_list (change m.ioapic r value).message) in
    ioapic_if m sent_out p (change m.ioapic r value).routing (λ e. (h.meet, same_routing chip sent_out h.entries ∙ chip_route m.ioapic r value e))

window_written_stays : (s : State) (p i : ℕ) (a : Area) (value : ℕ) → is_routing_write s a value ≡ false → Stays s.machine (window_written s p i a value).machine
unfolding window_written is_routing_write
window_written_stays s p i (area.Lapic offset) value h = lapic_stays s.machine i (lag_of s) offset value
window_written_stays s p i (area.Ioapic offset) value h = (ioapic_both s.machine p offset value).0 h
window_written_stays s p i (area.Disk d offset) value h = drive_stays s d offset value
window_written_stays s p i a value h = (refl, refl)

routed_by : (p : ℕ) (m n : MachineState) → Stays m n → Routed p m n
routed_by p m n k = stays k.0 k.1

window_routed : (s : State) (p i : ℕ) (a : Area) (value : ℕ) → Routed p s.machine (window_written s p i a value).machine
unfolding window_written
window_routed s p i (area.Lapic offset) value = routed_by p s.machine _ (lapic_stays s.machine i (lag_of s) offset value)
window_routed s p i (area.Ioapic offset) value = (ioapic_both s.machine p offset value).1
window_routed s p i (area.Disk d offset) value = routed_by p s.machine _ (drive_stays s d offset value)
window_routed s p i a value = routed_by p s.machine _ (refl, refl)

-- ---- Step

by_same : (m n : MachineState) → Same m n → Stays m n
by_same m n k = (k.meet, same_routing m n k.entries)

then_same : (m n o : MachineState) → Stays m n → Same n o → Stays m o
then_same m n o a k = (k.meet ∙ a.0, same_routing n o k.entries ∙ a.1)

routed_same : (p : ℕ) (m n o : MachineState) → Routed p m n → Same n o → Routed p m o
routed_same p m n o (stays a b) k = stays (k.meet ∙ a) (same_routing n o k.entries ∙ b)
routed_same p m n o (opens named e) k = opens named (k.meet ∙ e)

performed_as_stays : (s : State) (p i : ℕ) (insn : Insn) (len : ℕ) (x : exec.Shared) (e : Effect) → is_routing_effect s e ≡ false → Stays s.machine (performed_as s p i insn len x e).machine
unfolding performed_as port_in port_out window_load window_store
performed_as_stays s p i insn len x effect.Done h = by_same s.machine _ (stored_same s i x)
performed_as_stays s p i insn len x effect.Halt h = by_same s.machine _ (stepped_same s i x.ctx true)
performed_as_stays s p i insn len x (effect.Trap v error) h = by_same s.machine _ (trapped_same s i _ v error)
performed_as_stays s p i insn len x (effect.Stop why) h = by_same s.machine _ (stopped_same s i why)
performed_as_stays s p i insn len x (effect.PortIn port w) h = then_same s.machine _ _ (port_read_stays s.machine port w) (stepped_same (with_machine s (port_read s.machine port w)) i _ false)
performed_as_stays s p i insn len x (effect.PortOut port w value) h = then_same s.machine _ _ (port_written_stays s.machine port w value) (stepped_same (printed (with_machine s (port_written s.machine port w value)) _) i x.ctx false)
performed_as_stays s p i insn len x (effect.Load a) h = by_same s.machine _ (stepped_same s i _ false)
performed_as_stays s p i insn len x (effect.Store a value) h = then_same s.machine _ _ (window_written_stays s p i a value h) (stepped_same (window_written s p i a value) i x.ctx false)

performed_as_routed : (s : State) (p i : ℕ) (insn : Insn) (len : ℕ) (x : exec.Shared) (e : Effect) → Routed p s.machine (performed_as s p i insn len x e).machine
unfolding performed_as port_in port_out window_load window_store
performed_as_routed s p i insn len x effect.Done = routed_by p s.machine _ (by_same s.machine _ (stored_same s i x))
performed_as_routed s p i insn len x effect.Halt = routed_by p s.machine _ (by_same s.machine _ (stepped_same s i x.ctx true))
performed_as_routed s p i insn len x (effect.Trap v error) = routed_by p s.machine _ (by_same s.machine _ (trapped_same s i _ v error))
performed_as_routed s p i insn len x (effect.Stop why) = routed_by p s.machine _ (by_same s.machine _ (stopped_same s i why))
performed_as_routed s p i insn len x (effect.PortIn port w) = routed_by p s.machine _ (then_same s.machine _ _ (port_read_stays s.machine port w) (stepped_same (with_machine s (port_read s.machine port w)) i _ false))
performed_as_routed s p i insn len x (effect.PortOut port w value) = routed_by p s.machine _ (then_same s.machine _ _ (port_written_stays s.machine port w value) (stepped_same (printed (with_machine s (port_written s.machine port w value)) _) i x.ctx false))
performed_as_routed s p i insn len x (effect.Load a) = routed_by p s.machine _ (by_same s.machine _ (stepped_same s i _ false))
performed_as_routed s p i insn len x (effect.Store a value) = routed_same p s.machine _ _ (window_routed s p i a value) (stepped_same (window_written s p i a value) i x.ctx false)

performed_stays : (s : State) (p i : ℕ) (n : Next) → is_routing_next s i n ≡ false → Stays s.machine (performed s p i n).machine
unfolding performed
performed_stays s p i (Local insn len) h = (refl, refl)
performed_stays s p i (Shared insn len) h = let x = exec.shared (cpu_at s.machine i).ctx insn len s.machine.ram in performed_as_stays s p i insn len x x.effect h
performed_stays s p i Undefined h = by_same s.machine _ (trapped_same s i _ 6 None)
performed_stays s p i OutOfCode h = by_same s.machine _ (stopped_same s i _)

performed_routed : (s : State) (p i : ℕ) (n : Next) → Routed p s.machine (performed s p i n).machine
unfolding performed
performed_routed s p i (Local insn len) = routed_by p s.machine _ (refl, refl)
performed_routed s p i (Shared insn len) = let x = exec.shared (cpu_at s.machine i).ctx insn len s.machine.ram in performed_as_routed s p i insn len x x.effect
performed_routed s p i Undefined = routed_by p s.machine _ (by_same s.machine _ (trapped_same s i _ 6 None))
performed_routed s p i OutOfCode = routed_by p s.machine _ (by_same s.machine _ (stopped_same s i _))

pub step_stays : (s : State) (p i : ℕ) → would_route s i ≡ false → ((after_step s p i).machine.meet ≡ s.machine.meet) × (routing_of (after_step s p i).machine ≡ routing_of s.machine)
unfolding after_step would_route
step_stays s p i h = performed_stays s p i (next_at s i) h

pub step_routed : (s : State) (p i : ℕ) → Routed p s.machine (after_step s p i).machine
unfolding after_step
step_routed s p i = performed_routed s p i (next_at s i)
