-- A delivery leaves the code: its frame is in RAM above it.
use Rattle.std.specs.Prelude.{nat_lt, unwrap_or, find, if◌then◌else◌}
use Rattle.std.proofs.Common.{◌≡◌, ℕ, zero, suc, ◌+◌, ◌-◌, ◌*◌, ◌%◌, ◌^◌, ◌<◌, ◌≤◌, Bool, true, false, not, cond, List, [], ◌∷◌, length, map, Option, Some, None, refl, sym, subst, ◌∙◌, arith}
use Rattle.std.specs.List.{range_with_len}
use Rattle.std.specs.Option.{option_map}
use Rattle.std.proofs.lemmas.Bool.{true≢false}
use Rattle.std.proofs.lemmas.Bool.Decides.{nat_tests}
use Rattle.std.proofs.lemmas.Grind.{common_steps}
use Rattle.byteorder.specs.Numbers.{length-bytes_low_first}
use Rattle.vm_law.specs.Memory.{Memory, code_of, written}
use Rattle.vm_law.specs.declared.context.Ctx.{Ctx}
use Rattle.vm_bus.specs.declared.area.Area.{Area}
use Rattle.vm_bus.specs.declared.area.Area.TheVariants as area
use Rattle.vm_bus.specs.Area.{any_byte, address_of, is_canonical, is_device, is_inside, Window, disk_window, window_of, memory_of, area_of, area_in}
use Rattle.vm_bus.proofs.Inside.{IsPlaced, area_placed}
use Rattle.x86_trap.specs.Gate.{gate_of}
use Rattle.x86_trap.specs.Frame.{is_ram, frame_words, frame_of, frame_address, has_room}
use Rattle.x86_trap.specs.Delivery.{Delivered, delivered, through}
use Rattle.x86_trap.proofs.Frames.{code_written}

-- ---- RAM is above the code

no_byte : (test : ℕ → Bool) (at len k : ℕ) → k < len → any_byte test at len ≡ false → test (address_of at k) ≡ false
unfolding any_byte
no_byte test at zero k l h = absurd (omega arith)
no_byte test at (suc n) k l h = grind (arith, common_steps, no_byte test at n k)

abbrev Above : ℕ → ℕ → Area → Type 0
Above at code x = is_ram x ≡ true → code ≤ at

above_code : (at len code : ℕ) → at < 2 ^ 64 → 0 < len → any_byte (λ a. nat_lt a code) at len ≡ false → code ≤ at
above_code at len code fits some none =
    let z : nat_lt (at % 2 ^ 64) code ≡ false = subst (λ (a : ℕ). nat_lt (a % 2 ^ 64) code ≡ false) (omega arith) (no_byte (λ a. nat_lt a code) at len 0 some none) in
    grind (arith, nat_tests)

memory_above : (at len code : ℕ) (b d : Bool) → at < 2 ^ 64 → 0 < len → any_byte (λ a. nat_lt a code) at len ≡ d → Above at code (if b then area.Nothing else (if d then area.Code else area.Ram))
memory_above at len code true d fits some e = λ h. absurd (true≢false (sym h))
memory_above at len code false true fits some e = λ h. absurd (true≢false (sym h))
memory_above at len code false false fits some e = λ h. above_code at len code fits some e

memory_of_above : (at len code ram : ℕ) → at < 2 ^ 64 → 0 < len → Above at code (memory_of at len code ram)
unfolding memory_of
memory_of_above at len code ram fits some = memory_above at len code _ _ fits some refl

-- a window is no RAM
abbrev NoRam : Option Area → Type 0
NoRam None = Unit {0}
NoRam (Some x) = is_ram x ≡ false

found_next : (at len : ℕ) (w : Window) (ws : List Window) → ((k : ℕ) → is_ram (w.area k) ≡ false)
    → NoRam (option_map (λ v. v.area (at - v.base)) (find (λ v. is_inside v at len) ws))
    → NoRam (option_map (λ v. v.area (at - v.base)) (find (λ v. is_inside v at len) (w ∷ ws)))
found_next at len w ws here rest =
    elim (is_inside w at len) as (λ b. NoRam (option_map (λ v. v.area (at - v.base)) (cond b (Some w) (find (λ v. is_inside v at len) ws))))
    [ true ↦ here (at - w.base) | false ↦ rest ]

disks_no_ram : (at len : ℕ) (ks : List ℕ) → NoRam (option_map (λ v. v.area (at - v.base)) (find (λ v. is_inside v at len) (map disk_window ks)))
disks_no_ram at len [] = tt
disks_no_ram at len (k ∷ ks) = found_next at len (disk_window k) (map disk_window ks) (λ o. refl) (disks_no_ram at len ks)

window_no_ram : (at len : ℕ) → NoRam (window_of at len)
unfolding window_of
window_no_ram at len =
    let lapic : Window = record { base = 0xFEE00000; area = area.Lapic } in
    let ioapic : Window = record { base = 0xFEC00000; area = area.Ioapic } in
    let disks : List Window = map disk_window (range_with_len 0 8) in
    found_next at len lapic (ioapic ∷ disks) (λ o. refl)
    (found_next at len ioapic disks (λ o. refl) (disks_no_ram at len (range_with_len 0 8)))

or_above : (at code : ℕ) (x : Option Area) (y : Area) → NoRam x → Above at code y → Above at code (unwrap_or x y)
or_above at code None y p q = q
or_above at code (Some x) y p q = λ h. absurd (true≢false (sym h ∙ p))

chosen : (P : Area → Type 0) (b : Bool) (x y : Area) → P x → P y → P (if b then x else y)
chosen P true x y p q = p
chosen P false x y p q = q

area_above : (at len code ram : ℕ) → at < 2 ^ 64 → 0 < len → Above at code (area_of at len code ram)
unfolding area_of
area_above at len code ram fits some =
    chosen (Above at code) (any_byte (λ a. not (is_canonical a)) at len) area.Noncanonical _ (λ h. absurd (true≢false (sym h)))
    (or_above at code (window_of at len) _ (window_no_ram at len)
    (chosen (Above at code) (any_byte is_device at len) area.Split (memory_of at len code ram) (λ h. absurd (true≢false (sym h))) (memory_of_above at len code ram fits some)))

ram_placed : (at len ram : ℕ) (x : Area) → IsPlaced at len ram x → is_ram x ≡ true → at + len ≤ ram
ram_placed at len ram area.Ram p h = p
ram_placed at len ram area.Code p h = absurd (true≢false (sym h))
ram_placed at len ram (area.Lapic offset) p h = absurd (true≢false (sym h))
ram_placed at len ram (area.Ioapic offset) p h = absurd (true≢false (sym h))
ram_placed at len ram (area.Disk k offset) p h = absurd (true≢false (sym h))
ram_placed at len ram area.Noncanonical p h = absurd (true≢false (sym h))
ram_placed at len ram area.Split p h = absurd (true≢false (sym h))
ram_placed at len ram area.Nothing p h = absurd (true≢false (sym h))

-- ---- the frame

frame_length : (c : Ctx) (error : Option ℕ) → length (frame_of c error) ≡ 8 * length (frame_words c error)
unfolding frame_of
frame_length c None = grind (arith, common_steps, length-bytes_low_first)
frame_length c (Some e) = grind (arith, common_steps, length-bytes_low_first)

some_words : (c : Ctx) (error : Option ℕ) → (0 < 8 * length (frame_words c error)) × (8 * length (frame_words c error) ≤ 2 ^ 64)
some_words c None = (omega arith, omega arith)
some_words c (Some e) = (omega arith, omega arith)

frame_fits : (c : Ctx) (error : Option ℕ) → frame_address c error < 2 ^ 64
unfolding frame_address
frame_fits c error = omega arith

abbrev SameCode : Memory → Memory → Type 0
SameCode mem new = code_of new ≡ code_of mem

framed : (c : Ctx) (mem : Memory) (error : Option ℕ) → length mem.bytes < 2 ^ 64 → has_room c mem error ≡ true → SameCode mem (written mem (frame_address c error) (frame_of c error))
unfolding has_room
framed c mem error size room =
    let at = frame_address c error in
    let len = 8 * length (frame_words c error) in
    let fits = frame_fits c error in
    let some = some_words c error in
    let long = frame_length c error in
    let above : mem.code ≤ at = area_above at len mem.code (length mem.bytes) fits some.0 room in
    let inside : at + len ≤ length mem.bytes = ram_placed at len (length mem.bytes) (area_in mem at len) (area_placed at len mem.code (length mem.bytes) fits some.1 size some.0) room in
    code_written mem at (frame_of c error) above (omega (arith, inside, long))

through_if : (c : Ctx) (mem : Memory) (error : Option ℕ) (d e : Delivered) (b : Bool) → SameCode mem e.memory → (b ≡ true → SameCode mem d.memory) → SameCode mem (if b then d else e).memory
through_if c mem error d e true p q = q refl
through_if c mem error d e false p q = p

through_same : (c : Ctx) (mem : Memory) (v : ℕ) (error : Option ℕ) (nmi : Bool) (g : _) → length mem.bytes < 2 ^ 64 → SameCode mem (through c mem v error nmi g).memory
unfolding through
through_same c mem v error nmi None size = refl
through_same c mem v error nmi (Some gate) size = through_if c mem error _ _ (has_room c mem error) refl (λ room. framed c mem error size room)

pub delivered_code : (c : Ctx) (mem : Memory) (v : ℕ) (error : Option ℕ) (nmi : Bool) → length mem.bytes < 2 ^ 64 → code_of (delivered c mem v error nmi).memory ≡ code_of mem
unfolding delivered
delivered_code c mem v error nmi size = through_same c mem v error nmi (gate_of c mem v) size
