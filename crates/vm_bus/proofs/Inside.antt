-- Where a range is, by what stands there: one in memory, or in the code, ends inside it.
use Rattle.std.specs.Prelude.{nat_lt, nat_le, unwrap_or, find}
use Rattle.std.proofs.Common.{◌≡◌, ℕ, zero, suc, ◌+◌, ◌-◌, ◌^◌, ◌<◌, ◌≤◌, Bool, true, false, not, ◌||◌, cond, List, [], ◌∷◌, map, Option, Some, None, if◌then◌else◌, refl, sym, ◌∙◌, arith}
use Rattle.std.specs.List.{range_with_len}
use Rattle.std.specs.Option.{option_map}
use Rattle.std.proofs.lemmas.Bool.Decides.{nat_tests}
use Rattle.vm_bus.specs.declared.area.Area.{Area}
use Rattle.vm_bus.specs.declared.area.Area.TheVariants as area
use Rattle.vm_bus.specs.Area.{any_byte, address_of, is_canonical, is_device, is_inside, Window, disk_window, window_of, memory_of, area_of, IsWithin}
use Rattle.vm_bus.proofs.Ranges.{meets, any_byte-between, outside_ram}

-- a range of some bytes, against the end of memory
abbrev pub IsPlaced : ℕ → ℕ → ℕ → Area → Type 0
IsPlaced at len ram area.Ram = at + len ≤ ram
IsPlaced at len ram area.Code = at + len ≤ ram
IsPlaced at len ram (area.Lapic offset) = Unit {0}
IsPlaced at len ram (area.Ioapic offset) = Unit {0}
IsPlaced at len ram (area.Disk k offset) = Unit {0}
IsPlaced at len ram area.Noncanonical = Unit {0}
IsPlaced at len ram area.Split = Unit {0}
IsPlaced at len ram area.Nothing = Unit {0}

pub placed-within : (at len code ram : ℕ) (x : Area) → 0 < len → IsWithin at len code ram x → IsPlaced at len ram x
placed-within at len code ram area.Ram some within = (within some).1
placed-within at len code ram area.Code some within = within some
placed-within at len code ram (area.Lapic offset) some within = tt
placed-within at len code ram (area.Ioapic offset) some within = tt
placed-within at len code ram (area.Disk k offset) some within = tt
placed-within at len code ram area.Noncanonical some within = tt
placed-within at len code ram area.Split some within = tt
placed-within at len code ram area.Nothing some within = tt

ends_in_ram : (at len ram : ℕ) → at < 2 ^ 64 → len ≤ 2 ^ 64 → ram < 2 ^ 64 → 0 < len → any_byte (λ a. nat_le ram a) at len ≡ false → at + len ≤ ram
ends_in_ram at len ram fits short size some none =
    let e : meets at len ram 0xFFFFFFFFFFFFFFFF ≡ false = sym (any_byte-between at len ram 0xFFFFFFFFFFFFFFFF fits short (omega arith) (omega arith)) ∙ sym (outside_ram at len ram) ∙ none in
    grind (arith, nat_tests)

memory_placed : (at len ram : ℕ) (b d : Bool) → at < 2 ^ 64 → len ≤ 2 ^ 64 → ram < 2 ^ 64 → 0 < len
    → any_byte (λ a. nat_le ram a) at len ≡ b → IsPlaced at len ram (if b then area.Nothing else (if d then area.Code else area.Ram))
memory_placed at len ram true d fits short size some e = tt
memory_placed at len ram false true fits short size some e = ends_in_ram at len ram fits short size some e
memory_placed at len ram false false fits short size some e = ends_in_ram at len ram fits short size some e

memory_of_placed : (at len code ram : ℕ) → at < 2 ^ 64 → len ≤ 2 ^ 64 → ram < 2 ^ 64 → 0 < len → IsPlaced at len ram (memory_of at len code ram)
unfolding memory_of
memory_of_placed at len code ram fits short size some = memory_placed at len ram _ _ fits short size some refl

OrPlaced : ℕ → ℕ → ℕ → Option Area → Type 0
OrPlaced at len ram None = Unit {0}
OrPlaced at len ram (Some x) = IsPlaced at len ram x

-- the window that is found, if its area is placed wherever it is
found_next : (at len ram : ℕ) (w : Window) (ws : List Window) → ((k : ℕ) → IsPlaced at len ram (w.area k))
    → OrPlaced at len ram (option_map (λ v. v.area (at - v.base)) (find (λ v. is_inside v at len) ws))
    → OrPlaced at len ram (option_map (λ v. v.area (at - v.base)) (find (λ v. is_inside v at len) (w ∷ ws)))
unfolding OrPlaced
found_next at len ram w ws here rest =
    elim (is_inside w at len) as (λ b. OrPlaced at len ram (option_map (λ v. v.area (at - v.base)) (cond b (Some w) (find (λ v. is_inside v at len) ws))))
    [ true ↦ here (at - w.base) | false ↦ rest ]

disks_placed : (at len ram : ℕ) (ks : List ℕ) → OrPlaced at len ram (option_map (λ v. v.area (at - v.base)) (find (λ v. is_inside v at len) (map disk_window ks)))
unfolding OrPlaced
disks_placed at len ram [] = tt
disks_placed at len ram (k ∷ ks) = found_next at len ram (disk_window k) (map disk_window ks) (λ o. tt) (disks_placed at len ram ks)

window_placed : (at len ram : ℕ) → OrPlaced at len ram (window_of at len)
unfolding window_of
window_placed at len ram =
    let lapic : Window = record { base = 0xFEE00000; area = area.Lapic } in
    let ioapic : Window = record { base = 0xFEC00000; area = area.Ioapic } in
    let disks : List Window = map disk_window (range_with_len 0 8) in
    found_next at len ram lapic (ioapic ∷ disks) (λ o. tt)
    (found_next at len ram ioapic disks (λ o. tt) (disks_placed at len ram (range_with_len 0 8)))

or_placed : (at len ram : ℕ) (x : Option Area) (y : Area) → OrPlaced at len ram x → IsPlaced at len ram y → IsPlaced at len ram (unwrap_or x y)
unfolding OrPlaced
or_placed at len ram None y p q = q
or_placed at len ram (Some x) y p q = p

chosen : (P : Area → Type 0) (b : Bool) (x y : Area) → P x → P y → P (if b then x else y)
chosen P true x y p q = p
chosen P false x y p q = q

pub area_placed : (at len code ram : ℕ) → at < 2 ^ 64 → len ≤ 2 ^ 64 → ram < 2 ^ 64 → 0 < len → IsPlaced at len ram (area_of at len code ram)
unfolding area_of
area_placed at len code ram fits short size some =
    let rest = chosen (IsPlaced at len ram) (any_byte is_device at len) area.Split (memory_of at len code ram) tt (memory_of_placed at len code ram fits short size some) in
    chosen (IsPlaced at len ram) (any_byte (λ a. not (is_canonical a)) at len) area.Noncanonical _ tt
    (or_placed at len ram (window_of at len) _ (window_placed at len ram) rest)
