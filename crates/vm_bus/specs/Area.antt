-- What stands at a range of addresses, said of its bytes.
-- Sources: Intel SDM volume 1, section 3.3.7.1 (canonical addresses), and volume 3, section 10.4.1 (the local APIC's
-- window); Intel 82093AA, section 3.0, and bhyve's vioapic.h (the I/O APIC's window). The eight windows of disks are
-- this machine's own, one after the other, each with the registers of a virtio MMIO device.
use Rattle.std.specs.Prelude.{ℕ, zero, suc, ◌+◌, ◌-◌, ◌*◌, ◌%◌, ◌^◌, ◌<◌, ◌≤◌, List, ◌∷◌, map, find, length, Bool, false, not, ◌&&◌, ◌||◌, nat_lt, nat_le, if◌then◌else◌, Option, unwrap_or}
use Rattle.std.specs.List.{list_any, range_with_len}
use Rattle.std.specs.Option.{option_map}
use Rattle.vm_law.specs.Memory.{Memory}
use Rattle.vm_bus.specs.declared.area.Area.{Area}
use Rattle.vm_bus.specs.declared.area.Area.TheVariants.{Ram, Code, Lapic, Ioapic, Disk, Noncanonical, Split, Nothing}

-- where the byte k of a range is: addresses are counted modulo 2 ^ 64
abbrev pub address_of : ℕ → ℕ → ℕ
address_of addr k = (addr + k) % 2 ^ 64

-- whether one of the bytes of a range is where the test says
unfoldable pub any_byte : (ℕ → Bool) → ℕ → ℕ → Bool
any_byte test addr zero = false
any_byte test addr (suc k) = any_byte test addr k || test (address_of addr k)

-- bits 63 to 47 of an address are all equal
abbrev pub is_canonical : ℕ → Bool
is_canonical a = nat_lt a (2 ^ 47) || nat_le (2 ^ 64 - 2 ^ 47) a

-- a window of 4,096 bytes, and what stands at each offset in it
pub record Window : Type 0 where
  pub base : ℕ
  pub area : ℕ → Area

-- the local APIC's, the I/O APIC's, and those of the disks 0 to 7
abbrev pub disk_window : ℕ → Window
disk_window k = record { base = 0xD0000000 + 4096 * k; area = Disk k }

abbrev pub windows : List Window
windows =
    record { base = 0xFEE00000; area = Lapic }
    ∷ record { base = 0xFEC00000; area = Ioapic }
    ∷ map disk_window (range_with_len 0 8)

abbrev pub is_in : Window → ℕ → Bool
is_in w a = nat_le w.base a && nat_lt a (w.base + 4096)

-- whether a range begins in a window and ends by its end
abbrev pub is_inside : Window → ℕ → ℕ → Bool
is_inside w addr len = is_in w addr && nat_le (addr + len) (w.base + 4096)

-- what stands at a range inside a window
unfoldable pub window_of : ℕ → ℕ → Option Area
window_of addr len = option_map (λ w. w.area (addr - w.base)) (find (λ w. is_inside w addr len) windows)

-- whether an address is in some window
unfoldable pub is_device : ℕ → Bool
is_device a = list_any (λ w. is_in w a) windows

-- what stands at a range that is in no window: RAM, which begins with the code, or nothing
unfoldable pub memory_of : ℕ → ℕ → ℕ → ℕ → Area
memory_of addr len code ram =
    if any_byte (λ a. nat_le ram a) addr len then Nothing
    else if any_byte (λ a. nat_lt a code) addr len then Code
    else Ram

unfoldable pub area_of : ℕ → ℕ → ℕ → ℕ → Area
area_of addr len code ram =
    if any_byte (λ a. not (is_canonical a)) addr len then Noncanonical
    else unwrap_or (window_of addr len) (if any_byte is_device addr len then Split else memory_of addr len code ram)

-- the same of a range of a memory
abbrev pub area_in : Memory → ℕ → ℕ → Area
area_in mem addr len = area_of addr len mem.code (length mem.bytes)

-- where the range is, as numbers, by what stands there
abbrev pub IsWithin : ℕ → ℕ → ℕ → ℕ → Area → Type 0
IsWithin addr len code ram Ram = 0 < len → (code ≤ addr) × (addr + len ≤ ram)
IsWithin addr len code ram Code = 0 < len → addr + len ≤ ram
IsWithin addr len code ram (Lapic offset) = offset + len ≤ 4096
IsWithin addr len code ram (Ioapic offset) = offset + len ≤ 4096
IsWithin addr len code ram (Disk k offset) = (k < 8) × (offset + len ≤ 4096)
IsWithin addr len code ram Noncanonical = Unit {0}
IsWithin addr len code ram Split = 0 < len
IsWithin addr len code ram Nothing = 0 < len
