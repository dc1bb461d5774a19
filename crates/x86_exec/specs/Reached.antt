-- Where an access goes, or why it can't be made.
-- Source: Intel SDM volume 3, section 6.15 (general protection), and volume 1, section 3.3.7.1; the Stops are this machine's own.
use Rattle.std.specs.Prelude.{ℕ, ◌+◌, ◌%◌, ◌≤◌, Bool, true, false, ◌&&◌, ◌==◌, List, length, Some, Result, Ok, Err, if◌then◌else◌}
use Rattle.vm_law.specs.Memory.{Memory, read_of}
use Rattle.vm_law.specs.declared.context.Stop.TheVariants as stop
use Rattle.vm_bus.specs.Area.{area_in}
use Rattle.vm_bus.specs.declared.area.Area.{Area}
use Rattle.vm_bus.specs.declared.area.Area.TheVariants as area
use Rattle.x86_exec.specs.declared.effect.Effect.{Effect}
use Rattle.x86_exec.specs.declared.effect.Effect.TheVariants as effect
use Rattle.x86_exec.specs.declared.reached.Place.{Place}
use Rattle.x86_exec.specs.declared.reached.Place.TheVariants as place

-- a device is reached by a plain MOV of 32 bits alone, at an offset that is a multiple of 4
unfoldable pub windowed : Bool → Area → ℕ → Result Place Effect
windowed plain x offset = if plain && (offset % 4 == 0) then Ok (place.Window x) else Err (effect.Stop stop.Device)

-- #GP comes first, then the device windows, then memory
unfoldable pub reached : Bool → Area → Result Place Effect
reached plain area.Noncanonical = Err (effect.Trap 13 (Some 0))
reached plain (area.Lapic offset) = windowed plain (area.Lapic offset) offset
reached plain (area.Ioapic offset) = windowed plain (area.Ioapic offset) offset
reached plain (area.Disk k offset) = windowed plain (area.Disk k offset) offset
reached plain area.Split = Err (effect.Stop stop.Device)
reached plain area.Nothing = Err (effect.Stop stop.Memory)
reached plain area.Code = Ok place.Memory
reached plain area.Ram = Ok place.Memory

-- all of it is in memory
unfoldable pub is_memory : Area → Bool
is_memory area.Code = true
is_memory area.Ram = true
is_memory x = false

-- the bytes of a range, which no window has
unfoldable pub bytes_at : Memory → ℕ → ℕ → Result (List ℕ) Effect
bytes_at mem at len = known (reached false (area_in mem at len)) where
  known : Result Place Effect → Result (List ℕ) Effect
  known (Ok place.Memory) = Ok (read_of mem at len)
  known (Ok (place.Window x)) = Err (effect.Stop stop.Device)
  known (Err e) = Err e

-- what is in memory is all there
abbrev pub IsThere : Memory → ℕ → ℕ → Place → Type 0
IsThere mem at len place.Memory = at + len ≤ length mem.bytes
IsThere mem at len (place.Window x) = Unit {0}
