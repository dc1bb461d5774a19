-- What stands at an offset of the window. Source: Intel's 82093AA data sheet, section 3.1 and 3.2.
use Rattle.std.specs.Prelude.{ℕ, ◌-◌, ◌/◌, ◌%◌, ◌<◌, ◌&&◌, ◌==◌, nat_lt, nat_le, if◌then◌else◌}
use Rattle.vm_ioapic.specs.declared.register.Register.{Register}
use Rattle.vm_ioapic.specs.declared.register.Register.TheVariants.{Select, Id, Version, Low, High, Nothing}

-- the register of an index: the halves of entry n are at 0x10 + 2n and 0x11 + 2n, n below 32
abbrev pub indexed : ℕ → Register
indexed index =
    if index == 0 then Id
    else if index == 1 then Version
    else if nat_le 0x10 index && nat_lt index 0x50 then
    (if index % 2 == 0 then Low ((index - 0x10) / 2) else High ((index - 0x10) / 2))
    else Nothing

-- the index that is selected shows at offset 0x10
unfoldable pub register_at : ℕ → ℕ → Register
register_at select offset =
    if offset == 0 then Select else if offset == 0x10 then indexed select else Nothing

-- a half of an entry is that of one of the 32 pins
abbrev pub HasPin : Register → Type 0
HasPin (Low n) = n < 32
HasPin (High n) = n < 32
HasPin _ = Unit {0}
