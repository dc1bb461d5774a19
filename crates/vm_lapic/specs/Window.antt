-- The registers of a local APIC's window, each a word of 32 bits: where they stand, what they read and what a write does.
-- Source: Intel SDM volume 3, section 10.4.1, table 10-1.
use Rattle.std.specs.Prelude.{ℕ, ◌+◌, ◌*◌, ◌%◌, ◌^◌, Bool, true, List, [], ◌∷◌, Option, find, ◌==◌, nat_lt}
use Rattle.std.specs.Option.{option_map_or}
use Rattle.vm_vectors.specs.Vectors.{word_of}
use Rattle.vm_lapic.specs.declared.register.Register.{Register}
use Rattle.vm_lapic.specs.declared.register.Register.TheVariants.{Id, Version, Tpr, Ppr, Eoi, Svr, Isr, Tmr, Irr, Esr, IcrLow, IcrHigh, LvtTimer, InitialCount, CurrentCount, DivideConfiguration}
use Rattle.vm_lapic.specs.declared.effect.LapicEffect.{LapicEffect}
use Rattle.vm_lapic.specs.declared.effect.LapicEffect.TheVariants as effect
use Rattle.vm_lapic.specs.Apic.{Apic, ppr, ended, end_effect}
use Rattle.vm_lapic.specs.Command.{message_of, cleared}

-- where a register stands
abbrev pub offset_of : Register → ℕ
offset_of Id = 0x20
offset_of Version = 0x30
offset_of Tpr = 0x80
offset_of Ppr = 0xA0
offset_of Eoi = 0xB0
offset_of Svr = 0xF0
offset_of (Isr k) = 0x100 + 0x10 * k
offset_of (Tmr k) = 0x180 + 0x10 * k
offset_of (Irr k) = 0x200 + 0x10 * k
offset_of Esr = 0x280
offset_of IcrLow = 0x300
offset_of IcrHigh = 0x310
offset_of LvtTimer = 0x320
offset_of InitialCount = 0x380
offset_of CurrentCount = 0x390
offset_of DivideConfiguration = 0x3E0

-- a set of vectors has eight words
abbrev pub is_register : Register → Bool
is_register (Isr k) = nat_lt k 8
is_register (Tmr k) = nat_lt k 8
is_register (Irr k) = nat_lt k 8
is_register _ = true

-- all registers
abbrev pub registers : List Register
registers =
    Id ∷ Version ∷ Tpr ∷ Ppr ∷ Eoi ∷ Svr
    ∷ Isr 0 ∷ Isr 1 ∷ Isr 2 ∷ Isr 3 ∷ Isr 4 ∷ Isr 5 ∷ Isr 6 ∷ Isr 7
    ∷ Tmr 0 ∷ Tmr 1 ∷ Tmr 2 ∷ Tmr 3 ∷ Tmr 4 ∷ Tmr 5 ∷ Tmr 6 ∷ Tmr 7
    ∷ Irr 0 ∷ Irr 1 ∷ Irr 2 ∷ Irr 3 ∷ Irr 4 ∷ Irr 5 ∷ Irr 6 ∷ Irr 7
    ∷ Esr ∷ IcrLow ∷ IcrHigh ∷ LvtTimer ∷ InitialCount ∷ CurrentCount ∷ DivideConfiguration ∷ []

-- the register that stands at an offset
unfoldable pub register_at : ℕ → Option Register
register_at offset = find (λ r. offset_of r == offset) registers

-- what a register reads
unfoldable pub value_of : Apic → Register → ℕ
value_of l Id = l.cpu * 2 ^ 24
value_of l Version = 0x50014
value_of l Tpr = l.tpr
value_of l Ppr = ppr l
value_of l Eoi = 0
value_of l Svr = l.svr
value_of l (Isr k) = word_of l.isr k
value_of l (Tmr k) = word_of l.tmr k
value_of l (Irr k) = word_of l.irr k
value_of l Esr = 0
value_of l IcrLow = l.icr_low
value_of l IcrHigh = l.icr_high
value_of l LvtTimer = l.lvt_timer
value_of l InitialCount = l.timer_initial
value_of l CurrentCount = 0
value_of l DivideConfiguration = l.timer_divide

-- and so an offset; elsewhere 0 is read
unfoldable pub read_of : Apic → ℕ → ℕ
read_of l offset = option_map_or (value_of l) (register_at offset) 0

-- the APIC after a register was written; the others are read-only
unfoldable pub after_write : Apic → ℕ → Register → Apic
after_write l value Tpr = record l { tpr = value % 2 ^ 8 }
after_write l value Eoi = ended l
after_write l value Svr = record l { svr = value }
after_write l value IcrLow = record l { icr_low = cleared value 12 }
after_write l value IcrHigh = record l { icr_high = value }
after_write l value LvtTimer = record l { lvt_timer = value }
after_write l value InitialCount = record l { timer_initial = value }
after_write l value DivideConfiguration = record l { timer_divide = value }
after_write l value _ = l

unfoldable pub written : Apic → ℕ → ℕ → Apic
written l offset value = option_map_or (after_write l value) (register_at offset) l

-- what a write does beyond the APIC
unfoldable pub write_effect : Apic → ℕ → Register → LapicEffect
write_effect l value Eoi = end_effect l
write_effect l value IcrLow = effect.Send (message_of l.cpu value l.icr_high)
write_effect l value _ = effect.Nothing

unfoldable pub effect_of : Apic → ℕ → ℕ → LapicEffect
effect_of l offset value = option_map_or (write_effect l value) (register_at offset) effect.Nothing
