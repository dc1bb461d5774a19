-- The interrupt command register: the message that a write of its low half sends.
-- Source: Intel SDM volume 3, section 10.6.1, figure 10-12.
use Rattle.std.specs.Prelude.{ℕ, Bool, ◌*◌, ◌/◌, ◌%◌, ◌^◌, ◌-◌, ◌==◌, if◌then◌else◌}
use Rattle.std.specs.Int.{bit_at}
use Rattle.vm_law.specs.declared.message.Message.{Message}
use Rattle.vm_law.specs.declared.message.Mode.{Mode}
use Rattle.vm_law.specs.declared.message.Mode.TheVariants.{Fixed, Nmi, Startup, Dropped}
use Rattle.vm_law.specs.declared.message.Dest.{Dest}
use Rattle.vm_law.specs.declared.message.Dest.TheVariants.{One, All, AllBut, Nobody}

-- n bits of a number, from bit k on
abbrev pub field : ℕ → ℕ → ℕ → ℕ
field number k n = number / 2 ^ k % 2 ^ n

-- the delivery mode, bits 8 to 10; modes that aren't built are dropped
abbrev pub mode_of : ℕ → Mode
mode_of code = if code == 0 then Fixed else (if code == 4 then Nmi else (if code == 6 then Startup else Dropped))

-- a destination without shorthand: 0xFF is everybody; nobody is reached by a logical one
abbrev pub destination : Bool → ℕ → Dest
destination logical number = if logical then Nobody else (if number == 0xFF then All else One number)

-- the shorthand, bits 18 to 19: none, self, all, all but self
abbrev pub addressed : ℕ → ℕ → Dest → Dest
addressed cpu shorthand dest = if shorthand == 0 then dest else (if shorthand == 1 then One cpu else (if shorthand == 2 then All else AllBut cpu))

-- the message of vCPU cpu, by the halves of its command register
unfoldable pub message_of : ℕ → ℕ → ℕ → Message
message_of cpu low high = record {
  vector = field low 0 8;
  mode = mode_of (field low 8 3);
  dest = addressed cpu (field low 18 2) (destination (field low 11 1 == 1) (field high 24 8));
}

-- a number with bit k cleared
abbrev pub cleared : ℕ → ℕ → ℕ
cleared number k = number - bit_at number k * 2 ^ k
