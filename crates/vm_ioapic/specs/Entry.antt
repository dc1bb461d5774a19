-- A redirection table entry. Source: Intel's 82093AA data sheet, section 3.2.4.
use Rattle.std.specs.Prelude.{ℕ, ◌+◌, ◌*◌, ◌/◌, ◌%◌, ◌^◌, Bool, true, false, not, ◌&&◌, ◌==◌, nat_lt, if◌then◌else◌}
use Rattle.std.specs.Int.{bit_at}
use Rattle.vm_law.specs.declared.message.Dest.{Dest}
use Rattle.vm_law.specs.declared.message.Dest.TheVariants.{One, All, AllBut, Nobody}
use Rattle.vm_law.specs.declared.message.Message.{Message}
use Rattle.vm_law.specs.declared.message.Mode.{Mode}
use Rattle.vm_law.specs.declared.message.Mode.TheVariants as law
use Rattle.vm_ioapic.specs.declared.entry.DeliveryMode.{DeliveryMode}
use Rattle.vm_ioapic.specs.declared.entry.DeliveryMode.TheVariants.{Fixed, LowestPriority, Smi, Reserved3, Nmi, Init, Reserved6, ExtInt}
use Rattle.vm_ioapic.specs.declared.entry.Redirection.{Redirection}

-- bit k of a word is 1
abbrev pub bit : ℕ → ℕ → Bool
bit n k = bit_at n k == 1

-- what bit k adds to a word
abbrev pub weight : Bool → ℕ → ℕ
weight b k = if b then 2 ^ k else 0

-- the delivery mode that three bits name
abbrev pub mode_of : ℕ → DeliveryMode
mode_of n =
    if n == 0 then Fixed
    else if n == 1 then LowestPriority
    else if n == 2 then Smi
    else if n == 3 then Reserved3
    else if n == 4 then Nmi
    else if n == 5 then Init
    else if n == 6 then Reserved6
    else ExtInt

abbrev pub mode_number : DeliveryMode → ℕ
mode_number Fixed = 0
mode_number LowestPriority = 1
mode_number Smi = 2
mode_number Reserved3 = 3
mode_number Nmi = 4
mode_number Init = 5
mode_number Reserved6 = 6
mode_number ExtInt = 7

-- the low half of an entry, with its remote IRR; bit 12, the delivery status, is 0
unfoldable pub low_half : Redirection → Bool → ℕ
low_half e remote =
    e.vector
    + 2 ^ 8 * mode_number e.mode
    + weight e.logical 11
    + weight e.active_low 13
    + weight remote 14
    + weight e.level 15
    + weight e.masked 16

-- the high half
abbrev pub high_half : Redirection → ℕ
high_half e = 2 ^ 24 * e.destination

-- an entry whose low half is written: bits 0 to 11, 13, 15 and 16 are kept
unfoldable pub with_low : Redirection → ℕ → Redirection
with_low e word = record e { vector = word % 2 ^ 8; mode = mode_of (word / 2 ^ 8 % 8); logical = bit word 11; active_low = bit word 13; level = bit word 15; masked = bit word 16 }

-- an entry whose high half is written: bits 24 to 31 are kept
unfoldable pub with_high : Redirection → ℕ → Redirection
with_high e word = record e { destination = word / 2 ^ 24 % 2 ^ 8 }

-- an entry at reset is masked, and all else in it is 0
abbrev pub masked_entry : Redirection
masked_entry = record { vector = 0; mode = Fixed; logical = false; active_low = false; level = false; masked = true; destination = 0 }

abbrev pub same : Bool → Bool → Bool
same a b = if a then b else not b

-- whether two entries route differently: all fields count but polarity and mask
unfoldable pub routes : Redirection → Redirection → Bool
routes e f =
    not (e.vector == f.vector
    && mode_number e.mode == mode_number f.mode
    && same e.logical f.logical
    && same e.level f.level
    && e.destination == f.destination)

-- the mode of a message; lowest priority, SMI, INIT and ExtINT aren't built
abbrev pub delivered : DeliveryMode → Mode
delivered Fixed = law.Fixed
delivered Nmi = law.Nmi
delivered _ = law.Dropped

-- whom an entry is for; logical destinations aren't built
abbrev pub destination_of : Redirection → Dest
destination_of e = if e.logical then Nobody else if e.destination == 0xFF then All else One e.destination

-- the message of an entry
unfoldable pub message_of : Redirection → Message
message_of e = record { vector = e.vector; mode = delivered e.mode; dest = destination_of e }

-- a destination holds vCPU number `cpu` of `cpus`; a number without a vCPU is nobody
abbrev pub is_target : Dest → ℕ → ℕ → Bool
is_target (One n) cpu cpus = nat_lt cpu cpus && cpu == n
is_target All cpu cpus = nat_lt cpu cpus
is_target (AllBut n) cpu cpus = nat_lt cpu cpus && not (cpu == n)
is_target Nobody cpu cpus = false
