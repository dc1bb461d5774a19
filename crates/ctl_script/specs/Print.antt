-- What a script is printed as.
use Rattle.std.specs.Prelude.{◌-◌, ◌/◌, ◌%◌, nat_lt, ℕ, Bool, true, false, List, [], ◌∷◌, ◌++◌, length, replicate, codes, decimal}
use Rattle.std.specs.List.{flat_map}
use Rattle.std.specs.Fmt.{digits, digit_glyph}
use Rattle.vm_law.specs.declared.script.Order.{Order}
use Rattle.vm_law.specs.declared.script.Order.TheVariants as order
use Rattle.ctl_script.specs.Numeral.{register_name}

-- 16 hexadecimal digits, with zeros (48) before the number's own
abbrev pub hex16 : ℕ → List ℕ
hex16 n = replicate (16 - length (digits 16 false n)) 48 ++ digits 16 false n

-- a byte as two hexadecimal digits
abbrev pub hex_pair : ℕ → List ℕ
hex_pair b = digit_glyph false (b / 16) ∷ digit_glyph false (b % 16) ∷ []

abbrev pub hex_text : List ℕ → List ℕ
hex_text bytes = flat_map hex_pair bytes

-- an order as one line, without its end
abbrev pub order_text : Order → List ℕ
order_text order.WaitQuiet = codes "wait quiet"
order_text (order.WaitConsole n) = codes "wait console " ++ decimal n
order_text (order.WaitExecuted n) = codes "wait executed " ++ decimal n
order_text (order.Input bytes) = codes "input " ++ hex_text bytes
order_text (order.Nmi cpu) = codes "nmi " ++ decimal cpu
order_text order.Rendezvous = codes "rendezvous"
order_text order.Pause = codes "pause"
order_text order.Resume = codes "resume"
order_text (order.Checkpoint name) = codes "checkpoint " ++ name
order_text (order.Set cpu reg value) = codes "set " ++ decimal cpu ++ codes " " ++ register_name reg ++ codes " 0x" ++ hex16 value
order_text (order.Get cpu reg) = codes "get " ++ decimal cpu ++ codes " " ++ register_name reg
order_text (order.Cancel disk id) = codes "cancel " ++ decimal disk ++ codes " " ++ decimal id
order_text (order.Against name base) = codes "checkpoint " ++ name ++ codes " base " ++ base
order_text (order.Send name) = codes "send " ++ name

-- each order as a line, with its line feed (10)
abbrev pub script_text : List Order → List ℕ
script_text orders = flat_map (λ o. order_text o ++ 10 ∷ []) orders

-- a register that is named is one of the 18
abbrev pub has_registers : Order → Bool
has_registers (order.Set cpu reg value) = nat_lt reg 18
has_registers (order.Get cpu reg) = nat_lt reg 18
has_registers _ = true
