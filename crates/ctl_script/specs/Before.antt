-- What the orders before say of the next one.
use Rattle.std.specs.Prelude.{◌&&◌, ◌||◌, nat_le, ℕ, Bool, true, false, not, List, [], ◌∷◌, length, fold}
use Rattle.std.specs.List.{list_any}
use Rattle.std.specs.Str.{bytes_eq}
use Rattle.vm_law.specs.declared.script.Order.{Order}
use Rattle.vm_law.specs.declared.script.Order.TheVariants as order

-- whether the machine is paused after an order
abbrev pub paused_after : Bool → Order → Bool
paused_after paused order.WaitQuiet = paused
paused_after paused (order.WaitConsole n) = paused
paused_after paused (order.WaitExecuted n) = paused
paused_after paused (order.Input bytes) = paused
paused_after paused (order.Nmi cpu) = paused
paused_after paused order.Rendezvous = paused
paused_after paused order.Pause = true
paused_after paused order.Resume = false
paused_after paused (order.Checkpoint name) = paused
paused_after paused (order.Set cpu reg value) = paused
paused_after paused (order.Get cpu reg) = paused
paused_after paused (order.Cancel disk id) = paused
paused_after paused (order.Against name base) = paused
paused_after paused (order.Send name) = paused

-- whether the machine is paused after the orders; a script begins unpaused
abbrev pub is_paused : List Order → Bool
is_paused orders = fold paused_after false orders

-- a checkpoint of that name without a base
abbrev pub is_checkpoint : List ℕ → Order → Bool
is_checkpoint name (order.Checkpoint file) = bytes_eq file name
is_checkpoint name _ = false

-- a checkpoint against another base
abbrev pub has_other_base : List ℕ → Order → Bool
has_other_base name (order.Against file base) = not (bytes_eq base name)
has_other_base name _ = false

-- a base has at most 65,535 bytes, is an earlier checkpoint without a base, and is the only base of its script
abbrev pub may_be_base : List Order → List ℕ → Bool
may_be_base before name = nat_le (length name) 65535 && (list_any (is_checkpoint name) before && not (list_any (has_other_base name) before))

abbrev pub sends : List ℕ → Order → Bool
sends name (order.Send stream) = bytes_eq stream name
sends name _ = false

-- one of the orders, which begin paused or not, sends to the stream while paused
abbrev pub is_closed : Bool → List Order → List ℕ → Bool
is_closed paused [] name = false
is_closed paused (o ∷ os) name = (paused && sends name o) || is_closed (paused_after paused o) os name
