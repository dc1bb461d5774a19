-- A whole script: the orders of its lines, or its first fault.
use Rattle.std.specs.Prelude.{◌&&◌, nat_le, ℕ, Bool, not, List, [], ◌∷◌, ◌++◌, length, map, sum, Option, Some, None, Result, Ok, Err, if◌then◌else◌}
use Rattle.std.specs.Str.{is_utf8}
use Rattle.vm_law.specs.declared.script.Order.{Order}
use Rattle.vm_law.specs.declared.script.Order.TheVariants as order
use Rattle.vm_law.specs.declared.plan.Plan.{Plan}
use Rattle.ctl_script.specs.declared.fault.ScriptKind.{ScriptKind}
use Rattle.ctl_script.specs.declared.fault.ScriptKind.TheVariants as kind
use Rattle.ctl_script.specs.declared.order.Situation.{Situation}
use Rattle.text_reader.specs.Line.{Fault, content, lines, read_lines}
use Rattle.ctl_script.specs.Before.{is_paused}
use Rattle.ctl_script.specs.Order.{order_of, words_of}

-- how many bytes an order joins to the input
abbrev pub input_of : Order → ℕ
input_of (order.Input bytes) = length bytes
input_of _ = 0

-- how many bytes of input the orders have
abbrev pub input_size : List Order → ℕ
input_size orders = sum (map input_of orders)

-- at most 10,000 orders with at most 65,536 bytes of input
abbrev pub is_small : List Order → Bool
is_small orders = nat_le (length orders) 10000 && nat_le (input_size orders) 65536

-- what the plan and the orders before say of the next one
abbrev pub situation : Plan → List Order → Situation
situation p before = record { paused = is_paused before; cpus = p.cpus; disks = length p.disks }

-- the orders after one more
abbrev pub added : List Order → Result Order ScriptKind → Result (List Order) ScriptKind
added before (Err fault) = Err fault
added before (Ok o) = if is_small (before ++ o ∷ []) then Ok (before ++ o ∷ []) else Err kind.Many

-- the orders after a line's text
abbrev pub read_full : Plan → List Order → List ℕ → Result (List Order) ScriptKind
read_full p before text = if not (is_utf8 text) then Err kind.Text else added before (order_of (situation p before) before (words_of text))

-- blank lines and comments are skipped
abbrev pub read_content : Plan → List Order → Option (List ℕ) → Result (List Order) ScriptKind
read_content p before None = Ok before
read_content p before (Some text) = read_full p before text

abbrev pub read_line : Plan → List Order → List ℕ → Result (List Order) ScriptKind
read_line p before line = read_content p before (content line)

abbrev pub at_line : ℕ → Result (List Order) ScriptKind → Result (List Order) (Fault ScriptKind)
at_line n (Ok orders) = Ok orders
at_line n (Err fault) = Err (record { line = n; kind = fault })

abbrev pub line_step : Plan → ℕ → List Order → List ℕ → Result (List Order) (Fault ScriptKind)
line_step p n before line = at_line n (read_line p before line)

-- a script with no order is `wait quiet`
abbrev pub or_wait : List Order → List Order
or_wait [] = order.WaitQuiet ∷ []
or_wait (o ∷ os) = o ∷ os

abbrev pub whole : Result (List Order) (Fault ScriptKind) → Result (List Order) (Fault ScriptKind)
whole (Ok orders) = Ok (or_wait orders)
whole (Err fault) = Err fault

-- the script that the text is for a plan, or its first fault
abbrev pub script_of : Plan → List ℕ → Result (List Order) (Fault ScriptKind)
script_of p bytes = whole (read_lines (line_step p) 1 [] (lines bytes))
