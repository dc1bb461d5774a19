-- What a reading of a line answers.
use Rattle.std.specs.Prelude.{◌≡◌, ◌≤◌, Result, Ok, Err, List, ⊤, length}
use Rattle.vm_law.specs.declared.script.Order.{Order}
use Rattle.ctl_script.specs.declared.fault.ScriptKind.{ScriptKind}
use Rattle.ctl_script.specs.declared.fault.Refusal.{Refusal}
use Rattle.ctl_script.specs.declared.fault.Refusal.TheVariants.{Kind, Memory}
use Rattle.ctl_script.specs.declared.reading.Orders.{Orders}
use Rattle.ctl_script.specs.declared.fault.ScriptError.{ScriptError}
use Rattle.ctl_script.specs.declared.fault.ScriptError.TheVariants as error
use Rattle.text_reader.specs.Line.{Fault}
use Rattle.ctl_script.specs.Before.{is_paused}
use Rattle.ctl_script.specs.Script.{input_size}

-- the refusal is that kind of fault; Memory says nothing
abbrev pub Refuses : {X : Type 0} → Refusal → Result X ScriptKind → Type 0
Refuses (Kind kind) read = read ≡ Err kind
Refuses Memory read = ⊤

abbrev pub Answers : {X : Type 0} → Result X Refusal → Result X ScriptKind → Type 0
Answers (Ok x) read = read ≡ Ok x
Answers (Err e) read = Refuses e read

-- the counts are those of the orders
pub record Tells (o : Orders) : Type 0 where
  pub paused : o.paused ≡ is_paused o.orders.items
  pub input : o.input ≡ input_size o.orders.items
  pub few : length o.orders.items ≤ 10000
  pub small : o.input ≤ 65536

abbrev pub Reads : Result Orders Refusal → Result (List Order) ScriptKind → Type 0
Reads (Ok o) read = (read ≡ Ok o.orders.items) × Tells o
Reads (Err e) read = Refuses e read

-- ---- the whole script

-- Ok with the script, or its first fault; Memory says nothing
abbrev pub Stops : ScriptError → Result (List Order) (Fault ScriptKind) → Type 0
Stops (error.Fault line kind) read = read ≡ Err (record { line = line; kind = kind })
Stops error.Memory read = ⊤

abbrev pub Spells : Result (List Order) ScriptError → Result (List Order) (Fault ScriptKind) → Type 0
Spells (Ok script) read = read ≡ Ok script
Spells (Err e) read = Stops e read
