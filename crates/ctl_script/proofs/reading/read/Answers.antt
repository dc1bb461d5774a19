use Rattle.std.proofs.Common.{◌≡◌, List, true}
use Rattle.std.specs.Prelude.{IfOk, Result, Ok, Err}
use Rattle.std.specs.List.{list_all}
use Rattle.vm_law.specs.declared.script.Order.{Order}
use Rattle.ctl_script.specs.declared.fault.ScriptError.{ScriptError}
use Rattle.ctl_script.specs.Script.{script_of}
use Rattle.ctl_script.specs.Answers.{Spells}
use Rattle.ctl_script.specs.Print.{has_registers}
use Rattle.ctl_script.proofs.Orders.{script_named}
use Rattle.ctl_script.proofs.reading.read.Goals as goal

pub returns-clause-registers : goal.returns-clause-registers
returns-clause-registers c = go c.script.result c.script.ensures
  where
    go : (r : Result (List Order) ScriptError) → Spells r (script_of c.args.plan.now c.args.bytes.now) → IfOk r (λ script. list_all has_registers script ≡ true)
    go (Ok script) h = script_named c.args.plan.now c.args.bytes.now script h
    go (Err e) h = tt
