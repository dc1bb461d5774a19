use Rattle.std.proofs.Common.{◌≡◌, ◌++◌, drop, string_bytes, true}
use Rattle.std.specs.List.{list_all}
use Rattle.ctl_script.specs.Print.{script_text, has_registers}
use Rattle.ctl_script.proofs.printing.print.Given as goal

abbrev pub invariant-loop-order : goal.invariant-loop-order
invariant-loop-order l = record {
  told : string_bytes l.text ++ script_text (drop l.order-index l.orders) ≡ script_text l.orders;
  registers : list_all has_registers (drop l.order-index l.orders) ≡ true;
}
