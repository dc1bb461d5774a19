use Rattle.std.proofs.Common.{◌≡◌, ◌++◌, length, string_bytes}
use Rattle.std.specs.Str.{IsUtf8}
use Rattle.cfg_text.specs.Lines.{variables_of}
use Rattle.cfg_text.specs.Values.{expanded}
use Rattle.cfg_text.proofs.expand.expand.Given as goal

abbrev pub invariant-loop-before : goal.invariant-loop-before
invariant-loop-before l = record {
  told : string_bytes l.out ++ expanded (variables_of l.variables.entries) l.rest ≡ expanded (variables_of l.variables.entries) l.value;
  text : IsUtf8 l.rest;
}

abbrev pub decreases-loop-before : goal.decreases-loop-before
decreases-loop-before l = length l.rest
