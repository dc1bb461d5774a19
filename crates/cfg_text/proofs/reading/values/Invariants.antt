use Rattle.std.proofs.Common.{◌≡◌, ◌≤◌, ◌+◌, ◌++◌, length}
use Rattle.indexmap.specs.IndexMap.{index_map_len}
use Rattle.cfg_text.specs.Lines.{variables_of}
use Rattle.cfg_text.specs.Config.{pairs_of}
use Rattle.cfg_text.specs.Values.{first_beyond, values_of}
use Rattle.cfg_text.proofs.reading.values.Given as goal

abbrev pub invariant-loop-name : goal.invariant-loop-name
invariant-loop-name l = record {
  told : first_beyond (variables_of l.variables.entries) l.total (variables_of l.name-iterator) ≡ first_beyond (variables_of l.variables.entries) 0 (variables_of l.variables.entries);
  so_far : pairs_of l.expanded.entries ++ values_of (variables_of l.variables.entries) (variables_of l.name-iterator) ≡ values_of (variables_of l.variables.entries) (variables_of l.variables.entries);
  within : l.total ≤ 16777216;
  few : length (pairs_of l.expanded.entries) + length l.name-iterator ≤ index_map_len l.variables;
}
