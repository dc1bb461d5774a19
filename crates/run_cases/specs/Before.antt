-- What the orders before an order have come to, as code keeps it.
use Rattle.vm_state.specs.Script.{Past}
use Rattle.run_cases.specs.declared.allowed.Before.{Before}

abbrev pub past_of : Before → Past
past_of b = record {
  paused = b.paused;
  checkpoints = b.checkpoints.items;
  others = b.others.items;
  base = b.base;
  streams = b.streams.items;
  shut = b.shut.items;
  input = b.input;
}
