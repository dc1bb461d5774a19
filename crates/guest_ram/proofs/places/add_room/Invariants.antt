use Rattle.std.proofs.Common.{length, ◌≤◌}
use Rattle.guest_ram.specs.Pages.{AreZero}
use Rattle.guest_ram.proofs.places.add_room.Given as goal

abbrev pub invariant-loop-count : goal.invariant-loop-count
invariant-loop-count l = record {
  zero : AreZero l.room.items;
  kept : length l.fn.room.items ≤ length l.room.items;
  count : l._count ≤ length l.room.items;
}
