use Rattle.std.proofs.Common.{◌≡◌, ◌-◌}
use Rattle.byte_reader.specs.Reader.{times}
use Rattle.vm_journal.specs.Reading.{signed_at}
use Rattle.byte_reader.proofs.Repeated.{with_front}
use Rattle.vm_journal.proofs.reading.read_entries.Given as goal

abbrev pub invariant-loop : goal.invariant-loop
invariant-loop l = with_front l.journal.items (times (l.count - l.counter) signed_at l.rest) ≡ times l.count signed_at l.bytes
