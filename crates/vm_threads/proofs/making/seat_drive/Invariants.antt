use Rattle.std.proofs.Common.{◌≡◌, ◌+◌, All, vec_len}
use Rattle.vm_threads.specs.New.{IsFirst}
use Rattle.vm_threads.proofs.making.seat_drive.Given as goal

abbrev pub invariant-loop : goal.invariant-loop
invariant-loop g l = record {
  own : l.pass.turnstile ≡ l.turnstile;
  root : l.pass.view.root ≡ l.initial.pass.view.root;
  first : IsFirst l.pass.view (l.initial.pass.view.splits + l.counter);
  count : vec_len l.seats ≡ vec_len l.initial.seats + l.counter;
  seats : All (λ s. s.pass.turnstile ≡ l.turnstile) l.seats.items;
}
