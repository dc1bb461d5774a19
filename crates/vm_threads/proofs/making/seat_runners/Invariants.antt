use Rattle.std.proofs.Common.{◌≡◌, All, vec_len}
use Rattle.vm_threads.specs.New.{IsFirst}
use Rattle.vm_threads.proofs.making.seat_runners.Given as goal

abbrev pub invariant-loop-cpu : goal.invariant-loop-cpu
invariant-loop-cpu g l = record {
  own : l.pass.turnstile ≡ l.turnstile;
  root : l.pass.view.root ≡ l.initial.pass.view.root;
  first : IsFirst l.pass.view l.cpu;
  count : vec_len l.seats ≡ l.cpu;
  seats : All (λ s. s.pass.turnstile ≡ l.turnstile) l.seats.items;
}
