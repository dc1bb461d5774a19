use Rattle.std.proofs.Common.{◌≡◌, ◌+◌, All, vec_len}
use Rattle.vm_state.specs.Requests.{first_worker}
use Rattle.vm_threads.specs.New.{IsFirst, OfBoot}
use Rattle.vm_threads.proofs.making.seat_workers.Given as goal

abbrev pub invariant-loop-disk : goal.invariant-loop-disk
invariant-loop-disk g l = record {
  own : l.pass.turnstile ≡ l.turnstile;
  root : l.pass.view.root ≡ l.initial.pass.view.root;
  first : IsFirst l.pass.view l.pass.view.splits;
  from : OfBoot l.pass.view (λ m. l.pass.view.splits + 1 ≡ first_worker m l.disk);
  count : l.pass.view.splits ≡ l.initial.pass.view.splits + vec_len l.seats;
  seats : All (λ s. s.pass.turnstile ≡ l.turnstile) l.seats.items;
}
