use Rattle.std.proofs.Common.{◌≡◌, true, length}
use Rattle.std.specs.List.{flat_map, list_all, range_with_len}
use Rattle.x86_fetch.specs.Slices.{stepped_by}
use Rattle.vm_table.specs.Rounds.{looked_at}
use Rattle.vm_vcpu.specs.Copies.{is_kept_in}
use Rattle.vm_vcpu.proofs.copies.Copies.are_fetches_kept.Given as goal

abbrev pub invariant-loop-done : goal.invariant-loop-done
invariant-loop-done l =
    (l.self ≡ l.initial.self) × (l.ctx ≡ stepped_by l.initial.self.code l.start l._done)
    × (list_all (is_kept_in l.run.state l.initial.self.versions) (flat_map (looked_at l.initial.self.code l.start) (range_with_len 0 l._done)) ≡ true)
    × (length l.initial.self.versions ≡ length l.run.state.versions)
