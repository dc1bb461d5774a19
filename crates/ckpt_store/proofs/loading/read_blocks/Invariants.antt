use Rattle.std.proofs.Common.{◌≡◌, ℕ, ◌+◌, ◌-◌, List, Some, length, take}
use Rattle.vm_host.specs.Told.{WhereTold}
use Rattle.vm_host.specs.Leaves.{ReadsHost}
use Rattle.ckpt_store.proofs.loading.read_blocks.Given as goal

abbrev pub invariant-reading : goal.invariant-reading
invariant-reading g l =
    let old = g.H.Host.seen l.initial.host in
    let now = g.H.Host.seen l.host in
    record {
      so_far : WhereTold old.tells ((f : List ℕ) × (old.file l.name ≡ Some f) × (l.bytes.items ≡ take (length l.bytes.items) f));
      faults : now.faults ≡ old.faults;
      misses : now.misses ≡ old.misses;
      failed : now.failed ≡ old.failed;
      leaves : ReadsHost old now;
    }

abbrev pub decreases-reading : goal.decreases-reading
decreases-reading g l = l.most + 1 - length l.bytes.items
