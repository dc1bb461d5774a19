use Rattle.std.proofs.Common.{◌≡◌, ◌≤◌, Some, ℕ, ◌+◌, List, ◌∷◌, ◌++◌, length, drop}
use Rattle.vm_host.specs.Told.{WhereTold}
use Rattle.vm_host.specs.Crash.{ReadsNow}
use Rattle.vm_host.specs.Leaves.{WritesFile}
use Rattle.ckpt_store.specs.Gate.{KeepsGate}
use Rattle.ckpt_store.proofs.saving.write_rest.Given as goal

abbrev pub invariant-streaming : goal.invariant-streaming
invariant-streaming g l =
    let old = g.H.Host.seen l.fn.host in
    let now = g.H.Host.seen l.host in
    let left = g.P.TextSource.left l.pieces in
    record {
      file : WhereTold old.tells ((f : List ℕ) × (now.file l.name ≡ Some f) × (f ++ left ≡ 0 ∷ drop 1 (g.P.TextSource.left l.fn.pieces)) × (length f ≡ l.at));
      place : l.at + length left ≡ length (g.P.TextSource.left l.fn.pieces);
      some : 1 ≤ l.at;
      faults : now.faults ≡ old.faults;
      misses : now.misses ≡ old.misses;
      failed : now.failed ≡ old.failed;
      made : WhereTold old.tells (now.made ≡ old.made);
      leaves : WritesFile l.name old now;
      crash : WhereTold old.tells (KeepsGate (old.left l.name old.moment) (now.left l.name old.moment));
      reads : WhereTold old.tells (ReadsNow now);
    }

abbrev pub decreases-streaming : goal.decreases-streaming
decreases-streaming g l = length (g.P.TextSource.left l.pieces)
