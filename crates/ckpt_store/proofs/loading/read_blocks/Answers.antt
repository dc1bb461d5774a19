use Rattle.std.proofs.Common.{◌≡◌, length, Some, ℕ, List, take, sym, ◌∙◌, ap, subst, arith}
use Rattle.vm_host.specs.Files.{ReadsFrom}
use Rattle.vm_host.proofs.Frames.{reads_on}
use Rattle.vm_host.proofs.Pieces.{read_more, quiet}
use Rattle.ckpt_store.proofs.loading.read_blocks.Goals as goal

pub reading-preserved : goal.reading-preserved
reading-preserved g c =
    let inv = c.reading.invariant in
    let start = g.H.Host.seen c.args.host.now in
    let before = g.H.Host.seen c.reading.host in
    let after = g.H.Host.seen c.read_at.new.self in
    let none = quiet c.args.name.now before after c.in_ok-count.count c.in_ok-count.ensures.cause in
    let at_is : c.len-at.result ≡ length c.reading.bytes.items = omega arith in
    record {
      so_far = λ told.
          let was = inv.so_far told in
          let here : before.file c.args.name.now ≡ Some was.0 = ap (λ (F : List ℕ → _). F c.args.name.now) (inv.leaves.files told) ∙ was.1 in
          let value = rw here at (c.in_ok-count.ensures.value (inv.leaves.told ∙ told)) in
          let reads = subst (λ (k : ℕ). ReadsFrom was.0 k c.read_at.new.into c.in_ok-count.count) at_is value in
          (was.0, was.1, subst (λ (l : List ℕ). l ≡ take (length l) was.0) (sym c.in_ok-extend_from_slice.ensures.items) (read_more _ _ _ _ was.2 reads));
      faults = none.0 ∙ inv.faults;
      misses = none.1 ∙ inv.misses;
      failed = none.2 ∙ inv.failed;
      leaves = reads_on start before after inv.leaves c.read_at.ensures.leaves;
    }
