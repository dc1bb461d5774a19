use Rattle.std.proofs.Common.{sym}
use Rattle.std.specs.Prelude.{slice_index}
use Rattle.vm_table.specs.Rounds.{pages_looked}
use Rattle.vm_vcpu.specs.Copies.{is_kept_in}
use Rattle.vm_vcpu.proofs.Fetches.{all_true, same_test}
use Rattle.vm_vcpu.proofs.copies.Copies.are_kept.Goals as goal

pub returns-then-are_all_kept-clause-kept : goal.returns-then-are_all_kept-clause-kept
returns-then-are_all_kept-clause-kept c =
    let v = c.args.self.now in
    let s = c.args.run.now.state in
    sym (all_true (is_kept_in s v.versions) (pages_looked v.code c.args.start.now c.args.count c.args.granted)
    (λ page. same_test (slice_index s.versions page) (slice_index v.versions page) (c.are_all_kept.ensures c.if-are_all_kept.true page)))
