use Rattle.std.specs.Prelude.{nat_lt}
use Rattle.std.proofs.Common.{◌∙◌, ◌≡◌, ℕ, Bool, true, false, ap, sym, rules, arith}
use Rattle.std.proofs.lemmas.Grind.{common_steps}
use Rattle.vm_state.specs.Machine.{drive_count}
use Rattle.vm_table.specs.Tally.{tally_of}
use Rattle.vm_outcome.proofs.Ranges.{any_at, none_more}
use Rattle.vm_outcome.proofs.telling.is_in_doubt.Goals as goal

pub returns-then-tally-gt0 : goal.returns-then-tally-gt0
returns-then-tally-gt0 c =
    let p : ℕ → Bool = λ d. nat_lt 0 (tally_of c.args.run.now.state d).doubt in
    let found : p c.loop-disk.disk ≡ true = ap (λ t. nat_lt 0 t.doubt) (sym c.tally.ensures) ∙ first_of (search rules, grind (arith, common_steps)) in
    sym (any_at p (drive_count c.args.run.now.state.machine) c.loop-disk.disk (omega (arith, c.loop-disk-test.true, c.drive_count-disk-end.ensures)) found)

pub loop-disk-preserved : goal.loop-disk-preserved
loop-disk-preserved c =
    let p : ℕ → Bool = λ d. nat_lt 0 (tally_of c.args.run.now.state d).doubt in
    let lacks : p c.loop-disk.disk ≡ false = ap (λ t. nat_lt 0 t.doubt) (sym c.tally.ensures) ∙ first_of (search rules, grind (arith, common_steps)) in
    none_more p c.loop-disk.disk c.loop-disk.invariant lacks
