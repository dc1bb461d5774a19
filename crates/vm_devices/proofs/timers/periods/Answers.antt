use Rattle.std.proofs.Common.{◌≡◌, ◌<◌, ◌^◌, ◌∙◌, ℕ, get_or, set, ap, arith}
use Rattle.std.proofs.Math.ListN.{length-set}
use Rattle.std.proofs.lemmas.List.Edits.{fill_by_more}
use Rattle.std.proofs.lemmas.List.Elements.{All-set}
use Rattle.std.proofs.lemmas.List.FromFn.{fill_by_all}
use Rattle.vm_state.specs.Machine.{cpu_at}
use Rattle.vm_devices.specs.Timers.{period_of, periods_of}
use Rattle.vm_devices.proofs.timers.periods.Goals as goal

pub loop-i-preserved : goal.loop-i-preserved
loop-i-preserved c =
    let inv = c.loop-i.invariant in
    let rest = λ (k : ℕ). period_of (cpu_at c.args.machine.now.state k).lapic in
    let this : c.period_at.result ≡ rest c.loop-i.i = c.period_at.ensures.value in
    record {
      each = λ k l. ap (λ (v : ℕ). get_or (set c.loop-i.periods c.loop-i.i v) k 0) this ∙ fill_by_more rest c.loop-i.periods c.loop-i.i 0 (omega arith) inv.each k l;
      small = All-set (λ r. r < 2 ^ 40) c.loop-i.periods c.loop-i.i c.period_at.result c.period_at.ensures.small inv.small;
      long = length-set _ _ _ ∙ inv.long;
    }

pub returns-clause-value : goal.returns-clause-value
unfolding periods_of
returns-clause-value c =
    let inv = c.loop-i.invariant in
    fill_by_all (λ (k : ℕ). period_of (cpu_at c.args.machine.now.state k).lapic) c.loop-i.periods 16 0 inv.long (λ k l. inv.each k (omega arith))
