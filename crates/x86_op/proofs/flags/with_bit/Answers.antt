use Rattle.std.proofs.Common.{ap, ◌∙◌, sym, Bool}
use Rattle.x86_alu.specs.Flags.{with_bit}
use Rattle.x86_alu.proofs.Masks.{set_is, clear_is}
use Rattle.x86_op.proofs.flags.with_bit.Goals as goal

pub returns-then-on : goal.returns-then-on
returns-then-on c =
    set_is c.args.flags c.args.place c.requires ∙ ap (λ (b : Bool). with_bit c.args.flags c.args.place b) (sym c.if-on.true)

pub returns-else-on : goal.returns-else-on
returns-else-on c =
    clear_is c.args.flags c.args.place c.ranges.flags.fits c.requires ∙ ap (λ (b : Bool). with_bit c.args.flags c.args.place b) (sym c.if-on.false)
