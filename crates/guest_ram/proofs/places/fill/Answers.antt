use Rattle.std.proofs.Common.{◌∙◌, arith}
use Rattle.guest_ram.proofs.Loaded.{fill_more}
use Rattle.guest_ram.proofs.places.fill.Goals as goal

pub loop-number-preserved : goal.loop-number-preserved
loop-number-preserved c =
    c.in_ok-push.ensures.items ∙ fill_more c.args.places.now.items c.loop-number.places.items c.loop-number._number (omega arith) c.loop-number.invariant
