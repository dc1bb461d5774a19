use Rattle.std.proofs.Common.{◌∙◌, ℕ, ◌%◌, eqb, ap}
use Rattle.std.specs.Int.{bit_at}
use Rattle.vm_devices.proofs.Words.{bit_in_word}
use Rattle.vm_devices.proofs.heard.is_requested.Goals as goal

pub returns : goal.returns
returns c = c.is_set.ensures ∙ ap (λ (w : ℕ). eqb (bit_at w (c.args.vector % 32)) 1) c.irr_word.ensures ∙ bit_in_word c.args.lapic.now.irr c.args.vector
