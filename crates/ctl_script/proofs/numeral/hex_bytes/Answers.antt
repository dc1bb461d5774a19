use Rattle.std.proofs.Common.{◌≡◌, ◌++◌, ◌∙◌, sym, subst, List, ℕ}
use Rattle.std.specs.Prelude.{option_map}
use Rattle.ctl_script.specs.Numeral.{hex_bytes}
use Rattle.ctl_script.proofs.Pairs.{pair_more}
use Rattle.ctl_script.proofs.numeral.hex_bytes.Goals as goal

pub loop-pair-preserved : goal.loop-pair-preserved
loop-pair-preserved c =
    subst (λ (bs : List ℕ). option_map (λ more. bs ++ more) (hex_bytes c.in-Some.after.now) ≡ hex_bytes c.args.text.now) (sym (c.in_ok-push.ensures {u = tt}).items)
    (sym (pair_more c.loop-pair.bytes.items c.loop-pair.rest.now c.in-Some.pair.0 c.in-Some.pair.1 c.in-Some-byte_of.byte c.in-Some.after.now c.in-Some.ensures.some c.in-Some-byte_of.ensures) ∙ c.loop-pair.invariant)
