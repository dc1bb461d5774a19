use Rattle.std.proofs.Common.{◌∙◌, ap, sym, Option, []}
use Rattle.std.specs.Prelude.{unwrap_or, option_map}
use Rattle.cfg_text.specs.declared.expand.Written.{Written}
use Rattle.cfg_text.proofs.Steps.{looked_up}
use Rattle.cfg_text.proofs.expand.value_of.Goals as goal

pub returns-in-Some : goal.returns-in-Some
returns-in-Some c = sym (looked_up c.args.variables.now.entries c.args.name.now ∙ ap (λ (o : Option Written). unwrap_or (option_map (λ w. w.value.now) o) []) (sym c.in-Some.ensures.value))

pub returns-in-None : goal.returns-in-None
returns-in-None c = sym (looked_up c.args.variables.now.entries c.args.name.now ∙ ap (λ (o : Option Written). unwrap_or (option_map (λ w. w.value.now) o) []) (sym c.in-None.ensures.value))
