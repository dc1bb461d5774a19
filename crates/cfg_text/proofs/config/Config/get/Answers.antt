use Rattle.std.proofs.Common.{◌≡◌, ◌∙◌, ap, sym, Some, string_bytes, List, ℕ, Option}
use Rattle.std.specs.Prelude.{option_map}
use Rattle.std.specs.Str.{bytes_eq}
use Rattle.std.specs.Map.{lookup}
use Rattle.std.specs.declared.string.String.{String}
use Rattle.std.specs.declared.alloc.Global.{Global}
use Rattle.cfg_text.proofs.Kept.{kept_value}
use Rattle.cfg_text.proofs.config.Config.get.Goals as goal

pub returns-in-Some : goal.returns-in-Some
returns-in-Some c = ap (λ (v : List ℕ). Some v) c.as_str.ensures.value ∙ ap (λ (o : Option (String Global)). option_map (λ v. string_bytes v) o) c.in-Some.ensures.value ∙ sym (kept_value c.self.inside.variables.entries c.args.name.now) ∙ ap (λ (ps : List (List ℕ × List ℕ)). lookup (bytes_eq c.args.name.now) ps) c.self.view_is

pub returns-in-None : goal.returns-in-None
returns-in-None c = ap (λ (o : Option (String Global)). option_map (λ v. string_bytes v) o) c.in-None.ensures.value ∙ sym (kept_value c.self.inside.variables.entries c.args.name.now) ∙ ap (λ (ps : List (List ℕ × List ℕ)). lookup (bytes_eq c.args.name.now) ps) c.self.view_is
