use Rattle.std.proofs.Common.{◌≡◌, ◌∙◌, ◌++◌, ◌∷◌, [], List, ℕ, ap, rules, string_bytes}
use Rattle.std.proofs.lemmas.Grind.{common_steps}
use Rattle.std.proofs.Common.{arith}
use Rattle.serde_json.specs.Written.{compact_text, has_float}
use Rattle.vm_report.proofs.Plain.{state_plain}
use Rattle.vm_report.proofs.state.state_json.Goals as goal

pub returns : goal.returns
returns c =
    let pushed : string_bytes c.push.new.self ≡ string_bytes c.in_ok-text.text ++ 10 ∷ [] = first_of (search rules, grind (arith, common_steps)) in
    pushed ∙ ap (λ (l : List ℕ). l ++ 10 ∷ []) (c.in_ok-text.ensures.text (ap has_float c.in_ok-value.ensures ∙ state_plain c.args.run.now.state.machine) ∙ ap compact_text c.in_ok-value.ensures)
