use Rattle.std.proofs.Common.{rules, ◌∙◌, ◌≡◌, sym, ap, map, arith, ◌++◌, ◌∷◌, [], List, ℕ}
use Rattle.std.specs.List.{filter, range_with_len}
use Rattle.std.proofs.lemmas.Grind.{common_steps}
use Rattle.std.proofs.lemmas.List.{map-append}
use Rattle.serde_json.specs.View.{view, items_of}
use Rattle.serde_json.proofs.Views.{view-Array}
use Rattle.serde_json.specs.Data.{Data, array}
use Rattle.vm_vectors.specs.Vectors.{Vectors, has}
use Rattle.vm_report.specs.StateText.{number_data}
use Rattle.vm_report.proofs.Ranges.{chosen_more, chosen_same}
use Rattle.vm_report.proofs.state.vectors_value.Goals as goal
use Rattle.vm_report.proofs.state.vectors_value.Goals.{then-has+in_ok-push, else-has}

pub loop-vector-preserved : goal.loop-vector-preserved
loop-vector-preserved c = elim c.if-has.branch [
  | then-has+in_ok-push w ↦
      let one : view w.from.result ≡ number_data c.loop-vector.vector = first_of (search rules, grind (arith, common_steps)) in
      ap (λ vs. map view vs.items) w.values-is
      ∙ ap (map view) w.in_ok-push.ensures.items
      ∙ map-append view c.loop-vector.values.items (w.from.result ∷ [])
      ∙ ap (λ (l : List Data). l ++ view w.from.result ∷ []) c.loop-vector.invariant
      ∙ ap (λ (d : Data). map number_data (filter (has c.from_bytes-set.result) (range_with_len 0 c.loop-vector.vector)) ++ d ∷ []) one
      ∙ sym (chosen_more number_data (has c.from_bytes-set.result) c.loop-vector.vector (sym w.if-has.ensures))
  | else-has w ↦
      ap (λ vs. map view vs.items) w.values-is
      ∙ c.loop-vector.invariant
      ∙ sym (chosen_same number_data (has c.from_bytes-set.result) c.loop-vector.vector (sym w.if-has.ensures))
]

pub returns : goal.returns
returns c =
    let at : c.loop-vector.vector ≡ 256 = omega (arith, c.loop-vector.auto.vector-end) in
    view-Array c.loop-vector.values
    ∙ ap (λ (l : List Data). array (items_of l)) c.loop-vector.invariant
    ∙ ap (λ (n : ℕ). array (items_of (map number_data (filter (has c.from_bytes-set.result) (range_with_len 0 n))))) at
    ∙ ap (λ (v : Vectors). array (items_of (map number_data (filter (has v) (range_with_len 0 256))))) c.from_bytes-set.ensures.set
