use Rattle.std.proofs.Common.{◌≡◌, ◌∙◌, ◌++◌, ◌∷◌, [], List, ap, sym, map}
use Rattle.std.specs.List.{range_with_len}
use Rattle.std.proofs.lemmas.List.{map-append}
use Rattle.serde_json.specs.View.{view}
use Rattle.serde_json.specs.Data.{Data}
use Rattle.vm_state.specs.Machine.{cpu_at}
use Rattle.vm_report.specs.StateText.{cpu_data}
use Rattle.vm_report.proofs.Ranges.{map_more}
use Rattle.vm_report.proofs.state.cpus_value.Goals as goal

pub loop-cpu-preserved : goal.loop-cpu-preserved
loop-cpu-preserved c =
    ap (map view) c.in_ok-push.ensures.items
    ∙ map-append view c.loop-cpu.values.items (c.in_ok-cpu_value.field-0 ∷ [])
    ∙ ap (λ (l : List Data). l ++ view c.in_ok-cpu_value.field-0 ∷ []) c.loop-cpu.invariant
    ∙ ap (λ (d : Data). map (λ i. cpu_data (cpu_at c.args.run.now.state.machine i)) (range_with_len 0 c.loop-cpu.cpu) ++ d ∷ []) (c.in_ok-cpu_value.ensures ∙ ap cpu_data c.cpu.ensures)
    ∙ sym (map_more (λ i. cpu_data (cpu_at c.args.run.now.state.machine i)) c.loop-cpu.cpu)
