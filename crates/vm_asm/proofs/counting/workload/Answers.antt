use Rattle.std.proofs.Common.{◌≡◌, ◌∙◌, ◌<◌, ◌^◌, ℕ, List, length, sym, subst}
use Rattle.vm_asm.specs.Workload.{workload_text}
use Rattle.vm_asm.proofs.Shortness.{text_short}
use Rattle.vm_asm.proofs.counting.workload.Goals as goal

pub assemble-requires : goal.assemble-requires
assemble-requires c =
    let text : c.as_bytes.result.now ≡ workload_text c.args.counts.now = c.as_bytes.ensures.value ∙ c.as_str.ensures.value ∙ c.in_ok-text.ensures in
    subst (λ (t : List ℕ). length t < 2 ^ 32) (sym text) (text_short c.args.counts.now c.requires.few c.type_inv.counts)
