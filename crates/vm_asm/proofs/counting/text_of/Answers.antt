use Rattle.std.proofs.Common.{◌∙◌, ◌++◌, ℕ, List, length, ap, string_bytes}
use Rattle.std.specs.List.{flat_map}
use Rattle.vm_asm.specs.Workload.{writing, cells, waiting, count_line, boot_if}
use Rattle.vm_asm.proofs.counting.text_of.Goals as goal

pub returns : goal.returns
returns c =
    let cs = c.args.counts.now in
    c.in_ok-put_counts.ensures
    ∙ ap (λ (t : List ℕ). t ++ flat_map count_line cs) (c.in_ok-push_str-2.ensures.bytes ∙ ap (λ (t : List ℕ). string_bytes c.put_boot.new.text ++ t) c.cells.ensures
    ∙ ap (λ (t : List ℕ). t ++ cells) (c.in_ok-put_boot.ensures
    ∙ ap (λ (t : List ℕ). t ++ boot_if (length cs)) (c.in_ok-push_str.ensures.bytes ∙ ap (λ (t : List ℕ). string_bytes c.put_waiting.new.text ++ t) c.writing.ensures
    ∙ ap (λ (t : List ℕ). t ++ writing) (c.in_ok-put_waiting.ensures
    ∙ ap (λ (t : List ℕ). t ++ waiting (length cs)) (c.in_ok-text.ensures.ok ∙ c.counting.ensures)))))
