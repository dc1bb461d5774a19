use Rattle.std.proofs.Common.{◌≡◌, ◌∙◌, ◌++◌, ℤ, Bool, sym, ap, string_bytes, to_z, of_z, rules}
use Rattle.std.specs.Int.{w128}
use Rattle.asm_insn.specs.Printing.{base_text, index_text}
use Rattle.asm_insn.proofs.Printed.{place_printed}
use Rattle.asm_insn.proofs.printing.put_place.Goals as goal

pub returns : goal.returns
returns c =
    let m = c.args.memory.now in
    let scale : to_z w128 (of_z w128 m.scale) ≡ m.scale = search rules in
    place_printed c.put_displacement.result m (string_bytes c.args.out.now) (string_bytes c.put_base.new.out) (string_bytes c.put_index.new.out) _
    (sym c.is_bare.ensures ∙ c.if-is_bare.false)
    (c.in_ok-put_base.ensures ∙ ap (λ (t : Bool). string_bytes c.args.out.now ++ base_text m.base t) c.is_some.ensures)
    (c.in_ok-put_index.ensures ∙ ap (λ (n : ℤ). string_bytes c.put_base.new.out ++ index_text m.index n) scale) c.put_displacement.ensures
