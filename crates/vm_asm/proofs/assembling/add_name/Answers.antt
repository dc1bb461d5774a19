use Rattle.std.proofs.Common.{◌≡◌, ◌∙◌, length, sym, ap, eqb-true}
use Rattle.text_reader.specs.Word.{texts}
use Rattle.vm_asm.specs.Layout.{add_name}
use Rattle.vm_asm.proofs.Steps.{name_in_empty}
use Rattle.vm_asm.proofs.assembling.add_name.Goals as goal

pub returns-then-is_empty-clause-names : goal.returns-then-is_empty-clause-names
returns-then-is_empty-clause-names c =
    let e : length c.args.line.now ≡ 0 = eqb-true (length c.args.line.now) 0 (sym c.is_empty.ensures ∙ c.if-is_empty.true) in
    sym (ap (add_name (texts c.args.names.now.items)) (name_in_empty c.args.line.now e))
