use Rattle.std.proofs.lemmas.Result.{err_from_is_err_and}
use Rattle.vm_cmd.specs.Word.{texts}
use Rattle.vm_cmd.specs.Table.{inspect_form, inspect_of_uses}
use Rattle.vm_cmd.specs.Shapes.{inspect_app}
use Rattle.vm_cmd.proofs.Laws.{refuses, answers, made_of}
use Rattle.vm_cmd.proofs.Rows.{inspect_made}
use Rattle.vm_cmd.proofs.reading.inspect.Goals as goal

pub returns-in_err-matches : goal.returns-in_err-matches
returns-in_err-matches c =
    let p = err_from_is_err_and c.from_residual.result c.from_residual.ensures.1 in
    rw (p.1, p.2) (refuses inspect_form (texts c.args.words.now) inspect_of_uses c.in_err-matches.field-0.0
    (c.in_err-matches.ensures inspect_form (made_of c.inspect_command.result inspect_form inspect_app inspect_made c.inspect_command.ensures)))

pub returns : goal.returns
returns c = answers inspect_form (texts c.args.words.now) inspect_of_uses c.in_ok-matches.matches
    (c.in_ok-matches.ensures inspect_form (made_of c.inspect_command.result inspect_form inspect_app inspect_made c.inspect_command.ensures)) c.inspect_of.result c.inspect_of.ensures
