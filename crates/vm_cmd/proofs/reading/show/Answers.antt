use Rattle.std.proofs.lemmas.Result.{err_from_is_err_and}
use Rattle.vm_cmd.specs.Word.{texts}
use Rattle.vm_cmd.specs.Table.{show_form, show_of_uses}
use Rattle.vm_cmd.specs.Shapes.{show_app}
use Rattle.vm_cmd.proofs.Laws.{refuses, answers, made_of}
use Rattle.vm_cmd.proofs.Rows.{show_made}
use Rattle.vm_cmd.proofs.reading.show.Goals as goal

pub returns-in_err-matches : goal.returns-in_err-matches
returns-in_err-matches c =
    let p = err_from_is_err_and c.from_residual.result c.from_residual.ensures.1 in
    rw (p.1, p.2) (refuses show_form (texts c.args.words.now) show_of_uses c.in_err-matches.field-0.0
    (c.in_err-matches.ensures show_form (made_of c.show_command.result show_form show_app show_made c.show_command.ensures)))

pub returns : goal.returns
returns c = answers show_form (texts c.args.words.now) show_of_uses c.in_ok-matches.matches
    (c.in_ok-matches.ensures show_form (made_of c.show_command.result show_form show_app show_made c.show_command.ensures)) c.show_of.result c.show_of.ensures
