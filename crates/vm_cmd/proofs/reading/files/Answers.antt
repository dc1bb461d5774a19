use Rattle.std.proofs.lemmas.Result.{err_from_is_err_and}
use Rattle.vm_cmd.specs.Word.{texts}
use Rattle.vm_cmd.specs.Table.{files_form, files_of_uses}
use Rattle.vm_cmd.specs.Shapes.{files_app}
use Rattle.vm_cmd.proofs.Laws.{refuses, answers, made_of}
use Rattle.vm_cmd.proofs.Rows.{files_made}
use Rattle.vm_cmd.proofs.reading.files.Goals as goal

pub returns-in_err-matches : goal.returns-in_err-matches
returns-in_err-matches c =
    let p = err_from_is_err_and c.from_residual.result c.from_residual.ensures.1 in
    rw (p.1, p.2) (refuses files_form (texts c.args.words.now) files_of_uses c.in_err-matches.field-0.0
    (c.in_err-matches.ensures files_form (made_of c.files_command.result files_form files_app files_made c.files_command.ensures)))

pub returns : goal.returns
returns c = answers files_form (texts c.args.words.now) files_of_uses c.in_ok-matches.matches
    (c.in_ok-matches.ensures files_form (made_of c.files_command.result files_form files_app files_made c.files_command.ensures)) c.files_of.result c.files_of.ensures
