use Rattle.std.proofs.lemmas.Result.{err_from_is_err_and}
use Rattle.vm_cmd.specs.Word.{texts}
use Rattle.vm_cmd.specs.Table.{run_form, run_of_uses}
use Rattle.vm_cmd.specs.Shapes.{run_app}
use Rattle.vm_cmd.proofs.Laws.{refuses, answers, made_of}
use Rattle.vm_cmd.proofs.Rows.{run_made}
use Rattle.vm_cmd.proofs.reading.run_words.Goals as goal

pub returns-in_err-matches : goal.returns-in_err-matches
returns-in_err-matches c =
    let p = err_from_is_err_and c.from_residual.result c.from_residual.ensures.1 in
    rw (p.1, p.2) (refuses run_form (texts c.args.words.now) run_of_uses c.in_err-matches.field-0.0
    (c.in_err-matches.ensures run_form (made_of c.run_command.result run_form run_app run_made c.run_command.ensures)))

pub returns : goal.returns
returns c = answers run_form (texts c.args.words.now) run_of_uses c.in_ok-matches.matches
    (c.in_ok-matches.ensures run_form (made_of c.run_command.result run_form run_app run_made c.run_command.ensures)) c.run_of.result c.run_of.ensures
