use Rattle.std.proofs.Common.{sym, Ok, Err}
use Rattle.std.proofs.lemmas.Result.{err_from_is_err_and}
use Rattle.vm_cmd.specs.declared.command.CmdError.TheVariants.{Usage}
use Rattle.vm_cmd.specs.Word.{texts}
use Rattle.vm_cmd.specs.Table.{make_form, make_of_uses}
use Rattle.vm_cmd.specs.Shapes.{make_app}
use Rattle.vm_cmd.proofs.Laws.{refuses, answers, made_of}
use Rattle.vm_cmd.proofs.Rows.{make_made}
use Rattle.vm_cmd.proofs.reading.make.Goals as goal

pub returns-in_err-matches : goal.returns-in_err-matches
returns-in_err-matches c =
    let p = err_from_is_err_and c.from_residual.result c.from_residual.ensures.1 in
    rw (p.1, p.2) (refuses make_form (texts c.args.words.now) make_of_uses c.in_err-matches.field-0.0
    (c.in_err-matches.ensures make_form (made_of c.make_command.result make_form make_app make_made c.make_command.ensures)))

pub returns-in-Some : goal.returns-in-Some
returns-in-Some c = answers make_form (texts c.args.words.now) make_of_uses c.in_ok-matches.matches
    (c.in_ok-matches.ensures make_form (made_of c.make_command.result make_form make_app make_made c.make_command.ensures)) (Ok c.in-Some.command) (λ us holds. sym (c.in-Some.ensures us holds))

pub returns : goal.returns
returns c = answers make_form (texts c.args.words.now) make_of_uses c.in_ok-matches.matches
    (c.in_ok-matches.ensures make_form (made_of c.make_command.result make_form make_app make_made c.make_command.ensures)) (Err Usage) (λ us holds. sym (c.in-None.ensures us holds))
