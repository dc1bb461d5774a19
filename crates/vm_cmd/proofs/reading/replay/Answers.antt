use Rattle.std.proofs.lemmas.Result.{err_from_is_err_and}
use Rattle.vm_cmd.specs.Word.{texts}
use Rattle.vm_cmd.specs.Table.{replay_form, replay_of_uses}
use Rattle.vm_cmd.specs.Shapes.{replay_app}
use Rattle.vm_cmd.proofs.Laws.{refuses, answers, made_of}
use Rattle.vm_cmd.proofs.Rows.{replay_made}
use Rattle.vm_cmd.proofs.reading.replay.Goals as goal

pub returns-in_err-matches : goal.returns-in_err-matches
returns-in_err-matches c =
    let p = err_from_is_err_and c.from_residual.result c.from_residual.ensures.1 in
    rw (p.1, p.2) (refuses replay_form (texts c.args.words.now) replay_of_uses c.in_err-matches.field-0.0
    (c.in_err-matches.ensures replay_form (made_of c.replay_command.result replay_form replay_app replay_made c.replay_command.ensures)))

pub returns : goal.returns
returns c = answers replay_form (texts c.args.words.now) replay_of_uses c.in_ok-matches.matches
    (c.in_ok-matches.ensures replay_form (made_of c.replay_command.result replay_form replay_app replay_made c.replay_command.ensures)) c.replay_of.result c.replay_of.ensures
