use Rattle.std.proofs.Common.{◌∙◌, map}
use Rattle.clap.specs.Words.{app_of, kind_of}
use Rattle.vm_cmd.proofs.Laws.{found, unread, each_allowed}
use Rattle.vm_cmd.proofs.matched.parsed.Goals as goal

pub returns-in-Ok : goal.returns-in-Ok
returns-in-Ok c = λ f made. found (app_of c.args.command) f made (map (λ w. w.now) c.args.words.now) (each_allowed c.args.words.now c.requires) c.in-Ok.matches c.in-Ok.ensures.kinds (λ e. (c.in-Ok.ensures.matches e).0)

pub returns : goal.returns
returns c = λ f made. unread (app_of c.args.command) f made (map (λ w. w.now) c.args.words.now) (each_allowed c.args.words.now c.requires) (kind_of c.in-Err.error) c.in-Err.ensures.kinds
    (λ e. c.in_default.not-OutOfMemory (c.kind.ensures ∙ e))
