use Rattle.std.proofs.Common.{Ok, ap, sym, List}
use Rattle.cfg_text.specs.declared.expand.Written.{Written}
use Rattle.cfg_text.specs.Lines.{Variable}
use Rattle.cfg_text.proofs.Text.{put_view}
use Rattle.cfg_text.proofs.reading.add_line.Goals as goal

pub returns-in-Ok-clause-value : goal.returns-in-Ok-clause-value
returns-in-Ok-clause-value c =
    let written : Written = record { value = c.in-Variable.value; line = c.args.number } in
    rw (← c.in-Variable.ensures, c.in-Ok.ensures.entries) (ap (λ (vs : List Variable). Ok vs) (sym (put_view c.args.variables.now.entries c.in-Variable.name written)))
