use Rattle.std.proofs.Common.{◌∙◌, ap, sym}
use Rattle.vm_journal.specs.Reading.{whole}
use Rattle.vm_journal.proofs.Whole.{whole_again}
use Rattle.vm_journal.proofs.law.one_spelling.Goals as goal

pub returns : goal.returns
returns c = λ journal other fits other_fits same. let both = sym (whole_again journal fits) ∙ ap whole same ∙ whole_again other other_fits in cc
