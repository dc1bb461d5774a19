use Rattle.x86_decode.proofs.Exact.{one}
use Rattle.x86_decode.proofs.Lengths.{at_most_15}
use Rattle.x86_decode.proofs.decoder.one_spelling.Goals as goal

pub returns-clause-one : goal.returns-clause-one
returns-clause-one c = λ bs more a b s t. one bs more a b s t

pub returns-clause-brief : goal.returns-clause-brief
returns-clause-brief c = λ bs a s. at_most_15 bs a s
