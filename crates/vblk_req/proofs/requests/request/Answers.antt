use Rattle.std.proofs.Common.{subst, sym}
use Rattle.vblk_req.specs.declared.ask.Ask.{Ask}
use Rattle.vblk_req.specs.Request.{IfAccept, IsSound}
use Rattle.vblk_req.proofs.Sound.{asked_sound}
use Rattle.vblk_req.proofs.requests.request.Goals as goal

pub returns-clause-sound : goal.returns-clause-sound
returns-clause-sound c = subst (λ (a : Ask). IfAccept a (IsSound c.args.sectors)) (sym c.asked.ensures) (asked_sound c.args.chain.now.head c.args.chain.now.descriptors.items c.args.header.now c.args.sectors c.args.ro)
