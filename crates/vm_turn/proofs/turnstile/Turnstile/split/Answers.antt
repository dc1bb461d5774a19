use Rattle.std.proofs.Common.{rules, ap, ◌∙◌, sym, subst, ◌<◌}
use Rattle.vm_turn.proofs.Steps.{splits_off}
use Rattle.vm_turn.proofs.turnstile.Turnstile.split.Goals as goal

pub split_seat-other-requires : goal.split_seat-other-requires
split_seat-other-requires g c =
    let is = ap (λ k. k.view) c.pass.view_is in
    (search rules, search rules, splits_off g.L.Logged.root g.L.Logged.entries _ _ c.pass.invariant.live (ap (λ v. v.number) is ∙ c.requires.first) (subst (λ v. v.splits < 65535) (sym is) c.requires.few))
