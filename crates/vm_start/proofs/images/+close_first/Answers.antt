use Rattle.std.proofs.Common.{◌≡◌, ◌<◌, ◌≤◌, ◌∙◌, ◌++◌, ◌∷◌, [], List, Option, length, ap, sym, subst, arith, length-append}
use Rattle.vm_start.specs.Images.{path_of}
use Rattle.vm_start.specs.Opening.{HasClosed}
use Rattle.vm_start.proofs.Closes.{closes_named, closes_absent}
use Rattle.vm_start.proofs.images.+close_first.Goals as goal
use Rattle.vm_start.proofs.images.+close_first.Goals.{in-Some-home, in-None}

pub returns : goal.returns
returns g t c =
    let seen = g.H.Image.Image.seen in
    let plan = c.args.start.now.plan in
    let a = g.H.Host.seen c.args.host.now in
    let new = g.H.Host.seen c.close_first.new.host in
    let front = c.pop.new.self.items in
    let name = c.path_at-name.result.now in
    let items : c.args.homes.items ≡ front ++ c.in-Some.home ∷ [] = c.in-Some.ensures.items in
    let few = subst (λ (l : List (Option g.row.H-Image.Denot)). length l ≤ length plan.disks) items c.requires.few in
    let within : length front < length plan.disks = omega (arith, few, length-append front (c.in-Some.home ∷ [])) in
    subst (λ (l : List (Option g.row.H-Image.Denot)). HasClosed seen plan l a new) (sym items)
    (elim c.match-home.branch [
      | in-Some-home w ↦
          let b = g.H.Host.seen w.close_image.new.self in
          let image = w.in-Some-home.image in
          let rest = subst (λ (h : _). HasClosed seen plan front (g.H.Host.seen h) new) w.host-is c.close_first.ensures in
          subst (λ (o : Option g.row.H-Image.Denot). HasClosed seen plan (front ++ o ∷ []) a new) (sym w.in-Some-home.is)
          (closes_named seen plan c.requires.apart front image a b new name (c.path_at-name.ensures ∙ ap (λ n. path_of plan n) (omega arith)) within
          w.close_image.ensures.content w.close_image.ensures.image_faults w.close_image.ensures.counts w.close_image.ensures.leaves rest)
      | in-None w ↦
          let rest = subst (λ (h : _). HasClosed seen plan front (g.H.Host.seen h) new) w.host-is c.close_first.ensures in
          subst (λ (o : Option g.row.H-Image.Denot). HasClosed seen plan (front ++ o ∷ []) a new) (sym w.in-None.is)
          (closes_absent seen plan c.requires.apart front a new rest)
    ])
