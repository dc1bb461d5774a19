use Rattle.std.proofs.Common.{◌≡◌, ◌⊎◌, ◌+◌, ◌<◌, ◌∷◌, ℕ, List, Some, length, drop, sym, subst, arith, length-drop}
use Rattle.std.proofs.lemmas.Result.{err_from_is_err_and}
use Rattle.vm_host.specs.Leaves.{WritesFile, LeavesHost}
use Rattle.vm_host.specs.Told.{WhereTold}
use Rattle.vm_status.specs.declared.refusal.Refusal.TheVariants.{HostFault, Memory}
use Rattle.vm_start.specs.Opening.{IsOpen}
use Rattle.vm_start.proofs.Opens.{IsLent, fresh_count, open_more, shut_here, shut_back}
use Rattle.vm_start.proofs.images.+open_from.Goals as goal

pub returns-in_err-image-clause-opened : goal.returns-in_err-image-clause-opened
returns-in_err-image-clause-opened g t c =
    let seen = g.H.Image.Image.seen in
    let a = g.H.Host.seen c.args.host.now in
    let b = g.H.Host.seen c.open_image.new.host in
    let e = c.in_err-image.field-0.0 in
    let within : c.args.first < length c.args.start.now.plan.disks = omega arith in
    let is = c.path_at-path.ensures in
    let p = err_from_is_err_and c.from_residual-in_err-image.result c.from_residual-in_err-image.ensures.1 in
    rw (p.1, p.2) (shut_here seen c.args.start.now c.requires.apart c.args.first e a b within
    (subst (λ (n : List ℕ). (e ≡ Memory) ⊎ (e ≡ HostFault n)) is c.in_err-image.ensures.refusal) c.in_err-image.ensures.closed
    (subst (λ (n : List ℕ). WritesFile n a b) is c.in_err-image.ensures.leaves))

pub unwrap-requires : goal.unwrap-requires
unwrap-requires g t c =
    let seen = g.H.Image.Image.seen in
    let images = c.in-Ok.images in
    let count = fresh_count seen (drop (c.args.first + 1) c.args.start.now.disks) images.items c.in-Ok.ensures.opened.fresh in
    c.insert.ensures.succeeds (omega (arith, count, length-drop (c.args.first + 1) c.args.start.now.disks, c.in-Ok.ensures.room, c.requires.count, images.ok.0))

pub returns-in-Ok-clause-opened : goal.returns-in-Ok-clause-opened
returns-in-Ok-clause-opened g t c =
    let seen = g.H.Image.Image.seen in
    let start = c.args.start.now in
    let first = c.args.first in
    let a = g.H.Host.seen c.args.host.now in
    let b = g.H.Host.seen c.open_image.new.host in
    let d = g.H.Host.seen c.open_from.new.host in
    let images = c.in-Ok.images in
    let image = c.in_ok-image.image in
    let count = fresh_count seen (drop (first + 1) start.disks) images.items c.in-Ok.ensures.opened.fresh in
    let ok = c.insert.ensures.succeeds (omega (arith, count, length-drop (first + 1) start.disks, c.in-Ok.ensures.room, c.requires.count, images.ok.0)) in
    let items : c.insert.new.self.items ≡ image ∷ images.items = rw ok at c.insert.ensures.items in
    let within : first < length start.plan.disks = omega arith in
    let is = c.path_at-path.ensures in
    let lent : IsLent (seen image) c.path_at-path.result.now a b = record {
      told = c.in_ok-image.ensures.told;
      content = c.in_ok-image.ensures.content;
      fresh = c.in_ok-image.ensures.fresh;
      stands = c.in_ok-image.ensures.stands;
      leaves = c.in_ok-image.ensures.leaves;
    } in
    subst (λ (l : List g.row.H-Image.Denot). IsOpen seen start first l a d) (sym items)
    (open_more seen start c.requires.apart first image images.items a b d within (omega (arith, within, c.requires.count)) (λ told. c.requires.disks told first (omega arith) within)
    (subst (λ (n : List ℕ). IsLent (seen image) n a b) is lent) c.in-Ok.ensures.opened)

pub returns-in-Err-clause-opened : goal.returns-in-Err-clause-opened
returns-in-Err-clause-opened g t c =
    let seen = g.H.Image.Image.seen in
    let start = c.args.start.now in
    let first = c.args.first in
    let a = g.H.Host.seen c.args.host.now in
    let b = g.H.Host.seen c.open_image.new.host in
    let d = g.H.Host.seen c.open_from.new.host in
    let now = g.H.Host.seen c.close_image.new.self in
    let image = c.in_ok-image.image in
    let within : first < length start.plan.disks = omega arith in
    let is = c.path_at-path.ensures in
    let lent : IsLent (seen image) c.path_at-path.result.now a b = record {
      told = c.in_ok-image.ensures.told;
      content = c.in_ok-image.ensures.content;
      fresh = c.in_ok-image.ensures.fresh;
      stands = c.in_ok-image.ensures.stands;
      leaves = c.in_ok-image.ensures.leaves;
    } in
    shut_back seen start c.requires.apart first c.in-Err.refusal (seen image) a b d now within
    (subst (λ (n : List ℕ). IsLent (seen image) n a b) is lent) c.in-Err.ensures.opened
    (subst (λ (n : List ℕ). WhereTold d.tells (WhereTold (seen image).tells (now.file n ≡ Some (seen image).content))) is c.close_image.ensures.content)
    c.close_image.ensures.image_faults (subst (λ (n : List ℕ). LeavesHost (λ q. q ≡ n) d now) is c.close_image.ensures.leaves)
