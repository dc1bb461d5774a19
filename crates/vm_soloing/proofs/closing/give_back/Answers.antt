use Rattle.std.specs.Option.{option_copied}
use Rattle.vm_outcome.specs.Ends.{ending_status}
use Rattle.vm_soloing.proofs.Closings.{back_failed, back_follows, back_own, causes_moved, closes_moved}
use Rattle.vm_soloing.proofs.closing.give_back.Goals as goal

pub returns-clause-closes : goal.returns-clause-closes
returns-clause-closes g c =
    closes_moved (g.H.Host.seen c.args.host.now) (g.H.Host.seen c.close_images.new.host) (g.H.Host.seen c.close.new.host) (option_copied c.args.journal) c.args.history.now
    c.args.run.now.state c.args.end c.close.result c.close_images.ensures.leaves.told c.close.ensures.closes

pub returns-clause-causes : goal.returns-clause-causes
returns-clause-causes g c =
    causes_moved (ending_status c.close.result) (g.H.Host.seen c.args.host.now) (g.H.Host.seen c.close_images.new.host) (g.H.Host.seen c.close.new.host)
    c.close_images.ensures.counts c.close.ensures.causes

pub returns-clause-host : goal.returns-clause-host
returns-clause-host g c =
    back_own c.args.start.now c.args.images.items c.requires.count (option_copied c.args.journal) (g.H.Host.seen c.args.host.now) (g.H.Host.seen c.close_images.new.host) (g.H.Host.seen c.close.new.host)
    c.close_images.ensures.leaves c.close.ensures.host

pub returns-clause-disks : goal.returns-clause-disks
returns-clause-disks g c = λ well.
    back_follows _ c.args.start.now c.args.history.now c.args.images.items c.requires.count (option_copied c.args.journal) (g.H.Host.seen c.args.host.now) (g.H.Host.seen c.close_images.new.host)
    (g.H.Host.seen c.close.new.host) (c.requires.home well) c.requires.journal c.close_images.ensures.leaves.told c.close.ensures.host c.close_images.ensures.content
    (λ told image. g.met.H.Host.images_tell c.args.host.now image told)

pub returns-clause-failed : goal.returns-clause-failed
returns-clause-failed g c = λ well d within failed.
    back_failed _ c.args.start.now c.args.history.now c.args.images.items c.requires.count (option_copied c.args.journal) (g.H.Host.seen c.args.host.now) (g.H.Host.seen c.close_images.new.host)
    (g.H.Host.seen c.close.new.host) (c.requires.home well) c.close.ensures.host c.close_images.ensures.image_faults d within failed
