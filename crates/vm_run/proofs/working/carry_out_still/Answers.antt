use Rattle.std.proofs.Common.{List, ℕ, codes, ap, refl, sym, subst}
use Rattle.vm_cmd.specs.declared.command.Command.{Command}
use Rattle.vm_cmd.specs.declared.command.Command.TheVariants.{Asm, Show}
use Rattle.vm_run.specs.Works.{Works}
use Rattle.vm_run.specs.Words.{unbuilt}
use Rattle.vm_run.proofs.Commands.{asm_works, later_works, make_works, replay_works, show_works, solo_works}
use Rattle.vm_run.proofs.working.carry_out_still.Goals as goal

pub returns-in-Solo : goal.returns-in-Solo
returns-in-Solo g c =
    let e = c.solo.ensures in
    subst (λ (x : Command). Works g.H.Host.seen g.S.Sink.seen x c.args.host.now c.solo.new.host c.args.console.now c.solo.new.console c.solo.result.ending c.solo.result.kept) (sym c.in-Solo.is)
    (solo_works g.H.Host.seen g.S.Sink.seen c.args.host.now c.solo.new.host c.args.console.now c.solo.new.console c.solo.result.ending c.solo.result.kept
    e.causes e.run e.named e.console e.silent c.in-Solo.words e.answers e.start e.begins e.refuses e.orderly e.files e.disks e.sound_images e.doubted)

pub returns-in-Replay : goal.returns-in-Replay
returns-in-Replay g c =
    let e = c.replay.ensures in
    subst (λ (x : Command). Works g.H.Host.seen g.S.Sink.seen x c.args.host.now c.replay.new.host c.args.console.now c.replay.new.console c.replay.result.ending c.replay.result.kept) (sym c.in-Replay.is)
    (replay_works g.H.Host.seen g.S.Sink.seen c.args.host.now c.replay.new.host c.args.console.now c.replay.new.console c.replay.result.ending c.replay.result.kept
    e.causes e.run e.named e.console e.silent c.in-Replay.words c.in-Replay.journal e.answers e.start e.begins e.refuses e.host)

pub returns-in-Show : goal.returns-in-Show
returns-in-Show g c =
    let e = c.show.ensures in
    subst (λ (x : Command). Works g.H.Host.seen g.S.Sink.seen x c.args.host.now c.show.new.host c.args.console.now c.show.new.console c.show.result.ending c.show.result.kept) (sym c.in-Show.is)
    (subst (λ (n : List ℕ). Works g.H.Host.seen g.S.Sink.seen (Show n) c.args.host.now c.show.new.host c.args.console.now c.show.new.console c.show.result.ending c.show.result.kept) c.as_str.ensures
    (show_works g.H.Host.seen g.S.Sink.seen c.args.host.now c.show.new.host c.args.console.now c.show.new.console c.show.result.ending c.show.result.kept
    e.kept c.as_str.result.now e.answers e.causes e.named e.host e.complete e.refuses))

pub returns-in-Asm : goal.returns-in-Asm
returns-in-Asm g c =
    let e = c.asm.ensures in
    let file = c.as_str-in-Asm.result.now in
    let out = c.as_str-in-Asm-2.result.now in
    subst (λ (x : Command). Works g.H.Host.seen g.S.Sink.seen x c.args.host.now c.asm.new.host c.args.console.now c.args.console.now c.asm.result.ending c.asm.result.kept) (sym c.in-Asm.is)
    (subst (λ (o : List ℕ). Works g.H.Host.seen g.S.Sink.seen (Asm c.in-Asm.file o) c.args.host.now c.asm.new.host c.args.console.now c.args.console.now c.asm.result.ending c.asm.result.kept) c.as_str-in-Asm-2.ensures
    (subst (λ (f : List ℕ). Works g.H.Host.seen g.S.Sink.seen (Asm f out) c.args.host.now c.asm.new.host c.args.console.now c.args.console.now c.asm.result.ending c.asm.result.kept) c.as_str-in-Asm.ensures
    (asm_works g.H.Host.seen g.S.Sink.seen c.args.host.now c.asm.new.host c.args.console.now c.args.console.now c.asm.result.ending c.asm.result.kept
    e.kept file out e.answers (e.causes (g.S.Sink.seen c.args.console.now)) e.host refl)))

pub returns-in-Make : goal.returns-in-Make
returns-in-Make g c =
    let e = c.make.ensures in
    subst (λ (x : Command). Works g.H.Host.seen g.S.Sink.seen x c.args.host.now c.args.host.now c.args.console.now c.make.new.console c.make.result.ending c.make.result.kept) (sym c.in-Make.is)
    (make_works g.H.Host.seen g.S.Sink.seen c.args.host.now c.args.console.now c.make.new.console c.make.result.ending c.make.result.kept c.in-Make.cpus c.in-Make.number
    (λ told. g.met.H.Host.since_earlier c.args.host.now told) e.answers e.start e.run e.orderly e.causes e.console e.silent)

pub returns-in-Convert : goal.returns-in-Convert
returns-in-Convert g c =
    later_works g.H.Host.seen g.S.Sink.seen c.args.host.now c.args.console.now (λ told. g.met.H.Host.since_earlier c.args.host.now told) c.args.command.now (codes "convert")
    c.later.result.ending c.later.result.kept (ap unbuilt c.in-Convert.is) c.later.ensures.kept c.later.ensures.ending

pub returns-in-Arrive : goal.returns-in-Arrive
returns-in-Arrive g c =
    later_works g.H.Host.seen g.S.Sink.seen c.args.host.now c.args.console.now (λ told. g.met.H.Host.since_earlier c.args.host.now told) c.args.command.now (codes "arrive")
    c.later-in-Arrive.result.ending c.later-in-Arrive.result.kept (ap unbuilt c.in-Arrive.is) c.later-in-Arrive.ensures.kept c.later-in-Arrive.ensures.ending

pub returns-in-Inspect : goal.returns-in-Inspect
returns-in-Inspect g c =
    later_works g.H.Host.seen g.S.Sink.seen c.args.host.now c.args.console.now (λ told. g.met.H.Host.since_earlier c.args.host.now told) c.args.command.now (codes "inspect")
    c.later-in-Inspect.result.ending c.later-in-Inspect.result.kept (ap unbuilt c.in-Inspect.is) c.later-in-Inspect.ensures.kept c.later-in-Inspect.ensures.ending
