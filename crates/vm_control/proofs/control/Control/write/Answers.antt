use Rattle.std.proofs.Common.{List, ℕ, ap, drop, subst, sym, take, ◌∙◌}
use Rattle.std.proofs.lemmas.List.{take_rest}
use Rattle.vm_host.specs.Leaves.{Takes}
use Rattle.vm_control.proofs.Held.{writes_held, written_fits}
use Rattle.vm_control.proofs.control.Control.write.Goals as goal

pub returns-in-Ok-clause-fits : goal.returns-in-Ok-clause-fits
returns-in-Ok-clause-fits g c =
    let w = c.self.inside.written in
    let n = c.write_out-count.result.0 in
    let piece = take_rest c.deref.result.now w ∙ ap (λ (xs : List ℕ). drop w xs) c.deref.ensures.value in
    λ s f.
    written_fits s c.args.self.now _ (g.S.Sink.seen c.args.console.now) (g.S.Sink.seen c.write_out-count.new.sink)
    (writes_held c.args.self.now c.self.inside.console.items w n _ _ (g.S.Sink.seen c.args.console.now) (g.S.Sink.seen c.write_out-count.new.sink) (sym c.self.view_is)
    (subst (λ (xs : List ℕ). Takes (take n xs) (g.S.Sink.seen c.args.console.now) (g.S.Sink.seen c.write_out-count.new.sink)) piece c.write_out-count.ensures.takes)) f

pub returns-in-Err-clause-writes : goal.returns-in-Err-clause-writes
returns-in-Err-clause-writes g c =
    let w = c.self.inside.written in
    let n = c.write_out-count.result.0 in
    let piece = take_rest c.deref.result.now w ∙ ap (λ (xs : List ℕ). drop w xs) c.deref.ensures.value in
    writes_held c.args.self.now c.self.inside.console.items w n _ _ (g.S.Sink.seen c.args.console.now) (g.S.Sink.seen c.write_out-count.new.sink) (sym c.self.view_is)
    (subst (λ (xs : List ℕ). Takes (take n xs) (g.S.Sink.seen c.args.console.now) (g.S.Sink.seen c.write_out-count.new.sink)) piece c.write_out-count.ensures.takes)

pub returns-in-Err-clause-fits : goal.returns-in-Err-clause-fits
returns-in-Err-clause-fits g c =
    let w = c.self.inside.written in
    let n = c.write_out-count.result.0 in
    let piece = take_rest c.deref.result.now w ∙ ap (λ (xs : List ℕ). drop w xs) c.deref.ensures.value in
    λ s f.
    written_fits s c.args.self.now _ (g.S.Sink.seen c.args.console.now) (g.S.Sink.seen c.write_out-count.new.sink)
    (writes_held c.args.self.now c.self.inside.console.items w n _ _ (g.S.Sink.seen c.args.console.now) (g.S.Sink.seen c.write_out-count.new.sink) (sym c.self.view_is)
    (subst (λ (xs : List ℕ). Takes (take n xs) (g.S.Sink.seen c.args.console.now) (g.S.Sink.seen c.write_out-count.new.sink)) piece c.write_out-count.ensures.takes)) f
