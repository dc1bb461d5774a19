use Rattle.std.proofs.Common.{◌≡◌, ◌+◌, ◌∙◌, ◌++◌, List, ℕ, [], suc, take, drop, get_or, add-one, sym, ap, subst}
use Rattle.vm_host.specs.Leaves.{Takes, TakesSome}
use Rattle.vm_status.specs.Lines.{joined, pieces_of}
use Rattle.vm_status.proofs.Pieces.{joined_more, joined_split, takes_more, takes_some_more, on_any}
use Rattle.vm_status.proofs.line.write_line.Goals as goal

pub returns-in_err-write_all-clause-part : goal.returns-in_err-write_all-clause-part
returns-in_err-write_all-clause-part g c =
    let ps = pieces_of c.args.refusal.now in
    let k = c.loop-k.k in
    let same : c.as_bytes.result.now ≡ get_or ps k [] = c.as_bytes.ensures.value ∙ c.piece_of.ensures in
    let part : TakesSome (get_or ps k []) (g.S.Sink.seen c.loop-k.sink) (g.S.Sink.seen c.write_all.new.sink) =
    subst (λ (l : List ℕ). TakesSome l (g.S.Sink.seen c.loop-k.sink) (g.S.Sink.seen c.write_all.new.sink)) same c.in_err-write_all.ensures.part in
    on_any c.from_residual.result _
    (subst (λ (l : List ℕ). TakesSome l (g.S.Sink.seen c.args.sink.now) (g.S.Sink.seen c.write_all.new.sink)) (sym (joined_split ps k))
    (takes_some_more (g.S.Sink.seen c.args.sink.now) (g.S.Sink.seen c.loop-k.sink) (g.S.Sink.seen c.write_all.new.sink) (joined (take k ps)) (get_or ps k []) (joined (drop (suc k) ps))
    c.loop-k.invariant.took part))

pub loop-k-preserved : goal.loop-k-preserved
loop-k-preserved g c =
    let ps = pieces_of c.args.refusal.now in
    let k = c.loop-k.k in
    let same : c.as_bytes.result.now ≡ get_or ps k [] = c.as_bytes.ensures.value ∙ c.piece_of.ensures in
    let whole : Takes (get_or ps k []) (g.S.Sink.seen c.loop-k.sink) (g.S.Sink.seen c.write_all.new.sink) =
    subst (λ (l : List ℕ). Takes l (g.S.Sink.seen c.loop-k.sink) (g.S.Sink.seen c.write_all.new.sink)) same c.in_ok-write_all.ensures.whole in
    record {
      took = subst (λ (l : List ℕ). Takes l (g.S.Sink.seen c.args.sink.now) (g.S.Sink.seen c.write_all.new.sink)) (sym (ap (λ (n : ℕ). joined (take n ps)) (add-one k) ∙ joined_more ps k))
          (takes_more (g.S.Sink.seen c.args.sink.now) (g.S.Sink.seen c.loop-k.sink) (g.S.Sink.seen c.write_all.new.sink) (joined (take k ps)) (get_or ps k []) [] c.loop-k.invariant.took whole);
      faults = c.in_ok-write_all.ensures.cause.quiet ∙ c.loop-k.invariant.faults;
    }
