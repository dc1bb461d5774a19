use Rattle.std.proofs.Common.{List, Option, subst, sym, arith}
use Rattle.x86_fetch.specs.declared.table.Place.{Place}
use Rattle.x86_fetch.specs.Kept.{AreKept}
use Rattle.x86_fetch.proofs.Forgetting.{emptied_more, gone_more, forgotten}
use Rattle.x86_fetch.proofs.table.Table.forget.Goals as goal

pub loop-k-preserved : goal.loop-k-preserved
loop-k-preserved c = record {
  rest = emptied_more c.self.inside.places.items c.loop-k.self-inside.places.items c.empty.new.places.items c.loop-k.invariant.rest c.empty.ensures.rest;
  gone = gone_more c.args.at c.args.len c.saturating_sub-start.result c.loop-k.k c.place_of.result
      c.loop-k.self-inside.places.items c.empty.new.places.items c.empty.ensures c.place_of.ensures c.loop-k.invariant.gone;
}

pub returns : goal.returns
returns c = λ old new kept change.
    forgotten c.args.at c.args.len c.saturating_sub-start.result c.min-count.result c.self.inside.places.items c.loop-k.self-inside.places.items
    (omega arith) (omega arith) c.self.invariant c.loop-k.invariant.rest (λ j lt. c.loop-k.invariant.gone j (omega arith)) old new
    (subst (λ (places : List (Option Place)). AreKept old places) (sym c.self.view_is) kept) change
