use Rattle.std.proofs.Common.{◌≡◌, ◌<◌, ◌+◌, ◌∙◌, sym, subst, ℕ, get_or, set, length, arith, rules}
use Rattle.std.proofs.lemmas.List.{length-set}
use Rattle.std.proofs.lemmas.List.Edits.{fill_by_more}
use Rattle.vm_ioapic.specs.declared.pin.Pin.{Pin}
use Rattle.std.proofs.lemmas.List.FromFn.{fill_by_all}
use Rattle.vm_ioapic.specs.Pin.{pin_at_start}
use Rattle.vm_ioapic.specs.Saved.{pin_of, pins_of}
use Rattle.vm_ioapic.proofs.saving.pins.Goals as goal

pub returns-clause-pins : goal.returns-clause-pins
unfolding pins_of
returns-clause-pins c =
    fill_by_all (λ (k : ℕ). pin_of (get_or c.args.words.now k 0) (get_or c.args.counts.now k 0)) c.loop-n.pin-items 32 pin_at_start c.loop-n-test.array_long (λ k l. c.loop-n.invariant.0 k (omega arith))

pub returns-clause-words : goal.returns-clause-words
returns-clause-words c = c.loop-n.invariant.2 (omega arith)

pub loop-n-preserved : goal.loop-n-preserved
loop-n-preserved c =
    let f = λ (k : ℕ). pin_of (get_or c.args.words.now k 0) (get_or c.args.counts.now k 0) in
    let place : c.loop-n.n < length c.loop-n.pin-items = omega (arith, c.loop-n.invariant.1) in (
      subst (λ (p : Pin). (k : ℕ) → k < c.loop-n.n + 1 → get_or (set c.loop-n.pin-items c.loop-n.n p) k pin_at_start ≡ f k) (sym c.from_word.ensures) (fill_by_more f c.loop-n.pin-items c.loop-n.n pin_at_start place c.loop-n.invariant.0),
      length-set c.loop-n.pin-items c.loop-n.n _ ∙ c.loop-n.invariant.1,
      λ _ k. search rules,
    )
