use Rattle.std.proofs.Common.{arith, ℕ, ◌≡◌, ◌∙◌, length, ap, drop}
use Rattle.std.proofs.lemmas.List.{length-take, length-drop, take_rest}
use Rattle.byte_reader.proofs.Texts.{same_on, same_faults, same_ends}
use Rattle.byte_reader.proofs.fixed.read_text.Goals as goal

pub loop-i-preserved : goal.loop-i-preserved
loop-i-preserved g c = same_on c.args.short c.args.other c.args.text.now c.args.bytes.now c.loop-i.i _ c.loop-i-test.true c.if-bytes-text.false c.if-bytes-i.false c.loop-i.invariant

pub returns-then-bytes-i : goal.returns-then-bytes-i
returns-then-bytes-i g c = rw c.refused-then-bytes-i.ensures (same_faults c.args.short c.args.other c.args.text.now c.args.bytes.now c.loop-i.i _ c.loop-i-test.true c.if-bytes-text.false c.if-bytes-i.true c.loop-i.invariant (omega (arith, length-take {A = ℕ}, length-drop {A = ℕ})))

pub returns : goal.returns
returns g c =
    let e : length c.args.text.now ≡ c.loop-i.i = omega arith in
    same_ends c.args.short c.args.other c.args.text.now c.args.bytes.now _ c.loop-i.i c.if-bytes-text.false e c.loop-i.invariant (take_rest c.args.bytes.now (length c.args.text.now) ∙ ap (λ (k : ℕ). drop k c.args.bytes.now) e)
