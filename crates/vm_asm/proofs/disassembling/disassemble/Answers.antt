use Rattle.std.proofs.Common.{◌≡◌, ◌-◌, ℕ, List, ◌∷◌, ◌++◌, [], length, take, drop, ap, subst, arith, rules, length-drop}
use Rattle.std.proofs.lemmas.List.{take_all}
use Rattle.vm_asm.specs.Disassembly.{IsFirst}
use Rattle.vm_asm.proofs.Pieces.{begun_none, begun_more, begun_all, drop_end}
use Rattle.vm_asm.proofs.disassembling.disassemble.Goals as goal

pub loop-at-init : goal.loop-at-init
loop-at-init c = record { begun = ([], begun_none _ _ _ (search rules) (search rules)); within = omega arith }

pub returns-then-comes_back : goal.returns-then-comes_back
returns-then-comes_back c =
    let b = c.loop-at.invariant.begun in
    begun_all b.0 c.loop-at.at c.args.code.now _ _ _ _ b.1 (drop_end c.args.code.now c.loop-at.at (omega arith)) c.as_str.ensures.value c.deref.ensures.value (c.comes_back.ensures c.if-comes_back.true)

pub loop-at-preserved : goal.loop-at-preserved
loop-at-preserved c =
    let at = c.loop-at.at in
    let code = c.args.code.now in
    let b = c.loop-at.invariant.begun in
    let r = c.in_ok-at.ensures.read in
    let l = length-drop at code in
    let e : take (length code - at) (drop at code) ≡ drop at code = take_all (length code - at) (drop at code) (omega arith) in
    let f = ap length e in
    record {
      begun = (b.0 ++ r.0 ∷ [], begun_more b.0 at code _ _ _ _ r.0 c.in_ok-at.field-0 b.1 (subst (λ (q : List ℕ). IsFirst r.0 c.in_ok-at.field-0 q) e r.1) r.2 r.3);
      within = omega (arith, c.in_ok-at.ensures.within);
    }
