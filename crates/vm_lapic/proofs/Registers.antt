-- The registers by their offsets.
use Rattle.std.proofs.Common.{◌≡◌, zero, suc, ◌+◌, ◌*◌, ap, ◌∙◌, arith, Some, Bool, true, false, List, [], ◌∷◌, refl, subst}
use Rattle.std.specs.Prelude.{ℕ, nat_lt, find, Option, if◌then◌else◌, ◌==◌}
use Rattle.std.specs.List.{list_all}
use Rattle.std.proofs.lemmas.Bool.{and_parts}
use Rattle.std.proofs.lemmas.Bool.Decides.{nat_tests}
use Rattle.vm_lapic.specs.declared.register.Register.{Register}
use Rattle.vm_lapic.specs.declared.register.Register.TheVariants.{Id, Version, Tpr, Ppr, Eoi, Svr, Isr, Tmr, Irr, Esr, IcrLow, IcrHigh, LvtTimer, InitialCount, CurrentCount, DivideConfiguration}
use Rattle.vm_lapic.specs.Window.{offset_of, is_register, registers, register_at}

here_or_later : (q : Register → Bool) (x r : Register) (rest : Option Register) (b : Bool) → q x ≡ true → (rest ≡ Some r → q r ≡ true) → (if b then Some x else rest) ≡ Some r → q r ≡ true
here_or_later q x r rest true qx later e = let same : x ≡ r = cc in subst (λ (y : Register). q y ≡ true) same qx
here_or_later q x r rest false qx later e = later e

found_passes : (p q : Register → Bool) (xs : List Register) (r : Register) → list_all q xs ≡ true → find p xs ≡ Some r → q r ≡ true
found_passes p q [] r all e = absurd cc
found_passes p q (x ∷ xs) r all e =
    let parts = and_parts (q x) (list_all q xs) all in
    here_or_later q x r (find p xs) (p x) parts.0 (λ f. found_passes p q xs r parts.1 f) e

-- what is found is a register
pub found_is_register : (offset : ℕ) (r : Register) → register_at offset ≡ Some r → is_register r ≡ true
unfolding register_at
found_is_register offset r e = found_passes (λ x. offset_of x == offset) is_register registers r refl e

too_many : (k : ℕ) → nat_lt (suc (suc (suc (suc (suc (suc (suc (suc k)))))))) 8 ≡ true → ⊥
too_many k h = absurd (grind (arith, nat_tests))

-- a number below 8 is one of eight
below_eight : (P : ℕ → Type 0) → P 0 → P 1 → P 2 → P 3 → P 4 → P 5 → P 6 → P 7 → (k : ℕ) → nat_lt k 8 ≡ true → P k
below_eight P p0 p1 p2 p3 p4 p5 p6 p7 zero h = p0
below_eight P p0 p1 p2 p3 p4 p5 p6 p7 (suc zero) h = p1
below_eight P p0 p1 p2 p3 p4 p5 p6 p7 (suc (suc zero)) h = p2
below_eight P p0 p1 p2 p3 p4 p5 p6 p7 (suc (suc (suc zero))) h = p3
below_eight P p0 p1 p2 p3 p4 p5 p6 p7 (suc (suc (suc (suc zero)))) h = p4
below_eight P p0 p1 p2 p3 p4 p5 p6 p7 (suc (suc (suc (suc (suc zero))))) h = p5
below_eight P p0 p1 p2 p3 p4 p5 p6 p7 (suc (suc (suc (suc (suc (suc zero)))))) h = p6
below_eight P p0 p1 p2 p3 p4 p5 p6 p7 (suc (suc (suc (suc (suc (suc (suc zero))))))) h = p7
below_eight P p0 p1 p2 p3 p4 p5 p6 p7 (suc (suc (suc (suc (suc (suc (suc (suc k)))))))) h = absurd (too_many k h)

-- each register is found where it stands
pub found_there : (r : Register) → is_register r ≡ true → register_at (offset_of r) ≡ Some r
unfolding register_at
found_there Id h = refl
found_there Version h = refl
found_there Tpr h = refl
found_there Ppr h = refl
found_there Eoi h = refl
found_there Svr h = refl
found_there (Isr k) h = below_eight (λ j. register_at (0x100 + 0x10 * j) ≡ Some (Isr j)) refl refl refl refl refl refl refl refl k h
found_there (Tmr k) h = below_eight (λ j. register_at (0x180 + 0x10 * j) ≡ Some (Tmr j)) refl refl refl refl refl refl refl refl k h
found_there (Irr k) h = below_eight (λ j. register_at (0x200 + 0x10 * j) ≡ Some (Irr j)) refl refl refl refl refl refl refl refl k h
found_there Esr h = refl
found_there IcrLow h = refl
found_there IcrHigh h = refl
found_there LvtTimer h = refl
found_there InitialCount h = refl
found_there CurrentCount h = refl
found_there DivideConfiguration h = refl

pub found_at : (offset : ℕ) (r : Register) → is_register r ≡ true → offset ≡ offset_of r → register_at offset ≡ Some r
found_at offset r h e = ap register_at e ∙ found_there r h
