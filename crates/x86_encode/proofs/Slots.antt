-- What an operation keeps of the operands, the condition and the number that it is made of.
use Rattle.std.proofs.Common.{◌≡◌, ℕ, zero, suc, ◌<◌, Bool, true, false, Option, Some, None, refl, sym, ap, subst, ◌∙◌, arith}
use Rattle.std.specs.Prelude.{◌%◌, ℤ, pos, slice_get}
use Rattle.std.specs.Option.{option_map}
use Rattle.vm_law.specs.declared.insn.Mem.{Mem}
use Rattle.vm_law.specs.declared.insn.Loc.{Loc}
use Rattle.vm_law.specs.declared.insn.Loc.TheVariants as loc
use Rattle.vm_law.specs.declared.insn.Src.{Src}
use Rattle.vm_law.specs.declared.insn.Src.TheVariants as src
use Rattle.vm_law.specs.declared.insn.Condition.{Condition}
use Rattle.vm_law.specs.declared.insn.Op.{Op}
use Rattle.x86_grammar.specs.declared.condition.TheConstants.{CONDITIONS}
use Rattle.x86_grammar.specs.declared.operands.Immediate.{Immediate}
use Rattle.x86_grammar.specs.declared.operands.Operands.{Operands}
use Rattle.x86_grammar.specs.declared.operands.Operands.TheVariants as operands
use Rattle.x86_grammar.specs.declared.table.Form.{Form}
use Rattle.x86_grammar.specs.declared.table.Form.TheVariants as form
use Rattle.x86_grammar.specs.declared.table.OpKind.{OpKind}
use Rattle.x86_grammar.specs.declared.table.OpKind.TheVariants as kind
use Rattle.x86_grammar.specs.Operands.{◌>>=◌, signed32, unsigned8, place, places, immediate_alone, place_and_immediate, places_and_immediate, operands_of}
use Rattle.x86_grammar.specs.Meaning.{nothing, place_alone, register_alone, memory_alone, source_alone, destination_and_source, two_places, register_and_place, register_and_memory, register_place_and_number, place_and_byte, offset_alone, byte_alone, word_alone, condition_of as condition_named, op_of}
use Rattle.x86_grammar.proofs.Matching.{has_rm, has_reg, has_immediate}
use Rattle.x86_encode.specs.Inside.Plain.{no_loc, loc_of, first_of, second_of, e_loc, g_loc, o_loc, condition_number, condition_of, source_number, number_of}
use Rattle.x86_encode.proofs.Numbers.{IsNumberOf, of_signed, of_signed32, of_unsigned8, of_unsigned16}

-- ---- what is kept of the operands

abbrev pub first_operand : Operands → Loc
first_operand (operands.Place a) = a
first_operand (operands.Places a b) = a
first_operand (operands.PlaceAndImmediate a i) = a
first_operand (operands.PlacesAndImmediate a b i) = a
first_operand _ = no_loc

abbrev pub second_operand : Operands → Loc
second_operand (operands.Places a b) = b
second_operand (operands.PlacesAndImmediate a b i) = b
second_operand _ = no_loc

-- the number is that of the immediate, where there is one
abbrev pub HoldsNumber : Operands → ℤ → Type 0
HoldsNumber operands.None v = Unit {0}
HoldsNumber (operands.Immediate i) v = IsNumberOf i v
HoldsNumber (operands.Place a) v = Unit {0}
HoldsNumber (operands.Places a b) v = Unit {0}
HoldsNumber (operands.PlaceAndImmediate a i) v = IsNumberOf i v
HoldsNumber (operands.PlacesAndImmediate a b i) v = IsNumberOf i v

pub record Facts (o : Operands) (first second : Loc) (number : ℤ) : Type 0 where
  pub first_is : first ≡ first_operand o
  pub second_is : second ≡ second_operand o
  pub number_is : HoldsNumber o number

abbrev some : {A : Type 0} → A → Option A
some a = Some a

same_some : {A : Type 0} (a b : A) → some a ≡ Some b → a ≡ b
same_some a b e = cc

pub mapped : {A B : Type 0} (f : A → B) (s : Option A) (y : B) → option_map f s ≡ Some y → (x : A) × (s ≡ Some x) × (f x ≡ y)
mapped f None y e = absurd (cc e)
mapped f (Some x) y e = (x, refl, same_some (f x) y e)

pub bound : {A B : Type 0} (s : Option A) (f : A → Option B) (y : B) → (s >>= f) ≡ Some y → (x : A) × (s ≡ Some x) × (f x ≡ Some y)
bound None f y e = absurd (cc e)
bound (Some x) f y e = (x, refl, e)

nothing_facts : (o : Operands) (x : Unit {0}) (v : ℤ) → nothing o ≡ Some x → Facts o no_loc no_loc v
nothing_facts operands.None x v e = record { first_is = refl; second_is = refl; number_is = tt }
nothing_facts (operands.Immediate i) x v e = absurd (cc e)
nothing_facts (operands.Place a) x v e = absurd (cc e)
nothing_facts (operands.Places a b) x v e = absurd (cc e)
nothing_facts (operands.PlaceAndImmediate a i) x v e = absurd (cc e)
nothing_facts (operands.PlacesAndImmediate a b i) x v e = absurd (cc e)

place_facts : (o : Operands) (x : Loc) (v : ℤ) → place_alone o ≡ Some x → Facts o x no_loc v
place_facts (operands.Place a) x v e = record { first_is = sym (same_some a x e); second_is = refl; number_is = tt }
place_facts operands.None x v e = absurd (cc e)
place_facts (operands.Immediate i) x v e = absurd (cc e)
place_facts (operands.Places a b) x v e = absurd (cc e)
place_facts (operands.PlaceAndImmediate a i) x v e = absurd (cc e)
place_facts (operands.PlacesAndImmediate a b i) x v e = absurd (cc e)

register_facts : (o : Operands) (x : ℕ) (v : ℤ) → register_alone o ≡ Some x → Facts o (loc.Reg x) no_loc v
register_facts (operands.Place (loc.Reg r)) x v e = record { first_is = ap (λ (k : ℕ). loc.Reg k) (sym (same_some r x e)); second_is = refl; number_is = tt }
register_facts (operands.Place (loc.High r)) x v e = absurd (cc e)
register_facts (operands.Place (loc.Mem m)) x v e = absurd (cc e)
register_facts operands.None x v e = absurd (cc e)
register_facts (operands.Immediate i) x v e = absurd (cc e)
register_facts (operands.Places a b) x v e = absurd (cc e)
register_facts (operands.PlaceAndImmediate a i) x v e = absurd (cc e)
register_facts (operands.PlacesAndImmediate a b i) x v e = absurd (cc e)

memory_facts : (o : Operands) (x : Mem) (v : ℤ) → memory_alone o ≡ Some x → Facts o (loc.Mem x) no_loc v
memory_facts (operands.Place (loc.Mem m)) x v e = record { first_is = ap (λ (k : Mem). loc.Mem k) (sym (same_some m x e)); second_is = refl; number_is = tt }
memory_facts (operands.Place (loc.High r)) x v e = absurd (cc e)
memory_facts (operands.Place (loc.Reg r)) x v e = absurd (cc e)
memory_facts operands.None x v e = absurd (cc e)
memory_facts (operands.Immediate i) x v e = absurd (cc e)
memory_facts (operands.Places a b) x v e = absurd (cc e)
memory_facts (operands.PlaceAndImmediate a i) x v e = absurd (cc e)
memory_facts (operands.PlacesAndImmediate a b i) x v e = absurd (cc e)

pushed_facts : (o : Operands) (x : Src) → source_alone o ≡ Some x → Facts o (loc_of x) no_loc (source_number x)
pushed_facts (operands.Place a) x e = subst (λ (s : Src). Facts (operands.Place a) (loc_of s) no_loc (source_number s)) (same_some (src.Loc a) x e) (record { first_is = refl; second_is = refl; number_is = tt })
pushed_facts (operands.Immediate i) x e = subst (λ (s : Src). Facts (operands.Immediate i) (loc_of s) no_loc (source_number s)) (same_some _ x e) (record { first_is = refl; second_is = refl; number_is = of_signed i })
pushed_facts operands.None x e = absurd (cc e)
pushed_facts (operands.Places a b) x e = absurd (cc e)
pushed_facts (operands.PlaceAndImmediate a i) x e = absurd (cc e)
pushed_facts (operands.PlacesAndImmediate a b i) x e = absurd (cc e)

source_facts : (o : Operands) (x : Loc × Src) → destination_and_source o ≡ Some x → Facts o x.0 (loc_of x.1) (source_number x.1)
source_facts (operands.Places a b) x e = subst (λ (s : Loc × Src). Facts (operands.Places a b) s.0 (loc_of s.1) (source_number s.1)) (same_some (a, src.Loc b) x e) (record { first_is = refl; second_is = refl; number_is = tt })
source_facts (operands.PlaceAndImmediate a i) x e = subst (λ (s : Loc × Src). Facts (operands.PlaceAndImmediate a i) s.0 (loc_of s.1) (source_number s.1)) (same_some _ x e) (record { first_is = refl; second_is = refl; number_is = of_signed i })
source_facts operands.None x e = absurd (cc e)
source_facts (operands.Immediate i) x e = absurd (cc e)
source_facts (operands.Place a) x e = absurd (cc e)
source_facts (operands.PlacesAndImmediate a b i) x e = absurd (cc e)

places_facts : (o : Operands) (x : Loc × Loc) (v : ℤ) → two_places o ≡ Some x → Facts o x.0 x.1 v
places_facts (operands.Places a b) x v e = subst (λ (s : Loc × Loc). Facts (operands.Places a b) s.0 s.1 v) (same_some (a, b) x e) (record { first_is = refl; second_is = refl; number_is = tt })
places_facts operands.None x v e = absurd (cc e)
places_facts (operands.Immediate i) x v e = absurd (cc e)
places_facts (operands.Place a) x v e = absurd (cc e)
places_facts (operands.PlaceAndImmediate a i) x v e = absurd (cc e)
places_facts (operands.PlacesAndImmediate a b i) x v e = absurd (cc e)

register_place_facts : (o : Operands) (x : ℕ × Loc) (v : ℤ) → register_and_place o ≡ Some x → Facts o (loc.Reg x.0) x.1 v
register_place_facts (operands.Places (loc.Reg r) b) x v e = subst (λ (s : ℕ × Loc). Facts (operands.Places (loc.Reg r) b) (loc.Reg s.0) s.1 v) (same_some (r, b) x e) (record { first_is = refl; second_is = refl; number_is = tt })
register_place_facts (operands.Places (loc.High r) b) x v e = absurd (cc e)
register_place_facts (operands.Places (loc.Mem m) b) x v e = absurd (cc e)
register_place_facts operands.None x v e = absurd (cc e)
register_place_facts (operands.Immediate i) x v e = absurd (cc e)
register_place_facts (operands.Place a) x v e = absurd (cc e)
register_place_facts (operands.PlaceAndImmediate a i) x v e = absurd (cc e)
register_place_facts (operands.PlacesAndImmediate a b i) x v e = absurd (cc e)

register_memory_facts : (o : Operands) (x : ℕ × Mem) (v : ℤ) → register_and_memory o ≡ Some x → Facts o (loc.Reg x.0) (loc.Mem x.1) v
register_memory_facts (operands.Places (loc.Reg r) (loc.Mem m)) x v e = subst (λ (s : ℕ × Mem). Facts (operands.Places (loc.Reg r) (loc.Mem m)) (loc.Reg s.0) (loc.Mem s.1) v) (same_some (r, m) x e) (record { first_is = refl; second_is = refl; number_is = tt })
register_memory_facts (operands.Places (loc.Reg r) (loc.Reg m)) x v e = absurd (cc e)
register_memory_facts (operands.Places (loc.Reg r) (loc.High m)) x v e = absurd (cc e)
register_memory_facts (operands.Places (loc.High r) b) x v e = absurd (cc e)
register_memory_facts (operands.Places (loc.Mem m) b) x v e = absurd (cc e)
register_memory_facts operands.None x v e = absurd (cc e)
register_memory_facts (operands.Immediate i) x v e = absurd (cc e)
register_memory_facts (operands.Place a) x v e = absurd (cc e)
register_memory_facts (operands.PlaceAndImmediate a i) x v e = absurd (cc e)
register_memory_facts (operands.PlacesAndImmediate a b i) x v e = absurd (cc e)

number_facts : (o : Operands) (x : ℕ × Loc × ℤ) → register_place_and_number o ≡ Some x → Facts o (loc.Reg x.0) x.1 x.2
number_facts (operands.PlacesAndImmediate (loc.Reg r) b i) x e =
    let m = mapped _ (signed32 i) x e in
    subst (λ (s : ℕ × Loc × ℤ). Facts (operands.PlacesAndImmediate (loc.Reg r) b i) (loc.Reg s.0) s.1 s.2) {x = (r, b, m.0)} {y = x} m.2 (record { first_is = refl; second_is = refl; number_is = of_signed32 i m.0 m.1 })
number_facts (operands.PlacesAndImmediate (loc.High r) b i) x e = absurd (cc e)
number_facts (operands.PlacesAndImmediate (loc.Mem m) b i) x e = absurd (cc e)
number_facts operands.None x e = absurd (cc e)
number_facts (operands.Immediate i) x e = absurd (cc e)
number_facts (operands.Place a) x e = absurd (cc e)
number_facts (operands.Places a b) x e = absurd (cc e)
number_facts (operands.PlaceAndImmediate a i) x e = absurd (cc e)

byte_count_facts : (o : Operands) (x : Loc × ℕ) → place_and_byte o ≡ Some x → Facts o x.0 no_loc (pos x.1)
byte_count_facts (operands.PlaceAndImmediate a i) x e =
    let m = mapped _ (unsigned8 i) x e in
    subst (λ (s : Loc × ℕ). Facts (operands.PlaceAndImmediate a i) s.0 no_loc (pos s.1)) {x = (a, m.0)} {y = x} m.2 (record { first_is = refl; second_is = refl; number_is = of_unsigned8 i m.0 m.1 })
byte_count_facts operands.None x e = absurd (cc e)
byte_count_facts (operands.Immediate i) x e = absurd (cc e)
byte_count_facts (operands.Place a) x e = absurd (cc e)
byte_count_facts (operands.Places a b) x e = absurd (cc e)
byte_count_facts (operands.PlacesAndImmediate a b i) x e = absurd (cc e)

offset_facts : (o : Operands) (x : ℤ) → offset_alone o ≡ Some x → Facts o no_loc no_loc x
offset_facts (operands.Immediate i) x e = record { first_is = refl; second_is = refl; number_is = of_signed32 i x e }
offset_facts operands.None x e = absurd (cc e)
offset_facts (operands.Place a) x e = absurd (cc e)
offset_facts (operands.Places a b) x e = absurd (cc e)
offset_facts (operands.PlaceAndImmediate a i) x e = absurd (cc e)
offset_facts (operands.PlacesAndImmediate a b i) x e = absurd (cc e)

byte_facts : (o : Operands) (x : ℕ) → byte_alone o ≡ Some x → Facts o no_loc no_loc (pos x)
byte_facts (operands.Immediate i) x e = record { first_is = refl; second_is = refl; number_is = of_unsigned8 i x e }
byte_facts operands.None x e = absurd (cc e)
byte_facts (operands.Place a) x e = absurd (cc e)
byte_facts (operands.Places a b) x e = absurd (cc e)
byte_facts (operands.PlaceAndImmediate a i) x e = absurd (cc e)
byte_facts (operands.PlacesAndImmediate a b i) x e = absurd (cc e)

word_facts : (o : Operands) (x : ℕ) → word_alone o ≡ Some x → Facts o no_loc no_loc (pos x)
word_facts (operands.Immediate i) x e = record { first_is = refl; second_is = refl; number_is = of_unsigned16 i x e }
word_facts operands.None x e = absurd (cc e)
word_facts (operands.Place a) x e = absurd (cc e)
word_facts (operands.Places a b) x e = absurd (cc e)
word_facts (operands.PlaceAndImmediate a i) x e = absurd (cc e)
word_facts (operands.PlacesAndImmediate a b i) x e = absurd (cc e)

-- ---- the operation of an opcode byte and operands

abbrev pub has_condition : OpKind → Bool
has_condition kind.SetCc = true
has_condition kind.CMov = true
has_condition kind.Jcc = true
has_condition _ = false

abbrev pub condition_by : Bool → ℕ → ℕ
condition_by true byte = byte % 16
condition_by false byte = 0

pub record Back (k : OpKind) (byte : ℕ) (o : Operands) (x : Op) : Type 0 where
  pub facts : Facts o (first_of x) (second_of x) (number_of x)
  pub condition : condition_of x ≡ condition_by (has_condition k) byte

number_again : (n : ℕ) (c : Condition) → n < 16 → slice_get CONDITIONS n ≡ Some c → condition_number c ≡ n
unfolding condition_number
number_again zero c l e = ap condition_number (sym (same_some _ c e))
number_again (suc zero) c l e = ap condition_number (sym (same_some _ c e))
number_again (suc (suc zero)) c l e = ap condition_number (sym (same_some _ c e))
number_again (suc (suc (suc zero))) c l e = ap condition_number (sym (same_some _ c e))
number_again (suc (suc (suc (suc zero)))) c l e = ap condition_number (sym (same_some _ c e))
number_again (suc (suc (suc (suc (suc zero))))) c l e = ap condition_number (sym (same_some _ c e))
number_again (suc (suc (suc (suc (suc (suc zero)))))) c l e = ap condition_number (sym (same_some _ c e))
number_again (suc (suc (suc (suc (suc (suc (suc zero))))))) c l e = ap condition_number (sym (same_some _ c e))
number_again (suc (suc (suc (suc (suc (suc (suc (suc zero)))))))) c l e = ap condition_number (sym (same_some _ c e))
number_again (suc (suc (suc (suc (suc (suc (suc (suc (suc zero))))))))) c l e = ap condition_number (sym (same_some _ c e))
number_again (suc (suc (suc (suc (suc (suc (suc (suc (suc (suc zero)))))))))) c l e = ap condition_number (sym (same_some _ c e))
number_again (suc (suc (suc (suc (suc (suc (suc (suc (suc (suc (suc zero))))))))))) c l e = ap condition_number (sym (same_some _ c e))
number_again (suc (suc (suc (suc (suc (suc (suc (suc (suc (suc (suc (suc zero)))))))))))) c l e = ap condition_number (sym (same_some _ c e))
number_again (suc (suc (suc (suc (suc (suc (suc (suc (suc (suc (suc (suc (suc zero))))))))))))) c l e = ap condition_number (sym (same_some _ c e))
number_again (suc (suc (suc (suc (suc (suc (suc (suc (suc (suc (suc (suc (suc (suc zero)))))))))))))) c l e = ap condition_number (sym (same_some _ c e))
number_again (suc (suc (suc (suc (suc (suc (suc (suc (suc (suc (suc (suc (suc (suc (suc zero))))))))))))))) c l e = ap condition_number (sym (same_some _ c e))
number_again (suc (suc (suc (suc (suc (suc (suc (suc (suc (suc (suc (suc (suc (suc (suc (suc n)))))))))))))))) c l e = absurd (omega arith)

condition_again : (byte : ℕ) (c : Condition) → condition_named byte ≡ Some c → condition_number c ≡ byte % 16
unfolding condition_named
condition_again byte c e = number_again (byte % 16) c (omega arith) e

carried : {X : Type 0} (k : OpKind) (byte : ℕ) (o : Operands) (f : X → Op) (s : Option X) (x : Op) → option_map f s ≡ Some x → ((a : X) → s ≡ Some a → Back k byte o (f a)) → Back k byte o x
carried k byte o f s x e g = let m = mapped f s x e in subst (λ (y : Op). Back k byte o y) m.2 (g m.0 m.1)

pub back : (k : OpKind) (byte : ℕ) (o : Operands) (x : Op) → op_of k byte o ≡ Some x → Back k byte o x
unfolding op_of first_of second_of condition_of number_of
back (kind.Alu k) byte o x e = carried (kind.Alu k) byte o _ (destination_and_source o) x e (λ a h. record { facts = source_facts o a h; condition = refl })
back kind.Test byte o x e = carried kind.Test byte o _ (destination_and_source o) x e (λ a h. record { facts = source_facts o a h; condition = refl })
back (kind.Unary k) byte o x e = carried (kind.Unary k) byte o _ (place_alone o) x e (λ a h. record { facts = place_facts o a _ h; condition = refl })
back kind.Inc byte o x e = carried kind.Inc byte o _ (place_alone o) x e (λ a h. record { facts = place_facts o a _ h; condition = refl })
back kind.Dec byte o x e = carried kind.Dec byte o _ (place_alone o) x e (λ a h. record { facts = place_facts o a _ h; condition = refl })
back kind.Imul2 byte o x e = carried kind.Imul2 byte o _ (register_and_place o) x e (λ a h. record { facts = register_place_facts o a _ h; condition = refl })
back kind.Imul3 byte o x e = carried kind.Imul3 byte o _ (register_place_and_number o) x e (λ a h. record { facts = number_facts o a h; condition = refl })
back kind.Mov byte o x e = carried kind.Mov byte o _ (destination_and_source o) x e (λ a h. record { facts = source_facts o a h; condition = refl })
back (kind.MovZx w) byte o x e = carried (kind.MovZx w) byte o _ (register_and_place o) x e (λ a h. record { facts = register_place_facts o a _ h; condition = refl })
back (kind.MovSx w) byte o x e = carried (kind.MovSx w) byte o _ (register_and_place o) x e (λ a h. record { facts = register_place_facts o a _ h; condition = refl })
back kind.Lea byte o x e = carried kind.Lea byte o _ (register_and_memory o) x e (λ a h. record { facts = register_memory_facts o a _ h; condition = refl })
back kind.Xchg byte o x e = carried kind.Xchg byte o _ (two_places o) x e (λ a h. record { facts = places_facts o a _ h; condition = refl })
back kind.CmpXchg byte o x e = carried kind.CmpXchg byte o _ (two_places o) x e (λ a h. record { facts = places_facts o a _ h; condition = refl })
back kind.Xadd byte o x e = carried kind.Xadd byte o _ (two_places o) x e (λ a h. record { facts = places_facts o a _ h; condition = refl })
back (kind.Shift k) byte o x e = carried (kind.Shift k) byte o _ (place_and_byte o) x e (λ a h. record { facts = byte_count_facts o a h; condition = refl })
back (kind.ShiftOne k) byte o x e = carried (kind.ShiftOne k) byte o _ (place_alone o) x e (λ a h. record { facts = place_facts o a _ h; condition = refl })
back (kind.ShiftCl k) byte o x e = carried (kind.ShiftCl k) byte o _ (place_alone o) x e (λ a h. record { facts = place_facts o a _ h; condition = refl })
back (kind.Bit k) byte o x e = carried (kind.Bit k) byte o _ (destination_and_source o) x e (λ a h. record { facts = source_facts o a h; condition = refl })
back kind.Bsf byte o x e = carried kind.Bsf byte o _ (register_and_place o) x e (λ a h. record { facts = register_place_facts o a _ h; condition = refl })
back kind.Bsr byte o x e = carried kind.Bsr byte o _ (register_and_place o) x e (λ a h. record { facts = register_place_facts o a _ h; condition = refl })
back kind.Bswap byte o x e = carried kind.Bswap byte o _ (register_alone o) x e (λ a h. record { facts = register_facts o a _ h; condition = refl })
back kind.SetCc byte o x e = let m = bound (condition_named byte) _ x e in carried kind.SetCc byte o _ (place_alone o) x m.2 (λ a h. record { facts = place_facts o a _ h; condition = condition_again byte m.0 m.1 })
back kind.CMov byte o x e = let m = bound (condition_named byte) _ x e in carried kind.CMov byte o _ (register_and_place o) x m.2 (λ a h. record { facts = register_place_facts o a _ h; condition = condition_again byte m.0 m.1 })
back kind.Jcc byte o x e = let m = bound (condition_named byte) _ x e in carried kind.Jcc byte o _ (offset_alone o) x m.2 (λ a h. record { facts = offset_facts o a h; condition = condition_again byte m.0 m.1 })
back kind.Jmp byte o x e = carried kind.Jmp byte o _ (offset_alone o) x e (λ a h. record { facts = offset_facts o a h; condition = refl })
back kind.Call byte o x e = carried kind.Call byte o _ (offset_alone o) x e (λ a h. record { facts = offset_facts o a h; condition = refl })
back kind.JmpTo byte o x e = carried kind.JmpTo byte o _ (place_alone o) x e (λ a h. record { facts = place_facts o a _ h; condition = refl })
back kind.CallReg byte o x e = carried kind.CallReg byte o _ (register_alone o) x e (λ a h. record { facts = register_facts o a _ h; condition = refl })
back kind.Ret byte o x e = carried kind.Ret byte o _ (nothing o) x e (λ a h. record { facts = nothing_facts o a _ h; condition = refl })
back kind.RetImmediate byte o x e = carried kind.RetImmediate byte o _ (word_alone o) x e (λ a h. record { facts = word_facts o a h; condition = refl })
back kind.Push byte o x e = carried kind.Push byte o _ (source_alone o) x e (λ a h. record { facts = pushed_facts o a h; condition = refl })
back kind.Pop byte o x e = carried kind.Pop byte o _ (register_alone o) x e (λ a h. record { facts = register_facts o a _ h; condition = refl })
back kind.Leave byte o x e = carried kind.Leave byte o _ (nothing o) x e (λ a h. record { facts = nothing_facts o a _ h; condition = refl })
back kind.PushF byte o x e = carried kind.PushF byte o _ (nothing o) x e (λ a h. record { facts = nothing_facts o a _ h; condition = refl })
back kind.PopF byte o x e = carried kind.PopF byte o _ (nothing o) x e (λ a h. record { facts = nothing_facts o a _ h; condition = refl })
back kind.Clc byte o x e = carried kind.Clc byte o _ (nothing o) x e (λ a h. record { facts = nothing_facts o a _ h; condition = refl })
back kind.Stc byte o x e = carried kind.Stc byte o _ (nothing o) x e (λ a h. record { facts = nothing_facts o a _ h; condition = refl })
back kind.Cmc byte o x e = carried kind.Cmc byte o _ (nothing o) x e (λ a h. record { facts = nothing_facts o a _ h; condition = refl })
back kind.Cld byte o x e = carried kind.Cld byte o _ (nothing o) x e (λ a h. record { facts = nothing_facts o a _ h; condition = refl })
back kind.Std byte o x e = carried kind.Std byte o _ (nothing o) x e (λ a h. record { facts = nothing_facts o a _ h; condition = refl })
back kind.Int3 byte o x e = carried kind.Int3 byte o _ (nothing o) x e (λ a h. record { facts = nothing_facts o a _ h; condition = refl })
back kind.Hlt byte o x e = carried kind.Hlt byte o _ (nothing o) x e (λ a h. record { facts = nothing_facts o a _ h; condition = refl })
back kind.Sti byte o x e = carried kind.Sti byte o _ (nothing o) x e (λ a h. record { facts = nothing_facts o a _ h; condition = refl })
back kind.Cli byte o x e = carried kind.Cli byte o _ (nothing o) x e (λ a h. record { facts = nothing_facts o a _ h; condition = refl })
back kind.Widen byte o x e = carried kind.Widen byte o _ (nothing o) x e (λ a h. record { facts = nothing_facts o a _ h; condition = refl })
back kind.SignFill byte o x e = carried kind.SignFill byte o _ (nothing o) x e (λ a h. record { facts = nothing_facts o a _ h; condition = refl })
back kind.In byte o x e = carried kind.In byte o _ (byte_alone o) x e (λ a h. record { facts = byte_facts o a h; condition = refl })
back kind.Out byte o x e = carried kind.Out byte o _ (byte_alone o) x e (λ a h. record { facts = byte_facts o a h; condition = refl })
back kind.InDx byte o x e = carried kind.InDx byte o _ (nothing o) x e (λ a h. record { facts = nothing_facts o a _ h; condition = refl })
back kind.OutDx byte o x e = carried kind.OutDx byte o _ (nothing o) x e (λ a h. record { facts = nothing_facts o a _ h; condition = refl })
back kind.Int byte o x e = carried kind.Int byte o _ (byte_alone o) x e (λ a h. record { facts = byte_facts o a h; condition = refl })
back kind.Iret byte o x e = carried kind.Iret byte o _ (nothing o) x e (λ a h. record { facts = nothing_facts o a _ h; condition = refl })
back kind.Ud2 byte o x e = carried kind.Ud2 byte o _ (nothing o) x e (λ a h. record { facts = nothing_facts o a _ h; condition = refl })
back kind.Lidt byte o x e = carried kind.Lidt byte o _ (memory_alone o) x e (λ a h. record { facts = memory_facts o a _ h; condition = refl })
back kind.Nop byte o x e = carried kind.Nop byte o _ (nothing o) x e (λ a h. record { facts = nothing_facts o a _ h; condition = refl })
back kind.NopAt byte o x e = carried kind.NopAt byte o _ (place_alone o) x e (λ a h. record { facts = place_facts o a _ h; condition = refl })
back kind.Pause byte o x e = carried kind.Pause byte o _ (nothing o) x e (λ a h. record { facts = nothing_facts o a _ h; condition = refl })
back kind.Endbr byte o x e = carried kind.Endbr byte o _ (nothing o) x e (λ a h. record { facts = nothing_facts o a _ h; condition = refl })
back (kind.Fence m) byte o x e = carried (kind.Fence m) byte o _ (nothing o) x e (λ a h. record { facts = nothing_facts o a _ h; condition = refl })

-- ---- the operands of a form

abbrev pub has_o : Form → Bool
has_o form.OI = true
has_o form.OA = true
has_o form.O = true
has_o _ = false

module _ (rm reg : Option Loc) (opcode : Loc) (value : Option Immediate) (o : Operands) (x : Op) (facts : Facts o (first_of x) (second_of x) (number_of x)) where
  places_are : (a b : Option Loc) → places a b ≡ Some o → (a ≡ Some (first_of x)) × (b ≡ Some (second_of x))
  places_are a b e =
      let m = bound a _ o e in
      let n = bound b _ o m.2 in
      let same : operands.Places m.0 n.0 ≡ o = same_some _ o n.2 in
      let one : m.0 ≡ first_of x = ap first_operand same ∙ sym facts.first_is in
      let two : n.0 ≡ second_of x = ap second_operand same ∙ sym facts.second_is in
      (m.1 ∙ ap some one, n.1 ∙ ap some two)

  place_is : (a : Option Loc) → place a ≡ Some o → a ≡ Some (first_of x)
  place_is a e =
      let m = mapped _ a o e in
      m.1 ∙ ap some (ap first_operand m.2 ∙ sym facts.first_is)

  Value : Type 0
  Value = (i : Immediate) × (value ≡ Some i) × IsNumberOf i (number_of x)

  place_immediate_is : (a : Option Loc) → place_and_immediate a value ≡ Some o → (a ≡ Some (first_of x)) × Value
  unfolding Value
  place_immediate_is a e =
      let m = bound a _ o e in
      let n = bound value _ o m.2 in
      let same : operands.PlaceAndImmediate m.0 n.0 ≡ o = same_some _ o n.2 in
      (m.1 ∙ ap some (ap first_operand same ∙ sym facts.first_is), (n.0, n.1, subst (λ (p : Operands). HoldsNumber p (number_of x)) (sym same) facts.number_is))

  places_immediate_are : (a b : Option Loc) → places_and_immediate a b value ≡ Some o → (a ≡ Some (first_of x)) × (b ≡ Some (second_of x)) × Value
  unfolding Value
  places_immediate_are a b e =
      let m = bound a _ o e in
      let n = bound b _ o m.2 in
      let k = bound value _ o n.2 in
      let same : operands.PlacesAndImmediate m.0 n.0 k.0 ≡ o = same_some _ o k.2 in
      (m.1 ∙ ap some (ap first_operand same ∙ sym facts.first_is), n.1 ∙ ap some (ap second_operand same ∙ sym facts.second_is), (k.0, k.1, subst (λ (p : Operands). HoldsNumber p (number_of x)) (sym same) facts.number_is))

  immediate_is : immediate_alone value ≡ Some o → Value
  unfolding Value
  immediate_is e =
      let n = mapped _ value o e in
      (n.0, n.1, subst (λ (p : Operands). HoldsNumber p (number_of x)) {x = o} {y = operands.Immediate n.0} (sym n.2) facts.number_is)

  -- each operand stands in the operation
  pub record Named (f : Form) : Type 0 where
    pub rm_is : has_rm f ≡ true → rm ≡ Some (e_loc f x)
    pub reg_is : has_reg f ≡ true → reg ≡ Some (g_loc f x)
    pub opcode_is : has_o f ≡ true → some opcode ≡ Some (o_loc f x)
    pub value_is : has_immediate f ≡ true → (i : Immediate) × (value ≡ Some i) × IsNumberOf i (number_of x)

  pub named : (f : Form) → operands_of f rm reg opcode value ≡ Some o → Named f
  unfolding operands_of e_loc g_loc o_loc Value
  named form.EG e = let p = places_are rm reg e in record { rm_is = λ t. p.0; reg_is = λ t. p.1; opcode_is = λ t. absurd (cc t); value_is = λ t. absurd (cc t) }
  named form.GE e = let p = places_are reg rm e in record { rm_is = λ t. p.1; reg_is = λ t. p.0; opcode_is = λ t. absurd (cc t); value_is = λ t. absurd (cc t) }
  named form.EI e = let p = place_immediate_is rm e in record { rm_is = λ t. p.0; reg_is = λ t. absurd (cc t); opcode_is = λ t. absurd (cc t); value_is = λ t. p.1 }
  named form.GEI e = let p = places_immediate_are reg rm e in record { rm_is = λ t. p.1; reg_is = λ t. p.0; opcode_is = λ t. absurd (cc t); value_is = λ t. p.2 }
  named form.E e = let p = place_is rm e in record { rm_is = λ t. p; reg_is = λ t. absurd (cc t); opcode_is = λ t. absurd (cc t); value_is = λ t. absurd (cc t) }
  named form.AI e = let p = place_immediate_is (Some (loc.Reg 0)) e in record { rm_is = λ t. absurd (cc t); reg_is = λ t. absurd (cc t); opcode_is = λ t. absurd (cc t); value_is = λ t. p.1 }
  named form.OI e = let p = place_immediate_is (Some opcode) e in record { rm_is = λ t. absurd (cc t); reg_is = λ t. absurd (cc t); opcode_is = λ t. p.0; value_is = λ t. p.1 }
  named form.OA e = let p = places_are (Some opcode) (Some (loc.Reg 0)) e in record { rm_is = λ t. absurd (cc t); reg_is = λ t. absurd (cc t); opcode_is = λ t. p.0; value_is = λ t. absurd (cc t) }
  named form.O e = let p = place_is (Some opcode) e in record { rm_is = λ t. absurd (cc t); reg_is = λ t. absurd (cc t); opcode_is = λ t. p; value_is = λ t. absurd (cc t) }
  named form.I e = let p = immediate_is e in record { rm_is = λ t. absurd (cc t); reg_is = λ t. absurd (cc t); opcode_is = λ t. absurd (cc t); value_is = λ t. p }
  named form.Z e = record { rm_is = λ t. absurd (cc t); reg_is = λ t. absurd (cc t); opcode_is = λ t. absurd (cc t); value_is = λ t. absurd (cc t) }

pub same_loc : (a b : Loc) → some a ≡ Some b → b ≡ a
same_loc a b e = sym (same_some a b e)

-- only the operands that a form has count
pub operands_same : (f : Form) (rm reg rm2 reg2 : Option Loc) (o o2 : Loc) (value : Option Immediate) → (has_rm f ≡ true → rm2 ≡ rm) → (has_reg f ≡ true → reg2 ≡ reg) → (has_o f ≡ true → o2 ≡ o) → operands_of f rm2 reg2 o2 value ≡ operands_of f rm reg o value
unfolding operands_of
operands_same form.EG rm reg rm2 reg2 o o2 value p q r = ap (λ (a : Option Loc). places a reg2) (p refl) ∙ ap (λ (a : Option Loc). places rm a) (q refl)
operands_same form.GE rm reg rm2 reg2 o o2 value p q r = ap (λ (a : Option Loc). places a rm2) (q refl) ∙ ap (λ (a : Option Loc). places reg a) (p refl)
operands_same form.EI rm reg rm2 reg2 o o2 value p q r = ap (λ (a : Option Loc). place_and_immediate a value) (p refl)
operands_same form.GEI rm reg rm2 reg2 o o2 value p q r = ap (λ (a : Option Loc). places_and_immediate a rm2 value) (q refl) ∙ ap (λ (a : Option Loc). places_and_immediate reg a value) (p refl)
operands_same form.E rm reg rm2 reg2 o o2 value p q r = ap place (p refl)
operands_same form.AI rm reg rm2 reg2 o o2 value p q r = refl
operands_same form.OI rm reg rm2 reg2 o o2 value p q r = ap (λ (a : Loc). place_and_immediate (Some a) value) (r refl)
operands_same form.OA rm reg rm2 reg2 o o2 value p q r = ap (λ (a : Loc). places (Some a) (Some (loc.Reg 0))) (r refl)
operands_same form.O rm reg rm2 reg2 o o2 value p q r = ap (λ (a : Loc). place (Some a)) (r refl)
operands_same form.I rm reg rm2 reg2 o o2 value p q r = refl
operands_same form.Z rm reg rm2 reg2 o o2 value p q r = refl

pub e_none : (f : Form) (x : Op) → has_rm f ≡ false → e_loc f x ≡ no_loc
unfolding e_loc
e_none form.EG x h = absurd (cc h)
e_none form.GE x h = absurd (cc h)
e_none form.EI x h = absurd (cc h)
e_none form.GEI x h = absurd (cc h)
e_none form.E x h = absurd (cc h)
e_none form.AI x h = refl
e_none form.OI x h = refl
e_none form.OA x h = refl
e_none form.O x h = refl
e_none form.I x h = refl
e_none form.Z x h = refl

pub g_none : (f : Form) (x : Op) → has_reg f ≡ false → g_loc f x ≡ no_loc
unfolding g_loc
g_none form.EG x h = absurd (cc h)
g_none form.GE x h = absurd (cc h)
g_none form.EI x h = refl
g_none form.GEI x h = absurd (cc h)
g_none form.E x h = refl
g_none form.AI x h = refl
g_none form.OI x h = refl
g_none form.OA x h = refl
g_none form.O x h = refl
g_none form.I x h = refl
g_none form.Z x h = refl

pub o_none : (f : Form) (x : Op) → has_o f ≡ false → o_loc f x ≡ no_loc
unfolding o_loc
o_none form.EG x h = refl
o_none form.GE x h = refl
o_none form.EI x h = refl
o_none form.GEI x h = refl
o_none form.E x h = refl
o_none form.AI x h = refl
o_none form.OI x h = absurd (cc h)
o_none form.OA x h = absurd (cc h)
o_none form.O x h = absurd (cc h)
o_none form.I x h = refl
o_none form.Z x h = refl

pub no_rm_o : (f : Form) → has_rm f ≡ true → has_o f ≡ false
no_rm_o form.OI h = absurd (cc h)
no_rm_o form.OA h = absurd (cc h)
no_rm_o form.O h = absurd (cc h)
no_rm_o f h = refl
