-- The width of an operation, and the prefixes and REX bits that it needs.
use Rattle.std.proofs.Common.{◌≡◌, ℕ, Bool, true, false, cond, Option, refl, sym, ap, ◌∙◌, inl, inr}
use Rattle.std.specs.Prelude.{◌&&◌}
use Rattle.std.proofs.lemmas.Bool.{cases_Bool, or_cases}
use Rattle.x86_grammar.specs.declared.head.Prefixes.{Prefixes}
use Rattle.x86_grammar.specs.declared.head.Rex.{Rex}
use Rattle.vm_law.specs.declared.insn.Width.{Width}
use Rattle.vm_law.specs.declared.insn.Width.TheVariants as width
use Rattle.x86_grammar.specs.declared.table.Class.{Class}
use Rattle.x86_grammar.specs.declared.table.Class.TheVariants as class
use Rattle.x86_grammar.specs.declared.table.Need.{Need}
use Rattle.x86_grammar.specs.declared.table.Need.TheVariants as need
use Rattle.x86_grammar.specs.Rows.{takes_size, meets}
use Rattle.x86_grammar.specs.Fields.{rex_w}
use Rattle.x86_grammar.specs.Operands.{word_or_doubleword, width_of}
use Rattle.x86_encode.specs.Inside.Plain.{needs_wide, is_quad, is_word, takes_wide, is_wide, is_sized}

narrow : (t : Bool) → is_quad (word_or_doubleword t) ≡ true → ⊥
narrow true e = absurd cc
narrow false e = absurd cc

wide_needs : (c : Class) (p : Prefixes) (rex : Option Rex) → (takes_wide c && is_quad (width_of c p rex)) ≡ true → rex_w rex ≡ true
unfolding width_of
wide_needs class.V p rex e = elim (cases_Bool (rex_w rex)) [ inl t ↦ t | inr f ↦ absurd (let q : is_quad (word_or_doubleword p.size) ≡ true = sym (ap (λ (t : Bool). is_quad (cond t width.Q (word_or_doubleword p.size))) f) ∙ e in narrow p.size q) ]
wide_needs class.L p rex e = elim (cases_Bool (rex_w rex)) [ inl t ↦ t | inr f ↦ absurd (let q : is_quad width.D ≡ true = sym (ap (λ (t : Bool). is_quad (cond t width.Q width.D)) f) ∙ e in cc q) ]
wide_needs class.B p rex e = absurd cc
wide_needs class.W p rex e = absurd cc
wide_needs class.Q p rex e = absurd cc
wide_needs class.N p rex e = absurd cc

need_needs : (n : Need) (rex : Option Rex) (k : ℕ) → needs_wide n ≡ true → meets n rex k ≡ true → rex_w rex ≡ true
need_needs need.None rex k e m = absurd cc
need_needs need.Wide rex k e m = m
need_needs need.NoB rex k e m = absurd cc
need_needs need.NotAcc rex k e m = absurd cc

-- REX.W stands in each spelling of what needs it
pub wide_is_needed : (n : Need) (c : Class) (p : Prefixes) (rex : Option Rex) (k : ℕ) → meets n rex k ≡ true → is_wide n c (width_of c p rex) ≡ true → rex_w rex ≡ true
unfolding is_wide
wide_is_needed n c p rex k m e =
    elim (or_cases (needs_wide n) (takes_wide c && is_quad (width_of c p rex)) e) [
      | inl t ↦ need_needs n rex k t m
      | inr t ↦ wide_needs c p rex t
    ]

word_size : (t : Bool) → is_word (word_or_doubleword t) ≡ t
word_size true = refl
word_size false = refl

-- and so does 66
pub size_is_needed : (c : Class) (p : Prefixes) (rex : Option Rex) → is_sized c (width_of c p rex) ≡ true → p.size ≡ true
unfolding width_of is_sized
size_is_needed class.V p rex e =
    elim (cases_Bool (rex_w rex)) [
      | inl t ↦ absurd (let q : is_word width.Q ≡ true = sym (ap (λ (u : Bool). is_word (cond u width.Q (word_or_doubleword p.size))) t) ∙ e in cc q)
      | inr f ↦ sym (word_size p.size) ∙ sym (ap (λ (u : Bool). is_word (cond u width.Q (word_or_doubleword p.size))) f) ∙ e
    ]
size_is_needed class.W p rex e = sym (word_size p.size) ∙ e
size_is_needed class.B p rex e = absurd cc
size_is_needed class.Q p rex e = absurd cc
size_is_needed class.N p rex e = absurd cc
size_is_needed class.L p rex e = absurd cc

pub sized_takes : (c : Class) (w : Width) → is_sized c w ≡ true → takes_size c ≡ true
unfolding is_sized
sized_takes class.B w e = absurd cc
sized_takes class.V w e = refl
sized_takes class.W w e = refl
sized_takes class.Q w e = absurd cc
sized_takes class.N w e = refl
sized_takes class.L w e = absurd cc

word_again : (t : Bool) → word_or_doubleword (is_word (word_or_doubleword t)) ≡ word_or_doubleword t
word_again t = ap word_or_doubleword (word_size t)

quad_no : (t : Bool) → is_quad (word_or_doubleword t) ≡ false
quad_no true = refl
quad_no false = refl

-- the width is read back
pub width_again : (c : Class) (p p2 : Prefixes) (rex rex2 : Option Rex) → p2.size ≡ is_sized c (width_of c p rex) → (takes_wide c ≡ true → rex_w rex2 ≡ is_quad (width_of c p rex)) → width_of c p2 rex2 ≡ width_of c p rex
unfolding width_of is_sized
width_again class.V p p2 rex rex2 s w =
    elim (cases_Bool (rex_w rex)) [
      | inl t ↦ let q : cond (rex_w rex) width.Q (word_or_doubleword p.size) ≡ width.Q = ap (λ (u : Bool). cond u width.Q (word_or_doubleword p.size)) t in
          ap (λ (u : Bool). cond u width.Q (word_or_doubleword p2.size)) (w refl ∙ ap is_quad q) ∙ sym q
      | inr f ↦ let q : cond (rex_w rex) width.Q (word_or_doubleword p.size) ≡ word_or_doubleword p.size = ap (λ (u : Bool). cond u width.Q (word_or_doubleword p.size)) f in
          ap (λ (u : Bool). cond u width.Q (word_or_doubleword p2.size)) (w refl ∙ ap is_quad q ∙ quad_no p.size) ∙ ap word_or_doubleword (s ∙ ap is_word q) ∙ word_again p.size ∙ sym q
    ]
width_again class.L p p2 rex rex2 s w =
    elim (cases_Bool (rex_w rex)) [
      | inl t ↦ let q : cond (rex_w rex) width.Q width.D ≡ width.Q = ap (λ (u : Bool). cond u width.Q width.D) t in
          ap (λ (u : Bool). cond u width.Q width.D) (w refl ∙ ap is_quad q) ∙ sym q
      | inr f ↦ let q : cond (rex_w rex) width.Q width.D ≡ width.D = ap (λ (u : Bool). cond u width.Q width.D) f in
          ap (λ (u : Bool). cond u width.Q width.D) (w refl ∙ ap is_quad q) ∙ sym q
    ]
width_again class.W p p2 rex rex2 s w = ap word_or_doubleword s ∙ word_again p.size
width_again class.B p p2 rex rex2 s w = refl
width_again class.Q p p2 rex rex2 s w = refl
width_again class.N p p2 rex rex2 s w = refl
