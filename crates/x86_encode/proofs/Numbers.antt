-- A number of 1, 2, 4 or 8 bytes, written again.
use Rattle.std.proofs.Common.{◌≡◌, ℕ, ◌+◌, ◌*◌, ◌/◌, ◌%◌, ◌<◌, ◌≤◌, false, List, [], ◌∷◌, length, take, Option, Some, refl, sym, ap, subst, ◌∙◌, arith}
use Rattle.std.specs.Prelude.{◌^◌, ℤ, pos}
use Rattle.std.specs.Int.{w8, w16, w32, w64, cast_unsigned, cast_signed, to_le_bytes, from_le_bytes}
use Rattle.std.proofs.lemmas.Bool.Decides.{nat_tests}
use Rattle.std.proofs.lemmas.Int.{of_z-to_z}
use Rattle.std.proofs.lemmas.Nat.{le_bytes_8}
use Rattle.std.proofs.lemmas.List.{take_all}
use Rattle.vm_law.specs.declared.insn.Width.{Width}
use Rattle.vm_law.specs.declared.insn.Width.TheVariants as width
use Rattle.x86_grammar.specs.declared.operands.Immediate.{Immediate}
use Rattle.x86_grammar.specs.declared.operands.Immediate.TheVariants.{Imm8, Imm16, Imm32, Imm64}
use Rattle.x86_grammar.specs.declared.table.Imm.{Imm}
use Rattle.x86_grammar.specs.declared.table.Imm.TheVariants as imm
use Rattle.x86_grammar.specs.Operands.{imm_len, immediate, signed, signed32, unsigned8, unsigned16}
use Rattle.x86_grammar.specs.Grammar.{IsBytes}
use Rattle.x86_grammar.proofs.Matching.{has_imm}
use Rattle.x86_encode.specs.Inside.Plain.{number_bytes}

low8 : (x : ℕ) → x < 256 → cast_unsigned w64 (cast_signed w8 x) % 256 ≡ x
low8 x l = grind (arith, nat_tests)

low16 : (x : ℕ) → x < 65536 → cast_unsigned w64 (cast_signed w16 x) % 65536 ≡ x
low16 x l = grind (arith, nat_tests)

low32 : (x : ℕ) → x < 4294967296 → cast_unsigned w64 (cast_signed w32 x) % 4294967296 ≡ x
low32 x l = grind (arith, nat_tests)

one_back : (a : ℕ) → a < 256 → number_bytes 1 (cast_signed w8 a) ≡ a ∷ []
unfolding number_bytes
one_back a l = ap (λ (k : ℕ). k ∷ []) (low8 a l)

two_bytes : (n a b : ℕ) → a < 256 → b < 256 → n % 65536 ≡ a + b * 256 → (n % 256 ≡ a) × (n / 256 % 256 ≡ b)
two_bytes n a b l k e = (omega arith, omega arith)

two_back : (a b : ℕ) → a < 256 → b < 256 → number_bytes 2 (cast_signed w16 (from_le_bytes w16 (a ∷ b ∷ []))) ≡ a ∷ b ∷ []
unfolding number_bytes
two_back a b l k =
    let t = two_bytes (cast_unsigned w64 (cast_signed w16 (a + b * 256))) a b l k (low16 (a + b * 256) (omega arith)) in
    ap (λ (x : ℕ). x ∷ cast_unsigned w64 (cast_signed w16 (a + b * 256)) / 256 % 256 ∷ []) t.0 ∙ ap (λ (x : ℕ). a ∷ x ∷ []) t.1

four_bytes : (n a b c d : ℕ) → a < 256 → b < 256 → c < 256 → d < 256 → n % 4294967296 ≡ a + b * 256 + c * 65536 + d * 16777216 → (n % 256 ≡ a) × (n / 256 % 256 ≡ b) × (n / 65536 % 256 ≡ c) × (n / 16777216 % 256 ≡ d)
four_bytes n a b c d la lb lc ld e = (omega arith, omega arith, omega arith, omega arith)

four_back : (a b c d : ℕ) → a < 256 → b < 256 → c < 256 → d < 256 → number_bytes 4 (cast_signed w32 (from_le_bytes w32 (a ∷ b ∷ c ∷ d ∷ []))) ≡ a ∷ b ∷ c ∷ d ∷ []
unfolding number_bytes
four_back a b c d la lb lc ld =
    let n = cast_unsigned w64 (cast_signed w32 (a + b * 256 + c * 65536 + d * 16777216)) in
    let t = four_bytes n a b c d la lb lc ld (low32 (a + b * 256 + c * 65536 + d * 16777216) (omega arith)) in
    ap (λ (x : ℕ). x ∷ n / 256 % 256 ∷ n / 65536 % 256 ∷ n / 16777216 % 256 ∷ []) t.0 ∙ ap (λ (x : ℕ). a ∷ x ∷ n / 65536 % 256 ∷ n / 16777216 % 256 ∷ []) t.1 ∙ ap (λ (x : ℕ). a ∷ b ∷ x ∷ n / 16777216 % 256 ∷ []) t.2 ∙ ap (λ (x : ℕ). a ∷ b ∷ c ∷ x ∷ []) t.3

eight_back : (l : List ℕ) → length l ≡ 8 → IsBytes l → (v : ℤ) → v ≡ cast_signed w64 (from_le_bytes w64 l) → from_le_bytes w64 l < 2 ^ 64 → to_le_bytes w64 (cast_unsigned w64 v) ≡ l
eight_back l n b v e bound = le_bytes_8 l (cast_unsigned w64 v) n b (ap (cast_unsigned w64) e ∙ of_z-to_z w64 (from_le_bytes w64 l) bound)

take_eight : (l : List ℕ) → length l ≡ 8 → take 8 l ≡ l
take_eight l n = take_all 8 l (omega arith)

long_back : (a c d e f g h i : ℕ) → IsBytes (a ∷ c ∷ d ∷ e ∷ f ∷ g ∷ h ∷ i ∷ []) → number_bytes 8 (cast_signed w64 (from_le_bytes w64 (a ∷ c ∷ d ∷ e ∷ f ∷ g ∷ h ∷ i ∷ []))) ≡ a ∷ c ∷ d ∷ e ∷ f ∷ g ∷ h ∷ i ∷ []
unfolding number_bytes
long_back a c d e f g h i b =
    let l : List ℕ = a ∷ c ∷ d ∷ e ∷ f ∷ g ∷ h ∷ i ∷ [] in
    let bound : from_le_bytes w64 l < 2 ^ 64 = omega (arith, b 0, b 1, b 2, b 3, b 4, b 5, b 6, b 7) in
    ap (take 8) (eight_back l refl b (cast_signed w64 (from_le_bytes w64 l)) refl bound) ∙ take_eight l refl

-- a number without a sign
plain_one : (a : ℕ) → a < 256 → cast_unsigned w64 (pos a) % 256 ≡ a
plain_one a l = grind (arith, nat_tests)

byte_back : (a : ℕ) → a < 256 → number_bytes 1 (pos a) ≡ a ∷ []
unfolding number_bytes
byte_back a l = ap (λ (k : ℕ). k ∷ []) (plain_one a l)

plain_two : (x : ℕ) → x < 65536 → cast_unsigned w64 (pos x) % 65536 ≡ x
plain_two x l = grind (arith, nat_tests)

word_two : (a c : ℕ) → a < 256 → c < 256 → number_bytes 2 (pos (a + c * 256)) ≡ a ∷ c ∷ []
unfolding number_bytes
word_two a c l k =
    let t = two_bytes (cast_unsigned w64 (pos (a + c * 256))) a c l k (plain_two (a + c * 256) (omega arith)) in
    ap (λ (x : ℕ). x ∷ cast_unsigned w64 (pos (a + c * 256)) / 256 % 256 ∷ []) t.0 ∙ ap (λ (x : ℕ). a ∷ x ∷ []) t.1

-- ---- the number of an immediate

-- the low bytes of the number are the immediate's bytes
abbrev pub IsNumberOf : Immediate → ℤ → Type 0
IsNumberOf i v = (l : List ℕ) → IsBytes l → immediate l ≡ Some i → number_bytes (length l) v ≡ l

abbrev some_immediate : Immediate → Option Immediate
some_immediate i = Some i

same_immediate : (i j : Immediate) → some_immediate i ≡ Some j → i ≡ j
same_immediate i j e = cc

signed_on : (l : List ℕ) (i j : Immediate) → some_immediate i ≡ Some j → number_bytes (length l) (signed i) ≡ l → number_bytes (length l) (signed j) ≡ l
signed_on l i j e n = subst (λ (k : Immediate). number_bytes (length l) (signed k) ≡ l) (same_immediate i j e) n

-- with its sign
pub of_signed : (i : Immediate) → IsNumberOf i (signed i)
unfolding immediate signed
of_signed i [] b e = absurd (cc e)
of_signed i (a ∷ []) b e = signed_on (a ∷ []) (Imm8 a) i e (one_back a (b 0))
of_signed i (a ∷ c ∷ []) b e = signed_on (a ∷ c ∷ []) (Imm16 (from_le_bytes w16 (a ∷ c ∷ []))) i e (two_back a c (b 0) (b 1))
of_signed i (a ∷ c ∷ d ∷ []) b e = absurd (cc e)
of_signed i (a ∷ c ∷ d ∷ f ∷ []) b e = signed_on (a ∷ c ∷ d ∷ f ∷ []) (Imm32 (from_le_bytes w32 (a ∷ c ∷ d ∷ f ∷ []))) i e (four_back a c d f (b 0) (b 1) (b 2) (b 3))
of_signed i (a ∷ c ∷ d ∷ f ∷ g ∷ []) b e = absurd (cc e)
of_signed i (a ∷ c ∷ d ∷ f ∷ g ∷ h ∷ []) b e = absurd (cc e)
of_signed i (a ∷ c ∷ d ∷ f ∷ g ∷ h ∷ j ∷ []) b e = absurd (cc e)
of_signed i (a ∷ c ∷ d ∷ f ∷ g ∷ h ∷ j ∷ k ∷ []) b e = signed_on (a ∷ c ∷ d ∷ f ∷ g ∷ h ∷ j ∷ k ∷ []) (Imm64 (from_le_bytes w64 (a ∷ c ∷ d ∷ f ∷ g ∷ h ∷ j ∷ k ∷ []))) i e (long_back a c d f g h j k b)
of_signed i (a ∷ c ∷ d ∷ f ∷ g ∷ h ∷ j ∷ k ∷ m ∷ l) b e = absurd (cc e)

abbrev some_number : ℤ → Option ℤ
some_number v = Some v

same_number : (v w : ℤ) → some_number v ≡ Some w → v ≡ w
same_number v w e = cc

short_is : (i : Immediate) (v : ℤ) → signed32 i ≡ Some v → signed i ≡ v
unfolding signed signed32
short_is (Imm8 n) v e = same_number _ v e
short_is (Imm16 n) v e = same_number _ v e
short_is (Imm32 n) v e = same_number _ v e
short_is (Imm64 n) v e = absurd (cc e)

-- the same of at most four bytes
pub of_signed32 : (i : Immediate) (v : ℤ) → signed32 i ≡ Some v → IsNumberOf i v
of_signed32 i v e = subst (λ (z : ℤ). IsNumberOf i z) (short_is i v e) (of_signed i)

abbrev some_natural : ℕ → Option ℕ
some_natural n = Some n

same_natural : (m n : ℕ) → some_natural m ≡ Some n → m ≡ n
same_natural m n e = cc

eight_of : (i : Immediate) (n : ℕ) → unsigned8 i ≡ Some n → i ≡ Imm8 n
eight_of (Imm8 m) n e = ap (λ (k : ℕ). Imm8 k) (same_natural m n e)
eight_of (Imm16 m) n e = absurd (cc e)
eight_of (Imm32 m) n e = absurd (cc e)
eight_of (Imm64 m) n e = absurd (cc e)

sixteen_of : (i : Immediate) (n : ℕ) → unsigned16 i ≡ Some n → i ≡ Imm16 n
sixteen_of (Imm8 m) n e = absurd (cc e)
sixteen_of (Imm16 m) n e = ap (λ (k : ℕ). Imm16 k) (same_natural m n e)
sixteen_of (Imm32 m) n e = absurd (cc e)
sixteen_of (Imm64 m) n e = absurd (cc e)

same_8 : (m n : ℕ) → some_immediate (Imm8 m) ≡ Some (Imm8 n) → m ≡ n
same_8 m n e = cc

same_16 : (m n : ℕ) → some_immediate (Imm16 m) ≡ Some (Imm16 n) → m ≡ n
same_16 m n e = cc

byte_number : (n : ℕ) → IsNumberOf (Imm8 n) (pos n)
unfolding immediate
byte_number n [] b e = absurd (cc e)
byte_number n (a ∷ []) b e = subst (λ (k : ℕ). number_bytes 1 (pos k) ≡ a ∷ []) (same_8 a n e) (byte_back a (b 0))
byte_number n (a ∷ c ∷ []) b e = absurd (cc e)
byte_number n (a ∷ c ∷ d ∷ []) b e = absurd (cc e)
byte_number n (a ∷ c ∷ d ∷ f ∷ []) b e = absurd (cc e)
byte_number n (a ∷ c ∷ d ∷ f ∷ g ∷ []) b e = absurd (cc e)
byte_number n (a ∷ c ∷ d ∷ f ∷ g ∷ h ∷ []) b e = absurd (cc e)
byte_number n (a ∷ c ∷ d ∷ f ∷ g ∷ h ∷ j ∷ []) b e = absurd (cc e)
byte_number n (a ∷ c ∷ d ∷ f ∷ g ∷ h ∷ j ∷ k ∷ []) b e = absurd (cc e)
byte_number n (a ∷ c ∷ d ∷ f ∷ g ∷ h ∷ j ∷ k ∷ m ∷ l) b e = absurd (cc e)

word_number : (n : ℕ) → IsNumberOf (Imm16 n) (pos n)
unfolding immediate
word_number n [] b e = absurd (cc e)
word_number n (a ∷ []) b e = absurd (cc e)
word_number n (a ∷ c ∷ []) b e = subst (λ (k : ℕ). number_bytes 2 (pos k) ≡ a ∷ c ∷ []) (same_16 (from_le_bytes w16 (a ∷ c ∷ [])) n e) (word_two a c (b 0) (b 1))
word_number n (a ∷ c ∷ d ∷ []) b e = absurd (cc e)
word_number n (a ∷ c ∷ d ∷ f ∷ []) b e = absurd (cc e)
word_number n (a ∷ c ∷ d ∷ f ∷ g ∷ []) b e = absurd (cc e)
word_number n (a ∷ c ∷ d ∷ f ∷ g ∷ h ∷ []) b e = absurd (cc e)
word_number n (a ∷ c ∷ d ∷ f ∷ g ∷ h ∷ j ∷ []) b e = absurd (cc e)
word_number n (a ∷ c ∷ d ∷ f ∷ g ∷ h ∷ j ∷ k ∷ []) b e = absurd (cc e)
word_number n (a ∷ c ∷ d ∷ f ∷ g ∷ h ∷ j ∷ k ∷ m ∷ l) b e = absurd (cc e)

-- one byte, and two, without a sign
pub of_unsigned8 : (i : Immediate) (n : ℕ) → unsigned8 i ≡ Some n → IsNumberOf i (pos n)
of_unsigned8 i n e = subst (λ (k : Immediate). IsNumberOf k (pos n)) (sym (eight_of i n e)) (byte_number n)

pub of_unsigned16 : (i : Immediate) (n : ℕ) → unsigned16 i ≡ Some n → IsNumberOf i (pos n)
of_unsigned16 i n e = subst (λ (k : Immediate). IsNumberOf k (pos n)) (sym (sixteen_of i n e)) (word_number n)

-- ---- the immediate of a row

zero_back : (l : List ℕ) (v : ℤ) → length l ≡ 0 → number_bytes 0 v ≡ l
unfolding number_bytes
zero_back [] v n = refl
zero_back (a ∷ l) v n = absurd (omega arith)

pub imm_small : (i : Imm) (w : Width) → imm_len i w ≤ 8
unfolding imm_len
imm_small imm.None w = omega arith
imm_small imm.B w = omega arith
imm_small imm.W w = omega arith
imm_small imm.D w = omega arith
imm_small imm.Z width.B = omega arith
imm_small imm.Z width.W = omega arith
imm_small imm.Z width.D = omega arith
imm_small imm.Z width.Q = omega arith
imm_small imm.V width.B = omega arith
imm_small imm.V width.W = omega arith
imm_small imm.V width.D = omega arith
imm_small imm.V width.Q = omega arith

-- a row without an immediate has no bytes of one
pub no_bytes : (i : Imm) (w : Width) (l : List ℕ) (v : ℤ) → has_imm i ≡ false → length l ≡ imm_len i w → number_bytes (imm_len i w) v ≡ l
unfolding imm_len
no_bytes imm.None w l v e n = zero_back l v n
no_bytes imm.B w l v e n = absurd cc
no_bytes imm.W w l v e n = absurd cc
no_bytes imm.D w l v e n = absurd cc
no_bytes imm.Z w l v e n = absurd cc
no_bytes imm.V w l v e n = absurd cc
