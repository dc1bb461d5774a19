-- The six status flags. Source: Intel SDM volume 1, section 3.4.3.1.
use Rattle.std.specs.Prelude.{◌≡◌, ◌≢◌, ℕ, ◌+◌, ◌*◌, ◌/◌, ◌%◌, ◌^◌, Bool, true, false, ◌==◌, count_ones}
use Rattle.std.specs.Int.{bit_at}
use Rattle.x86_alu.specs.declared.flags.Flags.{Flags}
use Rattle.x86_alu.specs.Operand.{is_negative}

-- their places in RFLAGS, and those of the interrupt and the direction flag (volume 1, section 3.4.3)
abbrev pub CF : ℕ
CF = 0

abbrev pub PF : ℕ
PF = 2

abbrev pub AF : ℕ
AF = 4

abbrev pub ZF : ℕ
ZF = 6

abbrev pub SF : ℕ
SF = 7

abbrev pub IF : ℕ
IF = 9

abbrev pub DF : ℕ
DF = 10

abbrev pub OF : ℕ
OF = 11

-- what a truth value adds as a bit
abbrev pub bit : Bool → ℕ
bit true = 1
bit false = 0

-- bit i of n is 1
unfoldable pub is_set : ℕ → ℕ → Bool
is_set n i = bit_at n i == 1

-- n with b as its bit i: what stands above that bit, the bit, and what stands below
unfoldable pub with_bit : ℕ → ℕ → Bool → ℕ
with_bit n i b = n / 2 ^ (i + 1) * 2 ^ (i + 1) + bit b * 2 ^ i + n % 2 ^ i

-- RFLAGS with exactly these six flags replaced
unfoldable pub with_flags : ℕ → Flags → ℕ
with_flags n f =
    with_bit (with_bit (with_bit (with_bit (with_bit (with_bit n CF f.cf) PF f.pf) AF f.af) ZF f.zf) SF f.sf) OF f.of

-- what that means: the six flags are these, and every other bit stays
pub record AreReplaced (old new : ℕ) (f : Flags) : Type 0 where
  pub cf : is_set new CF ≡ f.cf
  pub pf : is_set new PF ≡ f.pf
  pub af : is_set new AF ≡ f.af
  pub zf : is_set new ZF ≡ f.zf
  pub sf : is_set new SF ≡ f.sf
  pub of : is_set new OF ≡ f.of
  pub others : (i : ℕ) → i ≢ CF → i ≢ PF → i ≢ AF → i ≢ ZF → i ≢ SF → i ≢ OF → is_set new i ≡ is_set old i

-- RFLAGS with CF and OF replaced
unfoldable pub with_carry_overflow : ℕ → Bool → Bool → ℕ
with_carry_overflow n cf of = with_bit (with_bit n CF cf) OF of

-- the carry flag
abbrev pub carry_of : ℕ → Bool
carry_of n = is_set n CF

-- the zero flag
abbrev pub zero_of : ℕ → Bool
zero_of n = is_set n ZF

-- the low byte has an even number of ones
unfoldable pub is_parity_even : ℕ → Bool
is_parity_even r = count_ones (r % 256) % 2 == 0

-- ZF, SF and PF by a result r; the other three are clear
unfoldable pub of_result : ℕ → ℕ → Flags
of_result m r = record { cf = false; pf = is_parity_even r; af = false; zf = r == 0; sf = is_negative m r; of = false }
