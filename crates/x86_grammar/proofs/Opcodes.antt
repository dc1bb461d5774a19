-- What the table gives at an opcode.
use Rattle.std.proofs.Common.{◌≡◌, ℕ, zero, suc, ◌+◌, ◌-◌, ◌*◌, ◌/◌, ◌%◌, ◌<◌, ◌≤◌, Bool, true, false, List, [], ◌∷◌, Option, Some, None, refl, sym, ap, subst, ◌∙◌, arith, ◌⊎◌, inl, inr}
use Rattle.std.specs.Prelude.{not, ◌&&◌, ◌||◌, nat_le, nat_lt, ◌==◌, Contains, slice_index}
use Rattle.std.specs.List.{list_all}
use Rattle.std.proofs.lemmas.Bool.{and_parts, and_from, or_cases, leb-true, ltb-true, eqb-true, eq-eqb, not-true}
use Rattle.std.proofs.lemmas.List.{get_or_past}
use Rattle.x86_grammar.specs.declared.head.Head.{Head}
use Rattle.x86_grammar.specs.declared.head.Rex.{Rex}
use Rattle.x86_grammar.specs.declared.table.Map.{Map}
use Rattle.x86_grammar.specs.declared.table.Map.TheVariants.{One, Two}
use Rattle.x86_grammar.specs.declared.table.Slash.{Slash}
use Rattle.x86_grammar.specs.declared.table.Slash.TheVariants as slash
use Rattle.x86_grammar.specs.declared.table.Side.{Side}
use Rattle.x86_grammar.specs.declared.table.Side.TheVariants as side
use Rattle.x86_grammar.specs.declared.table.Need.{Need}
use Rattle.x86_grammar.specs.declared.table.Need.TheVariants as need
use Rattle.x86_grammar.specs.declared.table.Row.{Row}
use Rattle.x86_grammar.specs.declared.table.TheConstants.{ROWS}
use Rattle.x86_grammar.specs.Fields.{names_memory}
use Rattle.x86_grammar.specs.Rows.{takes, fits, fits_slash, fits_side, has_modrm, row_for, any_row, same_map, implies, same_bool, takes_size, meets}
use Rattle.x86_grammar.proofs.Finding.{find_some, find_only, find_none, pairwise, pairwise_at, any_some, all_at}

-- ---- what a row takes

pub record Takes (row : Row) (h : Head) : Type 0 where
  pub map : same_map row.map h.map ≡ true
  pub low : row.byte ≤ h.byte
  pub high : h.byte < row.byte + row.span
  pub size : implies h.prefixes.size (takes_size row.class) ≡ true
  pub lock : implies h.prefixes.lock row.lock ≡ true
  pub rep : same_bool h.prefixes.rep row.rep ≡ true
  pub need : meets row.need h.rex (h.byte - row.byte) ≡ true

pub takes_parts : (row : Row) (h : Head) → takes row h ≡ true → Takes row h
unfolding takes
takes_parts row h e =
    let a = and_parts _ _ e in
    let b = and_parts _ _ a.1 in
    let c = and_parts _ _ b.1 in
    let d = and_parts _ _ c.1 in
    let f = and_parts _ _ d.1 in
    let g = and_parts _ _ f.1 in
    record { map = a.0; low = leb-true _ _ b.0; high = ltb-true _ _ c.0; size = d.0; lock = f.0; rep = g.0; need = g.1 }

-- ---- what is found

pub record Found (h : Head) (ms : List ℕ) (row : Row) : Type 0 where
  pub fits : fits row h ms ≡ true
  pub among : Contains ROWS row

pub found : (h : Head) (ms : List ℕ) (row : Row) → row_for h ms ≡ Some row → Found h ms row
unfolding row_for
found h ms row e = let f = find_some (λ r. fits r h ms) ROWS row e in record { fits = f.0; among = f.1 }

pub record FitsByte (row : Row) (h : Head) (m : ℕ) : Type 0 where
  pub taken : takes row h ≡ true
  pub slash : fits_slash row.slash m ≡ true
  pub side : fits_side row.side m ≡ true
  pub lock : implies h.prefixes.lock (names_memory m) ≡ true

pub fits_parts : (row : Row) (h : Head) (m : ℕ) → fits row h (m ∷ []) ≡ true → FitsByte row h m
unfolding fits
fits_parts row h m e =
    let a = and_parts _ _ e in
    let b = and_parts _ _ a.1 in
    let c = and_parts _ _ b.1 in
    record { taken = a.0; slash = b.0; side = c.0; lock = c.1 }

pub takes_from_fits : (h : Head) (ms : List ℕ) (row : Row) → fits row h ms ≡ true → takes row h ≡ true
unfolding fits
takes_from_fits h [] row e = (and_parts _ _ e).0
takes_from_fits h (m ∷ []) row e = (and_parts _ _ e).0
takes_from_fits h (m ∷ n ∷ ms) row e = absurd cc

-- a row that is found begins no later than the opcode
pub starts_below : (h : Head) (ms : List ℕ) (row : Row) → row_for h ms ≡ Some row → row.byte ≤ h.byte
starts_below h ms row e = (takes_parts row h (takes_from_fits h ms row (found h ms row e).fits)).low

-- ---- no two rows at one place

abbrev pub digits_apart : Slash → Slash → Bool
digits_apart slash.None s = false
digits_apart slash.Any s = false
digits_apart (slash.Byte a) slash.None = false
digits_apart (slash.Byte a) slash.Any = false
digits_apart (slash.Byte a) (slash.Digit b) = false
digits_apart (slash.Byte a) (slash.Byte b) = not (a == b)
digits_apart (slash.Digit a) slash.None = false
digits_apart (slash.Digit a) slash.Any = false
digits_apart (slash.Digit a) (slash.Byte b) = false
digits_apart (slash.Digit a) (slash.Digit b) = not (a == b)

abbrev pub wants : Need → Need → Bool
wants need.NoB need.NotAcc = true
wants need.NoB need.NoB = false
wants need.NoB need.None = false
wants need.NoB need.Wide = false
wants need.None n = false
wants need.Wide n = false
wants need.NotAcc n = false

-- one wants no REX.B, at its one opcode byte, where the other wants it
abbrev pub needs_apart : Row → Row → Bool
needs_apart r s = wants r.need s.need && ((r.byte == s.byte) && (r.span == 1))

-- no head is that of both
abbrev pub heads_apart : Row → Row → Bool
heads_apart r s =
    not (same_map r.map s.map) || (nat_le (r.byte + r.span) s.byte || (nat_le (s.byte + s.span) r.byte
    || (not (same_bool r.rep s.rep) || (needs_apart r s || needs_apart s r))))

abbrev pub apart : Row → Row → Bool
apart r s = heads_apart r s || digits_apart r.slash s.slash

pub rows_apart : pairwise apart ROWS ≡ true
rows_apart = refl

maps_meet : (a b m : Map) → same_map a m ≡ true → same_map b m ≡ true → not (same_map a b) ≡ true → ⊥
maps_meet One One One p q e = absurd cc
maps_meet One One Two p q e = absurd cc
maps_meet One Two One p q e = absurd cc
maps_meet One Two Two p q e = absurd cc
maps_meet Two One One p q e = absurd cc
maps_meet Two One Two p q e = absurd cc
maps_meet Two Two One p q e = absurd cc
maps_meet Two Two Two p q e = absurd cc

flags_meet : (a b m : Bool) → same_bool m a ≡ true → same_bool m b ≡ true → not (same_bool a b) ≡ true → ⊥
flags_meet true true true p q e = absurd cc
flags_meet true true false p q e = absurd cc
flags_meet true false true p q e = absurd cc
flags_meet true false false p q e = absurd cc
flags_meet false true true p q e = absurd cc
flags_meet false true false p q e = absurd cc
flags_meet false false true p q e = absurd cc
flags_meet false false false p q e = absurd cc

wants_meet : (m n : Need) (rex : Option Rex) (j k : ℕ) → wants m n ≡ true → k ≡ 0 → meets m rex j ≡ true → meets n rex k ≡ true → ⊥
wants_meet need.NoB need.NotAcc None j k w z p q = let l : 0 < k = ltb-true _ _ q in absurd (omega arith)
wants_meet need.NoB need.NotAcc (Some r) j k w z p q =
    elim (or_cases r.b (nat_lt 0 k) q) [
      | inl t ↦ absurd (let f : not r.b ≡ false = ap not t in let bad : true ≡ false = sym p ∙ f in cc bad)
      | inr t ↦ let l : 0 < k = ltb-true _ _ t in absurd (omega arith)
    ]
wants_meet need.NoB need.NoB rex j k w z p q = absurd cc
wants_meet need.NoB need.None rex j k w z p q = absurd cc
wants_meet need.NoB need.Wide rex j k w z p q = absurd cc
wants_meet need.None n rex j k w z p q = absurd cc
wants_meet need.Wide n rex j k w z p q = absurd cc
wants_meet need.NotAcc n rex j k w z p q = absurd cc

needs_meet : (r s : Row) (h : Head) → Takes r h → Takes s h → needs_apart r s ≡ true → ⊥
needs_meet r s h p q e =
    let a = and_parts _ _ e in
    let b = and_parts _ _ a.1 in
    let same : r.byte ≡ s.byte = eqb-true _ _ b.0 in
    let one : r.span ≡ 1 = eqb-true _ _ b.1 in
    wants_meet r.need s.need h.rex (h.byte - r.byte) (h.byte - s.byte) a.0 (omega (arith, p.low, p.high)) p.need q.need

heads_meet : (r s : Row) (h : Head) → Takes r h → Takes s h → heads_apart r s ≡ true → ⊥
heads_meet r s h p q e =
    elim (or_cases _ _ e) [
      | inl m ↦ maps_meet r.map s.map h.map p.map q.map m
      | inr e1 ↦ elim (or_cases _ _ e1) [
        | inl l ↦ let le : r.byte + r.span ≤ s.byte = leb-true _ _ l in absurd (omega (arith, p.high, q.low))
        | inr e2 ↦ elim (or_cases _ _ e2) [
          | inl l ↦ let le : s.byte + s.span ≤ r.byte = leb-true _ _ l in absurd (omega (arith, q.high, p.low))
          | inr e3 ↦ elim (or_cases _ _ e3) [
            | inl f ↦ flags_meet r.rep s.rep h.prefixes.rep p.rep q.rep f
            | inr e4 ↦ elim (or_cases _ _ e4) [
              | inl n ↦ needs_meet r s h p q n
              | inr n ↦ needs_meet s r h q p n
            ]
          ]
        ]
      ]
    ]

digits_meet : (a b : Slash) (m : ℕ) → fits_slash a m ≡ true → fits_slash b m ≡ true → digits_apart a b ≡ true → ⊥
digits_meet slash.None b m p q e = absurd cc
digits_meet slash.Any b m p q e = absurd cc
digits_meet (slash.Byte a) slash.None m p q e = absurd cc
digits_meet (slash.Byte a) slash.Any m p q e = absurd cc
digits_meet (slash.Byte a) (slash.Digit b) m p q e = absurd cc
digits_meet (slash.Byte a) (slash.Byte b) m p q e =
    let x : m ≡ a = eqb-true _ _ p in
    let y : m ≡ b = eqb-true _ _ q in
    let same : (a == b) ≡ true = eq-eqb a b (sym x ∙ y) in
    absurd (let bad : true ≡ false = sym e ∙ ap not same in cc bad)
digits_meet (slash.Digit a) slash.None m p q e = absurd cc
digits_meet (slash.Digit a) slash.Any m p q e = absurd cc
digits_meet (slash.Digit a) (slash.Byte b) m p q e = absurd cc
digits_meet (slash.Digit a) (slash.Digit b) m p q e =
    let x : m / 8 % 8 ≡ a = eqb-true _ _ p in
    let y : m / 8 % 8 ≡ b = eqb-true _ _ q in
    let same : (a == b) ≡ true = eq-eqb a b (sym x ∙ y) in
    absurd (let bad : true ≡ false = sym e ∙ ap not same in cc bad)

no_digits : (a b : Slash) → has_modrm a ≡ false → digits_apart a b ≡ true → ⊥
no_digits slash.None b p e = absurd cc
no_digits slash.Any b p e = absurd cc
no_digits (slash.Digit a) b p e = absurd cc
no_digits (slash.Byte a) b p e = absurd cc

no_digits' : (a b : Slash) → has_modrm b ≡ false → digits_apart a b ≡ true → ⊥
no_digits' slash.None b p e = absurd cc
no_digits' slash.Any b p e = absurd cc
no_digits' (slash.Byte a) slash.None p e = absurd cc
no_digits' (slash.Byte a) slash.Any p e = absurd cc
no_digits' (slash.Byte a) (slash.Digit b) p e = absurd cc
no_digits' (slash.Byte a) (slash.Byte b) p e = absurd cc
no_digits' (slash.Digit a) slash.None p e = absurd cc
no_digits' (slash.Digit a) slash.Any p e = absurd cc
no_digits' (slash.Digit a) (slash.Digit b) p e = absurd cc
no_digits' (slash.Digit a) (slash.Byte b) p e = absurd cc

pub fits_none : (row : Row) (h : Head) → fits row h [] ≡ true → has_modrm row.slash ≡ false
unfolding fits
fits_none row h e = not-true _ (and_parts _ _ e).1

pub slash_has : (a : Slash) (m : ℕ) → fits_slash a m ≡ true → has_modrm a ≡ true
slash_has slash.None m e = absurd cc
slash_has slash.Any m e = refl
slash_has (slash.Digit d) m e = refl
slash_has (slash.Byte b) m e = refl

pub no_second : (r : Row) (h : Head) (m n : ℕ) (ms : List ℕ) → fits r h (m ∷ n ∷ ms) ≡ true → ⊥
unfolding fits
no_second r h m n ms p = absurd cc

-- two rows that fit are not apart
apart_meet : (r s : Row) (h : Head) (ms : List ℕ) → fits r h ms ≡ true → fits s h ms ≡ true → apart r s ≡ true → ⊥
apart_meet r s h [] p q e =
    elim (or_cases _ _ e) [
      | inl a ↦ heads_meet r s h (takes_parts r h (takes_from_fits h [] r p)) (takes_parts s h (takes_from_fits h [] s q)) a
      | inr d ↦ no_digits r.slash s.slash (fits_none r h p) d
    ]
apart_meet r s h (m ∷ []) p q e =
    let a = fits_parts r h m p in
    let b = fits_parts s h m q in
    elim (or_cases _ _ e) [
      | inl x ↦ heads_meet r s h (takes_parts r h a.taken) (takes_parts s h b.taken) x
      | inr d ↦ digits_meet r.slash s.slash m a.slash b.slash d
    ]
apart_meet r s h (m ∷ n ∷ ms) p q e = absurd (no_second r h m n ms p)

pub one_row : (r s : Row) (h : Head) (ms : List ℕ) → Contains ROWS r → Contains ROWS s → fits r h ms ≡ true → fits s h ms ≡ true → r ≡ s
one_row r s h ms c d p q =
    elim (pairwise_at apart ROWS r s rows_apart c d) [
      | inl e ↦ e
      | inr a ↦ elim a [
        | inl x ↦ absurd (apart_meet r s h ms p q x)
        | inr x ↦ absurd (apart_meet s r h ms q p x)
      ]
    ]

-- a row without a ModRM byte and one with it have no head in common
mixed : (r s : Row) (h : Head) (m : ℕ) → fits r h [] ≡ true → fits s h (m ∷ []) ≡ true → (r ≡ s) ⊎ ((apart r s ≡ true) ⊎ (apart s r ≡ true)) → ⊥
mixed r s h m p q e =
    let b = fits_parts s h m q in
    let tr = takes_parts r h (takes_from_fits h [] r p) in
    let ts = takes_parts s h b.taken in
    elim e [
      | inl same ↦ absurd (let bad : true ≡ false = sym (slash_has s.slash m b.slash) ∙ subst (λ (w : Row). has_modrm w.slash ≡ false) same (fits_none r h p) in cc bad)
      | inr a ↦ elim a [
        | inl x ↦ elim (or_cases _ _ x) [ inl y ↦ heads_meet r s h tr ts y | inr y ↦ no_digits r.slash s.slash (fits_none r h p) y ]
        | inr x ↦ elim (or_cases _ _ x) [ inl y ↦ heads_meet s r h ts tr y | inr y ↦ no_digits' s.slash r.slash (fits_none r h p) y ]
      ]
    ]

-- ---- the table gives the row that fits

pub row_for_fits : (row : Row) (h : Head) (ms : List ℕ) → Contains ROWS row → fits row h ms ≡ true → row_for h ms ≡ Some row
unfolding row_for
row_for_fits row h ms c e = find_only (λ r. fits r h ms) ROWS row c e (λ y d f. one_row y row h ms d c f e)

pub row_for_none : (row : Row) (h : Head) (m : ℕ) → Contains ROWS row → fits row h (m ∷ []) ≡ true → row_for h [] ≡ None
unfolding row_for
row_for_none row h m c e = find_none (λ r. fits r h []) ROWS (λ y d f. mixed y row h m f e (pairwise_at apart ROWS y row rows_apart d c))

-- ---- each row has a ModRM byte that it may have, where it has one

abbrev pub base_of : Side → ℕ
base_of side.Any = 0
base_of side.Mem = 0
base_of side.Reg = 192

abbrev pub digit_part : Slash → ℕ
digit_part slash.None = 0
digit_part slash.Any = 0
digit_part (slash.Digit d) = 8 * d
digit_part (slash.Byte b) = b - 192

abbrev pub some_modrm : Row → ℕ
some_modrm row = base_of row.side + digit_part row.slash

abbrev pub opens : Row → Bool
opens row = not (has_modrm row.slash) || (fits_slash row.slash (some_modrm row) && (fits_side row.side (some_modrm row) && (implies row.lock (names_memory (some_modrm row)) && nat_lt (some_modrm row) 256)))

pub rows_open : list_all opens ROWS ≡ true
rows_open = refl

locked : (a b c : Bool) → implies a b ≡ true → implies b c ≡ true → implies a c ≡ true
locked true true c p q = q
locked true false c p q = absurd cc
locked false b c p q = refl

one_byte : (m : ℕ) → m < 256 → (i : ℕ) → slice_index (m ∷ []) i < 256
one_byte m lt zero = lt
one_byte m lt (suc i) = omega (arith, get_or_past {X = ℕ} [] i 0 (omega arith))

-- a head that a row takes can be followed
pub record Opens (h : Head) : Type 0 where
  pub row : Row
  pub modrm : List ℕ
  pub among : Contains ROWS row
  pub fits : fits row h modrm ≡ true
  pub bytes : (i : ℕ) → slice_index modrm i < 256

pub opens_from : (h : Head) → any_row h ≡ true → Opens h
unfolding any_row fits
opens_from h e =
    let a = any_some (λ row. takes row h) ROWS e in
    let o = all_at opens ROWS a.0 rows_open a.1 in
    elim (or_cases _ _ o) [
      | inl n ↦ record { row = a.0; modrm = []; among = a.1; fits = and_from _ _ a.2 n; bytes = λ i. omega (arith, get_or_past {X = ℕ} [] i 0 (omega arith)) }
      | inr b ↦
          let x = and_parts _ _ b in
          let y = and_parts _ _ x.1 in
          let z = and_parts _ _ y.1 in
          let lt : some_modrm a.0 < 256 = ltb-true _ _ z.1 in
          record {
            row = a.0;
            modrm = some_modrm a.0 ∷ [];
            among = a.1;
            fits = and_from _ _ a.2 (and_from _ _ x.0 (and_from _ _ y.0 (locked h.prefixes.lock a.0.lock (names_memory (some_modrm a.0)) (takes_parts a.0 h a.2).lock z.0)));
            bytes = λ i. one_byte (some_modrm a.0) lt i;
          }
    ]
