-- Prefixes, REX and opcode.
use Rattle.std.proofs.Common.{◌≡◌, ℕ, zero, suc, ◌+◌, ◌<◌, ◌≤◌, Bool, true, false, cond, List, [], ◌∷◌, ◌++◌, Option, Some, None, Ok, Err, refl, sym, ap, subst, ◌∙◌, arith, append_assoc, ◌⊎◌, inl, inr}
use Rattle.std.specs.Prelude.{◌≢◌, not, ◌&&◌, ◌||◌, nat_lt, nat_le}
use Rattle.std.specs.List.{list_all}
use Rattle.std.proofs.lemmas.Bool.{cases_Bool, and_parts, or_cases, leb-true, ltb-true, not-true, cases_eq, ne_eqb, and_left, and_right, lt-leb, le-ltb}
use Rattle.std.proofs.lemmas.Bool.Decides.{nat_tests}
use Rattle.x86_grammar.specs.declared.head.Prefixes.{Prefixes}
use Rattle.x86_grammar.specs.declared.head.Rex.{Rex}
use Rattle.x86_grammar.specs.declared.head.Head.{Head}
use Rattle.x86_decode.specs.declared.fault.DecodeFault.{DecodeFault}
use Rattle.x86_decode.specs.declared.fault.DecodeFault.TheVariants.{Short, Unknown}
use Rattle.x86_grammar.specs.declared.table.Map.{Map}
use Rattle.x86_grammar.specs.declared.table.Map.TheVariants.{One, Two}
use Rattle.x86_grammar.specs.declared.table.Row.{Row}
use Rattle.x86_grammar.specs.declared.table.TheConstants.{ROWS}
use Rattle.x86_grammar.specs.Rows.{no_prefix, add_prefix, clashes, is_rex, rex_of, any_row, takes, same_map, implies, same_bool, takes_size}
use Rattle.byte_reader.specs.Reader.{Read, Reader, then_read, ◌>>=◌}
use Rattle.x86_decode.specs.Reading.{scan, rex_at, known, second_at, opcode_at, head_at}
use Rattle.x86_grammar.specs.Grammar.{IsBytes, ArePrefixes, IsRex, IsOpcode, IsHead}
use Rattle.x86_grammar.proofs.Finding.{any_some, all_at}
use Rattle.x86_grammar.proofs.Opcodes.{Takes, takes_parts}
use Rattle.x86_decode.proofs.Laws.{Reads, IsBytes-nil}

-- ---- prefixes

abbrev scan_with : Option Prefixes → Prefixes → ℕ → List ℕ → Prefixes × List ℕ
scan_with o p b bs = elim o [ None ↦ (p, b ∷ bs) | Some q ↦ scan q bs ]

pub scan_some : (p q : Prefixes) (b : ℕ) (bs : List ℕ) → add_prefix b p ≡ Some q → scan p (b ∷ bs) ≡ scan q bs
scan_some p q b bs e = ap (λ (o : Option Prefixes). scan_with o p b bs) e

pub scan_none : (p : Prefixes) (b : ℕ) (bs : List ℕ) → add_prefix b p ≡ None → scan p (b ∷ bs) ≡ (p, b ∷ bs)
scan_none p b bs e = ap (λ (o : Option Prefixes). scan_with o p b bs) e

cases_option : {A : Type 0} (o : Option A) → ((a : A) × (o ≡ Some a)) ⊎ (o ≡ None)
cases_option None = inr refl
cases_option (Some a) = inl (a, refl)

-- no prefix may be added
abbrev pub Stops : Prefixes → List ℕ → Type 0
Stops p [] = Unit {0}
Stops p (b ∷ bs) = add_prefix b p ≡ None

pub record Scanned (p : Prefixes) (bs : List ℕ) (x : Prefixes × List ℕ) : Type 0 where
  pub front : List ℕ
  pub parts : bs ≡ front ++ x.1
  pub are : ArePrefixes p front x.0
  pub stops : Stops x.0 x.1

pub scanned : (p : Prefixes) (bs : List ℕ) → Scanned p bs (scan p bs)
scanned p [] = record { front = []; parts = refl; are = refl; stops = tt }
scanned p (b ∷ bs) =
    elim (cases_option (add_prefix b p)) [
      | inl (q, e) ↦
          let s = scanned q bs in
          subst (Scanned p (b ∷ bs)) (sym (scan_some p q b bs e))
          (record { front = b ∷ s.front; parts = ap (λ (t : List ℕ). b ∷ t) s.parts; are = (q, e, s.are); stops = s.stops })
      | inr e ↦ subst (Scanned p (b ∷ bs)) (sym (scan_none p b bs e)) (record { front = []; parts = refl; are = refl; stops = e })
    ]

scan_stops : (p : Prefixes) (rest : List ℕ) → Stops p rest → scan p rest ≡ (p, rest)
scan_stops p [] s = refl
scan_stops p (b ∷ rest) s = scan_none p b rest s

pub scan_over : (p q : Prefixes) (front rest : List ℕ) → ArePrefixes p front q → scan p (front ++ rest) ≡ scan q rest
scan_over p q [] rest a = ap (λ (z : Prefixes). scan z rest) a
scan_over p q (b ∷ front) rest a = scan_some p a.0 b (front ++ rest) a.1 ∙ scan_over a.0 q front rest a.2

-- a clash stays
add_keeps : (b : ℕ) (p q : Prefixes) → add_prefix b p ≡ Some q → clashes p ≡ true → clashes q ≡ true
unfolding add_prefix
add_keeps b p q e c = grind (arith, nat_tests)

pub scan_keeps : (p : Prefixes) (bs : List ℕ) → clashes p ≡ true → clashes (scan p bs).0 ≡ true
scan_keeps p [] c = c
scan_keeps p (b ∷ bs) c =
    elim (cases_option (add_prefix b p)) [
      | inl (q, e) ↦ subst (λ (x : Prefixes × List ℕ). clashes x.0 ≡ true) (sym (scan_some p q b bs e)) (scan_keeps q bs (add_keeps b p q e c))
      | inr e ↦ subst (λ (x : Prefixes × List ℕ). clashes x.0 ≡ true) (sym (scan_none p b bs e)) c
    ]

-- ---- bytes that are no prefix

not_prefix : (b : ℕ) (p : Prefixes) → b ≢ 0x66 → b ≢ 0xF0 → b ≢ 0xF3 → add_prefix b p ≡ None
unfolding add_prefix
not_prefix b p x y z = rw (ne_eqb b 0x66 x, ne_eqb b 0xF0 y, ne_eqb b 0xF3 z) refl

abbrev apart_from : Row → ℕ → Bool
apart_from row b = nat_lt b row.byte || nat_le (row.byte + row.span) b

abbrev plain : Row → Bool
plain row = apart_from row 0x66 && (apart_from row 0xF0 && (apart_from row 0xF3 && (apart_from row 15 && (nat_le (row.byte + row.span) 64 || nat_le 80 row.byte))))

abbrev first_map : Row → Bool
first_map row = not (same_map row.map One) || plain row

rows_plain : list_all first_map ROWS ≡ true
rows_plain = refl

apart_ne : (row : Row) (h : Head) (b : ℕ) → Takes row h → apart_from row b ≡ true → h.byte ≢ b
apart_ne row h b t e =
    elim (or_cases _ _ e) [
      | inl l ↦ let lt : b < row.byte = ltb-true _ _ l in λ s. absurd (omega (arith, t.low))
      | inr l ↦ let le : row.byte + row.span ≤ b = leb-true _ _ l in λ s. absurd (omega (arith, t.high))
    ]

no_rex : (row : Row) (h : Head) → Takes row h → (nat_le (row.byte + row.span) 64 || nat_le 80 row.byte) ≡ true → is_rex h.byte ≡ false
no_rex row h t e =
    elim (or_cases _ _ e) [
      | inl l ↦ let le : row.byte + row.span ≤ 64 = leb-true _ _ l in and_left _ _ (lt-leb 64 h.byte (omega (arith, t.high)))
      | inr l ↦ let le : 80 ≤ row.byte = leb-true _ _ l in and_right _ _ (le-ltb h.byte 80 (omega (arith, t.low)))
    ]

-- an opcode of the first map is no prefix, no REX byte and not 0F
pub record Plain (b : ℕ) : Type 0 where
  pub size : b ≢ 0x66
  pub lock : b ≢ 0xF0
  pub rep : b ≢ 0xF3
  pub two : b ≢ 15
  pub rex : is_rex b ≡ false

pub plain_opcode : (h : Head) → h.map ≡ One → any_row h ≡ true → Plain h.byte
unfolding any_row
plain_opcode h m e =
    let a = any_some (λ row. takes row h) ROWS e in
    let t = takes_parts a.0 h a.2 in
    let o = all_at first_map ROWS a.0 rows_plain a.1 in
    elim (or_cases _ _ o) [
      | inl n ↦ absurd (let x : same_map a.0.map One ≡ true = subst (λ (k : Map). same_map a.0.map k ≡ true) m t.map in let bad : true ≡ false = sym x ∙ not-true _ n in cc bad)
      | inr p ↦
          let p1 = and_parts _ _ p in
          let p2 = and_parts _ _ p1.1 in
          let p3 = and_parts _ _ p2.1 in
          let p4 = and_parts _ _ p3.1 in
          record { size = apart_ne a.0 h 0x66 t p1.0; lock = apart_ne a.0 h 0xF0 t p2.0; rep = apart_ne a.0 h 0xF3 t p3.0; two = apart_ne a.0 h 15 t p4.0; rex = no_rex a.0 h t p4.1 }
    ]

-- the prefixes of a head that a row takes do not clash
abbrev calm : Row → Bool
calm row = not row.rep || (not row.lock && not (takes_size row.class))

rows_calm : list_all calm ROWS ≡ true
rows_calm = refl

calm_flags : (size lock rep r l t : Bool) → implies size t ≡ true → implies lock l ≡ true → same_bool rep r ≡ true → (not r || (not l && not t)) ≡ true → (rep && (size || lock)) ≡ false
calm_flags size lock false r l t a b c d = refl
calm_flags false false true r l t a b c d = refl
calm_flags size lock true false l t a b c d = absurd cc
calm_flags true lock true true true t a b c d = absurd cc
calm_flags true lock true true false true a b c d = absurd cc
calm_flags true lock true true false false a b c d = absurd cc
calm_flags false true true true true t a b c d = absurd cc
calm_flags false true true true false t a b c d = absurd cc

pub no_clash : (h : Head) → any_row h ≡ true → clashes h.prefixes ≡ false
unfolding any_row
no_clash h e =
    let a = any_some (λ row. takes row h) ROWS e in
    let t = takes_parts a.0 h a.2 in
    calm_flags h.prefixes.size h.prefixes.lock h.prefixes.rep a.0.rep a.0.lock (takes_size a.0.class) t.size t.lock t.rep (all_at calm ROWS a.0 rows_calm a.1)

-- ---- REX

rex_some : (b : ℕ) (bs : List ℕ) → is_rex b ≡ true → rex_at (b ∷ bs) ≡ (Some (rex_of b), bs)
rex_some b bs e = ap (λ (t : Bool). cond t (Some (rex_of b), bs) (None, b ∷ bs)) e

rex_none : (b : ℕ) (bs : List ℕ) → is_rex b ≡ false → rex_at (b ∷ bs) ≡ (None, b ∷ bs)
rex_none b bs e = ap (λ (t : Bool). cond t (Some (rex_of b), bs) (None, b ∷ bs)) e

abbrev NoRex : List ℕ → Type 0
NoRex [] = Unit {0}
NoRex (b ∷ bs) = is_rex b ≡ false

record RexRead (bs : List ℕ) (x : Option Rex × List ℕ) : Type 0 where
  front : List ℕ
  parts : bs ≡ front ++ x.1
  is : IsRex x.0 front

rex_read : (bs : List ℕ) → RexRead bs (rex_at bs)
rex_read [] = record { front = []; parts = refl; is = refl }
rex_read (b ∷ bs) =
    elim (cases_Bool (is_rex b)) [
      | inl t ↦ subst (RexRead (b ∷ bs)) (sym (rex_some b bs t)) (record { front = b ∷ []; parts = refl; is = (b, refl, t, refl) })
      | inr f ↦ subst (RexRead (b ∷ bs)) (sym (rex_none b bs f)) (record { front = []; parts = refl; is = refl })
    ]

no_rex_at : (rest : List ℕ) → NoRex rest → rex_at rest ≡ (None, rest)
no_rex_at [] n = refl
no_rex_at (b ∷ rest) n = rex_none b rest n

rex_over : (r : Option Rex) (front rest : List ℕ) → IsRex r front → NoRex rest → rex_at (front ++ rest) ≡ (r, rest)
rex_over None front rest i n = ap (λ (t : List ℕ). rex_at (t ++ rest)) i ∙ no_rex_at rest n
rex_over (Some r) front rest i n =
    ap (λ (t : List ℕ). rex_at (t ++ rest)) i.1 ∙ rex_some i.0 rest i.2 ∙ ap (λ (k : Rex). (Some k, rest)) i.3

-- ---- opcode

abbrev head_of : Prefixes → Option Rex → Map → ℕ → Head
head_of p rex m b = record { prefixes = p; rex = rex; map = m; byte = b }

abbrev good : Head → List ℕ → Read DecodeFault Head
good h bs = Ok (h, bs)

known_yes : (h : Head) (bs : List ℕ) → any_row h ≡ true → known h bs ≡ Ok (h, bs)
known_yes h bs e = ap (λ (t : Bool). cond t (good h bs) (Err Unknown)) e

known_no : (h : Head) (bs : List ℕ) → any_row h ≡ false → known h bs ≡ Err Unknown
known_no h bs e = ap (λ (t : Bool). cond t (good h bs) (Err Unknown)) e

opcode_two : (p : Prefixes) (rex : Option Rex) (bs : List ℕ) → opcode_at p rex (15 ∷ bs) ≡ second_at p rex bs
unfolding opcode_at
opcode_two p rex bs = refl

opcode_one : (p : Prefixes) (rex : Option Rex) (b : ℕ) (bs : List ℕ) → b ≢ 15 → opcode_at p rex (b ∷ bs) ≡ known (head_of p rex One b) bs
unfolding opcode_at
opcode_one p rex b bs n = ap (λ (t : Bool). cond t (second_at p rex bs) (known (head_of p rex One b) bs)) (ne_eqb b 15 n)

opcode_none : (p : Prefixes) (rex : Option Rex) → opcode_at p rex [] ≡ Err Short
unfolding opcode_at
opcode_none p rex = refl

record OpcodeRead (p : Prefixes) (rex : Option Rex) (bs : List ℕ) (x : Head × List ℕ) : Type 0 where
  front : List ℕ
  parts : bs ≡ front ++ x.1
  is : IsOpcode x.0.map x.0.byte front
  prefixes : x.0.prefixes ≡ p
  rex_is : x.0.rex ≡ rex
  live : any_row x.0 ≡ true

same_ok : (x y : Head × List ℕ) → ◌≡◌ {A = Read DecodeFault Head} (Ok x) (Ok y) → x ≡ y
same_ok x y e = cc

ok_err : (x : Head × List ℕ) (d : DecodeFault) → ◌≡◌ {A = Read DecodeFault Head} (Ok x) (Err d) → {P : Type 0} → P
ok_err x d e = absurd cc

err_ok : (x : Head × List ℕ) (d : DecodeFault) → ◌≡◌ {A = Read DecodeFault Head} (Err d) (Ok x) → {P : Type 0} → P
err_ok x d e = absurd cc

short_unknown : ◌≡◌ {A = Read DecodeFault Head} (Err Short) (Err Unknown) → {P : Type 0} → P
short_unknown e = absurd cc

unknown_short : ◌≡◌ {A = Read DecodeFault Head} (Err Unknown) (Err Short) → {P : Type 0} → P
unknown_short e = absurd cc

known_cases : (h : Head) (bs : List ℕ) (y : Read DecodeFault Head) → known h bs ≡ y → ((any_row h ≡ true) × (good h bs ≡ y)) ⊎ ((any_row h ≡ false) × (◌≡◌ {A = Read DecodeFault Head} (Err Unknown) y))
known_cases h bs y e =
    elim (cases_Bool (any_row h)) [
      | inl t ↦ inl (t, sym (known_yes h bs t) ∙ e)
      | inr f ↦ inr (f, sym (known_no h bs f) ∙ e)
    ]

second_read : (p : Prefixes) (rex : Option Rex) (b : ℕ) (bs : List ℕ) (x : Head × List ℕ) → b ≡ 15 → second_at p rex bs ≡ Ok x → OpcodeRead p rex (b ∷ bs) x
second_read p rex b [] x s e = err_ok x Short e
second_read p rex b (c ∷ bs) x s e =
    elim (known_cases (head_of p rex Two c) bs (Ok x) e) [
      | inl (t, k) ↦ subst (OpcodeRead p rex (b ∷ c ∷ bs)) (same_ok (head_of p rex Two c, bs) x k) (record { front = b ∷ c ∷ []; parts = refl; is = ap (λ (k : ℕ). k ∷ c ∷ []) s; prefixes = refl; rex_is = refl; live = t })
      | inr (f, k) ↦ err_ok x Unknown k
    ]

opcode_read : (p : Prefixes) (rex : Option Rex) (bs : List ℕ) (x : Head × List ℕ) → opcode_at p rex bs ≡ Ok x → OpcodeRead p rex bs x
opcode_read p rex [] x e = err_ok x Short (sym (opcode_none p rex) ∙ e)
opcode_read p rex (b ∷ bs) x e =
    elim (cases_eq b 15) [
      | inl s ↦ second_read p rex b bs x s (sym (ap (λ (k : ℕ). opcode_at p rex (k ∷ bs)) s ∙ opcode_two p rex bs) ∙ e)
      | inr n ↦ elim (known_cases (head_of p rex One b) bs (Ok x) (sym (opcode_one p rex b bs n) ∙ e)) [
        | inl (t, k) ↦ subst (OpcodeRead p rex (b ∷ bs)) (same_ok (head_of p rex One b, bs) x k) (record { front = b ∷ []; parts = refl; is = refl; prefixes = refl; rex_is = refl; live = t })
        | inr (f, k) ↦ err_ok x Unknown k
      ]
    ]

opcode_over : (p : Prefixes) (rex : Option Rex) (m : Map) (b : ℕ) (op rest : List ℕ) → IsOpcode m b op → (m ≡ One → Plain b) → any_row (head_of p rex m b) ≡ true → opcode_at p rex (op ++ rest) ≡ Ok (head_of p rex m b, rest)
opcode_over p rex One b op rest i q l = ap (λ (t : List ℕ). opcode_at p rex (t ++ rest)) i ∙ opcode_one p rex b rest (q refl).two ∙ known_yes (head_of p rex One b) rest l
opcode_over p rex Two b op rest i q l = ap (λ (t : List ℕ). opcode_at p rex (t ++ rest)) i ∙ opcode_two p rex (b ∷ rest) ∙ known_yes (head_of p rex Two b) rest l

stops_at : (p : Prefixes) (m : Map) (b : ℕ) (op rest : List ℕ) → IsOpcode m b op → (m ≡ One → Plain b) → Stops p (op ++ rest) × NoRex (op ++ rest)
stops_at p One b op rest i q =
    let k = q refl in
    subst (λ (t : List ℕ). Stops p (t ++ rest) × NoRex (t ++ rest)) (sym i) (not_prefix b p k.size k.lock k.rep, k.rex)
stops_at p Two b op rest i q =
    subst (λ (t : List ℕ). Stops p (t ++ rest) × NoRex (t ++ rest)) (sym i) (not_prefix 15 p (λ e. absurd (omega arith)) (λ e. absurd (omega arith)) (λ e. absurd (omega arith)), refl)

stops_rex : (p : Prefixes) (r : Option Rex) (front rest : List ℕ) → IsRex r front → Stops p rest → Stops p (front ++ rest)
stops_rex p None front rest i s = subst (λ (t : List ℕ). Stops p (t ++ rest)) (sym i) s
stops_rex p (Some r) front rest i s =
    let both = and_parts _ _ i.2 in
    let low : 64 ≤ i.0 = leb-true _ _ both.0 in
    let high : i.0 < 80 = ltb-true _ _ both.1 in
    subst (λ (t : List ℕ). Stops p (t ++ rest)) (sym i.1) (not_prefix i.0 p (λ e. absurd (omega arith)) (λ e. absurd (omega arith)) (λ e. absurd (omega arith)))

-- ---- the head

abbrev scan_all : List ℕ → Prefixes × List ℕ
scan_all bs = scan no_prefix bs

abbrev rest_at : Prefixes × List ℕ → Read DecodeFault Head
rest_at s = opcode_at s.0 (rex_at s.1).0 (rex_at s.1).1

head_yes : (bs : List ℕ) → clashes (scan_all bs).0 ≡ false → head_at bs ≡ rest_at (scan_all bs)
unfolding head_at
head_yes bs e = ap (λ (t : Bool). cond t (Err Unknown) (rest_at (scan_all bs))) e

head_no : (bs : List ℕ) → clashes (scan_all bs).0 ≡ true → head_at bs ≡ Err Unknown
unfolding head_at
head_no bs e = ap (λ (t : Bool). cond t (Err Unknown) (rest_at (scan_all bs))) e

pub record IsLive (h : Head) (l : List ℕ) : Type 0 where
  pub is : IsHead h l
  pub live : any_row h ≡ true

abbrev Sound : List ℕ → Head × List ℕ → Type 0
Sound bs x = (front : List ℕ) × (bs ≡ front ++ x.1) × IsLive x.0 front

head_sound : (bs : List ℕ) (x : Head × List ℕ) → IsBytes bs → head_at bs ≡ Ok x → Sound bs x
head_sound bs x b e =
    elim (cases_Bool (clashes (scan_all bs).0)) [
      | inl t ↦ err_ok x Unknown (sym (head_no bs t) ∙ e)
      | inr f ↦
          let s = scanned no_prefix bs in
          let r = rex_read (scan_all bs).1 in
          let o = opcode_read (scan_all bs).0 (rex_at (scan_all bs).1).0 (rex_at (scan_all bs).1).1 x (sym (head_yes bs f) ∙ e) in
          let front : List ℕ = s.front ++ (r.front ++ o.front) in
          let parts : bs ≡ front ++ x.1 = s.parts ∙ ap (λ (t : List ℕ). s.front ++ t) (r.parts ∙ ap (λ (t : List ℕ). r.front ++ t) o.parts ∙ sym (append_assoc r.front o.front x.1)) ∙ sym (append_assoc s.front (r.front ++ o.front) x.1) in (
            front,
            parts,
            record {
              is = record {
                prefixes = s.front;
                rex = r.front;
                opcode = o.front;
                parts = refl;
                are_prefixes = subst (λ (p : Prefixes). ArePrefixes no_prefix s.front p) (sym o.prefixes) s.are;
                is_rex = subst (λ (k : Option Rex). IsRex k r.front) (sym o.rex_is) r.is;
                is_opcode = o.is;
              };
              live = o.live;
            },
          )
    ]

head_complete : (h : Head) (front rest : List ℕ) → IsLive h front → head_at (front ++ rest) ≡ Ok (h, rest)
head_complete h front rest l =
    let i = l.is in
    let whole : front ++ rest ≡ i.prefixes ++ (i.rex ++ (i.opcode ++ rest)) = ap (λ (t : List ℕ). t ++ rest) i.parts ∙ append_assoc i.prefixes (i.rex ++ i.opcode) rest ∙ ap (λ (t : List ℕ). i.prefixes ++ t) (append_assoc i.rex i.opcode rest) in
    let plain = λ (m : h.map ≡ One). plain_opcode h m l.live in
    let stop = stops_at h.prefixes h.map h.byte i.opcode rest i.is_opcode plain in
    let scans : scan_all (front ++ rest) ≡ (h.prefixes, i.rex ++ (i.opcode ++ rest)) = ap scan_all whole ∙ scan_over no_prefix h.prefixes i.prefixes (i.rex ++ (i.opcode ++ rest)) i.are_prefixes ∙ scan_stops h.prefixes (i.rex ++ (i.opcode ++ rest)) (stops_rex h.prefixes h.rex i.rex (i.opcode ++ rest) i.is_rex stop.0) in
    let calm : clashes (scan_all (front ++ rest)).0 ≡ false = subst (λ (s : Prefixes × List ℕ). clashes s.0 ≡ false) (sym scans) (no_clash h l.live) in
    let rexes : rex_at (i.rex ++ (i.opcode ++ rest)) ≡ (h.rex, i.opcode ++ rest) = rex_over h.rex i.rex (i.opcode ++ rest) i.is_rex stop.1 in
    head_yes (front ++ rest) calm ∙ ap rest_at scans ∙ ap (λ (r : Option Rex × List ℕ). opcode_at h.prefixes r.0 r.1) rexes ∙ opcode_over h.prefixes h.rex h.map h.byte i.opcode rest i.is_opcode plain l.live

-- ---- bytes that would do

abbrev next_one : Bool → ℕ
next_one true = 0x90
next_one false = 0x01

abbrev next_two : Bool → ℕ
next_two true = 0x1E
next_two false = 0xB1

abbrev flags : Bool → Bool → Bool → Prefixes
flags size lock rep = record { size = size; lock = lock; rep = rep }

live_one : (size lock rep : Bool) (rex : Option Rex) → clashes (flags size lock rep) ≡ false → any_row (head_of (flags size lock rep) rex One (next_one rep)) ≡ true
unfolding any_row takes
live_one true true true rex e = absurd cc
live_one true false true rex e = absurd cc
live_one false true true rex e = absurd cc
live_one false false true rex e = refl
live_one true true false rex e = refl
live_one true false false rex e = refl
live_one false true false rex e = refl
live_one false false false rex e = refl

live_two : (size lock rep : Bool) (rex : Option Rex) → clashes (flags size lock rep) ≡ false → any_row (head_of (flags size lock rep) rex Two (next_two rep)) ≡ true
unfolding any_row takes
live_two true true true rex e = absurd cc
live_two true false true rex e = absurd cc
live_two false true true rex e = absurd cc
live_two false false true rex e = refl
live_two true true false rex e = refl
live_two true false false rex e = refl
live_two false true false rex e = refl
live_two false false false rex e = refl

abbrev More : List ℕ → Type 0
More bs = (h : Head) × (more : List ℕ) × IsBytes more × IsLive h (bs ++ more)

one_byte : (m : ℕ) → m < 256 → IsBytes (m ∷ [])
one_byte m lt zero = lt
one_byte m lt (suc i) = IsBytes-nil i

-- what is left where there are too few bytes
second_short : (p : Prefixes) (rex : Option Rex) (bs : List ℕ) → second_at p rex bs ≡ Err Short → bs ≡ []
second_short p rex [] e = refl
second_short p rex (c ∷ bs) e =
    elim (known_cases (head_of p rex Two c) bs (Err Short) e) [
      | inl (t, k) ↦ ok_err (head_of p rex Two c, bs) Short k
      | inr (f, k) ↦ unknown_short k
    ]

short_cases : (p : Prefixes) (rex : Option Rex) (bs : List ℕ) → opcode_at p rex bs ≡ Err Short → (bs ≡ []) ⊎ (bs ≡ 15 ∷ [])
short_cases p rex [] e = inl refl
short_cases p rex (b ∷ bs) e =
    elim (cases_eq b 15) [
      | inl s ↦ inr (ap (λ (k : ℕ). k ∷ bs) s ∙ ap (λ (t : List ℕ). 15 ∷ t) (second_short p rex bs (sym (ap (λ (k : ℕ). opcode_at p rex (k ∷ bs)) s ∙ opcode_two p rex bs) ∙ e)))
      | inr n ↦ elim (known_cases (head_of p rex One b) bs (Err Short) (sym (opcode_one p rex b bs n) ∙ e)) [
        | inl (t, k) ↦ ok_err (head_of p rex One b, bs) Short k
        | inr (f, k) ↦ unknown_short k
      ]
    ]

next_bound : (rep : Bool) → (next_one rep < 256) × (next_two rep < 256)
next_bound true = (omega arith, omega arith)
next_bound false = (omega arith, omega arith)

head_short : (bs : List ℕ) → head_at bs ≡ Err Short → More bs
head_short bs e =
    elim (cases_Bool (clashes (scan_all bs).0)) [
      | inl t ↦ unknown_short (sym (head_no bs t) ∙ e)
      | inr f ↦
          let s = scanned no_prefix bs in
          let r = rex_read (scan_all bs).1 in
          let p = (scan_all bs).0 in
          let x = (rex_at (scan_all bs).1).0 in
          let so_far : (l : List ℕ) → (rex_at (scan_all bs).1).1 ≡ l → (more : List ℕ) → bs ++ more ≡ s.front ++ (r.front ++ (l ++ more)) =
          λ l q more. ap (λ (t : List ℕ). t ++ more) (s.parts ∙ ap (λ (t : List ℕ). s.front ++ t) (r.parts ∙ ap (λ (t : List ℕ). r.front ++ t) q)) ∙ append_assoc s.front (r.front ++ l) more ∙ ap (λ (t : List ℕ). s.front ++ t) (append_assoc r.front l more) in
          elim (short_cases p x (rex_at (scan_all bs).1).1 (sym (head_yes bs f) ∙ e)) [
            | inl q ↦ (
              head_of p x One (next_one p.rep),
              next_one p.rep ∷ [],
              one_byte (next_one p.rep) (next_bound p.rep).0,
              record {
                is = record { prefixes = s.front; rex = r.front; opcode = next_one p.rep ∷ []; parts = so_far [] q (next_one p.rep ∷ []); are_prefixes = s.are; is_rex = r.is; is_opcode = refl };
                live = live_one p.size p.lock p.rep x f;
              },
            )
            | inr q ↦ (
              head_of p x Two (next_two p.rep),
              next_two p.rep ∷ [],
              one_byte (next_two p.rep) (next_bound p.rep).1,
              record {
                is = record { prefixes = s.front; rex = r.front; opcode = 15 ∷ next_two p.rep ∷ []; parts = so_far (15 ∷ []) q (next_two p.rep ∷ []); are_prefixes = s.are; is_rex = r.is; is_opcode = refl };
                live = live_two p.size p.lock p.rep x f;
              },
            )
          ]
    ]

-- ---- where no more would do

known_stable : (h : Head) (bs cs : List ℕ) → known h bs ≡ Err Unknown → known h cs ≡ Err Unknown
known_stable h bs cs e =
    elim (known_cases h bs (Err Unknown) e) [
      | inl (t, k) ↦ ok_err (h, bs) Unknown k
      | inr (f, k) ↦ known_no h cs f
    ]

second_stable : (p : Prefixes) (rex : Option Rex) (bs more : List ℕ) → second_at p rex bs ≡ Err Unknown → second_at p rex (bs ++ more) ≡ Err Unknown
second_stable p rex [] more e = short_unknown e
second_stable p rex (c ∷ bs) more e = known_stable (head_of p rex Two c) bs (bs ++ more) e

opcode_stable : (p : Prefixes) (rex : Option Rex) (bs more : List ℕ) → opcode_at p rex bs ≡ Err Unknown → opcode_at p rex (bs ++ more) ≡ Err Unknown
opcode_stable p rex [] more e = short_unknown (sym (opcode_none p rex) ∙ e)
opcode_stable p rex (b ∷ bs) more e =
    elim (cases_eq b 15) [
      | inl s ↦ ap (λ (k : ℕ). opcode_at p rex (k ∷ (bs ++ more))) s ∙ opcode_two p rex (bs ++ more) ∙ second_stable p rex bs more (sym (ap (λ (k : ℕ). opcode_at p rex (k ∷ bs)) s ∙ opcode_two p rex bs) ∙ e)
      | inr n ↦ opcode_one p rex b (bs ++ more) n ∙ known_stable (head_of p rex One b) bs (bs ++ more) (sym (opcode_one p rex b bs n) ∙ e)
    ]

-- more bytes behind a list that isn't empty
rex_more : (bs more : List ℕ) (b : ℕ) (cs : List ℕ) → bs ≡ b ∷ cs → rex_at (bs ++ more) ≡ ((rex_at bs).0, (rex_at bs).1 ++ more)
rex_more bs more b cs q =
    subst (λ (t : List ℕ). rex_at (t ++ more) ≡ ((rex_at t).0, (rex_at t).1 ++ more)) (sym q)
    (elim (cases_Bool (is_rex b)) [
      | inl t ↦ rex_some b (cs ++ more) t ∙ sym (ap (λ (x : Option Rex × List ℕ). (x.0, x.1 ++ more)) (rex_some b cs t))
      | inr f ↦ rex_none b (cs ++ more) f ∙ sym (ap (λ (x : Option Rex × List ℕ). (x.0, x.1 ++ more)) (rex_none b cs f))
    ])

cases_list : (l : List ℕ) → (l ≡ []) ⊎ ((b : ℕ) × (cs : List ℕ) × (l ≡ b ∷ cs))
cases_list [] = inl refl
cases_list (b ∷ cs) = inr (b, cs, refl)

stops_more : (p : Prefixes) (l more : List ℕ) (b : ℕ) (cs : List ℕ) → l ≡ b ∷ cs → Stops p l → Stops p (l ++ more)
stops_more p l more b cs q s = subst (λ (t : List ℕ). Stops p (t ++ more)) (sym q) (let k : Stops p (b ∷ cs) = subst (Stops p) q s in k)

head_stable : (bs more : List ℕ) → head_at bs ≡ Err Unknown → head_at (bs ++ more) ≡ Err Unknown
head_stable bs more e =
    let s = scanned no_prefix bs in
    let p = (scan_all bs).0 in
    let l = (scan_all bs).1 in
    let over : scan_all (bs ++ more) ≡ scan p (l ++ more) = ap scan_all (ap (λ (t : List ℕ). t ++ more) s.parts ∙ append_assoc s.front l more) ∙ scan_over no_prefix p s.front (l ++ more) s.are in
    elim (cases_Bool (clashes p)) [
      | inl t ↦ head_no (bs ++ more) (subst (λ (x : Prefixes × List ℕ). clashes x.0 ≡ true) (sym over) (scan_keeps p (l ++ more) t))
      | inr f ↦
          let u : opcode_at p (rex_at l).0 (rex_at l).1 ≡ Err Unknown = sym (head_yes bs f) ∙ e in
          elim (cases_list l) [
            | inl q ↦ short_unknown (sym (opcode_none p None) ∙ sym (ap (λ (t : List ℕ). opcode_at p (rex_at t).0 (rex_at t).1) q) ∙ u)
            | inr (b, cs, q) ↦
                let stop : scan p (l ++ more) ≡ (p, l ++ more) = scan_stops p (l ++ more) (stops_more p l more b cs q s.stops) in
                let all : scan_all (bs ++ more) ≡ (p, l ++ more) = over ∙ stop in
                let calm : clashes (scan_all (bs ++ more)).0 ≡ false = subst (λ (x : Prefixes × List ℕ). clashes x.0 ≡ false) (sym all) f in
                head_yes (bs ++ more) calm ∙ ap rest_at all ∙ ap (λ (r : Option Rex × List ℕ). opcode_at p r.0 r.1) (rex_more l more b cs q) ∙ opcode_stable p (rex_at l).0 (rex_at l).1 more u
          ]
    ]

head_empty : head_at [] ≡ Err Short
unfolding head_at opcode_at
head_empty = refl

pub head_reads : Reads head_at IsLive
head_reads =
    let m = head_short [] (head_empty) in
    record {
      opens = (m.0, m.1, m.2, m.3);
      sound = head_sound;
      complete = head_complete;
      short = λ bs b e. head_short bs e;
      stable = λ bs more b e. head_stable bs more e;
    }
