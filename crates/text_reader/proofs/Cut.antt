-- What a line is cut into, and what a text is.
use Rattle.std.proofs.Common.{◌≡◌, ◌==◌, ◌&&◌, ◌∙◌, ◌<◌, ◌⊎◌, ℕ, Bool, cond, true, false, not, refl, sym, ap, subst, inl, inr, arith, List, [], ◌∷◌, ◌++◌, length, get_or}
use Rattle.std.specs.List.{All, AllByRecursion, list_all, slice_split, onto_first, filter}
use Rattle.std.specs.Str.{IsUtf8}
use Rattle.std.specs.Str.Lines.{strip_carriage_return}
use Rattle.std.proofs.Math.Utf8.{encode, encodes, scalar, scalars}
use Rattle.std.proofs.lemmas.Bool.{and_parts, and_from, cases_eq, ne_eqb}
use Rattle.std.proofs.lemmas.Bool.Decides.{nat_tests}
use Rattle.std.proofs.lemmas.List.{append-nil, get_or_default}
use Rattle.std.proofs.lemmas.List.Splits.{slice_split_at, slice_split_none}
use Rattle.std.proofs.lemmas.List.Elements.{All-head, All-tail}
use Rattle.std.proofs.lemmas.Str.{IsUtf8-append, IsUtf8-nil, encode_ascii, inside_one}
use Rattle.text_reader.specs.Line.{lines, ended_lines, is_feed}
use Rattle.text_reader.specs.Word.{is_space, is_nonempty, words_by}
use Rattle.text_reader.proofs.Bytes.{not_space, not_feed, no_space, no_feed}
use Rattle.text_reader.proofs.Lines.{split_some}

-- ---- words

-- a word is kept among the words
pub kept : (w : List ℕ) (ws : List (List ℕ)) → 0 < length w → filter is_nonempty (w ∷ ws) ≡ w ∷ filter is_nonempty ws
kept [] ws h = absurd (omega arith)
kept (b ∷ bs) ws h = let some : is_nonempty (b ∷ bs) ≡ true = grind (arith, nat_tests) in rw some refl

-- the last word of a line
pub last_word : (w : List ℕ) → 0 < length w → list_all not_space w ≡ true → words_by is_space w ≡ w ∷ []
last_word w some plain = ap (filter is_nonempty) (slice_split_none is_space w (no_space w plain)) ∙ kept w [] some

-- a word before another
pub next_word : (w rest : List ℕ) → 0 < length w → list_all not_space w ≡ true → words_by is_space (w ++ 32 ∷ rest) ≡ w ∷ words_by is_space rest
next_word w rest some plain = ap (filter is_nonempty) (slice_split_at is_space w 32 rest (no_space w plain) refl) ∙ kept w (slice_split is_space rest) some

-- ---- lines

-- a line before others
pub next_line : (l rest : List ℕ) → list_all not_feed l ≡ true → strip_carriage_return l ≡ l → lines (l ++ 10 ∷ rest) ≡ l ∷ lines rest
unfolding lines
next_line l rest plain ended =
    let more = split_some is_feed rest in
    let cut : slice_split is_feed (l ++ 10 ∷ rest) ≡ l ∷ more.0 ∷ more.1 = slice_split_at is_feed l 10 rest (no_feed l plain) refl ∙ ap (λ (ls : List (List ℕ)). l ∷ ls) more.2 in
    ap ended_lines cut ∙ ap (λ (x : List ℕ). x ∷ ended_lines (more.0 ∷ more.1)) ended ∙ ap (λ (ls : List (List ℕ)). l ∷ ended_lines ls) (sym more.2)

pub no_lines : lines [] ≡ [] ∷ []
unfolding lines
no_lines = refl

-- ---- the parts of a list: what holds of its bytes, and where it was cut

onto_each : (q : ℕ → Bool) (b : ℕ) (parts : List (List ℕ)) → q b ≡ true → list_all (list_all q) parts ≡ true → list_all (list_all q) (onto_first b parts) ≡ true
onto_each q b [] at each = and_from (q b && true) true (and_from (q b) true at refl) refl
onto_each q b (part ∷ parts) at each =
    let both = and_parts (list_all q part) (list_all (list_all q) parts) each in
    and_from (q b && list_all q part) (list_all (list_all q) parts) (and_from (q b) (list_all q part) at both.0) both.1

pub parts_each : (p q : ℕ → Bool) (bs : List ℕ) → list_all q bs ≡ true → list_all (list_all q) (slice_split p bs) ≡ true
parts_each p q [] e = refl
parts_each p q (b ∷ bs) e =
    let both = and_parts (q b) (list_all q bs) e in
    let later = parts_each p q bs both.1 in
    go (p b) both.0 later
  where
    go : (t : Bool) → q b ≡ true → list_all (list_all q) (slice_split p bs) ≡ true → list_all (list_all q) (cond t ([] ∷ slice_split p bs) (onto_first b (slice_split p bs))) ≡ true
    go true at later = later
    go false at later = onto_each q b (slice_split p bs) at later

pub parts_not : (p : ℕ → Bool) (bs : List ℕ) → list_all (list_all (λ b. not (p b))) (slice_split p bs) ≡ true
parts_not p [] = refl
parts_not p (b ∷ bs) = go (p b) refl (parts_not p bs)
  where
    go : (t : Bool) → p b ≡ t → list_all (list_all (λ b. not (p b))) (slice_split p bs) ≡ true → list_all (list_all (λ b. not (p b))) (cond t ([] ∷ slice_split p bs) (onto_first b (slice_split p bs))) ≡ true
    go true is later = later
    go false is later = onto_each (λ b. not (p b)) b (slice_split p bs) (ap not is) later

-- ---- the parts of a text between spaces are texts

single : (c : ℕ) → scalar c ≡ true → IsUtf8 (encode c)
single c h = (c ∷ [], (and_from (scalar c) true h refl, append-nil (encode c)))

-- a character that isn't a space has no byte that is one
within : (c : ℕ) → (c ≡ 32 → ⊥) → All (λ b. (b == 32) ≡ false) (encode c)
within c other = λ k d h.
    let same : get_or (encode c) k d ≡ get_or (encode c) k 0 = get_or_default (encode c) k d 0 h in
    ne_eqb (get_or (encode c) k d) 32 (λ is. let low : get_or (encode c) k 0 < 128 = omega arith in
    other (inside_one c [] (encode c) k (sym (append-nil (encode c))) h low ∙ sym same ∙ is))

abbrev Texts : List (List ℕ) → Type 0
Texts = AllByRecursion IsUtf8

onto_all : (xs : List ℕ) → All (λ b. (b == 32) ≡ false) xs → IsUtf8 xs → (ys : List ℕ) → Texts (slice_split is_space ys) → Texts (slice_split is_space (xs ++ ys))
onto_all xs none text ys texts = go (split_some is_space ys) texts
  where
    joined : (xs p : List ℕ) (ps : List (List ℕ)) → All (λ b. (b == 32) ≡ false) xs → slice_split is_space ys ≡ p ∷ ps → slice_split is_space (xs ++ ys) ≡ (xs ++ p) ∷ ps
    joined [] p ps none e = e
    joined (x ∷ xs) p ps none e =
        let isnt : (x == 32) ≡ false = All-head (λ b. (b == 32) ≡ false) x xs none in
        let later = joined xs p ps (All-tail (λ b. (b == 32) ≡ false) x xs none) e in
        ap (λ (t : Bool). cond t ([] ∷ slice_split is_space (xs ++ ys)) (onto_first x (slice_split is_space (xs ++ ys)))) isnt ∙ ap (onto_first x) later

    go : ((p : List ℕ) × (ps : List (List ℕ)) × (slice_split is_space ys ≡ p ∷ ps)) → Texts (slice_split is_space ys) → Texts (slice_split is_space (xs ++ ys))
    go s texts =
        let parts : Texts (s.0 ∷ s.1) = subst Texts s.2 texts in
        subst Texts (sym (joined xs s.0 s.1 none s.2)) (IsUtf8-append xs s.0 text parts.0, parts.1)

spelled_parts : (cs : List ℕ) → scalars cs ≡ true → Texts (slice_split is_space (encodes cs))
spelled_parts [] h = (IsUtf8-nil, tt)
spelled_parts (c ∷ cs) h =
    let both = and_parts (scalar c) (scalars cs) h in
    let later = spelled_parts cs both.1 in
    go (cases_eq c 32) both.0 later
  where
    go : (c ≡ 32) ⊎ (c ≡ 32 → ⊥) → scalar c ≡ true → Texts (slice_split is_space (encodes cs)) → Texts (slice_split is_space (encode c ++ encodes cs))
    go (inl is) one later =
        let space : encode c ≡ 32 ∷ [] = ap encode is ∙ encode_ascii 32 (omega arith) in
        let both : Texts ([] ∷ slice_split is_space (encodes cs)) = (IsUtf8-nil, later) in
        subst (λ (bs : List ℕ). Texts (slice_split is_space (bs ++ encodes cs))) (sym space) both
    go (inr other) one later = onto_all (encode c) (within c other) (single c one) (encodes cs) later

pub parts_utf8 : (bs : List ℕ) → IsUtf8 bs → Texts (slice_split is_space bs)
parts_utf8 bs text = subst (λ (b : List ℕ). Texts (slice_split is_space b)) text.1.1 (spelled_parts text.0 text.1.0)
