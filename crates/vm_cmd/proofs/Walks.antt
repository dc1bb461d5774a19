-- What clap's walk makes of words, by the form.
use Rattle.std.proofs.Common.{◌≡◌, ◌∙◌, ◌&&◌, ◌||◌, ◌+◌, ℕ, Bool, cond, codes, true, false, ◌⊎◌, inl, inr, not, refl, sym, ap, List, [], ◌∷◌, ◌++◌, map, min, Option, Some, None}
use Rattle.std.specs.Prelude.{slice_get, is_some, option_and_then, option_map, ◌==◌, fold}
use Rattle.std.specs.List.{list_all, AllByRecursion}
use Rattle.std.specs.Str.{bytes_eq}
use Rattle.std.proofs.Math.Bool.{and-false}
use Rattle.std.proofs.lemmas.Bool.{not-true}
use Rattle.std.proofs.lemmas.List.{append-nil}
use Rattle.std.proofs.lemmas.Slice.Eq.{bytes_eq-Decides}
use Rattle.clap.specs.declared.error.kind.ErrorKind.TheVariants.{ArgumentConflict, InvalidSubcommand, TooManyValues, UnknownArgument}
use Rattle.clap.specs.Lexer.{long_of, long_of_rest, strip_byte, short_of, usize_max}
use Rattle.clap.specs.Walk.{more_values, Waiting, takes_values, positional, value, is_pending, takes_several, Held, Row, Rule, Walk, idle, option, word_met, walked, settled, settled_rows, used, at_row, has_row, with_default, arg_by_id, arg_by_long, arg_by_index, finished, plain_word}
use Rattle.clap.specs.Simple.{Shape}
use Rattle.clap.specs.Kinds.{Kinds, or_else}
use Rattle.clap.specs.Faults.{settle_fault, long_fault, option_fault, react_fault, turn_fault, walk_fault, defaults_fault, check_fault, use_fault, word_fault}
use Rattle.clap.specs.declared.parser.matches.ValueSource.TheVariants.{CommandLine}
use Rattle.clap.specs.declared.builder.value_parser.Reading.TheVariants as reading
use Rattle.vm_cmd.specs.Shapes.{option_rule, flag_rule, place_rule}
use Rattle.vm_cmd.specs.Word.{Word, is_plain, value_stands, is_allowed}
use Rattle.vm_cmd.specs.Form.{Form, Use, has, given, put, valued, flagged, reads_option, reads}

abbrev pub row_of_use : Use → Row
row_of_use u = record {
  id = u.name;
  values = u.value ∷ [];
  count = None;
  source = Some CommandLine;
  reading = reading.AsWritten;
}

abbrev pub rows_of_uses : List Use → List Row
rows_of_uses us = map row_of_use us

abbrev pub is_nil : Kinds → Bool
is_nil [] = true
is_nil (k ∷ ks) = false

abbrev pub held_with : List Row → Option (Word × List Word) → Held
held_with rows p = record { rows = rows; pending = p; skip = 0 }

abbrev pub idle_at : List Row → Option (Word × List Word) → ℕ → Walk
idle_at rows p k = record { held = held_with rows p; waiting = idle; position = k + 1; is_trailing = false; stopped = None }

abbrev pub waiting_at : List Row → Word → ℕ → Walk
waiting_at rows n k = record { held = held_with rows (Some (n, [])); waiting = option n; position = k + 1; is_trailing = false; stopped = None }

-- ---- a word by itself

-- a word with these facts is read as a plain one
pub record Plain (word : Word) : Type 0 where
  pub dashes : bytes_eq word (45 ∷ 45 ∷ []) ≡ false
  pub long : long_of word ≡ None
  pub short : short_of word ≡ None

pub plain_word_is : (word : Word) → is_plain word ≡ true → Plain word
plain_word_is [] e = absurd cc
plain_word_is (b ∷ bs) e =
    let n : (b == 45) ≡ false = not-true (b == 45) e in
    record { dashes = rw n refl; long = rw n refl; short = rw n refl }

two_dashes : (x y : Bool) (b : ℕ) (p : Word × Option Word) → (b == 45) ≡ y → option_and_then long_of_rest (option_and_then (strip_byte 45) (cond x (Some (b ∷ [])) None)) ≡ Some p → (x && (y && true)) ≡ false
two_dashes false y b p is e = refl
two_dashes true false b p is e = refl
two_dashes true true b p is e = let none : None ≡ Some p = rw is at e in absurd cc

pub not_dashes : (word : Word) (p : Word × Option Word) → long_of word ≡ Some p → bytes_eq word (45 ∷ 45 ∷ []) ≡ false
not_dashes [] p e = refl
not_dashes (a ∷ []) p e = and-false (a == 45)
not_dashes (a ∷ b ∷ []) p e = two_dashes (a == 45) (b == 45) b p refl e
not_dashes (a ∷ b ∷ c ∷ cs) p e = rw (and-false (b == 45)) (and-false (a == 45))

pub same_self : (n : Word) → bytes_eq n n ≡ true
same_self n = (bytes_eq-Decides n n).1 refl

pub is_nil-or : (a b : Kinds) → is_nil (or_else a b) ≡ (is_nil a && is_nil b)
is_nil-or [] b = refl
is_nil-or (k ∷ ks) b = refl

pub or_else-nil : (a : Kinds) → or_else a [] ≡ a
or_else-nil [] = refl
or_else-nil (k ∷ ks) = refl

module _ (s : Shape) where
  plain_met : (rows : List Row) (p : Option (Word × List Word)) (k : ℕ) (word : Word) → Plain word
      → word_met s.rules [] false idle (k + 1) word (held_with rows p) ≡ (held_with rows p, value)
  plain_met rows p k word h = rw (h.dashes, h.long, h.short) refl

  plain_passes : (waiting : Waiting) (word : Word) (h : Held) → Plain word → word_fault s [] false waiting word h ≡ []
  plain_passes idle word h is = rw (is.dashes, is.long, is.short) refl
  plain_passes (option n) word h is = rw (is.dashes, is.long, is.short) refl
  plain_passes positional word h is = rw (is.dashes, is.long, is.short) refl

  plain_waits : (rows : List Row) (n : Word) (k : ℕ) (word : Word) → Plain word
      → word_met s.rules [] false (option n) (k + 1) word (held_with rows (Some (n, []))) ≡ plain_word s.rules (option n) word (held_with rows (Some (n, [])))
  plain_waits rows n k word h = rw (h.dashes, h.long, h.short) refl

  -- a place takes the word
  pub place_turn : (rows : List Row) (p : Option (Word × List Word)) (k : ℕ) (word n : Word) → Plain word
      → arg_by_index s.rules (k + 1) ≡ Some (place_rule n (k + 1))
      → turn_fault s [] (idle_at rows p k) word ≡ settle_fault s.rules s.args_override_self (held_with rows p)
  place_turn rows p k word n h at =
      let pass = plain_passes idle word (held_with rows p) h in
      let met = plain_met rows p k word h in
      let calm : (is_pending (place_rule n (k + 1)) p && takes_several (place_rule n (k + 1))) ≡ false = and-false _ in
      rw (pass, met, at, calm) refl

  pub place_walked : (rows : List Row) (p : Option (Word × List Word)) (k : ℕ) (word n : Word) → Plain word
      → arg_by_index s.rules (k + 1) ≡ Some (place_rule n (k + 1)) → min (k + 1 + 1) usize_max ≡ k + 1 + 1
      → walked s.rules [] (idle_at rows p k) word ≡ idle_at (settled_rows s.rules p rows) (Some (n, word ∷ [])) (k + 1)
  unfolding walked
  place_walked rows p k word n h at small =
      let met = plain_met rows p k word h in
      let calm : (is_pending (place_rule n (k + 1)) p && takes_several (place_rule n (k + 1))) ≡ false = and-false _ in
      rw (met, at, calm, small) refl

  -- no place takes it
  pub stray_turn : (rows : List Row) (p : Option (Word × List Word)) (k : ℕ) (word : Word) → Plain word
      → arg_by_index s.rules (k + 1) ≡ None → is_nil (turn_fault s [] (idle_at rows p k) word) ≡ false
  stray_turn rows p k word h at =
      let pass = plain_passes idle word (held_with rows p) h in
      let met = plain_met rows p k word h in
      rw (pass, met, at) (go s.is_leaf)
    where
      go : (b : Bool) → is_nil (cond b (UnknownArgument ∷ []) (UnknownArgument ∷ InvalidSubcommand ∷ [])) ≡ false
      go true = refl
      go false = refl

  -- the value of an option
  pub value_turn : (rows : List Row) (n : Word) (k : ℕ) (word : Word) → Plain word → turn_fault s [] (waiting_at rows n k) word ≡ []
  value_turn rows n k word h =
      let pass = plain_passes (option n) word (held_with rows (Some (n, []))) h in
      let met = plain_waits rows n k word h in
      rw (pass, met) refl

  pub value_walked : (rows : List Row) (n : Word) (k : ℕ) (word : Word) → Plain word → arg_by_id s.rules n ≡ Some (option_rule n)
      → walked s.rules [] (waiting_at rows n k) word ≡ idle_at rows (Some (n, word ∷ [])) k
  unfolding walked
  value_walked rows n k word h at =
      let met = plain_waits rows n k word h in
      let same = same_self n in
      rw (met, at, same) refl

  -- ---- options

  long_fault_bad : (again : Bool) (found : Option Rule) (v : Option Word) (h : Held) → is_nil (settle_fault s.rules again h) ≡ false → is_nil (long_fault s.rules again found v h) ≡ false
  long_fault_bad again None v h bad = refl
  long_fault_bad again (Some a) v h bad = go (takes_values a) v
    where
      go : (b : Bool) (v : Option Word) → is_nil (cond b (option_fault s.rules again a v h) (cond (is_some v) (TooManyValues ∷ []) (react_fault s.rules again a [] h))) ≡ false
      go true None = bad
      go true (Some x) = is_nil-or (settle_fault s.rules again h) _ ∙ ap (λ b. b && is_nil (use_fault again a (x ∷ []) (settled s.rules h).rows)) bad
      go false None = is_nil-or (settle_fault s.rules again h) _ ∙ ap (λ b. b && is_nil (use_fault again a [] (settled s.rules h).rows)) bad
      go false (Some x) = refl

  -- a word that begins with dashes settles what is pending, or fails itself
  pub long_turn_bad : (waiting : Waiting) (rows : List Row) (p : Option (Word × List Word)) (k : ℕ) (word : Word) (q : Word × Option Word) → long_of word ≡ Some q
      → is_nil (settle_fault s.rules s.args_override_self (held_with rows p)) ≡ false
      → is_nil (turn_fault s [] (record { held = held_with rows p; waiting = waiting; position = k + 1; is_trailing = false; stopped = None }) word) ≡ false
  long_turn_bad waiting rows p k word q e bad = go waiting
    where
      d : bytes_eq word (45 ∷ 45 ∷ []) ≡ false
      d = not_dashes word q e

      f : is_nil (long_fault s.rules s.args_override_self (arg_by_long s.rules q.0) q.1 (held_with rows p)) ≡ false
      f = long_fault_bad s.args_override_self (arg_by_long s.rules q.0) q.1 (held_with rows p) bad

      go : (waiting : Waiting) → is_nil (turn_fault s [] (record { held = held_with rows p; waiting = waiting; position = k + 1; is_trailing = false; stopped = None }) word) ≡ false
      go idle = rw (d, e, is_nil-or, f) refl
      go (option n) = rw (d, e, is_nil-or, f) refl
      go positional = rw (d, e, is_nil-or, f) refl

  -- an option whose value comes next
  pub option_turn : (rows : List Row) (p : Option (Word × List Word)) (k : ℕ) (word n : Word) → long_of word ≡ Some (n, None) → arg_by_long s.rules n ≡ Some (option_rule n)
      → turn_fault s [] (idle_at rows p k) word ≡ settle_fault s.rules s.args_override_self (held_with rows p)
  option_turn rows p k word n e at =
      let d = not_dashes word (n, None) e in
      rw (d, e, at) (or_else-nil (settle_fault s.rules s.args_override_self (held_with rows p)))

  pub option_walked : (rows : List Row) (p : Option (Word × List Word)) (k : ℕ) (word n : Word) → long_of word ≡ Some (n, None) → arg_by_long s.rules n ≡ Some (option_rule n)
      → walked s.rules [] (idle_at rows p k) word ≡ waiting_at (settled_rows s.rules p rows) n k
  unfolding walked
  option_walked rows p k word n e at =
      let d = not_dashes word (n, None) e in
      rw (d, e, at) refl

  -- an option with its value
  pub valued_turn : (rows : List Row) (p : Option (Word × List Word)) (k : ℕ) (word n v : Word) → long_of word ≡ Some (n, Some v) → arg_by_long s.rules n ≡ Some (option_rule n)
      → turn_fault s [] (idle_at rows p k) word ≡ react_fault s.rules s.args_override_self (option_rule n) (v ∷ []) (held_with rows p)
  valued_turn rows p k word n v e at =
      let d = not_dashes word (n, Some v) e in
      rw (d, e, at) (or_else-nil (react_fault s.rules s.args_override_self (option_rule n) (v ∷ []) (held_with rows p)))

  pub valued_walked : (rows : List Row) (p : Option (Word × List Word)) (k : ℕ) (word n v : Word) → long_of word ≡ Some (n, Some v) → arg_by_long s.rules n ≡ Some (option_rule n)
      → walked s.rules [] (idle_at rows p k) word ≡ idle_at (used (option_rule n) (v ∷ []) (settled_rows s.rules p rows)) None k
  unfolding walked
  valued_walked rows p k word n v e at =
      let d = not_dashes word (n, Some v) e in
      rw (d, e, at) refl

  -- a flag
  pub flag_turn : (rows : List Row) (p : Option (Word × List Word)) (k : ℕ) (word n : Word) → long_of word ≡ Some (n, None) → arg_by_long s.rules n ≡ Some (flag_rule n)
      → turn_fault s [] (idle_at rows p k) word ≡ react_fault s.rules s.args_override_self (flag_rule n) [] (held_with rows p)
  flag_turn rows p k word n e at =
      let d = not_dashes word (n, None) e in
      rw (d, e, at) (or_else-nil (react_fault s.rules s.args_override_self (flag_rule n) [] (held_with rows p)))

  pub flag_walked : (rows : List Row) (p : Option (Word × List Word)) (k : ℕ) (word n : Word) → long_of word ≡ Some (n, None) → arg_by_long s.rules n ≡ Some (flag_rule n)
      → walked s.rules [] (idle_at rows p k) word ≡ idle_at (used (flag_rule n) [] (settled_rows s.rules p rows)) None k
  unfolding walked
  flag_walked rows p k word n e at =
      let d = not_dashes word (n, None) e in
      rw (d, e, at) refl

  pub valued_flag_turn : (rows : List Row) (p : Option (Word × List Word)) (k : ℕ) (word n v : Word) → long_of word ≡ Some (n, Some v) → arg_by_long s.rules n ≡ Some (flag_rule n)
      → is_nil (turn_fault s [] (idle_at rows p k) word) ≡ false
  valued_flag_turn rows p k word n v e at =
      let d = not_dashes word (n, Some v) e in
      rw (d, e, at) refl

  pub unknown_turn : (rows : List Row) (p : Option (Word × List Word)) (k : ℕ) (word n : Word) (v : Option Word) → long_of word ≡ Some (n, v) → arg_by_long s.rules n ≡ None
      → is_nil (turn_fault s [] (idle_at rows p k) word) ≡ false
  unknown_turn rows p k word n v e at =
      let d = not_dashes word (n, v) e in
      rw (d, e, at) refl

-- ---- rows

pub none_used : (us : List Use) (n : Word) (change : Row → List Row) (missing : List Row) → given us n ≡ false → at_row n change missing (rows_of_uses us) ≡ rows_of_uses us ++ missing
none_used [] n change missing e = refl
none_used (u ∷ us) n change missing e = go (bytes_eq u.name n) e (none_used us n change missing)
  where
    go : (b : Bool) → (b || given us n) ≡ false → (given us n ≡ false → at_row n change missing (rows_of_uses us) ≡ rows_of_uses us ++ missing) → cond b (change (row_of_use u) ++ rows_of_uses us) (row_of_use u ∷ at_row n change missing (rows_of_uses us)) ≡ (row_of_use u ∷ rows_of_uses us) ++ missing
    go true e later = absurd cc
    go false e later = ap (λ (x : List Row). row_of_use u ∷ x) (later e)

pub rows_push : (us : List Use) (u : Use) → rows_of_uses (us ++ u ∷ []) ≡ rows_of_uses us ++ row_of_use u ∷ []
rows_push [] u = refl
rows_push (x ∷ us) u = ap (λ (r : List Row). row_of_use x ∷ r) (rows_push us u)

pub given-rows : (us : List Use) (n : Word) → has_row n (rows_of_uses us) ≡ given us n
given-rows [] n = refl
given-rows (u ∷ us) n = ap (λ b. bytes_eq u.name n || b) (given-rows us n)

pub fresh_use : (us : List Use) (n v : Word) → given us n ≡ false → used (option_rule n) (v ∷ []) (rows_of_uses us) ≡ rows_of_uses (us ++ valued n v ∷ [])
fresh_use us n v e =
    let out : at_row n (λ _. []) [] (rows_of_uses us) ≡ rows_of_uses us = none_used us n (λ _. []) [] e ∙ append-nil (rows_of_uses us) in
    rw (out) (none_used us n (more_values CommandLine (v ∷ [])) (row_of_use (valued n v) ∷ []) e ∙ sym (rows_push us (valued n v)))

pub fresh_place : (us : List Use) (n v : Word) (k : ℕ) → given us n ≡ false → used (place_rule n k) (v ∷ []) (rows_of_uses us) ≡ rows_of_uses (us ++ valued n v ∷ [])
fresh_place us n v k e = fresh_use us n v e

pub fresh_flag : (us : List Use) (n : Word) → given us n ≡ false → used (flag_rule n) [] (rows_of_uses us) ≡ rows_of_uses (us ++ flagged n ∷ [])
fresh_flag us n e =
    let out : at_row n (λ _. []) [] (rows_of_uses us) ≡ rows_of_uses us = none_used us n (λ _. []) [] e ∙ append-nil (rows_of_uses us) in
    rw (out) (none_used us n (more_values CommandLine (codes "true" ∷ [])) (row_of_use (flagged n) ∷ []) e ∙ sym (rows_push us (flagged n)))

-- a use passes where there is none yet
pub once : (us : List Use) (n v : Word) → is_nil (use_fault false (option_rule n) (v ∷ []) (rows_of_uses us)) ≡ not (given us n)
once us n v = rw (given-rows us n) (go (given us n))
  where
    go : (b : Bool) → is_nil (or_else (cond (b && true) (ArgumentConflict ∷ []) []) []) ≡ not b
    go true = refl
    go false = refl

pub once_place : (us : List Use) (n v : Word) (k : ℕ) → is_nil (use_fault false (place_rule n k) (v ∷ []) (rows_of_uses us)) ≡ not (given us n)
once_place us n v k = once us n v

pub once_flag : (us : List Use) (n : Word) → is_nil (use_fault false (flag_rule n) [] (rows_of_uses us)) ≡ not (given us n)
once_flag us n = rw (given-rows us n) (go (given us n))
  where
    go : (b : Bool) → is_nil (or_else (cond (b && true) (ArgumentConflict ∷ []) []) []) ≡ not b
    go true = refl
    go false = refl

-- ---- all the words

abbrev pub rest_fault : Shape → Held → Kinds
rest_fault s end = or_else (settle_fault s.rules s.args_override_self end) (or_else (defaults_fault (settled s.rules end).rows s.rules) (check_fault s (finished s.rules end) false))

-- the rows that a level ends with, where nothing fails
unfoldable pub outcome : Shape → Walk → List Word → Option (List Row)
outcome s w [] = cond (is_nil (rest_fault s w.held)) (Some (settled s.rules w.held).rows) None
outcome s w (word ∷ words) = cond (is_nil (turn_fault s [] w word)) (outcome s (walked s.rules [] w word) words) None

pub outcome_is : (s : Shape) (w : Walk) (words : List Word) → outcome s w words
    ≡ cond (is_nil (or_else (walk_fault s [] w words) (rest_fault s (fold (walked s.rules []) w words).held))) (Some (settled s.rules (fold (walked s.rules []) w words).held).rows) None
unfolding outcome walk_fault
outcome_is s w [] = refl
outcome_is s w (word ∷ words) = go (turn_fault s [] w word) (outcome_is s (walked s.rules [] w word) words)
  where
    go : (a : Kinds) → outcome s (walked s.rules [] w word) words
        ≡ cond (is_nil (or_else (walk_fault s [] (walked s.rules [] w word) words) (rest_fault s (fold (walked s.rules []) (walked s.rules [] w word) words).held))) (Some (settled s.rules (fold (walked s.rules []) (walked s.rules [] w word) words).held).rows) None
        → cond (is_nil a) (outcome s (walked s.rules [] w word) words) None
        ≡ cond (is_nil (or_else (or_else a (walk_fault s [] (walked s.rules [] w word) words)) (rest_fault s (fold (walked s.rules []) (walked s.rules [] w word) words).held))) (Some (settled s.rules (fold (walked s.rules []) (walked s.rules [] w word) words).held).rows) None
    go [] later = later
    go (k ∷ ks) later = refl

-- clap's command has the rules of the form
pub record Serves (s : Shape) (f : Form) : Type 0 where
  pub once_only : s.args_override_self ≡ false
  pub option : (n : Word) → has f.options n ≡ true → (arg_by_long s.rules n ≡ Some (option_rule n)) × (arg_by_id s.rules n ≡ Some (option_rule n))
  pub flag : (n : Word) → has f.options n ≡ false → has f.flags n ≡ true → arg_by_long s.rules n ≡ Some (flag_rule n)
  pub unknown : (n : Word) → has f.options n ≡ false → has f.flags n ≡ false → arg_by_long s.rules n ≡ None
  pub place : (k : ℕ) (n : Word) → slice_get f.places k ≡ Some n → (arg_by_index s.rules (k + 1) ≡ Some (place_rule n (k + 1))) × (arg_by_id s.rules n ≡ Some (place_rule n (k + 1))) × (min (k + 1 + 1) usize_max ≡ k + 1 + 1)
  pub no_place : (k : ℕ) → slice_get f.places k ≡ None → arg_by_index s.rules (k + 1) ≡ None
  pub ended : (us : List Use) → is_nil (or_else (defaults_fault (rows_of_uses us) s.rules) (check_fault s (fold with_default (rows_of_uses us) s.rules) false)) ≡ list_all (given us) f.places

-- what a word is that we let pass
word_cases : (word : Word) → is_allowed word ≡ true → (is_plain word ≡ true) ⊎ ((q : Word × Option Word) × (is_plain word ≡ false) × (long_of word ≡ Some q) × (value_stands q.1 ≡ true))
word_cases word ok = go (is_plain word) (long_of word) refl refl ok
  where
    go : (b : Bool) (o : Option (Word × Option Word)) → is_plain word ≡ b → long_of word ≡ o → (b || (elim o [ None ↦ false | Some p ↦ value_stands p.1 ])) ≡ true
        → (is_plain word ≡ true) ⊎ ((q : Word × Option Word) × (is_plain word ≡ false) × (long_of word ≡ Some q) × (value_stands q.1 ≡ true))
    go true o plain long ok = inl plain
    go false None plain long ok = absurd cc
    go false (Some q) plain long ok = inr (q, plain, long, ok)

-- a test and its two cases
test : (b : Bool) → (b ≡ true) ⊎ (b ≡ false)
test true = inl refl
test false = inr refl

option_cases : {X : Type 0} (o : Option X) → (o ≡ None) ⊎ ((x : X) × (o ≡ Some x))
option_cases None = inl refl
option_cases (Some x) = inr (x, refl)

module _ (s : Shape) (f : Form) (serves : Serves s f) where
  -- what is pending fails, so the whole does
  bad : (words : List Word) (rows : List Row) (p : Option (Word × List Word)) (k : ℕ) → AllByRecursion (λ w. is_allowed w ≡ true) words
      → is_nil (settle_fault s.rules s.args_override_self (held_with rows p)) ≡ false → outcome s (idle_at rows p k) words ≡ None
  unfolding outcome
  bad [] rows p k allowed fails = rw (is_nil-or, fails) refl
  bad (word ∷ words) rows p k allowed fails = elim (word_cases word allowed.0) [
    | inl plain ↦ elim (option_cases (slice_get f.places k)) [
      | inl none ↦ let t = stray_turn s rows p k word (plain_word_is word plain) (serves.no_place k none) in rw t refl
      | inr at ↦ let t = place_turn s rows p k word at.0 (plain_word_is word plain) (serves.place k at.0 at.1).0 in rw (t, fails) refl
    ]
    | inr q ↦ let t = long_turn_bad s idle rows p k word q.0 q.2 fails in rw t refl
  ]

  abbrev Idle : List Word → Type 0
  Idle words = (rows : List Row) (p : Option (Word × List Word)) (k : ℕ) (us : List Use) → is_nil (settle_fault s.rules s.args_override_self (held_with rows p)) ≡ true
      → settled_rows s.rules p rows ≡ rows_of_uses us → outcome s (idle_at rows p k) words ≡ option_map rows_of_uses (reads f us None k words)

  abbrev Waits : List Word → Type 0
  Waits words = (us : List Use) (n : Word) (k : ℕ) → has f.options n ≡ true → outcome s (waiting_at (rows_of_uses us) n k) words ≡ option_map rows_of_uses (reads f us (Some n) k words)

  -- a value that is pending is one use more
  option_next : (words : List Word) → AllByRecursion (λ w. is_allowed w ≡ true) words → Idle words → (us : List Use) (n v : Word) (k : ℕ) → arg_by_id s.rules n ≡ Some (option_rule n)
      → outcome s (idle_at (rows_of_uses us) (Some (n, v ∷ [])) k) words ≡ option_map rows_of_uses (option_and_then (λ more. reads f more None k words) (put us (valued n v)))
  option_next words allowed idle_next us n v k at =
      let fault : is_nil (settle_fault s.rules s.args_override_self (held_with (rows_of_uses us) (Some (n, v ∷ [])))) ≡ not (given us n) = rw (at, serves.once_only) (once us n v) in
      elim (test (given us n)) [
        | inl old ↦ let none = bad words (rows_of_uses us) (Some (n, v ∷ [])) k allowed (fault ∙ ap not old) in rw (none, old) refl
        | inr new ↦ let some = idle_next (rows_of_uses us) (Some (n, v ∷ [])) k (us ++ valued n v ∷ []) (fault ∙ ap not new) (rw at (fresh_use us n v new)) in rw (some, new) refl
      ]

  place_next : (words : List Word) → AllByRecursion (λ w. is_allowed w ≡ true) words → Idle words → (us : List Use) (n v : Word) (i k : ℕ) → arg_by_id s.rules n ≡ Some (place_rule n i)
      → outcome s (idle_at (rows_of_uses us) (Some (n, v ∷ [])) k) words ≡ option_map rows_of_uses (option_and_then (λ more. reads f more None k words) (put us (valued n v)))
  place_next words allowed idle_next us n v i k at =
      let fault : is_nil (settle_fault s.rules s.args_override_self (held_with (rows_of_uses us) (Some (n, v ∷ [])))) ≡ not (given us n) = rw (at, serves.once_only) (once_place us n v i) in
      elim (test (given us n)) [
        | inl old ↦ let none = bad words (rows_of_uses us) (Some (n, v ∷ [])) k allowed (fault ∙ ap not old) in rw (none, old) refl
        | inr new ↦ let some = idle_next (rows_of_uses us) (Some (n, v ∷ [])) k (us ++ valued n v ∷ []) (fault ∙ ap not new) (rw at (fresh_place us n v i new)) in rw (some, new) refl
      ]

  -- a use that is done at once
  done_next : (words : List Word) → Idle words → (rule : Rule) (vs : List Word) (u : Use) (rows : List Row) (p : Option (Word × List Word)) (k : ℕ) (us : List Use)
      → is_nil (settle_fault s.rules s.args_override_self (held_with rows p)) ≡ true → settled_rows s.rules p rows ≡ rows_of_uses us
      → is_nil (use_fault s.args_override_self rule vs (rows_of_uses us)) ≡ not (given us u.name)
      → (given us u.name ≡ false → used rule vs (rows_of_uses us) ≡ rows_of_uses (us ++ u ∷ []))
      → cond (is_nil (react_fault s.rules s.args_override_self rule vs (held_with rows p))) (outcome s (idle_at (used rule vs (settled_rows s.rules p rows)) None k) words) None
      ≡ option_map rows_of_uses (option_and_then (λ more. reads f more None k words) (put us u))
  done_next words idle_next rule vs u rows p k us calm same fault fresh = elim (test (given us u.name)) [
    | inl old ↦ let no_use = fault ∙ ap not old in rw (is_nil-or, calm, same, no_use, old) refl
    | inr new ↦ let some = idle_next (used rule vs (rows_of_uses us)) None k (us ++ u ∷ []) refl (fresh new) in
        let passes = fault ∙ ap not new in rw (is_nil-or, calm, same, passes, some, new) refl
  ]

  long_next : (words : List Word) → Idle words → Waits words → (rows : List Row) (p : Option (Word × List Word)) (k : ℕ) (us : List Use) (word n : Word) (v : Option Word)
      → is_nil (settle_fault s.rules s.args_override_self (held_with rows p)) ≡ true → settled_rows s.rules p rows ≡ rows_of_uses us
      → long_of word ≡ Some (n, v) → value_stands v ≡ true
      → cond (is_nil (turn_fault s [] (idle_at rows p k) word)) (outcome s (walked s.rules [] (idle_at rows p k) word) words) None
      ≡ option_map rows_of_uses (reads_option f us n v (λ more waiting. reads f more waiting k words))
  long_next words idle_next waits_next rows p k us word n None calm same e stands = elim (test (has f.options n)) [
    | inl is ↦
        let at = (serves.option n is).0 in
        let t = option_turn s rows p k word n e at in
        let w = option_walked s rows p k word n e at in
        rw (t, calm, w, same, waits_next us n k is, is) refl
    | inr isnt ↦ elim (test (has f.flags n)) [
      | inl is ↦
          let at = serves.flag n isnt is in
          let t = flag_turn s rows p k word n e at in
          let w = flag_walked s rows p k word n e at in
          let d = done_next words idle_next (flag_rule n) [] (flagged n) rows p k us calm same (rw serves.once_only (once_flag us n)) (fresh_flag us n) in
          rw (t, w, isnt, is) d
      | inr none ↦ let t = unknown_turn s rows p k word n None e (serves.unknown n isnt none) in rw (t, isnt, none) refl
    ]
  ]
  long_next words idle_next waits_next rows p k us word n (Some []) calm same e stands = absurd cc
  long_next words idle_next waits_next rows p k us word n (Some (b ∷ bs)) calm same e stands = elim (test (has f.options n)) [
    | inl is ↦
        let at = (serves.option n is).0 in
        let t = valued_turn s rows p k word n (b ∷ bs) e at in
        let w = valued_walked s rows p k word n (b ∷ bs) e at in
        let d = done_next words idle_next (option_rule n) ((b ∷ bs) ∷ []) (valued n (b ∷ bs)) rows p k us calm same (rw serves.once_only (once us n (b ∷ bs))) (fresh_use us n (b ∷ bs)) in
        rw (t, w, is) d
    | inr isnt ↦ elim (test (has f.flags n)) [
      | inl is ↦ let t = valued_flag_turn s rows p k word n (b ∷ bs) e (serves.flag n isnt is) in rw (t, isnt) refl
      | inr none ↦ let t = unknown_turn s rows p k word n (Some (b ∷ bs)) e (serves.unknown n isnt none) in rw (t, isnt) refl
    ]
  ]

  ends : (b : Bool) (us : List Use) → cond b (Some (rows_of_uses us)) None ≡ option_map rows_of_uses (cond b (Some us) None)
  ends true us = refl
  ends false us = refl

  wants_value : (us : List Use) (n : Word) → has f.options n ≡ true → is_nil (settle_fault s.rules s.args_override_self (held_with (rows_of_uses us) (Some (n, [])))) ≡ false
  wants_value us n is = let at = (serves.option n is).1 in rw at refl

  reads_long : (us : List Use) (k : ℕ) (word : Word) (words : List Word) (q : Word × Option Word) → is_plain word ≡ false → long_of word ≡ Some q
      → reads f us None k (word ∷ words) ≡ reads_option f us q.0 q.1 (λ more waiting. reads f more waiting k words)
  unfolding reads
  reads_long us k word words q isnt long = rw (isnt, long) refl

  pub all_words : (words : List Word) → AllByRecursion (λ w. is_allowed w ≡ true) words → Idle words × Waits words
  unfolding outcome reads
  all_words [] allowed = (
    λ rows p k us calm same. rw (is_nil-or, calm, same, serves.ended us) (ends (list_all (given us) f.places) us),
    λ us n k is. let at = wants_value us n is in rw (is_nil-or, at) refl,
  )
  all_words (word ∷ words) allowed =
      let next = all_words words allowed.1 in (
        λ rows p k us calm same. elim (word_cases word allowed.0) [
          | inl plain ↦ elim (option_cases (slice_get f.places k)) [
            | inl none ↦ let t = stray_turn s rows p k word (plain_word_is word plain) (serves.no_place k none) in rw (t, plain, none) refl
            | inr at ↦
                let is = serves.place k at.0 at.1 in
                let t = place_turn s rows p k word at.0 (plain_word_is word plain) is.0 in
                let w = place_walked s rows p k word at.0 (plain_word_is word plain) is.0 is.2 in
                let n = place_next words allowed.1 next.0 us at.0 word (k + 1) (k + 1) is.1 in
                rw (t, calm, w, same, n, plain, at.1) refl
          ]
          | inr q ↦ long_next words next.0 next.1 rows p k us word q.0.0 q.0.1 calm same q.2 q.3 ∙ ap (option_map rows_of_uses) (sym (reads_long us k word words q.0 q.1 q.2))
        ],
        λ us n k is. elim (word_cases word allowed.0) [
          | inl plain ↦
              let t = value_turn s (rows_of_uses us) n k word (plain_word_is word plain) in
              let w = value_walked s (rows_of_uses us) n k word (plain_word_is word plain) (serves.option n is).1 in
              let v = option_next words allowed.1 next.0 us n word k (serves.option n is).1 in
              rw (t, w, v, plain) refl
          | inr q ↦ let t = long_turn_bad s (option n) (rows_of_uses us) (Some (n, [])) k word q.0 q.2 (wants_value us n is) in rw (t, q.1) refl
        ],
      )
