-- A command that is made of a form's rules serves the form.
use Rattle.std.proofs.Common.{◌≡◌, ◌∙◌, ◌&&◌, ◌||◌, ◌+◌, ◌<◌, ℕ, Bool, cond, codes, true, false, not, zero, suc, refl, ap, arith, List, [], ◌∷◌, ◌++◌, map, length, Option, Some, None}
use Rattle.std.specs.Prelude.{slice_get, option_map, option_and_then, ◌==◌, fold, find}
use Rattle.std.specs.List.{list_all, list_any, AllByRecursion}
use Rattle.std.specs.Option.{option_map_or}
use Rattle.std.proofs.lemmas.Option.{slice_get_within}
use Rattle.std.proofs.lemmas.Bool.{not-true, ltb-true}
use Rattle.std.specs.Str.{bytes_eq}
use Rattle.std.proofs.Math.Bool.{or-true}
use Rattle.std.proofs.lemmas.Bool.Decides.{nat_tests}
use Rattle.std.proofs.lemmas.Slice.Eq.{bytes_eq-Decides}
use Rattle.clap.specs.Facts.{explicit_source}
use Rattle.clap.specs.Walk.{first_of, more_values, Row, Rule, at_row, has_row, with_default, default_rows, arg_by_id, arg_by_long, arg_by_index, reading_by}
use Rattle.clap.specs.Takes.{is_given}
use Rattle.clap.specs.Simple.{Shape}
use Rattle.clap.specs.Kinds.{Kinds, check_kinds}
use Rattle.clap.specs.Faults.{default_fault, defaults_fault, given_default_fault}
use Rattle.clap.specs.declared.parser.matches.ValueSource.{ValueSource}
use Rattle.clap.specs.declared.parser.matches.ValueSource.TheVariants.{CommandLine, DefaultValue}
use Rattle.vm_cmd.specs.Word.{Word}
use Rattle.vm_cmd.specs.Form.{Form, Use, has, given, value_of}
use Rattle.vm_cmd.specs.Shapes.{option_rule, flag_rule, place_rule, places_from, form_rules, are_apart, made_shape, is_well_formed}
use Rattle.vm_cmd.proofs.Walks.{Serves, row_of_use, rows_of_uses, is_nil, same_self}

same_text : (a b : Word) → bytes_eq a b ≡ true → a ≡ b
same_text a b e = (bytes_eq-Decides a b).0 e

-- ---- by a long name

options_by_long : (ns : List Word) (rest : List Rule) (n : Word) → arg_by_long (map option_rule ns ++ rest) n ≡ cond (has ns n) (Some (option_rule n)) (arg_by_long rest n)
options_by_long [] rest n = refl
options_by_long (m ∷ ns) rest n = go (bytes_eq m n) refl (options_by_long ns rest n)
  where
    go : (b : Bool) → bytes_eq m n ≡ b → arg_by_long (map option_rule ns ++ rest) n ≡ cond (has ns n) (Some (option_rule n)) (arg_by_long rest n)
        → cond (b || false) (Some (option_rule m)) (arg_by_long (map option_rule ns ++ rest) n) ≡ cond (b || has ns n) (Some (option_rule n)) (arg_by_long rest n)
    go true e later = ap (λ (x : Word). Some (option_rule x)) (same_text m n e)
    go false e later = later

flags_by_long : (ns : List Word) (n : Word) → arg_by_long (map flag_rule ns) n ≡ cond (has ns n) (Some (flag_rule n)) None
flags_by_long [] n = refl
flags_by_long (m ∷ ns) n = go (bytes_eq m n) refl (flags_by_long ns n)
  where
    go : (b : Bool) → bytes_eq m n ≡ b → arg_by_long (map flag_rule ns) n ≡ cond (has ns n) (Some (flag_rule n)) None
        → cond (b || false) (Some (flag_rule m)) (arg_by_long (map flag_rule ns) n) ≡ cond (b || has ns n) (Some (flag_rule n)) None
    go true e later = ap (λ (x : Word). Some (flag_rule x)) (same_text m n e)
    go false e later = later

places_by_long : (k : ℕ) (ns : List Word) (rest : List Rule) (n : Word) → arg_by_long (places_from k ns ++ rest) n ≡ arg_by_long rest n
places_by_long k [] rest n = refl
places_by_long k (m ∷ ns) rest n = places_by_long (k + 1) ns rest n

by_long : (f : Form) (n : Word) → arg_by_long (form_rules f) n ≡ cond (has f.options n) (Some (option_rule n)) (cond (has f.flags n) (Some (flag_rule n)) None)
by_long f n = places_by_long 1 f.places (map option_rule f.options ++ map flag_rule f.flags) n ∙ options_by_long f.options (map flag_rule f.flags) n
    ∙ ap (cond (has f.options n) (Some (option_rule n))) (flags_by_long f.flags n)

-- ---- by an id

options_by_id : (ns : List Word) (rest : List Rule) (n : Word) → has ns n ≡ true → arg_by_id (map option_rule ns ++ rest) n ≡ Some (option_rule n)
options_by_id [] rest n is = absurd cc
options_by_id (m ∷ ns) rest n is = go (bytes_eq m n) refl is (options_by_id ns rest n)
  where
    go : (b : Bool) → bytes_eq m n ≡ b → (b || has ns n) ≡ true → (has ns n ≡ true → arg_by_id (map option_rule ns ++ rest) n ≡ Some (option_rule n))
        → cond b (Some (option_rule m)) (arg_by_id (map option_rule ns ++ rest) n) ≡ Some (option_rule n)
    go true e is later = ap (λ (x : Word). Some (option_rule x)) (same_text m n e)
    go false e is later = later is

places_past_id : (k : ℕ) (ns : List Word) (rest : List Rule) (n : Word) → has ns n ≡ false → arg_by_id (places_from k ns ++ rest) n ≡ arg_by_id rest n
places_past_id k [] rest n isnt = refl
places_past_id k (m ∷ ns) rest n isnt = go (bytes_eq m n) isnt (places_past_id (k + 1) ns rest n)
  where
    go : (b : Bool) → (b || has ns n) ≡ false → (has ns n ≡ false → arg_by_id (places_from (k + 1) ns ++ rest) n ≡ arg_by_id rest n)
        → cond b (Some (place_rule m k)) (arg_by_id (places_from (k + 1) ns ++ rest) n) ≡ arg_by_id rest n
    go true isnt later = absurd cc
    go false isnt later = later isnt

found_has : (ns : List Word) (j : ℕ) (n : Word) → slice_get ns j ≡ Some n → has ns n ≡ true
found_has [] zero n at = absurd cc
found_has [] (suc j) n at = absurd cc
found_has (m ∷ ns) zero n at = let e : m ≡ n = cc in rw (e, same_self n) refl
found_has (m ∷ ns) (suc j) n at = let h = found_has ns j n at in rw h (or-true (bytes_eq m n))

places_by_id : (k : ℕ) (ns : List Word) (rest : List Rule) (j : ℕ) (n : Word) → are_apart ns ≡ true → slice_get ns j ≡ Some n → arg_by_id (places_from k ns ++ rest) n ≡ Some (place_rule n (k + j))
places_by_id k [] rest zero n apart at = absurd cc
places_by_id k [] rest (suc j) n apart at = absurd cc
places_by_id k (m ∷ ns) rest zero n apart at =
    let e : m ≡ n = cc in
    let z : k + 0 ≡ k = omega arith in
    rw (e, same_self n, z) refl
places_by_id k (m ∷ ns) rest (suc j) n apart at = go (has ns m) (bytes_eq m n) refl refl apart (places_by_id (k + 1) ns rest j n)
  where
    go : (h b : Bool) → has ns m ≡ h → bytes_eq m n ≡ b → (not h && are_apart ns) ≡ true
        → (are_apart ns ≡ true → slice_get ns j ≡ Some n → arg_by_id (places_from (k + 1) ns ++ rest) n ≡ Some (place_rule n (k + 1 + j)))
        → cond b (Some (place_rule m k)) (arg_by_id (places_from (k + 1) ns ++ rest) n) ≡ Some (place_rule n (k + suc j))
    go true b h e apart later = absurd cc
    go false true h e apart later = let s = same_text m n e in let f : has ns m ≡ true = rw s (found_has ns j n at) in absurd cc
    go false false h e apart later = let z : k + 1 + j ≡ k + suc j = omega arith in later apart at ∙ ap (λ i. Some (place_rule n i)) z

-- ---- by a place

rest_by_index : (os fs : List Word) (k : ℕ) → arg_by_index (map option_rule os ++ map flag_rule fs) k ≡ None
rest_by_index [] [] k = refl
rest_by_index [] (n ∷ fs) k = rest_by_index [] fs k
rest_by_index (n ∷ os) fs k = rest_by_index os fs k

later_index : (k i : ℕ) → k < i → (k == i) ≡ false
later_index k i lt = grind (arith, nat_tests)

places_by_index : (k : ℕ) (ns : List Word) (rest : List Rule) (j i : ℕ) → i ≡ k + j → arg_by_index rest i ≡ None → arg_by_index (places_from k ns ++ rest) i ≡ option_map (λ n. place_rule n i) (slice_get ns j)
places_by_index k [] rest zero i at none = none
places_by_index k [] rest (suc j) i at none = none
places_by_index k (n ∷ ns) rest zero i at none =
    let z : k ≡ i = omega arith in
    let e : (i == i) ≡ true = grind (arith, nat_tests) in
    rw (z, e) refl
places_by_index k (n ∷ ns) rest (suc j) i at none =
    let d : (k == i) ≡ false = later_index k i (omega arith) in
    let later = places_by_index (k + 1) ns rest j i (omega arith) none in
    rw d later

-- ---- what stands after the words

-- a row of this id has a source that passes the test
abbrev pub told : (Option ValueSource → Bool) → Word → List Row → Bool
told t id rows = option_map_or (λ r. t r.source) (find (λ r. bytes_eq r.id id) rows) false

-- an argument whose default passes, and counts as no use
pub record Ours (a : Rule) : Type 0 where
  pub passes : (rows : List Row) → default_fault rows a ≡ []
  pub keeps : (t : Option ValueSource → Bool) → t (Some DefaultValue) ≡ false → (id : Word) (rows : List Row) → told t id (with_default rows a) ≡ told t id rows

given_past : (t : Option ValueSource → Bool) (id n : Word) (rows : List Row) (change : Row → List Row) (made : Row) → t made.source ≡ false → has_row n rows ≡ false → told t id (at_row n change (made ∷ []) rows) ≡ told t id rows
given_past t id n [] change made default none = go (bytes_eq made.id id)
  where
    go : (b : Bool) → option_map_or (λ (r : Row). t r.source) (cond b (Some made) None) false ≡ false
    go true = default
    go false = refl
given_past t id n (r ∷ rs) change made default none = go (bytes_eq r.id n) none (given_past t id n rs change made default)
  where
    two : (b : Bool) (x y : Option Row) → option_map_or (λ (r : Row). t r.source) x false ≡ option_map_or (λ (r : Row). t r.source) y false
        → option_map_or (λ (r : Row). t r.source) (cond b (Some r) x) false ≡ option_map_or (λ (r : Row). t r.source) (cond b (Some r) y) false
    two true x y e = refl
    two false x y e = e

    go : (b : Bool) → (b || has_row n rs) ≡ false → (has_row n rs ≡ false → told t id (at_row n change (made ∷ []) rs) ≡ told t id rs)
        → told t id (cond b (change r ++ rs) (r ∷ at_row n change (made ∷ []) rs)) ≡ told t id (r ∷ rs)
    go true none later = absurd cc
    go false none later = two (bytes_eq r.id id) _ _ (later none)

with_none : (rows : List Row) (b : Bool) → cond b rows rows ≡ rows
with_none rows true = refl
with_none rows false = refl

nothing : (b : Bool) (x : Kinds) → cond (b || true) [] x ≡ []
nothing true x = refl
nothing false x = refl

option_ours : (n : Word) → Ours (option_rule n)
option_ours n = record {
  passes = λ rows. nothing (has_row n rows) _;
  keeps = λ t default id rows. ap (told t id) (with_none rows (has_row n rows));
}

place_ours : (n : Word) (k : ℕ) → Ours (place_rule n k)
place_ours n k = record {
  passes = λ rows. nothing (has_row n rows) _;
  keeps = λ t default id rows. ap (told t id) (with_none rows (has_row n rows));
}

flag_ours : (n : Word) → Ours (flag_rule n)
flag_ours n = record {
  passes = λ rows. calm (has_row n rows);
  keeps = λ t default id rows. kept t default id rows (has_row n rows) refl;
}
  where
    calm : (b : Bool) → cond (b || false) [] (given_default_fault (flag_rule n) (codes "false" ∷ [])) ≡ []
    calm true = refl
    calm false = refl

    kept : (t : Option ValueSource → Bool) → t (Some DefaultValue) ≡ false → (id : Word) (rows : List Row) (b : Bool) → has_row n rows ≡ b
        → told t id (cond b rows (default_rows n (reading_by (flag_rule n)) (codes "false" ∷ []) rows)) ≡ told t id rows
    kept t default id rows true e = refl
    kept t default id rows false e = given_past t id n rows (more_values DefaultValue (codes "false" ∷ [])) (record { id = n; values = codes "false" ∷ []; count = None; source = Some DefaultValue; reading = reading_by (flag_rule n) }) default e

all_both : (xs ys : List Rule) → AllByRecursion Ours xs → AllByRecursion Ours ys → AllByRecursion Ours (xs ++ ys)
all_both [] ys hx hy = hy
all_both (x ∷ xs) ys hx hy = (hx.0, all_both xs ys hx.1 hy)

places_ours : (k : ℕ) (ns : List Word) → AllByRecursion Ours (places_from k ns)
places_ours k [] = tt
places_ours k (n ∷ ns) = (place_ours n k, places_ours (k + 1) ns)

options_ours : (ns : List Word) → AllByRecursion Ours (map option_rule ns)
options_ours [] = tt
options_ours (n ∷ ns) = (option_ours n, options_ours ns)

flags_ours : (ns : List Word) → AllByRecursion Ours (map flag_rule ns)
flags_ours [] = tt
flags_ours (n ∷ ns) = (flag_ours n, flags_ours ns)

pub form_ours : (f : Form) → AllByRecursion Ours (form_rules f)
form_ours f = all_both (places_from 1 f.places) _ (places_ours 1 f.places) (all_both (map option_rule f.options) _ (options_ours f.options) (flags_ours f.flags))

defaults_pass : (rules : List Rule) (rows : List Row) → AllByRecursion Ours rules → defaults_fault rows rules ≡ []
unfolding defaults_fault
defaults_pass [] rows ours = refl
defaults_pass (a ∷ rules) rows ours = let e = ours.0.passes rows in rw e (defaults_pass rules (with_default rows a) ours.1)

pub fold_keeps : (t : Option ValueSource → Bool) → t (Some DefaultValue) ≡ false → (rules : List Rule) (rows : List Row) (id : Word) → AllByRecursion Ours rules → told t id (fold with_default rows rules) ≡ told t id rows
fold_keeps t default [] rows id ours = refl
fold_keeps t default (a ∷ rules) rows id ours = fold_keeps t default rules (with_default rows a) id ours.1 ∙ ours.0.keeps t default id rows

pub given_rows : (t : Option ValueSource → Bool) → t (Some CommandLine) ≡ true → (us : List Use) (id : Word) → told t id (rows_of_uses us) ≡ given us id
given_rows t line [] id = refl
given_rows t line (u ∷ us) id = go (bytes_eq u.name id) (given_rows t line us id)
  where
    go : (b : Bool) → told t id (rows_of_uses us) ≡ given us id
        → option_map_or (λ (r : Row). t r.source) (cond b (Some (row_of_use u)) (find (λ r. bytes_eq r.id id) (rows_of_uses us))) false ≡ (b || given us id)
    go true later = line
    go false later = later

abbrev lacks : List Row → Rule → Bool
lacks rows a = a.required && not (is_given a.id rows)

rest_free : (rows : List Row) (os fs : List Word) → list_any (lacks rows) (map option_rule os ++ map flag_rule fs) ≡ false
rest_free rows [] [] = refl
rest_free rows [] (n ∷ fs) = rest_free rows [] fs
rest_free rows (n ∷ os) fs = rest_free rows os fs

places_lack : (rows : List Row) (us : List Use) (k : ℕ) (ns : List Word) (rest : List Rule) → ((id : Word) → is_given id rows ≡ given us id) → list_any (lacks rows) rest ≡ false
    → list_any (lacks rows) (places_from k ns ++ rest) ≡ not (list_all (given us) ns)
places_lack rows us k [] rest same free = free
places_lack rows us k (n ∷ ns) rest same free = rw (same n, places_lack rows us (k + 1) ns rest same free) (go (given us n) (list_all (given us) ns))
  where
    go : (a b : Bool) → (not a || not b) ≡ not (a && b)
    go true b = refl
    go false b = refl

checked : (b : Bool) → is_nil (check_kinds false false (not b)) ≡ b
checked true = refl
checked false = refl

both_hold : (p : Word → Bool) (ns : List Word) (n : Word) → list_all p ns ≡ true → has ns n ≡ true → p n ≡ true
both_hold p [] n all is = absurd cc
both_hold p (m ∷ ns) n all is = go (bytes_eq m n) (p m) refl refl all is (both_hold p ns n)
  where
    go : (b c : Bool) → bytes_eq m n ≡ b → p m ≡ c → (c && list_all p ns) ≡ true → (b || has ns n) ≡ true → (list_all p ns ≡ true → has ns n ≡ true → p n ≡ true) → p n ≡ true
    go b false e h all is later = absurd cc
    go true true e h all is later = let s = same_text m n e in rw s at h
    go false true e h all is later = later all is

pub made_serves : (s : Shape) (f : Form) → is_well_formed f ≡ true → Serves (made_shape s f) f
made_serves s f well =
    let w = and_parts _ _ well in
    let v = and_parts _ _ w.1 in
    record {
      once_only = refl;
      option = λ n is. (rw (by_long f n, is) refl, rw (places_past_id 1 f.places (map option_rule f.options ++ map flag_rule f.flags) n (not-true _ (both_hold (λ n. not (has f.places n)) f.options n v.0 is))) (options_by_id f.options (map flag_rule f.flags) n is));
      flag = λ n isnt is. rw (by_long f n, isnt, is) refl;
      unknown = λ n isnt none. rw (by_long f n, isnt, none) refl;
      place = λ k n at. (
        places_by_index 1 f.places (map option_rule f.options ++ map flag_rule f.flags) k (k + 1) (omega arith) (rest_by_index f.options f.flags (k + 1)) ∙ ap (option_map (λ n. place_rule n (k + 1))) at,
        places_by_id 1 f.places (map option_rule f.options ++ map flag_rule f.flags) k n w.0 at ∙ ap (λ (i : ℕ). Some (place_rule n i)) (omega arith),
        let few : length f.places < 100 = ltb-true _ _ v.1 in
            let at_most : k < length f.places = slice_get_within f.places k n at in
            omega arith,
      );
      no_place = λ k at. places_by_index 1 f.places (map option_rule f.options ++ map flag_rule f.flags) k (k + 1) (omega arith) (rest_by_index f.options f.flags (k + 1)) ∙ ap (option_map (λ n. place_rule n (k + 1))) at;
      ended = λ us.
          let rows = fold with_default (rows_of_uses us) (form_rules f) in
          let same : (id : Word) → is_given id rows ≡ given us id = λ id. fold_keeps explicit_source refl (form_rules f) (rows_of_uses us) id (form_ours f) ∙ given_rows explicit_source refl us id in
          let d = defaults_pass (form_rules f) (rows_of_uses us) (form_ours f) in
          let l = places_lack rows us 1 f.places (map option_rule f.options ++ map flag_rule f.flags) same (rest_free rows f.options f.flags) in
          rw (d, l) (checked (list_all (given us) f.places));
    }
  where
    and_parts : (a b : Bool) → (a && b) ≡ true → (a ≡ true) × (b ≡ true)
    and_parts true b e = (refl, e)
    and_parts false b e = absurd cc

-- ---- the value of a place or an option

found_past : (id n : Word) (rows : List Row) (change : Row → List Row) (made : Row) → bytes_eq made.id id ≡ false → has_row n rows ≡ false
    → find (λ r. bytes_eq r.id id) (at_row n change (made ∷ []) rows) ≡ find (λ r. bytes_eq r.id id) rows
found_past id n [] change made other none = rw other refl
found_past id n (r ∷ rs) change made other none = go (bytes_eq r.id n) none (found_past id n rs change made other)
  where
    go : (b : Bool) → (b || has_row n rs) ≡ false → (has_row n rs ≡ false → find (λ r. bytes_eq r.id id) (at_row n change (made ∷ []) rs) ≡ find (λ r. bytes_eq r.id id) rs)
        → find (λ r. bytes_eq r.id id) (cond b (change r ++ rs) (r ∷ at_row n change (made ∷ []) rs)) ≡ find (λ r. bytes_eq r.id id) (r ∷ rs)
    go true none later = absurd cc
    go false none later = ap (cond (bytes_eq r.id id) (Some r)) (later none)

abbrev Keeps : Word → List Rule → Type 0
Keeps id rules = (rows : List Row) → find (λ r. bytes_eq r.id id) (fold with_default rows rules) ≡ find (λ r. bytes_eq r.id id) rows

flags_keep : (id : Word) (ns : List Word) → has ns id ≡ false → Keeps id (map flag_rule ns)
flags_keep id [] lack rows = refl
flags_keep id (n ∷ ns) lack rows = go (bytes_eq n id) refl lack (flags_keep id ns)
  where
    one : bytes_eq n id ≡ false → (b : Bool) → has_row n rows ≡ b → find (λ r. bytes_eq r.id id) (cond b rows (default_rows n (reading_by (flag_rule n)) (codes "false" ∷ []) rows)) ≡ find (λ r. bytes_eq r.id id) rows
    one other true e = refl
    one other false e = found_past id n rows (more_values DefaultValue (codes "false" ∷ [])) (record { id = n; values = codes "false" ∷ []; count = None; source = Some DefaultValue; reading = reading_by (flag_rule n) }) other e

    go : (b : Bool) → bytes_eq n id ≡ b → (b || has ns id) ≡ false → (has ns id ≡ false → Keeps id (map flag_rule ns)) → find (λ r. bytes_eq r.id id) (fold with_default rows (map flag_rule (n ∷ ns))) ≡ find (λ r. bytes_eq r.id id) rows
    go true e lack later = absurd cc
    go false e lack later = later lack (with_default rows (flag_rule n)) ∙ one e (has_row n rows) refl

options_keep : (id : Word) (ns : List Word) (rest : List Rule) → Keeps id rest → Keeps id (map option_rule ns ++ rest)
options_keep id [] rest keeps rows = keeps rows
options_keep id (n ∷ ns) rest keeps rows = options_keep id ns rest keeps (with_default rows (option_rule n)) ∙ ap (find (λ r. bytes_eq r.id id)) (with_none rows (has_row n rows))

places_keep : (id : Word) (k : ℕ) (ns : List Word) (rest : List Rule) → Keeps id rest → Keeps id (places_from k ns ++ rest)
places_keep id k [] rest keeps rows = keeps rows
places_keep id k (n ∷ ns) rest keeps rows = places_keep id (k + 1) ns rest keeps (with_default rows (place_rule n k)) ∙ ap (find (λ r. bytes_eq r.id id)) (with_none rows (has_row n rows))

find_row_of : (us : List Use) (id : Word) → find (λ r. bytes_eq r.id id) (rows_of_uses us) ≡ option_map row_of_use (find (λ u. bytes_eq u.name id) us)
find_row_of [] id = refl
find_row_of (u ∷ us) id = go (bytes_eq u.name id) (find_row_of us id)
  where
    go : (b : Bool) → find (λ r. bytes_eq r.id id) (rows_of_uses us) ≡ option_map row_of_use (find (λ u. bytes_eq u.name id) us)
        → cond b (Some (row_of_use u)) (find (λ r. bytes_eq r.id id) (rows_of_uses us)) ≡ option_map row_of_use (cond b (Some u) (find (λ u. bytes_eq u.name id) us))
    go true later = refl
    go false later = later

pub first_given : (f : Form) (us : List Use) (id : Word) → has f.flags id ≡ false
    → first_of id (fold with_default (rows_of_uses us) (form_rules f)) ≡ value_of us id
first_given f us id other =
    ap (option_and_then (λ (r : Row). slice_get r.values 0)) (places_keep id 1 f.places _ (options_keep id f.options _ (flags_keep id f.flags other)) (rows_of_uses us) ∙ find_row_of us id)
    ∙ go (find (λ u. bytes_eq u.name id) us)
  where
    go : (o : Option Use) → option_and_then (λ (r : Row). slice_get r.values 0) (option_map row_of_use o) ≡ option_map (λ (u : Use). u.value) o
    go None = refl
    go (Some u) = refl
