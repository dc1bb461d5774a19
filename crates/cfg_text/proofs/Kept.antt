-- The values that are kept, one after the other: each name is new.
use Rattle.std.proofs.Common.{◌≡◌, ◌∙◌, ℕ, Bool, true, false, cond, List, [], ◌∷◌, ◌++◌, map, Option, Some, None, refl, sym, ap, subst, string_bytes}
use Rattle.std.specs.Prelude.{option_map}
use Rattle.std.specs.Borrow.{Bor}
use Rattle.std.specs.List.{AllByRecursion, IsDistinct}
use Rattle.std.specs.Map.{keys_of, lookup}
use Rattle.std.specs.Str.{bytes_eq}
use Rattle.std.specs.Cmp.Lexicographic.{nat_list_eq_equiv}
use Rattle.std.specs.declared.string.String.{String}
use Rattle.std.specs.declared.alloc.Global.{Global}
use Rattle.indexmap.specs.IndexMap.{insert_entry}
use Rattle.cfg_text.specs.declared.expand.Written.{Written}
use Rattle.cfg_text.specs.Lines.{Variable, variables_of}
use Rattle.cfg_text.specs.Config.{pairs_of}
use Rattle.cfg_text.specs.Values.{values_of}

abbrev Pair : Type 0
Pair = List ℕ × List ℕ

abbrev pub names_of : List Pair → List (List ℕ)
names_of ps = map (λ p. p.0) ps

-- ---- names that are apart

apart_by_bytes : (name : Bor (List ℕ)) (es : List (Bor (List ℕ) × Written)) → AllByRecursion (λ (k : Bor (List ℕ)). bytes_eq name.now k.now ≡ false) (keys_of es)
    → (vs : List Variable) → AllByRecursion (λ (k : List ℕ). bytes_eq name.now k ≡ false) (names_of (values_of vs (variables_of es)))
apart_by_bytes name [] h vs = tt
apart_by_bytes name (e ∷ es) h vs = (h.0, apart_by_bytes name es h.1 vs)

pub distinct_names : (es : List (Bor (List ℕ) × Written)) → IsDistinct (λ (x y : Bor (List ℕ)). bytes_eq x.now y.now) (keys_of es)
    → (vs : List Variable) → IsDistinct bytes_eq (names_of (values_of vs (variables_of es)))
unfolding IsDistinct
distinct_names [] h vs = tt
distinct_names (e ∷ es) h vs = (apart_by_bytes e.0 es h.0 vs, distinct_names es h.1 vs)

apart_at : (a x : List ℕ) (xs ys : List (List ℕ)) → AllByRecursion (λ y. bytes_eq a y ≡ false) (xs ++ x ∷ ys) → bytes_eq a x ≡ false
apart_at a x [] ys h = h.0
apart_at a x (b ∷ xs) ys h = apart_at a x xs ys h.1

new_name : (done : List Pair) (name value : List ℕ) (rest : List (List ℕ)) → IsDistinct bytes_eq (names_of done ++ name ∷ rest) → lookup (bytes_eq name) done ≡ None
unfolding IsDistinct
new_name [] name value rest h = refl
new_name (p ∷ done) name value rest h =
    let other : bytes_eq name p.0 ≡ false = nat_list_eq_equiv.symm name p.0 ∙ apart_at p.0 name (names_of done) rest h.0 in
    ap (λ (t : Bool). cond t (Some p.1) (lookup (bytes_eq name) done)) other ∙ new_name done name value rest h.1

names-append : (xs ys : List Pair) → names_of (xs ++ ys) ≡ names_of xs ++ names_of ys
names-append [] ys = refl
names-append (x ∷ xs) ys = ap (λ (ns : List (List ℕ)). x.0 ∷ ns) (names-append xs ys)

-- the name that comes next isn't among those that are kept
pub next_is_new : (done : List Pair) (name value : List ℕ) (rest all : List Pair) → done ++ (name, value) ∷ rest ≡ all → IsDistinct bytes_eq (names_of all) → lookup (bytes_eq name) done ≡ None
next_is_new done name value rest all so_far apart =
    new_name done name value (names_of rest) (subst (IsDistinct bytes_eq) (sym (ap names_of so_far) ∙ names-append done ((name, value) ∷ rest)) apart)

-- ---- what the index gives

pub kept_value : (es : List (String Global × String Global)) (name : List ℕ) → lookup (bytes_eq name) (pairs_of es) ≡ option_map (λ v. string_bytes v) (lookup (λ k. bytes_eq name (string_bytes k)) es)
kept_value [] name = refl
kept_value (e ∷ es) name = go (bytes_eq name (string_bytes e.0)) (kept_value es name)
  where
    go : (t : Bool) → lookup (bytes_eq name) (pairs_of es) ≡ option_map (λ v. string_bytes v) (lookup (λ k. bytes_eq name (string_bytes k)) es)
        → cond t (Some (string_bytes e.1)) (lookup (bytes_eq name) (pairs_of es)) ≡ option_map (λ v. string_bytes v) (cond t (Some e.1) (lookup (λ k. bytes_eq name (string_bytes k)) es))
    go true later = refl
    go false later = later

pub put_new : (es : List (String Global × String Global)) (name value : String Global) → lookup (bytes_eq (string_bytes name)) (pairs_of es) ≡ None
    → pairs_of (insert_entry (λ x y. bytes_eq (string_bytes x) (string_bytes y)) es name value) ≡ pairs_of es ++ (string_bytes name, string_bytes value) ∷ []
put_new [] name value none = refl
put_new (e ∷ es) name value none = go (bytes_eq (string_bytes name) (string_bytes e.0)) none (put_new es name value)
  where
    go : (t : Bool) → cond t (Some (string_bytes e.1)) (lookup (bytes_eq (string_bytes name)) (pairs_of es)) ≡ None
        → (lookup (bytes_eq (string_bytes name)) (pairs_of es) ≡ None → pairs_of (insert_entry (λ x y. bytes_eq (string_bytes x) (string_bytes y)) es name value) ≡ pairs_of es ++ (string_bytes name, string_bytes value) ∷ [])
        → pairs_of (cond t ((e.0, value) ∷ es) (e ∷ insert_entry (λ x y. bytes_eq (string_bytes x) (string_bytes y)) es name value)) ≡ pairs_of (e ∷ es) ++ (string_bytes name, string_bytes value) ∷ []
    go true none later = absurd cc
    go false none later = ap (λ (ps : List Pair). (string_bytes e.0, string_bytes e.1) ∷ ps) (later none)
