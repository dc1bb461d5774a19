-- Loops over the pins.
use Rattle.std.proofs.Common.{◌≡◌, ℕ, zero, suc, ◌+◌, ◌<◌, ◌≤◌, List, [], ◌∷◌, ◌++◌, length, get_or, set, map, take, drop, refl, sym, ap, arith, add-one, append_assoc, drop-cons, Option, Some, None, ◌∙◌, filter, filter_map, Bool, true, false, cond, append-nil, length-append}
use Rattle.std.specs.Prelude.{if◌then◌else◌}
use Rattle.std.specs.List.{cons_option}
use Rattle.std.specs.Ordering.{nat_cmp}
use Rattle.std.specs.Cmp.{nat_cmp_total}
use Rattle.std.specs.FinSet.{from_list, from_list_push, insert, nat_cmp-IsAntisymmetric}
use Rattle.std.proofs.Math.Seq.{take-suc}
use Rattle.std.proofs.lemmas.List.Elements.{filter-append}
use Rattle.vm_vectors.specs.Vectors.{Vectors}
use Rattle.vm_ioapic.specs.declared.pin.Pin.{Pin}
use Rattle.vm_ioapic.specs.Pin.{pin_at_start}
use Rattle.vm_ioapic.specs.Ioapic.{is_level_for, vectors_of}
use Rattle.std.proofs.lemmas.List.{take_more_set, drop-set-lt, map-append, ext_get_or, get_or-map, length-map}

module _ {X : Type 0} where
  pub take_all : (i : ℕ) (xs : List X) → length xs ≤ i → take i xs ≡ xs
  take_all zero [] h = refl
  take_all zero (x ∷ xs) h = absurd (omega arith)
  take_all (suc i) [] h = refl
  take_all (suc i) (x ∷ xs) h = ap (λ ys. x ∷ ys) (take_all i xs (omega arith))

  drop_all : (i : ℕ) (xs : List X) → length xs ≤ i → drop i xs ≡ []
  drop_all zero [] h = refl
  drop_all zero (x ∷ xs) h = absurd (omega arith)
  drop_all (suc i) [] h = refl
  drop_all (suc i) (x ∷ xs) h = drop_all i xs (omega arith)

  -- f was done to the first i elements
  abbrev pub MappedSoFar : (X → X) → List X → List X → ℕ → Type 0
  MappedSoFar f before xs i = take i xs ++ map f (drop i xs) ≡ map f before

  rest : (xs : List X) (i : ℕ) (d y : X) → i < length xs → drop i xs ≡ get_or xs i d ∷ drop (i + 1) (set xs i y)
  rest xs i d y l =
      drop-cons xs i d l ∙ ap (λ n. get_or xs i d ∷ drop n xs) (sym (add-one i)) ∙ ap (λ ys. get_or xs i d ∷ ys) (sym (drop-set-lt (i + 1) xs i y (omega arith)))

  pub mapped_more : (f : X → X) (before xs : List X) (i : ℕ) (d y : X) → i < length xs → y ≡ f (get_or xs i d) → MappedSoFar f before xs i → MappedSoFar f before (set xs i y) (i + 1)
  mapped_more f before xs i d y l e so_far =
      ap (λ zs. zs ++ map f (drop (i + 1) (set xs i y))) (take_more_set xs i y l)
      ∙ append_assoc (take i xs) (y ∷ []) (map f (drop (i + 1) (set xs i y)))
      ∙ ap (λ z. take i xs ++ (z ∷ map f (drop (i + 1) (set xs i y)))) e
      ∙ ap (λ zs. take i xs ++ map f zs) (sym (rest xs i d y l))
      ∙ so_far

  pub mapped_all : (f : X → X) (before xs : List X) (i : ℕ) → length xs ≤ i → MappedSoFar f before xs i → xs ≡ map f before
  mapped_all f before xs i past so_far =
      sym (append-nil xs) ∙ ap (λ zs. zs ++ []) (sym (take_all i xs past)) ∙ ap (λ zs. take i xs ++ map f zs) (sym (drop_all i xs past)) ∙ so_far

module _ {X Y : Type 0} where
  -- what h gives of the first i elements is in the list
  abbrev pub GivenSoFar : (X → Option Y) → List X → List X → List Y → ℕ → Type 0
  GivenSoFar h before xs ys i = ys ++ filter_map h (drop i xs) ≡ filter_map h before

  pub given_more : (h : X → Option Y) (before xs : List X) (ys zs : List Y) (i : ℕ) (d y : X) (m : Y) → i < length xs → h (get_or xs i d) ≡ Some m → zs ≡ ys ++ m ∷ [] → GivenSoFar h before xs ys i → GivenSoFar h before (set xs i y) zs (i + 1)
  given_more h before xs ys zs i d y m l e now so_far =
      ap (λ us. us ++ filter_map h (drop (i + 1) (set xs i y))) now
      ∙ append_assoc ys (m ∷ []) (filter_map h (drop (i + 1) (set xs i y)))
      ∙ ap (λ o. ys ++ cons_option o (filter_map h (drop (i + 1) (set xs i y)))) (sym e)
      ∙ ap (λ us. ys ++ filter_map h us) (sym (rest xs i d y l))
      ∙ so_far

  pub given_none : (h : X → Option Y) (before xs : List X) (ys zs : List Y) (i : ℕ) (d y : X) → i < length xs → h (get_or xs i d) ≡ None → zs ≡ ys → GivenSoFar h before xs ys i → GivenSoFar h before (set xs i y) zs (i + 1)
  given_none h before xs ys zs i d y l e now so_far =
      ap (λ us. us ++ filter_map h (drop (i + 1) (set xs i y))) now
      ∙ ap (λ o. ys ++ cons_option o (filter_map h (drop (i + 1) (set xs i y)))) (sym e)
      ∙ ap (λ us. ys ++ filter_map h us) (sym (rest xs i d y l))
      ∙ so_far

  pub given_all : (h : X → Option Y) (before xs : List X) (ys : List Y) (i : ℕ) → length xs ≤ i → GivenSoFar h before xs ys i → ys ≡ filter_map h before
  given_all h before xs ys i past so_far = sym (append-nil ys) ∙ ap (λ us. ys ++ filter_map h us) (sym (drop_all i xs past)) ∙ so_far

pub one_more : {Y : Type 0} → (ys zs : List Y) (m : Y) (i : ℕ) → zs ≡ ys ++ m ∷ [] → length ys ≤ i → length zs ≤ i + 1
one_more ys zs m i e few = let n = ap length e ∙ length-append ys (m ∷ []) in omega (arith, n)

-- what f gives of each pin
pub map_all : (f : Pin → ℕ) (ys : List ℕ) (pins : List Pin) → length ys ≡ length pins → ((k : ℕ) → k < length ys → get_or ys k 0 ≡ f (get_or pins k pin_at_start)) → ys ≡ map f pins
map_all f ys pins long each =
    ext_get_or 0 ys (map f pins) (long ∙ sym (length-map pins f)) (λ k l. each k l ∙ sym (get_or-map f pins k pin_at_start 0 (omega (arith, long))))

abbrev vector_of : Pin → ℕ
vector_of p = p.entry.vector

push_if : (b : Bool) (ps : List Pin) (x : Pin) → from_list {R = nat_cmp} (map vector_of (ps ++ cond b (x ∷ []) [])) ≡ (if b then insert (from_list (map vector_of ps)) (vector_of x) else from_list (map vector_of ps))
push_if true ps x = ap (λ ks. from_list {R = nat_cmp} ks) (map-append vector_of ps (x ∷ [])) ∙ from_list_push nat_cmp_total nat_cmp-IsAntisymmetric (map vector_of ps) (vector_of x)
push_if false ps x = ap (λ zs. from_list {R = nat_cmp} (map vector_of zs)) (append-nil ps)

vectors_more : (pins : List Pin) (i cpu cpus : ℕ) (d : Pin) → i < length pins → vectors_of (take (i + 1) pins) cpu cpus ≡ (if is_level_for cpu cpus (get_or pins i d) then insert (vectors_of (take i pins) cpu cpus) (get_or pins i d).entry.vector else vectors_of (take i pins) cpu cpus)
vectors_more pins i cpu cpus d l =
    ap (λ n. vectors_of (take n pins) cpu cpus) (add-one i)
    ∙ ap (λ ps. vectors_of ps cpu cpus) (take-suc pins i d l)
    ∙ ap (λ ys. from_list {R = nat_cmp} (map vector_of ys)) (filter-append (is_level_for cpu cpus) (take i pins) (get_or pins i d ∷ []))
    ∙ push_if (is_level_for cpu cpus (get_or pins i d)) (filter (is_level_for cpu cpus) (take i pins)) (get_or pins i d)

-- one more entry is level and for the vCPU
pub vectors_then : (pins : List Pin) (i cpu cpus : ℕ) (d : Pin) (s t : Vectors) → i < length pins → is_level_for cpu cpus (get_or pins i d) ≡ true → s ≡ vectors_of (take i pins) cpu cpus → t ≡ insert s (get_or pins i d).entry.vector → t ≡ vectors_of (take (i + 1) pins) cpu cpus
vectors_then pins i cpu cpus d s t l e before added =
    added
    ∙ ap (λ (q : Vectors). insert q (get_or pins i d).entry.vector) before
    ∙ sym (vectors_more pins i cpu cpus d l ∙ ap (λ (b : Bool). if b then insert (vectors_of (take i pins) cpu cpus) (get_or pins i d).entry.vector else vectors_of (take i pins) cpu cpus) e)

-- or it isn't
pub vectors_else : (pins : List Pin) (i cpu cpus : ℕ) (d : Pin) (s : Vectors) → i < length pins → is_level_for cpu cpus (get_or pins i d) ≡ false → s ≡ vectors_of (take i pins) cpu cpus → s ≡ vectors_of (take (i + 1) pins) cpu cpus
vectors_else pins i cpu cpus d s l e before =
    before
    ∙ sym (vectors_more pins i cpu cpus d l ∙ ap (λ (b : Bool). if b then insert (vectors_of (take i pins) cpu cpus) (get_or pins i d).entry.vector else vectors_of (take i pins) cpu cpus) e)
