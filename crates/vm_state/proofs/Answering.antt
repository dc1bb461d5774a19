-- A list of orders of which one changes but for what it asks.
use Rattle.std.proofs.Common.{◌≡◌, ℕ, zero, suc, ◌+◌, ◌<◌, Bool, List, [], ◌∷◌, ◌++◌, length, get_or, set, take, drop, refl, sym, ap, subst, ◌∙◌, arith}
use Rattle.std.specs.List.{sum_by}
use Rattle.std.proofs.lemmas.List.{length-set, get_or-set_same, length-map, take-set}
use Rattle.std.proofs.lemmas.List.Sums.{sum_by-cons}
use Rattle.vm_law.specs.declared.script.Order.{Order}
use Rattle.vm_state.specs.declared.run_state.Answer.{Answer}
use Rattle.vm_state.specs.declared.run_state.Sample.{Sample}
use Rattle.vm_state.specs.contracts.run_state.RunState.{the_view}
use Rattle.vm_state.specs.declared.run_state.RunState.TheInside.{Inside}
use Rattle.vm_state.specs.View.{RunView, script_of, samples_of, input_length, bytes_in, IsReserved}

-- ---- the order at a place

pub samples_at : (orders : List Answer) (k : ℕ) (d : Answer) → k < length orders → samples_of orders k ≡ (get_or orders k d).samples.items
samples_at [] k d l = absurd (omega arith)
samples_at (o ∷ os) zero d l = refl
samples_at (o ∷ os) (suc k) d l = samples_at os k d (omega (arith, l))

-- ---- another answer stands there, to the same order

pub samples_set : (orders : List Answer) (k : ℕ) (x : Answer) → k < length orders → samples_of (set orders k x) k ≡ x.samples.items
samples_set orders k x l = samples_at (set orders k x) k x (let e = length-set orders k x in omega arith) ∙ ap (λ (y : Answer). y.samples.items) (get_or-set_same orders k x x l)

pub samples_past : (orders : List Answer) (i j : ℕ) (x : Answer) → i < j → samples_of (set orders i x) j ≡ samples_of orders j
samples_past [] i j x l = refl
samples_past (o ∷ os) zero zero x l = absurd (omega arith)
samples_past (o ∷ os) zero (suc j) x l = refl
samples_past (o ∷ os) (suc i) zero x l = absurd (omega arith)
samples_past (o ∷ os) (suc i) (suc j) x l = samples_past os i j x (omega (arith, l))

pub script_set : (orders : List Answer) (k : ℕ) (x d : Answer) → x.order ≡ (get_or orders k d).order → script_of (set orders k x) ≡ script_of orders
script_set [] k x d e = refl
script_set (o ∷ os) zero x d e = ap (λ y. y ∷ script_of os) e
script_set (o ∷ os) (suc k) x d e = ap (λ ys. o.order ∷ ys) (script_set os k x d e)

room_set : (orders : List Answer) (k : ℕ) (x d : Answer) → x.order ≡ (get_or orders k d).order
    → sum_by input_length (drop k (set orders k x)) ≡ sum_by input_length (drop k orders)
room_set [] k x d e = refl
room_set (o ∷ os) zero x d e = sum_by-cons input_length x os ∙ ap (λ y. length (bytes_in y) + sum_by input_length os) e ∙ sym (sum_by-cons input_length o os)
room_set (o ∷ os) (suc k) x d e = room_set os k x d e

pub reserved_set : (orders : List Answer) (place filled room : ℕ) (x d : Answer) → x.order ≡ (get_or orders place d).order
    → IsReserved orders place filled room → IsReserved (set orders place x) place filled room
reserved_set orders place filled room x d e h = record {
  untouched = λ k past. samples_past orders place k x past ∙ h.untouched k past;
  input = let same = room_set orders place x d e in let le = h.input in omega arith;
}

-- ---- what contracts see of it

pub within : (r : Inside) (v : RunView) → the_view r ≡ v → v.state.place < length v.state.script → r.place < length r.orders
within r v e l =
    let there : r.place < length (script_of r.orders) = subst (λ (w : RunView). w.state.place < length w.state.script) (sym e) l in
    let long = length-map r.orders (λ (y : Answer). y.order) in omega arith

-- another script, input, answers and samples
abbrev shown : RunView → Bool → ℕ → List Order → List ℕ → List Answer → List Sample → RunView
shown v begun place script input answers samples =
    record v { state = record v.state { begun = begun; place = place; script = script; input = input; answers = answers; samples = samples } }

shown_same : (v : RunView) (begun : Bool) (place : ℕ) (s t : List Order) (i j : List ℕ) (a b : List Answer) (x y : List Sample) → s ≡ t → i ≡ j → a ≡ b → x ≡ y
    → shown v begun place s i a x ≡ shown v begun place t j b y
shown_same v begun place s t i j a b x y st ij ab xy =
    ap (λ z. shown v begun place z i a x) st ∙ ap (λ z. shown v begun place t z a x) ij ∙ ap (λ z. shown v begun place t j z x) ab ∙ ap (λ z. shown v begun place t j b z) xy

pub noted_view : (r : Inside) (x y : Answer) (sample : Sample) → r.place < length r.orders → y ≡ get_or r.orders r.place y → x.order ≡ y.order → x.samples.items ≡ y.samples.items ++ sample ∷ []
    → shown (the_view r) r.begun r.place (script_of (set r.orders r.place x)) (drop r.fed r.input.items) (take r.place (set r.orders r.place x)) (samples_of (set r.orders r.place x) r.place)
    ≡ record (the_view r) { state = record (the_view r).state { samples = (the_view r).state.samples ++ sample ∷ [] } }
noted_view r x y sample l e order items =
    shown_same (the_view r) r.begun r.place _ (script_of r.orders) _ (drop r.fed r.input.items) _ (take r.place r.orders) _ (samples_of r.orders r.place ++ sample ∷ [])
    (script_set r.orders r.place x y (order ∙ ap (λ (z : Answer). z.order) e)) refl (take-set r.orders r.place x)
    (samples_set r.orders r.place x l ∙ items ∙ ap (λ xs. xs ++ sample ∷ []) (ap (λ (z : Answer). z.samples.items) e ∙ sym (samples_at r.orders r.place y l)))
