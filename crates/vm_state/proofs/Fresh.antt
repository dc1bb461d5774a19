-- Orders of which none is done.
use Rattle.std.proofs.Common.{◌≡◌, ℕ, zero, suc, ◌≤◌, List, [], ◌∷◌, refl, ap, ◌∙◌, arith}
use Rattle.std.specs.Prelude.{map}
use Rattle.std.specs.List.{sum_by}
use Rattle.vm_law.specs.declared.script.Order.{Order}
use Rattle.vm_state.specs.declared.run_state.Answer.{Answer}
use Rattle.vm_state.specs.View.{fresh, script_of, samples_of, input_length, IsReserved}

pub script_of_fresh : (s : List Order) → script_of (map fresh s) ≡ s
script_of_fresh [] = refl
script_of_fresh (o ∷ os) = ap (λ xs. o ∷ xs) (script_of_fresh os)

pub samples_of_fresh : (s : List Order) (k : ℕ) → samples_of (map fresh s) k ≡ []
samples_of_fresh [] k = refl
samples_of_fresh (o ∷ os) zero = refl
samples_of_fresh (o ∷ os) (suc k) = samples_of_fresh os k

-- room for the input of all of them is enough
pub fresh_is_reserved : (s : List Order) (room : ℕ) → sum_by input_length (map fresh s) ≤ room → IsReserved (map fresh s) 0 0 room
fresh_is_reserved s room h = record { untouched = λ k past. samples_of_fresh s k; input = omega arith }

pub none_noted : (orders : List Answer) (s : List Order) → orders ≡ map fresh s → (k : ℕ) → samples_of orders k ≡ []
none_noted orders s e k = ap (λ (xs : List Answer). samples_of xs k) e ∙ samples_of_fresh s k
