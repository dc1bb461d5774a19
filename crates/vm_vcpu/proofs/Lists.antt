-- What the runner of a vCPU chooses: a lawful entry that moves no image.
use Rattle.std.proofs.Common.{◌≡◌, ℕ, ◌+◌, ◌<◌, ◌-◌, Bool, true, false, not, cond, List, [], ◌∷◌, refl, sym, ap, ◌∙◌, inl, Option, Some, arith}
use Rattle.std.specs.Prelude.{◌==◌, nat_le}
use Rattle.std.specs.List.{find, list_all}
use Rattle.std.proofs.lemmas.Bool.{and_parts, true≢false}
use Rattle.std.proofs.lemmas.Bool.Decides.{nat_tests}
use Rattle.vm_law.specs.declared.journal.Entry.{Entry}
use Rattle.vm_state.specs.Machine.{cpu_count}
use Rattle.vm_state.specs.State.{State}
use Rattle.vm_table.specs.Table.{lawful}
use Rattle.vm_table.specs.Turns.{first_lawful, is_exit_due, list_of, runner_list}
use Rattle.vm_board.specs.Calls.{MayAdd, moves_image}

passes_at : {X : Type 0} (t : X → Bool) (y x : X) (rest : Option X) (b : Bool) → t y ≡ b → cond b (Some y) rest ≡ Some x → (rest ≡ Some x → t x ≡ true) → t x ≡ true
passes_at t y x rest true is e f = let same : y ≡ x = cc in ap t (sym same) ∙ is
passes_at t y x rest false is e f = f e

find_passes : {X : Type 0} (t : X → Bool) (xs : List X) (x : X) → find t xs ≡ Some x → t x ≡ true
find_passes t [] x e = absurd (cc)
find_passes t (y ∷ ys) x e = passes_at t y x (find t ys) (t y) refl e (find_passes t ys x)

-- what holds of each element of a list holds of the one that is found
holds_at : {X : Type 0} (q : X → Bool) (y x : X) (rest : Option X) (b : Bool) → q y ≡ true → cond b (Some y) rest ≡ Some x → (rest ≡ Some x → q x ≡ true) → q x ≡ true
holds_at q y x rest true is e f = let same : y ≡ x = cc in ap q (sym same) ∙ is
holds_at q y x rest false is e f = f e

find_holds : {X : Type 0} (t q : X → Bool) (xs : List X) (x : X) → list_all q xs ≡ true → find t xs ≡ Some x → q x ≡ true
find_holds t q [] x a e = absurd (cc)
find_holds t q (y ∷ ys) x a e = let p = and_parts (q y) (list_all q ys) a in holds_at q y x (find t ys) (t y) p.0 e (find_holds t q ys x p.1)

runner_if : (s : State) (i : ℕ) (b : Bool) → is_exit_due s i ≡ b → list_all (λ e. not (moves_image e)) (runner_list s i) ≡ true
unfolding runner_list
runner_if s i true h = rw h refl
runner_if s i false h = rw h refl

is_runner : (s : State) (i p : ℕ) → p ≡ 1 + i → i < cpu_count s.machine → list_of s p ≡ runner_list s i
unfolding list_of
is_runner s i p e l =
    let zero : (p == 0) ≡ false = grind (arith, nat_tests, e) in
    let within : nat_le p (cpu_count s.machine) ≡ true = grind (arith, nat_tests, e, l) in
    let same : p - 1 ≡ i = omega arith in
    rw (zero, within, same) refl

not_moved : (b : Bool) → not b ≡ true → b ≡ false
not_moved true h = absurd (true≢false (sym h))
not_moved false h = refl

pub record MayChoose (s : State) (p : ℕ) (e : Entry) : Type 0 where
  pub may : MayAdd s (record { by = p; entry = e })
  pub home : moves_image e ≡ false

pub may_choose : (s : State) (i p : ℕ) (e : Entry) → p ≡ 1 + i → i < cpu_count s.machine → first_lawful s p ≡ Some e → MayChoose s p e
may_choose s i p e is l f = record {
  may = record { lawful = find_passes (λ x. lawful s p x) (list_of s p) e f; orderly = inl f };
  home = not_moved (moves_image e) (find_holds (λ x. lawful s p x) (λ x. not (moves_image x)) (list_of s p) e (ap (λ xs. list_all (λ x. not (moves_image x)) xs) (is_runner s i p is l) ∙ runner_if s i (is_exit_due s i) refl) f);
}
