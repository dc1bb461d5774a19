-- What torn writes leave of a file behind a gate.
use Rattle.std.proofs.Common.{◌≡◌, inl, inr, ℕ, suc, List, [], ◌∷◌, length, take, drop, sym, ◌∙◌, ap, arith, ◌-◌, ◌++◌, length-drop, take-append-drop, Some, slice_get}
use Rattle.std.proofs.lemmas.List.{take_all, take_rest}
use Rattle.std.proofs.lemmas.Bool.{cases_eq}
use Rattle.vm_host.specs.Crash.{Torn}
use Rattle.vm_host.specs.Files.{IsWritten}
use Rattle.ckpt_store.specs.Gate.{IsShutOrWhole}

pub torn_first : (text b : List ℕ) → Torn 0 1 [] b → IsShutOrWhole text b
torn_first text b torn = inl torn.no_longer

pub torn_rest : (text b : List ℕ) (n : ℕ) → Torn 1 n (0 ∷ []) b → IsShutOrWhole text b
torn_rest text [] n torn = inl (omega arith)
torn_rest text (x ∷ b) n torn =
    let head : x ∷ [] ≡ 0 ∷ [] = torn.before in
    let is : x ≡ 0 = cc in
    inr (inl (λ one. absurd (omega (arith, is, one))))

pub torn_gate : (rest b : List ℕ) → Torn 0 1 (0 ∷ rest) b → IsShutOrWhole (1 ∷ rest) b
torn_gate rest [] torn = inl (omega arith)
torn_gate rest (x ∷ b) torn =
    let count : suc (length rest) - 1 ≡ length rest = omega arith in
    let after : take (suc (length rest) - 1) b ≡ rest = torn.after in
    let same : b ≡ rest = sym (take_all (length rest) b (omega (arith, torn.no_longer))) ∙ ap (λ (k : ℕ). take k b) (sym count) ∙ after in
    elim (cases_eq x 1) [
      | inl is_open ↦ inr (inr (λ i. is_open i ∷ same i))
      | inr shut ↦ inr (inl shut)
    ]

pub written_first : (g : List ℕ) → IsWritten [] 0 (0 ∷ []) g → g ≡ 0 ∷ []
written_first g w = sym (take_all 1 g (omega (arith, w.size))) ∙ w.bytes

pub written_rest : (rest g : List ℕ) → IsWritten (0 ∷ []) 1 rest g → g ≡ 0 ∷ rest
written_rest rest g w =
    let back : drop 1 g ≡ rest = sym (take_all (length rest) (drop 1 g) (omega (arith, w.size, length-drop 1 g))) ∙ w.bytes in
    sym (take-append-drop 1 g) ∙ ap (λ (l : List ℕ). l ++ drop 1 g) w.before ∙ ap (λ (l : List ℕ). 0 ∷ l) back

pub opened : (text : List ℕ) → slice_get text 0 ≡ Some 1 → text ≡ 1 ∷ take (length text - 1) (drop 1 text)
opened [] e = cc
opened (x ∷ text) e = let is : x ≡ 1 = cc in (λ i. is i ∷ sym (take_rest (x ∷ text) 1) i)

pub opened_whole : (text : List ℕ) → slice_get text 0 ≡ Some 1 → text ≡ 1 ∷ drop 1 text
opened_whole [] e = cc
opened_whole (x ∷ text) e = let is : x ≡ 1 = cc in ap (λ (y : ℕ). y ∷ text) is

pub shut_first : (text b : List ℕ) → take 1 b ≡ 0 ∷ [] → IsShutOrWhole text b
shut_first text [] same = inl (omega arith)
shut_first text (x ∷ b) same =
    let head : x ∷ [] ≡ 0 ∷ [] = same in
    let is : x ≡ 0 = cc in
    inr (inl (λ one. absurd (omega (arith, is, one))))
