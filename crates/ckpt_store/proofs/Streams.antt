-- A file that is written on at its end, behind its gate.
use Rattle.std.proofs.Common.{◌≡◌, ⊎_elim, ℕ, ◌+◌, ◌-◌, min, ◌≤◌, ◌<◌, List, [], ◌∷◌, ◌++◌, length, take, drop, refl, sym, ◌∙◌, ap, arith, append_assoc, length-take, length-drop, take-append-drop}
use Rattle.std.proofs.lemmas.List.{take_all, take-take, drop-append-le, drop-take}
use Rattle.vm_host.specs.Crash.{Passes, AddsTorn, Torn, Only, SinceEarlier}
use Rattle.vm_host.specs.Files.{IsWritten}
use Rattle.ckpt_store.specs.Gate.{KeepsGate, IsShutOrWhole}
use Rattle.ckpt_store.proofs.Torns.{shut_first}

pub appended : (f piece g : List ℕ) (at : ℕ) → length f ≡ at → IsWritten f at piece g → g ≡ f ++ piece
appended f piece g at is w =
    let size : length g ≡ length f + length piece = omega (arith, w.size, is) in
    let least : min at (length f) ≡ length f = omega (arith, is) in
    let front : take (length f) g ≡ f = ap (λ (k : ℕ). take k g) (sym least) ∙ w.before ∙ take_all at f (omega (arith, is)) in
    let tail : drop (length f) g ≡ piece =
    ap (λ (k : ℕ). drop k g) is ∙ sym (take_all (length piece) (drop at g) (omega (arith, size, is, length-drop at g))) ∙ w.bytes in
    sym (take-append-drop (length f) g) ∙ ap (λ (l : List ℕ). l ++ drop (length f) g) front ∙ ap (λ (l : List ℕ). f ++ l) tail

-- the gate stays in each torn outcome of a write behind it
pub torn_behind : (at n : ℕ) (d b : List ℕ) → 1 ≤ at → 0 < length d → Torn at n d b → take 1 b ≡ take 1 d
torn_behind at n d b behind some torn =
    let least : 1 ≤ min at (length d) = omega arith in
    sym (take-take 1 (min at (length d)) b least) ∙ ap (λ (l : List ℕ). take 1 l) torn.before ∙ take-take 1 at d behind

longer : (x y : List ℕ) → take 1 x ≡ take 1 y → 0 < length y → 0 < length x
longer x y same some = omega (arith, ap length same, length-take 1 x, length-take 1 y)

pub gate_kept : (old : List ℕ → Type 0) → KeepsGate old old
gate_kept old b h = (b, h, λ _. refl)

pub gate_stays : (name : List ℕ) (since m n at k : ℕ) (a b c : List ℕ → ℕ → List ℕ → Type 0) → SinceEarlier b → since ≤ m → 1 ≤ at
    → KeepsGate (a name since) (b name since) → Passes (λ q. q ≡ name) m n b c → AddsTorn at k (b name m) (c name m) → KeepsGate (a name since) (c name since)
gate_stays name since m n at k a b c earlier le behind kept time adds x h =
    ⊎_elim (kept x)
    (λ came. ⊎_elim (λ was. kept x (earlier name since m x le was))
    (λ w.
    let from = kept w.0 (earlier name since m w.0 le w.1) in
    (from.0, from.1, λ some. torn_behind at k w.0 x behind (longer w.0 from.0 (from.2 some) some) w.2 ∙ from.2 some))
    (adds x came))
    (time.nothing_else name since x le h)

-- a piece more of a text
pub goes_on : (f piece rest rest_new whole : List ℕ) → f ++ rest ≡ whole → rest ≡ piece ++ rest_new → (f ++ piece) ++ rest_new ≡ whole
goes_on f piece rest rest_new whole is split = append_assoc f piece rest_new ∙ ap (λ (l : List ℕ). f ++ l) (sym split) ∙ is

-- the first piece, whose first byte is the gate
pub first_piece : (buffer rest rest_new : List ℕ) (first : ℕ) → rest ≡ take first buffer ++ rest_new → 1 ≤ first → first ≤ length buffer → ((0 ∷ []) ++ take (first - 1) (drop 1 buffer)) ++ rest_new ≡ 0 ∷ drop 1 rest
first_piece buffer rest rest_new first split some fits =
    let count : 1 + (first - 1) ≡ first = omega arith in
    let cut : take (first - 1) (drop 1 buffer) ≡ drop 1 (take first buffer) = sym (drop-take 1 (first - 1) buffer) ∙ ap (λ (k : ℕ). drop 1 (take k buffer)) count in
    let long : 1 ≤ length (take first buffer) = omega (arith, length-take first buffer) in
    let tail : drop 1 rest ≡ drop 1 (take first buffer) ++ rest_new = ap (λ (l : List ℕ). drop 1 l) split ∙ drop-append-le 1 (take first buffer) rest_new long in
    ap (λ (l : List ℕ). 0 ∷ l) (ap (λ (l : List ℕ). l ++ rest_new) cut ∙ sym tail)

pub first_size : (buffer : List ℕ) (first : ℕ) → 1 ≤ first → first ≤ length buffer → length ((0 ∷ []) ++ take (first - 1) (drop 1 buffer)) ≡ first
first_size buffer first some fits = omega (arith, length-take (first - 1) (drop 1 buffer), length-drop 1 buffer)

pub gate_safe : (name : List ℕ) (since m n : ℕ) (a b : List ℕ → ℕ → List ℕ → Type 0) (text : List ℕ) → since ≤ m
    → ((x : List ℕ) → a name since x → IsShutOrWhole text x) → Only (0 ∷ []) (a name m) → Passes (λ q. q ≡ name) m n a b → KeepsGate (a name m) (b name m) → (x : List ℕ) → b name since x → IsShutOrWhole text x
gate_safe name since m n a b text le safe only time keeps x h =
    ⊎_elim (safe x)
    (λ came.
    let from = keeps x came in
    let is = only from.0 from.1 in
    let some : 0 < length from.0 = omega (arith, ap length is) in
    shut_first text x (from.2 some ∙ ap (λ (l : List ℕ). take 1 l) is))
    (time.nothing_else name since x le h)
