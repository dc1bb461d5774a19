-- Laws of what the calls mean, for every list of them.
use Rattle.std.specs.Prelude.{ℕ, ◌+◌, ◌≤◌, List, [], ◌∷◌, length, Bool, true, false, if◌then◌else◌}
use mathlib.Core.Logic.{inl, inr}
use Rattle.std.proofs.Common.{arith}
use Rattle.std.specs.Str.{bytes_eq}
use Rattle.vm_host.specs.Past.{Change, LeftSince, made_at}
use Rattle.vm_host.specs.Kinds.{made_by}
use Rattle.vm_host.specs.declared.event.Kind.{Kind}
use Rattle.vm_host.specs.declared.event.Kind.TheVariants.{Made, Wrote, Held, Lent}

made_by-le : (kind : Kind) (n before : ℕ) → before ≤ n → made_by kind (n + 1) before ≤ n + 1
made_by-le Made n before le = omega arith
made_by-le (Wrote at len) n before le = omega arith
made_by-le Held n before le = omega arith
made_by-le (Lent true) n before le = omega arith
made_by-le (Lent false) n before le = omega arith

if-le : (b : Bool) (x y n : ℕ) → x ≤ n → y ≤ n → (if b then x else y) ≤ n
if-le true x y n p r = p
if-le false x y n p r = r

pub made_at-le : (past : List Change) (q : List ℕ) → made_at past q ≤ length past
made_at-le [] q = omega arith
made_at-le (e ∷ es) q =
    let before = made_at-le es q in
    let by = made_by-le e.kind (length es) (made_at es q) before in
    if-le (bytes_eq q e.name) (made_by e.kind (length es + 1) (made_at es q)) (made_at es q) (length (e ∷ es)) (omega arith) (omega arith)

pub since_earlier : (past : List Change) (q : List ℕ) (t u : ℕ) (b : List ℕ) → t ≤ u → LeftSince past q u b → LeftSince past q t b
since_earlier [] q t u b le h = h
since_earlier (e ∷ es) q t u b le (inl now) = inl now
since_earlier (e ∷ es) q t u b le (inr older) = inr (omega (arith, le, older.0), since_earlier es q t u b le older.1)
