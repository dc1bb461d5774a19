-- Where fewer instructions ran than asked for, not all of them are local.
use Rattle.std.specs.Prelude.{if◌then◌else◌}
use Rattle.std.proofs.Common.{◌≡◌, ◌≢◌, ℕ, zero, suc, Bool, true, false, List, ◌&&◌, refl, sym, ap}
use Rattle.vm_law.specs.declared.context.Ctx.{Ctx}
use Rattle.x86_fetch.specs.Slices.{all_local, most_local}

pub never : (a b : Bool) → b ≡ false → false ≡ (a && b)
never true b e = sym e
never false b e = refl

most_by : (code : List ℕ) (c : Ctx) (n : ℕ) (b : Bool) → all_local code c (suc n) ≡ b → most_local code c (suc n) ≢ suc n → b ≡ false
most_by code c n true e ne = absurd (ne (ap (λ (b : Bool). if b then suc n else most_local code c n) e))
most_by code c n false e ne = refl

pub most_fails : (code : List ℕ) (c : Ctx) (n : ℕ) → most_local code c n ≢ n → all_local code c n ≡ false
most_fails code c zero ne = absurd (ne refl)
most_fails code c (suc n) ne = most_by code c n (all_local code c (suc n)) refl ne
