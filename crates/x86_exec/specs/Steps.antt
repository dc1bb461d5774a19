-- Steps of which each may be the last: an answer with which the next goes on, or what is asked instead.
use Rattle.std.specs.Prelude.{Result, Ok, Err}
use Rattle.x86_exec.specs.declared.effect.Effect.{Effect}

infixl 10 ◌>>=◌
abbrev pub ◌>>=◌ : {A B : Type 0} → Result A Effect → (A → Result B Effect) → Result B Effect
Ok x >>= f = f x
Err e >>= f = Err e

infixl 10 ◌>>◌
abbrev pub ◌>>◌ : {B : Type 0} → Result (Unit {0}) Effect → Result B Effect → Result B Effect
Ok x >> r = r
Err e >> r = Err e
