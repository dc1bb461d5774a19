-- The calls that changed files in memory, the newest first, and what they mean.
use Rattle.std.specs.Prelude.{◌≡◌, ◌⊎◌, ℕ, ◌+◌, ◌≤◌, List, [], ◌∷◌, length, Option, Some, None, MatchBool, if◌then◌else◌}
use Rattle.std.specs.Str.{bytes_eq}
use Rattle.vm_host.specs.Crash.{Torn}
use Rattle.vm_host.specs.Kinds.{lent_of, made_by}
use Rattle.vm_host.specs.declared.event.Kind.{Kind}
use Rattle.vm_host.specs.declared.event.Kind.TheVariants.{Made, Wrote, Held, Lent}

-- a call on a file, and what the file reads as after it
pub record Change : Type 0 where
  pub name : List ℕ
  pub bytes : List ℕ
  pub kind : Kind

-- what the file of a name reads as
abbrev pub file_of : List Change → List ℕ → Option (List ℕ)
file_of [] q = None
file_of (e ∷ es) q = if bytes_eq q e.name then Some e.bytes else file_of es q

-- what a crash may leave in a file right after a call on it
abbrev pub LeftBy : Kind → List ℕ → (List ℕ → Type 0) → List ℕ → Type 0
LeftBy Made bytes before b = b ≡ []
LeftBy (Wrote at len) bytes before b = before b ⊎ ((d : List ℕ) × before d × Torn at len d b)
LeftBy Held bytes before b = b ≡ bytes
LeftBy (Lent made) bytes before b = Unit {0}

-- what a crash now may leave
abbrev pub LeftNow : List Change → List ℕ → List ℕ → Type 0
LeftNow [] q b = ⊥
LeftNow (e ∷ es) q b = MatchBool (bytes_eq q e.name) (LeftBy e.kind e.bytes (LeftNow es q) b) (LeftNow es q b)

-- what a crash at some moment from t to now may have left
abbrev pub LeftSince : List Change → List ℕ → ℕ → List ℕ → Type 0
LeftSince [] q t b = ⊥
LeftSince (e ∷ es) q t b = LeftNow (e ∷ es) q b ⊎ ((t ≤ length es) × LeftSince es q t b)

-- the moment at the end of the last making
abbrev pub made_at : List Change → List ℕ → ℕ
made_at [] q = 0
made_at (e ∷ es) q = if bytes_eq q e.name then made_by e.kind (length es + 1) (made_at es q) else made_at es q

-- a crash now may leave what a file reads as
abbrev pub Reads : List Change → Type 0
Reads past = (q b : List ℕ) → file_of past q ≡ Some b → LeftNow past q b

-- after an image of a file came back
abbrev pub given_back : List Change → List ℕ → List ℕ → List Change
given_back [] name bytes = []
given_back (e ∷ es) name bytes = if bytes_eq name e.name then record { name = e.name; bytes = bytes; kind = lent_of e.kind } ∷ es else e ∷ given_back es name bytes
