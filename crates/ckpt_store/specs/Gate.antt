-- Files behind a gate byte: 01 opens the file, and every other byte shuts it.
use Rattle.std.specs.Prelude.{◌≡◌, ◌≢◌, ◌⊎◌, ℕ, ◌≤◌, ◌<◌, List, [], ◌∷◌, length, take}

-- its gate isn't open
abbrev pub IsShut : List ℕ → Type 0
IsShut [] = Unit {0}
IsShut (gate ∷ rest) = gate ≢ 1

-- too short to hold more than a gate, or behind a gate that isn't open
abbrev pub IsClosed : List ℕ → Type 0
IsClosed file = (length file ≤ 1) ⊎ IsShut file

-- too short to hold more than a gate, behind a gate that isn't open, or this text
abbrev pub IsShutOrWhole : List ℕ → List ℕ → Type 0
IsShutOrWhole text file = (length file ≤ 1) ⊎ (IsShut file ⊎ (file ≡ text))

-- A grammar asks for the open gate and one byte more. What a crash leaves of a text, and such a grammar accepts, is the text.
abbrev pub AcceptedIsWhole : Type 0
AcceptedIsWhole = (text file rest : List ℕ) (first : ℕ) → IsShutOrWhole text file → file ≡ 1 ∷ first ∷ rest → file ≡ text

-- each outcome has the first byte of an earlier outcome, if that has one
abbrev pub KeepsGate : (List ℕ → Type 0) → (List ℕ → Type 0) → Type 0
KeepsGate old new = (b : List ℕ) → new b → (d : List ℕ) × old d × (0 < length d → take 1 b ≡ take 1 d)
