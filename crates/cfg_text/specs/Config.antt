-- The variables that a configuration keeps.
use Rattle.std.specs.Prelude.{◌≡◌, ℕ, List, map, Result, Ok, Err}
use Rattle.std.specs.String.{string_bytes}
use Rattle.std.specs.declared.string.String.{String}
use Rattle.std.specs.declared.alloc.Global.{Global}
use Rattle.cfg_text.specs.declared.error.CfgError.{CfgError}
use Rattle.cfg_text.specs.declared.error.CfgError.TheVariants as error

-- the names with their values, as bytes
abbrev pub pairs_of : List (String Global × String Global) → List (List ℕ × List ℕ)
pairs_of es = map (λ e. (string_bytes e.0, string_bytes e.1)) es

-- Ok leaves the wanted pairs; the only refusal is want of memory
abbrev pub IsGrown : List (List ℕ × List ℕ) → List (List ℕ × List ℕ) → Result (Unit {0}) CfgError → Type 0
IsGrown wanted new (Ok x) = new ≡ wanted
IsGrown wanted new (Err e) = e ≡ error.Memory
