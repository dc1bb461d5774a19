-- What the values are, once each `%(name)` in them stands for that variable's value as written.
use Rattle.std.specs.Prelude.{◌≡◌, ◌++◌, ◌+◌, ◌<◌, ◌≤◌, ℕ, zero, suc, List, [], ◌∷◌, length, map, nat_lt, Result, Ok, Err, Option, Some, None, option_and_then, if◌then◌else◌, ⊤}
use Rattle.std.specs.Str.{bytes_eq}
use Rattle.text_reader.specs.Line.{Fault, and_on}
use Rattle.text_reader.specs.Word.{cut_at, after_byte}
use Rattle.cfg_text.specs.declared.error.CfgKind.{CfgKind}
use Rattle.cfg_text.specs.declared.error.CfgKind.TheVariants.{Percent}
use Rattle.cfg_text.specs.declared.expand.Refusal.{Refusal}
use Rattle.cfg_text.specs.declared.expand.Refusal.TheVariants as refusal
use Rattle.cfg_text.specs.Lines.{Variable, read_written}

-- the value of a name as written, or nothing where there is no such variable
abbrev pub value_of : List Variable → List ℕ → List ℕ
value_of [] name = []
value_of (v ∷ vs) name = if bytes_eq name v.name then v.value else value_of vs name

-- behind a `%`: the name in parentheses (40, 41), and what follows
abbrev pub reference : List ℕ → Option (List ℕ × List ℕ)
reference text = option_and_then (cut_at 41) (after_byte 40 text)

-- what follows a `%` (37), where `next` expands what comes later
abbrev pub behind : List Variable → Option (List ℕ × List ℕ) → List ℕ → (List ℕ → List ℕ) → List ℕ
behind vs None text next = 37 ∷ next text
behind vs (Some p) text next = value_of vs p.0 ++ next p.1

abbrev pub at_cut : List Variable → List ℕ → Option (List ℕ × List ℕ) → (List ℕ → List ℕ) → List ℕ
at_cut vs text None next = text
at_cut vs text (Some p) next = p.0 ++ behind vs (reference p.1) p.1 next

-- with at most k steps
unfoldable pub expanded_in : ℕ → List Variable → List ℕ → List ℕ
expanded_in zero vs text = text
expanded_in (suc k) vs text = at_cut vs text (cut_at 37 text) (expanded_in k vs)

-- each `%(name)` is replaced, and what was put in is not expanded again
abbrev pub expanded : List Variable → List ℕ → List ℕ
expanded vs text = expanded_in (length text) vs text

-- 16 MiB
abbrev pub most_expanded : ℕ
most_expanded = 16777216

-- the first of `some` with which the expanded values, of which `before` bytes are counted already, pass the limit
abbrev pub first_beyond : List Variable → ℕ → List Variable → Option Variable
first_beyond vs before [] = None
first_beyond vs before (v ∷ some) =
    if nat_lt most_expanded (before + length (expanded vs v.value)) then Some v
    else first_beyond vs (before + length (expanded vs v.value)) some

-- the names of `some` with their expanded values
abbrev pub values_of : List Variable → List Variable → List (List ℕ × List ℕ)
values_of vs some = map (λ v. (v.name, expanded vs v.value)) some

abbrev pub within : List Variable → Option Variable → Result (List (List ℕ × List ℕ)) (Fault CfgKind)
within vs None = Ok (values_of vs vs)
within vs (Some v) = Err (record { line = v.line; kind = Percent })

-- names with expanded values, or the fault of the line that gave the value with which they pass the limit
abbrev pub read_values : List Variable → Result (List (List ℕ × List ℕ)) (Fault CfgKind)
read_values vs = within vs (first_beyond vs 0 vs)

-- the configuration that a text spells, or its first fault
abbrev pub read : List ℕ → Result (List (List ℕ × List ℕ)) (Fault CfgKind)
read bytes = and_on (read_written bytes) read_values

-- a refusal as too long is due; want of memory says nothing
abbrev pub IsDue : ℕ → List ℕ → Refusal → Type 0
IsDue most value refusal.Long = most < length value
IsDue most value refusal.Memory = ⊤

-- the value, as view sees it, where it has at most `most` bytes
abbrev pub AnswersValue : {X : Type 0} → (X → List ℕ) → ℕ → List ℕ → Result X Refusal → Type 0
AnswersValue view most value (Ok s) = (view s ≡ value) × (length value ≤ most)
AnswersValue view most value (Err e) = IsDue most value e

-- the text that a piece makes longer, where it has at most `most` bytes
abbrev pub AnswersAdd : ℕ → List ℕ → List ℕ → Result (Unit {0}) Refusal → Type 0
AnswersAdd most value new (Ok x) = (new ≡ value) × (length value ≤ most)
AnswersAdd most value new (Err e) = IsDue most value e
