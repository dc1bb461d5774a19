-- Which bytes an instruction is written as.
use Rattle.std.specs.Prelude.{ℕ, List, Option, MatchOption}
use Rattle.vm_law.specs.declared.insn.Insn.{Insn}
use Rattle.x86_encode.specs.declared.labels.Labels.{Labels}
use Rattle.x86_encode.specs.Canonical.{HasLabelled, IsCanonicalWith}

-- the bytes of an instruction, by the fields that hold a label, where it has a spelling
abbrev pub Speller : Type 0
Speller = Labels → Insn → Option (List ℕ)

-- it gives the canonical spelling with 32 bits in each field that holds a label, and nothing exactly where there is none
abbrev pub IsSpeller : Speller → Type 0
IsSpeller spell = (labels : Labels) (insn : Insn) → MatchOption (spell labels insn) (HasLabelled labels insn → ⊥) (λ b. IsCanonicalWith labels insn b)
