-- What the printing of a place appends.
use Rattle.std.proofs.Common.{◌≡◌, ◌∙◌, ℕ, Bool, false, cond, List, ◌++◌, sym, ap, append_assoc}
use Rattle.std.specs.Prelude.{Result, Ok, Err, OnOk, is_some}
use Rattle.asm_words.specs.declared.memory.Memory.{Memory}
use Rattle.asm_insn.specs.Printing.{is_bare, place_text, base_text, index_text, value_text, displacement_text}

four : (a b c d : List ℕ) → ((a ++ b) ++ c) ++ d ≡ a ++ (b ++ (c ++ d))
four a b c d = append_assoc (a ++ b) c d ∙ append_assoc a b (c ++ d)

pub place_printed : {X E : Type 0} (r : Result X E) (m : Memory) (old one two new : List ℕ) → is_bare m ≡ false → one ≡ old ++ base_text m.base (is_some m.index) → two ≡ one ++ index_text m.index m.scale
    → OnOk r (new ≡ two ++ displacement_text m.displacement) → OnOk r (new ≡ old ++ place_text m)
place_printed (Err x) m old one two new bare b i d = tt
place_printed (Ok x) m old one two new bare b i d =
    d
    ∙ ap (λ (t : List ℕ). t ++ displacement_text m.displacement) (i ∙ ap (λ (t : List ℕ). t ++ index_text m.index m.scale) b)
    ∙ four old (base_text m.base (is_some m.index)) (index_text m.index m.scale) (displacement_text m.displacement)
    ∙ ap (λ (t : Bool). old ++ cond t (value_text m.displacement) (base_text m.base (is_some m.index) ++ (index_text m.index m.scale ++ displacement_text m.displacement))) (sym bare)
