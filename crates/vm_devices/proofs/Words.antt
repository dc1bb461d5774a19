-- The bits of the words that a set of vectors is read as.
use Rattle.std.proofs.Common.{◌≡◌, ℕ, ◌+◌, ◌*◌, ◌/◌, ◌%◌, eqb, ap, arith, ◌∙◌}
use Rattle.std.specs.Int.{bit_at}
use Rattle.vm_vectors.specs.Vectors.{Vectors, has, word_of, bits_of}
use Rattle.vm_vectors.proofs.Bits.{bit_of_number}

pub bit_in_word : (s : Vectors) (v : ℕ) → eqb (bit_at (word_of s (v / 32)) (v % 32)) 1 ≡ has s v
unfolding bits_of
bit_in_word s v =
    bit_of_number (λ (b : ℕ). has s (32 * (v / 32) + b)) 32 (v % 32) (omega arith)
    ∙ ap (λ (n : ℕ). has s n) (omega arith)
