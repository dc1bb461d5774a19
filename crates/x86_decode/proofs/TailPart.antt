-- What stands behind the ModRM byte.
use Rattle.std.proofs.Common.{◌≡◌, ℕ, true, List, length}
use Rattle.std.specs.Prelude.{Contains}
use Rattle.x86_grammar.specs.declared.head.Head.{Head}
use Rattle.vm_law.specs.declared.insn.Insn.{Insn}
use Rattle.x86_grammar.specs.declared.table.Row.{Row}
use Rattle.x86_grammar.specs.declared.table.TheConstants.{ROWS}
use Rattle.x86_grammar.specs.Rows.{fits}
use Rattle.x86_grammar.specs.Operands.{width_of, sib_len, disp_len, imm_len}
use Rattle.x86_grammar.specs.Meaning.{meaning}
use Rattle.x86_grammar.proofs.Matching.{meant as instruction_meant}
use Rattle.x86_decode.specs.declared.fault.DecodeFault.{DecodeFault}
use Rattle.byte_reader.specs.Reader.{Reader, ◌>>=◌}
use Rattle.x86_decode.specs.Reading.{chunk, meant, tail_at}
use Rattle.x86_decode.proofs.Laws.{Reads, Both, both_reads, chunk_reads, IsChunk, meant_reads, Means}

module _ (h : Head) (row : Row) (modrm : List ℕ) where
  abbrev size : ℕ
  size = imm_len row.imm (width_of row.class h.prefixes h.rex)

  imm_at : List ℕ → List ℕ → Reader DecodeFault Insn
  imm_at sib disp = chunk size >>= λ imm. meant (meaning row h modrm sib disp imm)

  abbrev pub ImmSpells : List ℕ → List ℕ → Insn → List ℕ → Type 0
  ImmSpells sib disp = Both (IsChunk (imm_len row.imm (width_of row.class h.prefixes h.rex))) (λ imm. Means (meaning row h modrm sib disp imm))

  disp_at : List ℕ → Reader DecodeFault Insn
  disp_at sib = chunk (disp_len modrm sib) >>= imm_at sib

  abbrev pub DispSpells : List ℕ → Insn → List ℕ → Type 0
  DispSpells sib = Both (IsChunk (disp_len modrm sib)) (ImmSpells sib)

  abbrev pub TailSpells : Insn → List ℕ → Type 0
  TailSpells = Both (IsChunk (sib_len modrm)) DispSpells

  module _ (among : Contains ROWS row) (fit : fits row h modrm ≡ true) where
    imm_reads : (sib disp : List ℕ) → length sib ≡ sib_len modrm → length disp ≡ disp_len modrm sib → Reads (imm_at sib disp) (ImmSpells sib disp)
    unfolding imm_at
    imm_reads sib disp ns nd =
        both_reads (chunk size) (λ imm. meant (meaning row h modrm sib disp imm)) (IsChunk size) (λ imm. Means (meaning row h modrm sib disp imm)) (chunk_reads size)
        (λ imm l c. let k = instruction_meant row h sib disp imm among modrm fit ns nd c.size in meant_reads (meaning row h modrm sib disp imm) k.0 k.1)

    disp_reads : (sib : List ℕ) → length sib ≡ sib_len modrm → Reads (disp_at sib) (DispSpells sib)
    unfolding disp_at
    disp_reads sib ns = both_reads (chunk (disp_len modrm sib)) (imm_at sib) (IsChunk (disp_len modrm sib)) (ImmSpells sib) (chunk_reads (disp_len modrm sib)) (λ disp l c. imm_reads sib disp ns c.size)

    pub tail_reads : Reads (tail_at h row modrm) TailSpells
    unfolding tail_at disp_at imm_at
    tail_reads = both_reads (chunk (sib_len modrm)) disp_at (IsChunk (sib_len modrm)) DispSpells (chunk_reads (sib_len modrm)) (λ sib l c. disp_reads sib c.size)
