-- Whole spellings.
use Rattle.std.proofs.Common.{◌≡◌, ℕ, true, List, [], ◌++◌, refl, sym, ap, ◌∙◌}
use Rattle.std.specs.Prelude.{Contains}
use Rattle.x86_grammar.specs.declared.head.Head.{Head}
use Rattle.vm_law.specs.declared.insn.Insn.{Insn}
use Rattle.x86_grammar.specs.declared.table.Row.{Row}
use Rattle.x86_grammar.specs.declared.table.TheConstants.{ROWS}
use Rattle.x86_grammar.specs.Rows.{fits, takes, any_row}
use Rattle.x86_decode.specs.declared.fault.DecodeFault.{DecodeFault}
use Rattle.byte_reader.specs.Reader.{Read, Reader, then_read, ◌>>=◌}
use Rattle.x86_decode.specs.Reading.{head_at, row_at, tail_at, insn_at}
use Rattle.x86_grammar.specs.Grammar.{Spelled}
use Rattle.std.proofs.lemmas.List.{append-nil}
use Rattle.x86_grammar.proofs.Finding.{any_from}
use Rattle.x86_grammar.proofs.Opcodes.{takes_from_fits}
use Rattle.x86_decode.proofs.Laws.{Reads, Both, both_reads}
use Rattle.x86_decode.proofs.HeadPart.{IsLive, head_reads}
use Rattle.x86_decode.proofs.RowPart.{IsRow, row_reads}
use Rattle.x86_decode.proofs.TailPart.{TailSpells, tail_reads}

abbrev RowTail : Head → Insn → List ℕ → Type 0
RowTail h = Both (IsRow h) (λ x. TailSpells h x.0 x.1)

abbrev AllSpells : Insn → List ℕ → Type 0
AllSpells = Both IsLive RowTail

row_tail_at : Head → Reader DecodeFault Insn
row_tail_at h = row_at h >>= λ r. tail_at h r.0 r.1

row_tail_reads : (h : Head) → any_row h ≡ true → Reads (row_tail_at h) (RowTail h)
unfolding row_tail_at
row_tail_reads h live = both_reads (row_at h) (λ x. tail_at h x.0 x.1) (IsRow h) (λ x. TailSpells h x.0 x.1) (row_reads h live) (λ x l r. tail_reads h x.0 x.1 r.among r.fits)

all_reads : Reads insn_at AllSpells
unfolding insn_at row_tail_at
all_reads = both_reads head_at row_tail_at IsLive RowTail head_reads (λ h l i. row_tail_reads h i.live)

-- a live head, from a row that fits
pub live_from : (row : Row) (h : Head) (ms : List ℕ) → Contains ROWS row → fits row h ms ≡ true → any_row h ≡ true
unfolding any_row
live_from row h ms c f = any_from (λ r. takes r h) ROWS row c (takes_from_fits h ms row f)

pub to_parts : (bs : List ℕ) (insn : Insn) → Spelled bs insn → AllSpells insn bs
to_parts bs insn (row, c, s) = record {
  value = s.head;
  front = s.first;
  back = s.modrm ++ (s.sib ++ (s.disp ++ s.imm));
  parts = s.parts;
  first = record { is = s.is_head; live = live_from row s.head s.modrm c s.fits };
  second = record {
    value = (row, s.modrm);
    front = s.modrm;
    back = s.sib ++ (s.disp ++ s.imm);
    parts = refl;
    first = record { same = refl; among = c; fits = s.fits; bytes = s.bytes.0 };
    second = record {
      value = s.sib;
      front = s.sib;
      back = s.disp ++ s.imm;
      parts = refl;
      first = record { same = refl; size = s.sib_len; bytes = s.bytes.1 };
      second = record {
        value = s.disp;
        front = s.disp;
        back = s.imm;
        parts = refl;
        first = record { same = refl; size = s.disp_len; bytes = s.bytes.2 };
        second = record {
          value = s.imm;
          front = s.imm;
          back = [];
          parts = sym (append-nil s.imm);
          first = record { same = refl; size = s.imm_len; bytes = s.bytes.3 };
          second = (s.value, refl);
        };
      };
    };
  };
}

pub from_parts : (bs : List ℕ) (insn : Insn) → AllSpells insn bs → Spelled bs insn
from_parts bs insn a =
    let b = a.second in
    let c = b.second in
    let d = c.second in
    let e = d.second in
    let row = b.value.0 in
    let imm_is : d.back ≡ e.value = e.parts ∙ ap (λ (t : List ℕ). e.front ++ t) e.second.1 ∙ append-nil e.front ∙ e.first.same in
    let disp_is : c.back ≡ d.value ++ e.value = d.parts ∙ ap (λ (t : List ℕ). t ++ d.back) d.first.same ∙ ap (λ (t : List ℕ). d.value ++ t) imm_is in
    let sib_is : b.back ≡ c.value ++ (d.value ++ e.value) = c.parts ∙ ap (λ (t : List ℕ). t ++ c.back) c.first.same ∙ ap (λ (t : List ℕ). c.value ++ t) disp_is in
    let row_is : a.back ≡ b.value.1 ++ (c.value ++ (d.value ++ e.value)) = b.parts ∙ ap (λ (t : List ℕ). t ++ b.back) b.first.same ∙ ap (λ (t : List ℕ). b.value.1 ++ t) sib_is in (
      row,
      b.first.among,
      record {
        head = a.value;
        first = a.front;
        modrm = b.value.1;
        sib = c.value;
        disp = d.value;
        imm = e.value;
        parts = a.parts ∙ ap (λ (t : List ℕ). a.front ++ t) row_is;
        bytes = (b.first.bytes, c.first.bytes, d.first.bytes, e.first.bytes);
        is_head = a.first.is;
        fits = b.first.fits;
        sib_len = c.first.size;
        disp_len = d.first.size;
        imm_len = e.first.size;
        value = e.second.0;
      },
    )

pub insn_reads : Reads insn_at (λ insn bs. Spelled bs insn)
insn_reads =
    let r = all_reads in
    record {
      opens = (r.opens.0, r.opens.1, r.opens.2, from_parts r.opens.1 r.opens.0 r.opens.3);
      sound = λ bs x b e. let s = r.sound bs x b e in (s.0, s.1, from_parts s.0 x.0 s.2);
      complete = λ insn front rest s. r.complete insn front rest (to_parts front insn s);
      short = λ bs b e. let s = r.short bs b e in (s.0, s.1, s.2, from_parts (bs ++ s.1) s.0 s.3);
      stable = r.stable;
    }
