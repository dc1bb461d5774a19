-- Pieces that are read one after the other, and their text.
use Rattle.std.proofs.Common.{◌≡◌, ◌∙◌, ℕ, ◌+◌, ◌<◌, ◌≤◌, List, [], ◌∷◌, ◌++◌, length, drop, take, get_or, refl, sym, ap, subst, append_assoc, append-nil, arith, lit<, length-append}
use Rattle.std.proofs.lemmas.List.{drop-drop, at_drop_all, length-take-le}
use Rattle.std.proofs.lemmas.Grind.{flat_map-append}
use Rattle.vm_law.specs.declared.insn.Insn.{Insn}
use Rattle.x86_grammar.specs.declared.table.Map.{Map}
use Rattle.x86_grammar.specs.declared.table.Map.TheVariants.{One, Two}
use Rattle.x86_grammar.specs.Grammar.{IsOpcode, Spelled}
use Rattle.std.specs.Prelude.{Result, Err}
use Rattle.x86_decode.specs.declared.fault.DecodeFault.{DecodeFault}
use Rattle.vm_asm.specs.Disassembly.{Piece, IsFirst, IsUndecoded, AreRead, IsSpelled, AddsSpelled, AreSpelled, IsAssembledTo, IsDisassembly, piece_text, pieces_text}

-- up to a place of the code the pieces are read, and the text and the bytes are theirs
pub record Begun (ps : List Piece) (at : ℕ) (code told spelled : List ℕ) : Type 0 where
  pub on : (qs : List Piece) → AreRead qs (drop at code) → AreRead (ps ++ qs) code
  pub text : told ≡ pieces_text ps
  pub bytes : AreSpelled ps spelled

pub begun_none : (code text bytes : List ℕ) → text ≡ [] → bytes ≡ [] → Begun [] 0 code text bytes
begun_none code text bytes e f = record { on = λ qs r. r; text = e; bytes = f }

pub drop_end : (code : List ℕ) (at : ℕ) → length code ≤ at → drop at code ≡ []
drop_end code at h = at_drop_all (λ (l : List ℕ). l) code at h

spelled_push : (ps : List Piece) (p : Piece) (out bytes : List ℕ) → AreSpelled ps out → IsSpelled p bytes → AreSpelled (ps ++ p ∷ []) (out ++ bytes)
spelled_push [] p out bytes a s = (bytes, [], s, refl, ap (λ (l : List ℕ). l ++ bytes) a ∙ sym (append-nil bytes))
spelled_push (q ∷ qs) p out bytes a s =
    (a.0, a.1 ++ bytes, a.2, spelled_push qs p a.1 bytes a.3 s, ap (λ (l : List ℕ). l ++ bytes) a.4 ∙ append_assoc a.0 a.1 bytes)

pub spelled_more : (ps : List Piece) (p : Piece) (old new : List ℕ) → AreSpelled ps old → AddsSpelled p old new → AreSpelled (ps ++ p ∷ []) new
spelled_more ps p old new a s = subst (λ (l : List ℕ). AreSpelled (ps ++ p ∷ []) l) (sym s.2) (spelled_push ps p old s.0 a s.1)

pub begun_more : (ps : List Piece) (at : ℕ) (code text bytes : List ℕ) (more then : List ℕ) (p : Piece) (n : ℕ)
    → Begun ps at code text bytes → IsFirst p n (drop at code) → AddsSpelled p bytes then → more ≡ text ++ piece_text p → Begun (ps ++ p ∷ []) (at + n) code more then
begun_more ps at code text bytes more then p n b first adds is = record {
  on = λ qs r. subst (λ (l : List Piece). AreRead l code) (sym (append_assoc ps (p ∷ []) qs))
      (b.on (p ∷ qs) (n, first, subst (λ (c : List ℕ). AreRead qs c) (sym (drop-drop n at code)) r));
  text = is ∙ ap (λ (t : List ℕ). t ++ piece_text p) b.text
      ∙ sym (flat_map-append piece_text ps (p ∷ []) ∙ ap (λ (t : List ℕ). pieces_text ps ++ t) (append-nil (piece_text p)));
  bytes = spelled_more ps p bytes then b.bytes adds;
}

pub begun_all : (ps : List Piece) (at : ℕ) (code text bytes : List ℕ) (told out : List ℕ) → Begun ps at code text bytes → drop at code ≡ [] → told ≡ text → out ≡ bytes → IsAssembledTo told out → IsDisassembly code text
begun_all ps at code text bytes told out b none e f back = (
  ps,
  bytes,
  subst (λ (l : List Piece). AreRead l code) (append-nil ps) (b.on [] none),
  b.bytes,
  b.text,
  subst (λ (t : List ℕ). IsAssembledTo t bytes) e (subst (λ (o : List ℕ). IsAssembledTo told o) f back),
)

-- ---- a spelling isn't empty

opcode_some : (m : Map) (b : ℕ) (bs : List ℕ) → IsOpcode m b bs → 0 < length bs
opcode_some One b bs is = subst (λ (l : List ℕ). 0 < length l) (sym is) (lit< tt)
opcode_some Two b bs is = subst (λ (l : List ℕ). 0 < length l) (sym is) (lit< tt)

pub spelled_some : (bs : List ℕ) (insn : Insn) → Spelled bs insn → 0 < length bs
spelled_some bs insn (row, among, s) =
    let o : 0 < length s.is_head.opcode = opcode_some s.head.map s.head.byte s.is_head.opcode s.is_head.is_opcode in
    let f : length s.first ≡ length s.is_head.prefixes + (length s.is_head.rex + length s.is_head.opcode) = ap length s.is_head.parts ∙ simp length-append in
    let w : length bs ≡ length s.first + length (s.modrm ++ (s.sib ++ (s.disp ++ s.imm))) = ap length s.parts ∙ length-append s.first _ in
    omega arith

pub length_some : (n : ℕ) (code : List ℕ) (insn : Insn) → (n ≤ length code) × Spelled (take n code) insn → 0 < n
length_some n code insn f =
    let s = spelled_some (take n code) insn f.1 in
    let l = length-take-le n code f.0 in
    omega arith

pub first_of : (code : List ℕ) → 0 < length code → code ≡ get_or code 0 0 ∷ drop 1 code
first_of [] h = absurd (omega arith)
first_of (b ∷ bs) h = refl

pub undecoded : (r : Result (Insn × ℕ) DecodeFault) (e : DecodeFault) → Err e ≡ r → IsUndecoded r
undecoded r e h = subst IsUndecoded h tt
