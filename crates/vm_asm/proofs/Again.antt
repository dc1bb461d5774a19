-- Code that is spelled canonically comes back: its pieces are one list, and so are their bytes.
use Rattle.std.proofs.Common.{◌≡◌, ◌∙◌, ℕ, List, [], ◌∷◌, ◌++◌, drop, refl, sym, ap, subst}
use Rattle.std.specs.Prelude.{Result, Ok}
use Rattle.vm_law.specs.declared.insn.Insn.{Insn}
use Rattle.x86_decode.specs.declared.fault.DecodeFault.{DecodeFault}
use Rattle.x86_decode.specs.Reading.{decoded, insn_at, head_at, opcode_at}
use Rattle.vm_asm.specs.Disassembly.{Piece, instruction, byte, IsFirst, IsUndecoded, AreRead, IsSpelled, AreSpelled, IsAssembledTo}
use Rattle.vm_asm.specs.Law.{ComesBackLaw}
use Rattle.asm_insn.proofs.Spelled.{before_both}

-- ---- one list of pieces

nothing_read : (i : Insn) (n : ℕ) → decoded [] ≡ Ok (i, n) → ⊥
unfolding decoded insn_at head_at opcode_at
nothing_read i n h = let no : ⊥ = cc in no

none_first : (p : Piece) (n : ℕ) (code : List ℕ) → code ≡ [] → IsFirst p n code → ⊥
none_first (instruction i) n code e h = nothing_read i n (ap decoded (sym e) ∙ h)
none_first (byte b) n code e h = let f = h.1 in let no : ⊥ = cc in no

read_one : (x y : Insn × ℕ) (r : Result (Insn × ℕ) DecodeFault) → r ≡ Ok x → r ≡ Ok y → x ≡ y
read_one x y r h k = cc

first_one : (p q : Piece) (n m : ℕ) (code : List ℕ) → IsFirst p n code → IsFirst q m code → (p ≡ q) × (n ≡ m)
first_one (instruction i) (instruction j) n m code h k =
    let same = read_one (i, n) (j, m) (decoded code) h k in
    (ap (λ (x : Insn × ℕ). instruction x.0) same, ap (λ (x : Insn × ℕ). x.1) same)
first_one (instruction i) (byte c) n m code h k = absurd (subst IsUndecoded h k.2)
first_one (byte b) (instruction j) n m code h k = absurd (subst IsUndecoded k h.2)
first_one (byte b) (byte c) n m code h k =
    let f = h.1 in let g = k.1 in let s = h.0 in let t = k.0 in
    let e : b ≡ c = cc in let u : n ≡ m = cc in (ap byte e, u)

pieces_one : (ps qs : List Piece) (code : List ℕ) → AreRead ps code → AreRead qs code → ps ≡ qs
pieces_one [] [] code h k = refl
pieces_one [] (q ∷ qs) code h k = absurd (none_first q k.0 code h k.1)
pieces_one (p ∷ ps) [] code h k = absurd (none_first p h.0 code k h.1)
pieces_one (p ∷ ps) (q ∷ qs) code h k =
    let one = first_one p q h.0 k.0 code h.1 k.1 in
    let same : ps ≡ qs = pieces_one ps qs (drop h.0 code) h.2 (subst (λ (n : ℕ). AreRead qs (drop n code)) (sym one.1) k.2) in
    let first : p ≡ q = one.0 in
    cc

-- ---- their bytes

spelling_one : (p : Piece) (a b : List ℕ) → IsSpelled p a → IsSpelled p b → a ≡ b
spelling_one (instruction i) a b k l = before_both a b (k.least b l.spelled) (l.least a k.spelled)
spelling_one (byte c) a b k l = k ∙ sym l

bytes_one : (ps : List Piece) (a b : List ℕ) → AreSpelled ps a → AreSpelled ps b → a ≡ b
bytes_one [] a b h k = h ∙ sym k
bytes_one (p ∷ ps) a b h k =
    let first : h.0 ≡ k.0 = spelling_one p h.0 k.0 h.2 k.2 in
    let more : h.1 ≡ k.1 = bytes_one ps h.1 k.1 h.3 k.3 in
    h.4 ∙ (ap (λ (l : List ℕ). l ++ h.1) first ∙ ap (λ (l : List ℕ). k.0 ++ l) more) ∙ sym k.4

pub comes_back : ComesBackLaw
comes_back = λ code text c d.
    let same : d.0 ≡ c.0 = pieces_one d.0 c.0 code d.2 c.1 in
    let out : d.1 ≡ code = bytes_one c.0 d.1 code (subst (λ (l : List Piece). AreSpelled l d.1) same d.3) c.2 in
    subst (λ (l : List ℕ). IsAssembledTo text l) out d.5
