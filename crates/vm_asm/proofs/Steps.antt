-- The loops over lines and over statements.
use Rattle.std.proofs.Common.{◌≡◌, ◌∙◌, ℕ, ◌+◌, ◌<◌, ◌≤◌, drop, get_or, List, [], ◌∷◌, ◌++◌, length, Bool, true, false, cond, Option, Some, None, Result, Ok, refl, sym, ap, arith}
use Rattle.std.specs.Borrow.{Bor}
use Rattle.std.specs.Option.{option_map}
use Rattle.std.specs.Str.{is_utf8}
use Rattle.std.proofs.lemmas.List.{at_drop_more, at_drop_all}
use Rattle.text_reader.specs.Line.{Fault, lines, lines_after, read_lines, and_on}
use Rattle.text_reader.proofs.Lines.{stops}
use Rattle.vm_asm.specs.declared.fault.AsmKind.{AsmKind}
use Rattle.vm_asm.specs.declared.fault.AsmError.{AsmError}
use Rattle.vm_asm.specs.declared.fault.AsmError.TheVariants as error
use Rattle.vm_asm.specs.declared.fault.Refusal.{Refusal}
use Rattle.vm_asm.specs.declared.fault.Refusal.TheVariants.{Kind, Memory}
use Rattle.vm_asm.specs.declared.layout.Placed.{Placed}
use Rattle.vm_asm.specs.Line.{name_in}
use Rattle.vm_asm.specs.Layout.{Laid, Stops, error_of, line_step, add_name, names_after, end_behind}
use Rattle.vm_asm.specs.Assembly.{put, put_all, in_line, error_in, Declines}
use Rattle.asm_insn.specs.Spelling.{Speller}
use Rattle.asm_insn.specs.Resolving.{Places}
use Rattle.vm_asm.specs.Statement.{Reading}

module _ (spell : Speller) (names : List (List ℕ)) (n : ℕ) (laid : Laid) (rest : Option (Bor (List ℕ))) (text : Bor (List ℕ)) (line : List ℕ) (after : Option (Bor (List ℕ))) (total : Result Laid (Fault AsmKind))
    (is : rest ≡ Some text) (cut : lines text.now ≡ line ∷ lines_after after) (so_far : read_lines (line_step spell names) n laid (lines_after rest) ≡ total) where
  -- a faulty line decides
  pub line_stops : (e : AsmError) → Stops e (line_step spell names n laid line) → Stops e total
  line_stops error.Memory h = tt
  line_stops (error.Fault at kind) h = stops (line_step spell names) n laid rest text line after total is cut so_far (record { line = at; kind = kind }) h

module _ (names : List (List ℕ)) (rest : Option (Bor (List ℕ))) (text : Bor (List ℕ)) (line : List ℕ) (after : Option (Bor (List ℕ))) (total : List (List ℕ))
    (is : rest ≡ Some text) (cut : lines text.now ≡ line ∷ lines_after after) (so_far : names_after names (lines_after rest) ≡ total) where
  -- a line more of the names
  pub names_on : (new : List (List ℕ)) → new ≡ add_name names (name_in line) → names_after new (lines_after after) ≡ total
  names_on new e =
      ap (λ (m : List (List ℕ)). names_after m (lines_after after)) e
      ∙ sym (ap (names_after names) cut)
      ∙ ap (λ (r : Option (Bor (List ℕ))). names_after names (lines_after r)) (sym is)
      ∙ so_far

pub names_done : (names : List (List ℕ)) (rest : Option (Bor (List ℕ))) (total : List (List ℕ)) → ((x : Bor (List ℕ)) → rest ≡ Some x → ⊥) → names_after names (lines_after rest) ≡ total → names ≡ total
names_done names None total none so_far = so_far
names_done names (Some x) total none so_far = absurd (none x refl)

-- ---- the bytes of statements

module _ (spell : Speller) (places : Places) (out : List ℕ) (ps : List Placed) (i : ℕ) (d : Placed) (total : Result (List ℕ) (Fault AsmKind)) (lt : i < length ps)
    (so_far : put_all spell places out (drop i ps) ≡ total) where
  put_now : and_on (in_line (get_or ps i d).line (put spell places out (get_or ps i d))) (λ more. put_all spell places more (drop (i + 1) ps)) ≡ total
  put_now = sym (at_drop_more (λ (l : List Placed). put_all spell places out l) ps i d lt) ∙ so_far

  pub puts_on : (new : List ℕ) → put spell places out (get_or ps i d) ≡ Ok new → put_all spell places new (drop (i + 1) ps) ≡ total
  puts_on new e = sym (ap (λ (r : Reading (List ℕ)). and_on (in_line (get_or ps i d).line r) (λ more. put_all spell places more (drop (i + 1) ps))) e) ∙ put_now

  pub puts_stop : (refusal : Refusal) → Declines refusal (put spell places out (get_or ps i d)) → Stops (error_in (get_or ps i d).line refusal) total
  puts_stop Memory e = tt
  puts_stop (Kind fault) e = sym put_now ∙ ap (λ (r : Reading (List ℕ)). and_on (in_line (get_or ps i d).line r) (λ more. put_all spell places more (drop (i + 1) ps))) e

pub puts_done : (spell : Speller) (places : Places) (out : List ℕ) (ps : List Placed) (i : ℕ) (total : Result (List ℕ) (Fault AsmKind)) → length ps ≤ i → put_all spell places out (drop i ps) ≡ total → total ≡ Ok out
puts_done spell places out ps i total le so_far = sym so_far ∙ at_drop_all (λ (l : List Placed). put_all spell places out l) ps i le

pub end_on : (at next : ℕ) (ps : List Placed) (i : ℕ) (d : Placed) (total : ℕ) → i < length ps → end_behind at (drop i ps) ≡ total → next ≡ (get_or ps i d).end → end_behind next (drop (i + 1) ps) ≡ total
end_on at next ps i d total lt so_far e = ap (λ (k : ℕ). end_behind k (drop (i + 1) ps)) e ∙ sym (at_drop_more (λ (l : List Placed). end_behind at l) ps i d lt) ∙ so_far

pub end_done : (at : ℕ) (ps : List Placed) (i : ℕ) (total : ℕ) → length ps ≤ i → end_behind at (drop i ps) ≡ total → at ≡ total
end_done at ps i total le so_far = sym (at_drop_all (λ (l : List Placed). end_behind at l) ps i le) ∙ so_far

-- a statement more
pub end_push : (at : ℕ) (ps : List Placed) (p : Placed) → end_behind at (ps ++ p ∷ []) ≡ p.end
end_push at [] p = refl
end_push at (q ∷ ps) p = end_push q.end ps p

-- ---- an empty line defines no name

abbrev no_text : Option (List ℕ)
no_text = None

pub name_in_empty : (line : List ℕ) → length line ≡ 0 → name_in line ≡ None
unfolding name_in
name_in_empty [] h = go (is_utf8 [])
  where
    go : (t : Bool) → cond t no_text no_text ≡ no_text
    go true = refl
    go false = refl
name_in_empty (b ∷ bs) h = absurd (omega arith)

pub no_fault : (o : Option (Fault AsmKind)) → None ≡ option_map error_of o → o ≡ None
no_fault None h = refl
no_fault (Some x) h = absurd (let no : ⊥ = cc in no)
