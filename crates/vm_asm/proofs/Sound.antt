-- What a layout keeps true, and that its image is allowed.
use Rattle.std.proofs.Common.{◌≡◌, ◌∙◌, ℕ, ◌<◌, ◌≤◌, Bool, true, false, nat_lt, zero, suc, List, length, Option, Some, None, cond, refl, sym, ap, arith, lit≤, ltb-true, ne_eqb}
use Rattle.std.specs.Prelude.{IfSome, unwrap_or}
use Rattle.vm_law.specs.Image.{IsAllowed}
use Rattle.vm_asm.specs.declared.fault.AsmKind.TheVariants as kind
use Rattle.asm_words.specs.declared.label.Value.{Value}
use Rattle.asm_words.specs.declared.label.Value.TheVariants as value
use Rattle.vm_asm.specs.declared.line.Line.{Line}
use Rattle.vm_asm.specs.declared.statement.Statement.{Statement}
use Rattle.vm_asm.specs.declared.statement.Statement.TheVariants as statement
use Rattle.vm_asm.specs.Assembly.{image_with}
use Rattle.vm_asm.specs.Layout.{Laid, IsSound, nothing_laid, with_statement, with_label, with_mark, added, ended, end_behind, place_of, in_code, entry_fault, code_fault, known_fault, entry_place}
use Rattle.asm_insn.specs.Resolving.{Places}
use Rattle.vm_asm.proofs.Steps.{end_push}

-- ---- a line more

mark_statements : (n : ℕ) (laid : Laid) (s : Statement) → (with_mark n laid s).statements ≡ laid.statements
mark_statements n laid (statement.Entry (value.Label k)) = refl
mark_statements n laid statement.Data = refl
mark_statements n laid _ = refl

label_statements : (laid : Laid) (l : Option Value) → (with_label laid l).statements ≡ laid.statements
label_statements laid (Some (value.Label k)) = refl
label_statements laid _ = refl

label_code : (laid : Laid) (l : Option Value) → (with_label laid l).code_end ≡ laid.code_end
label_code laid (Some (value.Label k)) = refl
label_code laid _ = refl

label_place : (laid : Laid) (l : Option Value) → (with_label laid l).place ≡ laid.place
label_place laid (Some (value.Label k)) = refl
label_place laid _ = refl

up_to_next : (o : Option ℕ) (place next : ℕ) → IfSome o (λ code. code ≤ place) → place ≤ next → IfSome o (λ code. code ≤ next)
up_to_next None place next h le = tt
up_to_next (Some code) place next h le = omega arith

mark_code : (n : ℕ) (laid : Laid) (s : Statement) (place next : ℕ) → IfSome laid.code_end (λ code. code ≤ place) → laid.place ≤ next → place ≤ next → IfSome (with_mark n laid s).code_end (λ code. code ≤ next)
mark_code n laid (statement.Entry (value.Label k)) place next h here le = up_to_next laid.code_end place next h le
mark_code n laid statement.Data place next h here le = here
mark_code n laid _ place next h here le = up_to_next laid.code_end place next h le

some_code : (o p : Option ℕ) (place : ℕ) → p ≡ o → IfSome o (λ code. code ≤ place) → IfSome p (λ code. code ≤ place)
some_code o None place e h = tt
some_code None (Some c) place e h = absurd (let no : ⊥ = cc in no)
some_code (Some d) (Some c) place e h = let f : c ≡ d = cc in omega arith

pub sound_added : (n : ℕ) (laid : Laid) (l : Line) (next : ℕ) → IsSound laid → laid.place ≤ next → next ≤ 16777216 → IsSound (added n laid l next)
unfolding added
sound_added n laid l next s up small =
    let more = with_statement n laid l.statement next in
    let marked = with_label more l.label in
    record {
      ends = ap (end_behind 0) (mark_statements n marked l.statement ∙ label_statements more l.label) ∙ end_push 0 laid.statements (record { line = n; statement = l.statement; end = next });
      small = small;
      code = mark_code n marked l.statement laid.place next (some_code laid.code_end marked.code_end laid.place (label_code more l.label) s.code) (let e = label_place more l.label in omega arith) up;
    }

pub sound_nothing : (names : List (List ℕ)) → IsSound (nothing_laid names)
sound_nothing names = record { ends = refl; small = lit≤ tt; code = tt }

within : (o : Option ℕ) (place : ℕ) → IfSome o (λ code. code ≤ place) → unwrap_or o place ≤ place
within None place h = omega arith
within (Some code) place h = h

pub sound_ended : (laid : Laid) → IsSound laid → IsSound (ended laid)
sound_ended laid s = record { ends = s.ends; small = s.small; code = within laid.code_end laid.place s.code }

-- ---- an allowed image

nonzero : (laid : Laid) (code : ℕ) → code_fault laid (Some code) ≡ None → 0 < code
nonzero laid zero h = absurd (let no : ⊥ = cc in no)
nonzero laid (suc k) h = omega arith

no_entry_fault : (laid : Laid) (code : ℕ) → 0 < code → code_fault laid (Some code) ≡ None → entry_fault laid.places code laid.entry ≡ None
no_entry_fault laid code some h =
    sym (ap (λ (t : Bool). cond t (Some (record { line = 1; kind = kind.Range })) (entry_fault laid.places code laid.entry)) (ne_eqb code 0 (λ e. absurd (omega arith)))) ∙ h

code_within : (o : Option ℕ) (code place : ℕ) → o ≡ Some code → IfSome o (λ c. c ≤ place) → code ≤ place
code_within None code place e h = absurd (let no : ⊥ = cc in no)
code_within (Some c) code place e h = let f : c ≡ code = cc in omega arith

in_code_below : (code n : ℕ) (o : Option ℕ) → 0 < code → in_code code n o ≡ None → unwrap_or o 0 < code
in_code_below code n None some h = some
in_code_below code n (Some place) some h = go (nat_lt place code) refl h
  where
    go : (t : Bool) → nat_lt place code ≡ t → in_code code n (Some place) ≡ None → place < code
    go true e k = ltb-true place code e
    go false e k = absurd (let no : ⊥ = cc in no)

entry_below : (places : Places) (code : ℕ) (entry : Option (ℕ × ℕ)) → 0 < code → entry_fault places code entry ≡ None → entry_place places entry < code
entry_below places code None some h = some
entry_below places code (Some (label, n)) some h = in_code_below code n (place_of places label) some h

pub allowed_from : (laid : Laid) (code : ℕ) (payload : List ℕ) → IsSound laid → known_fault laid ≡ None → laid.code_end ≡ Some code → length payload ≡ end_behind 0 laid.statements → IsAllowed 16777216 (image_with laid payload)
unfolding known_fault
allowed_from laid code payload s none is size =
    let f : code_fault laid (Some code) ≡ None = ap (code_fault laid) (sym is) ∙ none in
    let some : 0 < code = nonzero laid code f in
    let entry : entry_place laid.places laid.entry < code = entry_below laid.places code laid.entry some (no_entry_fault laid code some f) in
    let same : unwrap_or laid.code_end 0 ≡ code = ap (λ (o : Option ℕ). unwrap_or o 0) is in
    let le : code ≤ laid.place = code_within laid.code_end code laid.place is s.code in
    let ends = s.ends in
    let small = s.small in
    record { some_code = omega arith; small_code = omega arith; within = omega arith; entry = omega arith; fits = omega arith }
