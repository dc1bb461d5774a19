-- A script's print, read again line by line.
use Rattle.std.proofs.Common.{◌≡◌, ◌==◌, ◌∙◌, ◌+◌, ◌-◌, ◌<◌, ℕ, zero, suc, Bool, cond, true, false, not, refl, sym, ap, subst, arith, List, [], ◌∷◌, ◌++◌, append_assoc, length, get_or, take, Option, Some, None, Result, Ok, Err}
use Rattle.std.specs.Prelude.{IfOk, IfSome}
use Rattle.std.specs.List.{AllByRecursion, list_all, slice_split, filter}
use Rattle.std.specs.Str.{is_utf8, IsUtf8}
use Rattle.std.specs.Str.Lines.{strip_carriage_return}
use Rattle.std.proofs.lemmas.Bool.{and_parts, and_from}
use Rattle.std.proofs.lemmas.List.{append-nil}
use Rattle.std.proofs.lemmas.List.Concat.{flat_map-append}
use Rattle.std.proofs.lemmas.List.Elements.{recursion_from_All}
use Rattle.std.proofs.lemmas.Str.{IsUtf8-from_is_utf8}
use Rattle.vm_law.specs.declared.script.Order.{Order}
use Rattle.vm_law.specs.declared.script.Order.TheVariants as order
use Rattle.vm_law.specs.declared.plan.Plan.{Plan}
use Rattle.ctl_script.specs.declared.fault.ScriptKind.{ScriptKind}
use Rattle.ctl_script.specs.declared.fault.ScriptKind.TheVariants as kind
use Rattle.text_reader.specs.Line.{Fault, lines, ended_lines, is_feed, is_blank, without_indent, uncommented, content, read_lines, and_on}
use Rattle.text_reader.specs.Word.{is_nonempty}
use Rattle.ctl_script.specs.Order.{Reading, order_of, words_of}
use Rattle.ctl_script.specs.Script.{added, is_small, situation, read_full, read_content, read_line, at_line, line_step, or_wait, whole}
use Rattle.ctl_script.specs.Print.{order_text, script_text}
use Rattle.ctl_script.specs.Law.{KeepsItsEnd, PrintLaw}
use Rattle.text_reader.proofs.Bytes.{not_space, not_feed}
use Rattle.text_reader.proofs.Cut.{kept, parts_each, parts_not, parts_utf8, next_line, no_lines}
use Rattle.ctl_script.proofs.Orders.{if_ok}
use Rattle.ctl_script.proofs.Again.{IsWord, IsSpelled, order_again, quiet_again}

-- ---- the words of a line

words_are : (parts : List (List ℕ)) → list_all (list_all not_space) parts ≡ true → list_all (list_all not_feed) parts ≡ true → AllByRecursion IsUtf8 parts → AllByRecursion IsWord (filter is_nonempty parts)
words_are [] spaces feeds texts = tt
words_are ([] ∷ parts) spaces feeds texts =
    words_are parts (and_parts true (list_all (list_all not_space) parts) spaces).1 (and_parts true (list_all (list_all not_feed) parts) feeds).1 texts.1
words_are ((b ∷ bs) ∷ parts) spaces feeds texts =
    let s = and_parts (list_all not_space (b ∷ bs)) (list_all (list_all not_space) parts) spaces in
    let f = and_parts (list_all not_feed (b ∷ bs)) (list_all (list_all not_feed) parts) feeds in
    let some : 0 < length (b ∷ bs) = omega arith in
    let all : AllByRecursion IsWord ((b ∷ bs) ∷ filter is_nonempty parts) = (record { some = some; no_space = s.0; no_feed = f.0; text = texts.0 }, words_are parts s.1 f.1 texts.1) in
    subst (AllByRecursion IsWord) (sym (kept (b ∷ bs) parts some)) all

words_of_line : (line : List ℕ) → is_utf8 line ≡ true → list_all not_feed line ≡ true → AllByRecursion IsWord (words_of line)
words_of_line line text plain =
    words_are (slice_split (λ b. b == 32) line) (parts_not (λ b. b == 32) line) (parts_each (λ b. b == 32) not_feed line plain) (parts_utf8 line (IsUtf8-from_is_utf8 line text))

-- ---- the lines of a text

take_each : (q : ℕ → Bool) (n : ℕ) (bs : List ℕ) → list_all q bs ≡ true → list_all q (take n bs) ≡ true
take_each q zero bs e = refl
take_each q (suc n) [] e = refl
take_each q (suc n) (b ∷ bs) e = let both = and_parts (q b) (list_all q bs) e in and_from (q b) (list_all q (take n bs)) both.0 (take_each q n bs both.1)

stripped_each : (q : ℕ → Bool) (bs : List ℕ) → list_all q bs ≡ true → list_all q (strip_carriage_return bs) ≡ true
stripped_each q bs e = go (get_or bs (length bs - 1) 0 == 13)
  where
    go : (t : Bool) → list_all q (cond t (take (length bs - 1) bs) bs) ≡ true
    go true = take_each q (length bs - 1) bs e
    go false = e

ended_each : (q : ℕ → Bool) (ls : List (List ℕ)) → list_all (list_all q) ls ≡ true → list_all (list_all q) (ended_lines ls) ≡ true
ended_each q [] e = refl
ended_each q (l ∷ []) e = e
ended_each q (l ∷ m ∷ ls) e =
    let both = and_parts (list_all q l) (list_all (list_all q) (m ∷ ls)) e in
    and_from (list_all q (strip_carriage_return l)) (list_all (list_all q) (ended_lines (m ∷ ls))) (stripped_each q l both.0) (ended_each q (m ∷ ls) both.1)

lines_plain : (text : List ℕ) → list_all (list_all not_feed) (lines text) ≡ true
unfolding lines
lines_plain text = ended_each not_feed (slice_split is_feed text) (parts_not is_feed text)

indent_each : (q : ℕ → Bool) (bs : List ℕ) → list_all q bs ≡ true → list_all q (without_indent bs) ≡ true
indent_each q [] e = refl
indent_each q (b ∷ bs) e = go (is_blank b) (indent_each q bs (and_parts (q b) (list_all q bs) e).1)
  where
    go : (t : Bool) → list_all q (without_indent bs) ≡ true → list_all q (cond t (without_indent bs) (b ∷ bs)) ≡ true
    go true later = later
    go false later = e

-- ---- the orders so far, each of which is spelled by its own line where it stands

data IsReread (p : Plan) : List Order → Type 0 where
  none : IsReread p []
  more : (before : List Order) (o : Order) → IsReread p before → IsSpelled (situation p before) before o → is_small (before ++ o ∷ []) ≡ true → IsReread p (before ++ o ∷ [])

added_again : (p : Plan) (before : List Order) (r : Reading) → IsReread p before → IfOk r (IsSpelled (situation p before) before) → IfOk (added before r) (IsReread p)
added_again p before (Err fault) so_far one = tt
added_again p before (Ok o) so_far one = go (is_small (before ++ o ∷ [])) refl
  where
    go : (t : Bool) → is_small (before ++ o ∷ []) ≡ t → IfOk (cond t (Ok (before ++ o ∷ [])) (Err kind.Many)) (IsReread p)
    go true small = more before o so_far one small
    go false small = tt

-- what a line says has what each of the line's bytes has
content_each : (q : ℕ → Bool) (line : List ℕ) → list_all q line ≡ true → IfSome (content line) (λ text. list_all q text ≡ true)
content_each q line e = go (without_indent line) (indent_each q line e)
  where
    go : (bs : List ℕ) → list_all q bs ≡ true → IfSome (uncommented bs) (λ text. list_all q text ≡ true)
    go [] e = tt
    go (b ∷ bs) e = at (b == 35)
      where
        at : (t : Bool) → IfSome (cond t None (Some (b ∷ bs))) (λ text. list_all q text ≡ true)
        at true = tt
        at false = e

text_again : (p : Plan) (before : List Order) (o : Option (List ℕ)) → IfSome o (λ text. list_all not_feed text ≡ true) → IsReread p before → IfOk (read_content p before o) (IsReread p)
text_again p before None plain so_far = so_far
text_again p before (Some said) plain so_far = go (is_utf8 said) refl
  where
    go : (t : Bool) → is_utf8 said ≡ t → IfOk (cond (not t) (Err kind.Text) (added before (order_of (situation p before) before (words_of said)))) (IsReread p)
    go true text = added_again p before (order_of (situation p before) before (words_of said)) so_far (order_again (situation p before) before (words_of said) (words_of_line said text plain))
    go false text = tt

lines_again : (p : Plan) (n : ℕ) (before : List Order) (ls : List (List ℕ)) → list_all (list_all not_feed) ls ≡ true → IsReread p before → IfOk (read_lines (line_step p) n before ls) (IsReread p)
unfolding read_lines
lines_again p n before [] plain so_far = so_far
lines_again p n before (l ∷ ls) plain so_far =
    let both = and_parts (list_all not_feed l) (list_all (list_all not_feed) ls) plain in
    go (read_line p before l) (text_again p before (content l) (content_each not_feed l both.0) so_far) (λ new again. lines_again p (n + 1) new ls both.1 again)
  where
    go : (r : Result (List Order) ScriptKind) → IfOk r (IsReread p) → ((new : List Order) → IsReread p new → IfOk (read_lines (line_step p) (n + 1) new ls) (IsReread p)) → IfOk (and_on (at_line n r) (λ new. read_lines (line_step p) (n + 1) new ls)) (IsReread p)
    go (Ok new) one later = later new one
    go (Err fault) one later = tt

-- ---- and so the script's print

-- an order's line is no comment and has no indent
full : (p : Plan) (before : List Order) (o : Order) → read_line p before (order_text o) ≡ read_full p before (order_text o)
full p before order.WaitQuiet = refl
full p before (order.WaitConsole n) = refl
full p before (order.WaitExecuted n) = refl
full p before (order.Input bytes) = refl
full p before (order.Nmi cpu) = refl
full p before order.Rendezvous = refl
full p before order.Pause = refl
full p before order.Resume = refl
full p before (order.Checkpoint name) = refl
full p before (order.Set cpu reg value) = refl
full p before (order.Get cpu reg) = refl
full p before (order.Cancel disk id) = refl
full p before (order.Against name base) = refl
full p before (order.Send name) = refl

line_read : (p : Plan) (before : List Order) (o : Order) → IsSpelled (situation p before) before o → is_small (before ++ o ∷ []) ≡ true → read_line p before (order_text o) ≡ Ok (before ++ o ∷ [])
line_read p before o one small =
    full p before o
    ∙ ap (λ (t : Bool). cond (not t) (Err kind.Text) (added before (order_of (situation p before) before (words_of (order_text o))))) one.text
    ∙ ap (added before) one.again
    ∙ ap (λ (t : Bool). cond t (Ok (before ++ o ∷ [])) (Err kind.Many)) small

-- the print of an order more
text_more : (before : List Order) (o : Order) (rest : List ℕ) → script_text (before ++ o ∷ []) ++ rest ≡ script_text before ++ (order_text o ++ 10 ∷ rest)
text_more before o rest = simp (flat_map-append, append_assoc)

abbrev AllKeep : List Order → Type 0
AllKeep = AllByRecursion KeepsItsEnd

front_and_last : (before : List Order) (o : Order) → AllKeep (before ++ o ∷ []) → AllKeep before × KeepsItsEnd o
front_and_last [] o keep = (tt, keep.0)
front_and_last (b ∷ before) o keep = let later = front_and_last before o keep.1 in ((keep.0, later.0), later.1)

-- after the lines of the orders the rest of a text is read with these orders before
orders_read : (p : Plan) {os : List Order} → IsReread p os → AllKeep os → (rest : List ℕ) → (n : ℕ) × (read_lines (line_step p) 1 [] (lines (script_text os ++ rest)) ≡ read_lines (line_step p) n os (lines rest))
unfolding read_lines
orders_read p none keep rest = (1, refl)
orders_read p (more before o so_far one small) keep rest =
    let both = front_and_last before o keep in
    let later = orders_read p so_far both.0 (order_text o ++ 10 ∷ rest) in (
      later.0 + 1,
      ap (λ (t : List ℕ). read_lines (line_step p) 1 [] (lines t)) (text_more before o rest) ∙ later.1
          ∙ ap (read_lines (line_step p) later.0 before) (next_line (order_text o) rest one.no_feed (one.ended both.1))
          ∙ ap (λ (r : Result (List Order) ScriptKind). and_on (at_line later.0 r) (λ new. read_lines (line_step p) (later.0 + 1) new (lines rest))) (line_read p before o one small),
    )

last_line : (p : Plan) (n : ℕ) (os : List Order) → read_lines (line_step p) n os (lines []) ≡ Ok os
unfolding read_lines
last_line p n os = ap (read_lines (line_step p) n os) no_lines

print_read : (p : Plan) (os : List Order) → IsReread p os → AllKeep os → read_lines (line_step p) 1 [] (lines (script_text os)) ≡ Ok os
print_read p os again keep =
    let told = orders_read p again keep [] in
    ap (λ (t : List ℕ). read_lines (line_step p) 1 [] (lines t)) (sym (append-nil (script_text os))) ∙ told.1 ∙ last_line p told.0 os

whole_again : (p : Plan) (r : Result (List Order) (Fault ScriptKind)) → IfOk r (IsReread p) → IfOk (whole r) (λ os. IsReread p os × (or_wait os ≡ os))
whole_again p (Ok []) again = (more [] order.WaitQuiet none (quiet_again (situation p []) []) refl, refl)
whole_again p (Ok (o ∷ os)) again = (again, refl)
whole_again p (Err fault) again = tt

pub reads_as_itself : PrintLaw
reads_as_itself p text script is keep =
    let again : IsReread p script × (or_wait script ≡ script) =
    subst (λ (r : Result (List Order) (Fault ScriptKind)). IfOk r (λ os. IsReread p os × (or_wait os ≡ os))) is
    (whole_again p (read_lines (line_step p) 1 [] (lines text)) (lines_again p 1 [] (lines text) (lines_plain text) none)) in
    ap whole (print_read p script again.0 (recursion_from_All KeepsItsEnd script keep)) ∙ ap Ok again.1
