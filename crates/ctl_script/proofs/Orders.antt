-- What holds of each order that is read.
use Rattle.std.proofs.Common.{◌≡◌, ◌==◌, ◌&&◌, ◌+◌, ◌<◌, ℕ, Bool, cond, true, false, not, arith, length, refl, subst, List, [], ◌∷◌, ◌++◌, Option, Some, None, Result, Ok, Err}
use Rattle.std.specs.Prelude.{IfOk, codes, nat_lt}
use Rattle.std.specs.List.{list_all}
use Rattle.std.specs.Str.{bytes_eq, is_utf8}
use Rattle.std.proofs.lemmas.Bool.{lt-ltb}
use Rattle.std.proofs.lemmas.List.Folds.{list_all-append}
use Rattle.vm_law.specs.declared.script.Order.{Order}
use Rattle.vm_law.specs.declared.script.Order.TheVariants as order
use Rattle.vm_law.specs.declared.plan.Plan.{Plan}
use Rattle.ctl_script.specs.declared.fault.ScriptKind.{ScriptKind}
use Rattle.ctl_script.specs.declared.fault.ScriptKind.TheVariants as kind
use Rattle.ctl_script.specs.declared.order.Situation.{Situation}
use Rattle.text_reader.specs.Line.{Fault, content, lines, read_lines, and_on}
use Rattle.text_reader.specs.Digits.{numeral, hex_number}
use Rattle.ctl_script.specs.Before.{may_be_base, is_closed}
use Rattle.ctl_script.specs.Numeral.{hex_bytes, registers, register_of, place_from}
use Rattle.ctl_script.specs.Order.{Reading, need, on_cpu, order_of, words_of, one_word, two_words, three_words, four_words}
use Rattle.ctl_script.specs.Script.{added, is_small, read_content, read_line, at_line, line_step, whole, script_of, situation}
use Rattle.ctl_script.specs.Print.{has_registers}

pub if_ok : {X E : Type 0} (P : X → Type 0) (t : Bool) (a b : Result X E) → IfOk a P → IfOk b P → IfOk (cond t a b) P
if_ok P true a b ha hb = ha
if_ok P false a b ha hb = hb

pub need_ok : {A : Type 0} (P : Order → Type 0) (fault : ScriptKind) (o : Option A) (next : A → Reading) → ((x : A) → o ≡ Some x → IfOk (next x) P) → IfOk (need fault o next) P
need_ok P fault None next h = tt
need_ok P fault (Some x) next h = h x refl

abbrev Named : Order → Type 0
Named o = has_registers o ≡ true

place_below : (n : ℕ) (xs : List (List ℕ)) (name : List ℕ) (r : ℕ) → place_from n xs name ≡ Some r → r < n + length xs
place_below n [] name r e = absurd cc
place_below n (x ∷ xs) name r e = go (bytes_eq name x) e (place_below (n + 1) xs name r)
  where
    go : (t : Bool) → cond t (Some n) (place_from (n + 1) xs name) ≡ Some r → (place_from (n + 1) xs name ≡ Some r → r < n + 1 + length xs) → r < n + length (x ∷ xs)
    go true e later = let same : n ≡ r = cc in omega arith
    go false e later = omega (arith, later e)

register_below : (name : List ℕ) (r : ℕ) → register_of name ≡ Some r → nat_lt r 18 ≡ true
register_below name r e = lt-ltb r 18 (place_below 0 registers name r e)

cpu_named : (s : Situation) (cpu : ℕ) (o : Order) → Named o → IfOk (on_cpu s cpu o) Named
cpu_named s cpu o h = if_ok Named (nat_lt cpu s.cpus) _ _ h tt

one_named : (s : Situation) (a : List ℕ) → IfOk (one_word s a) Named
one_named s a = if_ok Named (bytes_eq a (codes "rendezvous")) _ _ refl
    (if_ok Named (bytes_eq a (codes "pause")) _ _ (if_ok Named s.paused _ _ tt refl)
    (if_ok Named (bytes_eq a (codes "resume")) _ _ (if_ok Named s.paused _ _ refl tt) tt))

two_named : (s : Situation) (before : List Order) (a b : List ℕ) → IfOk (two_words s before a b) Named
two_named s before a b =
    if_ok Named (bytes_eq a (codes "wait")) _ _ (if_ok Named (bytes_eq b (codes "quiet")) _ _ (if_ok Named s.paused _ _ tt refl) tt)
    (if_ok Named (bytes_eq a (codes "input")) _ _ (need_ok Named kind.Number (hex_bytes b) _ (λ bytes e. refl))
    (if_ok Named (bytes_eq a (codes "nmi")) _ _ (need_ok Named kind.Number (numeral 10 9 b) _ (λ cpu e. cpu_named s cpu (order.Nmi cpu) refl))
    (if_ok Named (bytes_eq a (codes "checkpoint")) _ _ (if_ok Named s.paused _ _ refl tt)
    (if_ok Named (bytes_eq a (codes "send")) _ _ (if_ok Named (is_closed false before b) _ _ tt refl) tt))))

three_named : (s : Situation) (a b c : List ℕ) → IfOk (three_words s a b c) Named
three_named s a b c =
    if_ok Named (bytes_eq a (codes "wait")) _ _
    (if_ok Named (bytes_eq b (codes "console")) _ _ (need_ok Named kind.Number (numeral 10 18 c) _ (λ n e. if_ok Named s.paused _ _ tt refl))
    (if_ok Named (bytes_eq b (codes "executed")) _ _ (need_ok Named kind.Number (numeral 10 18 c) _ (λ n e. if_ok Named s.paused _ _ tt refl)) tt))
    (if_ok Named (bytes_eq a (codes "get")) _ _
    (need_ok Named kind.Word (register_of c) _ (λ reg is. need_ok Named kind.Number (numeral 10 9 b) _ (λ cpu e. if_ok Named s.paused _ _ (cpu_named s cpu (order.Get cpu reg) (register_below c reg is)) tt)))
    (if_ok Named (bytes_eq a (codes "cancel")) _ _
    (need_ok Named kind.Number (numeral 10 9 b) _ (λ disk e. need_ok Named kind.Number (numeral 10 9 c) _ (λ id e. if_ok Named (nat_lt disk s.disks && nat_lt disk 256) _ _ refl tt))) tt))

four_named : (s : Situation) (before : List Order) (a b c d : List ℕ) → IfOk (four_words s before a b c d) Named
four_named s before a b c d =
    if_ok Named (bytes_eq a (codes "set")) _ _
    (need_ok Named kind.Word (register_of c) _ (λ reg is. need_ok Named kind.Number (numeral 10 9 b) _ (λ cpu e. need_ok Named kind.Number (hex_number 16 d) _ (λ value e.
    if_ok Named s.paused _ _ (cpu_named s cpu (order.Set cpu reg value) (register_below c reg is)) tt))))
    (if_ok Named (bytes_eq a (codes "checkpoint")) _ _ (if_ok Named (bytes_eq c (codes "base")) _ _ (if_ok Named s.paused _ _ (if_ok Named (may_be_base before d) _ _ refl tt) tt) tt) tt)

order_named : (s : Situation) (before : List Order) (words : List (List ℕ)) → IfOk (order_of s before words) Named
order_named s before [] = tt
order_named s before (a ∷ []) = one_named s a
order_named s before (a ∷ b ∷ []) = two_named s before a b
order_named s before (a ∷ b ∷ c ∷ []) = three_named s a b c
order_named s before (a ∷ b ∷ c ∷ d ∷ []) = four_named s before a b c d
order_named s before (a ∷ b ∷ c ∷ d ∷ e ∷ more) = tt

abbrev AllNamed : List Order → Type 0
AllNamed os = list_all has_registers os ≡ true

added_named : (before : List Order) (r : Reading) → AllNamed before → IfOk r Named → IfOk (added before r) AllNamed
added_named before (Err fault) h n = tt
added_named before (Ok o) h n = if_ok AllNamed (is_small (before ++ o ∷ [])) _ _ (rw (list_all-append has_registers before (o ∷ []), h, n) refl) tt

line_named : (p : Plan) (before : List Order) (o : Option (List ℕ)) → AllNamed before → IfOk (read_content p before o) AllNamed
line_named p before None h = h
line_named p before (Some text) h =
    if_ok AllNamed (not (is_utf8 text)) _ _ tt (added_named before (order_of (situation p before) before (words_of text)) h (order_named (situation p before) before (words_of text)))

lines_named : (p : Plan) (n : ℕ) (before : List Order) (ls : List (List ℕ)) → AllNamed before → IfOk (read_lines (line_step p) n before ls) AllNamed
unfolding read_lines
lines_named p n before [] h = h
lines_named p n before (l ∷ ls) h = go (read_line p before l) (line_named p before (content l) h) (λ more. lines_named p (n + 1) more ls)
  where
    go : (r : Result (List Order) ScriptKind) → IfOk r AllNamed → ((more : List Order) → AllNamed more → IfOk (read_lines (line_step p) (n + 1) more ls) AllNamed) → IfOk (and_on (at_line n r) (λ more. read_lines (line_step p) (n + 1) more ls)) AllNamed
    go (Ok more) h later = later more h
    go (Err fault) h later = tt

whole_named : (r : Result (List Order) (Fault ScriptKind)) → IfOk r AllNamed → IfOk (whole r) AllNamed
whole_named (Ok []) h = refl
whole_named (Ok (o ∷ os)) h = h
whole_named (Err fault) h = tt

-- a script that is read names registers alone that there are
pub script_named : (p : Plan) (bytes : List ℕ) (script : List Order) → script_of p bytes ≡ Ok script → list_all has_registers script ≡ true
script_named p bytes script is = subst (λ (r : Result (List Order) (Fault ScriptKind)). IfOk r AllNamed) is (whole_named (read_lines (line_step p) 1 [] (lines bytes)) (lines_named p 1 [] (lines bytes) refl))
