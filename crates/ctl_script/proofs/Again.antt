-- The line that an order is printed as spells that order again.
use Rattle.std.proofs.Common.{◌≡◌, ◌==◌, ◌&&◌, ◌∙◌, ◌+◌, ◌-◌, ◌^◌, ◌<◌, ◌≤◌, ℕ, Bool, cond, true, false, refl, sym, ap, subst, arith, List, [], ◌∷◌, ◌++◌, append_assoc, length, get_or, take, Option, Some, Ok, Err}
use Rattle.std.specs.Prelude.{IfOk, codes, decimal, nat_lt, if◌then◌else◌}
use Rattle.std.specs.List.{AllByRecursion, list_all}
use Rattle.std.specs.Str.{bytes_eq, is_utf8, IsUtf8}
use Rattle.std.specs.Str.Lines.{strip_carriage_return}
use Rattle.std.proofs.lemmas.Bool.{ne_eqb}
use Rattle.std.proofs.lemmas.List.{length-append, get_or-append-add, take_more, take_all}
use Rattle.std.proofs.lemmas.Str.{IsUtf8-append, is_utf8-from_IsUtf8}
use Rattle.vm_law.specs.declared.script.Order.{Order}
use Rattle.vm_law.specs.declared.script.Order.TheVariants as order
use Rattle.ctl_script.specs.declared.fault.ScriptKind.TheVariants as kind
use Rattle.ctl_script.specs.declared.order.Situation.{Situation}
use Rattle.text_reader.specs.Digits.{numeral, hex_number}
use Rattle.ctl_script.specs.Before.{may_be_base, is_closed}
use Rattle.ctl_script.specs.Numeral.{hex_bytes, register_of}
use Rattle.ctl_script.specs.Order.{words_of, Reading, need, while_paused, unless_paused, on_cpu, on_disk, order_of, one_word, two_words, three_words, four_words}
use Rattle.ctl_script.specs.Print.{order_text, hex_text, hex16}
use Rattle.ctl_script.specs.Law.{EndsPlain, KeepsItsEnd}
use Rattle.text_reader.proofs.Bytes.{is_printed, is_shown, not_space, not_feed, list_all-weaker, both_all, shown_printed, shown_not_space, printed_not_feed, printed_utf8, printed_ended}
use Rattle.text_reader.proofs.Cut.{last_word, next_word}
use Rattle.text_reader.proofs.Numerals.{numeral_below}
use Rattle.ctl_script.proofs.Back.{decimal_back, decimal_shown, decimal_some, hex16_back, hex16_shown, hex16_small, is_byte, hex_back, hex_shown, hex_some, hex_are_bytes, register_is}
use Rattle.ctl_script.proofs.Orders.{if_ok, need_ok}

-- what a word of a line is: a text that isn't empty, without spaces and line feeds
pub record IsWord (w : List ℕ) : Type 0 where
  pub some : 0 < length w
  pub no_space : list_all not_space w ≡ true
  pub no_feed : list_all not_feed w ≡ true
  pub text : IsUtf8 w

-- the order's line is a line of its own, and its words spell the order
pub record IsSpelled (s : Situation) (before : List Order) (o : Order) : Type 0 where
  pub again : order_of s before (words_of (order_text o)) ≡ Ok o
  pub text : is_utf8 (order_text o) ≡ true
  pub no_feed : list_all not_feed (order_text o) ≡ true
  pub ended : KeepsItsEnd o → strip_carriage_return (order_text o) ≡ order_text o

printed : (s : Situation) (before : List Order) (o : Order) → list_all is_printed (order_text o) ≡ true → order_of s before (words_of (order_text o)) ≡ Ok o → IsSpelled s before o
printed s before o plain again = record {
  again = again;
  text = is_utf8-from_IsUtf8 (order_text o) (printed_utf8 (order_text o) plain);
  no_feed = list_all-weaker is_printed not_feed printed_not_feed (order_text o) plain;
  ended = λ keeps. printed_ended (order_text o) plain;
}

-- a reading that is the order where it is one
only : (s : Situation) (before : List Order) (r : Reading) (o : Order) → IfOk r (λ x. x ≡ o) → (r ≡ Ok o → IsSpelled s before o) → IfOk r (IsSpelled s before)
only s before (Ok x) o is h = subst (IsSpelled s before) (sym is) (h (ap Ok is))
only s before (Err fault) o is h = tt

-- ---- numbers as words

-- a number that is printed in decimal
record IsCount (n : ℕ) : Type 0 where
  some : 0 < length (decimal n)
  no_space : list_all not_space (decimal n) ≡ true
  printed : list_all is_printed (decimal n) ≡ true

count : (n : ℕ) → n < 10 ^ 18 → IsCount n
count n low =
    let small : n < 2 ^ 64 = omega arith in
    let shown = decimal_shown n small in
    record {
      some = decimal_some n small;
      no_space = list_all-weaker is_shown not_space shown_not_space (decimal n) shown;
      printed = list_all-weaker is_shown is_printed shown_printed (decimal n) shown;
    }

count_word : (n : ℕ) → IsCount n → words_of (decimal n) ≡ decimal n ∷ []
count_word n c = last_word (decimal n) c.some c.no_space

count_before : (n : ℕ) (rest : List ℕ) → IsCount n → words_of (decimal n ++ 32 ∷ rest) ≡ decimal n ∷ words_of rest
count_before n rest c = next_word (decimal n) rest c.some c.no_space

-- ---- orders with a number

console_again : (s : Situation) (before : List Order) (n : ℕ) → n < 10 ^ 18 → unless_paused s (Ok (order.WaitConsole n)) ≡ Ok (order.WaitConsole n) → IsSpelled s before (order.WaitConsole n)
console_again s before n low holds =
    let c = count n low in
    let back : numeral 10 18 (decimal n) ≡ Some n = decimal_back 18 n (omega arith) low (omega arith) in
    printed s before (order.WaitConsole n) (both_all is_printed (codes "wait console ") (decimal n) refl c.printed)
    (ap (λ (ws : List (List ℕ)). order_of s before (codes "wait" ∷ codes "console" ∷ ws)) (count_word n c)
    ∙ ap (λ (x : Option ℕ). need kind.Number x (λ k. unless_paused s (Ok (order.WaitConsole k)))) back ∙ holds)

executed_again : (s : Situation) (before : List Order) (n : ℕ) → n < 10 ^ 18 → unless_paused s (Ok (order.WaitExecuted n)) ≡ Ok (order.WaitExecuted n) → IsSpelled s before (order.WaitExecuted n)
executed_again s before n low holds =
    let c = count n low in
    let back : numeral 10 18 (decimal n) ≡ Some n = decimal_back 18 n (omega arith) low (omega arith) in
    printed s before (order.WaitExecuted n) (both_all is_printed (codes "wait executed ") (decimal n) refl c.printed)
    (ap (λ (ws : List (List ℕ)). order_of s before (codes "wait" ∷ codes "executed" ∷ ws)) (count_word n c)
    ∙ ap (λ (x : Option ℕ). need kind.Number x (λ k. unless_paused s (Ok (order.WaitExecuted k)))) back ∙ holds)

nmi_again : (s : Situation) (before : List Order) (cpu : ℕ) → cpu < 10 ^ 9 → on_cpu s cpu (order.Nmi cpu) ≡ Ok (order.Nmi cpu) → IsSpelled s before (order.Nmi cpu)
nmi_again s before cpu low holds =
    let c = count cpu (omega arith) in
    let back : numeral 10 9 (decimal cpu) ≡ Some cpu = decimal_back 9 cpu (omega arith) low (omega arith) in
    printed s before (order.Nmi cpu) (both_all is_printed (codes "nmi ") (decimal cpu) refl c.printed)
    (ap (λ (ws : List (List ℕ)). order_of s before (codes "nmi" ∷ ws)) (count_word cpu c)
    ∙ ap (λ (x : Option ℕ). need kind.Number x (λ k. on_cpu s k (order.Nmi k))) back ∙ holds)

cancel_again : (s : Situation) (before : List Order) (disk id : ℕ) → disk < 10 ^ 9 → id < 10 ^ 9 → on_disk s disk (order.Cancel disk id) ≡ Ok (order.Cancel disk id) → IsSpelled s before (order.Cancel disk id)
cancel_again s before disk id low few holds =
    let c = count disk (omega arith) in
    let d = count id (omega arith) in
    let first : numeral 10 9 (decimal disk) ≡ Some disk = decimal_back 9 disk (omega arith) low (omega arith) in
    let second : numeral 10 9 (decimal id) ≡ Some id = decimal_back 9 id (omega arith) few (omega arith) in
    let parts : order_text (order.Cancel disk id) ≡ codes "cancel " ++ (decimal disk ++ 32 ∷ decimal id) = simp append_assoc in
    printed s before (order.Cancel disk id)
    (both_all is_printed (codes "cancel " ++ decimal disk ++ codes " ") (decimal id) (both_all is_printed (codes "cancel " ++ decimal disk) (codes " ") (both_all is_printed (codes "cancel ") (decimal disk) refl c.printed) refl) d.printed)
    (ap (λ (t : List ℕ). order_of s before (words_of t)) parts
    ∙ ap (λ (ws : List (List ℕ)). order_of s before (codes "cancel" ∷ ws)) (count_before disk (decimal id) c ∙ ap (λ (ws : List (List ℕ)). decimal disk ∷ ws) (count_word id d))
    ∙ ap (λ (x : Option ℕ). need kind.Number x (λ k. need kind.Number (numeral 10 9 (decimal id)) (λ i. on_disk s k (order.Cancel k i)))) first
    ∙ ap (λ (x : Option ℕ). need kind.Number x (λ i. on_disk s disk (order.Cancel disk i))) second ∙ holds)

-- ---- input

input_again : (s : Situation) (before : List Order) (bytes : List ℕ) → list_all is_byte bytes ≡ true → 0 < length bytes → IsSpelled s before (order.Input bytes)
input_again s before bytes all some =
    let shown = hex_shown bytes all in
    printed s before (order.Input bytes) (both_all is_printed (codes "input ") (hex_text bytes) refl (list_all-weaker is_shown is_printed shown_printed (hex_text bytes) shown))
    (ap (λ (ws : List (List ℕ)). order_of s before (codes "input" ∷ ws)) (last_word (hex_text bytes) (hex_some bytes some) (list_all-weaker is_shown not_space shown_not_space (hex_text bytes) shown))
    ∙ ap (λ (x : Option (List ℕ)). need kind.Number x (λ bs. Ok (order.Input bs))) (hex_back bytes all))

-- ---- registers

get_again : (s : Situation) (before : List Order) (cpu reg : ℕ) (name : List ℕ) → cpu < 10 ^ 9 → register_of name ≡ Some reg
    → while_paused s (on_cpu s cpu (order.Get cpu reg)) ≡ Ok (order.Get cpu reg) → IsSpelled s before (order.Get cpu reg)
get_again s before cpu reg name low is holds =
    let c = count cpu (omega arith) in
    let told = register_is name reg is in
    let number : numeral 10 9 (decimal cpu) ≡ Some cpu = decimal_back 9 cpu (omega arith) low (omega arith) in
    let parts : order_text (order.Get cpu reg) ≡ codes "get " ++ (decimal cpu ++ 32 ∷ name) = simp append_assoc (ap (λ (w : List ℕ). codes "get " ++ (decimal cpu ++ 32 ∷ w)) (sym told.0)) in
    let plain : list_all is_printed (codes "get " ++ (decimal cpu ++ 32 ∷ name)) ≡ true =
    both_all is_printed (codes "get ") (decimal cpu ++ 32 ∷ name) refl (both_all is_printed (decimal cpu) (32 ∷ name) c.printed (both_all is_printed (32 ∷ []) name refl (list_all-weaker is_shown is_printed shown_printed name told.2))) in
    printed s before (order.Get cpu reg) (ap (list_all is_printed) parts ∙ plain)
    (ap (λ (t : List ℕ). order_of s before (words_of t)) parts
    ∙ ap (λ (ws : List (List ℕ)). order_of s before (codes "get" ∷ ws)) (count_before cpu name c ∙ ap (λ (ws : List (List ℕ)). decimal cpu ∷ ws) (last_word name told.1 (list_all-weaker is_shown not_space shown_not_space name told.2)))
    ∙ ap (λ (x : Option ℕ). need kind.Word x (λ r. need kind.Number (numeral 10 9 (decimal cpu)) (λ k. while_paused s (on_cpu s k (order.Get k r))))) is
    ∙ ap (λ (x : Option ℕ). need kind.Number x (λ k. while_paused s (on_cpu s k (order.Get k reg)))) number ∙ holds)

set_again : (s : Situation) (before : List Order) (cpu reg value : ℕ) (name : List ℕ) → cpu < 10 ^ 9 → value < 16 ^ 16 → register_of name ≡ Some reg
    → while_paused s (on_cpu s cpu (order.Set cpu reg value)) ≡ Ok (order.Set cpu reg value) → IsSpelled s before (order.Set cpu reg value)
set_again s before cpu reg value name low fits is holds =
    let c = count cpu (omega arith) in
    let told = register_is name reg is in
    let number : numeral 10 9 (decimal cpu) ≡ Some cpu = decimal_back 9 cpu (omega arith) low (omega arith) in
    let shown : list_all is_shown (48 ∷ 120 ∷ hex16 value) ≡ true = both_all is_shown (codes "0x") (hex16 value) refl (hex16_shown value fits) in
    let parts : order_text (order.Set cpu reg value) ≡ codes "set " ++ (decimal cpu ++ 32 ∷ (name ++ 32 ∷ 48 ∷ 120 ∷ hex16 value)) =
    simp append_assoc (ap (λ (w : List ℕ). codes "set " ++ (decimal cpu ++ 32 ∷ (w ++ 32 ∷ 48 ∷ 120 ∷ hex16 value))) (sym told.0)) in
    let name_printed = list_all-weaker is_shown is_printed shown_printed name told.2 in
    let hex_printed = list_all-weaker is_shown is_printed shown_printed (48 ∷ 120 ∷ hex16 value) shown in
    let tail : list_all is_printed (name ++ 32 ∷ 48 ∷ 120 ∷ hex16 value) ≡ true = both_all is_printed name (32 ∷ 48 ∷ 120 ∷ hex16 value) name_printed (both_all is_printed (32 ∷ []) (48 ∷ 120 ∷ hex16 value) refl hex_printed) in
    let plain : list_all is_printed (codes "set " ++ (decimal cpu ++ 32 ∷ (name ++ 32 ∷ 48 ∷ 120 ∷ hex16 value))) ≡ true =
    both_all is_printed (codes "set ") (decimal cpu ++ 32 ∷ (name ++ 32 ∷ 48 ∷ 120 ∷ hex16 value)) refl
    (both_all is_printed (decimal cpu) (32 ∷ (name ++ 32 ∷ 48 ∷ 120 ∷ hex16 value)) c.printed (both_all is_printed (32 ∷ []) (name ++ 32 ∷ 48 ∷ 120 ∷ hex16 value) refl tail)) in
    let words : words_of (decimal cpu ++ 32 ∷ (name ++ 32 ∷ 48 ∷ 120 ∷ hex16 value)) ≡ decimal cpu ∷ name ∷ (48 ∷ 120 ∷ hex16 value) ∷ [] =
    count_before cpu (name ++ 32 ∷ 48 ∷ 120 ∷ hex16 value) c
    ∙ ap (λ (ws : List (List ℕ)). decimal cpu ∷ ws) (next_word name (48 ∷ 120 ∷ hex16 value) told.1 (list_all-weaker is_shown not_space shown_not_space name told.2)
    ∙ ap (λ (ws : List (List ℕ)). name ∷ ws) (last_word (48 ∷ 120 ∷ hex16 value) (omega arith) (list_all-weaker is_shown not_space shown_not_space (48 ∷ 120 ∷ hex16 value) shown))) in
    printed s before (order.Set cpu reg value) (ap (list_all is_printed) parts ∙ plain)
    (ap (λ (t : List ℕ). order_of s before (words_of t)) parts
    ∙ ap (λ (ws : List (List ℕ)). order_of s before (codes "set" ∷ ws)) words
    ∙ ap (λ (x : Option ℕ). need kind.Word x (λ r. need kind.Number (numeral 10 9 (decimal cpu)) (λ k. need kind.Number (hex_number 16 (48 ∷ 120 ∷ hex16 value)) (λ v. while_paused s (on_cpu s k (order.Set k r v)))))) is
    ∙ ap (λ (x : Option ℕ). need kind.Number x (λ k. need kind.Number (hex_number 16 (48 ∷ 120 ∷ hex16 value)) (λ v. while_paused s (on_cpu s k (order.Set k reg v))))) number
    ∙ ap (λ (x : Option ℕ). need kind.Number x (λ v. while_paused s (on_cpu s cpu (order.Set cpu reg v)))) (hex16_back value fits) ∙ holds)

-- ---- checkpoints

-- a list that ends with a carriage return is one with that byte after a front
ends_so : (w : List ℕ) → 0 < length w → get_or w (length w - 1) 0 ≡ 13 → w ≡ take (length w - 1) w ++ 13 ∷ []
ends_so w some is =
    let inside : length w - 1 < length w = omega arith in
    let all : length w ≤ length w - 1 + 1 = omega arith in
    sym (take_all (length w - 1 + 1) w all) ∙ take_more w (length w - 1) 0 inside ∙ ap (λ (b : ℕ). take (length w - 1) w ++ b ∷ []) is

name_ended : (before name : List ℕ) → 0 < length name → EndsPlain name → strip_carriage_return (before ++ name) ≡ before ++ name
name_ended before name some keeps =
    let place : length (before ++ name) - 1 ≡ length before + (length name - 1) = omega (arith, length-append before name) in
    let last : get_or (before ++ name) (length (before ++ name) - 1) 0 ≡ get_or name (length name - 1) 0 = ap (λ (k : ℕ). get_or (before ++ name) k 0) place ∙ get_or-append-add before name (length name - 1) 0 in
    let isnt : (get_or (before ++ name) (length (before ++ name) - 1) 0 == 13) ≡ false = ne_eqb _ 13 (λ is. keeps (take (length name - 1) name) (ends_so name some (sym last ∙ is))) in
    rw isnt refl

checkpoint_again : (s : Situation) (before : List Order) (name : List ℕ) → IsWord name → while_paused s (Ok (order.Checkpoint name)) ≡ Ok (order.Checkpoint name) → IsSpelled s before (order.Checkpoint name)
checkpoint_again s before name word holds = record {
  again = ap (λ (ws : List (List ℕ)). order_of s before (codes "checkpoint" ∷ ws)) (last_word name word.some word.no_space) ∙ holds;
  text = is_utf8-from_IsUtf8 (codes "checkpoint " ++ name) (IsUtf8-append (codes "checkpoint ") name (printed_utf8 (codes "checkpoint ") refl) word.text);
  no_feed = both_all not_feed (codes "checkpoint ") name refl word.no_feed;
  ended = name_ended (codes "checkpoint ") name word.some;
}

send_again : (s : Situation) (before : List Order) (name : List ℕ) → IsWord name → is_closed false before name ≡ false → IsSpelled s before (order.Send name)
send_again s before name word open_ = record {
  again = ap (λ (ws : List (List ℕ)). order_of s before (codes "send" ∷ ws)) (last_word name word.some word.no_space)
      ∙ ap (λ (t : Bool). cond t (Err kind.Order) (Ok (order.Send name))) open_;
  text = is_utf8-from_IsUtf8 (codes "send " ++ name) (IsUtf8-append (codes "send ") name (printed_utf8 (codes "send ") refl) word.text);
  no_feed = both_all not_feed (codes "send ") name refl word.no_feed;
  ended = name_ended (codes "send ") name word.some;
}

against_again : (s : Situation) (before : List Order) (name base : List ℕ) → IsWord name → IsWord base
    → while_paused s (if may_be_base before base then Ok (order.Against name base) else Err kind.Order) ≡ Ok (order.Against name base) → IsSpelled s before (order.Against name base)
against_again s before name base file old holds =
    let front = codes "checkpoint " ++ name ++ codes " base " in
    let parts : order_text (order.Against name base) ≡ codes "checkpoint " ++ (name ++ 32 ∷ (codes "base " ++ base)) = simp append_assoc in
    let words : words_of (name ++ 32 ∷ (codes "base " ++ base)) ≡ name ∷ codes "base" ∷ base ∷ [] =
    next_word name (codes "base " ++ base) file.some file.no_space
    ∙ ap (λ (ws : List (List ℕ)). name ∷ codes "base" ∷ ws) (last_word base old.some old.no_space) in
    record {
      again = ap (λ (t : List ℕ). order_of s before (words_of t)) parts ∙ ap (λ (ws : List (List ℕ)). order_of s before (codes "checkpoint" ∷ ws)) words ∙ holds;
      text = is_utf8-from_IsUtf8 (front ++ base) (IsUtf8-append front base (IsUtf8-append (codes "checkpoint " ++ name) (codes " base ") (IsUtf8-append (codes "checkpoint ") name (printed_utf8 (codes "checkpoint ") refl) file.text) (printed_utf8 (codes " base ") refl)) old.text);
      no_feed = both_all not_feed front base (both_all not_feed (codes "checkpoint " ++ name) (codes " base ") (both_all not_feed (codes "checkpoint ") name refl file.no_feed) refl) old.no_feed;
      ended = name_ended front base old.some;
    }

-- ---- by the number of words

one_again : (s : Situation) (before : List Order) (a : List ℕ) → IfOk (one_word s a) (IsSpelled s before)
one_again s before a = if_ok (IsSpelled s before) (bytes_eq a (codes "rendezvous")) _ _ (printed s before order.Rendezvous refl refl)
    (if_ok (IsSpelled s before) (bytes_eq a (codes "pause")) _ _ (only s before (unless_paused s (Ok order.Pause)) order.Pause (if_ok (λ o. o ≡ order.Pause) s.paused _ _ tt refl) (printed s before order.Pause refl))
    (if_ok (IsSpelled s before) (bytes_eq a (codes "resume")) _ _ (only s before (while_paused s (Ok order.Resume)) order.Resume (if_ok (λ o. o ≡ order.Resume) s.paused _ _ refl tt) (printed s before order.Resume refl)) tt))

pub quiet_again : (s : Situation) (before : List Order) → IfOk (unless_paused s (Ok order.WaitQuiet)) (IsSpelled s before)
quiet_again s before = only s before (unless_paused s (Ok order.WaitQuiet)) order.WaitQuiet (if_ok (λ o. o ≡ order.WaitQuiet) s.paused _ _ tt refl) (printed s before order.WaitQuiet refl)

two_again : (s : Situation) (before : List Order) (a b : List ℕ) → IsWord b → IfOk (two_words s before a b) (IsSpelled s before)
two_again s before a b word =
    if_ok (IsSpelled s before) (bytes_eq a (codes "wait")) _ _ (if_ok (IsSpelled s before) (bytes_eq b (codes "quiet")) _ _ (quiet_again s before) tt)
    (if_ok (IsSpelled s before) (bytes_eq a (codes "input")) _ _ (need_ok (IsSpelled s before) kind.Number (hex_bytes b) _ (λ bytes e. let told = hex_are_bytes b bytes e in let some = word.some in input_again s before bytes told.0 (omega (arith, told.1))))
    (if_ok (IsSpelled s before) (bytes_eq a (codes "nmi")) _ _ (need_ok (IsSpelled s before) kind.Number (numeral 10 9 b) _ (λ cpu e.
    only s before (on_cpu s cpu (order.Nmi cpu)) (order.Nmi cpu) (if_ok (λ o. o ≡ order.Nmi cpu) (nat_lt cpu s.cpus) _ _ refl tt) (nmi_again s before cpu (numeral_below 10 9 b cpu (omega arith) e))))
    (if_ok (IsSpelled s before) (bytes_eq a (codes "checkpoint")) _ _
    (only s before (while_paused s (Ok (order.Checkpoint b))) (order.Checkpoint b) (if_ok (λ o. o ≡ order.Checkpoint b) s.paused _ _ refl tt) (checkpoint_again s before b word))
    (if_ok (IsSpelled s before) (bytes_eq a (codes "send")) _ _ (sent (is_closed false before b) refl) tt))))
  where
    sent : (t : Bool) → is_closed false before b ≡ t → IfOk (cond t (Err kind.Order) (Ok (order.Send b))) (IsSpelled s before)
    sent true e = tt
    sent false e = send_again s before b word e

cpu_only : (s : Situation) (cpu : ℕ) (o : Order) → IfOk (while_paused s (on_cpu s cpu o)) (λ x. x ≡ o)
cpu_only s cpu o = if_ok (λ x. x ≡ o) s.paused _ _ (if_ok (λ x. x ≡ o) (nat_lt cpu s.cpus) _ _ refl tt) tt

three_again : (s : Situation) (before : List Order) (a b c : List ℕ) → IfOk (three_words s a b c) (IsSpelled s before)
three_again s before a b c =
    if_ok (IsSpelled s before) (bytes_eq a (codes "wait")) _ _
    (if_ok (IsSpelled s before) (bytes_eq b (codes "console")) _ _ (need_ok (IsSpelled s before) kind.Number (numeral 10 18 c) _ (λ n e.
    only s before (unless_paused s (Ok (order.WaitConsole n))) (order.WaitConsole n) (if_ok (λ o. o ≡ order.WaitConsole n) s.paused _ _ tt refl) (console_again s before n (numeral_below 10 18 c n (omega arith) e))))
    (if_ok (IsSpelled s before) (bytes_eq b (codes "executed")) _ _ (need_ok (IsSpelled s before) kind.Number (numeral 10 18 c) _ (λ n e.
    only s before (unless_paused s (Ok (order.WaitExecuted n))) (order.WaitExecuted n) (if_ok (λ o. o ≡ order.WaitExecuted n) s.paused _ _ tt refl) (executed_again s before n (numeral_below 10 18 c n (omega arith) e)))) tt))
    (if_ok (IsSpelled s before) (bytes_eq a (codes "get")) _ _
    (need_ok (IsSpelled s before) kind.Word (register_of c) _ (λ reg is. need_ok (IsSpelled s before) kind.Number (numeral 10 9 b) _ (λ cpu e.
    only s before (while_paused s (on_cpu s cpu (order.Get cpu reg))) (order.Get cpu reg) (cpu_only s cpu (order.Get cpu reg)) (get_again s before cpu reg c (numeral_below 10 9 b cpu (omega arith) e) is))))
    (if_ok (IsSpelled s before) (bytes_eq a (codes "cancel")) _ _
    (need_ok (IsSpelled s before) kind.Number (numeral 10 9 b) _ (λ disk e. need_ok (IsSpelled s before) kind.Number (numeral 10 9 c) _ (λ id f.
    only s before (on_disk s disk (order.Cancel disk id)) (order.Cancel disk id) (if_ok (λ o. o ≡ order.Cancel disk id) (nat_lt disk s.disks && nat_lt disk 256) _ _ refl tt)
    (cancel_again s before disk id (numeral_below 10 9 b disk (omega arith) e) (numeral_below 10 9 c id (omega arith) f))))) tt))

four_again : (s : Situation) (before : List Order) (a b c d : List ℕ) → IsWord b → IsWord d → IfOk (four_words s before a b c d) (IsSpelled s before)
four_again s before a b c d file old =
    if_ok (IsSpelled s before) (bytes_eq a (codes "set")) _ _
    (need_ok (IsSpelled s before) kind.Word (register_of c) _ (λ reg is. need_ok (IsSpelled s before) kind.Number (numeral 10 9 b) _ (λ cpu e. need_ok (IsSpelled s before) kind.Number (hex_number 16 d) _ (λ value v.
    only s before (while_paused s (on_cpu s cpu (order.Set cpu reg value))) (order.Set cpu reg value) (cpu_only s cpu (order.Set cpu reg value))
    (set_again s before cpu reg value c (numeral_below 10 9 b cpu (omega arith) e) (hex16_small d value v) is)))))
    (if_ok (IsSpelled s before) (bytes_eq a (codes "checkpoint")) _ _ (if_ok (IsSpelled s before) (bytes_eq c (codes "base")) _ _
    (only s before (while_paused s (if may_be_base before d then Ok (order.Against b d) else Err kind.Order)) (order.Against b d)
    (if_ok (λ o. o ≡ order.Against b d) s.paused _ _ (if_ok (λ o. o ≡ order.Against b d) (may_be_base before d) _ _ refl tt) tt) (against_again s before b d file old)) tt) tt)

pub order_again : (s : Situation) (before : List Order) (words : List (List ℕ)) → AllByRecursion IsWord words → IfOk (order_of s before words) (IsSpelled s before)
order_again s before [] h = tt
order_again s before (a ∷ []) h = one_again s before a
order_again s before (a ∷ b ∷ []) h = two_again s before a b h.1.0
order_again s before (a ∷ b ∷ c ∷ []) h = three_again s before a b c
order_again s before (a ∷ b ∷ c ∷ d ∷ []) h = four_again s before a b c d h.1.0 h.1.1.1.0
order_again s before (a ∷ b ∷ c ∷ d ∷ e ∷ more) h = tt
