-- A script that is read for a plan, and whose orders are built, is one that a run of the plan may have.
use Rattle.std.proofs.Common.{◌≡◌, ℕ, ◌+◌, ◌^◌, ◌<◌, ◌≤◌, Bool, true, false, not, ◌&&◌, List, [], ◌∷◌, ◌++◌, length, map, Option, Some, None, Result, Ok, Err, refl, subst, arith}
use Rattle.std.specs.Prelude.{nat_lt, nat_le, if◌then◌else◌, codes, fold}
use Rattle.std.specs.Str.{is_utf8, bytes_eq}
use Rattle.std.proofs.lemmas.Bool.{le-leb}
use Rattle.std.proofs.lemmas.Bool.Decides.{nat_tests}
use Rattle.vm_law.specs.declared.plan.Plan.{Plan}
use Rattle.vm_law.specs.declared.script.Order.{Order}
use Rattle.vm_law.specs.declared.script.Order.TheVariants as order
use Rattle.text_reader.specs.Digits.{numeral, hex_number}
use Rattle.text_reader.specs.Line.{Fault, content, lines, read_lines, and_on}
use Rattle.text_reader.proofs.Numerals.{numeral_below}
use Rattle.ctl_script.specs.declared.fault.ScriptKind.{ScriptKind}
use Rattle.ctl_script.specs.declared.fault.ScriptKind.TheVariants as kind
use Rattle.ctl_script.specs.declared.order.Situation.{Situation}
use Rattle.ctl_script.specs.Before.{is_closed, may_be_base}
use Rattle.ctl_script.specs.Numeral.{hex_bytes, register_of}
use Rattle.ctl_script.specs.Order as reads
use Rattle.ctl_script.specs.Order.{Reading, need, order_of}
use Rattle.ctl_script.specs.Script.{input_of, input_size, is_small, situation, added, read_content, read_line, at_line, line_step, or_wait, whole, script_of}
use Rattle.vm_state.specs.Script.{Past, no_past, may_stand, and_then, may_follow, is_allowed}
use Rattle.vm_start.specs.Later.{later_word}

-- ---- an order

-- the numbers of an order are those that a line may have, for so many vCPUs and disks
abbrev Fits : ℕ → ℕ → Order → Type 0
Fits cpus disks order.WaitQuiet = Unit {0}
Fits cpus disks (order.WaitConsole n) = n < 10 ^ 18
Fits cpus disks (order.WaitExecuted n) = n < 10 ^ 18
Fits cpus disks (order.Input bytes) = Unit {0}
Fits cpus disks (order.Nmi cpu) = cpu < cpus
Fits cpus disks order.Rendezvous = Unit {0}
Fits cpus disks order.Pause = Unit {0}
Fits cpus disks order.Resume = Unit {0}
Fits cpus disks (order.Checkpoint name) = Unit {0}
Fits cpus disks (order.Set cpu reg value) = Unit {0}
Fits cpus disks (order.Get cpu reg) = Unit {0}
Fits cpus disks (order.Cancel disk id) = (disk < disks) × (id < 10 ^ 9)
Fits cpus disks (order.Against name base) = Unit {0}
Fits cpus disks (order.Send name) = Unit {0}

abbrev Reads : ℕ → ℕ → Reading → Type 0
Reads cpus disks (Ok o) = Fits cpus disks o
Reads cpus disks (Err fault) = Unit {0}

either : (cpus disks : ℕ) (b : Bool) (x y : Reading) → Reads cpus disks x → Reads cpus disks y → Reads cpus disks (if b then x else y)
either cpus disks true x y p q = p
either cpus disks false x y p q = q

where_true : (cpus disks : ℕ) (b : Bool) (x y : Reading) → (b ≡ true → Reads cpus disks x) → Reads cpus disks y → Reads cpus disks (if b then x else y)
where_true cpus disks true x y p q = p refl
where_true cpus disks false x y p q = q

needed : {A : Type 0} (cpus disks : ℕ) (fault : ScriptKind) (o : Option A) (next : A → Reading) → ((x : A) → o ≡ Some x → Reads cpus disks (next x)) → Reads cpus disks (need fault o next)
needed cpus disks fault None next f = tt
needed cpus disks fault (Some x) next f = f x refl

lt_of : (n m : ℕ) → nat_lt n m ≡ true → n < m
lt_of n m e = grind (arith, nat_tests)

both_of : (a b : Bool) → (a && b) ≡ true → (a ≡ true) × (b ≡ true)
both_of true true e = (refl, refl)
both_of true false e = absurd (let f : false ≡ true = e in cc)
both_of false b e = absurd (let f : false ≡ true = e in cc)

le_of : (n m : ℕ) → nat_le n m ≡ true → n ≤ m
le_of n m e = grind (arith, nat_tests)

module _ (s : Situation) where
  abbrev Good : Reading → Type 0
  Good r = Reads s.cpus s.disks r

  good_one : (a : List ℕ) → Good (reads.one_word s a)
  good_one a =
      either s.cpus s.disks (bytes_eq a (codes "rendezvous")) _ _ tt
      (either s.cpus s.disks (bytes_eq a (codes "pause")) _ _ (either s.cpus s.disks s.paused _ _ tt tt)
      (either s.cpus s.disks (bytes_eq a (codes "resume")) _ _ (either s.cpus s.disks s.paused _ _ tt tt) tt))

  good_nmi : (b : List ℕ) → Good (reads.nmi s b)
  good_nmi b = needed s.cpus s.disks kind.Number (numeral 10 9 b) _ (λ cpu e. where_true s.cpus s.disks (nat_lt cpu s.cpus) _ _ (λ lt. lt_of cpu s.cpus lt) tt)

  good_input : (b : List ℕ) → Good (reads.input b)
  good_input b = needed s.cpus s.disks kind.Number (hex_bytes b) _ (λ bytes e. tt)

  good_two : (before : List Order) (a b : List ℕ) → Good (reads.two_words s before a b)
  good_two before a b =
      either s.cpus s.disks (bytes_eq a (codes "wait")) _ _ (either s.cpus s.disks (bytes_eq b (codes "quiet")) _ _ (either s.cpus s.disks s.paused _ _ tt tt) tt)
      (either s.cpus s.disks (bytes_eq a (codes "input")) _ _ (good_input b)
      (either s.cpus s.disks (bytes_eq a (codes "nmi")) _ _ (good_nmi b)
      (either s.cpus s.disks (bytes_eq a (codes "checkpoint")) _ _ (either s.cpus s.disks s.paused _ _ tt tt)
      (either s.cpus s.disks (bytes_eq a (codes "send")) _ _ (either s.cpus s.disks (is_closed false before b) _ _ tt tt) tt))))

  small_number : (most : ℕ) (text : List ℕ) (n : ℕ) → numeral 10 most text ≡ Some n → n < 10 ^ most
  small_number most text n e = numeral_below 10 most text n (omega arith) e

  good_wait : (b c : List ℕ) → Good (reads.wait_for s b c)
  good_wait b c =
      either s.cpus s.disks (bytes_eq b (codes "console")) _ _ (needed s.cpus s.disks kind.Number (numeral 10 18 c) _ (λ n e. either s.cpus s.disks s.paused _ _ tt (small_number 18 c n e)))
      (either s.cpus s.disks (bytes_eq b (codes "executed")) _ _ (needed s.cpus s.disks kind.Number (numeral 10 18 c) _ (λ n e. either s.cpus s.disks s.paused _ _ tt (small_number 18 c n e))) tt)

  good_get : (b c : List ℕ) → Good (reads.get_register s b c)
  good_get b c = needed s.cpus s.disks kind.Word (register_of c) _ (λ reg e. needed s.cpus s.disks kind.Number (numeral 10 9 b) _ (λ cpu f.
      either s.cpus s.disks s.paused _ _ (either s.cpus s.disks (nat_lt cpu s.cpus) _ _ tt tt) tt))

  good_cancel : (b c : List ℕ) → Good (reads.cancel s b c)
  good_cancel b c = needed s.cpus s.disks kind.Number (numeral 10 9 b) _ (λ disk e. needed s.cpus s.disks kind.Number (numeral 10 9 c) _ (λ id f.
      where_true s.cpus s.disks (nat_lt disk s.disks && nat_lt disk 256) _ _ (λ lt. (lt_of disk s.disks (both_of _ _ lt).0, small_number 9 c id f)) tt))

  good_three : (a b c : List ℕ) → Good (reads.three_words s a b c)
  good_three a b c =
      either s.cpus s.disks (bytes_eq a (codes "wait")) _ _ (good_wait b c)
      (either s.cpus s.disks (bytes_eq a (codes "get")) _ _ (good_get b c)
      (either s.cpus s.disks (bytes_eq a (codes "cancel")) _ _ (good_cancel b c) tt))

  good_set : (b c d : List ℕ) → Good (reads.set_register s b c d)
  good_set b c d = needed s.cpus s.disks kind.Word (register_of c) _ (λ reg e. needed s.cpus s.disks kind.Number (numeral 10 9 b) _ (λ cpu f.
      needed s.cpus s.disks kind.Number (hex_number 16 d) _ (λ value g. either s.cpus s.disks s.paused _ _ (either s.cpus s.disks (nat_lt cpu s.cpus) _ _ tt tt) tt)))

  good_against : (before : List Order) (b c d : List ℕ) → Good (reads.checkpoint_against s before b c d)
  good_against before b c d =
      either s.cpus s.disks (bytes_eq c (codes "base")) _ _ (either s.cpus s.disks s.paused _ _ (either s.cpus s.disks (may_be_base before d) _ _ tt tt) tt) tt

  good_four : (before : List Order) (a b c d : List ℕ) → Good (reads.four_words s before a b c d)
  good_four before a b c d =
      either s.cpus s.disks (bytes_eq a (codes "set")) _ _ (good_set b c d)
      (either s.cpus s.disks (bytes_eq a (codes "checkpoint")) _ _ (good_against before b c d) tt)

  good_order : (before : List Order) (words : List (List ℕ)) → Good (order_of s before words)
  good_order before [] = tt
  good_order before (a ∷ []) = good_one a
  good_order before (a ∷ b ∷ []) = good_two before a b
  good_order before (a ∷ b ∷ c ∷ []) = good_three a b c
  good_order before (a ∷ b ∷ c ∷ d ∷ []) = good_four before a b c d
  good_order before (a ∷ b ∷ c ∷ d ∷ e ∷ more) = tt

-- ---- all orders

abbrev AllFit : ℕ → ℕ → List Order → Type 0
AllFit cpus disks [] = Unit {0}
AllFit cpus disks (o ∷ os) = Fits cpus disks o × AllFit cpus disks os

one_fits_more : (cpus disks : ℕ) (os : List Order) (o : Order) → AllFit cpus disks os → Fits cpus disks o → AllFit cpus disks (os ++ o ∷ [])
one_fits_more cpus disks [] o all fits = (fits, tt)
one_fits_more cpus disks (x ∷ xs) o all fits = (all.0, one_fits_more cpus disks xs o all.1 fits)

record IsRead (p : Plan) (os : List Order) : Type 0 where
  fit : AllFit p.cpus (length p.disks) os
  few : length os ≤ 10000
  small : input_size os ≤ 65536

abbrev Gives : {E : Type 0} → Plan → Result (List Order) E → Type 0
Gives p (Ok os) = IsRead p os
Gives p (Err fault) = Unit {0}

module _ (p : Plan) where
  add_small : (before : List Order) (o : Order) → IsRead p before → Fits p.cpus (length p.disks) o → (b : Bool) → is_small (before ++ o ∷ []) ≡ b
      → Gives {E = ScriptKind} p (if b then Ok (before ++ o ∷ []) else Err kind.Many)
  add_small before o r fits true e =
      let t = both_of (nat_le (length (before ++ o ∷ [])) 10000) _ e in
      record { fit = one_fits_more _ _ before o r.fit fits; few = le_of _ _ t.0; small = le_of _ _ t.1 }
  add_small before o r fits false e = tt

  add_order : (before : List Order) (reading : Reading) → IsRead p before → Reads p.cpus (length p.disks) reading → Gives p (added before reading)
  add_order before (Ok o) r fits = add_small before o r fits (is_small (before ++ o ∷ [])) refl
  add_order before (Err fault) r fits = tt

  read_text : (before : List Order) (text : List ℕ) (b : Bool) → IsRead p before
      → Gives {E = ScriptKind} p (if not b then Err kind.Text else added before (order_of (situation p before) before (reads.words_of text)))
  read_text before text true r = add_order before _ r (good_order (situation p before) before (reads.words_of text))
  read_text before text false r = tt

  read_maybe : (before : List Order) (text : Option (List ℕ)) → IsRead p before → Gives p (read_content p before text)
  read_maybe before None r = r
  read_maybe before (Some text) r = read_text before text (is_utf8 text) r

  step_on : (n : ℕ) (result : Result (List Order) ScriptKind) → Gives p result → Gives p (at_line n result)
  step_on n (Ok os) g = g
  step_on n (Err fault) g = tt

  go_on : (n : ℕ) (ls : List (List ℕ)) (result : Result (List Order) (Fault ScriptKind)) → Gives p result
      → ((more : List Order) → IsRead p more → Gives p (read_lines (line_step p) (n + 1) more ls))
      → Gives p (and_on result (λ more. read_lines (line_step p) (n + 1) more ls))
  go_on n ls (Ok os) g f = f os g
  go_on n ls (Err fault) g f = tt

  all_lines : (ls : List (List ℕ)) (n : ℕ) (before : List Order) → IsRead p before → Gives p (read_lines (line_step p) n before ls)
  unfolding read_lines
  all_lines [] n before r = r
  all_lines (l ∷ ls) n before r =
      go_on n ls (line_step p n before l) (step_on n (read_line p before l) (read_maybe before (content l) r)) (λ more g. all_lines ls (n + 1) more g)

  or_waits : (os : List Order) → IsRead p os → IsRead p (or_wait os) × (1 ≤ length (or_wait os))
  or_waits [] r = (record { fit = (tt, tt); few = omega arith; small = omega arith }, omega arith)
  or_waits (o ∷ os) r = (r, omega arith)

  whole_script : (result : Result (List Order) (Fault ScriptKind)) (script : List Order) → Gives p result → whole result ≡ Ok script → IsRead p script × (1 ≤ length script)
  whole_script (Ok os) script g e =
      let same : or_wait os ≡ script = cc in
      subst (λ (l : List Order). IsRead p l × (1 ≤ length l)) same (or_waits os g)
  whole_script (Err fault) script g e = absurd (let bad : ◌≡◌ {A = Result (List Order) (Fault ScriptKind)} (Err fault) (Ok script) = e in cc)

  is_read : (text : List ℕ) (script : List Order) → script_of p text ≡ Ok script → IsRead p script × (1 ≤ length script)
  is_read text script e =
      whole_script (read_lines (line_step p) 1 [] (lines text)) script (all_lines (lines text) 1 [] (record { fit = tt; few = omega arith; small = omega arith })) e

-- ---- behind one another

abbrev pub AllBuilt : List Order → Type 0
AllBuilt [] = Unit {0}
AllBuilt (o ∷ os) = (later_word o ≡ None) × AllBuilt os

-- no order that is built pauses the machine
record IsGoing (past : Past) (left : ℕ) : Type 0 where
  going : past.paused ≡ false
  room : past.input + left ≤ 65536

none_some : (w : List ℕ) → Some w ≡ None → ⊥
none_some w e = cc

leb_of : (n m : ℕ) → n ≤ m → nat_le n m ≡ true
leb_of n m h = le-leb n m h

ltb_of : (n m : ℕ) → n < m → nat_lt n m ≡ true
ltb_of n m h = grind (arith, nat_tests)

sum_from : (n : ℕ) (ns : List ℕ) → fold ◌+◌ n ns ≡ n + fold ◌+◌ 0 ns
sum_from n [] = omega arith
sum_from n (x ∷ xs) = omega (arith, sum_from (n + x) xs, sum_from (0 + x) xs)

input_more : (o : Order) (os : List Order) → input_size (o ∷ os) ≡ input_of o + input_size os
input_more o os = omega (arith, sum_from (0 + input_of o) (map input_of os))

module _ (p : Plan) where
  stands : (past : Past) (o : Order) (left : ℕ) → later_word o ≡ None → Fits p.cpus (length p.disks) o → IsGoing past (input_of o + left)
      → (may_stand p past o ≡ true) × IsGoing (and_then past o) left
  unfolding may_stand and_then
  stands past order.WaitQuiet left none fits still = (rw still.going refl, record { going = still.going; room = omega (arith, still.room) })
  stands past (order.WaitConsole n) left none fits still = (rw (still.going, ltb_of n (10 ^ 18) fits) refl, record { going = still.going; room = omega (arith, still.room) })
  stands past (order.WaitExecuted n) left none fits still = (rw (still.going, ltb_of n (10 ^ 18) fits) refl, record { going = still.going; room = omega (arith, still.room) })
  stands past (order.Input bytes) left none fits still = (leb_of (past.input + length bytes) 65536 (omega (arith, still.room)), record { going = still.going; room = omega (arith, still.room) })
  stands past (order.Nmi cpu) left none fits still = (ltb_of cpu p.cpus fits, record { going = still.going; room = omega (arith, still.room) })
  stands past order.Rendezvous left none fits still = (refl, record { going = still.going; room = omega (arith, still.room) })
  stands past order.Pause left none fits still = absurd (none_some _ none)
  stands past order.Resume left none fits still = absurd (none_some _ none)
  stands past (order.Checkpoint name) left none fits still = absurd (none_some _ none)
  stands past (order.Set cpu reg value) left none fits still = absurd (none_some _ none)
  stands past (order.Get cpu reg) left none fits still = absurd (none_some _ none)
  stands past (order.Cancel disk id) left none fits still = (rw (ltb_of disk (length p.disks) fits.0, ltb_of id (10 ^ 9) fits.1) refl, record { going = still.going; room = omega (arith, still.room) })
  stands past (order.Against name base) left none fits still = absurd (none_some _ none)
  stands past (order.Send name) left none fits still = absurd (none_some _ none)

  both_true : (a b : Bool) → a ≡ true → b ≡ true → (a && b) ≡ true
  both_true true b e f = f
  both_true false b e f = absurd (let g : false ≡ true = e in cc)

  follows : (script : List Order) (past : Past) → AllBuilt script → AllFit p.cpus (length p.disks) script → IsGoing past (input_size script) → may_follow p past script ≡ true
  unfolding may_follow
  follows [] past built fit still = refl
  follows (o ∷ os) past built fit still =
      let s = stands past o (input_size os) built.0 fit.0 (record { going = still.going; room = omega (arith, still.room, input_more o os) }) in
      both_true (may_stand p past o) _ s.0 (follows os (and_then past o) built.1 fit.1 s.1)

  -- the script is one that a run of the plan may have
  pub allowed : (text : List ℕ) (script : List Order) → script_of p text ≡ Ok script → AllBuilt script → is_allowed p script ≡ true
  allowed text script e built =
      let r = is_read p text script e in
      both_true (nat_le 1 (length script) && nat_le (length script) 10000) _
      (both_true (nat_le 1 (length script)) _ (leb_of 1 (length script) r.1) (leb_of _ _ r.0.few))
      (follows script no_past built r.0.fit (record { going = refl; room = omega (arith, r.0.small) }))
