-- The rule of the turnstile, which holds between any two steps, and what a step tells its pass.
-- The table has one word, 0 or 1 plus the number of the pass that holds the value, and one slot, in which the value is at home where no pass holds it. A pass's number is the place of its view.
use Rattle.std.specs.Prelude.{◌≡◌, ◌≢◌, ℕ, suc, ◌+◌, ◌<◌, ◌≤◌, List, [], ◌∷◌, length, slice_index, count_by, true, false, Option, Some}
use mathlib.Core.Option.{some, none}
use lib.ListN.{get_elem?}
use Rattle.atomic_table.specs.Table.{State, Me, Step}
use Rattle.vm_law.specs.declared.journal.Signed.{Signed}
use Rattle.vm_turn.specs.declared.view.Ended.{Ended}
use Rattle.vm_turn.specs.declared.view.View.{View}
use Rattle.vm_turn.specs.History.{signed_by, StartsWith}
use Rattle.vm_turn.specs.View.{HasEnded, own_of, IsLone, taken_view, lost_view, given_view, Finds}

module _ {R : Type 0} where
  -- the live pass of the number j, beside the history `log` of the value at home, or as it was when the holder took it
  pub record LiveFits (root : R) (log : List Signed) (word j : ℕ) (v : View R) : Type 0 where
    pub number : v.number ≡ j
    pub root_is : v.root ≡ Some root
    -- what it has seen is a prefix
    pub seen : StartsWith log v.seen
    -- its own entries are those of its number, and it has seen them all
    pub own_is : signed_by j log ≡ v.own
    pub own_seen : signed_by j v.seen ≡ v.own
    -- where it holds the value the word names it, and it has seen the whole
    pub holding : v.holds ≡ true → (word ≡ suc j) × (v.seen ≡ log)

  -- the pass of the number j, live or ended
  pub record PassFits (root : R) (log : List Signed) (word splits : ℕ) (ended : List Ended) (j : ℕ) (v : View R) : Type 0 where
    -- pass 0 is live, and knows how many passes were split off and which have ended
    pub first : j ≡ 0 → (v.live ≡ true) × (v.splits ≡ splits) × (v.ended ≡ ended)
    pub alive : v.live ≡ true → LiveFits root log word j v
    pub not_ended : v.live ≡ true → ¬ HasEnded j ended
    pub dead : v.live ≡ false → (signed_by j log ≡ own_of j ended) × (v.holds ≡ false) × HasEnded j ended

  pub record IsConsistent {L : Type 0} (root_of : L → R) (entries_of : L → List Signed) (s : State (Option L) (View R)) : Type 0 where
    pub root : R
    pub log : List Signed
    pub splits : ℕ
    pub ended : List Ended
    pub one_word : length s.words ≡ 1
    pub one_slot : length s.homes ≡ 1
    -- the passes are those of the numbers 0 to `splits`, and each is live or has ended, once
    pub count : length s.views ≡ suc splits
    pub few : splits < 65536
    pub living : count_by (λ (v : View R). v.live) s.views + length ended ≡ suc splits
    pub each : (j : ℕ) (v : View R) → get_elem? s.views j ≡ some v → PassFits root log (slice_index s.words 0) splits ended j v
    -- no entry is of a number above them
    pub beyond : (j : ℕ) → splits < j → (signed_by j log ≡ []) × (own_of j ended ≡ []) × ¬ HasEnded j ended
    -- the word 0: the value is at home
    pub free : slice_index s.words 0 ≡ 0 → (x : L) × (get_elem? s.homes 0 ≡ some (some (Some x))) × (root_of x ≡ root) × (entries_of x ≡ log)
    -- any other word: the pass that it names holds the value, and the slot is out
    pub busy : (n : ℕ) → slice_index s.words 0 ≡ suc n → (v : View R) × (get_elem? s.views n ≡ some v) × (v.live ≡ true) × (v.holds ≡ true) × (get_elem? s.homes 0 ≡ some none)

-- `m` is the pass before the step with the slots that it has out, m' after it, and n is the word that the step found
module _ {L R : Type 0} (root_of : L → R) (entries_of : L → List Signed) where
  -- a try: at the word 0 the pass has the value, and at any other it knows that word, which names another pass
  abbrev pub TakeTells : Step (Option L) → Me (Option L) (View R) → ℕ → Me (Option L) (View R) → Type 0
  TakeTells st m n m' =
      (n ≡ 0 → (x : L) × (m'.1 ≡ (0, Some x) ∷ m.1) × (m'.0 ≡ taken_view m.0 (entries_of x)) × Finds root_of entries_of m.0 x)
      × (n ≢ 0 → (m'.1 ≡ m.1) × (m'.0 ≡ lost_view m.0 n) × (n ≢ m.0.number + 1) × (n ≤ 65536) × ¬ IsLone m.0)

  -- the step back to the word 0: the value in the pass's slot is at home again, and the pass has seen its history
  abbrev pub GiveTells : Step (Option L) → Me (Option L) (View R) → ℕ → Me (Option L) (View R) → Type 0
  GiveTells st m n m' = (x : L) → m.1 ≡ (0, Some x) ∷ [] → (m'.1 ≡ []) × (m'.0 ≡ given_view m.0 (entries_of x))
