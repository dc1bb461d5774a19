-- What a pass knows, how each call changes it, and what a pass finds.
use Rattle.std.specs.Prelude.{◌≡◌, ◌⊎◌, ℕ, ◌+◌, List, [], ◌∷◌, ◌++◌, length, true, false, ◌==◌, Option, Some, None, if◌then◌else◌}
use Rattle.vm_law.specs.declared.journal.Signed.{Signed}
use Rattle.vm_turn.specs.declared.view.Ended.{Ended}
use Rattle.vm_turn.specs.declared.view.View.{View}
use Rattle.vm_turn.specs.History.{signed_by, longer}

-- a pass of this number has ended
abbrev pub HasEnded : ℕ → List Ended → Type 0
HasEnded n [] = ⊥
HasEnded n (e ∷ ended) = (e.number ≡ n) ⊎ HasEnded n ended

-- the own entries of the ended pass of this number, and none where there is no such pass
abbrev pub own_of : ℕ → List Ended → List Signed
own_of n [] = []
own_of n (e ∷ ended) = if e.number == n then e.own else own_of n ended

module _ {R : Type 0} where
  -- a pass that has added nothing, has tried nothing and has split nothing
  abbrev pub fresh : ℕ → Option R → List Signed → View R
  fresh n root seen = record { live = true; number = n; root = root; seen = seen; own = []; holds = false; found = 0; tries = 0; splits = 0; ended = [] }

  -- pass 0 of a new turnstile
  abbrev pub opening_view : R → View R
  opening_view root = fresh 0 (Some root) []

  -- what is left of a pass that was joined
  abbrev pub spent_view : View R
  spent_view = record { live = false; number = 0; root = None; seen = []; own = []; holds = false; found = 0; tries = 0; splits = 0; ended = [] }

  -- a try that found nobody: the pass holds the value, and has seen its whole history
  abbrev pub taken_view : View R → List Signed → View R
  taken_view v log = record v { seen = log; holds = true; found = 0; tries = v.tries + 1 }

  -- a try that found this word, which isn't 0
  abbrev pub lost_view : View R → ℕ → View R
  lost_view v word = record v { found = word; tries = v.tries + 1 }

  -- the same but for the number of tries
  abbrev pub with_tries : View R → ℕ → View R
  with_tries v tries = record v { tries = tries }

  -- the pass gave the value back with this history
  abbrev pub given_view : View R → List Signed → View R
  given_view v log = record v { seen = log; own = signed_by v.number log; holds = false }

  -- pass 0 once it has split off one more pass
  abbrev pub split_view : View R → View R
  split_view v = record v { splits = v.splits + 1 }

  -- the pass that it split off: it has seen as much
  abbrev pub new_view : View R → View R
  new_view v = fresh (v.splits + 1) v.root v.seen

  -- pass 0 with what the pass w knew: the longer of the two seen histories, and w's own entries among those of the ended
  abbrev pub joined_view : View R → View R → View R
  joined_view v w = record v { seen = longer v.seen w.seen; ended = record { number = w.number; own = w.own } ∷ v.ended }

  -- pass 0, with as many passes joined as split: no other pass is left
  abbrev pub IsLone : View R → Type 0
  IsLone v = (v.number ≡ 0) × (length v.ended ≡ v.splits)

-- The pass with the view v finds the value x: its root is the first one, and its history goes on from what the pass has seen by entries of others, so that the entries of this pass stand in it each once
module _ {L R : Type 0} (root_of : L → R) (entries_of : L → List Signed) where
  pub record Finds (v : View R) (x : L) : Type 0 where
    pub root_is : v.root ≡ Some (root_of x)
    pub later : (rest : List Signed) × (entries_of x ≡ v.seen ++ rest) × (signed_by v.number rest ≡ [])
    pub own_is : signed_by v.number (entries_of x) ≡ v.own
