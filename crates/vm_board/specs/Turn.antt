-- What a turn of an actor does to a board, and what it answers.
use Rattle.std.specs.Prelude.{◌≡◌, ℕ, Bool, true, false, List, [], ◌∷◌, ◌++◌}
use Rattle.vm_law.specs.declared.journal.Signed.{Signed}
use Rattle.vm_state.specs.State.{State}
use Rattle.vm_table.specs.History.{after_all}
use Rattle.vm_table.specs.Rounds.{chosen}
use Rattle.vm_board.specs.declared.actor.Did.{Did}
use Rattle.vm_board.specs.declared.actor.Did.TheVariants.{Added, Nothing, Left, Starved}
use Rattle.vm_board.specs.Calls.{IsSame}
use Rattle.vm_board.specs.View.{BoardView}

-- what comes back, and then the first lawful entry of the pass's list, if there is one
abbrev pub with_choice : State → ℕ → List Signed → List Signed
with_choice s p back = back ++ chosen (after_all s back) p

-- some entry is there
abbrev pub some_entry : List Signed → Bool
some_entry [] = false
some_entry (x ∷ xs) = true

-- Left where the actor leaves; else Added or Nothing, by whether there are entries
abbrev pub told : Bool → Bool → Did
told true added = Left
told false true = Added
told false false = Nothing

module _ {I : Type 0} where
  -- the board goes on by these entries, in this order
  pub record GoesOn (old new : BoardView I) (entries : List Signed) : Type 0 where
    pub start : new.start ≡ old.start
    pub state : new.state ≡ after_all old.state entries
    pub journal : new.journal ≡ old.journal ++ entries
    pub starved : new.starved ≡ old.starved

  -- a turn that adds these entries of an actor that leaves, or doesn't; where memory is wanted nothing but that is noted
  abbrev pub TakesTurn : BoardView I → BoardView I → Bool → List Signed → Did → Type 0
  TakesTurn old new leaves entries Starved = IsSame (record old { starved = true }) new
  TakesTurn old new leaves entries did = GoesOn old new entries × (did ≡ told leaves (some_entry entries))
