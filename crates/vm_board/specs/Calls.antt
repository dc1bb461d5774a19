-- What a call asks of a board and changes in it.
use Rattle.std.specs.Prelude.{◌≡◌, ℕ, ◌+◌, ◌≤◌, Some, Bool, true, false, [], ◌∷◌, ◌++◌}
use Rattle.vm_law.specs.declared.journal.Entry.{Entry}
use Rattle.vm_law.specs.declared.journal.Entry.TheVariants.{Hold, Put}
use Rattle.vm_law.specs.declared.journal.Signed.{Signed}
use Rattle.vm_state.specs.State.{State}
use Rattle.vm_table.specs.Table.{lawful, after}
use Rattle.vm_table.specs.Turns.{first_lawful, IsOrderlyEntry}
use Rattle.vm_board.specs.View.{BoardView}

-- the entry is lawful, and its pass adds it in an orderly turn
pub record MayAdd (s : State) (x : Signed) : Type 0 where
  pub lawful : lawful s x.by x.entry ≡ true
  pub orderly : IsOrderlyEntry s x

-- an image goes out or comes back
abbrev pub moves_image : Entry → Bool
moves_image (Hold d id) = true
moves_image (Put d id ok) = true
moves_image e = false

-- what the pass chooses moves no image
abbrev pub ChoosesAtHome : State → ℕ → Type 0
ChoosesAtHome s p = (e : Entry) → first_lawful s p ≡ Some e → moves_image e ≡ false

module _ {I : Type 0} where
  -- one entry more
  pub record Adds (old new : BoardView I) (x : Signed) : Type 0 where
    pub start : new.start ≡ old.start
    pub state : new.state ≡ after old.state x
    pub journal : new.journal ≡ old.journal ++ x ∷ []
    pub room : old.room ≤ new.room + 1
    pub starved : new.starved ≡ old.starved

  -- nothing changes but for how many entries there is room
  pub record IsSame (old new : BoardView I) : Type 0 where
    pub start : new.start ≡ old.start
    pub state : new.state ≡ old.state
    pub journal : new.journal ≡ old.journal
    pub images : new.images ≡ old.images
    pub starved : new.starved ≡ old.starved
