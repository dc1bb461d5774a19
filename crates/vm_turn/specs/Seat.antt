-- What a pass carries: a seat of the table, its number, and the number of its splits.
use Rattle.std.specs.Prelude.{◌≡◌, ℕ, Option, None, List, ◌∷◌, [], Bool, true, false}
use Rattle.atomic_table.specs.Table.{Me}
use Rattle.vm_turn.specs.declared.view.View.{View}

-- between two calls a pass that holds the value has its slot, which is empty, and any other pass has none
abbrev pub held_slots : {L : Type 0} → Bool → List (ℕ × Option L)
held_slots true = (0, None) ∷ []
held_slots false = []

-- `me` is the seat's view, with the slots that it has out
pub record IsSeated {L R : Type 0} (me : Me (Option L) (View R)) (number splits : ℕ) : Type 0 where
  pub live : me.0.live ≡ true
  pub number_is : me.0.number ≡ number
  pub splits_is : me.0.splits ≡ splits
  pub slots : me.1 ≡ held_slots me.0.holds
