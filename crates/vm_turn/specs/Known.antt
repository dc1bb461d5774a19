-- What a contract sees of a pass.
pub use Rattle.atomic_table.specs.Seated.{TableId}
use Rattle.vm_turn.specs.declared.view.View.{View}

-- which turnstile it is of, and what it knows
pub record Known (R : Type 0) : Type 0 where
  pub turnstile : TableId
  pub view : View R
