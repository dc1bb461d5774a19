-- Lines with more words than an order has.
use Rattle.std.proofs.Common.{◌≡◌, ◌≤◌, ℕ, refl, arith, List, [], ◌∷◌, length, Err}
use Rattle.std.specs.Borrow.{Bor}
use Rattle.vm_law.specs.declared.script.Order.{Order}
use Rattle.ctl_script.specs.declared.order.Situation.{Situation}
use Rattle.ctl_script.specs.declared.fault.ScriptKind.TheVariants as kind
use Rattle.text_reader.specs.Word.{texts}
use Rattle.ctl_script.specs.Order.{order_of}

pub five_words : (s : Situation) (before : List Order) (words : List (Bor (List ℕ))) → 5 ≤ length words → order_of s before (texts words) ≡ Err kind.Word
five_words s before [] h = absurd (omega arith)
five_words s before (a ∷ []) h = absurd (omega arith)
five_words s before (a ∷ b ∷ []) h = absurd (omega arith)
five_words s before (a ∷ b ∷ c ∷ []) h = absurd (omega arith)
five_words s before (a ∷ b ∷ c ∷ d ∷ []) h = absurd (omega arith)
five_words s before (a ∷ b ∷ c ∷ d ∷ e ∷ more) h = refl
