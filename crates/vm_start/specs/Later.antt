-- Orders that aren't built yet.
use Rattle.std.specs.Prelude.{ℕ, List, Option, Some, None, codes}
use Rattle.vm_law.specs.declared.script.Order.{Order}
use Rattle.vm_law.specs.declared.script.Order.TheVariants as order

-- the word that an order begins with, where the order isn't built
abbrev pub later_word : Order → Option (List ℕ)
later_word order.WaitQuiet = None
later_word (order.WaitConsole n) = None
later_word (order.WaitExecuted n) = None
later_word (order.Input bytes) = None
later_word (order.Nmi cpu) = None
later_word order.Rendezvous = None
later_word order.Pause = Some (codes "pause")
later_word order.Resume = Some (codes "resume")
later_word (order.Checkpoint name) = Some (codes "checkpoint")
later_word (order.Set cpu reg value) = Some (codes "set")
later_word (order.Get cpu reg) = Some (codes "get")
later_word (order.Cancel disk id) = None
later_word (order.Against name base) = Some (codes "checkpoint")
later_word (order.Send name) = Some (codes "send")
