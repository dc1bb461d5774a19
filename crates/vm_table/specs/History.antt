-- Histories: lists of entries, each with the pass that added it, and what they show.
use Rattle.std.specs.Prelude.{◌≡◌, ℕ, Bool, true, false, ◌&&◌, List, [], ◌∷◌, ◌++◌, Option, Some}
use Rattle.vm_law.specs.declared.journal.Entry.TheVariants.{Done}
use Rattle.vm_law.specs.declared.journal.Signed.{Signed}
use Rattle.vm_law.specs.declared.script.Order.{Order}
use Rattle.vm_law.specs.declared.script.Order.TheVariants.{Checkpoint, Against, Send}
use Rattle.vm_state.specs.declared.run_state.Answer.{Answer}
use Rattle.vm_state.specs.declared.run_state.Why.{Why}
use Rattle.vm_state.specs.declared.start.Start.{Start}
use Rattle.vm_state.specs.Machine.{MachineState, drive_at}
use Rattle.vm_state.specs.Start.{boot}
use Rattle.vm_state.specs.State.{State, image_at, next_order}
use Rattle.vm_table.specs.Table.{lawful, after}

-- the state after the entries
abbrev pub after_all : State → List Signed → State
after_all s [] = s
after_all s (x ∷ xs) = after_all (after s x) xs

-- each entry is lawful where it stands
abbrev pub is_lawful_all : State → List Signed → Bool
is_lawful_all s [] = true
is_lawful_all s (x ∷ xs) = lawful s x.by x.entry && is_lawful_all (after s x) xs

-- the entries are a history of the machine from its start on
abbrev pub IsLegal : Start → List Signed → Type 0
IsLegal start history = is_lawful_all (boot start) history ≡ true

-- the last state of a history
abbrev pub last_state : Start → List Signed → State
last_state start history = after_all (boot start) history

-- what the console received in a history
abbrev pub console_of : Start → List Signed → List ℕ
console_of start history = (last_state start history).console

-- how many instructions were executed in it
abbrev pub executed_in : Start → List Signed → ℕ
executed_in start history = (last_state start history).executed

-- what was said to the orders that are done
abbrev pub answers_in : Start → List Signed → List Answer
answers_in start history = (last_state start history).answers

-- why the run ended in it, where it did
abbrev pub why_ended : Start → List Signed → Option Why
why_ended start history = (last_state start history).ended

-- whether nothing can follow it
abbrev pub is_closed : Start → List Signed → Bool
is_closed start history = (last_state start history).closed

-- disk d as the guest sees it
abbrev pub disk_of : Start → List Signed → ℕ → List ℕ
disk_of start history d = (drive_at (last_state start history).machine d).bytes

-- and as its file is to be, with the sectors in which that isn't known
abbrev pub image_of : Start → List Signed → ℕ → List ℕ
image_of start history d = (image_at (last_state start history) d).bytes

abbrev pub doubt_of : Start → List Signed → ℕ → List Bool
doubt_of start history d = (image_at (last_state start history) d).doubt

-- ---- cuts: the machine as it is saved

-- an order that saves the machine: a checkpoint, or a send while a pause is wished
abbrev pub saves : Bool → Option Order → Bool
saves paused (Some (Checkpoint name)) = true
saves paused (Some (Against name base)) = true
saves paused (Some (Send name)) = paused
saves paused order = false

-- m is the machine at the Done of the order at place k, which saves it
pub record IsCut (start : Start) (history : List Signed) (k : ℕ) (m : MachineState) : Type 0 where
  pub before : List Signed
  pub rest : List Signed
  pub done : history ≡ before ++ record { by = 0; entry = Done k } ∷ rest
  pub saved : saves (last_state start before).machine.pause (next_order (last_state start before)) ≡ true
  pub machine : (last_state start before).machine ≡ m
