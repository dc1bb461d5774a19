-- Control's turn in a crew, and what it writes.
use Rattle.std.specs.Prelude.{Option, is_some, ◌&&◌, if◌then◌else◌}
use Rattle.std.proofs.Common.{◌≡◌, ◌≢◌, ℕ, Bool, true, false, List, [], ◌∷◌, ◌++◌, take, drop, append_assoc, refl, sym, ap, ◌∙◌, inl, arith}
use Rattle.std.proofs.lemmas.List.{append-nil, take-append-drop}
use Rattle.vm_law.specs.declared.journal.EndCause.TheVariants.{Outside}
use Rattle.vm_law.specs.declared.journal.Entry.TheVariants.{End}
use Rattle.vm_law.specs.declared.journal.Signed.{Signed}
use Rattle.vm_host.specs.Views.{ImageView, SinkView}
use Rattle.vm_state.specs.State.{State}
use Rattle.vm_table.specs.Rounds.{added, chosen}
use Rattle.vm_table.specs.Table.{lawful}
use Rattle.vm_rounds.proofs.Walking.{AreOf, chosen_of}
use Rattle.vm_board.specs.declared.actor.Did.{Did}
use Rattle.vm_board.specs.declared.actor.Did.TheVariants.{Starved}
use Rattle.vm_board.specs.Board.{IsBoard}
use Rattle.vm_board.specs.Turn.{GoesOn, TakesTurn}
use Rattle.vm_board.specs.View.{BoardView}
use Rattle.vm_control.specs.declared.control.OutFault.{OutFault}
use Rattle.vm_control.specs.Fits.{ControlFits}
use Rattle.vm_control.specs.Outside.{WritesHeld}
use Rattle.vm_control.specs.Turn.{turn_of}
use Rattle.vm_control.specs.View.{ControlView}
use Rattle.vm_solo.specs.Fits.{IsCrew}
use Rattle.vm_solo.specs.Playing.{Continues, PlaysControl, Writes}
use Rattle.vm_solo.specs.Rounds.{rounds_of}
use Rattle.vm_solo.specs.View.{CrewView}
use Rattle.vm_solo.proofs.Crews.{Moves, all_runners, all_workers}
use Rattle.vm_solo.proofs.PassTurns.{same_rounds}
use Rattle.vm_solo.proofs.Runs.{continues, continues_not, moves_by, moves_not, stayed, went_on}

-- ---- the bytes

pub writes : (old new : ControlView) (before now : SinkView) → WritesHeld old new before now → Writes old new before now
writes old new before now h = record { bytes = take h.count old.held; takes = h.takes; wrote = h.wrote }

pub writes_none : (old new : ControlView) (v : SinkView) → new.wrote ≡ old.wrote → Writes old new v v
writes_none old new v e = record { bytes = []; takes = record { told = refl; taken = λ told. sym (append-nil v.taken) }; wrote = e ∙ sym (append-nil old.wrote) }

pub writes_fit : (s : State) (old new : ControlView) (before now : SinkView) → WritesHeld old new before now → ControlFits s old → ControlFits s new
writes_fit s old new before now h f = record {
  rest = f.rest;
  console =
      f.console
      ∙ ap (λ (xs : List ℕ). xs ++ f.rest) (
      ap (λ (xs : List ℕ). old.wrote ++ xs) (sym (take-append-drop h.count old.held)) ∙ sym (append_assoc old.wrote (take h.count old.held) (drop h.count old.held))
      ∙ ap (λ (xs : List ℕ). xs ++ drop h.count old.held) (sym h.wrote) ∙ ap (λ (xs : List ℕ). new.wrote ++ xs) (sym h.held)
      );
}

pub writes_all : (old new : ControlView) (before now : SinkView) → WritesHeld old new before now → new.held ≡ [] → new.wrote ≡ old.wrote ++ old.held
writes_all old new before now h e =
    let none : drop h.count old.held ≡ [] = sym h.held ∙ e in
    let all : take h.count old.held ≡ old.held = sym (append-nil (take h.count old.held)) ∙ ap (λ (xs : List ℕ). take h.count old.held ++ xs) (sym none) ∙ take-append-drop h.count old.held in
    h.wrote ∙ ap (λ (xs : List ℕ). old.wrote ++ xs) all

-- ---- the turn

turn_by : (s : State) (b : Bool) → AreOf 0 (if b then record { by = 0; entry = End Outside } ∷ [] else chosen s 0)
turn_by s true = (refl, tt)
turn_by s false = chosen_of s 0

module _ {I : Type 0} (seen : I → ImageView) where
  pub record ControlTurned (old : CrewView I) (new : BoardView I) (did : Did) : Type 0 where
    pub crew : IsCrew seen old
    pub board : IsBoard seen new
    pub leaves : Bool
    pub turn : TakesTurn old.board new leaves (turn_of old.board.state old.control.failed) did

  abbrev pub with_control : CrewView I → BoardView I → ControlView → Option OutFault → CrewView I
  with_control old new c f = record old { board = new; control = c; fault = f }

  keeps : (old : CrewView I) (new : BoardView I) (c : ControlView) (f : Option OutFault) (xs : List Signed) → IsCrew seen old → Moves seen old.board new 0 xs → ControlFits new.state c → c.failed ≡ is_some f → IsCrew seen (with_control old new c f)
  keeps old new c f xs crew m fits e = record {
    board = m.now;
    control = fits;
    runners = all_runners seen old.board new 0 xs old.runners m (inl refl) crew.runners;
    workers = all_workers seen old.board new 0 xs old.workers m (omega arith) crew.workers;
    fault = e;
  }

  pub starved_keeps : (old : CrewView I) (new : BoardView I) (c : ControlView) (did : Did) → ControlTurned old new did → did ≡ Starved → ControlFits new.state c → c.failed ≡ old.control.failed → IsCrew seen (with_control old new c old.fault)
  starved_keeps old new c did t e fits f = keeps old new c old.fault [] t.crew (moves_not seen old.board new 0 t.crew.board t.board (stayed old.board new t.leaves _ did e t.turn)) fits (f ∙ t.crew.fault)

  pub starved_continues : (old : CrewView I) (new : BoardView I) (did : Did) → ControlTurned old new did → did ≡ Starved → Continues old.board new
  starved_continues old new did t e = continues_not old.board new (stayed old.board new t.leaves _ did e t.turn)

  goes : (old : CrewView I) (new : BoardView I) (did : Did) → ControlTurned old new did → did ≢ Starved → GoesOn old.board new (turn_of old.board.state old.control.failed)
  goes old new did t n = went_on old.board new t.leaves _ did n t.turn

  pub fed_keeps : (old : CrewView I) (new : BoardView I) (c : ControlView) (f : Option OutFault) (did : Did) → ControlTurned old new did → did ≢ Starved → ControlFits new.state c → c.failed ≡ is_some f → IsCrew seen (with_control old new c f)
  fed_keeps old new c f did t n fits e =
      keeps old new c f (turn_of old.board.state old.control.failed) t.crew
      (moves_by seen old.board new 0 (turn_of old.board.state old.control.failed) t.crew.board t.board (goes old new did t n) (turn_by old.board.state (old.control.failed && lawful old.board.state 0 (End Outside)))) fits e

  pub fed_continues : (old : CrewView I) (new : BoardView I) (did : Did) → ControlTurned old new did → did ≢ Starved → Continues old.board new
  fed_continues old new did t n = continues old.board new _ (goes old new did t n)

  pub fed_plays : (old : CrewView I) (new : BoardView I) (c : ControlView) (f : Option OutFault) (did : Did) → ControlTurned old new did → did ≢ Starved → PlaysControl old (with_control old new c f)
  fed_plays old new c f did t n = let g = goes old new did t n in λ calls. same_rounds (rounds_of (with_control old new c f) calls) (added (rounds_of old calls) (turn_of old.board.state old.control.failed)) g.state g.journal refl refl refl
