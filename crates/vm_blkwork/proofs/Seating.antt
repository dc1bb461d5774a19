-- A worker at the turnstile.
use Rattle.std.proofs.Common.{◌≡◌, ◌≢◌, ℕ, Bool, true, false, ◌==◌, List, [], ◌∷◌, ◌++◌, Option, Some, None, refl, sym, ap, subst, ◌∙◌}
use Rattle.std.proofs.lemmas.Option.{same_Some}
use Rattle.vm_law.specs.declared.journal.Entry.TheVariants.{Put}
use Rattle.vm_law.specs.declared.journal.Signed.{Signed}
use Rattle.vm_host.specs.Views.{ImageView}
use Rattle.vm_turn.specs.History.{AllBy, signed_by}
use Rattle.vm_turn.specs.View.{Finds, given_view, taken_view, with_tries}
use Rattle.vm_turn.specs.declared.view.View.{View}
use Rattle.vm_state.specs.declared.image.Holder.{Holder}
use Rattle.vm_state.specs.declared.start.Start.{Start}
use Rattle.vm_state.specs.State.{State, image_at}
use Rattle.vm_table.specs.History.{IsLegal, last_state}
use Rattle.vm_table.specs.Rounds.{put_back, put_for}
use Rattle.vm_table.specs.Table.{lawful}
use Rattle.vm_board.specs.declared.actor.Did.{Did}
use Rattle.vm_board.specs.declared.actor.Did.TheVariants.{Added, Nothing, Left, Starved}
use Rattle.vm_board.specs.Board.{IsBoard}
use Rattle.vm_board.specs.Turn.{TakesTurn}
use Rattle.vm_board.specs.View.{BoardView}
use Rattle.vm_board.proofs.Going.{all_none, all_one, still, turn_start}
use Rattle.vm_blkwork.specs.declared.outside.Out.{Out}
use Rattle.vm_blkwork.specs.declared.worker.Worker.{Worker}
use Rattle.vm_blkwork.specs.Fits.{WorkerFits}
use Rattle.vm_blkwork.specs.Going.{IsTurned, WorkerSits}
use Rattle.vm_blkwork.specs.Outside.{IsWaiting}
use Rattle.vm_blkwork.specs.Turn.{answer_of, back_of, turn_of}
use Rattle.vm_blkwork.proofs.Fitting.{other_fits}

-- ---- the Put that is due is of its pass

put_all : (p d : ℕ) (h : Option Holder) (ok : Bool) → AllBy p (put_for p d h ok)
put_all p d None ok = all_none p
put_all p d (Some h) ok = all_one p (Put d h.id ok)

put_back_all : (s : State) (p d : ℕ) (a : Option Bool) → AllBy p (put_back s p (Some d) a)
put_back_all s p d None = all_none p
put_back_all s p d (Some ok) = put_all p d (image_at s d).holder ok

module _ {I : Type 0} where
  pub back_all : (s : State) (w : Worker I) → AllBy w.by (back_of s w)
  back_all s w = put_back_all s w.by w.disk (answer_of w.out)

  pub is_turned : (did : Did) (before after : Worker I) → (did ≡ Starved → after ≡ before) → (did ≢ Starved → IsWaiting after.out) → IsTurned did before after
  is_turned Starved before after f g = f refl
  is_turned Added before after f g = g (λ e. cc)
  is_turned Nothing before after f g = g (λ e. cc)
  is_turned Left before after f g = g (λ e. cc)

module _ {I : Type 0} (seen : I → ImageView) where
  -- it fits the board that its pass finds
  pub found_fits : (v : View Start) (x : BoardView I) (w : Worker I) → IsBoard seen x → Finds (λ (z : BoardView I). z.start) (λ (z : BoardView I). z.journal) v x → WorkerSits seen v w → WorkerFits seen x.start x.journal w
  found_fits v x w b f sits =
      let e : sits.start ≡ x.start = same_Some sits.start x.start (sym sits.root ∙ f.root_is) in
      let here : WorkerFits seen x.start v.seen w = subst (λ (s : Start). WorkerFits seen s v.seen w) e sits.fits in
      let legal : IsLegal x.start (v.seen ++ f.later.0) = subst (λ (h : List Signed). IsLegal x.start h) f.later.1 b.legal in
      let none : signed_by w.by f.later.0 ≡ [] = subst (λ (n : ℕ). signed_by n f.later.0 ≡ []) sits.number f.later.2 in
      let keep : (h : List Signed) (y : Signed) → IsLegal x.start h → lawful (last_state x.start h) y.by y.entry ≡ true → (y.by == w.by) ≡ false → WorkerFits seen x.start h w → WorkerFits seen x.start (h ++ y ∷ []) w =
      λ h y l m other fits. other_fits seen x.start h w y fits m other in
      let done = still x.start w.by (λ (h : List Signed). WorkerFits seen x.start h w) keep v.seen f.later.0 legal none here in
      subst (λ (h : List Signed). WorkerFits seen x.start h w) (sym f.later.1) done

  -- it sits at its pass again, once that has given the board back
  pub sits_again : (v : View Start) (x y : BoardView I) (w u : Worker I) (tries : ℕ) (l : Bool) (did : Did) → Finds (λ (z : BoardView I). z.start) (λ (z : BoardView I). z.journal) v x → WorkerSits seen v w → TakesTurn x y l (turn_of x.state w) did
      → u.by ≡ w.by → WorkerFits seen y.start y.journal u → WorkerSits seen (given_view (with_tries (taken_view v x.journal) tries) y.journal) u
  sits_again v x y w u tries l did f sits t by fits = record {
    start = x.start;
    root = f.root_is;
    number = sits.number ∙ sym by;
    free = refl;
    fits = subst (λ (s : Start). WorkerFits seen s y.journal u) (turn_start x y l (turn_of x.state w) did t) fits;
  }
