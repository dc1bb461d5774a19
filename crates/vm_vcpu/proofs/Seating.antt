-- A runner at the turnstile.
use Rattle.std.proofs.Common.{◌≡◌, ℕ, ◌+◌, zero, suc, Bool, true, false, ◌==◌, List, [], ◌∷◌, ◌++◌, refl, sym, ap, subst, ◌∙◌}
use Rattle.std.specs.Prelude.{if◌then◌else◌}
use Rattle.std.proofs.lemmas.Option.{same_Some}
use Rattle.vm_law.specs.declared.journal.Entry.TheVariants.{Slice}
use Rattle.vm_law.specs.declared.journal.Signed.{Signed}
use Rattle.vm_host.specs.Views.{ImageView}
use Rattle.vm_turn.specs.History.{AllBy, signed_by}
use Rattle.vm_turn.specs.View.{Finds, given_view, taken_view, with_tries}
use Rattle.vm_turn.specs.declared.view.View.{View}
use Rattle.vm_state.specs.declared.start.Start.{Start}
use Rattle.vm_state.specs.Start.{boot}
use Rattle.vm_state.specs.State.{State}
use Rattle.vm_table.specs.History.{IsLegal, last_state}
use Rattle.vm_table.specs.Rounds.{Lease, is_kept, lease_back, slice_back}
use Rattle.vm_table.specs.Table.{lawful}
use Rattle.vm_laws.proofs.Sounding.{sound_after}
use Rattle.vm_board.specs.declared.actor.Did.{Did}
use Rattle.vm_board.specs.Board.{IsBoard}
use Rattle.vm_board.specs.Turn.{TakesTurn}
use Rattle.vm_board.specs.View.{BoardView}
use Rattle.vm_board.proofs.Going.{all_none, all_one, still, turn_state}
use Rattle.vm_board.proofs.Histories.{after_more}
use Rattle.vm_vcpu.specs.declared.out.Out.{Out}
use Rattle.vm_vcpu.specs.declared.out.Out.TheVariants as out
use Rattle.vm_vcpu.specs.Copies.{CopiesView}
use Rattle.vm_vcpu.specs.Fits.{OutFits, RunnerFits}
use Rattle.vm_vcpu.specs.Going.{RunnerSits, back_of}
use Rattle.vm_vcpu.specs.Turn.{turn_adds}
use Rattle.vm_vcpu.specs.View.{RunnerView, lease_now, ran_ahead}
use Rattle.vm_vcpu.proofs.Standing.{others_keep}

-- ---- what it brings back is of its pass

slice_all : (i n : ℕ) → AllBy (1 + i) (slice_back i n)
slice_all i zero = all_none (1 + i)
slice_all i (suc n) = all_one (1 + i) (Slice i (suc n))

lease_all : (s : State) (i : ℕ) (x : Lease) → AllBy (1 + i) (lease_back s i x)
lease_all s i x = at (is_kept s x)
  where
    at : (b : Bool) → AllBy (1 + i) (if b then slice_back i x.ran else [])
    at true = slice_all i x.ran
    at false = all_none (1 + i)

pub back_all : (s : State) (r : RunnerView) → r.by ≡ 1 + r.cpu → AllBy r.by (back_of s r)
back_all s r e = subst (λ (n : ℕ). AllBy n (back_of s r)) (sym e) (lease_all s r.cpu (lease_now r))

-- ---- after its work outside it fits

ran_fits : (s : State) (i p : ℕ) (c : CopiesView) (o : Out) → OutFits s i p c o → OutFits s i p c (ran_ahead c o)
ran_fits s i p c out.Nothing h = h
ran_fits s i p c (out.Leased ctx left) h = (h, refl, refl)
ran_fits s i p c (out.Ran start left count ctx) h = h

abbrev pub runs : RunnerView → RunnerView
runs r = record r { out = ran_ahead r.copies r.out }

pub runs_fit : (s : State) (r : RunnerView) → RunnerFits s r → RunnerFits s (runs r)
runs_fit s r f = record { cpu = f.cpu; pass = f.pass; copies = f.copies; out = ran_fits s r.cpu r.by r.copies r.out f.out }

module _ {I : Type 0} (seen : I → ImageView) where
  -- it fits the board that its pass finds
  pub found_fits : (v : View Start) (x : BoardView I) (r : RunnerView) → IsBoard seen x → Finds (λ (z : BoardView I). z.start) (λ (z : BoardView I). z.journal) v x → RunnerSits v r → RunnerFits x.state r
  found_fits v x r b f sits =
      let e : sits.start ≡ x.start = same_Some sits.start x.start (sym sits.root ∙ f.root_is) in
      let here : RunnerFits (last_state x.start v.seen) r = subst (λ (s : Start). RunnerFits (last_state s v.seen) r) e sits.fits in
      let legal : IsLegal x.start (v.seen ++ f.later.0) = subst (λ (h : List Signed). IsLegal x.start h) f.later.1 b.legal in
      let none : signed_by r.by f.later.0 ≡ [] = subst (λ (n : ℕ). signed_by n f.later.0 ≡ []) sits.number f.later.2 in
      let keep : (h : List Signed) (y : Signed) → IsLegal x.start h → lawful (last_state x.start h) y.by y.entry ≡ true → (y.by == r.by) ≡ false → RunnerFits (last_state x.start h) r → RunnerFits (last_state x.start (h ++ y ∷ [])) r =
      λ h y l m other fits. subst (λ (s : State). RunnerFits s r) (sym (after_more (boot x.start) h y)) (others_keep (last_state x.start h) y r (sound_after x.start h b.sound l) m other fits) in
      let done = still x.start r.by (λ (h : List Signed). RunnerFits (last_state x.start h) r) keep v.seen f.later.0 legal none here in
      subst (λ (s : State). RunnerFits s r) (sym (b.last ∙ ap (λ (h : List Signed). last_state x.start h) f.later.1)) done

  -- it sits at its pass again, once that has given the board back
  pub sits_again : (v : View Start) (x y : BoardView I) (r q : RunnerView) (tries : ℕ) (l : Bool) (did : Did) → IsBoard seen y → Finds (λ (z : BoardView I). z.start) (λ (z : BoardView I). z.journal) v x → RunnerSits v r
      → TakesTurn x y l (turn_adds x.state r) did → q.by ≡ r.by → RunnerFits y.state q → RunnerSits (given_view (with_tries (taken_view v x.journal) tries) y.journal) (runs q)
  sits_again v x y r q tries l did b f sits t by fits = record {
    start = x.start;
    root = f.root_is;
    number = sits.number ∙ sym by;
    free = refl;
    fits = subst (λ (s : State). RunnerFits s (runs q)) (turn_state seen x y l (turn_adds x.state r) did b t) (runs_fit y.state q fits);
  }
