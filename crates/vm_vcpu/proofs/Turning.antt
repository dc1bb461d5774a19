-- What a turn adds, put together.
use Rattle.std.proofs.Common.{◌≡◌, ◌<◌, Bool, List, [], ◌∷◌, ◌++◌, append_assoc, sym, ap, subst, ◌∙◌}
use Rattle.std.specs.Prelude.{◌||◌}
use Rattle.vm_law.specs.declared.journal.Signed.{Signed}
use Rattle.vm_host.specs.Views.{ImageView}
use Rattle.vm_state.specs.Machine.{cpu_count}
use Rattle.vm_state.specs.Sound.{IsSoundState}
use Rattle.vm_state.specs.State.{State}
use Rattle.vm_table.specs.History.{after_all}
use Rattle.vm_table.specs.Rounds.{chosen, lease_back}
use Rattle.vm_laws.proofs.Histories.{after_split}
use Rattle.vm_board.specs.Board.{IsBoard}
use Rattle.vm_board.specs.View.{BoardView}
use Rattle.vm_vcpu.specs.Copies.{AreCopies}
use Rattle.vm_vcpu.specs.Fits.{RunnerFits}
use Rattle.vm_board.specs.Turn.{some_entry}
use Rattle.vm_vcpu.specs.Turn.{Grows, turn_adds}
use Rattle.vm_vcpu.specs.View.{RunnerView, lease_now}
use Rattle.vm_vcpu.proofs.Staying.{added_lawful, copies_all, cpus_all}

pub some_of_both : (xs ys : List Signed) (a b : Bool) → a ≡ some_entry xs → b ≡ some_entry ys → (a || b) ≡ some_entry (xs ++ ys)
some_of_both [] ys a b p q = ap (λ c. c || b) p ∙ q
some_of_both (x ∷ xs) ys a b p q = ap (λ c. c || b) p

module _ {I : Type 0} (seen : I → ImageView) where
  grows_then : (a b c : BoardView I) (xs ys : List Signed) → Grows a b xs → Grows b c ys → Grows a c (xs ++ ys)
  grows_then a b c xs ys g h = record {
    goes = record {
      start = h.goes.start ∙ g.goes.start;
      state = h.goes.state ∙ ap (λ (s : State). after_all s ys) g.goes.state ∙ sym (after_split a.state xs ys);
      journal = h.goes.journal ∙ ap (λ (j : List Signed). j ++ ys) g.goes.journal ∙ append_assoc a.journal xs ys;
      starved = h.goes.starved ∙ g.goes.starved;
    };
    images = h.images ∙ g.images;
  }

  pub record IsDone (old new : BoardView I) (r : RunnerView) : Type 0 where
    pub grows : Grows old new (turn_adds old.state r)
    pub copies : AreCopies new.state r.copies
    pub there : r.cpu < cpu_count new.state.machine

  pub turn_done : (old mid new : BoardView I) (r : RunnerView) → IsSoundState old.state → IsBoard seen old → IsBoard seen new → RunnerFits old.state r → Grows old mid (lease_back old.state r.cpu (lease_now r))
      → Grows mid new (chosen mid.state r.by) → IsDone old new r
  turn_done old mid new r s a b f g h =
      let back = lease_back old.state r.cpu (lease_now r) in
      let second : Grows mid new (chosen (after_all old.state back) r.by) = subst (λ (t : State). Grows mid new (chosen t r.by)) g.goes.state h in
      let whole = grows_then old mid new back (chosen (after_all old.state back) r.by) g second in
      let law = added_lawful seen old new (turn_adds old.state r) a b whole in
      record {
        grows = whole;
        copies = subst (λ (t : State). AreCopies t r.copies) (sym whole.goes.state) (copies_all old.state (turn_adds old.state r) r.copies s law f.copies);
        there = subst (λ (t : State). r.cpu < cpu_count t.machine) (sym whole.goes.state) (subst (λ n. r.cpu < n) (sym (cpus_all old.state (turn_adds old.state r))) f.cpu);
      }
