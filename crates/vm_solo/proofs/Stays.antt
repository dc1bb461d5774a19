-- Actors that fit still fit after entries of another pass.
use Rattle.std.specs.Prelude.{◌==◌}
use Rattle.std.proofs.Common.{◌≡◌, ℕ, true, false, List, [], ◌∷◌, ◌++◌, sym, ap, subst, ◌∙◌, append_assoc}
use Rattle.std.proofs.lemmas.Bool.{and_parts}
use Rattle.std.proofs.lemmas.List.{append-nil}
use Rattle.vm_law.specs.declared.journal.Signed.{Signed}
use Rattle.vm_host.specs.Views.{ImageView}
use Rattle.vm_state.specs.declared.start.Start.{Start}
use Rattle.vm_state.specs.Sound.{IsSoundState}
use Rattle.vm_state.specs.State.{State}
use Rattle.vm_table.specs.History.{after_all, is_lawful_all, last_state}
use Rattle.vm_table.specs.Table.{after, lawful}
use Rattle.vm_board.proofs.Histories.{after_more}
use Rattle.vm_state.specs.Start.{boot}
use Rattle.vm_rounds.proofs.Walking.{AreOf}
use Rattle.vm_vcpu.specs.Fits.{RunnerFits}
use Rattle.vm_vcpu.specs.View.{RunnerView}
use Rattle.vm_vcpu.proofs.Standing.{others_keep}
use Rattle.vm_table.proofs.Keeps.{after_keeps}
use Rattle.vm_blkwork.specs.Fits.{WorkerFits}
use Rattle.vm_blkwork.specs.declared.worker.Worker.{Worker}
use Rattle.vm_blkwork.proofs.Fitting.{other_fits}

same_by : (p q : ℕ) (x : Signed) → x.by ≡ p → (p == q) ≡ false → (x.by == q) ≡ false
same_by p q x e n = ap (λ (k : ℕ). k == q) e ∙ n

pub runner_stays : (s : State) (p : ℕ) (xs : List Signed) (r : RunnerView) → IsSoundState s → is_lawful_all s xs ≡ true → AreOf p xs → (p == r.by) ≡ false → RunnerFits s r → RunnerFits (after_all s xs) r
runner_stays s p [] r h l o n f = f
runner_stays s p (x ∷ xs) r h l o n f =
    let a = and_parts (lawful s x.by x.entry) (is_lawful_all (after s x) xs) l in
    runner_stays (after s x) p xs r (after_keeps s x h a.0) a.1 o.1 n (others_keep s x r h a.0 (same_by p r.by x o.0 n) f)

module _ {I : Type 0} (seen : I → ImageView) where
  pub worker_stays : (start : Start) (journal : List Signed) (p : ℕ) (xs : List Signed) (w : Worker I) → is_lawful_all (last_state start journal) xs ≡ true → AreOf p xs → (p == w.by) ≡ false
      → WorkerFits seen start journal w → WorkerFits seen start (journal ++ xs) w
  worker_stays start journal p [] w l o n f = subst (λ (ys : List Signed). WorkerFits seen start ys w) (sym (append-nil journal)) f
  worker_stays start journal p (x ∷ xs) w l o n f =
      let a = and_parts (lawful (last_state start journal) x.by x.entry) (is_lawful_all (after (last_state start journal) x) xs) l in
      let more = after_more (boot start) journal x in
      subst (λ (ys : List Signed). WorkerFits seen start ys w) (append_assoc journal (x ∷ []) xs)
      (worker_stays start (journal ++ x ∷ []) p xs w (ap (λ (t : State). is_lawful_all t xs) more ∙ a.1) o.1 n
      (other_fits seen start journal w x f a.0 (same_by p w.by x o.0 n)))
