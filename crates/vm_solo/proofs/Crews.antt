-- A crew whose board goes on by entries of one pass: the actors of the other passes still fit.
use Rattle.std.specs.Prelude.{◌==◌, slice_set, None}
use Rattle.std.proofs.Common.{◌≡◌, ◌≢◌, ◌⊎◌, ℕ, ◌+◌, ◌<◌, ◌≤◌, true, false, List, [], ◌++◌, length, sym, ap, subst, ◌∙◌, inl, inr, arith}
use Rattle.std.proofs.Math.ListN.{length-set}
use Rattle.std.proofs.lemmas.Bool.{cases_eq}
use Rattle.std.proofs.lemmas.Bool.Decides.{nat_tests}
use Rattle.std.proofs.lemmas.List.{get_or-set_same, get_or-set_other}
use Rattle.vm_law.specs.declared.journal.Signed.{Signed}
use Rattle.vm_host.specs.Views.{ImageView}
use Rattle.vm_state.specs.declared.start.Start.{Start}
use Rattle.vm_state.specs.Machine.{cpu_count}
use Rattle.vm_state.specs.Requests.{pass_count}
use Rattle.vm_state.specs.Sound.{IsSoundState}
use Rattle.vm_state.specs.State.{State}
use Rattle.vm_table.specs.History.{after_all, is_lawful_all}
use Rattle.vm_laws.proofs.Sounding.{sound_after}
use Rattle.vm_rounds.proofs.Passing.{cpus_all, passes_all}
use Rattle.vm_rounds.proofs.Walking.{AreOf}
use Rattle.vm_board.specs.Board.{IsBoard}
use Rattle.vm_board.specs.View.{BoardView}
use Rattle.vm_blkwork.specs.Fits.{WorkerFits}
use Rattle.vm_blkwork.specs.declared.worker.Worker.{Worker}
use Rattle.vm_vcpu.specs.Fits.{RunnerFits}
use Rattle.vm_vcpu.specs.New.{new_runner}
use Rattle.vm_vcpu.specs.View.{RunnerView}
use Rattle.vm_solo.specs.Fits.{RunnersFit, WorkersFit, runner_at, worker_at}
use Rattle.vm_solo.proofs.Stays.{runner_stays, worker_stays}

-- the board went on by entries of pass p
pub record Moves {I : Type 0} (seen : I → ImageView) (old new : BoardView I) (p : ℕ) (xs : List Signed) : Type 0 where
  pub before : IsBoard seen old
  pub now : IsBoard seen new
  pub start : new.start ≡ old.start
  pub state : new.state ≡ after_all old.state xs
  pub journal : new.journal ≡ old.journal ++ xs
  pub lawful : is_lawful_all old.state xs ≡ true
  pub of : AreOf p xs

other_pass : (p q : ℕ) → p ≢ q → (p == q) ≡ false
other_pass p q n = grind (arith, nat_tests, n)

module _ {I : Type 0} (seen : I → ImageView) where
  pub board_sound : (b : BoardView I) → IsBoard seen b → IsSoundState b.state
  board_sound b h = subst (λ (s : State). IsSoundState s) (sym h.last) (sound_after b.start b.journal h.sound h.legal)

  -- a runner of another pass
  pub other_runner : (old new : BoardView I) (p : ℕ) (xs : List Signed) (r : RunnerView) → Moves seen old new p xs → p ≢ r.by → RunnerFits old.state r → RunnerFits new.state r
  other_runner old new p xs r m n f =
      subst (λ (s : State). RunnerFits s r) (sym m.state) (runner_stays old.state p xs r (board_sound old m.before) m.lawful m.of (other_pass p r.by n) f)

  -- a worker of another pass
  pub other_worker : (old new : BoardView I) (p : ℕ) (xs : List Signed) (w : Worker I) → Moves seen old new p xs → p ≢ w.by → WorkerFits seen old.start old.journal w → WorkerFits seen new.start new.journal w
  other_worker old new p xs w m n f =
      subst (λ (s : Start). WorkerFits seen s new.journal w) (sym m.start)
      (subst (λ (j : List Signed). WorkerFits seen old.start j w) (sym m.journal)
      (worker_stays seen old.start old.journal p xs w (subst (λ (s : State). is_lawful_all s xs ≡ true) m.before.last m.lawful) m.of (other_pass p w.by n) f))

  cpus_same : (old new : BoardView I) (p : ℕ) (xs : List Signed) → Moves seen old new p xs → cpu_count new.state.machine ≡ cpu_count old.state.machine
  cpus_same old new p xs m = ap (λ (s : State). cpu_count s.machine) m.state ∙ cpus_all old.state xs

  passes_same : (old new : BoardView I) (p : ℕ) (xs : List Signed) → Moves seen old new p xs → pass_count new.state.machine ≡ pass_count old.state.machine
  passes_same old new p xs m = ap (λ (s : State). pass_count s.machine) m.state ∙ passes_all old.state xs

  runner_pass_of : (s : State) (rs : List RunnerView) (i : ℕ) → RunnersFit s rs → i < length rs → (runner_at rs i).by ≡ 1 + i
  runner_pass_of s rs i f l = (f.fits i l).pass ∙ ap (λ (k : ℕ). 1 + k) (f.cpu i l)

  -- the runners, where the pass is none of theirs
  pub all_runners : (old new : BoardView I) (p : ℕ) (xs : List Signed) (rs : List RunnerView) → Moves seen old new p xs → (p ≡ 0) ⊎ (cpu_count old.state.machine < p) → RunnersFit old.state rs → RunnersFit new.state rs
  all_runners old new p xs rs m o f = record {
    count = f.count ∙ sym (cpus_same old new p xs m);
    cpu = f.cpu;
    fits = λ i l. other_runner old new p xs (runner_at rs i) m (apart i l o) (f.fits i l);
  } where
    apart : (i : ℕ) → i < length rs → (p ≡ 0) ⊎ (cpu_count old.state.machine < p) → p ≢ (runner_at rs i).by
    apart i l (inl z) e = (let by = runner_pass_of old.state rs i f l in omega (arith, z, e, by))
    apart i l (inr k) e = (let by = runner_pass_of old.state rs i f l in let c = f.count in omega (arith, k, e, by, l, c))

  -- the runners, of which one took its turn
  pub one_runner : (old new : BoardView I) (xs : List Signed) (rs : List RunnerView) (i : ℕ) (r : RunnerView) → Moves seen old new (1 + i) xs → i < length rs → r.cpu ≡ i → RunnerFits new.state r → RunnersFit old.state rs → RunnersFit new.state (slice_set rs i r)
  one_runner old new xs rs i r m l c h f = record {
    count = length-set rs i r ∙ f.count ∙ sym (cpus_same old new (1 + i) xs m);
    cpu = λ k lt. (let within : k < length rs = subst (λ n. k < n) (length-set rs i r) lt in elim (cases_eq k i) [
      | inl e ↦ subst (λ (j : ℕ). (runner_at (slice_set rs i r) j).cpu ≡ j) (sym e) (ap (λ (x : RunnerView). x.cpu) (get_or-set_same rs i r (new_runner 0 0 []) l) ∙ c)
      | inr ne ↦ ap (λ (x : RunnerView). x.cpu) (get_or-set_other rs i k r (new_runner 0 0 []) ne) ∙ f.cpu k within
    ]);
    fits = λ k lt. (let within : k < length rs = subst (λ n. k < n) (length-set rs i r) lt in elim (cases_eq k i) [
      | inl e ↦ subst (λ (j : ℕ). RunnerFits new.state (runner_at (slice_set rs i r) j)) (sym e) (subst (λ (x : RunnerView). RunnerFits new.state x) (sym (get_or-set_same rs i r (new_runner 0 0 []) l)) h)
      | inr ne ↦ subst (λ (x : RunnerView). RunnerFits new.state x) (sym (get_or-set_other rs i k r (new_runner 0 0 []) ne))
          (other_runner old new (1 + i) xs (runner_at rs k) m (λ e. ne (let by = runner_pass_of old.state rs k f within in omega (arith, e, by))) (f.fits k within))
    ]);
  }

  -- the workers, where the pass is none of theirs
  pub all_workers : (old new : BoardView I) (p : ℕ) (xs : List Signed) (ws : List (Worker I)) → Moves seen old new p xs → p ≤ cpu_count old.state.machine
      → WorkersFit seen old.start old.journal old.state ws → WorkersFit seen new.start new.journal new.state ws
  all_workers old new p xs ws m o f = let c = cpus_same old new p xs m in record {
    count = ap (λ (n : ℕ). 1 + n + length ws) c ∙ f.count ∙ sym (passes_same old new p xs m);
    pass = λ k l. f.pass k l ∙ ap (λ (n : ℕ). 1 + n + k) (sym c);
    fits = λ k l. other_worker old new p xs (worker_at ws k) m (λ e. (let by = f.pass k l in omega (arith, e, by, o))) (f.fits k l);
  }

  -- the workers, of which one took its turn
  pub one_worker : (old new : BoardView I) (xs : List Signed) (ws : List (Worker I)) (k : ℕ) (w : Worker I) → Moves seen old new (1 + cpu_count old.state.machine + k) xs → k < length ws → w.by ≡ (worker_at ws k).by
      → WorkerFits seen new.start new.journal w → WorkersFit seen old.start old.journal old.state ws → WorkersFit seen new.start new.journal new.state (slice_set ws k w)
  one_worker old new xs ws k w m l b h f =
      let p = 1 + cpu_count old.state.machine + k in
      let c = cpus_same old new p xs m in
      let none : Worker I = record { disk = 0; by = 0; out = None } in
      record {
        count = ap (λ (n : ℕ). 1 + cpu_count new.state.machine + n) (length-set ws k w) ∙ ap (λ (n : ℕ). 1 + n + length ws) c ∙ f.count ∙ sym (passes_same old new p xs m);
        pass = λ j lt. (let within : j < length ws = subst (λ n. j < n) (length-set ws k w) lt in elim (cases_eq j k) [
          | inl e ↦ subst (λ (i : ℕ). (worker_at (slice_set ws k w) i).by ≡ 1 + cpu_count new.state.machine + i) (sym e) (ap (λ (x : Worker I). x.by) (get_or-set_same ws k w none l) ∙ b ∙ f.pass k l ∙ ap (λ (n : ℕ). 1 + n + k) (sym c))
          | inr ne ↦ ap (λ (x : Worker I). x.by) (get_or-set_other ws k j w none ne) ∙ f.pass j within ∙ ap (λ (n : ℕ). 1 + n + j) (sym c)
        ]);
        fits = λ j lt. (let within : j < length ws = subst (λ n. j < n) (length-set ws k w) lt in elim (cases_eq j k) [
          | inl e ↦ subst (λ (i : ℕ). WorkerFits seen new.start new.journal (worker_at (slice_set ws k w) i)) (sym e) (subst (λ (x : Worker I). WorkerFits seen new.start new.journal x) (sym (get_or-set_same ws k w none l)) h)
          | inr ne ↦ subst (λ (x : Worker I). WorkerFits seen new.start new.journal x) (sym (get_or-set_other ws k j w none ne))
              (other_worker old new p xs (worker_at ws j) m (λ e. ne (let by = f.pass j within in omega (arith, e, by))) (f.fits j within))
        ]);
      }
