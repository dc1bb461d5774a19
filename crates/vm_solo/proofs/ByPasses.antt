-- The workers of block devices, by their passes.
use Rattle.std.specs.Prelude.{None}
use Rattle.std.specs.List.{All}
use Rattle.std.proofs.Common.{◌≡◌, ℕ, ◌+◌, ◌<◌, ◌≤◌, true, List, [], ◌∷◌, ◌++◌, length, refl, sym, ap, subst, ◌∙◌, inl, inr, arith}
use Rattle.std.proofs.lemmas.Bool.{cases_lt}
use Rattle.std.proofs.lemmas.List.{get_or_append_left, get_or_push, length_push, take_all}
use Rattle.std.proofs.lemmas.List.Sums.{sum_by-le, sum_by-take-le, sum_by_more}
use Rattle.vm_state.specs.declared.drive.Drive.{Drive}
use Rattle.vm_state.specs.Machine.{MachineState, cpu_count, drive_at, drive_count, no_drive}
use Rattle.vm_state.specs.Requests.{first_worker, is_worker, pass_count, workers_of}
use Rattle.vm_state.specs.Sound.{IsMachine}
use Rattle.vm_blkwork.specs.declared.worker.Worker.{Worker}
use Rattle.vm_solo.specs.Fits.{worker_at}
use Rattle.vm_solo.specs.New.{AreNewWorkers}
use Rattle.vm_solo.proofs.Holders.{worker_with}
use Rattle.vm_solo.proofs.Runs.{at_any}

-- ---- where the workers of a drive begin

pub first_small : (m : MachineState) (d : ℕ) → IsMachine m → first_worker m d ≤ 81
unfolding first_worker
first_small m d h =
    let few : All (λ (x : Drive). x.workers ≤ 8) m.drives =
    λ k e l. subst (λ (x : Drive). x.workers ≤ 8) (at_any m.drives k no_drive e l) (h.each_drive k l).workers in
    let whole = sum_by-le (λ (x : Drive). x.workers) 8 m.drives few in
    let part = sum_by-take-le (λ (x : Drive). x.workers) m.drives d in
    let cpus = h.cpus in
    let drives = h.drives in
    omega (arith, whole, part, cpus, drives)

pub first_next : (m : MachineState) (d : ℕ) → d < drive_count m → first_worker m d + (drive_at m d).workers ≡ first_worker m (d + 1)
unfolding first_worker
first_next m d l = let more = sum_by_more (λ (x : Drive). x.workers) m.drives d no_drive l in omega (arith, more)

first_none : (m : MachineState) → first_worker m 0 ≡ 1 + cpu_count m
unfolding first_worker
first_none m = omega arith

pub first_last : (m : MachineState) → first_worker m (drive_count m) ≡ pass_count m
unfolding first_worker pass_count
first_last m = ap (λ (xs : List Drive). 1 + cpu_count m + workers_of xs) (take_all (length m.drives) m.drives (omega arith))

-- ---- one worker more

module _ {I : Type 0} where
  each_more : (P : ℕ → Worker I → Type 0) (ws : List (Worker I)) (w : Worker I) → ((k : ℕ) → k < length ws → P k (worker_at ws k)) → P (length ws) w → (k : ℕ) → k < length (ws ++ w ∷ []) → P k (worker_at (ws ++ w ∷ []) k)
  each_more P ws w h x k l =
      let none : Worker I = record { disk = 0; by = 0; out = None } in
      let count = length_push ws w in
      elim (cases_lt k (length ws)) [
        | inl lt ↦ subst (λ (y : Worker I). P k y) (sym (get_or_append_left ws (w ∷ []) none k lt)) (h k lt)
        | inr past ↦
            let e : k ≡ length ws = omega (arith, l, count, past) in
            subst (λ (j : ℕ). P j (worker_at (ws ++ w ∷ []) j)) (sym e) (subst (λ (y : Worker I). P (length ws) y) (sym (get_or_push ws w none (length ws) refl)) x)
      ]

  pub none_made : (m : MachineState) → AreNewWorkers {I = I} m (first_worker m 0) []
  none_made m = record {
    count = omega (arith, first_none m);
    pass = λ k l. absurd (omega (arith, l));
    worker = λ k l. absurd (omega (arith, l));
    out = λ k l. absurd (omega (arith, l));
  }

  pub one_made : (m : MachineState) (d k : ℕ) (ws : List (Worker I)) (w : Worker I) → d < drive_count m → k < (drive_at m d).workers → w ≡ record { disk = d; by = first_worker m d + k; out = None }
      → AreNewWorkers m (first_worker m d + k) ws → AreNewWorkers m (first_worker m d + (k + 1)) (ws ++ w ∷ [])
  one_made m d k ws w l lt is h =
      let c = h.count in
      let more = length_push ws w in
      let by : w.by ≡ first_worker m d + k = ap (λ (x : Worker I). x.by) is in
      let its : is_worker m (first_worker m d + k) d ≡ true = worker_with m (first_worker m d + k) d l (omega arith) (omega (arith, lt)) in
      record {
        count = omega (arith, c, more);
        pass = each_more (λ (j : ℕ) (x : Worker I). x.by ≡ 1 + cpu_count m + j) ws w h.pass (by ∙ sym c);
        worker = each_more (λ (j : ℕ) (x : Worker I). is_worker m x.by x.disk ≡ true) ws w h.worker (subst (λ (x : Worker I). is_worker m x.by x.disk ≡ true) (sym is) its);
        out = each_more (λ (j : ℕ) (x : Worker I). x.out ≡ None) ws w h.out (ap (λ (x : Worker I). x.out) is);
      }
