-- The image that a worker has out is the only one that the run names its pass for.
use Rattle.std.specs.Prelude.{Option, Some, None, ◌||◌, find}
use Rattle.std.specs.List.{All, list_any, range_with_len}
use Rattle.std.proofs.Common.{◌≡◌, ℕ, zero, suc, ◌+◌, ◌<◌, ◌≤◌, Bool, true, false, List, [], ◌∷◌, cond, refl, sym, ap, subst, ◌∙◌, inl, inr, arith}
use Rattle.std.proofs.lemmas.Bool.{and_parts, cases_Bool, true≢false}
use Rattle.std.proofs.lemmas.Bool.Decides.{nat_tests}
use Rattle.std.proofs.lemmas.Grind.{common_steps}
use Rattle.vm_host.specs.Views.{ImageView}
use Rattle.vm_law.specs.declared.journal.Signed.{Signed}
use Rattle.blk_queue.specs.declared.progress.Progress.{Progress}
use Rattle.blk_queue.specs.declared.progress.Progress.TheVariants.{Pending, Blocked, Busy}
use Rattle.blk_queue.specs.declared.progress.Unfinished.{Unfinished}
use Rattle.vm_state.specs.declared.image.Holder.{Holder}
use Rattle.vm_state.specs.declared.start.Start.{Start}
use Rattle.vm_state.specs.Machine.{MachineState, drive_at, drive_count}
use Rattle.vm_state.specs.Requests.{first_worker, is_worker}
use Rattle.vm_state.specs.Sound.{IsHeld, IsSoundState, WorkerFits as ByWorker, is_midway, is_out}
use Rattle.vm_state.specs.State.{State, image_at}
use Rattle.vm_table.specs.History.{last_state}
use Rattle.vm_table.specs.Rounds.{held_by, is_its}
use Rattle.vm_blkwork.specs.declared.outside.Out.{Out}
use Rattle.vm_blkwork.specs.declared.worker.Worker.{Worker}
use Rattle.vm_blkwork.specs.Fits.{HasOut, WorkerFits}
use Rattle.vm_blkwork.proofs.Choosing.{one_disk}
use Rattle.vm_blkwork.proofs.Fitting.{drive_of, sound_of}

-- ---- whoever holds an image is a worker of its disk

holder_between : (from count : ℕ) (h : Holder) (xs : List Unfinished) → All (λ (x : Unfinished). ByWorker from count x.progress) xs → list_any (is_out h) xs ≡ true → (from ≤ h.by) × (h.by < from + count)
holder_between from count h [] a m = absurd (true≢false (sym m))
holder_between from count h (x ∷ xs) a m =
    elim (cases_Bool (is_out h x)) [
      | inl t ↦ at_progress x.progress (a 0 x (omega arith)) (and_parts _ _ t).1
      | inr f ↦ holder_between from count h xs (λ k d l. a (suc k) d (omega (arith, l))) (ap (λ b. b || list_any (is_out h) xs) (sym f) ∙ m)
    ]
  where
    at_progress : (p : Progress) → ByWorker from count p → is_midway h.by x.request.count p ≡ true → (from ≤ h.by) × (h.by < from + count)
    at_progress Pending f t = absurd (true≢false (sym t))
    at_progress Blocked f t = absurd (true≢false (sym t))
    at_progress (Busy w moved failed gone) f t =
        let e : w ≡ h.by = grind (arith, nat_tests, common_steps, and_parts) in
        let a = f.0 in
        let b = f.1 in
        (omega (arith, a, e), omega (arith, b, e))

pub worker_with : (m : MachineState) (p d : ℕ) → d < drive_count m → first_worker m d ≤ p → p < first_worker m d + (drive_at m d).workers → is_worker m p d ≡ true
unfolding is_worker
worker_with m p d l a b = grind (arith, nat_tests, common_steps)

its_at : (s : State) (p d : ℕ) (o : Option Holder) → IsSoundState s → d < drive_count s.machine → (image_at s d).holder ≡ o → is_its p o ≡ true → is_worker s.machine p d ≡ true
its_at s p d None h l e t = absurd (true≢false (sym t))
its_at s p d (Some x) h l e t =
    let image = h.images.each d l in
    let w = holder_between (first_worker s.machine d) (drive_at s.machine d).workers x (drive_at s.machine d).queue.requests image.workers (subst (λ (o : Option Holder). IsHeld (drive_at s.machine d).queue.requests o) e image.held) in
    let by : x.by ≡ p = grind (arith, nat_tests, t) in
    let from = w.0 in
    let to = w.1 in
    worker_with s.machine p d l (omega (arith, from, by)) (omega (arith, to, by))

pub its_worker : (s : State) (p d : ℕ) → IsSoundState s → d < drive_count s.machine → is_its p (image_at s d).holder ≡ true → is_worker s.machine p d ≡ true
its_worker s p d h l t = its_at s p d (image_at s d).holder h l refl t

-- ---- the first number of a row for which a test holds

none_below : (P : ℕ → Bool) (from n : ℕ) → ((k : ℕ) → from ≤ k → k < from + n → P k ≡ false) → find P (range_with_len from n) ≡ None
none_below P from zero h = refl
none_below P from (suc n) h =
    ap (λ b. cond b (Some from) (find P (range_with_len (from + 1) n))) (h from (omega arith) (omega arith)) ∙ none_below P (from + 1) n (λ k l m. h k (omega (arith, l)) (omega (arith, m)))

only_at : (P : ℕ → Bool) (from n d : ℕ) → from ≤ d → d < from + n → P d ≡ true → ((k : ℕ) → from ≤ k → k < from + n → P k ≡ true → k ≡ d) → find P (range_with_len from n) ≡ Some d
only_at P from zero d l m t h = absurd (omega (arith, l, m))
only_at P from (suc n) d l m t h =
    elim (cases_Bool (P from)) [
      | inl here ↦ ap (λ b. cond b (Some from) (find P (range_with_len (from + 1) n))) here ∙ ap (λ (k : ℕ). Some k) (h from (omega arith) (omega arith) here)
      | inr never ↦
          let other : (from ≡ d → ⊥) = λ e. true≢false (sym t ∙ ap P (sym e) ∙ never) in
          ap (λ b. cond b (Some from) (find P (range_with_len (from + 1) n))) never ∙ only_at P (from + 1) n d (omega (arith, l, other)) (omega (arith, m)) t (λ k a b. h k (omega (arith, a)) (omega (arith, b)))
    ]

-- ---- what the run names a worker's pass for

abbrev pub disk_of : {I : Type 0} → ℕ → Option (Out I) → Option ℕ
disk_of d None = None
disk_of d (Some out) = Some d

held_none : (s : State) (p d : ℕ) → IsSoundState s → is_worker s.machine p d ≡ true → is_its p (image_at s d).holder ≡ false → held_by s p ≡ None
held_none s p d h w f =
    none_below (λ k. is_its p (image_at s k).holder) 0 (drive_count s.machine) (λ k l m. elim (cases_Bool (is_its p (image_at s k).holder)) [
      | inr never ↦ never
      | inl t ↦ absurd (let same : k ≡ d = one_disk s.machine p k d (its_worker s p k h (omega (arith, m)) t) w in true≢false (sym (subst (λ (j : ℕ). is_its p (image_at s j).holder ≡ true) same t) ∙ f))
    ])

held_some : (s : State) (p d : ℕ) → IsSoundState s → d < drive_count s.machine → is_worker s.machine p d ≡ true → is_its p (image_at s d).holder ≡ true → held_by s p ≡ Some d
held_some s p d h l w t =
    only_at (λ k. is_its p (image_at s k).holder) 0 (drive_count s.machine) d (omega arith) (omega (arith, l)) t
    (λ k a b e. one_disk s.machine p k d (its_worker s p k h (omega (arith, b)) e) w)

same_its : (p id : ℕ) (o : Option Holder) → o ≡ Some (record { by = p; id = id }) → is_its p o ≡ true
same_its p id o e = ap (λ (k : Option Holder). is_its p k) e ∙ grind (arith, nat_tests)

module _ {I : Type 0} (seen : I → ImageView) where
  held_at : (start : Start) (journal : List Signed) (w : Worker I) (o : Option (Out I)) → WorkerFits seen start journal w → HasOut seen start journal w.by w.disk o → held_by (last_state start journal) w.by ≡ disk_of w.disk o
  held_at start journal w None f h = held_none (last_state start journal) w.by w.disk (sound_of seen start journal w f) f.number h
  held_at start journal w (Some out) f h = held_some (last_state start journal) w.by w.disk (sound_of seen start journal w f) (drive_of seen start journal w f) f.number (same_its w.by out.id _ h.holder)

  pub held_is : (start : Start) (journal : List Signed) (w : Worker I) → WorkerFits seen start journal w → held_by (last_state start journal) w.by ≡ disk_of w.disk w.out
  held_is start journal w f = held_at start journal w w.out f f.has
