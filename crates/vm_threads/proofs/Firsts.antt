-- Pass 0 and the actors at the start of a run.
use Rattle.std.proofs.Common.{◌≡◌, ℕ, zero, suc, ◌+◌, ◌<◌, true, false, List, [], ◌∷◌, length, map, get_or, Option, Some, None, refl, sym, ap, subst, ◌∙◌, arith}
use Rattle.std.proofs.Math.ListN.{get_or-map}
use Rattle.std.proofs.lemmas.List.{length-map}
use Rattle.std.proofs.lemmas.Option.{same_Some}
use Rattle.vm_law.specs.declared.journal.Signed.{Signed}
use Rattle.vm_host.specs.Views.{ImageView}
use Rattle.vm_turn.specs.Known.{TableId}
use Rattle.vm_turn.specs.View.{new_view, opening_view, split_view}
use Rattle.vm_turn.specs.declared.view.View.{View}
use Rattle.vm_state.specs.declared.drive.Drive.{Drive}
use Rattle.vm_state.specs.declared.image.Holder.{Holder}
use Rattle.vm_state.specs.declared.start.Start.{Start}
use Rattle.vm_state.specs.Machine.{MachineState, cpu_count, drive_at, drive_count, no_drive}
use Rattle.vm_state.specs.Requests.{first_worker, is_worker}
use Rattle.vm_state.specs.Sound.{IsMachine}
use Rattle.vm_state.specs.Start.{IsSound, boot, boot_image, first_state}
use Rattle.vm_state.specs.State.{image_at, no_image}
use Rattle.vm_state.proofs.Sound.{boot_is_sound}
use Rattle.vm_table.specs.History.{last_state}
use Rattle.vm_table.specs.Rounds.{is_its}
use Rattle.vm_vcpu.specs.Fits.{RunnerFits}
use Rattle.vm_vcpu.specs.Going.{RunnerSits}
use Rattle.vm_vcpu.specs.New.{NewRunnersFit, new_runner}
use Rattle.vm_blkwork.specs.Fits.{WorkerFits}
use Rattle.vm_blkwork.specs.Going.{WorkerSits}
use Rattle.vm_control.specs.View.{new_control}
use Rattle.vm_solo.proofs.ByPasses.{first_next, first_small}
use Rattle.vm_solo.proofs.Holders.{worker_with}
use Rattle.vm_threads.specs.Chair.{IsChair, ends_outside}
use Rattle.vm_threads.specs.New.{HasCode, HasWorkers, IsFirst, OfBoot}

-- the pass of a new turnstile
pub opening_first : (start : Start) → IsSound start → IsFirst (opening_view start) 0
opening_first start h = record { start = start; root = refl; sound = h; number = refl; free = refl; seen = refl; own = refl; splits_is = refl; ended = refl }

pub of_boot : (v : View Start) (start : Start) (P : MachineState → Type 0) → v.root ≡ Some start → P (boot start).machine → OfBoot v P
of_boot v start P root h = λ s r. subst (λ (x : Start). P (boot x).machine) (same_Some start s (sym root ∙ r)) h

-- new control sits at the first pass
pub first_chair : (id : TableId) (v : View Start) (n : ℕ) → IsFirst v n → IsChair (record { control = new_control; pass = record { turnstile = id; view = v }; fault = None })
first_chair id v n f = record {
  start = f.start;
  root = f.root;
  number = f.number;
  free = f.free;
  fits = record { rest = (last_state f.start v.seen).console; console = refl };
  fault = refl;
  no_end = λ _. ap (λ (l : List Signed). ends_outside l) f.own;
}

pub split_first : (v : View Start) (n : ℕ) → IsFirst v n → IsFirst (split_view v) (n + 1)
split_first v n f = record { start = f.start; root = f.root; sound = f.sound; number = f.number; free = f.free; seen = f.seen; own = f.own; splits_is = ap (λ k. k + 1) f.splits_is; ended = f.ended }

-- a new runner sits at the pass that was split off for it
pub runner_sits : (v : View Start) (cpu cpus : ℕ) (code : List ℕ) → NewRunnersFit → IsFirst v cpu → OfBoot v (HasCode cpus code) → cpu < cpus → RunnerSits (new_view v) (new_runner cpu (v.splits + 1) code)
runner_sits v cpu cpus code fit f h l =
    let has = h f.start f.root in
    let splits = f.splits_is in
    let by : 1 + cpu ≡ v.splits + 1 = omega (arith, splits) in
    let there : cpu < cpu_count (boot f.start).machine = subst (λ n. cpu < n) (sym has.cpus_is) l in
    let new : RunnerFits (boot f.start) (new_runner cpu (v.splits + 1) code) = subst (λ n. RunnerFits (boot f.start) (new_runner cpu n code)) by (subst (λ c. RunnerFits (boot f.start) (new_runner cpu (1 + cpu) c)) has.code_is (fit f.start cpu f.sound there)) in
    record {
      start = f.start;
      root = f.root;
      number = refl;
      free = refl;
      fits = subst (λ h. RunnerFits (last_state f.start h) (new_runner cpu (v.splits + 1) code)) (sym f.seen) new;
    }

-- and a new worker
module _ {I : Type 0} (seen : I → ImageView) where
  pub worker_sits : (v : View Start) (disk n : ℕ) → IsFirst v n → ((start : Start) → v.root ≡ Some start → (is_worker (boot start).machine (v.splits + 1) disk ≡ true) × (is_its (v.splits + 1) (image_at (boot start) disk).holder ≡ false))
      → WorkerSits seen (new_view v) (record { disk = disk; by = v.splits + 1; out = None })
  worker_sits v disk n f h =
      let t = h f.start f.root in
      let new : WorkerFits seen f.start [] (record { disk = disk; by = v.splits + 1; out = None }) = record { sound = f.sound; legal = refl; number = t.0; has = t.1 } in
      record {
        start = f.start;
        root = f.root;
        number = refl;
        free = refl;
        fits = subst (λ h. WorkerFits seen f.start h (record { disk = disk; by = v.splits + 1; out = None })) (sym f.seen) new;
      }

-- ---- where the workers of a drive begin

boot_machine_sound : (start : Start) → IsSound start → IsMachine (boot start).machine
boot_machine_sound start h = (boot_is_sound start h).machine

holder_at : (disks : List (List ℕ)) (d : ℕ) → (get_or (map boot_image disks) d no_image).holder ≡ None
unfolding no_image
holder_at [] d = refl
holder_at (x ∷ xs) zero = refl
holder_at (x ∷ xs) (suc d) = holder_at xs d

boot_holder : (start : Start) (d : ℕ) → (image_at (boot start) d).holder ≡ None
unfolding first_state
boot_holder start d = holder_at start.disks d

-- the pass that is split off next is that of this worker of the drive
pub next_worker : (v : View Start) (disk count k : ℕ) → IsFirst v v.splits → (start : Start) → v.root ≡ Some start → disk < drive_count (boot start).machine → (drive_at (boot start).machine disk).workers ≡ count → k < count
    → v.splits + 1 ≡ first_worker (boot start).machine disk + k → (is_worker (boot start).machine (v.splits + 1) disk ≡ true) × (is_its (v.splits + 1) (image_at (boot start) disk).holder ≡ false)
next_worker v disk count k f start root there workers less number =
    (worker_with (boot start).machine (v.splits + 1) disk there (omega (arith, number)) (omega (arith, number, less, workers)), ap (λ (h : Option Holder). is_its (v.splits + 1) h) (boot_holder start disk))

-- the first drive's begin behind the runners'
pub first_zero : (m : MachineState) → first_worker m 0 ≡ 1 + cpu_count m
unfolding first_worker
first_zero m = omega arith

-- where the next drive's begin
pub next_drive : (start : Start) (disk splits count : ℕ) → disk < drive_count (boot start).machine → (drive_at (boot start).machine disk).workers ≡ count → splits + 1 ≡ first_worker (boot start).machine disk
    → (splits + count) + 1 ≡ first_worker (boot start).machine (disk + 1)
next_drive start disk splits count there workers number = let next = first_next (boot start).machine disk there in omega (arith, next, workers, number)

pub few_splits : (start : Start) (disk splits count : ℕ) → IsSound start → disk < drive_count (boot start).machine → (drive_at (boot start).machine disk).workers ≡ count → splits + 1 ≡ first_worker (boot start).machine disk → splits + count < 65535
few_splits start disk splits count h there workers number =
    let m = (boot start).machine in
    let small = first_small m (disk + 1) (boot_machine_sound start h) in
    let next = next_drive start disk splits count there workers number in
    omega (arith, small, next)

-- the number of workers of a drive stands in the list
pub count_of : (m : MachineState) (counts : List ℕ) (disk : ℕ) → HasWorkers counts m → (drive_at m disk).workers ≡ get_or counts disk 0
unfolding no_drive
count_of m counts disk h = sym (get_or-map (λ (x : Drive). x.workers) m.drives disk no_drive) ∙ ap (λ (l : List ℕ). get_or l disk 0) h

pub count_there : (m : MachineState) (counts : List ℕ) → HasWorkers counts m → length counts ≡ drive_count m
count_there m counts h = sym (ap (λ (l : List ℕ). length l) h) ∙ length-map m.drives (λ (x : Drive). x.workers)
