-- What holds of every run is kept by the writes to the window of a drive.
use Rattle.std.specs.Prelude.{if◌then◌else◌, Option, Some, None}
use Rattle.std.specs.List.{All, filter, list_any}
use Rattle.std.proofs.Common.{◌≡◌, ℕ, zero, suc, ◌+◌, ◌<◌, Bool, true, false, List, [], ◌∷◌, length, get_or, set, map, take, refl, sym, ap, subst, arith, inl, inr, ◌∙◌}
use Rattle.std.proofs.Math.ListN.{length-set}
use Rattle.std.proofs.lemmas.Bool.{cases_eq}
use Rattle.std.proofs.lemmas.List.{get_or-set_other, set-get_or}
use Rattle.std.proofs.lemmas.List.Sums.{sum_by-cons}
use Rattle.std.proofs.lemmas.List.Elements.{All-cons, All-head, All-tail}
use Rattle.std.proofs.lemmas.Grind.{common_steps, get_or-set_at}
use Rattle.std.proofs.lemmas.Bool.Decides.{nat_tests}
use Rattle.vm_law.specs.Memory.{Memory}
use Rattle.vm_law.specs.declared.chips.WindowState.{WindowState}
use Rattle.blk_queue.specs.Queue.{Queue}
use Rattle.vm_vblk.specs.Window as window
use Rattle.vm_vblk.specs.Register.{register_at}
use Rattle.vm_vblk.specs.declared.pulled.WindowEffect.{WindowEffect}
use Rattle.vm_vblk.specs.declared.pulled.WindowEffect.TheVariants as effect
use Rattle.vm_vblk.specs.declared.register.Register.{Register}
use Rattle.vm_vblk.specs.declared.register.Register.TheVariants.{Status}
use Rattle.blk_queue.specs.Progress.{is_busy, works as works_on}
use Rattle.blk_queue.specs.declared.progress.Progress.{Progress}
use Rattle.blk_queue.specs.declared.progress.Progress.TheVariants.{Pending, Blocked, Busy}
use Rattle.blk_queue.specs.declared.progress.Unfinished.{Unfinished}
use Rattle.blk_queue.specs.Steps.{emptied, mark_dropped}
use Rattle.vm_state.specs.declared.drive.Drive.{Drive}
use Rattle.vm_state.specs.declared.image.DiskImage.{DiskImage}
use Rattle.vm_state.specs.declared.image.Holder.{Holder}
use Rattle.vm_state.specs.Machine.{MachineState, cpu_count, drive_at, drive_count, no_drive, is_drive, drive_pin, with_drive}
use Rattle.vm_state.specs.Requests.{first_worker, workers_of}
use Rattle.vm_state.specs.State.{State, image_at, no_image, with_machine, with_image}
use Rattle.vm_state.specs.Sound.{IsMachine, IsSoundState, IsDrive, ImagesFit, ImageFits, WorkerFits, IsHeld, is_out}
use Rattle.vm_devices.specs.Messages.{pin_followed}
use Rattle.vm_devices.specs.Windows.{with_window, queue_emptied, cancels_counted, register_written, register_followed, drive_written}
use Rattle.vm_devices.proofs.KeptRun.{SameRun, keeps_parts, run_same}
use Rattle.vm_devices.proofs.KeptLines.{followed, followed_same, keeps_window}
use Rattle.vm_devices.proofs.KeptDrive.{is_reset, written_next, next_drive, reset_drive}
use Rattle.vm_devices.proofs.Emptying.{emptied_counts}

-- ---- the workers stay

workers_set : (xs : List Drive) (d e : ℕ) (x : Drive) → x.workers ≡ (get_or xs d no_drive).workers → workers_of (take e (set xs d x)) ≡ workers_of (take e xs)
workers_set [] d e x same = refl
workers_set (y ∷ xs) d zero x same = refl
workers_set (y ∷ xs) zero (suc e) x same =
    sum_by-cons (λ (z : Drive). z.workers) x (take e xs) ∙ ap (λ (n : ℕ). n + workers_of (take e xs)) same ∙ sym (sum_by-cons (λ (z : Drive). z.workers) y (take e xs))
workers_set (y ∷ xs) (suc d) (suc e) x same =
    sum_by-cons (λ (z : Drive). z.workers) y (take e (set xs d x))
    ∙ ap (λ (n : ℕ). y.workers + n) (workers_set xs d e x same)
    ∙ sym (sum_by-cons (λ (z : Drive). z.workers) y (take e xs))

first_set : (m t : MachineState) (d e : ℕ) (x : Drive) → cpu_count t ≡ cpu_count m → t.drives ≡ set m.drives d x → x.workers ≡ (drive_at m d).workers → first_worker t e ≡ first_worker m e
unfolding first_worker
first_set m t d e x count drives same =
    ap (λ (n : ℕ). 1 + n + workers_of (take e t.drives)) count
    ∙ ap (λ (xs : List Drive). 1 + cpu_count m + workers_of (take e xs)) drives
    ∙ ap (λ (n : ℕ). 1 + cpu_count m + n) (workers_set m.drives d e x same)

-- another drive d, and another image of its disk
pub images_set : (m t : MachineState) (images : List DiskImage) (d : ℕ) (x : Drive) (image : DiskImage) → cpu_count t ≡ cpu_count m → t.drives ≡ set m.drives d x
    → d < drive_count m → x.workers ≡ (drive_at m d).workers → ImageFits (first_worker m d) x image → ImagesFit m images → ImagesFit t (set images d image)
images_set m t images d x image count drives within workers here h = record {
  count = length-set images d image ∙ h.count ∙ sym (length-set m.drives d x) ∙ ap (λ (xs : List Drive). length xs) (sym drives);
  each = λ e inside.
      let there : e < drive_count m = (let f : length t.drives ≡ length m.drives = ap (λ (xs : List Drive). length xs) drives ∙ length-set m.drives d x in omega arith) in
      let long : d < length images = (let g = h.count in omega arith) in
      subst (λ (from : ℕ). ImageFits from (get_or t.drives e no_drive) (get_or (set images d image) e no_image)) (sym (first_set m t d e x count drives workers))
      (subst (λ (xs : List Drive). ImageFits (first_worker m e) (get_or xs e no_drive) (get_or (set images d image) e no_image)) (sym drives)
      (elim (cases_eq e d) [
        | inl same ↦ rw (get_or-set_at m.drives d e x no_drive same within, get_or-set_at images d e image no_image same long) (subst (λ (n : ℕ). ImageFits (first_worker m n) x image) (sym same) here)
        | inr other ↦ rw (get_or-set_other m.drives d e x no_drive other, get_or-set_other images d e image no_image other) (h.each e there)
      ]));
}

-- ---- a write that is no reset

window_fits : (from : ℕ) (d x : Drive) (image : DiskImage) → x.workers ≡ d.workers → x.queue ≡ d.queue → x.bytes ≡ d.bytes → ImageFits from d image → ImageFits from x image
window_fits from d x image workers queue bytes h =
    subst (λ (q : Queue). ImageFits from (record x { queue = q }) image) (sym queue)
    (subst (λ (n : ℕ). ImageFits from (record x { queue = d.queue; workers = n }) image) (sym workers)
    (subst (λ (b : List ℕ). ImageFits from (record x { queue = d.queue; workers = d.workers; bytes = b }) image) (sym bytes)
    (record { workers = h.workers; size = h.size; marks = h.marks; held = h.held; counted = h.counted })))

-- ---- a reset

out_dropped : (h : Holder) (x : Unfinished) (p : Progress) → x.progress ≡ p → is_out h (mark_dropped x) ≡ is_out h x
out_dropped h x Pending e = rw e refl
out_dropped h x Blocked e = rw e refl
out_dropped h x (Busy w moved failed dropped) e = rw e refl

out_busy : (h : Holder) (x : Unfinished) (p : Progress) → x.progress ≡ p → works_on p ≡ false → is_out h x ≡ false
out_busy h x Pending e f = rw e (grind (arith, common_steps))
out_busy h x Blocked e f = rw e (grind (arith, common_steps))
out_busy h x (Busy w moved failed dropped) e f = absurd (grind (arith, common_steps))

held_step : (h : Holder) (x : Unfinished) (xs : List Unfinished) (b : Bool) → is_busy x ≡ b → list_any (is_out h) (map mark_dropped (filter is_busy xs)) ≡ list_any (is_out h) xs
    → list_any (is_out h) (map mark_dropped (if b then x ∷ filter is_busy xs else filter is_busy xs)) ≡ list_any (is_out h) (x ∷ xs)
held_step h x xs true e so_far = let here = out_dropped h x x.progress refl in grind (arith, common_steps)
held_step h x xs false e so_far = let here = out_busy h x x.progress refl e in grind (arith, common_steps)

held_same : (h : Holder) (xs : List Unfinished) → list_any (is_out h) (map mark_dropped (filter is_busy xs)) ≡ list_any (is_out h) xs
held_same h [] = refl
held_same h (x ∷ xs) = held_step h x xs (is_busy x) refl (held_same h xs)

held_on : (xs : List Unfinished) (o : Option Holder) → IsHeld xs o → IsHeld (map mark_dropped (filter is_busy xs)) o
held_on xs None h = h
held_on xs (Some k) h = held_same k xs ∙ h

worker_on : (from count : ℕ) (x : Unfinished) (p : Progress) → x.progress ≡ p → WorkerFits from count x.progress → WorkerFits from count (mark_dropped x).progress
worker_on from count x Pending e h = rw e tt
worker_on from count x Blocked e h = rw e tt
worker_on from count x (Busy w moved failed dropped) e h = rw e (rw e at h)

workers_step : (from count : ℕ) (x : Unfinished) (xs : List Unfinished) (b : Bool) → WorkerFits from count x.progress
    → All (λ (y : Unfinished). WorkerFits from count y.progress) (map mark_dropped (filter is_busy xs))
    → All (λ (y : Unfinished). WorkerFits from count y.progress) (map mark_dropped (if b then x ∷ filter is_busy xs else filter is_busy xs))
workers_step from count x xs true h rest =
    All-cons (λ (y : Unfinished). WorkerFits from count y.progress) (mark_dropped x) (map mark_dropped (filter is_busy xs)) (worker_on from count x x.progress refl h) rest
workers_step from count x xs false h rest = rest

workers_on : (from count : ℕ) (xs : List Unfinished) → All (λ (y : Unfinished). WorkerFits from count y.progress) xs
    → All (λ (y : Unfinished). WorkerFits from count y.progress) (map mark_dropped (filter is_busy xs))
workers_on from count [] h = h
workers_on from count (x ∷ xs) h =
    workers_step from count x xs (is_busy x) (All-head (λ (y : Unfinished). WorkerFits from count y.progress) x xs h)
    (workers_on from count xs (All-tail (λ (y : Unfinished). WorkerFits from count y.progress) x xs h))

reset_fits : (from : ℕ) (d : Drive) (v : WindowState) (image : DiskImage) → ImageFits from d image
    → ImageFits from (record d { window = v; queue = emptied d.queue }) (cancels_counted image d)
unfolding emptied
reset_fits from d v image h = record {
  workers = workers_on from d.workers d.queue.requests h.workers;
  size = h.size;
  marks = h.marks;
  held = held_on d.queue.requests image.holder h.held;
  counted = let counts = emptied_counts d.queue in let before = h.counted in omega arith;
}

-- ---- the run

-- the window follows, and the image is another
after_window : (s : State) (d : ℕ) (x : Drive) (image : DiskImage) → IsSoundState s → d < drive_count s.machine → IsMachine (with_window s.machine d x) → x.workers ≡ (drive_at s.machine d).workers
    → ImageFits (first_worker s.machine d) x image → IsSoundState (with_image (with_machine s (with_window s.machine d x)) d image)
unfolding with_window
after_window s d x image h within sound workers fits =
    let next : MachineState = with_drive s.machine d x in
    let was : Bool = window.line (drive_at s.machine d).window in
    let now : Bool = window.line x.window in
    let t : MachineState = pin_followed next (drive_pin d) was now in
    let same : SameRun (followed next (drive_pin d) was now) t = run_same _ _ (followed_same next (drive_pin d) was now) in
    keeps_parts s t (set s.images d image) h (record { count = same.seats.count; stage = same.seats.stage; halted = same.seats.halted }) same.meet same.pause same.code
    (images_set s.machine t s.images d x image same.seats.count same.drives within workers fits h.images)
    sound

still : (s : State) (t : MachineState) (d : ℕ) → with_machine s t ≡ with_image (with_machine s t) d (image_at s d)
still s t d = ap (λ (xs : List DiskImage). record s { machine = t; images = xs }) (sym (set-get_or s.images d no_image))

effect_is : (r : Register) (value : ℕ) → window.effect_of r value ≡ (if is_reset r value then effect.Reset else effect.Nothing)
effect_is Status value = refl
effect_is _ value = refl

-- a status of 0 leaves the window as at its start
reset_is : (r : Register) (value : ℕ) (d : Drive) (ram : Memory) → is_reset r value ≡ true → window.after_write ram d.window r value ≡ window.at_start d.window.sectors d.window.ro
reset_is Status value d ram e = rw e refl
reset_is _ value d ram e = absurd (grind (arith, common_steps))

kept_by : (s : State) (d offset value : ℕ) → IsSoundState s → d < drive_count s.machine → (b : Bool) → is_reset (register_at offset) value ≡ b
    → IsSoundState (register_followed s d (register_written s.machine d offset value) (if b then effect.Reset else effect.Nothing))
kept_by s d offset value h within false e =
    let before = h.machine.each_drive d within in
    let drive = drive_at s.machine d in
    let next = written_next s.machine.ram drive.window value before.registers before.tables (register_at offset) e in
    let x : Drive = register_written s.machine d offset value in
    subst (λ (t : State). IsSoundState t) (sym (still s (with_window s.machine d x) d))
    (after_window s d x (image_at s d) h within (keeps_window s.machine d x h.machine within (next_drive s.machine.ram drive x.window before next)) refl
    (window_fits (first_worker s.machine d) drive x (image_at s d) refl refl refl (h.images.each d within)))
kept_by s d offset value h within true e =
    let before = h.machine.each_drive d within in
    let drive = drive_at s.machine d in
    let x : Drive = register_written s.machine d offset value in
    let y : Drive = queue_emptied x in
    let z : Drive = record drive { window = window.at_start drive.window.sectors drive.window.ro; queue = emptied drive.queue } in
    let same : y ≡ z = ap (λ (w : WindowState). record drive { window = w; queue = emptied drive.queue }) (reset_is (register_at offset) value drive s.machine.ram e) in
    let sound : IsDrive s.machine.ram y = subst (λ (u : Drive). IsDrive s.machine.ram u) (sym same) (reset_drive s.machine.ram drive drive.window.sectors drive.window.ro before refl refl) in
    after_window s d y (cancels_counted (image_at s d) x) h within (keeps_window s.machine d y h.machine within sound) refl
    (reset_fits (first_worker s.machine d) drive x.window (image_at s d) (h.images.each d within))

kept_if : (s : State) (d offset value : ℕ) → IsSoundState s → (b : Bool) → is_drive s.machine d ≡ b
    → IsSoundState (if b then register_followed s d (register_written s.machine d offset value) (window.effect_of (register_at offset) value) else s)
kept_if s d offset value h true e =
    let within : d < drive_count s.machine = grind (arith, nat_tests) in
    subst (λ (f : WindowEffect). IsSoundState (register_followed s d (register_written s.machine d offset value) f)) (sym (effect_is (register_at offset) value))
    (kept_by s d offset value h within (is_reset (register_at offset) value) refl)
kept_if s d offset value h false e = h

pub keeps_drive : (s : State) (d offset value : ℕ) → IsSoundState s → IsSoundState (drive_written s d offset value)
unfolding drive_written
keeps_drive s d offset value h = kept_if s d offset value h (is_drive s.machine d) refl
