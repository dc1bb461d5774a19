-- What holds of every run is kept where a drive's queue, its disk, its image and memory change, and its registers don't.
use Rattle.std.specs.Prelude.{Option, Some, None}
use Rattle.std.specs.List.{All, list_any}
use Rattle.std.proofs.Common.{◌≡◌, ◌≢◌, ℕ, ◌+◌, ◌/◌, ◌<◌, ◌≤◌, Bool, true, false, List, length, get_or, set, refl, sym, ap, subst, ◌∙◌, arith}
use Rattle.std.proofs.lemmas.Bool.{true≢false}
use Rattle.vm_law.specs.Memory.{Memory, KeepsSize}
use Rattle.blk_queue.specs.declared.progress.Progress.{Progress}
use Rattle.blk_queue.specs.declared.progress.Unfinished.{Unfinished}
use Rattle.blk_queue.specs.declared.progress.Progress.TheVariants.{Pending, Blocked, Busy}
use Rattle.blk_queue.specs.Progress.{blocks, dropped_of}
use Rattle.blk_queue.specs.Queue.{Queue, request_of}
use Rattle.blk_queue.specs.Sound.{IsSound as IsQueue}
use Rattle.blk_queue.specs.Steps.{left, with_progress}
use Rattle.blk_queue.proofs.Fitting.{FitsAlone}
use Rattle.blk_queue.proofs.Sound.{sound_left}
use Rattle.vblk_req.specs.Request.{IsSound as IsAsked}
use Rattle.vm_state.specs.declared.drive.Drive.{Drive}
use Rattle.vm_state.specs.declared.image.DiskImage.{DiskImage}
use Rattle.vm_state.specs.declared.image.Holder.{Holder}
use Rattle.vm_state.specs.Machine.{MachineState, drive_at, drive_count, with_drive}
use Rattle.vm_state.specs.Requests.{capacity_of, first_worker}
use Rattle.vm_state.specs.State.{State, image_at, with_image, with_machine}
use Rattle.vm_state.specs.Sound.{IsDrive, IsHeld, IsSoundState, ImageFits, RequestFits, WorkerFits, is_out}
use Rattle.vm_disks.proofs.KeptDrives.{drive_over, keeps_ram, keeps_drive, drive_changed, keeps_changed}
use Rattle.vm_disks.proofs.KeptQueues.{sound_progress, all_progress, count_progress, held_progress, its_fact, all_left, count_left, next_left, held_left}

-- ---- what a queue and an image are to be for a drive

pub record QueueFits (s : State) (d : ℕ) (q : Queue) (image : DiskImage) : Type 0 where
  pub sound : IsQueue q
  pub requests : All (RequestFits s.machine.ram (drive_at s.machine d)) q.requests
  pub workers : All (λ (x : Unfinished). WorkerFits (first_worker s.machine d) (drive_at s.machine d).workers x.progress) q.requests
  pub held : IsHeld q.requests image.holder
  pub counted : image.finished + image.cancelled + length q.requests ≤ q.next
  pub size : length image.bytes ≡ length (drive_at s.machine d).bytes
  pub marks : length image.doubt ≡ capacity_of (drive_at s.machine d).bytes

pub fits_now : (s : State) (d : ℕ) → IsSoundState s → d < drive_count s.machine → QueueFits s d (drive_at s.machine d).queue (image_at s d)
fits_now s d h l =
    let drive = h.machine.each_drive d l in
    let image = h.images.each d l in
    record {
      sound = drive.queue;
      requests = drive.requests;
      workers = image.workers;
      held = image.held;
      counted = image.counted;
      size = image.size;
      marks = image.marks;
    }

-- ---- the row

abbrev pub with_parts : Drive → Queue → List ℕ → Drive
with_parts drive q bytes = record drive { queue = q; bytes = bytes }

request_for : (ram : Memory) (drive : Drive) (q : Queue) (bytes : List ℕ) (x : Unfinished) → length bytes ≡ length drive.bytes → RequestFits ram drive x → RequestFits ram (with_parts drive q bytes) x
request_for ram drive q bytes x e h = record {
  accepted = record {
    sound = subst (λ (n : ℕ). IsAsked (n / 512) x.request) (sym e) h.accepted.sound;
    fits = h.accepted.fits;
    whole = h.accepted.whole;
    bare = h.accepted.bare;
    writable = h.accepted.writable;
  };
  window = h.window;
}

drive_for : (s : State) (d : ℕ) (q : Queue) (image : DiskImage) (bytes : List ℕ) → IsDrive s.machine.ram (drive_at s.machine d) → length bytes ≡ length (drive_at s.machine d).bytes → QueueFits s d q image
    → IsDrive s.machine.ram (with_parts (drive_at s.machine d) q bytes)
drive_for s d q image bytes h e f = record {
  some_worker = h.some_worker;
  workers = h.workers;
  some_sector = let n = h.some_sector in omega (arith, n, e);
  sectors = let n = h.sectors in omega (arith, n, e);
  whole = let n = h.whole in omega (arith, n, e);
  ro = h.ro;
  capacity = h.capacity ∙ ap (λ (n : ℕ). n / 512) (sym e);
  registers = h.registers;
  tables = h.tables;
  queue = f.sound;
  requests = λ k x l. request_for s.machine.ram (drive_at s.machine d) q bytes (get_or q.requests k x) e (f.requests k x l);
}

pub keeps_row : (s : State) (d : ℕ) (ram : Memory) (q : Queue) (bytes : List ℕ) (image : DiskImage) → IsSoundState s → d < drive_count s.machine → KeepsSize s.machine.ram ram
    → length bytes ≡ length (drive_at s.machine d).bytes → QueueFits s d q image
    → IsSoundState (with_image (with_machine s (with_drive (record s.machine { ram = ram }) d (with_parts (drive_at s.machine d) q bytes))) d image)
keeps_row s d ram q bytes image h l k e f =
    let x : Drive = with_parts (drive_at s.machine d) q bytes in
    let drive : IsDrive ram x = drive_over s.machine.ram ram x k (drive_for s d q image bytes (h.machine.each_drive d l) e f) in
    keeps_changed s (with_drive (record s.machine { ram = ram }) d x) d x image h l (drive_changed s.machine ram d x k)
    (keeps_drive (record s.machine { ram = ram }) d x (keeps_ram s.machine ram h.machine k) l drive refl) refl
    (record {
      workers = f.workers;
      size = f.size ∙ sym e;
      marks = f.marks ∙ ap (λ (n : ℕ). n / 512) (sym e);
      held = f.held;
      counted = f.counted;
    })

-- ---- the progress of one request changes

pub record Goes (s : State) (d id : ℕ) (f : Progress → Progress) (x : Unfinished) : Type 0 where
  pub there : request_of (drive_at s.machine d).queue id ≡ Some x
  pub fits : FitsAlone x (f x.progress)
  pub dropped : dropped_of (f x.progress) ≡ false → dropped_of x.progress ≡ false
  pub worker : WorkerFits (first_worker s.machine d) (drive_at s.machine d).workers (f x.progress)

pub progress_fits : (s : State) (d id : ℕ) (f : Progress → Progress) (x : Unfinished) (image : DiskImage) → IsSoundState s → d < drive_count s.machine → Goes s d id f x
    → IsHeld (with_progress (drive_at s.machine d).queue id f).requests image.holder → image.finished ≡ (image_at s d).finished → image.cancelled ≡ (image_at s d).cancelled
    → length image.bytes ≡ length (image_at s d).bytes → length image.doubt ≡ length (image_at s d).doubt
    → QueueFits s d (with_progress (drive_at s.machine d).queue id f) image
progress_fits s d id f x image h l g held finished cancelled size marks =
    let now = fits_now s d h l in
    let q : Queue = (drive_at s.machine d).queue in
    let its : RequestFits s.machine.ram (drive_at s.machine d) x = its_fact (RequestFits s.machine.ram (drive_at s.machine d)) q id x g.there now.requests in
    record {
      sound = sound_progress q id x f now.sound g.there g.fits;
      requests = all_progress (RequestFits s.machine.ram (drive_at s.machine d)) q id x f now.sound g.there now.requests (record {
        accepted = its.accepted;
        window = λ e. its.window (g.dropped e);
      });
      workers = all_progress (λ (y : Unfinished). WorkerFits (first_worker s.machine d) (drive_at s.machine d).workers y.progress) q id x f now.sound g.there now.workers g.worker;
      held = held;
      counted =
          let n = count_progress q id x f now.sound g.there in
          let c = now.counted in
          omega (arith, n, c, finished, cancelled);
      size = size ∙ now.size;
      marks = marks ∙ now.marks;
    }

-- an image that is out for another request, or at home
pub still_held : (s : State) (d id : ℕ) (f : Progress → Progress) (x : Unfinished) (o : Option Holder) → IsQueue (drive_at s.machine d).queue → request_of (drive_at s.machine d).queue id ≡ Some x
    → ((h : Holder) → is_out h x ≡ false) → IsHeld (drive_at s.machine d).queue.requests o → IsHeld (with_progress (drive_at s.machine d).queue id f).requests o
still_held s d id f x None h there out held = tt
still_held s d id f x (Some holder) h there out held = held_progress (drive_at s.machine d).queue id x f holder h there (out holder) held

-- ---- one request leaves

blocked_drops : (p : Progress) → blocks p ≡ true → dropped_of p ≡ false
blocked_drops Pending h = absurd (true≢false (sym h))
blocked_drops Blocked h = refl
blocked_drops (Busy w moved failed dropped) h = absurd (true≢false (sym h))

pub left_fits : (s : State) (d id : ℕ) (x : Unfinished) (image : DiskImage) → IsSoundState s → d < drive_count s.machine → request_of (drive_at s.machine d).queue id ≡ Some x
    → IsHeld (left (drive_at s.machine d).queue id).requests image.holder
    → image.finished + image.cancelled ≤ (image_at s d).finished + (image_at s d).cancelled + 1
    → length image.bytes ≡ length (image_at s d).bytes → length image.doubt ≡ length (image_at s d).doubt → QueueFits s d (left (drive_at s.machine d).queue id) image
left_fits s d id x image h l there held counted size marks =
    let now = fits_now s d h l in
    let q : Queue = (drive_at s.machine d).queue in
    record {
      sound = sound_left q.next q.requests id now.sound;
      requests = all_left (RequestFits s.machine.ram (drive_at s.machine d)) q id (λ y f b. record { accepted = f.accepted; window = λ _. f.window (blocked_drops y.progress b) }) now.requests;
      workers = all_left (λ (y : Unfinished). WorkerFits (first_worker s.machine d) (drive_at s.machine d).workers y.progress) q id (λ y f b. tt) now.workers;
      held = held;
      counted =
          let n = count_left q id x now.sound there in
          let next = next_left q id in
          let c = now.counted in
          omega (arith, n, next, c, counted);
      size = size ∙ now.size;
      marks = marks ∙ now.marks;
    }

-- an image that is out for another request stays so
pub left_held : (s : State) (d id : ℕ) (o : Option Holder) → ((holder : Holder) → o ≡ Some holder → holder.id ≢ id) → IsHeld (drive_at s.machine d).queue.requests o → IsHeld (left (drive_at s.machine d).queue id).requests o
left_held s d id None other held = tt
left_held s d id (Some holder) other held = held_left (drive_at s.machine d).queue id holder (other holder refl) held
