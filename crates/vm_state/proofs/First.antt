-- The first state of a run on a machine that rests is sound.
use Rattle.std.proofs.Common.{◌≡◌, ℕ, ◌+◌, ◌<◌, ◌≤◌, true, false, List, [], ◌∷◌, length, get_or, replicate, refl, sym, ap, subst, ◌∙◌, inl, inr, ◌⊎◌, arith, None, Some, Option}
use Rattle.std.specs.List.{All, count_by}
use Rattle.std.proofs.lemmas.List.{length-map, length-replicate, get_or-map, get_or-replicate, get_or_past}
use Rattle.std.proofs.lemmas.List.Elements.{All-weaker}
use Rattle.std.proofs.lemmas.List.Folds.{sum_by-replicate}
use Rattle.std.proofs.lemmas.List.Sums.{count_by-le-length}
use Rattle.std.proofs.lemmas.List.FromFn.{length-range_with_len}
use Rattle.std.proofs.lemmas.Bool.{cases_lt, true≢false}
use Rattle.vm_law.specs.Memory.{Memory}
use Rattle.vm_law.specs.declared.script.Order.{Order}
use Rattle.vm_law.specs.declared.stage.Owned.TheVariants.{Idle, Frozen}
use Rattle.blk_queue.specs.Progress.{is_busy, works}
use Rattle.blk_queue.specs.Sound.{Ascend}
use Rattle.blk_queue.specs.declared.progress.Progress.{Progress}
use Rattle.blk_queue.specs.declared.progress.Progress.TheVariants.{Pending, Blocked, Busy}
use Rattle.blk_queue.specs.declared.progress.Unfinished.{Unfinished}
use Rattle.vm_meet.specs.declared.meeting.Meeting.{Meeting}
use Rattle.vm_state.specs.declared.cpu.Cpu.{Cpu}
use Rattle.vm_state.specs.declared.drive.Drive.{Drive}
use Rattle.vm_state.specs.Machine.{MachineState, cpu_at, cpu_count, cpu_numbers, drive_at, drive_count}
use Rattle.vm_state.specs.Requests.{capacity_of, first_worker}
use Rattle.vm_state.specs.Sound.{IsDrive, IsMachine, IsOwner, Stays, SeatFits, MeetFits, WorkerFits, ImageFits, ScriptStands, IsSoundState, samples_under_way, is_sampled}
use Rattle.vm_state.specs.Start.{boot_image, first_state}
use Rattle.vm_state.specs.State.{empty_seat, no_image, open_grants, page_count}

-- an element of equal ones, or what is read past them
pub get_or_equal : {X : Type 0} (n i : ℕ) (x : X) → get_or (replicate n x) i x ≡ x
get_or_equal n i x =
    elim (cases_lt i n) [
      | inl l ↦ get_or-replicate n i x x l
      | inr past ↦ let e = length-replicate n x in get_or_past (replicate n x) i x (omega arith)
    ]

-- ---- a machine that rests: each vCPU is idle or frozen by control, no meeting is open, and no worker has a request

pub record Rests (m : MachineState) : Type 0 where
  pub stage : (i : ℕ) → ((cpu_at m i).stage ≡ Idle) ⊎ ((cpu_at m i).stage ≡ Frozen 0)
  pub meet : m.meet ≡ None
  pub workers : (d : ℕ) → d < drive_count m → All (λ (x : Unfinished). is_busy x ≡ false) (drive_at m d).queue.requests

-- its drives hold these disks
pub record Holds (m : MachineState) (disks : List (List ℕ)) : Type 0 where
  pub count : length disks ≡ drive_count m
  pub each : (d : ℕ) → d < drive_count m → (drive_at m d).bytes ≡ get_or disks d []

-- ---- its seats

seat_fits : (i : ℕ) (cpu : Cpu) → (cpu.stage ≡ Idle) ⊎ (cpu.stage ≡ Frozen 0) → SeatFits i 0 cpu empty_seat
seat_fits i cpu (inl e) = record { owner = subst (λ st. IsOwner i st) (sym e) tt; stay = subst (λ st. Stays st cpu.halted empty_seat) (sym e) refl; ran = omega arith }
seat_fits i cpu (inr e) = record { owner = subst (λ st. IsOwner i st) (sym e) (inl refl); stay = subst (λ st. Stays st cpu.halted empty_seat) (sym e) refl; ran = omega arith }

none_open : (n : ℕ) → open_grants (replicate n empty_seat) ≡ 0
unfolding open_grants
none_open n = let e = sum_by-replicate (λ seat. seat.left) n empty_seat in omega (arith, e)

-- ---- its images

waiting_fits : (from count : ℕ) (p : Progress) → works p ≡ false → WorkerFits from count p
waiting_fits from count Pending e = tt
waiting_fits from count Blocked e = tt
waiting_fits from count (Busy w moved failed dropped) e = absurd (true≢false e)

-- as many ids were given out at least
pub ids_given : (low : ℕ) (xs : List Unfinished) (next : ℕ) → Ascend low xs next → low + length xs ≤ next
ids_given low [] next h = omega arith
ids_given low (x ∷ xs) next h = let r = ids_given (x.id + 1) xs next h.1 in let a = h.0 in omega arith

image_fits : (memory : Memory) (from : ℕ) (drive : Drive) (bytes : List ℕ) → IsDrive memory drive
    → All (λ (x : Unfinished). is_busy x ≡ false) drive.queue.requests → drive.bytes ≡ bytes → ImageFits from drive (boot_image bytes)
image_fits memory from drive bytes h none e =
    let ids = ids_given 0 drive.queue.requests drive.queue.next h.queue.ids in
    record {
      workers = All-weaker _ _ (λ (x : Unfinished) b. waiting_fits from drive.workers x.progress b) drive.queue.requests none;
      size = ap length (sym e);
      marks = length-replicate (capacity_of bytes) false ∙ ap (λ b. capacity_of b) (sym e);
      held = tt;
      counted = omega arith;
    }

-- ---- all of it

none_sampled : (meet : Option Meeting) → meet ≡ None → samples_under_way meet ≡ true → ⊥
none_sampled None e h = true≢false (sym h)
none_sampled (Some x) e h = absurd (cc)

few_sampled : (m : MachineState) → IsMachine m → count_by (is_sampled m.meet) (cpu_numbers m) ≤ 16
few_sampled m h =
    let most = count_by-le-length (is_sampled m.meet) (cpu_numbers m) in
    let long = length-range_with_len 0 (cpu_count m) in
    let cpus = h.cpus in omega arith

pub first_is_sound : (m : MachineState) (disks : List (List ℕ)) (script : List Order) (limit : ℕ) → IsMachine m → Rests m → Holds m disks
    → limit ≤ 20000000 → ScriptStands (cpu_count m) m.pause 0 script → length script ≤ 10001 → IsSoundState (first_state m disks script limit)
unfolding first_state
first_is_sound m disks script limit h r f most stands few = record {
  machine = h;
  seats = record {
    count = length-replicate (cpu_count m) empty_seat;
    each = λ i. subst (λ seat. SeatFits i 0 (cpu_at m i) seat) (sym (get_or_equal (cpu_count m) i empty_seat)) (seat_fits i (cpu_at m i) (r.stage i));
  };
  meet = subst (λ x. MeetFits m x) (sym r.meet) tt;
  images = record {
    count = length-map disks boot_image ∙ f.count;
    each = λ d l.
        let count = f.count in
        subst (λ image. ImageFits (first_worker m d) (drive_at m d) image) (sym (get_or-map boot_image disks d [] no_image (omega arith)))
        (image_fits m.ram (first_worker m d) (drive_at m d) (get_or disks d []) (h.each_drive d l) (r.workers d l) (f.each d l));
  };
  counts = record {
    granted = let e = none_open (cpu_count m) in omega arith;
    limit = most;
    seen = omega arith;
    pages = length-replicate (page_count m.ram.code) 0;
    versions = λ page. subst (λ k. k ≤ 0) (sym (get_or_equal {X = ℕ} (page_count m.ram.code) page 0)) (omega arith);
    script = few;
    answers = refl;
  };
  samples = record {
    opened = λ e. absurd (none_sampled m.meet r.meet e);
    asked = λ e. absurd (true≢false (sym e));
    few = let e = few_sampled m h in omega arith;
    none = λ e. refl;
  };
  script = λ e. stands;
}
