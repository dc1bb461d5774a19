-- An order that is done keeps what holds of every run: Done.
use Rattle.std.specs.Prelude.{Option, Some, None, ◌==◌, ◌&&◌, ◌||◌, nat_lt, is_none, is_some, slice_get, slice_set, slice_index, ◌⊎◌, if◌then◌else◌, map, bit_and, bit_or}
use Rattle.std.specs.List.{All, list_any, count_by, range_with_len, sum}
use Rattle.std.proofs.Common.{◌≡◌, ◌≢◌, ℕ, zero, suc, ◌+◌, ◌^◌, ◌<◌, ◌≤◌, Bool, true, false, not, List, [], ◌∷◌, ◌++◌, length, drop, get_or, set, refl, sym, ap, subst, ◌∙◌, arith, inl, inr}
use Rattle.std.proofs.Math.ListN.{length-set}
use Rattle.std.specs.Int.Bits.{and_self}
use Rattle.std.proofs.lemmas.Nat.{and_assoc, and_or_apart}
use Rattle.std.proofs.lemmas.Bool.{and_parts, and_from, true≢false, cases_eq, cases_lt, cases_Bool, eqb-true, eq-eqb}
use Rattle.std.proofs.lemmas.Grind.{common_steps, get_or-set_at}
use Rattle.std.proofs.lemmas.List.{at_drop_more, get_or-set_other, length-append, set_past}
use Rattle.std.proofs.lemmas.List.FromFn.{length-range_with_len}
use Rattle.std.proofs.lemmas.List.Sums.{count_by-le-length}
use Rattle.std.proofs.lemmas.Option.{slice_get_within, get_or_from_slice_get}
use Rattle.vm_law.specs.declared.context.Ctx.{Ctx}
use Rattle.vm_law.specs.declared.script.Order.{Order}
use Rattle.vm_law.specs.declared.script.Order.TheVariants.{WaitQuiet, WaitConsole, WaitExecuted, Input, Nmi, Rendezvous, Pause, Resume, Checkpoint, Set, Get, Cancel, Against, Send}
use Rattle.x86_op.specs.Flow.{masked_flags, writable_flags}
use Rattle.vm_lapic.specs.Apic.{Apic}
use Rattle.vm_meet.specs.declared.meeting.Meeting.{Meeting}
use Rattle.blk_queue.specs.declared.progress.Progress.{Progress}
use Rattle.blk_queue.specs.declared.progress.Progress.TheVariants.{Pending, Blocked, Busy}
use Rattle.blk_queue.specs.declared.progress.Unfinished.{Unfinished}
use Rattle.blk_queue.specs.Progress.{is_busy, is_read, is_waiting, works}
use Rattle.blk_queue.specs.Queue.{Queue, request_of, some_request}
use Rattle.blk_queue.specs.Sound.{IsSound as IsQueue}
use Rattle.blk_queue.specs.Steps.{cancelled, left}
use Rattle.vm_disks.specs.Queueing.{with_queue}
use Rattle.vm_disks.proofs.Lookup.{is_there}
use Rattle.vm_disks.proofs.KeptRows.{fits_now, keeps_row, left_fits, left_held}
use Rattle.vm_disks.proofs.Going.{any_weaker}
use Rattle.vm_state.specs.declared.cpu.Cpu.{Cpu}
use Rattle.vm_state.specs.declared.drive.Drive.{Drive}
use Rattle.vm_state.specs.declared.image.DiskImage.{DiskImage}
use Rattle.vm_state.specs.declared.image.Holder.{Holder}
use Rattle.vm_state.specs.declared.run_state.Said.{Said}
use Rattle.vm_state.specs.declared.run_state.Why.{Why}
use Rattle.vm_state.specs.declared.run_state.Why.TheVariants.{Finished}
use Rattle.vm_state.specs.Machine.{MachineState, cpu_at, cpu_count, cpu_numbers, drive_at, drive_count, unstarted_cpu, with_cpu, with_ctx}
use Rattle.vm_state.specs.State.{State, image_at, next_order, with_image, with_machine}
use Rattle.vm_state.specs.Sound.{CountsFit, ImageFits, ImagesFit, IsCpu, IsHeld, IsMachine, IsSoundState, MeetFits, OrdersFit, SamplesFit, ScriptFits, ScriptStands, SeatsFit, is_midway, is_out, is_sampled, samples_under_way, runs}
use Rattle.vm_devices.proofs.KeptRun.{SameRun, keeps_run}
use Rattle.vm_orders.specs.Duties.{is_pause, is_rendezvous}
use Rattle.vm_orders.proofs.Keeps.{first_paused, keeps_pause, none_is, not_true}
use Rattle.vm_orders.specs.Done.{Names, NamesNext, answer_of, cancel_counted, is_cut, is_met, is_ready, may_done, noted, noted_as, ordered, ordered_as, said_as, register_of, request_cancelled, said_to, with_register, after_done}

-- ---- the script behind an order

abbrev pub pause_after : Bool → Order → Bool
pause_after b Resume = false
pause_after b o = b

go_on : (cpus : ℕ) (pause : Bool) (o : Order) (os : List Order) → (is_pause (Some o) ≡ true → pause ≡ true) → OrdersFit cpus pause (o ∷ os) → OrdersFit cpus (pause_after pause o) os
go_on cpus false WaitQuiet os e h = subst (λ (b : Bool). ScriptFits cpus b os) h.1 h.2
go_on cpus false (WaitConsole n) os e h = subst (λ (b : Bool). ScriptFits cpus b os) h.1 h.2
go_on cpus false (WaitExecuted n) os e h = subst (λ (b : Bool). ScriptFits cpus b os) h.1 h.2
go_on cpus false (Input bytes) os e h = subst (λ (b : Bool). ScriptFits cpus b os) h.1 h.2
go_on cpus false (Nmi i) os e h = subst (λ (b : Bool). ScriptFits cpus b os) h.1.0 h.2
go_on cpus false Rendezvous os e h = subst (λ (b : Bool). ScriptFits cpus b os) h.1 h.2
go_on cpus false Pause os e h = absurd (true≢false (sym (e refl)))
go_on cpus false Resume os e h = absurd h.1
go_on cpus false (Checkpoint name) os e h = absurd h.1
go_on cpus false (Against name base) os e h = absurd h.1
go_on cpus false (Send name) os e h = subst (λ (b : Bool). ScriptFits cpus b os) h.1 h.2
go_on cpus false (Set i reg value) os e h = absurd h.1
go_on cpus false (Get i reg) os e h = absurd h.1
go_on cpus false (Cancel d id) os e h = subst (λ (b : Bool). ScriptFits cpus b os) h.1 h.2
go_on cpus true WaitQuiet os e (inl h) = absurd h.1
go_on cpus true (WaitConsole n) os e (inl h) = absurd h.1
go_on cpus true (WaitExecuted n) os e (inl h) = absurd h.1
go_on cpus true (Input bytes) os e (inl h) = inl (subst (λ (b : Bool). ScriptFits cpus b os) h.1 h.2)
go_on cpus true (Nmi i) os e (inl h) = inl (subst (λ (b : Bool). ScriptFits cpus b os) h.1.0 h.2)
go_on cpus true Rendezvous os e (inl h) = inl (subst (λ (b : Bool). ScriptFits cpus b os) h.1 h.2)
go_on cpus true Pause os e (inl h) = absurd h.1
go_on cpus true Resume os e (inl h) = subst (λ (b : Bool). ScriptFits cpus b os) h.1 h.2
go_on cpus true (Checkpoint name) os e (inl h) = inl (subst (λ (b : Bool). ScriptFits cpus b os) h.1 h.2)
go_on cpus true (Against name base) os e (inl h) = inl (subst (λ (b : Bool). ScriptFits cpus b os) h.1 h.2)
go_on cpus true (Send name) os e (inl h) = inl (subst (λ (b : Bool). ScriptFits cpus b os) h.1 h.2)
go_on cpus true (Set i reg value) os e (inl h) = inl (subst (λ (b : Bool). ScriptFits cpus b os) h.1.0 h.2)
go_on cpus true (Get i reg) os e (inl h) = inl (subst (λ (b : Bool). ScriptFits cpus b os) h.1.0 h.2)
go_on cpus true (Cancel d id) os e (inl h) = inl (subst (λ (b : Bool). ScriptFits cpus b os) h.1 h.2)
go_on cpus true WaitQuiet os e (inr h) = absurd (true≢false (sym h.0))
go_on cpus true (WaitConsole n) os e (inr h) = absurd (true≢false (sym h.0))
go_on cpus true (WaitExecuted n) os e (inr h) = absurd (true≢false (sym h.0))
go_on cpus true (Input bytes) os e (inr h) = absurd (true≢false (sym h.0))
go_on cpus true (Nmi i) os e (inr h) = absurd (true≢false (sym h.0))
go_on cpus true Rendezvous os e (inr h) = absurd (true≢false (sym h.0))
go_on cpus true Pause os e (inr h) = inl (subst (λ (b : Bool). ScriptFits cpus b os) h.1.1 h.1.2)
go_on cpus true Resume os e (inr h) = absurd (true≢false (sym h.0))
go_on cpus true (Checkpoint name) os e (inr h) = absurd (true≢false (sym h.0))
go_on cpus true (Against name base) os e (inr h) = absurd (true≢false (sym h.0))
go_on cpus true (Send name) os e (inr h) = absurd (true≢false (sym h.0))
go_on cpus true (Set i reg value) os e (inr h) = absurd (true≢false (sym h.0))
go_on cpus true (Get i reg) os e (inr h) = absurd (true≢false (sym h.0))
go_on cpus true (Cancel d id) os e (inr h) = absurd (true≢false (sym h.0))

drop_here : (xs : List Order) (k : ℕ) (o : Order) → slice_get xs k ≡ Some o → drop k xs ≡ o ∷ drop (k + 1) xs
drop_here xs k o h =
    at_drop_more (λ (l : List Order). l) xs k o (slice_get_within xs k o h) ∙ ap (λ (x : Order). x ∷ drop (k + 1) xs) (get_or_from_slice_get xs k o o h)

-- ---- all that holds of every run, but of its script

pub record IsAlmost (s : State) : Type 0 where
  pub machine : IsMachine s.machine
  pub seats : SeatsFit s.machine s.seats s.executed
  pub meet : MeetFits s.machine s.machine.meet
  pub images : ImagesFit s.machine s.images
  pub counts : CountsFit s

almost : (s : State) → IsSoundState s → IsAlmost s
almost s h = record { machine = h.machine; seats = h.seats; meet = h.meet; images = h.images; counts = h.counts }

-- ---- what was said is kept

fresh_samples : (s : State) → cpu_count s.machine ≤ 16 → 0 + count_by (is_sampled s.machine.meet) (cpu_numbers s.machine) ≤ 16
fresh_samples s few =
    let count = count_by-le-length (is_sampled s.machine.meet) (cpu_numbers s.machine) in
    let long : length (cpu_numbers s.machine) ≡ cpu_count s.machine = length-range_with_len 0 (cpu_count s.machine) in
    omega (arith, count, long, few)

-- the run hasn't ended where an order is left
left_over : (a b : ℕ) (why : Option Why) → (if a == b then Some Finished else why) ≡ None → (a == b) ≡ false
left_over a b why e = other (a == b) e where
  other : (c : Bool) → (if c then Some Finished else why) ≡ None → c ≡ false
  other true h = absurd (cc)
  other false h = refl

more_left : (a b : ℕ) → (a == b) ≡ false → a ≤ b → a < b
more_left a b e l =
    elim (cases_lt a b) [
      | inl less ↦ less
      | inr more ↦ let same : a ≡ b = omega (arith, l, more) in absurd (true≢false (sym (eq-eqb a b same) ∙ e))
    ]

pub keeps_noted : (s : State) (o : Order) (said : Said) → IsAlmost s → samples_under_way s.machine.meet ≡ false → s.place < length s.script → OrdersFit (cpu_count s.machine) s.machine.pause (drop (s.place + 1) s.script)
    → IsSoundState (noted s o said)
unfolding noted
keeps_noted s o said h closed within orders = record {
  machine = h.machine;
  seats = h.seats;
  meet = h.meet;
  images = h.images;
  counts = record {
    granted = h.counts.granted;
    limit = h.counts.limit;
    seen = h.counts.seen;
    pages = h.counts.pages;
    versions = h.counts.versions;
    script = h.counts.script;
    answers = let a = h.counts.answers in let n = length-append s.answers (answer_of s o said ∷ []) in omega (arith, a, n);
  };
  samples = record {
    opened = λ e. absurd (true≢false (sym e ∙ closed));
    asked = λ e. absurd (true≢false (sym e));
    few = fresh_samples s h.machine.cpus;
    none = λ e. refl;
  };
  script = λ e. record { within = more_left (s.place + 1) (length s.script) (left_over (s.place + 1) (length s.script) s.ended e) (omega (arith, within)); orders = orders };
}

-- ---- what orders do to the machine

-- another vCPU i, whose facts hold, and which is owned, halted, started and has an APIC as before
record IsLike (c d : Cpu) : Type 0 where
  stage : d.stage ≡ c.stage
  halted : d.halted ≡ c.halted
  started : d.started ≡ c.started
  lapic : d.lapic ≡ c.lapic

like_at : (m : MachineState) (i : ℕ) (d : Cpu) (P : ℕ → Cpu → Type 0) → ((k : ℕ) → P k (cpu_at m k)) → P i d → (k : ℕ) → P k (cpu_at (with_cpu m i d) k)
like_at m i d P all here k =
    elim (cases_eq k i) [
      | inl same ↦
          elim (cases_lt i (length m.cpus)) [
            | inl within ↦ rw (get_or-set_at m.cpus i k d (unstarted_cpu k) same within) (subst (λ (n : ℕ). P n d) (sym same) here)
            | inr past ↦ rw (set_past m.cpus i d past) (all k)
          ]
      | inr other ↦ rw (get_or-set_other m.cpus i k d (unstarted_cpu k) other) (all k)
    ]

like_cpus : (m : MachineState) (i : ℕ) (d : Cpu) → IsLike (cpu_at m i) d → (k : ℕ) → IsLike (cpu_at m k) (cpu_at (with_cpu m i d) k)
like_cpus m i d h k =
    like_at m i d (λ n c. IsLike (cpu_at m n) c) (λ n. record { stage = refl; halted = refl; started = refl; lapic = refl }) h k

with_like : (m : MachineState) (i : ℕ) (d : Cpu) → IsMachine m → IsLike (cpu_at m i) d → IsCpu i d → IsMachine (with_cpu m i d)
with_like m i d h like is = record {
  some_cpu = simp length-set h.some_cpu;
  cpus = simp length-set h.cpus;
  first = (like_cpus m i d like 0).started ∙ h.first;
  each_cpu = like_at m i d IsCpu h.each_cpu is;
  ram = h.ram;
  some_code = h.some_code;
  code = h.code;
  ioapic = h.ioapic;
  uart = h.uart;
  pins = h.pins;
  drives = h.drives;
  each_drive = h.each_drive;
  timers = record { count = h.timers.count; disarmed = λ k e. h.timers.disarmed k (ap (λ (l : Apic). l.timer_initial) (sym (like_cpus m i d like k).lapic) ∙ e) };
}

like_run : (m : MachineState) (i : ℕ) (d : Cpu) → IsLike (cpu_at m i) d → SameRun m (with_cpu m i d)
like_run m i d like = record {
  seats = record { count = simp length-set; stage = λ k. (like_cpus m i d like k).stage; halted = λ k. (like_cpus m i d like k).halted };
  meet = refl;
  drives = refl;
  pause = refl;
  code = refl;
}

pub keeps_nmi : (s : State) (i : ℕ) → IsSoundState s → IsSoundState (ordered s (Nmi i))
unfolding ordered
keeps_nmi s i h =
    let c : Cpu = cpu_at s.machine i in
    let d : Cpu = record c { nmi = true } in
    let like : IsLike c d = record { stage = refl; halted = refl; started = refl; lapic = refl } in
    let is = h.machine.each_cpu i in
    keeps_run s (with_cpu s.machine i d) h (like_run s.machine i d like) (with_like s.machine i d h.machine like (record { flags = is.flags; waits = is.waits; unstarted = is.unstarted; number = is.number }))

masked_twice : (value : ℕ) → masked_flags (masked_flags value) ≡ masked_flags value
unfolding masked_flags
masked_twice value =
    let w : ℕ = sum (map (λ flag. 2 ^ flag) writable_flags) in
    ap (λ n. bit_or n 2) (and_or_apart w (bit_and value w) 2 refl ∙ and_assoc w value w ∙ ap (λ n. bit_and value n) (and_self w))

record KeptCtx (c d : Ctx) : Type 0 where
  flags : masked_flags d.rflags ≡ d.rflags
  shadow : d.shadow ≡ c.shadow
  block : d.nmi_block ≡ c.nmi_block

register_kept : (c : Ctx) (reg value : ℕ) → masked_flags c.rflags ≡ c.rflags → KeptCtx c (with_register c reg value)
register_kept c reg value h = by_tests (reg == 16) (reg == 17)
  where
    by_tests : (a b : Bool) → KeptCtx c (if a then record c { rip = value } else if b then record c { rflags = masked_flags value } else record c { regs = slice_set c.regs reg value })
    by_tests true b = record { flags = h; shadow = refl; block = refl }
    by_tests false true = record { flags = masked_twice value; shadow = refl; block = refl }
    by_tests false false = record { flags = h; shadow = refl; block = refl }

set_is : (i reg value : ℕ) (c : Cpu) → IsCpu i c → IsCpu i (record c { ctx = with_register c.ctx reg value })
set_is i reg value c h =
    let k = register_kept c.ctx reg value h.flags in
    record {
      flags = k.flags;
      waits = h.waits;
      unstarted = λ e. ap (λ b. c.halted || b || (with_register c.ctx reg value).nmi_block || runs c.stage) k.shadow ∙ ap (λ b. c.halted || c.ctx.shadow || b || runs c.stage) k.block ∙ h.unstarted e;
      number = h.number;
    }

pub keeps_set : (s : State) (i reg value : ℕ) → IsSoundState s → IsSoundState (ordered s (Set i reg value))
unfolding ordered
keeps_set s i reg value h =
    let c : Cpu = cpu_at s.machine i in
    let d : Cpu = record c { ctx = with_register c.ctx reg value } in
    let like : IsLike c d = record { stage = refl; halted = refl; started = refl; lapic = refl } in
    keeps_run s (with_cpu s.machine i d) h (like_run s.machine i d like) (with_like s.machine i d h.machine like (set_is i reg value c (h.machine.each_cpu i)))

-- ---- Cancel

-- a request for which the image is out is no waiting one
out_works : (by count : ℕ) (p : Progress) → is_midway by count p ≡ true → works p ≡ true
out_works by count Pending h = absurd (true≢false (sym h))
out_works by count Blocked h = absurd (true≢false (sym h))
out_works by count (Busy w moved failed dropped) h = refl

waits_not_out : (q : Queue) (id : ℕ) (x : Unfinished) (holder : Holder) → IsQueue q → request_of q id ≡ Some x → is_waiting x ≡ true → list_any (is_out holder) q.requests ≡ true → holder.id ≢ id
waits_not_out q id x holder h there waits out =
    let some : list_any (λ (y : Unfinished). (y.id == holder.id) && is_busy y) q.requests ≡ true = any_weaker (is_out holder) (λ (y : Unfinished). (y.id == holder.id) && is_busy y) q.requests (λ y t. busy y t) out in
    let i = is_there q holder.id is_busy h some in
    λ e.
    let same : Some x ≡ Some i.request = sym there ∙ ap (λ (n : ℕ). request_of q n) (sym e) ∙ i.there in
    let equal : x ≡ i.request = cc in
    let free : is_busy x ≡ false = not_true (is_busy x) waits in
    true≢false (sym i.so ∙ ap is_busy (sym equal) ∙ free)
  where
    busy : (y : Unfinished) → is_out holder y ≡ true → ((y.id == holder.id) && is_busy y) ≡ true
    busy y t =
        let a = and_parts ((y.id == holder.id) && not (is_read y.request)) (is_midway holder.by y.request.count y.progress) t in
        and_from (y.id == holder.id) (is_busy y) (and_parts (y.id == holder.id) (not (is_read y.request)) a.0).0 (out_works holder.by y.request.count y.progress a.1)

cancel_within : (s : State) (d id : ℕ) (b : Bool) → IsSoundState s → d < drive_count s.machine → some_request (drive_at s.machine d).queue id is_waiting ≡ b
    → IsSoundState (with_image (with_machine s (with_queue s.machine d (if b then left (drive_at s.machine d).queue id else (drive_at s.machine d).queue))) d
    (if b then record (image_at s d) { cancelled = (image_at s d).cancelled + 1 } else image_at s d))
cancel_within s d id false h l e =
    let now = fits_now s d h l in
    keeps_row s d s.machine.ram (drive_at s.machine d).queue (drive_at s.machine d).bytes (image_at s d) h l (record { code = refl; size = refl }) refl now
cancel_within s d id true h l e =
    let now = fits_now s d h l in
    let q : Queue = (drive_at s.machine d).queue in
    let i = is_there q id is_waiting now.sound e in
    let image : DiskImage = record (image_at s d) { cancelled = (image_at s d).cancelled + 1 } in
    keeps_row s d s.machine.ram (left q id) (drive_at s.machine d).bytes image h l (record { code = refl; size = refl }) refl
    (left_fits s d id i.request image h l i.there
    (left_held s d id (image_at s d).holder (λ holder same. waits_not_out q id i.request holder now.sound i.there i.so (subst (λ (o : Option Holder). IsHeld q.requests o) same now.held)) now.held)
    (omega arith) refl refl)

cancel_past : (s : State) (d id : ℕ) → IsSoundState s → drive_count s.machine ≤ d → request_cancelled s d id ≡ s
unfolding request_cancelled
cancel_past s d id h l =
    let n : length s.images ≡ drive_count s.machine = h.images.count in
    let images : set s.images d (cancel_counted (image_at s d) (drive_at s.machine d).queue id) ≡ s.images = set_past s.images d _ (omega (arith, n, l)) in
    let drives : set s.machine.drives d (record (drive_at s.machine d) { queue = cancelled (drive_at s.machine d).queue id }) ≡ s.machine.drives = set_past s.machine.drives d _ l in
    ap (λ (xs : List DiskImage). record (with_machine s (with_queue s.machine d (cancelled (drive_at s.machine d).queue id))) { images = xs }) images
    ∙ ap (λ (xs : List Drive). with_machine s (record s.machine { drives = xs })) drives

cancel_inside : (s : State) (d id : ℕ) → IsSoundState s → d < drive_count s.machine → IsSoundState (request_cancelled s d id)
unfolding request_cancelled cancelled
cancel_inside s d id h l = cancel_within s d id (some_request (drive_at s.machine d).queue id is_waiting) h l refl

pub keeps_cancel : (s : State) (d id : ℕ) → IsSoundState s → IsSoundState (request_cancelled s d id)
keeps_cancel s d id h =
    elim (cases_lt d (drive_count s.machine)) [
      | inl within ↦ cancel_inside s d id h within
      | inr past ↦ subst (λ (t : State). IsSoundState t) (sym (cancel_past s d id h past)) h
    ]

-- ---- Resume

paused_meet : (m : MachineState) (b : Bool) (x : Option Meeting) → MeetFits m x → MeetFits (record m { pause = b }) x
paused_meet m b None f = f
paused_meet m b (Some x) f = record { named = f.named; waits = f.waits }

resumed : (s : State) → IsSoundState s → IsAlmost (with_machine s (record s.machine { pause = false }))
resumed s h = record {
  machine = keeps_pause s.machine false h.machine;
  seats = record { count = h.seats.count; each = h.seats.each };
  meet = paused_meet s.machine false s.machine.meet h.meet;
  images = record { count = h.images.count; each = λ d l. subst (λ (n : ℕ). ImageFits n (drive_at s.machine d) (image_at s d)) (sym (first_paused s.machine false d)) (h.images.each d l) };
  counts = record { granted = h.counts.granted; limit = h.counts.limit; seen = h.counts.seen; pages = h.counts.pages; versions = h.counts.versions; script = h.counts.script; answers = h.counts.answers };
}

-- ---- the order

-- what an order leaves of a run
record Leaves (s t : State) (o : Order) : Type 0 where
  almost : IsAlmost t
  cpus : cpu_count t.machine ≡ cpu_count s.machine
  meet : t.machine.meet ≡ s.machine.meet
  pause : t.machine.pause ≡ pause_after s.machine.pause o
  place : t.place ≡ s.place
  script : t.script ≡ s.script

same_state : (s : State) (o : Order) → IsSoundState s → pause_after s.machine.pause o ≡ s.machine.pause → Leaves s s o
same_state s o h e = record { almost = almost s h; cpus = refl; meet = refl; pause = sym e; place = refl; script = refl }

cancel_leaves : (s : State) (d id : ℕ) → IsSoundState s → Leaves s (request_cancelled s d id) (Cancel d id)
unfolding request_cancelled
cancel_leaves s d id h = record { almost = almost _ (keeps_cancel s d id h); cpus = refl; meet = refl; pause = refl; place = refl; script = refl }

nmi_leaves : (s : State) (i : ℕ) → IsSoundState s → Leaves s (ordered s (Nmi i)) (Nmi i)
unfolding ordered
nmi_leaves s i h = record { almost = almost _ (keeps_nmi s i h); cpus = simp length-set; meet = refl; pause = refl; place = refl; script = refl }

set_leaves : (s : State) (i reg value : ℕ) → IsSoundState s → Leaves s (ordered s (Set i reg value)) (Set i reg value)
unfolding ordered
set_leaves s i reg value h = record { almost = almost _ (keeps_set s i reg value h); cpus = simp length-set; meet = refl; pause = refl; place = refl; script = refl }

leaves : (s : State) (o : Order) → IsSoundState s → Leaves s (ordered s o) o
unfolding ordered
leaves s (Nmi i) h = nmi_leaves s i h
leaves s (Cancel d id) h = cancel_leaves s d id h
leaves s (Set i reg value) h = set_leaves s i reg value h
leaves s Resume h = record { almost = resumed s h; cpus = refl; meet = refl; pause = refl; place = refl; script = refl }
leaves s WaitQuiet h = same_state s WaitQuiet h refl
leaves s (WaitConsole n) h = same_state s (WaitConsole n) h refl
leaves s (WaitExecuted n) h = same_state s (WaitExecuted n) h refl
leaves s (Input bytes) h = same_state s (Input bytes) h refl
leaves s Rendezvous h = same_state s Rendezvous h refl
leaves s Pause h = same_state s Pause h refl
leaves s (Checkpoint name) h = same_state s (Checkpoint name) h refl
leaves s (Against name base) h = same_state s (Against name base) h refl
leaves s (Send name) h = same_state s (Send name) h refl
leaves s (Get i reg) h = same_state s (Get i reg) h refl

-- a pause is done only while it is wished
pause_wished : (s : State) (o : Order) → is_met s o ≡ true → is_pause (Some o) ≡ true → s.machine.pause ≡ true
unfolding is_cut
pause_wished s Pause m e = (and_parts _ _ (and_parts _ _ (and_parts _ _ (and_parts _ _ m).0).0).0).0
pause_wished s WaitQuiet m e = absurd (true≢false (sym e))
pause_wished s (WaitConsole n) m e = absurd (true≢false (sym e))
pause_wished s (WaitExecuted n) m e = absurd (true≢false (sym e))
pause_wished s (Input bytes) m e = absurd (true≢false (sym e))
pause_wished s (Nmi i) m e = absurd (true≢false (sym e))
pause_wished s Rendezvous m e = absurd (true≢false (sym e))
pause_wished s Resume m e = absurd (true≢false (sym e))
pause_wished s (Checkpoint name) m e = absurd (true≢false (sym e))
pause_wished s (Against name base) m e = absurd (true≢false (sym e))
pause_wished s (Send name) m e = absurd (true≢false (sym e))
pause_wished s (Set i reg value) m e = absurd (true≢false (sym e))
pause_wished s (Get i reg) m e = absurd (true≢false (sym e))
pause_wished s (Cancel d id) m e = absurd (true≢false (sym e))

none_under_way : (x : Option Meeting) → is_none x ≡ true → samples_under_way x ≡ false
none_under_way None h = refl
none_under_way (Some x) h = absurd (true≢false (sym h))

rendezvous_over : (s : State) (o : Order) → is_rendezvous (Some o) ≡ true → is_met s o ≡ true → samples_under_way s.machine.meet ≡ false
rendezvous_over s Rendezvous e m = none_under_way s.machine.meet (and_parts s.begun (is_none s.machine.meet) m).1
rendezvous_over s WaitQuiet e m = absurd (true≢false (sym e))
rendezvous_over s (WaitConsole n) e m = absurd (true≢false (sym e))
rendezvous_over s (WaitExecuted n) e m = absurd (true≢false (sym e))
rendezvous_over s (Input bytes) e m = absurd (true≢false (sym e))
rendezvous_over s (Nmi i) e m = absurd (true≢false (sym e))
rendezvous_over s Pause e m = absurd (true≢false (sym e))
rendezvous_over s Resume e m = absurd (true≢false (sym e))
rendezvous_over s (Checkpoint name) e m = absurd (true≢false (sym e))
rendezvous_over s (Against name base) e m = absurd (true≢false (sym e))
rendezvous_over s (Send name) e m = absurd (true≢false (sym e))
rendezvous_over s (Set i reg value) e m = absurd (true≢false (sym e))
rendezvous_over s (Get i reg) e m = absurd (true≢false (sym e))
rendezvous_over s (Cancel d id) e m = absurd (true≢false (sym e))

-- no meeting for samples is open once an order is done, where one is open only for a rendezvous that comes next
closed_by : (s : State) (o : Order) → IsSoundState s → (s.begun ≡ true → is_rendezvous (Some o) ≡ true) → is_met s o ≡ true → samples_under_way s.machine.meet ≡ false
closed_by s o h begun m =
    elim (cases_Bool (samples_under_way s.machine.meet)) [
      | inl under ↦ rendezvous_over s o (begun (h.samples.opened under)) m
      | inr shut ↦ shut
    ]

order_keeps : (s : State) (o : Order) (said : Said) → IsSoundState s → s.ended ≡ None → slice_get s.script s.place ≡ Some o → (s.begun ≡ true → is_rendezvous (Some o) ≡ true) → is_met s o ≡ true
    → IsSoundState (noted (ordered s o) o said)
order_keeps s o said h going next begun m =
    let t : State = ordered s o in
    let k = leaves s o h in
    let stands = h.script going in
    let orders : OrdersFit (cpu_count s.machine) (pause_after s.machine.pause o) (drop (s.place + 1) s.script) =
    go_on (cpu_count s.machine) s.machine.pause o (drop (s.place + 1) s.script) (pause_wished s o m)
    (subst (λ (os : List Order). OrdersFit (cpu_count s.machine) s.machine.pause os) (drop_here s.script s.place o next) stands.orders) in
    keeps_noted t o said k.almost (ap samples_under_way k.meet ∙ closed_by s o h begun m)
    (subst (λ (n : ℕ). n < length t.script) (sym k.place) (subst (λ (os : List Order). s.place < length os) (sym k.script) stands.within))
    (subst (λ (n : ℕ). OrdersFit n t.machine.pause (drop (t.place + 1) t.script)) (sym k.cpus)
    (subst (λ (b : Bool). OrdersFit (cpu_count s.machine) b (drop (t.place + 1) t.script)) (sym k.pause)
    (subst (λ (n : ℕ). OrdersFit (cpu_count s.machine) (pause_after s.machine.pause o) (drop (n + 1) t.script)) (sym k.place)
    (subst (λ (os : List Order). OrdersFit (cpu_count s.machine) (pause_after s.machine.pause o) (drop (s.place + 1) os)) (sym k.script) orders))))

pub record DoneTells (s : State) : Type 0 where
  pub going : s.ended ≡ None
  pub ready : is_ready s (next_order s) ≡ true

pub done_tells : (s : State) (p k : ℕ) → may_done s p k ≡ true → DoneTells s
unfolding may_done
done_tells s p k m =
    let a = and_parts _ _ m in
    let b = and_parts _ _ a.0 in
    record { going = none_is s.ended b.1; ready = a.1 }

done_with : (s : State) (o : Option Order) → IsSoundState s → s.ended ≡ None → slice_get s.script s.place ≡ o → (s.begun ≡ true → is_rendezvous o ≡ true) → is_ready s o ≡ true
    → IsSoundState (noted_as (ordered_as s o) o (said_as s o))
done_with s None h going next begun m = absurd (true≢false (sym m))
done_with s (Some o) h going next begun m = order_keeps s o (said_to s o) h going next begun m

pub keeps_done : (s : State) (p k : ℕ) → IsSoundState s → may_done s p k ≡ true → IsSoundState (after_done s)
unfolding after_done next_order
keeps_done s p k h m =
    let t = done_tells s p k m in
    done_with s (next_order s) h t.going refl (λ e. ap is_rendezvous (h.samples.asked e)) t.ready

-- ---- what is there of what the next order names

names_in : (cpus : ℕ) (pause : Bool) (o : Order) (os : List Order) → OrdersFit cpus pause (o ∷ os) → Names cpus o
names_in cpus false WaitQuiet os h = tt
names_in cpus false (WaitConsole n) os h = tt
names_in cpus false (WaitExecuted n) os h = tt
names_in cpus false (Input bytes) os h = tt
names_in cpus false (Nmi i) os h = h.1.1
names_in cpus false Rendezvous os h = tt
names_in cpus false Pause os h = tt
names_in cpus false Resume os h = tt
names_in cpus false (Checkpoint name) os h = tt
names_in cpus false (Against name base) os h = tt
names_in cpus false (Send name) os h = tt
names_in cpus false (Set i reg value) os h = absurd h.1
names_in cpus false (Get i reg) os h = absurd h.1
names_in cpus false (Cancel d id) os h = tt
names_in cpus true WaitQuiet os (inl h) = tt
names_in cpus true (WaitConsole n) os (inl h) = tt
names_in cpus true (WaitExecuted n) os (inl h) = tt
names_in cpus true (Input bytes) os (inl h) = tt
names_in cpus true (Nmi i) os (inl h) = h.1.1
names_in cpus true Rendezvous os (inl h) = tt
names_in cpus true Pause os (inl h) = tt
names_in cpus true Resume os (inl h) = tt
names_in cpus true (Checkpoint name) os (inl h) = tt
names_in cpus true (Against name base) os (inl h) = tt
names_in cpus true (Send name) os (inl h) = tt
names_in cpus true (Set i reg value) os (inl h) = (h.1.1, h.1.2)
names_in cpus true (Get i reg) os (inl h) = (h.1.1, h.1.2)
names_in cpus true (Cancel d id) os (inl h) = tt
names_in cpus true WaitQuiet os (inr h) = tt
names_in cpus true (WaitConsole n) os (inr h) = tt
names_in cpus true (WaitExecuted n) os (inr h) = tt
names_in cpus true (Input bytes) os (inr h) = tt
names_in cpus true (Nmi i) os (inr h) = absurd (true≢false (sym h.0))
names_in cpus true Rendezvous os (inr h) = tt
names_in cpus true Pause os (inr h) = tt
names_in cpus true Resume os (inr h) = tt
names_in cpus true (Checkpoint name) os (inr h) = tt
names_in cpus true (Against name base) os (inr h) = tt
names_in cpus true (Send name) os (inr h) = tt
names_in cpus true (Set i reg value) os (inr h) = absurd (true≢false (sym h.0))
names_in cpus true (Get i reg) os (inr h) = absurd (true≢false (sym h.0))
names_in cpus true (Cancel d id) os (inr h) = tt

names_with : (s : State) (o : Option Order) → IsSoundState s → s.ended ≡ None → slice_get s.script s.place ≡ o → NamesNext (cpu_count s.machine) o
names_with s None h going e = tt
names_with s (Some o) h going e =
    names_in (cpu_count s.machine) s.machine.pause o (drop (s.place + 1) s.script)
    (subst (λ (os : List Order). OrdersFit (cpu_count s.machine) s.machine.pause os) (drop_here s.script s.place o e) (h.script going).orders)

pub names_next : (s : State) (p k : ℕ) → IsSoundState s → may_done s p k ≡ true → NamesNext (cpu_count s.machine) (next_order s)
unfolding next_order
names_next s p k h m = names_with s (next_order s) h (done_tells s p k m).going refl

-- an order leaves which order comes next
pub next_after : (s : State) (o : Option Order) → IsSoundState s → next_order (ordered_as s o) ≡ next_order s
unfolding next_order
next_after s None h = refl
next_after s (Some o) h =
    let k = leaves s o h in
    ap (λ (n : ℕ). slice_get (ordered s o).script n) k.place ∙ ap (λ (os : List Order). slice_get os s.place) k.script

-- the order that comes next is one of the script's, of which there are few, also after what it does
pub record StillNext (s : State) (o : Option Order) : Type 0 where
  pub within : (ordered_as s o).place < length (ordered_as s o).script
  pub few : length (ordered_as s o).script ≤ 10001

still_with : (s : State) (o : Option Order) → IsSoundState s → s.place < length s.script → StillNext s o
still_with s None h l = record { within = l; few = h.counts.script }
still_with s (Some o) h l =
    let k = leaves s o h in
    record {
      within = subst (λ (n : ℕ). n < length (ordered s o).script) (sym k.place) (subst (λ (os : List Order). s.place < length os) (sym k.script) l);
      few = subst (λ (os : List Order). length os ≤ 10001) (sym k.script) h.counts.script;
    }

pub still_next : (s : State) (p k : ℕ) → IsSoundState s → may_done s p k ≡ true → StillNext s (next_order s)
still_next s p k h m = still_with s (next_order s) h (h.script (done_tells s p k m).going).within
