-- What holds of every run is kept by Step.
use Rattle.std.specs.Prelude.{Option, Some, None, Result, Ok, Err, ◌/◌, ◌==◌, min, nat_le, if◌then◌else◌}
use Rattle.std.proofs.Common.{◌≡◌, ℕ, ◌+◌, ◌-◌, ◌≤◌, ◌≢◌, Bool, true, false, List, length, get_or, refl, sym, subst, arith, inl, inr, ◌∙◌}
use Rattle.std.proofs.lemmas.Bool.{cases_eq, cases_lt}
use Rattle.std.proofs.lemmas.Bool.Decides.{nat_tests}
use Rattle.std.proofs.lemmas.List.{get_or-set_other, length-set, set_past}
use Rattle.std.proofs.lemmas.Grind.{get_or-set_at}
use Rattle.vm_law.specs.declared.context.Ctx.{Ctx}
use Rattle.vm_law.specs.declared.context.Stop.{Stop}
use Rattle.vm_law.specs.declared.context.Stop.TheVariants as stop
use Rattle.vm_law.specs.declared.insn.Insn.{Insn}
use Rattle.x86_exec.specs.declared.effect.Effect.{Effect}
use Rattle.x86_exec.specs.declared.effect.Effect.TheVariants as effect
use Rattle.x86_exec.specs.declared.effect.Stored.{Stored}
use Rattle.x86_exec.specs.Shared as exec
use Rattle.x86_exec.proofs.Stores.{shared_keeps_size}
use Rattle.x86_fetch.specs.declared.fetching.Next.{Next}
use Rattle.x86_fetch.specs.declared.fetching.Next.TheVariants.{Local, Shared, Undefined, OutOfCode}
use Rattle.x86_trap.specs.Delivery.{delivered, Delivered}
use Rattle.vm_devices.specs.Ports.{port_read, port_written, port_output}
use Rattle.vm_devices.specs.Windows.{window_written}
use Rattle.vm_devices.proofs.Counts.{Leaves, count_read, count_written, window_leaves}
use Rattle.vm_devices.proofs.KeptMemory.{keeps_run_memory}
use Rattle.vm_devices.proofs.KeptAccess.{keeps_port_read, keeps_port_written, keeps_written}
use Rattle.vm_state.specs.Machine.{cpu_at}
use Rattle.vm_state.specs.State.{State, next_order, one_more, touched, versions_after, with_machine}
use Rattle.vm_state.specs.Sound.{IsSoundState}
use Rattle.vm_running.specs.Slice.{spent}
use Rattle.vm_running.specs.Spending.{CanSpend}
use Rattle.vm_running.specs.Step.{next_at, may_step, stepped_to, with_ram, printed, after_trap, trapped, port_in, port_out, window_load, window_store, performed_as, performed, after_step}
use Rattle.vm_running.proofs.Spends.{spends_on, step_spends, may_has}
use Rattle.vm_running.proofs.Computing.{HasFlags}
use Rattle.vm_running.proofs.Fitting.{DeliveryFits, delivery_fits, shared_fits, completed_fits}
use Rattle.vm_running.proofs.Keeps.{keeps_stopped, keeps_executed, ram_small}

-- ---- one instruction

pub keeps_stepped : (s : State) (i : ℕ) (c : Ctx) (halted : Bool) → IsSoundState s → CanSpend s i → HasFlags c → IsSoundState (stepped_to s i c halted)
unfolding stepped_to
keeps_stepped s i c halted h can flags = keeps_executed s i 1 c halted h can.seat (omega arith) can.left flags

-- a change that leaves seats and counts comes before it
after_change : (s t : State) (i : ℕ) (c : Ctx) → Leaves s t → IsSoundState t → CanSpend s i → HasFlags c → IsSoundState (stepped_to t i c false)
after_change s t i c leaves h can flags = keeps_stepped t i c false h (spends_on s t i leaves can) flags

-- ---- the console and the versions of pages are read by no other fact

keeps_console : (s : State) (bytes : List ℕ) → IsSoundState s → IsSoundState (record s { console = bytes })
unfolding next_order
keeps_console s bytes h = record {
  machine = h.machine;
  seats = h.seats;
  meet = h.meet;
  images = h.images;
  counts = (let c = h.counts in record { granted = c.granted; limit = c.limit; seen = c.seen; pages = c.pages; versions = c.versions; script = c.script; answers = c.answers });
  samples = (let x = h.samples in record { opened = x.opened; asked = x.asked; few = x.few; none = x.none });
  script = h.script;
}

keeps_versions : (s : State) (versions : List ℕ) → length versions ≡ length s.versions → ((page : ℕ) → get_or versions page 0 ≤ s.executed) → IsSoundState s
    → IsSoundState (record s { versions = versions })
unfolding next_order
keeps_versions s versions long below h = record {
  machine = h.machine;
  seats = h.seats;
  meet = h.meet;
  images = h.images;
  counts = (let c = h.counts in record { granted = c.granted; limit = c.limit; seen = c.seen; pages = long ∙ c.pages; versions = below; script = c.script; answers = c.answers });
  samples = (let x = h.samples in record { opened = x.opened; asked = x.asked; few = x.few; none = x.none });
  script = h.script;
}

-- ---- a store counts once in the version of each page that it touches

pub record CountsOnce (old new : List ℕ) : Type 0 where
  pub long : length new ≡ length old
  pub each : (page : ℕ) → get_or new page 0 ≤ get_or old page 0 + 1

counts_none : (versions : List ℕ) → CountsOnce versions versions
counts_none versions = record { long = refl; each = λ page. omega arith }

-- what stands at a page after it counted
more_same : (versions : List ℕ) (first : ℕ) → get_or (one_more versions first) first 0 ≤ get_or versions first 0 + 1
more_same versions first =
    elim (cases_lt first (length versions)) [
      | inl within ↦ rw (get_or-set_at versions first first (get_or versions first 0 + 1) 0 refl within) (omega arith)
      | inr past ↦ rw (set_past versions first (get_or versions first 0 + 1) past) (omega arith)
    ]

counts_one : (versions : List ℕ) (first : ℕ) → CountsOnce versions (one_more versions first)
counts_one versions first = record {
  long = length-set versions first _;
  each = λ page. elim (cases_eq page first) [
    | inl same ↦ subst (λ (k : ℕ). get_or (one_more versions first) k 0 ≤ get_or versions k 0 + 1) (sym same) (more_same versions first)
    | inr other ↦ rw (get_or-set_other versions first page (get_or versions first 0 + 1) 0 other) (omega arith)
  ];
}

counts_two : (versions : List ℕ) (first last : ℕ) → (first == last) ≡ false → CountsOnce versions (one_more (one_more versions first) last)
counts_two versions first last apart =
    let next = one_more versions first in
    let once = counts_one versions first in
    let again = counts_one next last in
    record {
      long = again.long ∙ once.long;
      each = λ page. elim (cases_eq page last) [
        | inl same ↦
            let other : last ≢ first = λ e. absurd (grind (arith, nat_tests)) in
            let at : get_or next last 0 ≡ get_or versions last 0 = get_or-set_other versions first last (get_or versions first 0 + 1) 0 other in
            let more = again.each last in
            subst (λ (k : ℕ). get_or (one_more next last) k 0 ≤ get_or versions k 0 + 1) (sym same) (omega arith)
        | inr other ↦
            let before = once.each page in
            rw (get_or-set_other next last page (get_or next last 0 + 1) 0 other) before
      ];
    }

touched_if : (versions : List ℕ) (first last : ℕ) (a b : Bool) → (first == last) ≡ b
    → CountsOnce versions (if a then versions else if b then one_more versions first else one_more (one_more versions first) last)
touched_if versions first last true b e = counts_none versions
touched_if versions first last false true e = counts_one versions first
touched_if versions first last false false e = counts_two versions first last e

touched_once : (versions : List ℕ) (code : ℕ) (r : Stored) → CountsOnce versions (touched versions code r)
unfolding touched
touched_once versions code r = touched_if versions (r.at / 4096) ((min (r.at + r.len) code - 1) / 4096) (nat_le code r.at) (r.at / 4096 == (min (r.at + r.len) code - 1) / 4096) refl

after_once : (versions : List ℕ) (code : ℕ) (stored : Option Stored) → CountsOnce versions (versions_after versions code stored)
after_once versions code None = counts_none versions
after_once versions code (Some r) = touched_once versions code r

-- ---- each effect

stopped_or : (s : State) (i : ℕ) (d : Delivered) (r : Result (Unit {0}) Stop) → IsSoundState s → CanSpend s i → DeliveryFits (cpu_at s.machine i).ctx s.machine.ram d
    → IsSoundState (after_trap s i d r)
stopped_or s i d (Ok u) h can fits =
    after_change s (with_ram s d.memory) i d.ctx (record { cpus = refl; seats = refl; executed = refl }) (keeps_run_memory s d.memory h fits.size) can fits.flags
stopped_or s i d (Err why) h can fits = keeps_stopped s i why h

keeps_trapped : (s : State) (i rip v : ℕ) (error : Option ℕ) → IsSoundState s → CanSpend s i → IsSoundState (trapped s i rip v error)
unfolding trapped
keeps_trapped s i rip v error h can =
    let c : Ctx = record (cpu_at s.machine i).ctx { rip = rip } in
    let d = delivered c s.machine.ram v error false in
    let fits = delivery_fits c s.machine.ram v error false (ram_small s h) (h.machine.each_cpu i).flags in
    stopped_or s i d d.answer h can (record { flags = fits.flags; size = fits.size })

keeps_done : (s : State) (i : ℕ) (insn : Insn) (len : ℕ) → IsSoundState s → CanSpend s i
    → (let x = exec.shared (cpu_at s.machine i).ctx insn len s.machine.ram in
    IsSoundState (stepped_to (with_ram (record s { versions = versions_after s.versions s.machine.ram.code x.stored }) x.memory) i x.ctx false))
unfolding stepped_to spent
keeps_done s i insn len h can =
    let ctx = (cpu_at s.machine i).ctx in
    let x = exec.shared ctx insn len s.machine.ram in
    let once = after_once s.versions s.machine.ram.code x.stored in
    keeps_versions (stepped_to (with_ram s x.memory) i x.ctx false) (versions_after s.versions s.machine.ram.code x.stored) once.long
    (λ page. let more = once.each page in let before = h.counts.versions page in omega arith)
    (after_change s (with_ram s x.memory) i x.ctx (record { cpus = refl; seats = refl; executed = refl })
    (keeps_run_memory s x.memory h (shared_keeps_size ctx insn len s.machine.ram (ram_small s h))) can (shared_fits ctx insn len s.machine.ram (h.machine.each_cpu i).flags))

keeps_effect : (s : State) (p i : ℕ) (insn : Insn) (len : ℕ) (e : Effect) → IsSoundState s → CanSpend s i
    → IsSoundState (performed_as s p i insn len (exec.shared (cpu_at s.machine i).ctx insn len s.machine.ram) e)
unfolding performed_as port_in port_out window_load window_store
keeps_effect s p i insn len effect.Done h can = keeps_done s i insn len h can
keeps_effect s p i insn len effect.Halt h can = keeps_stepped s i _ true h can (shared_fits (cpu_at s.machine i).ctx insn len s.machine.ram (h.machine.each_cpu i).flags)
keeps_effect s p i insn len (effect.Trap v error) h can = keeps_trapped s i _ v error h can
keeps_effect s p i insn len (effect.Stop why) h can = keeps_stopped s i why h
keeps_effect s p i insn len (effect.PortIn port w) h can =
    after_change s (with_machine s (port_read s.machine port w)) i _ (record { cpus = count_read s.machine port w; seats = refl; executed = refl }) (keeps_port_read s port w h) can
    (completed_fits (cpu_at s.machine i).ctx insn len _ (h.machine.each_cpu i).flags)
keeps_effect s p i insn len (effect.PortOut port w value) h can =
    let t = with_machine s (port_written s.machine port w value) in
    after_change s (printed t (port_output s.machine port w value)) i _ (record { cpus = count_written s.machine port w value; seats = refl; executed = refl })
    (keeps_console t _ (keeps_port_written s port w value h)) can (shared_fits (cpu_at s.machine i).ctx insn len s.machine.ram (h.machine.each_cpu i).flags)
keeps_effect s p i insn len (effect.Load a) h can = keeps_stepped s i _ false h can (completed_fits (cpu_at s.machine i).ctx insn len _ (h.machine.each_cpu i).flags)
keeps_effect s p i insn len (effect.Store a value) h can =
    let long = h.seats.count in
    let seat = can.seat in
    after_change s (window_written s p i a value) i _ (window_leaves s p i a value) (keeps_written s p i a value h (omega arith)) can
    (shared_fits (cpu_at s.machine i).ctx insn len s.machine.ram (h.machine.each_cpu i).flags)

keeps_next : (s : State) (p i : ℕ) (x : Next) → IsSoundState s → CanSpend s i → IsSoundState (performed s p i x)
unfolding performed
keeps_next s p i (Local insn len) h can = h
keeps_next s p i (Shared insn len) h can = keeps_effect s p i insn len (exec.shared (cpu_at s.machine i).ctx insn len s.machine.ram).effect h can
keeps_next s p i Undefined h can = keeps_trapped s i _ 6 None h can
keeps_next s p i OutOfCode h can = keeps_stopped s i stop.Fetch h

pub keeps_step : (s : State) (p i : ℕ) → IsSoundState s → may_step s p i ≡ true → IsSoundState (after_step s p i)
unfolding after_step
keeps_step s p i h m = keeps_next s p i (next_at s i) h (step_spends s p i h (may_has s p i m))
