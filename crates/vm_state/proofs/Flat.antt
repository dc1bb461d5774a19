-- A machine in which a flat image is loaded is sound, and rests.
use Rattle.std.proofs.Common.{◌≡◌, ℕ, zero, suc, ◌+◌, ◌-◌, ◌<◌, ◌≤◌, Bool, true, false, List, [], ◌++◌, length, get_or, replicate, refl, sym, ap, subst, ◌∙◌, inl, inr, arith}
use Rattle.std.specs.Prelude.{◌==◌, nat_lt, map, if◌then◌else◌}
use Rattle.std.specs.List.{All, range_with_len}
use Rattle.std.proofs.lemmas.List.{length-append, length-replicate, get_or_past}
use Rattle.std.proofs.lemmas.List.Elements.{All-nil, All-get_or}
use Rattle.std.proofs.lemmas.List.FromFn.{length-map-range_with_len, get_or-map-range_with_len}
use Rattle.std.proofs.lemmas.Bool.{cases_lt, true≢false}
use Rattle.guest_ram.specs.GuestRam.{IsSize, IsSound as IsRam, loaded}
use Rattle.vm_law.specs.Image.{IsAllowed}
use Rattle.vm_law.specs.Memory.{Memory}
use Rattle.vm_law.specs.declared.image.FlatImage.{FlatImage}
use Rattle.vm_law.specs.declared.plan.DiskPlan.{DiskPlan}
use Rattle.vm_law.specs.declared.plan.Plan.{Plan}
use Rattle.vm_law.specs.declared.stage.Owned.TheVariants.{Idle}
use Rattle.x86_op.specs.Flow.{masked_flags}
use Rattle.vm_lapic.specs.Apic.{at_start}
use Rattle.vm_ioapic.specs.Pin.{pin_at_start}
use Rattle.vm_ioapic.specs.declared.pin.Pin.{Pin}
use Rattle.vm_ioapic.proofs.Sound.{each_start}
use Rattle.vm_vblk.specs.Window as window
use Rattle.vm_vblk.specs.Window.{IsState, LiesOver, line as window_line}
use Rattle.blk_queue.specs.Progress.{is_busy}
use Rattle.blk_queue.specs.Sound.{IsSound as IsQueue}
use Rattle.blk_queue.specs.Steps.{empty}
use Rattle.blk_queue.specs.declared.progress.Unfinished.{Unfinished}
use Rattle.vm_state.specs.declared.cpu.Cpu.{Cpu}
use Rattle.vm_state.specs.declared.drive.Drive.{Drive}
use Rattle.vm_state.specs.declared.start.Origin.TheVariants.{Flat}
use Rattle.vm_state.specs.Machine.{MachineState, ctx_from, no_drive, unstarted_cpu, uart_pin}
use Rattle.vm_state.specs.Requests.{capacity_of}
use Rattle.vm_state.specs.Sound.{IsCpu, IsMachine, IsDrive, RequestFits, AreTimers, ArePins, drive_line}
use Rattle.vm_state.specs.Start.{IsDisk, IsPlan, IsPlanned, no_plan, first_cpu, boot_cpus, boot_drive, planned_drive, boot_drives, boot_machine}
use Rattle.vm_state.proofs.First.{Rests, Holds, get_or_equal}

-- ---- vCPUs

bare_flags : masked_flags 2 ≡ 2
unfolding masked_flags
bare_flags = refl

unstarted_is_cpu : (i : ℕ) → IsCpu i (unstarted_cpu i)
unfolding unstarted_cpu ctx_from at_start
unstarted_is_cpu i = record { flags = bare_flags; waits = refl; unstarted = λ e. refl; number = refl }

first_is_cpu : (entry : ℕ) → IsCpu 0 (first_cpu entry)
unfolding unstarted_cpu ctx_from at_start
first_is_cpu entry = record { flags = bare_flags; waits = refl; unstarted = λ e. absurd (true≢false e); number = refl }

-- each vCPU but the first is as it is before it is started
other_at : (count entry k : ℕ) → get_or (boot_cpus count entry) (suc k) (unstarted_cpu (suc k)) ≡ unstarted_cpu (suc k)
other_at count entry k =
    elim (cases_lt k (count - 1)) [
      | inl l ↦ get_or-map-range_with_len unstarted_cpu 1 (count - 1) k (suc k) (unstarted_cpu (suc k)) l (omega arith)
      | inr past ↦ let e = length-map-range_with_len unstarted_cpu 1 (count - 1) in get_or_past (map unstarted_cpu (range_with_len 1 (count - 1))) k (unstarted_cpu (suc k)) (omega arith)
    ]

each_cpu : (count entry i : ℕ) → IsCpu i (get_or (boot_cpus count entry) i (unstarted_cpu i))
each_cpu count entry zero = first_is_cpu entry
each_cpu count entry (suc k) = subst (λ cpu. IsCpu (suc k) cpu) (sym (other_at count entry k)) (unstarted_is_cpu (suc k))

pub unstarted_idle : (i : ℕ) → (unstarted_cpu i).stage ≡ Idle
unfolding unstarted_cpu
unstarted_idle i = refl

each_idle : (count entry i : ℕ) → (get_or (boot_cpus count entry) i (unstarted_cpu i)).stage ≡ Idle
each_idle count entry zero = unstarted_idle 0
each_idle count entry (suc k) = ap (λ (cpu : Cpu). cpu.stage) (other_at count entry k) ∙ unstarted_idle (suc k)

pub cpus_long : (count entry : ℕ) → 1 ≤ count → length (boot_cpus count entry) ≡ count
cpus_long count entry some = let e = length-map-range_with_len unstarted_cpu 1 (count - 1) in omega arith

-- ---- drives

window_state : (sectors : ℕ) (ro : Bool) → IsState (window.at_start sectors ro)
window_state sectors ro = record { size = refl; ready = λ e. absurd (true≢false (sym e)); interrupt = omega arith; notified = λ e. absurd (true≢false (sym e)) }

empty_queue : IsQueue (empty 0)
empty_queue = record { few = omega arith; next = omega arith; ids = omega arith; requests = tt }

drive_is_sound : (memory : Memory) (plan : DiskPlan) (bytes : List ℕ) → IsPlanned plan → IsDisk bytes → IsDrive memory (boot_drive plan bytes)
drive_is_sound memory plan bytes p b = record {
  some_worker = p.some_worker;
  workers = p.workers;
  some_sector = b.some;
  sectors = b.most;
  whole = b.whole;
  ro = refl;
  capacity = refl;
  registers = window_state (capacity_of bytes) plan.ro;
  tables = λ e. absurd (true≢false (sym e));
  queue = empty_queue;
  requests = All-nil (RequestFits memory (boot_drive plan bytes));
}

drive_at_start : (plans : List DiskPlan) (disks : List (List ℕ)) (d : ℕ) → d < length (boot_drives plans disks)
    → (get_or (boot_drives plans disks) d no_drive ≡ planned_drive plans disks d) × (d < length plans)
drive_at_start plans disks d l =
    let e = length-map-range_with_len (planned_drive plans disks) 0 (length plans) in
    (get_or-map-range_with_len (planned_drive plans disks) 0 (length plans) d d no_drive (omega arith) (omega arith), omega arith)

-- ---- pins: no line is asserted

if_zero : (b : Bool) (n : ℕ) → n ≡ 0 → (if b then 0 else n) ≡ 0
if_zero true n e = refl
if_zero false n e = e

line_at_start : (plans : List DiskPlan) (disks : List (List ℕ)) (a n d : ℕ) → drive_line (map (planned_drive plans disks) (range_with_len a n)) d ≡ 0
line_at_start plans disks a zero d = refl
line_at_start plans disks a (suc n) d = if_zero (d == 0) _ (line_at_start plans disks (a + 1) n (d - 1))

pins_at_start : (plan : Plan) (disks : List (List ℕ)) (image : FlatImage) → ArePins (boot_machine plan disks (Flat image))
pins_at_start plan disks image pin l =
    ap (λ (p : Pin). p.count) (get_or_equal 32 pin pin_at_start)
    ∙ sym (if_zero (pin == uart_pin) _ (if_zero (nat_lt pin 16) _ (line_at_start plan.disks disks 0 (length plan.disks) (pin - 16))))

-- ---- all of it

ram_is_sound : (size : ℕ) (image : FlatImage) → IsSize size → IsAllowed size image → IsRam (loaded size image)
ram_is_sound size image s a =
    let long : length (image.payload ++ replicate (size - length image.payload) 0) ≡ size =
    let e = length-append {A = ℕ} image.payload (replicate (size - length image.payload) 0) in
    let f = length-replicate {A = ℕ} (size - length image.payload) 0 in
    let fits = a.fits in omega arith
    in
    let within = a.within in
    let fits = a.fits in
    record { size = subst IsSize (sym long) s; code = omega arith }

timers_at_start : (m : MachineState) → m.timers ≡ replicate 16 0 → AreTimers m m.timers
timers_at_start m e = subst (λ timers. AreTimers m timers) (sym e) (record {
  count = length-replicate {A = ℕ} 16 0;
  disarmed = λ i off. get_or_equal {X = ℕ} 16 i 0;
})

pub flat_is_sound : (plan : Plan) (disks : List (List ℕ)) (image : FlatImage) → IsPlan plan → length disks ≡ length plan.disks → All IsDisk disks
    → IsAllowed plan.memory image → IsMachine (boot_machine plan disks (Flat image))
flat_is_sound plan disks image p count each a =
    let long = cpus_long plan.cpus image.entry p.some_cpu in
    let some = p.some_cpu in
    let most = p.cpus in
    let some_code = a.some_code in
    let drives = length-map-range_with_len (planned_drive plan.disks disks) 0 (length plan.disks) in
    let few = p.disks in
    record {
      some_cpu = omega arith;
      cpus = omega arith;
      first = refl;
      each_cpu = each_cpu plan.cpus image.entry;
      ram = ram_is_sound plan.memory image p.memory a;
      some_code = omega arith;
      code = a.small_code;
      ioapic = record { id = omega arith; long = length-replicate 32 pin_at_start; each = each_start 32 };
      uart = record { ier = omega arith; fcr = omega arith; received = omega arith };
      pins = pins_at_start plan disks image;
      drives = omega arith;
      each_drive = λ d l.
          let t = drive_at_start plan.disks disks d l in
          let inside = t.1 in
          subst (λ drive. IsDrive (loaded plan.memory image) drive) (sym t.0)
          (drive_is_sound (loaded plan.memory image) (get_or plan.disks d no_plan) (get_or disks d []) (All-get_or IsPlanned plan.disks d no_plan inside p.each_disk) (All-get_or IsDisk disks d [] (omega arith) each));
      timers = timers_at_start (boot_machine plan disks (Flat image)) refl;
    }

pub flat_rests : (plan : Plan) (disks : List (List ℕ)) (image : FlatImage) → Rests (boot_machine plan disks (Flat image))
flat_rests plan disks image = record {
  stage = λ i. inl (each_idle plan.cpus image.entry i);
  meet = refl;
  workers = λ d l.
      let t = drive_at_start plan.disks disks d l in
      subst (λ (drive : Drive). All (λ (x : Unfinished). is_busy x ≡ false) drive.queue.requests) (sym t.0) (All-nil (λ (x : Unfinished). is_busy x ≡ false));
}

pub flat_holds : (plan : Plan) (disks : List (List ℕ)) (image : FlatImage) → length disks ≡ length plan.disks → Holds (boot_machine plan disks (Flat image)) disks
flat_holds plan disks image count = record {
  count = let e = length-map-range_with_len (planned_drive plan.disks disks) 0 (length plan.disks) in omega arith;
  each = λ d l. ap (λ (drive : Drive). drive.bytes) (drive_at_start plan.disks disks d l).0;
}
