-- What an access to a port or to a device's window leaves as it is.
use Rattle.std.proofs.Common.{◌≡◌, ℕ, Bool, true, false, List, length, get_or, set, refl, sym, ap, subst, ◌∙◌, inl, inr, ◌⊎◌, Option, Some, None}
use Rattle.std.specs.Prelude.{◌==◌, if◌then◌else◌}
use Rattle.std.specs.Option.{option_to_list, option_map_or}
use Rattle.std.proofs.Math.ListN.{length-set}
use Rattle.std.proofs.lemmas.List.{get_or-set_other, set_past}
use Rattle.std.proofs.lemmas.Bool.{cases_eq, cases_lt}
use Rattle.std.proofs.lemmas.Grind.{get_or-set_at}
use Rattle.vm_bus.specs.declared.area.Area.{Area}
use Rattle.vm_bus.specs.declared.area.Area.TheVariants as area
use Rattle.vm_vectors.specs.Vectors.{Vectors, has}
use Rattle.vm_lapic.specs.declared.effect.Posted.TheVariants.{Set}
use Rattle.vm_lapic.specs.declared.effect.LapicEffect.{LapicEffect}
use Rattle.vm_lapic.specs.declared.effect.LapicEffect.TheVariants as lapic
use Rattle.vm_lapic.specs.declared.register.Register.{Register}
use Rattle.vm_lapic.specs.declared.register.Register.TheVariants as register
use Rattle.vm_lapic.specs.Apic.{Apic, post_answer, ended, without}
use Rattle.vm_lapic.specs.Window as lapic_window
use Rattle.vm_lapic.specs.Window.{offset_of}
use Rattle.vm_ioapic.specs.Ioapic.{selected, after_write, change}
use Rattle.vm_uart.specs.Uart as uart
use Rattle.vm_vblk.specs.declared.pulled.WindowEffect.{WindowEffect}
use Rattle.vm_vblk.specs.declared.pulled.WindowEffect.TheVariants as effect
use Rattle.vm_vblk.specs.Window as window
use Rattle.blk_queue.specs.Queue.{Queue}
use Rattle.blk_queue.specs.Steps.{emptied}
use Rattle.vm_state.specs.declared.cpu.Cpu.{Cpu}
use Rattle.vm_state.specs.declared.drive.Drive.{Drive}
use Rattle.vm_state.specs.declared.image.DiskImage.{DiskImage}
use Rattle.vm_state.specs.Machine.{MachineState, cpu_at, cpu_count, with_cpu, drive_at, drive_count, with_drive, is_drive, no_drive, unstarted_cpu, drive_pin, uart_pin}
use Rattle.vm_state.specs.State.{State, image_at, no_image, lag_of, with_image, with_machine}
use Rattle.vm_devices.specs.Timers.{armed}
use Rattle.vm_devices.specs.Ports.{with_serial, read_at, written_at, offset_of as port_offset, port_read, port_written}
use Rattle.vm_devices.specs.Messages.{level_ended}
use Rattle.vm_devices.specs.Windows.{lapic_followed, lapic_kept, lapic_written, reroutes, routing_opened, ioapic_written, with_window, queue_emptied, register_followed, drive_written, window_written}
use Rattle.vm_laws.proofs.Heard.{CpuHeard, Hears, cpu_set, hears_itself, hears_sent, hears_all_sent, hears_level_ended, hears_followed}

-- ---- of a vCPU: an access requests vectors by posts that were accepted

pub record CpuAccessed (c d : Cpu) : Type 0 where
  pub stage : d.stage ≡ c.stage
  pub ctx : d.ctx ≡ c.ctx
  pub started : d.started ≡ c.started
  pub halted : d.halted ≡ c.halted
  pub tmr : d.lapic.tmr ≡ c.lapic.tmr
  pub keeps : (v : ℕ) → has c.lapic.irr v ≡ true → has d.lapic.irr v ≡ true
  pub sets : (v : ℕ) → has d.lapic.irr v ≡ true → (has c.lapic.irr v ≡ true) ⊎ (post_answer c.lapic v ≡ Set)

pub cpu_accessed : (c d : Cpu) → CpuHeard c d → CpuAccessed c d
cpu_accessed c d h = record { stage = h.stage; ctx = h.ctx; started = h.started; halted = h.halted; tmr = ap (λ (x : Apic). x.tmr) h.lapic.rest; keeps = h.lapic.keeps; sets = h.lapic.sets }

pub cpu_same : (c : Cpu) → CpuAccessed c c
cpu_same c = record { stage = refl; ctx = refl; started = refl; halted = refl; tmr = refl; keeps = λ v h. h; sets = λ v h. inl h }

-- ---- of a machine: drives keep their bytes and workers

pub record DriveAccessed (c d : Drive) : Type 0 where
  pub bytes : d.bytes ≡ c.bytes
  pub workers : d.workers ≡ c.workers
  pub queue : (d.queue ≡ c.queue) ⊎ (d.queue ≡ emptied c.queue)

pub drive_same : (c : Drive) → DriveAccessed c c
drive_same c = record { bytes = refl; workers = refl; queue = inl refl }

pub record MachineAccessed (m n : MachineState) : Type 0 where
  pub count : cpu_count n ≡ cpu_count m
  pub each : (i : ℕ) → CpuAccessed (cpu_at m i) (cpu_at n i)
  pub ram : n.ram ≡ m.ram
  pub pause : n.pause ≡ m.pause
  pub drives : drive_count n ≡ drive_count m
  pub drive : (d : ℕ) → DriveAccessed (drive_at m d) (drive_at n d)

pub machine_heard : (m n : MachineState) → Hears m n → MachineAccessed m n
machine_heard m n h = record {
  count = h.count;
  each = λ i. cpu_accessed (cpu_at m i) (cpu_at n i) (h.each i);
  ram = h.ram;
  pause = h.pause;
  drives = ap (λ (ds : List Drive). length ds) h.drives;
  drive = λ d. subst (λ (ds : List Drive). DriveAccessed (drive_at m d) (get_or ds d no_drive)) (sym h.drives) (drive_same (drive_at m d));
}

pub machine_same : (m : MachineState) → MachineAccessed m m
machine_same m = machine_heard m m (hears_itself m)

-- ---- of a run

pub record ImageAccessed (x y : DiskImage) : Type 0 where
  pub bytes : y.bytes ≡ x.bytes
  pub doubt : y.doubt ≡ x.doubt
  pub holder : y.holder ≡ x.holder

pub image_same : (x : DiskImage) → ImageAccessed x x
image_same x = record { bytes = refl; doubt = refl; holder = refl }

pub record Accessed (s t : State) : Type 0 where
  pub machine : MachineAccessed s.machine t.machine
  pub seats : t.seats ≡ s.seats
  pub images : length t.images ≡ length s.images
  pub image : (d : ℕ) → ImageAccessed (image_at s d) (image_at t d)
  pub versions : t.versions ≡ s.versions
  pub executed : t.executed ≡ s.executed
  pub seen : t.seen ≡ s.seen
  pub limit : t.limit ≡ s.limit
  pub input : t.input ≡ s.input
  pub ended : t.ended ≡ s.ended
  pub closed : t.closed ≡ s.closed

pub accessed_machine : (s : State) (m : MachineState) → MachineAccessed s.machine m → Accessed s (with_machine s m)
accessed_machine s m h = record { machine = h; seats = refl; images = refl; image = λ d. image_same (image_at s d); versions = refl; executed = refl; seen = refl; limit = refl; input = refl; ended = refl; closed = refl }

-- ---- the serial port

serial_accessed : (m : MachineState) (u : uart.Serial) → MachineAccessed m (with_serial m u)
unfolding with_serial
serial_accessed m u =
    let h = hears_followed (record m { uart = u }) uart_pin (uart.line m.uart) (uart.line u) in
    let k = machine_heard (record m { uart = u }) _ h in
    record { count = k.count; each = k.each; ram = k.ram; pause = k.pause; drives = k.drives; drive = k.drive }

read_accessed : (m : MachineState) (at : Option ℕ) → MachineAccessed m (read_at m at)
read_accessed m None = machine_same m
read_accessed m (Some offset) = serial_accessed m _

written_accessed : (m : MachineState) (at : Option ℕ) (value : ℕ) → MachineAccessed m (written_at m at value)
written_accessed m None value = machine_same m
written_accessed m (Some offset) value = serial_accessed m _

pub serial_with : (m : MachineState) (u : uart.Serial) → MachineAccessed m (with_serial m u)
serial_with m u = serial_accessed m u

-- ---- the local APIC of vCPU i

-- a write of a register leaves requested vectors and trigger modes, and changes whether it is enabled only where it has no effect beyond
pub record Written (l k : Apic) : Type 0 where
  pub irr : k.irr ≡ l.irr
  pub tmr : k.tmr ≡ l.tmr

written_itself : (l : Apic) → Written l l
written_itself l = record { irr = refl; tmr = refl }

ended_written : (l : Apic) (v : Option ℕ) → Written l (without l v)
ended_written l None = written_itself l
ended_written l (Some v) = record { irr = refl; tmr = refl }

register_written_as : (l : Apic) (value : ℕ) (r : Register) → Written l (lapic_window.after_write l value r)
unfolding lapic_window.after_write ended
register_written_as l value register.Tpr = record { irr = refl; tmr = refl }
register_written_as l value register.Eoi = ended_written l _
register_written_as l value register.Svr = record { irr = refl; tmr = refl }
register_written_as l value register.IcrLow = record { irr = refl; tmr = refl }
register_written_as l value register.IcrHigh = record { irr = refl; tmr = refl }
register_written_as l value register.LvtTimer = record { irr = refl; tmr = refl }
register_written_as l value register.InitialCount = record { irr = refl; tmr = refl }
register_written_as l value register.DivideConfiguration = record { irr = refl; tmr = refl }
register_written_as l value r = written_itself l

-- beside its effect: the APIC is as enabled as before, or nothing goes out
abbrev IsQuietOrSame : Apic → Apic → LapicEffect → Type 0
IsQuietOrSame l k e = (k.svr ≡ l.svr) ⊎ (e ≡ lapic.Nothing)

ended_svr : (l : Apic) (v : Option ℕ) → (without l v).svr ≡ l.svr
ended_svr l None = refl
ended_svr l (Some v) = refl

register_svr : (l : Apic) (value : ℕ) (r : Register) → IsQuietOrSame l (lapic_window.after_write l value r) (lapic_window.write_effect l value r)
unfolding lapic_window.after_write lapic_window.write_effect ended
register_svr l value register.Tpr = inl refl
register_svr l value register.Eoi = inl (ended_svr l _)
register_svr l value register.Svr = inr refl
register_svr l value register.IcrLow = inl refl
register_svr l value register.IcrHigh = inl refl
register_svr l value register.LvtTimer = inl refl
register_svr l value register.InitialCount = inl refl
register_svr l value register.DivideConfiguration = inl refl
register_svr l value r = inl refl

option_written : (l : Apic) (value : ℕ) (o : Option Register) → Written l (option_map_or (lapic_window.after_write l value) o l)
option_written l value None = written_itself l
option_written l value (Some r) = register_written_as l value r

option_svr : (l : Apic) (value : ℕ) (o : Option Register) → IsQuietOrSame l (option_map_or (lapic_window.after_write l value) o l) (option_map_or (lapic_window.write_effect l value) o lapic.Nothing)
option_svr l value None = inl refl
option_svr l value (Some r) = register_svr l value r

lapic_is_written : (l : Apic) (offset value : ℕ) → Written l (lapic_window.written l offset value)
unfolding lapic_window.written
lapic_is_written l offset value = option_written l value (lapic_window.register_at offset)

lapic_svr : (l : Apic) (offset value : ℕ) → IsQuietOrSame l (lapic_window.written l offset value) (lapic_window.effect_of l offset value)
unfolding lapic_window.written lapic_window.effect_of
lapic_svr l offset value = option_svr l value (lapic_window.register_at offset)

level_hears : (m : MachineState) (v : ℕ) (b : Bool) → Hears m (if b then level_ended m v else m)
level_hears m v true = hears_level_ended m v
level_hears m v false = hears_itself m

pub followed_hears : (m : MachineState) (e : LapicEffect) → Hears m (lapic_followed m e)
followed_hears m lapic.Nothing = hears_itself m
followed_hears m (lapic.Send x) = hears_sent m x
followed_hears m (lapic.Eoi v level) = level_hears m v level

-- what the write keeps, before its effect beyond the APIC
pub kept_lapic : (m : MachineState) (i lag offset value : ℕ) → (lapic_kept m i lag offset value).cpus ≡ set m.cpus i (record (cpu_at m i) { lapic = lapic_window.written (cpu_at m i).lapic offset value })
unfolding armed
kept_lapic m i lag offset value = elim (offset == offset_of register.InitialCount) as (λ b. (if b then armed (with_cpu m i (record (cpu_at m i) { lapic = lapic_window.written (cpu_at m i).lapic offset value })) i lag else with_cpu m i (record (cpu_at m i) { lapic = lapic_window.written (cpu_at m i).lapic offset value })).cpus ≡ set m.cpus i (record (cpu_at m i) { lapic = lapic_window.written (cpu_at m i).lapic offset value })) [ true ↦ refl | false ↦ refl ]

-- besides, it changes nothing but timers
pub record TimersAlone (m n : MachineState) : Type 0 where
  pub cpus : n.cpus ≡ m.cpus
  pub ram : n.ram ≡ m.ram
  pub ioapic : n.ioapic ≡ m.ioapic
  pub drives : n.drives ≡ m.drives
  pub pause : n.pause ≡ m.pause
  pub meet : n.meet ≡ m.meet

armed_alone : (m : MachineState) (i lag : ℕ) → TimersAlone m (armed m i lag)
unfolding armed
armed_alone m i lag = record { cpus = refl; ram = refl; ioapic = refl; drives = refl; pause = refl; meet = refl }

armed_if : (m : MachineState) (i lag : ℕ) (b : Bool) → TimersAlone m (if b then armed m i lag else m)
armed_if m i lag true = armed_alone m i lag
armed_if m i lag false = record { cpus = refl; ram = refl; ioapic = refl; drives = refl; pause = refl; meet = refl }

pub kept_alone : (m : MachineState) (i lag offset value : ℕ) → TimersAlone (with_cpu m i (record (cpu_at m i) { lapic = lapic_window.written (cpu_at m i).lapic offset value })) (lapic_kept m i lag offset value)
kept_alone m i lag offset value = armed_if (with_cpu m i (record (cpu_at m i) { lapic = lapic_window.written (cpu_at m i).lapic offset value })) i lag (offset == offset_of register.InitialCount)

answer_same : (l k : Apic) (v : ℕ) → k.svr ≡ l.svr → k.irr ≡ l.irr → post_answer k v ≡ post_answer l v
unfolding post_answer
answer_same l k v e h = rw (e, h) refl

-- a register is written, and then what goes out is heard
lapic_then_heard : (c d e : Cpu) (o : LapicEffect) → d.stage ≡ c.stage → d.ctx ≡ c.ctx → d.started ≡ c.started → d.halted ≡ c.halted → Written c.lapic d.lapic → d.lapic.svr ≡ c.lapic.svr → CpuHeard d e → CpuAccessed c e
lapic_then_heard c d e o st cx su ha w svr h = record {
  stage = h.stage ∙ st;
  ctx = h.ctx ∙ cx;
  started = h.started ∙ su;
  halted = h.halted ∙ ha;
  tmr = ap (λ (x : Apic). x.tmr) h.lapic.rest ∙ w.tmr;
  keeps = λ v a. h.lapic.keeps v (ap (λ (s : Vectors). has s v) w.irr ∙ a);
  sets = λ v a. elim (h.lapic.sets v a) [
    | inl old ↦ inl (sym (ap (λ (s : Vectors). has s v) w.irr) ∙ old)
    | inr new ↦ inr (sym (answer_same c.lapic d.lapic v svr w.irr) ∙ new)
  ];
}

written_accessed_cpu : (c d : Cpu) → d.stage ≡ c.stage → d.ctx ≡ c.ctx → d.started ≡ c.started → d.halted ≡ c.halted → Written c.lapic d.lapic → CpuAccessed c d
written_accessed_cpu c d st cx su ha w = record { stage = st; ctx = cx; started = su; halted = ha; tmr = w.tmr; keeps = λ v a. ap (λ (s : Vectors). has s v) w.irr ∙ a; sets = λ v a. inl (sym (ap (λ (s : Vectors). has s v) w.irr) ∙ a) }

-- each vCPU after a write of vCPU i's register
record Rewritten (c d : Cpu) (same : Type 0) : Type 0 where
  pub stage : d.stage ≡ c.stage
  pub ctx : d.ctx ≡ c.ctx
  pub started : d.started ≡ c.started
  pub halted : d.halted ≡ c.halted
  pub lapic : Written c.lapic d.lapic
  pub svr : same → d.lapic.svr ≡ c.lapic.svr

rewritten_itself : (c : Cpu) (same : Type 0) → Rewritten c c same
rewritten_itself c same = record { stage = refl; ctx = refl; started = refl; halted = refl; lapic = written_itself c.lapic; svr = λ h. refl }

rewritten : (m : MachineState) (i offset value : ℕ) (same : Type 0) → (same → (lapic_window.written (cpu_at m i).lapic offset value).svr ≡ (cpu_at m i).lapic.svr) → (k : ℕ)
    → Rewritten (cpu_at m k) (cpu_at (with_cpu m i (record (cpu_at m i) { lapic = lapic_window.written (cpu_at m i).lapic offset value })) k) same
rewritten m i offset value same f k =
    cpu_set (λ c d. Rewritten c d same) m i (record (cpu_at m i) { lapic = lapic_window.written (cpu_at m i).lapic offset value }) (λ k. rewritten_itself (cpu_at m k) same)
    (record { stage = refl; ctx = refl; started = refl; halted = refl; lapic = lapic_is_written (cpu_at m i).lapic offset value; svr = f }) k

lapic_machine : (m : MachineState) (i lag offset value : ℕ) (e : LapicEffect) → lapic_window.effect_of (cpu_at m i).lapic offset value ≡ e → IsQuietOrSame (cpu_at m i).lapic (lapic_window.written (cpu_at m i).lapic offset value) e
    → MachineAccessed m (lapic_followed (lapic_kept m i lag offset value) e)
lapic_machine m i lag offset value e is (inl svr) =
    let n = with_cpu m i (record (cpu_at m i) { lapic = lapic_window.written (cpu_at m i).lapic offset value }) in
    let k = lapic_kept m i lag offset value in
    let a = kept_alone m i lag offset value in
    let h = followed_hears k e in
    let r = rewritten m i offset value (Unit {0}) (λ u. svr) in
    record {
      count = h.count ∙ ap (λ (cs : List Cpu). length cs) a.cpus ∙ length-set m.cpus i _;
      each = λ j. (let r = r j in let at : cpu_at k j ≡ cpu_at n j = ap (λ (cs : List Cpu). get_or cs j (unstarted_cpu j)) a.cpus in
          let g = subst (λ (c : Cpu). CpuHeard c (cpu_at (lapic_followed k e) j)) at (h.each j) in
          lapic_then_heard (cpu_at m j) (cpu_at n j) (cpu_at (lapic_followed k e) j) e r.stage r.ctx r.started r.halted r.lapic (r.svr tt) g);
      ram = h.ram ∙ a.ram;
      pause = h.pause ∙ a.pause;
      drives = ap (λ (ds : List Drive). length ds) (h.drives ∙ a.drives);
      drive = λ d. subst (λ (ds : List Drive). DriveAccessed (drive_at m d) (get_or ds d no_drive)) (sym (h.drives ∙ a.drives)) (drive_same (drive_at m d));
    }
lapic_machine m i lag offset value e is (inr none) =
    let n = with_cpu m i (record (cpu_at m i) { lapic = lapic_window.written (cpu_at m i).lapic offset value }) in
    let k = lapic_kept m i lag offset value in
    let a = kept_alone m i lag offset value in
    let r = rewritten m i offset value ⊥ (λ u. absurd u) in
    subst (λ (x : LapicEffect). MachineAccessed m (lapic_followed k x)) (sym none) (record {
      count = ap (λ (cs : List Cpu). length cs) a.cpus ∙ length-set m.cpus i _;
      each = λ j. (let r = r j in let at : cpu_at k j ≡ cpu_at n j = ap (λ (cs : List Cpu). get_or cs j (unstarted_cpu j)) a.cpus in
          subst (λ (c : Cpu). CpuAccessed (cpu_at m j) c) (sym at) (written_accessed_cpu (cpu_at m j) (cpu_at n j) r.stage r.ctx r.started r.halted r.lapic));
      ram = a.ram;
      pause = a.pause;
      drives = ap (λ (ds : List Drive). length ds) a.drives;
      drive = λ d. subst (λ (ds : List Drive). DriveAccessed (drive_at m d) (get_or ds d no_drive)) (sym a.drives) (drive_same (drive_at m d));
    })

lapic_accessed : (m : MachineState) (i lag offset value : ℕ) → MachineAccessed m (lapic_written m i lag offset value)
unfolding lapic_written
lapic_accessed m i lag offset value = lapic_machine m i lag offset value (lapic_window.effect_of (cpu_at m i).lapic offset value) refl (lapic_svr (cpu_at m i).lapic offset value)

-- ---- the I/O APIC

opened_if : (m n : MachineState) (p : ℕ) (b : Bool) → MachineAccessed m n → MachineAccessed m (if b then routing_opened n p else n)
opened_if m n p true k = record { count = k.count; each = k.each; ram = k.ram; pause = k.pause; drives = k.drives; drive = k.drive }
opened_if m n p false k = k

ioapic_accessed : (m : MachineState) (p offset value : ℕ) → MachineAccessed m (ioapic_written m p offset value)
unfolding ioapic_written
ioapic_accessed m p offset value =
    let r = selected m.ioapic offset in
    let chip = record m { ioapic = after_write m.ioapic r value } in
    let h = hears_all_sent chip (option_to_list (change m.ioapic r value).message) in
    let k = machine_heard chip _ h in
    opened_if m _ p (reroutes m offset value) (record { count = k.count; each = k.each; ram = k.ram; pause = k.pause; drives = k.drives; drive = k.drive })

-- ---- a drive

-- where drive d is another, each stands to what it was as that one does
pub drive_set : (R : Drive → Drive → Type 0) (m : MachineState) (d : ℕ) (x : Drive) → ((k : ℕ) → R (drive_at m k) (drive_at m k)) → R (drive_at m d) x → (k : ℕ) → R (drive_at m k) (drive_at (with_drive m d x) k)
drive_set R m d x same one k =
    elim (cases_eq k d) [
      | inr other ↦ rw (get_or-set_other m.drives d k x no_drive other) (same k)
      | inl e ↦
          elim (cases_lt d (length m.drives)) [
            | inl l ↦ rw (get_or-set_at m.drives d k x no_drive e l, e) one
            | inr past ↦ rw (set_past m.drives d x past) (same k)
          ]
    ]

pub drive_accessed : (m : MachineState) (d : ℕ) (x : Drive) → DriveAccessed (drive_at m d) x → MachineAccessed m (with_drive m d x)
drive_accessed m d x h = record {
  count = refl;
  each = λ i. cpu_same (cpu_at m i);
  ram = refl;
  pause = refl;
  drives = length-set m.drives d x;
  drive = drive_set DriveAccessed m d x (λ k. drive_same (drive_at m k)) h;
}

-- messages follow an access
pub then_heard_machine : (m n o : MachineState) → MachineAccessed m n → Hears n o → n.cpus ≡ m.cpus → MachineAccessed m o
then_heard_machine m n o a h e = record {
  count = h.count ∙ a.count;
  each = λ i. (let at : cpu_at n i ≡ cpu_at m i = ap (λ (cs : List Cpu). get_or cs i (unstarted_cpu i)) e in
      cpu_accessed (cpu_at m i) (cpu_at o i) (subst (λ (c : Cpu). CpuHeard c (cpu_at o i)) at (h.each i)));
  ram = h.ram ∙ a.ram;
  pause = h.pause ∙ a.pause;
  drives = ap (λ (ds : List Drive). length ds) h.drives ∙ a.drives;
  drive = λ d. subst (λ (ds : List Drive). DriveAccessed (drive_at m d) (get_or ds d no_drive)) (sym h.drives) (a.drive d);
}

pub window_accessed : (m : MachineState) (d : ℕ) (x : Drive) → DriveAccessed (drive_at m d) x → MachineAccessed m (with_window m d x)
unfolding with_window
window_accessed m d x h =
    then_heard_machine m (with_drive m d x) _ (drive_accessed m d x h) (hears_followed (with_drive m d x) (drive_pin d) (window.line (drive_at m d).window) (window.line x.window)) refl

-- where image d is another
pub image_set : (R : DiskImage → DiskImage → Type 0) (s : State) (d : ℕ) (x : DiskImage) → ((k : ℕ) → R (image_at s k) (image_at s k)) → R (image_at s d) x → (k : ℕ) → R (image_at s k) (image_at (with_image s d x) k)
image_set R s d x same one k =
    elim (cases_eq k d) [
      | inr other ↦ rw (get_or-set_other s.images d k x no_image other) (same k)
      | inl e ↦
          elim (cases_lt d (length s.images)) [
            | inl l ↦ rw (get_or-set_at s.images d k x no_image e l, e) one
            | inr past ↦ rw (set_past s.images d x past) (same k)
          ]
    ]

followed_accessed : (s : State) (d : ℕ) (x : Drive) (e : WindowEffect) → x.bytes ≡ (drive_at s.machine d).bytes → x.workers ≡ (drive_at s.machine d).workers → x.queue ≡ (drive_at s.machine d).queue → Accessed s (register_followed s d x e)
followed_accessed s d x effect.Nothing b w q = accessed_machine s _ (window_accessed s.machine d x (record { bytes = b; workers = w; queue = inl q }))
followed_accessed s d x effect.Reset b w q =
    let k = window_accessed s.machine d (queue_emptied x) (record { bytes = b; workers = w; queue = inr (ap (λ (y : Queue). emptied y) q) }) in
    record {
      machine = k;
      seats = refl;
      images = length-set s.images d _;
      image = image_set ImageAccessed s d _ (λ k. image_same (image_at s k)) (record { bytes = refl; doubt = refl; holder = refl });
      versions = refl;
      executed = refl;
      seen = refl;
      limit = refl;
      input = refl;
      ended = refl;
      closed = refl;
    }

pub accessed_itself : (s : State) → Accessed s s
accessed_itself s = accessed_machine s s.machine (machine_same s.machine)

drive_if : (s : State) (d : ℕ) (x : Drive) (e : WindowEffect) (b : Bool) → x.bytes ≡ (drive_at s.machine d).bytes → x.workers ≡ (drive_at s.machine d).workers → x.queue ≡ (drive_at s.machine d).queue → Accessed s (if b then register_followed s d x e else s)
drive_if s d x e true b w q = followed_accessed s d x e b w q
drive_if s d x e false b w q = accessed_itself s

drive_written_accessed : (s : State) (d offset value : ℕ) → Accessed s (drive_written s d offset value)
unfolding drive_written
drive_written_accessed s d offset value = drive_if s d _ _ (is_drive s.machine d) refl refl refl

-- ---- all of them

pub accessed_window : (s : State) (p i : ℕ) (a : Area) (value : ℕ) → Accessed s (window_written s p i a value)
unfolding window_written
accessed_window s p i (area.Lapic offset) value = accessed_machine s _ (lapic_accessed s.machine i (lag_of s) offset value)
accessed_window s p i (area.Ioapic offset) value = accessed_machine s _ (ioapic_accessed s.machine p offset value)
accessed_window s p i (area.Disk d offset) value = drive_written_accessed s d offset value
accessed_window s p i a value = accessed_itself s

pub accessed_read : (s : State) (port : ℕ) (w : _) → Accessed s (with_machine s (port_read s.machine port w))
unfolding port_read
accessed_read s port w = accessed_machine s _ (read_accessed s.machine (port_offset port w))

pub accessed_written : (s : State) (port : ℕ) (w : _) (value : ℕ) → Accessed s (with_machine s (port_written s.machine port w value))
unfolding port_written
accessed_written s port w value = accessed_machine s _ (written_accessed s.machine (port_offset port w) value)
