-- What holds of every machine and run is kept by other memory of the same size, with as much code.
use Rattle.std.proofs.Common.{◌≡◌, ◌⊎◌, ℕ, ◌+◌, ◌<◌, ◌≤◌, List, length, refl, sym, ap, subst, ◌∙◌}
use Rattle.std.specs.List.{All}
use Rattle.std.proofs.lemmas.List.Elements.{All-weaker}
use Rattle.guest_ram.specs.GuestRam.{IsSound, IsSize}
use Rattle.vm_law.specs.Memory.{Memory, KeepsSize}
use Rattle.vm_law.specs.declared.block.Request.{Request}
use Rattle.vm_law.specs.declared.block.Segment.{Segment}
use Rattle.vq_ring.specs.Ring.{ring_ok}
use Rattle.vm_vblk.specs.Queue.{Fits}
use Rattle.vm_vblk.specs.Window.{ring_of}
use Rattle.blk_queue.specs.declared.progress.Unfinished.{Unfinished}
use Rattle.vm_state.specs.declared.drive.Drive.{Drive}
use Rattle.vm_state.specs.Machine.{MachineState, drive_at}
use Rattle.vm_state.specs.State.{State, with_machine}
use Rattle.vm_state.specs.Sound.{IsMachine, IsSoundState, IsDrive, RequestFits}
use Rattle.vm_devices.proofs.KeptRun.{keeps_run}

ram_kept : (m n : Memory) → KeepsSize m n → IsSound m → IsSound n
ram_kept m n same h = record {
  size = subst (λ (k : ℕ). IsSize k) (sym same.size) h.size;
  code = subst (λ (k : ℕ). n.code ≤ k) (sym same.size) (subst (λ (k : ℕ). k ≤ length m.bytes) (sym same.code) h.code);
}

buffers_kept : (m n : Memory) (q : Request) → KeepsSize m n → Fits m q → Fits n q
buffers_kept m n q same h = record {
  above_code = subst (λ (k : ℕ). k ≤ q.status_at) (sym same.code) h.above_code;
  in_ram = subst (λ (k : ℕ). q.status_at < k) (sym same.size) h.in_ram;
  pieces = subst (λ (k : ℕ). All (λ (x : Segment). x.addr + x.len ≤ k) q.segments.items) (sym same.size) h.pieces;
  kept_code = λ reads. subst (λ (k : ℕ). All (λ (x : Segment). (x.len ≡ 0) ⊎ (k ≤ x.addr)) q.segments.items) (sym same.code) (h.kept_code reads);
}

request_kept : (m n : Memory) (d : Drive) (x : Unfinished) → KeepsSize m n → RequestFits m d x → RequestFits n d x
request_kept m n d x same h = record {
  accepted = record {
    sound = h.accepted.sound;
    fits = buffers_kept m n x.request same h.accepted.fits;
    whole = h.accepted.whole;
    bare = h.accepted.bare;
    writable = h.accepted.writable;
  };
  window = h.window;
}

requests_kept : (m n : Memory) (d : Drive) (xs : List Unfinished) → KeepsSize m n → All (RequestFits m d) xs → All (RequestFits n d) xs
requests_kept m n d xs same h = All-weaker (RequestFits m d) (RequestFits n d) (λ x. request_kept m n d x same) xs h

drive_kept : (m n : Memory) (d : Drive) → KeepsSize m n → IsDrive m d → IsDrive n d
drive_kept m n d same h = record {
  some_worker = h.some_worker;
  workers = h.workers;
  some_sector = h.some_sector;
  sectors = h.sectors;
  whole = h.whole;
  ro = h.ro;
  capacity = h.capacity;
  registers = h.registers;
  tables = λ ready.
      ap (λ (k : ℕ). ring_ok (ring_of d.window) k (length n.bytes)) same.code
      ∙ ap (λ (k : ℕ). ring_ok (ring_of d.window) m.code k) same.size
      ∙ h.tables ready;
  queue = h.queue;
  requests = requests_kept m n d d.queue.requests same h.requests;
}

pub keeps_memory : (m : MachineState) (ram : Memory) → IsMachine m → KeepsSize m.ram ram → IsMachine (record m { ram = ram })
keeps_memory m ram h same = record {
  some_cpu = h.some_cpu;
  cpus = h.cpus;
  first = h.first;
  each_cpu = h.each_cpu;
  ram = ram_kept m.ram ram same h.ram;
  some_code = subst (λ (k : ℕ). 1 ≤ k) (sym same.code) h.some_code;
  code = subst (λ (k : ℕ). k ≤ 16777216) (sym same.code) h.code;
  ioapic = h.ioapic;
  uart = h.uart;
  pins = h.pins;
  drives = h.drives;
  each_drive = λ d within. drive_kept m.ram ram (drive_at m d) same (h.each_drive d within);
  timers = record { count = h.timers.count; disarmed = h.timers.disarmed };
}

pub keeps_run_memory : (s : State) (ram : Memory) → IsSoundState s → KeepsSize s.machine.ram ram → IsSoundState (with_machine s (record s.machine { ram = ram }))
keeps_run_memory s ram h same =
    keeps_run s (record s.machine { ram = ram }) h
    (record {
      seats = record { count = refl; stage = λ i. refl; halted = λ i. refl };
      meet = refl;
      drives = refl;
      pause = refl;
      code = same.code;
    })
    (keeps_memory s.machine ram h.machine same)
