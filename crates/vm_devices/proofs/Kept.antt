-- What holds of every machine is kept by messages and firings.
use Rattle.std.specs.Prelude.{◌||◌}
use Rattle.std.proofs.Common.{◌≡◌, ℕ, ◌≤◌, Bool, List, length, get_or, sym, ap, subst, ◌∙◌}
use Rattle.vm_law.specs.declared.context.Ctx.{Ctx}
use Rattle.vm_law.specs.declared.message.Message.{Message}
use Rattle.vm_law.specs.declared.stage.Owned.{Owned}
use Rattle.x86_op.specs.Flow.{masked_flags}
use Rattle.vm_state.specs.declared.cpu.Cpu.{Cpu}
use Rattle.vm_state.specs.Machine.{MachineState, cpu_at, unstarted_cpu}
use Rattle.vm_state.specs.Sound.{IsMachine, IsCpu, runs}
use Rattle.vm_devices.specs.Messages.{sent, all_sent}
use Rattle.vm_devices.proofs.Same.{SameCpu, Same, sent_same, all_same}

cpu_kept : (i : ℕ) (c d : Cpu) → SameCpu c d → IsCpu i c → IsCpu i d
cpu_kept i c d same h = record {
  flags = subst (λ (x : Ctx). masked_flags x.rflags ≡ x.rflags) (sym same.ctx) h.flags;
  waits = same.waits h.waits;
  unstarted = λ e.
      ap (λ (b : Bool). b || d.ctx.shadow || d.ctx.nmi_block || runs d.stage) same.halted
      ∙ ap (λ (x : Ctx). c.halted || x.shadow || x.nmi_block || runs d.stage) same.ctx
      ∙ ap (λ (x : Owned). c.halted || c.ctx.shadow || c.ctx.nmi_block || runs x) same.stage
      ∙ h.unstarted (sym same.started ∙ e);
  number = same.apic.number ∙ h.number;
}

machine_kept : (m : MachineState) (cs : List Cpu) → IsMachine m → length cs ≡ length m.cpus
    → ((i : ℕ) → SameCpu (cpu_at m i) (get_or cs i (unstarted_cpu i))) → IsMachine (record m { cpus = cs })
machine_kept m cs h long each = record {
  some_cpu = subst (λ (n : ℕ). 1 ≤ n) (sym long) h.some_cpu;
  cpus = subst (λ (n : ℕ). n ≤ 16) (sym long) h.cpus;
  first = (each 0).started ∙ h.first;
  each_cpu = λ i. cpu_kept i (cpu_at m i) (get_or cs i (unstarted_cpu i)) (each i) (h.each_cpu i);
  ram = h.ram;
  some_code = h.some_code;
  code = h.code;
  ioapic = h.ioapic;
  uart = h.uart;
  pins = h.pins;
  drives = h.drives;
  each_drive = h.each_drive;
  timers = record {
    count = h.timers.count;
    disarmed = λ i e. h.timers.disarmed i (sym (each i).apic.initial ∙ e);
  };
}

pub keeps_same : (m t : MachineState) → IsMachine m → Same m t → IsMachine t
keeps_same m t h same = subst (λ (x : MachineState). IsMachine x) (sym same.rest) (machine_kept m t.cpus h same.count same.each)

pub keeps_sent : (m : MachineState) (x : Message) → IsMachine m → IsMachine (sent m x)
keeps_sent m x h = keeps_same m (sent m x) h (sent_same m x)

pub keeps_all_sent : (m : MachineState) (xs : List Message) → IsMachine m → IsMachine (all_sent m xs)
keeps_all_sent m xs h = keeps_same m (all_sent m xs) h (all_same m xs)
