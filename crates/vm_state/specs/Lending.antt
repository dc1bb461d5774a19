-- A part of a machine or of a run that is lent: what is last written through r ends up at place i, and all else stays.
use Rattle.std.specs.Prelude.{ℕ}
use Rattle.std.specs.Borrow.{Lends, MutBor, Fml}
use Rattle.vm_state.specs.contracts.cpu.Cpu as cpu_contract
use Rattle.vm_state.specs.contracts.cpu.Seat as seat_contract
use Rattle.vm_state.specs.contracts.drive.Drive as drive_contract
use Rattle.vm_state.specs.contracts.image.DiskImage as image_contract
use Rattle.vm_state.specs.contracts.machine.Machine as machine_contract
use Rattle.vm_state.specs.contracts.run_state.RunState as run_contract
use Rattle.vm_state.specs.declared.cpu.Cpu.{Cpu}
use Rattle.vm_state.specs.declared.cpu.Seat.{Seat}
use Rattle.vm_state.specs.declared.drive.Drive.{Drive}
use Rattle.vm_state.specs.declared.image.DiskImage.{DiskImage}
use Rattle.vm_state.specs.Machine.{with_cpu, with_drive}
use Rattle.vm_state.specs.State.{with_seat, with_image}
use Rattle.vm_state.specs.View.{MachineView, RunView}

-- a machine's vCPU and drive

abbrev pub cpu_written : MachineView → ℕ → Cpu → MachineView
cpu_written v i cpu = record v { state = with_cpu v.state i cpu }

abbrev pub LendsCpu : MutBor MachineView → ℕ → MutBor Cpu → Fml
LendsCpu m i r = Lends machine_contract.the_row cpu_contract.the_row m r (cpu_written m.now i)

abbrev pub drive_written : MachineView → ℕ → Drive → MachineView
drive_written v d drive = record v { state = with_drive v.state d drive }

abbrev pub LendsDrive : MutBor MachineView → ℕ → MutBor Drive → Fml
LendsDrive m d r = Lends machine_contract.the_row drive_contract.the_row m r (drive_written m.now d)

-- a run's seat and image

abbrev pub seat_written : RunView → ℕ → Seat → RunView
seat_written v i seat = record v { state = with_seat v.state i seat }

abbrev pub LendsSeat : MutBor RunView → ℕ → MutBor Seat → Fml
LendsSeat s i r = Lends run_contract.the_row seat_contract.the_row s r (seat_written s.now i)

abbrev pub image_written : RunView → ℕ → DiskImage → RunView
image_written v d image = record v { state = with_image v.state d image }

abbrev pub LendsImage : MutBor RunView → ℕ → MutBor DiskImage → Fml
LendsImage s d r = Lends run_contract.the_row image_contract.the_row s r (image_written s.now d)
