use Rattle.std.proofs.Common.{◌≡◌, map, take}
use Rattle.vm_state.specs.declared.drive.Drive.{Drive}
use Rattle.run_cases.proofs.sound.disks_of.Given as goal

abbrev pub invariant-loop-drive : goal.invariant-loop-drive
invariant-loop-drive l = l.disks.items ≡ map (λ (x : Drive). x.bytes) (take l.drive-index l.drives)
