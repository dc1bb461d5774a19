-- How the requests of a drive fared, and its disk.
use Rattle.std.specs.Prelude.{ℕ, Bool, length}
use Rattle.std.specs.List.{count_by}
use Rattle.vm_state.specs.declared.drive.Drive.{Drive}
use Rattle.vm_state.specs.declared.image.DiskImage.{DiskImage}
use Rattle.vm_state.specs.Machine.{drive_at}
use Rattle.vm_state.specs.State.{State, image_at}
use Rattle.vm_table.specs.declared.tally.Tally.{Tally}

-- how many were finished, how many cancelled, how many are unfinished, and how many sectors are in doubt
abbrev pub tallied : DiskImage → Drive → Tally
tallied image drive = record {
  finished = image.finished;
  cancelled = image.cancelled;
  queued = length drive.queue.requests;
  doubt = count_by (λ (in_doubt : Bool). in_doubt) image.doubt;
}

abbrev pub tally_of : State → ℕ → Tally
tally_of s d = tallied (image_at s d) (drive_at s.machine d)
