-- Images that can be written.
use Rattle.std.specs.Prelude.{◌≤◌, length}
use Rattle.vm_host.specs.MemState.{ImageState}

-- an image has a first sector
abbrev pub HasSector : ImageState → Type 0
HasSector i = 512 ≤ length i.bytes
