-- The names of the kinds of faults.
use Rattle.std.specs.Prelude.{ℕ, List, codes}
use Rattle.vm_image.specs.declared.error.ImageKind.{ImageKind}
use Rattle.vm_image.specs.declared.error.ImageKind.TheVariants.{Magic, Short, Code, Entry, Large}

abbrev pub name_of : ImageKind → List ℕ
name_of Magic = codes "magic"
name_of Short = codes "short"
name_of Code = codes "code"
name_of Entry = codes "entry"
name_of Large = codes "large"
