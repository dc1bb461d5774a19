-- The words for kinds of faults, and for what a file is read as.
use Rattle.std.specs.Prelude.{ℕ, List, codes}
use Rattle.vm_status.specs.declared.kind.Kind.{Kind}
use Rattle.vm_status.specs.declared.kind.Kind.TheVariants as kind
use Rattle.vm_status.specs.declared.role.Role.{Role}
use Rattle.vm_status.specs.declared.role.Role.TheVariants as role

abbrev pub role_word : Role → List ℕ
role_word role.Configuration = codes "configuration"
role_word role.Image = codes "image"
role_word role.Disk = codes "disk"
role_word role.Script = codes "script"
role_word role.Checkpoint = codes "checkpoint"
role_word role.Stream = codes "stream"
role_word role.Journal = codes "journal"
role_word role.Assembly = codes "assembly"
role_word role.Start = codes "start"

abbrev pub kind_word : Kind → List ℕ
kind_word kind.Text = codes "text"
kind_word kind.Equals = codes "equals"
kind_word kind.Name = codes "name"
kind_word kind.Percent = codes "percent"
kind_word kind.Number = codes "number"
kind_word kind.Range = codes "range"
kind_word kind.Path = codes "path"
kind_word kind.Boolean = codes "boolean"
kind_word kind.Many = codes "many"
kind_word kind.Word = codes "word"
kind_word kind.Order = codes "order"
kind_word kind.Cpu = codes "cpu"
kind_word kind.Disk = codes "disk"
kind_word kind.Operand = codes "operand"
kind_word kind.Label = codes "label"
kind_word kind.Twice = codes "twice"
kind_word kind.Large = codes "large"
kind_word kind.Magic = codes "magic"
kind_word kind.Short = codes "short"
kind_word kind.Code = codes "code"
kind_word kind.Entry = codes "entry"
kind_word kind.Gate = codes "gate"
kind_word kind.Tag = codes "tag"
kind_word kind.Value = codes "value"
kind_word kind.Trailing = codes "trailing"
kind_word kind.Long = codes "long"
kind_word kind.Length = codes "length"
kind_word kind.Later = codes "later"
