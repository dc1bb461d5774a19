-- Kinds of faults, under the names that every format has for them.
use Rattle.cfg_text.specs.declared.error.CfgKind.{CfgKind}
use Rattle.cfg_text.specs.declared.error.CfgKind.TheVariants as cfg
use Rattle.cfg_vm.specs.declared.error.PlanKind.{PlanKind}
use Rattle.cfg_vm.specs.declared.error.PlanKind.TheVariants as plan
use Rattle.ctl_script.specs.declared.fault.ScriptKind.{ScriptKind}
use Rattle.ctl_script.specs.declared.fault.ScriptKind.TheVariants as script
use Rattle.vm_image.specs.declared.error.ImageKind.{ImageKind}
use Rattle.vm_image.specs.declared.error.ImageKind.TheVariants as image
use Rattle.vm_status.specs.declared.kind.Kind.{Kind}
use Rattle.vm_status.specs.declared.kind.Kind.TheVariants as kinds

abbrev pub cfg_kind : CfgKind → Kind
cfg_kind cfg.Text = kinds.Text
cfg_kind cfg.Equals = kinds.Equals
cfg_kind cfg.Name = kinds.Name
cfg_kind cfg.Percent = kinds.Percent

abbrev pub plan_kind : PlanKind → Kind
plan_kind plan.Number = kinds.Number
plan_kind plan.Range = kinds.Range
plan_kind plan.Path = kinds.Path
plan_kind plan.Boolean = kinds.Boolean
plan_kind plan.Many = kinds.Many

abbrev pub image_kind : ImageKind → Kind
image_kind image.Magic = kinds.Magic
image_kind image.Short = kinds.Short
image_kind image.Code = kinds.Code
image_kind image.Entry = kinds.Entry
image_kind image.Large = kinds.Large

abbrev pub script_kind : ScriptKind → Kind
script_kind script.Text = kinds.Text
script_kind script.Word = kinds.Word
script_kind script.Number = kinds.Number
script_kind script.Order = kinds.Order
script_kind script.Cpu = kinds.Cpu
script_kind script.Disk = kinds.Disk
script_kind script.Many = kinds.Many
