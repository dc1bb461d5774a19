use Rattle.std.proofs.Common.{arith}
use Rattle.vm_status.specs.declared.role.Role.TheVariants.{Script}
use Rattle.vm_start.specs.Answers.{Is}
use Rattle.vm_start.specs.Files.{ScriptIn, text_limit, within}
use Rattle.vm_start.proofs.Loads.{script_long, within_ok}
use Rattle.vm_start.proofs.Steps.{on, refuse}
use Rattle.vm_start.proofs.script.script_in.Goals as goal

pub returns-then-bytes-gt-TEXT_LIMIT-clause-value : goal.returns-then-bytes-gt-TEXT_LIMIT-clause-value
returns-then-bytes-gt-TEXT_LIMIT-clause-value c =
    let name = c.args.name.now in
    refuse (ScriptIn name c.args.plan.now c.args.bytes.now) _ c.bad.result c.bad.ensures (script_long name c.args.plan.now c.args.bytes.now (omega arith))

pub returns-clause-value : goal.returns-clause-value
returns-clause-value c =
    let name = c.args.name.now in
    let bytes = c.args.bytes.now in
    on (Is (within Script name text_limit bytes)) _ bytes c.scripted.result (within_ok Script name text_limit bytes (omega arith)) c.scripted.ensures.value
