use Rattle.std.proofs.Common.{List, Err, Ok, refl, subst}
use Rattle.std.proofs.lemmas.Result.{err_from_is_err_and}
use Rattle.vm_law.specs.declared.plan.DiskPlan.{DiskPlan}
use Rattle.vm_host.proofs.Frames.{reads_on}
use Rattle.vm_start.specs.Answers.{UpToMemory, goes_on}
use Rattle.vm_start.specs.Start.{SetupOf, DisksOf, ScriptOf}
use Rattle.vm_start.proofs.Back.{up_as, disks_as, script_as}
use Rattle.vm_start.proofs.Causes.{causes_on, err_as, ok_as}
use Rattle.vm_start.proofs.Steps.{on, off}
use Rattle.vm_start.proofs.starting.read_parts.Goals as goal

pub returns-in_err-setup-clause-value : goal.returns-in_err-setup-clause-value
returns-in_err-setup-clause-value g c =
    let host = g.H.Host.seen c.args.host.now in
    let p = err_from_is_err_and c.from_residual.result c.from_residual.ensures.1 in
    rw (p.1, p.2) (off (SetupOf host.tells host.file c.args.file.now) _ c.in_err-setup.field-0.0 c.in_err-setup.ensures.value)

pub returns-in_err-disks-clause-value : goal.returns-in_err-disks-clause-value
returns-in_err-disks-clause-value g c =
    let host = g.H.Host.seen c.args.host.now in
    let now = g.H.Host.seen c.read_setup.new.host in
    let setup = c.in_ok-setup.setup in
    let f = c.in_err-disks.field-0.0 in
    let p = err_from_is_err_and c.from_residual-in_err-disks.result c.from_residual-in_err-disks.ensures.1 in
    let value = subst (λ (ps : List DiskPlan). UpToMemory (DisksOf now.tells now.file ps) (Err f)) c.as_slice.ensures c.in_err-disks.ensures.value in
    rw (p.1, p.2) (on (SetupOf host.tells host.file c.args.file.now) _ setup (Err f) c.in_ok-setup.ensures.value
    (off (DisksOf host.tells host.file setup.plan.disks) _ f (up_as (DisksOf now.tells now.file setup.plan.disks) (DisksOf host.tells host.file setup.plan.disks) (disks_as host now c.in_ok-setup.ensures.leaves setup.plan.disks) (Err f) value)))

pub returns-in_err-script-clause-value : goal.returns-in_err-script-clause-value
returns-in_err-script-clause-value g c =
    let host = g.H.Host.seen c.args.host.now in
    let mid = g.H.Host.seen c.read_setup.new.host in
    let now = g.H.Host.seen c.read_disks.new.host in
    let setup = c.in_ok-setup.setup in
    let plan = setup.plan in
    let disks = c.in_ok-disks.disks in
    let f = c.in_err-script.field-0.0 in
    let p = err_from_is_err_and c.from_residual-in_err-script.result c.from_residual-in_err-script.ensures.1 in
    let leaves = reads_on host mid now c.in_ok-setup.ensures.leaves c.in_ok-disks.ensures.leaves in
    let read = disks_as host mid c.in_ok-setup.ensures.leaves plan.disks (Ok disks) (subst (λ (ps : List DiskPlan). DisksOf mid.tells mid.file ps (Ok disks)) c.as_slice.ensures c.in_ok-disks.ensures.value) in
    rw (p.1, p.2) (on (SetupOf host.tells host.file c.args.file.now) _ setup (Err f) c.in_ok-setup.ensures.value
    (on (DisksOf host.tells host.file plan.disks) _ disks (Err f) read
    (off (ScriptOf host.tells host.file plan plan.script) _ f (up_as (ScriptOf now.tells now.file plan plan.script) (ScriptOf host.tells host.file plan plan.script) (script_as host now leaves plan plan.script) (Err f) c.in_err-script.ensures.value))))

pub returns-clause-value : goal.returns-clause-value
returns-clause-value g c =
    let host = g.H.Host.seen c.args.host.now in
    let mid = g.H.Host.seen c.read_setup.new.host in
    let now = g.H.Host.seen c.read_disks.new.host in
    let setup = c.in_ok-setup.setup in
    let plan = setup.plan in
    let disks = c.in_ok-disks.disks in
    let script = c.in_ok-script.script in
    let leaves = reads_on host mid now c.in_ok-setup.ensures.leaves c.in_ok-disks.ensures.leaves in
    let read = disks_as host mid c.in_ok-setup.ensures.leaves plan.disks (Ok disks) (subst (λ (ps : List DiskPlan). DisksOf mid.tells mid.file ps (Ok disks)) c.as_slice.ensures c.in_ok-disks.ensures.value) in
    let spelled = script_as host now leaves plan plan.script (Ok script) c.in_ok-script.ensures.value in
    goes_on setup c.in_ok-setup.ensures.value (goes_on disks read (goes_on script spelled refl))

pub returns-in_err-disks-clause-causes : goal.returns-in_err-disks-clause-causes
returns-in_err-disks-clause-causes g c =
    let host = g.H.Host.seen c.args.host.now in
    let mid = g.H.Host.seen c.read_setup.new.host in
    let now = g.H.Host.seen c.read_disks.new.host in
    let f = c.in_err-disks.field-0.0 in
    let p = err_from_is_err_and c.from_residual-in_err-disks.result c.from_residual-in_err-disks.ensures.1 in
    rw (p.1, p.2) (err_as f host now (causes_on host mid now c.in_ok-setup.setup (Err f) c.in_ok-setup.ensures.causes c.in_err-disks.ensures.causes))

pub returns-in_err-disks-clause-leaves : goal.returns-in_err-disks-clause-leaves
returns-in_err-disks-clause-leaves g c = reads_on _ _ _ c.in_ok-setup.ensures.leaves c.in_err-disks.ensures.leaves

pub returns-in_err-script-clause-causes : goal.returns-in_err-script-clause-causes
returns-in_err-script-clause-causes g c =
    let host = g.H.Host.seen c.args.host.now in
    let mid = g.H.Host.seen c.read_setup.new.host in
    let later = g.H.Host.seen c.read_disks.new.host in
    let now = g.H.Host.seen c.read_script.new.host in
    let f = c.in_err-script.field-0.0 in
    let p = err_from_is_err_and c.from_residual-in_err-script.result c.from_residual-in_err-script.ensures.1 in
    rw (p.1, p.2) (err_as f host now (causes_on host mid now c.in_ok-setup.setup (Err f) c.in_ok-setup.ensures.causes
    (causes_on mid later now c.in_ok-disks.disks (Err f) c.in_ok-disks.ensures.causes c.in_err-script.ensures.causes)))

pub returns-in_err-script-clause-leaves : goal.returns-in_err-script-clause-leaves
returns-in_err-script-clause-leaves g c = reads_on _ _ _ c.in_ok-setup.ensures.leaves (reads_on _ _ _ c.in_ok-disks.ensures.leaves c.in_err-script.ensures.leaves)

pub returns-clause-causes : goal.returns-clause-causes
returns-clause-causes g c =
    let host = g.H.Host.seen c.args.host.now in
    let mid = g.H.Host.seen c.read_setup.new.host in
    let later = g.H.Host.seen c.read_disks.new.host in
    let now = g.H.Host.seen c.read_script.new.host in
    let script = c.in_ok-script.script in
    ok_as script _ host now (causes_on host mid now c.in_ok-setup.setup (Ok script) c.in_ok-setup.ensures.causes
    (causes_on mid later now c.in_ok-disks.disks (Ok script) c.in_ok-disks.ensures.causes c.in_ok-script.ensures.causes))

pub returns-clause-leaves : goal.returns-clause-leaves
returns-clause-leaves g c = reads_on _ _ _ c.in_ok-setup.ensures.leaves (reads_on _ _ _ c.in_ok-disks.ensures.leaves c.in_ok-script.ensures.leaves)
