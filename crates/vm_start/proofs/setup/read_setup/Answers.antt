use Rattle.std.proofs.Common.{ℕ, List, subst}
use Rattle.vm_host.proofs.Frames.{reads_on}
use Rattle.vm_start.specs.Answers.{UpToMemory}
use Rattle.vm_start.specs.Start.{SetupIn}
use Rattle.vm_start.proofs.Back.{up_as, setup_as}
use Rattle.vm_start.proofs.Causes.{causes_on}
use Rattle.vm_start.proofs.Loads.{read}
use Rattle.vm_start.proofs.setup.read_setup.Goals as goal

pub returns-clause-value : goal.returns-clause-value
returns-clause-value g c =
    let host = g.H.Host.seen c.args.host.now in
    let now = g.H.Host.seen c.load_either.new.host in
    let name = c.args.name.now in
    let bytes = c.in_ok-bytes.bytes in
    let value = subst (λ (b : List ℕ). UpToMemory (SetupIn now.tells now.file name b) c.setup_in.result) c.as_slice.ensures c.setup_in.ensures.value in
    read host.tells host.file name (SetupIn host.tells host.file name) bytes c.setup_in.result c.in_ok-bytes.ensures.bytes
    (up_as (SetupIn now.tells now.file name bytes) (SetupIn host.tells host.file name bytes) (setup_as host now c.in_ok-bytes.ensures.leaves name bytes) c.setup_in.result value)

pub returns-clause-causes : goal.returns-clause-causes
returns-clause-causes g c = causes_on _ _ _ c.in_ok-bytes.bytes c.setup_in.result c.in_ok-bytes.ensures.causes c.setup_in.ensures.causes

pub returns-clause-leaves : goal.returns-clause-leaves
returns-clause-leaves g c = reads_on _ _ _ c.in_ok-bytes.ensures.leaves c.setup_in.ensures.leaves
