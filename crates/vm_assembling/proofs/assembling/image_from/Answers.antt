use Rattle.std.proofs.Common.{◌≡◌, List, ℕ, Some, length, ap, sym, subst, ◌≤◌, ◌∙◌}
use Rattle.vm_host.specs.Told.{WhereTold}
use Rattle.vm_assembling.specs.Assembling.{IsAssembly, IsAssemblyFault}
use Rattle.vm_outcome.specs.Files.{Unread}
use Rattle.vm_outcome.specs.Refusing.{after_load}
use Rattle.vm_assembling.specs.Refusing.{after_asm}
use Rattle.vm_outcome.proofs.Unloaded.{unloaded}
use Rattle.vm_assembling.proofs.FileReads.{long_is_no_assembly, long_is_assembly_fault, no_assembly_read}
use Rattle.vm_status.specs.declared.refusal.Refusal.{Refusal}
use Rattle.vm_status.specs.declared.role.Role.TheVariants as roles
use Rattle.vm_assembling.proofs.assembling.image_from.Goals as goal

pub returns-in-Err-clause-reads : goal.returns-in-Err-clause-reads
returns-in-Err-clause-reads g c =
    let host = g.H.Host.seen c.args.host.now in
    let name = c.args.file.now in
    let same : c.after_load.result ≡ after_load roles.Assembly name 1048576 c.in-Err.fault =
    c.after_load.ensures ∙ ap (λ (n : List ℕ). after_load roles.Assembly n 1048576 c.in-Err.fault) c.in_ok-name.ensures in
    subst (λ (r : Refusal). Unread host.tells (host.file name) roles.Assembly name IsAssembly IsAssemblyFault r) (sym same)
    (unloaded host.tells (host.file name) roles.Assembly name IsAssembly IsAssemblyFault 1048576 long_is_no_assembly long_is_assembly_fault
    c.in-Err.fault c.in-Err.ensures.long c.in-Err.ensures.missing)

pub returns-in-Err-assemble-clause-reads : goal.returns-in-Err-assemble-clause-reads
returns-in-Err-assemble-clause-reads g c =
    let host = g.H.Host.seen c.args.host.now in
    let name = c.args.file.now in
    let bytes = c.deref.result.now in
    let is_file : WhereTold host.tells (host.file name ≡ Some bytes) =
    λ told. c.in-Ok.ensures.bytes told ∙ ap (λ (b : List ℕ). Some b) (sym c.deref.ensures.value) in
    let within = subst (λ (b : List ℕ). length b ≤ 1048576) (sym c.deref.ensures.value) c.in-Ok.ensures.within in
    let same : c.after_asm.result ≡ after_asm name c.in-Err-assemble.error =
    c.after_asm.ensures ∙ ap (λ (n : List ℕ). after_asm n c.in-Err-assemble.error) c.in_ok-name.ensures in
    subst (λ (r : Refusal). Unread host.tells (host.file name) roles.Assembly name IsAssembly IsAssemblyFault r) (sym same)
    (no_assembly_read host.tells (host.file name) name bytes is_file within c.spelling_is_a_function.ensures c.in-Err-assemble.error c.in-Err-assemble.ensures.told)
