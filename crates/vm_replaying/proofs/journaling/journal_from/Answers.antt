use Rattle.std.proofs.Common.{◌≡◌, List, ℕ, IsSomeAnd, ap, sym, subst, ◌∙◌}
use Rattle.ckpt_store.specs.Loading.{IsGatedFront}
use Rattle.vm_host.specs.Told.{WhereTold}
use Rattle.vm_outcome.specs.Files.{Unread}
use Rattle.vm_replaying.specs.Files.{IsJournal, IsJournalFault}
use Rattle.vm_outcome.specs.Refusing.{after_load}
use Rattle.vm_replaying.specs.Refusing.{after_decode}
use Rattle.vm_outcome.proofs.Unloaded.{unloaded}
use Rattle.vm_replaying.proofs.FileReads.{long_is_no_journal, long_is_journal_fault, no_journal_read}
use Rattle.vm_status.specs.declared.refusal.Refusal.{Refusal}
use Rattle.vm_status.specs.declared.role.Role.TheVariants as roles
use Rattle.vm_replaying.proofs.journaling.journal_from.Goals as goal

pub returns-in-Err-clause-reads : goal.returns-in-Err-clause-reads
returns-in-Err-clause-reads g c =
    let host = g.H.Host.seen c.args.host.now in
    let name = c.args.file.now in
    let same : c.after_load.result ≡ after_load roles.Journal name 4294967296 c.in-Err.fault =
    c.after_load.ensures ∙ ap (λ (n : List ℕ). after_load roles.Journal n 4294967296 c.in-Err.fault) c.in_ok-name.ensures in
    subst (λ (r : Refusal). Unread host.tells (host.file name) roles.Journal name IsJournal IsJournalFault r) (sym same)
    (unloaded host.tells (host.file name) roles.Journal name IsJournal IsJournalFault 4294967296 long_is_no_journal long_is_journal_fault
    c.in-Err.fault c.in-Err.ensures.long c.in-Err.ensures.missing)

pub returns-in-Err-decode-clause-reads : goal.returns-in-Err-decode-clause-reads
returns-in-Err-decode-clause-reads g c =
    let host = g.H.Host.seen c.args.host.now in
    let name = c.args.file.now in
    let bytes = c.deref.result.now in
    let front : WhereTold host.tells (IsSomeAnd (host.file name) (λ f. IsGatedFront f bytes)) =
    subst (λ (b : List ℕ). WhereTold host.tells (IsSomeAnd (host.file name) (λ f. IsGatedFront f b))) (sym c.deref.ensures.value) c.in-Ok.ensures.bytes in
    let same : c.after_decode.result ≡ after_decode name c.in-Err-decode.error =
    c.after_decode.ensures ∙ ap (λ (n : List ℕ). after_decode n c.in-Err-decode.error) c.in_ok-name.ensures in
    subst (λ (r : Refusal). Unread host.tells (host.file name) roles.Journal name IsJournal IsJournalFault r) (sym same)
    (no_journal_read host.tells (host.file name) bytes front name c.in-Err-decode.error c.in-Err-decode.ensures.only c.in-Err-decode.ensures.exact)
