use Rattle.std.proofs.Common.{Bool, true, subst}
use Rattle.std.specs.Option.{option_copied}
use Rattle.vm_host.specs.Told.{WhereTold}
use Rattle.vm_state.specs.Start.{IsSound}
use Rattle.vm_state.specs.declared.start.Start.{Start}
use Rattle.vm_start.specs.Answers.{UpToMemory}
use Rattle.vm_start.specs.Images.{AreApart, AreFilesOf, IsDiskOf}
use Rattle.vm_start.specs.Start.{StartOf}
use Rattle.vm_start.proofs.Exact.{completes, refuses, start_exact}
use Rattle.vm_start.proofs.Sound.{start_good}
use Rattle.vm_start.proofs.Steps.{if_ok}
use Rattle.vm_start.proofs.starting.read_start.Goals as goal

pub returns-clause-complete : goal.returns-clause-complete
returns-clause-complete g c = λ start told is calm.
    let file = (g.H.Host.seen c.args.host.now).file in
    let words = c.args.words.now in
    let journal = option_copied c.args.journal in
    completes (StartOf true file words journal) (start_exact file words journal) start c.start_of.result _ _
    (subst (λ (t : Bool). UpToMemory (StartOf t file words journal) c.start_of.result) told c.start_of.ensures.start) c.start_of.ensures.causes is calm

pub returns-clause-exact : goal.returns-clause-exact
returns-clause-exact g c = λ e told is.
    let file = (g.H.Host.seen c.args.host.now).file in
    let words = c.args.words.now in
    let journal = option_copied c.args.journal in
    refuses (StartOf true file words journal) (start_exact file words journal) e c.start_of.result
    (subst (λ (t : Bool). UpToMemory (StartOf t file words journal) c.start_of.result) told c.start_of.ensures.start) is

pub returns-clause-sound : goal.returns-clause-sound
returns-clause-sound g c =
    let host = g.H.Host.seen c.args.host.now in
    let words = c.args.words.now in
    let journal = option_copied c.args.journal in
    if_ok (StartOf host.tells host.file words journal) IsSound c.start_of.result c.start_of.ensures.start
    (λ s h. (start_good host.tells host.file words journal s h).sound c.requires.some_limit c.requires.limit)

pub returns-clause-apart : goal.returns-clause-apart
returns-clause-apart g c =
    let host = g.H.Host.seen c.args.host.now in
    let words = c.args.words.now in
    let journal = option_copied c.args.journal in
    if_ok (StartOf host.tells host.file words journal) (λ (s : Start). AreApart s.plan) c.start_of.result c.start_of.ensures.start
    (λ s h. (start_good host.tells host.file words journal s h).apart)

pub returns-clause-journal : goal.returns-clause-journal
returns-clause-journal g c = λ name is.
    let host = g.H.Host.seen c.args.host.now in
    let words = c.args.words.now in
    let journal = option_copied c.args.journal in
    if_ok (StartOf host.tells host.file words journal) (λ (s : Start). IsDiskOf s.plan name → ⊥) c.start_of.result c.start_of.ensures.start
    (λ s h. (start_good host.tells host.file words journal s h).journal_apart name is)

pub returns-clause-disks : goal.returns-clause-disks
returns-clause-disks g c =
    let host = g.H.Host.seen c.args.host.now in
    let words = c.args.words.now in
    let journal = option_copied c.args.journal in
    if_ok (StartOf host.tells host.file words journal) (λ (s : Start). WhereTold host.tells (AreFilesOf host.file s)) c.start_of.result c.start_of.ensures.start
    (λ s h. (start_good host.tells host.file words journal s h).disks)
