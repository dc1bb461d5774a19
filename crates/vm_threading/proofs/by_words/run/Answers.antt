use Rattle.std.proofs.Common.{List, ℕ, Option, Err, true, sym, subst, inl}
use Rattle.std.specs.Option.{option_copied}
use Rattle.vm_outcome.specs.Ends.{ending_status}
use Rattle.vm_outcome.proofs.Frames.{causes_after}
use Rattle.vm_replaying.proofs.Starting.{as_ending, none_before, quiet_counts, read_causes, read_named, start_no_console}
use Rattle.vm_start.specs.Start.{IsStartOf, StartOf}
use Rattle.vm_soloing.specs.Answers.{in_threads}
use Rattle.vm_soloing.proofs.Moving.{quiet_reads}
use Rattle.vm_soloing.proofs.Solos.{not_started, refusal_no_eight, solo_answers, solo_begins, solo_console, solo_disks, solo_doubted, solo_named, solo_orderly, solo_own, solo_run, solo_sound, solo_start}
use Rattle.vm_threading.proofs.by_words.run.Goals as goal

-- ---- the files give a start

pub returns-in-Ok-clause-answers : goal.returns-in-Ok-clause-answers
returns-in-Ok-clause-answers g c =
    let old = g.H.Host.seen c.args.host.now in
    let mid = g.H.Host.seen c.read_start.new.host in
    let new = g.H.Host.seen c.run_start.new.host in
    let console = g.S.Sink.seen c.args.console.now in
    let console_now = g.S.Sink.seen c.run_start.new.console in
    let journal = option_copied c.as_ref-journal.result in
    let start = c.in-Ok.start in
    let q = quiet_reads start start.plan journal old mid c.in-Ok.ensures.causes c.in-Ok.ensures.leaves in
    let ending = c.run_start.result.ending in
    let kept = c.run_start.result.kept in
    let ran = c.run_start.ensures in
    solo_answers in_threads c.args.words.now journal c.as_ref-journal.ensures.value start old mid new console console_now ending q kept ran.runs ran.spent

pub returns-in-Ok-clause-run : goal.returns-in-Ok-clause-run
returns-in-Ok-clause-run g c =
    let old = g.H.Host.seen c.args.host.now in
    let mid = g.H.Host.seen c.read_start.new.host in
    let new = g.H.Host.seen c.run_start.new.host in
    let console = g.S.Sink.seen c.args.console.now in
    let console_now = g.S.Sink.seen c.run_start.new.console in
    let journal = option_copied c.as_ref-journal.result in
    let start = c.in-Ok.start in
    let q = quiet_reads start start.plan journal old mid c.in-Ok.ensures.causes c.in-Ok.ensures.leaves in
    let ending = c.run_start.result.ending in
    let kept = c.run_start.result.kept in
    let ran = c.run_start.ensures in
    solo_run in_threads c.args.words.now journal c.as_ref-journal.ensures.value start old mid new console console_now ending q kept ran.runs

pub returns-in-Ok-clause-start : goal.returns-in-Ok-clause-start
returns-in-Ok-clause-start g c =
    let old = g.H.Host.seen c.args.host.now in
    let mid = g.H.Host.seen c.read_start.new.host in
    let new = g.H.Host.seen c.run_start.new.host in
    let console = g.S.Sink.seen c.args.console.now in
    let console_now = g.S.Sink.seen c.run_start.new.console in
    let journal = option_copied c.as_ref-journal.result in
    let start = c.in-Ok.start in
    let q = quiet_reads start start.plan journal old mid c.in-Ok.ensures.causes c.in-Ok.ensures.leaves in
    let ending = c.run_start.result.ending in
    let kept = c.run_start.result.kept in
    let ran = c.run_start.ensures in
    solo_start in_threads c.args.words.now journal c.as_ref-journal.ensures.value start old mid new console console_now ending q old.tells old.file kept c.in-Ok.ensures.start ran.runs

pub returns-in-Ok-clause-begins : goal.returns-in-Ok-clause-begins
returns-in-Ok-clause-begins g c = λ first told is none.
    let old = g.H.Host.seen c.args.host.now in
    let mid = g.H.Host.seen c.read_start.new.host in
    let new = g.H.Host.seen c.run_start.new.host in
    let console = g.S.Sink.seen c.args.console.now in
    let console_now = g.S.Sink.seen c.run_start.new.console in
    let journal = option_copied c.as_ref-journal.result in
    let start = c.in-Ok.start in
    let q = quiet_reads start start.plan journal old mid c.in-Ok.ensures.causes c.in-Ok.ensures.leaves in
    let ending = c.run_start.result.ending in
    let kept = c.run_start.result.kept in
    let ran = c.run_start.ensures in
    solo_begins in_threads c.args.words.now journal c.as_ref-journal.ensures.value start old mid new console console_now ending q first kept
    (c.in-Ok.ensures.complete first told (subst (λ (j : Option (List ℕ)). IsStartOf true old.file c.args.words.now j first) (sym c.as_ref-journal.ensures.value) is)
    (none_before old mid new none ran.causes.later.0 ran.causes.later.1))
    ran.runs ran.spent

pub returns-in-Ok-clause-refuses : goal.returns-in-Ok-clause-refuses
returns-in-Ok-clause-refuses g c = λ e told of other.
    absurd (let due = c.in-Ok.ensures.exact e told (subst (λ (j : Option (List ℕ)). StartOf true (g.H.Host.seen c.args.host.now).file c.args.words.now j (Err e)) (sym c.as_ref-journal.ensures.value) of) in other due.0 due.1)

pub returns-in-Ok-clause-orderly : goal.returns-in-Ok-clause-orderly
returns-in-Ok-clause-orderly g c =
    let old = g.H.Host.seen c.args.host.now in
    let mid = g.H.Host.seen c.read_start.new.host in
    let new = g.H.Host.seen c.run_start.new.host in
    let console = g.S.Sink.seen c.args.console.now in
    let console_now = g.S.Sink.seen c.run_start.new.console in
    let journal = option_copied c.as_ref-journal.result in
    let start = c.in-Ok.start in
    let q = quiet_reads start start.plan journal old mid c.in-Ok.ensures.causes c.in-Ok.ensures.leaves in
    let ending = c.run_start.result.ending in
    let kept = c.run_start.result.kept in
    let ran = c.run_start.ensures in
    solo_orderly in_threads c.args.words.now journal c.as_ref-journal.ensures.value start old mid new console console_now ending q kept ran.runs

pub returns-in-Ok-clause-causes : goal.returns-in-Ok-clause-causes
returns-in-Ok-clause-causes g c =
    let old = g.H.Host.seen c.args.host.now in
    let mid = g.H.Host.seen c.read_start.new.host in
    let new = g.H.Host.seen c.run_start.new.host in
    let console = g.S.Sink.seen c.args.console.now in
    let console_now = g.S.Sink.seen c.run_start.new.console in
    let journal = option_copied c.as_ref-journal.result in
    let start = c.in-Ok.start in
    let q = quiet_reads start start.plan journal old mid c.in-Ok.ensures.causes c.in-Ok.ensures.leaves in
    let ending = c.run_start.result.ending in
    let kept = c.run_start.result.kept in
    let ran = c.run_start.ensures in
    (let calm = quiet_counts start old mid c.in-Ok.ensures.causes in causes_after (ending_status ending) old mid new console console_now calm.0 calm.1 ran.causes)

pub returns-in-Ok-clause-named : goal.returns-in-Ok-clause-named
returns-in-Ok-clause-named g c = λ name e.
    let old = g.H.Host.seen c.args.host.now in
    let mid = g.H.Host.seen c.read_start.new.host in
    let new = g.H.Host.seen c.run_start.new.host in
    let console = g.S.Sink.seen c.args.console.now in
    let console_now = g.S.Sink.seen c.run_start.new.console in
    let journal = option_copied c.as_ref-journal.result in
    let start = c.in-Ok.start in
    let q = quiet_reads start start.plan journal old mid c.in-Ok.ensures.causes c.in-Ok.ensures.leaves in
    let ending = c.run_start.result.ending in
    let kept = c.run_start.result.kept in
    let ran = c.run_start.ensures in
    solo_named in_threads c.args.words.now journal c.as_ref-journal.ensures.value start old mid new console console_now ending q kept name ran.runs ran.spent e

pub returns-in-Ok-clause-files : goal.returns-in-Ok-clause-files
returns-in-Ok-clause-files g c =
    let old = g.H.Host.seen c.args.host.now in
    let mid = g.H.Host.seen c.read_start.new.host in
    let new = g.H.Host.seen c.run_start.new.host in
    let console = g.S.Sink.seen c.args.console.now in
    let console_now = g.S.Sink.seen c.run_start.new.console in
    let journal = option_copied c.as_ref-journal.result in
    let start = c.in-Ok.start in
    let q = quiet_reads start start.plan journal old mid c.in-Ok.ensures.causes c.in-Ok.ensures.leaves in
    let ending = c.run_start.result.ending in
    let kept = c.run_start.result.kept in
    let ran = c.run_start.ensures in
    solo_own in_threads c.args.words.now journal c.as_ref-journal.ensures.value start old mid new console console_now ending q c.in-Ok.ensures.start ran.host

pub returns-in-Ok-clause-disks : goal.returns-in-Ok-clause-disks
returns-in-Ok-clause-disks g c =
    let old = g.H.Host.seen c.args.host.now in
    let mid = g.H.Host.seen c.read_start.new.host in
    let new = g.H.Host.seen c.run_start.new.host in
    let console = g.S.Sink.seen c.args.console.now in
    let console_now = g.S.Sink.seen c.run_start.new.console in
    let journal = option_copied c.as_ref-journal.result in
    let start = c.in-Ok.start in
    let q = quiet_reads start start.plan journal old mid c.in-Ok.ensures.causes c.in-Ok.ensures.leaves in
    let ending = c.run_start.result.ending in
    let kept = c.run_start.result.kept in
    let ran = c.run_start.ensures in
    solo_disks in_threads c.args.words.now journal c.as_ref-journal.ensures.value start old mid new console console_now ending q kept c.in-Ok.ensures.disks ran.runs

pub returns-in-Ok-clause-sound_images : goal.returns-in-Ok-clause-sound_images
returns-in-Ok-clause-sound_images g c =
    let old = g.H.Host.seen c.args.host.now in
    let mid = g.H.Host.seen c.read_start.new.host in
    let new = g.H.Host.seen c.run_start.new.host in
    let console = g.S.Sink.seen c.args.console.now in
    let console_now = g.S.Sink.seen c.run_start.new.console in
    let journal = option_copied c.as_ref-journal.result in
    let start = c.in-Ok.start in
    let q = quiet_reads start start.plan journal old mid c.in-Ok.ensures.causes c.in-Ok.ensures.leaves in
    let ending = c.run_start.result.ending in
    let kept = c.run_start.result.kept in
    let ran = c.run_start.ensures in
    solo_sound in_threads c.args.words.now journal c.as_ref-journal.ensures.value start old mid new console console_now ending q kept ran.runs ran.spent

pub returns-in-Ok-clause-doubted : goal.returns-in-Ok-clause-doubted
returns-in-Ok-clause-doubted g c =
    let old = g.H.Host.seen c.args.host.now in
    let mid = g.H.Host.seen c.read_start.new.host in
    let new = g.H.Host.seen c.run_start.new.host in
    let console = g.S.Sink.seen c.args.console.now in
    let console_now = g.S.Sink.seen c.run_start.new.console in
    let journal = option_copied c.as_ref-journal.result in
    let start = c.in-Ok.start in
    let q = quiet_reads start start.plan journal old mid c.in-Ok.ensures.causes c.in-Ok.ensures.leaves in
    let ending = c.run_start.result.ending in
    let kept = c.run_start.result.kept in
    let ran = c.run_start.ensures in
    solo_doubted in_threads c.args.words.now journal c.as_ref-journal.ensures.value start old mid new console console_now ending q kept ran.runs ran.spent

pub returns-in-Ok-clause-console : goal.returns-in-Ok-clause-console
returns-in-Ok-clause-console g c =
    let old = g.H.Host.seen c.args.host.now in
    let mid = g.H.Host.seen c.read_start.new.host in
    let new = g.H.Host.seen c.run_start.new.host in
    let console = g.S.Sink.seen c.args.console.now in
    let console_now = g.S.Sink.seen c.run_start.new.console in
    let journal = option_copied c.as_ref-journal.result in
    let start = c.in-Ok.start in
    let q = quiet_reads start start.plan journal old mid c.in-Ok.ensures.causes c.in-Ok.ensures.leaves in
    let ending = c.run_start.result.ending in
    let kept = c.run_start.result.kept in
    let ran = c.run_start.ensures in
    solo_console in_threads c.args.words.now journal c.as_ref-journal.ensures.value start old mid new console console_now ending q kept ran.runs

-- ---- they give none

pub returns-in-Err-clause-answers : goal.returns-in-Err-clause-answers
returns-in-Err-clause-answers g c =
    not_started in_threads (g.H.Host.seen c.args.host.now) (g.H.Host.seen c.read_start.new.host) (g.S.Sink.seen c.args.console.now) c.args.words.now (option_copied c.as_ref-journal.result) c.in-Err.refusal
    c.as_ref-journal.ensures.value c.in-Err.ensures.start

pub returns-in-Err-clause-begins : goal.returns-in-Err-clause-begins
returns-in-Err-clause-begins g c = λ first told is none.
    as_ending _ _ (c.in-Err.ensures.complete first told
    (subst (λ (j : Option (List ℕ)). IsStartOf true (g.H.Host.seen c.args.host.now).file c.args.words.now j first) (sym c.as_ref-journal.ensures.value) is) none)

pub returns-in-Err-clause-causes : goal.returns-in-Err-clause-causes
returns-in-Err-clause-causes g c =
    let old = g.H.Host.seen c.args.host.now in
    read_causes c.read_start.result c.in-Err.refusal old (g.H.Host.seen c.read_start.new.host) (g.S.Sink.seen c.args.console.now) c.in-Err.is c.read_start.ensures.causes
    (start_no_console old.tells old.file c.args.words.now (option_copied c.as_ref-journal.result) c.in-Err.refusal c.in-Err.ensures.start)

pub returns-in-Err-clause-named : goal.returns-in-Err-clause-named
returns-in-Err-clause-named g c = λ name e.
    read_named c.in-Err.refusal name (g.H.Host.seen c.args.host.now) (g.H.Host.seen c.read_start.new.host) c.in-Err.ensures.causes e

pub returns-in-Err-clause-files : goal.returns-in-Err-clause-files
returns-in-Err-clause-files g c = inl c.in-Err.ensures.leaves

pub returns-in-Err-clause-sound_images : goal.returns-in-Err-clause-sound_images
returns-in-Err-clause-sound_images g c = λ is calm. (λ e. refusal_no_eight c.in-Err.refusal e, tt)

pub returns-in-Err-clause-doubted : goal.returns-in-Err-clause-doubted
returns-in-Err-clause-doubted g c = λ e. absurd (refusal_no_eight c.in-Err.refusal e)
