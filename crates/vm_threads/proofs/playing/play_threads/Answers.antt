-- A run in threads: what closes it, and what its answer says.
use Rattle.std.proofs.Common.{◌≤◌, sym, subst, arith}
use Rattle.vm_threads.proofs.Done.{ends_all, ends_cause, ends_closed, ends_inside, ends_later, ends_only, ends_part, ends_quiet, ends_start, ends_starved, lone}
use Rattle.vm_threads.proofs.playing.play_threads.Goals as goal

pub close-requires-clause-lone : goal.close-requires-clause-lone
close-requires-clause-lone g c = lone _ _ _ _ _ _ c.in_ok-turnstile.ensures.chair.first c.in_ok-chair.ensures.played

pub returns-clause-start : goal.returns-clause-start
returns-clause-start g c = ends_start g.I.Image.seen _ _ _ _ _ _ _ _ _ _ c.in_ok-turnstile.ensures.chair c.in_ok-chair.ensures.played c.close.ensures

pub returns-clause-closed : goal.returns-clause-closed
returns-clause-closed g c = ends_closed g.I.Image.seen _ _ _ _ _ _ _ _ _ _ c.in_ok-turnstile.ensures.chair c.in_ok-chair.ensures.played c.close.ensures

pub returns-clause-starved : goal.returns-clause-starved
returns-clause-starved g c = ends_starved g.I.Image.seen _ _ _ _ _ _ _ _ _ _ c.in_ok-turnstile.ensures.chair c.in_ok-chair.ensures.played c.close.ensures

pub returns-clause-no_fault : goal.returns-clause-no_fault
returns-clause-no_fault g c = ends_inside g.I.Image.seen _ _ _ _ _ _ _ _ _ _ c.in_ok-turnstile.ensures.chair c.in_ok-chair.ensures.played c.close.ensures

pub returns-clause-part : goal.returns-clause-part
returns-clause-part g c = ends_part g.I.Image.seen _ _ _ _ _ _ _ _ _ _ c.in_ok-turnstile.ensures.chair c.in_ok-chair.ensures.played c.close.ensures

pub returns-clause-all : goal.returns-clause-all
returns-clause-all g c = ends_all g.I.Image.seen _ _ _ _ _ _ _ _ _ _ c.in_ok-turnstile.ensures.chair c.in_ok-chair.ensures.played c.close.ensures

pub returns-clause-quiet : goal.returns-clause-quiet
returns-clause-quiet g c = ends_quiet g.I.Image.seen _ _ _ _ _ _ _ _ _ _ c.in_ok-turnstile.ensures.chair c.in_ok-chair.ensures.played c.close.ensures

pub returns-clause-cause : goal.returns-clause-cause
returns-clause-cause g c = ends_cause g.I.Image.seen _ _ _ _ _ _ _ _ _ _ c.in_ok-turnstile.ensures.chair c.in_ok-chair.ensures.played c.close.ensures

pub returns-clause-later : goal.returns-clause-later
returns-clause-later g c = ends_later g.I.Image.seen _ _ _ _ _ _ _ _ _ _ c.in_ok-turnstile.ensures.chair c.in_ok-chair.ensures.played c.close.ensures

pub returns-clause-only : goal.returns-clause-only
returns-clause-only g c = ends_only g.I.Image.seen _ _ _ _ _ _ _ _ _ _ c.in_ok-turnstile.ensures.chair c.in_ok-chair.ensures.played c.close.ensures

pub returns-in_err-chair-clause-later : goal.returns-in_err-chair-clause-later
returns-in_err-chair-clause-later g c =
    let none : (g.S.Sink.seen c.args.console.now).faults ≤ (g.S.Sink.seen c.args.console.now).faults = omega arith in
    subst (λ (s : g.row.S.Denot). (g.S.Sink.seen c.args.console.now).faults ≤ (g.S.Sink.seen s).faults) (sym c.in_err-chair.ensures.idle) none
