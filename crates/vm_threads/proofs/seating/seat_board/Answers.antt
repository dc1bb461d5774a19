use Rattle.std.proofs.Common.{◌≡◌, ℕ, ◌+◌, Some, sym, ap, subst, ◌∙◌, vec_len}
use Rattle.vm_turn.specs.declared.view.View.{View}
use Rattle.vm_state.specs.declared.start.Start.{Start}
use Rattle.vm_state.specs.Machine as machine
use Rattle.vm_state.specs.Start.{boot}
use Rattle.vm_state.specs.State.{State}
use Rattle.vm_threads.specs.New.{HasCode, HasWorkers, IsFirst}
use Rattle.vm_threads.proofs.Firsts.{of_boot, opening_first}
use Rattle.vm_threads.proofs.seating.seat_board.Goals as goal

pub seat_runners-requires-clause-first : goal.seat_runners-requires-clause-first
seat_runners-requires-clause-first g c = subst (λ (w : View Start). IsFirst w 0) (sym c.in_ok-turnstile.ensures.view) (opening_first c.args.board.start c.requires.sound)

pub seat_runners-requires-clause-code : goal.seat_runners-requires-clause-code
seat_runners-requires-clause-code g c =
    let root : c.in_ok-turnstile.pass.view.root ≡ Some c.args.board.start = ap (λ (w : View Start). w.root) c.in_ok-turnstile.ensures.view in
    let cpus : machine.cpu_count (boot c.args.board.start).machine ≡ c.cpu_count-cpus.result = ap (λ (s : State). machine.cpu_count s.machine) (sym (c.run-3.ensures ∙ c.requires.boot)) ∙ sym c.cpu_count-cpus.ensures in
    let code : machine.code_of (boot c.args.board.start).machine ≡ c.in_ok-code.code.items = ap (λ (s : State). machine.code_of s.machine) (sym (c.run.ensures ∙ c.requires.boot)) ∙ sym c.in_ok-code.ensures.bytes in
    let value = c.deref.ensures.value in
    of_boot c.in_ok-turnstile.pass.view c.args.board.start (HasCode c.cpu_count-cpus.result _) root (record { cpus_is = cpus; code_is = code ∙ sym value })

pub seat_workers-requires-clause-first : goal.seat_workers-requires-clause-first
seat_workers-requires-clause-first g c =
    let f = c.in_ok-pass.ensures.first in
    subst (λ (n : ℕ). IsFirst c.in_ok-pass.pass.view n) (sym f.splits_is) f

pub seat_workers-requires-clause-cpus : goal.seat_workers-requires-clause-cpus
seat_workers-requires-clause-cpus g c =
    let root : c.in_ok-pass.pass.view.root ≡ Some c.args.board.start = c.in_ok-pass.ensures.root ∙ ap (λ (w : View Start). w.root) c.in_ok-turnstile.ensures.view in
    let cpus : machine.cpu_count (boot c.args.board.start).machine ≡ c.cpu_count-cpus.result = ap (λ (s : State). machine.cpu_count s.machine) (sym (c.run-3.ensures ∙ c.requires.boot)) ∙ sym c.cpu_count-cpus.ensures in
    of_boot c.in_ok-pass.pass.view c.args.board.start (λ m. machine.cpu_count m ≡ c.in_ok-pass.pass.view.splits) root (cpus ∙ sym c.in_ok-pass.ensures.first.splits_is)

pub seat_workers-requires-clause-workers : goal.seat_workers-requires-clause-workers
seat_workers-requires-clause-workers g c =
    let root : c.in_ok-pass.pass.view.root ≡ Some c.args.board.start = c.in_ok-pass.ensures.root ∙ ap (λ (w : View Start). w.root) c.in_ok-turnstile.ensures.view in
    let drives : machine.drive_count (boot c.args.board.start).machine ≡ c.drive_count-drives.result = ap (λ (s : State). machine.drive_count s.machine) (sym (c.run-4.ensures ∙ c.requires.boot)) ∙ sym c.drive_count-drives.ensures in
    let counts = subst (λ (s : State). HasWorkers c.in_ok-counts.counts.items s.machine) (c.run-2.ensures ∙ c.requires.boot) c.in_ok-counts.ensures in
    of_boot c.in_ok-pass.pass.view c.args.board.start (λ m. (machine.drive_count m ≡ c.drive_count-drives.result) × HasWorkers c.deref-2.result.now m) root (drives, subst (λ l. HasWorkers l (boot c.args.board.start).machine) (sym c.deref-2.ensures.value) counts)

pub returns-clause-root : goal.returns-clause-root
returns-clause-root g c = c.in_ok-pass-2.ensures.root ∙ c.in_ok-pass.ensures.root ∙ ap (λ (w : View Start). w.root) c.in_ok-turnstile.ensures.view

pub returns-clause-first : goal.returns-clause-first
returns-clause-first g c =
    let splits = c.in_ok-pass.ensures.first.splits_is in
    let count = c.in_ok-pass.ensures.count in
    let same : c.in_ok-pass.pass.view.splits ≡ vec_len c.in_ok-pass.runners = splits ∙ sym count in
    subst (λ (n : ℕ). IsFirst c.in_ok-pass-2.pass.view (n + vec_len c.in_ok-pass-2.workers)) same c.in_ok-pass-2.ensures.first
