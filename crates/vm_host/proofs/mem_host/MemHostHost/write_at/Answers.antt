use Rattle.std.proofs.Common.{refl, rules, ◌∷◌, length, sym, ◌∙◌, ap}
use Rattle.vm_host.specs.declared.event.Kind.TheVariants.{Wrote}
use Rattle.vm_host.specs.Past.{Change}
use Rattle.vm_host.specs.MemState.{HostState}
use Rattle.vm_host.proofs.Unwritten.{unwritten}
use Rattle.vm_host.proofs.Pasts.{passes_to, torn_to, written_torn, reads_wrote}
use Rattle.vm_host.proofs.mem_host.MemHostHost.write_at.Goals as goal

pub remember-requires : goal.remember-requires
remember-requires c = reads_wrote c.call_fails.new.self.past c.args.name.now c.in-Some.bytes.now c.in_ok-next.next.items c.args.at (length c.args.piece.now) (sym c.in-Some.ensures) (written_torn _ _ _ _ c.in_ok-next.ensures)

pub returns-clause-leaves : goal.returns-clause-leaves
returns-clause-leaves c =
    let e : Change = record { name = c.args.name.now; bytes = c.in_ok-next.next.items; kind = Wrote c.args.at (length c.args.piece.now) } in
    record {
      told = refl;
      files = λ _ q ne. search rules;
      made = λ _ q ne. search rules;
      time = λ _. passes_to c.args.self.now.past c.remember.new.self.past e (ap (λ (m : HostState). m.past) c.in_ok-remember.ensures.ok ∙ ap (λ (m : HostState). e ∷ m.past) c.call_fails.ensures.after);
      image_faults = search rules;
    }

pub returns-clause-crash : goal.returns-clause-crash
returns-clause-crash c = λ _.
    let e : Change = record { name = c.args.name.now; bytes = c.in_ok-next.next.items; kind = Wrote c.args.at (length c.args.piece.now) } in
    torn_to c.args.self.now.past c.remember.new.self.past c.args.name.now c.in_ok-next.next.items c.args.at (length c.args.piece.now) (ap (λ (m : HostState). m.past) c.in_ok-remember.ensures.ok ∙ ap (λ (m : HostState). e ∷ m.past) c.call_fails.ensures.after)

pub returns-then-call_fails-clause-leaves : goal.returns-then-call_fails-clause-leaves
returns-then-call_fails-clause-leaves c = unwritten c.args.name.now c.args.self.now c.call_fails.new.self (search rules) (search rules)

pub returns-in_err-next-clause-leaves : goal.returns-in_err-next-clause-leaves
returns-in_err-next-clause-leaves c = unwritten c.args.name.now c.args.self.now c.call_fails.new.self (search rules) (search rules)

pub returns-in_err-remember-clause-leaves : goal.returns-in_err-remember-clause-leaves
returns-in_err-remember-clause-leaves c = unwritten c.args.name.now c.args.self.now c.remember.new.self (search rules) (search rules)
