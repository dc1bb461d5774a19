use Rattle.std.proofs.Common.{refl, rules, ◌∷◌, ◌∙◌, ap}
use Rattle.vm_host.specs.declared.event.Kind.TheVariants.{Made}
use Rattle.vm_host.specs.Past.{Change}
use Rattle.vm_host.specs.MemState.{HostState}
use Rattle.vm_host.proofs.Unwritten.{unwritten}
use Rattle.vm_host.proofs.Pasts.{passes_to}
use Rattle.vm_host.proofs.mem_host.MemHostHost.make.Goals as goal

pub returns-clause-leaves : goal.returns-clause-leaves
returns-clause-leaves c =
    let e : Change = record { name = c.args.name.now; bytes = c.new.result.items; kind = Made } in
    record {
      told = refl;
      files = λ _ q ne. search rules;
      made = λ _ q ne. search rules;
      time = λ _. passes_to c.args.self.now.past c.remember-2.new.self.past e (ap (λ (m : HostState). m.past) c.in_ok-remember.ensures.ok ∙ ap (λ (m : HostState). e ∷ m.past) c.call_fails.ensures.after);
      image_faults = search rules;
    }

pub returns-then-call_fails-clause-leaves : goal.returns-then-call_fails-clause-leaves
returns-then-call_fails-clause-leaves c = unwritten c.args.name.now c.args.self.now c.call_fails.new.self (search rules) (search rules)

pub returns-in_err-remember-clause-leaves : goal.returns-in_err-remember-clause-leaves
returns-in_err-remember-clause-leaves c = unwritten c.args.name.now c.args.self.now c.remember-2.new.self (search rules) (search rules)
