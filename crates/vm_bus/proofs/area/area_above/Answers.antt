use Rattle.vm_bus.proofs.area.area_above.Goals as goal

pub returns-in-Some-clause-within : goal.returns-in-Some-clause-within
returns-in-Some-clause-within c = c.in-Some.ensures.within c.args.code c.args.ram
