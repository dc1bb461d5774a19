use Rattle.vm_run.proofs.top.tell_refusal.Goals as goal

pub tell-told-requires : goal.tell-told-requires
tell-told-requires g c = tt
