use Rattle.std.proofs.Common.{◌≡◌, ◌∙◌, List, ℕ, Ok, sym, subst}
use Rattle.vm_asm.specs.Assembly.{assembled}
use Rattle.vm_asm.specs.Workload.{workload_text}
use Rattle.vm_making.specs.Counts.{counts}
use Rattle.vm_making.proofs.Starts.{sound_from, start_is}
use Rattle.vm_making.proofs.starting.start_of.Goals as goal
use Rattle.vm_state.specs.Start.{IsSound}
use Rattle.vm_state.specs.declared.start.Start.{Start}

pub returns : goal.returns
returns c =
    let law = c.spelling_is_a_function.ensures in
    let image = c.in_ok-image.image in
    let is = start_is c.args.cpus image c.in_ok-plan.plan c.new.result c.in_ok-script.script c.in_ok-plan.ensures c.new.ensures c.in_ok-script.ensures in
    let same : c.as_slice.result.now ≡ counts c.args.cpus c.args.number = c.as_slice.ensures.value ∙ c.counts_of.ensures in
    record {
      start = record {
        spell = law.0;
        canonical = law.1;
        image = image;
        spelled = subst (λ (l : List ℕ). assembled law.0 (workload_text l) ≡ Ok image) same (c.in_ok-image.ensures.image law.0 law.1);
        is = is;
      };
      sound = subst (λ (s : Start). IsSound s) (sym is) (sound_from c.args.cpus image c.requires.some_cpu c.requires.cpus c.in_ok-image.ensures.allowed);
    }
