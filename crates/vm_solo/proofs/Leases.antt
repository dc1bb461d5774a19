-- What a runner that fits has out is a lease that fits.
use Rattle.std.proofs.Common.{◌≡◌, ℕ, ◌+◌, true, refl, sym, ap, subst, ◌∙◌, inl, inr, arith}
use Rattle.x86_fetch.specs.Slices.{all_local, most_local}
use Rattle.vm_law.specs.declared.context.Ctx.{Ctx}
use Rattle.vm_meet.specs.Meeting.{started_by}
use Rattle.vm_state.specs.Machine.{cpu_at, is_running}
use Rattle.vm_state.specs.State.{State}
use Rattle.vm_table.specs.Rounds.{pages_looked}
use Rattle.vm_rounds.proofs.Leasing.{LeaseFits}
use Rattle.vm_rounds.proofs.Looking.{most_fits}
use Rattle.vm_vcpu.specs.declared.out.Out.{Out}
use Rattle.vm_vcpu.specs.declared.out.Out.TheVariants.{Nothing, Leased, Ran}
use Rattle.vm_vcpu.specs.Copies.{CopiesView, AreCopies}
use Rattle.vm_vcpu.specs.Fits.{OutFits, RunnerFits}
use Rattle.vm_vcpu.specs.View.{RunnerView, lease_in, lease_now}

out_fits : (s : State) (i p : ℕ) (c : CopiesView) (o : Out) → p ≡ 1 + i → AreCopies s c → OutFits s i p c o → LeaseFits s i (lease_in c o)
out_fits s i p c Nothing e a h = inl refl
out_fits s i p c (Leased ctx left) e a h = inl refl
out_fits s i p c (Ran start left count ctx) e a h =
    let o = h.0 in
    let m = most_fits c.code start left in
    let n = h.1 in
    let l = o.left in
    let few = m.1 in
    inr (record {
      running = subst (λ (q : ℕ). is_running (cpu_at s.machine i).stage q ≡ true) e o.runs;
      awake = o.halted;
      few = omega (arith, n, l, few);
      starter = ap (λ (q : ℕ). started_by s.machine.meet q) (sym e) ∙ o.starter;
      code = c.code;
      granted = left;
      within = omega (arith, n, few);
      size = sym a.size;
      looked = ap (λ (k : Ctx). pages_looked c.code k count left) (sym o.ctx);
      most = n ∙ ap (λ (k : Ctx). most_local c.code k left) (sym o.ctx);
      grant = l;
      local = ap (λ (k : Ctx). all_local c.code k count) o.ctx ∙ ap (λ (k : ℕ). all_local c.code start k) n ∙ m.0;
      grows = λ page. a.earlier page;
      stays = λ page same. sym (a.pages page same);
    })

pub fits_lease : (s : State) (r : RunnerView) → RunnerFits s r → LeaseFits s r.cpu (lease_now r)
fits_lease s r f = out_fits s r.cpu r.by r.copies r.out f.pass f.copies f.out
