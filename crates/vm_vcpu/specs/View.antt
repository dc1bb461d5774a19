-- What contracts see of a runner.
use Rattle.std.specs.Prelude.{ℕ, if◌then◌else◌, refl}
use Rattle.std.specs.Coded.{Coded, code_by, coded×, coded_ℕ}
use Rattle.x86_fetch.specs.Slices.{most_local, stepped_by}
use Rattle.vm_law.specs.declared.context.Ctx.{Ctx}
use Rattle.vm_state.specs.Machine.{cpu_at}
use Rattle.vm_state.specs.State.{State, seat_at}
use Rattle.vm_table.specs.Rounds.{Lease, leases, no_lease, pages_looked}
use Rattle.vm_vcpu.specs.declared.out.Out.{Out}
use Rattle.vm_vcpu.specs.declared.out.Out.TheVariants.{Nothing, Leased, Ran}
use Rattle.vm_vcpu.specs.declared.out.Phase.{Phase}
use Rattle.vm_vcpu.specs.declared.out.Phase.TheVariants as phase
use Rattle.vm_vcpu.specs.contracts.out.Out as out_contract
use Rattle.vm_vcpu.specs.Copies.{CopiesView, copies_code}

-- its vCPU and its pass, its copies of the pages of code, and what it has out
pub record RunnerView : Type 0 where
  pub cpu : ℕ
  pub by : ℕ
  pub copies : CopiesView
  pub out : Out

abbrev pub runner_code : Coded RunnerView
runner_code =
    code_by (ℕ × (ℕ × (CopiesView × Out))) (coded× coded_ℕ (coded× coded_ℕ (coded× copies_code out_contract.the_row.coded)))
    (λ r. (r.cpu, (r.by, (r.copies, r.out)))) (λ p. record { cpu = p.0; by = p.1.0; copies = p.1.1.0; out = p.1.1.1 }) (λ _. refl)

-- what is out in a phase
abbrev pub out_of : Phase → Ctx → ℕ → ℕ → Ctx → Out
out_of phase.Nothing start left count ctx = Nothing
out_of phase.Leased start left count ctx = Leased start left
out_of phase.Ran start left count ctx = Ran start left count ctx

-- the instructions that it ran ahead, and the pages that it looked at for them
abbrev pub lease_in : CopiesView → Out → Lease
lease_in c Nothing = no_lease
lease_in c (Leased ctx left) = no_lease
lease_in c (Ran start left count ctx) = record { ran = count; looked = pages_looked c.code start count left; versions = c.versions }

abbrev pub lease_now : RunnerView → Lease
lease_now r = lease_in r.copies r.out

-- what is out once it has run ahead: as many instructions as its grant and its copies allow
abbrev pub ran_ahead : CopiesView → Out → Out
ran_ahead c Nothing = Nothing
ran_ahead c (Leased ctx left) = Ran ctx left (most_local c.code ctx left) (stepped_by c.code ctx (most_local c.code ctx left))
ran_ahead c (Ran start left count ctx) = Ran start left count ctx

-- what it takes out of the run: its vCPU's context with the grant that is left, where the vCPU runs and no Exit is due
abbrev pub taken_out : State → ℕ → Out
taken_out s i = if leases s i then Leased (cpu_at s.machine i).ctx (seat_at s i).left else Nothing
