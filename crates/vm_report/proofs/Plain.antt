-- A plan's JSON and a state's have no float.
use Rattle.std.proofs.Common.{◌≡◌, ℕ, false, List, [], ◌∷◌, map, Option, Some, None, refl, codes}
use Rattle.serde_json.specs.Data.{Data, member, no_members, object, string}
use Rattle.serde_json.specs.View.{items_of}
use Rattle.serde_json.specs.Written.{has_float, items_have_float}
use Rattle.vm_law.specs.declared.plan.DiskPlan.{DiskPlan}
use Rattle.vm_law.specs.declared.plan.Plan.{Plan}
use Rattle.vm_state.specs.declared.cpu.Cpu.{Cpu}
use Rattle.vm_state.specs.Machine.{MachineState, cpu_at, cpu_numbers}
use Rattle.vm_report.specs.StateText.{cpu_data, cpus_data, members_data, number_data, register_data, registers_data, registers_in, state_data, vectors_data, vectors_in}
use Rattle.vm_report.specs.PlanText.{disk_data, plan_data, text_data}

disks_plain : (ds : List DiskPlan) → items_have_float (items_of (map disk_data ds)) ≡ false
disks_plain [] = refl
disks_plain (d ∷ ds) = disks_plain ds

names_plain : (ns : List (List ℕ)) → items_have_float (items_of (map (λ n. string n) ns)) ≡ false
names_plain [] = refl
names_plain (n ∷ ns) = names_plain ns

text_plain : (o : Option (List ℕ)) → has_float (text_data o) ≡ false
text_plain None = refl
text_plain (Some text) = refl

pub plan_plain : (p : Plan) → has_float (plan_data p) ≡ false
plan_plain p = rw (disks_plain p.disks, text_plain p.image, names_plain p.notbuilt, text_plain p.script) refl

numbers_plain : (ns : List ℕ) → items_have_float (items_of (map number_data ns)) ≡ false
numbers_plain [] = refl
numbers_plain (n ∷ ns) = numbers_plain ns

registers_plain : (ns : List ℕ) → items_have_float (items_of (map register_data ns)) ≡ false
registers_plain [] = refl
registers_plain (n ∷ ns) = registers_plain ns

members_plain : (c : Cpu) (irr isr regs tmr : Data) → has_float irr ≡ false → has_float isr ≡ false → has_float regs ≡ false
    → has_float tmr ≡ false → has_float (members_data c irr isr regs tmr) ≡ false
members_plain c irr isr regs tmr a b d e = rw (a, b, d, e) refl

cpu_plain : (c : Cpu) → has_float (cpu_data c) ≡ false
cpu_plain c =
    members_plain c (vectors_data c.lapic.irr) (vectors_data c.lapic.isr) (registers_data c.ctx) (vectors_data c.lapic.tmr)
    (numbers_plain (vectors_in c.lapic.irr)) (numbers_plain (vectors_in c.lapic.isr))
    (registers_plain (registers_in c.ctx)) (numbers_plain (vectors_in c.lapic.tmr))

first_plain : (d : Data) (ds : List Data) → has_float d ≡ false → items_have_float (items_of ds) ≡ false
    → items_have_float (items_of (d ∷ ds)) ≡ false
first_plain d ds a b = rw (a, b) refl

cpus_plain : (m : MachineState) (is : List ℕ) → items_have_float (items_of (map (λ i. cpu_data (cpu_at m i)) is)) ≡ false
cpus_plain m [] = refl
cpus_plain m (i ∷ is) = first_plain (cpu_data (cpu_at m i)) (map (λ i. cpu_data (cpu_at m i)) is) (cpu_plain (cpu_at m i)) (cpus_plain m is)

one_plain : (d : Data) → has_float d ≡ false → has_float (object (member (codes "cpus") d no_members)) ≡ false
one_plain d a = rw (a) refl

pub state_plain : (m : MachineState) → has_float (state_data m) ≡ false
state_plain m = one_plain (cpus_data m) (cpus_plain m (cpu_numbers m))
