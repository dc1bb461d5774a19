-- The drives of a machine that is saved are the planned ones, and hold the disks.
use Rattle.std.proofs.Common.{◌≡◌, ℕ, ◌+◌, ◌<◌, ◌≤◌, List, [], length, get_or, map, refl, sym, subst, ap, ◌∙◌, arith, inl, inr}
use Rattle.std.proofs.Math.Nat.{eq-or-lt_of_le}
use Rattle.std.proofs.lemmas.List.{get_or-map, get_or_read_under}
use Rattle.vm_law.specs.declared.plan.DiskPlan.{DiskPlan}
use Rattle.vm_law.specs.declared.plan.Plan.{Plan}
use Rattle.vm_state.specs.declared.drive.Drive.{Drive}
use Rattle.vm_state.specs.Machine.{MachineState, no_drive}
use Rattle.vm_state.specs.Sound.{IsMachine}
use Rattle.vm_state.specs.Start as spec
use Rattle.vm_state.specs.State.{State}
use Rattle.run_cases.specs.Sound.{IsPlannedDrive, Fits}

-- the drives below n are the planned ones
abbrev pub ArePlannedBelow : List DiskPlan → List Drive → ℕ → Type 0
ArePlannedBelow plans drives n = (k : ℕ) → k < n → IsPlannedDrive (get_or plans k spec.no_plan) (get_or drives k no_drive)

planned_at : (plans : List DiskPlan) (drives : List Drive) (d : ℕ) (plan : DiskPlan) (drive : Drive) → plan ≡ get_or plans d plan → drive ≡ get_or drives d drive
    → d < length drives → length drives ≡ length plans → IsPlannedDrive plan drive → IsPlannedDrive (get_or plans d spec.no_plan) (get_or drives d no_drive)
planned_at plans drives d plan drive plan_is drive_is within count fine =
    subst (λ (y : Drive). IsPlannedDrive (get_or plans d spec.no_plan) y) (get_or_read_under drives d (length drives) drive no_drive drive_is within refl)
    (subst (λ (x : DiskPlan). IsPlannedDrive x drive) (get_or_read_under plans d (length drives) plan spec.no_plan plan_is within count) fine)

pub planned_more : (plans : List DiskPlan) (drives : List Drive) (d : ℕ) (plan : DiskPlan) (drive : Drive) → plan ≡ get_or plans d plan → drive ≡ get_or drives d drive
    → d < length drives → length drives ≡ length plans → IsPlannedDrive plan drive → ArePlannedBelow plans drives d → ArePlannedBelow plans drives (d + 1)
planned_more plans drives d plan drive plan_is drive_is within count fine below k less =
    let le : k ≤ d = omega arith in
    elim (eq-or-lt_of_le le) [
      | inl same ↦ subst (λ (j : ℕ). IsPlannedDrive (get_or plans j spec.no_plan) (get_or drives j no_drive)) (sym same) (planned_at plans drives d plan drive plan_is drive_is within count fine)
      | inr lower ↦ below k lower
    ]

holds_at : (drives : List Drive) (d : ℕ) → d < length drives → (get_or drives d no_drive).bytes ≡ get_or (map (λ (x : Drive). x.bytes) drives) d []
holds_at drives d within = sym (get_or-map (λ (x : Drive). x.bytes) drives d no_drive [] within)

-- the machine of a run at a cut is one from which a run can begin, with the disks that it holds
pub saved_fits : (plan : Plan) (s : State) (disks : List (List ℕ)) → IsMachine s.machine → Fits plan s → disks ≡ map (λ (x : Drive). x.bytes) s.machine.drives
    → spec.IsSaved plan disks s.machine
saved_fits plan s disks sound fits same =
    record {
      sound = sound;
      cpus = fits.cpus;
      memory = fits.memory;
      drives = record {
        count = fits.drives.count;
        each = λ d within.
            record {
              ro = (fits.drives.each d within).ro;
              workers = (fits.drives.each d within).workers;
              holds = holds_at s.machine.drives d within ∙ ap (λ (xs : List (List ℕ)). get_or xs d []) (sym same);
            };
      };
      frozen = fits.frozen;
      pause = fits.pause;
      meet = fits.meet;
      at_rest = fits.at_rest;
    }
