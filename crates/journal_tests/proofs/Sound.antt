-- The starts of the two histories are sound.
use Rattle.std.proofs.Common.{◌≡◌, ℕ, ◌≤◌, true, List, [], ◌∷◌, length, refl, arith}
use Rattle.std.specs.List.{All}
use Rattle.vm_law.specs.Image.{IsAllowed}
use Rattle.vm_law.specs.declared.image.FlatImage.{FlatImage}
use Rattle.vm_law.specs.declared.plan.Plan.{Plan}
use Rattle.vm_law.specs.declared.script.Order.{Order}
use Rattle.vm_law.specs.declared.script.Order.TheVariants.{Rendezvous, WaitQuiet}
use Rattle.vm_state.specs.declared.start.Origin.TheVariants.{Flat}
use Rattle.vm_state.specs.Start.{IsDisk, IsPlanned, IsSound}
use Rattle.vm_state.specs.Script.{is_allowed, may_follow, may_stand, and_then}

pub meeting_allowed : (p : Plan) (script : List Order) → script ≡ Rendezvous ∷ WaitQuiet ∷ [] → is_allowed p script ≡ true
unfolding may_follow may_stand and_then
meeting_allowed p script e = rw e refl

pub quiet_allowed : (p : Plan) (script : List Order) → script ≡ WaitQuiet ∷ [] → is_allowed p script ≡ true
unfolding may_follow may_stand and_then
quiet_allowed p script e = rw e refl

pub sound_flat : (p : Plan) (f : FlatImage) (disks : List (List ℕ)) (script : List Order) → 1 ≤ p.cpus → p.cpus ≤ 16 → p.memory ≡ 1048576
    → length p.disks ≤ 8 → All IsPlanned p.disks → length disks ≡ length p.disks → All IsDisk disks → IsAllowed 1048576 f → is_allowed p script ≡ true
    → IsSound (record { plan = p; origin = Flat f; disks = disks; script = script; limit = 10000000 })
sound_flat p f disks script some most memory few planned count each allowed stands = record {
  plan = record {
    some_cpu = some;
    cpus = most;
    memory = rw memory (record { least = omega arith; most = omega arith; whole = refl });
    disks = few;
    each_disk = planned;
  };
  disks = count;
  each_disk = each;
  origin = rw memory allowed;
  script = stands;
  some_limit = omega arith;
  limit = omega arith;
}
