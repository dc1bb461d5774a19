-- The guest's start is sound.
use Rattle.std.proofs.Common.{◌≡◌, ℕ, zero, suc, ◌≤◌, true, List, [], ◌∷◌, length, refl, sym, ap, subst, ◌∙◌, arith}
use Rattle.std.specs.List.{All}
use Rattle.vm_law.specs.Image.{IsAllowed}
use Rattle.vm_law.specs.declared.image.FlatImage.{FlatImage}
use Rattle.vm_law.specs.declared.plan.Plan.{Plan}
use Rattle.vm_law.specs.declared.script.Order.{Order}
use Rattle.vm_law.specs.declared.script.Order.TheVariants.{Rendezvous, WaitQuiet}
use Rattle.vm_state.specs.declared.start.Origin.TheVariants.{Flat}
use Rattle.vm_state.specs.Start.{IsDisk, IsPlanned, IsSound}
use Rattle.vm_state.specs.Script.{is_allowed, may_follow, may_stand, and_then}

script_allowed : (p : Plan) (script : List Order) → script ≡ Rendezvous ∷ WaitQuiet ∷ [] → is_allowed p script ≡ true
unfolding may_follow may_stand and_then
script_allowed p script e = rw e refl

one_disk : (disk : List ℕ) → length disk ≡ 1024 → IsDisk disk
one_disk disk l = record { some = omega (arith, l); most = omega (arith, l); whole = rw l refl }

each_disk : (disk : List ℕ) (disks : List (List ℕ)) → disks ≡ disk ∷ [] → length disk ≡ 1024 → All IsDisk disks
each_disk disk disks e l = subst (λ (xs : List (List ℕ)). All IsDisk xs) (sym e) (at_one) where
  at_one : All IsDisk (disk ∷ [])
  at_one zero d m = one_disk disk l
  at_one (suc k) d m = absurd (omega (arith, m))

pub start_sound : (p : Plan) (f : FlatImage) (disk : List ℕ) (disks : List (List ℕ)) (script : List Order) → p.cpus ≡ 2 → p.memory ≡ 1048576 → length p.disks ≡ 1 → All IsPlanned p.disks
    → disks ≡ disk ∷ [] → length disk ≡ 1024 → IsAllowed 1048576 f → script ≡ Rendezvous ∷ WaitQuiet ∷ []
    → IsSound (record { plan = p; origin = Flat f; disks = disks; script = script; limit = 1000000 })
start_sound p f disk disks script cpus memory one planned is size allowed orders = record {
  plan = record {
    some_cpu = omega (arith, cpus);
    cpus = omega (arith, cpus);
    memory = rw memory (record { least = omega arith; most = omega arith; whole = refl });
    disks = omega (arith, one);
    each_disk = planned;
  };
  disks = ap length is ∙ sym one;
  each_disk = each_disk disk disks is size;
  origin = rw memory allowed;
  script = script_allowed p script orders;
  some_limit = omega arith;
  limit = omega arith;
}
