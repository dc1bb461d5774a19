-- The guests' starts are sound.
use Rattle.std.proofs.Common.{◌≡◌, ℕ, ◌≤◌, ◌⊎◌, inl, inr, true, List, [], ◌∷◌, length, refl, sym, subst, arith}
use Rattle.std.specs.List.{All}
use Rattle.std.proofs.lemmas.List.Elements.{All-cons}
use Rattle.vm_law.specs.Image.{IsAllowed}
use Rattle.vm_law.specs.declared.image.FlatImage.{FlatImage}
use Rattle.vm_law.specs.declared.plan.Plan.{Plan}
use Rattle.vm_law.specs.declared.script.Order.{Order}
use Rattle.vm_law.specs.declared.script.Order.TheVariants.{WaitConsole, WaitQuiet}
use Rattle.vm_state.specs.declared.start.Origin.TheVariants.{Flat}
use Rattle.vm_state.specs.Start.{IsDisk, IsPlan, IsPlanned, IsSound}
use Rattle.vm_state.specs.Script.{is_allowed, may_follow, may_stand, and_then}

-- a script of one order that waits
one_allowed : (p : Plan) (o : Order) → (o ≡ WaitQuiet) ⊎ (o ≡ WaitConsole 1) → is_allowed p (o ∷ []) ≡ true
unfolding may_follow may_stand and_then
one_allowed p o (inl e) = rw e refl
one_allowed p o (inr e) = rw e refl

pub none : {X : Type 0} (P : X → Type 0) (xs : List X) → xs ≡ [] → All P xs
none P xs e = subst (All P) (sym e) (λ k d l. absurd (omega (arith, l)))

pub two : (disk : List ℕ) (disks : List (List ℕ)) → disks ≡ disk ∷ disk ∷ [] → length disk ≡ 512 → All IsDisk disks
two disk disks e l =
    let one : IsDisk disk = record { some = omega (arith, l); most = omega (arith, l); whole = rw l refl } in
    subst (All IsDisk) (sym e) (All-cons IsDisk disk (disk ∷ []) one (All-cons IsDisk disk [] one (none IsDisk [] refl)))

-- 1 MiB or 16 MiB
pub plan_sound : (p : Plan) → 1 ≤ p.cpus → p.cpus ≤ 16 → (p.memory ≡ 1048576) ⊎ (p.memory ≡ 16777216) → length p.disks ≤ 8 → All IsPlanned p.disks → IsPlan p
plan_sound p some most (inl e) few planned = record { some_cpu = some; cpus = most; memory = rw e (record { least = omega arith; most = omega arith; whole = refl }); disks = few; each_disk = planned }
plan_sound p some most (inr e) few planned = record { some_cpu = some; cpus = most; memory = rw e (record { least = omega arith; most = omega arith; whole = refl }); disks = few; each_disk = planned }

pub start_sound : (p : Plan) (f : FlatImage) (disks : List (List ℕ)) (o : Order) (script : List Order) (limit memory : ℕ) → IsPlan p → p.memory ≡ memory → length disks ≡ length p.disks → All IsDisk disks → IsAllowed memory f
    → (o ≡ WaitQuiet) ⊎ (o ≡ WaitConsole 1) → script ≡ o ∷ [] → 1 ≤ limit → limit ≤ 20000000 → IsSound (record { plan = p; origin = Flat f; disks = disks; script = script; limit = limit })
start_sound p f disks o script limit memory planned is count each allowed waits one some most = record {
  plan = planned;
  disks = count;
  each_disk = each;
  origin = subst (λ (n : ℕ). IsAllowed n f) (sym is) allowed;
  script = subst (λ (xs : List Order). is_allowed p xs ≡ true) (sym one) (one_allowed p o waits);
  some_limit = some;
  limit = most;
}
