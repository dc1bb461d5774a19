-- A run can begin from the start of a workload.
use Rattle.std.proofs.Common.{◌≡◌, ℕ, ◌≤◌, true, List, [], ◌∷◌, length, Some, None, refl, ap, ◌∙◌, arith}
use Rattle.vm_law.specs.Image.{IsAllowed}
use Rattle.vm_law.specs.declared.image.FlatImage.{FlatImage}
use Rattle.vm_law.specs.declared.plan.Plan.{Plan}
use Rattle.vm_law.specs.declared.script.Order.{Order}
use Rattle.vm_law.specs.declared.script.Order.TheVariants.{WaitQuiet}
use Rattle.vm_making.specs.Start.{IsStartOf, plan_of, start_from}
use Rattle.vm_soloing.specs.Closing.{IsApart}
use Rattle.vm_start.specs.Images.{AreApart}
use Rattle.vm_state.specs.Script.{is_allowed, may_follow, may_stand}
use Rattle.vm_state.specs.Start.{IsPlan, IsSound}
use Rattle.vm_state.specs.declared.start.Origin.TheVariants.{Flat}
use Rattle.vm_state.specs.declared.start.Start.{Start}

-- 256 MiB are enough for what 16 MiB are enough for
larger : (image : FlatImage) → IsAllowed 16777216 image → IsAllowed 268435456 image
larger image h = record { some_code = h.some_code; small_code = h.small_code; within = h.within; entry = h.entry; fits = omega (arith, h.fits) }

default_allowed : (cpus : ℕ) → is_allowed (plan_of cpus) (WaitQuiet ∷ []) ≡ true
unfolding may_follow may_stand
default_allowed cpus = refl

is_plan : (cpus : ℕ) → 1 ≤ cpus → cpus ≤ 16 → IsPlan (plan_of cpus)
is_plan cpus some few = record {
  some_cpu = some;
  cpus = few;
  memory = record { least = omega arith; most = omega arith; whole = refl };
  disks = omega arith;
  each_disk = λ k d h. absurd (omega (arith, h));
}

pub sound_from : (cpus : ℕ) (image : FlatImage) → 1 ≤ cpus → cpus ≤ 16 → IsAllowed 16777216 image → IsSound (start_from cpus image)
sound_from cpus image some few allowed = record {
  plan = is_plan cpus some few;
  disks = refl;
  each_disk = λ k d h. absurd (omega (arith, h));
  origin = larger image allowed;
  script = default_allowed cpus;
  some_limit = omega arith;
  limit = omega arith;
}

-- its parts are those of the start
abbrev pub start_with : Plan → FlatImage → List (List ℕ) → List Order → Start
start_with plan image disks script = record { plan = plan; origin = Flat image; disks = disks; script = script; limit = 10000000 }

pub start_is : (cpus : ℕ) (image : FlatImage) (plan : Plan) (disks : List (List ℕ)) (script : List Order) → plan ≡ plan_of cpus → disks ≡ [] → script ≡ WaitQuiet ∷ []
    → start_with plan image disks script ≡ start_from cpus image
start_is cpus image plan disks script p d s =
    ap (λ (x : Plan). start_with x image disks script) p
    ∙ ap (λ (x : List (List ℕ)). start_with (plan_of cpus) image x script) d
    ∙ ap (λ (x : List Order). start_with (plan_of cpus) image [] x) s

-- it has no disk, and no journal's file is one
module _ (cpus number : ℕ) (start : Start) (is : IsStartOf cpus number start) where
  pub no_disk : length start.plan.disks ≡ 0
  no_disk = ap (λ (s : Start). length s.plan.disks) is.is

  pub disks_apart : AreApart start.plan
  disks_apart = λ i j less within. absurd (omega (arith, within, no_disk))

pub none_apart : (plan : Plan) → IsApart None plan
none_apart plan = λ name e disk. let x : None ≡ Some name = e in cc
