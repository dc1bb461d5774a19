-- What a sound start says of the machine that it makes.
use Rattle.std.proofs.Common.{◌≡◌, ℕ, ◌≤◌, List, [], ◌∷◌, ◌++◌, refl, ap}
use Rattle.std.specs.Prelude.{map}
use Rattle.vm_law.specs.declared.plan.Plan.{Plan}
use Rattle.vm_law.specs.declared.script.Order.{Order}
use Rattle.vm_state.specs.declared.start.Origin.{Origin}
use Rattle.vm_state.specs.declared.start.Origin.TheVariants.{Flat, Saved}
use Rattle.vm_state.specs.declared.start.Start.{Start}
use Rattle.vm_state.specs.Start.{IsSound, OriginFits, boot_machine}
use Rattle.vm_state.specs.View.{fresh}

origin_code : (plan : Plan) (disks : List (List ℕ)) (origin : Origin) → OriginFits plan disks origin → (boot_machine plan disks origin).ram.code ≤ 16777216
origin_code plan disks (Flat image) h = h.small_code
origin_code plan disks (Saved m) h = h.sound.code

-- its code has at most 16 MiB
pub boot_code : (start : Start) → IsSound start → (boot_machine start.plan start.disks start.origin).ram.code ≤ 16777216
boot_code start h = origin_code start.plan start.disks start.origin h.origin

-- orders that aren't done, one list behind the other
pub fresh_both : (xs ys : List Order) → map fresh xs ++ map fresh ys ≡ map fresh (xs ++ ys)
fresh_both [] ys = refl
fresh_both (x ∷ xs) ys = ap (λ zs. fresh x ∷ zs) (fresh_both xs ys)
