-- The drives and images of a run are those of its start's plan.
use Rattle.std.specs.Prelude.{slice_index_or}
use Rattle.std.proofs.Common.{◌≡◌, ℕ, ◌<◌, List, [], ◌∷◌, length, refl, ap, ◌∙◌, arith}
use Rattle.std.proofs.lemmas.List.FromFn.{length-map-range_with_len, get_or-map-range_with_len}
use Rattle.vm_law.specs.declared.journal.Signed.{Signed}
use Rattle.vm_law.specs.declared.plan.Plan.{Plan}
use Rattle.vm_state.specs.declared.start.Origin.{Origin}
use Rattle.vm_state.specs.declared.start.Origin.TheVariants.{Flat, Saved}
use Rattle.vm_state.specs.declared.start.Start as start_type
use Rattle.vm_state.specs.Machine.{drive_at, drive_count, no_drive}
use Rattle.vm_state.specs.Start.{IsSound, OriginFits, boot, boot_machine, first_state, no_plan, planned_drive}
use Rattle.vm_state.specs.State.{State}
use Rattle.vm_state.proofs.Sound.{boot_is_sound as is_sound_boot}
use Rattle.vm_state.specs.Sound.{IsSoundState}
use Rattle.vm_table.specs.History.{after_all, last_state}
use Rattle.vm_table.specs.Table.{after}
use Rattle.vm_table.proofs.Plan.{after_drives}

pub boot_is_sound : (start : start_type.Start) → IsSound start → IsSoundState (boot start)
boot_is_sound start sound = is_sound_boot start sound

count_in : (plan : Plan) (disks : List (List ℕ)) (o : Origin) → OriginFits plan disks o → drive_count (boot_machine plan disks o) ≡ length plan.disks
count_in plan disks (Flat image) fits = length-map-range_with_len (planned_drive plan.disks disks) 0 (length plan.disks)
count_in plan disks (Saved m) fits = fits.drives.count

pub boot_drives_count : (start : start_type.Start) → IsSound start → drive_count (boot start).machine ≡ length start.plan.disks
unfolding first_state
boot_drives_count start sound = count_in start.plan start.disks start.origin sound.origin

ro_in : (plan : Plan) (disks : List (List ℕ)) (o : Origin) → OriginFits plan disks o → (d : ℕ) → d < length plan.disks
    → (drive_at (boot_machine plan disks o) d).ro ≡ (slice_index_or plan.disks d no_plan).ro
ro_in plan disks (Flat image) fits d within = ap (λ x. x.ro) (get_or-map-range_with_len (planned_drive plan.disks disks) 0 (length plan.disks) d d no_drive within (omega arith))
ro_in plan disks (Saved m) fits d within = (fits.drives.each d (omega (arith, within, fits.drives.count))).ro

pub boot_ro : (start : start_type.Start) → IsSound start → (d : ℕ) → d < length start.plan.disks → (drive_at (boot start).machine d).ro ≡ (slice_index_or start.plan.disks d no_plan).ro
unfolding first_state
boot_ro start sound d within = ro_in start.plan start.disks start.origin sound.origin d within

all_drives : (s : State) (xs : List Signed) → drive_count (after_all s xs).machine ≡ drive_count s.machine
all_drives s [] = refl
all_drives s (x ∷ xs) = all_drives (after s x) xs ∙ after_drives s x

pub drives_count : (start : start_type.Start) (history : List Signed) → IsSound start → drive_count (last_state start history).machine ≡ length start.plan.disks
drives_count start history sound = all_drives (boot start) history ∙ boot_drives_count start sound
