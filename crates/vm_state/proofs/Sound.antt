-- The first state of a run from a sound start is sound.
use Rattle.std.proofs.Common.{◌≡◌, ℕ, ◌≤◌, Bool, true, false, not, List, ◌∷◌, length, refl, sym, ap, subst, ◌∙◌, inl, inr, arith}
use Rattle.std.specs.Prelude.{◌==◌}
use Rattle.std.specs.List.{All, list_any}
use Rattle.std.proofs.lemmas.List.{get_or_past}
use Rattle.std.proofs.lemmas.Bool.{cases_lt, true≢false}
use Rattle.std.proofs.lemmas.Bool.Decides.{nat_tests}
use Rattle.vm_law.specs.declared.plan.Plan.{Plan}
use Rattle.vm_law.specs.declared.script.Order.{Order}
use Rattle.vm_law.specs.declared.script.Order.TheVariants.{Resume}
use Rattle.vm_law.specs.declared.stage.Owned.{Owned}
use Rattle.vm_law.specs.declared.stage.Owned.TheVariants.{Idle, Frozen, Running, Sleeping}
use Rattle.blk_queue.specs.Progress.{is_busy}
use Rattle.vm_state.specs.declared.cpu.Cpu.{Cpu}
use Rattle.vm_state.specs.declared.drive.Drive.{Drive}
use Rattle.vm_state.specs.declared.start.Origin.{Origin}
use Rattle.vm_state.specs.declared.start.Origin.TheVariants.{Flat, Saved}
use Rattle.vm_state.specs.declared.start.Start.{Start}
use Rattle.vm_state.specs.Machine.{MachineState, cpu_at, cpu_count, drive_at, is_frozen, no_drive, unstarted_cpu}
use Rattle.vm_state.specs.Sound.{ScriptFits, ScriptStands, IsSoundState}
use Rattle.vm_state.specs.Start.{IsPlan, IsDisk, IsSaved, IsSound, OriginFits, boot, boot_machine, boot_script, first_state}
use Rattle.vm_state.proofs.First.{Rests, Holds, first_is_sound}
use Rattle.vm_state.proofs.Flat.{cpus_long, flat_is_sound, flat_rests, flat_holds, unstarted_idle}
use Rattle.vm_state.proofs.Lists.{every_at, none_at}
use Rattle.vm_state.proofs.Script.{IsFront, allowed_fits}

-- ---- a machine that was saved rests

not_true : (b : Bool) → not b ≡ true → b ≡ false
not_true true h = sym h
not_true false h = refl

same_pass : (p q : ℕ) → (p == q) ≡ true → p ≡ q
same_pass p q h = grind (arith, nat_tests)

frozen_is : (st : Owned) (q : ℕ) → is_frozen st q ≡ true → st ≡ Frozen q
frozen_is Idle q h = absurd (true≢false (sym h))
frozen_is (Frozen p) q h = ap (λ n. Frozen n) (same_pass p q h)
frozen_is (Running p) q h = absurd (true≢false (sym h))
frozen_is (Sleeping p) q h = absurd (true≢false (sym h))

saved_rests : (plan : Plan) (disks : List (List ℕ)) (m : MachineState) → IsSaved plan disks m → Rests m
saved_rests plan disks m h = record {
  stage = λ i.
      elim (cases_lt i (cpu_count m)) [
        | inl l ↦ inr (frozen_is (cpu_at m i).stage 0 (every_at (λ (cpu : Cpu). is_frozen cpu.stage 0) m.cpus i (unstarted_cpu i) h.frozen l))
        | inr past ↦ inl (ap (λ (cpu : Cpu). cpu.stage) (get_or_past m.cpus i (unstarted_cpu i) past) ∙ unstarted_idle i)
      ];
  meet = h.meet;
  workers = λ d l k x inside.
      none_at is_busy (drive_at m d).queue.requests k x (not_true _ (every_at (λ (y : Drive). not (list_any is_busy y.queue.requests)) m.drives d no_drive h.at_rest l)) inside;
}

saved_holds : (plan : Plan) (disks : List (List ℕ)) (m : MachineState) → IsSaved plan disks m → length disks ≡ length plan.disks → Holds m disks
saved_holds plan disks m h count = record { count = count ∙ sym h.drives.count; each = λ d l. (h.drives.each d l).holds }

-- ---- the script

flat_stands : (cpus : ℕ) (plan : Plan) (script : List Order) → cpus ≡ plan.cpus → IsFront plan script → ScriptStands cpus false 0 script
flat_stands cpus plan script e f = let some = f.some in record { within = omega arith; orders = subst (λ k. ScriptFits k false script) (sym e) f.fits }

saved_stands : (cpus : ℕ) (plan : Plan) (script : List Order) → cpus ≡ plan.cpus → IsFront plan script → ScriptStands cpus true 0 (Resume ∷ script)
saved_stands cpus plan script e f = record { within = omega arith; orders = inl (false, refl, subst (λ k. ScriptFits k false script) (sym e) f.fits) }

-- ---- both

boot_from : (plan : Plan) (disks : List (List ℕ)) (origin : Origin) (script : List Order) (limit : ℕ) → IsPlan plan → length disks ≡ length plan.disks → All IsDisk disks
    → OriginFits plan disks origin → IsFront plan script → limit ≤ 20000000
    → IsSoundState (first_state (boot_machine plan disks origin) disks (boot_script origin script) limit)
boot_from plan disks (Flat image) script limit p count each a f most =
    let few = f.few in
    first_is_sound (boot_machine plan disks (Flat image)) disks script limit (flat_is_sound plan disks image p count each a) (flat_rests plan disks image) (flat_holds plan disks image count) most
    (flat_stands (cpu_count (boot_machine plan disks (Flat image))) plan script (cpus_long plan.cpus image.entry p.some_cpu) f) (omega arith)
boot_from plan disks (Saved m) script limit p count each h f most =
    let few = f.few in
    first_is_sound m.state disks (Resume ∷ script) limit h.sound (saved_rests plan disks m.state h) (saved_holds plan disks m.state h count) most
    (subst (λ pause. ScriptStands (cpu_count m.state) pause 0 (Resume ∷ script)) (sym h.pause) (saved_stands (cpu_count m.state) plan script h.cpus f)) (omega arith)

-- what holds of every run holds of its first state
pub boot_is_sound : (start : Start) → IsSound start → IsSoundState (boot start)
boot_is_sound start h = boot_from start.plan start.disks start.origin start.script start.limit h.plan h.disks h.each_disk h.origin (allowed_fits start.plan start.script h.script) h.limit
