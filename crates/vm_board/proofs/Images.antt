-- What entries leave of the images of a run: an entry that moves no image leaves each image's bytes, its sectors in doubt and its
-- holder.
use Rattle.std.proofs.Common.{◌≡◌, ◌≢◌, ℕ, ◌+◌, Bool, true, false, List, length, get_or, refl, sym, subst, inl, inr, Option, Some, None}
use Rattle.std.specs.Prelude.{if◌then◌else◌}
use Rattle.std.proofs.Math.ListN.{length-set}
use Rattle.std.proofs.lemmas.List.{get_or-set_other, set_past}
use Rattle.std.proofs.lemmas.Bool.{cases_eq, cases_lt, true≢false}
use Rattle.std.proofs.lemmas.Grind.{get_or-set_at}
use Rattle.vm_law.specs.declared.insn.Insn.{Insn}
use Rattle.vm_law.specs.declared.journal.Entry.{Entry}
use Rattle.vm_law.specs.declared.journal.Entry.TheVariants.{Claim, Start, Enter, Slice, Step, Exit, Sleep, Wake, Yield, Turn, Meet, Pull, Begin, Move, Hold, Put, Finish, Feed, Wish, Done, End, Close, Tick}
use Rattle.vm_law.specs.declared.journal.Signed.{Signed}
use Rattle.vm_law.specs.declared.script.Order.{Order}
use Rattle.vm_law.specs.declared.script.Order.TheVariants as order
use Rattle.vm_law.specs.declared.stage.MeetKind.{MeetKind}
use Rattle.vm_law.specs.declared.stage.MeetKind.TheVariants.{Routing, Sample}
use Rattle.vm_bus.specs.declared.area.Area.{Area}
use Rattle.vm_bus.specs.declared.area.Area.TheVariants as area
use Rattle.vm_vblk.specs.declared.pulled.WindowEffect.{WindowEffect}
use Rattle.vm_vblk.specs.declared.pulled.WindowEffect.TheVariants as window_effect
use Rattle.x86_exec.specs.declared.effect.Effect.{Effect}
use Rattle.x86_exec.specs.declared.effect.Effect.TheVariants as effect
use Rattle.x86_exec.specs.Shared as exec
use Rattle.x86_fetch.specs.declared.fetching.Next.{Next}
use Rattle.x86_fetch.specs.declared.fetching.Next.TheVariants.{Local, Shared, Undefined, OutOfCode}
use Rattle.vm_meet.specs.declared.meeting.Meeting.{Meeting}
use Rattle.vm_state.specs.declared.drive.Drive.{Drive}
use Rattle.vm_state.specs.declared.image.DiskImage.{DiskImage}
use Rattle.vm_state.specs.Machine.{cpu_at, is_drive}
use Rattle.vm_state.specs.State.{State, image_at, next_order, no_image, with_image, with_machine}
use Rattle.vm_owners.specs.Owners.{after_claim, after_start, after_exit, after_sleep, after_wake, after_yield}
use Rattle.vm_owners.specs.Turn.{turn_taken, turn_in, after_turn}
use Rattle.vm_devices.specs.Ports.{port_read, port_written}
use Rattle.vm_devices.specs.Windows.{window_written, drive_written, register_followed}
use Rattle.vm_running.specs.Step.{next_at, performed_as, performed, after_step, printed, port_in, port_out, window_load, window_store}
use Rattle.vm_running.proofs.Images.{enter_images, slice_images, stepped_images, stopped_images, stored_images, trapped_images}
use Rattle.vm_disks.specs.Queueing.{after_pull, after_begin}
use Rattle.vm_disks.specs.Moving.{after_move, after_finish}
use Rattle.vm_disks.specs.Images.{after_hold, after_put}
use Rattle.vm_orders.specs.Duties.{after_feed, after_meet, after_tick, after_wish}
use Rattle.vm_orders.specs.Done.{ordered, ordered_as, noted_as, said_as, after_done, request_cancelled, noted}
use Rattle.vm_orders.specs.Ending.{after_end, after_close}
use Rattle.vm_table.specs.Table.{effect as effect_of, counted, after}
use Rattle.vm_board.specs.Calls.{moves_image}

pub record Stays (x y : DiskImage) : Type 0 where
  pub bytes : y.bytes ≡ x.bytes
  pub doubt : y.doubt ≡ x.doubt
  pub holder : y.holder ≡ x.holder

stays_itself : (x : DiskImage) → Stays x x
stays_itself x = record { bytes = refl; doubt = refl; holder = refl }

-- as many images, and each stays
pub record AllStay (xs ys : List DiskImage) : Type 0 where
  pub count : length ys ≡ length xs
  pub each : (d : ℕ) → Stays (get_or xs d no_image) (get_or ys d no_image)

same : (xs ys : List DiskImage) → ys ≡ xs → AllStay xs ys
same xs ys e = subst (λ (zs : List DiskImage). AllStay xs zs) (sym e) (record { count = refl; each = λ d. stays_itself (get_or xs d no_image) })

then_same : (xs ys zs : List DiskImage) → AllStay xs ys → zs ≡ ys → AllStay xs zs
then_same xs ys zs h e = subst (λ (us : List DiskImage). AllStay xs us) (sym e) h

-- where image d is another
at_set : (s : State) (d : ℕ) (x : DiskImage) (k : ℕ) → Stays (image_at s d) x → Stays (image_at s k) (image_at (with_image s d x) k)
at_set s d x k one =
    elim (cases_eq k d) [
      | inr other ↦ rw (get_or-set_other s.images d k x no_image other) (stays_itself (image_at s k))
      | inl e ↦
          elim (cases_lt d (length s.images)) [
            | inl l ↦ rw (get_or-set_at s.images d k x no_image e l, e) one
            | inr past ↦ rw (set_past s.images d x past) (stays_itself (image_at s k))
          ]
    ]

set_stays : (s : State) (d : ℕ) (x : DiskImage) → Stays (image_at s d) x → AllStay s.images (with_image s d x).images
set_stays s d x one = record { count = length-set s.images d x; each = λ k. at_set s d x k one }

-- ---- a vCPU

turn_taken_images : (s : State) (i : ℕ) (kind : MeetKind) → (turn_taken s i kind).images ≡ s.images
unfolding turn_taken
turn_taken_images s i Routing = refl
turn_taken_images s i Sample = refl

turn_in_images : (s : State) (i : ℕ) (o : Option Meeting) → (turn_in s i o).images ≡ s.images
turn_in_images s i None = refl
turn_in_images s i (Some x) = turn_taken_images s i x.kind

turn_images : (s : State) (i : ℕ) → (after_turn s i).images ≡ s.images
unfolding after_turn
turn_images s i = turn_in_images s i s.machine.meet

-- ---- an instruction

followed_images : (s : State) (d : ℕ) (x : Drive) (e : WindowEffect) → AllStay s.images (register_followed s d x e).images
followed_images s d x window_effect.Nothing = same s.images _ refl
followed_images s d x window_effect.Reset = set_stays s d _ (record { bytes = refl; doubt = refl; holder = refl })

drive_if : (s : State) (d : ℕ) (x : Drive) (e : WindowEffect) (b : Bool) → AllStay s.images (if b then register_followed s d x e else s).images
drive_if s d x e true = followed_images s d x e
drive_if s d x e false = same s.images _ refl

drive_images : (s : State) (d offset value : ℕ) → AllStay s.images (drive_written s d offset value).images
unfolding drive_written
drive_images s d offset value = drive_if s d _ _ (is_drive s.machine d)

window_images : (s : State) (p i : ℕ) (a : Area) (value : ℕ) → AllStay s.images (window_written s p i a value).images
unfolding window_written
window_images s p i (area.Lapic offset) value = same s.images _ refl
window_images s p i (area.Ioapic offset) value = same s.images _ refl
window_images s p i (area.Disk d offset) value = drive_images s d offset value
window_images s p i a value = same s.images _ refl

performed_as_images : (s : State) (p j : ℕ) (insn : Insn) (len : ℕ) (x : exec.Shared) (e : Effect) → AllStay s.images (performed_as s p j insn len x e).images
unfolding performed_as port_in port_out window_load window_store
performed_as_images s p j insn len x effect.Done = same s.images _ (stored_images s j x)
performed_as_images s p j insn len x effect.Halt = same s.images _ (stepped_images s j x.ctx true)
performed_as_images s p j insn len x (effect.Trap v error) = same s.images _ (trapped_images s j _ v error)
performed_as_images s p j insn len x (effect.Stop why) = same s.images _ (stopped_images s j why)
performed_as_images s p j insn len x (effect.PortIn port w) = same s.images _ (stepped_images (with_machine s (port_read s.machine port w)) j _ false)
performed_as_images s p j insn len x (effect.PortOut port w value) = same s.images _ (stepped_images (printed (with_machine s (port_written s.machine port w value)) _) j x.ctx false)
performed_as_images s p j insn len x (effect.Load a) = same s.images _ (stepped_images s j _ false)
performed_as_images s p j insn len x (effect.Store a value) = then_same s.images _ _ (window_images s p j a value) (stepped_images (window_written s p j a value) j x.ctx false)

performed_images : (s : State) (p j : ℕ) (n : Next) → AllStay s.images (performed s p j n).images
unfolding performed
performed_images s p j (Local insn len) = same s.images _ refl
performed_images s p j (Shared insn len) = let x = exec.shared (cpu_at s.machine j).ctx insn len s.machine.ram in performed_as_images s p j insn len x x.effect
performed_images s p j Undefined = same s.images _ (trapped_images s j _ 6 None)
performed_images s p j OutOfCode = same s.images _ (stopped_images s j _)

step_images : (s : State) (p j : ℕ) → AllStay s.images (after_step s p j).images
unfolding after_step
step_images s p j = performed_images s p j (next_at s j)

-- ---- control

counted_if : (x : DiskImage) (b : Bool) → Stays x (if b then record x { cancelled = x.cancelled + 1 } else x)
counted_if x true = record { bytes = refl; doubt = refl; holder = refl }
counted_if x false = stays_itself x

ordered_images : (s : State) (o : Order) → AllStay s.images (ordered s o).images
unfolding ordered request_cancelled
ordered_images s (order.Nmi i) = same s.images _ refl
ordered_images s (order.Cancel c id) = set_stays s c _ (counted_if (image_at s c) _)
ordered_images s (order.Set i reg value) = same s.images _ refl
ordered_images s order.Resume = same s.images _ refl
ordered_images s o = same s.images _ refl

done_as_images : (s : State) (o : Option Order) → AllStay s.images (noted_as (ordered_as s o) o (said_as s o)).images
unfolding noted
done_as_images s None = same s.images _ refl
done_as_images s (Some o) = ordered_images s o

done_images : (s : State) → AllStay s.images (after_done s).images
unfolding after_done
done_images s = done_as_images s (next_order s)

finish_images : (s : State) (c id : ℕ) → AllStay s.images (after_finish s c id).images
unfolding after_finish
finish_images s c id = set_stays s c _ (record { bytes = refl; doubt = refl; holder = refl })

-- ---- all of them

effect_images : (s : State) (p : ℕ) (e : Entry) → moves_image e ≡ false → AllStay s.images (effect_of s p e).images
unfolding effect_of after_claim after_start after_exit after_sleep after_wake after_yield after_meet after_pull after_begin after_move after_feed after_wish after_end after_close after_tick
effect_images s p (Claim i) m = same s.images _ refl
effect_images s p (Start i) m = same s.images _ refl
effect_images s p (Enter i grant) m = same s.images _ (enter_images s p i grant)
effect_images s p (Slice i n) m = same s.images _ (slice_images s i n)
effect_images s p (Step i) m = step_images s p i
effect_images s p (Exit i) m = same s.images _ refl
effect_images s p (Sleep i) m = same s.images _ refl
effect_images s p (Wake i) m = same s.images _ refl
effect_images s p (Yield i) m = same s.images _ refl
effect_images s p (Turn i) m = same s.images _ (turn_images s i)
effect_images s p Meet m = same s.images _ refl
effect_images s p (Pull d) m = same s.images _ refl
effect_images s p (Begin d id) m = same s.images _ refl
effect_images s p (Move d id) m = same s.images _ refl
effect_images s p (Hold d id) m = absurd (true≢false m)
effect_images s p (Put d id ok) m = absurd (true≢false m)
effect_images s p (Finish d id) m = finish_images s d id
effect_images s p Feed m = same s.images _ refl
effect_images s p Wish m = same s.images _ refl
effect_images s p (Done k) m = done_images s
effect_images s p (End cause) m = same s.images _ refl
effect_images s p Close m = same s.images _ refl
effect_images s p (Tick n) m = same s.images _ refl

pub after_images : (s : State) (x : Signed) → moves_image x.entry ≡ false → AllStay s.images (after s x).images
unfolding after counted
after_images s x m = effect_images s x.by x.entry m

-- ---- an image goes out, and comes back

-- at every other disk it stays
pub record OthersStay (xs ys : List DiskImage) (c : ℕ) : Type 0 where
  pub count : length ys ≡ length xs
  pub each : (d : ℕ) → d ≢ c → Stays (get_or xs d no_image) (get_or ys d no_image)

set_others : (s : State) (c : ℕ) (x : DiskImage) → OthersStay s.images (with_image s c x).images c
set_others s c x = record {
  count = length-set s.images c x;
  each = λ d other. rw (get_or-set_other s.images c d x no_image other) (stays_itself (image_at s d));
}

pub hold_others : (s : State) (p c id q : ℕ) → OthersStay s.images (after s (record { by = q; entry = Hold c id })).images c
unfolding after counted effect_of after_hold
hold_others s p c id q = set_others s c _

pub put_others : (s : State) (c id q : ℕ) (ok : Bool) → OthersStay s.images (after s (record { by = q; entry = Put c id ok })).images c
unfolding after counted effect_of after_put
put_others s c id q ok = set_others s c _
