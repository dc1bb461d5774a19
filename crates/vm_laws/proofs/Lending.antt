-- While a pass holds the image of a disk: every entry of another pass.
use Rattle.std.proofs.Common.{◌≡◌, ◌≢◌, ℕ, ◌+◌, ◌<◌, Bool, true, false, not, List, length, get_or, refl, sym, ap, subst, ◌∙◌, inl, inr, ◌⊎◌, arith, Option, Some, None}
use Rattle.std.specs.Prelude.{◌&&◌, ◌==◌, is_none, if◌then◌else◌}
use Rattle.std.proofs.lemmas.List.{get_or-set_other, set_past}
use Rattle.std.proofs.lemmas.Bool.{cases_eq, cases_lt, and_parts, true≢false}
use Rattle.std.proofs.lemmas.Bool.Decides.{nat_tests}
use Rattle.std.proofs.lemmas.Grind.{common_steps}
use Rattle.vm_law.specs.declared.insn.Insn.{Insn}
use Rattle.vm_law.specs.declared.journal.Entry.{Entry}
use Rattle.vm_law.specs.declared.journal.Entry.TheVariants.{Claim, Start, Enter, Slice, Step, Exit, Sleep, Wake, Yield, Turn, Meet, Pull, Begin, Move, Hold, Put, Finish, Feed, Wish, Done, End, Close, Tick}
use Rattle.vm_law.specs.declared.journal.Signed.{Signed}
use Rattle.vm_law.specs.declared.script.Order.{Order}
use Rattle.vm_law.specs.declared.script.Order.TheVariants as order
use Rattle.vm_vblk.specs.Queue as vblk
use Rattle.vm_vblk.specs.declared.pulled.Pulled.{Pulled}
use Rattle.vm_vblk.specs.declared.pulled.Pulled.TheVariants as pulled
use Rattle.x86_exec.specs.declared.effect.Effect.{Effect}
use Rattle.x86_exec.specs.declared.effect.Effect.TheVariants as effect
use Rattle.x86_exec.specs.Shared as exec
use Rattle.x86_fetch.specs.declared.fetching.Next.{Next}
use Rattle.x86_fetch.specs.declared.fetching.Next.TheVariants.{Local, Shared, Undefined, OutOfCode}
use Rattle.blk_queue.specs.Progress.{moves, one_more, is_waiting}
use Rattle.blk_queue.specs.Queue.{Queue, request_of, some_request}
use Rattle.blk_queue.specs.Sound.{NamesOne}
use Rattle.blk_queue.specs.Steps.{begun, cancelled, emptied, left, with_progress}
use Rattle.blk_queue.proofs.Names.{names_one}
use Rattle.vm_meet.specs.declared.meeting.Meeting.{Meeting}
use Rattle.vm_state.specs.declared.drive.Drive.{Drive}
use Rattle.vm_state.specs.declared.image.DiskImage.{DiskImage}
use Rattle.vm_state.specs.declared.image.Holder.{Holder}
use Rattle.vm_state.specs.Machine.{MachineState, cpu_at, drive_at, drive_count, with_drive, no_drive}
use Rattle.vm_state.specs.Requests.{is_busy_by}
use Rattle.vm_state.specs.Sound.{IsHeld, IsSoundState}
use Rattle.vm_state.specs.State.{State, image_at, next_order, no_image, with_machine}
use Rattle.vm_owners.specs.Owners.{after_claim, after_start, after_exit, after_sleep, after_wake, after_yield}
use Rattle.vm_owners.specs.Turn.{turn_in, after_turn}
use Rattle.vm_devices.specs.Ports.{port_read, port_written}
use Rattle.vm_devices.specs.Windows.{with_window, window_written}
use Rattle.vm_running.specs.Enter.{after_enter}
use Rattle.vm_running.specs.Slice.{after_slice}
use Rattle.vm_running.specs.Step.{next_at, performed_as, performed, after_step, printed, port_in, port_out, window_load, window_store}
use Rattle.vm_running.proofs.Images.{enter_images, slice_images, stepped_images, stopped_images, stored_images, trapped_images}
use Rattle.vm_disks.specs.Queueing.{may_pull, queue_with, pulled_in, after_pull, may_begin, with_queue, after_begin}
use Rattle.vm_disks.specs.Moving.{is_held_for, may_move, read_in, after_move, may_finish, after_finish}
use Rattle.vm_disks.specs.Images.{may_hold, after_hold, is_holder, may_put, after_put}
use Rattle.vm_orders.specs.Duties.{after_feed, after_meet, after_tick, after_wish}
use Rattle.vm_orders.specs.Done.{ordered, ordered_as, noted_as, said_as, after_done, request_cancelled, cancel_counted, noted}
use Rattle.vm_orders.specs.Ending.{after_end, after_close}
use Rattle.vm_table.specs.Table.{allowed, lawful, effect, counted, after}
use Rattle.vm_laws.specs.Owned.{SameWork, KeepsImage, is_put_of}
use Rattle.vm_laws.specs.Requests.{queue_of, is_write_of, writes_for}
use Rattle.vm_laws.proofs.Lists.{clash}
use Rattle.vm_laws.proofs.Heard.{Hears, hears_followed}
use Rattle.vm_laws.proofs.Accesses.{ImageAccessed, image_same, image_set, accessed_window}
use Rattle.vm_laws.proofs.Needs.{taken_turn}
use Rattle.vm_laws.proofs.Serving.{drive_case, at_drives, enter_drives, turn_drives, slice_drives, tick_drives, feed_drives, step_drive, pull_tells, begin_tells, move_tells, finish_tells, read_in_drives, written_out_queue, finished_queue, known}
use Rattle.vm_laws.proofs.Bytes.{by_hold_alone}
use Rattle.vm_laws.proofs.Holding.{Has, has_held, same_work, other_changes, other_leaves, reset_leaves, joins, begins_other, cancels_other, works_other}

-- ---- images: which entries leave them

abbrev Images : State → State → ℕ → Type 0
Images s t d = ImageAccessed (image_at s d) (image_at t d)

images_by : (s t : State) (d : ℕ) → t.images ≡ s.images → Images s t d
images_by s t d e = subst (λ (xs : List DiskImage). ImageAccessed (image_at s d) (get_or xs d no_image)) (sym e) (image_same (image_at s d))

turn_in_images : (s : State) (i : ℕ) (o : Option Meeting) → (turn_in s i o).images ≡ s.images
turn_in_images s i None = refl
turn_in_images s i (Some x) = (taken_turn s i x.kind).same.1

turn_images : (s : State) (i : ℕ) → (after_turn s i).images ≡ s.images
unfolding after_turn
turn_images s i = turn_in_images s i s.machine.meet

still : (s : State) (new : List DiskImage) (d : ℕ) → new ≡ s.images → ImageAccessed (image_at s d) (get_or new d no_image)
still s new d e = subst (λ (xs : List DiskImage). ImageAccessed (image_at s d) (get_or xs d no_image)) (sym e) (image_same (image_at s d))

then_still : (s t : State) (new : List DiskImage) (d : ℕ) → ImageAccessed (image_at s d) (image_at t d) → new ≡ t.images → ImageAccessed (image_at s d) (get_or new d no_image)
then_still s t new d a e = subst (λ (xs : List DiskImage). ImageAccessed (image_at s d) (get_or xs d no_image)) (sym e) a

performed_as_image : (s : State) (p j : ℕ) (insn : Insn) (len : ℕ) (x : exec.Shared) (e : Effect) (d : ℕ) → Images s (performed_as s p j insn len x e) d
unfolding performed_as port_in port_out window_load window_store
performed_as_image s p j insn len x effect.Done d = still s _ d (stored_images s j x)
performed_as_image s p j insn len x effect.Halt d = still s _ d (stepped_images s j x.ctx true)
performed_as_image s p j insn len x (effect.Trap v error) d = still s _ d (trapped_images s j _ v error)
performed_as_image s p j insn len x (effect.Stop why) d = still s _ d (stopped_images s j why)
performed_as_image s p j insn len x (effect.PortIn port w) d = still s _ d (stepped_images (with_machine s (port_read s.machine port w)) j _ false)
performed_as_image s p j insn len x (effect.PortOut port w value) d = still s _ d (stepped_images (printed (with_machine s (port_written s.machine port w value)) _) j x.ctx false)
performed_as_image s p j insn len x (effect.Load a) d = still s _ d (stepped_images s j _ false)
performed_as_image s p j insn len x (effect.Store a value) d = then_still s (window_written s p j a value) _ d ((accessed_window s p j a value).image d) (stepped_images (window_written s p j a value) j x.ctx false)

performed_image : (s : State) (p j : ℕ) (n : Next) (d : ℕ) → Images s (performed s p j n) d
unfolding performed
performed_image s p j (Local insn len) d = image_same (image_at s d)
performed_image s p j (Shared insn len) d = let x = exec.shared (cpu_at s.machine j).ctx insn len s.machine.ram in performed_as_image s p j insn len x x.effect d
performed_image s p j Undefined d = still s _ d (trapped_images s j _ 6 None)
performed_image s p j OutOfCode d = still s _ d (stopped_images s j _)

step_image : (s : State) (p j d : ℕ) → Images s (after_step s p j) d
unfolding after_step
step_image s p j d = performed_image s p j (next_at s j) d

feed_images : (s : State) → (after_feed s).images ≡ s.images
unfolding after_feed
feed_images s = refl

tick_images : (s : State) (n : ℕ) → (after_tick s n).images ≡ s.images
unfolding after_tick
tick_images s n = refl

pull_images : (s : State) (c : ℕ) → (after_pull s c).images ≡ s.images
unfolding after_pull
pull_images s c = refl

begin_images : (s : State) (p c : ℕ) → (after_begin s p c).images ≡ s.images
unfolding after_begin
begin_images s p c = refl

move_images : (s : State) (c id : ℕ) → (after_move s c id).images ≡ s.images
unfolding after_move
move_images s c id = refl

finish_image : (s : State) (c id d : ℕ) → Images s (after_finish s c id) d
unfolding after_finish
finish_image s c id d = image_set ImageAccessed s c (record (image_at s c) { finished = (image_at s c).finished + 1 }) (λ k. image_same (image_at s k)) (record { bytes = refl; doubt = refl; holder = refl }) d

counted_if : (x : DiskImage) (b : Bool) → ImageAccessed x (if b then record x { cancelled = x.cancelled + 1 } else x)
counted_if x true = record { bytes = refl; doubt = refl; holder = refl }
counted_if x false = image_same x

ordered_image : (s : State) (o : Order) (d : ℕ) → Images s (ordered s o) d
unfolding ordered request_cancelled
ordered_image s (order.Input bytes) d = image_same (image_at s d)
ordered_image s (order.Nmi i) d = image_same (image_at s d)
ordered_image s (order.Cancel c id) d = image_set ImageAccessed s c (cancel_counted (image_at s c) (drive_at s.machine c).queue id) (λ k. image_same (image_at s k)) (counted_if (image_at s c) (some_request (drive_at s.machine c).queue id is_waiting)) d
ordered_image s (order.Set i reg value) d = image_same (image_at s d)
ordered_image s order.Resume d = image_same (image_at s d)
ordered_image s o d = image_same (image_at s d)

done_as_image : (s : State) (o : Option Order) (d : ℕ) → Images s (noted_as (ordered_as s o) o (said_as s o)) d
unfolding noted
done_as_image s None d = image_same (image_at s d)
done_as_image s (Some o) d = ordered_image s o d

done_image : (s : State) (d : ℕ) → Images s (after_done s) d
unfolding after_done
done_image s d = done_as_image s (next_order s) d

-- Hold and Put of another disk
hold_image : (s : State) (p c id d : ℕ) → d ≢ c → Images s (after_hold s p c id) d
unfolding after_hold
hold_image s p c id d ne = subst (λ (x : DiskImage). ImageAccessed (image_at s d) x) (sym (get_or-set_other s.images c d _ no_image ne)) (image_same (image_at s d))

put_image : (s : State) (c id : ℕ) (ok : Bool) (d : ℕ) → d ≢ c → Images s (after_put s c id ok) d
unfolding after_put
put_image s c id ok d ne = subst (λ (x : DiskImage). ImageAccessed (image_at s d) x) (sym (get_or-set_other s.images c d _ no_image ne)) (image_same (image_at s d))

-- ---- the request

abbrev Works : State → MachineState → ℕ → ℕ → Type 0
Works s n d id = SameWork (request_of (queue_of s.machine d) id) (request_of (queue_of n d) id)

works_by : (s : State) (new : List Drive) (d id : ℕ) → new ≡ s.machine.drives → SameWork (request_of (queue_of s.machine d) id) (request_of (get_or new d no_drive).queue id)
works_by s new d id e = at_drives (λ z. SameWork (request_of (queue_of s.machine d) id) (request_of z.queue id)) s.machine.drives new d e (same_work (request_of (queue_of s.machine d) id))

-- one disk's queue is another
works_case : (s : State) (m : MachineState) (c d id : ℕ) (x : Drive) → m.drives ≡ s.machine.drives → c < drive_count s.machine → (c ≡ d → SameWork (request_of (queue_of s.machine d) id) (request_of x.queue id)) → SameWork (request_of (queue_of s.machine d) id) (request_of (drive_at (with_drive m c x) d).queue id)
works_case s m c d id x e l f =
    drive_case (λ z. SameWork (request_of (queue_of s.machine d) id) (request_of z.queue id)) m c d x (subst (λ (ds : List Drive). c < length ds) (sym e) l) f
    (λ ne. at_drives (λ z. SameWork (request_of (queue_of s.machine d) id) (request_of z.queue id)) s.machine.drives m.drives d e (same_work (request_of (queue_of s.machine d) id)))

-- ---- what is known where the pass p holds the image of d for the request id

record Holds (s : State) (d p id : ℕ) : Type 0 where
  pub names : NamesOne (queue_of s.machine d)
  pub has : Has (queue_of s.machine d) p id
  pub holder : (image_at s d).holder ≡ Some (record { by = p; id = id })

holds_at : (s : State) (d p id : ℕ) → IsSoundState s → d < drive_count s.machine → (image_at s d).holder ≡ Some (record { by = p; id = id }) → Holds s d p id
holds_at s d p id h l e =
    let n = names_one (queue_of s.machine d) ((known s h).queues d) in
    record { names = n; has = has_held (queue_of s.machine d) p id n (subst (λ (o : Option Holder). IsHeld (queue_of s.machine d).requests o) e ((known s h).held d l)); holder = e }

-- ---- the entries of workers

pulled_work : (q : Queue) (a : Pulled) (p id : ℕ) → Has q p id → SameWork (request_of q id) (request_of (queue_with q a) id)
pulled_work q (pulled.Request r) p id h = joins q r p id h
pulled_work q pulled.Answered p id h = same_work (request_of q id)
pulled_work q pulled.Broken p id h = same_work (request_of q id)

hears_work : (s : State) (u n : MachineState) (c d id : ℕ) (x : Drive) → u.drives ≡ s.machine.drives → c < drive_count s.machine → (c ≡ d → SameWork (request_of (queue_of s.machine d) id) (request_of x.queue id)) → Hears (with_drive u c x) n → Works s n d id
hears_work s u n c d id x e l f h =
    at_drives (λ z. SameWork (request_of (queue_of s.machine d) id) (request_of z.queue id)) (with_drive u c x).drives n.drives d h.drives (works_case s u c d id x e l f)

pull_work : (s : State) (q c d p id : ℕ) → Holds s d p id → may_pull s q c ≡ true → Works s (after_pull s c).machine d id
unfolding after_pull pulled_in with_window
pull_work s q c d p id k m =
    let x = vblk.pull_of s.machine.ram (drive_at s.machine c).window in
    let y : Drive = record (drive_at s.machine c) { window = x.window; queue = queue_with (drive_at s.machine c).queue x.answer } in
    hears_work s (record s.machine { ram = x.memory }) _ c d id y refl (pull_tells s q c m)
    (λ e. subst (λ n. SameWork (request_of (queue_of s.machine d) id) (request_of (queue_with (queue_of s.machine n) x.answer) id)) (sym e) (pulled_work (queue_of s.machine d) x.answer p id k.has)) (hears_followed _ _ _ _)

begin_work : (s : State) (q c fid d p id : ℕ) → Holds s d p id → may_begin s q c fid ≡ true → Works s (after_begin s q c).machine d id
unfolding after_begin
begin_work s q c fid d p id k m =
    works_case s s.machine c d id (record (drive_at s.machine c) { queue = begun (drive_at s.machine c).queue q }) refl (begin_tells s q c fid m).0
    (λ e. subst (λ n. SameWork (request_of (queue_of s.machine d) id) (request_of (begun (queue_of s.machine n) q) id)) (sym e) (begins_other (queue_of s.machine d) p id q k.names k.has))

move_other : (s : State) (q c fid d p id : ℕ) → Holds s d p id → (q == p) ≡ false → may_move s q c fid ≡ true → c ≡ d → SameWork (request_of (queue_of s.machine d) id) (request_of (with_progress (queue_of s.machine c) fid (one_more true)) id)
move_other s q c fid d p id k ne m e =
    let t = subst (λ n. some_request (queue_of s.machine n) fid (λ x. is_busy_by q x && moves x) ≡ true) e (move_tells s q c fid m).1 in
    subst (λ n. SameWork (request_of (queue_of s.machine d) id) (request_of (with_progress (queue_of s.machine n) fid (one_more true)) id)) (sym e)
    (other_changes (queue_of s.machine d) fid id (one_more true) (works_other (queue_of s.machine d) p q fid id moves k.names k.has ne t))

move_work : (s : State) (q c fid d p id : ℕ) → Holds s d p id → (q == p) ≡ false → may_move s q c fid ≡ true → Works s (after_move s c fid).machine d id
unfolding after_move
move_work s q c fid d p id k ne m =
    let n = read_in s.machine c fid in
    let e = read_in_drives s.machine c fid in
    works_case s n c d id (record (drive_at n c) { queue = with_progress (drive_at n c).queue fid (one_more true) }) e (move_tells s q c fid m).0
    (λ same. subst (λ (ds : List Drive). SameWork (request_of (queue_of s.machine d) id) (request_of (with_progress (get_or ds c no_drive).queue fid (one_more true)) id)) (sym e) (move_other s q c fid d p id k ne m same))

hold_work : (s : State) (q c fid d id : ℕ) → Works s (after_hold s q c fid).machine d id
unfolding after_hold
hold_work s q c fid d id =
    subst (λ r. SameWork (request_of (queue_of s.machine d) id) (request_of r id)) (sym (written_out_queue s.machine c fid d)) (same_work (request_of (queue_of s.machine d) id))

put_work : (s : State) (c fid : ℕ) (ok : Bool) (d id : ℕ) → d ≢ c → Works s (after_put s c fid ok).machine d id
unfolding after_put
put_work s c fid ok d id ne =
    subst (λ (x : Drive). SameWork (request_of (queue_of s.machine d) id) (request_of x.queue id)) (sym (get_or-set_other s.machine.drives c d _ no_drive ne)) (same_work (request_of (queue_of s.machine d) id))

not_held : (fid p id : ℕ) → not (is_held_for fid (Some (record { by = p; id = id }))) ≡ true → fid ≢ id
not_held fid p id h e = (let t : (id == fid) ≡ true = grind (arith, nat_tests, e) in true≢false (sym h ∙ ap not t))

finish_free : (s : State) (q c fid : ℕ) → may_finish s q c fid ≡ true → not (is_held_for fid (image_at s c).holder) ≡ true
unfolding may_finish
finish_free s q c fid m = grind (arith, nat_tests, common_steps, and_parts)

finish_work : (s : State) (q c fid d p id : ℕ) → Holds s d p id → may_finish s q c fid ≡ true → Works s (after_finish s c fid).machine d id
unfolding after_finish
finish_work s q c fid d p id k m =
    let n = with_queue s.machine c (left (drive_at s.machine c).queue fid) in
    subst (λ r. SameWork (request_of (queue_of s.machine d) id) (request_of r id)) (sym (finished_queue n c (request_of (drive_at s.machine c).queue fid) d))
    (works_case s s.machine c d id (record (drive_at s.machine c) { queue = left (drive_at s.machine c).queue fid }) refl (finish_tells s q c fid m).0
    (λ e. subst (λ n. SameWork (request_of (queue_of s.machine d) id) (request_of (left (queue_of s.machine n) fid) id)) (sym e)
    (other_leaves (queue_of s.machine d) p fid id k.has (not_held fid p id (ap (λ (o : Option Holder). not (is_held_for fid o)) (sym k.holder) ∙ subst (λ n. not (is_held_for fid (image_at s n).holder) ≡ true) e (finish_free s q c fid m))))))

accessed_work : (q r : Queue) (p id : ℕ) → Has q p id → (r ≡ q) ⊎ (r ≡ emptied q) → SameWork (request_of q id) (request_of r id)
accessed_work q r p id h (inl e) = subst (λ x. SameWork (request_of q id) (request_of x id)) (sym e) (same_work (request_of q id))
accessed_work q r p id h (inr e) = subst (λ x. SameWork (request_of q id) (request_of x id)) (sym e) (reset_leaves q p id h)

cancel_work : (s : State) (c fid d p id : ℕ) → Holds s d p id → Works s (with_queue s.machine c (cancelled (drive_at s.machine c).queue fid)) d id
cancel_work s c fid d p id k =
    elim (cases_eq d c) [
      | inr other ↦ subst (λ (x : Drive). SameWork (request_of (queue_of s.machine d) id) (request_of x.queue id)) (sym (get_or-set_other s.machine.drives c d _ no_drive other)) (same_work (request_of (queue_of s.machine d) id))
      | inl same ↦
          elim (cases_lt c (drive_count s.machine)) [
            | inl l ↦ works_case s s.machine c d id (record (drive_at s.machine c) { queue = cancelled (drive_at s.machine c).queue fid }) refl l
                (λ e. subst (λ n. SameWork (request_of (queue_of s.machine d) id) (request_of (cancelled (queue_of s.machine n) fid) id)) (sym e) (cancels_other (queue_of s.machine d) p fid id k.names k.has))
            | inr past ↦ works_by s _ d id (set_past s.machine.drives c _ past)
          ]
    ]

ordered_work : (s : State) (o : Order) (d p id : ℕ) → Holds s d p id → Works s (ordered s o).machine d id
unfolding ordered request_cancelled
ordered_work s (order.Input bytes) d p id k = same_work (request_of (queue_of s.machine d) id)
ordered_work s (order.Nmi i) d p id k = same_work (request_of (queue_of s.machine d) id)
ordered_work s (order.Cancel c fid) d p id k = cancel_work s c fid d p id k
ordered_work s (order.Set i reg value) d p id k = same_work (request_of (queue_of s.machine d) id)
ordered_work s order.Resume d p id k = same_work (request_of (queue_of s.machine d) id)
ordered_work s o d p id k = same_work (request_of (queue_of s.machine d) id)

done_as_work : (s : State) (o : Option Order) (d p id : ℕ) → Holds s d p id → Works s (noted_as (ordered_as s o) o (said_as s o)).machine d id
unfolding noted
done_as_work s None d p id k = same_work (request_of (queue_of s.machine d) id)
done_as_work s (Some o) d p id k = ordered_work s o d p id k

done_work : (s : State) (d p id : ℕ) → Holds s d p id → Works s (after_done s).machine d id
unfolding after_done
done_work s d p id k = done_as_work s (next_order s) d p id k

-- ---- every entry

-- what is left, and that it brings no image of d back
record Leaves (s : State) (e : Entry) (t : State) (d id : ℕ) : Type 0 where
  pub image : Images s t d
  pub work : Works s t.machine d id
  pub write : is_write_of s d e ≡ false
  pub put : is_put_of d e ≡ false

quiet : (s : State) (e : Entry) (t : State) (d id : ℕ) → t.images ≡ s.images → t.machine.drives ≡ s.machine.drives → is_write_of s d e ≡ false → is_put_of d e ≡ false → Leaves s e t d id
quiet s e t d id i m w u = record { image = images_by s t d i; work = works_by s t.machine.drives d id m; write = w; put = u }

hold_tells : (s : State) (q c fid : ℕ) → may_hold s q c fid ≡ true → is_none (image_at s c).holder ≡ true
unfolding may_hold
hold_tells s q c fid m = grind (arith, nat_tests, common_steps, and_parts)

put_tells : (s : State) (q c fid : ℕ) → may_put s q c fid ≡ true → is_holder q fid (image_at s c).holder ≡ true
unfolding may_put
put_tells s q c fid m = grind (arith, nat_tests, common_steps, and_parts)

not_free : (s : State) (q c fid d p id : ℕ) → Holds s d p id → may_hold s q c fid ≡ true → d ≢ c
not_free s q c fid d p id k m e =
    clash _ (subst (λ n. is_none (image_at s n).holder ≡ true) (sym e) (hold_tells s q c fid m)) (ap (λ (o : Option Holder). is_none o) k.holder)

not_his : (s : State) (q c fid d p id : ℕ) → Holds s d p id → (q == p) ≡ false → may_put s q c fid ≡ true → d ≢ c
not_his s q c fid d p id k ne m e =
    let t = sym (ap (λ (o : Option Holder). is_holder q fid o) k.holder) ∙ subst (λ n. is_holder q fid (image_at s n).holder ≡ true) (sym e) (put_tells s q c fid m) in
    let a = and_parts (p == q) (id == fid) t in
    clash (q == p) (grind (arith, nat_tests, a.0)) ne

eq_false : (c d : ℕ) → d ≢ c → (c == d) ≡ false
eq_false c d ne = grind (arith, nat_tests)

effect_leaves : (s : State) (q : ℕ) (e : Entry) (d p id : ℕ) → Holds s d p id → (q == p) ≡ false → allowed s q e ≡ true → Leaves s e (effect s q e) d id
unfolding allowed effect after_claim after_start after_exit after_sleep after_wake after_yield after_meet after_wish after_end after_close
effect_leaves s q (Claim j) d p id k ne m = quiet s (Claim j) _ d id refl refl refl refl
effect_leaves s q (Start j) d p id k ne m = quiet s (Start j) _ d id refl refl refl refl
effect_leaves s q (Enter j grant) d p id k ne m = quiet s (Enter j grant) (after_enter s q j grant) d id (enter_images s q j grant) (enter_drives s q j grant) refl refl
effect_leaves s q (Slice j n) d p id k ne m = quiet s (Slice j n) (after_slice s j n) d id (slice_images s j n) (slice_drives s j n) refl refl
effect_leaves s q (Step j) d p id k ne m = record { image = step_image s q j d; work = accessed_work (queue_of s.machine d) (queue_of (after_step s q j).machine d) p id k.has (step_drive s q j d).queue; write = refl; put = refl }
effect_leaves s q (Exit j) d p id k ne m = quiet s (Exit j) _ d id refl refl refl refl
effect_leaves s q (Sleep j) d p id k ne m = quiet s (Sleep j) _ d id refl refl refl refl
effect_leaves s q (Wake j) d p id k ne m = quiet s (Wake j) _ d id refl refl refl refl
effect_leaves s q (Yield j) d p id k ne m = quiet s (Yield j) _ d id refl refl refl refl
effect_leaves s q (Turn j) d p id k ne m = quiet s (Turn j) (after_turn s j) d id (turn_images s j) (turn_drives s j) refl refl
effect_leaves s q Meet d p id k ne m = quiet s Meet _ d id refl refl refl refl
effect_leaves s q (Pull c) d p id k ne m = record { image = images_by s (after_pull s c) d (pull_images s c); work = pull_work s q c d p id k m; write = refl; put = refl }
effect_leaves s q (Begin c fid) d p id k ne m = record { image = images_by s (after_begin s q c) d (begin_images s q c); work = begin_work s q c fid d p id k m; write = refl; put = refl }
effect_leaves s q (Move c fid) d p id k ne m = record { image = images_by s (after_move s c fid) d (move_images s c fid); work = move_work s q c fid d p id k ne m; write = refl; put = refl }
effect_leaves s q (Hold c fid) d p id k ne m = (let o = not_free s q c fid d p id k m in record { image = hold_image s q c fid d o; work = hold_work s q c fid d id; write = ap (λ b. b && writes_for (request_of (queue_of s.machine d) fid)) (eq_false c d o); put = refl })
effect_leaves s q (Put c fid ok) d p id k ne m = (let o = not_his s q c fid d p id k ne m in record { image = put_image s c fid ok d o; work = put_work s c fid ok d id o; write = refl; put = eq_false c d o })
effect_leaves s q (Finish c fid) d p id k ne m = record { image = finish_image s c fid d; work = finish_work s q c fid d p id k m; write = refl; put = refl }
effect_leaves s q Feed d p id k ne m = quiet s Feed (after_feed s) d id (feed_images s) (feed_drives s) refl refl
effect_leaves s q Wish d p id k ne m = quiet s Wish _ d id refl refl refl refl
effect_leaves s q (Done n) d p id k ne m = record { image = done_image s d; work = done_work s d p id k; write = refl; put = refl }
effect_leaves s q (End c) d p id k ne m = quiet s (End c) _ d id refl refl refl refl
effect_leaves s q Close d p id k ne m = quiet s Close _ d id refl refl refl refl
effect_leaves s q (Tick n) d p id k ne m = quiet s (Tick n) (after_tick s n) d id (tick_images s n) (tick_drives s n) refl refl

after_leaves : (s : State) (x : Signed) (d p id : ℕ) → Holds s d p id → (x.by == p) ≡ false → lawful s x.by x.entry ≡ true → Leaves s x.entry (after s x) d id
unfolding after counted lawful
after_leaves s x d p id k ne m = (let l = effect_leaves s x.by x.entry d p id k ne (and_parts (not s.closed) (allowed s x.by x.entry) m).1 in record { image = l.image; work = l.work; write = l.write; put = l.put })

pub image_is_owned : (s : State) (x : Signed) (d p id : ℕ) → IsSoundState s → d < drive_count s.machine → lawful s x.by x.entry ≡ true → (image_at s d).holder ≡ Some (record { by = p; id = id }) → (x.by == p) ≡ false
    → KeepsImage s (after s x) d id × (is_put_of d x.entry ≡ false)
image_is_owned s x d p id h l m e ne =
    let k = after_leaves s x d p id (holds_at s d p id h l e) ne m in
    (record { bytes = k.image.bytes; doubt = k.image.doubt; holder = k.image.holder; disk = by_hold_alone s x d m k.write; work = k.work }, k.put)
