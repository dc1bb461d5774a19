-- Disks as the guest sees them change by Hold of a write alone; a request that is finished was moved whole.
use Rattle.std.proofs.Common.{◌≡◌, ℕ, Bool, true, false, not, List, get_or, refl, sym, ap, subst, ◌∙◌, inl, inr, arith, Option, Some, None}
use Rattle.std.specs.Prelude.{◌&&◌, ◌||◌, ◌==◌, if◌then◌else◌}
use Rattle.std.proofs.lemmas.List.{get_or-set_other}
use Rattle.std.proofs.lemmas.Bool.{cases_eq, and_parts, or_cases, true≢false}
use Rattle.std.proofs.lemmas.Bool.Decides.{nat_tests}
use Rattle.std.proofs.lemmas.Grind.{common_steps}
use Rattle.vm_law.specs.Memory.{Memory}
use Rattle.vm_law.specs.declared.journal.Entry.{Entry}
use Rattle.vm_law.specs.declared.journal.Entry.TheVariants.{Claim, Start, Enter, Slice, Step, Exit, Sleep, Wake, Yield, Turn, Meet, Pull, Begin, Move, Hold, Put, Finish, Feed, Wish, Done, End, Close, Tick}
use Rattle.vm_law.specs.declared.journal.Signed.{Signed}
use Rattle.vm_law.specs.declared.script.Order.{Order}
use Rattle.vm_law.specs.declared.script.Order.TheVariants as order
use Rattle.vm_vblk.specs.Queue as vblk
use Rattle.blk_queue.specs.declared.progress.Finished.{Finished}
use Rattle.blk_queue.specs.declared.progress.Progress.{Progress}
use Rattle.blk_queue.specs.declared.progress.Progress.TheVariants.{Pending, Blocked, Busy}
use Rattle.blk_queue.specs.declared.progress.Unfinished.{Unfinished}
use Rattle.blk_queue.specs.Progress.{told, is_flush, ends, is_over, failed_of, dropped_of, moved_of}
use Rattle.blk_queue.specs.Queue.{request_of, some_request}
use Rattle.blk_queue.specs.Sound.{passes}
use Rattle.blk_queue.proofs.Names.{names_one}
use Rattle.vm_state.specs.declared.drive.Drive.{Drive}
use Rattle.vm_state.specs.Machine.{MachineState, drive_at, with_drive, no_drive}
use Rattle.vm_state.specs.Requests.{is_busy_by}
use Rattle.vm_state.specs.Sound.{IsSoundState}
use Rattle.vm_state.specs.State.{State, next_order}
use Rattle.vm_owners.specs.Owners.{after_claim, after_start, after_exit, after_sleep, after_wake, after_yield}
use Rattle.vm_owners.specs.Turn.{after_turn}
use Rattle.vm_devices.specs.Windows.{with_window}
use Rattle.vm_running.specs.Enter.{after_enter}
use Rattle.vm_running.specs.Slice.{after_slice}
use Rattle.vm_disks.specs.Queueing.{pulled_in, after_pull, after_begin}
use Rattle.vm_disks.specs.Moving.{read_in, after_move, may_finish, told_driver, finished_as, after_finish}
use Rattle.vm_disks.specs.Images.{written_out, after_hold, after_put, with_write}
use Rattle.vm_orders.specs.Duties.{after_feed, after_meet, after_tick, after_wish}
use Rattle.vm_orders.specs.Done.{ordered, ordered_as, noted_as, said_as, after_done, request_cancelled, noted}
use Rattle.vm_orders.specs.Ending.{after_end, after_close}
use Rattle.vm_table.specs.Table.{allowed, lawful, effect, counted, after}
use Rattle.vm_laws.specs.Requests.{queue_of, is_write_of, writes_for, IsWholeOrNot}
use Rattle.vm_laws.proofs.Lists.{clash}
use Rattle.vm_laws.proofs.Heard.{Hears, hears_followed}
use Rattle.vm_laws.proofs.Accesses.{drive_set}
use Rattle.vm_laws.proofs.Serving.{enter_drives, turn_drives, slice_drives, tick_drives, feed_drives, step_drive, known}

abbrev pub SameBytes : MachineState → MachineState → ℕ → Type 0
SameBytes m n d = (drive_at n d).bytes ≡ (drive_at m d).bytes

by_drives : (m n : MachineState) (d : ℕ) → n.drives ≡ m.drives → SameBytes m n d
by_drives m n d e = ap (λ (ds : List Drive). (get_or ds d no_drive).bytes) e

-- another drive c with the same bytes
set_bytes : (m : MachineState) (c d : ℕ) (x : Drive) → x.bytes ≡ (drive_at m c).bytes → SameBytes m (with_drive m c x) d
set_bytes m c d x e = drive_set (λ a b. b.bytes ≡ a.bytes) m c x (λ k. refl) e d

hears_bytes : (m u n : MachineState) (c d : ℕ) (x : Drive) → u.drives ≡ m.drives → x.bytes ≡ (drive_at u c).bytes → Hears (with_drive u c x) n → SameBytes m n d
hears_bytes m u n c d x e b h = by_drives (with_drive u c x) n d h.drives ∙ set_bytes u c d x b ∙ by_drives m u d e

pull_bytes : (s : State) (c d : ℕ) → SameBytes s.machine (after_pull s c).machine d
unfolding after_pull pulled_in with_window
pull_bytes s c d =
    let x = vblk.pull_of s.machine.ram (drive_at s.machine c).window in
    hears_bytes s.machine (record s.machine { ram = x.memory }) _ c d _ refl refl (hears_followed _ _ _ _)

begin_bytes : (s : State) (p c d : ℕ) → SameBytes s.machine (after_begin s p c).machine d
unfolding after_begin
begin_bytes s p c d = set_bytes s.machine c d _ refl

read_in_drives : (m : MachineState) (c : ℕ) (o : ℕ) → (read_in m c o).drives ≡ m.drives
read_in_drives m c o = refl

move_bytes : (s : State) (c id d : ℕ) → SameBytes s.machine (after_move s c id).machine d
unfolding after_move
move_bytes s c id d =
    let n = read_in s.machine c id in
    set_bytes n c d _ refl ∙ by_drives s.machine n d (read_in_drives s.machine c id)

put_bytes : (s : State) (c id : ℕ) (ok : Bool) (d : ℕ) → SameBytes s.machine (after_put s c id ok).machine d
unfolding after_put
put_bytes s c id ok d = set_bytes s.machine c d _ refl

told_bytes : (m : MachineState) (c : ℕ) (x : Finished) (d : ℕ) → SameBytes m (told_driver m c x) d
unfolding told_driver with_window
told_bytes m c x d = hears_bytes m (record m { ram = _ }) _ c d _ refl refl (hears_followed _ _ _ _)

told_if : (m : MachineState) (c : ℕ) (x : Finished) (b : Bool) (d : ℕ) → SameBytes m (if b then m else told_driver m c x) d
told_if m c x true d = refl
told_if m c x false d = told_bytes m c x d

finished_bytes : (m : MachineState) (c : ℕ) (o : Option Unfinished) (d : ℕ) → SameBytes m (finished_as m c o) d
finished_bytes m c None d = refl
finished_bytes m c (Some x) d = told_if m c (told x) (told x).silent d

finish_bytes : (s : State) (c id d : ℕ) → SameBytes s.machine (after_finish s c id).machine d
unfolding after_finish
finish_bytes s c id d = finished_bytes _ c (request_of (drive_at s.machine c).queue id) d ∙ set_bytes s.machine c d _ refl

-- Hold: a flush leaves the disk, and a write that of its own alone
flush_same : (b : Bool) (bytes other : List ℕ) → not b ≡ false → (if b then bytes else other) ≡ bytes
flush_same true bytes other h = refl
flush_same false bytes other h = absurd (true≢false h)

write_none : (ram : Memory) (bytes : List ℕ) (o : Option Unfinished) → writes_for o ≡ false → with_write ram bytes o ≡ bytes
write_none ram bytes None h = refl
write_none ram bytes (Some x) h = flush_same (is_flush x.request) bytes _ h

hold_as : (m : MachineState) (c d id : ℕ) → ((c == d) && writes_for (request_of (drive_at m c).queue id)) ≡ false → SameBytes m (written_out m c id) d
hold_as m c d id h =
    elim (cases_eq d c) [
      | inr other ↦ ap (λ (y : Drive). y.bytes) (get_or-set_other m.drives c d _ no_drive other)
      | inl same ↦
          let z : (c == d) ≡ true = grind (arith, nat_tests, same) in
          set_bytes m c d _ (write_none m.ram (drive_at m c).bytes (request_of (drive_at m c).queue id) (sym (ap (λ b. b && writes_for (request_of (drive_at m c).queue id)) z) ∙ h))
    ]

-- where it is of this disk, its queue is this disk's
hold_flag : (s : State) (c id d : ℕ) → ((c == d) && writes_for (request_of (queue_of s.machine d) id)) ≡ false → ((c == d) && writes_for (request_of (queue_of s.machine c) id)) ≡ false
hold_flag s c id d h =
    elim (cases_eq c d) [
      | inl same ↦ subst (λ k. ((c == d) && writes_for (request_of (queue_of s.machine k) id)) ≡ false) (sym same) h
      | inr other ↦ (let z : (c == d) ≡ false = grind (arith, nat_tests, other) in ap (λ b. b && writes_for (request_of (queue_of s.machine c) id)) z)
    ]

hold_bytes : (s : State) (p c id d : ℕ) → ((c == d) && writes_for (request_of (queue_of s.machine d) id)) ≡ false → SameBytes s.machine (after_hold s p c id).machine d
unfolding after_hold
hold_bytes s p c id d h = hold_as s.machine c d id (hold_flag s c id d h)

ordered_bytes : (s : State) (o : Order) (d : ℕ) → SameBytes s.machine (ordered s o).machine d
unfolding ordered request_cancelled
ordered_bytes s (order.Input bytes) d = refl
ordered_bytes s (order.Nmi i) d = refl
ordered_bytes s (order.Cancel c id) d = set_bytes s.machine c d _ refl
ordered_bytes s (order.Set i reg value) d = refl
ordered_bytes s order.Resume d = refl
ordered_bytes s o d = refl

done_as_bytes : (s : State) (o : Option Order) (d : ℕ) → SameBytes s.machine (noted_as (ordered_as s o) o (said_as s o)).machine d
unfolding noted
done_as_bytes s None d = refl
done_as_bytes s (Some o) d = ordered_bytes s o d

done_bytes : (s : State) (d : ℕ) → SameBytes s.machine (after_done s).machine d
unfolding after_done
done_bytes s d = done_as_bytes s (next_order s) d

effect_bytes : (s : State) (p : ℕ) (e : Entry) (d : ℕ) → is_write_of s d e ≡ false → SameBytes s.machine (effect s p e).machine d
unfolding effect after_claim after_start after_exit after_sleep after_wake after_yield after_meet after_wish after_end after_close
effect_bytes s p (Claim j) d w = refl
effect_bytes s p (Start j) d w = refl
effect_bytes s p (Enter j grant) d w = by_drives s.machine (after_enter s p j grant).machine d (enter_drives s p j grant)
effect_bytes s p (Slice j n) d w = by_drives s.machine (after_slice s j n).machine d (slice_drives s j n)
effect_bytes s p (Step j) d w = (step_drive s p j d).bytes
effect_bytes s p (Exit j) d w = refl
effect_bytes s p (Sleep j) d w = refl
effect_bytes s p (Wake j) d w = refl
effect_bytes s p (Yield j) d w = refl
effect_bytes s p (Turn j) d w = by_drives s.machine (after_turn s j).machine d (turn_drives s j)
effect_bytes s p Meet d w = refl
effect_bytes s p (Pull c) d w = pull_bytes s c d
effect_bytes s p (Begin c id) d w = begin_bytes s p c d
effect_bytes s p (Move c id) d w = move_bytes s c id d
effect_bytes s p (Hold c id) d w = hold_bytes s p c id d w
effect_bytes s p (Put c id ok) d w = put_bytes s c id ok d
effect_bytes s p (Finish c id) d w = finish_bytes s c id d
effect_bytes s p Feed d w = by_drives s.machine (after_feed s).machine d (feed_drives s)
effect_bytes s p Wish d w = refl
effect_bytes s p (Done k) d w = done_bytes s d
effect_bytes s p (End c) d w = refl
effect_bytes s p Close d w = refl
effect_bytes s p (Tick n) d w = by_drives s.machine (after_tick s n).machine d (tick_drives s n)

pub by_hold_alone : (s : State) (x : Signed) (d : ℕ) → lawful s x.by x.entry ≡ true → is_write_of s d x.entry ≡ false → (drive_at (after s x).machine d).bytes ≡ (drive_at s.machine d).bytes
unfolding after counted
by_hold_alone s x d m w = effect_bytes s x.by x.entry d w

-- ---- a request that is finished

over_whole : (count : ℕ) (p : Progress) → is_over count p ≡ true → failed_of p ≡ false → dropped_of p ≡ false → moved_of p ≡ count
over_whole count Pending h f g = absurd (true≢false (sym h))
over_whole count Blocked h f g = absurd (true≢false (sym h))
over_whole count (Busy w moved failed gone) h f g =
    let z : (moved == count) ≡ true = elim (or_cases ((moved == count) || failed) gone h) [
      | inr a ↦ absurd (clash gone a g)
      | inl a ↦ elim (or_cases (moved == count) failed a) [ inl b ↦ b | inr b ↦ absurd (clash failed b f) ]
    ] in
    grind (arith, nat_tests, z)

whole_as : (p : ℕ) (o : Option Unfinished) → passes (λ (x : Unfinished). is_busy_by p x && ends x) o ≡ true → IsWholeOrNot o
whole_as p None h = absurd (true≢false (sym h))
whole_as p (Some x) h = λ f g. over_whole x.request.count x.progress (and_parts (is_busy_by p x) (ends x) h).1 f g

finish_tells : (s : State) (p c id : ℕ) → lawful s p (Finish c id) ≡ true → some_request (queue_of s.machine c) id (λ x. is_busy_by p x && ends x) ≡ true
unfolding lawful allowed may_finish
finish_tells s p c id m = grind (arith, nat_tests, common_steps, and_parts)

pub finished_whole : (s : State) (p d id : ℕ) → IsSoundState s → lawful s p (Finish d id) ≡ true → IsWholeOrNot (request_of (queue_of s.machine d) id)
finished_whole s p d id h m =
    let n = names_one (queue_of s.machine d) ((known s h).queues d) in
    whole_as p (request_of (queue_of s.machine d) id) (sym (n.test id (λ x. is_busy_by p x && ends x)) ∙ finish_tells s p d id m)
