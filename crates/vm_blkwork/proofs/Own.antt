-- The entries of a worker while it has an image out leave the request for which it is out.
use Rattle.std.proofs.Common.{◌≡◌, ◌≢◌, ℕ, ◌<◌, Bool, true, false, not, List, length, get_or, refl, sym, ap, subst, ◌∙◌, arith, Option, Some}
use Rattle.std.specs.Prelude.{◌&&◌, ◌==◌}
use Rattle.std.proofs.lemmas.Bool.{and_parts, true≢false}
use Rattle.std.proofs.lemmas.Bool.Decides.{nat_tests}
use Rattle.std.proofs.lemmas.Grind.{common_steps}
use Rattle.vm_law.specs.declared.journal.Entry.{Entry}
use Rattle.vm_law.specs.declared.journal.Entry.TheVariants.{Pull, Begin, Move, Hold, Put, Finish}
use Rattle.vm_vblk.specs.Queue as vblk
use Rattle.vm_vblk.specs.declared.pulled.Pulled.{Pulled}
use Rattle.vm_vblk.specs.declared.pulled.Pulled.TheVariants as pulled
use Rattle.blk_queue.specs.declared.progress.Unfinished.{Unfinished}
use Rattle.blk_queue.specs.Progress.{is_read, moves, one_more}
use Rattle.blk_queue.specs.Queue.{Queue, request_of, some_request}
use Rattle.blk_queue.specs.Sound.{NamesOne, passes}
use Rattle.blk_queue.specs.Steps.{begun, left, with_progress}
use Rattle.blk_queue.proofs.Names.{names_one}
use Rattle.vm_state.specs.declared.drive.Drive.{Drive}
use Rattle.vm_state.specs.declared.image.Holder.{Holder}
use Rattle.vm_state.specs.Machine.{MachineState, drive_at, drive_count, no_drive, with_drive}
use Rattle.vm_state.specs.Requests.{is_busy_by}
use Rattle.vm_state.specs.Sound.{IsHeld, IsSoundState, is_midway, is_out}
use Rattle.vm_state.specs.State.{State, image_at}
use Rattle.vm_devices.specs.Windows.{with_window}
use Rattle.vm_disks.specs.Queueing.{may_pull, queue_with, pulled_in, after_pull, may_begin, after_begin, with_queue}
use Rattle.vm_disks.specs.Moving.{is_held_for, may_move, read_in, after_move, may_finish, after_finish}
use Rattle.vm_board.proofs.Images.{after_images}
use Rattle.vm_board.specs.Calls.{moves_image}
use Rattle.vm_table.specs.Table.{allowed, lawful, effect, counted, after}
use Rattle.vm_blkwork.proofs.Choosing.{chosen_lawful, chosen_work, is_work}
use Rattle.vm_table.specs.Turns.{first_lawful}
use Rattle.vm_state.specs.Requests.{is_worker}
use Rattle.vm_law.specs.declared.journal.Signed.{Signed}
use Rattle.vm_laws.specs.Owned.{KeepsImage, SameWork, is_put_of}
use Rattle.vm_laws.specs.Requests.{is_write_of, queue_of}
use Rattle.vm_laws.proofs.Bytes.{by_hold_alone}
use Rattle.vm_laws.proofs.Heard.{Hears, hears_followed}
use Rattle.vm_laws.proofs.Queues.{any_more}
use Rattle.vm_laws.proofs.Serving.{drive_case, at_drives, pull_tells, begin_tells, move_tells, finish_tells, read_in_drives, finished_queue, known}
use Rattle.vm_laws.proofs.Holding.{Has, has_held, same_work, other_changes, other_leaves, joins, begins_other}

abbrev pub Works : State → MachineState → ℕ → ℕ → Type 0
Works s n d id = SameWork (request_of (queue_of s.machine d) id) (request_of (queue_of n d) id)

works_case : (s : State) (m : MachineState) (c d id : ℕ) (x : Drive) → m.drives ≡ s.machine.drives → c < drive_count s.machine → (c ≡ d → SameWork (request_of (queue_of s.machine d) id) (request_of x.queue id))
    → SameWork (request_of (queue_of s.machine d) id) (request_of (drive_at (with_drive m c x) d).queue id)
works_case s m c d id x e l f =
    drive_case (λ z. SameWork (request_of (queue_of s.machine d) id) (request_of z.queue id)) m c d x (subst (λ (ds : List Drive). c < length ds) (sym e) l) f
    (λ ne. at_drives (λ z. SameWork (request_of (queue_of s.machine d) id) (request_of z.queue id)) s.machine.drives m.drives d e (same_work (request_of (queue_of s.machine d) id)))

-- the pass p holds the image of d for the request id, which is no read
pub record Holds (s : State) (d p id : ℕ) : Type 0 where
  pub names : NamesOne (queue_of s.machine d)
  pub has : Has (queue_of s.machine d) p id
  pub writes : some_request (queue_of s.machine d) id (λ x. not (is_read x.request)) ≡ true
  pub holder : (image_at s d).holder ≡ Some (record { by = p; id = id })

no_read : (h : Holder) (x : Unfinished) → is_out h x ≡ true → ((x.id == h.id) && not (is_read x.request)) ≡ true
no_read h x o = (and_parts ((x.id == h.id) && not (is_read x.request)) (is_midway h.by x.request.count x.progress) o).0

pub holds_at : (s : State) (d p id : ℕ) → IsSoundState s → d < drive_count s.machine → (image_at s d).holder ≡ Some (record { by = p; id = id }) → Holds s d p id
holds_at s d p id h l e =
    let n = names_one (queue_of s.machine d) ((known s h).queues d) in
    let held : IsHeld (queue_of s.machine d).requests (Some (record { by = p; id = id })) = subst (λ (o : Option Holder). IsHeld (queue_of s.machine d).requests o) e ((known s h).held d l) in record {
      names = n;
      has = has_held (queue_of s.machine d) p id n held;
      writes = any_more (is_out (record { by = p; id = id })) (λ (x : Unfinished). (x.id == id) && not (is_read x.request)) (queue_of s.machine d).requests (λ x o. no_read (record { by = p; id = id }) x o) held;
      holder = e;
    }

-- ---- Pull, Begin

pulled_work : (q : Queue) (a : Pulled) (p id : ℕ) → Has q p id → SameWork (request_of q id) (request_of (queue_with q a) id)
pulled_work q (pulled.Request r) p id h = joins q r p id h
pulled_work q pulled.Answered p id h = same_work (request_of q id)
pulled_work q pulled.Broken p id h = same_work (request_of q id)

hears_work : (s : State) (u n : MachineState) (c d id : ℕ) (x : Drive) → u.drives ≡ s.machine.drives → c < drive_count s.machine → (c ≡ d → SameWork (request_of (queue_of s.machine d) id) (request_of x.queue id)) → Hears (with_drive u c x) n → Works s n d id
hears_work s u n c d id x e l f h =
    at_drives (λ z. SameWork (request_of (queue_of s.machine d) id) (request_of z.queue id)) (with_drive u c x).drives n.drives d h.drives (works_case s u c d id x e l f)

pub pull_work : (s : State) (q c d p id : ℕ) → Holds s d p id → may_pull s q c ≡ true → Works s (after_pull s c).machine d id
unfolding after_pull pulled_in with_window
pull_work s q c d p id k m =
    let x = vblk.pull_of s.machine.ram (drive_at s.machine c).window in
    let y : Drive = record (drive_at s.machine c) { window = x.window; queue = queue_with (drive_at s.machine c).queue x.answer } in
    hears_work s (record s.machine { ram = x.memory }) _ c d id y refl (pull_tells s q c m)
    (λ e. subst (λ n. SameWork (request_of (queue_of s.machine d) id) (request_of (queue_with (queue_of s.machine n) x.answer) id)) (sym e) (pulled_work (queue_of s.machine d) x.answer p id k.has)) (hears_followed _ _ _ _)

pub begin_work : (s : State) (q c fid d p id : ℕ) → Holds s d p id → may_begin s q c fid ≡ true → Works s (after_begin s q c).machine d id
unfolding after_begin
begin_work s q c fid d p id k m =
    works_case s s.machine c d id (record (drive_at s.machine c) { queue = begun (drive_at s.machine c).queue q }) refl (begin_tells s q c fid m).0
    (λ e. subst (λ n. SameWork (request_of (queue_of s.machine d) id) (request_of (begun (queue_of s.machine n) q) id)) (sym e) (begins_other (queue_of s.machine d) p id q k.names k.has))

-- ---- Move is of another request, since it is of a read

moves_read : (q : ℕ) (x : Unfinished) → (is_busy_by q x && moves x) ≡ true → is_read x.request ≡ true
moves_read q x h = grind (arith, nat_tests, common_steps, and_parts)

passed : (q : Queue) (p id : ℕ) → NamesOne q → (h : Has q p id) → (test : Unfinished → Bool) → some_request q id test ≡ true → test h.item ≡ true
passed q p id n h test t = ap (λ (o : Option Unfinished). passes test o) (sym h.is) ∙ sym (n.test id test) ∙ t

other_read : (s : State) (q fid d p id : ℕ) → Holds s d p id → some_request (queue_of s.machine d) fid (λ x. is_busy_by q x && moves x) ≡ true → fid ≢ id
other_read s q fid d p id k t e =
    let there = subst (λ n. some_request (queue_of s.machine d) n (λ x. is_busy_by q x && moves x) ≡ true) e t in
    let reads = moves_read q k.has.item (passed (queue_of s.machine d) p id k.names k.has (λ x. is_busy_by q x && moves x) there) in
    let writes = passed (queue_of s.machine d) p id k.names k.has (λ x. not (is_read x.request)) k.writes in
    true≢false (sym writes ∙ ap not reads)

move_other : (s : State) (q c fid d p id : ℕ) → Holds s d p id → may_move s q c fid ≡ true → c ≡ d → SameWork (request_of (queue_of s.machine d) id) (request_of (with_progress (queue_of s.machine c) fid (one_more true)) id)
move_other s q c fid d p id k m e =
    let t = subst (λ n. some_request (queue_of s.machine n) fid (λ x. is_busy_by q x && moves x) ≡ true) e (move_tells s q c fid m).1 in
    subst (λ n. SameWork (request_of (queue_of s.machine d) id) (request_of (with_progress (queue_of s.machine n) fid (one_more true)) id)) (sym e)
    (other_changes (queue_of s.machine d) fid id (one_more true) (other_read s q fid d p id k t))

pub move_work : (s : State) (q c fid d p id : ℕ) → Holds s d p id → may_move s q c fid ≡ true → Works s (after_move s c fid).machine d id
unfolding after_move
move_work s q c fid d p id k m =
    let n = read_in s.machine c fid in
    let e = read_in_drives s.machine c fid in
    works_case s n c d id (record (drive_at n c) { queue = with_progress (drive_at n c).queue fid (one_more true) }) e (move_tells s q c fid m).0
    (λ same. subst (λ (ds : List Drive). SameWork (request_of (queue_of s.machine d) id) (request_of (with_progress (get_or ds c no_drive).queue fid (one_more true)) id)) (sym e) (move_other s q c fid d p id k m same))

-- ---- Finish is of another request, since the image isn't out for it

not_held : (fid p id : ℕ) → not (is_held_for fid (Some (record { by = p; id = id }))) ≡ true → fid ≢ id
not_held fid p id h e = (let t : (id == fid) ≡ true = grind (arith, nat_tests, e) in true≢false (sym h ∙ ap not t))

finish_free : (s : State) (q c fid : ℕ) → may_finish s q c fid ≡ true → not (is_held_for fid (image_at s c).holder) ≡ true
unfolding may_finish
finish_free s q c fid m = grind (arith, nat_tests, common_steps, and_parts)

pub finish_work : (s : State) (q c fid d p id : ℕ) → Holds s d p id → may_finish s q c fid ≡ true → Works s (after_finish s c fid).machine d id
unfolding after_finish
finish_work s q c fid d p id k m =
    let n = with_queue s.machine c (left (drive_at s.machine c).queue fid) in
    subst (λ r. SameWork (request_of (queue_of s.machine d) id) (request_of r id)) (sym (finished_queue n c (request_of (drive_at s.machine c).queue fid) d))
    (works_case s s.machine c d id (record (drive_at s.machine c) { queue = left (drive_at s.machine c).queue fid }) refl (finish_tells s q c fid m).0
    (λ e. subst (λ n. SameWork (request_of (queue_of s.machine d) id) (request_of (left (queue_of s.machine n) fid) id)) (sym e)
    (other_leaves (queue_of s.machine d) p fid id k.has (not_held fid p id (ap (λ (o : Option Holder). not (is_held_for fid o)) (sym k.holder) ∙ subst (λ n. not (is_held_for fid (image_at s n).holder) ≡ true) e (finish_free s q c fid m))))))

-- ---- each of them

own_work : (s : State) (q : ℕ) (e : Entry) (d p id : ℕ) → Holds s d p id → allowed s q e ≡ true → is_work s.machine q e ≡ true → moves_image e ≡ false → Works s (effect s q e).machine d id
unfolding allowed effect
own_work s q (Pull c) d p id k m w n = pull_work s q c d p id k m
own_work s q (Begin c fid) d p id k m w n = begin_work s q c fid d p id k m
own_work s q (Move c fid) d p id k m w n = move_work s q c fid d p id k m
own_work s q (Finish c fid) d p id k m w n = finish_work s q c fid d p id k m
own_work s q (Hold c fid) d p id k m w n = absurd (true≢false n)
own_work s q e d p id k m w n = absurd (true≢false (sym w))

no_write : (s : State) (d : ℕ) (e : Entry) → moves_image e ≡ false → is_write_of s d e ≡ false
no_write s d (Hold c id) n = absurd (true≢false n)
no_write s d e n = refl

no_put : (d : ℕ) (e : Entry) → moves_image e ≡ false → is_put_of d e ≡ false
no_put d (Put c id ok) n = absurd (true≢false n)
no_put d e n = refl

after_work : (s : State) (x : Signed) (d p id : ℕ) → Holds s d p id → lawful s x.by x.entry ≡ true → is_work s.machine x.by x.entry ≡ true → moves_image x.entry ≡ false → Works s (after s x).machine d id
unfolding after counted lawful
after_work s x d p id k m w n = own_work s x.by x.entry d p id k (and_parts (not s.closed) (allowed s x.by x.entry) m).1 w n

-- what a worker chooses but for a Hold leaves an image that it has
pub own_keeps : (s : State) (p d id : ℕ) (e : Entry) → IsSoundState s → d < drive_count s.machine → is_worker s.machine p d ≡ true → (image_at s d).holder ≡ Some (record { by = p; id = id })
    → first_lawful s p ≡ Some e → moves_image e ≡ false → KeepsImage s (after s (record { by = p; entry = e })) d id × (is_put_of d e ≡ false)
own_keeps s p d id e h l w holder chosen n =
    let x : Signed = record { by = p; entry = e } in
    let may = chosen_lawful s p e chosen in
    let stays = (after_images s x n).each d in (
      record {
        bytes = stays.bytes;
        doubt = stays.doubt;
        holder = stays.holder;
        disk = by_hold_alone s x d may (no_write s d e n);
        work = after_work s x d p id (holds_at s d p id h l holder) may (chosen_work s p d e w chosen) n;
      },
      no_put d e n,
    )
