-- What a lawful entry of a worker tells of its request.
use Rattle.std.specs.Prelude.{Option, Some, ◌&&◌, ◌==◌, not, option_map}
use Rattle.std.proofs.Common.{◌≡◌, ℕ, ◌<◌, ◌≤◌, Bool, true, false, length, sym, ap, subst, ◌∙◌}
use Rattle.std.proofs.lemmas.Bool.{and_parts, ltb-true}
use Rattle.blk_queue.specs.declared.progress.Unfinished.{Unfinished}
use Rattle.vm_law.specs.Memory.{Memory}
use Rattle.vq_ring.specs.Ring.{lies_in}
use Rattle.vm_vblk.specs.Window.{ring_of}
use Rattle.blk_queue.specs.declared.progress.Finished.{Finished}
use Rattle.blk_queue.specs.Progress.{ends, is_dropped, moves, puts, told}
use Rattle.blk_queue.specs.Queue.{Queue, request_of, some_request}
use Rattle.blk_queue.specs.Sound.{IsSound as IsQueue}
use Rattle.vm_state.specs.Machine.{drive_at, drive_count}
use Rattle.vm_state.specs.declared.drive.Drive.{Drive}
use Rattle.vm_state.specs.Requests.{is_busy_by, is_worker}
use Rattle.vm_state.specs.State.{State, image_at}
use Rattle.vm_state.specs.Sound.{IsDrive, IsSoundState, RequestFits, size_allows}
use Rattle.vm_disks.specs.Images.{may_hold, may_put}
use Rattle.vm_disks.specs.Moving.{may_finish, may_move}
use Rattle.vm_disks.specs.Queueing.{can_pull, may_pull}
use Rattle.vm_disks.proofs.Going.{held_puts}
use Rattle.vm_disks.proofs.KeptQueues.{its_fact}
use Rattle.vm_disks.proofs.Lookup.{both, but, is_there}

second : (q : Queue) (id : ℕ) (a b : Unfinished → Bool) → IsQueue q → some_request q id (λ (x : Unfinished). a x && b x) ≡ true → some_request q id b ≡ true
second q id a b h m = (and_parts (some_request q id a) (some_request q id b) (sym (both q id a b h) ∙ m)).1

queue_of : (s : State) (d : ℕ) → IsSoundState s → d < drive_count s.machine → IsQueue (drive_at s.machine d).queue
queue_of s d h l = (h.machine.each_drive d l).queue

pub move_goes : (s : State) (p d id : ℕ) → IsSoundState s → may_move s p d id ≡ true → some_request (drive_at s.machine d).queue id moves ≡ true
unfolding may_move
move_goes s p d id h m =
    let a = and_parts _ _ m in
    second (drive_at s.machine d).queue id (is_busy_by p) moves (queue_of s d h (ltb-true _ _ a.0)) a.1

pub hold_goes : (s : State) (p d id : ℕ) → IsSoundState s → may_hold s p d id ≡ true → some_request (drive_at s.machine d).queue id puts ≡ true
unfolding may_hold
hold_goes s p d id h m =
    let a = and_parts _ _ m in
    let l = ltb-true _ _ (and_parts _ _ a.0).0 in
    let q : Queue = (drive_at s.machine d).queue in
    let sound = queue_of s d h l in
    let some : (some_request q id (λ (x : Unfinished). is_busy_by p x && puts x) && not (some_request q id is_dropped)) ≡ true = sym (but q id (λ (x : Unfinished). is_busy_by p x && puts x) is_dropped sound) ∙ a.1 in
    second q id (is_busy_by p) puts sound (and_parts _ _ some).0

pub put_goes : (s : State) (p d id : ℕ) → IsSoundState s → may_put s p d id ≡ true → some_request (drive_at s.machine d).queue id puts ≡ true
unfolding may_put
put_goes s p d id h m =
    let a = and_parts _ _ m in
    let l = ltb-true _ _ a.0 in
    held_puts (drive_at s.machine d).queue.requests p id (image_at s d).holder a.1 (h.images.each d l).held

pub finish_goes : (s : State) (p d id : ℕ) → IsSoundState s → may_finish s p d id ≡ true → some_request (drive_at s.machine d).queue id ends ≡ true
unfolding may_finish
finish_goes s p d id h m =
    let a = and_parts _ _ m in
    second (drive_at s.machine d).queue id (is_busy_by p) ends (queue_of s d h (ltb-true _ _ (and_parts _ _ a.0).0)) a.1

pub pull_goes : (s : State) (p d : ℕ) → may_pull s p d ≡ true → can_pull s.machine.ram (drive_at s.machine d) ≡ true
unfolding may_pull
pull_goes s p d m = (and_parts _ _ (and_parts _ _ (and_parts _ _ m).0).0).1

pub finish_there : (s : State) (p d id : ℕ) → may_finish s p d id ≡ true → d < drive_count s.machine
unfolding may_finish
finish_there s p d id m = ltb-true _ _ (and_parts _ _ (and_parts _ _ m).0).0

worker_there : (s : State) (p d : ℕ) → is_worker s.machine p d ≡ true → d < drive_count s.machine
unfolding is_worker
worker_there s p d m = ltb-true _ _ (and_parts _ _ (and_parts _ _ m).0).0

pub pull_there : (s : State) (p d : ℕ) → may_pull s p d ≡ true → d < drive_count s.machine
unfolding may_pull
pull_there s p d m = worker_there s p d (and_parts _ _ (and_parts _ _ (and_parts _ _ m).0).0).0

-- ---- what is told of a request that isn't dropped

pub record Tellable (ram : Memory) (drive : Drive) (t : Finished) : Type 0 where
  pub ready : drive.window.queue_ready ≡ true
  pub ring : lies_in (ring_of drive.window) ram ≡ true
  pub above_code : ram.code ≤ t.status_at
  pub in_ram : t.status_at < length ram.bytes

told_of : (x : Unfinished) (t : Finished) → option_map told (Some x) ≡ Some t → told x ≡ t
told_of x t e = cc

told_tells : (ram : Memory) (drive : Drive) (x : Unfinished) → IsDrive ram drive → RequestFits ram drive x → (told x).silent ≡ false → Tellable ram drive (told x)
told_tells ram drive x h f gone =
    let ready = (and_parts drive.window.queue_ready (size_allows drive.window.queue_num x.request) (f.window gone)).0 in
    record { ready = ready; ring = h.tables ready; above_code = f.accepted.fits.above_code; in_ram = f.accepted.fits.in_ram }

pub tellable : (ram : Memory) (drive : Drive) (id : ℕ) (t : Finished) → IsDrive ram drive → some_request drive.queue id ends ≡ true → option_map told (request_of drive.queue id) ≡ Some t → t.silent ≡ false → Tellable ram drive t
tellable ram drive id t h may e gone =
    let i = is_there drive.queue id ends h.queue may in
    let same : told i.request ≡ t = told_of i.request t (ap (λ (o : Option Unfinished). option_map told o) (sym i.there) ∙ e) in
    let f = its_fact (RequestFits ram drive) drive.queue id i.request i.there h.requests in
    subst (λ (x : Finished). Tellable ram drive x) same (told_tells ram drive i.request h f (ap (λ (x : Finished). x.silent) same ∙ gone))
