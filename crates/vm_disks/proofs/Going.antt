-- What a worker relies on that goes on with a request.
use Rattle.std.specs.Prelude.{Option, Some, None, slice_get, ◌==◌, ◌&&◌, ◌||◌, nat_lt}
use Rattle.std.specs.List.{All, Any, list_any}
use Rattle.std.proofs.Common.{◌≡◌, ℕ, ◌+◌, ◌*◌, ◌/◌, ◌<◌, ◌≤◌, Bool, true, false, not, List, length, get_or, set, refl, sym, ap, subst, ◌∙◌, arith}
use Rattle.std.proofs.Math.ListN.{length-set}
use Rattle.std.proofs.lemmas.Bool.{and_parts, true≢false, ltb-true, eqb-true}
use Rattle.std.proofs.lemmas.Grind.{common_steps}
use Rattle.std.proofs.lemmas.List.{get_or-set_same, set-set}
use Rattle.std.proofs.lemmas.List.Folds.{Any-from_list_any, list_any-from_Any}
use Rattle.std.proofs.lemmas.Option.{slice_get_within, get_or_from_slice_get}
use Rattle.vm_law.specs.Memory.{Memory}
use Rattle.vblk_req.specs.Request.{IsSound as IsAsked}
use Rattle.blk_queue.specs.declared.progress.Progress.{Progress}
use Rattle.blk_queue.specs.declared.progress.Progress.TheVariants.{Pending, Blocked, Busy}
use Rattle.blk_queue.specs.declared.progress.Unfinished.{Unfinished}
use Rattle.blk_queue.specs.Progress.{failed_of, has_failed, has_more, is_dropped, is_flush, is_read, moved_of, moves, puts}
use Rattle.vm_state.specs.declared.drive.Drive.{Drive}
use Rattle.vm_state.specs.declared.image.Holder.{Holder}
use Rattle.vm_state.specs.Requests.{capacity_of}
use Rattle.vm_state.specs.Sound.{IsDrive, IsHeld, RequestFits, is_midway, is_out}
use Rattle.vm_disks.specs.Images.{is_holder}
use Rattle.vm_disks.proofs.Segments.{not_flush}

pub not_true : (b : Bool) → not b ≡ true → b ≡ false
not_true true h = absurd (true≢false (sym h))
not_true false h = refl

pub moves_tells : (x : Unfinished) → moves x ≡ true → (is_read x.request ≡ true) × (has_more x.request.count x.progress ≡ true)
moves_tells x m = let a = and_parts _ _ m in let b = and_parts _ _ a.0 in (b.0, b.1)

pub record PutsTells (x : Unfinished) : Type 0 where
  pub no_read : is_read x.request ≡ false
  pub more : has_more x.request.count x.progress ≡ true
  pub well : has_failed x ≡ false

pub puts_tells : (x : Unfinished) → puts x ≡ true → PutsTells x
puts_tells x m =
    let a = and_parts (not (is_read x.request) && has_more x.request.count x.progress) (not (has_failed x)) m in
    let b = and_parts (not (is_read x.request)) (has_more x.request.count x.progress) a.0 in
    record { no_read = not_true (is_read x.request) b.0; more = b.1; well = not_true (has_failed x) a.1 }

-- units are left exactly where fewer are moved than there are
pub less_moved : (count : ℕ) (p : Progress) → has_more count p ≡ true → moved_of p < count
less_moved count Pending h = absurd (true≢false (sym h))
less_moved count Blocked h = absurd (true≢false (sym h))
less_moved count (Busy w moved failed dropped) h = ltb-true moved count h

-- ---- the request at a place

pub all_here : (P : Unfinished → Type 0) (xs : List Unfinished) (k : ℕ) (x : Unfinished) → All P xs → slice_get xs k ≡ Some x → P x
all_here P xs k x all e = subst (λ (y : Unfinished). P y) (get_or_from_slice_get xs k x x e) (all k x (slice_get_within xs k x e))

pub request_here : (ram : Memory) (drive : Drive) (k : ℕ) (x : Unfinished) → IsDrive ram drive → slice_get drive.queue.requests k ≡ Some x → RequestFits ram drive x
request_here ram drive k x h e = all_here (RequestFits ram drive) drive.queue.requests k x h.requests e

-- the sector that comes next lies on the disk
pub sector_inside : (bytes : List ℕ) (x : Unfinished) → IsAsked (capacity_of bytes) x.request → is_flush x.request ≡ false → has_more x.request.count x.progress ≡ true
    → 512 * (x.request.start + moved_of x.progress) + 512 ≤ length bytes
sector_inside bytes x h e more =
    let inside : x.request.start + x.request.count ≤ length bytes / 512 = h.inside (not_flush x.request.kind e) in
    let less = less_moved x.request.count x.progress more in
    omega (arith, inside, less)

-- ---- the request for which an image is out

midway_tells : (p count : ℕ) (x : Progress) → is_midway p count x ≡ true → (has_more count x ≡ true) × (failed_of x ≡ false)
midway_tells p count Pending m = absurd (true≢false (sym m))
midway_tells p count Blocked m = absurd (true≢false (sym m))
midway_tells p count (Busy w moved failed dropped) m =
    let a = and_parts ((w == p) && nat_lt moved count) (not failed) m in
    ((and_parts (w == p) (nat_lt moved count) a.0).1, not_true failed a.1)

out_puts : (holder : Holder) (x : Unfinished) → is_out holder x ≡ true → ((x.id == holder.id) && puts x) ≡ true
out_puts holder x m =
    let a = and_parts ((x.id == holder.id) && not (is_read x.request)) (is_midway holder.by x.request.count x.progress) m in
    let b = and_parts (x.id == holder.id) (not (is_read x.request)) a.0 in
    let c = midway_tells holder.by x.request.count x.progress a.1 in
    puts_if (x.id == holder.id) (is_read x.request) (has_more x.request.count x.progress) (failed_of x.progress) b.0 b.1 c.0 c.1
  where
    puts_if : (i r m f : Bool) → i ≡ true → not r ≡ true → m ≡ true → f ≡ false → (i && (not r && m && not f)) ≡ true
    puts_if i r m f a b c e = grind (arith, common_steps)

pub any_weaker : (p q : Unfinished → Bool) (xs : List Unfinished) → ((x : Unfinished) → p x ≡ true → q x ≡ true) → list_any p xs ≡ true → list_any q xs ≡ true
any_weaker p q xs w h = list_any-from_Any q xs (weaker (Any-from_list_any p xs h))
  where
    weaker : Any (λ (x : Unfinished). p x ≡ true) xs → Any (λ (x : Unfinished). q x ≡ true) xs
    weaker a = (a.0, a.1, a.2, a.3, w a.1 a.4)

-- it is one that can be put
pub held_puts : (xs : List Unfinished) (p id : ℕ) (o : Option Holder) → is_holder p id o ≡ true → IsHeld xs o → list_any (λ (x : Unfinished). (x.id == id) && puts x) xs ≡ true
held_puts xs p id None m h = absurd (true≢false (sym m))
held_puts xs p id (Some holder) m h =
    let same : holder.id ≡ id = eqb-true holder.id id (and_parts (holder.by == p) (holder.id == id) m).1 in
    subst (λ (n : ℕ). list_any (λ (x : Unfinished). (x.id == n) && puts x) xs ≡ true) same (any_weaker (is_out holder) (λ (x : Unfinished). (x.id == holder.id) && puts x) xs (out_puts holder) h)

-- ---- a drive that changes twice

pub ruleset drive_steps = (get_or-set_same, set-set, length-set)
