-- After the end: what is needed falls with each entry of a worker.
use Rattle.std.proofs.Common.{◌≡◌, ℕ, ◌+◌, ◌<◌, ◌≤◌, Bool, true, false, not, cond, List, [], ◌∷◌, length, get_or, set, map, filter, refl, sym, ap, ◌∙◌, inl, inr, arith, Option, Some, None}
use Rattle.std.specs.Prelude.{◌&&◌, ◌==◌, is_none, nat_lt, if◌then◌else◌}
use Rattle.std.specs.List.{list_any}
use Rattle.std.proofs.Math.ListN.{length-set}
use Rattle.std.proofs.lemmas.List.{get_or-set_other, set_past}
use Rattle.std.proofs.lemmas.Bool.{cases_eq, cases_lt, and_parts, or_cases, or_left, or_right, true≢false}
use Rattle.std.proofs.lemmas.Bool.Decides.{nat_tests}
use Rattle.std.proofs.lemmas.Grind.{common_steps, get_or-set_at}
use Rattle.blk_queue.specs.declared.progress.Finished.{Finished}
use Rattle.blk_queue.specs.declared.progress.Progress.{Progress}
use Rattle.blk_queue.specs.declared.progress.Progress.TheVariants.{Pending, Blocked, Busy}
use Rattle.blk_queue.specs.declared.progress.Unfinished.{Unfinished}
use Rattle.blk_queue.specs.Progress.{is_busy, is_read, blocks, works, has_more, moves, ends, is_dropped, one_more, told}
use Rattle.blk_queue.specs.Queue.{request_of, stands_behind}
use Rattle.blk_queue.specs.Steps.{change_one, changed, with_progress, freed, without, left}
use Rattle.vm_state.specs.declared.cpu.Cpu.{Cpu}
use Rattle.vm_state.specs.declared.drive.Drive.{Drive}
use Rattle.vm_state.specs.declared.image.DiskImage.{DiskImage}
use Rattle.vm_state.specs.declared.image.Holder.{Holder}
use Rattle.vm_state.specs.Machine.{MachineState, cpu_at, cpu_count, drive_at, drive_count, with_drive, no_drive, unstarted_cpu}
use Rattle.vm_state.specs.Requests.{is_busy_by, has_worker}
use Rattle.vm_state.specs.Sound.{IsHeld, is_out, is_midway}
use Rattle.vm_state.specs.State.{State, image_at, no_image, with_image, with_machine}
use Rattle.vm_devices.specs.Windows.{with_window}
use Rattle.vm_disks.specs.Queueing.{with_queue}
use Rattle.vm_disks.specs.Moving.{may_move, after_move, read_in, moved_on, may_finish, after_finish, finished_as, told_driver}
use Rattle.vm_disks.specs.Images.{may_hold, after_hold, written_out, is_holder, may_put, after_put, come_back, request_put}
use Rattle.vm_laws.specs.Ending.{cpu_need, progress_need, request_need, requests_need, disk_need, need}
use Rattle.vm_laws.proofs.Heard.{Hears, hears_followed}
use Rattle.vm_laws.proofs.Accesses.{drive_set}
use Rattle.vm_laws.proofs.Needs.{at_disk, falls}

abbrev home : Option Holder → ℕ
home h = if is_none h then 1 else 0

-- what a worker's entry leaves of the vCPUs
pub record Rests (s t : State) : Type 0 where
  pub count : cpu_count t.machine ≡ cpu_count s.machine
  pub stage : (k : ℕ) → (cpu_at t.machine k).stage ≡ (cpu_at s.machine k).stage
  pub seats : t.seats ≡ s.seats
  pub meet : t.machine.meet ≡ s.machine.meet
  pub closed : t.closed ≡ s.closed

cpu_rests : (s t : State) → Rests s t → (k : ℕ) → cpu_need t k ≤ cpu_need s k
unfolding cpu_need
cpu_rests s t r k = rw (r.stage k, r.seats, r.meet) (omega arith)

-- the requests of disk d are others, and its image's holder, and both together need less
pub record Works (s t : State) (d : ℕ) (x : Drive) (y : DiskImage) : Type 0 where
  pub within : d < drive_count s.machine
  pub long : length s.images ≡ drive_count s.machine
  pub drives : drive_count t.machine ≡ drive_count s.machine
  pub queue : (k : ℕ) → (drive_at t.machine k).queue ≡ (drive_at (with_drive s.machine d x) k).queue
  pub holder : (k : ℕ) → (image_at t k).holder ≡ (image_at (with_image s d y) k).holder
  pub less : requests_need x.queue.requests + home y.holder < requests_need (drive_at s.machine d).queue.requests + home (image_at s d).holder

disk_at : (s t : State) (d : ℕ) (x : Drive) (y : DiskImage) → Works s t d x y → (k : ℕ) → disk_need t k ≤ disk_need s k
unfolding disk_need
disk_at s t d x y w k =
    let within = w.within in
    let long = w.long in
    let less = w.less in
    elim (cases_eq k d) [
      | inr other ↦ rw (w.queue k, w.holder k, get_or-set_other s.machine.drives d k x no_drive other, get_or-set_other s.images d k y no_image other) (omega arith)
      | inl same ↦ rw (w.queue k, w.holder k, get_or-set_at s.machine.drives d k x no_drive same within, get_or-set_at s.images d k y no_image same (omega (arith, within, long)), same) (omega (arith, less))
    ]

disk_less : (s t : State) (d : ℕ) (x : Drive) (y : DiskImage) → Works s t d x y → disk_need t d < disk_need s d
unfolding disk_need
disk_less s t d x y w =
    let within = w.within in
    let long = w.long in
    rw (w.queue d, w.holder d, get_or-set_at s.machine.drives d d x no_drive refl within, get_or-set_at s.images d d y no_image refl (omega (arith, within, long))) w.less

pub work_falls : (s t : State) (d : ℕ) (x : Drive) (y : DiskImage) → Rests s t → Works s t d x y → need t < need s
work_falls s t d x y r w =
    falls s t (record {
      count = r.count;
      drives = w.drives;
      cpu = cpu_rests s t r;
      disk = disk_at s t d x y w;
      shut = rw r.closed (omega arith);
    }) (at_disk d w.within (disk_less s t d x y w))

-- ---- requests that are moved on, and those that leave

more_le : (count : ℕ) (ok : Bool) (x : Progress) → progress_need count (one_more ok x) ≤ progress_need count x
more_le count ok Pending = omega arith
more_le count ok Blocked = omega arith
more_le count ok (Busy w moved failed dropped) = omega arith

rest_less : (count : ℕ) (ok : Bool) (x : Progress) → has_more count x ≡ true → progress_need count (one_more ok x) + 2 ≤ progress_need count x
rest_less count ok Pending h = absurd (true≢false (sym h))
rest_less count ok Blocked h = absurd (true≢false (sym h))
rest_less count ok (Busy w moved failed dropped) h = let l : moved < count = grind (arith, nat_tests, h) in omega (arith, l)

one_le : (ok : Bool) (x : Unfinished) (b : Bool) → request_need (if b then record x { progress = one_more ok x.progress } else x) ≤ request_need x
one_le ok x true = more_le x.request.count ok x.progress
one_le ok x false = omega arith

one_less : (ok : Bool) (x : Unfinished) (b : Bool) → b ≡ true → has_more x.request.count x.progress ≡ true → request_need (if b then record x { progress = one_more ok x.progress } else x) + 2 ≤ request_need x
one_less ok x true e h = rest_less x.request.count ok x.progress h
one_less ok x false e h = absurd (true≢false (sym e))

moved_le : (id : ℕ) (ok : Bool) (xs : List Unfinished) → requests_need (map (change_one id (one_more ok)) xs) ≤ requests_need xs
moved_le id ok [] = omega arith
moved_le id ok (x ∷ xs) = let a = moved_le id ok xs in let b = one_le ok x (x.id == id) in omega (arith, a, b)

moved_less : (id : ℕ) (ok : Bool) (xs : List Unfinished) → list_any (λ (x : Unfinished). (x.id == id) && has_more x.request.count x.progress) xs ≡ true → requests_need (map (change_one id (one_more ok)) xs) + 2 ≤ requests_need xs
moved_less id ok [] h = absurd (true≢false (sym h))
moved_less id ok (x ∷ xs) h =
    elim (or_cases ((x.id == id) && has_more x.request.count x.progress) _ h) [
      | inl here ↦ let t = and_parts (x.id == id) (has_more x.request.count x.progress) here in let a = moved_le id ok xs in let b = one_less ok x (x.id == id) t.0 t.1 in omega (arith, a, b)
      | inr later ↦ let a = moved_less id ok xs later in let b = one_le ok x (x.id == id) in omega (arith, a, b)
    ]

freed_at : (x : Unfinished) (p : Progress) → x.progress ≡ p → (b : Bool) → request_need (if blocks p && b then record x { progress = Pending } else x) ≡ request_need x
freed_at x Pending e b = refl
freed_at x Blocked e true = sym (ap (λ (p : Progress). progress_need x.request.count p) e)
freed_at x Blocked e false = refl
freed_at x (Busy w moved failed dropped) e b = refl

freed_need : (L : List Unfinished) (x : Unfinished) → request_need (freed L x) ≡ request_need x
unfolding freed
freed_need L x = freed_at x x.progress refl (stands_behind L x.request)

left_at : (L : List Unfinished) (x : Unfinished) (xs ys : List Unfinished) (b : Bool) → requests_need (map (freed L) ys) ≤ requests_need xs
    → requests_need (map (freed L) (cond (not b) (x ∷ ys) ys)) ≤ request_need x + requests_need xs
left_at L x xs ys true h = omega (arith, h)
left_at L x xs ys false h = let e = freed_need L x in omega (arith, h, e)

left_later : (L : List Unfinished) (x : Unfinished) (xs ys : List Unfinished) (b : Bool) → requests_need (map (freed L) ys) < requests_need xs
    → requests_need (map (freed L) (cond (not b) (x ∷ ys) ys)) < request_need x + requests_need xs
left_later L x xs ys true h = omega (arith, h)
left_later L x xs ys false h = let e = freed_need L x in omega (arith, h, e)

busy_some : (count : ℕ) (x : Progress) → works x ≡ true → 1 ≤ progress_need count x
busy_some count Pending h = absurd (true≢false (sym h))
busy_some count Blocked h = absurd (true≢false (sym h))
busy_some count (Busy w moved failed dropped) h = omega arith

left_here : (L : List Unfinished) (x : Unfinished) (xs ys : List Unfinished) (b : Bool) → b ≡ true → is_busy x ≡ true → requests_need (map (freed L) ys) ≤ requests_need xs
    → requests_need (map (freed L) (cond (not b) (x ∷ ys) ys)) < request_need x + requests_need xs
left_here L x xs ys true e h a = let b = busy_some x.request.count x.progress h in omega (arith, a, b)
left_here L x xs ys false e h a = absurd (true≢false (sym e))

left_le : (leaves : Unfinished → Bool) (L xs : List Unfinished) → requests_need (map (freed L) (filter (λ x. not (leaves x)) xs)) ≤ requests_need xs
left_le leaves L [] = omega arith
left_le leaves L (x ∷ xs) = left_at L x xs (filter (λ x. not (leaves x)) xs) (leaves x) (left_le leaves L xs)

pub left_less : (leaves : Unfinished → Bool) (L xs : List Unfinished) → list_any (λ (x : Unfinished). leaves x && is_busy x) xs ≡ true → requests_need (map (freed L) (filter (λ x. not (leaves x)) xs)) < requests_need xs
left_less leaves L [] h = absurd (true≢false (sym h))
left_less leaves L (x ∷ xs) h =
    elim (or_cases (leaves x && is_busy x) _ h) [
      | inl here ↦ let t = and_parts (leaves x) (is_busy x) here in left_here L x xs (filter (λ x. not (leaves x)) xs) (leaves x) t.0 t.1 (left_le leaves L xs)
      | inr later ↦ left_later L x xs (filter (λ x. not (leaves x)) xs) (leaves x) (left_less leaves L xs later)
    ]

-- a test that follows from another
pub any_from : (t u : Unfinished → Bool) (xs : List Unfinished) → ((x : Unfinished) → t x ≡ true → u x ≡ true) → list_any t xs ≡ true → list_any u xs ≡ true
any_from t u [] f h = h
any_from t u (x ∷ xs) f h = elim (or_cases (t x) (list_any t xs) h) [ inl a ↦ or_left _ _ (f x a) | inr b ↦ or_right _ _ (any_from t u xs f b) ]

abbrev HasRest : State → ℕ → ℕ → Type 0
HasRest s d id = list_any (λ (x : Unfinished). (x.id == id) && has_more x.request.count x.progress) (drive_at s.machine d).queue.requests ≡ true

two_less : (a b : ℕ) (x y : Bool) → a + 2 ≤ b → a + (if x then 1 else 0) < b + (if y then 1 else 0)
two_less a b true true h = omega arith
two_less a b true false h = omega arith
two_less a b false true h = omega arith
two_less a b false false h = omega arith

abbrev moved_drive : Drive → ℕ → Bool → Drive
moved_drive x id ok = record x { queue = with_progress x.queue id (one_more ok) }

moved_drive_less : (s : State) (d id : ℕ) (ok : Bool) (h : Option Holder) → HasRest s d id
    → requests_need (moved_drive (drive_at s.machine d) id ok).queue.requests + home h < requests_need (drive_at s.machine d).queue.requests + home (image_at s d).holder
unfolding changed
moved_drive_less s d id ok h r = two_less _ _ (is_none h) (is_none (image_at s d).holder) (moved_less id ok (drive_at s.machine d).queue.requests r)

same_holder : (s : State) (d : ℕ) (k : ℕ) → (image_at s k).holder ≡ (image_at (with_image s d (image_at s d)) k).holder
same_holder s d k =
    elim (cases_eq k d) [
      | inr other ↦ rw (get_or-set_other s.images d k (image_at s d) no_image other) refl
      | inl same ↦
          elim (cases_lt d (length s.images)) [
            | inl l ↦ rw (get_or-set_at s.images d k (image_at s d) no_image same l, same) refl
            | inr past ↦ rw (set_past s.images d (image_at s d) past) refl
          ]
    ]

-- ---- Move

move_tells : (s : State) (p d id : ℕ) → may_move s p d id ≡ true → (d < drive_count s.machine) × (list_any (λ (x : Unfinished). (x.id == id) && (is_busy_by p x && moves x)) (drive_at s.machine d).queue.requests ≡ true)
unfolding may_move
move_tells s p d id m = (grind (arith, nat_tests, common_steps, and_parts), grind (arith, nat_tests, common_steps, and_parts))

move_rest : (p id : ℕ) (x : Unfinished) → ((x.id == id) && (is_busy_by p x && moves x)) ≡ true → ((x.id == id) && has_more x.request.count x.progress) ≡ true
move_rest p id x h =
    let a = and_parts (x.id == id) _ h in
    let b = and_parts (is_busy_by p x) (moves x) a.1 in
    let c = and_parts (is_read x.request && has_more x.request.count x.progress) (not (is_dropped x)) b.1 in
    let e = and_parts (is_read x.request) (has_more x.request.count x.progress) c.0 in
    rw (a.0, e.1) refl

record SameBut (m n : MachineState) : Type 0 where
  pub cpus : n.cpus ≡ m.cpus
  pub drives : n.drives ≡ m.drives
  pub meet : n.meet ≡ m.meet

read_in_same : (m : MachineState) (d : ℕ) (o : ℕ) → SameBut m (read_in m d o)
read_in_same m d o = record { cpus = refl; drives = refl; meet = refl }

move_as : (s : State) (d id : ℕ) (n : MachineState) → SameBut s.machine n → length s.images ≡ drive_count s.machine → d < drive_count s.machine → HasRest s d id → need (with_machine s (moved_on n d id true)) < need s
move_as s d id n e long l h =
    let at : drive_at n d ≡ drive_at s.machine d = ap (λ (ds : List Drive). get_or ds d no_drive) e.drives in
    work_falls s _ d (moved_drive (drive_at s.machine d) id true) (image_at s d)
    (record { count = ap (λ (cs : List Cpu). length cs) e.cpus; stage = λ k. ap (λ (cs : List Cpu). (get_or cs k (unstarted_cpu k)).stage) e.cpus; seats = refl; meet = e.meet; closed = refl })
    (record {
      within = l;
      long = long;
      drives = length-set n.drives d _ ∙ ap (λ (ds : List Drive). length ds) e.drives;
      queue = λ k. ap (λ (ds : List Drive). (get_or (set ds d (moved_drive (get_or ds d no_drive) id true)) k no_drive).queue) e.drives;
      holder = same_holder s d;
      less = moved_drive_less s d id true (image_at s d).holder h;
    })

pub move_falls : (s : State) (p d id : ℕ) → length s.images ≡ drive_count s.machine → may_move s p d id ≡ true → need (after_move s d id) < need s
unfolding after_move
move_falls s p d id long m =
    let t = move_tells s p d id m in
    move_as s d id _ (read_in_same s.machine d id) long t.0 (any_from _ _ (drive_at s.machine d).queue.requests (λ x h. move_rest p id x h) t.1)

-- ---- Hold

hold_tells : (s : State) (p d id : ℕ) → may_hold s p d id ≡ true → (d < drive_count s.machine) × (is_none (image_at s d).holder ≡ true)
unfolding may_hold
hold_tells s p d id m = (grind (arith, nat_tests, common_steps, and_parts), grind (arith, nat_tests, common_steps, and_parts))

record SameQueues (m n : MachineState) : Type 0 where
  pub cpus : n.cpus ≡ m.cpus
  pub count : drive_count n ≡ drive_count m
  pub queue : (k : ℕ) → (drive_at n k).queue ≡ (drive_at m k).queue
  pub meet : n.meet ≡ m.meet

written_if : (m : MachineState) (d : ℕ) (x : Drive) (b : Bool) → x.queue ≡ (drive_at m d).queue → SameQueues m (if b then m else with_drive m d x)
written_if m d x true e = record { cpus = refl; count = refl; queue = λ k. refl; meet = refl }
written_if m d x false e = record { cpus = refl; count = length-set m.drives d x; queue = drive_set (λ a b. b.queue ≡ a.queue) m d x (λ k. refl) e; meet = refl }

written_out_same : (m : MachineState) (d : ℕ) (o : ℕ) → SameQueues m (written_out m d o)
written_out_same m d o = written_if m d _ false refl

one_home : (a : ℕ) (x : Holder) (h : Option Holder) → is_none h ≡ true → a + home (Some x) < a + home h
one_home a x h e = rw e (omega arith)

same_queue : (m : MachineState) (d k : ℕ) → (drive_at m k).queue ≡ (drive_at (with_drive m d (drive_at m d)) k).queue
same_queue m d k = sym (drive_set (λ a b. b.queue ≡ a.queue) m d (drive_at m d) (λ k. refl) refl k)

hold_as : (s : State) (p d id : ℕ) (n : MachineState) → SameQueues s.machine n → length s.images ≡ drive_count s.machine → d < drive_count s.machine → is_none (image_at s d).holder ≡ true
    → need (with_image (with_machine s n) d (record (image_at s d) { holder = Some (record { by = p; id = id }) })) < need s
hold_as s p d id n e long l h =
    work_falls s _ d (drive_at s.machine d) (record (image_at s d) { holder = Some (record { by = p; id = id }) })
    (record { count = ap (λ (cs : List Cpu). length cs) e.cpus; stage = λ k. ap (λ (cs : List Cpu). (get_or cs k (unstarted_cpu k)).stage) e.cpus; seats = refl; meet = e.meet; closed = refl })
    (record {
      within = l;
      long = long;
      drives = e.count;
      queue = λ k. e.queue k ∙ same_queue s.machine d k;
      holder = λ k. refl;
      less = one_home _ (record { by = p; id = id }) (image_at s d).holder h;
    })

pub hold_falls : (s : State) (p d id : ℕ) → length s.images ≡ drive_count s.machine → may_hold s p d id ≡ true → need (after_hold s p d id) < need s
unfolding after_hold
hold_falls s p d id long m = let t = hold_tells s p d id m in hold_as s p d id _ (written_out_same s.machine d id) long t.0 t.1

-- ---- Put

put_tells : (s : State) (p d id : ℕ) → may_put s p d id ≡ true → (d < drive_count s.machine) × (is_holder p id (image_at s d).holder ≡ true)
unfolding may_put
put_tells s p d id m = (grind (arith, nat_tests, common_steps, and_parts), grind (arith, nat_tests, common_steps, and_parts))

midway_rest : (p count : ℕ) (x : Progress) → is_midway p count x ≡ true → has_more count x ≡ true
midway_rest p count Pending h = h
midway_rest p count Blocked h = h
midway_rest p count (Busy w moved failed dropped) h = (and_parts (w == p) (nat_lt moved count) (and_parts ((w == p) && nat_lt moved count) (not failed) h).0).1

out_rest : (id : ℕ) (h : Holder) (x : Unfinished) → (h.id == id) ≡ true → is_out h x ≡ true → ((x.id == id) && has_more x.request.count x.progress) ≡ true
out_rest id h x e o =
    let a = and_parts ((x.id == h.id) && not (is_read x.request)) (is_midway h.by x.request.count x.progress) o in
    let b = and_parts (x.id == h.id) (not (is_read x.request)) a.0 in
    let c : (x.id == id) ≡ true = grind (arith, nat_tests, b.0, e) in
    rw (c, midway_rest h.by x.request.count x.progress a.1) refl

holder_rest : (p id : ℕ) (xs : List Unfinished) (o : Option Holder) → is_holder p id o ≡ true → IsHeld xs o → list_any (λ (x : Unfinished). (x.id == id) && has_more x.request.count x.progress) xs ≡ true
holder_rest p id xs None h k = absurd (true≢false (sym h))
holder_rest p id xs (Some y) h k = let t = and_parts (y.by == p) (y.id == id) h in any_from (is_out y) _ xs (λ x a. out_rest id y x t.1 a) k

pub put_falls : (s : State) (p d id : ℕ) (ok : Bool) → length s.images ≡ drive_count s.machine → (d < drive_count s.machine → IsHeld (drive_at s.machine d).queue.requests (image_at s d).holder) → may_put s p d id ≡ true → need (after_put s d id ok) < need s
unfolding after_put
put_falls s p d id ok long held m =
    let t = put_tells s p d id m in
    let r = holder_rest p id (drive_at s.machine d).queue.requests (image_at s d).holder t.1 (held t.0) in
    let y = come_back (request_put (image_at s d) (drive_at s.machine d).bytes (request_of (drive_at s.machine d).queue id) ok) in
    work_falls s _ d (moved_drive (drive_at s.machine d) id ok) y
    (record { count = refl; stage = λ k. refl; seats = refl; meet = refl; closed = refl })
    (record { within = t.0; long = long; drives = length-set s.machine.drives d _; queue = λ k. refl; holder = λ k. refl; less = moved_drive_less s d id ok None r })

-- ---- Finish

finish_tells : (s : State) (p d id : ℕ) → may_finish s p d id ≡ true → (d < drive_count s.machine) × (list_any (λ (x : Unfinished). (x.id == id) && (is_busy_by p x && ends x)) (drive_at s.machine d).queue.requests ≡ true)
unfolding may_finish
finish_tells s p d id m = (grind (arith, nat_tests, common_steps, and_parts), grind (arith, nat_tests, common_steps, and_parts))

works_if : (p : ℕ) (x : Progress) → has_worker p x ≡ true → works x ≡ true
works_if p Pending h = h
works_if p Blocked h = h
works_if p (Busy w moved failed dropped) h = refl

finish_busy : (p id : ℕ) (x : Unfinished) → ((x.id == id) && (is_busy_by p x && ends x)) ≡ true → ((x.id == id) && is_busy x) ≡ true
finish_busy p id x h =
    let a = and_parts (x.id == id) _ h in
    let b = and_parts (is_busy_by p x) (ends x) a.1 in
    rw (a.0, works_if p x.progress b.0) refl

record Told (m n : MachineState) : Type 0 where
  pub count : cpu_count n ≡ cpu_count m
  pub stage : (k : ℕ) → (cpu_at n k).stage ≡ (cpu_at m k).stage
  pub drives : drive_count n ≡ drive_count m
  pub queue : (k : ℕ) → (drive_at n k).queue ≡ (drive_at m k).queue
  pub meet : n.meet ≡ m.meet

told_by : (m u : MachineState) (d : ℕ) (x : Drive) (n : MachineState) → u.cpus ≡ m.cpus → u.drives ≡ m.drives → u.meet ≡ m.meet → x.queue ≡ (drive_at u d).queue → Hears (with_drive u d x) n → Told m n
told_by m u d x n c e f q h = record {
  count = h.count ∙ ap (λ (cs : List Cpu). length cs) c;
  stage = λ k. (h.each k).stage ∙ ap (λ (cs : List Cpu). (get_or cs k (unstarted_cpu k)).stage) c;
  drives = ap (λ (ds : List Drive). length ds) h.drives ∙ length-set u.drives d x ∙ ap (λ (ds : List Drive). length ds) e;
  queue = λ k. ap (λ (ds : List Drive). (get_or ds k no_drive).queue) h.drives ∙ drive_set (λ a b. b.queue ≡ a.queue) u d x (λ k. refl) q k ∙ ap (λ (ds : List Drive). (get_or ds k no_drive).queue) e;
  meet = h.meet ∙ f;
}

-- what telling the driver leaves
told_rests : (m : MachineState) (d : ℕ) (x : Finished) → Told m (told_driver m d x)
unfolding told_driver with_window
told_rests m d x = told_by m (record m { ram = _ }) d _ _ refl refl refl refl (hears_followed _ _ _ _)

told_if : (m : MachineState) (d : ℕ) (x : Finished) (b : Bool) → Told m (if b then m else told_driver m d x)
told_if m d x true = record { count = refl; stage = λ k. refl; drives = refl; queue = λ k. refl; meet = refl }
told_if m d x false = told_rests m d x

finished_rests : (m : MachineState) (d : ℕ) (o : Option Unfinished) → Told m (finished_as m d o)
finished_rests m d None = record { count = refl; stage = λ k. refl; drives = refl; queue = λ k. refl; meet = refl }
finished_rests m d (Some x) = told_if m d (told x) (told x).silent

abbrev left_drive : Drive → ℕ → Drive
left_drive x id = record x { queue = left x.queue id }

left_drive_less : (s : State) (d id : ℕ) (y : DiskImage) → y.holder ≡ (image_at s d).holder → list_any (λ (x : Unfinished). (x.id == id) && is_busy x) (drive_at s.machine d).queue.requests ≡ true
    → requests_need (left_drive (drive_at s.machine d) id).queue.requests + home y.holder < requests_need (drive_at s.machine d).queue.requests + home (image_at s d).holder
unfolding left without
left_drive_less s d id y e h =
    let xs = (drive_at s.machine d).queue.requests in
    let a = left_less (λ x. x.id == id) (filter (λ (x : Unfinished). x.id == id) xs) xs h in
    rw e (omega (arith, a))

pub finish_falls : (s : State) (p d id : ℕ) → length s.images ≡ drive_count s.machine → may_finish s p d id ≡ true → need (after_finish s d id) < need s
unfolding after_finish
finish_falls s p d id long m =
    let t = finish_tells s p d id m in
    let busy = any_from _ _ (drive_at s.machine d).queue.requests (λ x h. finish_busy p id x h) t.1 in
    let n = with_queue s.machine d (left (drive_at s.machine d).queue id) in
    let k = finished_rests n d (request_of (drive_at s.machine d).queue id) in
    let y = record (image_at s d) { finished = (image_at s d).finished + 1 } in
    work_falls s _ d (left_drive (drive_at s.machine d) id) y
    (record { count = k.count; stage = k.stage; seats = refl; meet = k.meet; closed = refl })
    (record { within = t.0; long = long; drives = k.drives ∙ length-set s.machine.drives d _; queue = k.queue; holder = λ j. refl; less = left_drive_less s d id y refl busy })
