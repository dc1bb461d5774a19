-- An unfinished request has as many units moved as entries of the history moved one.
use Rattle.std.proofs.Common.{◌≡◌, ℕ, zero, suc, ◌+◌, ◌≤◌, Bool, true, false, not, cond, List, [], ◌∷◌, ◌++◌, length, map, get_or, refl, sym, ap, subst, ◌∙◌, inl, inr, arith, Option, Some, None}
use Rattle.std.specs.Prelude.{◌==◌, if◌then◌else◌}
use Rattle.std.specs.List.{list_any, find, range_with_len}
use Rattle.std.proofs.lemmas.List.{get_or_past}
use Rattle.std.proofs.lemmas.Bool.{cases_Bool, cases_lt, and_parts, or_parts, true≢false}
use Rattle.std.proofs.lemmas.Bool.Decides.{nat_tests}
use Rattle.vm_law.specs.declared.block.Request.{Request}
use Rattle.vm_law.specs.declared.journal.Entry.{Entry}
use Rattle.vm_law.specs.declared.journal.Entry.TheVariants.{Pull, Move, Put}
use Rattle.vm_law.specs.declared.journal.Signed.{Signed}
use Rattle.vm_law.specs.declared.plan.DiskPlan.{DiskPlan}
use Rattle.vm_vblk.specs.Queue as vblk
use Rattle.vm_vblk.specs.declared.pulled.Pulled.{Pulled}
use Rattle.vm_vblk.specs.declared.pulled.Pulled.TheVariants as pulled
use Rattle.blk_queue.specs.declared.progress.Progress.{Progress}
use Rattle.blk_queue.specs.declared.progress.Progress.TheVariants.{Pending, Blocked, Busy}
use Rattle.blk_queue.specs.declared.progress.Unfinished.{Unfinished}
use Rattle.blk_queue.specs.Progress.{is_busy, moved_of, works}
use Rattle.blk_queue.specs.Queue.{Queue, has_request, request_of, stands_behind}
use Rattle.blk_queue.specs.Steps.{empty, joined}
use Rattle.vm_state.specs.declared.drive.Drive.{Drive}
use Rattle.vm_state.specs.declared.start.Origin.{Origin}
use Rattle.vm_state.specs.declared.start.Origin.TheVariants.{Flat, Saved}
use Rattle.vm_state.specs.declared.start.Start as start_type
use Rattle.vm_state.specs.Machine.{MachineState, drive_at, drive_count, with_drive, no_drive}
use Rattle.vm_state.specs.Requests.{none_busy}
use Rattle.vm_state.specs.Sound.{IsSoundState}
use Rattle.vm_state.specs.Start.{IsSound, OriginFits, boot, boot_machine, planned_drive}
use Rattle.vm_state.specs.State.{State}
use Rattle.vm_state.proofs.Sound.{boot_is_sound}
use Rattle.vm_devices.specs.Windows.{with_window}
use Rattle.vm_disks.specs.Queueing.{may_pull, queue_with, pulled_in, after_pull}
use Rattle.vm_table.proofs.Keeps.{after_keeps as keeps}
use Rattle.vm_table.specs.History.{after_all, is_lawful_all, IsLegal, last_state}
use Rattle.vm_table.specs.Table.{allowed, lawful, effect, counted, after}
use Rattle.vm_laws.specs.Counting.{count_of, one_if}
use Rattle.vm_laws.specs.Entries.{is_unit_of, is_work_on}
use Rattle.vm_laws.specs.Requests.{queue_of, takes_in, moved_in}
use Rattle.vm_laws.proofs.Lists.{clash, all_at}
use Rattle.vm_laws.proofs.Heard.{hears_followed}
use Rattle.vm_laws.proofs.Cutting.{boot_is}
use Rattle.vm_laws.proofs.Queues.{id_below}
use Rattle.vm_laws.proofs.Serving.{known, drive_case, at_drives, pull_tells, after_step_of}
use Rattle.vm_laws.proofs.Units.{after_unit}

abbrev named : ℕ → Unfinished → Bool
named id x = x.id == id

-- ---- nothing of a request that isn't there, or that joins, was moved

zero_at : (y : Unfinished) (o : Option Unfinished) (b : Bool) → b ≡ false → moved_in o ≡ 0 → moved_in (cond b (Some y) o) ≡ 0
zero_at y o true e h = absurd (true≢false e)
zero_at y o false e h = h

joined_at : (id n : ℕ) (r : Request) (b c : Bool) → moved_in (cond c (Some (record { id = n; request = r; progress = if b then Blocked else Pending })) None) ≡ 0
joined_at id n r true true = refl
joined_at id n r false true = refl
joined_at id n r b false = refl

absent_moved : (id : ℕ) (xs : List Unfinished) → list_any (named id) xs ≡ false → moved_in (find (named id) xs) ≡ 0
absent_moved id [] h = refl
absent_moved id (y ∷ ys) h = let t = or_parts (y.id == id) (list_any (named id) ys) h in zero_at y (find (named id) ys) (y.id == id) t.0 (absent_moved id ys t.1)

joins_moved : (id n : ℕ) (r : Request) (b : Bool) (xs : List Unfinished) → list_any (named id) xs ≡ false → moved_in (find (named id) (xs ++ record { id = n; request = r; progress = if b then Blocked else Pending } ∷ [])) ≡ 0
joins_moved id n r b [] h = joined_at id n r b (n == id)
joins_moved id n r b (y ∷ ys) h = let t = or_parts (y.id == id) (list_any (named id) ys) h in zero_at y _ (y.id == id) t.0 (joins_moved id n r b ys t.1)

abbrev Fresh : Queue → Queue → ℕ → Type 0
Fresh q r id = has_request q id ≡ false → moved_in (request_of r id) ≡ 0

fresh_same : (q : Queue) (id : ℕ) → Fresh q q id
fresh_same q id = λ h. absent_moved id q.requests h

fresh_joined : (q : Queue) (r : Request) (id : ℕ) → Fresh q (joined q r) id
unfolding joined
fresh_joined q r id = λ h. joins_moved id q.next r (stands_behind q.requests r) q.requests h

fresh_pulled : (q : Queue) (a : Pulled) (id : ℕ) → Fresh q (queue_with q a) id
fresh_pulled q (pulled.Request r) id = fresh_joined q r id
fresh_pulled q pulled.Answered id = fresh_same q id
fresh_pulled q pulled.Broken id = fresh_same q id

pull_fresh : (s : State) (p c d id : ℕ) → may_pull s p c ≡ true → Fresh (queue_of s.machine d) (queue_of (after_pull s c).machine d) id
unfolding after_pull pulled_in with_window
pull_fresh s p c d id m =
    let x = vblk.pull_of s.machine.ram (drive_at s.machine c).window in
    let y : Drive = record (drive_at s.machine c) { window = x.window; queue = queue_with (drive_at s.machine c).queue x.answer } in
    let u = with_drive (record s.machine { ram = x.memory }) c y in
    let h = hears_followed u _ _ _ in
    at_drives (λ z. Fresh (queue_of s.machine d) z.queue id) u.drives _ d h.drives
    (drive_case (λ z. Fresh (queue_of s.machine d) z.queue id) (record s.machine { ram = x.memory }) c d y (pull_tells s p c m)
    (λ e. subst (λ n. Fresh (queue_of s.machine d) (queue_with (queue_of s.machine n) x.answer) id) (sym e) (fresh_pulled (queue_of s.machine d) x.answer id)) (λ ne. fresh_same (queue_of s.machine d) id))

effect_fresh : (s : State) (p : ℕ) (e : Entry) (d id : ℕ) → allowed s p e ≡ true → takes_in s d e ≡ true → Fresh (queue_of s.machine d) (queue_of (effect s p e).machine d) id
unfolding allowed effect
effect_fresh s p (Pull c) d id m t = pull_fresh s p c d id m
effect_fresh s p e d id m t = absurd (true≢false (sym t))

after_fresh : (s : State) (x : Signed) (d id : ℕ) → lawful s x.by x.entry ≡ true → takes_in s d x.entry ≡ true → Fresh (queue_of s.machine d) (queue_of (after s x).machine d) id
unfolding after counted lawful
after_fresh s x d id m t = effect_fresh s x.by x.entry d id (and_parts (not s.closed) (allowed s x.by x.entry) m).1 t

-- ---- a unit is work

unit_works : (d id : ℕ) (e : Entry) → is_unit_of d id e ≡ true → is_work_on d id e ≡ true
unit_works d id (Move c n) h = h
unit_works d id (Put c n ok) h = h
unit_works d id e h = absurd (true≢false (sym h))

not_if : (b : Bool) → (b ≡ true → ⊥) → b ≡ false
not_if true h = absurd (h refl)
not_if false h = refl

-- ---- histories

module _ (d id : ℕ) where
  abbrev moved_at : State → ℕ
  moved_at s = moved_in (request_of (queue_of s.machine d) id)

  abbrev is_there : State → Bool
  is_there s = has_request (queue_of s.machine d) id

  -- after one entry
  one_there : (s : State) (x : Signed) (u : ℕ) → IsSoundState s → lawful s x.by x.entry ≡ true → (is_there s ≡ true → moved_at s ≡ u) → ((queue_of s.machine d).next ≤ id → u ≡ 0) → is_there (after s x) ≡ true
      → moved_at (after s x) ≡ u + one_if (is_unit_of d id x.entry)
  one_there s x u h m f z g =
      let k = after_step_of s x d id (known s h) m in
      elim (cases_Bool (is_there s)) [
        | inl y ↦ let a = after_unit s x d id (known s h) m y g in let b = f y in omega (arith, a, b)
        | inr n ↦ elim (k.old g) [
          | inl y ↦ absurd (clash (is_there s) y n)
          | inr y ↦
              let a = after_fresh s x d id m y.0 n in
              let e : (queue_of s.machine d).next ≡ id = grind (arith, nat_tests, y.1) in
              let b = z (omega (arith, e)) in
              let w : one_if (is_unit_of d id x.entry) ≡ 0 = ap one_if (not_if (is_unit_of d id x.entry) (λ t. clash (is_there s) (k.worked (unit_works d id x.entry t)) n)) in
              omega (arith, a, b, w)
        ]
      ]

  one_absent : (s : State) (x : Signed) (u : ℕ) → IsSoundState s → lawful s x.by x.entry ≡ true → ((queue_of s.machine d).next ≤ id → u ≡ 0) → (queue_of (after s x).machine d).next ≤ id → u + one_if (is_unit_of d id x.entry) ≡ 0
  one_absent s x u h m z l =
      let k = after_step_of s x d id (known s h) m in
      let n = k.next in
      let below : (queue_of s.machine d).next ≤ id = omega (arith, n, l) in
      let b = z below in
      let w : one_if (is_unit_of d id x.entry) ≡ 0 = ap one_if (not_if (is_unit_of d id x.entry) (λ t. let y = id_below (queue_of s.machine d) id ((known s h).queues d) (k.worked (unit_works d id x.entry t)) in absurd (omega (arith, y, below)))) in
      omega (arith, b, w)

  counted_from : (s : State) (xs : List Signed) (u : ℕ) → IsSoundState s → is_lawful_all s xs ≡ true → (is_there s ≡ true → moved_at s ≡ u) → ((queue_of s.machine d).next ≤ id → u ≡ 0) → is_there (after_all s xs) ≡ true
      → moved_at (after_all s xs) ≡ u + count_of (λ s x. is_unit_of d id x.entry) s xs
  counted_from s [] u h m f z g = let a = f g in omega (arith, a)
  counted_from s (x ∷ xs) u h m f z g =
      let t = and_parts (lawful s x.by x.entry) _ m in
      let r = counted_from (after s x) xs (u + one_if (is_unit_of d id x.entry)) (keeps s x h t.0) t.1 (λ y. one_there s x u h t.0 f z y) (λ l. one_absent s x u h t.0 z l) g in
      omega (arith, r)

-- ---- the first state: no request is busy

idle_moved : (p : Progress) → works p ≡ false → moved_of p ≡ 0
idle_moved Pending h = refl
idle_moved Blocked h = refl
idle_moved (Busy w moved failed gone) h = absurd (true≢false h)

first_at : (y : Unfinished) (o : Option Unfinished) (b : Bool) → moved_of y.progress ≡ 0 → moved_in o ≡ 0 → moved_in (cond b (Some y) o) ≡ 0
first_at y o true e h = e
first_at y o false e h = h

rest_moved : (p : Unfinished → Bool) (xs : List Unfinished) → list_any is_busy xs ≡ false → moved_in (find p xs) ≡ 0
rest_moved p [] h = refl
rest_moved p (y ∷ ys) h = let t = or_parts (is_busy y) (list_any is_busy ys) h in first_at y (find p ys) (p y) (idle_moved y.progress t.0) (rest_moved p ys t.1)

empty_at : no_drive.queue ≡ empty 0
unfolding no_drive
empty_at = refl

past_moved : (ds : List Drive) (d id : ℕ) → length ds ≤ d → moved_in (request_of (get_or ds d no_drive).queue id) ≡ 0
past_moved ds d id past = ap (λ (x : Drive). moved_in (request_of x.queue id)) (get_or_past ds d no_drive past) ∙ ap (λ q. moved_in (request_of q id)) empty_at

not_true : (b : Bool) → not b ≡ true → b ≡ false
not_true true h = absurd (true≢false (sym h))
not_true false h = refl

saved_moved : (m : MachineState) (d id : ℕ) → none_busy m ≡ true → moved_in (request_of (queue_of m d) id) ≡ 0
saved_moved m d id h =
    elim (cases_lt d (drive_count m)) [
      | inl l ↦ rest_moved (λ (x : Unfinished). x.id == id) (drive_at m d).queue.requests (not_true (list_any is_busy (drive_at m d).queue.requests) (all_at (λ (x : Drive). not (list_any is_busy x.queue.requests)) no_drive m.drives h d l))
      | inr past ↦ past_moved m.drives d id past
    ]

flat_moved : (plans : List DiskPlan) (disks : List (List ℕ)) (ks : List ℕ) (d id : ℕ) → moved_in (request_of (get_or (map (planned_drive plans disks) ks) d no_drive).queue id) ≡ 0
flat_moved plans disks [] d id = ap (λ q. moved_in (request_of q id)) empty_at
flat_moved plans disks (k ∷ ks) zero id = refl
flat_moved plans disks (k ∷ ks) (suc d) id = flat_moved plans disks ks d id

origin_moved : (start : start_type.Start) (o : Origin) (d id : ℕ) → OriginFits start.plan start.disks o → moved_in (request_of (queue_of (boot_machine start.plan start.disks o) d) id) ≡ 0
origin_moved start (Flat image) d id f = flat_moved start.plan.disks start.disks (range_with_len 0 (length start.plan.disks)) d id
origin_moved start (Saved m) d id f = saved_moved m.state d id f.at_rest

boot_moved : (start : start_type.Start) (d id : ℕ) → IsSound start → moved_in (request_of (queue_of (boot start).machine d) id) ≡ 0
boot_moved start d id h = ap (λ m. moved_in (request_of (queue_of m d) id)) (boot_is start) ∙ origin_moved start start.origin d id h.origin

pub units_counted : (start : start_type.Start) (history : List Signed) (d id : ℕ) → IsSound start → IsLegal start history
    → has_request (queue_of (last_state start history).machine d) id ≡ true
    → moved_in (request_of (queue_of (last_state start history).machine d) id) ≡ count_of (λ s x. is_unit_of d id x.entry) (boot start) history
units_counted start history d id sound legal g =
    let r = counted_from d id (boot start) history 0 (boot_is_sound start sound) legal (λ y. boot_moved start d id sound) (λ l. refl) g in
    omega (arith, r)
