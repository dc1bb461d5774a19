-- Two rounds of a run that isn't closed add an entry.
use Rattle.std.specs.Prelude.{Option, Some, None, ◌==◌, ◌&&◌, ◌||◌, nat_lt, if◌then◌else◌, is_none, is_some, find, slice_index}
use Rattle.std.specs.List.{All, list_all, list_any}
use Rattle.std.specs.Option.{option_to_list, option_map}
use Rattle.std.proofs.Common.{◌≡◌, ℕ, zero, suc, ◌+◌, ◌<◌, ◌≤◌, Bool, true, false, not, List, [], ◌∷◌, ◌++◌, length, cond, get_or, append_assoc, refl, sym, ap, subst, ◌∙◌, inl, inr, arith}
use Rattle.std.proofs.lemmas.Bool.{and_parts, cases_Bool, true≢false, lt-ltb}
use Rattle.std.proofs.lemmas.Bool.Decides.{nat_tests}
use Rattle.std.proofs.lemmas.Grind.{common_steps}
use Rattle.std.proofs.lemmas.List.Sums.{sum_by_more, sum_by-take-le}
use Rattle.vm_law.specs.declared.journal.Entry.{Entry}
use Rattle.vm_law.specs.declared.journal.Signed.{Signed}
use Rattle.blk_queue.specs.declared.progress.Progress.{Progress}
use Rattle.blk_queue.specs.declared.progress.Progress.TheVariants.{Pending, Blocked, Busy}
use Rattle.blk_queue.specs.declared.progress.Unfinished.{Unfinished}
use Rattle.x86_fetch.specs.Slices.{all_local}
use Rattle.vm_state.specs.declared.drive.Drive.{Drive}
use Rattle.vm_state.specs.declared.image.DiskImage.{DiskImage}
use Rattle.vm_state.specs.declared.image.Holder.{Holder}
use Rattle.vm_state.specs.Machine.{MachineState, code_of, cpu_at, cpu_count, drive_at, drive_count, drive_numbers, is_running, no_drive}
use Rattle.vm_state.specs.Requests.{first_worker, pass_count}
use Rattle.vm_state.specs.Sound.{IsHeld, WorkerFits, is_midway, is_out}
use Rattle.vm_state.specs.State.{State, image_at, no_image, none_held, seat_at}
use Rattle.vm_owners.specs.Owners.{may_exit}
use Rattle.vm_running.specs.Slice.{has_slice, may_slice}
use Rattle.vm_table.specs.History.{after_all}
use Rattle.vm_table.specs.Rounds.{Lease, Rounds, after_passes, after_round, answer_at, held_by, is_its, is_kept, lease_at, lease_back, lease_of, leases, no_lease, put_back, put_for, run_outside, slice_back}
use Rattle.vm_table.specs.Turns.{first_lawful, is_exit_due}
use Rattle.vm_rounds.proofs.Leasing.{within_cpus}
use Rattle.vm_laws.proofs.Lists.{is_below}
use Rattle.vm_rounds.proofs.Looking.{some_most}
use Rattle.vm_laws.proofs.Rests.{RunnerRests, runner_rests}
use Rattle.vm_laws.proofs.Stuck.{never_stuck}
use Rattle.vm_rounds.proofs.Walking.{AreGood, after_append, good_append}
use Rattle.vm_rounds.proofs.Passing.{Fine}
use Rattle.vm_rounds.proofs.Passes.{Quiet, Stand, both_none, passes_go}

-- ---- nothing was chosen

none_chosen : (o : Option Entry) (f : Entry → Signed) → option_to_list (option_map f o) ≡ [] → o ≡ None
none_chosen None f h = refl
none_chosen (Some e) f h = absurd (cc)

-- ---- a vCPU that may have a Slice has it out, and it comes back

record SliceTells (s : State) (i : ℕ) : Type 0 where
  running : is_running (cpu_at s.machine i).stage (1 + i) ≡ true
  awake : (cpu_at s.machine i).halted ≡ false
  left : 0 < (seat_at s i).left
  local : all_local (code_of s.machine) (cpu_at s.machine i).ctx 1 ≡ true

slice_tells : (s : State) (i : ℕ) → may_slice s (1 + i) i 1 ≡ true → SliceTells s i
unfolding may_slice has_slice
slice_tells s i m = record {
  running = grind (arith, nat_tests, common_steps, and_parts);
  awake = grind (arith, nat_tests, common_steps, and_parts);
  left = grind (arith, nat_tests, common_steps, and_parts);
  local = (and_parts _ _ m).1;
}

due_exits : (s : State) (i : ℕ) → i < cpu_count s.machine → SliceTells s i → is_exit_due s i ≡ true → may_exit s (1 + i) i ≡ true
unfolding is_exit_due may_exit
due_exits s i l t d =
    let r = t.running in
    let a = t.awake in
    let z : ((seat_at s i).left == 0) ≡ false = (let m = t.left in grind (arith, nat_tests)) in
    let c : nat_lt i (cpu_count s.machine) ≡ true = lt-ltb i (cpu_count s.machine) l in
    grind (arith, common_steps)

not_due : (s : State) (i : ℕ) → i < cpu_count s.machine → SliceTells s i → RunnerRests s i → is_exit_due s i ≡ false
not_due s i l t r =
    elim (cases_Bool (is_exit_due s i)) [
      | inr f ↦ f
      | inl d ↦ absurd (true≢false (sym (due_exits s i l t d) ∙ r.exit d))
    ]

all_kept : (xs : List ℕ) (versions : List ℕ) → list_all (λ page. slice_index versions page == slice_index versions page) xs ≡ true
all_kept [] versions = refl
all_kept (x ∷ xs) versions = let z : (slice_index versions x == slice_index versions x) ≡ true = grind (arith, nat_tests) in ap (λ b. b && list_all (λ page. slice_index versions page == slice_index versions page) xs) z ∙ all_kept xs versions

some_back : (i n : ℕ) → 0 < n → slice_back i n ≡ [] → ⊥
some_back i zero l h = omega (arith, l)
some_back i (suc n) l h = cc

outside_is : (s : State) (i : ℕ) → leases s i ≡ true → run_outside s i ≡ lease_of (code_of s.machine) (cpu_at s.machine i).ctx (seat_at s i).left s.versions
unfolding run_outside
outside_is s i h = ap (λ b. if b then lease_of (code_of s.machine) (cpu_at s.machine i).ctx (seat_at s i).left s.versions else no_lease) h

comes_back : (s : State) (i : ℕ) → i < cpu_count s.machine → SliceTells s i → RunnerRests s i → lease_back s i (run_outside s i) ≡ [] → ⊥
comes_back s i l t r h =
    let x : Lease = lease_of (code_of s.machine) (cpu_at s.machine i).ctx (seat_at s i).left s.versions in
    let d : not (is_exit_due s i) ≡ true = ap (λ b. not b) (not_due s i l t r) in
    let out : leases s i ≡ true = ap (λ b. b && not (is_exit_due s i)) t.running ∙ d in
    let kept : is_kept s x ≡ true = all_kept x.looked s.versions in
    let back : lease_back s i x ≡ [] = ap (λ (y : Lease). lease_back s i y) (sym (outside_is s i out)) ∙ h in
    some_back i x.ran (some_most (code_of s.machine) (cpu_at s.machine i).ctx (seat_at s i).left t.left t.local) (sym (ap (λ b. if b then slice_back i x.ran else []) kept) ∙ back)

-- ---- an image that is held comes back

held_worker : (from count : ℕ) (h : Holder) (xs : List Unfinished) → All (λ (x : Unfinished). WorkerFits from count x.progress) xs → list_any (is_out h) xs ≡ true → (from ≤ h.by) × (h.by < from + count)
held_worker from count h [] a m = absurd (true≢false (sym m))
held_worker from count h (x ∷ xs) a m =
    elim (cases_Bool (is_out h x)) [
      | inl t ↦ at_progress x.progress (a 0 x (omega arith)) (and_parts _ _ t).1
      | inr f ↦ held_worker from count h xs (λ k d l. a (suc k) d (omega (arith, l))) (ap (λ b. b || list_any (is_out h) xs) (sym f) ∙ m)
    ]
  where
    at_progress : (p : Progress) → WorkerFits from count p → is_midway h.by x.request.count p ≡ true → (from ≤ h.by) × (h.by < from + count)
    at_progress Pending f t = absurd (true≢false (sym t))
    at_progress Blocked f t = absurd (true≢false (sym t))
    at_progress (Busy w moved failed gone) f t =
        let e : w ≡ h.by = grind (arith, nat_tests, common_steps, and_parts) in
        let a = f.0 in
        let b = f.1 in
        (omega (arith, a, e), omega (arith, b, e))

worker_below : (m : MachineState) (d w : ℕ) → d < drive_count m → w < first_worker m d + (drive_at m d).workers → w < pass_count m
unfolding pass_count first_worker
worker_below m d w l to =
    let more = sum_by_more (λ (x : Drive). x.workers) m.drives d no_drive l in
    let most = sum_by-take-le (λ (x : Drive). x.workers) m.drives (d + 1) in
    omega arith

worker_above : (m : MachineState) (d w : ℕ) → first_worker m d ≤ w → cpu_count m < w
unfolding first_worker
worker_above m d w l = omega (arith, l)

-- an image that isn't at home
record Held (s : State) : Type 0 where
  drive : ℕ
  holder : Holder
  within : drive < length s.images
  is : (image_at s drive).holder ≡ Some holder

abbrev HasHeld : List DiskImage → Type 0
HasHeld xs = (d : ℕ) × (h : Holder) × (d < length xs) × ((get_or xs d no_image).holder ≡ Some h)

held_at : (x : DiskImage) (xs : List DiskImage) (o : Option Holder) → x.holder ≡ o → (is_none o ≡ true → HasHeld xs) → HasHeld (x ∷ xs)
held_at x xs (Some h) e later = (0, h, omega arith, e)
held_at x xs None e later = let r = later refl in (suc r.0, r.1, omega (arith, r.2), r.3)

rest_false : (a b : Bool) → (a && b) ≡ false → a ≡ true → b ≡ false
rest_false true b h e = h
rest_false false b h e = absurd (true≢false (sym e))

some_held : (xs : List DiskImage) → list_all (λ (x : DiskImage). is_none x.holder) xs ≡ false → HasHeld xs
some_held [] f = absurd (true≢false f)
some_held (x ∷ xs) f = held_at x xs x.holder refl (λ e. some_held xs (rest_false (is_none x.holder) _ f e))

-- the pass finds an image that is its
find_at : (o : Option ℕ) (x : ℕ) (b : Bool) → (b ≡ false → is_some o ≡ true) → is_some (cond b (Some x) o) ≡ true
find_at o x true h = refl
find_at o x false h = h refl

finds_some : (p : ℕ → Bool) (xs : List ℕ) → list_any p xs ≡ true → is_some (find p xs) ≡ true
finds_some p [] h = absurd (true≢false (sym h))
finds_some p (x ∷ xs) h = find_at (find p xs) x (p x) (λ e. finds_some p xs (ap (λ b. b || list_any p xs) (sym e) ∙ h))

holds_it : (s : State) (d : ℕ) (h : Holder) → d < drive_count s.machine → (image_at s d).holder ≡ Some h → is_some (held_by s h.by) ≡ true
holds_it s d h l e =
    let mine : is_its h.by (image_at s d).holder ≡ true = ap (λ (o : Option Holder). is_its h.by o) e ∙ same h.by in
    finds_some (λ k. is_its h.by (image_at s k).holder) (drive_numbers s.machine) (is_below (λ k. is_its h.by (image_at s k).holder) (drive_count s.machine) d l mine)
  where
    same : (n : ℕ) → (n == n) ≡ true
    same n = grind (arith, nat_tests)

found_its : (s : State) (p : ℕ) (ds : List ℕ) (d : ℕ) → find (λ d. is_its p (image_at s d).holder) ds ≡ Some d → is_its p (image_at s d).holder ≡ true
found_its s p [] d h = absurd (cc)
found_its s p (c ∷ cs) d h =
    elim (cases_Bool (is_its p (image_at s c).holder)) [
      | inl t ↦ (let e : cond (is_its p (image_at s c).holder) (Some c) (find (λ d. is_its p (image_at s d).holder) cs) ≡ Some c = ap (λ b. cond b (Some c) (find (λ d. is_its p (image_at s d).holder) cs)) t in let same : c ≡ d = cc in subst (λ k. is_its p (image_at s k).holder ≡ true) same t)
      | inr f ↦ (let e : cond (is_its p (image_at s c).holder) (Some c) (find (λ d. is_its p (image_at s d).holder) cs) ≡ find (λ d. is_its p (image_at s d).holder) cs = ap (λ b. cond b (Some c) (find (λ d. is_its p (image_at s d).holder) cs)) f in found_its s p cs d (sym e ∙ h))
    ]

put_some : (p d : ℕ) (ok : Bool) (o : Option Holder) → is_its p o ≡ true → put_for p d o ok ≡ [] → ⊥
put_some p d ok None t h = true≢false (sym t)
put_some p d ok (Some x) t h = cc

puts_back : (s : State) (p : ℕ) (o : Option ℕ) (a : Option Bool) → held_by s p ≡ o → is_some o ≡ true → is_some a ≡ true → put_back s p o a ≡ [] → ⊥
puts_back s p None a e t u h = true≢false (sym t)
puts_back s p (Some d) None e t u h = true≢false (sym u)
puts_back s p (Some d) (Some ok) e t u h = put_some p d ok (image_at s d).holder (found_its s p (drive_numbers s.machine) d e) h

-- ---- two rounds that add nothing

held_clash : (s : State) (one two : Rounds) → Fine s → one.state ≡ s → (d : ℕ) (h : Holder) → d < length s.images → (image_at s d).holder ≡ Some h
    → ((p : ℕ) → p < pass_count s.machine → cpu_count s.machine < p → is_some (held_by s p) ≡ true → is_some (answer_at one p) ≡ true)
    → ((p : ℕ) → p < pass_count s.machine → cpu_count s.machine < p → put_back s p (held_by s p) (answer_at one p) ≡ []) → ⊥
held_clash s one two f same d h l e gone put =
    let l2 : d < drive_count s.machine = (let c = f.sound.images.count in omega (arith, c, l)) in
    let image = f.sound.images.each d l2 in
    let w = held_worker (first_worker s.machine d) (drive_at s.machine d).workers h (drive_at s.machine d).queue.requests image.workers (subst (λ (o : Option Holder). IsHeld (drive_at s.machine d).queue.requests o) e image.held) in
    let above = worker_above s.machine d h.by w.0 in
    let below = worker_below s.machine d h.by l2 w.1 in
    let has = holds_it s d h l2 e in
    puts_back s h.by (held_by s h.by) (answer_at one h.by) refl has (gone h.by below above has) (put h.by below above)

runner_pass : (m : MachineState) (i : ℕ) → i < cpu_count m → 1 + i < pass_count m
unfolding pass_count
runner_pass m i l = omega arith

-- of the state s, from the quiet of a round that left it and of the next
quiet_clash : (r one two : Rounds) → Fine r.state → r.state.closed ≡ false → one.state ≡ r.state → Quiet r (pass_count r.state.machine) one → Quiet one (pass_count one.state.machine) two → ⊥
quiet_clash r one two f g same a b =
    let s = r.state in
    let passes : pass_count one.state.machine ≡ pass_count s.machine = ap (λ (t : State). pass_count t.machine) same in
    let cpus : cpu_count one.state.machine ≡ cpu_count s.machine = ap (λ (t : State). cpu_count t.machine) same in
    let none : (p : ℕ) → p < pass_count s.machine → first_lawful s p ≡ None = λ p l. none_chosen (first_lawful s p) (λ e. record { by = p; entry = e }) (a.none p l) in
    never_stuck s f.sound g (record {
      none = none;
      no_slice = λ i. elim (cases_Bool (may_slice s (1 + i) i 1)) [
        | inr never ↦ never
        | inl may ↦ absurd (
            let t = slice_tells s i may in
            let l = within_cpus s i (1 + i) t.running in
            let p = runner_pass s.machine i l in
            let back : lease_back s i (run_outside s i) ≡ [] =
            ap (λ (x : Lease). lease_back s i x) (sym (a.out i p l)) ∙ ap (λ (u : State). lease_back u i (lease_at one i)) (sym same) ∙ b.back i (omega (arith, p, passes)) (omega (arith, l, cpus)) in
            comes_back s i l t (runner_rests s i g l (none (1 + i) p)) back)
      ];
      at_home = elim (cases_Bool (none_held s)) [
        | inl home ↦ home
        | inr held ↦ absurd (
            let w = some_held s.images held in
            held_clash s one two f same w.0 w.1 w.2 w.3
            (λ p l m h. a.gone p l m l h)
            (λ p l m. ap (λ (u : State). put_back u p (held_by u p) (answer_at one p)) (sym same) ∙ b.put p (omega (arith, l, passes)) (omega (arith, m, cpus))))
      ];
    })

-- ---- so they add something

pub record Moves (r t : Rounds) : Type 0 where
  pub entries : List Signed
  pub state : t.state ≡ after_all r.state entries
  pub history : t.history ≡ r.history ++ entries
  pub good : AreGood r.state entries
  pub stand : Stand t

pub round_moves : (r : Rounds) → Stand r → Moves r (after_round r)
unfolding after_round
round_moves r h = let p = passes_go r (pass_count r.state.machine) h in record { entries = p.entries; state = p.state; history = p.history; good = p.good; stand = p.stand }

pub then_moves : (r s t : Rounds) → Moves r s → Moves s t → Moves r t
then_moves r s t a b = record {
  entries = a.entries ++ b.entries;
  state = b.state ∙ ap (λ (u : State). after_all u b.entries) a.state ∙ sym (after_append r.state a.entries b.entries);
  history = b.history ∙ ap (λ (xs : List Signed). xs ++ b.entries) a.history ∙ append_assoc r.history a.entries b.entries;
  good = good_append r.state a.entries b.entries a.good (subst (λ (u : State). AreGood u b.entries) a.state b.good);
  stand = b.stand;
}

pub two_moves : (r : Rounds) → Stand r → Moves r (after_round (after_round r))
two_moves r h = let a = round_moves r h in then_moves r (after_round r) (after_round (after_round r)) a (round_moves (after_round r) a.stand)

pub two_add : (r : Rounds) (h : Stand r) → r.state.closed ≡ false → (two_moves r h).entries ≡ [] → ⊥
unfolding two_moves round_moves then_moves after_round
two_add r h g e =
    let a = passes_go r (pass_count r.state.machine) h in
    let one = after_passes r (pass_count r.state.machine) in
    let b = passes_go one (pass_count one.state.machine) a.stand in
    let z = both_none a.entries b.entries e in
    quiet_clash r one (after_passes one (pass_count one.state.machine)) h.fine g (a.state ∙ ap (λ (xs : List Signed). after_all r.state xs) z.0) (a.quiet z.0) (b.quiet z.1)
