-- The turn of a pass in a round of one thread: what it adds is good, and where it adds nothing it has out what it can.
use Rattle.std.specs.Prelude.{Option, Some, None, ◌==◌, ◌&&◌, if◌then◌else◌, is_none, find}
use Rattle.std.specs.List.{list_all}
use Rattle.std.proofs.Common.{◌≡◌, ℕ, zero, suc, ◌+◌, ◌<◌, Bool, true, false, not, List, [], ◌∷◌, length, cond, get_or, refl, sym, ap, subst, ◌∙◌, inl, inr, arith}
use Rattle.std.proofs.lemmas.Bool.{and_parts, cases_Bool, cases_lt, true≢false}
use Rattle.std.proofs.lemmas.Bool.Decides.{nat_tests}
use Rattle.std.proofs.lemmas.Grind.{common_steps}
use Rattle.std.proofs.lemmas.List.{get_or_past}
use Rattle.vm_law.specs.declared.journal.Entry.{Entry}
use Rattle.vm_law.specs.declared.journal.Entry.TheVariants.{Close, Put}
use Rattle.vm_law.specs.declared.journal.Signed.{Signed}
use Rattle.vm_law.specs.declared.stage.Owned.{Owned}
use Rattle.vm_law.specs.declared.stage.Owned.TheVariants.{Idle, Frozen, Running, Sleeping}
use Rattle.vm_state.specs.declared.cpu.Cpu.{Cpu}
use Rattle.vm_state.specs.declared.image.DiskImage.{DiskImage}
use Rattle.vm_state.specs.declared.image.Holder.{Holder}
use Rattle.vm_state.specs.Machine.{all_idle, cpu_at, cpu_count, drive_count, drive_numbers, is_idle, is_running, unstarted_cpu}
use Rattle.vm_state.specs.Requests.{pass_count}
use Rattle.vm_state.specs.Sound.{IsSoundState}
use Rattle.vm_state.specs.State.{State, image_at, none_held, no_image}
use Rattle.vm_disks.specs.Images.{may_put}
use Rattle.vm_orders.specs.Ending.{after_close, may_close}
use Rattle.vm_table.specs.History.{after_all}
use Rattle.vm_table.specs.Rounds.{Lease, held_by, is_its, is_kept, lease_back, put_back, put_for, slice_back}
use Rattle.vm_table.specs.Table.{after, allowed, counted, effect, lawful}
use Rattle.vm_table.specs.Turns.{IsGreatestSlice}
use Rattle.vm_table.proofs.Keeps.{after_keeps}
use Rattle.vm_table.proofs.Plan.{after_cpus, after_pass_count}
use Rattle.vm_rounds.proofs.Leasing.{lease_greatest, LeaseFits, lease_moves, lease_slices, within_cpus}
use Rattle.vm_rounds.proofs.Staying.{Stays, effect_stays}
use Rattle.vm_rounds.proofs.Walking.{AreGood, AreOf, Good, keeps_good}

-- ---- a run that is closed rests

abbrev pub Rests : State → Type 0
Rests s = s.closed ≡ true → (all_idle s.machine ≡ true) × (none_held s ≡ true)

close_tells : (s : State) (p : ℕ) → may_close s p ≡ true → (all_idle s.machine ≡ true) × (none_held s ≡ true)
unfolding may_close
close_tells s p m =
    let a = and_parts _ _ m in
    let b = and_parts _ _ a.0 in
    let c = and_parts _ _ b.0 in
    let d = and_parts _ _ c.0 in
    (d.1, b.1)

open_rests : (s t : State) → s.closed ≡ false → Stays s t → Rests t
open_rests s t g h = λ e. absurd (true≢false (sym e ∙ h.closed ∙ g))

effect_rests : (s : State) (p : ℕ) (e : Entry) → s.closed ≡ false → allowed s p e ≡ true → Rests (effect s p e)
unfolding allowed effect after_close
effect_rests s p Close g m = λ e. close_tells s p m
effect_rests s p e g m = elim (effect_stays s p e) [ inl h ↦ open_rests s (effect s p e) g h | inr c ↦ absurd c ]

open_if : (b : Bool) → not b ≡ true → b ≡ false
open_if true h = absurd (true≢false (sym h))
open_if false h = refl

pub lawful_tells : (s : State) (x : Signed) → lawful s x.by x.entry ≡ true → (s.closed ≡ false) × (allowed s x.by x.entry ≡ true)
unfolding lawful
lawful_tells s x m = let t = and_parts (not s.closed) (allowed s x.by x.entry) m in (open_if s.closed t.0, t.1)

rests_after : (s : State) (x : Signed) → lawful s x.by x.entry ≡ true → Rests (after s x)
unfolding after counted
rests_after s x m = let t = lawful_tells s x m in effect_rests s x.by x.entry t.0 t.1

-- ---- what holds of the state all along

pub record Fine (s : State) : Type 0 where
  pub sound : IsSoundState s
  pub rests : Rests s

pub fine_after : (s : State) (x : Signed) → Fine s → Good s x → Fine (after s x)
fine_after s x f g = record { sound = after_keeps s x f.sound g.may; rests = rests_after s x g.may }

pub fine_all : (s : State) (xs : List Signed) → Fine s → AreGood s xs → Fine (after_all s xs)
fine_all s xs f g = keeps_good Fine fine_after s xs f g

pub cpus_all : (s : State) (xs : List Signed) → cpu_count (after_all s xs).machine ≡ cpu_count s.machine
cpus_all s [] = refl
cpus_all s (x ∷ xs) = cpus_all (after s x) xs ∙ after_cpus s x

pub passes_all : (s : State) (xs : List Signed) → pass_count (after_all s xs).machine ≡ pass_count s.machine
passes_all s [] = refl
passes_all s (x ∷ xs) = passes_all (after s x) xs ∙ after_pass_count s x

-- leases of others stay while entries of a pass come
pub leases_all : (s : State) (p : ℕ) (xs : List Signed) (i : ℕ) (y : Lease) → Fine s → AreGood s xs → AreOf p xs → (p == 1 + i) ≡ false → LeaseFits s i y → LeaseFits (after_all s xs) i y
leases_all s p [] i y f g o ne h = h
leases_all s p (x ∷ xs) i y f g o ne h =
    leases_all (after s x) p xs i y (fine_after s x f g.0) g.1 o.1 ne (lease_moves s x i y f.sound g.0.may (ap (λ (k : ℕ). k == 1 + i) o.0 ∙ ne) h)

-- ---- what comes back

running_no_idle : (st : Owned) (p : ℕ) → is_running st p ≡ true → is_idle st ≡ false
running_no_idle Idle p h = absurd (true≢false (sym h))
running_no_idle (Frozen q) p h = refl
running_no_idle (Running q) p h = refl
running_no_idle (Sleeping q) p h = refl

idle_each : (cs : List Cpu) (i : ℕ) (d : Cpu) → list_all (λ (c : Cpu). is_idle c.stage) cs ≡ true → i < length cs → is_idle (get_or cs i d).stage ≡ true
idle_each [] i d h l = absurd (omega arith)
idle_each (c ∷ cs) zero d h l = (and_parts (is_idle c.stage) _ h).0
idle_each (c ∷ cs) (suc i) d h l = idle_each cs i d (and_parts (is_idle c.stage) _ h).1 (omega (arith, l))

runs_open : (s : State) (i : ℕ) → Fine s → is_running (cpu_at s.machine i).stage (1 + i) ≡ true → s.closed ≡ false
runs_open s i f r =
    elim (cases_Bool s.closed) [
      | inr open_now ↦ open_now
      | inl shut ↦ absurd (true≢false (sym (idle_each s.machine.cpus i (unstarted_cpu i) (f.rests shut).0 (within_cpus s i (1 + i) r)) ∙ running_no_idle (cpu_at s.machine i).stage (1 + i) r))
    ]

slice_good : (s : State) (i n : ℕ) → (0 < n → IsGreatestSlice s (1 + i) i n) → AreGood s (slice_back i n)
slice_good s i zero h = tt
slice_good s i (suc n) h = let g = h (omega arith) in (record { may = g.may; due = tt; orderly = inr g }, tt)

slice_of : (i n : ℕ) → AreOf (1 + i) (slice_back i n)
slice_of i zero = tt
slice_of i (suc n) = (refl, tt)

back_if : (s : State) (i : ℕ) (x : Lease) (b : Bool) → Fine s → LeaseFits s i x → is_kept s x ≡ b → AreGood s (if b then slice_back i x.ran else [])
back_if s i x false f h e = tt
back_if s i x true f (inl none) e = slice_good s i x.ran (λ l. absurd (omega (arith, none, l)))
back_if s i x true f (inr h) e = slice_good s i x.ran (λ l. lease_greatest s i x h e (lease_slices s i x h (runs_open s i f h.running) l e))

pub back_good : (s : State) (i : ℕ) (x : Lease) → Fine s → LeaseFits s i x → AreGood s (lease_back s i x)
back_good s i x f h = back_if s i x (is_kept s x) f h refl

pub back_of : (s : State) (i : ℕ) (x : Lease) → AreOf (1 + i) (lease_back s i x)
back_of s i x = of_if (is_kept s x)
  where
    of_if : (b : Bool) → AreOf (1 + i) (if b then slice_back i x.ran else [])
    of_if true = slice_of i x.ran
    of_if false = tt

-- the image that the pass has
found_its : (s : State) (p : ℕ) (ds : List ℕ) (d : ℕ) → find (λ d. is_its p (image_at s d).holder) ds ≡ Some d → is_its p (image_at s d).holder ≡ true
found_its s p [] d h = absurd (cc)
found_its s p (c ∷ cs) d h =
    elim (cases_Bool (is_its p (image_at s c).holder)) [
      | inl t ↦ (let e : cond (is_its p (image_at s c).holder) (Some c) (find (λ d. is_its p (image_at s d).holder) cs) ≡ Some c = ap (λ b. cond b (Some c) (find (λ d. is_its p (image_at s d).holder) cs)) t in let same : c ≡ d = cc in subst (λ k. is_its p (image_at s k).holder ≡ true) same t)
      | inr f ↦ (let e : cond (is_its p (image_at s c).holder) (Some c) (find (λ d. is_its p (image_at s d).holder) cs) ≡ find (λ d. is_its p (image_at s d).holder) cs = ap (λ b. cond b (Some c) (find (λ d. is_its p (image_at s d).holder) cs)) f in found_its s p cs d (sym e ∙ h))
    ]

home_each : (xs : List DiskImage) (d : ℕ) (h : Holder) → list_all (λ (x : DiskImage). is_none x.holder) xs ≡ true → (get_or xs d no_image).holder ≡ Some h → ⊥
unfolding no_image
home_each [] d h a e = absurd (cc)
home_each (x ∷ xs) zero h a e = true≢false (sym (sym (ap is_none e) ∙ (and_parts (is_none x.holder) _ a).0))
home_each (x ∷ xs) (suc d) h a e = home_each xs d h (and_parts (is_none x.holder) _ a).1 e

holds_open : (s : State) (d : ℕ) (h : Holder) → Fine s → (image_at s d).holder ≡ Some h → s.closed ≡ false
holds_open s d h f e =
    elim (cases_Bool s.closed) [
      | inr open_now ↦ open_now
      | inl shut ↦ absurd (home_each s.images d h (f.rests shut).1 e)
    ]

within_images : (s : State) (d : ℕ) (h : Holder) → Fine s → (image_at s d).holder ≡ Some h → d < drive_count s.machine
unfolding no_image
within_images s d h f e =
    elim (cases_lt d (length s.images)) [
      | inl l ↦ (let c = f.sound.images.count in omega (arith, c, l))
      | inr past ↦ (let z : (image_at s d).holder ≡ no_image.holder = ap (λ (x : DiskImage). x.holder) (get_or_past s.images d no_image past) in absurd (cc))
    ]

may_put_it : (s : State) (p d : ℕ) (h : Holder) → d < drive_count s.machine → (image_at s d).holder ≡ Some h → (h.by == p) ≡ true → may_put s p d h.id ≡ true
unfolding may_put
may_put_it s p d h l e b = rw e (grind (arith, nat_tests, common_steps))

lawful_put : (s : State) (p d id : ℕ) (ok : Bool) → s.closed ≡ false → may_put s p d id ≡ true → lawful s p (Put d id ok) ≡ true
unfolding lawful allowed
lawful_put s p d id ok g m = ap (λ b. not b && may_put s p d id) g ∙ m

put_for_good : (s : State) (p d : ℕ) (ok : Bool) (o : Option Holder) → Fine s → (image_at s d).holder ≡ o → is_its p o ≡ true → AreGood s (put_for p d o ok)
put_for_good s p d ok None f e t = tt
put_for_good s p d ok (Some h) f e t =
    let may = lawful_put s p d h.id ok (holds_open s d h f e) (may_put_it s p d h (within_images s d h f e) e t) in
    (record { may = may; due = tt; orderly = inr may }, tt)

put_good_as : (s : State) (p : ℕ) (o : Option ℕ) (a : Option Bool) → Fine s → held_by s p ≡ o → AreGood s (put_back s p o a)
put_good_as s p None a f e = tt
put_good_as s p (Some d) None f e = tt
put_good_as s p (Some d) (Some ok) f e = put_for_good s p d ok (image_at s d).holder f refl (found_its s p (drive_numbers s.machine) d e)

pub put_good : (s : State) (p : ℕ) (a : Option Bool) → Fine s → AreGood s (put_back s p (held_by s p) a)
put_good s p a f = put_good_as s p (held_by s p) a f refl

pub put_of : (s : State) (p : ℕ) (o : Option ℕ) (a : Option Bool) → AreOf p (put_back s p o a)
put_of s p None a = tt
put_of s p (Some d) None = tt
put_of s p (Some d) (Some ok) = for (image_at s d).holder
  where
    for : (h : Option Holder) → AreOf p (put_for p d h ok)
    for None = tt
    for (Some h) = (refl, tt)
