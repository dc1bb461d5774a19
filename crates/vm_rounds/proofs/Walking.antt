-- Entries one after the other, each lawful where it stands, of which an Exit is due.
use Rattle.std.specs.Prelude.{Option, Some, None, ◌==◌, ◌&&◌, nat_le, if◌then◌else◌}
use Rattle.std.specs.List.{find, flat_map}
use Rattle.std.specs.Option.{option_to_list, option_map}
use Rattle.std.proofs.Common.{◌≡◌, ℕ, ◌-◌, ◌<◌, Bool, true, false, List, [], ◌∷◌, ◌++◌, map, cond, refl, sym, ap, subst, ◌∙◌, inl, inr, arith}
use Rattle.std.proofs.lemmas.Bool.{cases_Bool}
use Rattle.vm_law.specs.declared.journal.Entry.{Entry}
use Rattle.vm_law.specs.declared.journal.Entry.TheVariants.{Claim, Step, Exit, Yield, Turn, Meet, Pull, Move, Hold, Finish, Feed, Wish, Done, End, Close, Tick}
use Rattle.vm_law.specs.declared.journal.EndCause.TheVariants.{Budget}
use Rattle.vm_law.specs.declared.journal.Signed.{Signed}
use Rattle.blk_queue.specs.Steps.{first_pending}
use Rattle.blk_queue.specs.declared.progress.Unfinished.{Unfinished}
use Rattle.vm_state.specs.Machine.{cpu_count, cpu_numbers, drive_at, drive_numbers}
use Rattle.vm_state.specs.Requests.{is_worker}
use Rattle.vm_state.specs.State.{State}
use Rattle.vm_orders.specs.Duties.{tick_of}
use Rattle.vm_table.specs.History.{after_all, is_lawful_all}
use Rattle.vm_table.specs.Rounds.{chosen}
use Rattle.vm_table.specs.Table.{after, lawful}
use Rattle.vm_table.specs.Turns.{IsOrderlyEntry, IsOrderlyFrom, begin_first, busy_with, control_list, drive_list, exit_where_due, first_lawful, is_exit_due, list_of, runner_list, where_worker, worker_list}

-- where it is an Exit, that is due
abbrev pub IsDue : State → Entry → Type 0
IsDue s (Exit i) = is_exit_due s i ≡ true
IsDue s e = Unit {0}

-- the entry is lawful, due where it is an Exit, and what its pass adds in an orderly turn
pub record Good (s : State) (x : Signed) : Type 0 where
  pub may : lawful s x.by x.entry ≡ true
  pub due : IsDue s x.entry
  pub orderly : IsOrderlyEntry s x

abbrev pub AreGood : State → List Signed → Type 0
AreGood s [] = Unit {0}
AreGood s (x ∷ xs) = Good s x × AreGood (after s x) xs

-- all of them are of one pass
abbrev pub AreOf : ℕ → List Signed → Type 0
AreOf p [] = Unit {0}
AreOf p (x ∷ xs) = (x.by ≡ p) × AreOf p xs

-- none of them is control's
abbrev pub AreOver : List Signed → Type 0
AreOver [] = Unit {0}
AreOver (x ∷ xs) = (0 < x.by) × AreOver xs

pub over_append : (xs ys : List Signed) → AreOver xs → AreOver ys → AreOver (xs ++ ys)
over_append [] ys a b = b
over_append (x ∷ xs) ys a b = (a.0, over_append xs ys a.1 b)

pub over_from : (p : ℕ) (xs : List Signed) → 0 < p → AreOf p xs → AreOver xs
over_from p [] l o = tt
over_from p (x ∷ xs) l o = ((let e = o.0 in omega (arith, e, l)), over_from p xs l o.1)

pub good_append : (s : State) (xs ys : List Signed) → AreGood s xs → AreGood (after_all s xs) ys → AreGood s (xs ++ ys)
good_append s [] ys a b = b
good_append s (x ∷ xs) ys a b = (a.0, good_append (after s x) xs ys a.1 b)

pub of_append : (p : ℕ) (xs ys : List Signed) → AreOf p xs → AreOf p ys → AreOf p (xs ++ ys)
of_append p [] ys a b = b
of_append p (x ∷ xs) ys a b = (a.0, of_append p xs ys a.1 b)

pub after_append : (s : State) (xs ys : List Signed) → after_all s (xs ++ ys) ≡ after_all (after_all s xs) ys
after_append s [] ys = refl
after_append s (x ∷ xs) ys = after_append (after s x) xs ys

pub good_lawful : (s : State) (xs : List Signed) → AreGood s xs → is_lawful_all s xs ≡ true
good_lawful s [] g = refl
good_lawful s (x ∷ xs) g = ap (λ b. b && is_lawful_all (after s x) xs) g.0.may ∙ good_lawful (after s x) xs g.1

-- what each good entry keeps holds of the last state
pub keeps_good : (Holds : State → Type 0) → ((s : State) (x : Signed) → Holds s → Good s x → Holds (after s x)) → (s : State) (xs : List Signed) → Holds s → AreGood s xs → Holds (after_all s xs)
keeps_good Holds keeps s [] h g = h
keeps_good Holds keeps s (x ∷ xs) h g = keeps_good Holds keeps (after s x) xs (keeps s x h g.0) g.1

-- ---- what a pass chooses

found_passes : (p : Entry → Bool) (xs : List Entry) (e : Entry) → find p xs ≡ Some e → p e ≡ true
found_passes p [] e h = absurd (cc)
found_passes p (x ∷ xs) e h =
    elim (cases_Bool (p x)) [
      | inl passes ↦
          let same : x ≡ e = let g : cond (p x) (Some x) (find p xs) ≡ Some x = ap (λ (b : Bool). cond b (Some x) (find p xs)) passes in cc in
          subst (λ (y : Entry). p y ≡ true) same passes
      | inr fails ↦
          let g : cond (p x) (Some x) (find p xs) ≡ find p xs = ap (λ (b : Bool). cond b (Some x) (find p xs)) fails in
          found_passes p xs e (sym g ∙ h)
    ]

-- each entry of a list is due where it is an Exit, so what is found is
abbrev AreDue : State → List Entry → Type 0
AreDue s [] = Unit {0}
AreDue s (e ∷ es) = IsDue s e × AreDue s es

due_append : (s : State) (xs ys : List Entry) → AreDue s xs → AreDue s ys → AreDue s (xs ++ ys)
due_append s [] ys a b = b
due_append s (x ∷ xs) ys a b = (a.0, due_append s xs ys a.1 b)

abbrev DueIn : State → Option Entry → Type 0
DueIn s None = Unit {0}
DueIn s (Some e) = IsDue s e

found_if : (s : State) (x : Entry) (o : Option Entry) (b : Bool) → IsDue s x → DueIn s o → DueIn s (cond b (Some x) o)
found_if s x o true a r = a
found_if s x o false a r = r

found_due : (s : State) (p : Entry → Bool) (xs : List Entry) → AreDue s xs → DueIn s (find p xs)
found_due s p [] a = tt
found_due s p (x ∷ xs) a = found_if s x (find p xs) (p x) a.0 (found_due s p xs a.1)

due_map : (s : State) (f : ℕ → Entry) → ((i : ℕ) → IsDue s (f i)) → (xs : List ℕ) → AreDue s (map f xs)
due_map s f h [] = tt
due_map s f h (x ∷ xs) = (h x, due_map s f h xs)

exit_due : (s : State) (i : ℕ) (b : Bool) → is_exit_due s i ≡ b → AreDue s (if b then Exit i ∷ [] else [])
exit_due s i true e = (e, tt)
exit_due s i false e = tt

runner_due : (s : State) (i : ℕ) → AreDue s (runner_list s i)
unfolding runner_list
runner_due s i = (tt, (tt, (tt, (tt, (tt, (tt, (tt, due_append s (exit_where_due s i) (Step i ∷ []) (exit_due s i (is_exit_due s i) refl) (tt, tt))))))))

drive_due : (s : State) (p d : ℕ) → AreDue s (drive_list s p d)
unfolding drive_list
drive_due s p d =
    due_append s _ (Pull d ∷ [])
    (due_append s _ (begin_first d (first_pending (drive_at s.machine d).queue))
    (due_append s _ (map (λ id. Hold d id) (busy_with s p d))
    (due_append s (map (λ id. Finish d id) (busy_with s p d)) (map (λ id. Move d id) (busy_with s p d))
    (due_map s (λ id. Finish d id) (λ i. tt) (busy_with s p d)) (due_map s (λ id. Move d id) (λ i. tt) (busy_with s p d)))
    (due_map s (λ id. Hold d id) (λ i. tt) (busy_with s p d)))
    (first_due (first_pending (drive_at s.machine d).queue)))
    (tt, tt)
  where
    first_due : (o : Option Unfinished) → AreDue s (begin_first d o)
    first_due None = tt
    first_due (Some x) = (tt, tt)

where_due : (s : State) (p d : ℕ) (b : Bool) → AreDue s (if b then drive_list s p d else [])
where_due s p d true = drive_due s p d
where_due s p d false = tt

worker_due : (s : State) (p : ℕ) → AreDue s (worker_list s p)
unfolding worker_list
worker_due s p = all_due (drive_numbers s.machine)
  where
    all_due : (ds : List ℕ) → AreDue s (flat_map (where_worker s p) ds)
    all_due [] = tt
    all_due (d ∷ ds) = due_append s (where_worker s p d) (flat_map (where_worker s p) ds) (where_due s p d (is_worker s.machine p d)) (all_due ds)

control_due : (s : State) → AreDue s (control_list s)
unfolding control_list
control_due s =
    due_append s _ (Feed ∷ Tick (tick_of s) ∷ End Budget ∷ Wish ∷ Meet ∷ Done s.place ∷ Close ∷ [])
    (due_append s _ (map (λ i. Claim i) (cpu_numbers s.machine))
    (due_append s (map (λ i. Turn i) (cpu_numbers s.machine)) (map (λ i. Yield i) (cpu_numbers s.machine))
    (due_map s (λ i. Turn i) (λ i. tt) (cpu_numbers s.machine)) (due_map s (λ i. Yield i) (λ i. tt) (cpu_numbers s.machine)))
    (due_map s (λ i. Claim i) (λ i. tt) (cpu_numbers s.machine)))
    (tt, (tt, (tt, (tt, (tt, (tt, (tt, tt)))))))

list_due : (s : State) (p : ℕ) → AreDue s (list_of s p)
unfolding list_of
list_due s p = either (p == 0) (nat_le p (cpu_count s.machine))
  where
    either : (a b : Bool) → AreDue s (if a then control_list s else if b then runner_list s (p - 1) else worker_list s p)
    either true b = control_due s
    either false true = runner_due s (p - 1)
    either false false = worker_due s p

chosen_as : (s : State) (p : ℕ) (o : Option Entry) → first_lawful s p ≡ o → ((e : Entry) → o ≡ Some e → lawful s p e ≡ true) → DueIn s o → AreGood s (option_to_list (option_map (λ (e : Entry). record { by = p; entry = e }) o))
chosen_as s p None f h d = tt
chosen_as s p (Some e) f h d = (record { may = h e refl; due = d; orderly = inl f }, tt)

pub chosen_good : (s : State) (p : ℕ) → AreGood s (chosen s p)
chosen_good s p = chosen_as s p (first_lawful s p) refl (found_passes (λ e. lawful s p e) (list_of s p)) (found_due s (λ e. lawful s p e) (list_of s p) (list_due s p))

pub good_orderly : (s : State) (xs : List Signed) → AreGood s xs → IsOrderlyFrom s xs
good_orderly s [] g = tt
good_orderly s (x ∷ xs) g = (g.0.orderly, good_orderly (after s x) xs g.1)

pub chosen_of : (s : State) (p : ℕ) → AreOf p (chosen s p)
chosen_of s p = of_option (first_lawful s p)
  where
    of_option : (o : Option Entry) → AreOf p (option_to_list (option_map (λ (e : Entry). record { by = p; entry = e }) o))
    of_option None = tt
    of_option (Some e) = (refl, tt)
