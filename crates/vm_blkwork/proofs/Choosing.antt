-- What a worker chooses.
use Rattle.std.proofs.Common.{◌≡◌, ℕ, ◌+◌, ◌<◌, ◌≤◌, zero, suc, Bool, true, false, List, [], ◌∷◌, ◌++◌, map, take, length, get_or, cond, refl, subst, ◌∙◌, inl, inr, Option, Some, None, arith}
use Rattle.std.specs.Prelude.{◌==◌, nat_le, if◌then◌else◌}
use Rattle.std.specs.List.{find, flat_map, list_all}
use Rattle.std.proofs.lemmas.Bool.{and_parts, and_from, cases_eq, cases_lt}
use Rattle.std.proofs.lemmas.Bool.Decides.{nat_tests}
use Rattle.std.proofs.lemmas.Grind.{common_steps}
use Rattle.std.proofs.lemmas.List.Folds.{list_all-append}
use Rattle.std.proofs.lemmas.List.Sums.{sum_by-cons}
use Rattle.std.proofs.lemmas.Option.{same_Some}
use Rattle.vm_law.specs.declared.journal.Entry.{Entry}
use Rattle.vm_law.specs.declared.journal.Entry.TheVariants.{Pull, Begin, Move, Hold, Finish}
use Rattle.blk_queue.specs.Steps.{first_pending}
use Rattle.blk_queue.specs.declared.progress.Unfinished.{Unfinished}
use Rattle.vm_state.specs.declared.drive.Drive.{Drive}
use Rattle.vm_state.specs.Machine.{MachineState, cpu_count, drive_at, drive_numbers, is_drive, no_drive}
use Rattle.vm_state.specs.Requests.{first_worker, is_worker, workers_of}
use Rattle.vm_state.specs.State.{State}
use Rattle.vm_table.specs.Table.{lawful}
use Rattle.vm_table.specs.Turns.{begin_first, busy_with, drive_list, first_lawful, list_of, where_worker, worker_list}

-- ---- the first of a list

found_at : {X : Type 0} (P Q : X → Bool) (y x : X) (b : Bool) (rest : Option X) → P y ≡ b → Q y ≡ true → (rest ≡ Some x → (P x ≡ true) × (Q x ≡ true)) → cond b (Some y) rest ≡ Some x → (P x ≡ true) × (Q x ≡ true)
found_at P Q y x true rest e q f h = let same = same_Some y x h in (subst (λ z. P z ≡ true) same e, subst (λ z. Q z ≡ true) same q)
found_at P Q y x false rest e q f h = f h

-- it passes the test, and whatever all of the list pass
pub found : {X : Type 0} (P Q : X → Bool) (xs : List X) (x : X) → list_all Q xs ≡ true → find P xs ≡ Some x → (P x ≡ true) × (Q x ≡ true)
found P Q [] x a h = absurd (cc)
found P Q (y ∷ ys) x a h = let t = and_parts (Q y) (list_all Q ys) a in found_at P Q y x (P y) (find P ys) refl t.0 (found P Q ys x t.1) h

pub all_true : {X : Type 0} (xs : List X) → list_all (λ (x : X). true) xs ≡ true
all_true [] = refl
all_true (x ∷ xs) = all_true xs

-- what an actor chooses is lawful
pub chosen_lawful : (s : State) (p : ℕ) (e : Entry) → first_lawful s p ≡ Some e → lawful s p e ≡ true
chosen_lawful s p e h = (found (λ x. lawful s p x) (λ x. true) (list_of s p) e (all_true (list_of s p)) h).0

-- ---- a worker's list: each Hold is of a disk whose worker it is

abbrev pub is_work : MachineState → ℕ → Entry → Bool
is_work m p (Hold d id) = is_worker m p d
is_work m p (Finish d id) = true
is_work m p (Move d id) = true
is_work m p (Begin d id) = true
is_work m p (Pull d) = true
is_work m p e = false

joined_all : (Q : Entry → Bool) (xs ys : List Entry) → list_all Q xs ≡ true → list_all Q ys ≡ true → list_all Q (xs ++ ys) ≡ true
joined_all Q xs ys a b = list_all-append Q xs ys ∙ and_from (list_all Q xs) (list_all Q ys) a b

all_each : (Q : Entry → Bool) (f : ℕ → Entry) (ids : List ℕ) → ((id : ℕ) → Q (f id) ≡ true) → list_all Q (map f ids) ≡ true
all_each Q f [] h = refl
all_each Q f (id ∷ ids) h = and_from (Q (f id)) (list_all Q (map f ids)) (h id) (all_each Q f ids h)

begin_work : (m : MachineState) (p d : ℕ) (o : Option Unfinished) → list_all (is_work m p) (begin_first d o) ≡ true
begin_work m p d None = refl
begin_work m p d (Some x) = refl

drive_work : (s : State) (p d : ℕ) → is_worker s.machine p d ≡ true → list_all (is_work s.machine p) (drive_list s p d) ≡ true
unfolding drive_list
drive_work s p d w =
    let Q = is_work s.machine p in
    let ids = busy_with s p d in
    let finishes = map (λ id. Finish d id) ids in
    let moves = map (λ id. Move d id) ids in
    let holds = map (λ id. Hold d id) ids in
    let begins = begin_first d (first_pending (drive_at s.machine d).queue) in
    let a = joined_all Q finishes moves (all_each Q (λ id. Finish d id) ids (λ id. refl)) (all_each Q (λ id. Move d id) ids (λ id. refl)) in
    let b = joined_all Q (finishes ++ moves) holds a (all_each Q (λ id. Hold d id) ids (λ id. w)) in
    let c = joined_all Q (finishes ++ moves ++ holds) begins b (begin_work s.machine p d (first_pending (drive_at s.machine d).queue)) in
    joined_all Q (finishes ++ moves ++ holds ++ begins) (Pull d ∷ []) c refl

where_if : (s : State) (p d : ℕ) (b : Bool) → is_worker s.machine p d ≡ b → list_all (is_work s.machine p) (if b then drive_list s p d else []) ≡ true
where_if s p d true e = drive_work s p d e
where_if s p d false e = refl

all_flat : (Q : Entry → Bool) (f : ℕ → List Entry) (ds : List ℕ) → ((d : ℕ) → list_all Q (f d) ≡ true) → list_all Q (flat_map f ds) ≡ true
all_flat Q f [] h = refl
all_flat Q f (d ∷ ds) h = joined_all Q (f d) (flat_map f ds) (h d) (all_flat Q f ds h)

worker_work : (s : State) (p : ℕ) → list_all (is_work s.machine p) (worker_list s p) ≡ true
unfolding worker_list
worker_work s p = all_flat (is_work s.machine p) (where_worker s p) (drive_numbers s.machine) (λ d. where_if s p d (is_worker s.machine p d) refl)

-- ---- whose worker it is

pub record IsOf (m : MachineState) (p d : ℕ) : Type 0 where
  pub drive : is_drive m d ≡ true
  pub from : first_worker m d ≤ p
  pub to : p < first_worker m d + (drive_at m d).workers

pub worker_of : (m : MachineState) (p d : ℕ) → is_worker m p d ≡ true → IsOf m p d
unfolding is_worker
worker_of m p d w = record {
  drive = grind (arith, nat_tests, common_steps, and_parts);
  from = grind (arith, nat_tests, common_steps, and_parts);
  to = grind (arith, nat_tests, common_steps, and_parts);
}

above_cpus : (m : MachineState) (p d : ℕ) → is_worker m p d ≡ true → cpu_count m < p
unfolding first_worker
above_cpus m p d w = omega (arith, (worker_of m p d w).from)

worker_list_of : (s : State) (p d : ℕ) → is_worker s.machine p d ≡ true → list_of s p ≡ worker_list s p
unfolding list_of
worker_list_of s p d w = (
    let above = above_cpus s.machine p d w in
    let a : (p == 0) ≡ false = grind (arith, nat_tests) in
    let b : nat_le p (cpu_count s.machine) ≡ false = grind (arith, nat_tests) in
    rw (a, b) refl)

-- the workers of the drives before one of a higher number are before it
workers_before : (drives : List Drive) (d e : ℕ) → d < e → d < length drives → workers_of (take d drives) + (get_or drives d no_drive).workers ≤ workers_of (take e drives)
workers_before [] d e l w = absurd (omega arith)
workers_before (x ∷ xs) zero zero l w = absurd (omega arith)
workers_before (x ∷ xs) zero (suc e) l w =
    let now : workers_of (take (suc e) (x ∷ xs)) ≡ x.workers + workers_of (take e xs) = sum_by-cons (λ (y : Drive). y.workers) x (take e xs) in
    let here : (get_or (x ∷ xs) 0 no_drive).workers ≡ x.workers = refl in
    let none : workers_of (take 0 (x ∷ xs)) ≡ 0 = refl in
    omega (arith, now, here, none)
workers_before (x ∷ xs) (suc d) zero l w = absurd (omega arith)
workers_before (x ∷ xs) (suc d) (suc e) l w = let r = workers_before xs d e (omega arith) (omega arith) in
    let now : workers_of (take (suc e) (x ∷ xs)) ≡ x.workers + workers_of (take e xs) = sum_by-cons (λ (y : Drive). y.workers) x (take e xs) in
    let here : workers_of (take (suc d) (x ∷ xs)) ≡ x.workers + workers_of (take d xs) = sum_by-cons (λ (y : Drive). y.workers) x (take d xs) in
    let there : (get_or (x ∷ xs) (suc d) no_drive).workers ≡ (get_or xs d no_drive).workers = refl in
    omega (arith, r, now, here, there)

drive_within : (m : MachineState) (d : ℕ) → is_drive m d ≡ true → d < length m.drives
drive_within m d h = grind (arith, nat_tests, h)

apart : (m : MachineState) (p d e : ℕ) → d < e → IsOf m p d → IsOf m p e → ⊥
unfolding first_worker
apart m p d e l a b =
    let w = workers_before m.drives d e l (drive_within m d a.drive) in
    absurd (omega (arith, w, a.to, b.from))

-- a pass is a worker of one drive
pub one_disk : (m : MachineState) (p d e : ℕ) → is_worker m p d ≡ true → is_worker m p e ≡ true → d ≡ e
one_disk m p d e a b =
    elim (cases_eq d e) [
      | inl same ↦ same
      | inr other ↦
          elim (cases_lt d e) [
            | inl l ↦ absurd (apart m p d e l (worker_of m p d a) (worker_of m p e b))
            | inr g ↦ absurd (apart m p e d (omega arith) (worker_of m p e b) (worker_of m p d a))
          ]
    ]

-- what a worker chooses
pub chosen_work : (s : State) (p d : ℕ) (e : Entry) → is_worker s.machine p d ≡ true → first_lawful s p ≡ Some e → is_work s.machine p e ≡ true
chosen_work s p d e w h =
    (found (λ x. lawful s p x) (is_work s.machine p) (worker_list s p) e (worker_work s p) (subst (λ xs. find (λ x. lawful s p x) xs ≡ Some e) (worker_list_of s p d w) h)).1
