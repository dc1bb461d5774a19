-- An order is done: what a run keeps of its orders goes one place on.
use Rattle.std.proofs.Common.{◌≡◌, ◌≢◌, ℕ, Bool, true, false, not, zero, suc, ◌+◌, ◌<◌, ◌≤◌, List, [], ◌∷◌, ◌++◌, length, map, take, drop, get_or, set, Some, None, refl, sym, ap, subst, ◌∙◌, arith}
use Rattle.std.specs.Prelude.{Option, slice_get, option_map, nat_lt, ◌==◌, if◌then◌else◌}
use Rattle.std.specs.List.{sum_by}
use Rattle.std.proofs.Math.Seq.{map-set_same}
use Rattle.std.proofs.lemmas.Bool.{ltb-false}
use Rattle.std.proofs.lemmas.List.{get_or_past, length-map, take_more_set, drop-set-lt, drop-append-le, drop_all}
use Rattle.std.proofs.lemmas.List.Sums.{sum_by-drop_more}
use Rattle.std.proofs.lemmas.Option.{slice_get-get_or, slice_get-map}
use Rattle.vm_law.specs.declared.script.Order.{Order}
use Rattle.blk_queue.specs.declared.progress.Progress.{Progress}
use Rattle.blk_queue.specs.declared.progress.Unfinished.{Unfinished}
use Rattle.blk_queue.specs.Progress.{is_busy, is_waiting, works}
use Rattle.blk_queue.specs.Queue.{Queue, request_of, some_request}
use Rattle.blk_queue.specs.Sound.{IsSound as IsQueue, passes}
use Rattle.blk_queue.proofs.Names.{names_one}
use Rattle.vm_state.specs.declared.cpu.Cpu.{Cpu}
use Rattle.vm_state.specs.declared.drive.Drive.{Drive}
use Rattle.vm_state.specs.Machine.{MachineState, cpu_at, cpu_count, drive_at, drive_count, is_frozen, no_drive, unstarted_cpu}
use Rattle.vm_state.specs.State.{State, next_order}
use Rattle.vm_orders.specs.Done.{answer_of, cancel_said, noted, noted_as, said_by}
use Rattle.vm_state.specs.declared.run_state.Said.TheVariants as said
use Rattle.vm_state.specs.declared.run_state.Answer.{Answer}
use Rattle.vm_state.specs.declared.run_state.Said.{Said}
use Rattle.vm_state.specs.declared.run_state.Why.{Why}
use Rattle.vm_state.specs.declared.run_state.Why.TheVariants.{Finished}
use Rattle.vm_state.specs.declared.run_state.Sample.{Sample}
use Rattle.vm_state.specs.View.{script_of, answers_of, samples_in, samples_of, input_length, bytes_in, IsReserved}

abbrev pub with_said : Answer → Said → Answer
with_said x said = record x { said = said }

-- the orders with what was said to the one at place p
abbrev pub answered : List Answer → ℕ → Answer → Said → List Answer
answered os p d said = set os p (with_said (get_or os p d) said)

pub same_script : (os : List Answer) (p : ℕ) (d : Answer) (said : Said) → script_of (answered os p d said) ≡ script_of os
same_script os p d said = map-set_same (λ (x : Answer). x.order) os p (with_said (get_or os p d) said) d refl

pub one_answer : (os : List Answer) (p : ℕ) (d : Answer) (said : Said) → p < length os
    → answers_of (answered os p d said) (p + 1) ≡ answers_of os p ++ with_said (get_or os p d) said ∷ []
one_answer os p d said l = take_more_set os p (with_said (get_or os p d) said) l

other_get : {X : Type 0} (xs : List X) (i k : ℕ) (y : X) → k ≢ i → slice_get (set xs i y) k ≡ slice_get xs k
other_get [] i k y ne = refl
other_get (x ∷ xs) zero zero y ne = absurd (ne refl)
other_get (x ∷ xs) zero (suc k) y ne = refl
other_get (x ∷ xs) (suc i) zero y ne = refl
other_get (x ∷ xs) (suc i) (suc k) y ne = other_get xs i k y (λ e. ne (ap suc e))

samples_after : (os : List Answer) (p k : ℕ) (y : Answer) → p < k → samples_of (set os p y) k ≡ samples_of os k
samples_after os p k y l = ap samples_in (other_get os p k y (λ e. absurd (omega (arith, e, l))))

pub no_samples : (os : List Answer) (p filled capacity : ℕ) (d : Answer) (said : Said) → IsReserved os p filled capacity → samples_of (answered os p d said) (p + 1) ≡ []
no_samples os p filled capacity d said h = samples_after os p (p + 1) (with_said (get_or os p d) said) (omega arith) ∙ h.untouched (p + 1) (omega arith)

-- the bytes of this order have room, and then those of the orders behind it
pub room_for_bytes : (os : List Answer) (p filled capacity : ℕ) (d : Answer) → p < length os → IsReserved os p filled capacity → filled + length (bytes_in (get_or os p d).order) ≤ capacity
room_for_bytes os p filled capacity d l h =
    let sum = sum_by-drop_more input_length os p d l in
    let all = h.input in
    omega (arith, sum, all)

pub still_reserved : (os : List Answer) (p filled more capacity : ℕ) (d : Answer) (said : Said) → p < length os → more ≤ filled + length (bytes_in (get_or os p d).order) → IsReserved os p filled capacity
    → IsReserved (answered os p d said) (p + 1) more capacity
still_reserved os p filled more capacity d said l m h = record {
  untouched = λ k past. samples_after os p k (with_said (get_or os p d) said) (omega (arith, past)) ∙ h.untouched k (omega (arith, past));
  input =
      let sum = sum_by-drop_more input_length os p d l in
      let all = h.input in
      let behind : sum_by input_length (drop (p + 1) (answered os p d said)) ≡ sum_by input_length (drop (p + 1) os) =
      ap (λ xs. sum_by input_length xs) (drop-set-lt (p + 1) os p (with_said (get_or os p d) said) (omega arith)) in
      omega (arith, sum, all, behind, m);
}

-- ---- the input that isn't fed

pub fed_on : (xs ys : List ℕ) (fed : ℕ) → fed ≤ length xs → drop fed (xs ++ ys) ≡ drop fed xs ++ ys
fed_on xs ys fed l = drop-append-le fed xs ys l

pub all_fed : (xs : List ℕ) (fed : ℕ) → length xs ≤ fed → drop fed xs ≡ []
all_fed xs fed l = drop_all fed xs l

-- ---- the order that comes next

pub next_is : (os : List Answer) (p : ℕ) (d : Answer) → p < length os → slice_get (script_of os) p ≡ Some (get_or os p d).order
next_is os p d l = slice_get-map (λ (x : Answer). x.order) os p ∙ ap (λ (o : Option Answer). option_map (λ (x : Answer). x.order) o) (slice_get-get_or os p d l)

pub its_samples : (os : List Answer) (p : ℕ) (d : Answer) → p < length os → samples_of os p ≡ (get_or os p d).samples.items
its_samples os p d l = ap samples_in (slice_get-get_or os p d l)

-- ---- past the last vCPU and the last drive

pub none_frozen : (m : MachineState) (i : ℕ) → nat_lt i (cpu_count m) ≡ false → is_frozen (cpu_at m i).stage 0 ≡ false
unfolding unstarted_cpu
none_frozen m i h = ap (λ (c : Cpu). is_frozen c.stage 0) (get_or_past m.cpus i (unstarted_cpu i) (ltb-false i (cpu_count m) h))

pub said_past : (m : MachineState) (d id : ℕ) → nat_lt d (drive_count m) ≡ false → cancel_said (drive_at m d).queue id ≡ said.Unknown
unfolding no_drive
said_past m d id h = ap (λ (x : Drive). cancel_said x.queue id) (get_or_past m.drives d no_drive (ltb-false d (drive_count m) h))

-- ---- what is said to a cancel

said_at : (o : Option Unfinished) → said_by (option_map (λ (x : Unfinished). x.progress) o) ≡ (if passes is_waiting o then said.Done else if passes is_busy o then said.Busy else said.Unknown)
said_at None = refl
said_at (Some x) = by_works (works x.progress) refl
  where
    by_works : (b : Bool) → works x.progress ≡ b → (if b then said.Busy else said.Done) ≡ (if not b then said.Done else if b then said.Busy else said.Unknown)
    by_works true e = refl
    by_works false e = refl

pub said_known : (q : Queue) (id : ℕ) (o : Option Progress) → IsQueue q → o ≡ option_map (λ (x : Unfinished). x.progress) (request_of q id) → said_by o ≡ cancel_said q id
said_known q id o h e =
    let n = names_one q h in
    ap said_by e ∙ said_at (request_of q id)
    ∙ ap (λ (b : Bool). if b then said.Done else if passes is_busy (request_of q id) then said.Busy else said.Unknown) (sym (n.test id is_waiting))
    ∙ ap (λ (b : Bool). if some_request q id is_waiting then said.Done else if b then said.Busy else said.Unknown) (sym (n.test id is_busy))

-- ---- a run whose next order is done

pub note_reserved : (os : List Answer) (p filled more capacity : ℕ) (x : Answer) (said : Said) → x ≡ get_or os p x → p < length os → more ≤ filled + length (bytes_in x.order) → IsReserved os p filled capacity
    → IsReserved (set os p (with_said x said)) (p + 1) more capacity
note_reserved os p filled more capacity x said is l m h =
    subst (λ (y : Answer). IsReserved (set os p (with_said y said)) (p + 1) more capacity) (sym is)
    (still_reserved os p filled more capacity x said l (subst (λ (y : Answer). more ≤ filled + length (bytes_in y.order)) is m) h)

-- what a run keeps of its orders and input, before and after
pub record IsKept (s : State) (os : List Answer) (items : List ℕ) (fed : ℕ) : Type 0 where
  pub script : s.script ≡ script_of os
  pub answers : s.answers ≡ answers_of os s.place
  pub samples : s.samples ≡ samples_of os s.place
  pub input : s.input ≡ drop fed items
  pub within : s.place < length os
  pub not_past : fed ≤ length items

next_kept : (s : State) (os : List Answer) (x : Answer) → s.script ≡ script_of os → x ≡ get_or os s.place x → s.place < length os → next_order s ≡ Some x.order
unfolding next_order
next_kept s os x e is l = ap (λ (xs : List Order). slice_get xs s.place) e ∙ next_is os s.place x l ∙ ap (λ (y : Answer). Some y.order) (sym is)

pub note_state : (s : State) (os : List Answer) (x : Answer) (said : Said) (items more : List ℕ) (fed capacity filled : ℕ) (why : Option Why) → IsKept s os items fed → IsReserved os s.place filled capacity → x ≡ get_or os s.place x
    → more ≡ items ++ bytes_in x.order → why ≡ (if s.place + 1 == length os then Some Finished else s.ended)
    → record s {
      script = script_of (set os s.place (with_said x said));
      place = s.place + 1;
      begun = false;
      input = drop fed more;
      answers = answers_of (set os s.place (with_said x said)) (s.place + 1);
      samples = samples_of (set os s.place (with_said x said)) (s.place + 1);
      ended = why;
    } ≡ noted_as s (next_order s) said
unfolding noted
note_state s os x said items more fed capacity filled why k h is grown whys =
    let p : ℕ = s.place in
    let y : Answer = with_said x said in
    let script : script_of (set os p y) ≡ s.script = map-set_same (λ (z : Answer). z.order) os p y x (ap (λ (z : Answer). z.order) is) ∙ sym k.script in
    let answers : answers_of (set os p y) (p + 1) ≡ s.answers ++ y ∷ [] = take_more_set os p y k.within ∙ ap (λ (xs : List Answer). xs ++ y ∷ []) (sym k.answers) in
    let none : samples_of (set os p y) (p + 1) ≡ [] = samples_after os p (p + 1) y (omega arith) ∙ h.untouched (p + 1) (omega arith) in
    let input : drop fed more ≡ s.input ++ bytes_in x.order = ap (λ (xs : List ℕ). drop fed xs) grown ∙ fed_on items (bytes_in x.order) fed k.not_past ∙ ap (λ (xs : List ℕ). xs ++ bytes_in x.order) (sym k.input) in
    let long : length os ≡ length s.script = sym (length-map os (λ (z : Answer). z.order)) ∙ ap (λ (xs : List Order). length xs) (sym k.script) in
    let ends : why ≡ (if p + 1 == length s.script then Some Finished else s.ended) = whys ∙ ap (λ (n : ℕ). if p + 1 == n then Some Finished else s.ended) long in
    let noticed : y ≡ answer_of s x.order said =
    ap (λ (xs : List Sample). record { order = x.order; said = said; samples = record { items = xs } }) (sym (k.samples ∙ its_samples os p x k.within ∙ ap (λ (z : Answer). z.samples.items) (sym is))) in
    ap (λ (xs : List Order). record s { script = xs; place = p + 1; begun = false; input = drop fed more; answers = answers_of (set os p y) (p + 1); samples = samples_of (set os p y) (p + 1); ended = why }) script
    ∙ ap (λ (xs : List ℕ). record s { place = p + 1; begun = false; input = xs; answers = answers_of (set os p y) (p + 1); samples = samples_of (set os p y) (p + 1); ended = why }) input
    ∙ ap (λ (xs : List Answer). record s { place = p + 1; begun = false; input = s.input ++ bytes_in x.order; answers = xs; samples = samples_of (set os p y) (p + 1); ended = why }) answers
    ∙ ap (λ (xs : List Sample). record s { place = p + 1; begun = false; input = s.input ++ bytes_in x.order; answers = s.answers ++ y ∷ []; samples = xs; ended = why }) none
    ∙ ap (λ (w : Option Why). record s { place = p + 1; begun = false; input = s.input ++ bytes_in x.order; answers = s.answers ++ y ∷ []; samples = []; ended = w }) ends
    ∙ ap (λ (z : Answer). record s { place = p + 1; begun = false; input = s.input ++ bytes_in x.order; answers = s.answers ++ z ∷ []; samples = []; ended = if p + 1 == length s.script then Some Finished else s.ended }) noticed
    ∙ ap (λ (o : Option Order). noted_as s o said) (sym (next_kept s os x k.script is k.within))
