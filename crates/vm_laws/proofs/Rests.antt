-- What is not lawful where a pass has nothing to add.
use Rattle.std.proofs.Common.{◌≡◌, ℕ, ◌+◌, ◌-◌, ◌<◌, Bool, true, false, List, [], ◌∷◌, ◌++◌, map, filter, refl, sym, ap, ◌∙◌, arith, None}
use Rattle.std.specs.Prelude.{◌&&◌, ◌==◌, nat_le}
use Rattle.std.specs.List.{list_any}
use Rattle.std.proofs.lemmas.Bool.{or_parts}
use Rattle.std.proofs.lemmas.Bool.Decides.{nat_tests}
use Rattle.vm_law.specs.declared.journal.Entry.{Entry}
use Rattle.vm_law.specs.declared.journal.Entry.TheVariants.{Claim, Step, Exit, Yield, Turn, Pull, Move, Hold, Finish, Feed, Wish, Meet, Done, End, Close, Tick}
use Rattle.vm_law.specs.declared.journal.EndCause.TheVariants.{Budget}
use Rattle.blk_queue.specs.declared.progress.Unfinished.{Unfinished}
use Rattle.blk_queue.specs.Steps.{first_pending}
use Rattle.vm_state.specs.Machine.{cpu_count, cpu_numbers, drive_at, drive_count, drive_numbers}
use Rattle.vm_state.specs.Requests.{is_worker, is_busy_by}
use Rattle.vm_state.specs.State.{State}
use Rattle.vm_owners.specs.Owners.{may_claim, may_start, may_exit, may_sleep, may_wake, may_yield}
use Rattle.vm_owners.specs.Turn.{may_turn}
use Rattle.vm_running.specs.Enter.{may_enter}
use Rattle.vm_running.specs.Step.{may_step}
use Rattle.vm_disks.specs.Queueing.{may_pull}
use Rattle.vm_disks.specs.Moving.{may_move, may_finish}
use Rattle.vm_disks.specs.Images.{may_hold}
use Rattle.vm_orders.specs.Duties.{may_meet, may_feed, may_wish, may_tick, tick_of}
use Rattle.vm_orders.specs.Done.{may_done}
use Rattle.vm_orders.specs.Ending.{may_end, may_close}
use Rattle.vm_table.specs.Table.{allowed, lawful}
use Rattle.vm_table.specs.Turns.{is_exit_due, grant_of, runner_list, busy_with, begin_first, drive_list, where_worker, worker_list, control_list, list_of, first_lawful}
use Rattle.vm_laws.proofs.Lists.{any-map, any-filter, none_below, find_none, under_open, where_last, append_parts, none-flat}

-- the pass's list has nothing that is allowed
none_of : (s : State) (p : ℕ) → s.closed ≡ false → first_lawful s p ≡ None → list_any (allowed s p) (list_of s p) ≡ false
unfolding lawful
none_of s p going none = sym (under_open (allowed s p) (list_of s p) s.closed going) ∙ find_none (λ e. lawful s p e) (list_of s p) none

-- ---- the runner of vCPU i

runner_turn : (s : State) (i : ℕ) → i < cpu_count s.machine → list_of s (1 + i) ≡ runner_list s i
unfolding list_of
runner_turn s i l =
    let z : (1 + i == 0) ≡ false = grind (arith, nat_tests) in
    let w : nat_le (1 + i) (cpu_count s.machine) ≡ true = grind (arith, nat_tests) in
    let e : 1 + i - 1 ≡ i = omega arith in
    rw (z, w, e) refl

pub record RunnerRests (s : State) (i : ℕ) : Type 0 where
  pub claim : may_claim s (1 + i) i ≡ false
  pub wake : may_wake s (1 + i) i ≡ false
  pub turn : may_turn s (1 + i) i ≡ false
  pub yield : may_yield s (1 + i) i ≡ false
  pub start : may_start s (1 + i) i ≡ false
  pub enter : may_enter s (1 + i) i (grant_of s) ≡ false
  pub sleep : may_sleep s (1 + i) i ≡ false
  pub exit : is_exit_due s i ≡ true → may_exit s (1 + i) i ≡ false
  pub step : may_step s (1 + i) i ≡ false

runner_parts : (s : State) (i : ℕ) → list_any (allowed s (1 + i)) (runner_list s i) ≡ false → RunnerRests s i
unfolding allowed runner_list
runner_parts s i h =
    let a = or_parts (may_claim s (1 + i) i) _ h in
    let b = or_parts (may_wake s (1 + i) i) _ a.1 in
    let c = or_parts (may_turn s (1 + i) i) _ b.1 in
    let d = or_parts (may_yield s (1 + i) i) _ c.1 in
    let e = or_parts (may_start s (1 + i) i) _ d.1 in
    let f = or_parts (may_enter s (1 + i) i (grant_of s)) _ e.1 in
    let g = or_parts (may_sleep s (1 + i) i) _ f.1 in
    let k = where_last (allowed s (1 + i)) (Exit i) (Step i) (is_exit_due s i) g.1 in
    record { claim = a.0; wake = b.0; turn = c.0; yield = d.0; start = e.0; enter = f.0; sleep = g.0; exit = k.0; step = k.1 }

pub runner_rests : (s : State) (i : ℕ) → s.closed ≡ false → i < cpu_count s.machine → first_lawful s (1 + i) ≡ None → RunnerRests s i
runner_rests s i going l none =
    runner_parts s i (ap (λ (es : List Entry). list_any (allowed s (1 + i)) es) (sym (runner_turn s i l)) ∙ none_of s (1 + i) going none)

-- ---- control

pub record ControlRests (s : State) : Type 0 where
  pub turn : (i : ℕ) → i < cpu_count s.machine → may_turn s 0 i ≡ false
  pub yield : (i : ℕ) → i < cpu_count s.machine → may_yield s 0 i ≡ false
  pub claim : (i : ℕ) → i < cpu_count s.machine → may_claim s 0 i ≡ false
  pub feed : may_feed s 0 ≡ false
  pub ticks : may_tick s 0 (tick_of s) ≡ false
  pub over : may_end s 0 Budget ≡ false
  pub wish : may_wish s 0 ≡ false
  pub meet : may_meet s 0 ≡ false
  pub done : may_done s 0 s.place ≡ false
  pub close : may_close s 0 ≡ false

control_parts : (s : State) → list_any (allowed s 0) (control_list s) ≡ false → ControlRests s
unfolding allowed control_list
control_parts s h =
    let t : Entry → Bool = allowed s 0 in
    let turns = map (λ i. Turn i) (cpu_numbers s.machine) in
    let yields = map (λ i. Yield i) (cpu_numbers s.machine) in
    let claims = map (λ i. Claim i) (cpu_numbers s.machine) in
    let rest = Feed ∷ Tick (tick_of s) ∷ End Budget ∷ Wish ∷ Meet ∷ Done s.place ∷ Close ∷ [] in
    let a = append_parts t (turns ++ yields ++ claims) rest h in
    let b = append_parts t (turns ++ yields) claims a.0 in
    let c = append_parts t turns yields b.0 in
    let e0 = or_parts (may_feed s 0) _ a.1 in
    let e1 = or_parts (may_tick s 0 (tick_of s)) _ e0.1 in
    let e2 = or_parts (may_end s 0 Budget) _ e1.1 in
    let e3 = or_parts (may_wish s 0) _ e2.1 in
    let e4 = or_parts (may_meet s 0) _ e3.1 in
    let e5 = or_parts (may_done s 0 s.place) _ e4.1 in
    let e6 = or_parts (may_close s 0) _ e5.1 in
    record {
      turn = λ i l. none_below (λ i. may_turn s 0 i) (cpu_count s.machine) i l (sym (any-map (allowed s 0) (λ i. Turn i) (cpu_numbers s.machine)) ∙ c.0);
      yield = λ i l. none_below (λ i. may_yield s 0 i) (cpu_count s.machine) i l (sym (any-map (allowed s 0) (λ i. Yield i) (cpu_numbers s.machine)) ∙ c.1);
      claim = λ i l. none_below (λ i. may_claim s 0 i) (cpu_count s.machine) i l (sym (any-map (allowed s 0) (λ i. Claim i) (cpu_numbers s.machine)) ∙ b.1);
      feed = e0.0;
      ticks = e1.0;
      over = e2.0;
      wish = e3.0;
      meet = e4.0;
      done = e5.0;
      close = e6.0;
    }

control_turn : (s : State) → list_of s 0 ≡ control_list s
unfolding list_of
control_turn s = refl

pub control_rests : (s : State) → s.closed ≡ false → first_lawful s 0 ≡ None → ControlRests s
control_rests s going none = control_parts s (ap (λ (es : List Entry). list_any (allowed s 0) es) (sym (control_turn s)) ∙ none_of s 0 going none)

-- ---- a worker of disk d

pub record WorkerRests (s : State) (p d : ℕ) : Type 0 where
  pub finish : list_any (λ (x : Unfinished). is_busy_by p x && may_finish s p d x.id) (drive_at s.machine d).queue.requests ≡ false
  pub move : list_any (λ (x : Unfinished). is_busy_by p x && may_move s p d x.id) (drive_at s.machine d).queue.requests ≡ false
  pub hold : list_any (λ (x : Unfinished). is_busy_by p x && may_hold s p d x.id) (drive_at s.machine d).queue.requests ≡ false
  pub begin : list_any (allowed s p) (begin_first d (first_pending (drive_at s.machine d).queue)) ≡ false
  pub pull : may_pull s p d ≡ false

of_busy : (s : State) (p d : ℕ) (t : ℕ → Bool) → list_any t (busy_with s p d) ≡ list_any (λ (x : Unfinished). is_busy_by p x && t x.id) (drive_at s.machine d).queue.requests
of_busy s p d t =
    any-map t (λ (x : Unfinished). x.id) (filter (is_busy_by p) (drive_at s.machine d).queue.requests)
    ∙ any-filter (λ (x : Unfinished). t x.id) (is_busy_by p) (drive_at s.machine d).queue.requests

worker_parts : (s : State) (p d : ℕ) → list_any (allowed s p) (drive_list s p d) ≡ false → WorkerRests s p d
unfolding allowed drive_list
worker_parts s p d h =
    let t = allowed s p in
    let finishes = map (λ id. Finish d id) (busy_with s p d) in
    let moves = map (λ id. Move d id) (busy_with s p d) in
    let holds = map (λ id. Hold d id) (busy_with s p d) in
    let begins = begin_first d (first_pending (drive_at s.machine d).queue) in
    let a = append_parts t (finishes ++ moves ++ holds ++ begins) (Pull d ∷ []) h in
    let b = append_parts t (finishes ++ moves ++ holds) begins a.0 in
    let c = append_parts t (finishes ++ moves) holds b.0 in
    let e = append_parts t finishes moves c.0 in
    record {
      finish = sym (any-map t (λ id. Finish d id) (busy_with s p d) ∙ of_busy s p d (λ id. may_finish s p d id)) ∙ e.0;
      move = sym (any-map t (λ id. Move d id) (busy_with s p d) ∙ of_busy s p d (λ id. may_move s p d id)) ∙ e.1;
      hold = sym (any-map t (λ id. Hold d id) (busy_with s p d) ∙ of_busy s p d (λ id. may_hold s p d id)) ∙ c.1;
      begin = b.1;
      pull = (or_parts (may_pull s p d) false a.1).0;
    }

worker_turn : (s : State) (p : ℕ) → cpu_count s.machine < p → list_of s p ≡ worker_list s p
unfolding list_of
worker_turn s p l =
    let z : (p == 0) ≡ false = grind (arith, nat_tests) in
    let w : nat_le p (cpu_count s.machine) ≡ false = grind (arith, nat_tests) in
    rw (z, w) refl

of_disk : (s : State) (p d : ℕ) → is_worker s.machine p d ≡ true → where_worker s p d ≡ drive_list s p d
of_disk s p d w = rw w refl

disk_none : (s : State) (p d : ℕ) → d < drive_count s.machine → list_any (allowed s p) (worker_list s p) ≡ false → list_any (allowed s p) (where_worker s p d) ≡ false
unfolding worker_list
disk_none s p d l h =
    none_below (λ k. list_any (allowed s p) (where_worker s p k)) (drive_count s.machine) d l (sym (none-flat (allowed s p) (where_worker s p) (drive_numbers s.machine)) ∙ h)

pub worker_rests : (s : State) (p d : ℕ) → s.closed ≡ false → d < drive_count s.machine → cpu_count s.machine < p → is_worker s.machine p d ≡ true → first_lawful s p ≡ None → WorkerRests s p d
worker_rests s p d going l above w none =
    let whole : list_any (allowed s p) (worker_list s p) ≡ false =
    ap (λ (es : List Entry). list_any (allowed s p) es) (sym (worker_turn s p above)) ∙ none_of s p going none in
    worker_parts s p d (ap (λ (es : List Entry). list_any (allowed s p) es) (sym (of_disk s p d w)) ∙ disk_none s p d l whole)
