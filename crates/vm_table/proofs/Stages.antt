-- What isn't lawful by the stage of a vCPU alone.
use Rattle.std.specs.List.{find}
use Rattle.std.proofs.lemmas.Bool.Decides.{nat_tests}
use Rattle.std.proofs.Common.{◌≡◌, ℕ, ◌==◌, ◌+◌, ◌-◌, ◌<◌, arith, Bool, true, false, not, ◌&&◌, ◌||◌, cond, List, [], ◌∷◌, ◌++◌, Some, refl, ap, ◌∙◌}
use Rattle.std.specs.Prelude.{None, map, nat_le, is_some, is_none}
use Rattle.vm_law.specs.declared.journal.EndCause.TheVariants.{Budget}
use Rattle.vm_law.specs.declared.journal.Entry.{Entry}
use Rattle.vm_law.specs.declared.journal.Entry.TheVariants.{Claim, Close, Done, End, Enter, Exit, Feed, Meet, Sleep, Start, Step, Tick, Turn, Wake, Wish, Yield}
use Rattle.vm_law.specs.declared.stage.Owned.{Owned}
use Rattle.vm_law.specs.declared.stage.Owned.TheVariants.{Frozen, Idle, Running, Sleeping}
use Rattle.vm_owners.specs.Owners.{may_claim, may_sleep, may_start, may_wake, may_yield}
use Rattle.vm_owners.specs.Turn.{may_turn}
use Rattle.vm_meet.specs.Meeting.{awaits, names}
use Rattle.vm_running.specs.Enter.{may_enter}
use Rattle.vm_state.specs.Machine.{cpu_at, cpu_count, cpu_numbers, is_awake, is_cpu, is_eager, is_frozen, is_idle, is_running, is_sleeping}
use Rattle.vm_state.specs.State.{State, open_grants}
use Rattle.vm_orders.specs.Duties.{tick_of}
use Rattle.vm_table.proofs.Firsts.{none_before, none_in}
use Rattle.vm_table.specs.Choosing.{NoneIsFree, care_of, is_free, where_lawful}
use Rattle.vm_table.specs.declared.choosing.Care.{Care}
use Rattle.vm_table.specs.declared.choosing.Care.TheVariants as cares
use Rattle.vm_table.specs.Table.{allowed, lawful}
use Rattle.vm_table.specs.Turns.{control_list, exit_where_due, first_lawful, grant_of, is_exit_due, list_of, runner_list}

not_idle : (o : Owned) (q : ℕ) → is_running o q ≡ true → is_idle o ≡ false
not_idle Idle q h = absurd cc
not_idle (Frozen p) q h = refl
not_idle (Running p) q h = refl
not_idle (Sleeping p) q h = refl

not_frozen : (o : Owned) (q : ℕ) → is_running o q ≡ true → is_frozen o q ≡ false
not_frozen Idle q h = refl
not_frozen (Frozen p) q h = absurd cc
not_frozen (Running p) q h = refl
not_frozen (Sleeping p) q h = refl

not_sleeping : (o : Owned) (q : ℕ) → is_running o q ≡ true → is_sleeping o q ≡ false
not_sleeping Idle q h = refl
not_sleeping (Frozen p) q h = refl
not_sleeping (Running p) q h = refl
not_sleeping (Sleeping p) q h = absurd cc

pub pair_false : (a b : Bool) → b ≡ false → (a && b) ≡ false
pair_false true b h = h
pair_false false b h = refl

pub not_lawful : (s : State) (p : ℕ) (e : Entry) → allowed s p e ≡ false → lawful s p e ≡ false
unfolding lawful
not_lawful s p e h = go (not s.closed) where
  go : (a : Bool) → (a && allowed s p e) ≡ false
  go true = h
  go false = refl

-- ---- what each entry asks of the stage of its vCPU

module _ (s : State) (p i : ℕ) where
  no_claim : is_idle (cpu_at s.machine i).stage ≡ false → allowed s p (Claim i) ≡ false
  unfolding allowed may_claim
  no_claim h = ap (λ (x : Bool). x && (((p == 1 + i) && not s.machine.pause && is_none s.ended) || ((p == 1 + i) && awaits s.machine.meet i) || ((p == 0) && s.machine.pause && is_none s.ended))) (pair_false (is_cpu s.machine i) (is_idle (cpu_at s.machine i).stage) h)

  no_wake : is_sleeping (cpu_at s.machine i).stage p ≡ false → allowed s p (Wake i) ≡ false
  unfolding allowed may_wake
  no_wake h = ap (λ (x : Bool). x && (is_eager (cpu_at s.machine i) || names s.machine.meet i || s.machine.pause || is_some s.ended)) (pair_false (is_cpu s.machine i) (is_sleeping (cpu_at s.machine i).stage p) h)

  no_turn : is_frozen (cpu_at s.machine i).stage p ≡ false → allowed s p (Turn i) ≡ false
  unfolding allowed may_turn
  no_turn h = ap (λ (x : Bool). x && awaits s.machine.meet i) (pair_false (is_cpu s.machine i) (is_frozen (cpu_at s.machine i).stage p) h)

  no_yield : is_frozen (cpu_at s.machine i).stage p ≡ false → allowed s p (Yield i) ≡ false
  unfolding allowed may_yield
  no_yield h = ap (λ (x : Bool). x && not (names s.machine.meet i) && (is_some s.ended || (not (p == 0) && s.machine.pause) || ((p == 0) && not s.machine.pause))) (pair_false (is_cpu s.machine i) (is_frozen (cpu_at s.machine i).stage p) h)

  no_start : is_frozen (cpu_at s.machine i).stage p ≡ false → allowed s p (Start i) ≡ false
  unfolding allowed may_start
  no_start h = ap (λ (x : Bool). x && (p == 1 + i) && is_some (cpu_at s.machine i).startup && not s.machine.pause && is_none s.ended) (pair_false (is_cpu s.machine i) (is_frozen (cpu_at s.machine i).stage p) h)

  no_enter : (grant : ℕ) → is_frozen (cpu_at s.machine i).stage p ≡ false → allowed s p (Enter i grant) ≡ false
  unfolding allowed may_enter
  no_enter grant h = ap (λ (x : Bool). x && (p == 1 + i) && (cpu_at s.machine i).started && is_awake (cpu_at s.machine i) && is_none s.machine.meet && not s.machine.pause && is_none s.ended && nat_le 1 grant && nat_le grant 1024 && nat_le (s.executed + open_grants s.seats + grant) s.limit) (pair_false (is_cpu s.machine i) (is_frozen (cpu_at s.machine i).stage p) h)

  no_sleep : is_frozen (cpu_at s.machine i).stage p ≡ false → allowed s p (Sleep i) ≡ false
  unfolding allowed may_sleep
  no_sleep h = ap (λ (x : Bool). x && (p == 1 + i) && not (is_eager (cpu_at s.machine i)) && not (names s.machine.meet i) && not s.machine.pause && is_none s.ended) (pair_false (is_cpu s.machine i) (is_frozen (cpu_at s.machine i).stage p) h)

-- ---- a pass that runs a vCPU

module _ (s : State) (p i : ℕ) (runs : is_running (cpu_at s.machine i).stage p ≡ true) where
  idle : is_idle (cpu_at s.machine i).stage ≡ false
  idle = not_idle (cpu_at s.machine i).stage p runs

  frozen : is_frozen (cpu_at s.machine i).stage p ≡ false
  frozen = not_frozen (cpu_at s.machine i).stage p runs

  sleeping : is_sleeping (cpu_at s.machine i).stage p ≡ false
  sleeping = not_sleeping (cpu_at s.machine i).stage p runs

  passed : (e : Entry) (xs : List Entry) → allowed s p e ≡ false → find (λ x. lawful s p x) (e ∷ xs) ≡ find (λ x. lawful s p x) xs
  passed e xs h = ap (λ (b : Bool). cond b (Some e) (find (λ x. lawful s p x) xs)) (not_lawful s p e h)

  -- of its list the last two are left
  pub running_last : find (λ e. lawful s p e) (runner_list s i) ≡ find (λ e. lawful s p e) (exit_where_due s i ++ Step i ∷ [])
  unfolding runner_list
  running_last =
      passed (Claim i) (Wake i ∷ Turn i ∷ Yield i ∷ Start i ∷ Enter i (grant_of s) ∷ Sleep i ∷ (exit_where_due s i ++ Step i ∷ [])) (no_claim s p i idle)
      ∙ passed (Wake i) (Turn i ∷ Yield i ∷ Start i ∷ Enter i (grant_of s) ∷ Sleep i ∷ (exit_where_due s i ++ Step i ∷ [])) (no_wake s p i sleeping)
      ∙ passed (Turn i) (Yield i ∷ Start i ∷ Enter i (grant_of s) ∷ Sleep i ∷ (exit_where_due s i ++ Step i ∷ [])) (no_turn s p i frozen)
      ∙ passed (Yield i) (Start i ∷ Enter i (grant_of s) ∷ Sleep i ∷ (exit_where_due s i ++ Step i ∷ [])) (no_yield s p i frozen)
      ∙ passed (Start i) (Enter i (grant_of s) ∷ Sleep i ∷ (exit_where_due s i ++ Step i ∷ [])) (no_start s p i frozen)
      ∙ passed (Enter i (grant_of s)) (Sleep i ∷ (exit_where_due s i ++ Step i ∷ [])) (no_enter s p i (grant_of s) frozen)
      ∙ passed (Sleep i) ((exit_where_due s i ++ Step i ∷ [])) (no_sleep s p i frozen)

-- a pass that runs a vCPU of which no Exit is due has a Step alone
pub step_alone : (s : State) (p i : ℕ) → is_running (cpu_at s.machine i).stage p ≡ true → is_exit_due s i ≡ false
    → find (λ e. lawful s p e) (runner_list s i) ≡ where_lawful s p (Step i)
step_alone s p i runs due =
    running_last s p i runs ∙ ap (λ (b : Bool). find (λ e. lawful s p e) (cond b (Exit i ∷ []) [] ++ Step i ∷ [])) due

-- so has the pass of a vCPU, whose number is one more
pub pass_steps_alone : (s : State) (p i : ℕ) → p ≡ 1 + i → i < cpu_count s.machine → is_running (cpu_at s.machine i).stage p ≡ true → is_exit_due s i ≡ false
    → first_lawful s p ≡ where_lawful s p (Step i)
unfolding list_of
pass_steps_alone s p i e l runs due =
    let zero : (p == 0) ≡ false = grind (arith, nat_tests, e) in
    let within : nat_le p (cpu_count s.machine) ≡ true = grind (arith, nat_tests, e, l) in
    let same : p - 1 ≡ i = omega arith in
    rw (zero, within, same) (step_alone s p i runs due)

-- ---- control

not_free : (o : Owned) → is_free o ≡ false → (is_idle o ≡ false) × (is_frozen o 0 ≡ false)
not_free Idle h = absurd cc
not_free (Frozen p) h = (refl, h)
not_free (Running p) h = (refl, refl)
not_free (Sleeping p) h = (refl, refl)

-- it has no entry of a vCPU that isn't free
pub no_care : (s : State) (care : Care) (i : ℕ) → is_free (cpu_at s.machine i).stage ≡ false → lawful s 0 (care_of care i) ≡ false
no_care s cares.Turn i h = not_lawful s 0 (Turn i) (no_turn s 0 i (not_free (cpu_at s.machine i).stage h).1)
no_care s cares.Yield i h = not_lawful s 0 (Yield i) (no_yield s 0 i (not_free (cpu_at s.machine i).stage h).1)
no_care s cares.Claim i h = not_lawful s 0 (Claim i) (no_claim s 0 i (not_free (cpu_at s.machine i).stage h).0)

-- control's entries for no vCPU by itself
abbrev pub for_all : State → List Entry
for_all s = Feed ∷ Tick (tick_of s) ∷ End Budget ∷ Wish ∷ Meet ∷ Done s.place ∷ Close ∷ []

module _ (s : State) (none : NoneIsFree s) where
  no_cares : (care : Care) → find (λ e. lawful s 0 e) (map (care_of care) (cpu_numbers s.machine)) ≡ None
  no_cares care = none_in (λ e. lawful s 0 e) (care_of care) (cpu_count s.machine) 0 (λ i low high. no_care s care i (none i (omega (arith, high))))

  -- where no vCPU is free control's first entries aren't lawful
  pub control_last : find (λ e. lawful s 0 e) (control_list s) ≡ find (λ e. lawful s 0 e) (for_all s)
  unfolding control_list
  control_last =
      let P = λ (e : Entry). lawful s 0 e in
      let turns = map (λ (i : ℕ). Turn i) (cpu_numbers s.machine) in
      let yields = map (λ (i : ℕ). Yield i) (cpu_numbers s.machine) in
      let claims = map (λ (i : ℕ). Claim i) (cpu_numbers s.machine) in
      none_before P (turns ++ yields ++ claims) (for_all s)
      (none_before P (turns ++ yields) claims (none_before P turns yields (no_cares cares.Turn) ∙ no_cares cares.Yield) ∙ no_cares cares.Claim)
