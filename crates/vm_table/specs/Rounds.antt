-- The rounds of one thread: each actor, in the order of the passes' numbers, takes one turn and then does its work outside.
-- calls is what the image calls of the workers answer, in their order.
use Rattle.std.specs.Prelude.{◌≡◌, ℕ, zero, suc, ◌+◌, ◌-◌, ◌/◌, min, Bool, true, false, not, ◌&&◌, ◌==◌, nat_le, nat_lt, List, [], ◌∷◌, ◌++◌, find, length, replicate, slice_index, slice_index_or, slice_set, Option, Some, None, if◌then◌else◌}
use Rattle.std.specs.List.{flat_map, list_all, range_with_len}
use Rattle.std.specs.Option.{option_to_list, option_map}
use Rattle.vm_law.specs.declared.journal.Entry.TheVariants.{Put, Slice}
use Rattle.vm_law.specs.declared.journal.Signed.{Signed}
use Rattle.x86_fetch.specs.Slices.{most_local, stepped_by}
use Rattle.vm_law.specs.declared.context.Ctx.{Ctx}
use Rattle.vm_state.specs.declared.image.Holder.{Holder}
use Rattle.vm_state.specs.declared.start.Start.{Start}
use Rattle.vm_state.specs.Machine.{code_of, cpu_at, cpu_count, drive_numbers, is_running}
use Rattle.vm_state.specs.Requests.{pass_count}
use Rattle.vm_state.specs.Start.{boot}
use Rattle.vm_state.specs.State.{State, image_at, seat_at}
use Rattle.vm_table.specs.History.{after_all}
use Rattle.vm_table.specs.Turns.{is_exit_due, first_lawful}

-- ---- what a runner has out: so many instructions, which it ran ahead over the code as it stood

-- the pages that it looked at, and the versions of all pages then
pub record Lease : Type 0 where
  pub ran : ℕ
  pub looked : List ℕ
  pub versions : List ℕ

abbrev pub no_lease : Lease
no_lease = record { ran = 0; looked = []; versions = [] }

-- the pages that hold a byte which is fetched at an address: at most 15 bytes, up to the end of the code
abbrev pub fetched_from : ℕ → ℕ → List ℕ
fetched_from size at = if nat_lt at size then (at / 4096) ∷ ((min (at + 15) size - 1) / 4096) ∷ [] else []

abbrev pub looked_at : List ℕ → Ctx → ℕ → List ℕ
looked_at code c k = fetched_from (length code) (stepped_by code c k).rip

-- those of the first n instructions, and of the one behind them where one more was granted
abbrev pub pages_looked : List ℕ → Ctx → ℕ → ℕ → List ℕ
pages_looked code c n granted = flat_map (looked_at code c) (range_with_len 0 (min (n + 1) granted))

-- the runner of i takes its vCPU's context out of the machine
abbrev pub leases : State → ℕ → Bool
leases s i = is_running (cpu_at s.machine i).stage (1 + i) && not (is_exit_due s i)

abbrev pub lease_of : List ℕ → Ctx → ℕ → List ℕ → Lease
lease_of code c granted versions =
    let n = most_local code c granted in record { ran = n; looked = pages_looked code c n granted; versions = versions }

-- it runs as many as are local and its grant allows
unfoldable pub run_outside : State → ℕ → Lease
run_outside s i = if leases s i then lease_of (code_of s.machine) (cpu_at s.machine i).ctx (seat_at s i).left s.versions else no_lease

-- each page that it looked at has kept its version
abbrev pub is_kept : State → Lease → Bool
is_kept s x = list_all (λ page. slice_index s.versions page == slice_index x.versions page) x.looked

-- ---- a run, its history, per vCPU what is out, per pass what its image call answered, and the answers to come
pub record Rounds : Type 0 where
  pub state : State
  pub history : List Signed
  pub leased : List Lease
  pub answered : List (Option Bool)
  pub calls : List Bool

abbrev pub added : Rounds → List Signed → Rounds
added r entries = record r { state = after_all r.state entries; history = r.history ++ entries }

-- the first lawful entry of the pass's list, if there is one
abbrev pub chosen : State → ℕ → List Signed
chosen s p = option_to_list (option_map (λ e. record { by = p; entry = e }) (first_lawful s p))

abbrev pub choose : Rounds → ℕ → Rounds
choose r p = added r (chosen r.state p)

-- ---- a runner

abbrev pub lease_at : Rounds → ℕ → Lease
lease_at r i = slice_index_or r.leased i no_lease

-- the instructions that are out come back
abbrev pub slice_back : ℕ → ℕ → List Signed
slice_back i zero = []
slice_back i (suc n) = record { by = 1 + i; entry = Slice i (suc n) } ∷ []

abbrev pub lease_back : State → ℕ → Lease → List Signed
lease_back s i x = if is_kept s x then slice_back i x.ran else []

abbrev pub runner_out : Rounds → ℕ → Rounds
runner_out r i = record r { leased = slice_set r.leased i (run_outside r.state i) }

unfoldable pub after_runner : Rounds → ℕ → Rounds
after_runner r i = runner_out (choose (added r (lease_back r.state i (lease_at r i))) (1 + i)) i

-- ---- a worker

abbrev pub answer_at : Rounds → ℕ → Option Bool
answer_at r p = slice_index_or r.answered p None

-- the drive whose image the pass has
abbrev pub is_its : ℕ → Option Holder → Bool
is_its p None = false
is_its p (Some h) = h.by == p

abbrev pub held_by : State → ℕ → Option ℕ
held_by s p = find (λ d. is_its p (image_at s d).holder) (drive_numbers s.machine)

-- the image comes back, with what its call answered
abbrev pub put_for : ℕ → ℕ → Option Holder → Bool → List Signed
put_for p d None ok = []
put_for p d (Some h) ok = record { by = p; entry = Put d h.id ok } ∷ []

abbrev pub put_back : State → ℕ → Option ℕ → Option Bool → List Signed
put_back s p (Some d) (Some ok) = put_for p d (image_at s d).holder ok
put_back s p d ok = []

-- its image call answers what comes next
abbrev pub call_answered : Rounds → ℕ → List Bool → Rounds
call_answered r p [] = record r { answered = slice_set r.answered p (Some true) }
call_answered r p (ok ∷ calls) = record r { answered = slice_set r.answered p (Some ok); calls = calls }

abbrev pub worker_out : Rounds → ℕ → Option ℕ → Rounds
worker_out r p None = record r { answered = slice_set r.answered p None }
worker_out r p (Some d) = call_answered r p r.calls

abbrev pub gone_out : Rounds → ℕ → Rounds
gone_out r p = worker_out r p (held_by r.state p)

unfoldable pub after_worker : Rounds → ℕ → Rounds
after_worker r p = gone_out (choose (added r (put_back r.state p (held_by r.state p) (answer_at r p))) p) p

-- ---- a round

-- the turn of a pass
unfoldable pub after_pass : Rounds → ℕ → Rounds
after_pass r p =
    if p == 0 then choose r 0
    else if nat_le p (cpu_count r.state.machine) then after_runner r (p - 1)
    else after_worker r p

-- the turns of the passes below n
abbrev pub after_passes : Rounds → ℕ → Rounds
after_passes r zero = r
after_passes r (suc n) = after_pass (after_passes r n) n

unfoldable pub after_round : Rounds → Rounds
after_round r = after_passes r (pass_count r.state.machine)

-- so many rounds
abbrev pub rounds_from : Rounds → ℕ → Rounds
rounds_from r zero = r
rounds_from r (suc n) = after_round (rounds_from r n)

abbrev pub first_round : Start → List Bool → Rounds
first_round start calls = record {
  state = boot start;
  history = [];
  leased = replicate (cpu_count (boot start).machine) no_lease;
  answered = replicate (pass_count (boot start).machine) None;
  calls = calls;
}

-- the history is that of the rounds up to Close
pub record IsSolo (start : Start) (calls : List Bool) (history : List Signed) : Type 0 where
  pub rounds : ℕ
  pub made : history ≡ (rounds_from (first_round start calls) rounds).history
  pub closed : (rounds_from (first_round start calls) rounds).state.closed ≡ true
