-- What an actor chooses in its turn. Pass 0 is control, pass 1 + i is the runner of vCPU i, and then come the workers.
use Rattle.std.specs.Prelude.{◌≡◌, ℕ, ◌-◌, ◌<◌, ◌⊎◌, min, Bool, true, false, ◌||◌, ◌==◌, nat_le, List, [], ◌∷◌, ◌++◌, filter, find, map, Option, Some, None, is_some, if◌then◌else◌}
use Rattle.std.specs.List.{flat_map}
use Rattle.vm_law.specs.declared.journal.Entry.{Entry}
use Rattle.vm_law.specs.declared.journal.Entry.TheVariants.{Claim, Start, Enter, Slice, Step, Exit, Sleep, Wake, Yield, Turn, Meet, Pull, Begin, Move, Hold, Put, Finish, Feed, Wish, Done, End, Close, Tick}
use Rattle.vm_law.specs.declared.journal.EndCause.TheVariants.{Budget, Outside}
use Rattle.vm_law.specs.declared.journal.Signed.{Signed}
use Rattle.blk_queue.specs.Steps.{first_pending}
use Rattle.blk_queue.specs.declared.progress.Unfinished.{Unfinished}
use Rattle.vm_state.specs.declared.start.Start as start_type
use Rattle.vm_state.specs.Machine.{cpu_at, cpu_count, cpu_numbers, drive_at, drive_numbers}
use Rattle.vm_state.specs.Requests.{is_busy_by, is_worker}
use Rattle.vm_state.specs.Start.{boot}
use Rattle.vm_state.specs.State.{State, room_of, seat_at}
use Rattle.vm_orders.specs.Duties.{tick_of}
use Rattle.vm_table.specs.Table.{lawful, after}

-- ---- the runner of vCPU i: what comes first before what comes later

-- a running vCPU is to be frozen
unfoldable pub is_exit_due : State → ℕ → Bool
is_exit_due s i =
    is_some s.machine.meet || s.machine.pause || is_some s.ended || (cpu_at s.machine i).halted || ((seat_at s i).left == 0)

-- the grant that it asks for: 1,024, or what the limit leaves
unfoldable pub grant_of : State → ℕ
grant_of s = min 1024 (room_of s)

abbrev pub exit_where_due : State → ℕ → List Entry
exit_where_due s i = if is_exit_due s i then Exit i ∷ [] else []

unfoldable pub runner_list : State → ℕ → List Entry
runner_list s i =
    Claim i ∷ Wake i ∷ Turn i ∷ Yield i ∷ Start i ∷ Enter i (grant_of s) ∷ Sleep i ∷ (exit_where_due s i ++ Step i ∷ [])

-- ---- a worker, which has one drive

-- the ids of the requests that it has
abbrev pub busy_with : State → ℕ → ℕ → List ℕ
busy_with s p d = map (λ (x : Unfinished). x.id) (filter (is_busy_by p) (drive_at s.machine d).queue.requests)

abbrev pub begin_first : ℕ → Option Unfinished → List Entry
begin_first d None = []
begin_first d (Some x) = Begin d x.id ∷ []

unfoldable pub drive_list : State → ℕ → ℕ → List Entry
drive_list s p d =
    map (λ id. Finish d id) (busy_with s p d) ++ map (λ id. Move d id) (busy_with s p d) ++ map (λ id. Hold d id) (busy_with s p d)
    ++ begin_first d (first_pending (drive_at s.machine d).queue) ++ Pull d ∷ []

abbrev pub where_worker : State → ℕ → ℕ → List Entry
where_worker s p d = if is_worker s.machine p d then drive_list s p d else []

unfoldable pub worker_list : State → ℕ → List Entry
worker_list s p = flat_map (where_worker s p) (drive_numbers s.machine)

-- ---- control, but for the end by a failure outside

unfoldable pub control_list : State → List Entry
control_list s =
    map (λ i. Turn i) (cpu_numbers s.machine) ++ map (λ i. Yield i) (cpu_numbers s.machine) ++ map (λ i. Claim i) (cpu_numbers s.machine)
    ++ Feed ∷ Tick (tick_of s) ∷ End Budget ∷ Wish ∷ Meet ∷ Done s.place ∷ Close ∷ []

-- ---- what a pass may add

unfoldable pub list_of : State → ℕ → List Entry
list_of s p = if p == 0 then control_list s else if nat_le p (cpu_count s.machine) then runner_list s (p - 1) else worker_list s p

-- the first lawful entry of the pass's list
abbrev pub first_lawful : State → ℕ → Option Entry
first_lawful s p = find (λ e. lawful s p e) (list_of s p)

-- a Slice of the most instructions that are lawful
pub record IsGreatestSlice (s : State) (p i n : ℕ) : Type 0 where
  pub may : lawful s p (Slice i n) ≡ true
  pub greatest : (m : ℕ) → n < m → lawful s p (Slice i m) ≡ false

-- the entry is a Slice of the most instructions, a Put, or the end by a failure outside
abbrev pub IsBroughtBack : State → ℕ → Entry → Type 0
IsBroughtBack s p (Slice i n) = IsGreatestSlice s p i n
IsBroughtBack s p (Put d id ok) = lawful s p (Put d id ok) ≡ true
IsBroughtBack s p (End Outside) = p ≡ 0
IsBroughtBack s p e = ⊥

-- the entry is what its pass adds in an orderly turn
abbrev pub IsOrderlyEntry : State → Signed → Type 0
IsOrderlyEntry s x = (first_lawful s x.by ≡ Some x.entry) ⊎ IsBroughtBack s x.by x.entry

-- each entry is orderly where it stands
abbrev pub IsOrderlyFrom : State → List Signed → Type 0
IsOrderlyFrom s [] = Unit {0}
IsOrderlyFrom s (x ∷ xs) = IsOrderlyEntry s x × IsOrderlyFrom (after s x) xs

abbrev pub IsOrderly : start_type.Start → List Signed → Type 0
IsOrderly start history = IsOrderlyFrom (boot start) history
