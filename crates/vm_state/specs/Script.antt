-- Which scripts a run may have: what the orders of a control script ask of the plan, and of the orders before them.
use Rattle.std.specs.Prelude.{ℕ, ◌+◌, ◌^◌, Bool, true, false, not, ◌&&◌, ◌==◌, nat_lt, nat_le, List, [], ◌∷◌, length, Option, Some, None}
use Rattle.std.specs.List.{list_any}
use Rattle.vm_law.specs.declared.plan.Plan.{Plan}
use Rattle.vm_law.specs.declared.script.Order.{Order}
use Rattle.vm_law.specs.declared.script.Order.TheVariants.{WaitQuiet, WaitConsole, WaitExecuted, Input, Nmi, Rendezvous, Pause, Resume, Checkpoint, Set, Get, Cancel, Against, Send}

-- what the orders before have come to: whether the machine is paused, the checkpoints that stand alone and those that stand
-- against a base, that base, the streams that were sent and those that are closed, and how many input bytes there were
pub record Past : Type 0 where
  pub paused : Bool
  pub checkpoints : List (List ℕ)
  pub others : List (List ℕ)
  pub base : Option (List ℕ)
  pub streams : List (List ℕ)
  pub shut : List (List ℕ)
  pub input : ℕ

abbrev pub no_past : Past
no_past = record { paused = false; checkpoints = []; others = []; base = None; streams = []; shut = []; input = 0 }

-- two names are the same
abbrev pub same_name : List ℕ → List ℕ → Bool
same_name [] [] = true
same_name [] (y ∷ ys) = false
same_name (x ∷ xs) [] = false
same_name (x ∷ xs) (y ∷ ys) = (x == y) && same_name xs ys

abbrev pub is_among : List (List ℕ) → List ℕ → Bool
is_among names name = list_any (λ n. same_name n name) names

-- a checkpoint is written to a file that no order before writes
abbrev pub is_new : Past → List ℕ → Bool
is_new past name = not (is_among past.checkpoints name) && not (is_among past.others name) && not (is_among past.streams name)

-- all checkpoints against a base have the same one
abbrev pub is_base : Option (List ℕ) → List ℕ → Bool
is_base None name = true
is_base (Some base) name = same_name base name

-- the order may stand behind those
unfoldable pub may_stand : Plan → Past → Order → Bool
may_stand plan past WaitQuiet = not past.paused
may_stand plan past (WaitConsole n) = not past.paused && nat_lt n (10 ^ 18)
may_stand plan past (WaitExecuted n) = not past.paused && nat_lt n (10 ^ 18)
may_stand plan past (Input bytes) = nat_le (past.input + length bytes) 65536
may_stand plan past (Nmi cpu) = nat_lt cpu plan.cpus
may_stand plan past Rendezvous = true
may_stand plan past Pause = not past.paused
may_stand plan past Resume = past.paused
may_stand plan past (Checkpoint name) = past.paused && is_new past name
may_stand plan past (Against name base) = past.paused && is_new past name && nat_le (length base) 65535 && is_among past.checkpoints base && is_base past.base base
may_stand plan past (Send name) = not (is_among past.shut name) && not (is_among past.checkpoints name) && not (is_among past.others name)
may_stand plan past (Set cpu reg value) = past.paused && nat_lt cpu plan.cpus && nat_lt reg 18
may_stand plan past (Get cpu reg) = past.paused && nat_lt cpu plan.cpus && nat_lt reg 18
may_stand plan past (Cancel disk id) = nat_lt disk (length plan.disks) && nat_lt id (10 ^ 9)

-- a send that stands paused closes its stream
abbrev pub shut_by : Bool → List ℕ → List (List ℕ) → List (List ℕ)
shut_by true name names = name ∷ names
shut_by false name names = names

unfoldable pub and_then : Past → Order → Past
and_then past Pause = record past { paused = true }
and_then past Resume = record past { paused = false }
and_then past (Input bytes) = record past { input = past.input + length bytes }
and_then past (Checkpoint name) = record past { checkpoints = name ∷ past.checkpoints }
and_then past (Against name base) = record past { others = name ∷ past.others; base = Some base }
and_then past (Send name) = record past { streams = name ∷ past.streams; shut = shut_by past.paused name past.shut }
and_then past WaitQuiet = past
and_then past (WaitConsole n) = past
and_then past (WaitExecuted n) = past
and_then past (Nmi cpu) = past
and_then past Rendezvous = past
and_then past (Set cpu reg value) = past
and_then past (Get cpu reg) = past
and_then past (Cancel disk id) = past

-- each order may stand where it stands
unfoldable pub may_follow : Plan → Past → List Order → Bool
may_follow plan past [] = true
may_follow plan past (x ∷ xs) = may_stand plan past x && may_follow plan (and_then past x) xs

-- a plan allows the script
abbrev pub is_allowed : Plan → List Order → Bool
is_allowed plan script = nat_le 1 (length script) && nat_le (length script) 10000 && may_follow plan no_past script
