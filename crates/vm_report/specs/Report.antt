-- The report of a run, line by line.
use Rattle.std.specs.Prelude.{ℕ, ◌+◌, Bool, List, [], ◌∷◌, ◌++◌, length, Option, Some, None, codes, decimal, if◌then◌else◌}
use Rattle.std.specs.List.{list_all, flat_map}
use Rattle.vm_law.specs.declared.plan.Plan.{Plan}
use Rattle.ctl_script.specs.Print.{order_text, has_registers}
use Rattle.vm_law.specs.declared.context.Stop.{Stop}
use Rattle.vm_law.specs.declared.context.Stop.TheVariants as stops
use Rattle.vm_law.specs.declared.script.Order.{Order}
use Rattle.vm_law.specs.declared.script.Order.TheVariants.{Rendezvous}
use Rattle.vm_state.specs.declared.run_state.Answer.{Answer}
use Rattle.vm_state.specs.declared.run_state.Said.{Said}
use Rattle.vm_state.specs.declared.run_state.Said.TheVariants.{Met, Quiet, Value, Done, Unknown, Busy, Plain}
use Rattle.vm_state.specs.declared.run_state.Sample.{Sample}
use Rattle.vm_state.specs.declared.run_state.Why.{Why}
use Rattle.vm_state.specs.declared.run_state.Why.TheVariants.{Finished, Stopped, Budget, Outside}
use Rattle.vm_state.specs.Machine.{MachineState, cpu_at, cpu_numbers, drive_numbers}
use Rattle.vm_state.specs.State.{State, seat_at}
use Rattle.vm_table.specs.Tally.{tally_of}
use Rattle.vm_table.specs.declared.tally.Tally.{Tally}
use Rattle.vm_report.specs.StateText.{address_text, state_text}

-- ---- why the run ended

abbrev pub stop_text : Stop → List ℕ
stop_text stops.Fetch = codes "fetch"
stop_text stops.Memory = codes "memory"
stop_text stops.Device = codes "device"
stop_text (stops.Gate v) = codes "gate " ++ decimal v
stop_text (stops.Frame v) = codes "frame " ++ decimal v

abbrev pub ended_text : Option Why → List ℕ
ended_text None = codes "open\n"
ended_text (Some Finished) = codes "ended finished\n"
ended_text (Some (Stopped cpu stop rip)) = codes "ended stop cpu " ++ decimal cpu ++ codes " " ++ stop_text stop ++ codes " rip " ++ address_text rip ++ codes "\n"
ended_text (Some Budget) = codes "ended budget\n"
ended_text (Some Outside) = codes "ended outside\n"

-- ---- what was said to each order, numbered from 1

-- a vCPU and how many instructions it had run at its turn, in the order of the turns, with a space between two
abbrev pub sample_text : Sample → List ℕ
sample_text s = decimal s.cpu ++ codes ":" ++ decimal s.ran

abbrev pub more_samples : List Sample → List ℕ
more_samples samples = flat_map (λ s. codes " " ++ sample_text s) samples

abbrev pub samples_text : List Sample → List ℕ
samples_text [] = []
samples_text (s ∷ rest) = sample_text s ++ more_samples rest

-- what is said where there is nothing else to say: the samples of a rendezvous
abbrev pub plain_text : Order → List Sample → List ℕ
plain_text Rendezvous samples = samples_text samples
plain_text other samples = codes "ok"

abbrev pub said_text : Order → Said → List Sample → List ℕ
said_text order Met samples = codes "met"
said_text order Quiet samples = codes "quiet"
said_text order (Value n) samples = address_text n
said_text order Done samples = codes "done"
said_text order Unknown samples = codes "unknown"
said_text order Busy samples = codes "busy"
said_text order Plain samples = plain_text order samples

abbrev pub answer_text : ℕ → Answer → List ℕ
answer_text k a = decimal k ++ codes " " ++ order_text a.order ++ codes ": " ++ said_text a.order a.said a.samples.items ++ codes "\n"

abbrev pub answers_text : ℕ → List Answer → List ℕ
answers_text k [] = []
answers_text k (a ∷ rest) = answer_text k a ++ answers_text (k + 1) rest

-- ---- vCPUs and disks, numbered from 0, and variables that aren't built

-- how many instructions it ran, and where it stands
abbrev pub cpu_text : State → ℕ → List ℕ
cpu_text s i = codes "cpu " ++ decimal i ++ codes " ran " ++ decimal (seat_at s i).ran ++ codes " rip " ++ address_text (cpu_at s.machine i).ctx.rip ++ codes "\n"

abbrev pub cpus_text : State → List ℕ
cpus_text s = flat_map (cpu_text s) (cpu_numbers s.machine)

abbrev pub tally_text : ℕ → Tally → List ℕ
tally_text d t = codes "disk " ++ decimal d ++ codes " finished " ++ decimal t.finished ++ codes " cancelled " ++ decimal t.cancelled
    ++ codes " queued " ++ decimal t.queued ++ codes " doubt " ++ decimal t.doubt ++ codes "\n"

abbrev pub disk_text : State → ℕ → List ℕ
disk_text s d = tally_text d (tally_of s d)

abbrev pub disks_text : State → List ℕ
disks_text s = flat_map (disk_text s) (drive_numbers s.machine)

abbrev pub unbuilt_text : List (List ℕ) → List ℕ
unbuilt_text names = flat_map (λ n. codes "not built: " ++ n ++ codes "\n") names

-- ---- the whole

abbrev pub counts_text : ℕ → ℕ → List ℕ
counts_text executed console = codes "executed " ++ decimal executed ++ codes "\nconsole " ++ decimal console ++ codes "\n"

-- a line feed (10) and the lines on the run
abbrev pub run_text : State → List ℕ
run_text s =
    10 ∷ (ended_text s.ended ++ (counts_text s.executed (length s.console) ++ (answers_text 1 s.answers ++ (cpus_text s ++ disks_text s))))

-- the state of each vCPU, where it is asked for
abbrev pub state_part : Bool → MachineState → List ℕ
state_part state m = if state then state_text m else []

-- the run, and the variables of its plan that aren't built
abbrev pub report_text : State → Plan → Bool → List ℕ
report_text s plan state = run_text s ++ unbuilt_text plan.notbuilt ++ state_part state s.machine

-- the registers that the orders name are registers
abbrev pub has_orders : List Answer → Bool
has_orders answers = list_all (λ a. has_registers a.order) answers
