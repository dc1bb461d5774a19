-- What contracts see of a machine and of a run, and what a run keeps for it.
use Rattle.std.specs.Prelude.{◌≡◌, ℕ, ◌+◌, ◌/◌, ◌<◌, ◌≤◌, min, Bool, List, [], map, take, drop, length, slice_get, Option, Some, None, refl}
use Rattle.std.specs.List.{sum_by}
use Rattle.std.specs.Coded.{Coded, code_by, coded×, coded_ℕ, coded_bool, coded_list, coded_option}
use Rattle.vm_law.specs.declared.script.Order.{Order}
use Rattle.vm_law.specs.declared.script.Order.TheVariants.{Input}
use Rattle.vm_law.specs.Memory.{Memory}
use Rattle.vm_law.specs.contracts.script.Order as order_contract
use Rattle.vm_ioapic.specs.Ioapic.{Chip}
use Rattle.vm_ioapic.specs.contracts.ioapic.Ioapic as ioapic_contract
use Rattle.vm_uart.specs.Uart.{Serial}
use Rattle.vm_uart.specs.contracts.uart.Uart as uart_contract
use Rattle.vm_meet.specs.declared.meeting.Meeting.{Meeting}
use Rattle.vm_meet.specs.contracts.meeting.Meeting as meeting_contract
use Rattle.vm_state.specs.contracts.cpu.Cpu as cpu_contract
use Rattle.vm_state.specs.contracts.cpu.Seat as seat_contract
use Rattle.vm_state.specs.contracts.drive.Drive as drive_contract
use Rattle.vm_state.specs.contracts.image.DiskImage as image_contract
use Rattle.vm_state.specs.contracts.run_state.Answer as answer_contract
use Rattle.vm_state.specs.contracts.run_state.Sample as sample_contract
use Rattle.vm_state.specs.contracts.run_state.Why as why_contract
use Rattle.vm_state.specs.declared.cpu.Cpu.{Cpu}
use Rattle.vm_state.specs.declared.cpu.Seat.{Seat}
use Rattle.vm_state.specs.declared.drive.Drive.{Drive}
use Rattle.vm_state.specs.declared.image.DiskImage.{DiskImage}
use Rattle.vm_state.specs.declared.run_state.Answer.{Answer}
use Rattle.vm_state.specs.declared.run_state.Why.{Why}
use Rattle.vm_state.specs.declared.run_state.Said.TheVariants.{Plain}
use Rattle.vm_state.specs.declared.run_state.Sample.{Sample}
use Rattle.vm_state.specs.Machine.{MachineState}
use Rattle.vm_state.specs.State.{State}

-- a machine's state, and for how many pages of memory it has room
pub record MachineView : Type 0 where
  pub state : MachineState
  pub spare : ℕ

-- a run's state, for how many console bytes it has room, and for how many pages of memory
pub record RunView : Type 0 where
  pub state : State
  pub room : ℕ
  pub spare : ℕ

-- ---- how they are stored

abbrev pub memory_code : Coded Memory
memory_code = code_by (List ℕ × ℕ) (coded× (coded_list coded_ℕ) coded_ℕ) (λ m. (m.bytes, m.code)) (λ p. record { bytes = p.0; code = p.1 }) (λ _. refl)

abbrev pub machine_state_code : Coded MachineState
machine_state_code =
    code_by (List Cpu × (Memory × (Chip × (Serial × (List Drive × (Bool × (Option Meeting × List ℕ)))))))
    (coded× (coded_list cpu_contract.the_row.coded) (coded× memory_code (coded× ioapic_contract.the_row.coded (coded× uart_contract.the_row.coded
    (coded× (coded_list drive_contract.the_row.coded) (coded× coded_bool (coded× (coded_option meeting_contract.the_row.coded) (coded_list coded_ℕ))))))))
    (λ m. (m.cpus, (m.ram, (m.ioapic, (m.uart, (m.drives, (m.pause, (m.meet, m.timers))))))))
    (λ p. record {
      cpus = p.0;
      ram = p.1.0;
      ioapic = p.1.1.0;
      uart = p.1.1.1.0;
      drives = p.1.1.1.1.0;
      pause = p.1.1.1.1.1.0;
      meet = p.1.1.1.1.1.1.0;
      timers = p.1.1.1.1.1.1.1;
    })
    (λ _. refl)

abbrev pub machine_code : Coded MachineView
machine_code = code_by (MachineState × ℕ) (coded× machine_state_code coded_ℕ) (λ v. (v.state, v.spare)) (λ p. record { state = p.0; spare = p.1 }) (λ _. refl)

-- the counts, and what the script has come to
abbrev pub Counts : Type 0
Counts = ℕ × (ℕ × (ℕ × (ℕ × (ℕ × (Bool × (Option Why × Bool))))))

abbrev pub counts_code : Coded Counts
counts_code = coded× coded_ℕ (coded× coded_ℕ (coded× coded_ℕ (coded× coded_ℕ (coded× coded_ℕ (coded× coded_bool (coded× (coded_option why_contract.the_row.coded) coded_bool))))))

-- what was kept of orders, input and console
abbrev pub Texts : Type 0
Texts = List Order × (List ℕ × (List Answer × (List Sample × List ℕ)))

abbrev pub texts_code : Coded Texts
texts_code = coded× (coded_list order_contract.the_row.coded) (coded× (coded_list coded_ℕ) (coded× (coded_list answer_contract.the_row.coded) (coded× (coded_list sample_contract.the_row.coded) (coded_list coded_ℕ))))

abbrev pub state_code : Coded State
state_code =
    code_by (MachineState × (List Seat × (List DiskImage × (List ℕ × (Counts × Texts)))))
    (coded× machine_state_code (coded× (coded_list seat_contract.the_row.coded) (coded× (coded_list image_contract.the_row.coded) (coded× (coded_list coded_ℕ) (coded× counts_code texts_code)))))
    (λ s. (
      s.machine,
      (
        s.seats,
        (
          s.images,
          (
            s.versions,
            (
              (s.executed, (s.seen, (s.limit, (s.entries, (s.place, (s.begun, (s.ended, s.closed))))))),
              (s.script, (s.input, (s.answers, (s.samples, s.console)))),
            ),
          ),
        ),
      ),
    ))
    (λ p. record {
      machine = p.0;
      seats = p.1.0;
      images = p.1.1.0;
      versions = p.1.1.1.0;
      executed = p.1.1.1.1.0.0;
      seen = p.1.1.1.1.0.1.0;
      limit = p.1.1.1.1.0.1.1.0;
      entries = p.1.1.1.1.0.1.1.1.0;
      place = p.1.1.1.1.0.1.1.1.1.0;
      begun = p.1.1.1.1.0.1.1.1.1.1.0;
      ended = p.1.1.1.1.0.1.1.1.1.1.1.0;
      closed = p.1.1.1.1.0.1.1.1.1.1.1.1;
      script = p.1.1.1.1.1.0;
      input = p.1.1.1.1.1.1.0;
      answers = p.1.1.1.1.1.1.1.0;
      samples = p.1.1.1.1.1.1.1.1.0;
      console = p.1.1.1.1.1.1.1.1.1;
    })
    (λ _. refl)

abbrev pub run_code : Coded RunView
run_code = code_by (State × (ℕ × ℕ)) (coded× state_code (coded× coded_ℕ coded_ℕ)) (λ v. (v.state, (v.room, v.spare))) (λ p. record { state = p.0; room = p.1.0; spare = p.1.1 }) (λ _. refl)

-- an entry gives the console at most one byte, and makes at most six pages stand
abbrev pub room_for : RunView → ℕ
room_for v = min v.room (v.spare / 6)

-- ---- a run keeps its orders in one list, with what was said to those that are done

abbrev pub script_of : List Answer → List Order
script_of orders = map (λ (x : Answer). x.order) orders

-- an order that isn't done
abbrev pub fresh : Order → Answer
fresh order = record { order = order; said = Plain; samples = record { items = [] } }

-- those that are done
abbrev pub answers_of : List Answer → ℕ → List Answer
answers_of orders place = take place orders

abbrev pub samples_in : Option Answer → List Sample
samples_in None = []
samples_in (Some x) = x.samples.items

-- what was noted in the one that comes next
abbrev pub samples_of : List Answer → ℕ → List Sample
samples_of orders place = samples_in (slice_get orders place)

-- the bytes that an order adds to the input
abbrev pub bytes_in : Order → List ℕ
bytes_in (Input bytes) = bytes
bytes_in order = []

abbrev pub input_length : Answer → ℕ
input_length x = length (bytes_in x.order)

-- nothing is noted yet in an order behind the next one, and the input has room for the bytes of the orders to come
pub record IsReserved (orders : List Answer) (place filled capacity : ℕ) : Type 0 where
  pub untouched : (k : ℕ) → place < k → samples_of orders k ≡ []
  pub input : filled + sum_by input_length (drop place orders) ≤ capacity
