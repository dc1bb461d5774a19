-- The orders: their words, and when and where each is allowed.
use Rattle.std.specs.Prelude.{◌&&◌, nat_lt, false, ℕ, List, [], ◌∷◌, Option, Some, None, Result, Ok, Err, codes, if◌then◌else◌}
use Rattle.std.specs.Str.{bytes_eq}
use Rattle.vm_law.specs.declared.script.Order.{Order}
use Rattle.vm_law.specs.declared.script.Order.TheVariants as order
use Rattle.ctl_script.specs.declared.fault.ScriptKind.{ScriptKind}
use Rattle.ctl_script.specs.declared.fault.ScriptKind.TheVariants as kind
use Rattle.ctl_script.specs.declared.order.Situation.{Situation}
use Rattle.text_reader.specs.Digits.{numeral, hex_number}
use Rattle.text_reader.specs.Word.{is_space, words_by}
use Rattle.ctl_script.specs.Before.{may_be_base, is_closed}
use Rattle.ctl_script.specs.Numeral.{hex_bytes, register_of}

-- spaces separate the words of a line
abbrev pub words_of : List ℕ → List (List ℕ)
words_of text = words_by is_space text

abbrev pub Reading : Type 0
Reading = Result Order ScriptKind

-- the kind of fault where there is no value
abbrev pub need : {A : Type 0} → ScriptKind → Option A → (A → Reading) → Reading
need fault None next = Err fault
need fault (Some x) next = next x

abbrev pub while_paused : Situation → Reading → Reading
while_paused s reading = if s.paused then reading else Err kind.Order

abbrev pub unless_paused : Situation → Reading → Reading
unless_paused s reading = if s.paused then Err kind.Order else reading

-- the vCPU is one of the plan
abbrev pub on_cpu : Situation → ℕ → Order → Reading
on_cpu s cpu o = if nat_lt cpu s.cpus then Ok o else Err kind.Cpu

-- the disk is one of the plan, whose disks are numbered by a byte
abbrev pub on_disk : Situation → ℕ → Order → Reading
on_disk s disk o = if nat_lt disk s.disks && nat_lt disk 256 then Ok o else Err kind.Disk

-- rendezvous, pause, resume
abbrev pub one_word : Situation → List ℕ → Reading
one_word s a =
    if bytes_eq a (codes "rendezvous") then Ok order.Rendezvous
    else if bytes_eq a (codes "pause") then unless_paused s (Ok order.Pause)
    else if bytes_eq a (codes "resume") then while_paused s (Ok order.Resume)
    else Err kind.Word

-- wait quiet
abbrev pub wait_quiet : Situation → List ℕ → Reading
wait_quiet s b = if bytes_eq b (codes "quiet") then unless_paused s (Ok order.WaitQuiet) else Err kind.Word

-- input HEX
abbrev pub input : List ℕ → Reading
input b = need kind.Number (hex_bytes b) (λ bytes. Ok (order.Input bytes))

-- nmi I
abbrev pub nmi : Situation → List ℕ → Reading
nmi s b = need kind.Number (numeral 10 9 b) (λ cpu. on_cpu s cpu (order.Nmi cpu))

-- checkpoint NAME
abbrev pub checkpoint : Situation → List ℕ → Reading
checkpoint s b = while_paused s (Ok (order.Checkpoint b))

-- send NAME
abbrev pub send : List Order → List ℕ → Reading
send before b = if is_closed false before b then Err kind.Order else Ok (order.Send b)

abbrev pub two_words : Situation → List Order → List ℕ → List ℕ → Reading
two_words s before a b =
    if bytes_eq a (codes "wait") then wait_quiet s b
    else if bytes_eq a (codes "input") then input b
    else if bytes_eq a (codes "nmi") then nmi s b
    else if bytes_eq a (codes "checkpoint") then checkpoint s b
    else if bytes_eq a (codes "send") then send before b
    else Err kind.Word

-- wait console N
abbrev pub wait_console : Situation → List ℕ → Reading
wait_console s c = need kind.Number (numeral 10 18 c) (λ n. unless_paused s (Ok (order.WaitConsole n)))

-- wait executed N
abbrev pub wait_executed : Situation → List ℕ → Reading
wait_executed s c = need kind.Number (numeral 10 18 c) (λ n. unless_paused s (Ok (order.WaitExecuted n)))

abbrev pub wait_for : Situation → List ℕ → List ℕ → Reading
wait_for s b c =
    if bytes_eq b (codes "console") then wait_console s c
    else if bytes_eq b (codes "executed") then wait_executed s c
    else Err kind.Word

-- get I REG
abbrev pub get_register : Situation → List ℕ → List ℕ → Reading
get_register s b c =
    need kind.Word (register_of c) (λ reg. need kind.Number (numeral 10 9 b) (λ cpu. while_paused s (on_cpu s cpu (order.Get cpu reg))))

-- cancel D R
abbrev pub cancel : Situation → List ℕ → List ℕ → Reading
cancel s b c =
    need kind.Number (numeral 10 9 b) (λ disk. need kind.Number (numeral 10 9 c) (λ id. on_disk s disk (order.Cancel disk id)))

abbrev pub three_words : Situation → List ℕ → List ℕ → List ℕ → Reading
three_words s a b c =
    if bytes_eq a (codes "wait") then wait_for s b c
    else if bytes_eq a (codes "get") then get_register s b c
    else if bytes_eq a (codes "cancel") then cancel s b c
    else Err kind.Word

-- set I REG 0xH
abbrev pub set_register : Situation → List ℕ → List ℕ → List ℕ → Reading
set_register s b c d =
    need kind.Word (register_of c) (λ reg. need kind.Number (numeral 10 9 b) (λ cpu. need kind.Number (hex_number 16 d) (λ value.
    while_paused s (on_cpu s cpu (order.Set cpu reg value)))))

-- checkpoint NAME base OLD
abbrev pub against : Situation → List Order → List ℕ → List ℕ → Reading
against s before b d = while_paused s (if may_be_base before d then Ok (order.Against b d) else Err kind.Order)

abbrev pub checkpoint_against : Situation → List Order → List ℕ → List ℕ → List ℕ → Reading
checkpoint_against s before b c d = if bytes_eq c (codes "base") then against s before b d else Err kind.Word

abbrev pub four_words : Situation → List Order → List ℕ → List ℕ → List ℕ → List ℕ → Reading
four_words s before a b c d =
    if bytes_eq a (codes "set") then set_register s b c d
    else if bytes_eq a (codes "checkpoint") then checkpoint_against s before b c d
    else Err kind.Word

-- the order that the words of a line spell after the orders before
abbrev pub order_of : Situation → List Order → List (List ℕ) → Reading
order_of s before [] = Err kind.Word
order_of s before (a ∷ []) = one_word s a
order_of s before (a ∷ b ∷ []) = two_words s before a b
order_of s before (a ∷ b ∷ c ∷ []) = three_words s a b c
order_of s before (a ∷ b ∷ c ∷ d ∷ []) = four_words s before a b c d
order_of s before (a ∷ b ∷ c ∷ d ∷ e ∷ more) = Err kind.Word
