-- A journal read from left to right, with the first fault that is met.
use Rattle.std.specs.Prelude.{◌≡◌, ◌+◌, ℕ, Bool, true, false, ◌&&◌, List, [], ◌∷◌, length, Result, Ok, Err, nat_le, ◌==◌, if◌then◌else◌}
use Rattle.byte_reader.specs.declared.reading.Refusal.{Refusal}
use Rattle.vm_law.specs.declared.journal.EndCause.{EndCause}
use Rattle.vm_law.specs.declared.journal.EndCause.TheVariants.{Budget, Outside}
use Rattle.vm_law.specs.declared.journal.Entry.{Entry}
use Rattle.vm_law.specs.declared.journal.Entry.TheVariants.{Claim, Start, Enter, Slice, Step, Exit, Sleep, Wake, Yield, Turn, Meet, Pull, Begin, Move, Hold, Put, Finish, Feed, Wish, Done, End, Close, Tick}
use Rattle.vm_law.specs.declared.journal.Signed.{Signed}
use Rattle.byte_reader.specs.Reader.{Reader, fault_at, ◌>>=◌, pure, number, counted, with1, with2, with3}
use Rattle.vm_journal.specs.declared.fault.JournalKind.{JournalKind}
use Rattle.vm_journal.specs.declared.fault.JournalKind.TheVariants.{Gate, Magic, Short, Tag, Value, Trailing}
use Rattle.vm_journal.specs.declared.fault.JournalError.{JournalError}
use Rattle.vm_journal.specs.declared.fault.JournalError.TheVariants as public
use Rattle.byte_reader.specs.Fixed.{text_at, ended, IsFault}
use Rattle.vm_journal.specs.Spelling.{gate, magic}

-- numbers of one, two, four and eight bytes
abbrev pub byte_at : Reader (Refusal JournalKind) ℕ
byte_at = number Short 1

abbrev pub word_at : Reader (Refusal JournalKind) ℕ
word_at = number Short 2

abbrev pub dword_at : Reader (Refusal JournalKind) ℕ
dword_at = number Short 4

abbrev pub qword_at : Reader (Refusal JournalKind) ℕ
qword_at = number Short 8

unfoldable pub flag_at : Reader (Refusal JournalKind) Bool
flag_at [] = fault_at Short []
flag_at (b ∷ rest) = if b == 0 then Ok (false, rest) else if b == 1 then Ok (true, rest) else fault_at Value (b ∷ rest)

unfoldable pub cause_at : Reader (Refusal JournalKind) EndCause
cause_at [] = fault_at Short []
cause_at (b ∷ rest) = if b == 1 then Ok (Budget, rest) else if b == 2 then Ok (Outside, rest) else fault_at Value (b ∷ rest)

-- the fault at the tag, which stands right before these bytes
abbrev pub unknown_tag : Reader (Refusal JournalKind) Entry
unknown_tag rest = Err (record { left = length rest + 1; kind = Tag })

-- the fields behind the tag of an entry of a vCPU
unfoldable pub vcpu_fields : ℕ → Reader (Refusal JournalKind) Entry
vcpu_fields tag =
    if tag == 1 then with1 Claim byte_at
    else if tag == 2 then with1 Start byte_at
    else if tag == 3 then with2 Enter byte_at word_at
    else if tag == 4 then with2 Slice byte_at word_at
    else if tag == 5 then with1 Step byte_at
    else if tag == 6 then with1 Exit byte_at
    else if tag == 7 then with1 Sleep byte_at
    else if tag == 8 then with1 Wake byte_at
    else if tag == 9 then with1 Yield byte_at
    else if tag == 10 then with1 Turn byte_at
    else unknown_tag

-- the same of a disk
unfoldable pub disk_fields : ℕ → Reader (Refusal JournalKind) Entry
disk_fields tag =
    if tag == 12 then with1 Pull byte_at
    else if tag == 13 then with2 Begin byte_at dword_at
    else if tag == 14 then with2 Move byte_at dword_at
    else if tag == 15 then with2 Hold byte_at dword_at
    else if tag == 16 then with3 Put byte_at dword_at flag_at
    else if tag == 17 then with2 Finish byte_at dword_at
    else unknown_tag

-- the same of the run as a whole
unfoldable pub run_fields : ℕ → Reader (Refusal JournalKind) Entry
run_fields tag =
    if tag == 11 then pure Meet
    else if tag == 18 then pure Feed
    else if tag == 19 then pure Wish
    else if tag == 20 then with1 Done word_at
    else if tag == 21 then with1 End cause_at
    else if tag == 22 then pure Close
    else if tag == 23 then with1 Tick qword_at
    else unknown_tag

unfoldable pub fields_at : ℕ → Reader (Refusal JournalKind) Entry
fields_at tag =
    if nat_le tag 10 then vcpu_fields tag
    else if nat_le 12 tag && nat_le tag 17 then disk_fields tag
    else run_fields tag

-- a tag, and the fields that it asks for
unfoldable pub entry_at : Reader (Refusal JournalKind) Entry
entry_at = byte_at >>= fields_at

abbrev pub signed : ℕ → Entry → Signed
signed by entry = record { by = by; entry = entry }

unfoldable pub signed_at : Reader (Refusal JournalKind) Signed
signed_at = with2 signed word_at entry_at

abbrev pub last : Unit {0} → Unit {0} → List Signed → List Signed
last _ _ journal = journal

-- gate, magic, count, and so many entries
unfoldable pub journal_at : Reader (Refusal JournalKind) (List Signed)
journal_at = with3 last (text_at Short Gate gate) (text_at Short Magic magic) (counted Short 8 signed_at)

-- the same, and nothing after it
unfoldable pub whole : List ℕ → Result (List Signed) (Refusal JournalKind)
whole bytes = ended Trailing (journal_at bytes)

-- What `decode` answers, where the reading of `size` bytes gives this. Memory may run out at any time.
abbrev pub Answers : ℕ → Result (List Signed) JournalError → Result (List Signed) (Refusal JournalKind) → Type 0
Answers size (Ok journal) read = read ≡ Ok journal
Answers size (Err (public.Fault at kind)) read = IsFault size at kind read
Answers size (Err public.Memory) read = Unit {0}
