-- The one spelling of each journal: gate, magic, count, entries. Numbers have their lowest byte first.
use Rattle.std.specs.Prelude.{ℕ, ◌<◌, ◌^◌, Bool, true, false, List, [], ◌∷◌, ◌++◌, length}
use Rattle.std.specs.List.{flat_map, AllByRecursion}
use Rattle.byteorder.specs.Endian.{little_bytes}
use Rattle.vm_law.specs.declared.journal.EndCause.{EndCause}
use Rattle.vm_law.specs.declared.journal.EndCause.TheVariants.{Budget, Outside}
use Rattle.vm_law.specs.declared.journal.Entry.{Entry}
use Rattle.vm_law.specs.declared.journal.Entry.TheVariants.{Claim, Start, Enter, Slice, Step, Exit, Sleep, Wake, Yield, Turn, Meet, Pull, Begin, Move, Hold, Put, Finish, Feed, Wish, Done, End, Close, Tick}
use Rattle.vm_law.specs.declared.journal.Signed.{Signed}

-- numbers of one, two, four and eight bytes
abbrev pub byte : ℕ → List ℕ
byte n = little_bytes 1 n

abbrev pub word : ℕ → List ℕ
word n = little_bytes 2 n

abbrev pub dword : ℕ → List ℕ
dword n = little_bytes 4 n

abbrev pub qword : ℕ → List ℕ
qword n = little_bytes 8 n

abbrev pub flag : Bool → List ℕ
flag false = 0 ∷ []
flag true = 1 ∷ []

abbrev pub cause : EndCause → List ℕ
cause Budget = 1 ∷ []
cause Outside = 2 ∷ []

-- an entry's tag, and its fields
abbrev pub entry_bytes : Entry → List ℕ
entry_bytes (Claim cpu) = 1 ∷ byte cpu
entry_bytes (Start cpu) = 2 ∷ byte cpu
entry_bytes (Enter cpu grant) = 3 ∷ (byte cpu ++ word grant)
entry_bytes (Slice cpu n) = 4 ∷ (byte cpu ++ word n)
entry_bytes (Step cpu) = 5 ∷ byte cpu
entry_bytes (Exit cpu) = 6 ∷ byte cpu
entry_bytes (Sleep cpu) = 7 ∷ byte cpu
entry_bytes (Wake cpu) = 8 ∷ byte cpu
entry_bytes (Yield cpu) = 9 ∷ byte cpu
entry_bytes (Turn cpu) = 10 ∷ byte cpu
entry_bytes Meet = 11 ∷ []
entry_bytes (Pull disk) = 12 ∷ byte disk
entry_bytes (Begin disk id) = 13 ∷ (byte disk ++ dword id)
entry_bytes (Move disk id) = 14 ∷ (byte disk ++ dword id)
entry_bytes (Hold disk id) = 15 ∷ (byte disk ++ dword id)
entry_bytes (Put disk id ok) = 16 ∷ (byte disk ++ (dword id ++ flag ok))
entry_bytes (Finish disk id) = 17 ∷ (byte disk ++ dword id)
entry_bytes Feed = 18 ∷ []
entry_bytes Wish = 19 ∷ []
entry_bytes (Done k) = 20 ∷ word k
entry_bytes (End why) = 21 ∷ cause why
entry_bytes Close = 22 ∷ []
entry_bytes (Tick n) = 23 ∷ qword n

-- the number of the pass that added an entry, and the entry
abbrev pub signed_bytes : Signed → List ℕ
signed_bytes s = word s.by ++ entry_bytes s.entry

abbrev pub gate : List ℕ
gate = 1 ∷ []

-- `VMJRNL1` and LF
abbrev pub magic : List ℕ
magic = 0x56 ∷ 0x4D ∷ 0x4A ∷ 0x52 ∷ 0x4E ∷ 0x4C ∷ 0x31 ∷ 0x0A ∷ []

abbrev pub spelling : List Signed → List ℕ
spelling journal = gate ++ (magic ++ (qword (length journal) ++ flat_map signed_bytes journal))

-- numbers that have room in one, two, four and eight bytes
abbrev pub IsByte : ℕ → Type 0
IsByte n = n < 256 ^ 1

abbrev pub IsWord : ℕ → Type 0
IsWord n = n < 256 ^ 2

abbrev pub IsDword : ℕ → Type 0
IsDword n = n < 256 ^ 4

abbrev pub IsQword : ℕ → Type 0
IsQword n = n < 256 ^ 8

-- each field of an entry has room
abbrev pub FitsEntry : Entry → Type 0
FitsEntry (Claim cpu) = IsByte cpu
FitsEntry (Start cpu) = IsByte cpu
FitsEntry (Enter cpu grant) = IsByte cpu × IsWord grant
FitsEntry (Slice cpu n) = IsByte cpu × IsWord n
FitsEntry (Step cpu) = IsByte cpu
FitsEntry (Exit cpu) = IsByte cpu
FitsEntry (Sleep cpu) = IsByte cpu
FitsEntry (Wake cpu) = IsByte cpu
FitsEntry (Yield cpu) = IsByte cpu
FitsEntry (Turn cpu) = IsByte cpu
FitsEntry Meet = Unit {0}
FitsEntry (Pull disk) = IsByte disk
FitsEntry (Begin disk id) = IsByte disk × IsDword id
FitsEntry (Move disk id) = IsByte disk × IsDword id
FitsEntry (Hold disk id) = IsByte disk × IsDword id
FitsEntry (Put disk id ok) = IsByte disk × IsDword id × Unit {0}
FitsEntry (Finish disk id) = IsByte disk × IsDword id
FitsEntry Feed = Unit {0}
FitsEntry Wish = Unit {0}
FitsEntry (Done k) = IsWord k
FitsEntry (End why) = Unit {0}
FitsEntry Close = Unit {0}
FitsEntry (Tick n) = IsQword n

abbrev pub FitsSigned : Signed → Type 0
FitsSigned s = IsWord s.by × FitsEntry s.entry

-- what has a spelling
abbrev pub AreEntries : List Signed → Type 0
AreEntries journal = (length journal < 256 ^ 8) × AllByRecursion FitsSigned journal
