-- The guest that counts on several vCPUs, as text. The local APIC's ID stands at FEE00020, its interrupt command register at
-- FEE00300 (Intel SDM volume 3, chapter 11), and the serial port at 3F8.
use Rattle.std.specs.Prelude.{ℕ, nat_lt, List, [], ◌∷◌, ◌++◌, length, codes, decimal, if◌then◌else◌}
use Rattle.std.specs.List.{flat_map}

abbrev pub lines_text : List (List ℕ) → List ℕ
lines_text ls = flat_map (λ l. l ++ 10 ∷ []) ls

-- each vCPU, by its number in EAX, adds 1 to the total as often as its count says, and 1 to the number of those that are
-- ready; all but vCPU 0 halt
unfoldable pub counting : List ℕ
counting = lines_text (
    codes "start: mov ebx,0xfee00020 ; the local APIC's ID, above bit 24"
    ∷ codes "mov eax,dword [rbx]"
    ∷ codes "shr eax,24"
    ∷ codes "mov ecx,dword [rax*4+counts]"
    ∷ codes "test ecx,ecx"
    ∷ codes "je counted"
    ∷ codes "again: lock add dword [total],1"
    ∷ codes "dec ecx"
    ∷ codes "jne again"
    ∷ codes "counted: lock add dword [ready],1"
    ∷ codes "test eax,eax"
    ∷ codes "je wait"
    ∷ codes "hlt"
    ∷ [])

-- vCPU 0 waits for all, and writes the total as eight hexadecimal digits and a line feed
unfoldable pub writing : List ℕ
writing = lines_text (
    codes "jne wait"
    ∷ codes "mov ebx,dword [total]"
    ∷ codes "mov ecx,8"
    ∷ codes "mov edx,0x3f8"
    ∷ codes "digit: rol ebx,4"
    ∷ codes "mov eax,ebx"
    ∷ codes "and eax,15"
    ∷ codes "mov al,byte [rax+digits]"
    ∷ codes "out dx,al"
    ∷ codes "dec ecx"
    ∷ codes "jne digit"
    ∷ codes "mov al,10"
    ∷ codes "out dx,al"
    ∷ codes "hlt"
    ∷ [])

-- where vCPU 0 begins if there are others: it sends start-up with vector 0 to all but itself
unfoldable pub boot : List ℕ
boot = lines_text (
    codes "boot: mov ebx,0xfee00300 ; the interrupt command register"
    ∷ codes "mov dword [rbx],0xc0600"
    ∷ codes "jmp start"
    ∷ codes ".entry boot"
    ∷ [])

-- `0123456789ABCDEF`, the total, and the number of those that are ready
unfoldable pub cells : List ℕ
cells = lines_text (
    codes ".data"
    ∷ codes "digits: .qword 0x3736353433323130"
    ∷ codes ".qword 0x4645444342413938"
    ∷ codes "total: .dword 0"
    ∷ codes "ready: .dword 0"
    ∷ codes "counts:"
    ∷ [])

-- where vCPU 0 waits for so many to be ready
abbrev pub waiting : ℕ → List ℕ
waiting cpus = codes "wait: cmp dword [ready]," ++ (decimal cpus ++ 10 ∷ [])

abbrev pub count_line : ℕ → List ℕ
count_line n = codes ".dword " ++ (decimal n ++ 10 ∷ [])

abbrev pub boot_if : ℕ → List ℕ
boot_if cpus = if nat_lt 1 cpus then boot else []

-- the guest of these counts, one for each vCPU
abbrev pub workload_text : List ℕ → List ℕ
workload_text counts = counting ++ waiting (length counts) ++ writing ++ boot_if (length counts) ++ cells ++ flat_map count_line counts
