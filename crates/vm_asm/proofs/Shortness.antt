-- The workload's text is short.
use Rattle.std.proofs.Common.{◌≡◌, ℕ, ◌*◌, ◌^◌, ◌<◌, ◌≤◌, Bool, true, false, suc, List, [], ◌∷◌, ◌++◌, length, get_or, nat_lt, cond, Fits, w32, refl, arith, lit<, lit≤, length-append}
use Rattle.std.specs.List.{flat_map}
use Rattle.std.specs.Prelude.{decimal}
use Rattle.std.proofs.lemmas.Fmt.{length-decimal-le}
use Rattle.vm_asm.specs.Workload.{counting, writing, boot, cells, waiting, count_line, boot_if, workload_text}

counting_length : length counting ≡ 255
unfolding counting
counting_length = refl

writing_length : length writing ≡ 172
unfolding writing
writing_length = refl

boot_length : length boot ≡ 104
unfolding boot
boot_length = refl

cells_length : length cells ≡ 106
unfolding cells
cells_length = refl

boot_if_short : (t : Bool) → length (cond t boot []) ≤ 104
boot_if_short true = omega (arith, boot_length)
boot_if_short false = lit≤ tt

line_short : (n : ℕ) → Fits w32 n → length (count_line n) ≤ 18
line_short n h =
    let p : 2 ^ 32 ≤ 10 ^ 10 = lit≤ tt in
    let q : 2 ^ 32 ≤ 2 ^ 64 = lit≤ tt in
    let b : n < 2 ^ 32 = omega arith in
    omega (arith, length-append (decimal n) (10 ∷ []), length-decimal-le 10 n (lit< tt) (omega arith) (omega arith))

counts_short : (cs : List ℕ) → ((k : ℕ) → Fits w32 (get_or cs k 0)) → length (flat_map count_line cs) ≤ 18 * length cs
counts_short [] h = lit≤ tt
counts_short (c ∷ cs) h =
    let first = line_short c (h 0) in
    let more = counts_short cs (λ k. h (suc k)) in
    let sum = length-append (count_line c) (flat_map count_line cs) in
    omega arith

waiting_short : (n : ℕ) → n ≤ 16 → length (waiting n) ≤ 30
waiting_short n h =
    let p : 16 < 10 ^ 2 = lit< tt in
    let q : 16 < 2 ^ 64 = lit< tt in
    omega (arith, length-append (decimal n) (10 ∷ []), length-decimal-le 2 n (lit< tt) (omega arith) (omega arith))

pub text_short : (cs : List ℕ) → length cs ≤ 16 → ((k : ℕ) → Fits w32 (get_or cs k 0)) → length (workload_text cs) < 2 ^ 32
text_short cs few small =
    let n = length cs in
    let counts = flat_map count_line cs in
    let a = length-append (counting ++ waiting n ++ writing ++ boot_if n ++ cells) counts in
    let b = length-append (counting ++ waiting n ++ writing ++ boot_if n) cells in
    let d = length-append (counting ++ waiting n ++ writing) (boot_if n) in
    let e = length-append (counting ++ waiting n) writing in
    let f = length-append counting (waiting n) in
    let g = counts_short cs small in
    let h = waiting_short n few in
    let i = boot_if_short (nat_lt 1 n) in
    let p : 2000 < 2 ^ 32 = lit< tt in
    omega (arith, counting_length, writing_length, cells_length)
