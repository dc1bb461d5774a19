-- Where the sectors of a request are in memory.
use Rattle.std.proofs.Common.{◌≡◌, ◌≢◌, ℕ, suc, ◌+◌, ◌-◌, ◌*◌, ◌/◌, ◌%◌, ◌^◌, ◌<◌, ◌≤◌, Bool, true, false, List, [], ◌∷◌, ◌++◌, length, take, drop, get_or, refl, sym, ap, ◌∙◌, inl, inr, arith}
use Rattle.std.specs.Prelude.{◌==◌, nat_lt, if◌then◌else◌}
use Rattle.std.specs.List.{All, list_all, sum_by}
use Rattle.std.proofs.lemmas.Bool.{cases_lt, and_parts, eqb-true, true≢false}
use Rattle.std.proofs.lemmas.Bool.Decides.{nat_tests}
use Rattle.std.proofs.lemmas.List.{length-take, length-drop}
use Rattle.std.proofs.lemmas.List.Sums.{sum_by-cons}
use Rattle.guest_ram.specs.GuestRam.{IsSound as IsRam}
use Rattle.vm_law.specs.Memory.{Memory, written}
use Rattle.vm_law.specs.declared.block.Kind.{Kind}
use Rattle.vm_law.specs.declared.block.Kind.TheVariants.{Read, Write, Flush}
use Rattle.vm_law.specs.declared.block.Request.{Request}
use Rattle.vm_law.specs.declared.block.Segment.{Segment}
use Rattle.vblk_req.specs.Request.{IsSound as IsAsked}
use Rattle.vm_vblk.specs.Queue.{Fits}
use Rattle.blk_queue.specs.Progress.{is_flush_kind, is_read_kind, is_flush}
use Rattle.vm_state.specs.Requests.{address_in, capacity_of, sector_of, with_sector}
use Rattle.vm_state.specs.Sound.{IsWhole}

then_is : (b : Bool) (x y : ℕ) → b ≡ true → (if b then x else y) ≡ x
then_is b x y e = ap (λ c. if c then x else y) e

else_is : (b : Bool) (x y : ℕ) → b ≡ false → (if b then x else y) ≡ y
else_is b x y e = ap (λ c. if c then x else y) e

is_less : (a b : ℕ) → a < b → nat_lt a b ≡ true
is_less a b l = grind (arith, nat_tests)

is_no_less : (a b : ℕ) → b ≤ a → nat_lt a b ≡ false
is_no_less a b l = grind (arith, nat_tests)

pub here : (x : Segment) (xs : List Segment) (k : ℕ) → 512 * k < x.len → address_in (x ∷ xs) k ≡ x.addr + 512 * k
here x xs k l = then_is (nat_lt (512 * k) x.len) (x.addr + 512 * k) (address_in xs (k - x.len / 512)) (is_less (512 * k) x.len l)

pub behind : (x : Segment) (xs : List Segment) (k : ℕ) → x.len ≤ 512 * k → address_in (x ∷ xs) k ≡ address_in xs (k - x.len / 512)
behind x xs k l = else_is (nat_lt (512 * k) x.len) (x.addr + 512 * k) (address_in xs (k - x.len / 512)) (is_no_less (512 * k) x.len l)

-- the same by how many bytes are left to go
pub here_left : (x : Segment) (xs : List Segment) (left : ℕ) → left % 512 ≡ 0 → left < x.len → address_in (x ∷ xs) (left / 512) ≡ x.addr + left
here_left x xs left w l =
    let e : 512 * (left / 512) ≡ left = omega arith in
    here x xs (left / 512) (omega (arith, e, l)) ∙ ap (λ n. x.addr + n) e

pub behind_left : (x : Segment) (xs : List Segment) (left : ℕ) → left % 512 ≡ 0 → x.len % 512 ≡ 0 → x.len ≤ left → address_in (x ∷ xs) (left / 512) ≡ address_in xs ((left - x.len) / 512)
behind_left x xs left w whole l =
    let e : 512 * (left / 512) ≡ left = omega arith in
    let f : left / 512 - x.len / 512 ≡ (left - x.len) / 512 = omega arith in
    behind x xs (left / 512) (omega (arith, e, l)) ∙ ap (λ n. address_in xs n) f

abbrev is_whole : Segment → Bool
is_whole s = s.len % 512 == 0

abbrev len_of : Segment → ℕ
len_of s = s.len

tail_fits : (n : ℕ) (x : Segment) (xs : List Segment) → All (λ (s : Segment). s.addr + s.len ≤ n) (x ∷ xs) → All (λ (s : Segment). s.addr + s.len ≤ n) xs
tail_fits n x xs h k d l = h (suc k) d (omega (arith, l))

-- a sector of these segments is where they are
pub address_fits : (n : ℕ) (xs : List Segment) (k : ℕ) → All (λ (s : Segment). s.addr + s.len ≤ n) xs → list_all is_whole xs ≡ true → 512 * k < sum_by len_of xs → address_in xs k + 512 ≤ n
address_fits n [] k a w l = absurd (omega (arith, l))
address_fits n (x ∷ xs) k a w l =
    let parts = and_parts (is_whole x) (list_all is_whole xs) w in
    let whole : x.len % 512 ≡ 0 = eqb-true (x.len % 512) 0 parts.0 in
    let inside : x.addr + x.len ≤ n = a 0 x (omega arith) in
    let sum : sum_by len_of (x ∷ xs) ≡ x.len + sum_by len_of xs = sum_by-cons len_of x xs in
    elim (cases_lt (512 * k) x.len) [
      | inl less ↦ let e = here x xs k less in omega (arith, e, inside, whole, less)
      | inr more ↦
          let e = behind x xs k more in
          let rest : address_in xs (k - x.len / 512) + 512 ≤ n = address_fits n xs (k - x.len / 512) (tail_fits n x xs a) parts.1 (omega (arith, sum, whole, more, l)) in
          omega (arith, e, rest)
    ]

-- ---- what a worker relies on that goes on with a request

pub not_flush : (k : Kind) → is_flush_kind k ≡ false → k ≢ Flush
not_flush k h = λ e. true≢false (sym (ap is_flush_kind e) ∙ h)

pub read_is_no_flush : (k : Kind) → is_read_kind k ≡ true → is_flush_kind k ≡ false
read_is_no_flush Read h = refl
read_is_no_flush Write h = refl
read_is_no_flush Flush h = absurd (true≢false (sym h))

-- the sector that comes next lies on the disk, and in memory
pub record Reaches (ram : Memory) (size : ℕ) (q : Request) (moved : ℕ) : Type 0 where
  pub sector : 512 * (q.start + moved) + 512 ≤ size
  pub address : address_in q.segments.items moved + 512 ≤ length ram.bytes
  pub pieces : All (λ (s : Segment). s.addr + s.len ≤ 2 ^ 30) q.segments.items

pub reaches : (ram : Memory) (disk : List ℕ) (q : Request) (moved : ℕ) → IsRam ram → IsAsked (capacity_of disk) q → Fits ram q → IsWhole q → is_flush q ≡ false → moved < q.count
    → Reaches ram (length disk) q moved
reaches ram disk q moved r a f w sectors more =
    let inside : q.start + q.count ≤ length disk / 512 = a.inside (not_flush q.kind sectors) in
    let filled : sum_by len_of q.segments.items ≡ 512 * q.count = a.filled (not_flush q.kind sectors) in
    let most : length ram.bytes ≤ 1073741824 = r.size.most in
    record {
      sector = omega (arith, inside, more);
      address = address_fits (length ram.bytes) q.segments.items moved f.pieces w (omega (arith, filled, more));
      pieces = λ k d l. let p : (get_or q.segments.items k d).addr + (get_or q.segments.items k d).len ≤ length ram.bytes = f.pieces k d l in omega (arith, p, most);
    }

-- the piece of a disk that is a sector
pub same_piece : (ram : Memory) (address at : ℕ) (disk bytes : List ℕ) (segments : List Segment) (moved k : ℕ) → address ≡ address_in segments moved → at ≡ 512 * k → bytes ≡ disk
    → written ram address (take (at + 512 - at) (drop at bytes)) ≡ written ram (address_in segments moved) (sector_of disk k)
same_piece ram address at disk bytes segments moved k a b e =
    let n : at + 512 - at ≡ 512 = omega arith in
    ap (λ (p : ℕ). written ram p (take (at + 512 - at) (drop at bytes))) a
    ∙ ap (λ (p : ℕ). written ram (address_in segments moved) (take p (drop at bytes))) n
    ∙ ap (λ (p : ℕ). written ram (address_in segments moved) (take 512 (drop p bytes))) b
    ∙ ap (λ (ys : List ℕ). written ram (address_in segments moved) (take 512 (drop (512 * k) ys))) e

pub length_sector : (bytes : List ℕ) (k : ℕ) → 512 * k + 512 ≤ length bytes → length (sector_of bytes k) ≡ 512
length_sector bytes k l = simp (length-take, length-drop) (omega (arith, l))

-- the sector of one disk is written over that of another
pub with_piece : (image bytes slice : List ℕ) (k : ℕ) → slice ≡ bytes → 512 * k + 512 ≤ length bytes
    → take (512 * k) image ++ take (512 * k + 512 - 512 * k) (drop (512 * k) slice) ++ drop (512 * k + length (take (512 * k + 512 - 512 * k) (drop (512 * k) slice))) image ≡ with_sector image k (sector_of bytes k)
with_piece image bytes slice k e l =
    let n : 512 * k + 512 - 512 * k ≡ 512 = omega arith in
    ap (λ (p : ℕ). take (512 * k) image ++ take p (drop (512 * k) slice) ++ drop (512 * k + length (take p (drop (512 * k) slice))) image) n
    ∙ ap (λ (ys : List ℕ). take (512 * k) image ++ take 512 (drop (512 * k) ys) ++ drop (512 * k + length (take 512 (drop (512 * k) ys))) image) e
    ∙ ap (λ (p : ℕ). take (512 * k) image ++ sector_of bytes k ++ drop (512 * k + p) image) (length_sector bytes k l)
