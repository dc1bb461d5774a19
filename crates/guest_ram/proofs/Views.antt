-- What is known of a guest memory from what is kept of it.
use Rattle.std.proofs.Common.{◌≡◌, ℕ, ◌+◌, ◌-◌, ◌*◌, ◌≤◌, ◌<◌, List, length, get_or, take, drop, min, ap, sym, ◌∙◌, inl, inr, arith}
use Rattle.std.specs.Prelude.{is_some}
use Rattle.std.proofs.lemmas.List.{length-map, length-take, drop-take, take-take, take_all}
use Rattle.std.proofs.lemmas.Bool.{cases_lt}
use Rattle.guest_ram.specs.GuestRam.{Ram, IsSound, AbsentAreZero}
use Rattle.guest_ram.specs.Pages.{IsKept, ram_of, bytes_of}
use Rattle.guest_ram.proofs.Pages.{Place, length-places, bytes-places, absent_are_zero}

pub record Sound (r : Ram) : Type 0 where
  pub sound : IsSound r.memory
  pub bytes : (k : ℕ) → get_or r.memory.bytes k 0 < 256
  pub pages : length r.standing * 4096 ≡ length r.memory.bytes
  pub absent : AbsentAreZero r

pub kept_is_sound : (places : List Place) (code : ℕ) (room : List (List ℕ)) → IsKept places code room → Sound (ram_of places code room)
kept_is_sound places code room kept =
    let size : length (bytes_of places) ≡ 4096 * length places = length-places places kept.pages in
    let least : 256 ≤ length places = kept.least in
    let most : length places ≤ 262144 = kept.most in
    let inside : code ≤ 4096 * length places = kept.inside in
    record {
      sound = record { size = record { least = omega arith; most = omega arith; whole = omega arith }; code = omega arith };
      bytes = bytes-places places kept.pages.each;
      pages = omega (arith, length-map places is_some);
      absent = λ at h. absent_are_zero places kept.pages at h;
    }

-- how many bytes there are
pub size_of : (places : List Place) (code : ℕ) (room : List (List ℕ)) (r : Ram) → ram_of places code room ≡ r → IsKept places code room
    → length r.memory.bytes ≡ 4096 * length places
size_of places code room r is kept = ap (λ (x : Ram). length x.memory.bytes) (sym is) ∙ length-places places kept.pages

-- what is fetched
pub fetched : (bytes : List ℕ) (code at n : ℕ) → at < code → n ≡ min (code - at) 15 → take 15 (drop at (take code bytes)) ≡ take n (drop at bytes)
fetched bytes code at n lt is =
    let e : code ≡ at + (code - at) = omega arith in
    let d : drop at (take code bytes) ≡ take (code - at) (drop at bytes) = ap (λ (k : ℕ). drop at (take k bytes)) e ∙ drop-take at (code - at) bytes in
    let rest = drop at bytes in
    ap (λ (xs : List ℕ). take 15 xs) d
    ∙ elim (cases_lt (code - at) 15) [
      | inl less ↦
          let k : code - at ≡ n = omega arith in
          let l : length (take (code - at) rest) ≤ 15 = omega (arith, length-take (code - at) rest) in
          take_all 15 (take (code - at) rest) l ∙ ap (λ (m : ℕ). take m rest) k
      | inr more ↦
          let k : 15 ≡ n = omega arith in
          take-take 15 (code - at) rest more ∙ ap (λ (m : ℕ). take m rest) k
    ]
