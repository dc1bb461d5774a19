-- Bytes without a fault are the file of an image.
use Rattle.std.proofs.Common.{◌≡◌, ℕ, suc, ◌+◌, ◌<◌, ◌≤◌, nat_eq, List, [], ◌∷◌, length, take, drop, Option, None, Some, Bool, true, false, cond, refl, sym, subst, ◌∙◌, arith, length-drop}
use Rattle.std.specs.List.{common_prefix_len}
use Rattle.std.proofs.lemmas.Grind.{common_steps}
use Rattle.std.proofs.lemmas.Bool.{eqb-true, eq-eqb, ltb-false, leb-false, le-ltb, lt-leb}
use Rattle.std.proofs.lemmas.Bool.Decides.{nat_tests}
use Rattle.vm_law.specs.declared.image.FlatImage.{FlatImage}
use Rattle.vm_law.specs.Image.{IsImage, magic}
use Rattle.vm_law.proofs.Numbers.{IsBytes}
use Rattle.vm_image.specs.Fault.{first_fault, magic_begun, entry_in, code_in, payload_size, is_bad_code}
use Rattle.vm_image.proofs.Images.{image_in, image_read, image_back}

-- a list that has all of another in common with it begins with that
begins : (xs ys : List ℕ) → length xs ≤ common_prefix_len nat_eq xs ys → take (length xs) ys ≡ xs
begins [] ys le = refl
begins (x ∷ xs) [] le = absurd (omega arith)
begins (x ∷ xs) (y ∷ ys) le =
    elim (nat_eq x y) as (λ b. nat_eq x y ≡ b → suc (length xs) ≤ cond b (1 + common_prefix_len nat_eq xs ys) 0 → y ∷ take (length xs) ys ≡ x ∷ xs) [
      | true ↦ λ same more. let first : x ≡ y = eqb-true x y same in let rest = begins xs ys (omega arith) in cc
      | false ↦ λ other none. absurd (omega arith)
    ] refl le

-- and has all of it in common
in_common : (xs ys : List ℕ) → take (length xs) ys ≡ xs → common_prefix_len nat_eq xs ys ≡ length xs
in_common [] ys e = refl
in_common (x ∷ xs) [] e = cc
in_common (x ∷ xs) (y ∷ ys) e =
    let first : y ≡ x = cc in
    let rest : take (length xs) ys ≡ xs = cc in
    let more = in_common xs ys rest in
    rw (eq-eqb x y (sym first), more) (omega arith)

-- five tests, of which none holds
record NoneHolds (a b c d e : Bool) : Type 0 where
  pub first : a ≡ false
  pub second : b ≡ false
  pub third : c ≡ false
  pub fourth : d ≡ false
  pub fifth : e ≡ false

abbrev first_of : {X : Type 0} → Bool → Bool → Bool → Bool → Bool → X → X → X → X → X → Option X
first_of a b c d e f g h i j = cond a (Some f) (cond b (Some g) (cond c (Some h) (cond d (Some i) (cond e (Some j) None))))

none_holds : {X : Type 0} (a b c d e : Bool) (f g h i j : X) → first_of a b c d e f g h i j ≡ None → NoneHolds a b c d e
none_holds true b c d e f g h i j none = cc
none_holds false true c d e f g h i j none = cc
none_holds false false true d e f g h i j none = cc
none_holds false false false true e f g h i j none = cc
none_holds false false false false true f g h i j none = cc
none_holds false false false false false f g h i j none = record { first = refl; second = refl; third = refl; fourth = refl; fifth = refl }

none_is_first : {X : Type 0} (a b c d e : Bool) (f g h i j : X) → NoneHolds a b c d e → first_of a b c d e f g h i j ≡ None
none_is_first a b c d e f g h i j none = rw (none.first, none.second, none.third, none.fourth, none.fifth) refl

-- what the tests of a file ask for
pub record Passes (memory : ℕ) (bytes : List ℕ) : Type 0 where
  pub begun : 8 ≤ magic_begun bytes
  pub header : 24 ≤ length bytes
  pub some_code : 0 < code_in bytes
  pub small_code : code_in bytes ≤ 16777216
  pub within : code_in bytes ≤ payload_size bytes
  pub entry : entry_in bytes < code_in bytes
  pub fits : payload_size bytes ≤ memory

-- a code part's length is none of the bad ones
good_code : (code payload : ℕ) → is_bad_code code payload ≡ false → (0 < code) × (code ≤ 16777216) × (code ≤ payload)
good_code code payload good = (grind (arith, nat_tests, common_steps), grind (arith, nat_tests, common_steps), grind (arith, nat_tests, common_steps))

code_is_good : (code payload : ℕ) → 0 < code → code ≤ 16777216 → code ≤ payload → is_bad_code code payload ≡ false
code_is_good code payload some small within = grind (arith, nat_tests, common_steps)

passes_without : (memory : ℕ) (bytes : List ℕ) → first_fault memory bytes ≡ None → Passes memory bytes
unfolding first_fault
passes_without memory bytes none =
    let tests = none_holds _ _ _ _ _ _ _ _ _ _ none in
    let code = good_code (code_in bytes) (payload_size bytes) tests.third in
    record {
      begun = ltb-false _ _ tests.first;
      header = ltb-false _ _ tests.second;
      some_code = code.0;
      small_code = code.1;
      within = code.2;
      entry = leb-false _ _ tests.fourth;
      fits = ltb-false _ _ tests.fifth;
    }

without_passes : (memory : ℕ) (bytes : List ℕ) → Passes memory bytes → first_fault memory bytes ≡ None
unfolding first_fault
without_passes memory bytes p =
    none_is_first _ _ _ _ _ _ _ _ _ _ (record {
      first = le-ltb _ _ p.begun;
      second = le-ltb _ _ p.header;
      third = code_is_good (code_in bytes) (payload_size bytes) p.some_code p.small_code p.within;
      fourth = lt-leb _ _ p.entry;
      fifth = le-ltb _ _ p.fits;
    })

pub image_found : (memory : ℕ) (bytes : List ℕ) → IsBytes bytes → first_fault memory bytes ≡ None → IsImage memory bytes (image_in bytes)
image_found memory bytes fits none =
    let p = passes_without memory bytes none in
    record {
      spelled = image_read bytes fits p.header (begins magic bytes (omega (arith, p.begun)));
      allowed = record {
        some_code = p.some_code;
        small_code = p.small_code;
        within = omega (arith, p.within, length-drop 24 bytes);
        entry = p.entry;
        fits = omega (arith, p.fits, length-drop 24 bytes);
      };
    }

abbrev made : ℕ → ℕ → List ℕ → FlatImage
made entry code payload = record { entry = entry; code = code; payload = payload }

-- the image of parts that are those of the bytes
pub made_of_parts : (bytes : List ℕ) (entry code : ℕ) (payload : List ℕ) → entry ≡ entry_in bytes → code ≡ code_in bytes
    → payload ≡ drop 24 bytes → made entry code payload ≡ image_in bytes
made_of_parts bytes entry code payload is_entry is_code is_payload = rw (is_entry, is_code, is_payload) refl

image_alone : (memory : ℕ) (bytes : List ℕ) (f : FlatImage) → IsImage memory bytes f → f ≡ image_in bytes
image_alone memory bytes f image =
    let back = image_back memory bytes f image in
    made_of_parts bytes f.entry f.code f.payload (sym back.entry) (sym back.code) (sym back.payload)

pub image_accepted : (memory : ℕ) (bytes : List ℕ) (f : FlatImage) → IsImage memory bytes f → first_fault memory bytes ≡ None
image_accepted memory bytes f image =
    let back = image_back memory bytes f image in
    let a = image.allowed in
    without_passes memory bytes (record {
      begun = omega (arith, in_common magic bytes back.first);
      header = omega (arith, back.size);
      some_code = omega (arith, back.code, a.some_code);
      small_code = omega (arith, back.code, a.small_code);
      within = omega (arith, back.code, back.size, a.within);
      entry = omega (arith, back.code, back.entry, a.entry);
      fits = omega (arith, back.size, a.fits);
    })

-- the image that is read is the one that has these bytes
pub read_image : (memory : ℕ) (bytes : List ℕ) (f : FlatImage) → IsBytes bytes → first_fault memory bytes ≡ None
    → f.entry ≡ entry_in bytes → f.code ≡ code_in bytes → f.payload ≡ drop 24 bytes → IsImage memory bytes f
read_image memory bytes f fits none is_entry is_code is_payload =
    subst (λ (g : FlatImage). IsImage memory bytes g) (sym (made_of_parts bytes f.entry f.code f.payload is_entry is_code is_payload)) (image_found memory bytes fits none)

pub read_alone : (memory : ℕ) (bytes : List ℕ) (f g : FlatImage) → f.entry ≡ entry_in bytes → f.code ≡ code_in bytes
    → f.payload ≡ drop 24 bytes → IsImage memory bytes g → f ≡ g
read_alone memory bytes f g is_entry is_code is_payload image =
    made_of_parts bytes f.entry f.code f.payload is_entry is_code is_payload ∙ sym (image_alone memory bytes g image)
