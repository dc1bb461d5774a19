-- The file of an image, as its bytes are read.
use Rattle.std.proofs.Common.{◌≡◌, ℕ, ◌^◌, ◌+◌, ◌<◌, ◌≤◌, List, ◌++◌, length, take, drop, refl, sym, ap, subst, ◌∙◌, arith, length-drop}
use Rattle.std.proofs.lemmas.List.{take-append-drop, get_or-drop, drop-drop}
use Rattle.byteorder.specs.Endian.{little_number, little_bytes}
use Rattle.byteorder.specs.Numbers.{little_number-reads_back}
use Rattle.vm_law.specs.declared.image.FlatImage.{FlatImage}
use Rattle.vm_law.specs.Image.{IsImage, magic, image_bytes}
use Rattle.vm_law.proofs.Numbers.{IsBytes, bytes_of_number}
use Rattle.vm_image.specs.Fault.{entry_in, code_in}

-- what the bytes read as
abbrev pub image_in : List ℕ → FlatImage
image_in bytes = record { entry = entry_in bytes; code = code_in bytes; payload = drop 24 bytes }

drop_twice : (n m : ℕ) (l : List ℕ) → drop (n + m) l ≡ drop m (drop n l)
drop_twice n m l = sym (drop-drop m n l)

-- the bytes of a number, and what follows them
behind_number : (bytes : List ℕ) → IsBytes bytes → 8 ≤ length bytes → bytes ≡ little_bytes 8 (little_number 8 bytes) ++ drop 8 bytes
behind_number bytes fits le =
    sym (take-append-drop 8 bytes) ∙ ap (λ (l : List ℕ). l ++ drop 8 bytes) (sym (bytes_of_number 8 bytes fits le))

pub image_read : (bytes : List ℕ) → IsBytes bytes → 24 ≤ length bytes → take 8 bytes ≡ magic → bytes ≡ image_bytes (image_in bytes)
image_read bytes fits le first =
    let deep : drop 16 bytes ≡ drop 8 (drop 8 bytes) = drop_twice 8 8 bytes in
    let deeper : drop 24 bytes ≡ drop 8 (drop 16 bytes) = drop_twice 16 8 bytes in
    let entry = behind_number (drop 8 bytes) (λ i. rw get_or-drop (fits (8 + i))) (omega (arith, length-drop 8 bytes)) in
    let code = behind_number (drop 16 bytes) (λ i. rw get_or-drop (fits (16 + i))) (omega (arith, length-drop 16 bytes)) in
    sym (take-append-drop 8 bytes)
    ∙ ap (λ (l : List ℕ). l ++ drop 8 bytes) first
    ∙ ap (λ (l : List ℕ). magic ++ l) (entry
    ∙ ap (λ (l : List ℕ). little_bytes 8 (entry_in bytes) ++ l) (sym deep ∙ code
    ∙ ap (λ (l : List ℕ). little_bytes 8 (code_in bytes) ++ l) (sym deeper)))

-- the same of the bytes of an image
pub record ReadsBack (bytes : List ℕ) (f : FlatImage) : Type 0 where
  pub size : length bytes ≡ 24 + length f.payload
  pub first : take 8 bytes ≡ magic
  pub entry : entry_in bytes ≡ f.entry
  pub code : code_in bytes ≡ f.code
  pub payload : drop 24 bytes ≡ f.payload

reads_back : (f : FlatImage) → f.entry < 2 ^ 64 → f.code < 2 ^ 64 → ReadsBack (image_bytes f) f
reads_back f entry code = record {
  size = omega arith;
  first = refl;
  entry = little_number-reads_back 8 f.entry (little_bytes 8 f.code ++ f.payload) (omega arith);
  code = little_number-reads_back 8 f.code f.payload (omega arith);
  payload = refl;
}

pub image_back : (memory : ℕ) (bytes : List ℕ) (f : FlatImage) → IsImage memory bytes f → ReadsBack bytes f
image_back memory bytes f image =
    let a = image.allowed in
    subst (λ (b : List ℕ). ReadsBack b f) (sym image.spelled) (reads_back f (omega (arith, a.small_code, a.entry)) (omega (arith, a.small_code)))
