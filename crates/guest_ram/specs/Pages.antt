-- Pages, and what a list of places of which some are absent reads as.
use Rattle.std.specs.Prelude.{◌≡◌, ℕ, ◌+◌, ◌*◌, ◌<◌, ◌≤◌, Bool, List, [], ◌∷◌, ◌++◌, length, take, drop, map, replicate, Option, Some, None, is_some, slice_index, slice_index_or, slice_set}
use Rattle.guest_ram.specs.GuestRam.{Ram, Stand}

-- a page of zeros
unfoldable pub zero_page : List ℕ
zero_page = replicate 4096 0

-- what a place reads as: an absent page as zeros
abbrev pub page_of : Option (List ℕ) → List ℕ
page_of None = zero_page
page_of (Some bytes) = bytes

-- the pages one behind the other
abbrev pub bytes_of : List (Option (List ℕ)) → List ℕ
bytes_of [] = []
bytes_of (place ∷ places) = page_of place ++ bytes_of places

-- which pages stand
abbrev pub standing_of : List (Option (List ℕ)) → List Bool
standing_of places = map is_some places

-- 4,096 bytes
pub record IsPage (page : List ℕ) : Type 0 where
  pub size : length page ≡ 4096
  pub bytes : (k : ℕ) → slice_index page k < 256

pub record ArePages (places : List (Option (List ℕ))) : Type 0 where
  pub each : (k : ℕ) → IsPage (page_of (slice_index_or places k None))

pub record AreZero (pages : List (List ℕ)) : Type 0 where
  pub each : (k : ℕ) → k < length pages → slice_index_or pages k zero_page ≡ zero_page

-- a page after a piece was written from an offset on
abbrev pub written_in : List ℕ → ℕ → List ℕ → List ℕ
written_in page offset piece = take offset page ++ piece ++ drop (offset + length piece) page

-- the places after a piece was written into one of them
abbrev pub written_to : List (Option (List ℕ)) → ℕ → ℕ → List ℕ → List (Option (List ℕ))
written_to places number offset piece =
    slice_set places number (Some (written_in (page_of (slice_index_or places number None)) offset piece))

-- the places after one of them was made to stand
abbrev pub standing_at : List (Option (List ℕ)) → ℕ → List (Option (List ℕ))
standing_at places number = slice_set places number (Some (page_of (slice_index_or places number None)))

-- what is kept is guest memory: from 256 to 262,144 pages, the code in them, and room of zeros
pub record IsKept (places : List (Option (List ℕ))) (code : ℕ) (room : List (List ℕ)) : Type 0 where
  pub least : 256 ≤ length places
  pub most : length places ≤ 262144
  pub pages : ArePages places
  pub inside : code ≤ 4096 * length places
  pub zeros : AreZero room

-- what it means
abbrev pub ram_of : List (Option (List ℕ)) → ℕ → List (List ℕ) → Ram
ram_of places code room = record { memory = record { bytes = bytes_of places; code = code }; standing = standing_of places; spare = length room }

-- a piece was written from an address on, and the pages that it touches were made to stand
pub record IsWritten (old new : List (Option (List ℕ))) (at : ℕ) (piece : List ℕ) : Type 0 where
  pub bytes : bytes_of new ≡ take at (bytes_of old) ++ piece ++ drop (at + length piece) (bytes_of old)
  pub pages : ArePages new
  pub count : length new ≡ length old
  pub standing : Stand (standing_of old) (standing_of new) at (length piece)
