-- Copies of the pages of code, each with the version at which it was read.
use Rattle.std.specs.Prelude.{◌≡◌, ℕ, ◌+◌, ◌*◌, ◌≤◌, ◌⊎◌, Bool, ◌==◌, List, ◌++◌, length, take, drop, slice_index, slice_set, refl}
use Rattle.std.specs.Coded.{Coded, code_by, coded×, coded_ℕ, coded_list}
use Rattle.vm_state.specs.Machine.{code_of}
use Rattle.vm_state.specs.State.{State}
use Rattle.vm_board.specs.Pages.{page_of}

-- the bytes of the copies, laid end to end, and per page its version
pub record CopiesView : Type 0 where
  pub code : List ℕ
  pub versions : List ℕ

abbrev pub copies_code : Coded CopiesView
copies_code = code_by (List ℕ × List ℕ) (coded× (coded_list coded_ℕ) (coded_list coded_ℕ)) (λ v. (v.code, v.versions)) (λ p. record { code = p.0; versions = p.1 }) (λ _. refl)

-- they are copies of the run's code: a page whose version has stayed is as its copy
pub record AreCopies (s : State) (c : CopiesView) : Type 0 where
  pub size : length c.code ≡ length (code_of s.machine)
  pub count : length c.versions ≡ length s.versions
  pub earlier : (page : ℕ) → slice_index c.versions page ≤ slice_index s.versions page
  pub pages : (page : ℕ) → slice_index s.versions page ≡ slice_index c.versions page → page_of c.code page ≡ page_of (code_of s.machine) page

-- each is as the run's
pub record AreRenewed (s : State) (c : CopiesView) : Type 0 where
  pub code : c.code ≡ code_of s.machine
  pub versions : c.versions ≡ s.versions

-- the page has the version at which it was copied
abbrev pub is_kept_in : State → List ℕ → ℕ → Bool
is_kept_in s versions page = slice_index s.versions page == slice_index versions page

-- the copy with other bytes from a place on
abbrev pub replaced : List ℕ → ℕ → List ℕ → List ℕ
replaced code at piece = take at code ++ piece ++ drop (at + length piece) code

-- the copy of a page stays where the page has kept its version, and else is as the page
abbrev pub IsPageRenewed : State → CopiesView → CopiesView → ℕ → Type 0
IsPageRenewed s old new page =
    ((slice_index s.versions page ≡ slice_index old.versions page) × (new ≡ old))
    ⊎ ((new.code ≡ replaced old.code (4096 * page) (page_of (code_of s.machine) page)) × (new.versions ≡ slice_set old.versions page (slice_index s.versions page)))
