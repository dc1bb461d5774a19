-- What a crash at some moment may leave in a file. Between two syncs each written range, and the part between the old
-- end and the end of a written range, may hold any bytes after a crash, or be cut off where it lies past the old end;
-- bytes outside stay; after a sync that succeeded (fsync(2)) a crash leaves what a read gives.
use Rattle.std.specs.Prelude.{◌≡◌, ◌⊎◌, ℕ, ◌+◌, ◌≤◌, ◌<◌, ◌-◌, min, max, List, length, take, drop, Option, Some, Result, OnOk, OnErr}
use Rattle.vm_host.specs.Views.{HostView}
use Rattle.vm_host.specs.declared.host.HostFault.{HostFault}

-- a crash leaves this and nothing else
abbrev pub Only : List ℕ → (List ℕ → Type 0) → Type 0
Only file outcomes = (b : List ℕ) → outcomes b → b ≡ file

-- a crash now may leave what each file reads as
abbrev pub ReadsNow : HostView → Type 0
ReadsNow host = (q b : List ℕ) → host.file q ≡ Some b → host.left q host.moment b

-- a crash from a later moment on is one from an earlier moment on
abbrev pub SinceEarlier : (List ℕ → ℕ → List ℕ → Type 0) → Type 0
SinceEarlier left = (q : List ℕ) (t u : ℕ) (b : List ℕ) → t ≤ u → left q u b → left q t b

-- Time goes on over a call on the files of these names. `left q t b`: a crash since t may have left b in q.
pub record Passes (Named : List ℕ → Type 0) (before now : ℕ) (old new : List ℕ → ℕ → List ℕ → Type 0) : Type 0 where
  pub later : before ≤ now
  -- since an earlier moment there is exactly what there was, and what came since the call began
  pub nothing_else : (q : List ℕ) (t : ℕ) (b : List ℕ) → t ≤ before → new q t b → old q t b ⊎ new q before b
  pub keeps : (q : List ℕ) (t : ℕ) (b : List ℕ) → t ≤ before → old q t b → new q t b
  pub earlier : SinceEarlier new
  -- in the other files nothing came
  pub others : (q : List ℕ) (b : List ℕ) → (Named q → ⊥) → new q before b → old q before b

-- Time goes on over a call that adds nothing that a crash couldn't leave at its start.
pub record AddsNothing (before now : ℕ) (old new : List ℕ → ℕ → List ℕ → Type 0) : Type 0 where
  pub later : before ≤ now
  pub nothing_else : (q : List ℕ) (t : ℕ) (b : List ℕ) → t ≤ before → new q t b → old q t b
  pub keeps : (q : List ℕ) (t : ℕ) (b : List ℕ) → t ≤ before → old q t b → new q t b
  pub earlier : SinceEarlier new

-- after a write of n bytes that a crash cuts short: the same outside the range and below the old end, no shorter than before and
-- no longer than the greater end
pub record Torn (at n : ℕ) (old new : List ℕ) : Type 0 where
  pub before : take (min at (length old)) new ≡ take at old
  pub after : take (length old - (at + n)) (drop (at + n) new) ≡ drop (at + n) old
  pub no_shorter : length old ≤ length new
  pub no_longer : length new ≤ max (length old) (at + n)

-- a crash leaves what it could leave before, or that with the write cut short
abbrev pub AddsTorn : ℕ → ℕ → (List ℕ → Type 0) → (List ℕ → Type 0) → Type 0
AddsTorn at n old new = (b : List ℕ) → new b → old b ⊎ ((d : List ℕ) × old d × Torn at n d b)

-- the moment of a `make` of this name
pub record Makes {T : Type 0} (name : List ℕ) (old new : HostView) (result : Result T HostFault) : Type 0 where
  pub rises : OnOk result (old.moment < new.moment)
  pub made : OnOk result (new.made name ≡ new.moment)
  pub not_made : OnErr result (new.made name ≡ old.made name)
