-- What clauses see of a host, of a disk image and of a sink.
use Rattle.std.specs.Prelude.{ℕ, Bool, List, Option}

-- Files by name, and what crashes may leave of them. Content is spoken of only where a host tells it.
pub record HostView : Type 1 where
  -- whether it tells its files
  pub tells : Bool
  -- what the file of a name reads as, if there is one
  pub file : List ℕ → Option (List ℕ)
  -- how often it has answered Failed and Missing
  pub faults : ℕ
  pub misses : ℕ
  -- the name, of at most 4,096 bytes (PATH_MAX of limits.h), that the last call that answered Failed was about; [] before
  pub failed : List ℕ
  -- how many images came back with faults of their own
  pub image_faults : ℕ
  -- the present moment, a number that never falls
  pub moment : ℕ
  -- the moment at the end of the last making of a file, or 0
  pub made : List ℕ → ℕ
  -- `left q t b`: a crash at some moment from t to now may have left these bytes in the file q
  pub left : List ℕ → ℕ → List ℕ → Type 0

-- The bytes of an image, and how often a call failed and a sync succeeded.
pub record ImageView : Type 0 where
  pub tells : Bool
  pub content : List ℕ
  pub faults : ℕ
  pub syncs : ℕ

-- The bytes that a sink took, from its start on, and how often it failed.
pub record SinkView : Type 0 where
  pub tells : Bool
  pub taken : List ℕ
  pub faults : ℕ
