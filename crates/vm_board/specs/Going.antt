-- What an actor does at the turnstile: it takes the board, takes its turn, gives the board back, and does its work outside.
use Rattle.std.specs.Prelude.{◌≡◌, ◌⊎◌, ℕ, zero, suc, ◌<◌, Bool, List, [], ◌++◌, length, Option, Some, None}
use Rattle.vm_law.specs.declared.journal.Signed.{Signed}
use Rattle.vm_turn.specs.History.{signed_by}
use Rattle.vm_turn.specs.declared.view.View.{View}
use Rattle.vm_state.specs.declared.start.Start.{Start}
use Rattle.vm_state.specs.State.{State}
use Rattle.vm_table.specs.History.{last_state}
use Rattle.vm_table.specs.Turns.{first_lawful}
use Rattle.vm_board.specs.declared.actor.Did.{Did}
use Rattle.vm_board.specs.declared.actor.Did.TheVariants.{Added, Nothing, Left, Starved}
use Rattle.vm_board.specs.declared.actor.Went.{Went}
use Rattle.vm_board.specs.declared.actor.Went.TheVariants as went
use Rattle.vm_board.specs.Turn.{some_entry, told, with_choice}

-- an actor, with what its pass has seen and what that has added
pub record Place (A : Type 0) : Type 0 where
  pub seen : List Signed
  pub own : List Signed
  pub actor : A

abbrev pub place : {A : Type 0} → View Start → A → Place A
place v a = record { seen = v.seen; own = v.own; actor = a }

-- what a pass knows but for histories and tries stays
pub record IsSamePass (old new : View Start) : Type 0 where
  pub live : new.live ≡ old.live
  pub number : new.number ≡ old.number
  pub root : new.root ≡ old.root
  pub splits : new.splits ≡ old.splits
  pub ended : new.ended ≡ old.ended

-- a turn that wanted memory added nothing
abbrev pub added_in : Did → List Signed → List Signed
added_in Starved entries = []
added_in did entries = entries

-- Left where the actor leaves, else Added or Nothing, by whether there are entries; for want of memory there is no rule
abbrev pub IsTold : Did → Bool → Bool → Type 0
IsTold Starved leaves added = Unit {0}
IsTold did leaves added = did ≡ told leaves added

-- what the turns come to with this one, if it is the last
abbrev pub end_of : Did → Option Went
end_of Added = None
end_of Nothing = None
end_of Left = Some went.Left
end_of Starved = Some went.Starved

-- by is the number of the pass; back is what comes back in a turn; leaves says whether nothing is left to do; and Next what a
-- turn that answered so, and the work outside, make of the actor, in the state after the turn
module _ {A : Type 0} (start : Start) (by : ℕ) (back : State → A → List Signed) (leaves : State → A → Bool) (Next : State → Did → A → A → Type 0) where
  -- the entries of a turn behind this history
  abbrev pub entries_after : List Signed → A → List Signed
  entries_after found a = with_choice (last_state start found) by (back (last_state start found) a)

  -- a stay: behind what the pass has seen stand entries of others, and behind them come those of the turn
  pub record IsStay (old new : Place A) (did : Did) : Type 0 where
    pub others : List Signed
    pub none_own : signed_by by others ≡ []
    pub seen : new.seen ≡ old.seen ++ others ++ added_in did (entries_after (old.seen ++ others) old.actor)
    pub own : new.own ≡ old.own ++ added_in did (entries_after (old.seen ++ others) old.actor)
    pub told : IsTold did (leaves (last_state start new.seen) new.actor) (some_entry (entries_after (old.seen ++ others) old.actor))
    pub actor : Next (last_state start new.seen) did old.actor new.actor

  -- one stay more, after which the actor goes on
  pub record IsOneMore (Before : Place A → Type 0) (new : Place A) : Type 0 where
    pub mid : Place A
    pub did : Did
    pub before : Before mid
    pub stay : IsStay mid new did
    pub goes : end_of did ≡ None

  -- so many stays, after each of which the actor goes on
  abbrev pub AreStays : ℕ → Place A → Place A → Type 0
  AreStays zero old new = new ≡ old
  AreStays (suc n) old new = IsOneMore (λ mid. AreStays n old mid) new

  -- at most so many stays, after all of which but the last the actor goes on
  pub record EndsWith (most : ℕ) (old new : Place A) (w : Went) : Type 0 where
    pub count : ℕ
    pub few : count < most
    pub mid : Place A
    pub did : Did
    pub stays : AreStays count old mid
    pub last : IsStay mid new did
    pub ends : end_of did ≡ Some w

  abbrev pub HasGone : ℕ → Place A → Place A → Went → Type 0
  HasGone most old new went.Again = AreStays most old new
  HasGone most old new w = EndsWith most old new w

-- the pass added entries, or its list has no lawful entry after what it has seen
abbrev pub HasAddedOrNone : {A : Type 0} → Start → ℕ → Place A → Place A → Type 0
HasAddedOrNone start by old new = (length old.own < length new.own) ⊎ (first_lawful (last_state start new.seen) by ≡ None)
