-- The laws of one history, from the lemmas of each.
use Rattle.std.specs.Prelude.{Option, Some, None, ◌&&◌}
use Rattle.std.proofs.Common.{◌≡◌, ℕ, true, not, List, [], ◌∷◌, ◌++◌, sym, subst, ◌∙◌}
use Rattle.std.proofs.lemmas.Bool.{and_parts}
use Rattle.vm_law.specs.declared.journal.Entry.{Entry}
use Rattle.vm_law.specs.declared.journal.Entry.TheVariants.{Finish}
use Rattle.vm_law.specs.declared.journal.Signed.{Signed}
use Rattle.blk_queue.specs.declared.progress.Unfinished.{Unfinished}
use Rattle.blk_queue.specs.Queue.{has_request, request_of}
use Rattle.blk_queue.specs.Progress.{ends}
use Rattle.vm_state.specs.declared.start.Start as start_type
use Rattle.vm_state.specs.Sound.{IsSoundState}
use Rattle.vm_state.specs.Start.{IsSound, boot}
use Rattle.vm_state.specs.Requests.{is_busy_by}
use Rattle.vm_state.specs.State.{State}
use Rattle.vm_table.specs.History.{IsLegal, is_lawful_all, last_state}
use Rattle.vm_disks.specs.Moving.{may_finish}
use Rattle.vm_disks.proofs.KeptRows.{fits_now}
use Rattle.vm_disks.proofs.Lookup.{has_it}
use Rattle.vm_table.specs.Table.{allowed, lawful}
use Rattle.vm_laws.specs.Counting.{count_of}
use Rattle.vm_laws.specs.Entries.{is_unit_of}
use Rattle.vm_laws.specs.Requests.{IsWholeOrNot, moved_in, queue_of}
use Rattle.vm_laws.proofs.Balance.{balanced}
use Rattle.vm_laws.proofs.Bytes.{by_hold_alone, finished_whole}
use Rattle.vm_laws.proofs.Counted.{units_counted}
use Rattle.vm_laws.proofs.Cutting.{cuts_rest, saved_goes_on}
use Rattle.vm_laws.proofs.Doing.{done_once}
use Rattle.vm_laws.proofs.Excluding.{excludes}
use Rattle.vm_laws.proofs.Histories.{lawful_split}
use Rattle.vm_laws.proofs.Lending.{image_is_owned}
use Rattle.vm_laws.proofs.Owning.{after_keeps}
use Rattle.vm_laws.proofs.Serving.{finish_tells}
use Rattle.vm_laws.proofs.Sounding.{sound_after}
use Rattle.vm_laws.proofs.Timing.{fires_once, firing_posts, runs_down}
use Rattle.vm_laws.specs.Laws.{BeginsWith, IsMovedWhole, Laws}
use Rattle.vm_laws.proofs.Pages.{lawful_front, pages_have_versions}

-- ---- an entry, and some entries, where they stand

front_legal : (start : start_type.Start) (history front : List Signed) → BeginsWith history front → IsLegal start history → IsLegal start front
front_legal start history front begins legal = lawful_front (boot start) front begins.0 (subst (λ xs. IsLegal start xs) begins.1 legal)

-- the entries behind, from the state where they stand
rest_lawful : (start : start_type.Start) (history before xs : List Signed) → BeginsWith history (before ++ xs) → IsLegal start history → is_lawful_all (last_state start before) xs ≡ true
rest_lawful start history before xs begins legal = lawful_split (boot start) before xs (front_legal start history (before ++ xs) begins legal)

entry_lawful : (start : start_type.Start) (history before : List Signed) (x : Signed) → BeginsWith history (before ++ x ∷ []) → IsLegal start history → lawful (last_state start before) x.by x.entry ≡ true
entry_lawful start history before x begins legal = (and_parts (lawful (last_state start before) x.by x.entry) _ (rest_lawful start history before (x ∷ []) begins legal)).0

before_legal : (start : start_type.Start) (history before : List Signed) (x : Signed) → BeginsWith history (before ++ x ∷ []) → IsLegal start history → IsLegal start before
before_legal start history before x begins legal = lawful_front (boot start) before (x ∷ []) (front_legal start history (before ++ x ∷ []) begins legal)

-- ---- where a request is finished all of its units were moved

moved_whole : (o : Option Unfinished) (n : ℕ) → IsWholeOrNot o → moved_in o ≡ n → IsMovedWhole n o
moved_whole None n h e = h
moved_whole (Some x) n h e = λ f g. sym e ∙ h f g

may_finish_of : (s : State) (p d id : ℕ) → lawful s p (Finish d id) ≡ true → may_finish s p d id ≡ true
unfolding lawful allowed
may_finish_of s p d id m = (and_parts (not s.closed) (may_finish s p d id) m).1

finish_there : (s : State) (p d id : ℕ) → IsSoundState s → lawful s p (Finish d id) ≡ true → has_request (queue_of s.machine d) id ≡ true
finish_there s p d id h m =
    let t = finish_tells s p d id (may_finish_of s p d id m) in
    has_it (queue_of s.machine d) id (λ x. is_busy_by p x && ends x) (fits_now s d h t.0).sound t.1

finish_whole : (start : start_type.Start) (before : List Signed) (x : Signed) (d id : ℕ) → IsSound start → IsLegal start before → lawful (last_state start before) x.by x.entry ≡ true → x.entry ≡ Finish d id
    → IsMovedWhole (count_of (λ s y. is_unit_of d id y.entry) (boot start) before) (request_of (queue_of (last_state start before).machine d) id)
finish_whole start before x d id sound legal may is =
    let s = last_state start before in
    let h = sound_after start before sound legal in
    let m : lawful s x.by (Finish d id) ≡ true = subst (λ (e : Entry). lawful s x.by e ≡ true) is may in
    moved_whole (request_of (queue_of s.machine d) id) _ (finished_whole s x.by d id h m)
    (units_counted start before d id sound legal (finish_there s x.by d id h m))

-- ---- all of them

pub laws_hold : (start : start_type.Start) (history : List Signed) → IsSound start → IsLegal start history → Laws start history
laws_hold start history sound legal = record {
  vectors = λ i v. balanced start history i v legal;
  meetings = λ before x m xs there o k. excludes start before x m xs (front_legal start history (before ++ x ∷ xs) there legal) o k;
  requests = record {
    once = λ d id. done_once start history d id sound legal;
    units = λ before d id there g. units_counted start before d id sound (front_legal start history before there legal) g;
    whole = λ before x d id there is. finish_whole start before x d id sound (before_legal start history before x there legal) (entry_lawful start history before x there legal) is;
    disks = λ before x d there w. by_hold_alone (last_state start before) x d (entry_lawful start history before x there legal) w;
  };
  cuts = record {
    rest = λ k m c. cuts_rest start history k m legal c;
    begins = λ m e. saved_goes_on start m e;
  };
  owners = record {
    vcpus = λ before x i p there h ne. after_keeps (last_state start before) x i p (entry_lawful start history before x there legal) h ne;
    images = λ before x d p id there l e ne. image_is_owned (last_state start before) x d p id (sound_after start before sound (before_legal start history before x there legal)) l (entry_lawful start history before x there legal) e ne;
    pages = λ shorter between k there e. pages_have_versions start shorter between k sound (front_legal start history (shorter ++ between) there legal) e;
  };
  timers = record {
    down = λ before xs i there l a some. runs_down (last_state start before) i xs l (rest_lawful start history before xs there legal) a some;
    once = λ before x xs i there l one f a. fires_once (last_state start before) x i xs l (rest_lawful start history before (x ∷ xs) there legal) one f a;
    posts = λ before x i there l f h. firing_posts (last_state start before) x i l (entry_lawful start history before x there legal) f h;
  };
}
