-- Images that are opened one after the other, and given back.
use Rattle.std.proofs.Common.{◌≡◌, ◌≢◌, ◌⊎◌, inl, inr, ℕ, zero, suc, ◌+◌, ◌<◌, ◌≤◌, Bool, true, false, List, [], ◌∷◌, length, drop, Option, Some, Err, refl, sym, subst, ap, ◌∙◌, arith, add-one}
use Rattle.std.specs.Prelude.{slice_index_or, IsSome}
use Rattle.std.proofs.Math.Seq.{drop-cons}
use Rattle.std.proofs.lemmas.Bool.{cases_lt}
use Rattle.std.proofs.lemmas.List.Elements.{All-nil, All-cons, All-weaker}
use Rattle.vm_board.specs.Homes.{IsFresh, AreFresh}
use Rattle.vm_host.specs.Counts.{Rose, RoseExactly, SameCounts}
use Rattle.vm_host.specs.Crash.{SinceEarlier}
use Rattle.vm_host.specs.Leaves.{LeavesHost, WritesFile, WritesFiles}
use Rattle.vm_host.specs.Told.{WhereTold}
use Rattle.vm_host.specs.Views.{HostView, ImageView}
use Rattle.vm_host.proofs.Frames.{reads_itself, reads_writes, writes_on, writes_among}
use Rattle.vm_state.specs.declared.start.Start.{Start}
use Rattle.vm_status.specs.declared.refusal.Refusal.{Refusal}
use Rattle.vm_status.specs.declared.refusal.Refusal.TheVariants.{HostFault, Memory}
use Rattle.vm_start.specs.Causes.{HasReadCauses}
use Rattle.vm_start.specs.Images.{path_of, AreApart}
use Rattle.vm_start.specs.Opening.{IsFrom, IsOpen, IsShut}
use Rattle.std.specs.Str.{bytes_eq}
use Rattle.std.proofs.lemmas.Slice.Eq.{bytes_eq-Decides}

-- counts after a call that answers nothing
pub causes_same : {X : Type 0} (e : Refusal) (a b c : HostView) → HasReadCauses {X = X} (Err e) a b → SameCounts b c → HasReadCauses {X = X} (Err e) a c
causes_same e a b c h same = record {
  failed = λ s. subst (λ (n : ℕ). Rose a.faults n) (sym same.faults) (h.failed s);
  named = λ name p. same.failed ∙ h.named name p;
  missing = λ s. subst (λ (n : ℕ). Rose a.misses n) (sym same.misses) (h.missing s);
  only_failed = λ lt. h.only_failed (omega (arith, lt, same.faults));
  only_missing = λ lt. h.only_missing (omega (arith, lt, same.misses));
  later = (omega (arith, h.later.0, same.faults), omega (arith, h.later.1, same.misses));
}

some_is : {X : Type 0} (o : Option X) (x y : X) → o ≡ Some x → o ≡ Some y → x ≡ y
some_is o x y e f = cc

drop_nil : {X : Type 0} (n : ℕ) → ◌≡◌ {A = List X} (drop n []) []
drop_nil {X} zero = refl
drop_nil {X} (suc n) = refl

drop-all : {X : Type 0} (n : ℕ) (xs : List X) → length xs ≤ n → drop n xs ≡ []
drop-all n [] le = drop_nil n
drop-all zero (x ∷ xs) le = absurd (omega arith)
drop-all (suc n) (x ∷ xs) le = drop-all n xs (omega arith)

-- the same name, or another
same_name : (x y : List ℕ) (b : Bool) → bytes_eq x y ≡ b → (x ≡ y) ⊎ (x ≢ y)
same_name x y true e = inl ((bytes_eq-Decides x y).0 e)
same_name x y false e = inr (λ p. let f = (bytes_eq-Decides x y).1 p in let bad : true ≡ false = sym f ∙ e in cc)

is_same : (x y : List ℕ) → (x ≡ y) ⊎ (x ≢ y)
is_same x y = same_name x y (bytes_eq x y) refl

-- what is known of an image that was opened under a name
pub record IsLent (view : ImageView) (name : List ℕ) (a b : HostView) : Type 0 where
  pub told : view.tells ≡ a.tells
  pub content : WhereTold a.tells (a.file name ≡ Some view.content)
  pub fresh : (view.faults ≡ 0) × (view.syncs ≡ 0)
  pub stands : WhereTold a.tells (IsSome (b.file name))
  pub leaves : WritesFile name a b

module _ {I : Type 0} (seen : I → ImageView) where
  pub fresh_count : (disks : List (List ℕ)) (images : List I) → AreFresh seen disks images → length images ≡ length disks
  fresh_count [] [] h = refl
  fresh_count [] (x ∷ xs) h = absurd h
  fresh_count (d ∷ ds) [] h = absurd h
  fresh_count (d ∷ ds) (x ∷ xs) h = ap (λ (n : ℕ). suc n) (fresh_count ds xs h.1)

  module _ (start : Start) (apart : AreApart start.plan) where
    -- no disk is left
    pub open_none : (first : ℕ) (a : HostView) → (a.tells ≡ true → SinceEarlier a.left) → length start.disks ≤ first → length start.plan.disks ≤ first → IsOpen seen start first [] a a
    open_none first a earlier none past = record {
      fresh = let e : [] ≡ drop first start.disks = sym (drop-all first start.disks none) in subst (λ (l : List (List ℕ)). AreFresh seen l []) e tt;
      told = All-nil _;
      stand = λ t d low lt. absurd (omega (arith, low, lt, past));
      leaves = reads_writes a a _ (reads_itself a earlier);
    }

    -- no memory
    pub shut_memory : (first : ℕ) (a : HostView) → (a.tells ≡ true → SinceEarlier a.left) → IsShut seen start first Memory a a
    shut_memory first a earlier = record { named = inl refl; files = λ t q. refl; leaves = reads_writes a a _ (reads_itself a earlier) }

    only_later : (first : ℕ) (q : List ℕ) → IsFrom start.plan (first + 1) q → IsFrom start.plan first q
    only_later first q h = (h.0, omega (arith, h.1), h.2, h.3)

    -- the files of later disks aren't touched
    others_apart : (first d : ℕ) → first < d → d < length start.plan.disks → path_of start.plan d ≢ path_of start.plan first
    others_apart first d lt within e = apart first d lt within (sym e)

    pub later_files : (first : ℕ) (a b : HostView) → WritesFile (path_of start.plan first) a b
        → WhereTold a.tells ((d : ℕ) → first ≤ d → d < length start.plan.disks → a.file (path_of start.plan d) ≡ Some (slice_index_or start.disks d []))
        → WhereTold b.tells ((d : ℕ) → first + 1 ≤ d → d < length start.plan.disks → b.file (path_of start.plan d) ≡ Some (slice_index_or start.disks d []))
    later_files first a b leaves disks t d low lt =
        let told : a.tells ≡ true = sym leaves.told ∙ t in
        leaves.files told (path_of start.plan d) (others_apart first d (omega (arith, low)) lt) ∙ disks told d (omega (arith, low)) lt

    not_later : (first : ℕ) → first < length start.plan.disks → IsFrom start.plan (first + 1) (path_of start.plan first) → ⊥
    not_later first within h = apart first h.0 (omega (arith, h.1)) h.2 h.3

    -- one disk before those that are open
    pub open_more : (first : ℕ) (image : I) (images : List I) (a b c : HostView) → first < length start.plan.disks → first < length start.disks
        → WhereTold a.tells (a.file (path_of start.plan first) ≡ Some (slice_index_or start.disks first []))
        → IsLent (seen image) (path_of start.plan first) a b → IsOpen seen start (first + 1) images b c → IsOpen seen start first (image ∷ images) a c
    open_more first image images a b c within is_disk disk lent rest = record {
      fresh =
          let cut : drop first start.disks ≡ slice_index_or start.disks first [] ∷ drop (first + 1) start.disks = rw add-one (drop-cons start.disks first [] is_disk) in
          let one : IsFresh (slice_index_or start.disks first []) (seen image) =
          (λ t. (let told : a.tells ≡ true = sym lent.told ∙ t in some_is (a.file (path_of start.plan first)) (seen image).content (slice_index_or start.disks first []) (lent.content told) (disk told)), lent.fresh.0, lent.fresh.1) in
          subst (λ (l : List (List ℕ)). AreFresh seen l (image ∷ images)) (sym cut) (one, rest.fresh);
      told = All-cons (λ (i : I). (seen i).tells ≡ a.tells) image images lent.told
          (All-weaker (λ (i : I). (seen i).tells ≡ b.tells) (λ (i : I). (seen i).tells ≡ a.tells) (λ i e. e ∙ lent.leaves.told) images rest.told);
      stand = λ t d low lt. (let told : b.tells ≡ true = lent.leaves.told ∙ t in elim (cases_lt first d) [
        | inl above ↦ rest.stand told d (omega (arith, above)) lt
        | inr below ↦ let same : first ≡ d = omega (arith, below, low) in
            subst (λ (k : ℕ). IsSome (c.file (path_of start.plan k))) same
            (subst IsSome (sym (rest.leaves.files told (path_of start.plan first) (not_later first within))) (lent.stands t))
      ]);
      leaves = writes_on a b c (IsFrom start.plan first)
          (writes_among a b (λ q. q ≡ path_of start.plan first) (IsFrom start.plan first) (λ q e. (first, omega arith, within, e)) lent.leaves)
          (writes_among b c (IsFrom start.plan (first + 1)) (IsFrom start.plan first) (only_later first) rest.leaves);
    }

    -- the image wasn't opened
    pub shut_here : (first : ℕ) (e : Refusal) (a b : HostView) → first < length start.plan.disks
        → (e ≡ Memory) ⊎ (e ≡ HostFault (path_of start.plan first)) → WhereTold a.tells ((q : List ℕ) → b.file q ≡ a.file q) → WritesFile (path_of start.plan first) a b
        → IsShut seen start first e a b
    shut_here first e a b within named files leaves = record {
      named = elim named [ inl m ↦ inl m | inr h ↦ inr (first, within, h) ];
      files = files;
      leaves = writes_among a b (λ q. q ≡ path_of start.plan first) (IsFrom start.plan first) (λ q p. (first, omega arith, within, p)) leaves;
    }

    -- a later one wasn't, and this one was given back
    pub shut_back : (first : ℕ) (e : Refusal) (view : ImageView) (a b c d : HostView) → first < length start.plan.disks
        → IsLent view (path_of start.plan first) a b → IsShut seen start (first + 1) e b c
        → WhereTold c.tells (WhereTold view.tells (d.file (path_of start.plan first) ≡ Some view.content))
        → RoseExactly (0 < view.faults) c.image_faults d.image_faults → LeavesHost (λ q. q ≡ path_of start.plan first) c d
        → IsShut seen start first e a d
    shut_back first e view a b c d within lent rest content faults leaves = record {
      named = rest.named;
      files = λ t q. (let at_b : b.tells ≡ true = lent.leaves.told ∙ t in let at_c : c.tells ≡ true = rest.leaves.told ∙ at_b in
          elim (is_same q (path_of start.plan first)) [
            | inl e ↦ ap (λ (n : List ℕ). d.file n) e ∙ content at_c (lent.told ∙ t) ∙ sym (lent.content t) ∙ ap (λ (n : List ℕ). a.file n) (sym e)
            | inr other ↦ leaves.files at_c q other ∙ rest.files at_b q ∙ lent.leaves.files t q other
          ]);
      leaves =
          let back : WritesFiles (λ q. q ≡ path_of start.plan first) c d = record {
            told = leaves.told;
            files = leaves.files;
            made = leaves.made;
            time = leaves.time;
            image_faults = faults.stays (λ lt. omega (arith, lt, lent.fresh.0));
          } in
          writes_on a c d (IsFrom start.plan first)
          (writes_on a b c (IsFrom start.plan first)
          (writes_among a b (λ q. q ≡ path_of start.plan first) (IsFrom start.plan first) (λ q p. (first, omega arith, within, p)) lent.leaves)
          (writes_among b c (IsFrom start.plan (first + 1)) (IsFrom start.plan first) (only_later first) rest.leaves))
          (writes_among c d (λ q. q ≡ path_of start.plan first) (IsFrom start.plan first) (λ q p. (first, omega arith, within, p)) back);
    }
