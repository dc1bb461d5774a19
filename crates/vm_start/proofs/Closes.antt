-- Images that are given back, the last one first.
use Rattle.std.proofs.Common.{◌≡◌, ◌⊎◌, inl, inr, ℕ, zero, suc, ◌+◌, ◌<◌, ◌≤◌, true, List, [], ◌∷◌, ◌++◌, length, Option, Some, None, refl, sym, subst, ap, ◌∙◌, arith}
use Rattle.std.specs.Prelude.{slice_index_or, IsSome}
use Rattle.vm_host.specs.Counts.{Rose, RoseExactly, SameCounts}
use Rattle.vm_host.specs.Crash.{SinceEarlier}
use Rattle.vm_host.specs.Leaves.{LeavesHost}
use Rattle.vm_host.specs.Told.{WhereTold}
use Rattle.vm_host.specs.Views.{HostView, ImageView}
use Rattle.vm_host.proofs.Frames.{reads_itself, reads_writes, writes_leaves, leaves_on, leaves_among}
use Rattle.vm_law.specs.declared.plan.Plan.{Plan}
use Rattle.vm_start.specs.Images.{path_of, AreApart, IsGivenBack}
use Rattle.vm_start.specs.Opening.{HasClosed}

module _ {I : Type 0} where
  -- where an element stands in a list with one more
  at_last : (front : List (Option I)) (home : Option I) → slice_index_or (front ++ home ∷ []) (length front) None ≡ home
  at_last [] home = refl
  at_last (x ∷ xs) home = at_last xs home

  at_front : (front : List (Option I)) (home : Option I) (d : ℕ) → d < length front → slice_index_or (front ++ home ∷ []) d None ≡ slice_index_or front d None
  at_front [] home d lt = absurd (omega arith)
  at_front (x ∷ xs) home zero lt = refl
  at_front (x ∷ xs) home (suc d) lt = at_front xs home d (omega arith)

  below_end : (homes : List (Option I)) (d : ℕ) (image : I) → slice_index_or homes d None ≡ Some image → d < length homes
  below_end [] d image e = absurd (let bad : ◌≡◌ {A = Option I} None (Some image) = e in cc)
  below_end (x ∷ xs) zero image e = omega arith
  below_end (x ∷ xs) (suc d) image e = omega (arith, below_end xs d image e)

  -- an image of a list with one more is one of the list, or the last
  which : (front : List (Option I)) (home : Option I) (d : ℕ) (image : I) → slice_index_or (front ++ home ∷ []) d None ≡ Some image
      → (slice_index_or front d None ≡ Some image) ⊎ ((d ≡ length front) × (home ≡ Some image))
  which [] home zero image e = inr (refl, e)
  which [] home (suc d) image e = absurd (let bad : ◌≡◌ {A = Option I} None (Some image) = e in cc)
  which (x ∷ xs) home zero image e = inl e
  which (x ∷ xs) home (suc d) image e = elim (which xs home d image e) [ inl h ↦ inl h | inr h ↦ inr (omega (arith, h.0), h.1) ]

  in_more : (front : List (Option I)) (home : Option I) (d : ℕ) (image : I) → slice_index_or front d None ≡ Some image → slice_index_or (front ++ home ∷ []) d None ≡ Some image
  in_more front home d image e = at_front front home d (below_end front d image e) ∙ e

  module _ (seen : I → ImageView) (plan : Plan) (apart : AreApart plan) where
    pub closes_none : (a : HostView) → (a.tells ≡ true → SinceEarlier a.left) → HasClosed seen plan [] a a
    closes_none a earlier = record {
      content = λ t d image e. absurd (let bad : ◌≡◌ {A = Option I} None (Some image) = e in cc);
      image_faults = record {
        later = omega arith;
        rises = λ h. absurd (let bad : ◌≡◌ {A = Option I} None (Some h.1.0) = h.1.1 in cc);
        stays = λ _. refl;
      };
      counts = record { faults = refl; misses = refl; failed = refl };
      leaves = writes_leaves a a _ (reads_writes a a _ (reads_itself a earlier));
    }

    pub same_counts_on : (a b c : HostView) → SameCounts a b → SameCounts b c → SameCounts a c
    same_counts_on a b c p r = record { faults = r.faults ∙ p.faults; misses = r.misses ∙ p.misses; failed = r.failed ∙ p.failed }

    among_more : (front : List (Option I)) (home : Option I) (q : List ℕ) → IsGivenBack plan front q → IsGivenBack plan (front ++ home ∷ []) q
    among_more front home q h = (h.0, (h.1.0, in_more front home h.0 h.1.0 h.1.1, h.1.2))

    not_front : (front : List (Option I)) → length front < length plan.disks → IsGivenBack plan front (path_of plan (length front)) → ⊥
    not_front front within h = apart h.0 (length front) (below_end front h.0 h.1.0 h.1.1) within (sym h.1.2)

    none_is : (image : I) → ◌≡◌ {A = Option I} None (Some image) → ⊥
    none_is image e = cc

    -- no image stood at the end
    pub closes_absent : (front : List (Option I)) (a b : HostView) → HasClosed seen plan front a b → HasClosed seen plan (front ++ None ∷ []) a b
    closes_absent front a b h = record {
      content = λ t d image e. elim (which front None d image e) [ inl p ↦ h.content t d image p | inr p ↦ absurd (none_is image p.1) ];
      image_faults = record {
        later = h.image_faults.later;
        rises = λ f. elim (which front None f.0 f.1.0 f.1.1) [ inl p ↦ h.image_faults.rises (f.0, (f.1.0, p, f.1.2)) | inr p ↦ absurd (none_is f.1.0 p.1) ];
        stays = λ no. h.image_faults.stays (λ f. no (f.0, (f.1.0, in_more front None f.0 f.1.0 f.1.1, f.1.2)));
      };
      counts = h.counts;
      leaves = leaves_among a b (IsGivenBack plan front) (IsGivenBack plan (front ++ None ∷ [])) (among_more front None) h.leaves;
    }

    rose_first : (a b c : ℕ) → Rose a b → b ≤ c → Rose a c
    rose_first a b c r le = omega (arith, r, le)

    rose_then : (a b c : ℕ) → a ≤ b → Rose b c → Rose a c
    rose_then a b c le r = omega (arith, r, le)

    -- an image stood at the end, and was given back
    pub closes_more : (front : List (Option I)) (image : I) (a b c : HostView) → length front < length plan.disks
        → WhereTold a.tells (WhereTold (seen image).tells (b.file (path_of plan (length front)) ≡ Some (seen image).content))
        → RoseExactly (0 < (seen image).faults) a.image_faults b.image_faults → SameCounts a b → LeavesHost (λ q. q ≡ path_of plan (length front)) a b
        → HasClosed seen plan front b c → HasClosed seen plan (front ++ Some image ∷ []) a c
    closes_more front image a b c within content faults counts leaves rest = record {
      content = λ t d i e. (let at_b : b.tells ≡ true = leaves.told ∙ t in elim (which front (Some image) d i e) [
        | inl p ↦ rest.content at_b d i p
        | inr p ↦ λ told. (let same : image ≡ i = cc in
            let kept = rest.leaves.files at_b (path_of plan (length front)) (not_front front within) in
            let mine = content t (subst (λ (x : I). (seen x).tells ≡ true) (sym same) told) in
            subst (λ (k : ℕ). c.file (path_of plan k) ≡ Some (seen i).content) (sym p.0) (kept ∙ mine ∙ ap (λ (x : I). Some (seen x).content) same))
      ]);
      image_faults = record {
        later = omega (arith, faults.later, rest.image_faults.later);
        rises = λ f. elim (which front (Some image) f.0 f.1.0 f.1.1) [
          | inl p ↦ rose_then a.image_faults b.image_faults c.image_faults faults.later (rest.image_faults.rises (f.0, (f.1.0, p, f.1.2)))
          | inr p ↦ let same : image ≡ f.1.0 = cc in
              rose_first a.image_faults b.image_faults c.image_faults (faults.rises (subst (λ (x : I). 0 < (seen x).faults) (sym same) f.1.2)) rest.image_faults.later
        ];
        stays = λ no.
            rest.image_faults.stays (λ f. no (f.0, (f.1.0, in_more front (Some image) f.0 f.1.0 f.1.1, f.1.2)))
            ∙ faults.stays (λ lt. no (length front, (image, at_last front (Some image), lt)));
      };
      counts = same_counts_on a b c counts rest.counts;
      leaves = leaves_on a b c (IsGivenBack plan (front ++ Some image ∷ []))
          (leaves_among a b (λ q. q ≡ path_of plan (length front)) (IsGivenBack plan (front ++ Some image ∷ [])) (λ q e. (length front, (image, at_last front (Some image), e))) leaves)
          (leaves_among b c (IsGivenBack plan front) (IsGivenBack plan (front ++ Some image ∷ [])) (among_more front (Some image)) rest.leaves);
    }

    -- the same under the file's name
    pub closes_named : (front : List (Option I)) (image : I) (a b c : HostView) (name : List ℕ) → name ≡ path_of plan (length front) → length front < length plan.disks
        → WhereTold a.tells (WhereTold (seen image).tells (b.file name ≡ Some (seen image).content))
        → RoseExactly (0 < (seen image).faults) a.image_faults b.image_faults → SameCounts a b → LeavesHost (λ q. q ≡ name) a b
        → HasClosed seen plan front b c → HasClosed seen plan (front ++ Some image ∷ []) a c
    closes_named front image a b c name e within content faults counts leaves rest =
        closes_more front image a b c within
        (subst (λ (n : List ℕ). WhereTold a.tells (WhereTold (seen image).tells (b.file n ≡ Some (seen image).content))) e content) faults counts
        (subst (λ (n : List ℕ). LeavesHost (λ q. q ≡ n) a b) e leaves) rest

    -- the files before it still stand
    pub still_stand : (k : ℕ) (a b : HostView) → k < length plan.disks
        → WhereTold a.tells ((d : ℕ) → d < k + 1 → IsSome (a.file (path_of plan d))) → LeavesHost (λ q. q ≡ path_of plan k) a b
        → WhereTold b.tells ((d : ℕ) → d < k → IsSome (b.file (path_of plan d)))
    still_stand k a b within stand leaves t d lt =
        let told : a.tells ≡ true = sym leaves.told ∙ t in
        subst IsSome (sym (leaves.files told (path_of plan d) (apart d k lt within))) (stand told d (omega (arith, lt)))
