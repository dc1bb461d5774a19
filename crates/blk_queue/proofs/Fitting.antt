-- Each request fits beside those before it: kept where one changes, some leave, or one joins.
use Rattle.std.proofs.Common.{◌≡◌, ℕ, zero, suc, ◌<◌, Bool, true, false, cond, List, [], ◌∷◌, ◌++◌, length, map, filter, get_or, set, refl, sym, ap, subst, ◌∙◌, inl, inr, ◌⊎◌, append_assoc, append-nil, arith}
use Rattle.std.specs.Prelude.{◌&&◌, ◌||◌, not}
use Rattle.std.proofs.lemmas.Bool.{or_cases, or_left, or_right, true≢false}
use Rattle.std.proofs.lemmas.List.Folds.{list_any-append}
use Rattle.vm_law.specs.declared.block.Request.{Request}
use Rattle.blk_queue.specs.declared.progress.Progress.{Progress}
use Rattle.blk_queue.specs.declared.progress.Progress.TheVariants.{Pending, Blocked, Busy}
use Rattle.blk_queue.specs.declared.progress.Unfinished.{Unfinished}
use Rattle.blk_queue.specs.Progress.{IsRequest, is_behind, is_busy, blocks, works}
use Rattle.blk_queue.specs.Queue.{stands_behind}
use Rattle.blk_queue.specs.Steps.{freed, mark_dropped}
use Rattle.blk_queue.specs.Sound.{ProgressFits, Fits, AllFit}

clash : (b : Bool) → b ≡ true → b ≡ false → ⊥
clash b t f = true≢false (sym t ∙ f)

-- what stands behind one of the first list and none of those that leave stands behind one of the second
abbrev Covers : List Unfinished → List Unfinished → List Unfinished → Type 0
Covers leaving a b = (r : Request) → stands_behind a r ≡ true → stands_behind leaving r ≡ false → stands_behind b r ≡ true

push_cases : (r : Request) (a : List Unfinished) (x : Unfinished) → stands_behind (a ++ x ∷ []) r ≡ true → (stands_behind a r ≡ true) ⊎ (is_behind r x.request ≡ true)
push_cases r a x h =
    elim (or_cases (stands_behind a r) (is_behind r x.request || false) (sym (list_any-append (λ (y : Unfinished). is_behind r y.request) a (x ∷ [])) ∙ h)) [
      | inl before ↦ inl before
      | inr last ↦ elim (or_cases (is_behind r x.request) false last) [ inl t ↦ inr t | inr f ↦ absurd (true≢false (sym f)) ]
    ]

push_first : (r : Request) (a : List Unfinished) (x : Unfinished) → stands_behind a r ≡ true → stands_behind (a ++ x ∷ []) r ≡ true
push_first r a x h = list_any-append (λ (y : Unfinished). is_behind r y.request) a (x ∷ []) ∙ or_left _ _ h

push_last : (r : Request) (a : List Unfinished) (x : Unfinished) → is_behind r x.request ≡ true → stands_behind (a ++ x ∷ []) r ≡ true
push_last r a x h = list_any-append (λ (y : Unfinished). is_behind r y.request) a (x ∷ []) ∙ or_right _ _ (or_left _ _ h)

-- both lists get one more, with the same request
covers_more : (leaving a b : List Unfinished) (x y : Unfinished) → y.request ≡ x.request → Covers leaving a b → Covers leaving (a ++ x ∷ []) (b ++ y ∷ [])
covers_more leaving a b x y e c r h none =
    elim (push_cases r a x h) [
      | inl before ↦ push_first r b y (c r before none)
      | inr last ↦ push_last r b y (ap (λ (q : Request). is_behind r q) e ∙ last)
    ]

progress_covered : (a b : List Unfinished) (x : Unfinished) (p : Progress) → Covers [] a b → ProgressFits a x p → ProgressFits b x p
progress_covered a b x Pending c f = f
progress_covered a b x Blocked c f = c x.request f refl
progress_covered a b x (Busy w moved failed dropped) c f = f

all_covered : (a b xs : List Unfinished) → Covers [] a b → AllFit a xs → AllFit b xs
all_covered a b [] c h = tt
all_covered a b (x ∷ xs) c h = ((h.0.0, progress_covered a b x x.progress c h.0.1), all_covered (a ++ x ∷ []) (b ++ x ∷ []) xs (covers_more [] a b x x refl c) h.1)

-- ---- one changes

-- a progress that fits whatever stands before
abbrev pub FitsAlone : Unfinished → Progress → Type 0
FitsAlone x p = (before : List Unfinished) → ProgressFits before x p

abbrev pub put_progress : Unfinished → Progress → Unfinished
put_progress x p = record x { progress = p }

same_fit : (before : List Unfinished) (x : Unfinished) (p q : Progress) → ProgressFits before x q → ProgressFits before (put_progress x p) q
same_fit before x p Pending f = f
same_fit before x p Blocked f = f
same_fit before x p (Busy w moved failed dropped) f = f

fit-set : (a b xs : List Unfinished) (i : ℕ) (d : Unfinished) (p : Progress) → Covers [] a b → i < length xs → FitsAlone (get_or xs i d) p → AllFit a xs → AllFit b (set xs i (put_progress (get_or xs i d) p))
fit-set a b [] i d p c l alone h = tt
fit-set a b (x ∷ xs) zero d p c l alone h =
    ((h.0.0, same_fit b x p p (alone b)), all_covered (a ++ x ∷ []) (b ++ put_progress x p ∷ []) xs (covers_more [] a b x (put_progress x p) refl c) h.1)
fit-set a b (x ∷ xs) (suc i) d p c l alone h =
    ((h.0.0, progress_covered a b x x.progress c h.0.1), fit-set (a ++ x ∷ []) (b ++ x ∷ []) xs i d p (covers_more [] a b x x refl c) (omega arith) alone h.1)

pub all_fit-set : (xs : List Unfinished) (i : ℕ) (d : Unfinished) (p : Progress) → i < length xs → FitsAlone (get_or xs i d) p → AllFit [] xs → AllFit [] (set xs i (put_progress (get_or xs i d) p))
all_fit-set xs i d p l alone h = fit-set [] [] xs i d p (λ r t none. t) l alone h

-- what is known of the one at a place
pub fits_at : (a xs : List Unfinished) (i : ℕ) (d : Unfinished) → i < length xs → AllFit a xs → (before : List Unfinished) × Fits before (get_or xs i d)
fits_at a [] i d l h = absurd (omega arith)
fits_at a (x ∷ xs) zero d l h = (a, h.0)
fits_at a (x ∷ xs) (suc i) d l h = fits_at (a ++ x ∷ []) xs i d (omega arith) h.1

-- ---- some leave

pub freed_request : (leaving : List Unfinished) (x : Unfinished) → (freed leaving x).request ≡ x.request
unfolding freed
freed_request leaving x =
    elim (blocks x.progress && stands_behind leaving x.request) as (λ b. (cond b (put_progress x Pending) x).request ≡ x.request) [ true ↦ refl | false ↦ refl ]

pub freed_id : (leaving : List Unfinished) (x : Unfinished) → (freed leaving x).id ≡ x.id
unfolding freed
freed_id leaving x =
    elim (blocks x.progress && stands_behind leaving x.request) as (λ b. (cond b (put_progress x Pending) x).id ≡ x.id) [ true ↦ refl | false ↦ refl ]

freed_as : (leaving a b : List Unfinished) (x : Unfinished) (p : Progress) → x.progress ≡ p → Covers leaving a b → IsRequest x.request → ProgressFits a x p
    → (t : Bool) → stands_behind leaving x.request ≡ t → Fits b (cond (blocks p && t) (put_progress x Pending) x)
freed_as leaving a b x Pending e c v f t et = (v, subst (λ p. ProgressFits b x p) (sym e) tt)
freed_as leaving a b x Blocked e c v f true et = (v, tt)
freed_as leaving a b x Blocked e c v f false et = (v, subst (λ p. ProgressFits b x p) (sym e) (c x.request f et))
freed_as leaving a b x (Busy w moved failed dropped) e c v f t et = (v, subst (λ p. ProgressFits b x p) (sym e) f)

freed_fits : (leaving a b : List Unfinished) (x : Unfinished) → Covers leaving a b → Fits a x → Fits b (freed leaving x)
unfolding freed
freed_fits leaving a b x c f = freed_as leaving a b x x.progress refl c f.0 f.1 (stands_behind leaving x.request) refl

abbrev stays : (Unfinished → Bool) → Unfinished → Bool
stays leaves x = not (leaves x)

-- those that leave are among `leaving`
abbrev Among : List Unfinished → List Unfinished → Type 0
Among leaving xs = (r : Request) → stands_behind xs r ≡ true → stands_behind leaving r ≡ true

left_at : (leaves : Unfinished → Bool) (leaving a b : List Unfinished) (x : Unfinished) (xs : List Unfinished) → Covers leaving a b
    → (t : Bool) → Among leaving (cond t (x ∷ filter leaves xs) (filter leaves xs)) → Fits a x → AllFit (a ++ x ∷ []) xs
    → ((a2 b2 : List Unfinished) → Covers leaving a2 b2 → Among leaving (filter leaves xs) → AllFit a2 xs → AllFit b2 (map (freed leaving) (filter (stays leaves) xs)))
    → AllFit b (map (freed leaving) (cond (not t) (x ∷ filter (stays leaves) xs) (filter (stays leaves) xs)))
left_at leaves leaving a b x xs c true v f h rest =
    rest (a ++ x ∷ []) b (λ r t none.
    elim (push_cases r a x t) [
      | inl before ↦ c r before none
      | inr last ↦ absurd (clash _ (v r (or_left _ _ last)) none)
    ]) (λ r t. v r (or_right _ _ t)) h
left_at leaves leaving a b x xs c false v f h rest =
    (freed_fits leaving a b x c f, rest (a ++ x ∷ []) (b ++ freed leaving x ∷ []) (covers_more leaving a b x (freed leaving x) (freed_request leaving x) c) v h)

fit-left : (leaves : Unfinished → Bool) (leaving a b xs : List Unfinished) → Covers leaving a b → Among leaving (filter leaves xs) → AllFit a xs → AllFit b (map (freed leaving) (filter (stays leaves) xs))
fit-left leaves leaving a b [] c v h = tt
fit-left leaves leaving a b (x ∷ xs) c v h = left_at leaves leaving a b x xs c (leaves x) v h.0 h.1 (λ a2 b2 c2 v2 h2. fit-left leaves leaving a2 b2 xs c2 v2 h2)

pub all_fit-left : (leaves : Unfinished → Bool) (xs : List Unfinished) → AllFit [] xs → AllFit [] (map (freed (filter leaves xs)) (filter (λ x. not (leaves x)) xs))
all_fit-left leaves xs h = fit-left leaves (filter leaves xs) [] [] xs (λ r t none. t) (λ r t. t) h

-- ---- those that no worker has leave, and the others are dropped

emptied_at : (b : List Unfinished) (x : Unfinished) (xs : List Unfinished) (p : Progress) → x.progress ≡ p → IsRequest x.request
    → (before : List Unfinished) → ProgressFits before x p → ((c : List Unfinished) → AllFit c (map mark_dropped (filter is_busy xs))) → AllFit b (map mark_dropped (cond (works p) (x ∷ filter is_busy xs) (filter is_busy xs)))
emptied_at b x xs Pending e v before f rest = rest b
emptied_at b x xs Blocked e v before f rest = rest b
emptied_at b x xs (Busy w moved failed gone) e v before f rest = ((v, rw e f), rest (b ++ mark_dropped x ∷ []))

fit-emptied : (a xs b : List Unfinished) → AllFit a xs → AllFit b (map mark_dropped (filter is_busy xs))
fit-emptied a [] b h = tt
fit-emptied a (x ∷ xs) b h = emptied_at b x xs x.progress refl h.0.0 a h.0.1 (λ c. fit-emptied (a ++ x ∷ []) xs c h.1)

pub all_fit-emptied : (xs : List Unfinished) → AllFit [] xs → AllFit [] (map mark_dropped (filter is_busy xs))
all_fit-emptied xs h = fit-emptied [] xs [] h

-- ---- one joins

fit-push : (a xs : List Unfinished) (y : Unfinished) → Fits (a ++ xs) y → AllFit a xs → AllFit a (xs ++ y ∷ [])
fit-push a [] y f h = (subst (λ b. Fits b y) (append-nil a) f, tt)
fit-push a (x ∷ xs) y f h = (h.0, fit-push (a ++ x ∷ []) xs y (subst (λ b. Fits b y) (sym (append_assoc a (x ∷ []) xs)) f) h.1)

pub all_fit-push : (xs : List Unfinished) (y : Unfinished) → Fits xs y → AllFit [] xs → AllFit [] (xs ++ y ∷ [])
all_fit-push xs y f h = fit-push [] xs y f h
