-- A look-up that goes through a list from its front.
use Rattle.std.proofs.Common.{◌≡◌, ℕ, ◌+◌, ◌<◌, Bool, true, false, cond, List, length, drop, get_or, Some, ap, ◌∙◌}
use Rattle.std.specs.List.{find}
use Rattle.std.proofs.lemmas.List.{at_drop_more}

pub find_here : {X : Type 0} (p : X → Bool) (xs : List X) (i : ℕ) (d : X) → find p xs ≡ find p (drop i xs) → i < length xs → p (get_or xs i d) ≡ true → find p xs ≡ Some (get_or xs i d)
find_here p xs i d h l t = h ∙ at_drop_more (find p) xs i d l ∙ ap (λ b. cond b (Some (get_or xs i d)) (find p (drop (i + 1) xs))) t

pub find_on : {X : Type 0} (p : X → Bool) (xs : List X) (i : ℕ) (d : X) → find p xs ≡ find p (drop i xs) → i < length xs → p (get_or xs i d) ≡ false → find p xs ≡ find p (drop (i + 1) xs)
find_on p xs i d h l t = h ∙ at_drop_more (find p) xs i d l ∙ ap (λ b. cond b (Some (get_or xs i d)) (find p (drop (i + 1) xs))) t

pub ruleset finding = (find_here, find_on)
