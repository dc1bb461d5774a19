-- A history that is one entry longer.
use Rattle.std.proofs.Common.{◌≡◌, ℕ, ◌+◌, Bool, true, false, List, [], ◌∷◌, ◌++◌, refl, sym, ap, ◌∙◌, add_assoc, arith}
use Rattle.std.specs.Prelude.{◌||◌, if◌then◌else◌}
use Rattle.std.proofs.lemmas.Bool.{and_parts, and_from}
use Rattle.vm_law.specs.declared.journal.Signed.{Signed}
use Rattle.vm_state.specs.State.{State}
use Rattle.vm_table.specs.History.{after_all, is_lawful_all}
use Rattle.vm_table.specs.Table.{lawful, after}
use Rattle.vm_table.specs.Turns.{IsOrderlyFrom, IsOrderlyEntry}
use Rattle.vm_board.specs.Homes.{has_failed, is_failed_put, flushes_from, is_flushed_put}

pub after_more : (s : State) (xs : List Signed) (x : Signed) → after_all s (xs ++ x ∷ []) ≡ after (after_all s xs) x
after_more s [] x = refl
after_more s (y ∷ ys) x = after_more (after s y) ys x

pub lawful_more : (s : State) (xs : List Signed) (x : Signed) → is_lawful_all s xs ≡ true → lawful (after_all s xs) x.by x.entry ≡ true → is_lawful_all s (xs ++ x ∷ []) ≡ true
lawful_more s [] x a l = and_from (lawful s x.by x.entry) true l refl
lawful_more s (y ∷ ys) x a l =
    let t = and_parts (lawful s y.by y.entry) (is_lawful_all (after s y) ys) a in
    and_from (lawful s y.by y.entry) (is_lawful_all (after s y) (ys ++ x ∷ [])) t.0 (lawful_more (after s y) ys x t.1 l)

pub orderly_more : (s : State) (xs : List Signed) (x : Signed) → IsOrderlyFrom s xs → IsOrderlyEntry (after_all s xs) x → IsOrderlyFrom s (xs ++ x ∷ [])
orderly_more s [] x a o = (o, tt)
orderly_more s (y ∷ ys) x a o = (a.0, orderly_more (after s y) ys x a.1 o)

or_assoc : (a b c : Bool) → (a || (b || c)) ≡ ((a || b) || c)
or_assoc true b c = refl
or_assoc false b c = refl

or_false : (a : Bool) → (a || false) ≡ a
or_false true = refl
or_false false = refl

pub failed_more : (d : ℕ) (xs : List Signed) (x : Signed) → has_failed d (xs ++ x ∷ []) ≡ (has_failed d xs || is_failed_put d x.entry)
failed_more d [] x = or_false (is_failed_put d x.entry)
failed_more d (y ∷ ys) x = ap (λ b. is_failed_put d y.entry || b) (failed_more d ys x) ∙ or_assoc (is_failed_put d y.entry) (has_failed d ys) (is_failed_put d x.entry)

-- 1 where the entry says that a flush succeeded
abbrev pub one_where : Bool → ℕ
one_where b = if b then 1 else 0

pub flushes_more : (s : State) (d : ℕ) (xs : List Signed) (x : Signed) → flushes_from s d (xs ++ x ∷ []) ≡ flushes_from s d xs + one_where (is_flushed_put (after_all s xs) d x.entry)
flushes_more s d [] x = grind arith
flushes_more s d (y ∷ ys) x =
    ap (λ n. one_where (is_flushed_put s d y.entry) + n) (flushes_more (after s y) d ys x)
    ∙ sym (add_assoc (one_where (is_flushed_put s d y.entry)) (flushes_from (after s y) d ys) (one_where (is_flushed_put (after_all (after s y) ys) d x.entry)))
