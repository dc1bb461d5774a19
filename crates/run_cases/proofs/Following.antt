-- A script is allowed order by order.
use Rattle.std.proofs.Common.{◌≡◌, ℕ, suc, ◌+◌, ◌&&◌, ◌<◌, ◌≤◌, Bool, true, false, List, [], ◌∷◌, refl, ap, sym, subst, ◌∙◌, drop, length, get_or, drop-cons, add-one}
use Rattle.std.proofs.lemmas.List.{drop_all}
use Rattle.vm_law.specs.declared.plan.Plan.{Plan}
use Rattle.vm_law.specs.declared.script.Order.{Order}
use Rattle.vm_state.specs.Script.{Past, and_then, may_follow, may_stand}

follows_cons : (plan : Plan) (past : Past) (order : Order) (rest : List Order)
    → may_follow plan past (order ∷ rest) ≡ (may_stand plan past order && may_follow plan (and_then past order) rest)
unfolding may_follow
follows_cons plan past order rest = refl

follows_none : (plan : Plan) (past : Past) → may_follow plan past [] ≡ true
unfolding may_follow
follows_none plan past = refl

-- the orders from place i on
follow_steps : (plan : Plan) (past : Past) (script : List Order) (i : ℕ) (order : Order) → i < length script
    → may_follow plan past (drop i script) ≡ (may_stand plan past (get_or script i order) && may_follow plan (and_then past (get_or script i order)) (drop (i + 1) script))
follow_steps plan past script i order fits =
    ap (λ (xs : List Order). may_follow plan past xs) (drop-cons script i order fits)
    ∙ follows_cons plan past (get_or script i order) (drop (suc i) script)
    ∙ ap (λ (j : ℕ). may_stand plan past (get_or script i order) && may_follow plan (and_then past (get_or script i order)) (drop j script)) (sym (add-one i))

both_false : (a b : Bool) → a ≡ false → (a && b) ≡ false
both_false a b e = ap (λ (x : Bool). x && b) e

both_true : (a b : Bool) → a ≡ true → (a && b) ≡ b
both_true a b e = ap (λ (x : Bool). x && b) e

pub stops_at : (plan : Plan) (past : Past) (script : List Order) (i : ℕ) (order : Order) → i < length script → order ≡ get_or script i order
    → may_stand plan past order ≡ false → may_follow plan past (drop i script) ≡ false
stops_at plan past script i order fits is refused =
    follow_steps plan past script i order fits
    ∙ subst (λ (x : Order). (may_stand plan past x && may_follow plan (and_then past x) (drop (i + 1) script)) ≡ false) is (both_false _ _ refused)

pub goes_at : (plan : Plan) (past : Past) (script : List Order) (i : ℕ) (order : Order) → i < length script → order ≡ get_or script i order
    → may_stand plan past order ≡ true → may_follow plan past (drop i script) ≡ may_follow plan (and_then past order) (drop (i + 1) script)
goes_at plan past script i order fits is allowed =
    follow_steps plan past script i order fits
    ∙ subst (λ (x : Order). (may_stand plan past x && may_follow plan (and_then past x) (drop (i + 1) script)) ≡ may_follow plan (and_then past order) (drop (i + 1) script)) is (both_true _ _ allowed)

pub ends_at : (plan : Plan) (past : Past) (script : List Order) (i : ℕ) → length script ≤ i → may_follow plan past (drop i script) ≡ true
ends_at plan past script i done = ap (λ (xs : List Order). may_follow plan past xs) (drop_all i script done) ∙ follows_none plan past
