-- For callers: what pass 0 knows of the passes that ended, and facts that outlast the turns of others.
use Rattle.std.proofs.Common.{◌≡◌, ◌≢◌, ℕ, Bool, cond, List, [], ◌++◌, ap, eq-eqb, ne_eqb, sym, subst}
use Rattle.vm_law.specs.declared.journal.Signed.{Signed}
use Rattle.vm_turn.specs.declared.view.View.{View}
use Rattle.vm_turn.specs.History.{signed_by}
use Rattle.vm_turn.specs.View.{own_of, joined_view, Finds}

-- after a join pass 0 has the own entries of the pass that was joined
pub own_of-joined : {R : Type 0} (n : ℕ) (v w : View R) → w.number ≡ n → own_of n (joined_view v w).ended ≡ w.own
own_of-joined n v w is = ap (λ (b : Bool). cond b w.own (own_of n v.ended)) (eq-eqb w.number n is)

-- and of each other pass what it had
pub own_of-other : {R : Type 0} (n : ℕ) (v w : View R) → w.number ≢ n → own_of n (joined_view v w).ended ≡ own_of n v.ended
own_of-other n v w not = ap (λ (b : Bool). cond b w.own (own_of n v.ended)) (ne_eqb w.number n not)

-- A fact of what a pass has seen, which entries of others keep, is one of the value that it finds
pub still_fits : {L R : Type 0} (root_of : L → R) (entries_of : L → List Signed) (F : List Signed → Type 0) (v : View R) (x : L)
    → ((h rest : List Signed) → signed_by v.number rest ≡ [] → F h → F (h ++ rest)) → Finds root_of entries_of v x → F v.seen → F (entries_of x)
still_fits root_of entries_of F v x stable f fits = subst F (sym f.later.1) (stable v.seen f.later.0 f.later.2 fits)
