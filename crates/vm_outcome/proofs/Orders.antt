-- The orders that are done are orders of a script that its plan allows, so that they name registers that there are.
use Rattle.std.specs.Prelude.{Option, Some, None, ◌+◌, ◌<◌, ◌&&◌, nat_lt, slice_get}
use Rattle.std.specs.List.{list_all}
use Rattle.std.proofs.Common.{◌≡◌, ℕ, zero, suc, Bool, true, false, List, [], ◌∷◌, ◌++◌, length, refl, sym, ap, subst, ◌∙◌, arith, inl, inr}
use Rattle.std.proofs.lemmas.Bool.{and_parts, and_from, cases_Bool, true≢false}
use Rattle.std.proofs.lemmas.List.Folds.{list_all-append, list_all_at}
use Rattle.std.proofs.lemmas.Option.{slice_get_within, get_or_from_slice_get}
use Rattle.ctl_script.specs.Print.{has_registers}
use Rattle.vm_law.specs.declared.journal.Entry.{Entry}
use Rattle.vm_law.specs.declared.journal.Entry.TheVariants.{Done}
use Rattle.vm_law.specs.declared.journal.Signed.{Signed}
use Rattle.vm_law.specs.declared.plan.Plan.{Plan}
use Rattle.vm_law.specs.declared.script.Order.{Order}
use Rattle.vm_law.specs.declared.script.Order.TheVariants as order
use Rattle.vm_state.specs.declared.run_state.Answer.{Answer}
use Rattle.vm_state.specs.declared.run_state.Said.{Said}
use Rattle.vm_state.specs.declared.start.Origin.{Origin}
use Rattle.vm_state.specs.declared.start.Origin.TheVariants.{Flat, Saved}
use Rattle.vm_state.specs.declared.start.Start.{Start}
use Rattle.vm_state.specs.Script.{Past, may_stand, may_follow, and_then, is_allowed, no_past}
use Rattle.vm_state.specs.Start.{IsSound, boot, boot_script, first_state}
use Rattle.vm_state.specs.State.{State, next_order}
use Rattle.vm_orders.specs.Done.{after_done, answer_of, noted, noted_as, ordered, ordered_as, request_cancelled, said_as}
use Rattle.vm_table.specs.History.{IsLegal, after_all, last_state}
use Rattle.vm_table.specs.Table.{after, counted, effect}
use Rattle.vm_table.proofs.Plan.{after_script}
use Rattle.vm_report.specs.Report.{has_orders}
use Rattle.vm_outcome.proofs.Said.{SaysSame, is_done, effect_says}

-- ---- a script that is allowed

stands_named : (plan : Plan) (past : Past) (x : Order) → may_stand plan past x ≡ true → has_registers x ≡ true
unfolding may_stand
stands_named plan past (order.Set cpu reg value) h = (and_parts _ (nat_lt reg 18) h).1
stands_named plan past (order.Get cpu reg) h = (and_parts _ (nat_lt reg 18) h).1
stands_named plan past x h = refl

follows_named : (plan : Plan) (past : Past) (xs : List Order) → may_follow plan past xs ≡ true → list_all has_registers xs ≡ true
unfolding may_follow
follows_named plan past [] h = refl
follows_named plan past (x ∷ xs) h =
    let t = and_parts (may_stand plan past x) (may_follow plan (and_then past x) xs) h in
    and_from (has_registers x) (list_all has_registers xs) (stands_named plan past x t.0) (follows_named plan (and_then past x) xs t.1)

allowed_named : (plan : Plan) (xs : List Order) → is_allowed plan xs ≡ true → list_all has_registers xs ≡ true
allowed_named plan xs h = follows_named plan no_past xs (and_parts _ (may_follow plan no_past xs) h).1

script_named : (o : Origin) (xs : List Order) → list_all has_registers xs ≡ true → list_all has_registers (boot_script o xs) ≡ true
script_named (Flat image) xs h = h
script_named (Saved m) xs h = h

-- ---- an order that is done is the script's

named_at : (xs : List Order) (k : ℕ) (x : Order) → slice_get xs k ≡ Some x → list_all has_registers xs ≡ true → has_registers x ≡ true
named_at xs k x e h =
    elim (cases_Bool (has_registers x)) [
      | inl found ↦ found
      | inr lacks ↦ absurd (true≢false (sym h ∙ list_all_at has_registers xs k x (slice_get_within xs k x e) (ap has_registers (get_or_from_slice_get xs k x x e) ∙ lacks)))
    ]

ordered_says : (s : State) (o : Order) → SaysSame s (ordered s o)
unfolding ordered request_cancelled
ordered_says s (order.Nmi i) = refl
ordered_says s (order.Cancel d id) = refl
ordered_says s (order.Set i reg value) = refl
ordered_says s order.Resume = refl
ordered_says s o = refl

noted_named : (s : State) (o : Order) (said : Said) → has_orders s.answers ≡ true → has_registers o ≡ true → has_orders (noted s o said).answers ≡ true
unfolding noted
noted_named s o said h n =
    list_all-append (λ (a : Answer). has_registers a.order) s.answers (answer_of s o said ∷ []) ∙ and_from (has_orders s.answers) _ h (and_from (has_registers o) true n refl)

done_as_named : (s : State) (o : Option Order) → ((x : Order) → o ≡ Some x → has_registers x ≡ true) → has_orders s.answers ≡ true
    → has_orders (noted_as (ordered_as s o) o (said_as s o)).answers ≡ true
done_as_named s None n h = h
done_as_named s (Some o) n h = noted_named (ordered s o) o _ (ap has_orders (ordered_says s o) ∙ h) (n o refl)

done_named : (s : State) → list_all has_registers s.script ≡ true → has_orders s.answers ≡ true → has_orders (after_done s).answers ≡ true
unfolding after_done next_order
done_named s names h = done_as_named s (slice_get s.script s.place) (λ x e. named_at s.script s.place x e names) h

-- ---- of each history

entry_named : (s : State) (p : ℕ) (e : Entry) → list_all has_registers s.script ≡ true → has_orders s.answers ≡ true → has_orders (effect s p e).answers ≡ true
unfolding effect
entry_named s p (Done k) names h = done_named s names h
entry_named s p e names h = ap has_orders (effect_says s p e refl) ∙ h

after_named : (s : State) (x : Signed) → list_all has_registers s.script ≡ true → has_orders s.answers ≡ true → has_orders (after s x).answers ≡ true
unfolding after counted
after_named s x names h = entry_named s x.by x.entry names h

all_named : (s : State) (xs : List Signed) → list_all has_registers s.script ≡ true → has_orders s.answers ≡ true → has_orders (after_all s xs).answers ≡ true
all_named s [] names h = h
all_named s (x ∷ xs) names h = all_named (after s x) xs (ap (λ (os : List Order). list_all has_registers os) (after_script s x) ∙ names) (after_named s x names h)

pub orders_named : (start : Start) (history : List Signed) → IsSound start → has_orders (last_state start history).answers ≡ true
unfolding first_state
orders_named start history sound =
    all_named (boot start) history (script_named start.origin start.script (allowed_named start.plan start.script sound.script)) refl
