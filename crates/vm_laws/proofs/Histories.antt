-- Histories one after the other, and what each entry keeps.
use Rattle.std.proofs.Common.{◌≡◌, true, List, [], ◌∷◌, ◌++◌, refl}
use Rattle.std.proofs.lemmas.Bool.{and_parts}
use Rattle.vm_law.specs.declared.journal.Signed.{Signed}
use Rattle.vm_state.specs.State.{State}
use Rattle.vm_table.specs.History.{after_all, is_lawful_all}
use Rattle.vm_table.specs.Table.{lawful, after}

pub lawful_split : (s : State) (xs ys : List Signed) → is_lawful_all s (xs ++ ys) ≡ true → is_lawful_all (after_all s xs) ys ≡ true
lawful_split s [] ys h = h
lawful_split s (x ∷ xs) ys h = lawful_split (after s x) xs ys (and_parts (lawful s x.by x.entry) _ h).1

pub after_split : (s : State) (xs ys : List Signed) → after_all s (xs ++ ys) ≡ after_all (after_all s xs) ys
after_split s [] ys = refl
after_split s (x ∷ xs) ys = after_split (after s x) xs ys

-- what each lawful entry keeps holds of the last state
pub keeps_all : (Holds : State → Type 0) → ((s : State) (x : Signed) → Holds s → lawful s x.by x.entry ≡ true → Holds (after s x)) → (s : State) (xs : List Signed) → Holds s → is_lawful_all s xs ≡ true → Holds (after_all s xs)
keeps_all Holds keeps s [] h m = h
keeps_all Holds keeps s (x ∷ xs) h m = let t = and_parts (lawful s x.by x.entry) _ m in keeps_all Holds keeps (after s x) xs (keeps s x h t.0) t.1
