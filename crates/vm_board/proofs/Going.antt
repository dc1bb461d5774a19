-- Turns at the turnstile, put together.
use Rattle.std.proofs.Common.{◌≡◌, inl, inr, ℕ, zero, suc, ◌+◌, ◌<◌, ◌≤◌, Bool, true, false, cond, ◌==◌, List, [], ◌∷◌, ◌++◌, length, length-append, append-nil, append_assoc, Option, Some, None, refl, sym, ap, subst, ◌∙◌, arith, eq-eqb}
use Rattle.std.specs.Option.{option_to_list, option_map}
use Rattle.std.proofs.lemmas.Bool.{and_parts, and_from}
use Rattle.std.proofs.lemmas.List.Elements.{All-append, All-cons, All-head, All-nil, All-tail, filter-append}
use Rattle.std.proofs.lemmas.Option.{same_Some}
use Rattle.vm_law.specs.declared.journal.Entry.{Entry}
use Rattle.vm_law.specs.declared.journal.Signed.{Signed}
use Rattle.vm_host.specs.Views.{ImageView}
use Rattle.vm_turn.specs.History.{Adds, AllBy, signed_by}
use Rattle.vm_turn.specs.View.{Finds, given_view, taken_view, with_tries}
use Rattle.vm_turn.specs.declared.view.View.{View}
use Rattle.vm_state.specs.declared.start.Start.{Start}
use Rattle.vm_state.specs.State.{State}
use Rattle.vm_state.specs.Start.{boot}
use Rattle.vm_table.specs.History.{IsLegal, after_all, is_lawful_all, last_state}
use Rattle.vm_table.specs.Rounds.{chosen}
use Rattle.vm_table.specs.Table.{after, lawful}
use Rattle.vm_table.specs.Turns.{first_lawful}
use Rattle.vm_board.specs.declared.actor.Did.{Did}
use Rattle.vm_board.specs.declared.actor.Did.TheVariants.{Added, Nothing, Left, Starved}
use Rattle.vm_board.specs.declared.actor.Went.{Went}
use Rattle.vm_board.specs.declared.actor.Went.TheVariants as went
use Rattle.vm_board.specs.Board.{IsBoard}
use Rattle.vm_board.specs.Going.{AreStays, HasAddedOrNone, HasGone, IsSamePass, IsStay, IsTold, Place, added_in, end_of, entries_after, place}
use Rattle.vm_board.specs.Turn.{TakesTurn, some_entry, told, with_choice}
use Rattle.vm_board.specs.View.{BoardView}

-- ---- entries of one pass

pub all_append : (n : ℕ) (xs ys : List Signed) → AllBy n xs → AllBy n ys → AllBy n (xs ++ ys)
all_append n xs ys a b = All-append (λ (s : Signed). s.by ≡ n) xs ys a b

pub all_none : (n : ℕ) → AllBy n []
all_none n = All-nil (λ (s : Signed). s.by ≡ n)

pub all_one : (n : ℕ) (e : Entry) → AllBy n (record { by = n; entry = e } ∷ [])
all_one n e = All-cons (λ (s : Signed). s.by ≡ n) (record { by = n; entry = e }) [] refl (all_none n)

signed_append : (n : ℕ) (xs ys : List Signed) → signed_by n (xs ++ ys) ≡ signed_by n xs ++ signed_by n ys
signed_append n xs ys = filter-append (λ (s : Signed). s.by == n) xs ys

-- they are those of that number
signed_all : (n : ℕ) (xs : List Signed) → AllBy n xs → signed_by n xs ≡ xs
signed_all n [] a = refl
signed_all n (x ∷ xs) a =
    ap (λ (b : Bool). cond b (x ∷ signed_by n xs) (signed_by n xs)) (eq-eqb x.by n (All-head (λ (s : Signed). s.by ≡ n) x xs a))
    ∙ ap (λ (l : List Signed). x ∷ l) (signed_all n xs (All-tail (λ (s : Signed). s.by ≡ n) x xs a))

-- where none is of that number, neither is the first nor any behind it
not_its : (n : ℕ) (x : Signed) (xs : List Signed) → signed_by n (x ∷ xs) ≡ [] → ((x.by == n) ≡ false) × (signed_by n xs ≡ [])
not_its n x xs e = by (x.by == n) refl e
  where
    by : (b : Bool) → (x.by == n) ≡ b → cond b (x ∷ signed_by n xs) (signed_by n xs) ≡ [] → ((x.by == n) ≡ false) × (signed_by n xs ≡ [])
    by true is h = absurd (cc)
    by false is h = (is, h)

pub chosen_all : (s : State) (p : ℕ) → AllBy p (chosen s p)
chosen_all s p = at (first_lawful s p)
  where
    at : (o : Option Entry) → AllBy p (option_to_list (option_map (λ (e : Entry). record { by = p; entry = e }) o))
    at None = all_none p
    at (Some e) = all_one p e

pub choice_all : (s : State) (p : ℕ) (back : List Signed) → AllBy p back → AllBy p (with_choice s p back)
choice_all s p back a = all_append p back (chosen (after_all s back) p) a (chosen_all (after_all s back) p)

pub added_all : (n : ℕ) (did : Did) (xs : List Signed) → AllBy n xs → AllBy n (added_in did xs)
added_all n Starved xs a = all_none n
added_all n Added xs a = a
added_all n Nothing xs a = a
added_all n Left xs a = a

-- ---- entries of others

pub lawful_parts : (s : State) (xs ys : List Signed) → is_lawful_all s (xs ++ ys) ≡ true → (is_lawful_all s xs ≡ true) × (is_lawful_all (after_all s xs) ys ≡ true)
lawful_parts s [] ys h = (refl, h)
lawful_parts s (x ∷ xs) ys h =
    let t = and_parts (lawful s x.by x.entry) (is_lawful_all (after s x) (xs ++ ys)) h in
    let u = lawful_parts (after s x) xs ys t.1 in
    (and_from (lawful s x.by x.entry) (is_lawful_all (after s x) xs) t.0 u.0, u.1)

-- what each lawful entry of others keeps outlasts them all
pub still : (start : Start) (by : ℕ) (F : List Signed → Type 0)
    → ((h : List Signed) (x : Signed) → IsLegal start h → lawful (last_state start h) x.by x.entry ≡ true → (x.by == by) ≡ false → F h → F (h ++ x ∷ []))
    → (h rest : List Signed) → IsLegal start (h ++ rest) → signed_by by rest ≡ [] → F h → F (h ++ rest)
still start by F keep h [] legal none f = subst F (sym (append-nil h)) f
still start by F keep h (x ∷ rest) legal none f =
    let t = not_its by x rest none in
    let e : (h ++ x ∷ []) ++ rest ≡ h ++ (x ∷ rest) = append_assoc h (x ∷ []) rest in
    let p = lawful_parts (boot start) h (x ∷ rest) legal in
    let m = and_parts (lawful (last_state start h) x.by x.entry) (is_lawful_all (after (last_state start h) x) rest) p.1 in
    subst F e (still start by F keep (h ++ x ∷ []) rest (subst (λ (l : List Signed). IsLegal start l) (sym e) legal) t.1 (keep h x p.0 m.0 t.0 f))

-- ---- what a turn tells

module _ {I : Type 0} where
  pub turn_start : (old new : BoardView I) (l : Bool) (xs : List Signed) (did : Did) → TakesTurn old new l xs did → new.start ≡ old.start
  turn_start old new l xs Starved t = t.start
  turn_start old new l xs Added t = t.0.start
  turn_start old new l xs Nothing t = t.0.start
  turn_start old new l xs Left t = t.0.start

  pub turn_journal : (old new : BoardView I) (l : Bool) (xs : List Signed) (did : Did) → TakesTurn old new l xs did → new.journal ≡ old.journal ++ added_in did xs
  turn_journal old new l xs Starved t = t.journal ∙ sym (append-nil old.journal)
  turn_journal old new l xs Added t = t.0.journal
  turn_journal old new l xs Nothing t = t.0.journal
  turn_journal old new l xs Left t = t.0.journal

  pub turn_told : (old new : BoardView I) (l : Bool) (xs : List Signed) (did : Did) → TakesTurn old new l xs did → IsTold did l (some_entry xs)
  turn_told old new l xs Starved t = tt
  turn_told old new l xs Added t = t.1
  turn_told old new l xs Nothing t = t.1
  turn_told old new l xs Left t = t.1

  -- the state after a turn, where the board was found at the turnstile
  pub turn_state : (seen : I → ImageView) (old new : BoardView I) (l : Bool) (xs : List Signed) (did : Did) → IsBoard seen new → TakesTurn old new l xs did → new.state ≡ last_state old.start new.journal
  turn_state seen old new l xs did b t = b.last ∙ ap (λ (s : Start). last_state s new.journal) (turn_start old new l xs did t)

module _ {I : Type 0} where
  -- what the pass has added, once it has given the board back
  pub given_own : (v : View Start) (x y : BoardView I) (l : Bool) (xs : List Signed) (did : Did) (by : ℕ) → v.number ≡ by → Finds (λ (z : BoardView I). z.start) (λ (z : BoardView I). z.journal) v x → TakesTurn x y l xs did → AllBy by xs
      → signed_by v.number y.journal ≡ v.own ++ added_in did xs
  given_own v x y l xs did by num f t all =
      let mine : signed_by by x.journal ≡ v.own = ap (λ (n : ℕ). signed_by n x.journal) (sym num) ∙ f.own_is in
      let new : signed_by by (added_in did xs) ≡ added_in did xs = signed_all by (added_in did xs) (added_all by did xs all) in
      ap (λ (n : ℕ). signed_by n y.journal) num ∙ ap (λ (h : List Signed). signed_by by h) (turn_journal x y l xs did t) ∙ signed_append by x.journal (added_in did xs)
      ∙ ap (λ (h : List Signed). h ++ signed_by by (added_in did xs)) mine
      ∙ ap (λ (h : List Signed). v.own ++ h) new

  -- what a pass that has taken the board is asked for when it gives it back
  pub record CanGive (w : View Start) (y : BoardView I) : Type 0 where
    pub holds : w.holds ≡ true
    pub root : w.root ≡ Some y.start
    pub history : Adds w.number w.seen y.journal

  pub can_give : (v : View Start) (x y : BoardView I) (l : Bool) (xs : List Signed) (did : Did) (by tries : ℕ) → v.number ≡ by → Finds (λ (z : BoardView I). z.start) (λ (z : BoardView I). z.journal) v x → TakesTurn x y l xs did → AllBy by xs
      → CanGive (with_tries (taken_view v x.journal) tries) y
  can_give v x y l xs did by tries num f t all = record {
    holds = refl;
    root = f.root_is ∙ ap (λ (s : Start). Some s) (sym (turn_start x y l xs did t));
    history = (added_in did xs, turn_journal x y l xs did t, subst (λ (n : ℕ). AllBy n (added_in did xs)) (sym num) (added_all by did xs all));
  }

told_added : (l s : Bool) → Added ≡ told l s → s ≡ true
told_added true s e = absurd (cc)
told_added false true e = refl
told_added false false e = absurd (cc)

told_nothing : (l s : Bool) → Nothing ≡ told l s → s ≡ false
told_nothing true s e = absurd (cc)
told_nothing false true e = absurd (cc)
told_nothing false false e = refl

pub told_left : (l s : Bool) → Left ≡ told l s → l ≡ true
told_left true s e = refl
told_left false true e = absurd (cc)
told_left false false e = absurd (cc)

none_there : (xs : List Signed) → some_entry xs ≡ false → xs ≡ []
none_there [] e = refl
none_there (x ∷ xs) e = absurd (cc)

some_there : (xs : List Signed) → some_entry xs ≡ true → 0 < length xs
some_there [] e = absurd (cc)
some_there (x ∷ xs) e = omega arith

both_none : (xs ys : List Signed) → xs ++ ys ≡ [] → (xs ≡ []) × (ys ≡ [])
both_none [] ys e = (refl, e)
both_none (x ∷ xs) ys e = absurd (cc)

none_chosen : (s : State) (p : ℕ) → chosen s p ≡ [] → first_lawful s p ≡ None
none_chosen s p e = at (first_lawful s p) e
  where
    at : (o : Option Entry) → option_to_list (option_map (λ (e : Entry). let x : Signed = record { by = p; entry = e } in x) o) ≡ [] → o ≡ None
    at None h = refl
    at (Some x) h = absurd (cc)

-- ---- a stay

module _ {I A : Type 0} (seen : I → ImageView) (by : ℕ) (back : State → A → List Signed) (leaves : State → A → Bool) (Next : State → Did → A → A → Type 0) where
  -- the pass took the board as x and gave it back as y
  at_found : (v : View Start) (x y : BoardView I) (a b : A) (tries : ℕ) (did : Did) → v.number ≡ by → IsBoard seen x → IsBoard seen y → Finds (λ (z : BoardView I). z.start) (λ (z : BoardView I). z.journal) v x
      → TakesTurn x y (leaves y.state b) (with_choice x.state by (back x.state a)) did → AllBy by (back x.state a) → Next y.state did a b
      → IsStay x.start by back leaves Next (place v a) (place (given_view (with_tries (taken_view v x.journal) tries) y.journal) b) did
  at_found v x y a b tries did num bx ok f t all next =
      let others = f.later.0 in
      let xs = with_choice x.state by (back x.state a) in
      let same : xs ≡ entries_after x.start by back leaves Next (v.seen ++ others) a =
      ap (λ (s : State). with_choice s by (back s a)) (bx.last ∙ ap (λ (h : List Signed). last_state x.start h) f.later.1) in
      let j : y.journal ≡ x.journal ++ added_in did xs = turn_journal x y (leaves y.state b) xs did t in
      let now = turn_state seen x y (leaves y.state b) xs did ok t in
      record {
        others = others;
        none_own = subst (λ (n : ℕ). signed_by n others ≡ []) num f.later.2;
        seen = j ∙ ap (λ (l : List Signed). l ++ added_in did xs) f.later.1 ∙ ap (λ (l : List Signed). v.seen ++ others ++ added_in did l) same;
        own = given_own v x y (leaves y.state b) xs did by num f t (choice_all x.state by (back x.state a) all) ∙ ap (λ (l : List Signed). v.own ++ added_in did l) same;
        told = subst (λ (s : State). IsTold did (leaves s b) (some_entry (entries_after x.start by back leaves Next (v.seen ++ others) a))) now
            (subst (λ (l : List Signed). IsTold did (leaves y.state b) (some_entry l)) same (turn_told x y (leaves y.state b) xs did t));
        actor = subst (λ (s : State). Next s did a b) now next;
      }

  pub one_stay : (v : View Start) (x y : BoardView I) (a b : A) (tries : ℕ) (did : Did) → v.number ≡ by → IsBoard seen x → IsBoard seen y → Finds (λ (z : BoardView I). z.start) (λ (z : BoardView I). z.journal) v x
      → TakesTurn x y (leaves y.state b) (with_choice x.state by (back x.state a)) did → AllBy by (back x.state a) → Next y.state did a b
      → (start : Start) → v.root ≡ Some start → IsStay start by back leaves Next (place v a) (place (given_view (with_tries (taken_view v x.journal) tries) y.journal) b) did
  one_stay v x y a b tries did num bx ok f t all next start root =
      subst (λ (s : Start). IsStay s by back leaves Next (place v a) (place (given_view (with_tries (taken_view v x.journal) tries) y.journal) b) did)
      (same_Some x.start start (sym f.root_is ∙ root))
      (at_found v x y a b tries did num bx ok f t all next)

-- ---- many stays

module _ {A : Type 0} (start : Start) (by : ℕ) (back : State → A → List Signed) (leaves : State → A → Bool) (Next : State → Did → A → A → Type 0) where
  stay_grows : (old new : Place A) (did : Did) → IsStay start by back leaves Next old new did → length old.own ≤ length new.own
  stay_grows old new did s =
      let more = added_in did (entries_after start by back leaves Next (old.seen ++ s.others) old.actor) in
      let e : length new.own ≡ length old.own + length more = ap (λ (l : List Signed). length l) s.own ∙ length-append old.own more in
      omega (arith, e)

  stays_grow : (n : ℕ) (old new : Place A) → AreStays start by back leaves Next n old new → length old.own ≤ length new.own
  stays_grow zero old new e = let k = ap (λ (p : Place A). length p.own) e in omega (arith, k)
  stays_grow (suc n) old new m = let k = stays_grow n old m.mid m.before in let l = stay_grows m.mid new m.did m.stay in omega (arith, k, l)

  last_added : (old mid new : Place A) (did : Did) → length old.own ≤ length mid.own → IsStay start by back leaves Next mid new did → end_of did ≡ None → HasAddedOrNone start by old new
  last_added old mid new Added le s e =
      let more = entries_after start by back leaves Next (mid.seen ++ s.others) mid.actor in
      let k = some_there more (told_added (leaves (last_state start new.seen) new.actor) (some_entry more) s.told) in
      let size : length new.own ≡ length mid.own + length more = ap (λ (l : List Signed). length l) s.own ∙ length-append mid.own more in
      inl (omega (arith, le, k, size))
  last_added old mid new Nothing le s e =
      let found = mid.seen ++ s.others in
      let state = last_state start found in
      let more = entries_after start by back leaves Next found mid.actor in
      let none = none_there more (told_nothing (leaves (last_state start new.seen) new.actor) (some_entry more) s.told) in
      let parts = both_none (back state mid.actor) (chosen (after_all state (back state mid.actor)) by) none in
      let rest : chosen state by ≡ [] = ap (λ (l : List Signed). chosen (after_all state l) by) (sym parts.0) ∙ parts.1 in
      let same : new.seen ≡ found = s.seen ∙ ap (λ (l : List Signed). found ++ l) none ∙ append-nil found in
      inr (ap (λ (l : List Signed). first_lawful (last_state start l) by) same ∙ none_chosen state by rest)
  last_added old mid new Left le s e = absurd (cc)
  last_added old mid new Starved le s e = absurd (cc)

  -- after the last of some stays
  pub added_or_none : (n : ℕ) (old new : Place A) → 0 < n → AreStays start by back leaves Next n old new → HasAddedOrNone start by old new
  added_or_none zero old new l m = absurd (omega (arith, l))
  added_or_none (suc n) old new l m = last_added old m.mid new m.did (stays_grow n old m.mid m.before) m.stay m.goes

  left_of : (mid new : Place A) (did : Did) → IsStay start by back leaves Next mid new did → end_of did ≡ Some went.Left → leaves (last_state start new.seen) new.actor ≡ true
  left_of mid new Left s e = told_left (leaves (last_state start new.seen) new.actor) (some_entry (entries_after start by back leaves Next (mid.seen ++ s.others) mid.actor)) s.told
  left_of mid new Added s e = absurd (cc)
  left_of mid new Nothing s e = absurd (cc)
  left_of mid new Starved s e = absurd (cc)

  pub has_left_where : (n : ℕ) (old new : Place A) → HasGone start by back leaves Next n old new went.Left → leaves (last_state start new.seen) new.actor ≡ true
  has_left_where n old new h = left_of h.mid new h.did h.last h.ends

  -- the last of them
  pub ends_gone : (n most : ℕ) (old mid new : Place A) (did : Did) (w : Went) → n < most → AreStays start by back leaves Next n old mid → IsStay start by back leaves Next mid new did → end_of did ≡ Some w → HasGone start by back leaves Next most old new w
  ends_gone n most old mid new did went.Again l m s e = absurd (never did e)
    where
      never : (d : Did) → end_of d ≡ Some went.Again → ⊥
      never Added h = cc
      never Nothing h = cc
      never Left h = cc
      never Starved h = cc
  ends_gone n most old mid new did went.Left l m s e = record { count = n; few = l; mid = mid; did = did; stays = m; last = s; ends = e }
  ends_gone n most old mid new did went.Starved l m s e = record { count = n; few = l; mid = mid; did = did; stays = m; last = s; ends = e }

  pub one_more : (n : ℕ) (old mid new : Place A) (did : Did) → AreStays start by back leaves Next n old mid → IsStay start by back leaves Next mid new did → end_of did ≡ None → AreStays start by back leaves Next (suc n) old new
  one_more n old mid new did m s e = record { mid = mid; did = did; before = m; stay = s; goes = e }

-- what isn't some is none
pub not_some : {X : Type 0} (o : Option X) → ((x : X) → o ≡ Some x → ⊥) → o ≡ None
not_some None f = refl
not_some (Some x) f = absurd (f x refl)

-- ---- what a pass keeps

pub same_pass : (v : View Start) → IsSamePass v v
same_pass v = record { live = refl; number = refl; root = refl; splits = refl; ended = refl }

pub same_then : (u v w : View Start) → IsSamePass u v → IsSamePass v w → IsSamePass u w
same_then u v w a b = record { live = b.live ∙ a.live; number = b.number ∙ a.number; root = b.root ∙ a.root; splits = b.splits ∙ a.splits; ended = b.ended ∙ a.ended }
