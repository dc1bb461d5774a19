-- Each step keeps the rule of the turnstile, and tells what it is to tell.
use Rattle.std.proofs.Common.{◌≡◌, ◌≢◌, ℕ, zero, suc, ◌+◌, ◌-◌, ◌<◌, ◌≤◌, Bool, true, false, true≢false, cond, eqb, List, [], ◌∷◌, ◌++◌, length, set, get_or, inl, inr, sym, refl, ap, ◌∙◌, subst, ⊎_elim, arith, append-nil, length-set, length-append, get_or-set_same, eq-eqb, ne_eqb, append_assoc, lt_of_not-le, IsSome, Option, Some, None}
use mathlib.Core.Logic.{dite}
use mathlib.Core.Option.{some, none, some-injective, some-ne-none}
use mathlib.Core.Option as maybe
use native.Mathlib.Decide.{ℕ_discrete, dec_le}
use lib.ListN.{get_elem?}
use Rattle.std.proofs.lemmas.Option.{same_Some}
use prog.Atomic.{either}
use Rattle.atomic_table.specs.Table.{State, Me, step, Act, keeps, takes, gives, Valid, stepped, carried_after, Allows, Splits, Joins, opening, Final, Seen, rest}
use Rattle.atomic_table.proofs.Lists.{at_set, set_here, set_else, at_longer, exchanged}
use Rattle.vm_law.specs.declared.journal.Signed.{Signed}
use Rattle.vm_turn.specs.declared.view.Ended.{Ended}
use Rattle.vm_turn.specs.declared.view.View.{View}
use Rattle.vm_turn.specs.History.{signed_by, AllBy, Adds}
use Rattle.vm_turn.specs.View.{own_of, opening_view, spent_view, taken_view, lost_view, given_view, split_view, new_view, joined_view, IsLone, Finds}
use Rattle.vm_turn.specs.Rule.{LiveFits, PassFits, IsConsistent, TakeTells, GiveTells}
use Rattle.vm_turn.specs.Seat.{held_slots}
use Rattle.vm_turn.proofs.Places.{inside, there_is, at_end, same_at}
use Rattle.vm_turn.proofs.Counts.{live_count, live_count-set, live_count-set_dead, live_count-append, others_dead}
use Rattle.vm_turn.proofs.Histories.{nothing_more, none_before, grown, longer_begins}

module _ {L R : Type 0} (root_of : L → R) (entries_of : L → List Signed) where
  abbrev V : Type 0
  V = View R

  abbrev St : Type 0
  St = State (Option L) V

  abbrev M : Type 0
  M = Me (Option L) V

  abbrev Rule : St → Type 0
  Rule = IsConsistent root_of entries_of

  abbrev word_of : St → ℕ
  word_of s = get_or s.words 0 0

  -- the rule holds of a new table about a value with an empty history
  pub begins : (x : L) → entries_of x ≡ [] → Rule (opening (0 ∷ []) (Some x ∷ []) (opening_view (root_of x)))
  begins x empty = let k : V = opening_view (root_of x) in record {
    root = root_of x;
    log = [];
    splits = 0;
    ended = [];
    one_word = refl;
    one_slot = refl;
    count = refl;
    few = omega arith;
    living = refl;
    each = λ j v e. one j v e;
    beyond = λ j _. (refl, refl, λ h. h);
    free = λ _. (x, refl, refl, empty);
    busy = λ n e. absurd (omega arith);
  }
    where
      one : (j : ℕ) (v : V) → get_elem? (opening_view (root_of x) ∷ []) j ≡ some v → PassFits (root_of x) [] 0 0 [] j v
      one zero v e = subst (λ (u : V). PassFits (root_of x) [] 0 0 [] 0 u) (some-injective _ _ e) record {
        first = λ _. (refl, refl, refl);
        alive = λ _. record {
          number = refl;
          root_is = refl;
          seen = ([], refl);
          own_is = refl;
          own_seen = refl;
          holding = λ h. absurd (true≢false (sym h));
        };
        not_ended = λ _ h. h;
        dead = λ d. absurd (true≢false d);
      }
      one (suc j) v e = absurd (some-ne-none v (sym e))

  -- what a live view knows of the value at home
  finds : (root : R) (log : List Signed) (word j : ℕ) (v : V) (x : L) → LiveFits root log word j v → root_of x ≡ root → entries_of x ≡ log → Finds root_of entries_of v x
  finds root log word j v x f is same = let r = f.seen in record {
    root_is = f.root_is ∙ ap (λ (z : R). Some z) (sym is);
    later = (r.0, same ∙ r.1, ap (λ (n : ℕ). signed_by n r.0) f.number ∙ nothing_more j v.seen r.0 (sym (ap (signed_by j) r.1) ∙ (f.own_is ∙ sym f.own_seen)));
    own_is = ap (λ (n : ℕ). signed_by n (entries_of x)) f.number ∙ (ap (signed_by j) same ∙ f.own_is);
  }

  -- the seat id goes on to the view w, and the word to n. What the rule says of the others stands
  moved : (s : St) (k : Rule s) (id : ℕ) (v w : V) (log' : List Signed) (n : ℕ) (homes' : List (maybe.Option (Option L)))
      → get_elem? s.views id ≡ some v → w.live ≡ v.live → length homes' ≡ length s.homes
      → PassFits k.root log' n k.splits k.ended id w
      → ((j : ℕ) (u : V) → j ≢ id → PassFits k.root k.log (word_of s) k.splits k.ended j u → PassFits k.root log' n k.splits k.ended j u)
      → ((j : ℕ) → k.splits < j → signed_by j log' ≡ [])
      → (n ≡ 0 → (x : L) × (get_elem? homes' 0 ≡ some (some (Some x))) × (root_of x ≡ k.root) × (entries_of x ≡ log'))
      → ((i : ℕ) → n ≡ suc i → (u : V) × (get_elem? (set s.views id w) i ≡ some u) × (u.live ≡ true) × (u.holds ≡ true) × (get_elem? homes' 0 ≡ some none))
      → Rule record { words = set s.words 0 n; homes = homes'; views = set s.views id w }
  moved s k id v w log' n homes' at live deep mine others beyond free busy =
      let one = k.one_word in
      let is : get_or (set s.words 0 n) 0 0 ≡ n = get_or-set_same s.words 0 n 0 (omega arith) in record {
        root = k.root;
        log = log';
        splits = k.splits;
        ended = k.ended;
        one_word = length-set s.words 0 n ∙ one;
        one_slot = deep ∙ k.one_slot;
        count = length-set s.views id w ∙ k.count;
        few = k.few;
        living = ap (λ (m : ℕ). m + length k.ended) (live_count-set s.views id v w at live) ∙ k.living;
        each = λ j u e. subst (λ (m : ℕ). PassFits k.root log' m k.splits k.ended j u) (sym is)
            (⊎_elim (λ (t : (j ≡ id) × (w ≡ u)). subst (λ (z : ℕ × V). PassFits k.root log' n k.splits k.ended z.0 z.1) (λ i. (sym t.0 i, t.1 i)) mine)
            (λ (t : (j ≢ id) × (get_elem? s.views j ≡ some u)). others j u t.0 (k.each j u t.1)) (at_set s.views id j w u e));
        beyond = λ j l. (beyond j l, (k.beyond j l).1, (k.beyond j l).2);
        free = λ z. free (sym is ∙ z);
        busy = λ i z. busy i (sym is ∙ z);
      }

  -- a live view that holds nothing isn't the holder's
  holder_is_other : (s : St) (k : Rule s) (id : ℕ) (v : V) (p : ℕ) → get_elem? s.views id ≡ some v → v.holds ≡ false → word_of s ≡ suc p → p ≢ id
  holder_is_other s k id v p at idle is same =
      let b = k.busy p is in
      let mine : get_elem? s.views id ≡ some b.0 = subst (λ (y : ℕ). get_elem? s.views y ≡ some b.0) same b.1 in
      true≢false (sym b.3 ∙ (ap (λ (u : V). u.holds) (same_at s.views id b.0 v mine at) ∙ idle))

  -- beside the only pass, which holds nothing, nobody holds the value
  lone_is_free : (s : St) (k : Rule s) (id : ℕ) (v : V) (p : ℕ) → get_elem? s.views id ≡ some v → v.live ≡ true → v.holds ≡ false → IsLone v → word_of s ≡ suc p → ⊥
  lone_is_free s k id v p at live idle lone is =
      let mine = k.each id v at in
      let first : id ≡ 0 = sym (mine.alive live).number ∙ lone.0 in
      let keeps = mine.first first in
      let ends : length k.ended ≡ k.splits = ap (λ (l : List Ended). length l) (sym keeps.2) ∙ (lone.1 ∙ keeps.1) in
      let living = k.living in
      let one : live_count s.views ≡ 1 = omega arith in
      let b = k.busy p is in
      let here : get_elem? s.views 0 ≡ some v = subst (λ (y : ℕ). get_elem? s.views y ≡ some v) first at in
      at_least p (λ e. holder_is_other s k id v p at idle is (e ∙ sym first)) b.0 b.1 b.2 (others_dead s.views v one here live)
    where
      at_least : (p : ℕ) → p ≢ 0 → (u : V) → get_elem? s.views p ≡ some u → u.live ≡ true → ((n : ℕ) (w : V) → get_elem? s.views (suc n) ≡ some w → w.live ≡ false) → ⊥
      at_least zero not u at live rest = not refl
      at_least (suc n) not u at live rest = true≢false (sym live ∙ rest n u at)

  -- a try at the word 0: the value is there, and the step keeps the rule
  won : (id : ℕ) (m : M) (new : ℕ) → m.0.live ≡ true → m.0.holds ≡ false → new ≡ m.0.number + 1 → (s : St) (k : Rule s) → get_elem? s.views id ≡ some m.0 → word_of s ≡ 0
      → (x : L) × (get_elem? s.homes 0 ≡ some (some (Some x))) × Rule (stepped s 0 new id m.1 (taken_view m.0 (entries_of x)) (takes 0 (Some x))) × Finds root_of entries_of m.0 x
  won id m new live idle up s k at hit =
      let f = (k.each id m.0 at).alive live in
      let t = k.free hit in
      let x : L = t.0 in
      let e : entries_of x ≡ k.log = t.3 in
      let number : m.0.number ≡ id = f.number in
      let next : new ≡ suc id = omega arith in
      let one = k.one_slot in
      let w : V = taken_view m.0 (entries_of x) in (
        x,
        t.1,
        moved s k id m.0 w k.log new (set s.homes 0 none) at refl (length-set s.homes 0 none)
            record {
              first = (k.each id m.0 at).first;
              alive = λ _. record {
                number = number;
                root_is = f.root_is;
                seen = ([], sym e ∙ sym (append-nil (entries_of x)));
                own_is = f.own_is;
                own_seen = ap (signed_by id) e ∙ f.own_is;
                holding = λ _. (next, e);
              };
              not_ended = (k.each id m.0 at).not_ended;
              dead = λ d. absurd (true≢false (sym live ∙ d));
            }
            (λ j u other h. record {
              first = h.first;
              alive = λ l. let g = h.alive l in record {
                number = g.number;
                root_is = g.root_is;
                seen = g.seen;
                own_is = g.own_is;
                own_seen = g.own_seen;
                holding = λ z. let y = (g.holding z).0 in absurd (omega arith);
              };
              not_ended = h.not_ended;
              dead = h.dead;
            })
            (λ j l. (k.beyond j l).0)
            (λ z. absurd (omega arith))
            (λ i z. let same : id ≡ i = omega arith in (w, subst (λ (y : ℕ). get_elem? (set s.views id w) y ≡ some w) same (set_here s.views id w (inside s.views id m.0 at)), live, refl, set_here s.homes 0 none (omega arith))),
        finds k.root k.log (word_of s) id m.0 x f t.2 e,
      )

  -- a try at any other word: it names another pass, and the step keeps the rule
  lost : (id : ℕ) (m : M) → m.0.live ≡ true → m.0.holds ≡ false → (s : St) (k : Rule s) → get_elem? s.views id ≡ some m.0 → word_of s ≢ 0
      → Rule (stepped s 0 (word_of s) id m.1 (lost_view m.0 (word_of s)) keeps) × (word_of s ≢ m.0.number + 1) × (word_of s ≤ 65536) × ¬ IsLone m.0
  lost id m live idle s k at miss =
      let f = (k.each id m.0 at).alive live in
      let number : m.0.number ≡ id = f.number in
      let word : ℕ = word_of s in
      let p : ℕ = word - 1 in
      let is : word ≡ suc p = omega arith in
      let b = k.busy p is in
      let near = inside s.views p b.0 b.1 in
      let count = k.count in
      let few = k.few in
      let apart : p ≢ id = holder_is_other s k id m.0 p at idle is in
      let w : V = lost_view m.0 word in (
        moved s k id m.0 w k.log word s.homes at refl refl
            record {
              first = (k.each id m.0 at).first;
              alive = λ _. record {
                number = number;
                root_is = f.root_is;
                seen = f.seen;
                own_is = f.own_is;
                own_seen = f.own_seen;
                holding = λ h. absurd (true≢false (sym h ∙ idle));
              };
              not_ended = (k.each id m.0 at).not_ended;
              dead = λ d. absurd (true≢false (sym live ∙ d));
            }
            (λ j u _ h. h)
            (λ j l. (k.beyond j l).0)
            (λ z. absurd (miss z))
            (λ i z. let c = k.busy i z in (c.0, set_else s.views id i w (holder_is_other s k id m.0 i at idle z) ∙ c.1, c.2, c.3, c.4)),
        (λ e. apart (omega arith)),
        omega arith,
        λ lone. lone_is_free s k id m.0 p at live idle lone is,
      )

  -- a try, whatever the word is
  pub tries : (slots id : ℕ) (m : M) (new : ℕ) → m.0.live ≡ true → m.0.holds ≡ false → new ≡ m.0.number + 1
      → Allows Rule slots id m 0 (λ n. either (eqb n 0) new n) (TakeTells root_of entries_of (step slots 0 0 new none) m)
  tries slots id m new live idle up s k deep at small =
      let word : ℕ = word_of s in
      exchanged word 0 new (λ n. (w : V) × (a : Act (Option L)) × Valid s.homes m.1 a × Rule (stepped s 0 n id m.1 w a) × TakeTells root_of entries_of (step slots 0 0 new none) m word (w, carried_after m.1 a))
      (λ hit. let t = won id m new live idle up s k at hit in
      (taken_view m.0 (entries_of t.0), takes 0 (Some t.0), t.1, t.2, ((λ _. (t.0, refl, refl, t.3)), λ no. absurd (no hit))))
      (λ miss. let t = lost id m live idle s k at miss in
      (lost_view m.0 word, keeps, tt, t.0, ((λ hit. absurd (miss hit)), λ _. (refl, refl, t.1, t.2, t.3))))

  -- the holder's step back to 0, with a history that goes on from what it TakeTells by entries of its own number
  pub gives_back : (slots id : ℕ) (v : V) (x : L) → v.live ≡ true → v.holds ≡ true → v.root ≡ Some (root_of x) → Adds v.number v.seen (entries_of x)
      → Allows Rule slots id (v, (0, Some x) ∷ []) 0 (λ _. 0) (λ _. GiveTells root_of entries_of (step slots 0 0 0 none) (v, (0, Some x) ∷ []) 0)
  gives_back slots id v x live holds rooted adds s k deep at small =
      let f = (k.each id v at).alive live in
      let number : v.number ≡ id = f.number in
      let held = f.holding holds in
      let log' : List Signed = entries_of x in
      let new : List Signed = adds.0 in
      let by : AllBy v.number new = adds.2 in
      let on : log' ≡ k.log ++ new = adds.1 ∙ ap (λ (l : List Signed). l ++ new) held.1 in
      let one = k.one_slot in
      let w : V = given_view v log' in
      let stays : (j : ℕ) → j ≢ id → signed_by j log' ≡ signed_by j k.log = λ j other. ap (signed_by j) on ∙ grown j v.number k.log new by (λ e. other (e ∙ number)) in
      let here = inside s.views id v at in
      let count = k.count in (
        w,
        gives,
        tt,
        moved s k id v w log' 0 (set s.homes 0 (some (Some x))) at refl (length-set s.homes 0 (some (Some x)))
            record {
              first = (k.each id v at).first;
              alive = λ _. record {
                number = number;
                root_is = f.root_is;
                seen = ([], sym (append-nil log'));
                own_is = ap (λ (n : ℕ). signed_by n log') (sym number);
                own_seen = ap (λ (n : ℕ). signed_by n log') (sym number);
                holding = λ h. absurd (true≢false (sym h));
              };
              not_ended = (k.each id v at).not_ended;
              dead = λ d. absurd (true≢false (sym live ∙ d));
            }
            (λ j u other h. record {
              first = h.first;
              alive = λ l. let g = h.alive l in let r = g.seen in record {
                number = g.number;
                root_is = g.root_is;
                seen = (r.0 ++ new, on ∙ (ap (λ (l : List Signed). l ++ new) r.1 ∙ append_assoc u.seen r.0 new));
                own_is = stays j other ∙ g.own_is;
                own_seen = g.own_seen;
                holding = λ z. let y = (g.holding z).0 in let y' = held.0 in absurd (other (omega arith));
              };
              not_ended = h.not_ended;
              dead = λ d. let t = h.dead d in (stays j other ∙ t.0, t.1, t.2);
            })
            (λ j l. stays j (λ e. omega arith) ∙ (k.beyond j l).0)
            (λ _. (x, set_here s.homes 0 (some (Some x)) (omega arith), same_Some (root_of x) k.root (sym rooted ∙ f.root_is), refl))
            (λ i z. absurd (omega arith)),
        λ y e. (refl, ap (λ (z : L). given_view v (entries_of z)) (ap (first_or x) e)),
      )
    where
      value_or : L → Option L → L
      value_or d (Some y) = y
      value_or d None = d

      first_or : L → List (ℕ × Option L) → L
      first_or d [] = d
      first_or d (p ∷ ps) = value_or d p.1

  -- the same, of a seat m whose only slot was filled with x just now
  pub gives_back_as : (slots id : ℕ) (m : M) (v : V) (l : List (ℕ × Option L)) (x : L) → m ≡ (v, (0, Some x) ∷ rest l) → l ≡ held_slots v.holds → v.live ≡ true → v.holds ≡ true → v.root ≡ Some (root_of x) → Adds v.number v.seen (entries_of x)
      → Allows Rule slots id m 0 (λ _. 0) (λ _. GiveTells root_of entries_of (step slots 0 0 0 none) m 0)
  gives_back_as slots id m v l x e carries live holds rooted adds =
      let bare : rest l ≡ [] = ap (λ (k : List (ℕ × Option L)). rest k) (carries ∙ ap (λ (b : Bool). held_slots b) holds) in
      subst (λ (m : M). Allows Rule slots id m 0 (λ _. 0) (λ _. GiveTells root_of entries_of (step slots 0 0 0 none) m 0)) (sym (e ∙ ap (λ (k : List (ℕ × Option L)). (v, (0, Some x) ∷ k)) bare)) (gives_back slots id v x live holds rooted adds)

  -- a pass is split off pass 0
  pub splits_off : (id : ℕ) (v : V) → v.live ≡ true → v.number ≡ 0 → v.splits < 65535 → Splits Rule id v (split_view v) (new_view v)
  splits_off id v live first more s k at =
      let mine = k.each id v at in
      let f = mine.alive live in
      let zero_id : id ≡ 0 = sym f.number ∙ first in
      let keeps = mine.first zero_id in
      let left : V = split_view v in
      let right : V = new_view v in
      let n : ℕ = suc k.splits in
      let count = k.count in
      let living = k.living in
      let as_many : v.splits ≡ k.splits = keeps.1 in
      let next : v.splits + 1 ≡ n = omega arith in
      let long : length (set s.views id left) ≡ n = length-set s.views id left ∙ count in
      let none : signed_by n k.log ≡ [] = (k.beyond n (omega arith)).0 in
      let seen_none : signed_by n v.seen ≡ [] = none_before n v.seen f.seen.0 (sym (ap (signed_by n) f.seen.1) ∙ none) in
      let alive = live_count-set s.views id v left at refl in
      let more_alive = live_count-append (set s.views id left) right refl in
      let total = length-append (set s.views id left) (right ∷ []) in record {
        root = k.root;
        log = k.log;
        splits = n;
        ended = k.ended;
        one_word = k.one_word;
        one_slot = k.one_slot;
        count = omega arith;
        few = omega arith;
        living = omega arith;
        each = λ j u e. ⊎_elim
            (λ (t : get_elem? (set s.views id left) j ≡ some u). ⊎_elim
            (λ (t : (j ≡ id) × (left ≡ u)). subst (λ (z : ℕ × V). PassFits k.root k.log (word_of s) n k.ended z.0 z.1) (λ i. (sym t.0 i, t.1 i))
            record {
              first = λ z. (live, next, keeps.2);
              alive = λ _. record { number = f.number; root_is = f.root_is; seen = f.seen; own_is = f.own_is; own_seen = f.own_seen; holding = f.holding };
              not_ended = mine.not_ended;
              dead = λ d. absurd (true≢false (sym live ∙ d));
            })
            (λ (t : (j ≢ id) × (get_elem? s.views j ≡ some u)). let h = k.each j u t.1 in record {
              first = λ z. absurd (t.0 (z ∙ sym zero_id));
              alive = h.alive;
              not_ended = h.not_ended;
              dead = h.dead;
            })
            (at_set s.views id j left u t))
            (λ (t : (j ≡ length (set s.views id left)) × (right ≡ u)). subst (λ (z : ℕ × V). PassFits k.root k.log (word_of s) n k.ended z.0 z.1) (λ i. (sym (t.0 ∙ long) i, t.1 i))
            record {
              first = λ z. absurd (omega arith);
              alive = λ _. record {
                number = next;
                root_is = f.root_is;
                seen = f.seen;
                own_is = none;
                own_seen = seen_none;
                holding = λ h. absurd (true≢false (sym h));
              };
              not_ended = λ _. (k.beyond n (omega arith)).2;
              dead = λ d. absurd (true≢false d);
            })
            (at_end (set s.views id left) right u j e);
        beyond = λ j l. k.beyond j (omega arith);
        free = k.free;
        busy = λ i z. let b = k.busy i z in dite (ℕ_discrete i id)
            (λ e. let same : b.0 ≡ v = same_at s.views id b.0 v (subst (λ (y : ℕ). get_elem? s.views y ≡ some b.0) e b.1) at in
            (left, at_longer (set s.views id left) (right ∷ []) i left (subst (λ (y : ℕ). get_elem? (set s.views id left) y ≡ some left) (sym e) (set_here s.views id left (inside s.views id v at))), live, ap (λ (u : V). u.holds) (sym same) ∙ b.3, b.4))
            (λ other. (b.0, at_longer (set s.views id left) (right ∷ []) i b.0 (set_else s.views id i left other ∙ b.1), b.2, b.3, b.4));
      }

  -- a pass is joined to pass 0
  pub joins : (id : ℕ) (v : V) (other : ℕ) (w : V) → v.live ≡ true → v.number ≡ 0 → v.holds ≡ false → w.live ≡ true → w.number ≢ 0 → w.holds ≡ false
      → Joins Rule id v other w (joined_view v w) spent_view
  joins id v other w live first idle live' not_first idle' s k at apart there =
      let mine = k.each id v at in
      let f = mine.alive live in
      let zero_id : id ≡ 0 = sym f.number ∙ first in
      let keeps = mine.first zero_id in
      let both : V = joined_view v w in
      let at' : get_elem? s.views other ≡ some w = sym (set_else s.views id other both apart) ∙ there in
      let theirs = k.each other w at' in
      let g = theirs.alive live' in
      let number : w.number ≡ other = g.number in
      let e : Ended = record { number = w.number; own = w.own } in
      let ended' : List Ended = e ∷ k.ended in
      let begins' = longer_begins id k.log v.seen w.seen f.seen g.seen (f.own_is ∙ sym f.own_seen) in
      let miss : (j : ℕ) → j ≢ other → own_of j ended' ≡ own_of j k.ended = λ j not. ap (λ (b : Bool). cond b w.own (own_of j k.ended)) (ne_eqb w.number j (λ z. not (sym z ∙ number))) in
      let vs : List V = set s.views id both in
      let near = inside s.views other w at' in
      let count = k.count in
      let living = k.living in
      let alive = live_count-set s.views id v both at refl in
      let less = live_count-set_dead vs other w spent_view there live' refl in
      let long = length-set vs other spent_view in
      let long' = length-set s.views id both in record {
        root = k.root;
        log = k.log;
        splits = k.splits;
        ended = ended';
        one_word = k.one_word;
        one_slot = k.one_slot;
        count = long ∙ (long' ∙ count);
        few = k.few;
        living = omega arith;
        each = λ j u a. ⊎_elim
            (λ (t : (j ≡ other) × (spent_view ≡ u)). subst (λ (z : ℕ × V). PassFits k.root k.log (word_of s) k.splits ended' z.0 z.1) (λ i. (sym t.0 i, t.1 i))
            record {
              first = λ z. absurd (apart (z ∙ sym zero_id));
              alive = λ d. absurd (true≢false (sym d));
              not_ended = λ d. absurd (true≢false (sym d));
              dead = λ _. (g.own_is ∙ sym (ap (λ (b : Bool). cond b w.own (own_of other k.ended)) (eq-eqb w.number other number)), refl, inl number);
            })
            (λ (t : (j ≢ other) × (get_elem? vs j ≡ some u)). ⊎_elim
            (λ (y : (j ≡ id) × (both ≡ u)). subst (λ (z : ℕ × V). PassFits k.root k.log (word_of s) k.splits ended' z.0 z.1) (λ i. (sym y.0 i, y.1 i))
            record {
              first = λ z. (live, keeps.1, ap (λ (l : List Ended). e ∷ l) keeps.2);
              alive = λ _. record {
                number = f.number;
                root_is = f.root_is;
                seen = begins'.0;
                own_is = f.own_is;
                own_seen = sym begins'.1 ∙ f.own_is;
                holding = λ h. absurd (true≢false (sym h ∙ idle));
              };
              not_ended = λ l. ⊎_elim (λ z. apart (sym number ∙ z)) (λ z. mine.not_ended l z);
              dead = λ d. absurd (true≢false (sym live ∙ d));
            })
            (λ (y : (j ≢ id) × (get_elem? s.views j ≡ some u)). let h = k.each j u y.1 in record {
              first = λ z. absurd (y.0 (z ∙ sym zero_id));
              alive = h.alive;
              not_ended = λ l. ⊎_elim (λ z. t.0 (sym z ∙ number)) (λ z. h.not_ended l z);
              dead = λ d. let r = h.dead d in (r.0 ∙ sym (miss j t.0), r.1, inr r.2);
            })
            (at_set s.views id j both u t.1))
            (at_set vs other j spent_view u a);
        beyond = λ j l. let b = k.beyond j l in (b.0, miss j (λ z. omega arith) ∙ b.1, ⊎_elim (λ z. let e = sym number ∙ z in omega arith) (λ z. b.2 z));
        free = k.free;
        busy = λ i z. let b = k.busy i z in
            (b.0, set_else vs other i spent_view (holder_is_other s k other w i at' idle' z) ∙ (set_else s.views id i both (holder_is_other s k id v i at idle z) ∙ b.1), b.2, b.3, b.4);
      }

  -- beside the only pass, the value is at home, and its history has what each pass added
  pub ends : (id : ℕ) (v : V) (ws : List ℕ) (xs : List (Option L)) → v.live ≡ true → v.holds ≡ false → IsLone v → Final (Seen Rule id v) ws xs
      → (x : L) × (get_elem? xs 0 ≡ some (Some x)) × Finds root_of entries_of v x × ((n : ℕ) → 0 < n → signed_by n (entries_of x) ≡ own_of n v.ended)
  ends id v ws xs live idle lone final =
      let s : St = final.0 in
      let k : Rule s = final.1.0 in
      let at : get_elem? s.views id ≡ some v = final.1.1 in
      let mine = k.each id v at in
      let f = mine.alive live in
      let first : id ≡ 0 = sym f.number ∙ lone.0 in
      let keeps = mine.first first in
      let free : word_of s ≡ 0 = dite (ℕ_discrete (word_of s) 0) (λ z. z) (λ z. absurd (lone_is_free s k id v (word_of s - 1) at live idle lone (omega arith))) in
      let t = k.free free in
      let x : L = t.0 in
      let same : entries_of x ≡ k.log = t.3 in
      let many : length k.ended ≡ k.splits = ap (λ (l : List Ended). length l) (sym keeps.2) ∙ (lone.1 ∙ keeps.1) in
      let living = k.living in
      let one : live_count s.views ≡ 1 = omega arith in
      let here : get_elem? s.views 0 ≡ some v = subst (λ (y : ℕ). get_elem? s.views y ≡ some v) first at in (
        x,
        final.4 0 (Some x) t.1,
        finds k.root k.log (word_of s) id v x f t.2 same,
        λ n pos. ap (signed_by n) same ∙ (others s k v here one live n pos (dec_le n k.splits) ∙ ap (own_of n) (sym keeps.2)),
      )
    where
      dead_of : (s : St) (k : Rule s) (v : V) → get_elem? s.views 0 ≡ some v → live_count s.views ≡ 1 → v.live ≡ true → (n : ℕ) → 0 < n → n ≤ k.splits → signed_by n k.log ≡ own_of n k.ended
      dead_of s k v here one live zero pos le = absurd (omega arith)
      dead_of s k v here one live (suc n) pos le =
          let count = k.count in
          let t = there_is s.views (suc n) (omega arith) in
          ((k.each (suc n) t.0 t.1).dead (others_dead s.views v one here live n t.0 t.1)).0

      others : (s : St) (k : Rule s) (v : V) → get_elem? s.views 0 ≡ some v → live_count s.views ≡ 1 → v.live ≡ true → (n : ℕ) → 0 < n → Dec (n ≤ k.splits) → signed_by n k.log ≡ own_of n k.ended
      others s k v here one live n pos (yes le) = dead_of s k v here one live n pos le
      others s k v here one live n pos (no gt) = let b = k.beyond n (lt_of_not-le gt) in b.0 ∙ sym b.1

  -- the same, of the value that came out of the slot
  pub ends_some : (id : ℕ) (v : V) (ws : List ℕ) (xs : List (Option L)) (o : Option L) → v.live ≡ true → v.holds ≡ false → IsLone v → Final (Seen Rule id v) ws xs → get_elem? xs 0 ≡ some o → IsSome o
  ends_some id v ws xs o live idle lone final there =
      let e = ends id v ws xs live idle lone final in
      subst (λ (p : Option L). IsSome p) (some-injective (Some e.0) o (sym e.1 ∙ there)) refl

  -- with the view v' that a contract sees
  pub ends_at : (id : ℕ) (v v' : V) (ws : List ℕ) (xs : List (Option L)) (o : Option L) (y : L) → v ≡ v' → v.live ≡ true → v'.holds ≡ false → IsLone v' → Final (Seen Rule id v) ws xs → get_elem? xs 0 ≡ some o → o ≡ Some y
      → Finds root_of entries_of v' y × ((n : ℕ) → 0 < n → signed_by n (entries_of y) ≡ own_of n v'.ended)
  ends_at id v v' ws xs o y is live idle lone final there got =
      let e = ends id v ws xs live (ap (λ (u : V). u.holds) is ∙ idle) (subst (λ (u : V). IsLone u) (sym is) lone) final in
      let same : e.0 ≡ y = same_Some e.0 y (some-injective (Some e.0) o (sym e.1 ∙ there) ∙ got) in
      subst (λ (z : L × V). Finds root_of entries_of z.1 z.0 × ((n : ℕ) → 0 < n → signed_by n (entries_of z.0) ≡ own_of n z.1.ended)) (λ i. (same i, is i)) (e.2, e.3)
