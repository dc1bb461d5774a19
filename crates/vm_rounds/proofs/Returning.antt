-- The rounds of one thread come to Close, and are a legal history.
use Rattle.std.specs.Prelude.{Option, Some, None, is_some}
use Rattle.std.specs.Option.{option_to_list, option_map}
use Rattle.std.proofs.Common.{◌≡◌, ◌⊎◌, ℕ, zero, suc, ◌<◌, ◌≤◌, Bool, true, false, List, [], ◌∷◌, ◌++◌, refl, sym, ap, subst, ◌∙◌, inl, inr, arith}
use Rattle.std.proofs.lemmas.Bool.{cases_Bool, true≢false, le-leb}
use Rattle.std.proofs.lemmas.List.{append-nil, length-replicate}
use Rattle.vm_law.specs.declared.journal.EndCause.{EndCause}
use Rattle.vm_law.specs.declared.journal.Entry.{Entry}
use Rattle.vm_law.specs.declared.journal.Entry.TheVariants.{Claim, Yield, Turn, Feed, End, Tick}
use Rattle.vm_law.specs.declared.journal.Signed.{Signed}
use Rattle.vm_state.specs.declared.run_state.Why.{Why}
use Rattle.vm_state.specs.declared.start.Start as start_type
use Rattle.vm_state.specs.Machine.{cpu_count}
use Rattle.vm_state.specs.Requests.{pass_count}
use Rattle.vm_state.specs.Start.{IsSound, boot, first_state}
use Rattle.vm_state.specs.State.{State}
use Rattle.vm_state.proofs.First.{get_or_equal}
use Rattle.vm_state.proofs.Sound.{boot_is_sound}
use Rattle.vm_orders.specs.Ending.{after_end, entry_limit}
use Rattle.vm_table.specs.History.{IsLegal, after_all, is_lawful_all, last_state}
use Rattle.vm_table.specs.Rounds.{Lease, Rounds, after_round, chosen, first_round, no_lease, rounds_from}
use Rattle.vm_table.specs.Table.{after, counted, effect}
use Rattle.vm_table.specs.Turns.{IsOrderly, first_lawful}
use Rattle.vm_laws.specs.Ending.{need}
use Rattle.vm_laws.specs.Waiting.{Ends, IsEarly, PicksTheEnd}
use Rattle.vm_laws.proofs.Picks.{control_picks}
use Rattle.vm_rounds.proofs.Walking.{good_orderly, AreGood, AreOver, Good, good_lawful}
use Rattle.vm_rounds.proofs.Passing.{Fine, fine_after}
use Rattle.vm_rounds.proofs.Passes.{Stand, passes_go}
use Rattle.vm_rounds.proofs.TwoRounds.{Moves, round_moves, then_moves}
use Rattle.vm_rounds.proofs.Closed.{Returns, come_le, ended_all, ended_returns, many_later, one_later, to_come}
use Rattle.vm_rounds.proofs.Lasting.{before_last, early_last, others_last}
use Rattle.vm_rounds.proofs.Ticking.{tick_last}

-- ---- from 40,000,000 entries on, before the end

abbrev pub Nearer : ℕ → State → Type 0
Nearer n t = (is_some t.ended ≡ true) ⊎ (before_last t < n)

ended_or : (o : Option Why) → (is_some o ≡ true) ⊎ (o ≡ None)
ended_or None = inr refl
ended_or (Some w) = inl refl

others_nearer : (s : State) (xs : List Signed) (n : ℕ) → Fine s → AreGood s xs → AreOver xs → Nearer n s → Nearer n (after_all s xs)
others_nearer s xs n f g o (inl over) = inl (ended_all s xs over)
others_nearer s [] n f g o (inr l) = inr l
others_nearer s (x ∷ xs) n f g o (inr l) =
    elim (ended_or s.ended) [
      | inl over ↦ inl (ended_all s (x ∷ xs) over)
      | inr e ↦ others_nearer (after s x) xs n (fine_after s x f g.0) g.1 o.1 (next (others_last s x f.sound e o.0 g.0))
    ]
  where
    next : (is_some (after s x).ended ≡ true) ⊎ (before_last (after s x) ≤ before_last s) → Nearer n (after s x)
    next (inl over) = inl over
    next (inr k) = inr (omega (arith, k, l))

pub end_ends : (s : State) (c : EndCause) → is_some (after s (record { by = 0; entry = End c })).ended ≡ true
unfolding after effect counted after_end
end_ends s c = refl

early_nearer : (s : State) (e : Entry) → Fine s → s.ended ≡ None → IsEarly e → Good s (record { by = 0; entry = e }) → Nearer (before_last s) (after s (record { by = 0; entry = e }))
early_nearer s e f n y g = elim (early_last s e f.sound n y g) [ inl over ↦ inl over | inr l ↦ inr l ]

control_nearer : (s : State) (e : Entry) → Fine s → s.ended ≡ None → Ends e → Good s (record { by = 0; entry = e }) → Nearer (before_last s) (after s (record { by = 0; entry = e }))
control_nearer s (Turn i) f n y g = early_nearer s (Turn i) f n tt g
control_nearer s (Yield i) f n y g = early_nearer s (Yield i) f n tt g
control_nearer s (Claim i) f n y g = early_nearer s (Claim i) f n tt g
control_nearer s Feed f n y g = early_nearer s Feed f n tt g
control_nearer s (Tick k) f n y g = inr (tick_last s 0 k f.sound g.may)
control_nearer s (End c) f n y g = inl (end_ends s c)
control_nearer s e f n y g = absurd y

chosen_is : (s : State) (e : Entry) → first_lawful s 0 ≡ Some e → chosen s 0 ≡ record { by = 0; entry = e } ∷ []
chosen_is s e h = ap (λ (o : Option Entry). option_to_list (option_map (λ (x : Entry). record { by = 0; entry = x }) o)) h

round_nearer : (s : State) (o : Option Entry) (xs rest : List Signed) → first_lawful s 0 ≡ o → PicksTheEnd s → Fine s → s.ended ≡ None → xs ≡ chosen s 0 ++ rest → AreOver rest → AreGood s xs → Nearer (before_last s) (after_all s xs)
round_nearer s None xs rest h p f n e o g = absurd (p.some h)
round_nearer s (Some x) xs rest h p f n e o g =
    let all : xs ≡ record { by = 0; entry = x } ∷ rest = e ∙ ap (λ (ys : List Signed). ys ++ rest) (chosen_is s x h) in
    let g2 = subst (λ (ys : List Signed). AreGood s ys) all g in
    let first = control_nearer s x f n (p.ends x h) g2.0 in
    subst (λ (ys : List Signed). Nearer (before_last s) (after_all s ys)) (sym all)
    (others_nearer (after s (record { by = 0; entry = x })) rest (before_last s) (fine_after s (record { by = 0; entry = x }) f g2.0) g2.1 o first)

some_pass : (r : Rounds) → 0 < pass_count r.state.machine
unfolding pass_count
some_pass r = omega arith

pub one_nearer : (r : Rounds) → Stand r → r.state.closed ≡ false → r.state.ended ≡ None → entry_limit ≤ r.state.entries → Nearer (before_last r.state) (after_round r).state × (entry_limit ≤ (after_round r).state.entries) × Stand (after_round r)
unfolding after_round
one_nearer r h g n l =
    let p = passes_go r (pass_count r.state.machine) h in
    let f = p.first (some_pass r) in
    let a = round_nearer r.state (first_lawful r.state 0) p.entries f.0 refl (control_picks r.state g n (le-leb entry_limit r.state.entries l)) h.fine n f.1 f.2 p.good in
    let b = come_le r.state p.entries in
    let c : entry_limit ≤ (after_all r.state p.entries).entries = omega (arith, b, l) in
    (subst (λ (t : State). Nearer (before_last r.state) t) (sym p.state) a, subst (λ (t : State). entry_limit ≤ t.entries) (sym p.state) c, p.stand)

pub late_returns : (fuel : ℕ) (r : Rounds) → Stand r → entry_limit ≤ r.state.entries → before_last r.state ≤ fuel → Returns r
late_returns zero r h l b =
    elim (cases_Bool r.state.closed) [
      | inl shut ↦ (0, shut)
      | inr g ↦ (elim (ended_or r.state.ended) [
        | inl over ↦ ended_returns (need r.state) r h over (omega arith)
        | inr n ↦
            let a = one_nearer r h g n l in
            (elim a.0 [
              | inl over ↦ one_later r (ended_returns (need (after_round r).state) (after_round r) a.2 over (omega arith))
              | inr less ↦ absurd (omega (arith, less, b))
            ])
      ])
    ]
late_returns (suc k) r h l b =
    elim (cases_Bool r.state.closed) [
      | inl shut ↦ (0, shut)
      | inr g ↦ (elim (ended_or r.state.ended) [
        | inl over ↦ ended_returns (need r.state) r h over (omega arith)
        | inr n ↦
            let a = one_nearer r h g n l in
            (elim a.0 [
              | inl over ↦ one_later r (ended_returns (need (after_round r).state) (after_round r) a.2 over (omega arith))
              | inr less ↦ one_later r (late_returns k (after_round r) a.2 a.1 (omega (arith, less, b)))
            ])
      ])
    ]

-- ---- the first round

first_stands : (start : start_type.Start) (calls : List Bool) → IsSound start → Stand (first_round start calls)
unfolding first_state
first_stands start calls sound = record {
  fine = record { sound = boot_is_sound start sound; rests = λ e. absurd (true≢false (sym e)) };
  leased = length-replicate (cpu_count (boot start).machine) no_lease;
  answered = length-replicate (pass_count (boot start).machine) None;
  leases = λ i. inl (ap (λ (x : Lease). x.ran) (get_or_equal {X = Lease} (cpu_count (boot start).machine) i no_lease));
}

pub rounds_return : (start : start_type.Start) (calls : List Bool) → IsSound start → (n : ℕ) × ((rounds_from (first_round start calls) n).state.closed ≡ true)
rounds_return start calls sound =
    let r = first_round start calls in
    many_later (λ t h l. late_returns (before_last t.state) t h l (omega arith)) (to_come r.state) r (first_stands start calls sound) (omega arith)

-- ---- they are legal

no_moves : (r : Rounds) → Stand r → Moves r r
no_moves r h = record { entries = []; state = refl; history = sym (append-nil r.history); good = tt; stand = h }

rounds_move : (r : Rounds) (n : ℕ) → Stand r → Moves r (rounds_from r n)
rounds_move r zero h = no_moves r h
rounds_move r (suc n) h = let a = rounds_move r n h in then_moves r (rounds_from r n) (rounds_from r (suc n)) a (round_moves (rounds_from r n) a.stand)

pub rounds_legal : (start : start_type.Start) (calls : List Bool) (n : ℕ) → IsSound start
    → IsLegal start (rounds_from (first_round start calls) n).history × ((rounds_from (first_round start calls) n).state ≡ last_state start (rounds_from (first_round start calls) n).history)
rounds_legal start calls n sound =
    let m = rounds_move (first_round start calls) n (first_stands start calls sound) in
    (ap (λ (xs : List Signed). is_lawful_all (boot start) xs) m.history ∙ good_lawful (boot start) m.entries m.good, m.state ∙ ap (λ (xs : List Signed). after_all (boot start) xs) (sym m.history))

pub rounds_orderly : (start : start_type.Start) (calls : List Bool) (n : ℕ) → IsSound start → IsOrderly start (rounds_from (first_round start calls) n).history
rounds_orderly start calls n sound =
    let m = rounds_move (first_round start calls) n (first_stands start calls sound) in
    subst (λ (xs : List Signed). IsOrderly start xs) (sym m.history) (good_orderly (boot start) m.entries m.good)
