-- Rounds from a crew's start on: those of one thread while nothing has failed, and then the end.
use Rattle.std.specs.Prelude.{Option, Some, None, is_some}
use Rattle.std.proofs.Common.{◌≡◌, suc, Bool, true, false, List, [], ◌++◌, append_assoc, refl, sym, ap, subst, ◌∙◌}
use Rattle.std.proofs.lemmas.Bool.{true≢false}
use Rattle.std.proofs.lemmas.List.{append-nil}
use Rattle.vm_law.specs.declared.journal.Signed.{Signed}
use Rattle.vm_host.specs.Views.{ImageView, SinkView}
use Rattle.vm_state.specs.declared.run_state.Why.{Why}
use Rattle.vm_state.specs.declared.start.Start.{Start}
use Rattle.vm_state.specs.Start.{first_state}
use Rattle.vm_state.specs.State.{State}
use Rattle.vm_table.specs.Rounds.{IsSolo, Rounds, after_round, first_round, rounds_from}
use Rattle.vm_control.specs.declared.control.OutFault.{OutFault}
use Rattle.vm_solo.specs.Ending.{IsCutShort, or_outside}
use Rattle.vm_solo.specs.Fits.{IsCrew}
use Rattle.vm_solo.specs.Played.{HasPlayed, IsWritten, PlayedAlone, PlayedTo, WentOn}
use Rattle.vm_solo.specs.Playing.{KeepsFirst}
use Rattle.vm_solo.specs.Rounds.{IsNew, PlaysRound, round_of_crew, rounds_of}
use Rattle.vm_solo.specs.View.{CrewView}
use Rattle.vm_solo.proofs.Ended.{Shut, legal_shut}
use Rattle.vm_solo.proofs.Ends.{round_ends}
use Rattle.vm_solo.proofs.Inside.{Inside, round_inside}
use Rattle.vm_solo.proofs.Measures.{open_round}
use Rattle.vm_solo.proofs.Standing.{crew_stands}

once_more : (o : Option Why) → is_some o ≡ true → Some (or_outside o) ≡ o
once_more None h = absurd (true≢false (sym h))
once_more (Some w) h = refl

module _ {I : Type 0} where
  -- ---- at the start

  new_alone : (c : CrewView I) → IsNew c → PlayedAlone c
  unfolding first_state
  new_alone c n =
      let first = n.first [] in
      let open_now : c.board.state.closed ≡ false = ap (λ (r : Rounds). r.state.closed) first in
      let going : c.board.state.ended ≡ None = ap (λ (r : Rounds). r.state.ended) first in
      record {
        calls = [];
        rounds = 0;
        plays = λ more. n.first more;
        inside = λ e. absurd (let f = sym going ∙ e in cc);
        written = λ e. absurd (true≢false (sym e ∙ open_now));
      }

  pub new_played : (c : CrewView I) → IsNew c → HasPlayed c
  new_played c n = record { stands = subst (λ (o : Option OutFault). PlayedTo c o) (sym n.fault) (new_alone c n); fed = n.fed }

  -- ---- once it is closed

  pub played_solo : (c : CrewView I) → HasPlayed c → c.fault ≡ None → c.board.state.closed ≡ true → (calls : List Bool) × IsSolo c.board.start calls c.board.journal
  played_solo c x none closed =
      let a : PlayedAlone c = subst (λ (o : Option OutFault). PlayedTo c o) none x.stands in
      let e = a.plays [] in (
        a.calls ++ [],
        record {
          rounds = a.rounds;
          made = ap (λ (r : Rounds). r.history) e;
          closed = sym (ap (λ (r : Rounds). r.state.closed) e) ∙ closed;
        },
      )

  pub played_inside : (c : CrewView I) → HasPlayed c → c.fault ≡ None → Inside c.board.state
  played_inside c x none = (let a : PlayedAlone c = subst (λ (o : Option OutFault). PlayedTo c o) none x.stands in a.inside)

  pub played_written : (c : CrewView I) → HasPlayed c → c.fault ≡ None → IsWritten c
  played_written c x none = (let a : PlayedAlone c = subst (λ (o : Option OutFault). PlayedTo c o) none x.stands in a.written)

  -- ---- a round

  more_rounds : (old new : CrewView I) (p : PlaysRound old new) (x : PlayedAlone old) → old.control.failed ≡ false → new.board.start ≡ old.board.start → (more : List Bool)
      → rounds_of new more ≡ rounds_from (first_round new.board.start ((x.calls ++ p.made) ++ more)) (suc x.rounds)
  more_rounds old new p x f s more =
      let r = rounds_of old (p.made ++ more) in
      p.plays more ∙ ap (λ (b : Bool). round_of_crew b r) f ∙ open_round r ∙ ap (λ (t : Rounds). after_round t) (x.plays (p.made ++ more))
      ∙ ap (λ (cs : List Bool). rounds_from (first_round old.board.start cs) (suc x.rounds)) (sym (append_assoc x.calls p.made more))
      ∙ ap (λ (t : Start). rounds_from (first_round t ((x.calls ++ p.made) ++ more)) (suc x.rounds)) (sym s)

  first_cut : (old new : CrewView I) → old.control.failed ≡ false → new.board.start ≡ old.board.start → PlaysRound old new → PlayedAlone old → IsCutShort new.board.start new.board.journal (Some (or_outside new.board.state.ended))
  first_cut old new f s p x =
      let e = more_rounds old new p x f s [] in
      record {
        calls = (x.calls ++ p.made) ++ [];
        before = x.rounds;
        rest = [];
        made = ap (λ (t : Rounds). t.history) e ∙ sym (append-nil _);
        ended = ap (λ (t : Rounds). Some (or_outside t.state.ended)) e;
      }

module _ {I : Type 0} (seen : I → ImageView) where
  pub crew_shut : (c : CrewView I) → IsCrew seen c → Shut c.board.state
  crew_shut c h = subst (λ (s : State). Shut s) (sym h.board.last) (legal_shut c.board.start c.board.journal h.board.legal)

  -- a round after a failure ends the run
  pub failed_ends : (old new : CrewView I) → IsCrew seen old → old.control.failed ≡ true → PlaysRound old new → new.board.state.ended ≡ Some (or_outside old.board.state.ended)
  failed_ends old new h f p =
      let r = rounds_of old (p.made ++ []) in
      ap (λ (t : Rounds). t.state.ended) (p.plays [] ∙ ap (λ (b : Bool). round_of_crew b r) f) ∙ round_ends r (crew_shut old h)

  next_alone : (old new : CrewView I) → IsCrew seen old → old.control.failed ≡ false → new.board.start ≡ old.board.start → PlaysRound old new → IsWritten new → PlayedAlone old → PlayedAlone new
  next_alone old new h f s p w x =
      let r = rounds_of old (p.made ++ []) in
      let state : new.board.state ≡ (after_round r).state = ap (λ (t : Rounds). t.state) (p.plays [] ∙ ap (λ (b : Bool). round_of_crew b r) f ∙ open_round r) in
      record {
        calls = x.calls ++ p.made;
        rounds = suc x.rounds;
        plays = λ more. more_rounds old new p x f s more;
        inside = subst (λ (t : State). Inside t) (sym state) (round_inside r (crew_stands seen old (p.made ++ []) h) x.inside);
        written = w;
      }

  next_cut : (old new : CrewView I) (before now : SinkView) → IsCrew seen old → old.control.failed ≡ true → WentOn old new before now → PlaysRound old new
      → IsCutShort old.board.start old.board.journal (Some (or_outside old.board.state.ended)) → IsCutShort new.board.start new.board.journal (Some (or_outside new.board.state.ended))
  next_cut old new before now h f w p x =
      subst (λ (t : Start). IsCutShort t new.board.journal (Some (or_outside new.board.state.ended))) (sym w.continues.start) (record {
        calls = x.calls;
        before = x.before;
        rest = x.rest ++ w.continues.entries;
        made = w.continues.journal ∙ ap (λ (j : List Signed). j ++ w.continues.entries) x.made ∙ append_assoc _ x.rest w.continues.entries;
        ended = ap (λ (o : Option Why). Some (or_outside o)) (failed_ends old new h f p) ∙ x.ended;
      })

  next_by : (old new : CrewView I) (before now : SinkView) (f g : Option OutFault) → old.control.failed ≡ is_some f → KeepsFirst f g → IsCrew seen old → WentOn old new before now → PlaysRound old new → (g ≡ None → IsWritten new) → PlayedTo old f → PlayedTo new g
  next_by old new before now None None failed k h w p written x = next_alone old new h failed w.continues.start p (written refl) x
  next_by old new before now None (Some e) failed k h w p written x = first_cut old new failed w.continues.start p x
  next_by old new before now (Some d) None failed k h w p written x = absurd (cc)
  next_by old new before now (Some d) (Some e) failed k h w p written x = next_cut old new before now h failed w p x

  pub next_played : (old new : CrewView I) (before now : SinkView) → IsCrew seen old → WentOn old new before now → PlaysRound old new → (new.board.state.closed ≡ true → new.fault ≡ None → new.control.wrote ≡ new.board.state.console) → new.board.starved ≡ old.board.starved → HasPlayed old → HasPlayed new
  next_played old new before now h w p written fed x = record {
    stands = next_by old new before now old.fault new.fault h.fault w.keeps h w p (λ none closed. written closed none) x.stands;
    fed = fed ∙ x.fed;
  }

  pub played_cut : (c : CrewView I) (e : OutFault) → IsCrew seen c → HasPlayed c → c.fault ≡ Some e → c.board.state.closed ≡ true → IsCutShort c.board.start c.board.journal c.board.state.ended
  played_cut c e h x some closed =
      let a : IsCutShort c.board.start c.board.journal (Some (or_outside c.board.state.ended)) = subst (λ (o : Option OutFault). PlayedTo c o) some x.stands in
      subst (λ (o : Option Why). IsCutShort c.board.start c.board.journal o) (once_more c.board.state.ended (crew_shut c h closed)) a
