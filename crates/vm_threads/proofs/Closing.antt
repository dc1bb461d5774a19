-- What the board that comes back shows.
use Rattle.std.proofs.Common.{◌≡◌, ◌≢◌, ℕ, true, false, List, [], ◌∷◌, ◌++◌, length, take, append-nil, append_assoc, Option, Some, None, refl, sym, ap, subst, ◌∙◌}
use Rattle.std.specs.Prelude.{not}
use Rattle.std.proofs.lemmas.Bool.{and_parts, true≢false}
use Rattle.std.proofs.Math.Seq.{take-append_seam}
use Rattle.std.proofs.lemmas.Option.{same_Some}
use Rattle.vm_law.specs.declared.journal.Signed.{Signed}
use Rattle.vm_host.specs.Leaves.{Takes, TakesSome}
use Rattle.vm_host.specs.Views.{ImageView, SinkView}
use Rattle.vm_turn.specs.History.{signed_by}
use Rattle.vm_state.specs.declared.run_state.Why.{Why}
use Rattle.vm_state.specs.declared.run_state.Why.TheVariants as why
use Rattle.vm_state.specs.declared.start.Start.{Start}
use Rattle.vm_state.specs.Start.{boot, first_state}
use Rattle.vm_state.specs.State.{State}
use Rattle.vm_table.specs.History.{IsLegal, is_lawful_all, last_state}
use Rattle.vm_table.specs.Table.{after, allowed, lawful}
use Rattle.vm_board.specs.View.{BoardView}
use Rattle.vm_board.proofs.Going.{lawful_parts}
use Rattle.vm_control.specs.Fits.{ControlFits}
use Rattle.vm_control.specs.View.{new_control}
use Rattle.vm_solo.specs.Playing.{Writes}
use Rattle.vm_threads.specs.Chair.{ChairView, HasClosed, ends_outside}
use Rattle.vm_threads.specs.Crew.{IsBack}
use Rattle.vm_threads.proofs.Chairs.{fits_later}
use Rattle.vm_threads.proofs.Whys.{is_fault, never_so}

-- at its start the run hasn't ended
at_boot : (start : Start) → is_fault (boot start).ended ≡ false
unfolding first_state
at_boot start = refl

-- nothing follows a history that closed the run
not_closed : (s : State) (x : Signed) → lawful s x.by x.entry ≡ true → s.closed ≡ true → ⊥
unfolding lawful
not_closed s x m c = true≢false (sym (and_parts (not s.closed) (allowed s x.by x.entry) m).0 ∙ ap not c)

none_follows : (s : State) (xs : List Signed) → s.closed ≡ true → is_lawful_all s xs ≡ true → xs ≡ []
none_follows s [] c m = refl
none_follows s (x ∷ xs) c m = absurd (not_closed s x (and_parts (lawful s x.by x.entry) (is_lawful_all (after s x) xs) m).0 c)

module _ {I : Type 0} (seen : I → ImageView) where
  start_of : (c : ChairView) (b : BoardView I) → IsBack seen c b → (start : Start) → c.pass.view.root ≡ Some start → start ≡ b.start
  start_of c b k start r = same_Some start b.start (sym r ∙ k.found.root_is)

  pub record IsShut (c : ChairView) (b : BoardView I) : Type 0 where
    pub closed : b.state.closed ≡ true
    pub wrote : c.fault ≡ None → c.control.wrote ≡ b.state.console

  pub shut : (c : ChairView) (b : BoardView I) → IsBack seen c b → HasClosed c → IsShut c b
  shut c b k h =
      let e = start_of c b k h.start h.root in
      let here : (last_state b.start h.whole).closed ≡ true = subst (λ (s : Start). (last_state s h.whole).closed ≡ true) e h.closed in
      let all : b.journal ≡ h.whole ++ (h.rest ++ k.found.later.0) = k.found.later.1 ∙ ap (λ (l : List Signed). l ++ k.found.later.0) h.seen ∙ append_assoc h.whole h.rest k.found.later.0 in
      let legal = lawful_parts (boot b.start) h.whole (h.rest ++ k.found.later.0) (subst (λ (l : List Signed). IsLegal b.start l) all k.board.legal) in
      let none = none_follows (last_state b.start h.whole) (h.rest ++ k.found.later.0) here legal.1 in
      let same : b.journal ≡ h.whole = all ∙ ap (λ (l : List Signed). h.whole ++ l) none ∙ append-nil h.whole in
      let state : b.state ≡ last_state b.start h.whole = k.board.last ∙ ap (λ (l : List Signed). last_state b.start l) same in
      record {
        closed = ap (λ (s : State). s.closed) state ∙ here;
        wrote = λ f. h.wrote f ∙ ap (λ (s : Start). (last_state s h.whole).console) e ∙ ap (λ (s : State). s.console) (sym state);
      }

  -- control fits the board
  fits_back : (c : ChairView) (b : BoardView I) → IsBack seen c b → ControlFits b.state c.control
  fits_back c b k =
      let h = k.chair in
      let e = start_of c b k h.start h.root in
      let here : ControlFits (last_state b.start c.pass.view.seen) c.control = subst (λ (s : Start). ControlFits (last_state s c.pass.view.seen) c.control) e h.fits in
      subst (λ (s : State). ControlFits s c.control) (sym (k.board.last ∙ ap (λ (l : List Signed). last_state b.start l) k.found.later.1)) (fits_later b.start c.pass.view.seen k.found.later.0 c.control here)

  -- the run didn't end by a failure outside
  pub no_outside : (c : ChairView) (b : BoardView I) → IsBack seen c b → c.fault ≡ None → b.state.ended ≢ Some why.Outside
  no_outside c b k f e =
      let own : signed_by 0 b.journal ≡ c.pass.view.own = ap (λ (n : ℕ). signed_by n b.journal) (sym k.chair.number) ∙ k.found.own_is in
      let none : ends_outside (signed_by 0 b.journal) ≡ false = ap (λ (l : List Signed). ends_outside l) own ∙ k.chair.no_end f in
      let so : is_fault (last_state b.start b.journal).ended ≡ true = ap (λ (s : State). is_fault s.ended) (sym k.board.last) ∙ ap (λ (o : Option Why). is_fault o) e in
      true≢false (sym (never_so (boot b.start) b.journal k.board.legal none so) ∙ at_boot b.start)

  -- what was written is a first part of what the console received
  pub part_taken : (c : ChairView) (b : BoardView I) (u v : SinkView) → IsBack seen c b → Writes new_control c.control u v → TakesSome b.state.console u v
  part_taken c b u v k w =
      let f = fits_back c b k in
      let front : b.state.console ≡ w.bytes ++ (c.control.held ++ f.rest) =
      f.console ∙ append_assoc c.control.wrote c.control.held f.rest ∙ ap (λ (l : List ℕ). l ++ (c.control.held ++ f.rest)) w.wrote in
      record { told = w.takes.told; taken = λ told. (length w.bytes, w.takes.taken told ∙ ap (λ (l : List ℕ). u.taken ++ l) (sym (ap (λ (l : List ℕ). take (length w.bytes) l) front ∙ take-append_seam w.bytes (c.control.held ++ f.rest)))) }

  pub all_taken : (c : ChairView) (b : BoardView I) (u v : SinkView) → IsShut c b → c.fault ≡ None → Writes new_control c.control u v → Takes b.state.console u v
  all_taken c b u v s f w = subst (λ (l : List ℕ). Takes l u v) (sym w.wrote ∙ s.wrote f) w.takes
