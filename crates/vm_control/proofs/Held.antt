-- The bytes that control holds.
use Rattle.std.proofs.Common.{◌≡◌, ℕ, ◌+◌, ◌≤◌, Bool, true, List, [], ◌∷◌, ◌++◌, append_assoc, drop, length, take, refl, sym, ◌∙◌, ap, arith, Some, None}
use Rattle.std.proofs.Math.Seq.{take-add}
use Rattle.std.proofs.lemmas.Bool.{true≢false}
use Rattle.std.proofs.lemmas.List.{drop_at, take-append-drop, drop-drop, length-append}
use Rattle.vm_host.specs.Leaves.{Takes}
use Rattle.vm_host.specs.Views.{SinkView}
use Rattle.vm_state.specs.State.{State}
use Rattle.vm_control.specs.Fits.{ControlFits}
use Rattle.vm_control.specs.Outside.{WritesHeld}
use Rattle.vm_control.specs.View.{ControlView}
use Rattle.vm_event.specs.Events.{Sources, is_enabled, is_there, with_enabled}

-- a source that is enabled is there, and enabled
pub enabled : (events : Sources) → is_there events 0 ≡ true → (is_there (with_enabled events 0 true) 0 ≡ true) × (is_enabled (with_enabled events 0 true) 0 ≡ true)
enabled [] h = absurd (true≢false (sym h))
enabled (None ∷ xs) h = absurd (true≢false (sym h))
enabled (Some x ∷ xs) h = (refl, refl)

-- what was taken over is a first part of the console, and the rest joins it
pub taken_over : (console items rest : List ℕ) (n : ℕ) → console ≡ take n items ++ drop n items ++ rest → length items ≤ length console × (items ++ drop (length items) console ≡ console)
taken_over console items rest n e =
    let all : console ≡ items ++ rest = e ∙ ap (λ (l : List ℕ). l ++ rest) (take-append-drop n items) in
    let size : length console ≡ length items + length rest = ap (λ (l : List ℕ). length l) all ∙ length-append items rest in
    (omega (arith, size), ap (λ (l : List ℕ). items ++ drop (length items) l) all ∙ ap (λ (l : List ℕ). items ++ l) (drop_at items rest (length items) refl) ∙ sym all)

-- the sink took the first n of the bytes that are held
pub writes_held : (old : ControlView) (items : List ℕ) (w n : ℕ) (f g : Bool) (before now : SinkView) → old ≡ record { wrote = take w items; held = drop w items; failed = f } → Takes (take n (drop w items)) before now
    → WritesHeld old (record { wrote = take (w + n) items; held = drop (w + n) items; failed = g }) before now
writes_held old items w n f g before now e t = rw e (record { count = n; takes = t; wrote = take-add w n items; held = sym (drop-drop n w items) })

-- control that fits a state fits it after its work outside
pub written_fits : (s : State) (old new : ControlView) (before now : SinkView) → WritesHeld old new before now → ControlFits s old → ControlFits s new
written_fits s old new before now h f = record {
  rest = f.rest;
  console =
      f.console
      ∙ ap (λ (xs : List ℕ). xs ++ f.rest) (
      ap (λ (xs : List ℕ). old.wrote ++ xs) (sym (take-append-drop h.count old.held)) ∙ sym (append_assoc old.wrote (take h.count old.held) (drop h.count old.held))
      ∙ ap (λ (xs : List ℕ). xs ++ drop h.count old.held) (sym h.wrote) ∙ ap (λ (xs : List ℕ). new.wrote ++ xs) (sym h.held)
      );
}
