-- What each call keeps of a board.
use Rattle.std.proofs.Common.{◌≡◌, ℕ, ◌<◌, Bool, true, false, List, [], ◌∷◌, ◌++◌, length, map, refl, sym, ap, subst, ◌∙◌, Some, None}
use Rattle.std.specs.Prelude.{slice_set}
use Rattle.vm_law.specs.declared.journal.Entry.TheVariants.{Hold, Put}
use Rattle.vm_law.specs.declared.journal.Signed.{Signed}
use Rattle.vm_host.specs.Views.{ImageView}
use Rattle.vm_state.specs.State.{State}
use Rattle.vm_state.specs.Start.{IsSound, boot}
use Rattle.vm_table.specs.History.{last_state}
use Rattle.vm_table.specs.Table.{lawful, after}
use Rattle.vm_table.specs.Turns.{IsOrderlyEntry}
use Rattle.vm_board.specs.Board.{IsBoard}
use Rattle.vm_board.specs.Calls.{MayAdd, moves_image}
use Rattle.vm_board.specs.Homes.{AreHomes}
use Rattle.vm_board.specs.View.{BoardView}
use Rattle.vm_board.proofs.Histories.{after_more, lawful_more, orderly_more}
use Rattle.vm_state.specs.Sound.{IsSoundState}
use Rattle.vm_board.proofs.Home.{boot_homes, GoesOut, goes_out, hold_within, homes_hold, homes_put, homes_stay, put_within}
use Rattle.vm_board.specs.Homes.{AreFresh, IsAtHome}

module _ {I : Type 0} (seen : I → ImageView) where
  -- one entry more
  pub longer : (b n : BoardView I) (x : Signed) → IsBoard seen b → MayAdd b.state x → n.start ≡ b.start → n.state ≡ after b.state x → n.journal ≡ b.journal ++ x ∷ []
      → AreHomes seen b.start (b.journal ++ x ∷ []) n.images → IsBoard seen n
  longer b n x h m s t j homes =
      let l : lawful (last_state b.start b.journal) x.by x.entry ≡ true = subst (λ (u : State). lawful u x.by x.entry ≡ true) h.last m.lawful in
      let o : IsOrderlyEntry (last_state b.start b.journal) x = subst (λ (u : State). IsOrderlyEntry u x) h.last m.orderly in record {
        sound = rw s h.sound;
        legal = rw (s, j) (lawful_more (boot b.start) b.journal x h.legal l);
        orderly = rw (s, j) (orderly_more (boot b.start) b.journal x h.orderly o);
        last = rw (s, j) (t ∙ ap (λ (u : State). after u x) h.last ∙ sym (after_more (boot b.start) b.journal x));
        homes = rw (s, j) homes;
      }

  -- it moves no image
  pub longer_at_home : (b n : BoardView I) (x : Signed) → IsBoard seen b → MayAdd b.state x → moves_image x.entry ≡ false → n.start ≡ b.start → n.state ≡ after b.state x → n.journal ≡ b.journal ++ x ∷ []
      → n.images ≡ b.images → IsBoard seen n
  longer_at_home b n x h m e s t j i = longer b n x h m s t j (rw i (homes_stay seen b.start b.journal x b.images e h.homes))

  -- ---- an image goes out

  last_within : (b : BoardView I) (d : ℕ) → IsBoard seen b → d < length b.state.images → d < length (last_state b.start b.journal).images
  last_within b d h l = subst (λ (u : State). d < length u.images) h.last l

  pub hold_there : (b : BoardView I) (q d id : ℕ) → IsBoard seen b → IsSoundState b.state → lawful b.state q (Hold d id) ≡ true → d < length b.images
  hold_there b q d id h s m = subst (λ n. d < n) (sym h.homes.count) (last_within b d h (hold_within b.state q d id s m))

  pub out : (b : BoardView I) (q d id : ℕ) → IsBoard seen b → IsSoundState b.state → lawful b.state q (Hold d id) ≡ true → GoesOut seen b.start b.journal b.images (record { by = q; entry = Hold d id }) d
  out b q d id h s m = goes_out seen b.start b.journal b.images q d id (last_within b d h (hold_within b.state q d id s m)) (subst (λ (u : State). lawful u q (Hold d id) ≡ true) h.last m) h.homes

  pub longer_out : (b n : BoardView I) (q d id : ℕ) → IsBoard seen b → IsSoundState b.state → MayAdd b.state (record { by = q; entry = Hold d id }) → n.start ≡ b.start → n.state ≡ after b.state (record { by = q; entry = Hold d id })
      → n.journal ≡ b.journal ++ record { by = q; entry = Hold d id } ∷ [] → n.images ≡ slice_set b.images d None → IsBoard seen n
  longer_out b n q d id h s m e t j i =
      longer b n (record { by = q; entry = Hold d id }) h m e t j (rw i (homes_hold seen b.start b.journal b.images q d id (last_within b d h (hold_within b.state q d id s m.lawful)) h.homes))

  -- ---- it comes back

  pub put_there : (b : BoardView I) (q d id : ℕ) (ok : Bool) → IsBoard seen b → IsSoundState b.state → lawful b.state q (Put d id ok) ≡ true → d < length b.images
  put_there b q d id ok h s m = subst (λ n. d < n) (sym h.homes.count) (last_within b d h (put_within b.state q d id ok s m))

  pub longer_back : (b n : BoardView I) (q d id : ℕ) (ok : Bool) (image : I) → IsBoard seen b → IsSoundState b.state → MayAdd b.state (record { by = q; entry = Put d id ok })
      → IsAtHome b.start (b.journal ++ record { by = q; entry = Put d id ok } ∷ []) d (seen image) → n.start ≡ b.start → n.state ≡ after b.state (record { by = q; entry = Put d id ok })
      → n.journal ≡ b.journal ++ record { by = q; entry = Put d id ok } ∷ [] → n.images ≡ slice_set b.images d (Some image) → IsBoard seen n
  longer_back b n q d id ok image h s m home e t j i =
      longer b n (record { by = q; entry = Put d id ok }) h m e t j (rw i (homes_put seen b.start b.journal b.images q d id ok image (last_within b d h (put_within b.state q d id ok s m.lawful)) home h.homes))

  -- ---- at the start

  pub boot_board : (n : BoardView I) (images : List I) → IsSound n.start → AreFresh seen n.start.disks images → n.state ≡ boot n.start → n.journal ≡ [] → n.images ≡ map Some images → IsBoard seen n
  boot_board n images h f s j i = record {
    sound = h;
    legal = rw j refl;
    orderly = rw j tt;
    last = rw (s, j) refl;
    homes = rw (j, i) (boot_homes seen n.start images f);
  }
