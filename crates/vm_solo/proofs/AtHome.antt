-- A closed run has every image at home.
use Rattle.std.specs.Prelude.{Option, Some, None, is_none, slice_index_or}
use Rattle.std.specs.List.{list_all}
use Rattle.std.proofs.Common.{◌≡◌, ℕ, zero, suc, ◌<◌, true, List, [], ◌∷◌, length, refl, sym, ap, subst, ◌∙◌}
use Rattle.std.proofs.lemmas.Bool.{and_parts, true≢false}
use Rattle.vm_law.specs.declared.journal.Signed.{Signed}
use Rattle.vm_host.specs.Views.{ImageView}
use Rattle.vm_state.specs.declared.image.DiskImage.{DiskImage}
use Rattle.vm_state.specs.declared.image.Holder.{Holder}
use Rattle.vm_state.specs.declared.start.Start.{Start}
use Rattle.vm_state.specs.State.{State, image_at, no_image}
use Rattle.vm_table.specs.History.{last_state}
use Rattle.vm_board.specs.Board.{IsBoard}
use Rattle.vm_board.specs.Homes.{IsAtHome, IsHomeOrOut}
use Rattle.vm_board.specs.View.{BoardView}
use Rattle.vm_blkwork.proofs.Shut.{last_rests}
use Rattle.vm_solo.specs.Home.{AreAllHome, IsHome}

none_is : (o : Option Holder) → is_none o ≡ true → o ≡ None
none_is None h = refl
none_is (Some x) h = absurd (true≢false (sym h))

no_holder : no_image.holder ≡ None
unfolding no_image
no_holder = refl

home_at : (images : List DiskImage) (d : ℕ) → list_all (λ (x : DiskImage). is_none x.holder) images ≡ true → (slice_index_or images d no_image).holder ≡ None
home_at [] d h = no_holder
home_at (x ∷ xs) zero h = none_is x.holder (and_parts _ _ h).0
home_at (x ∷ xs) (suc d) h = home_at xs d (and_parts (is_none x.holder) _ h).1

module _ {I : Type 0} (seen : I → ImageView) where
  here : (start : Start) (journal : List Signed) (d : ℕ) (h : Option Holder) (o : Option I) → h ≡ None → IsHomeOrOut seen start journal d h o → IsHome seen start journal d o
  here start journal d h o e x = at_none o (subst (λ (k : Option Holder). IsHomeOrOut seen start journal d k o) e x) where
    at_none : (o : Option I) → IsHomeOrOut seen start journal d None o → IsHome seen start journal d o
    at_none None x = x
    at_none (Some image) x = x

  pub all_home : (b : BoardView I) → IsBoard seen b → b.state.closed ≡ true → AreAllHome seen b.start b.journal b.images
  all_home b h c =
      let last = last_state b.start b.journal in
      let rests = last_rests b.start b.journal h.legal (ap (λ (s : State). s.closed) (sym h.last) ∙ c) in
      record {
        count = h.homes.count;
        each = λ d l. here b.start b.journal d (image_at last d).holder (slice_index_or b.images d None) (home_at last.images d rests) (h.homes.each d l);
      }

  there : (start : Start) (journal : List Signed) (d : ℕ) (o : Option I) → IsHome seen start journal d o → (image : I) × (o ≡ Some image) × IsAtHome start journal d (seen image)
  there start journal d None h = absurd h
  there start journal d (Some x) h = (x, refl, h)

  pub closed_home : (b : BoardView I) → IsBoard seen b → b.state.closed ≡ true → (d : ℕ) → d < length b.images → (image : I) × (slice_index_or b.images d None ≡ Some image) × IsAtHome b.start b.journal d (seen image)
  closed_home b h c d l = there b.start b.journal d (slice_index_or b.images d None) ((all_home b h c).each d l)
