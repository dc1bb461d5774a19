-- What an accepted request keeps.
use Rattle.std.specs.Prelude.{if◌then◌else◌, ◌==◌, nat_lt, ◌%◌, ◌||◌}
use Rattle.std.specs.List.{list_all, sum_by}
use Rattle.std.proofs.Common.{◌≡◌, ℕ, ◌+◌, ◌≤◌, Bool, true, false, not, ◌&&◌, List, [], ◌∷◌, map, refl, sym, ap, ◌∙◌, arith}
use Rattle.std.proofs.lemmas.Bool.{and_parts, ltb-false, eqb-false}
use Rattle.std.proofs.lemmas.Bool.Decides.{nat_tests}
use Rattle.std.proofs.lemmas.List.Sums.{sum_by-cons}
use Rattle.vm_law.specs.declared.block.Descriptor.{Descriptor}
use Rattle.vm_law.specs.declared.block.Segment.{Segment}
use Rattle.vblk_req.specs.declared.ask.Ask.TheVariants as ask
use Rattle.vblk_req.specs.Request.{len_of, is_whole, goes, sectors_of, segment_of, is_request, is_refused, transfer, transfer_of, flush, asked, type_of, sector_of, status_of, data_of, IsSound, IfAccept}

whole_sum : (bs : List Descriptor) → list_all is_whole bs ≡ true → sum_by len_of bs % 512 ≡ 0
whole_sum [] h = refl
whole_sum (b ∷ bs) h =
    let parts = and_parts (is_whole b) (list_all is_whole bs) h in
    let later = whole_sum bs parts.1 in
    let first : b.len % 512 ≡ 0 = grind (arith, nat_tests) in
    rw sum_by-cons (omega (arith, later, first))

segments_sum : (bs : List Descriptor) → sum_by (λ (s : Segment). s.len) (map segment_of bs) ≡ sum_by len_of bs
segments_sum [] = refl
segments_sum (b ∷ bs) = sum_by-cons (λ (s : Segment). s.len) (segment_of b) (map segment_of bs) ∙ ap (λ n. b.len + n) (segments_sum bs) ∙ sym (sum_by-cons len_of b bs)

record Allowed (sector : ℕ) (bs : List Descriptor) (capacity : ℕ) : Type 0 where
  whole : list_all is_whole bs ≡ true
  few : sectors_of bs ≤ 8192
  inside : sector + sectors_of bs ≤ capacity

four : (a b c d e : Bool) → (not a || not b || c || d || e) ≡ false → (b ≡ true) × (c ≡ false) × (d ≡ false)
four true true false false false h = (refl, refl, refl)
four false b c d e h = absurd cc
four true false c d e h = absurd cc
four true true true d e h = absurd cc
four true true false true e h = absurd cc
four true true false false true h = absurd cc

allowed : (writes : Bool) (sector : ℕ) (bs : List Descriptor) (capacity : ℕ) (ro : Bool) → is_refused writes sector bs capacity ro ≡ false → Allowed sector bs capacity
unfolding is_refused
allowed writes sector bs capacity ro h =
    let parts = four (list_all (goes (not writes)) bs) (list_all is_whole bs) (nat_lt 8192 (sectors_of bs)) (nat_lt capacity (sector + sectors_of bs)) (writes && ro) h in
    record { whole = parts.0; few = ltb-false _ _ parts.1; inside = ltb-false _ _ parts.2 }

transfer_sound : (head status_at : ℕ) (writes : Bool) (sector : ℕ) (bs : List Descriptor) (capacity : ℕ) (ro : Bool) → IfAccept (transfer head status_at writes sector bs capacity ro) (IsSound capacity)
unfolding transfer
transfer_sound head status_at writes sector bs capacity ro =
    elim (is_refused writes sector bs capacity ro) as (λ (b : Bool). is_refused writes sector bs capacity ro ≡ b → IfAccept (if b then ask.Answer 1 status_at else if sectors_of bs == 0 then ask.Answer 0 status_at else ask.Accept (transfer_of head status_at writes sector bs)) (IsSound capacity)) [
      | true ↦ λ _. tt
      | false ↦ λ e. elim (sectors_of bs == 0) as (λ (b : Bool). (sectors_of bs == 0) ≡ b → IfAccept (if b then ask.Answer 0 status_at else ask.Accept (transfer_of head status_at writes sector bs)) (IsSound capacity)) [
        | true ↦ λ _. tt
        | false ↦ λ none.
            let a = allowed writes sector bs capacity ro e in
            let rest = whole_sum bs a.whole in
            let apart = eqb-false _ _ none in
            record {
              some = omega arith;
              few = a.few;
              inside = λ _. a.inside;
              filled = λ _. segments_sum bs ∙ omega (arith, rest);
            }
      ] refl
    ] refl

flush_sound : (head status_at capacity : ℕ) → IsSound capacity (flush head status_at)
flush_sound head status_at capacity = record { some = omega arith; few = omega arith; inside = λ h. absurd (h refl); filled = λ h. absurd (h refl) }

pub asked_sound : (head : ℕ) (ds : List Descriptor) (header : List ℕ) (capacity : ℕ) (ro : Bool) → IfAccept (asked head ds header capacity ro) (IsSound capacity)
unfolding asked
asked_sound head ds header capacity ro =
    elim (is_request ds) as (λ (b : Bool). IfAccept (if not b then ask.Bad
    else if type_of header == 0 then transfer head (status_of ds).addr false (sector_of header) (data_of ds) capacity ro
    else if type_of header == 1 then transfer head (status_of ds).addr true (sector_of header) (data_of ds) capacity ro
    else if type_of header == 4 then ask.Accept (flush head (status_of ds).addr)
    else ask.Answer 2 (status_of ds).addr) (IsSound capacity)) [
      | false ↦ tt
      | true ↦ elim (type_of header == 0) as (λ (b : Bool). IfAccept (if b then transfer head (status_of ds).addr false (sector_of header) (data_of ds) capacity ro
          else if type_of header == 1 then transfer head (status_of ds).addr true (sector_of header) (data_of ds) capacity ro
          else if type_of header == 4 then ask.Accept (flush head (status_of ds).addr)
          else ask.Answer 2 (status_of ds).addr) (IsSound capacity)) [
            | true ↦ transfer_sound head (status_of ds).addr false (sector_of header) (data_of ds) capacity ro
            | false ↦ elim (type_of header == 1) as (λ (b : Bool). IfAccept (if b then transfer head (status_of ds).addr true (sector_of header) (data_of ds) capacity ro
                else if type_of header == 4 then ask.Accept (flush head (status_of ds).addr)
                else ask.Answer 2 (status_of ds).addr) (IsSound capacity)) [
                  | true ↦ transfer_sound head (status_of ds).addr true (sector_of header) (data_of ds) capacity ro
                  | false ↦ elim (type_of header == 4) as (λ (b : Bool). IfAccept (if b then ask.Accept (flush head (status_of ds).addr) else ask.Answer 2 (status_of ds).addr) (IsSound capacity)) [
                    | true ↦ flush_sound head (status_of ds).addr capacity
                    | false ↦ tt
                  ]
                ]
          ]
    ]
