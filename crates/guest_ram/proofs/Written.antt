-- A piece that is written into one page, or into two.
use Rattle.std.proofs.Common.{◌≡◌, ℕ, ◌+◌, ◌*◌, ◌/◌, ◌%◌, ◌≤◌, ◌<◌, Bool, true, List, ◌++◌, Some, None, length, get_or, set, ap, sym, ◌∙◌, subst, length-append, arith}
use Rattle.std.specs.Prelude.{is_some, map}
use Rattle.std.proofs.Math.Seq.{map-set_same}
use Rattle.std.proofs.lemmas.List.{length-set, length-map, map-set, get_or-set_same}
use Rattle.guest_ram.specs.GuestRam.{Stand}
use Rattle.guest_ram.specs.Pages.{page_of, bytes_of, standing_of, ArePages, IsWritten, written_in, written_to, standing_at}
use Rattle.guest_ram.proofs.Lists.{put, put_twice}
use Rattle.guest_ram.proofs.Pages.{Place, write_one, stand_one, written_to_pages, standing_pages}
use Rattle.guest_ram.proofs.Standing.{stand_in, stand_more}

-- in one page, which is made to stand before
pub written_one : (places : List Place) (at : ℕ) (piece : List ℕ) → ArePages places → ((k : ℕ) → get_or piece k 0 < 256) → at < 4096 * length places
    → 0 < length piece → at % 4096 + length piece ≤ 4096
    → IsWritten places (written_to (standing_at places (at / 4096)) (at / 4096) (at % 4096) piece) at piece
written_one places at piece are bytes inside some fits =
    let i = at / 4096 in
    let o = at % 4096 in
    let lt : i < length places = omega arith in
    let there = standing_at places i in
    let count : length there ≡ length places = length-set places i (Some (page_of (get_or places i None))) in
    let there_are : ArePages there = standing_pages places i are in
    let page = written_in (page_of (get_or there i None)) o piece in
    let same : map is_some (set there i (Some page)) ≡ map is_some there =
    map-set_same is_some there i (Some page) None
    (ap (λ (p : Place). is_some p) (sym (get_or-set_same places i (Some (page_of (get_or places i None))) None lt))) in
    let stands : standing_of (written_to there i o piece) ≡ set (standing_of places) i true =
    same ∙ map-set is_some places i (Some (page_of (get_or places i None))) in
    let marks : Stand (standing_of places) (set (standing_of places) i true) at (length piece) =
    stand_in (standing_of places) at (length piece) (omega (arith, length-map places is_some)) some fits in
    record {
      bytes = write_one there at piece there_are (omega arith) fits ∙ ap (λ (zs : List ℕ). put zs at piece) (stand_one places i lt);
      pages = written_to_pages there i o piece there_are bytes fits;
      count = length-set there i (Some page) ∙ count;
      standing = subst (λ (s : List Bool). Stand (standing_of places) s at (length piece)) (sym stands) marks;
    }

-- one piece behind the other
pub written_two : (old mid new : List Place) (at b : ℕ) (head tail : List ℕ) → IsWritten old mid at head → IsWritten mid new b tail → b ≡ at + length head
    → b + length tail ≤ length (bytes_of old) → IsWritten old new at (head ++ tail)
written_two old mid new at b head tail first second next inside = record {
  bytes = second.bytes ∙ ap (λ (zs : List ℕ). put zs b tail) first.bytes ∙ put_twice (bytes_of old) head tail at b next inside;
  pages = second.pages;
  count = second.count ∙ first.count;
  standing = stand_more (standing_of old) (standing_of mid) (standing_of new) at (length head) b (length tail) (length (head ++ tail))
      first.standing second.standing next (length-append head tail);
}
