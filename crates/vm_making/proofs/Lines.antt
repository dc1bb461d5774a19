-- What a console took, one text after another, where it refused some of the last.
use Rattle.std.proofs.Common.{◌≡◌, ℕ, ◌+◌, ◌<◌, inl, inr, List, [], ◌++◌, take, length, sym, ◌∙◌, ap, arith, append_assoc, length-append}
use Rattle.std.proofs.Math.Seq.{take-append-add}
use Rattle.std.proofs.lemmas.Bool.{cases_lt}
use Rattle.std.proofs.lemmas.List.{take-append-le, take_all}
use Rattle.vm_host.specs.Leaves.{Takes, TakesSome}
use Rattle.vm_host.specs.Told.{WhereTold}
use Rattle.vm_host.specs.Views.{SinkView}
use Rattle.vm_making.specs.Line.{TakesUpTo}

-- a first part of a piece that is followed by others and stands behind what was taken
part_of : (done piece rest : List ℕ) (k : ℕ) → k < length piece → take (length done + k) ((done ++ piece) ++ rest) ≡ done ++ take k piece
part_of done piece rest k less =
    ap (λ (l : List ℕ). take (length done + k) l) (append_assoc done piece rest)
    ∙ take-append-add done (piece ++ rest) k
    ∙ ap (λ (l : List ℕ). done ++ l) (take-append-le k piece rest (omega (arith, less)))

module _ (old mid new : SinkView) where
  -- the sink refused some of the piece
  pub up_to_more : (done piece rest : List ℕ) → Takes done old mid → new.tells ≡ mid.tells
      → WhereTold mid.tells ((k : ℕ) × (k < length piece) × (new.taken ≡ mid.taken ++ take k piece)) → TakesUpTo [] ((done ++ piece) ++ rest) old new
  up_to_more done piece rest before told after = record {
    told = told ∙ before.told;
    taken = λ is. let some = after (before.told ∙ is) in (
      length done + some.0,
      omega (arith, some.1, length-append (done ++ piece) rest, length-append done piece),
      some.2 ∙ ap (λ (l : List ℕ). l ++ take some.0 piece) (before.taken is) ∙ append_assoc old.taken done (take some.0 piece)
          ∙ ap (λ (l : List ℕ). old.taken ++ l) (sym (part_of done piece rest some.0 some.1)),
    );
  }

  -- the line follows what was sent
  pub up_to_after : (sent line : List ℕ) → Takes sent old mid → TakesUpTo [] line mid new → TakesUpTo sent line old new
  up_to_after sent line before after = record {
    told = after.told ∙ before.told;
    taken = λ is. let some = after.taken (before.told ∙ is) in (
      some.0,
      some.1,
      some.2 ∙ ap (λ (l : List ℕ). l ++ take some.0 line) (before.taken is) ∙ append_assoc old.taken sent (take some.0 line),
    );
  }

-- it is a first part of both
pub up_to_is_some : (old new : SinkView) (sent line : List ℕ) → TakesUpTo sent line old new → TakesSome (sent ++ line) old new
up_to_is_some old new sent line h = record {
  told = h.told;
  taken = λ is. let some = h.taken is in (
    length sent + some.0,
    some.2 ∙ ap (λ (l : List ℕ). old.taken ++ l) (sym (take-append-add sent line some.0)),
  );
}

-- a first part of the first text
part_longer : (x y : List ℕ) (k : ℕ) → (n : ℕ) × (take k x ≡ take n (x ++ y))
part_longer x y k =
    elim (cases_lt k (length x)) [
      | inl less ↦ (k, sym (take-append-le k x y (omega (arith, less))))
      | inr most ↦ (length x, take_all k x most ∙ sym (take-append-le (length x) x y (omega arith) ∙ take_all (length x) x (omega arith)))
    ]

pub some_longer : (old new : SinkView) (x y : List ℕ) → TakesSome x old new → TakesSome (x ++ y) old new
some_longer old new x y h = record {
  told = h.told;
  taken = λ is.
      let some = h.taken is in
      let longer = part_longer x y some.0 in
      (longer.0, some.1 ∙ ap (λ (l : List ℕ). old.taken ++ l) longer.1);
}
