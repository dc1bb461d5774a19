-- What a sink took, piece after piece.
use Rattle.std.proofs.Common.{◌≡◌, Result, Ok, Err, ℕ, zero, suc, ◌+◌, ◌-◌, ◌≤◌, List, [], ◌∷◌, get_or, drop, append_assoc, add-one, length-append, length-take, length-drop, ◌++◌, length, take, refl, sym, subst, ◌∙◌, ap, arith}
use Rattle.std.proofs.Math.Seq.{take-add, take-append_seam}
use Rattle.std.specs.Prelude.{OnErr}
use Rattle.std.proofs.lemmas.List.{append-nil, take_all, take-append-drop}
use Rattle.vm_host.specs.Leaves.{Takes, TakesSome}
use Rattle.vm_host.specs.Views.{SinkView}
use Rattle.vm_status.specs.Lines.{joined}

-- a piece more was taken of what is left behind place i
pub took_more : (taken bytes : List ℕ) (i n : ℕ) → i ≤ length bytes → (taken ++ take i bytes) ++ take n (take (length bytes - i) (drop i bytes)) ≡ taken ++ take (i + n) bytes
took_more taken bytes i n le =
    let all : take (length bytes - i) (drop i bytes) ≡ drop i bytes = take_all (length bytes - i) (drop i bytes) (omega (arith, length-drop i bytes)) in
    ap (λ (l : List ℕ). (taken ++ take i bytes) ++ take n l) all
    ∙ append_assoc taken (take i bytes) (take n (drop i bytes))
    ∙ ap (λ (l : List ℕ). taken ++ l) (sym (take-add i n bytes))

-- what holds anyhow holds after an error
pub on_any : {T E : Type 0} (r : Result T E) (P : Type 0) → P → OnErr r P
on_any (Ok x) P h = tt
on_any (Err e) P h = h

-- ---- pieces one after the other

pub joined_more : (ps : List (List ℕ)) (k : ℕ) → joined (take (suc k) ps) ≡ joined (take k ps) ++ get_or ps k []
joined_more [] zero = refl
joined_more [] (suc k) = refl
joined_more (p ∷ ps) zero = append-nil p
joined_more (p ∷ ps) (suc k) = ap (λ (l : List ℕ). p ++ l) (joined_more ps k) ∙ sym (append_assoc p (joined (take k ps)) (get_or ps k []))

-- what follows a piece
pub joined_split : (ps : List (List ℕ)) (k : ℕ) → joined ps ≡ (joined (take k ps) ++ get_or ps k []) ++ joined (drop (suc k) ps)
joined_split [] zero = refl
joined_split [] (suc k) = refl
joined_split (p ∷ ps) zero = refl
joined_split (p ∷ ps) (suc k) = ap (λ (l : List ℕ). p ++ l) (joined_split ps k) ∙ simp append_assoc

module _ (old mid new : SinkView) (done piece rest : List ℕ) (before : Takes done old mid) where
  -- a piece more
  pub takes_more : Takes piece mid new → Takes (done ++ piece) old new
  takes_more after = record {
    told = after.told ∙ before.told;
    taken = λ told. after.taken (before.told ∙ told) ∙ ap (λ (l : List ℕ). l ++ piece) (before.taken told) ∙ append_assoc old.taken done piece;
  }

  -- a first part of a piece
  pub takes_some_more : TakesSome piece mid new → TakesSome ((done ++ piece) ++ rest) old new
  takes_some_more after = record {
    told = after.told ∙ before.told;
    taken = λ told.
        let some = after.taken (before.told ∙ told) in
        let front = done ++ take some.0 piece in
        let behind = drop some.0 piece ++ rest in
        let whole : (done ++ piece) ++ rest ≡ front ++ behind =
        ap (λ (l : List ℕ). (done ++ l) ++ rest) (sym (take-append-drop some.0 piece)) ∙ simp append_assoc in (
          length front,
          some.1 ∙ ap (λ (l : List ℕ). l ++ take some.0 piece) (before.taken told) ∙ append_assoc old.taken done (take some.0 piece)
              ∙ ap (λ (l : List ℕ). old.taken ++ l) (sym (take-append_seam front behind) ∙ ap (λ (l : List ℕ). take (length front) l) (sym whole)),
        );
  }
