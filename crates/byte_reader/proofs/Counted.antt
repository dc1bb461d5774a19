-- The laws of readers of lists, and of readers that refuse a value.
use Rattle.std.proofs.Common.{◌≡◌, ℕ, zero, suc, ◌+◌, ◌^◌, ◌<◌, ◌≤◌, Bool, true, false, cond, ltb, List, [], ◌∷◌, ◌++◌, length, take, drop, Ok, refl, sym, ap, subst, ◌∙◌, append_assoc, arith}
use Rattle.std.specs.List.{flat_map, AllByRecursion}
use Rattle.std.proofs.lemmas.Bool.{ltb-false, le-ltb}
use Rattle.std.proofs.lemmas.List.{take_at, drop_at, take-append-drop, length-append, length-take, get_or-drop}
use Rattle.std.proofs.lemmas.List.Concat.{flat_map-cons}
use Rattle.byteorder.specs.Endian.{little_bytes}
use Rattle.byte_reader.specs.declared.reading.Refusal.{Refusal}
use Rattle.byte_reader.specs.Reader.{Reader, fault_at, ◌>>=◌, pure, number, guarded, some_bytes, times, counted}
use Rattle.vm_law.proofs.Numbers.{IsBytes}
use Rattle.byte_reader.proofs.Readers.{Takes, Takes-then, Reads, done_is, then_ok, number_reads}

module _ {K A : Type 0} (r : Reader (Refusal K) A) (text : A → List ℕ) (fits : A → Type 0) (law : Reads r text fits) where
  pub guarded_reads : (kind : K) (test : A → Bool) → Reads (guarded kind test r) text (λ x. fits x × (test x ≡ true))
  guarded_reads kind test = record {
    takes = λ bytes y rest fit e.
        let s = then_ok (r bytes) (λ x rest. cond (test x) (Ok (x, rest)) (fault_at kind bytes)) y rest e in
        let t = law.takes bytes s.0 s.1 fit s.2 in
        let p = passed kind test bytes s.0 y s.1 rest s.3 in
        (subst (λ (x : A). Takes bytes (text x) rest) p.1 (subst (λ (k : List ℕ). Takes bytes (text s.0) k) p.2 t.0), (subst fits p.1 t.1, subst (λ (x : A). test x ≡ true) p.1 p.0));
    again = λ y rest fit. let e = law.again y rest fit.0 in rw (e, fit.1) refl;
  }
    where
      passed : (kind : K) (test : A → Bool) (bytes : List ℕ) (x y : A) (mid rest : List ℕ) → cond (test x) (Ok (x, mid)) (fault_at kind bytes) ≡ Ok (y, rest) → (test x ≡ true) × (x ≡ y) × (mid ≡ rest)
      passed kind test bytes x y mid rest e = go (test x) e
        where
          go : (b : Bool) → cond b (Ok (x, mid)) (fault_at kind bytes) ≡ Ok (y, rest) → (b ≡ true) × (x ≡ y) × (mid ≡ rest)
          go true e = let d = done_is x y mid rest e in (refl, d.0, d.1)
          go false e = absurd cc

  times_take : (n : ℕ) (bytes : List ℕ) (ys : List A) (rest : List ℕ) → IsBytes bytes → times n r bytes ≡ Ok (ys, rest) → Takes bytes (flat_map text ys) rest × (length ys ≡ n) × AllByRecursion fits ys
  unfolding times
  times_take zero bytes ys rest fit e =
      let d = done_is [] ys bytes rest e in
      subst (λ (zs : List A). Takes bytes (flat_map text zs) rest × (length zs ≡ 0) × AllByRecursion fits zs) d.0 (record { parts = d.1; rest_fits = subst IsBytes d.1 fit }, refl, tt)
  times_take (suc n) bytes ys rest fit e =
      let s = then_ok (r bytes) (λ first. times n r >>= λ others. pure (first ∷ others)) ys rest e in
      let t = law.takes bytes s.0 s.1 fit s.2 in
      let u = then_ok (times n r s.1) (λ others. pure (s.0 ∷ others)) ys rest s.3 in
      let v = times_take n s.1 u.0 u.1 t.0.rest_fits u.2 in
      let d = done_is (s.0 ∷ u.0) ys u.1 rest u.3 in
      let both = Takes-then bytes (text s.0) s.1 (flat_map text u.0) u.1 t.0 v.0 in
      subst (λ (zs : List A). Takes bytes (flat_map text zs) rest × (length zs ≡ suc n) × AllByRecursion fits zs) d.0
      (subst (λ (k : List ℕ). Takes bytes (flat_map text (s.0 ∷ u.0)) k) d.1 (rw flat_map-cons both), ap suc v.1, (t.1, v.2))

  times_again : (ys : List A) (rest : List ℕ) → AllByRecursion fits ys → times (length ys) r (flat_map text ys ++ rest) ≡ Ok (ys, rest)
  unfolding times
  times_again [] rest h = refl
  times_again (y ∷ ys) rest h =
      let regrouped : flat_map text (y ∷ ys) ++ rest ≡ text y ++ (flat_map text ys ++ rest) = ap (λ (x : List ℕ). x ++ rest) (flat_map-cons text y ys) ∙ append_assoc (text y) (flat_map text ys) rest in
      ap (times (suc (length ys)) r) regrouped ∙ rw (law.again y (flat_map text ys ++ rest) h.0, times_again ys rest h.1) refl

  pub counted_reads : (short : K) (w : ℕ) → Reads (counted short w r) (λ ys. little_bytes w (length ys) ++ flat_map text ys) (λ ys. (length ys < 256 ^ w) × AllByRecursion fits ys)
  counted_reads short w = record {
    takes = λ bytes ys rest fit e.
        let s = then_ok (number short w bytes) (λ n. times n r) ys rest e in
        let t = (number_reads short w).takes bytes s.0 s.1 fit s.2 in
        let u = times_take s.0 s.1 ys rest t.0.rest_fits s.3 in
        (subst (λ (n : ℕ). Takes bytes (little_bytes w n ++ flat_map text ys) rest) (sym u.1) (Takes-then bytes (little_bytes w s.0) s.1 (flat_map text ys) rest t.0 u.0), (subst (λ (n : ℕ). n < 256 ^ w) (sym u.1) t.1, u.2));
    again = λ ys rest fit.
        let e = (number_reads short w).again (length ys) (flat_map text ys ++ rest) fit.0 in
        rw (append_assoc (little_bytes w (length ys)) (flat_map text ys) rest, e) (times_again ys rest fit.1);
  }

pub some_bytes_reads : {K : Type 0} (short : K) (n : ℕ) → Reads (some_bytes short n) (λ xs. xs) (λ xs. length xs ≡ n)
some_bytes_reads short n = record {
  takes = λ bytes y rest fit e. taken short n bytes y rest fit e;
  again = λ y rest len.
      let long : ltb (length (y ++ rest)) n ≡ false = le-ltb _ _ (omega (arith, length-append y rest)) in
      rw (long, take_at y rest n len, drop_at y rest n len) refl;
}
  where
    taken : {K : Type 0} (short : K) (n : ℕ) (bytes y rest : List ℕ) → IsBytes bytes → some_bytes short n bytes ≡ Ok (y, rest) → Takes bytes y rest × (length y ≡ n)
    taken short n bytes y rest fit e = go (ltb (length bytes) n) refl e
      where
        go : (b : Bool) → ltb (length bytes) n ≡ b → cond b (fault_at short bytes) (Ok (take n bytes, drop n bytes)) ≡ Ok (y, rest) → Takes bytes y rest × (length y ≡ n)
        go true is e = absurd cc
        go false is e =
            let d = done_is (take n bytes) y (drop n bytes) rest e in
            let long : n ≤ length bytes = ltb-false _ _ is in (
              record { parts = sym (take-append-drop n bytes) ∙ ap (λ (t : List ℕ). t ++ drop n bytes) d.0 ∙ ap (λ (t : List ℕ). y ++ t) d.1; rest_fits = subst IsBytes d.1 (λ i. rw get_or-drop (fit (n + i))) },
              sym (ap length d.0) ∙ omega (arith, length-take n bytes),
            )
