-- The row and its ModRM byte.
use Rattle.std.proofs.Common.{◌≡◌, ℕ, zero, suc, true, List, [], ◌∷◌, ◌++◌, Option, Some, None, Ok, Err, refl, sym, ap, subst, ◌∙◌, ◌⊎◌, inl, inr}
use Rattle.std.specs.Prelude.{Contains}
use Rattle.x86_grammar.specs.declared.head.Head.{Head}
use Rattle.x86_decode.specs.declared.fault.DecodeFault.{DecodeFault}
use Rattle.x86_decode.specs.declared.fault.DecodeFault.TheVariants.{Short, Unknown}
use Rattle.x86_grammar.specs.declared.table.Row.{Row}
use Rattle.x86_grammar.specs.declared.table.TheConstants.{ROWS}
use Rattle.x86_grammar.specs.Rows.{fits, row_for, any_row}
use Rattle.byte_reader.specs.Reader.{Read, Reader, then_read, ◌>>=◌}
use Rattle.x86_decode.specs.Reading.{row_at, row_or, row_found, modrm_at}
use Rattle.x86_grammar.specs.Grammar.{IsBytes}
use Rattle.x86_grammar.proofs.Opcodes.{found, Opens, opens_from, row_for_fits, row_for_none, no_second}
use Rattle.x86_decode.proofs.Laws.{Reads, IsBytes-nil}

pub record IsRow (h : Head) (x : Row × List ℕ) (l : List ℕ) : Type 0 where
  pub same : l ≡ x.1
  pub among : Contains ROWS x.0
  pub fits : fits x.0 h x.1 ≡ true
  pub bytes : IsBytes x.1

cases_option : {A : Type 0} (o : Option A) → ((a : A) × (o ≡ Some a)) ⊎ (o ≡ None)
cases_option None = inr refl
cases_option (Some a) = inl (a, refl)

abbrev Out : Type 0
Out = (Row × List ℕ) × List ℕ

same_ok : (x y : Out) → ◌≡◌ {A = Read DecodeFault (Row × List ℕ)} (Ok x) (Ok y) → x ≡ y
same_ok x y e = cc

ok_err : (x : Out) (d : DecodeFault) → ◌≡◌ {A = Read DecodeFault (Row × List ℕ)} (Ok x) (Err d) → {P : Type 0} → P
ok_err x d e = absurd cc

err_ok : (x : Out) (d : DecodeFault) → ◌≡◌ {A = Read DecodeFault (Row × List ℕ)} (Err d) (Ok x) → {P : Type 0} → P
err_ok x d e = absurd cc

short_unknown : ◌≡◌ {A = Read DecodeFault (Row × List ℕ)} (Err Short) (Err Unknown) → {P : Type 0} → P
short_unknown e = absurd cc

unknown_short : ◌≡◌ {A = Read DecodeFault (Row × List ℕ)} (Err Unknown) (Err Short) → {P : Type 0} → P
unknown_short e = absurd cc

IsBytes-head : (m : ℕ) (bs : List ℕ) → IsBytes (m ∷ bs) → IsBytes (m ∷ [])
IsBytes-head m bs h zero = h 0
IsBytes-head m bs h (suc i) = IsBytes-nil i

row_is : (h : Head) (bs : List ℕ) (row : Row) → row_for h [] ≡ Some row → row_at h bs ≡ Ok ((row, []), bs)
unfolding row_at
row_is h bs row e = ap (λ (o : Option Row). row_or o h bs) e

row_behind : (h : Head) (bs : List ℕ) → row_for h [] ≡ None → row_at h bs ≡ modrm_at h bs
unfolding row_at
row_behind h bs e = ap (λ (o : Option Row). row_or o h bs) e

modrm_is : (h : Head) (m : ℕ) (bs : List ℕ) (row : Row) → row_for h (m ∷ []) ≡ Some row → modrm_at h (m ∷ bs) ≡ Ok ((row, m ∷ []), bs)
modrm_is h m bs row e = ap (λ (o : Option Row). row_found o (m ∷ []) bs) e

modrm_not : (h : Head) (m : ℕ) (bs : List ℕ) → row_for h (m ∷ []) ≡ None → modrm_at h (m ∷ bs) ≡ Err Unknown
modrm_not h m bs e = ap (λ (o : Option Row). row_found o (m ∷ []) bs) e

abbrev Sound : Head → List ℕ → Out → Type 0
Sound h bs x = (front : List ℕ) × (bs ≡ front ++ x.1) × IsRow h x.0 front

modrm_sound : (h : Head) (bs : List ℕ) (x : Out) → IsBytes bs → modrm_at h bs ≡ Ok x → Sound h bs x
modrm_sound h [] x b e = err_ok x Short e
modrm_sound h (m ∷ bs) x b e =
    elim (cases_option (row_for h (m ∷ []))) [
      | inl (row, r) ↦
          let f = found h (m ∷ []) row r in
          subst (Sound h (m ∷ bs)) (same_ok ((row, m ∷ []), bs) x (sym (modrm_is h m bs row r) ∙ e))
          (m ∷ [], refl, record { same = refl; among = f.among; fits = f.fits; bytes = IsBytes-head m bs b })
      | inr n ↦ err_ok x Unknown (sym (modrm_not h m bs n) ∙ e)
    ]

row_sound : (h : Head) (bs : List ℕ) (x : Out) → IsBytes bs → row_at h bs ≡ Ok x → Sound h bs x
row_sound h bs x b e =
    elim (cases_option (row_for h [])) [
      | inl (row, r) ↦
          let f = found h [] row r in
          subst (Sound h bs) (same_ok ((row, []), bs) x (sym (row_is h bs row r) ∙ e))
          ([], refl, record { same = refl; among = f.among; fits = f.fits; bytes = IsBytes-nil })
      | inr n ↦ modrm_sound h bs x b (sym (row_behind h bs n) ∙ e)
    ]

complete_at : (h : Head) (row : Row) (ms rest : List ℕ) → Contains ROWS row → fits row h ms ≡ true → row_at h (ms ++ rest) ≡ Ok ((row, ms), rest)
complete_at h row [] rest c f = row_is h rest row (row_for_fits row h [] c f)
complete_at h row (m ∷ []) rest c f = row_behind h (m ∷ rest) (row_for_none row h m c f) ∙ modrm_is h m rest row (row_for_fits row h (m ∷ []) c f)
complete_at h row (m ∷ n ∷ ms) rest c f = absurd (no_second row h m n ms f)

row_complete : (h : Head) (x : Row × List ℕ) (front rest : List ℕ) → IsRow h x front → row_at h (front ++ rest) ≡ Ok (x, rest)
row_complete h x front rest r = ap (λ (t : List ℕ). row_at h (t ++ rest)) r.same ∙ complete_at h x.0 x.1 rest r.among r.fits

abbrev More : Head → List ℕ → Type 0
More h bs = (x : Row × List ℕ) × (more : List ℕ) × IsBytes more × IsRow h x (bs ++ more)

open_none : (h : Head) → (o : Opens h) → (ms : List ℕ) → o.modrm ≡ ms → row_for h [] ≡ None → More h []
open_none h o ms e n = ((o.row, o.modrm), o.modrm, o.bytes, record { same = refl; among = o.among; fits = o.fits; bytes = o.bytes })

modrm_short : (h : Head) (bs : List ℕ) → Opens h → row_for h [] ≡ None → modrm_at h bs ≡ Err Short → More h bs
modrm_short h [] o n e = ((o.row, o.modrm), o.modrm, o.bytes, record { same = refl; among = o.among; fits = o.fits; bytes = o.bytes })
modrm_short h (m ∷ bs) o n e =
    elim (cases_option (row_for h (m ∷ []))) [
      | inl (row, r) ↦ ok_err ((row, m ∷ []), bs) Short (sym (modrm_is h m bs row r) ∙ e)
      | inr k ↦ unknown_short (sym (modrm_not h m bs k) ∙ e)
    ]

row_short : (h : Head) (bs : List ℕ) → Opens h → row_at h bs ≡ Err Short → More h bs
row_short h bs o e =
    elim (cases_option (row_for h [])) [
      | inl (row, r) ↦ ok_err ((row, []), bs) Short (sym (row_is h bs row r) ∙ e)
      | inr n ↦ modrm_short h bs o n (sym (row_behind h bs n) ∙ e)
    ]

modrm_stable : (h : Head) (bs more : List ℕ) → modrm_at h bs ≡ Err Unknown → modrm_at h (bs ++ more) ≡ Err Unknown
modrm_stable h [] more e = short_unknown e
modrm_stable h (m ∷ bs) more e =
    elim (cases_option (row_for h (m ∷ []))) [
      | inl (row, r) ↦ ok_err ((row, m ∷ []), bs) Unknown (sym (modrm_is h m bs row r) ∙ e)
      | inr k ↦ modrm_not h m (bs ++ more) k
    ]

row_stable : (h : Head) (bs more : List ℕ) → row_at h bs ≡ Err Unknown → row_at h (bs ++ more) ≡ Err Unknown
row_stable h bs more e =
    elim (cases_option (row_for h [])) [
      | inl (row, r) ↦ ok_err ((row, []), bs) Unknown (sym (row_is h bs row r) ∙ e)
      | inr n ↦ row_behind h (bs ++ more) n ∙ modrm_stable h bs more (sym (row_behind h bs n) ∙ e)
    ]

pub row_reads : (h : Head) → any_row h ≡ true → Reads (row_at h) (IsRow h)
row_reads h live =
    let o = opens_from h live in
    record {
      opens = ((o.row, o.modrm), o.modrm, o.bytes, record { same = refl; among = o.among; fits = o.fits; bytes = o.bytes });
      sound = row_sound h;
      complete = row_complete h;
      short = λ bs b e. row_short h bs o e;
      stable = λ bs more b e. row_stable h bs more e;
    }
