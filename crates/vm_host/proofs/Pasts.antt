-- What one more change does to what crashes may leave.
use Rattle.std.proofs.Common.{◌≡◌, ◌≢◌, ◌⊎◌, inl, inr, ⊎_elim, ℕ, ◌+◌, ◌<◌, List, [], ◌∷◌, length, get_or, take, drop, ◌-◌, Bool, true, false, Option, Some, MatchBool, if◌then◌else◌, refl, sym, ◌∙◌, ap, subst, arith}
use Rattle.std.specs.Str.{bytes_eq}
use Rattle.std.proofs.lemmas.Slice.Eq.{bytes_eq-Decides}
use Rattle.std.proofs.lemmas.Bool.{false_from_ne_true}
use Rattle.std.proofs.lemmas.List.{at_drop_more, take_rest}
use Rattle.vm_host.specs.Files.{IsWritten}
use Rattle.vm_host.specs.Crash.{Torn, Passes, AddsNothing, AddsTorn, Only, SinceEarlier}
use Rattle.vm_host.specs.declared.event.Kind.TheVariants.{Made, Wrote, Held, Lent}
use Rattle.vm_host.specs.Past.{Change, file_of, LeftBy, LeftNow, LeftSince, Reads}
use Rattle.vm_host.specs.PastLaws.{since_earlier}

pub same_name : (q name : List ℕ) → bytes_eq q name ≡ true → q ≡ name
same_name q name e = (bytes_eq-Decides q name).0 e

pub itself : (q : List ℕ) → bytes_eq q q ≡ true
itself q = (bytes_eq-Decides q q).1 refl

pub other_name : (q name : List ℕ) → q ≢ name → bytes_eq q name ≡ false
other_name q name ne = false_from_ne_true _ (λ e. ne (same_name q name e))

by_test : (t : Bool) (bytes : List ℕ) (rest : Option (List ℕ)) (b : List ℕ) (Own Rest : List ℕ → Type 0) → (t ≡ true → Own bytes) → (rest ≡ Some b → Rest b) → (if t then Some bytes else rest) ≡ Some b → MatchBool t (Own b) (Rest b)
by_test true bytes rest b Own Rest own other e = let same : bytes ≡ b = cc in subst Own same (own refl)
by_test false bytes rest b Own Rest own other e = other e

-- a change whose bytes a crash may leave keeps that a crash may leave what files read as
pub reads_push : (es : List Change) (e : Change) → ((q : List ℕ) → bytes_eq q e.name ≡ true → LeftBy e.kind e.bytes (LeftNow es q) e.bytes) → Reads es → Reads (e ∷ es)
reads_push es e own reads q b is = by_test (bytes_eq q e.name) e.bytes (file_of es q) b (λ x. LeftBy e.kind e.bytes (LeftNow es q) x) (λ x. LeftNow es q x) (own q) (reads q b) is

pub reads_held : (es : List Change) (name bytes : List ℕ) → Reads es → Reads (record { name = name; bytes = bytes; kind = Held } ∷ es)
reads_held es name bytes reads = reads_push es (record { name = name; bytes = bytes; kind = Held }) (λ q e. refl) reads

pub reads_made : (es : List Change) (name : List ℕ) → Reads es → Reads (record { name = name; bytes = []; kind = Made } ∷ es)
reads_made es name reads = reads_push es (record { name = name; bytes = []; kind = Made }) (λ q e. refl) reads

pub reads_lent : (es : List Change) (name bytes : List ℕ) (made : Bool) → Reads es → Reads (record { name = name; bytes = bytes; kind = Lent made } ∷ es)
reads_lent es name bytes made reads = reads_push es (record { name = name; bytes = bytes; kind = Lent made }) (λ q e. tt) reads

pub reads_wrote : (es : List Change) (name f g : List ℕ) (at len : ℕ) → file_of es name ≡ Some f → Torn at len f g → Reads es → Reads (record { name = name; bytes = g; kind = Wrote at len } ∷ es)
reads_wrote es name f g at len is torn reads = reads_push es (record { name = name; bytes = g; kind = Wrote at len }) (λ q e. inr (f, reads q f (ap (λ (n : List ℕ). file_of es n) (same_name q name e) ∙ is), torn)) reads

pub now_since : (es : List Change) (q : List ℕ) (t : ℕ) (b : List ℕ) → LeftNow es q b → LeftSince es q t b
now_since [] q t b h = h
now_since (e ∷ es) q t b h = inl h

pub since_now : (es : List Change) (q b : List ℕ) → LeftSince es q (length es) b → LeftNow es q b
since_now [] q b h = h
since_now (e ∷ es) q b (inl now) = now
since_now (e ∷ es) q b (inr older) = absurd (omega (arith, older.0))

-- a crash now may leave what files read as
abbrev pub ReadsPast : List Change → Type 0
ReadsPast es = (q b : List ℕ) → file_of es q ≡ Some b → LeftSince es q (length es) b

pub reads_now : (es : List Change) → Reads es → ReadsPast es
reads_now es reads q b is = now_since es q (length es) b (reads q b is)

pub nothing_new : (es : List Change) → AddsNothing (length es) (length es) (LeftSince es) (LeftSince es)
nothing_new es = record { later = omega arith; nothing_else = λ q t b le h. h; keeps = λ q t b le h. h; earlier = since_earlier es }

pub passes_same : (es : List Change) (name : List ℕ) → Passes (λ q. q ≡ name) (length es) (length es) (LeftSince es) (LeftSince es)
passes_same es name = record { later = omega arith; nothing_else = λ q t b le h. inl h; keeps = λ q t b le h. h; earlier = since_earlier es; others = λ q b ne h. h }

module _ (es : List Change) (e : Change) where
  others_now : (q b : List ℕ) → q ≢ e.name → LeftNow (e ∷ es) q b → LeftNow es q b
  others_now q b ne h = rw (other_name q e.name ne) at h

  pub own_now : (b : List ℕ) → LeftNow (e ∷ es) e.name b → LeftBy e.kind e.bytes (LeftNow es e.name) b
  own_now b h = rw (itself e.name) at h

  -- since the start of the call
  pub since_start : (q b : List ℕ) → LeftSince (e ∷ es) q (length es) b → LeftNow (e ∷ es) q b ⊎ LeftNow es q b
  since_start q b (inl now) = inl now
  since_start q b (inr older) = inr (since_now es q b older.1)

  pub passes_push : Passes (λ q. q ≡ e.name) (length es) (length (e ∷ es)) (LeftSince es) (LeftSince (e ∷ es))
  passes_push = record {
    later = omega arith;
    nothing_else = λ q t b le h. ⊎_elim (λ now. inr (inl now)) (λ older. inl older.1) h;
    keeps = λ q t b le h. inr (le, h);
    earlier = since_earlier (e ∷ es);
    others = λ q b ne h. now_since es q (length es) b (⊎_elim (others_now q b ne) (λ was. was) (since_start q b h));
  }

  -- since the end of the call
  pub since_end : (q b : List ℕ) → LeftSince (e ∷ es) q (length (e ∷ es)) b → LeftNow (e ∷ es) q b
  since_end q b h = since_now (e ∷ es) q b h

pub torn_push : (es : List Change) (name bytes : List ℕ) (at len : ℕ) → AddsTorn at len (LeftSince es name (length es)) (LeftSince (record { name = name; bytes = bytes; kind = Wrote at len } ∷ es) name (length es))
torn_push es name bytes at len b h =
    let e : Change = record { name = name; bytes = bytes; kind = Wrote at len } in
    ⊎_elim
    (λ now. ⊎_elim (λ was. inl (now_since es name (length es) b was)) (λ w. inr (w.0, now_since es name (length es) w.0 w.1, w.2)) (own_now es e b now))
    (λ was. inl (now_since es name (length es) b was))
    (since_start es e name b h)

pub only_made : (es : List Change) (name : List ℕ) → Only [] (LeftSince (record { name = name; bytes = []; kind = Made } ∷ es) name (length es + 1))
only_made es name b h =
    let e : Change = record { name = name; bytes = []; kind = Made } in
    own_now es e b (since_end es e name b (subst (λ (t : ℕ). LeftSince (e ∷ es) name t b) (omega arith) h))

pub only_held : (es : List Change) (name bytes : List ℕ) → Only bytes (LeftSince (record { name = name; bytes = bytes; kind = Held } ∷ es) name (length es + 1))
only_held es name bytes b h =
    let e : Change = record { name = name; bytes = bytes; kind = Held } in
    own_now es e b (since_end es e name b (subst (λ (t : ℕ). LeftSince (e ∷ es) name t b) (omega arith) h))

-- a look-up goes on from one change to the next
pub file_found : (items : List Change) (i : ℕ) (item : Change) (q : List ℕ) → i < length items → item ≡ get_or items i item → bytes_eq q item.name ≡ true → file_of (drop i items) q ≡ Some item.bytes
file_found items i item q within is test =
    at_drop_more (λ (l : List Change). file_of l q) items i item within
    ∙ ap (λ (x : Change). file_of (x ∷ drop (i + 1) items) q) (sym is)
    ∙ ap (λ (t : Bool). if t then Some item.bytes else file_of (drop (i + 1) items) q) test

pub file_next : (items : List Change) (i : ℕ) (item : Change) (q : List ℕ) → i < length items → item ≡ get_or items i item → bytes_eq q item.name ≡ false → file_of (drop i items) q ≡ file_of (drop (i + 1) items) q
file_next items i item q within is test =
    at_drop_more (λ (l : List Change). file_of l q) items i item within
    ∙ ap (λ (x : Change). file_of (x ∷ drop (i + 1) items) q) (sym is)
    ∙ ap (λ (t : Bool). if t then Some item.bytes else file_of (drop (i + 1) items) q) test

pub passes_to : (es past : List Change) (e : Change) → past ≡ e ∷ es → Passes (λ q. q ≡ e.name) (length es) (length past) (LeftSince es) (LeftSince past)
passes_to es past e is = subst (λ (p : List Change). Passes (λ q. q ≡ e.name) (length es) (length p) (LeftSince es) (LeftSince p)) (sym is) (passes_push es e)

pub torn_to : (es past : List Change) (name bytes : List ℕ) (at len : ℕ) → past ≡ record { name = name; bytes = bytes; kind = Wrote at len } ∷ es → AddsTorn at len (LeftSince es name (length es)) (LeftSince past name (length es))
torn_to es past name bytes at len is = subst (λ (p : List Change). AddsTorn at len (LeftSince es name (length es)) (LeftSince p name (length es))) (sym is) (torn_push es name bytes at len)

pub written_torn : (f g piece : List ℕ) (at : ℕ) → IsWritten f at piece g → Torn at (length piece) f g
written_torn f g piece at w = record {
  before = w.before;
  after = ap (λ (l : List ℕ). take (length f - (at + length piece)) l) w.after ∙ take_rest f (at + length piece);
  no_shorter = omega (arith, w.size);
  no_longer = omega (arith, w.size);
}

held_now : (t : Bool) (bytes b : List ℕ) (Rest : List ℕ → Type 0) → (t ≡ true → Rest bytes) → MatchBool t (b ≡ bytes) (Rest b) → Rest b
held_now true bytes b Rest own is = subst Rest (sym is) (own refl)
held_now false bytes b Rest own rest = rest

-- a file that is kept as it reads adds nothing
pub held_push : (es : List Change) (name bytes : List ℕ) → file_of es name ≡ Some bytes → ReadsPast es → AddsNothing (length es) (length (record { name = name; bytes = bytes; kind = Held } ∷ es)) (LeftSince es) (LeftSince (record { name = name; bytes = bytes; kind = Held } ∷ es))
held_push es name bytes is reads = record {
  later = omega arith;
  nothing_else = λ q t b le h. ⊎_elim
      (λ now. now_since es q t b (held_now (bytes_eq q name) bytes b (LeftNow es q) (λ e. since_now es q bytes (reads q bytes (ap (λ (n : List ℕ). file_of es n) (same_name q name e) ∙ is))) now))
      (λ older. older.1)
      h;
  keeps = λ q t b le h. inr (le, h);
  earlier = since_earlier (record { name = name; bytes = bytes; kind = Held } ∷ es);
}

pub held_to : (es past : List Change) (name bytes : List ℕ) → past ≡ record { name = name; bytes = bytes; kind = Held } ∷ es → file_of es name ≡ Some bytes → ReadsPast es → AddsNothing (length es) (length past) (LeftSince es) (LeftSince past)
held_to es past name bytes to is reads = subst (λ (p : List Change). AddsNothing (length es) (length p) (LeftSince es) (LeftSince p)) (sym to) (held_push es name bytes is reads)
