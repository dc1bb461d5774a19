-- What it does to the changes that an image comes back.
use Rattle.std.proofs.Common.{◌≡◌, ◌≢◌, ◌⊎◌, inl, inr, ℕ, suc, ◌+◌, ◌≤◌, ◌<◌, List, [], ◌∷◌, ◌++◌, length, get_or, set, take, drop, Bool, true, false, Option, Some, IsSome, MatchBool, if◌then◌else◌, refl, sym, ◌∙◌, ap, subst, arith, append_assoc, add-one}
use Rattle.std.proofs.lemmas.List.{at_drop_more, take_more, set_split}
use Rattle.std.specs.Str.{bytes_eq}
use Rattle.vm_host.specs.Crash.{Passes}
use Rattle.vm_host.specs.Kinds.{lent_of, made_by}
use Rattle.vm_host.specs.declared.event.Kind.{Kind}
use Rattle.vm_host.specs.declared.event.Kind.TheVariants.{Made, Wrote, Held, Lent}
use Rattle.vm_host.specs.Past.{Change, file_of, LeftBy, LeftNow, LeftSince, made_at, given_back, Reads}
use Rattle.vm_host.specs.PastLaws.{since_earlier}
use Rattle.vm_host.proofs.Pasts.{itself, other_name, now_since, same_name}

abbrev pub back : Change → List ℕ → Change
back e b = record { name = e.name; bytes = b; kind = lent_of e.kind }

by_bool {ℓ} : (t : Bool) (P : Bool → Type ℓ) → (t ≡ true → P true) → (t ≡ false → P false) → P t
by_bool true P at_true at_false = at_true refl
by_bool false P at_true at_false = at_false refl

module _ (items : List Change) (i : ℕ) (item : Change) (name : List ℕ) (within : i < length items) (is : item ≡ get_or items i item) where
  front : (b : List ℕ) → given_back (drop i items) name b ≡ given_back (item ∷ drop (i + 1) items) name b
  front b = at_drop_more (λ (l : List Change). given_back l name b) items i item within ∙ ap (λ (x : Change). given_back (x ∷ drop (i + 1) items) name b) (sym is)

  pub given_found : (b : List ℕ) → given_back items name b ≡ take i items ++ given_back (drop i items) name b → bytes_eq name item.name ≡ true → given_back items name b ≡ set items i (back item b)
  given_found b so_far test =
      so_far
      ∙ ap (λ (l : List Change). take i items ++ l) (front b ∙ ap (λ (t : Bool). if t then back item b ∷ drop (i + 1) items else item ∷ given_back (drop (i + 1) items) name b) test)
      ∙ ap (λ (k : ℕ). take i items ++ back item b ∷ drop k items) (add-one i)
      ∙ sym (set_split items i (back item b) within)

  pub given_next : (b : List ℕ) → given_back items name b ≡ take i items ++ given_back (drop i items) name b → bytes_eq name item.name ≡ false → given_back items name b ≡ take (i + 1) items ++ given_back (drop (i + 1) items) name b
  given_next b so_far test =
      so_far
      ∙ ap (λ (l : List Change). take i items ++ l) (front b ∙ ap (λ (t : Bool). if t then back item b ∷ drop (i + 1) items else item ∷ given_back (drop (i + 1) items) name b) test)
      ∙ sym (append_assoc (take i items) (item ∷ []) (given_back (drop (i + 1) items) name b))
      ∙ ap (λ (x : Change). (take i items ++ x ∷ []) ++ given_back (drop (i + 1) items) name b) is
      ∙ ap (λ (l : List Change). l ++ given_back (drop (i + 1) items) name b) (sym (take_more items i item within))

pub length-given_back : (past : List Change) (name b : List ℕ) → length (given_back past name b) ≡ length past
length-given_back [] name b = refl
length-given_back (e ∷ es) name b =
    by_bool (bytes_eq name e.name) (λ t. length (if t then back e b ∷ es else e ∷ given_back es name b) ≡ length (e ∷ es)) (λ _. refl) (λ _. ap suc (length-given_back es name b))

made_lent : (kind : Kind) (now before : ℕ) → made_by (lent_of kind) now before ≡ made_by kind now before
made_lent Made now before = refl
made_lent (Wrote at len) now before = refl
made_lent Held now before = refl
made_lent (Lent made) now before = refl

pub made-given_back : (past : List Change) (name b q : List ℕ) → made_at (given_back past name b) q ≡ made_at past q
made-given_back [] name b q = refl
made-given_back (e ∷ es) name b q =
    by_bool (bytes_eq name e.name) (λ t. made_at (if t then back e b ∷ es else e ∷ given_back es name b) q ≡ made_at (e ∷ es) q)
    (λ _. ap (λ (n : ℕ). if bytes_eq q e.name then n else made_at es q) (made_lent e.kind (length es + 1) (made_at es q)))
    (λ _. λ i. if bytes_eq q e.name then made_by e.kind (length-given_back es name b i + 1) (made-given_back es name b q i) else made-given_back es name b q i)

pub same_made : (past : List Change) (name b : List ℕ) → made_at (given_back past name b) ≡ made_at past
same_made past name b = λ i q. made-given_back past name b q i

not_named : (name q : List ℕ) (e : Change) → q ≢ name → bytes_eq name e.name ≡ true → bytes_eq q e.name ≡ false
not_named name q e ne same = other_name q e.name (λ x. ne (x ∙ sym (same_name name e.name same)))

-- what a look-up of another name finds
pub other-given_back : (past : List Change) (name b q : List ℕ) → q ≢ name → file_of (given_back past name b) q ≡ file_of past q
other-given_back [] name b q ne = refl
other-given_back (e ∷ es) name b q ne =
    by_bool (bytes_eq name e.name) (λ t. file_of (if t then back e b ∷ es else e ∷ given_back es name b) q ≡ file_of (e ∷ es) q)
    (λ same. let unnamed = not_named name q e ne same in ap (λ (t : Bool). if t then Some b else file_of es q) unnamed ∙ sym (ap (λ (t : Bool). if t then Some e.bytes else file_of es q) unnamed))
    (λ differ. ap (λ (o : Option (List ℕ)). if bytes_eq q e.name then Some e.bytes else o) (other-given_back es name b q ne))

pub own-given_back : (past : List Change) (name b : List ℕ) → IsSome (file_of past name) → file_of (given_back past name b) name ≡ Some b
own-given_back [] name b some = cc
own-given_back (e ∷ es) name b found =
    by_bool (bytes_eq name e.name) (λ t. IsSome (if t then Some e.bytes else file_of es name) → file_of (if t then back e b ∷ es else e ∷ given_back es name b) name ≡ Some b)
    (λ same _. ap (λ (t : Bool). if t then Some b else file_of es name) same)
    (λ differ some. ap (λ (t : Bool). if t then Some e.bytes else file_of (given_back es name b) name) differ ∙ own-given_back es name b some) found

lent_any : (kind : Kind) (bytes : List ℕ) (before : List ℕ → Type 0) (x : List ℕ) → LeftBy (lent_of kind) bytes before x
lent_any Made bytes before x = tt
lent_any (Wrote at len) bytes before x = tt
lent_any Held bytes before x = tt
lent_any (Lent made) bytes before x = tt

-- a crash may leave anything in a file that was handed out
pub lent_now : (past : List Change) (name b x : List ℕ) → IsSome (file_of past name) → LeftNow (given_back past name b) name x
lent_now [] name b x some = absurd (cc)
lent_now (e ∷ es) name b x found =
    by_bool (bytes_eq name e.name) (λ t. IsSome (if t then Some e.bytes else file_of es name) → LeftNow (if t then back e b ∷ es else e ∷ given_back es name b) name x)
    (λ same _. subst (λ (t : Bool). MatchBool t (LeftBy (lent_of e.kind) b (LeftNow es name) x) (LeftNow es name x)) (sym same) (lent_any e.kind b (LeftNow es name) x))
    (λ differ some. subst (λ (t : Bool). MatchBool t (LeftBy e.kind e.bytes (LeftNow (given_back es name b) name) x) (LeftNow (given_back es name b) name x)) (sym differ) (lent_now es name b x some))
    found

-- and in the others what it might before
other_now : (past : List Change) (name b q : List ℕ) → q ≢ name → LeftNow (given_back past name b) q ≡ LeftNow past q
other_now [] name b q ne = refl
other_now (e ∷ es) name b q ne =
    by_bool (bytes_eq name e.name) (λ t. LeftNow (if t then back e b ∷ es else e ∷ given_back es name b) q ≡ LeftNow (e ∷ es) q)
    (λ same.
    let unnamed = not_named name q e ne same in
    let given : Bool → List ℕ → Type 0 = λ t x. MatchBool t (LeftBy (lent_of e.kind) b (LeftNow es q) x) (LeftNow es q x) in
    let kept : Bool → List ℕ → Type 0 = λ t x. MatchBool t (LeftBy e.kind e.bytes (LeftNow es q) x) (LeftNow es q x) in
    ap given unnamed ∙ sym (ap kept unnamed))
    (λ differ. λ i x. MatchBool (bytes_eq q e.name) (LeftBy e.kind e.bytes (other_now es name b q ne i) x) (other_now es name b q ne i x))

other_since : (past : List Change) (name b q : List ℕ) → q ≢ name → LeftSince (given_back past name b) q ≡ LeftSince past q
other_since [] name b q ne = refl
other_since (e ∷ es) name b q ne =
    let now = other_now (e ∷ es) name b q ne in
    by_bool (bytes_eq name e.name) (λ t. LeftNow (if t then back e b ∷ es else e ∷ given_back es name b) q ≡ LeftNow (e ∷ es) q → LeftSince (if t then back e b ∷ es else e ∷ given_back es name b) q ≡ LeftSince (e ∷ es) q)
    (λ _ same_now. λ i t x. same_now i x ⊎ ((t ≤ length es) × LeftSince es q t x))
    (λ _ same_now. λ i t x. same_now i x ⊎ ((t ≤ length-given_back es name b i) × other_since es name b q ne i t x))
    now

own_since : (past : List Change) (name b q : List ℕ) (t : ℕ) (x : List ℕ) → IsSome (file_of past name) → bytes_eq q name ≡ true → LeftSince (given_back past name b) q t x
own_since past name b q t x some same =
    now_since (given_back past name b) q t x (subst (λ (n : List ℕ). LeftNow (given_back past name b) n x) (sym (same_name q name same)) (lent_now past name b x some))

differs : (q name : List ℕ) → bytes_eq q name ≡ false → q ≢ name
differs q name differ same = let agree = ap (λ (n : List ℕ). bytes_eq n name) same ∙ itself name in cc

pub passes_back : (past : List Change) (name b : List ℕ) → IsSome (file_of past name) → Passes (λ q. q ≡ name) (length past) (length (given_back past name b)) (LeftSince past) (LeftSince (given_back past name b))
passes_back past name b some = record {
  later = omega (arith, length-given_back past name b);
  nothing_else = λ q t x le h. by_bool (bytes_eq q name) (λ _. LeftSince past q t x ⊎ LeftSince (given_back past name b) q (length past) x)
      (λ same. inr (own_since past name b q (length past) x some same))
      (λ differ. inl (subst (λ (l : ℕ → List ℕ → Type 0). l t x) (other_since past name b q (differs q name differ)) h));
  keeps = λ q t x le h. by_bool (bytes_eq q name) (λ _. LeftSince (given_back past name b) q t x)
      (λ same. own_since past name b q t x some same)
      (λ differ. subst (λ (l : ℕ → List ℕ → Type 0). l t x) (sym (other_since past name b q (differs q name differ))) h);
  earlier = since_earlier (given_back past name b);
  others = λ q x ne h. subst (λ (l : ℕ → List ℕ → Type 0). l (length past) x) (other_since past name b q ne) h;
}

pub reads_back : (past : List Change) (name b : List ℕ) → IsSome (file_of past name) → Reads past → Reads (given_back past name b)
reads_back past name b some reads q x is = by_bool (bytes_eq q name) (λ _. LeftNow (given_back past name b) q x)
    (λ same. subst (λ (n : List ℕ). LeftNow (given_back past name b) n x) (sym (same_name q name same)) (lent_now past name b x some))
    (λ differ. let ne = differs q name differ in subst (λ (l : List ℕ → Type 0). l x) (sym (other_now past name b q ne)) (reads q x (sym (other-given_back past name b q ne) ∙ is)))

-- the change that is put in the place of one that was found
pub set_kept : (past items seen : List Change) (place : ℕ) (e x : Change) (name b : List ℕ) → items ≡ past → seen ≡ items → IsSome (file_of past name) → Reads items → given_back seen name b ≡ set seen place (back e b) → x ≡ back e b → Reads (set items place x)
set_kept past items seen place e x name b is_past is_seen some reads given is =
    let found = subst (λ (l : List Change). IsSome (file_of l name)) (sym is_past) some in
    let here = subst (λ (l : List Change). given_back l name b ≡ set l place (back e b)) is_seen given in
    subst Reads (here ∙ ap (λ (y : Change). set items place y) (sym is)) (reads_back items name b found reads)
