-- What clap answers at the words of a form.
use Rattle.std.proofs.Common.{◌≡◌, ◌∙◌, ◌&&◌, ◌||◌, ◌+◌, ℕ, Bool, cond, true, false, refl, sym, subst, drop, ap, ap₂, List, [], ◌∷◌, map, Option, Some, None, Result, ◌⊎◌, ⊎_elim}
use Rattle.std.specs.Prelude.{option_map, option_and_then, fold, find, slice_get}
use Rattle.clap.specs.Lexer.{long_of}
use Rattle.std.specs.Option.{option_map_or}
use Rattle.std.specs.Str.{bytes_eq}
use Rattle.std.specs.Borrow.{Bor}
use Rattle.clap.specs.Words.{rows_of, first_of, Row}
use Rattle.clap.specs.Walk.{row_of}
use Rattle.clap.specs.Facts.{Entry}
use Rattle.clap.specs.Matches.{matched_of}
use Rattle.clap.specs.declared.parser.matches.Found.{Found}
use Rattle.clap.specs.declared.error.kind.ErrorKind.{ErrorKind}
use Rattle.clap.specs.declared.error.kind.ErrorKind.TheVariants.{OutOfMemory}
use Rattle.clap.specs.Kinds.{IsAmong}
use Rattle.clap.proofs.WalkLemmas.{first_value-rows, find_row}
use Rattle.std.specs.Prelude.{Ok, Err}
use Rattle.vm_cmd.specs.Answers.{Answers, Refuses}
use Rattle.vm_cmd.specs.Table.{row}
use Rattle.std.specs.List.{AllByRecursion, list_all}
use Rattle.clap.specs.Walk.{walk, with_default, finished, settled, nothing_held}
use Rattle.clap.specs.Simple.{App, Shape, argument_words, built, label_of, names_of}
use Rattle.clap.specs.declared.builder.command.Command.{Command}
use Rattle.std.specs.Prelude.{IfOk}
use Rattle.clap.specs.Words.{app_of, matches_of, fault_of, is_simple, is_simple_and_free}
use Rattle.clap.specs.Kinds.{Kinds}
use Rattle.clap.specs.Faults.{built_fault}
use Rattle.clap.proofs.FaultLemmas.{leaf_fault}
use Rattle.vm_cmd.specs.Word.{Word, is_plain, is_allowed, value_stands}
use Rattle.vm_cmd.specs.Form.{Form, Use, reads, reads_option, has, valued, flagged, put}
use Rattle.vm_cmd.specs.Shapes.{MadeOf, form_rules}
use Rattle.vm_cmd.specs.Matched.{Holds, Matches, is_line}
use Rattle.vm_cmd.specs.declared.command.CmdError.{CmdError}
use Rattle.vm_cmd.specs.declared.command.CmdError.TheVariants.{Usage, Memory}
use Rattle.clap.specs.declared.parser.matches.ArgMatches.{ArgMatches}
use Rattle.clap.specs.Matches.{found_of}
use Rattle.vm_cmd.proofs.Walks.{Serves, is_nil, rows_of_uses, idle_at, outcome_is, all_words}
use Rattle.vm_cmd.proofs.Serving.{made_serves, form_ours, told, fold_keeps, given_rows, first_given}

line_told : (f : Found) (id : Word) → told is_line id (rows_of f) ≡ is_line (option_and_then (λ a. a.source) (matched_of f id))
line_told f id = ap (λ (o : Option Row). option_map_or (λ (r : Row). is_line r.source) o false) (find_row f.entries.items id) ∙ go (find (λ e. bytes_eq e.0.now id) f.entries.items)
  where
    go : (o : Option Entry) → option_map_or (λ (r : Row). is_line r.source) (option_map row_of o) false ≡ is_line (option_and_then (λ a. a.source) (option_map (λ e. e.1) o))
    go None = refl
    go (Some e) = refl

-- an error that isn't want of memory is one of the kinds
pub some_kind : (k : ErrorKind) (kinds : Kinds) → (k ≡ OutOfMemory) ⊎ IsAmong k kinds → (k ≡ OutOfMemory → ⊥) → is_nil kinds ≡ false
some_kind k [] h isnt = ⊎_elim (λ m. absurd (isnt m)) (λ none. absurd none) h
some_kind k (x ∷ kinds) h isnt = refl

none_then : {A B : Type 0} (o : Option A) (g : A → Option B) → ((x : A) → g x ≡ None) → option_and_then g o ≡ None
none_then None g h = refl
none_then (Some x) g h = h x

none_if : {A : Type 0} (b : Bool) (x y : Option A) → x ≡ None → y ≡ None → cond b x y ≡ None
none_if true x y hx hy = hx
none_if false x y hx hy = hy

option_refused : (f : Form) (us : List Use) (name : Word) (v : Option Word) (next : List Use → Option Word → Option (List Use)) → ((more : List Use) (waiting : Option Word) → next more waiting ≡ None) → reads_option f us name v next ≡ None
option_refused f us name None next h = none_if (has f.options name) _ _ (h us (Some name)) (none_if (has f.flags name) _ None (none_then (put us (flagged name)) (λ more. next more None) (λ more. h more None)) refl)
option_refused f us name (Some []) next h = refl
option_refused f us name (Some (b ∷ bs)) next h = none_if (has f.options name) _ None (none_then (put us (valued name (b ∷ bs))) (λ more. next more None) (λ more. h more None)) refl

-- a word that isn't let pass spells nothing
pub refused : (words : List Word) (f : Form) (us : List Use) (waiting : Option Word) (k : ℕ) → list_all is_allowed words ≡ false → reads f us waiting k words ≡ None
unfolding reads
refused [] f us waiting k e = absurd cc
refused (word ∷ words) f us (Some name) k e = go (is_plain word) (long_of word) e (λ more. refused words f more None k)
  where
    go : (b : Bool) (o : Option (Word × Option Word)) → ((b || (elim o [ None ↦ false | Some p ↦ value_stands p.1 ])) && list_all is_allowed words) ≡ false
        → ((more : List Use) → list_all is_allowed words ≡ false → reads f more None k words ≡ None)
        → cond b (option_and_then (λ more. reads f more None k words) (put us (valued name word))) None ≡ None
    go true o e later = none_then (put us (valued name word)) _ (λ more. later more e)
    go false o e later = refl
refused (word ∷ words) f us None k e = go (is_plain word) (long_of word) e (λ us waiting k. refused words f us waiting k)
  where
    go : (b : Bool) (o : Option (Word × Option Word)) → ((b || (elim o [ None ↦ false | Some p ↦ value_stands p.1 ])) && list_all is_allowed words) ≡ false
        → ((us : List Use) (waiting : Option Word) (k : ℕ) → list_all is_allowed words ≡ false → reads f us waiting k words ≡ None)
        → cond b (option_and_then (λ name. option_and_then (λ more. reads f more None (k + 1) words) (put us (valued name word))) (slice_get f.places k)) (option_and_then (λ p. reads_option f us p.0 p.1 (λ more waiting. reads f more waiting k words)) o) ≡ None
    go true o e later = none_then (slice_get f.places k) _ (λ name. none_then (put us (valued name word)) _ (λ more. later more None (k + 1) e))
    go false None e later = refl
    go false (Some (n, None)) e later = option_refused f us n None _ (λ more waiting. later more waiting k e)
    go false (Some (n, Some [])) e later = refl
    go false (Some (n, Some (b ∷ bs))) e later = option_refused f us n (Some (b ∷ bs)) _ (λ more waiting. later more waiting k e)

pub each_allowed : (words : List (Bor Word)) → list_all (λ w. is_allowed w.now) words ≡ true → AllByRecursion (λ w. is_allowed w ≡ true) (map (λ w. w.now) words)
each_allowed [] e = tt
each_allowed (w ∷ words) e = go (is_allowed w.now) refl e (each_allowed words)
  where
    go : (b : Bool) → is_allowed w.now ≡ b → (b && list_all (λ w. is_allowed w.now) words) ≡ true → (list_all (λ w. is_allowed w.now) words ≡ true → AllByRecursion (λ w. is_allowed w ≡ true) (map (λ w. w.now) words))
        → AllByRecursion (λ w. is_allowed w ≡ true) (map (λ w. w.now) (w ∷ words))
    go true is e later = (is, later e)
    go false is e later = absurd cc

module _ (a : App) (f : Form) (made : MadeOf a f) (words : List Word) (allowed : AllByRecursion (λ w. is_allowed w ≡ true) words) where
  top : Shape
  top = (built a).top

  serves : Serves (built a).top f
  serves = subst (λ (s : Shape). Serves s f) (sym made.shape) (made_serves (built a).top f made.well)

  rules_are : (built a).top.rules ≡ form_rules f
  rules_are = ap (λ (s : Shape). s.rules) made.shape

  unnamed : argument_words a words ≡ words
  unnamed = ap (λ (b : Bool). cond b words (drop 1 words)) made.bare

  names_are : names_of (built a) ≡ []
  names_are = ap (map label_of) made.leaf

  -- the kinds of error, and the rows where there are none
  form_outcome : cond (is_nil (fault_of a words)) (Some (settled (built a).top.rules (walk (built a).top.rules [] nothing_held words).held).rows) None ≡ option_map rows_of_uses (reads f [] None 0 words)
  form_outcome =
      let leaf = leaf_fault (built a) nothing_held words made.leaf in
      ap (λ (ws : List Word). cond (is_nil (built_fault (built a) nothing_held ws)) (Some (settled (built a).top.rules (walk (built a).top.rules [] nothing_held words).held).rows) None) unnamed
      ∙ ap (λ (k : Kinds). cond (is_nil k) (Some (settled (built a).top.rules (walk (built a).top.rules [] nothing_held words).held).rows) None) leaf
      ∙ sym (outcome_is (built a).top (idle_at [] None 0) words)
      ∙ (all_words (built a).top f serves words allowed).0 [] None 0 [] refl refl

  form_matches : matches_of a words ≡ finished (built a).top.rules (walk (built a).top.rules [] nothing_held words).held
  form_matches = ap₂ (λ (ns : List (Word × List Word)) (ws : List Word). finished (built a).top.rules (walk (built a).top.rules ns nothing_held ws).held) names_are unnamed

  -- where no kind comes, the words are read, and clap's rows are those of the uses
  form_passes : fault_of a words ≡ [] → (us : List Use) × (reads f [] None 0 words ≡ Some us) × (matches_of a words ≡ fold with_default (rows_of_uses us) (form_rules f))
  form_passes none =
      let rows = (settled (built a).top.rules (walk (built a).top.rules [] nothing_held words).held).rows in
      let e = ap (λ (k : Kinds). cond (is_nil k) (Some rows) None) (sym none) ∙ form_outcome in
      let m : matches_of a words ≡ fold with_default rows (form_rules f) = form_matches ∙ ap (fold with_default rows) rules_are in
      go (reads f [] None 0 words) refl rows e m
    where
      go : (o : Option (List Use)) → reads f [] None 0 words ≡ o → (rows : List Row) → Some rows ≡ option_map rows_of_uses o → matches_of a words ≡ fold with_default rows (form_rules f)
          → (us : List Use) × (reads f [] None 0 words ≡ Some us) × (matches_of a words ≡ fold with_default (rows_of_uses us) (form_rules f))
      go None is rows e m = absurd cc
      go (Some us) is rows e m = let same : rows ≡ rows_of_uses us = cc in (us, is, m ∙ ap (λ (r : List Row). fold with_default r (form_rules f)) same)

  form_fails : is_nil (fault_of a words) ≡ false → reads f [] None 0 words ≡ None
  form_fails some =
      let rows = (settled (built a).top.rules (walk (built a).top.rules [] nothing_held words).held).rows in
      let e = ap (λ (b : Bool). cond b (Some rows) None) (sym some) ∙ form_outcome in
      go (reads f [] None 0 words) e
    where
      go : (o : Option (List Use)) → None ≡ option_map rows_of_uses o → o ≡ None
      go None e = refl
      go (Some us) e = absurd cc

  pub found : (m : ArgMatches) → (is_simple_and_free a ≡ true → fault_of a words ≡ []) → (is_simple a ≡ true → rows_of (found_of m) ≡ matches_of a words)
      → (us : List Use) × (reads f [] None 0 words ≡ Some us) × Holds f us m
  found m kinds rows =
      let us = form_passes (kinds made.free) in
      let all : rows_of (found_of m) ≡ fold with_default (rows_of_uses us.0) (form_rules f) = rows made.simple ∙ us.2 in (
        us.0,
        us.1,
        record {
          values = λ id other. first_value-rows (found_of m) id ∙ ap (first_of id) all ∙ first_given f us.0 id other;
          flags = λ id. sym (line_told (found_of m) id) ∙ ap (told is_line id) all ∙ fold_keeps is_line refl (form_rules f) (rows_of_uses us.0) id (form_ours f) ∙ given_rows is_line refl us.0 id;
        },
      )

  pub unread : (k : ErrorKind) → (is_simple_and_free a ≡ true → (k ≡ OutOfMemory) ⊎ IsAmong k (fault_of a words)) → (k ≡ OutOfMemory → ⊥) → reads f [] None 0 words ≡ None
  unread k kinds isnt = form_fails (some_kind k (fault_of a words) (kinds made.free) isnt)

-- ---- what a command answers

pub made_of : {E : Type 0} (command : Result Command E) (f : Form) (a : App) → MadeOf a f → IfOk command (λ c. app_of c ≡ a) → IfOk command (λ c. MadeOf (app_of c) f)
made_of (Ok c) f a made is = subst (λ (x : App). MadeOf x f) (sym is) made
made_of (Err e) f a made is = tt

pub refused_all : (words : List (Bor Word)) (f : Form) → list_all (λ w. is_allowed w.now) words ≡ false → reads f [] None 0 (map (λ w. w.now) words) ≡ None
refused_all words f e = refused (map (λ w. w.now) words) f [] None 0 (sym (same words) ∙ e)
  where
    same : (words : List (Bor Word)) → list_all (λ w. is_allowed w.now) words ≡ list_all is_allowed (map (λ w. w.now) words)
    same [] = refl
    same (w ∷ words) = ap (λ b. is_allowed w.now && b) (same words)

module _ {Y : Type 0} (f : Form) (words : List Word) (of_uses : List Use → Option Y) where
  pub refuses : (e : CmdError) → Matches f words (Err e) → Refuses e (row f of_uses words)
  refuses Usage h = ap (option_and_then of_uses) h
  refuses Memory h = tt

  pub answers : (m : ArgMatches) → Matches f words (Ok m) → (r : Result Y CmdError) → ((us : List Use) → Holds f us m → Answers r (of_uses us)) → Answers r (row f of_uses words)
  answers m h r is = subst (λ (o : Option (List Use)). Answers r (option_and_then of_uses o)) (sym h.1) (is h.0 h.2)

-- ---- answers of one value

pub refuses_map : {X Y : Type 0} (e : CmdError) (f : X → Y) (o : Option X) → Refuses e o → Refuses e (option_map f o)
refuses_map Usage f o h = ap (option_map f) h
refuses_map Memory f o h = tt

pub refuses_then : {X Y : Type 0} (e : CmdError) (f : X → Option Y) (o : Option X) → Refuses e o → Refuses e (option_and_then f o)
refuses_then Usage f o h = ap (option_and_then f) h
refuses_then Memory f o h = tt
