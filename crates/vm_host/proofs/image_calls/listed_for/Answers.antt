use Rattle.std.proofs.Common.{◌≡◌, ℕ, List, [], ◌∷◌, ◌++◌, ◌<◌, ◌+◌, length, take, get_or, Bool, true, false, Some, None, if◌then◌else◌, sym, ◌∙◌, ap, refl, Vec, Global}
use Rattle.std.proofs.lemmas.List.{take_more, append-nil}
use Rattle.std.proofs.lemmas.List.Elements.{filter_map-append}
use Rattle.std.specs.Str.{bytes_eq}
use Rattle.vm_host.specs.MemState.{ImageCall, calls_of}
use Rattle.vm_host.proofs.image_calls.listed_for.Goals.{then-is_of+in_ok-push, else-is_of}
use Rattle.vm_host.proofs.image_calls.listed_for.Goals as goal

more : (listed : List ImageCall) (i : ℕ) (e : ImageCall) (name : List ℕ) → i < length listed → e ≡ get_or listed i e → calls_of (take (i + 1) listed) name ≡ calls_of (take i listed) name ++ calls_of (e ∷ []) name
more listed i e name within is =
    ap (λ (l : List ImageCall). calls_of l name) (take_more listed i e within)
    ∙ ap (λ (x : ImageCall). calls_of (take i listed ++ x ∷ []) name) (sym is)
    ∙ filter_map-append (λ (x : ImageCall). if bytes_eq name x.name then Some x.call else None) (take i listed) (e ∷ [])

one : (e : ImageCall) (name : List ℕ) (t : Bool) → bytes_eq name e.name ≡ t → calls_of (e ∷ []) name ≡ (if t then e.call ∷ [] else [])
one e name true is = rw is refl
one e name false is = rw is refl

pub loop-entry-preserved : goal.loop-entry-preserved
loop-entry-preserved c =
    let e = c.entry-item.result in
    let step = more c.args.listed.now c.loop-entry.entry-index e c.args.name.now c.loop-entry-test.true c.entry-item.is in
    let was = c.loop-entry.invariant in
    let named = ap (λ (x : ImageCall). x.call) c.entry.view_is in
    elim c.if-is_of.branch [
      | then-is_of+in_ok-push w ↦
          let pushed = ap (λ (v : Vec ℕ Global). v.items) w.calls-is ∙ w.in_ok-push.ensures.items in
          let test = one e c.args.name.now true (sym c.is_of.ensures ∙ w.if-is_of.true) in
          cc
      | else-is_of w ↦
          let kept = ap (λ (v : Vec ℕ Global). v.items) w.calls-is in
          let test = one e c.args.name.now false (sym c.is_of.ensures ∙ w.if-is_of.false) in
          let same = append-nil c.loop-entry.calls.items in
          cc
    ]
