-- One call after another: what both leave alone stays.
use Rattle.std.proofs.Common.{◌≡◌, ◌⊎◌, inl, inr, ⊎_elim, ℕ, ◌+◌, ◌≤◌, true, List, ◌++◌, take, length, refl, sym, ◌∙◌, ap, subst, arith, append_assoc}
use Rattle.std.proofs.Math.Seq.{take-append-add}
use Rattle.std.proofs.lemmas.List.{take_all, append-nil}
use Rattle.vm_host.specs.Told.{WhereTold}
use Rattle.vm_host.specs.Files.{LeavesOthers}
use Rattle.vm_host.specs.Crash.{Passes, AddsNothing, SinceEarlier}
use Rattle.vm_host.specs.Leaves.{ReadsHost, LeavesHost, WritesFiles, LeavesSink, Takes, TakesSome}
use Rattle.vm_host.specs.Views.{HostView, SinkView}

-- ---- time

module _ (old mid new : ℕ) (a b c : List ℕ → ℕ → List ℕ → Type 0) where
  pub adds_nothing_on : AddsNothing old mid a b → AddsNothing mid new b c → AddsNothing old new a c
  adds_nothing_on p r = record {
    later = omega (arith, p.later, r.later);
    nothing_else = λ f t d le h. p.nothing_else f t d le (r.nothing_else f t d (omega (arith, le, p.later)) h);
    keeps = λ f t d le h. r.keeps f t d (omega (arith, le, p.later)) (p.keeps f t d le h);
    earlier = r.earlier;
  }

  pub passes_on : (Named : List ℕ → Type 0) → Passes Named old mid a b → Passes Named mid new b c → Passes Named old new a c
  passes_on Named p r = record {
    later = omega (arith, p.later, r.later);
    nothing_else = λ q t x le h. ⊎_elim
        (λ before. ⊎_elim (λ first. inl first) (λ came. inr (r.keeps q old x p.later came)) (p.nothing_else q t x le before))
        (λ came. inr (r.earlier q old mid x p.later came))
        (r.nothing_else q t x (omega (arith, le, p.later)) h);
    keeps = λ q t x le h. r.keeps q t x (omega (arith, le, p.later)) (p.keeps q t x le h);
    earlier = r.earlier;
    others = λ q x other h. p.others q x other (⊎_elim (λ before. before) (λ came. p.earlier q old mid x p.later (r.others q x other came)) (r.nothing_else q old x p.later h));
  }

-- a call that adds nothing passes
pub passes_still : (Named : List ℕ → Type 0) (old new : ℕ) (a b : List ℕ → ℕ → List ℕ → Type 0) → AddsNothing old new a b → Passes Named old new a b
passes_still Named old new a b p = record {
  later = p.later;
  nothing_else = λ q t x le h. inl (p.nothing_else q t x le h);
  keeps = p.keeps;
  earlier = p.earlier;
  others = λ q x other h. p.nothing_else q old x (omega arith) h;
}

-- ---- hosts

-- no call
pub reads_itself : (a : HostView) → (a.tells ≡ true → SinceEarlier a.left) → ReadsHost a a
reads_itself a earlier = record {
  told = refl;
  files = λ _. refl;
  made = λ _. refl;
  crash = λ told. record { later = omega arith; nothing_else = λ q t b le h. h; keeps = λ q t b le h. h; earlier = earlier told };
  image_faults = refl;
}

module _ (a b c : HostView) where
  pub reads_on : ReadsHost a b → ReadsHost b c → ReadsHost a c
  reads_on p r = record {
    told = r.told ∙ p.told;
    files = λ told. r.files (p.told ∙ told) ∙ p.files told;
    made = λ told. r.made (p.told ∙ told) ∙ p.made told;
    crash = λ told. adds_nothing_on a.moment b.moment c.moment a.left b.left c.left (p.crash told) (r.crash (p.told ∙ told));
    image_faults = r.image_faults ∙ p.image_faults;
  }

  pub leaves_on : (Named : List ℕ → Type 0) → LeavesHost Named a b → LeavesHost Named b c → LeavesHost Named a c
  leaves_on Named p r = record {
    told = r.told ∙ p.told;
    files = λ told q ne. r.files (p.told ∙ told) q ne ∙ p.files told q ne;
    made = λ told q ne. r.made (p.told ∙ told) q ne ∙ p.made told q ne;
    time = λ told. passes_on a.moment b.moment c.moment a.left b.left c.left Named (p.time told) (r.time (p.told ∙ told));
  }

  pub writes_on : (Named : List ℕ → Type 0) → WritesFiles Named a b → WritesFiles Named b c → WritesFiles Named a c
  writes_on Named p r = record {
    told = r.told ∙ p.told;
    files = λ told q ne. r.files (p.told ∙ told) q ne ∙ p.files told q ne;
    made = λ told q ne. r.made (p.told ∙ told) q ne ∙ p.made told q ne;
    time = λ told. passes_on a.moment b.moment c.moment a.left b.left c.left Named (p.time told) (r.time (p.told ∙ told));
    image_faults = r.image_faults ∙ p.image_faults;
  }

module _ (a b : HostView) where
  -- a call that only reads writes no file
  pub reads_writes : (Named : List ℕ → Type 0) → ReadsHost a b → WritesFiles Named a b
  reads_writes Named p = record {
    told = p.told;
    files = λ told q ne. ap (λ F. F q) (p.files told);
    made = λ told q ne. ap (λ F. F q) (p.made told);
    time = λ told. passes_still Named a.moment b.moment a.left b.left (p.crash told);
    image_faults = p.image_faults;
  }

  pub writes_leaves : (Named : List ℕ → Type 0) → WritesFiles Named a b → LeavesHost Named a b
  writes_leaves Named p = record { told = p.told; files = p.files; made = p.made; time = p.time }

  -- a call that writes some files writes these among others
  pub writes_among : (Few Named : List ℕ → Type 0) → ((q : List ℕ) → Few q → Named q) → WritesFiles Few a b → WritesFiles Named a b
  writes_among Few Named among p = record {
    told = p.told;
    files = λ told q ne. p.files told q (λ few. ne (among q few));
    made = λ told q ne. p.made told q (λ few. ne (among q few));
    time = λ told. let t = p.time told in record {
      later = t.later;
      nothing_else = t.nothing_else;
      keeps = t.keeps;
      earlier = t.earlier;
      others = λ q x ne h. t.others q x (λ few. ne (among q few)) h;
    };
    image_faults = p.image_faults;
  }

  pub leaves_among : (Few Named : List ℕ → Type 0) → ((q : List ℕ) → Few q → Named q) → LeavesHost Few a b → LeavesHost Named a b
  leaves_among Few Named among p = record {
    told = p.told;
    files = λ told q ne. p.files told q (λ few. ne (among q few));
    made = λ told q ne. p.made told q (λ few. ne (among q few));
    time = λ told. let t = p.time told in record {
      later = t.later;
      nothing_else = t.nothing_else;
      keeps = t.keeps;
      earlier = t.earlier;
      others = λ q x ne h. t.others q x (λ few. ne (among q few)) h;
    };
  }

-- ---- sinks

module _ (a b c : SinkView) where
  pub leaves_sink_on : LeavesSink a b → LeavesSink b c → LeavesSink a c
  leaves_sink_on p r = record { told = r.told ∙ p.told; taken = λ told. r.taken (p.told ∙ told) ∙ p.taken told }

  pub takes_on : (x y : List ℕ) → Takes x a b → Takes y b c → Takes (x ++ y) a c
  takes_on x y p r = record {
    told = r.told ∙ p.told;
    taken = λ told. r.taken (p.told ∙ told) ∙ ap (λ (l : List ℕ). l ++ y) (p.taken told) ∙ append_assoc a.taken x y;
  }

  -- all of a text and then a first part of another
  pub takes_some_on : (x y : List ℕ) → Takes x a b → TakesSome y b c → TakesSome (x ++ y) a c
  takes_some_on x y p r = record {
    told = r.told ∙ p.told;
    taken = λ told. let later = r.taken (p.told ∙ told) in (
      length x + later.0,
      later.1 ∙ ap (λ (l : List ℕ). l ++ take later.0 y) (p.taken told) ∙ append_assoc a.taken x (take later.0 y) ∙ ap (λ (l : List ℕ). a.taken ++ l) (sym (take-append-add x y later.0)),
    );
  }

module _ (a b : SinkView) where
  pub takes_is_some : (x : List ℕ) → Takes x a b → TakesSome x a b
  takes_is_some x p = record { told = p.told; taken = λ told. (length x, p.taken told ∙ ap (λ (l : List ℕ). a.taken ++ l) (sym (take_all (length x) x (omega arith)))) }

  pub leaves_is_some : (x : List ℕ) → LeavesSink a b → TakesSome x a b
  leaves_is_some x p = record { told = p.told; taken = λ told. (0, p.taken told ∙ sym (append-nil a.taken)) }
