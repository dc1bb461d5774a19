-- Kinds of calls on a file.
use Rattle.std.specs.Prelude.{ℕ, true, false}
use Rattle.vm_host.specs.declared.event.Kind.{Kind}
use Rattle.vm_host.specs.declared.event.Kind.TheVariants.{Made, Wrote, Held, Lent}

-- the same call, on a file that is handed out
abbrev pub lent_of : Kind → Kind
lent_of Made = Lent true
lent_of (Wrote at len) = Lent false
lent_of Held = Lent false
lent_of (Lent made) = Lent made

-- the moment of the last making after a call
abbrev pub made_by : Kind → ℕ → ℕ → ℕ
made_by Made now before = now
made_by (Wrote at len) now before = before
made_by Held now before = before
made_by (Lent true) now before = now
made_by (Lent false) now before = before
