use Rattle.std.proofs.Common.{◌≡◌, ◌∙◌, ◌++◌, ◌∷◌, [], ap, List, ℕ, None, string_bytes}
use Rattle.std.specs.Str.{bytes_eq}
use Rattle.std.specs.Map.{lookup}
use Rattle.std.specs.declared.string.String.{String}
use Rattle.std.specs.declared.alloc.Global.{Global}
use Rattle.cfg_text.specs.Config.{pairs_of}
use Rattle.cfg_text.proofs.Kept.{put_new}
use Rattle.cfg_text.proofs.reading.add_value.Goals as goal

pub returns-in-Ok-insert : goal.returns-in-Ok-insert
returns-in-Ok-insert c =
    let same = c.in-Ok.ensures.ok in
    let none : lookup (bytes_eq (string_bytes c.in-Ok.name)) (pairs_of c.args.expanded.now.entries) ≡ None = rw same c.requires in
    ap (λ (es : List (String Global × String Global)). pairs_of es) c.in-Ok-insert.ensures.entries
    ∙ put_new c.args.expanded.now.entries c.in-Ok.name c.args.value none
    ∙ ap (λ (n : List ℕ). pairs_of c.args.expanded.now.entries ++ (n, string_bytes c.args.value) ∷ []) same
