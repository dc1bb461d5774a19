-- One line of a configuration, as bhyve_config(5) of FreeBSD describes it.
use Rattle.std.specs.Prelude.{◌==◌, ℕ, Bool, true, false, not, List, [], ◌∷◌, Option, Some, None, if◌then◌else◌}
use Rattle.std.specs.List.{list_all, slice_split}
use Rattle.std.specs.Str.{is_utf8}
use Rattle.text_reader.specs.Line.{content}
use Rattle.text_reader.specs.Word.{is_nonempty, cut_at}
use Rattle.cfg_text.specs.declared.error.CfgKind.{CfgKind}
use Rattle.cfg_text.specs.declared.error.CfgKind.TheVariants.{Text, Equals, Name, Percent}
use Rattle.cfg_text.specs.declared.line.Scan.{Scan}
use Rattle.cfg_text.specs.declared.line.Scan.TheVariants.{Plain, Inside}
use Rattle.cfg_text.specs.declared.line.Scan.TheVariants as scan
use Rattle.cfg_text.specs.declared.line.Line.{Line}
use Rattle.cfg_text.specs.declared.line.Line.TheVariants as line

-- what a line says
pub data Reading : Type 0 where
  skipped : Reading
  variable : List ℕ → List ℕ → Reading
  faulty : CfgKind → Reading

abbrev pub view : Line → Reading
view line.Skipped = skipped
view (line.Variable name value) = variable name.now value.now
view (line.Faulty kind) = faulty kind

abbrev pub is_dot : ℕ → Bool
is_dot b = b == 46

-- parts joined by dots, none of which is empty
abbrev pub is_name : List ℕ → Bool
is_name text = list_all is_nonempty (slice_split is_dot text)

-- what stands before a place in a value: plain text, a `%`, or the `%(` of a name; the scan after one byte: `%` is 37, `(` 40 and `)` 41
abbrev pub scanned : Scan → ℕ → Scan
scanned Plain b = if b == 37 then scan.Percent else Plain
scanned scan.Percent b = if b == 40 then Inside else if b == 37 then scan.Percent else Plain
scanned Inside b = if b == 41 then Plain else Inside

-- a `%(` stands without a later `)`
abbrev pub is_open_from : Scan → List ℕ → Bool
is_open_from Plain [] = false
is_open_from scan.Percent [] = false
is_open_from Inside [] = true
is_open_from s (b ∷ bs) = is_open_from (scanned s b) bs

abbrev pub is_open : List ℕ → Bool
is_open value = is_open_from Plain value

abbrev pub read_pair : List ℕ → List ℕ → Reading
read_pair name value =
    if not (is_name name) then faulty Name
    else if is_open value then faulty Percent
    else variable name value

abbrev pub read_cut : Option (List ℕ × List ℕ) → Reading
read_cut None = faulty Equals
read_cut (Some p) = read_pair p.0 p.1

-- a line's text that isn't skipped, cut at the first `=` (61)
abbrev pub read_full : List ℕ → Reading
read_full text = if not (is_utf8 text) then faulty Text else read_cut (cut_at 61 text)

-- blank lines and comments are skipped
abbrev pub read_content : Option (List ℕ) → Reading
read_content None = skipped
read_content (Some text) = read_full text

-- a line without its end
abbrev pub read_line : List ℕ → Reading
read_line line = read_content (content line)
