use Rattle.std.proofs.Common.{◌≡◌, ◌∙◌, sym, ap, List, ℕ}
use Rattle.std.specs.List.{flat_map}
use Rattle.text_reader.specs.Word.{texts, is_space, words_by}
use Rattle.text_reader.proofs.Blanks.{is_tab, words_again}
use Rattle.text_reader.proofs.word.words.Goals as goal

pub returns : goal.returns
returns c =
    let parts : texts c.deref.result.now ≡ words_by is_space c.args.text.now = rw c.deref.ensures.value c.in_ok-parts.ensures in
    rw c.in-Blanks.is (c.in_ok-parted-in-Blanks.ensures ∙ ap (λ (ps : List (List ℕ)). flat_map (words_by is_tab) ps) parts ∙ sym (words_again c.args.text.now))
