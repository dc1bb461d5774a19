use Rattle.std.proofs.Common.{◌≡◌, ◌∙◌, ℕ, List, drop, length, ap}
use Rattle.asm_words.specs.Blank.{before, trimmed, word_in}
use Rattle.asm_words.proofs.FirstWord.{word_is, word_stands}
use Rattle.asm_words.proofs.blank.first_word.Goals as goal

pub returns-in-Some-clause-word : goal.returns-in-Some-clause-word
returns-in-Some-clause-word c = c.before-word.ensures ∙ ap (before 9) c.before-2.ensures ∙ word_is c.args.text.now

pub returns-in-Some-clause-rest : goal.returns-in-Some-clause-rest
returns-in-Some-clause-rest c =
    let q = c.in-Some.ensures.cases in
    let word : c.before-word.result.now ≡ word_in c.args.text.now = c.before-word.ensures ∙ ap (before 9) c.before-2.ensures ∙ word_is c.args.text.now in
    c.trimmed.ensures
    ∙ ap trimmed (q.2 ∙ ap (λ (k : ℕ). drop k c.args.text.now) q.1.0)
    ∙ ap (λ (w : List ℕ). trimmed (drop (length w) c.args.text.now)) word

pub returns-in-None-clause-word : goal.returns-in-None-clause-word
returns-in-None-clause-word c =
    let word : c.before-word.result.now ≡ word_in c.args.text.now = c.before-word.ensures ∙ ap (before 9) c.before-2.ensures ∙ word_is c.args.text.now in
    absurd (word_stands c.before-word.result.now c.args.text.now word c.in-None.ensures.cases)

pub returns-in-None-clause-rest : goal.returns-in-None-clause-rest
returns-in-None-clause-rest c =
    let word : c.before-word.result.now ≡ word_in c.args.text.now = c.before-word.ensures ∙ ap (before 9) c.before-2.ensures ∙ word_is c.args.text.now in
    absurd (word_stands c.before-word.result.now c.args.text.now word c.in-None.ensures.cases)
