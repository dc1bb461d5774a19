use Rattle.std.proofs.Common.{◌≡◌, ◌+◌, ◌++◌, drop, string_bytes, true}
use Rattle.vm_report.specs.Report.{answers_text, has_orders}
use Rattle.vm_report.proofs.reporting.put_answers.Given as goal

abbrev pub invariant-loop-answer : goal.invariant-loop-answer
invariant-loop-answer l = record {
  told : string_bytes l.out ++ answers_text l.number (drop l.answer-index l.answers) ≡ string_bytes l.fn.out ++ answers_text 1 l.answers;
  number : l.number ≡ l.answer-index + 1;
  registers : has_orders (drop l.answer-index l.answers) ≡ true;
}
