use Rattle.std.proofs.Common.{◌≡◌, ◌<◌, ◌≤◌, ◌∙◌, rules, length, true, arith}
use Rattle.std.specs.List.{list_all}
use Rattle.text_reader.specs.Digits.{is_digit, numeral}
use Rattle.text_reader.proofs.Numerals.{numeral_is, numeral_small}
use Rattle.text_reader.proofs.digits.numeral.Goals as goal

pub returns : goal.returns
returns c =
    let all : list_all (is_digit c.args.base) c.args.text.now ≡ true = search rules in
    let some : 0 < length c.args.text.now = search rules in
    let short : length c.args.text.now ≤ c.args.most = search rules in
    let value : c.ok.result ≡ numeral c.args.base c.args.most c.args.text.now =
    c.ok.ensures.value ∙ numeral_is c.args.base c.args.most c.args.text.now c.from_str_radix.result c.requires.low c.requires.high c.requires.fits c.from_str_radix.ensures.value some short all in
    record {
      value = value;
      small = numeral_small c.args.base c.args.most c.args.text.now c.ok.result (omega arith) value;
    }
