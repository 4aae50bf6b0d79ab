use Rattle.std.proofs.Common.{◌≡◌, true, sym, arith, rules}
use Rattle.std.proofs.lemmas.Bool.Decides.{nat_tests}
use Rattle.report.specs.Asked.{numeral, digits_of}
use Rattle.report.proofs.Amounts.{all_digits, read, refused}
use Rattle.report.proofs.arguments.trim_amount.Goals as goal

pub returns-in_default : goal.returns-in_default
returns-in_default c =
    let n : numeral (digits_of c.args.text.now) ≡ true = grind (arith, nat_tests, all_digits) in
    record { answer = sym (refused c.args.text.now c.parse.result _ n c.parse.ensures.value.0 c.in_default.is) }

pub returns-in_err-try_from : goal.returns-in_err-try_from
returns-in_err-try_from c =
    let n : numeral (digits_of c.args.text.now) ≡ true = grind (arith, nat_tests, all_digits) in
    let e = read c.args.text.now c.parse.result _ n c.parse.ensures.value.0 c.in-Ok.is in
    search rules

pub returns : goal.returns
returns c =
    let n : numeral (digits_of c.args.text.now) ≡ true = grind (arith, nat_tests, all_digits) in
    let e = read c.args.text.now c.parse.result _ n c.parse.ensures.value.0 c.in-Ok.is in
    search rules

pub returns-then-is_empty : goal.returns-then-is_empty
returns-then-is_empty c = grind (arith, nat_tests, all_digits)
