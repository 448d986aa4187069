use Rattle.std.proofs.Common.{◌≡◌, true, false, length, nat_lt, sym, rules, arith}
use Rattle.std.specs.List.{list_all}
use Rattle.std.proofs.lemmas.Bool.Decides.{nat_tests}
use Rattle.jlisting.specs.Words.{is_digit}
use Rattle.jlisting.proofs.RuleLemmas.{number_reads, number_passes}
use Rattle.jlisting.proofs.word_rules.number_rule.Goals as goal

pub returns-in-Some : goal.returns-in-Some
returns-in-Some c =
    let a = c.args in
    let all : list_all (is_digit a.base) a.word.now ≡ true = search rules in
    let few : nat_lt a.most (length a.word.now) ≡ false = grind (arith, nat_tests) in
    sym (number_reads a.base a.most a.limit _ _ a.word.now c.requires.base c.requires.some all few c.from.ensures c.in-Some.ensures.value)

pub returns-in-None : goal.returns-in-None
returns-in-None c =
    let a = c.args in
    let all : list_all (is_digit a.base) a.word.now ≡ true = search rules in
    let few : nat_lt a.most (length a.word.now) ≡ false = grind (arith, nat_tests) in
    sym (number_passes a.base a.most a.limit _ a.word.now c.requires.base c.requires.some all few c.from.ensures c.in-None.ensures.value)
