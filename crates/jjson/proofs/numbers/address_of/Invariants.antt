use Rattle.std.proofs.Common.{◌≡◌, ◌<◌, ◌^◌, take}
use Rattle.jjson.specs.Numbers.{address_number}
use Rattle.jjson.proofs.numbers.address_of.Given as goal

abbrev pub invariant-loop-digit : goal.invariant-loop-digit
invariant-loop-digit l = record {
  value : l.number ≡ address_number (take l.digit-index l.word);
  small : l.number < 16 ^ l.digit-index;
}
