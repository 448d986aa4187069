use Rattle.std.proofs.Common.{◌≡◌, ◌≤◌, length}
use Rattle.jjson.specs.Words.{words_of}
use Rattle.jjson.proofs.words.next_word.Given as goal

abbrev pub invariant-loop-word : goal.invariant-loop-word
invariant-loop-word l = record {
  same : words_of l.text ≡ words_of l.left;
  shorter : length l.left ≤ length l.text;
}

abbrev pub decreases-loop-word : goal.decreases-loop-word
decreases-loop-word l = length l.left
