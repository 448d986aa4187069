use Rattle.std.proofs.Common.{◌≡◌, ◌/◌, length, length-append, ap, arith}
use Rattle.jline.specs.Words.{octal}
use Rattle.jline.proofs.WordLemmas.{octal_one_digit, length_octal_more}
use Rattle.jline.proofs.line.LineBuffer.+push_octal_digits.Goals as goal
use Rattle.jline.proofs.line.LineBuffer.+push_octal_digits.Goals.{then-n-ge8, else-n-ge8}

pub push-requires : goal.push-requires
push-requires t c = elim c.if-n-ge8.branch [
  | then-n-ge8 w ↦
      let grown = length_octal_more c.args.n w.if-n-ge8.true c.ranges.n.fits in
      rw w.self-is (rw w.push_octal_digits.ensures (omega (arith, grown, length-append c.args.self.now (octal (c.args.n / 8)))))
  | else-n-ge8 w ↦
      let one : length (octal c.args.n) ≡ 1 = ap length (octal_one_digit c.args.n w.if-n-ge8.false) in
      rw w.self-is (omega arith)
]
