use Rattle.std.proofs.Common.{◌+◌, ◌≡◌, length, length-append, ap, ◌∙◌, arith}
use Rattle.jline.specs.Words.{octal}
use Rattle.jline.proofs.WordLemmas.{octal_is_short}
use Rattle.jline.proofs.line.LineBuffer.push_octal.Goals as goal

pub returns-clause-grows : goal.returns-clause-grows
returns-clause-grows c =
    let n = c.args.n in
    let grown : length c.push_octal_digits.new.self ≡ length c.args.self.now + length (octal n) =
    ap length c.push_octal_digits.ensures ∙ length-append c.args.self.now (octal n) in
    omega (arith, grown, octal_is_short n c.ranges.n.fits)
