use Rattle.jline.proofs.line.LineBuffer.+push_octal_digits.Given as goal

abbrev pub decreases-push_octal_digits : goal.decreases-push_octal_digits
decreases-push_octal_digits l = l.n
