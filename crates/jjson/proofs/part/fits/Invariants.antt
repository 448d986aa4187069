use Rattle.std.proofs.Common.{◌≡◌, length}
use Rattle.jjson.specs.Shapes.{fits}
use Rattle.jjson.specs.Words.{words_of}
use Rattle.jjson.proofs.part.fits.Given as goal

abbrev pub invariant-loop-part : goal.invariant-loop-part
invariant-loop-part l = fits (words_of l.fn.parts) (words_of l.fn.line) ≡ fits (words_of l.parts) (words_of l.line)

abbrev pub decreases-loop-part : goal.decreases-loop-part
decreases-loop-part l = length l.parts
