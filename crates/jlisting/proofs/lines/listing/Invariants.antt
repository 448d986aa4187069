use Rattle.std.proofs.Common.{◌≡◌, ℕ, ◌+◌, ◌≤◌, length}
use Rattle.jlisting.specs.Listing.{lines_of, lines_in, prepend}
use Rattle.jlisting.specs.Broken.{line_after}
use Rattle.jlisting.proofs.lines.listing.Given as goal

abbrev pub invariant-loop-left : goal.invariant-loop-left
invariant-loop-left l = record {
  same : lines_of l.text ≡ prepend l.lines.items (lines_in (l.number + 1) l.settings l.left);
  behind : (n : ℕ) → line_after (l.number + n) l.text ≡ line_after n l.left;
  counted : l.number + length l.left ≤ length l.text;
}

abbrev pub decreases-loop-left : goal.decreases-loop-left
decreases-loop-left l = length l.left
