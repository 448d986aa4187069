-- Lines whose files are given.
use Rattle.std.proofs.Common.{◌≡◌, ◌∙◌, ◌<◌, ◌+◌, ℕ, List, IsTrue, true, get_or, take, length, subst, rules}
use Rattle.std.proofs.lemmas.List.{get_or_default}
use Rattle.std.proofs.lemmas.List.Elements.{All-more}
use Rattle.jlisting.specs.Listing.{file_of}
use Rattle.jlisting.specs.declared.line.Line.{Line}
use Rattle.jcalls.specs.Works.{AreGiven, Listed, is_file_given}

-- one more of them
pub given_more : (l : Listed) (lines : List Line) (i : ℕ) (line : Line) → line ≡ get_or lines i line → i < length lines → AreGiven l (take i lines)
    → is_file_given l (file_of line.action) ≡ true → AreGiven l (take (i + 1) lines)
given_more l lines i line at within before here k d below =
    let is : is_file_given l (file_of (get_or lines i d).action) ≡ true =
    subst (λ it. is_file_given l (file_of it.action) ≡ true) (at ∙ get_or_default lines i line d within) here in
    All-more (λ it. IsTrue (is_file_given l (file_of it.action))) lines i d within before (search (is, rules)) k d below
