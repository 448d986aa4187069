use Rattle.std.proofs.Common.{◌≡◌, ◌==◌, ◌+◌, ℕ, List, length, ap, sym, ◌∙◌, arith}
use Rattle.std.specs.List.{slice_split}
use Rattle.std.proofs.lemmas.Bool.Decides.{nat_tests}
use Rattle.jlisting.specs.declared.line.Line.{Line}
use Rattle.jlisting.specs.declared.statement.Settings.{Settings}
use Rattle.jlisting.specs.Broken.{line_after}
use Rattle.jlisting.specs.Listing.{settings_after, lines_from, lines_in, lines_of, prepend, initial_settings}
use Rattle.jlisting.proofs.ListingLemmas.{prepend-nil, lines_more, lines_end}
use Rattle.jlisting.proofs.lines.listing.Goals as goal

pub loop-left-init : goal.loop-left-init
unfolding lines_of
loop-left-init c =
    let all = lines_in 1 initial_settings c.args.text.now in
    record {
      same = sym (ap (λ (l : List Line). prepend l all) c.new-lines.ensures.items ∙ prepend-nil all);
      behind = λ n. let e : 0 + n ≡ n = omega arith in ap (λ (k : ℕ). line_after k c.args.text.now) e;
      counted = omega arith;
    }

pub loop-left-preserved : goal.loop-left-preserved
loop-left-preserved c =
    let before = c.loop-left.lines.items in
    let number = c.loop-left.number + 1 in
    let settings = c.loop-left.settings in
    let line = c.first_line.result.0.now in
    let rest : List (List ℕ) = slice_split (λ b. b == 10) c.first_line.result.1.now in
    let statement = c.in-Ok.statement in
    record {
      same =
          c.loop-left.invariant.same
          ∙ (ap (prepend before) (c.first_line.ensures.first number settings)
          ∙ (lines_more before number settings line rest statement c.in-Ok.ensures
          ∙ (ap (λ (l : List Line). prepend l (lines_from (number + 1) (settings_after settings statement) rest)) (sym c.in_ok-settings.ensures.lines)
          ∙ ap (λ (s : Settings). prepend c.apply.new.lines.items (lines_from (number + 1) s rest)) (sym c.in_ok-settings.ensures.settings))));
      behind = λ n.
          let e : number + n ≡ c.loop-left.number + (n + 1) = omega arith in
          ap (λ (k : ℕ). line_after k c.args.text.now) e ∙ c.loop-left.invariant.behind (n + 1) ∙ c.first_line.ensures.rest n;
      counted = omega (arith, c.loop-left.invariant.counted, c.first_line.ensures.shorter);
    }

pub returns-clause-ok : goal.returns-clause-ok
returns-clause-ok c =
    let none : length c.loop-left.left.now ≡ 0 = grind (arith, nat_tests) in
    c.loop-left.invariant.same ∙ lines_end c.loop-left.lines.items (c.loop-left.number + 1) c.loop-left.settings c.loop-left.left.now none
