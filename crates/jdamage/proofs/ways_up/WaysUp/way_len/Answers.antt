use Rattle.std.proofs.Common.{◌≡◌, ◌∷◌, ℕ, List, [], length, Some, None, arith, sym, ap, ◌∙◌}
use Rattle.std.specs.Prelude.{option_map}
use Rattle.jdamage.specs.Ways.{NameOf, name_up, path_below}
use Rattle.jdamage.proofs.WayLemmas.{climb_gone, climb_root, climb_nameless, climb_on, climb_none}
use Rattle.jdamage.proofs.ways_up.WaysUp.way_len.Goals as goal

pub returns-then-not-is_directory-clause-way : goal.returns-then-not-is_directory-clause-way
returns-then-not-is_directory-clause-way c =
    let none : path_below c.args.self.now.mounted.now.state c.args.dir [] ≡ None =
    sym c.loop-left.invariant.way
    ∙ climb_gone c.args.self.now.mounted.now.state (name_up c.args.self.now.mounted.now.state c.args.self.now.walked) c.loop-left.left c.loop-left.here _ c.loop-left-test.true (sym c.is_directory.ensures ∙ c.if-not-is_directory.true) in
    ap (option_map (λ (path : List (List ℕ)). length path)) (sym none)

pub returns-then-here-eq-ROOT-clause-way : goal.returns-then-here-eq-ROOT-clause-way
returns-then-here-eq-ROOT-clause-way c =
    let found : path_below c.args.self.now.mounted.now.state c.args.dir [] ≡ Some c.loop-left.invariant.names =
    sym c.loop-left.invariant.way
    ∙ climb_root c.args.self.now.mounted.now.state (name_up c.args.self.now.mounted.now.state c.args.self.now.walked) c.loop-left.left c.loop-left.here _ c.loop-left-test.true (sym c.is_directory.ensures ∙ c.if-not-is_directory.false) c.if-here-eq-ROOT.true in
    ap Some (omega (arith, c.loop-left.invariant.count)) ∙ ap (option_map (λ (path : List (List ℕ)). length path)) (sym found)

pub returns-in_default-clause-way : goal.returns-in_default-clause-way
returns-in_default-clause-way c =
    let s = c.args.self.now.mounted.now.state in
    let nameless : name_up s c.args.self.now.walked c.loop-left.here ≡ None = sym c.in_default.ensures in
    let none : path_below s c.args.dir [] ≡ None =
    sym c.loop-left.invariant.way
    ∙ climb_nameless s (name_up s c.args.self.now.walked) c.loop-left.left c.loop-left.here _ c.loop-left-test.true (sym c.is_directory.ensures ∙ c.if-not-is_directory.false) c.if-here-eq-ROOT.false nameless in
    ap (option_map (λ (path : List (List ℕ)). length path)) (sym none)

pub loop-left-preserved : goal.loop-left-preserved
loop-left-preserved c =
    let s = c.args.self.now.mounted.now.state in
    let n : NameOf = (c.in-Some.above, c.in-Some.field-0-1.now, c.in-Some.field-0-2) in
    let is : name_up s c.args.self.now.walked c.loop-left.here ≡ Some n = sym c.in-Some.ensures in
    record {
      few = omega (arith, c.loop-left.invariant.few);
      names = n.1 ∷ c.loop-left.invariant.names;
      count = omega (arith, c.loop-left.invariant.count, c.loop-left-test.true);
      way = sym (climb_on s (name_up s c.args.self.now.walked) c.loop-left.left c.loop-left.here c.loop-left.invariant.names c.loop-left-test.true n (sym c.is_directory.ensures ∙ c.if-not-is_directory.false) c.if-here-eq-ROOT.false is)
          ∙ c.loop-left.invariant.way;
    }

pub returns-clause-way : goal.returns-clause-way
returns-clause-way c =
    let none : path_below c.args.self.now.mounted.now.state c.args.dir [] ≡ None =
    sym c.loop-left.invariant.way ∙ climb_none c.args.self.now.mounted.now.state (name_up c.args.self.now.mounted.now.state c.args.self.now.walked) c.loop-left.left c.loop-left.here _ (omega (arith, c.loop-left-test.false)) in
    ap (option_map (λ (path : List (List ℕ)). length path)) (sym none)
