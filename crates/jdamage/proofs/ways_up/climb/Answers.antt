use Rattle.std.proofs.Common.{◌≡◌, ◌≤◌, ◌-◌, ◌++◌, ◌∷◌, [], Some, None, length, arith, sym, ap, ◌∙◌}
use Rattle.std.specs.Prelude.{map, reverse}
use Rattle.jdamage.specs.Ways.{climbed, names_held, NameOf, name_up, path_length}
use Rattle.jdamage.proofs.WayLemmas.{climb_gone, climb_root, climb_nameless, climb_on, climb_none, names_turned, pushed_first}
use Rattle.jdamage.proofs.RoomLemmas.{held_length, no_room, pushed, was_full}
use Rattle.jdamage.proofs.ways_up.climb.Goals as goal

pub returns-then-not-is_directory-clause-none : goal.returns-then-not-is_directory-clause-none
returns-then-not-is_directory-clause-none c = λ no.
    sym c.loop-left.invariant.way
    ∙ climb_gone c.args.ways.now.mounted.now.state (name_up c.args.ways.now.mounted.now.state c.args.ways.now.walked) c.loop-left.left c.loop-left.here _ c.loop-left-test.true (sym c.is_directory.ensures ∙ c.if-not-is_directory.true)

pub returns-then-here-eq-ROOT-clause-found : goal.returns-then-here-eq-ROOT-clause-found
returns-then-here-eq-ROOT-clause-found c = λ yes.
    let names = names_held c.loop-left.path in
    let turned : names_held c.reverse.new.self ≡ reverse names = ap (map (λ n. n.now)) c.reverse.ensures.items ∙ names_turned (λ n. n.now) c.loop-left.path.items in
    sym c.loop-left.invariant.way
    ∙ climb_root c.args.ways.now.mounted.now.state (name_up c.args.ways.now.mounted.now.state c.args.ways.now.walked) c.loop-left.left c.loop-left.here (reverse names) c.loop-left-test.true (sym c.is_directory.ensures ∙ c.if-not-is_directory.false) c.if-here-eq-ROOT.true
    ∙ ap Some (sym turned)

pub returns-in_default-clause-none : goal.returns-in_default-clause-none
returns-in_default-clause-none c = λ no.
    let none : name_up c.args.ways.now.mounted.now.state c.args.ways.now.walked c.loop-left.here ≡ None = sym c.in_default.ensures in
    sym c.loop-left.invariant.way
    ∙ climb_nameless c.args.ways.now.mounted.now.state (name_up c.args.ways.now.mounted.now.state c.args.ways.now.walked) c.loop-left.left c.loop-left.here _ c.loop-left-test.true (sym c.is_directory.ensures ∙ c.if-not-is_directory.false) c.if-here-eq-ROOT.false none

pub returns-then-is_err-clause-none : goal.returns-then-is_err-clause-none
returns-then-is_err-clause-none c = λ no.
    let s = c.args.ways.now.mounted.now.state in
    let n : NameOf = (c.in-Some.pino, c.in-Some.name.now, c.in-Some.field-0-2) in
    let is : name_up s c.args.ways.now.walked c.loop-left.here ≡ Some n = sym c.in-Some.ensures in
    let names = reverse (names_held c.loop-left.path) in
    let on = climb_on s (name_up s c.args.ways.now.walked) c.loop-left.left c.loop-left.here names c.loop-left-test.true n (sym c.is_directory.ensures ∙ c.if-not-is_directory.false) c.if-here-eq-ROOT.false is in
    let way = sym on ∙ c.loop-left.invariant.way in
    let full = was_full c.push.result _ (sym c.is_err.ensures.value ∙ c.if-is_err.true) c.push.ensures.full in
    let few : path_length (climbed s (name_up s c.args.ways.now.walked) (c.loop-left.left - 1) n.0 (n.1 ∷ names)) ≤ length names =
    omega (arith, ap path_length way, c.requires, c.loop-left.invariant.capacity, full, c.loop-left.path.ok.0, held_length c.loop-left.path.items) in
    sym way ∙ no_room s (name_up s c.args.ways.now.walked) (c.loop-left.left - 1) n.0 n.1 names few

pub loop-left-preserved : goal.loop-left-preserved
loop-left-preserved c =
    let s = c.args.ways.now.mounted.now.state in
    let n : NameOf = (c.in-Some.pino, c.in-Some.name.now, c.in-Some.field-0-2) in
    let is : name_up s c.args.ways.now.walked c.loop-left.here ≡ Some n = sym c.in-Some.ensures in
    let items : c.push.new.self.items ≡ c.loop-left.path.items ++ c.in-Some.name ∷ [] = pushed c.push.result _ _ _ (sym c.is_err.ensures.value ∙ c.if-is_err.false) c.push.ensures.items in
    record {
      way = ap (climbed s (name_up s c.args.ways.now.walked) (c.loop-left.left - 1) c.in-Some.pino) (pushed_first c.loop-left.path.items c.push.new.self.items c.in-Some.name items)
          ∙ sym (climb_on s (name_up s c.args.ways.now.walked) c.loop-left.left c.loop-left.here (reverse (names_held c.loop-left.path)) c.loop-left-test.true n (sym c.is_directory.ensures ∙ c.if-not-is_directory.false) c.if-here-eq-ROOT.false is)
          ∙ c.loop-left.invariant.way;
      capacity = omega (arith, c.loop-left.invariant.capacity, c.push.ensures.capacity);
    }

pub returns-clause-none : goal.returns-clause-none
returns-clause-none c = λ no.
    sym c.loop-left.invariant.way ∙ climb_none c.args.ways.now.mounted.now.state (name_up c.args.ways.now.mounted.now.state c.args.ways.now.walked) c.loop-left.left c.loop-left.here _ (omega (arith, c.loop-left-test.false))
