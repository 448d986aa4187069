use Rattle.std.proofs.Common.{◌≡◌, ℕ, rules, ◌∷◌, ◌∙◌, subst}
use Rattle.jmount.specs.Mount.{Mount}
use Rattle.jdamage.specs.Ways.{name_held}
use Rattle.jmap.specs.Places.{path_in}
use Rattle.jinspects.specs.ShownPaths.{or_path, shown_text_if}
use Rattle.jinspects.proofs.PathLemmas.{paths_all, paths_begin, paths_more}
use Rattle.jinspects.proofs.paths.paths_of.Goals as goal

pub loop-name-init : goal.loop-name-init
loop-name-init c = record {
  can = tt;
  finite = tt;
  so_far = paths_begin c.args.mounted.now.state c.in_ok-paths.paths _ c.in_ok-paths.ensures (c.into_iter-name-iterator.ensures.into_iter_gives ∙ c.names-name-items.ensures);
}

pub loop-name-preserved : goal.loop-name-preserved
loop-name-preserved c =
    let is : c.loop-name.name-iterator ≡ name_held c.in-Some.name ∷ c.next.new.self = search rules in
    let noted = subst (λ (m : Mount). (i : ℕ) → path_in c.note_path.new.paths i ≡ or_path (path_in c.loop-name.paths i) (shown_text_if m.state i (name_held c.in-Some.name)))
    c.in_ok-ways.ensures c.in_ok-note_path.ensures in
    record {
      can = tt;
      finite = tt;
      so_far = paths_more c.args.mounted.now.state c.loop-name.paths c.note_path.new.paths c.in-Some.name _ _ is noted c.loop-name.invariant.so_far;
    }

pub returns : goal.returns
returns c = paths_all c.args.mounted.now.state c.loop-name.paths _ c.in-None.ensures.steps.0 c.loop-name.invariant.so_far
