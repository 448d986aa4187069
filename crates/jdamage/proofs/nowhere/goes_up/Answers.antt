use Rattle.std.proofs.Common.{◌∙◌, inr}
use Rattle.jdamage.specs.Ways.{first_name}
use Rattle.jdamage.proofs.NowhereLemmas.{directory_above, ends, met_more, met_nowhere, name_missing, name_there, none_met, nowhere_nameless}
use Rattle.jdamage.proofs.nowhere.goes_up.Goals as goal

pub loop-left-init : goal.loop-left-init
loop-left-init c = none_met c.args.mounted.now.state (first_name c.args.mounted.now.state) _ c.args.dir c.requires.none

pub returns-then-is_end : goal.returns-then-is_end
returns-then-is_end c = λ no. ends c.args.mounted.now.state (first_name c.args.mounted.now.state) c.args.nowhere.now c.loop-left.met c.loop-left.here c.requires.nowhere c.loop-left.invariant (c.is_end.ensures.end c.if-is_end.true)

pub returns-in_default : goal.returns-in_default
returns-in_default c = λ no.
    met_nowhere c.args.mounted.now.state (first_name c.args.mounted.now.state) c.loop-left.met c.loop-left.here c.loop-left.invariant
    (inr (nowhere_nameless c.args.mounted.now.state (first_name c.args.mounted.now.state) c.loop-left.here c.if-here-eq-ROOT.false (name_missing (first_name c.args.mounted.now.state c.loop-left.here) (c.in_default.ensures ∙ directory_above c.args.mounted.now.state c.loop-left.here (c.is_end.ensures.there c.if-is_end.false)))))

pub loop-left-preserved : goal.loop-left-preserved
loop-left-preserved c =
    let n = name_there (first_name c.args.mounted.now.state c.loop-left.here) c.in-Some.above (c.in-Some.ensures ∙ directory_above c.args.mounted.now.state c.loop-left.here (c.is_end.ensures.there c.if-is_end.false)) in
    met_more c.args.mounted.now.state (first_name c.args.mounted.now.state) c.loop-left.met c.insert.new.self c.loop-left.here c.in-Some.above n.0 c.loop-left.invariant c.if-here-eq-ROOT.false n.1 n.2 c.in_ok-insert.ensures.updates.0
