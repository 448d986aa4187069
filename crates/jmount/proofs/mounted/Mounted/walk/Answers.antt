use Rattle.std.proofs.Common.{rules, tests, ◌≡◌, ◌==◌, ◌+◌, ◌≤◌, length, drop, Ok, Err, ap, sym, ◌∙◌, arith}
use Rattle.std.specs.List.{slice_split}
use Rattle.std.proofs.lemmas.Iterator.Consumers.{YieldsList-turn, YieldsList-end}
use Rattle.std.proofs.lemmas.Iterator.Splits.{YieldsList-from_slice_split}
use Rattle.std.proofs.lemmas.List.{at_drop_all, length_push}
use Rattle.jmount.specs.Find.{walk}
use Rattle.jmount.proofs.PathLemmas.{split-is, walk-turn, walk-stops}
use Rattle.jmount.proofs.mounted.Mounted.walk.Goals as goal

pub loop-name-preserved : goal.loop-name-preserved
loop-name-preserved c =
    let s = c.args.self.now.state in
    let names = slice_split (λ b. b == 47) c.args.names.now in
    let t = YieldsList-turn (YieldsList-from_slice_split _ (λ b. b == 47) c.args.names.now (cc c.split-name-items.ensures.rest) (cc c.split-name-items.ensures.done) c.split-name-items.ensures.closure (λ x b q k. search (rules, tests))) c.loop-name.yielded _ c.loop-name.yielded_by _ _ c.in-Some.name c.in-Some.is c.next.ensures.steps in
    c.loop-name.invariant
    ∙ walk-turn s names (length c.loop-name.yielded) c.loop-name.here c.in-Some.name.now (Ok c.in_ok-here.here) t.0 t.1 (sym c.in_ok-here.was ∙ c.step.ensures)
    ∙ ap (λ n. walk s (drop n names) (Ok c.in_ok-here.here)) (sym (length_push c.loop-name.yielded c.in-Some.name))

pub returns-in_err-here : goal.returns-in_err-here
returns-in_err-here c =
    let s = c.args.self.now.state in
    let names = slice_split (λ b. b == 47) c.args.names.now in
    let fault = c.in_err-here.field-0.0 in
    let t = YieldsList-turn (YieldsList-from_slice_split _ (λ b. b == 47) c.args.names.now (cc c.split-name-items.ensures.rest) (cc c.split-name-items.ensures.done) c.split-name-items.ensures.closure (λ x b q k. search (rules, tests))) c.loop-name.yielded _ c.loop-name.yielded_by _ _ c.in-Some.name c.in-Some.is c.next.ensures.steps in
    let is : c.from_residual.result ≡ Err fault = search rules in
    is
    ∙ sym (walk-stops s (drop (length c.loop-name.yielded + 1) names) fault)
    ∙ sym (walk-turn s names (length c.loop-name.yielded) c.loop-name.here c.in-Some.name.now (Err fault) t.0 t.1 (sym c.in_err-here.was ∙ c.step.ensures))
    ∙ sym c.loop-name.invariant
    ∙ ap (λ ns. walk s ns (Ok 1)) (split-is c.args.names.now)

pub returns : goal.returns
returns c =
    let s = c.args.self.now.state in
    let names = slice_split (λ b. b == 47) c.args.names.now in
    let t = YieldsList-end (YieldsList-from_slice_split _ (λ b. b == 47) c.args.names.now (cc c.split-name-items.ensures.rest) (cc c.split-name-items.ensures.done) c.split-name-items.ensures.closure (λ x b q k. search (rules, tests))) c.loop-name.yielded _ c.loop-name.yielded_by _ _ c.in-None.is c.next.ensures.steps in
    let all : length names ≤ length c.loop-name.yielded = omega (arith, t.1) in
    sym (at_drop_all (λ ns. walk s ns (Ok c.loop-name.here)) names (length c.loop-name.yielded) all)
    ∙ sym c.loop-name.invariant
    ∙ ap (λ ns. walk s ns (Ok 1)) (split-is c.args.names.now)
