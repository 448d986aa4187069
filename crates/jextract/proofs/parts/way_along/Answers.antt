use Rattle.std.proofs.Common.{rules, tests, ◌≡◌, ◌==◌, ◌≤◌, ◌++◌, List, [], ◌∷◌, ℕ, Bor, Option, Some, length, drop, append-nil, ap, sym, ◌∙◌, arith}
use Rattle.std.specs.List.{slice_split}
use Rattle.std.proofs.lemmas.Iterator.Consumers.{YieldsList-turn, YieldsList-end}
use Rattle.std.proofs.lemmas.Iterator.Splits.{YieldsList-from_slice_split}
use Rattle.std.proofs.lemmas.List.{at_drop_all, length_push}
use Rattle.jname.specs.Live.{Key}
use Rattle.jmount.specs.Tree.{named}
use Rattle.jmount.proofs.PathLemmas.{split-is}
use Rattle.jextract.specs.Parts.{keys_of, way_from}
use Rattle.jextract.proofs.WayLemmas.{keys_push, way_end, way_stops, way_turn}
use Rattle.jextract.proofs.parts.way_along.Goals as goal

pub returns-in_default : goal.returns-in_default
returns-in_default c =
    let s = c.args.mounted.now.state in
    let names = slice_split (λ b. b == 47) c.args.names.now in
    let keys = keys_of c.loop-name.way.items in
    let stops : way_from s c.loop-name.here (drop (length c.loop-name.yielded) names) ≡ [] =
    ap (λ (h : Option ℕ). way_from s h (drop (length c.loop-name.yielded) names)) c.in_default.is ∙ way_stops s (drop (length c.loop-name.yielded) names) in
    sym (append-nil keys)
    ∙ ap (λ (rest : List Key). keys ++ rest) (sym stops)
    ∙ c.loop-name.invariant
    ∙ ap (λ (ns : List (List ℕ)). way_from s (Some 1) ns) (split-is c.args.names.now)

pub loop-name-preserved : goal.loop-name-preserved
loop-name-preserved c =
    let s = c.args.mounted.now.state in
    let names = slice_split (λ b. b == 47) c.args.names.now in
    let keys = keys_of c.loop-name.way.items in
    let dir = c.in-Some-here.dir in
    let name = c.in-Some.name.now in
    let k = length c.loop-name.yielded in
    let all = length (c.loop-name.yielded ++ c.in-Some.name ∷ []) in
    let t = YieldsList-turn (YieldsList-from_slice_split _ (λ b. b == 47) c.args.names.now (cc c.split-name-items.ensures.rest) (cc c.split-name-items.ensures.done) c.split-name-items.ensures.closure (λ x b q k. search (rules, tests))) c.loop-name.yielded _ c.loop-name.yielded_by _ _ c.in-Some.name c.in-Some.is c.next.ensures.steps in
    ap (λ (way : List (ℕ × Bor (List ℕ))). keys_of way ++ way_from s c.number_of-here.result (drop all names)) c.in_ok-push.ensures.items
    ∙ ap (λ (ks : List Key). ks ++ way_from s c.number_of-here.result (drop all names)) (keys_push c.loop-name.way.items dir c.in-Some.name)
    ∙ ap (λ (h : Option ℕ). (keys ++ (dir, name) ∷ []) ++ way_from s h (drop all names)) c.number_of-here.ensures
    ∙ ap (λ (n : ℕ). (keys ++ (dir, name) ∷ []) ++ way_from s (named s dir name) (drop n names)) (length_push c.loop-name.yielded c.in-Some.name)
    ∙ sym (way_turn s keys names k dir name t.0 t.1)
    ∙ ap (λ (h : Option ℕ). keys ++ way_from s h (drop k names)) (sym c.in-Some-here.is)
    ∙ c.loop-name.invariant

pub returns : goal.returns
returns c =
    let s = c.args.mounted.now.state in
    let names = slice_split (λ b. b == 47) c.args.names.now in
    let keys = keys_of c.loop-name.way.items in
    let t = YieldsList-end (YieldsList-from_slice_split _ (λ b. b == 47) c.args.names.now (cc c.split-name-items.ensures.rest) (cc c.split-name-items.ensures.done) c.split-name-items.ensures.closure (λ x b q k. search (rules, tests))) c.loop-name.yielded _ c.loop-name.yielded_by _ _ c.in-None.is c.next.ensures.steps in
    let all : length names ≤ length c.loop-name.yielded = omega (arith, t.1) in
    sym (append-nil keys)
    ∙ ap (λ (rest : List Key). keys ++ rest) (sym (way_end s c.loop-name.here))
    ∙ sym (at_drop_all (λ (ns : List (List ℕ)). keys ++ way_from s c.loop-name.here ns) names (length c.loop-name.yielded) all)
    ∙ c.loop-name.invariant
    ∙ ap (λ (ns : List (List ℕ)). way_from s (Some 1) ns) (split-is c.args.names.now)
