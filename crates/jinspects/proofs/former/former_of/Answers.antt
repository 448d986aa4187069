use Rattle.std.proofs.Common.{◌≡◌, ◌∙◌, ℕ, List, Option, Some, ap, map, sym}
use Rattle.std.specs.Borrow.{Bor}
use Rattle.std.specs.Prelude.{Vec, option_map}
use Rattle.std.specs.declared.alloc.Global.{Global}
use Rattle.jmount.specs.Find.{path_names}
use Rattle.jinspects.proofs.FormerLemmas.{former_err, former_ok}
use Rattle.jinspects.proofs.former.former_of.Goals as goal

named : (c : goal.After-drop-names) → Some (map (λ (n : Bor (List ℕ)). n.now) c.in-Ok-Some.names.items) ≡ path_names c.args.path.now
named c = sym (ap (λ (o : Option (Vec (Bor (List ℕ)) Global)). option_map (λ names. map (λ (n : Bor (List ℕ)). n.now) names.items) o) c.in-Ok-Some.field-0-is)
    ∙ c.in-Ok-Some.ensures

pub returns-in-Some-clause-ok : goal.returns-in-Some-clause-ok
returns-in-Some-clause-ok c =
    former_ok c.args.nodes.now c.args.mounted.now.state c.args.path.now c.in-Ok-Some.names.items c.in-Some.front.now c.in-Some.last.now
    (named c) (sym c.deref.ensures.value ∙ c.in-Some.ensures.cases.0) c.former_behind.result c.former_behind.ensures.ok

pub returns-in-Some-clause-err : goal.returns-in-Some-clause-err
returns-in-Some-clause-err c =
    former_err c.args.nodes.now c.args.mounted.now.state c.args.path.now c.in-Ok-Some.names.items c.in-Some.front.now c.in-Some.last.now
    (named c) (sym c.deref.ensures.value ∙ c.in-Some.ensures.cases.0) c.former_behind.result c.former_behind.ensures.err
