use Rattle.std.proofs.Common.{◌++◌, ◌∙◌, ap, sym, Result, Ok, Err, OnOk}
use Rattle.std.specs.Prelude.{◌==◌, ◌&&◌}
use Rattle.std.proofs.lemmas.List.Sorted.{list_any-IsPermutation}
use Rattle.jmount.specs.declared.object.Kind.{Kind}
use Rattle.jgaps.specs.Gaps.{gaps_by_kind, has_place, is_covered}
use Rattle.jgaps.specs.declared.fields.Stretch.{Stretch}
use Rattle.jgaps.proofs.finding.push_object.Goals as goal

on_ok : {X Y : Type 0} (r : Result X Y) (A B : Type 0) → (A → B) → OnOk r A → OnOk r B
on_ok (Ok x) A B f a = f a
on_ok (Err y) A B f a = a

pub returns-in-Regular : goal.returns-in-Regular
returns-in-Regular c =
    on_ok c.push_gaps.result _ _
    (λ pushed. λ all same.
    pushed (is_covered all c.args.ino)
    (λ place less. list_any-IsPermutation (λ (s : Stretch). (s.ino == c.args.ino) && has_place place s) all c.args.sound.now same ∙ c.of_object.ensures.cover place)
    ∙ ap (λ (k : Kind). c.args.gaps.now.items ++ gaps_by_kind all c.args.ino c.args.object.now.size k) (sym c.in-Regular.is))
    c.push_gaps.ensures
