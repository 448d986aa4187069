use Rattle.std.proofs.Common.{[], ◌∷◌, ap, ◌∙◌, sym, refl}
use Rattle.jextract.specs.Folders.{Attributed}
use Rattle.jextract.specs.Outcomes.{Do, attributes_of, lost_completed, plan_completed}
use Rattle.jextract.proofs.MakingLemmas.{ReportsMore-nil, one_fails}
use Rattle.jextract.proofs.making.complete_at.Goals as goal

pub returns-in_default-clause-follows : goal.returns-in_default-clause-follows
returns-in_default-clause-follows g c = ([], ap (plan_completed c.args.owners) (sym c.object.ensures ∙ c.in_default.is), ReportsMore-nil (g.F.Folder.made c.args.folder.now), refl)

pub returns-in_default-clause-lost : goal.returns-in_default-clause-lost
returns-in_default-clause-lost g c = sym (ap (lost_completed c.args.owners) (sym c.object.ensures ∙ c.in_default.is))

pub returns-in_err-finish_directory-clause-follows : goal.returns-in_err-finish_directory-clause-follows
returns-in_err-finish_directory-clause-follows g c =
    let put = c.in_err-finish_directory.ensures in
    one_fails (Unit {0}) _ _ _ (Attributed (attributes_of c.args.owners c.in-Some.object)) c.in_err-finish_directory.field-0.0 _
    (ap (plan_completed c.args.owners) (sym c.object.ensures ∙ c.in-Some.is)) put.adds put.counts c.from_residual.ensures.1

pub returns-clause-follows : goal.returns-clause-follows
returns-clause-follows g c =
    let put = c.in_ok-finish_directory.ensures in (
      Attributed c.attributes_of.result ∷ [],
      ap (plan_completed c.args.owners) (sym c.object.ensures ∙ c.in-Some.is) ∙ ap (λ a. Do (Attributed a ∷ [])) (sym c.attributes_of.ensures),
      put.adds,
      put.counts,
    )

pub returns-clause-lost : goal.returns-clause-lost
returns-clause-lost g c = c.loses_bits.ensures ∙ sym (ap (lost_completed c.args.owners) (sym c.object.ensures ∙ c.in-Some.is))
