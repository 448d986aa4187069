use Rattle.std.proofs.Common.{sym, ap, subst, ◌∙◌, Vec, Global}
use Rattle.jdamage.specs.Ranges.{Sifted}
use Rattle.jgaps.specs.declared.fields.Stretch.{Stretch}
use Rattle.jdamage.proofs.RangeLemmas.{on_both, sifted_passed, sifted_pushed}
use Rattle.jdamage.proofs.ranges.keep.Goals.{then-touches+in_ok-push, else-touches}
use Rattle.jdamage.proofs.ranges.keep.Goals as goal

pub returns : goal.returns
returns c =
    on_both c.note_top.result _ _
    (λ noted lost all rest f s. elim c.if-touches.branch [
      | then-touches+in_ok-push w ↦
          sifted_pushed lost all rest c.args.found.now.items c.if-touches.found.items c.args.tops.now c.note_top.new.tops c.args.stretch s
          (ap (λ (v : Vec Stretch Global). v.items) w.found-is ∙ w.in_ok-push.ensures.items) noted
      | else-touches w ↦
          subst (λ (v : Vec Stretch Global). Sifted lost all rest v.items c.note_top.new.tops) (sym w.found-is)
          (sifted_passed lost all rest c.args.found.now.items c.args.tops.now c.note_top.new.tops c.args.stretch s (λ t. sym w.if-touches.false ∙ c.touches.ensures.yes lost f t) noted)
    ])
    c.note_top.ensures
