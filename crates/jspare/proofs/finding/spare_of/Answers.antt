use Rattle.std.proofs.Common.{ℕ, ◌∷◌, [], ◌++◌, take, get_or, refl, sym, subst, Some, arith}
use Rattle.std.proofs.lemmas.List.{take_more, take_all}
use Rattle.jspare.specs.Finding.{usual_layouts}
use Rattle.jspare.proofs.FindingLemmas.{IsFoundIn, passed_over, taken, found}
use Rattle.jspare.proofs.finding.spare_of.Goals as goal
use Rattle.jspare.proofs.finding.spare_of.Goals.{then-most-count, else-most-count}

pub loop-layout-preserved : goal.loop-layout-preserved
loop-layout-preserved c =
    let k : ℕ = c.loop-layout.layout-index in
    let dump = c.args.dump.now in
    let front = take_more usual_layouts k (record { page = 0; spare = 0 }) (omega (arith, c.loop-layout-test.true)) in
    let one = get_or usual_layouts k (record { page = 0; spare = 0 }) in
    let ls = take k usual_layouts ++ one ∷ [] in
    let before = c.loop-layout.invariant.found in
    let more : IsFoundIn ls dump c.if-most-count.best c.if-most-count.most =
    elim c.if-most-count.branch [
      | then-most-count w ↦
          subst (λ b. IsFoundIn ls dump b c.if-most-count.most) (sym w.best-is)
          (subst (λ m. IsFoundIn ls dump (Some one) m) (sym w.most-is)
          (taken (take k usual_layouts) dump c.loop-layout.best c.loop-layout.most one c.in_ok-count.count before
          c.in_ok-count.ensures w.if-most-count.true))
      | else-most-count w ↦
          subst (λ b. IsFoundIn ls dump b c.if-most-count.most) (sym w.best-is)
          (subst (λ m. IsFoundIn ls dump c.loop-layout.best m) (sym w.most-is)
          (passed_over (take k usual_layouts) dump c.loop-layout.best c.loop-layout.most one before
          (omega (arith, c.in_ok-count.ensures, w.if-most-count))))
    ] in
    record {
      layouts = refl;
      found = subst (λ l. IsFoundIn l dump c.if-most-count.best c.if-most-count.most) (sym front) more;
    }

pub returns : goal.returns
returns c =
    let whole = take_all c.loop-layout.layout-index usual_layouts (omega (arith, c.loop-layout-test.false)) in
    found usual_layouts c.args.dump.now c.loop-layout.best c.loop-layout.most
    (subst (λ ls. IsFoundIn ls c.args.dump.now c.loop-layout.best c.loop-layout.most) whole c.loop-layout.invariant.found)
