use Rattle.std.proofs.Common.{ℕ, List, [], ◌∷◌, ap, ◌∙◌, sym, subst, arith}
use Rattle.jmount.specs.Shown.{readable}
use Rattle.jextract.specs.Folders.{ReportsMore, Symlink}
use Rattle.jextract.specs.Outcomes.{is_target}
use Rattle.jextract.proofs.PathLemmas.{target_read}
use Rattle.jextract.proofs.MakingLemmas.{one_fails, symlink_planned}
use Rattle.jextract.proofs.making.make_symlink.Goals as goal

pub returns-in_err-make_symlink : goal.returns-in_err-make_symlink
returns-in_err-make_symlink g c =
    let bytes = readable c.args.mounted.now.state c.args.ino in
    let put = c.in_err-make_symlink.ensures in
    let same = target_read bytes _ c.read_at-count.new.out c.read_at-count.result c.read_at-count.ensures.count c.read_at-count.ensures.bytes (omega (arith, c.requires)) in
    one_fails (Unit {0}) _ _ _ (Symlink bytes c.args.attributes) c.in_err-make_symlink.field-0.0 _
    (symlink_planned bytes c.args.attributes (ap is_target (sym same) ∙ c.in-Some.ensures.1)) put.adds put.counts c.from_residual.ensures.1

pub returns : goal.returns
returns g c =
    let bytes = readable c.args.mounted.now.state c.args.ino in
    let put = c.in_ok-make_symlink.ensures in
    let same = target_read bytes _ c.read_at-count.new.out c.read_at-count.result c.read_at-count.ensures.count c.read_at-count.ensures.bytes (omega (arith, c.requires)) in (
      Symlink bytes c.args.attributes ∷ [],
      symlink_planned bytes c.args.attributes (ap is_target (sym same) ∙ c.in-Some.ensures.1),
      subst (λ (t : List ℕ). ReportsMore (g.F.Folder.made c.args.folder.now) (g.F.Folder.made c.make_symlink.new.self) (record { path = c.args.path.now; deed = Symlink t c.args.attributes } ∷ []))
          (c.in-Some.ensures.0 ∙ same) put.adds,
      put.counts,
    )
