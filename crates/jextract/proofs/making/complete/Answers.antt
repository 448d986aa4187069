use Rattle.std.proofs.Common.{map, None, ap, ◌∙◌, sym, Ok}
use Rattle.jextract.specs.Outcomes.{Complete}
use Rattle.jextract.proofs.MakingLemmas.{works_without_path, works_as_planned}
use Rattle.jextract.proofs.making.complete.Goals as goal

pub returns-in_err-path : goal.returns-in_err-path
returns-in_err-path g c =
    works_without_path c.args.mounted.now.state c.args.owners (λ i. None) (Complete (map (λ name. name.now) c.args.names.now) c.args.ino) (g.F.Folder.made c.args.folder.now)
    (g.F.Folder.failures c.args.folder.now) c.in_err-path.field-0.0 c.from_residual.result c.in_err-path.ensures c.from_residual.ensures.1

pub returns : goal.returns
returns g c =
    works_as_planned c.args.mounted.now.state c.args.owners (λ i. None) (Complete (map (λ name. name.now) c.args.names.now) c.args.ino) c.as_str.result.now
    (record { old = g.F.Folder.made c.args.folder.now; new = g.F.Folder.made c.complete_at.new.folder; before = g.F.Folder.failures c.args.folder.now; now = g.F.Folder.failures c.complete_at.new.folder })
    c.complete_at.result (c.in_ok-path.ensures ∙ ap Ok (sym c.as_str.ensures.value)) c.complete_at.ensures.follows c.complete_at.ensures.lost
