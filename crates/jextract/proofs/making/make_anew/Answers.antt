use Rattle.std.proofs.Common.{[], ◌∷◌, ap}
use Rattle.jmount.specs.Shown.{readable}
use Rattle.jmount.specs.declared.object.Kind.{Kind}
use Rattle.jextract.specs.Cells.{cells_of}
use Rattle.jextract.specs.Folders.{Content, Directory, File}
use Rattle.jextract.specs.Outcomes.{plan_anew}
use Rattle.jextract.proofs.MakingLemmas.{does_fail, one_fails}
use Rattle.jextract.proofs.making.make_anew.Goals as goal

pub returns-in_err-make_directory-in-Directory : goal.returns-in_err-make_directory-in-Directory
returns-in_err-make_directory-in-Directory g c =
    let bytes = readable c.args.mounted.now.state c.args.ino in
    let put = c.in_err-make_directory-in-Directory.ensures in
    one_fails (Unit {0}) _ _ _ Directory c.in_err-make_directory-in-Directory.field-0.0 _
    (ap (λ (kind : Kind). plan_anew kind bytes c.args.attributes) c.in-Directory.is) put.adds put.counts c.from_residual.ensures.1

pub returns-in_err-make_file-in-Regular : goal.returns-in_err-make_file-in-Regular
returns-in_err-make_file-in-Regular g c =
    let bytes = readable c.args.mounted.now.state c.args.ino in
    does_fail (Unit {0}) _ _ _ (File ∷ Content (cells_of bytes) c.args.attributes ∷ []) c.in_err-make_file-in-Regular.field-0.0 _
    (ap (λ (kind : Kind). plan_anew kind bytes c.args.attributes) c.in-Regular.is) c.in_err-make_file-in-Regular.ensures
    c.from_residual-in_err-make_file-in-Regular.ensures.1

pub returns-in_ok-make_directory-in-Directory : goal.returns-in_ok-make_directory-in-Directory
returns-in_ok-make_directory-in-Directory g c =
    let bytes = readable c.args.mounted.now.state c.args.ino in
    let put = c.in_ok-make_directory-in-Directory.ensures in
    (Directory ∷ [], ap (λ (kind : Kind). plan_anew kind bytes c.args.attributes) c.in-Directory.is, put.adds, put.counts)

pub returns-in_ok-make_file-in-Regular : goal.returns-in_ok-make_file-in-Regular
returns-in_ok-make_file-in-Regular g c =
    let bytes = readable c.args.mounted.now.state c.args.ino in
    let put = c.in_ok-make_file-in-Regular.ensures in
    (File ∷ Content (cells_of bytes) c.args.attributes ∷ [], ap (λ (kind : Kind). plan_anew kind bytes c.args.attributes) c.in-Regular.is, put.0, put.1)
