use Rattle.jfolders.proofs.FolderSteps.{kept_done, listable}
use Rattle.jfolders.proofs.keeping.keep_through.Goals as goal

pub returns : goal.returns
returns g c =
    let read = c.read_folder-answer in
    kept_done _ read.result c.errors-errors.ensures.same c.errors-errors.ensures.sound
    c.errors-errors.ensures.empty
    (listable _ _ read.result read.ensures.fits read.ensures.tree read.ensures.rises
    read.ensures.options read.ensures.root read.ensures.told read.ensures.objects
    read.ensures.links) read.ensures.notes c.stop_of.ensures c.close_whole-closed.ensures
    c.close_errors.ensures c.kept_as.ensures
