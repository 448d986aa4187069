-- Updates of images with compressed data.
use Rattle.jmount.specs.StateOf.{state_of}
use Rattle.jexpand.specs.Expanded.{expanded_nodes}
use Rattle.jlog.proofs.HeadlineThroughLemmas.{all_fit_through, forms_survive}
use Rattle.jlog.proofs.ResumeLemmas.{holds_parts}
use Rattle.jrow.proofs.TailLemmas.{forms_survive_in_row}
use Rattle.jtree.specs.UpdatesThrough.{UpdatesAreWholeThrough, UpdatesAreWholeInRow}
use Rattle.jtree.proofs.WholeFilesLemmas.{steps_keep_files_whole}

pub whole_through : UpdatesAreWholeThrough
whole_through page e size blocks n base ops forms is_page room is_base are fits update all weak k image within left =
    let survive = forms_survive page e size blocks n base ops forms is_page room is_base are fits all in (
      _,
      survive.cuts weak k image within left,
      steps_keep_files_whole page (expanded_nodes e size base) ops n _ is_page (all_fit_through e size base (holds_parts size blocks base is_base.flash).readable are) is_base.mounts.root fits update,
    )

pub whole_in_row : UpdatesAreWholeInRow
whole_in_row page e size blocks n base ops forms is_page room is_base are fits update all weak k image within left =
    let survive = forms_survive_in_row page e size blocks n base ops forms is_page room is_base are fits all in (
      _,
      survive.cuts weak k image within left,
      steps_keep_files_whole page (expanded_nodes e size base) ops n _ is_page (all_fit_through e size base (holds_parts size blocks base is_base.flash).readable are) is_base.mounts.root fits update,
    )
