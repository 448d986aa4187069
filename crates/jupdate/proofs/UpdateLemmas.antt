-- Updates in openings.
use Rattle.jexpand.specs.Expanded.{expanded_nodes}
use Rattle.jlog.proofs.HeadlineThroughLemmas.{all_fit_through}
use Rattle.jlog.proofs.ResumeLemmas.{holds_parts}
use Rattle.jrests.proofs.SurviveLemmas.{forms_survive_in_openings}
use Rattle.jtree.proofs.WholeFilesLemmas.{steps_keep_files_whole}
use Rattle.jupdate.specs.Updates.{UpdatesAreWholeInOpenings}

pub whole_in_openings : UpdatesAreWholeInOpenings
whole_in_openings page e size blocks n base row ops forms is_page room is_base are fits update openings all weak k image left =
    let survive = forms_survive_in_openings page e size blocks n base row ops forms is_page room is_base are fits openings all in (
      _,
      survive.cuts weak k image left,
      steps_keep_files_whole page (expanded_nodes e size base) ops n _ is_page (all_fit_through e size base (holds_parts size blocks base is_base.flash).readable are) is_base.mounts.root fits update,
    )
