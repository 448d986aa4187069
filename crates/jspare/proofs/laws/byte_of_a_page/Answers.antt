use Rattle.std.proofs.Common.{◌+◌, ◌*◌, ◌/◌, ◌%◌, ℕ, suc, length, sym, ap, ◌∙◌, Some, arith}
use Rattle.std.proofs.lemmas.Option.{slice_get-get_or}
use Rattle.jspare.specs.Spare.{without_spare}
use Rattle.jspare.proofs.PageLemmas.{byte_of_pages}
use Rattle.jspare.proofs.laws.byte_of_a_page.Goals as goal

pub returns : goal.returns
returns c layout dump i some below =
    let pages : ℕ = length dump / (layout.page + layout.spare) in
    let at = byte_of_pages layout dump (suc pages) i (omega arith) below in
    slice_get-get_or (without_spare layout dump) i 0 below ∙ ap Some at.same
    ∙ sym (slice_get-get_or dump (i / layout.page * (layout.page + layout.spare) + i % layout.page) 0 at.there)
