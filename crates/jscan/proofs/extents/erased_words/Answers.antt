use Rattle.std.proofs.Common.{◌∙◌, ◌-◌, ap, max}
use Rattle.jscan.proofs.ExtentLemmas.{erased_most}
use Rattle.jscan.proofs.extents.erased_words.Goals as goal

pub returns-clause-begins : goal.returns-clause-begins
returns-clause-begins g c =
    erased_most _ _ _ _ _ _ c.requires.whole_words c.requires.words c.requires.begins c.erased_run_of.ensures.erased (c.saturating_sub-most.ensures ∙ ap (λ n. n - 8) c.len.ensures)
    (c.max.ensures ∙ ap (λ n. max n c.args.begun) c.min.ensures)
