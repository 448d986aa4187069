use Rattle.std.proofs.Common.{◌-◌, ap, ◌∙◌, length, List}
use Rattle.std.specs.List.{slice_get}
use Rattle.jfolder.specs.declared.tree.Item.{Item}
use Rattle.jfolder.proofs.TreeLemmas.{next_after_last, next_of_none}
use Rattle.jfolder.proofs.reading.Walk.is_next.Goals as goal

pub returns-in-Some : goal.returns-in-Some
returns-in-Some c =
    let next = next_after_last c.args.self.now.items.items c.in-Some.item.now c.args.path.now
    (c.in-Some.ensures.value ∙ ap (λ (l : List Item). slice_get l (length l - 1)) c.as_slice.ensures.value) in
    cc

pub returns-in-None : goal.returns-in-None
returns-in-None c =
    next_of_none c.args.self.now.items.items c.args.path.now
    (c.in-None.ensures.value ∙ ap (λ (l : List Item). slice_get l (length l - 1)) c.as_slice.ensures.value)
