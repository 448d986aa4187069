use Rattle.std.proofs.Common.{ap, sym, ◌∙◌, length, take, List, ℕ}
use Rattle.jgaps.proofs.NodeLemmas.{front_is_long, front_is}
use Rattle.jgaps.specs.Fields.{node_front}
use Rattle.jgaps.proofs.fields.node_front.Goals as goal

pub copy_to-requires : goal.copy_to-requires
copy_to-requires c =
    sym (ap length c.slice.ensures ∙ ap (λ (l : List ℕ). length (take 68 l)) c.new.ensures ∙ front_is_long _)

pub returns : goal.returns
unfolding node_front
returns c =
    c.copy_to.ensures ∙ c.slice.ensures ∙ ap (take 68) c.new.ensures ∙ front_is c.args.image.now c.args.addr c.min-from.result c.min-from.ensures
