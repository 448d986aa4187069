use Rattle.std.proofs.Common.{ap, ◌∙◌, drop}
use Rattle.jdiff.proofs.PairLemmas.{not_none, passed}
use Rattle.jdiff.proofs.pair.Side.pass.Goals as goal

pub returns : goal.returns
returns c =
    passed c.self.inside.mounted.now.state c.self.inside.next c.next_behind-self-inside.result c.self.inside.left c.next_behind-self-inside.new.names
    (not_none c.self.inside.next c.is_none.result c.is_none.ensures c.if-is_none.false) c.next_behind-self-inside.ensures
    ∙ ap (drop 1) c.self.view_is
