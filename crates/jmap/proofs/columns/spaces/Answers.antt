use Rattle.std.proofs.lemmas.List.{take-replicate}
use Rattle.jmap.proofs.columns.spaces.Goals as goal

pub returns : goal.returns
returns c = take-replicate c.args.count 20 32 c.requires
