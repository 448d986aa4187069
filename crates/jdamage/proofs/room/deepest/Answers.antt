use Rattle.std.proofs.Common.{◌+◌, ◌<◌, arith}
use Rattle.std.proofs.lemmas.List.Elements.{All-map}
use Rattle.jdamage.specs.Ways.{NameOf, depth, name_held}
use Rattle.jdamage.proofs.room.deepest.Goals as goal

pub returns-clause-room : goal.returns-clause-room
returns-clause-room c =
    All-map (λ (n : NameOf). depth c.args.ways.now.up.mounted.now.state n.0 < c.loop-pino.most + 1) name_held c.args.names.now
    (λ k d less. c.loop-pino.invariant.below k d (omega (arith, less, c.loop-pino-test.false)))
