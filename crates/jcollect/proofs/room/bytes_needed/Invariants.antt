use Rattle.std.proofs.Common.{drop}
use Rattle.jcollect.proofs.RoomLemmas.{Counting}
use Rattle.jcollect.proofs.room.bytes_needed.Given as goal

abbrev pub invariant-loop-addr : goal.invariant-loop-addr
invariant-loop-addr g l = Counting g.E.Order.order l.fn.geometry.block l.fn.blocks l.image l.addresses (drop l.addr-index l.addresses) l.tally.needed l.tally.room
