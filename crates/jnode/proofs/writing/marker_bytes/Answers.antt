use Rattle.jnode.proofs.MarkerLemmas.{marker_spelled}
use Rattle.jnode.proofs.writing.marker_bytes.Goals as goal

pub returns : goal.returns
returns g c =
    marker_spelled g.E.Order.order c.u16_bytes.result c.u16_bytes-2.result c.u32_bytes.result c.u32_bytes-2.result c.crc.result
    c.u16_bytes.ensures c.u16_bytes-2.ensures c.u32_bytes.ensures c.crc.ensures c.u32_bytes-2.ensures
