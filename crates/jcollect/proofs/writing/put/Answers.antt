use Rattle.std.proofs.Common.{◌+◌, ◌∙◌, ℕ, List, drop, slice_index, ap, arith}
use Rattle.flashbase.specs.Device.{next_count}
use Rattle.jcollect.proofs.PutLemmas.{putting_next, putting_failed, putting_end, slice_left, slice_end}
use Rattle.jcollect.proofs.writing.put.Goals as goal

pub put_tile-requires-clause-from : goal.put_tile-requires-clause-from
put_tile-requires-clause-from g c =
    let it = c.loop-addr.invariant.put c.requires in
    omega (arith, it.cursor.0, c.requires.small)

pub put_tile-requires-clause-word : goal.put_tile-requires-clause-word
put_tile-requires-clause-word g c = (c.loop-addr.invariant.put c.requires).cursor.1

pub loop-addr-preserved : goal.loop-addr-preserved
loop-addr-preserved g c =
    let addresses : List ℕ = c.args.addresses.now in
    let i : ℕ = c.loop-addr.addr-index in
    let put = c.in-Ok.ensures.puts in
    record {
      put = λ may.
          putting_next g.E.Order.order c.args.geometry.block may.blocks c.args.image.now addresses (drop i addresses) (drop (i + 1) addresses) (slice_index addresses i) c.loop-addr.from c.in-Ok.next
          _ _ _ may.readable (c.loop-addr.invariant.put may) (slice_left addresses i c.loop-addr-test.true) put.0 c.in-Ok.ensures.next;
      none_failed = put.1 ∙ c.loop-addr.invariant.none_failed;
    }

pub returns-in-Err : goal.returns-in-Err
returns-in-Err g c =
    let addresses : List ℕ = c.args.addresses.now in
    let i : ℕ = c.loop-addr.addr-index in
    let put = c.in-Err.ensures.puts in (
      putting_failed g.E.Order.order c.args.geometry.block c.requires.blocks c.args.image.now addresses (drop i addresses) (drop (i + 1) addresses) (slice_index addresses i) c.loop-addr.from
          _ _ _ c.requires.readable (c.loop-addr.invariant.put c.requires) (slice_left addresses i c.loop-addr-test.true) put.0,
      put.1 ∙ ap next_count c.loop-addr.invariant.none_failed,
    )

pub returns : goal.returns
returns g c =
    let addresses : List ℕ = c.args.addresses.now in
    let i : ℕ = c.loop-addr.addr-index in (
      putting_end g.E.Order.order c.args.geometry.block c.requires.blocks c.args.image.now addresses (drop i addresses) c.loop-addr.from _ _
          (c.loop-addr.invariant.put c.requires) (slice_end addresses i c.loop-addr-test.false),
      c.loop-addr.invariant.none_failed,
    )
