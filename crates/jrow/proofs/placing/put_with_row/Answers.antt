use Rattle.std.proofs.Common.{◌≡◌, ◌-◌, ◌<◌, ◌∙◌, ℕ, List, length, min, take, ap, subst, arith}
use Rattle.std.specs.Io.KnownBytes.{Appends}
use Rattle.flashbase.specs.Device.{PutsPart}
use Rattle.jrow.specs.RowLeft.{block_with, with_row}
use Rattle.jrow.proofs.BehindLemmas.{StopsBehind, goes_on, block_stopped}
use Rattle.jrow.proofs.PlacingLemmas.{begun_more, begun_failed}
use Rattle.jrow.proofs.WithRowLemmas.{with_long}
use Rattle.jrow.proofs.placing.put_with_row.Goals as goal

pub put_part-requires-clause-within : goal.put_part-requires-clause-within
put_part-requires-clause-within g c =
    let flash = c.args.flash.now in
    let size : ℕ = flash.geometry.block in
    let long : length c.block_with.result ≡ size =
    ap length c.block_with.ensures ∙ with_long size c.args.image.now flash.row.now c.args.written.now c.loop-block.block in
    omega (arith, c.min-held.ensures, long)

pub returns-in_err-put_part-clause-puts : goal.returns-in_err-put_part-clause-puts
returns-in_err-put_part-clause-puts g c =
    let flash = c.args.flash.now in
    let size : ℕ = flash.geometry.block in
    let f = block_with size c.args.image.now flash.row.now c.args.written.now in
    let held : ℕ = c.min-held.result in
    let least : held ≡ min c.loop-block.left size = c.min-held.ensures in
    let before = c.loop-block.invariant in
    let put = c.in_err-put_part.ensures.puts in
    begun_failed (g.S.Sink.taken c.args.sink.now) (g.S.Sink.taken c.loop-block.sink) (g.S.Sink.taken c.put_part.new.sink)
    (g.S.Sink.failures c.args.sink.now) (g.S.Sink.failures c.loop-block.sink) (g.S.Sink.failures c.put_part.new.sink)
    size c.args.len c.loop-block.block flash.blocks c.loop-block.left held f c.from_residual.result c.from_residual.ensures.0
    (with_long size c.args.image.now flash.row.now c.args.written.now) c.loop-block-test.true before.left least before.appended before.none_failed
    (subst (λ (l : List ℕ). PutsPart (g.S.Sink.taken c.loop-block.sink) (g.S.Sink.taken c.put_part.new.sink) (take held l)) c.block_with.ensures put.0) put.1

pub returns-in_err-put_part-clause-part : goal.returns-in_err-put_part-clause-part
returns-in_err-put_part-clause-part g c =
    let flash = c.args.flash.now in
    let size : ℕ = flash.geometry.block in
    let image : List ℕ = c.args.image.now in
    let row : List ℕ = flash.row.now in
    let written : List ℕ = c.args.written.now in
    let f = block_with size image row written in
    let held : ℕ = c.min-held.result in
    let least : held ≡ min c.loop-block.left size = c.min-held.ensures in
    let left : ℕ = c.loop-block.left in
    let before = c.loop-block.invariant in
    let stopped = c.in_err-put_part.ensures.part in
    goes_on c.from_residual.result c.in_err-put_part.field-0.0
    (λ fault. (fault.taken < c.args.len)
    × Appends (g.S.Sink.taken c.args.sink.now) (g.S.Sink.taken c.put_part.new.sink) (take fault.taken (with_row size flash.blocks image row written)))
    c.from_residual.ensures.1
    (block_stopped (g.S.Sink.taken c.args.sink.now) (g.S.Sink.taken c.loop-block.sink) (g.S.Sink.taken c.put_part.new.sink) size c.args.len c.loop-block.block flash.blocks
    left held c.in_err-put_part.field-0.0.taken f (with_long size image row written) c.loop-block-test.true before.left least before.appended
    (subst (λ (l : List ℕ). StopsBehind (c.args.len - left) (g.S.Sink.taken c.loop-block.sink) (g.S.Sink.taken c.put_part.new.sink) l held c.in_err-put_part.field-0.0.taken)
    c.block_with.ensures stopped))

pub loop-block-preserved : goal.loop-block-preserved
loop-block-preserved g c =
    let flash = c.args.flash.now in
    let size : ℕ = flash.geometry.block in
    let f = block_with size c.args.image.now flash.row.now c.args.written.now in
    let held : ℕ = c.min-held.result in
    let least : held ≡ min c.loop-block.left size = c.min-held.ensures in
    let before = c.loop-block.invariant in
    let put = c.in_ok-put_part.ensures.puts in
    record {
      appended = begun_more (g.S.Sink.taken c.args.sink.now) (g.S.Sink.taken c.loop-block.sink) (g.S.Sink.taken c.put_part.new.sink)
          size c.args.len c.loop-block.block c.loop-block.left held f (with_long size c.args.image.now flash.row.now c.args.written.now) before.left least before.appended
          (subst (λ (l : List ℕ). Appends (g.S.Sink.taken c.loop-block.sink) (g.S.Sink.taken c.put_part.new.sink) (take held l)) c.block_with.ensures put.0);
      none_failed = put.1 ∙ before.none_failed;
      left = omega (arith, least, before.left);
    }
