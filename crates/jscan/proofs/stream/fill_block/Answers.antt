use Rattle.std.proofs.Common.{◌≡◌, ◌+◌, ◌-◌, ◌≤◌, ◌++◌, length, drop, take, sym, ap, ◌∙◌, subst, arith, length-drop, length-take, length-append}
use Rattle.std.specs.Io.KnownBytes.{Consumes}
use Rattle.std.proofs.KnownBytes.{Consumes-trans}
use Rattle.std.proofs.lemmas.List.{take_rest}
use borrow.Rule.Slice.PartMut.{put_mid, same_len_mid}
use Rattle.jscan.proofs.StreamLemmas.{take_more, stops_past}
use Rattle.jscan.proofs.stream.fill_block.Goals as goal

pub loop-filled-preserved : goal.loop-filled-preserved
loop-filled-preserved g c =
    let before = c.loop-filled.invariant in
    let block = c.loop-filled.block in
    let i = c.loop-filled.filled in
    let read = c.fill.new.buf in
    let step = c.in_ok-n.ensures in
    let part : length read ≡ length (take (length block - i) (drop i block)) = c.fill.auto.buf in
    let long : length read ≡ length block - i = part ∙ ap length (take_rest block i) ∙ length-drop i block in
    let few : c.in_ok-n.n ≤ length read = omega (arith, step.within, part) in
    let whole : length (put_mid i (length block - i) block read) ≡ length block = same_len_mid i (length block - i) block read part in
    record {
      within = omega (arith, whole, long, few, before.within);
      fits = omega (arith, before.fits);
      consumed = subst (Consumes _ _) (sym (take_more i c.in_ok-n.n block read before.within long few)) (Consumes-trans _ _ _ _ _ before.consumed step.bytes.0);
      none_failed = step.count ∙ before.none_failed;
    }

pub returns-then-room-filled-clause-passed : goal.returns-then-room-filled-clause-passed
returns-then-room-filled-clause-passed g c =
    let before = c.loop-filled.invariant in
    let block = c.loop-filled.block in
    let i = c.loop-filled.filled in
    let n = c.in_ok-n.n in
    let read = c.fill.new.buf in
    let step = c.in_ok-n.ensures in
    let part : length read ≡ length (take (length block - i) (drop i block)) = c.fill.auto.buf in
    let long : length read ≡ length block - i = part ∙ ap length (take_rest block i) ∙ length-drop i block in
    let few : n ≤ length read = omega (arith, step.within, part) in
    let more : length (take i block ++ take n read) ≡ i + n =
    length-append (take i block) (take n read) ∙ omega (arith, length-take i block, length-take n read, before.within, few) in
    λ is. stops_past _ _ _ _ _ (Consumes-trans _ _ _ _ _ before.consumed step.bytes.0) (omega (arith, more, before.fits)) (omega (arith, more, few, long, before.within))
