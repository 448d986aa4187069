use Rattle.std.proofs.Common.{rules, ◌≡◌, ◌-◌, ◌+◌, ◌<◌, ◌≤◌, ◌++◌, length, take, drop, sym, ap, ◌∙◌, subst, arith, ℕ, replicate}
use Rattle.std.proofs.lemmas.List.{take_at}
use Rattle.jscan.specs.Image.{greatest_image}
use Rattle.jscan.specs.Stream.{IsNextBlock}
use Rattle.jscan.proofs.StreamLemmas.{next_block}
use Rattle.jscan.proofs.stream.BlockReader.advance.Goals as goal

pub returns-else-filled-eq0 : goal.returns-else-filled-eq0
returns-else-filled-eq0 g c =
    let old = c.args.self.now in
    let size = old.buffer.len in
    let block = c.fill_block.new.block in
    let n = c.in-Ok.filled in
    let step = c.in-Ok.ensures in
    let long : length block ≡ size = c.fill_block.ensures.whole ∙ c.deref_mut.ensures.len in
    let some : 0 < n = omega (arith, c.if-filled-eq0.false) in
    let shown : take size (block ++ drop (length block) old.buffer.items) ≡ block = take_at block (drop (length block) old.buffer.items) size long in
    let room : old.start + n ≤ greatest_image = omega (arith, some, step.within.1) in
    let next : IsNextBlock size old.start (g.S.Source.rest old.source) (g.S.Source.rest c.fill_block.new.source) block =
    next_block _ _ size old.start n block long some (omega (arith, step.within.0, long)) room step.bytes (λ short. step.end (omega (arith, short, long)))
    (step.filled ∙ ap (λ (m : ℕ). take n block ++ replicate (m - n) 0xFF) long) in
    record {
      reading = search rules;
      not_ended = search rules;
      whole = ap length shown ∙ long;
      begins = omega (arith, some, room);
      bytes = subst (IsNextBlock size old.start (g.S.Source.rest old.source) (g.S.Source.rest c.fill_block.new.source)) (sym shown) next;
      same_size = search rules;
      moves_on = search rules;
      none_failed = search rules;
      going_on = search rules;
    }
