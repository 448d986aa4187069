use Rattle.std.proofs.Common.{◌≡◌, ◌<◌, ◌||◌, ◌&&◌, ◌==◌, false, not, slice_index, bit_xor, refl, ap, ◌∙◌, arith}
use Rattle.std.proofs.lemmas.Bool.{ne_eqb, and_right, and_left}
use Rattle.jnode.proofs.CutLemmas.{walk_found, walk_past}
use Rattle.jnode.proofs.weak.with_byte.Goals as goal
use Rattle.jnode.proofs.weak.with_byte.Goals.{then-tail, else-tail, else-differs-via-then-differs+else-gap-eq0, else-differs-via-else-differs}

pub returns-then-gap-eq0 : goal.returns-then-gap-eq0
returns-then-gap-eq0 c =
    let xs = c.args.bytes.now in
    let p = c.args.place in
    let small : slice_index xs p < 256 = let it = c.type_inv.bytes p in omega arith in
    let flag : c.if-tail.differs ≡ (c.args.tail.differs || not (slice_index xs p == 0xFF)) = elim c.if-tail.branch [
      | then-tail w ↦ let is = w.if-tail.true in w.differs-is ∙ rw is refl
      | else-tail w ↦ let is = w.if-tail.false in w.differs-is ∙ rw is refl
    ] in
    walk_found xs p c.args.tail.gap c.pop_byte.result _ c.args.tail.differs c.if-tail.differs c.args.tail.least c.requires.within small (omega arith)
    c.pop_byte.ensures c.requires.behind (ap (bit_xor c.pop_byte.result) c.from.ensures) flag c.if-differs.true c.if-gap-eq0.true

pub returns-else-differs : goal.returns-else-differs
returns-else-differs c =
    let xs = c.args.bytes.now in
    let p = c.args.place in
    let small : slice_index xs p < 256 = let it = c.type_inv.bytes p in omega arith in
    let flag : c.if-tail.differs ≡ (c.args.tail.differs || not (slice_index xs p == 0xFF)) = elim c.if-tail.branch [
      | then-tail w ↦ let is = w.if-tail.true in w.differs-is ∙ rw is refl
      | else-tail w ↦ let is = w.if-tail.false in w.differs-is ∙ rw is refl
    ] in
    let none : (c.if-tail.differs && (bit_xor c.pop_byte.result c.from.result == 0)) ≡ false = elim c.else-differs.branch [
      | else-differs-via-then-differs+else-gap-eq0 w ↦ and_right _ _ (ne_eqb _ _ w.if-gap-eq0.false)
      | else-differs-via-else-differs w ↦ and_left _ _ w.if-differs.false
    ] in
    walk_past xs p c.args.tail.gap c.pop_byte.result _ c.args.tail.differs c.if-tail.differs c.args.tail.least c.requires.within small (omega arith)
    c.pop_byte.ensures c.requires.behind (ap (bit_xor c.pop_byte.result) c.from.ensures) flag none
