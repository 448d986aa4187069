use Rattle.std.proofs.Common.{◌≡◌, ◌+◌, ◌<◌, ◌≤◌, ℕ, true, slice_index, bit_xor, sym, ap₂, ◌∙◌, subst, arith}
use Rattle.std.proofs.lemmas.Nat.{xor_lt}
use Rattle.jnode.specs.Tails.{Walked}
use Rattle.jnode.proofs.UndoLemmas.{four_at_once, four_popped, gap_before_four, only_four, word_of}
use Rattle.jnode.proofs.CutLemmas.{four_past, other_at}
use Rattle.jnode.proofs.weak.with_four.Goals as goal

pub returns : goal.returns
returns c =
    let xs = c.args.bytes.now in
    let p = c.args.place in
    let gap = c.args.tail.gap in
    let small : (i : ℕ) → slice_index xs i < 256 = λ i. let it = c.type_inv.bytes i in omega arith in
    let other : (i : ℕ) → other_at xs i < 256 = λ i. xor_lt 8 (slice_index xs i) 0xFF (small i) (omega arith) in
    let word : c.from_le_bytes-other.result ≡ word_of (other_at xs p) (other_at xs (p + 1)) (other_at xs (p + 2)) (other_at xs (p + 3)) =
    omega (arith, c.from_le_bytes-other.ensures) in
    let popped : c.pop_four.result ≡ four_popped gap = only_four c.pop_four.result gap (omega arith) (omega arith) c.pop_four.ensures in
    let is : bit_xor c.pop_four.result c.from_le_bytes-other.result ≡ gap_before_four gap (other_at xs (p + 3)) (other_at xs (p + 2)) (other_at xs (p + 1)) (other_at xs p) =
    ap₂ bit_xor popped word ∙ four_at_once gap (other_at xs p) (other_at xs (p + 1)) (other_at xs (p + 2)) (other_at xs (p + 3)) (omega arith) (other p) (other (p + 1)) (other (p + 2)) (other (p + 3)) in
    let wide : 0x1000000 ≤ bit_xor c.pop_four.result c.from_le_bytes-other.result = c.if-gap-lt16777216.false in
    subst (λ (g : ℕ). Walked xs p g true c.args.tail.least) (sym is)
    (four_past xs p gap c.args.tail.differs c.args.tail.least c.requires.within small (omega arith) c.requires.behind (subst (λ (g : ℕ). 0x1000000 ≤ g) is wide))
