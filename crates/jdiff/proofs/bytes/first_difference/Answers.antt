use Rattle.std.proofs.Common.{◌≡◌, ◌+◌, ◌-◌, ℕ, List, take, drop, sym, ap, ◌∙◌, subst, arith}
use Rattle.std.proofs.lemmas.List.{length-take}
use Rattle.jmount.specs.Shown.{readable}
use Rattle.jdiff.specs.Changes.{first_difference}
use Rattle.jdiff.proofs.ByteLemmas.{SameBelow, piece_of, same_on, differs_on}
use Rattle.jdiff.proofs.bytes.first_difference.Goals as goal

pub overflow_add-result : goal.overflow_add-result
overflow_add-result c =
    omega (arith, c.in-Some.ensures.within, c.read_at-count.ensures.count, length-take c.read_at-count.result c.read_at-count.new.out, c.loop-offset.invariant.near, c.ranges.size.fits)

pub returns-in-Some : goal.returns-in-Some
returns-in-Some c =
    let xs = readable c.args.left.now.state c.args.left_ino in
    let ys = readable c.args.right.now.state c.args.right_ino in
    let at = c.loop-offset.offset in
    let ours = piece_of xs c.loop-offset.ours c.read_at-count.new.out at c.read_at-count.result c.read_at-count.ensures.count (omega arith) c.read_at-count.ensures.bytes in
    let theirs = piece_of ys c.loop-offset.theirs c.read_at-other.new.out at c.read_at-other.result c.read_at-other.ensures.count (omega arith) c.read_at-other.ensures.bytes in
    let same : first_difference (take 4096 (drop at xs)) (take 4096 (drop at ys)) ≡ c.first_in.result =
    ap (λ (l : List ℕ). first_difference l (take 4096 (drop at ys))) (sym ours)
    ∙ ap (first_difference (take c.read_at-count.result c.read_at-count.new.out)) (sym theirs) ∙ sym c.first_in.ensures.place in
    sym (differs_on xs ys at 4096 c.in-Some.place c.loop-offset.invariant.same (same ∙ c.in-Some.is))

pub loop-offset-preserved : goal.loop-offset-preserved
loop-offset-preserved c =
    let xs = readable c.args.left.now.state c.args.left_ino in
    let ys = readable c.args.right.now.state c.args.right_ino in
    let at = c.loop-offset.offset in
    let ours = piece_of xs c.loop-offset.ours c.read_at-count.new.out at c.read_at-count.result c.read_at-count.ensures.count (omega arith) c.read_at-count.ensures.bytes in
    let theirs = piece_of ys c.loop-offset.theirs c.read_at-other.new.out at c.read_at-other.result c.read_at-other.ensures.count (omega arith) c.read_at-other.ensures.bytes in
    let same : first_difference (take 4096 (drop at xs)) (take 4096 (drop at ys)) ≡ c.first_in.result =
    ap (λ (l : List ℕ). first_difference l (take 4096 (drop at ys))) (sym ours)
    ∙ ap (first_difference (take c.read_at-count.result c.read_at-count.new.out)) (sym theirs) ∙ sym c.first_in.ensures.place in
    record { same = same_on xs ys at 4096 c.loop-offset.invariant.same (same ∙ c.in_default.is); near = omega arith }

pub loop-offset-preserved-then-offset-hole : goal.loop-offset-preserved-then-offset-hole
loop-offset-preserved-then-offset-hole c =
    let xs = readable c.args.left.now.state c.args.left_ino in
    let ys = readable c.args.right.now.state c.args.right_ino in
    let at = c.loop-offset.offset in
    let n : ℕ = c.common_hole-hole.result - at in
    let there : at + n ≡ c.common_hole-hole.result = omega arith in
    record {
      same = subst (SameBelow xs ys) there (same_on xs ys at n c.loop-offset.invariant.same c.common_hole-hole.ensures.same);
      near = omega (arith, c.common_hole-hole.ensures.left, c.requires.left, c.loop-offset.invariant.near);
    }
