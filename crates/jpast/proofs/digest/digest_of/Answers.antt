use Rattle.std.proofs.Common.{◌≡◌, ℕ, ◌+◌, ◌≤◌, ◌++◌, List, length, take, drop, sym, ap, ◌∙◌, subst, arith}
use Rattle.std.proofs.lemmas.List.{length-drop}
use Rattle.sha2.specs.Hashers.{Holds256}
use Rattle.jmount.specs.Shown.{readable}
use Rattle.jpast.proofs.ContentLemmas.{more_taken, front_taken}
use Rattle.jpast.proofs.digest.digest_of.Goals as goal

pub loop-offset-preserved : goal.loop-offset-preserved
loop-offset-preserved c =
    let bytes : List ℕ = readable c.args.mounted.now.state c.args.ino in
    let at : ℕ = c.loop-offset.offset in
    let n : ℕ = c.read_at-count.result in
    let few : n ≤ length (drop at bytes) = omega (arith, c.read_at-count.ensures.count, length-drop at bytes) in
    let piece : take n c.read_at-count.new.out ≡ take n (drop at bytes) = front_taken n (drop at bytes) c.loop-offset.piece c.read_at-count.new.out few c.read_at-count.ensures.bytes in
    let held = c.update.ensures (take at bytes) c.loop-offset.invariant.held in
    let all : take (at + n) bytes ≡ take at bytes ++ take n c.read_at-count.new.out =
    more_taken bytes at n ∙ ap (λ (l : List ℕ). take at bytes ++ l) (sym piece) in
    record {
      held = subst (Holds256 c.update.new.self) (sym all) held;
      within = omega (arith, c.read_at-count.ensures.count, c.requires, c.loop-offset.invariant.within);
    }
