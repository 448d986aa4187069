use Rattle.std.proofs.Common.{rules, ◌≡◌, List, ◌∷◌, ◌++◌, [], sym, ◌∙◌, subst}
use Rattle.std.proofs.lemmas.Bool.{true≢false}
use Rattle.jmount.proofs.ShapingLemmas.{Name, AreHeld, none_held, not_held, one_held, all_held}
use Rattle.jmount.proofs.shape.held.Goals as goal
use Rattle.jmount.proofs.shape.held.Goals.{else-ino-ne-ROOT-via-then-ino-ne-ROOT+then-is_directory+else-is_directory-2, else-ino-ne-ROOT-via-then-ino-ne-ROOT+else-is_directory, else-ino-ne-ROOT-via-else-ino-ne-ROOT}

pub loop-dir-init : goal.loop-dir-init
loop-dir-init c = record {
  can = tt;
  finite = tt;
  so_far = ([], none_held c.args.tree.now c.into_iter-dir-iterator.result c.new-held.result (c.into_iter-dir-iterator.ensures.into_iter_gives ∙ c.names-dir-items.ensures) c.new-held.ensures.empty);
}

pub loop-dir-preserved-then-is_directory-2 : goal.loop-dir-preserved-then-is_directory-2
loop-dir-preserved-then-is_directory-2 c =
    let s = c.args.tree.now in
    let x : Name = (c.in-Some.dir, c.in-Some.field-0-1.now, c.in-Some.ino) in
    let is : c.loop-dir.dir-iterator ≡ x ∷ c.next.new.self = search rules in
    let so_far = c.loop-dir.invariant.so_far in
    record {
      can = tt;
      finite = tt;
      so_far = (
        so_far.0 ++ x ∷ [],
        one_held s so_far.0 c.loop-dir.dir-iterator c.next.new.self x c.loop-dir.held c.insert.new.self is (c.if-ino-ne-ROOT.true, sym c.is_directory.ensures ∙ c.if-is_directory.true)
            (sym c.is_directory-then-is_directory.ensures ∙ c.if-is_directory-2.true) c.in_ok-insert.ensures.updates.0 so_far.1,
      );
    }

pub loop-dir-preserved : goal.loop-dir-preserved
loop-dir-preserved c =
    let s = c.args.tree.now in
    let x : Name = (c.in-Some.dir, c.in-Some.field-0-1.now, c.in-Some.ino) in
    let is : c.loop-dir.dir-iterator ≡ x ∷ c.next.new.self = search rules in
    let so_far = c.loop-dir.invariant.so_far in
    elim c.else-ino-ne-ROOT.branch [
      | else-ino-ne-ROOT-via-then-ino-ne-ROOT+then-is_directory+else-is_directory-2 w ↦
          record {
            can = tt;
            finite = tt;
            so_far = (
              so_far.0 ++ x ∷ [],
              not_held s so_far.0 c.loop-dir.dir-iterator c.next.new.self x c.loop-dir.held is (λ below dir. true≢false (sym dir ∙ sym w.is_directory-then-is_directory.ensures ∙ w.if-is_directory-2.false)) so_far.1,
            );
          }
      | else-ino-ne-ROOT-via-then-ino-ne-ROOT+else-is_directory w ↦
          record {
            can = tt;
            finite = tt;
            so_far = (
              so_far.0 ++ x ∷ [],
              not_held s so_far.0 c.loop-dir.dir-iterator c.next.new.self x c.loop-dir.held is (λ below dir. true≢false (sym below.1 ∙ sym w.is_directory.ensures ∙ w.if-is_directory.false)) so_far.1,
            );
          }
      | else-ino-ne-ROOT-via-else-ino-ne-ROOT w ↦
          record {
            can = tt;
            finite = tt;
            so_far = (
              so_far.0 ++ x ∷ [],
              not_held s so_far.0 c.loop-dir.dir-iterator c.next.new.self x c.loop-dir.held is (λ below dir. below.0 w.if-ino-ne-ROOT.false) so_far.1,
            );
          }
    ]

pub returns : goal.returns
returns c =
    let so_far = c.loop-dir.invariant.so_far in
    let s = c.args.tree.now in
    all_held s so_far.0 c.loop-dir.held (subst (λ (rest : List Name). AreHeld s so_far.0 rest c.loop-dir.held) c.in-None.ensures.steps.0 so_far.1)
