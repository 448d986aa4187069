use Rattle.std.proofs.Common.{rules, ◌≡◌, ◌<◌, ◌^◌, ℕ, List, ◌∷◌, sym, subst}
use Rattle.std.specs.Cmp.{nat_cmp_total}
use Rattle.std.proofs.lemmas.Map.Views.{All-found}
use Rattle.jnode.specs.declared.node.InodeNode.{InodeNode}
use Rattle.jfrag.specs.Pieces.{end_of}
use Rattle.jmount.specs.declared.versions.Versions.{Versions}
use Rattle.jmount.specs.StateOf.{piece_of}
use Rattle.jmount.proofs.KeptLemmas.{none_kept, none_with_one_more}
use Rattle.jmount.proofs.StoringLemmas.{AreDone, AreLeft, none_done, first_left, others_left, first_done, by_version-of, All-of_number}
use Rattle.jmount.proofs.storing.objects_of.Goals as goal

pub loop-ino-init : goal.loop-ino-init
loop-ino-init c =
    let all : c.into_iter-ino-iterator.result ≡ c.args.numbers.entries = search rules in
    record {
      can = tt;
      finite = tt;
      left = subst (λ (es : List (ℕ × Versions)). AreLeft c.args.numbers es) (sym all) (All-found nat_cmp_total c.args.numbers c.into_iter-ino-iterator.ensures.into_iter_gives.5);
      done = subst (λ (es : List (ℕ × Versions)). AreDone c.args.numbers es c.new-objects.result) (sym all) (none_done c.args.numbers c.new-objects.result c.new-objects.ensures.empty);
      none = none_kept c.new-objects.result c.new-objects.ensures.empty;
      ordered = c.new-objects.ensures.ordered;
    }

pub object_of-requires-clause-by_version : goal.object_of-requires-clause-by_version
object_of-requires-clause-by_version c =
    let is : c.loop-ino.ino-iterator ≡ (c.in-Some.ino, c.in-Some.versions) ∷ c.next.new.self = search rules in
    by_version-of c.args.numbers c.requires.keyed c.in-Some.ino c.in-Some.versions
    (first_left c.args.numbers c.loop-ino.ino-iterator c.next.new.self c.in-Some.ino c.in-Some.versions is c.loop-ino.invariant.left)

pub object_of-requires-clause-ends : goal.object_of-requires-clause-ends
object_of-requires-clause-ends c =
    let is : c.loop-ino.ino-iterator ≡ (c.in-Some.ino, c.in-Some.versions) ∷ c.next.new.self = search rules in
    All-of_number (λ (node : InodeNode). end_of (piece_of node) < 2 ^ 32) c.args.numbers c.in-Some.ino c.in-Some.versions
    (first_left c.args.numbers c.loop-ino.ino-iterator c.next.new.self c.in-Some.ino c.in-Some.versions is c.loop-ino.invariant.left) c.requires.ends

pub loop-ino-preserved : goal.loop-ino-preserved
loop-ino-preserved c =
    let is : c.loop-ino.ino-iterator ≡ (c.in-Some.ino, c.in-Some.versions) ∷ c.next.new.self = search rules in
    record {
      can = tt;
      finite = tt;
      left = others_left c.args.numbers c.loop-ino.ino-iterator c.next.new.self c.in-Some.ino c.in-Some.versions is c.loop-ino.invariant.left;
      done = first_done c.args.numbers c.loop-ino.objects c.insert.new.self c.loop-ino.ino-iterator c.next.new.self c.in-Some.ino c.in-Some.versions c.in_ok-object_of.field-0 is
          c.loop-ino.invariant.left c.loop-ino.invariant.done c.in_ok-object_of.ensures.made c.in_ok-insert.ensures.updates;
      none = none_with_one_more c.loop-ino.objects c.insert.new.self c.in-Some.ino c.in_ok-object_of.field-0 c.in_ok-insert.ensures.updates c.in_ok-object_of.ensures.none c.loop-ino.invariant.none;
      ordered = c.in_ok-insert.ensures.ordered;
    }

pub loop-ino-preserved-in_ok-insert : goal.loop-ino-preserved-in_ok-insert
loop-ino-preserved-in_ok-insert c =
    let is : c.loop-ino.ino-iterator ≡ (c.in-Some.ino, c.in-Some.versions) ∷ c.next.new.self = search rules in
    record {
      can = tt;
      finite = tt;
      left = others_left c.args.numbers c.loop-ino.ino-iterator c.next.new.self c.in-Some.ino c.in-Some.versions is c.loop-ino.invariant.left;
      done = first_done c.args.numbers c.loop-ino.objects c.insert.new.self c.loop-ino.ino-iterator c.next.new.self c.in-Some.ino c.in-Some.versions c.in_ok-object_of.field-0 is
          c.loop-ino.invariant.left c.loop-ino.invariant.done c.in_ok-object_of.ensures.made c.in_ok-insert.ensures.updates;
      none = none_with_one_more c.loop-ino.objects c.insert.new.self c.in-Some.ino c.in_ok-object_of.field-0 c.in_ok-insert.ensures.updates c.in_ok-object_of.ensures.none c.loop-ino.invariant.none;
      ordered = c.in_ok-insert.ensures.ordered;
    }
