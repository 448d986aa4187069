use Rattle.std.proofs.Common.{rules, ◌≡◌, Some, None}
use Rattle.std.specs.Prelude.{IsSome}
use Rattle.std.specs.Ordering.{nat_cmp}
use Rattle.std.specs.BTreeMap.{Updates, get}
use Rattle.jmount.proofs.KeptLemmas.{same_with, keeps_with, keeps_without}
use Rattle.jmount.proofs.directories.keep_in.Goals as goal

pub returns-in-Some-clause-same : goal.returns-in-Some-clause-same
returns-in-Some-clause-same c =
    let was : get nat_cmp c.args.objects.now c.args.ino ≡ Some c.in-Some.stored.now = search rules in
    let there : IsSome (get nat_cmp c.args.objects.now c.args.ino) = search rules in
    let replaced : Updates nat_cmp c.args.objects.now (c.get_mut.follows.lender c.keep.new.stored) c.args.ino (Some c.keep.new.stored) = (c.get_mut.follows.holds c.keep.new.stored).3 there in
    same_with c.args.objects.now (c.get_mut.follows.lender c.keep.new.stored) c.args.ino c.in-Some.stored.now c.keep.new.stored was replaced c.keep.ensures.same

pub returns-in-Some-clause-directories : goal.returns-in-Some-clause-directories
returns-in-Some-clause-directories c =
    let was : get nat_cmp c.args.objects.now c.args.ino ≡ Some c.in-Some.stored.now = search rules in
    let there : IsSome (get nat_cmp c.args.objects.now c.args.ino) = search rules in
    let replaced : Updates nat_cmp c.args.objects.now (c.get_mut.follows.lender c.keep.new.stored) c.args.ino (Some c.keep.new.stored) = (c.get_mut.follows.holds c.keep.new.stored).3 there in
    keeps_with c.args.objects.now (c.get_mut.follows.lender c.keep.new.stored) c.args.ino c.args.dir c.in-Some.stored.now c.keep.new.stored was replaced c.keep.ensures.directory

pub returns-in-None-clause-directories : goal.returns-in-None-clause-directories
returns-in-None-clause-directories c =
    let unchanged : c.get_mut.follows.lender-at-none ≡ c.args.objects.now = search rules in
    let none : get nat_cmp c.args.objects.now c.args.ino ≡ None = search rules in
    keeps_without c.args.objects.now c.get_mut.follows.lender-at-none c.args.ino c.args.dir none unchanged
