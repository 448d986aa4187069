use Rattle.std.proofs.Common.{rules, ◌≡◌, ◌∷◌, ◌++◌, [], refl, sym, ◌∙◌}
use Rattle.jname.specs.Live.{all_names}
use Rattle.jmount.proofs.KeptLemmas.{Name, keeps_begin, keeps_more, keeps_all, parents_begin, parents_first, parents_more}
use Rattle.jmount.proofs.SeveralLemmas.{notes_begin, notes_first, notes_further, notes_all}
use Rattle.jmount.proofs.directories.keep_directories.Goals as goal

pub loop-dir-init : goal.loop-dir-init
loop-dir-init c =
    let all : c.into_iter-dir-iterator.result ≡ all_names c.args.names.now = c.into_iter-dir-iterator.ensures.into_iter_gives ∙ c.all-dir-items.ensures in
    record {
      can = tt;
      finite = tt;
      parents = parents_begin c.args.names.now c.into_iter-dir-iterator.result all c.requires.parents;
      so_far = keeps_begin c.args.objects (all_names c.args.names.now) c.into_iter-dir-iterator.result c.requires.none all;
      several = ([], notes_begin c.args.objects (all_names c.args.names.now) c.into_iter-dir-iterator.result c.new-several.result c.requires.none all c.new-several.ensures.empty);
      same = λ i. refl;
      ordered = c.requires.ordered;
    }

pub keep_in-requires : goal.keep_in-requires
keep_in-requires c =
    let x : Name = (c.in-Some.dir, c.in-Some.field-0-1.now, c.in-Some.ino) in
    let is : c.loop-dir.dir-iterator ≡ x ∷ c.next.new.self = search rules in
    parents_first c.loop-dir.dir-iterator c.next.new.self x is c.loop-dir.invariant.parents

pub loop-dir-preserved-in_ok-insert : goal.loop-dir-preserved-in_ok-insert
loop-dir-preserved-in_ok-insert c =
    let x : Name = (c.in-Some.dir, c.in-Some.field-0-1.now, c.in-Some.ino) in
    let is : c.loop-dir.dir-iterator ≡ x ∷ c.next.new.self = search rules in
    let all = all_names c.args.names.now in
    let several = c.loop-dir.invariant.several in
    record {
      can = tt;
      finite = tt;
      parents = parents_more c.loop-dir.dir-iterator c.next.new.self x is c.loop-dir.invariant.parents;
      so_far = keeps_more c.loop-dir.objects c.keep_in.new.objects all c.loop-dir.dir-iterator c.next.new.self x is c.keep_in.ensures.same c.keep_in.ensures.directories c.loop-dir.invariant.so_far;
      several = (
        several.0 ++ x ∷ [],
        notes_further c.loop-dir.objects c.keep_in.new.objects all several.0 c.loop-dir.dir-iterator c.next.new.self x is c.keep_in.ensures.same c.keep_in.ensures.directories c.args.names.now refl
            c.loop-dir.several c.insert.new.self (sym c.keep_in.ensures.again ∙ c.if-keep_in.true) c.in_ok-insert.ensures.updates.0 several.1,
      );
      same = λ i. c.keep_in.ensures.same i ∙ c.loop-dir.invariant.same i;
      ordered = c.keep_in.ensures.ordered;
    }

pub loop-dir-preserved : goal.loop-dir-preserved
loop-dir-preserved c =
    let x : Name = (c.in-Some.dir, c.in-Some.field-0-1.now, c.in-Some.ino) in
    let is : c.loop-dir.dir-iterator ≡ x ∷ c.next.new.self = search rules in
    let all = all_names c.args.names.now in
    let several = c.loop-dir.invariant.several in
    record {
      can = tt;
      finite = tt;
      parents = parents_more c.loop-dir.dir-iterator c.next.new.self x is c.loop-dir.invariant.parents;
      so_far = keeps_more c.loop-dir.objects c.keep_in.new.objects all c.loop-dir.dir-iterator c.next.new.self x is c.keep_in.ensures.same c.keep_in.ensures.directories c.loop-dir.invariant.so_far;
      several = (
        several.0 ++ x ∷ [],
        notes_first c.loop-dir.objects c.keep_in.new.objects all several.0 c.loop-dir.dir-iterator c.next.new.self x is c.keep_in.ensures.same c.keep_in.ensures.directories c.loop-dir.several
            (sym c.keep_in.ensures.again ∙ c.if-keep_in.false) several.1,
      );
      same = λ i. c.keep_in.ensures.same i ∙ c.loop-dir.invariant.same i;
      ordered = c.keep_in.ensures.ordered;
    }

pub returns-clause-directories : goal.returns-clause-directories
returns-clause-directories c = keeps_all c.loop-dir.objects (all_names c.args.names.now) c.loop-dir.dir-iterator c.in-None.ensures.steps.0 c.loop-dir.invariant.so_far

pub returns-clause-several : goal.returns-clause-several
returns-clause-several c =
    let several = c.loop-dir.invariant.several in
    notes_all c.loop-dir.objects (all_names c.args.names.now) several.0 c.loop-dir.dir-iterator c.loop-dir.several c.in-None.ensures.steps.0 several.1
