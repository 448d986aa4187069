use Rattle.std.proofs.Common.{rules, ◌≡◌, ℕ, ◌∙◌, ap, List, map, Some, None}
use Rattle.std.specs.Prelude.{IsSome}
use Rattle.std.specs.Ordering.{nat_cmp, eq_by_cmp}
use Rattle.std.specs.BTreeMap.{Updates, get}
use Rattle.jname.proofs.ContentsByNameLemmas.{err_map, err_always}
use Rattle.flashbase.proofs.MemberLemmas.{map-set_value}
use Rattle.jmount.specs.declared.versions.Versions.{Versions}
use Rattle.jmount.specs.Inodes.{NodesByNumber, nodes_in}
use Rattle.jmount.proofs.InodesLemmas.{first_of_number, nodes_of_numbers-same, nodes_of_numbers-unchanged, same_of_number}
use Rattle.jmount.proofs.inodes.add_node.Goals as goal

pub returns-in-Some-clause-err : goal.returns-in-Some-clause-err
returns-in-Some-clause-err c =
    let was : get nat_cmp c.args.numbers.now c.args.node.ino ≡ Some c.in-Some.versions.now = search rules in
    err_map c.add.result (λ h. nodes_of_numbers-same c.args.numbers.now (c.get_mut.follows.lender c.add.new.self)
    (ap (λ (es : List (ℕ × Versions)). map (λ e. nodes_in e.1) es) (c.get_mut.follows.holds c.add.new.self).0
    ∙ map-set_value (λ (e : ℕ × Versions). nodes_in e.1) (eq_by_cmp nat_cmp c.args.node.ino) c.args.numbers.now.entries c.in-Some.versions.now c.add.new.self was
    (λ k. h)))
    c.add.ensures.err

pub returns-in_err-insert-clause-err : goal.returns-in_err-insert-clause-err
returns-in_err-insert-clause-err c =
    let unchanged : c.get_mut.follows.lender-at-none ≡ c.args.numbers.now = search rules in
    let same : c.insert.new.self.entries ≡ c.get_mut.follows.lender-at-none.entries = c.in_err-insert.ensures.err in
    err_always c.from_residual.result
    (nodes_of_numbers-unchanged c.args.numbers.now c.insert.new.self (same ∙ ap (λ (m : NodesByNumber). m.entries) unchanged))

pub returns-in-Some-clause-same : goal.returns-in-Some-clause-same
returns-in-Some-clause-same c =
    let was : get nat_cmp c.args.numbers.now c.args.node.ino ≡ Some c.in-Some.versions.now = search rules in
    let there : IsSome (get nat_cmp c.args.numbers.now c.args.node.ino) = search rules in
    let replaced : Updates nat_cmp c.args.numbers.now (c.get_mut.follows.lender c.add.new.self) c.args.node.ino (Some c.add.new.self) = (c.get_mut.follows.holds c.add.new.self).3 there in
    err_map c.add.result (same_of_number c.args.numbers.now (c.get_mut.follows.lender c.add.new.self) c.args.node.ino c.in-Some.versions.now c.add.new.self was replaced)
    c.add.ensures.same

pub returns-clause-ok : goal.returns-clause-ok
returns-clause-ok c =
    let unchanged : c.get_mut.follows.lender-at-none ≡ c.args.numbers.now = search rules in
    let none : get nat_cmp c.args.numbers.now c.args.node.ino ≡ None = search rules in
    first_of_number c.args.numbers.now c.get_mut.follows.lender-at-none c.insert.new.self c.of_one.result c.args.node unchanged none c.in_ok-insert.ensures.updates c.of_one.ensures
