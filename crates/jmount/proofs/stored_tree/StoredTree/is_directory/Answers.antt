use Rattle.std.proofs.Common.{rules, ◌==◌, false, sym, ap, ◌∙◌}
use Rattle.std.specs.Ordering.{nat_cmp}
use Rattle.std.specs.BTreeMap.{get}
use Rattle.jmount.specs.Tree.{type_bits, has_bits, directory_bits}
use Rattle.jmount.proofs.StoredLemmas.{object-is, by-found, directory-found}
use Rattle.jmount.proofs.stored_tree.StoredTree.is_directory.Goals as goal

pub returns : goal.returns
returns c =
    let t = c.self.inside in
    let found = get nat_cmp t.objects.now c.args.ino in
    by-found c.get.result found false c.is_some_and.result (λ stored. type_bits stored.mode == directory_bits) _ c.get.ensures.value c.is_some_and.ensures (λ x q. search rules)
    ∙ directory-found found
    ∙ sym (ap (has_bits directory_bits) (object-is c.args.self.now t.objects.now t.names.now t.next c.self.view_is c.args.ino))
