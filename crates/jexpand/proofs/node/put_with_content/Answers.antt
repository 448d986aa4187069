use Rattle.std.proofs.Common.{◌≡◌, ◌++◌, ℕ, List, Option, Some, option_map, IfOk, sym, ap, subst, ◌∙◌}
use Rattle.std.proofs.lemmas.List.{append-nil}
use Rattle.jnode.specs.Compressed.{inode_with}
use Rattle.jnode.specs.declared.node.Fill.TheVariants.{Data}
use Rattle.jnode.specs.declared.node.NodeRef.{NodeRef}
use Rattle.jnode.specs.declared.node.NodeRef.TheVariants.{Inode}
use Rattle.jexpand.specs.Answers.{IsFormOf}
use Rattle.jexpand.specs.Expanded.{node_content, with_content}
use Rattle.jexpand.proofs.node.put_with_content.Goals as goal

pub returns-clause-ok : goal.returns-clause-ok
returns-clause-ok g c =
    let packed = c.args.packed.now in
    let bytes : c.new.result ≡ c.args.content.now = c.new.ensures ∙ append-nil c.args.content.now in
    let inode : c.inode_with.result ≡ inode_with packed (Data c.args.content.now) = c.inode_with.ensures ∙ ap (λ (xs : List ℕ). inode_with packed (Data xs)) bytes in
    let same : Some (Inode c.inode_with.result) ≡ option_map (with_content packed) (node_content packed) =
    ap (λ n. Some (Inode n)) inode ∙ sym (ap (option_map (with_content packed)) c.requires) in
    subst (λ (o : Option NodeRef). IfOk c.put_inode.result (λ is_one. IsFormOf g.E.Order.order o c.put_inode.new.out.items is_one)) same c.put_inode.ensures.ok
