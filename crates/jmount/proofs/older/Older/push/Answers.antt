use Rattle.std.proofs.Common.{◌≡◌, ◌≤◌, ◌+◌, ◌++◌, ◌∷◌, [], List, length, take, length-append, ap, sym, subst, ◌∙◌, arith}
use Rattle.std.proofs.lemmas.List.{take-append-le}
use Rattle.jnode.specs.declared.node.InodeNode.{InodeNode}
use Rattle.jmount.specs.ByVersion.{place_of_version}
use Rattle.jmount.proofs.OlderLemmas.{AreApart, pushed_are_apart}
use Rattle.jmount.proofs.older.Older.push.Goals as goal

pub invariant_of-self-2 : goal.invariant_of-self-2
invariant_of-self-2 c =
    let old = c.args.self.now in
    let is : c.push_reserved.new.self.items ≡ old.nodes.items ++ c.args.node ∷ [] =
    c.push_reserved.ensures.items ∙ ap (λ (ns : List InodeNode). ns ++ c.args.node ∷ []) c.make_room.ensures.same in
    let long : length c.push_reserved.new.self.items ≡ length old.nodes.items + 1 = ap (λ (ns : List InodeNode). length ns) is ∙ length-append old.nodes.items (c.args.node ∷ []) in
    record {
      found = subst AreApart (sym is) (pushed_are_apart old.nodes.items c.args.node c.requires old.found);
      within = λ p there. let before : p.value.listed ≤ length old.nodes.items = old.within p there in omega arith;
      placed = λ p v there. old.placed p v there ∙ ap (λ (ns : List InodeNode). place_of_version ns v)
          (sym (ap (take p.value.listed) is ∙ take-append-le p.value.listed old.nodes.items (c.args.node ∷ []) (old.within p there)));
    }
