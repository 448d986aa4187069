use Rattle.std.proofs.Common.{◌∙◌, ◌≡◌, ◌+◌, ◌<◌, ◌⊎◌, Err, ap, arith, length, subst, sym, vec_capacity}
use Rattle.jnode.specs.Writing.{canonical, IsWritable}
use Rattle.jnode.specs.declared.node.NodeRef.{NodeRef}
use Rattle.jnode.specs.declared.writing.WriteFault.{WriteFault}
use Rattle.jconvert.proofs.KeepLemmas.{entry_unwritten, inode_unwritten}
use Rattle.jconvert.proofs.keeping.write_form.Goals.{in-Entry, in-Inode}
use Rattle.jconvert.proofs.keeping.write_form.Goals as goal

pub returns-in-Err-clause-full : goal.returns-in-Err-clause-full
returns-in-Err-clause-full g c =
    let e = g.E.Order.order in
    let capacity = vec_capacity c.args.form.now in
    elim c.match-node.branch [
      | in-Entry w ↦
          let done : w.write_entry-written.result ≡ Err c.in-Err.field-0 = sym w.written-is ∙ c.in-Err.is in
          subst (λ (n : NodeRef). ¬ IsWritable n ⊎ (capacity < length (canonical e n))) (sym w.in-Entry.is)
          (entry_unwritten e w.in-Entry.entry c.in-Err.field-0 capacity
          (λ is. w.write_entry-written.ensures.name.0 (done ∙ ap (λ (f : WriteFault). Err f) is))
          (λ is. (w.write_entry-written.ensures.data.0 (done ∙ ap (λ (f : WriteFault). Err f) is)).1)
          (λ is. let few = w.write_entry-written.ensures.memory (done ∙ ap (λ (f : WriteFault). Err f) is) in omega (arith, few, c.clear.ensures.capacity, c.clear.ensures.len)))
      | in-Inode w ↦
          let done : w.write_inode-written.result ≡ Err c.in-Err.field-0 = sym w.written-is ∙ c.in-Err.is in
          subst (λ (n : NodeRef). ¬ IsWritable n ⊎ (capacity < length (canonical e n))) (sym w.in-Inode.is)
          (inode_unwritten e w.in-Inode.inode c.in-Err.field-0 capacity
          (λ is. w.write_inode-written.ensures.name (done ∙ ap (λ (f : WriteFault). Err f) is))
          (λ is. w.write_inode-written.ensures.data.0 (done ∙ ap (λ (f : WriteFault). Err f) is))
          (λ is. let few = w.write_inode-written.ensures.memory (done ∙ ap (λ (f : WriteFault). Err f) is) in omega (arith, few, c.clear.ensures.capacity, c.clear.ensures.len)))
    ]
