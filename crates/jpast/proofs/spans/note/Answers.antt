use Rattle.std.proofs.Common.{◌++◌, ◌∷◌, [], sym, subst}
use Rattle.jnode.specs.declared.node.NodeRef.{NodeRef}
use Rattle.jpast.specs.Pasts.{object_versions}
use Rattle.jpast.specs.Spans.{HasSpans}
use Rattle.jpast.proofs.ContentLemmas.{on_ok}
use Rattle.jpast.proofs.SpanLemmas.{entry_noted, inode_noted}
use Rattle.jpast.proofs.spans.note.Goals as goal

pub returns-in-Inode : goal.returns-in-Inode
returns-in-Inode c =
    on_ok c.note_version.result _ _
    (λ noted ns addr has.
    subst (λ (n : NodeRef). HasSpans (ns ++ (addr, n) ∷ []) c.note_version.new.spans) (sym c.in-Inode.is)
    (inode_noted ns addr c.in-Inode.inode c.note_version.new.spans (noted (object_versions ns) has)))
    c.note_version.ensures

pub returns-in-Entry : goal.returns-in-Entry
returns-in-Entry c = λ ns addr has.
    subst (λ (n : NodeRef). HasSpans (ns ++ (addr, n) ∷ []) c.args.spans.now) (sym c.in-Entry.is) (entry_noted ns addr c.in-Entry.field-0 c.args.spans.now has)
