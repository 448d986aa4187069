use Rattle.std.specs.Prelude.{◌<◌, ◌∷◌, ◌++◌}
use Rattle.std.specs.List.{AllPairs}
use Rattle.std.proofs.Common.{sym, subst, List}
use Rattle.std.proofs.lemmas.List.Kept.{AllPairs-filter}
use Rattle.jnode.specs.declared.node.NodeRef.TheVariants.{Entry, Inode}
use Rattle.jcompact.specs.Matters.{Placed, matters}
use Rattle.jcompact.proofs.MissedLemmas.{is_missed, leads, nowhere}
use Rattle.jcompact.proofs.NameLemmas.{kept_apart}
use Rattle.jcompact.proofs.StillLemmas.{still}
use Rattle.jcompact.proofs.laws.each_is_missed.Goals as goal

pub returns-clause-names : goal.returns-clause-names
returns-clause-names c ns front back addr entry apart up (reached, says, is) =
    let kept : List Placed = front ++ (addr, Entry entry) ∷ back in
    let apart_still = kept_apart ns kept reached apart is in
    let up_still = subst (AllPairs (λ (m n : Placed). m.0 < n.0)) (sym is) (AllPairs-filter (λ (m n : Placed). m.0 < n.0) (matters ns reached) ns up) in
    let all = still ns kept reached apart says is in
    (leads front back addr entry apart_still up_still reached all, nowhere front back addr entry apart_still up_still reached all)

pub returns-clause-objects : goal.returns-clause-objects
returns-clause-objects c ns front back addr node apart up (reached, says, is) =
    let kept : List Placed = front ++ (addr, Inode node) ∷ back in
    let up_still = subst (AllPairs (λ (m n : Placed). m.0 < n.0)) (sym is) (AllPairs-filter (λ (m n : Placed). m.0 < n.0) (matters ns reached) ns up) in
    is_missed front back addr node (kept_apart ns kept reached apart is) up_still reached (still ns kept reached apart says is)
