-- What makes nothing.
use Rattle.std.proofs.Common.{ℕ, Bool, List, Option}
use Rattle.jcommand.specs.declared.parsed.Options.{Options}
use Rattle.jhistory.specs.declared.period.Period.{Period}
use Rattle.jversions.specs.declared.revision.Revision.{Revision}
use Rattle.jedge.specs.Acts.{loads, opens, reads_whole}
use Rattle.jedge.specs.Laws.{MakesNothing}
use Rattle.jedge.proofs.LookingLemmas.{answers_looks, loads_looks, opens_looks, prints_looks, reads_looks, reported_looks, then_looks}
use Rattle.jinspects.specs.Inspecting.{cat_inode_act, check_through_act, history_act, map_act}
use Rattle.jinspects.specs.InspectLaws.{CatInode, CheckThrough, History, InspectsOnly, MapNodes}
use Rattle.jinspects.specs.Surveying.{Surveyed}
use Rattle.jinspects.specs.Tracing.{Traced}

check_looks : (options : Options) (shape : Bool) (name : List ℕ) → MakesNothing (check_through_act options shape name)
check_looks options shape name = then_looks (opens name) _ (opens_looks name) (λ (opened : List ℕ). then_looks _ _ (answers_looks _)
    (λ _. then_looks (reads_whole opened) _ (reads_looks opened) (λ (image : List ℕ). prints_looks _)))

map_looks : (options : Options) (svg : Bool) (name : List ℕ) → MakesNothing (map_act options svg name)
map_looks options svg name = then_looks (loads name) _ (loads_looks name) (λ (image : List ℕ).
    then_looks _ _ (answers_looks _) (λ (others : Option ℕ). then_looks _ _ (answers_looks _) (λ (s : Surveyed). prints_looks _)))

history_looks : (options : Options) (period : Period) (name : List ℕ) (word : Option (List ℕ)) → MakesNothing (history_act options period name word)
history_looks options period name word = then_looks _ _ (answers_looks _) (λ (path : Option (List ℕ)). then_looks (loads name) _ (loads_looks name)
    (λ (image : List ℕ). then_looks _ _ (answers_looks _) (λ (others : Option ℕ). then_looks _ _ (answers_looks _) (λ (t : Traced). prints_looks _))))

inode_looks : (options : Options) (r : Revision) (name : List ℕ) → MakesNothing (cat_inode_act options r name)
inode_looks options r name = then_looks (loads name) _ (loads_looks name) (λ (image : List ℕ). prints_looks _)

pub inspects_only : InspectsOnly
inspects_only (CheckThrough options shape name) = reported_looks _ (check_looks options shape name)
inspects_only (MapNodes options svg name) = reported_looks _ (map_looks options svg name)
inspects_only (History options period name word) = reported_looks _ (history_looks options period name word)
inspects_only (CatInode options r name) = reported_looks _ (inode_looks options r name)
