-- The places of a walk from the roots on pair the entries of both trees.
use Rattle.std.proofs.Common.{Bool, List, [], ◌∷◌, refl, sym}
use Rattle.std.specs.Prelude.{filter_map}
use Rattle.jmount.specs.Tree.{State}
use Rattle.jreport.specs.TreeText.{none_met}
use Rattle.jdiff.specs.Differing.{AreDifferences}
use Rattle.jdiff.specs.Pairing.{Place, lines_on}
use Rattle.jdiff.specs.Walking.{AreSpotPlaces, root_spot}
use Rattle.jdiff.specs.declared.comparing.Comparing.{Comparing}
use Rattle.jdiff.proofs.OrderLemmas.{root_in_order}
use Rattle.jdiff.proofs.PlaceLemmas.{lefts_of, rights_of, paths_of}

pub differences_of : (how : Comparing) (s t : State) (places : List Place) → AreSpotPlaces s t none_met none_met (root_spot ∷ []) places
    → AreDifferences how s t (lines_on how places)
differences_of how s t places are =
    let lefts = lefts_of s t (root_spot ∷ []) none_met none_met places are in
    let rights = rights_of s t (root_spot ∷ []) none_met none_met places are in
    record {
      left = filter_map (λ place. place.left) places;
      right = filter_map (λ place. place.right) places;
      places = places;
      of_left = (lefts.found, lefts.are, sym lefts.there);
      of_right = (rights.found, rights.are, sym rights.there);
      paired = record {
        lefts = refl;
        rights = refl;
        paths = paths_of s t (root_spot ∷ []) none_met none_met places are;
        order = root_in_order s t root_spot none_met none_met places are;
      };
      said = refl;
    }
