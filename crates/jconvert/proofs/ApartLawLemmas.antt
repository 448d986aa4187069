-- What goes out without nodes that clash is an image of those that stay.
use Rattle.std.proofs.Common.{◌≡◌, ℕ, List, sym, ap, subst, ◌∙◌}
use Rattle.std.specs.List.{AllByRecursion}
use Rattle.jnode.specs.declared.node.NodeRef.{NodeRef}
use Rattle.jnode.specs.declared.order.Endian.{Endian}
use Rattle.jmount.specs.StateOf.{state_of}
use Rattle.jmount.specs.Tree.{is_directory}
use Rattle.jclash.specs.declared.parting.LeftOut.{LeftOut}
use Rattle.jclash.proofs.PartLemmas.{staying_do_not_clash}
use Rattle.jlog.specs.LeftLaws.{IsStorable, AreStorable}
use Rattle.jlog.proofs.AnewLemmas.{output_is_image, output_is_sound, output_mounts}
use Rattle.jconvert.specs.Apart.{located_nodes}
use Rattle.jconvert.specs.ApartLaws.{IsParted, ApartIsImage, ApartMounts, ApartHasNoRoot}
use Rattle.jconvert.specs.Converting.{greatest_blocks}
use Rattle.jconvert.proofs.ApartLemmas.{kept_all, located_are_expanded}
use Rattle.jconvert.proofs.LawLemmas.{are_storable, greatest_small}
use Rattle.jconvert.proofs.RoomLemmas.{stay_have_room}

pub stay_storable : (e : Endian) (size : ℕ) (image : List ℕ) (stay : List NodeRef) (left : List LeftOut) → IsParted e size image stay left
    → AreStorable e size (greatest_blocks size) stay
stay_storable e size image stay left is =
    let all = are_storable e size image is.bytes is.accepted in
    record {
      size_is = all.size_is;
      nodes = kept_all (IsStorable e size) (located_nodes e size image) stay left is.parts
          (subst (AllByRecursion (IsStorable e size)) (sym (located_are_expanded e size image)) all.nodes);
      room = stay_have_room e size image stay left is.accepted is.parts;
    }

-- ---- the laws

pub apart_is_image : ApartIsImage
apart_is_image e size image stay left is = output_is_image e size (greatest_blocks size) stay (stay_storable e size image stay left is)

pub apart_mounts : ApartMounts
apart_mounts e size image stay left is root =
    output_mounts e size (greatest_blocks size) stay (stay_storable e size image stay left is) (greatest_small size)
    (staying_do_not_clash (located_nodes e size image) stay left is.parts) root

pub apart_has_no_root : ApartHasNoRoot
apart_has_no_root e size image stay left is root =
    let sound = output_is_sound e size (greatest_blocks size) stay (stay_storable e size image stay left is) (greatest_small size)
    (staying_do_not_clash (located_nodes e size image) stay left is.parts) in
    (sound.sound, ap (λ (ns : List NodeRef). is_directory (state_of ns) 1) sound.nodes ∙ root)
