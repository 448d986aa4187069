use Rattle.jmount.proofs.ObjectsLemmas.{piece_is_range, object_is_of_latest, only_devices_have_numbers, no_object_without_nodes, byte_is_of_highest}
use Rattle.jmount.proofs.laws.objects_are_of_highest.Goals as goal

pub returns : goal.returns
returns c = record { range = piece_is_range; attributes = object_is_of_latest; devices = only_devices_have_numbers; none = no_object_without_nodes; bytes = byte_is_of_highest }
