use Rattle.std.proofs.Common.{refl}
use Rattle.clap.proofs.OnLiterals.{clap_on_literals}
use Rattle.jcommand.specs.Parsed.{parsed, parsed_from}
use Rattle.jcommand.specs.Commands.{program}
use Rattle.jcommand.proofs.laws.known_refusals.Goals as goal

pub returns-clause-help : goal.returns-clause-help
unfolding clap_on_literals program parsed parsed_from
returns-clause-help c = refl

pub returns-clause-version : goal.returns-clause-version
unfolding clap_on_literals program parsed parsed_from
returns-clause-version c = refl

pub returns-clause-no_args : goal.returns-clause-no_args
unfolding clap_on_literals program parsed parsed_from
returns-clause-no_args c = refl

pub returns-clause-no_image : goal.returns-clause-no_image
unfolding clap_on_literals program parsed parsed_from
returns-clause-no_image c = refl

pub returns-clause-not_of_ls : goal.returns-clause-not_of_ls
unfolding clap_on_literals program parsed parsed_from
returns-clause-not_of_ls c = refl

pub returns-clause-no_path : goal.returns-clause-no_path
unfolding clap_on_literals program parsed parsed_from
returns-clause-no_path c = refl

pub returns-clause-path_and_inode : goal.returns-clause-path_and_inode
unfolding clap_on_literals program parsed parsed_from
returns-clause-path_and_inode c = refl

pub returns-clause-version_alone : goal.returns-clause-version_alone
unfolding clap_on_literals program parsed parsed_from
returns-clause-version_alone c = refl

pub returns-clause-unreadable : goal.returns-clause-unreadable
unfolding clap_on_literals program parsed parsed_from
returns-clause-unreadable c = refl

pub returns-clause-no_blocks : goal.returns-clause-no_blocks
unfolding clap_on_literals program parsed parsed_from
returns-clause-no_blocks c = refl

pub returns-clause-no_output : goal.returns-clause-no_output
unfolding clap_on_literals program parsed parsed_from
returns-clause-no_output c = refl

pub returns-clause-not_of_cat : goal.returns-clause-not_of_cat
unfolding clap_on_literals program parsed parsed_from
returns-clause-not_of_cat c = refl

pub returns-clause-unreadable_blocks : goal.returns-clause-unreadable_blocks
unfolding clap_on_literals program parsed parsed_from
returns-clause-unreadable_blocks c = refl

pub returns-clause-one_owner : goal.returns-clause-one_owner
unfolding clap_on_literals program parsed parsed_from
returns-clause-one_owner c = refl

pub returns-clause-no_folder : goal.returns-clause-no_folder
unfolding clap_on_literals program parsed parsed_from
returns-clause-no_folder c = refl

pub returns-clause-not_of_check : goal.returns-clause-not_of_check
unfolding clap_on_literals program parsed parsed_from
returns-clause-not_of_check c = refl

pub returns-clause-not_decompressed : goal.returns-clause-not_decompressed
unfolding clap_on_literals program parsed parsed_from
returns-clause-not_decompressed c = refl

pub returns-clause-not_of_info : goal.returns-clause-not_of_info
unfolding clap_on_literals program parsed parsed_from
returns-clause-not_of_info c = refl

pub returns-clause-no_flash : goal.returns-clause-no_flash
unfolding clap_on_literals program parsed parsed_from
returns-clause-no_flash c = refl

pub returns-clause-not_compressed : goal.returns-clause-not_compressed
unfolding clap_on_literals program parsed parsed_from
returns-clause-not_compressed c = refl

pub returns-clause-no_second : goal.returns-clause-no_second
unfolding clap_on_literals program parsed parsed_from
returns-clause-no_second c = refl

pub returns-clause-unreadable_clashes : goal.returns-clause-unreadable_clashes
unfolding clap_on_literals program parsed parsed_from
returns-clause-unreadable_clashes c = refl

pub returns-clause-not_noted : goal.returns-clause-not_noted
unfolding clap_on_literals program parsed parsed_from
returns-clause-not_noted c = refl

pub returns-clause-not_packed : goal.returns-clause-not_packed
unfolding clap_on_literals program parsed parsed_from
returns-clause-not_packed c = refl

pub returns-clause-not_padded : goal.returns-clause-not_padded
unfolding clap_on_literals program parsed parsed_from
returns-clause-not_padded c = refl

pub returns-clause-unreadable_time : goal.returns-clause-unreadable_time
unfolding clap_on_literals program parsed parsed_from
returns-clause-unreadable_time c = refl

pub returns-clause-not_of_map : goal.returns-clause-not_of_map
unfolding clap_on_literals program parsed parsed_from
returns-clause-not_of_map c = refl

pub returns-clause-not_mapped : goal.returns-clause-not_mapped
unfolding clap_on_literals program parsed parsed_from
returns-clause-not_mapped c = refl

pub returns-clause-not_of_update : goal.returns-clause-not_of_update
unfolding clap_on_literals program parsed parsed_from
returns-clause-not_of_update c = refl

pub returns-clause-not_updated : goal.returns-clause-not_updated
unfolding clap_on_literals program parsed parsed_from
returns-clause-not_updated c = refl

pub returns-clause-unreadable_update : goal.returns-clause-unreadable_update
unfolding clap_on_literals program parsed parsed_from
returns-clause-unreadable_update c = refl

pub returns-clause-unreadable_page : goal.returns-clause-unreadable_page
unfolding clap_on_literals program parsed parsed_from
returns-clause-unreadable_page c = refl

pub returns-clause-two_orders : goal.returns-clause-two_orders
unfolding clap_on_literals program parsed parsed_from
returns-clause-two_orders c = refl

pub returns-clause-order_and_letter : goal.returns-clause-order_and_letter
unfolding clap_on_literals program parsed parsed_from
returns-clause-order_and_letter c = refl

pub returns-clause-two_sizes : goal.returns-clause-two_sizes
unfolding clap_on_literals program parsed parsed_from
returns-clause-two_sizes c = refl

pub returns-clause-not_verified : goal.returns-clause-not_verified
unfolding clap_on_literals program parsed parsed_from
returns-clause-not_verified c = refl

pub returns-clause-compacted_lower : goal.returns-clause-compacted_lower
unfolding clap_on_literals program parsed parsed_from
returns-clause-compacted_lower c = refl

pub returns-clause-weak_of_compressed : goal.returns-clause-weak_of_compressed
unfolding clap_on_literals program parsed parsed_from
returns-clause-weak_of_compressed c = refl

pub returns-clause-not_on_image : goal.returns-clause-not_on_image
unfolding clap_on_literals program parsed parsed_from
returns-clause-not_on_image c = refl

pub returns-clause-always_compressed : goal.returns-clause-always_compressed
unfolding clap_on_literals program parsed parsed_from
returns-clause-always_compressed c = refl

pub returns-clause-no_update : goal.returns-clause-no_update
unfolding clap_on_literals program parsed parsed_from
returns-clause-no_update c = refl

pub returns-clause-always_decompressed : goal.returns-clause-always_decompressed
unfolding clap_on_literals program parsed parsed_from
returns-clause-always_decompressed c = refl

pub returns-clause-no_plain : goal.returns-clause-no_plain
unfolding clap_on_literals program parsed parsed_from
returns-clause-no_plain c = refl

pub returns-clause-two_outputs : goal.returns-clause-two_outputs
unfolding clap_on_literals program parsed parsed_from
returns-clause-two_outputs c = refl

pub returns-clause-no_since : goal.returns-clause-no_since
unfolding clap_on_literals program parsed parsed_from
returns-clause-no_since c = refl

pub returns-clause-deleted_part : goal.returns-clause-deleted_part
unfolding clap_on_literals program parsed parsed_from
returns-clause-deleted_part c = refl

pub returns-clause-not_of_history : goal.returns-clause-not_of_history
unfolding clap_on_literals program parsed parsed_from
returns-clause-not_of_history c = refl
