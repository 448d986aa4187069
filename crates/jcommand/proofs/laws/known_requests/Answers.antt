use Rattle.std.proofs.Common.{refl}
use Rattle.clap.proofs.OnLiterals.{clap_on_literals}
use Rattle.jcommand.specs.Parsed.{parsed, parsed_from}
use Rattle.jcommand.specs.Commands.{program}
use Rattle.jcommand.proofs.laws.known_requests.Goals as goal

pub returns-clause-defaults : goal.returns-clause-defaults
unfolding clap_on_literals program parsed parsed_from
returns-clause-defaults c = refl

pub returns-clause-given : goal.returns-clause-given
unfolding clap_on_literals program parsed parsed_from
returns-clause-given c = refl

pub returns-clause-tree : goal.returns-clause-tree
unfolding clap_on_literals program parsed parsed_from
returns-clause-tree c = refl

pub returns-clause-content : goal.returns-clause-content
unfolding clap_on_literals program parsed parsed_from
returns-clause-content c = refl

pub returns-clause-revision : goal.returns-clause-revision
unfolding clap_on_literals program parsed parsed_from
returns-clause-revision c = refl

pub returns-clause-newest : goal.returns-clause-newest
unfolding clap_on_literals program parsed parsed_from
returns-clause-newest c = refl

pub returns-clause-made : goal.returns-clause-made
unfolding clap_on_literals program parsed parsed_from
returns-clause-made c = refl

pub returns-clause-extended : goal.returns-clause-extended
unfolding clap_on_literals program parsed parsed_from
returns-clause-extended c = refl

pub returns-clause-shape : goal.returns-clause-shape
unfolding clap_on_literals program parsed parsed_from
returns-clause-shape c = refl

pub returns-clause-extracted : goal.returns-clause-extracted
unfolding clap_on_literals program parsed parsed_from
returns-clause-extracted c = refl

pub returns-clause-strict_content : goal.returns-clause-strict_content
unfolding clap_on_literals program parsed parsed_from
returns-clause-strict_content c = refl

pub returns-clause-extracted_deleted : goal.returns-clause-extracted_deleted
unfolding clap_on_literals program parsed parsed_from
returns-clause-extracted_deleted c = refl

pub returns-clause-extracted_part : goal.returns-clause-extracted_part
unfolding clap_on_literals program parsed parsed_from
returns-clause-extracted_part c = refl

pub returns-clause-listed : goal.returns-clause-listed
unfolding clap_on_literals program parsed parsed_from
returns-clause-listed c = refl

pub returns-clause-listed_for : goal.returns-clause-listed_for
unfolding clap_on_literals program parsed parsed_from
returns-clause-listed_for c = refl

pub returns-clause-decompressed_tree : goal.returns-clause-decompressed_tree
unfolding clap_on_literals program parsed parsed_from
returns-clause-decompressed_tree c = refl

pub returns-clause-decompressed : goal.returns-clause-decompressed
unfolding clap_on_literals program parsed parsed_from
returns-clause-decompressed c = refl

pub returns-clause-told : goal.returns-clause-told
unfolding clap_on_literals program parsed parsed_from
returns-clause-told c = refl

pub returns-clause-cut : goal.returns-clause-cut
unfolding clap_on_literals program parsed parsed_from
returns-clause-cut c = refl

pub returns-clause-cut_alone : goal.returns-clause-cut_alone
unfolding clap_on_literals program parsed parsed_from
returns-clause-cut_alone c = refl

pub returns-clause-compressed : goal.returns-clause-compressed
unfolding clap_on_literals program parsed parsed_from
returns-clause-compressed c = refl

pub returns-clause-compressed_over : goal.returns-clause-compressed_over
unfolding clap_on_literals program parsed parsed_from
returns-clause-compressed_over c = refl

pub returns-clause-compared : goal.returns-clause-compared
unfolding clap_on_literals program parsed parsed_from
returns-clause-compared c = refl

pub returns-clause-compared_with_times : goal.returns-clause-compared_with_times
unfolding clap_on_literals program parsed parsed_from
returns-clause-compared_with_times c = refl

pub returns-clause-apart : goal.returns-clause-apart
unfolding clap_on_literals program parsed parsed_from
returns-clause-apart c = refl

pub returns-clause-noted : goal.returns-clause-noted
unfolding clap_on_literals program parsed parsed_from
returns-clause-noted c = refl

pub returns-clause-extended_and_noted : goal.returns-clause-extended_and_noted
unfolding clap_on_literals program parsed parsed_from
returns-clause-extended_and_noted c = refl

pub returns-clause-damaged : goal.returns-clause-damaged
unfolding clap_on_literals program parsed parsed_from
returns-clause-damaged c = refl

pub returns-clause-packed : goal.returns-clause-packed
unfolding clap_on_literals program parsed parsed_from
returns-clause-packed c = refl

pub returns-clause-packed_for : goal.returns-clause-packed_for
unfolding clap_on_literals program parsed parsed_from
returns-clause-packed_for c = refl

pub returns-clause-compared_decompressed : goal.returns-clause-compared_decompressed
unfolding clap_on_literals program parsed parsed_from
returns-clause-compared_decompressed c = refl

pub returns-clause-damaged_decompressed : goal.returns-clause-damaged_decompressed
unfolding clap_on_literals program parsed parsed_from
returns-clause-damaged_decompressed c = refl

pub returns-clause-compacted : goal.returns-clause-compacted
unfolding clap_on_literals program parsed parsed_from
returns-clause-compacted c = refl

pub returns-clause-through : goal.returns-clause-through
unfolding clap_on_literals program parsed parsed_from
returns-clause-through c = refl

pub returns-clause-through_with_shape : goal.returns-clause-through_with_shape
unfolding clap_on_literals program parsed parsed_from
returns-clause-through_with_shape c = refl

pub returns-clause-scanned_alone : goal.returns-clause-scanned_alone
unfolding clap_on_literals program parsed parsed_from
returns-clause-scanned_alone c = refl

pub returns-clause-updated : goal.returns-clause-updated
unfolding clap_on_literals program parsed parsed_from
returns-clause-updated c = refl

pub returns-clause-updated_plainly : goal.returns-clause-updated_plainly
unfolding clap_on_literals program parsed parsed_from
returns-clause-updated_plainly c = refl

pub returns-clause-updated_in_rests : goal.returns-clause-updated_in_rests
unfolding clap_on_literals program parsed parsed_from
returns-clause-updated_in_rests c = refl

pub returns-clause-mapped : goal.returns-clause-mapped
unfolding clap_on_literals program parsed parsed_from
returns-clause-mapped c = refl

pub returns-clause-drawn : goal.returns-clause-drawn
unfolding clap_on_literals program parsed parsed_from
returns-clause-drawn c = refl

pub returns-clause-by_letters : goal.returns-clause-by_letters
unfolding clap_on_literals program parsed parsed_from
returns-clause-by_letters c = refl

pub returns-clause-by_long_names : goal.returns-clause-by_long_names
unfolding clap_on_literals program parsed parsed_from
returns-clause-by_long_names c = refl

pub returns-clause-made_compressed : goal.returns-clause-made_compressed
unfolding clap_on_literals program parsed parsed_from
returns-clause-made_compressed c = refl

pub returns-clause-cut_through : goal.returns-clause-cut_through
unfolding clap_on_literals program parsed parsed_from
returns-clause-cut_through c = refl

pub returns-clause-cut_compressed : goal.returns-clause-cut_compressed
unfolding clap_on_literals program parsed parsed_from
returns-clause-cut_compressed c = refl

pub returns-clause-compacted_apart : goal.returns-clause-compacted_apart
unfolding clap_on_literals program parsed parsed_from
returns-clause-compacted_apart c = refl

pub returns-clause-packed_compressed : goal.returns-clause-packed_compressed
unfolding clap_on_literals program parsed parsed_from
returns-clause-packed_compressed c = refl

pub returns-clause-verified : goal.returns-clause-verified
unfolding clap_on_literals program parsed parsed_from
returns-clause-verified c = refl

pub returns-clause-cut_update : goal.returns-clause-cut_update
unfolding clap_on_literals program parsed parsed_from
returns-clause-cut_update c = refl

pub returns-clause-traced : goal.returns-clause-traced
unfolding clap_on_literals program parsed parsed_from
returns-clause-traced c = refl

pub returns-clause-traced_path : goal.returns-clause-traced_path
unfolding clap_on_literals program parsed parsed_from
returns-clause-traced_path c = refl
