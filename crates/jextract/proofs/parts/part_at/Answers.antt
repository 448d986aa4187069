use Rattle.jextract.specs.Parts.{keys_of}
use Rattle.jextract.specs.PartsOf.{part_of}
use Rattle.jextract.proofs.WayLemmas.{part_at_path, some_part}
use Rattle.jextract.proofs.parts.part_at.Goals as goal

pub returns-in-Ok-way_to-clause-part : goal.returns-in-Ok-way_to-clause-part
returns-in-Ok-way_to-clause-part c =
    part_at_path c.args.mounted.now.state c.args.path.now (keys_of c.in-Ok-way_to.way.items) c.in-Ok.ino (part_of c.part_to.result c.args.mounted.now.state) c.in-Ok.ensures c.in-Ok-way_to.ensures
    c.part_to.ensures.part

pub returns-in-Err-way_to-clause-fault : goal.returns-in-Err-way_to-clause-fault
returns-in-Err-way_to-clause-fault c = some_part c.args.mounted.now.state c.args.path.now c.in-Ok.ino c.in-Ok.ensures
