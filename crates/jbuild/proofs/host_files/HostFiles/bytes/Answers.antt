use Rattle.std.proofs.Common.{rules}
use Rattle.jbuild.proofs.PartLemmas.{found_within}
use Rattle.jbuild.proofs.host_files.HostFiles.bytes.Goals as goal

pub bytes_of_span-requires : goal.bytes_of_span-requires
bytes_of_span-requires c = rw c.deref.ensures.value (found_within c.args.name.now c.args.self.now.files c.in-Some.span _ (search rules) c.args.self.now.within)
