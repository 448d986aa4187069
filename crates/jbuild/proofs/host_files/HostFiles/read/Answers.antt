use Rattle.std.proofs.Common.{rules}
use Rattle.std.specs.Prelude.{string_bytes}
use Rattle.jbuild.proofs.PartLemmas.{read_all, read_same, read_within}
use Rattle.jbuild.proofs.host_files.HostFiles.read.Goals as goal

pub invariant_of-self-2 : goal.invariant_of-self-2
invariant_of-self-2 g c =
    let read = c.in_ok-read_behind.ensures.reads in
    record {
      within = read_within c.insert.result (string_bytes c.args.name) c.args.self.now.bytes.items read.0 c.read_behind.new.bytes.items _ _ c.args.self.now.files c.insert.new.self
          read.1 (search rules) (search rules) c.insert.ensures.ok c.insert.ensures.err c.args.self.now.within;
    }

pub returns-in-Ok-clause-reads : goal.returns-in-Ok-clause-reads
returns-in-Ok-clause-reads g c =
    let read = c.in_ok-read_behind.ensures.reads in (
      read.0,
      read.2,
      read.3,
      read_all (string_bytes c.args.name) c.args.self.now.bytes.items read.0 c.read_behind.new.bytes.items _ _ c.args.self.now.files c.insert.new.self read.1 (search rules) (search rules)
          c.in-Ok.ensures.ok c.args.self.now.within,
    )

pub returns-in-Err-clause-reads : goal.returns-in-Err-clause-reads
returns-in-Err-clause-reads g c =
    let read = c.in_ok-read_behind.ensures.reads in
    read_same c.args.self.now.bytes.items read.0 c.read_behind.new.bytes.items c.args.self.now.files c.insert.new.self read.1 c.in-Err.ensures.err c.args.self.now.within
