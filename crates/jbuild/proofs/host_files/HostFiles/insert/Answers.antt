use Rattle.std.proofs.Common.{◌≡◌, ◌+◌, rules, arith, length}
use Rattle.std.specs.Prelude.{string_bytes}
use Rattle.std.proofs.lemmas.List.{length-append}
use Rattle.jbuild.proofs.PartLemmas.{all_within, on_err, read_after, read_same}
use Rattle.jbuild.proofs.host_files.HostFiles.insert.Goals as goal

pub invariant_of-self-2 : goal.invariant_of-self-2
invariant_of-self-2 c =
    let longer : length c.extend_from_slice.new.self.items ≡ length c.args.self.now.bytes.items + length c.args.bytes.now = rw c.in_ok-extend_from_slice.ensures.items (length-append c.args.self.now.bytes.items c.args.bytes.now) in
    let from : c.len-from.result ≡ length c.args.self.now.bytes.items = search rules in
    record {
      within = all_within c.insert.result (string_bytes c.args.name) _ c.args.self.now.files c.insert.new.self _ c.insert.ensures.ok c.insert.ensures.err
          (λ n. let was = c.args.self.now.within n in omega arith) (omega arith);
    }

pub returns-clause-ok : goal.returns-clause-ok
returns-clause-ok c = λ n.
    let from : c.len-from.result ≡ length c.args.self.now.bytes.items = search rules in
    rw c.in_ok-extend_from_slice.ensures.items (read_after (string_bytes c.args.name) c.args.self.now.bytes.items c.args.bytes.now c.len-from.result c.args.self.now.files c.insert.new.self from c.in_ok-insert.ensures.ok c.args.self.now.within n)

pub returns-in_err-insert-clause-err : goal.returns-in_err-insert-clause-err
returns-in_err-insert-clause-err c =
    on_err c.from_residual-in_err-insert.result _
    (read_same c.args.self.now.bytes.items c.args.bytes.now c.extend_from_slice.new.self.items c.args.self.now.files c.insert.new.self c.in_ok-extend_from_slice.ensures.items c.in_err-insert.ensures.err c.args.self.now.within)
