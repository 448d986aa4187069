use Rattle.std.proofs.Common.{◌≡◌, true, rules}
use Rattle.std.specs.Prelude.{is_ok, string_bytes}
use Rattle.jfolders.proofs.KeeperLemmas.{kept_of_file, most}
use Rattle.jfolders.proofs.keeper.Keeper.keep.Goals.{then-size-eq0, else-size-eq0}
use Rattle.jfolders.proofs.keeper.Keeper.keep.Goals as goal

pub returns-clause-kept : goal.returns-clause-kept
returns-clause-kept g c =
    let many : c.if-size-eq0.most ≡ most c.args.size = elim c.if-size-eq0.branch [
      | then-size-eq0 w ↦ search rules
      | else-size-eq0 w ↦ search rules
    ] in
    let done : is_ok c.read-read.result ≡ true = search rules in
    λ _. kept_of_file c.read-read.result _ (g.O.File.Source.rest c.in-Some.file)
    (g.O.Opener.has c.args.self.now.opener) c.if-size-eq0.most c.args.size c.as_str.result.now
    (string_bytes c.args.name) c.args.self.now.files.parts c.read-read.new.self.parts
    c.read-read.ensures.reads c.new-first.ensures.rest c.in-Some.ensures.file c.as_str.ensures.value
    many done
