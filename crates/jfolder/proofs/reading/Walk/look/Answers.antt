use Rattle.std.proofs.Common.{◌≡◌, false, inl}
use Rattle.jfolder.specs.Walking.{comes_next}
use Rattle.jfolder.proofs.ReasonLemmas.{comes_again}
use Rattle.jfolder.proofs.reading.Walk.look.Goals as goal

pub returns-then-not-is_next-clause-why : goal.returns-then-not-is_next-clause-why
returns-then-not-is_next-clause-why g c =
    let no : comes_next c.args.self.now.items.items c.args.path.now ≡ false = cc in
    inl (comes_again c.args.self.now.items.items c.args.path.now c.requires no)
