use Rattle.std.proofs.Common.{sym, ap, ◌∙◌}
use Rattle.jname.specs.declared.versions.Content.{Content}
use Rattle.jname.specs.Versions.{version_at, newest_of}
use Rattle.jname.proofs.VersionLemmas.{greatest_of}
use Rattle.jname.proofs.WalkLemmas.{gone_is_zero, newest_is_top}
use Rattle.jname.proofs.versions.Versions.live.Goals as goal

pub returns-then-ino-eq0 : goal.returns-then-ino-eq0
returns-then-ino-eq0 c =
    let versions = c.args.self.now in
    gone_is_zero (version_at versions) (greatest_of versions) (newest_of versions) (newest_is_top versions) (sym (ap (λ (content : Content). content.ino) c.newest-ino.ensures) ∙ c.if-ino-eq0.true)

pub returns-else-ino-eq0 : goal.returns-else-ino-eq0
returns-else-ino-eq0 c =
    let versions = c.args.self.now in
    (c.if-ino-eq0.false, (greatest_of versions, newest_of versions, newest_is_top versions, sym (ap (λ (content : Content). content.ino) c.newest-ino.ensures)))
