use Rattle.std.proofs.Common.{◌≡◌, Some, rules}
use Rattle.jscan.specs.Scans.{first_refused}
use Rattle.jscan.proofs.PartialScanLemmas.{scans_refused}
use Rattle.jscan.proofs.scanning.scan.Goals as goal

pub returns-in-Some : goal.returns-in-Some
returns-in-Some g c =
    let first : first_refused g.E.Order.order c.args.geometry.block c.args.image.now ≡ Some c.in-Some.refusal = search rules in
    scans_refused g.E.Order.order c.args.geometry.block c.args.image.now _ c.in_ok-nodes.ensures.scannable first
