use Rattle.std.proofs.Common.{◌≡◌, ℕ, List, ap, ◌∙◌, sym, subst, arith, rules, refl}
use Rattle.jscan.specs.declared.counts.Counts.{Counts}
use Rattle.jscan.specs.declared.extent.Extent.{Extent}
use Rattle.jscan.specs.Counts.{is_entry_tile, is_inode_tile, is_found}
use Rattle.jscan.specs.Image.{block_count}
use Rattle.jscan.specs.ImageLeft.{image_left}
use Rattle.jscan.specs.Scans.{image_extents}
use Rattle.jcalls.proofs.CountingLemmas.{CountingAll, counting_begins, counting_goes_on, counting_ends, all_few}
use Rattle.jcalls.proofs.looking.count_in.Goals as goal

pub loop-extent-init : goal.loop-extent-init
loop-extent-init g c =
    let e = g.E.Order.order in
    let all : image_left c.into_iter-extent-iterator.result ≡ image_extents e c.args.block c.args.image.now =
    ap (λ it. image_left it) c.into_iter-extent-iterator.ensures.into_iter_gives ∙ c.in-Ok.ensures.extents in
    let blocks : c.div_ceil.result ≡ block_count c.args.block c.args.image.now = search rules in
    let counts : Counts = record { blocks = c.div_ceil.result; entries = 0; inodes = 0; findings = 0 } in
    subst (λ (left : List Extent). CountingAll (image_extents e c.args.block c.args.image.now) left (block_count c.args.block c.args.image.now) counts) (sym all)
    (counting_begins (image_extents e c.args.block c.args.image.now) (block_count c.args.block c.args.image.now) counts blocks refl refl refl)

pub add-requires-clause-entries : goal.add-requires-clause-entries
add-requires-clause-entries g c =
    let few = all_few is_entry_tile g.E.Order.order c.args.block c.args.image.now c.in-Ok.ensures.scannable in
    omega (arith, c.loop-extent.invariant.entries, few)

pub add-requires-clause-inodes : goal.add-requires-clause-inodes
add-requires-clause-inodes g c =
    let few = all_few is_inode_tile g.E.Order.order c.args.block c.args.image.now c.in-Ok.ensures.scannable in
    omega (arith, c.loop-extent.invariant.inodes, few)

pub add-requires-clause-findings : goal.add-requires-clause-findings
add-requires-clause-findings g c =
    let few = all_few is_found g.E.Order.order c.args.block c.args.image.now c.in-Ok.ensures.scannable in
    omega (arith, c.loop-extent.invariant.findings, few)

pub loop-extent-preserved : goal.loop-extent-preserved
loop-extent-preserved g c =
    let e = g.E.Order.order in
    let n : ℕ = block_count c.args.block c.args.image.now in
    let all = image_extents e c.args.block c.args.image.now in
    subst (λ (now : Counts). CountingAll all (image_left c.next.new.self) n now) (sym c.add.ensures)
    (counting_goes_on all (image_left c.next.new.self) n c.loop-extent.counts c.in-Some.extent
    (subst (λ (left : List Extent). CountingAll all left n c.loop-extent.counts) c.in-Some.ensures.steps c.loop-extent.invariant))

pub returns-clause-ok : goal.returns-clause-ok
returns-clause-ok g c =
    let e = g.E.Order.order in
    let n : ℕ = block_count c.args.block c.args.image.now in
    let all = image_extents e c.args.block c.args.image.now in (
      c.in-Ok.ensures.scannable,
      counting_ends e c.args.block c.args.image.now c.loop-extent.counts
          (subst (λ (left : List Extent). CountingAll all left n c.loop-extent.counts) c.in-None.ensures.steps.0 c.loop-extent.invariant),
    )
