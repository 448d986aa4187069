use Rattle.std.proofs.Common.{◌≡◌, List, take, get_or, ◌∙◌, subst, arith, take_all, refl, ℕ, None}
use Rattle.std.specs.Io.KnownBytes.{Appends}
use Rattle.std.specs.List.{flat_map}
use Rattle.std.proofs.KnownBytes.{Appends-trans}
use Rattle.flashbase.specs.Device.{PutsPart}
use Rattle.jline.proofs.TurnLemmas.{flat_map-next, item_failed}
use Rattle.jnode.specs.declared.order.Endian.TheVariants.{Little}
use Rattle.jregions.specs.RegionText.{region_line}
use Rattle.jregions.specs.declared.region.Region.{Region}
use Rattle.jregions.proofs.lines.put_each.Goals as goal

abbrev no_region : Region
no_region = record { from = 0; to = 0; order = Little; sizes = None }

pub loop-i-preserved : goal.loop-i-preserved
loop-i-preserved g c =
    let regions = c.args.regions.now in
    let i = c.loop-i.i in
    let inv = c.loop-i.invariant in
    let region = get_or regions i no_region in
    let text = c.as_slice.ensures ∙ c.write_region.ensures in
    let put = c.in_ok-put_text.ensures.puts in
    record {
      within = omega arith;
      put = subst (Appends (g.T.Sink.taken c.args.sink.now) (g.T.Sink.taken c.put_text.new.sink)) (flat_map-next region_line regions i no_region region c.loop-i-test.true refl)
          (Appends-trans (g.T.Sink.taken c.args.sink.now) (g.T.Sink.taken c.loop-i.sink) (g.T.Sink.taken c.put_text.new.sink)
          (flat_map region_line (take i regions)) (region_line region) inv.put
          (subst (λ (l : List ℕ). Appends (g.T.Sink.taken c.loop-i.sink) (g.T.Sink.taken c.put_text.new.sink) l) text put.0));
      failed = put.1 ∙ inv.failed;
    }

pub returns-in_err-put_text : goal.returns-in_err-put_text
returns-in_err-put_text g c =
    let regions = c.args.regions.now in
    let i = c.loop-i.i in
    let inv = c.loop-i.invariant in
    let region = get_or regions i no_region in
    let text = c.as_slice.ensures ∙ c.write_region.ensures in
    let put = c.in_err-put_text.ensures.puts in
    item_failed region_line regions i no_region region _ (g.T.Sink.taken c.loop-i.sink) _ _ _ _ _ c.from_residual.ensures.0 c.loop-i-test.true refl inv.put inv.failed
    (subst (λ (l : List ℕ). PutsPart (g.T.Sink.taken c.loop-i.sink) (g.T.Sink.taken c.put_text.new.sink) l) text put.0) put.1

pub returns : goal.returns
returns g c =
    let inv = c.loop-i.invariant in
    let all : take c.loop-i.i c.args.regions.now ≡ c.args.regions.now = take_all c.loop-i.i c.args.regions.now (omega arith) in
    (subst (λ (l : List Region). Appends (g.T.Sink.taken c.args.sink.now) (g.T.Sink.taken c.loop-i.sink) (flat_map region_line l)) all inv.put, inv.failed)
