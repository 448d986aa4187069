use Rattle.std.proofs.Common.{◌∙◌, refl}
use Rattle.jfolder.specs.Text.{items_words, listing_text, root_words, settings_of_root}
use Rattle.jfolder.proofs.PutLemmas.{item_failed, item_put, items_put, lines_first_failed}
use Rattle.jfolder.proofs.text.put_listing.Goals as goal

pub returns-in_err-put_root : goal.returns-in_err-put_root
unfolding listing_text
returns-in_err-put_root g c =
    let put = c.in_err-put_root.ensures in
    lines_first_failed _ _ _ _ (root_words c.args.root.now) (items_words (settings_of_root c.args.root.now) c.args.items.now) _ c.from_residual.ensures.0 put.0 put.1

pub loop-item-init : goal.loop-item-init
loop-item-init g c =
    let put = c.in_ok-put_root.ensures in
    record {
      put = record { done = root_words c.args.root.now; put = put.0; left = refl };
      failed = put.1;
    }

pub loop-item-preserved : goal.loop-item-preserved
loop-item-preserved g c =
    let before = c.loop-item.invariant in
    let put = c.in_ok-put_item.ensures in
    record {
      put = item_put c.loop-item.settings _ c.args.items.now c.loop-item.item-index c.item-item.result _ _ (g.T.Sink.taken c.loop-item.sink) _ c.loop-item-test.true c.item-item.is c.settings_after-settings.ensures before.put put.0;
      failed = put.1 ∙ before.failed;
    }

pub returns-in_err-put_item : goal.returns-in_err-put_item
unfolding listing_text
returns-in_err-put_item g c =
    let before = c.loop-item.invariant in
    let put = c.in_err-put_item.ensures in
    item_failed c.loop-item.settings c.args.items.now c.loop-item.item-index c.item-item.result _ _ (g.T.Sink.taken c.loop-item.sink) _ _ _ _ _ c.from_residual-in_err-put_item.ensures.0 c.loop-item-test.true c.item-item.is
    before.put before.failed put.0 put.1

pub returns : goal.returns
unfolding listing_text
returns g c =
    let done = c.loop-item.invariant in
    (items_put c.loop-item.settings c.args.items.now c.loop-item.item-index _ _ _ c.loop-item-test.false done.put, done.failed)
