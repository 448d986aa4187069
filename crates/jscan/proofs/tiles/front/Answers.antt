use Rattle.std.proofs.Common.{arith, refl, sym, subst}
use Rattle.jscan.proofs.FrontLemmas.{IsFront, unless_found, node_front, word_front, rest_front}
use Rattle.jscan.specs.declared.tiles.TileKind.TheVariants.{Rest}
use Rattle.jscan.proofs.tiles.front.Goals as goal

pub returns-in-Some-clause-tile : goal.returns-in-Some-clause-tile
returns-in-Some-clause-tile g c = (node_front _ _ _ _ (c.in-Some.ensures.good.0 refl) c.requires.whole_words c.in-Some.ensures.fields c.pad4.ensures).tile

pub returns-in-Some-clause-nonempty : goal.returns-in-Some-clause-nonempty
returns-in-Some-clause-nonempty g c = (node_front _ _ _ _ (c.in-Some.ensures.good.0 refl) c.requires.whole_words c.in-Some.ensures.fields c.pad4.ensures).nonempty

pub returns-in-Some-clause-within : goal.returns-in-Some-clause-within
returns-in-Some-clause-within g c = (node_front _ _ _ _ (c.in-Some.ensures.good.0 refl) c.requires.whole_words c.in-Some.ensures.fields c.pad4.ensures).within

pub returns-in-Some-clause-whole_words : goal.returns-in-Some-clause-whole_words
returns-in-Some-clause-whole_words g c = (node_front _ _ _ _ (c.in-Some.ensures.good.0 refl) c.requires.whole_words c.in-Some.ensures.fields c.pad4.ensures).words

pub returns-in-None-clause-tile : goal.returns-in-None-clause-tile
returns-in-None-clause-tile g c =
    subst (IsFront g.E.Order.order c.args.rest.now Rest) (sym c.len-in-None.ensures) (rest_front _ _ (unless_found c.in-None.ensures.good.1) (omega arith))

pub returns-in-None-2-clause-tile : goal.returns-in-None-2-clause-tile
returns-in-None-2-clause-tile g c = word_front _ _ (unless_found c.in-None.ensures.good.1) (omega arith)

pub returns-in-Some-clause-good_tile : goal.returns-in-Some-clause-good_tile
returns-in-Some-clause-good_tile g c = λ header same. (node_front _ _ _ _ (c.in-Some.ensures.good.0 refl) c.requires.whole_words c.in-Some.ensures.fields c.pad4.ensures).good
