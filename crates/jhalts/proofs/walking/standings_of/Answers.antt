use Rattle.std.proofs.Common.{rules, ◌≡◌, ◌+◌, ◌-◌, ◌≤◌, ℕ, suc, List, [], ◌∷◌, drop, get_or, length, length-drop, refl, take, arith}
use Rattle.jlog.specs.declared.report.Place.{Place}
use Rattle.jlog.specs.declared.writing.Blocks.{Blocks}
use Rattle.jopenings.specs.declared.placing.Stretch.{Stretch}
use Rattle.jrests.specs.declared.opening.Opening.{Opening}
use Rattle.jhalts.specs.Walk.{row_of_walk}
use Rattle.jhalts.specs.declared.walking.Walk.{Walk}
use Rattle.jhalts.proofs.WalkLemmas.{all_walked}
use Rattle.jhalts.proofs.TurnLemmas.{all_bytes, at_form, node_there, one_place, one_standing, turn_numbers, turned}
use Rattle.jhalts.proofs.walking.standings_of.Goals as goal

pub address_of-from-requires : goal.address_of-from-requires
address_of-from-requires g c =
    let e = g.E.Order.order in
    let l = c.loop-i in
    let ss : List Stretch = c.args.stretches.now in
    let places : List Place = c.args.places.now in
    let out : List ℕ = c.args.out.now in
    let flash : Blocks = c.args.walk.now.flash in
    let row : List Opening = row_of_walk ss c.args.walk.now in
    let d : Place = record { addr = 0; totlen = 0 } in
    let p : Place = get_or places l.i d in
    let next : Walk = c.reach-next.result in
    let now : List Opening = row_of_walk ss l.walk in
    let w = l.invariant.walked c.requires.0 c.requires.1 in
    let at = at_form e flash row c.requires.0 ss l.walk next (drop l.start out) places l.told.items l.i p d l.invariant.flash c.loop-i-test.true refl c.reach-next.ensures.row c.reach-next.ensures.flash w in
    at.is_open

pub standings_in-requires : goal.standings_in-requires
standings_in-requires g c =
    let e = g.E.Order.order in
    let l = c.loop-i in
    let ss : List Stretch = c.args.stretches.now in
    let places : List Place = c.args.places.now in
    let out : List ℕ = c.args.out.now in
    let flash : Blocks = c.args.walk.now.flash in
    let row : List Opening = row_of_walk ss c.args.walk.now in
    let d : Place = record { addr = 0; totlen = 0 } in
    let p : Place = get_or places l.i d in
    let next : Walk = c.reach-next.result in
    let now : List Opening = row_of_walk ss l.walk in
    let w = l.invariant.walked c.requires.0 c.requires.1 in
    let at = at_form e flash row c.requires.0 ss l.walk next (drop l.start out) places l.told.items l.i p d l.invariant.flash c.loop-i-test.true refl c.reach-next.ensures.row c.reach-next.ensures.flash w in
    let bytes : List ℕ = take (length out - l.start) (drop l.start out) in
    let one : List Place = take (l.i + 1 - l.i) (drop l.i places) in
    node_there e flash now w.left (drop l.start out) p (drop (suc l.i) places) ss next c.address_of-from.result bytes one at c.address_of-from.ensures (all_bytes out l.start)
    (one_place places l.i p d c.loop-i-test.true refl)

pub overflow_cast-len : goal.overflow_cast-len
overflow_cast-len g c =
    let e = g.E.Order.order in
    let l = c.loop-i in
    let ss : List Stretch = c.args.stretches.now in
    let places : List Place = c.args.places.now in
    let out : List ℕ = c.args.out.now in
    let flash : Blocks = c.args.walk.now.flash in
    let row : List Opening = row_of_walk ss c.args.walk.now in
    let d : Place = record { addr = 0; totlen = 0 } in
    let p : Place = get_or places l.i d in
    let next : Walk = c.reach-next.result in
    let now : List Opening = row_of_walk ss l.walk in
    let w = l.invariant.walked c.requires.0 c.requires.1 in
    let at = at_form e flash row c.requires.0 ss l.walk next (drop l.start out) places l.told.items l.i p d l.invariant.flash c.loop-i-test.true refl c.reach-next.ensures.row c.reach-next.ensures.flash w in
    let n = turn_numbers e flash now w.left (drop l.start out) p (drop (suc l.i) places) ss next c.address_of-from.result c.pad4.result l.start (length out) at c.address_of-from.ensures c.pad4.ensures (length-drop l.start out) l.invariant.start in
    omega (arith, n.pad_small)

pub overflow_add-len : goal.overflow_add-len
overflow_add-len g c =
    let e = g.E.Order.order in
    let l = c.loop-i in
    let ss : List Stretch = c.args.stretches.now in
    let places : List Place = c.args.places.now in
    let out : List ℕ = c.args.out.now in
    let flash : Blocks = c.args.walk.now.flash in
    let row : List Opening = row_of_walk ss c.args.walk.now in
    let d : Place = record { addr = 0; totlen = 0 } in
    let p : Place = get_or places l.i d in
    let next : Walk = c.reach-next.result in
    let now : List Opening = row_of_walk ss l.walk in
    let w = l.invariant.walked c.requires.0 c.requires.1 in
    let at = at_form e flash row c.requires.0 ss l.walk next (drop l.start out) places l.told.items l.i p d l.invariant.flash c.loop-i-test.true refl c.reach-next.ensures.row c.reach-next.ensures.flash w in
    let n = turn_numbers e flash now w.left (drop l.start out) p (drop (suc l.i) places) ss next c.address_of-from.result c.pad4.result l.start (length out) at c.address_of-from.ensures c.pad4.ensures (length-drop l.start out) l.invariant.start in
    omega (arith, n.sum_small)

pub overflow_sub-len : goal.overflow_sub-len
overflow_sub-len g c =
    let e = g.E.Order.order in
    let l = c.loop-i in
    let ss : List Stretch = c.args.stretches.now in
    let places : List Place = c.args.places.now in
    let out : List ℕ = c.args.out.now in
    let flash : Blocks = c.args.walk.now.flash in
    let row : List Opening = row_of_walk ss c.args.walk.now in
    let d : Place = record { addr = 0; totlen = 0 } in
    let p : Place = get_or places l.i d in
    let next : Walk = c.reach-next.result in
    let now : List Opening = row_of_walk ss l.walk in
    let w = l.invariant.walked c.requires.0 c.requires.1 in
    let at = at_form e flash row c.requires.0 ss l.walk next (drop l.start out) places l.told.items l.i p d l.invariant.flash c.loop-i-test.true refl c.reach-next.ensures.row c.reach-next.ensures.flash w in
    let n = turn_numbers e flash now w.left (drop l.start out) p (drop (suc l.i) places) ss next c.address_of-from.result c.pad4.result l.start (length out) at c.address_of-from.ensures c.pad4.ensures (length-drop l.start out) l.invariant.start in
    n.up

pub overflow_add-next : goal.overflow_add-next
overflow_add-next g c =
    let e = g.E.Order.order in
    let l = c.loop-i in
    let ss : List Stretch = c.args.stretches.now in
    let places : List Place = c.args.places.now in
    let out : List ℕ = c.args.out.now in
    let flash : Blocks = c.args.walk.now.flash in
    let row : List Opening = row_of_walk ss c.args.walk.now in
    let d : Place = record { addr = 0; totlen = 0 } in
    let p : Place = get_or places l.i d in
    let next : Walk = c.reach-next.result in
    let now : List Opening = row_of_walk ss l.walk in
    let w = l.invariant.walked c.requires.0 c.requires.1 in
    let at = at_form e flash row c.requires.0 ss l.walk next (drop l.start out) places l.told.items l.i p d l.invariant.flash c.loop-i-test.true refl c.reach-next.ensures.row c.reach-next.ensures.flash w in
    let n = turn_numbers e flash now w.left (drop l.start out) p (drop (suc l.i) places) ss next c.address_of-from.result c.pad4.result l.start (length out) at c.address_of-from.ensures c.pad4.ensures (length-drop l.start out) l.invariant.start in
    omega (arith, n.place_small)

pub overflow_cast-start : goal.overflow_cast-start
overflow_cast-start g c =
    let e = g.E.Order.order in
    let l = c.loop-i in
    let ss : List Stretch = c.args.stretches.now in
    let places : List Place = c.args.places.now in
    let out : List ℕ = c.args.out.now in
    let flash : Blocks = c.args.walk.now.flash in
    let row : List Opening = row_of_walk ss c.args.walk.now in
    let d : Place = record { addr = 0; totlen = 0 } in
    let p : Place = get_or places l.i d in
    let next : Walk = c.reach-next.result in
    let now : List Opening = row_of_walk ss l.walk in
    let w = l.invariant.walked c.requires.0 c.requires.1 in
    let at = at_form e flash row c.requires.0 ss l.walk next (drop l.start out) places l.told.items l.i p d l.invariant.flash c.loop-i-test.true refl c.reach-next.ensures.row c.reach-next.ensures.flash w in
    let n = turn_numbers e flash now w.left (drop l.start out) p (drop (suc l.i) places) ss next c.address_of-from.result c.pad4.result l.start (length out) at c.address_of-from.ensures c.pad4.ensures (length-drop l.start out) l.invariant.start in
    omega (arith, n.sum_small)

pub overflow_add-start : goal.overflow_add-start
overflow_add-start g c =
    let e = g.E.Order.order in
    let l = c.loop-i in
    let ss : List Stretch = c.args.stretches.now in
    let places : List Place = c.args.places.now in
    let out : List ℕ = c.args.out.now in
    let flash : Blocks = c.args.walk.now.flash in
    let row : List Opening = row_of_walk ss c.args.walk.now in
    let d : Place = record { addr = 0; totlen = 0 } in
    let p : Place = get_or places l.i d in
    let next : Walk = c.reach-next.result in
    let now : List Opening = row_of_walk ss l.walk in
    let w = l.invariant.walked c.requires.0 c.requires.1 in
    let at = at_form e flash row c.requires.0 ss l.walk next (drop l.start out) places l.told.items l.i p d l.invariant.flash c.loop-i-test.true refl c.reach-next.ensures.row c.reach-next.ensures.flash w in
    let n = turn_numbers e flash now w.left (drop l.start out) p (drop (suc l.i) places) ss next c.address_of-from.result c.pad4.result l.start (length out) at c.address_of-from.ensures c.pad4.ensures (length-drop l.start out) l.invariant.start in
    let within : l.start + (p.addr + c.pad4.result - c.address_of-from.result) ≤ length out = n.within in
    search (rules, within)

pub loop-i-preserved : goal.loop-i-preserved
loop-i-preserved g c =
    let e = g.E.Order.order in
    let l = c.loop-i in
    let ss : List Stretch = c.args.stretches.now in
    let places : List Place = c.args.places.now in
    let out : List ℕ = c.args.out.now in
    let flash : Blocks = c.args.walk.now.flash in
    let row : List Opening = row_of_walk ss c.args.walk.now in
    let d : Place = record { addr = 0; totlen = 0 } in
    let p : Place = get_or places l.i d in
    let next : Walk = c.reach-next.result in
    let now : List Opening = row_of_walk ss l.walk in
    let w = l.invariant.walked c.requires.0 c.requires.1 in
    let at = at_form e flash row c.requires.0 ss l.walk next (drop l.start out) places l.told.items l.i p d l.invariant.flash c.loop-i-test.true refl c.reach-next.ensures.row c.reach-next.ensures.flash w in
    let n = turn_numbers e flash now w.left (drop l.start out) p (drop (suc l.i) places) ss next c.address_of-from.result c.pad4.result l.start (length out) at c.address_of-from.ensures c.pad4.ensures (length-drop l.start out) l.invariant.start in
    let from : ℕ = c.address_of-from.result in
    let passed : ℕ = p.addr + c.pad4.result - from in
    let bytes : List ℕ = take (length out - l.start) (drop l.start out) in
    let one : List Place = take (l.i + 1 - l.i) (drop l.i places) in
    let is : one ≡ p ∷ [] = one_place places l.i p d c.loop-i-test.true refl in
    record {
      within = omega (arith, c.loop-i-test.true);
      start = n.within;
      flash = at.same;
      walked = λ forms put.
          let v = l.invariant.walked forms put in
          let here = at_form e flash row forms ss l.walk next (drop l.start out) places l.told.items l.i p d l.invariant.flash c.loop-i-test.true refl c.reach-next.ensures.row c.reach-next.ensures.flash v in
          let m = turn_numbers e flash now v.left (drop l.start out) p (drop (suc l.i) places) ss next from c.pad4.result l.start (length out) here c.address_of-from.ensures c.pad4.ensures (length-drop l.start out) l.invariant.start in
          turned e flash row forms ss l.walk next out places l.told.items c.push.new.self.items l.start l.i passed p v here m.passed m.ends
          (one_standing e flash now v.left (drop l.start out) p (drop (suc l.i) places) ss next from bytes one c.in_ok-one.one.items c.index.result.now l.told.items c.push.new.self.items here
          c.address_of-from.ensures (all_bytes out l.start) is c.in_ok-one.ensures c.index.ensures c.in_ok-push.ensures.items);
    }

pub returns-clause-told : goal.returns-clause-told
returns-clause-told g c =
    let e = g.E.Order.order in
    let l = c.loop-i in
    let ss : List Stretch = c.args.stretches.now in
    let places : List Place = c.args.places.now in
    let out : List ℕ = c.args.out.now in
    let flash : Blocks = c.args.walk.now.flash in
    let row : List Opening = row_of_walk ss c.args.walk.now in
    let all : l.i ≡ length places = omega (arith, l.invariant.within, c.loop-i-test.false) in
    λ forms put. (all_walked e flash row forms (row_of_walk ss l.walk) (drop l.start out) places l.told.items l.i all (l.invariant.walked forms put)).0

pub returns-clause-row : goal.returns-clause-row
returns-clause-row g c =
    let e = g.E.Order.order in
    let l = c.loop-i in
    let ss : List Stretch = c.args.stretches.now in
    let places : List Place = c.args.places.now in
    let out : List ℕ = c.args.out.now in
    let flash : Blocks = c.args.walk.now.flash in
    let row : List Opening = row_of_walk ss c.args.walk.now in
    let all : l.i ≡ length places = omega (arith, l.invariant.within, c.loop-i-test.false) in
    λ forms put. (all_walked e flash row forms (row_of_walk ss l.walk) (drop l.start out) places l.told.items l.i all (l.invariant.walked forms put)).1
