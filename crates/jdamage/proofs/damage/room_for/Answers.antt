use Rattle.std.proofs.Common.{ℕ, ◌≡◌, ◌+◌, Bor, List, arith}
use Rattle.std.specs.Prelude.{All, Vec, vec_capacity}
use Rattle.std.specs.declared.alloc.Global.{Global}
use Rattle.std.proofs.lemmas.Grind.{common_steps}
use Rattle.jdamage.specs.Room.{GapPathsFit, HeldPathsFit, NodePathsFit}
use Rattle.jdamage.proofs.LawLemmas.{if_ok}
use Rattle.jdamage.proofs.RoomLemmas.{fits_more, paths_fit_more}
use Rattle.jdamage.proofs.damage.room_for.Goals as goal

pub overflow_add-room : goal.overflow_add-room
overflow_add-room g c =
    grind (arith, common_steps, c.max-most.ensures, c.max-room.ensures, c.deepest_of_all-nodes.ensures.few, c.deepest-names.ensures.few, c.deepest_of_gaps-files.ensures.few)

pub returns-clause-room : goal.returns-clause-room
returns-clause-room g c =
    let e = g.E.Order.order in
    let m = c.args.ways.now.up.mounted.now in
    let hidden = c.args.hidden.now in
    if_ok c.with_capacity.result (λ (path : Vec (Bor (List ℕ)) Global). vec_capacity path ≡ c.max-room.result + 1) (λ (path : Vec (Bor (List ℕ)) Global). All (NodePathsFit e m hidden (vec_capacity path)) c.args.found.damaged.now)
    (λ path room. λ k d less. fits_more e m hidden (c.deepest_of_all-nodes.result + 1) (vec_capacity path) _ (grind (arith, common_steps, c.max-most.ensures, c.max-room.ensures, room)) (c.deepest_of_all-nodes.ensures.room k d less))
    c.with_capacity.ensures.exact

pub returns-clause-names : goal.returns-clause-names
returns-clause-names g c =
    let s = c.args.ways.now.up.mounted.now.state in
    if_ok c.with_capacity.result (λ (path : Vec (Bor (List ℕ)) Global). vec_capacity path ≡ c.max-room.result + 1) (λ (path : Vec (Bor (List ℕ)) Global). HeldPathsFit s (vec_capacity path) c.args.found.missing.now)
    (λ path room. paths_fit_more s (c.deepest-names.result + 1) (vec_capacity path) _ (grind (arith, common_steps, c.max-most.ensures, c.max-room.ensures, room)) c.deepest-names.ensures.room)
    c.with_capacity.ensures.exact

pub returns-clause-gaps : goal.returns-clause-gaps
returns-clause-gaps g c =
    let s = c.args.ways.now.up.mounted.now.state in
    if_ok c.with_capacity.result (λ (path : Vec (Bor (List ℕ)) Global). vec_capacity path ≡ c.max-room.result + 1) (λ (path : Vec (Bor (List ℕ)) Global). GapPathsFit s (vec_capacity path) c.args.found.gaps.now)
    (λ path room. λ k d less. paths_fit_more s (c.deepest_of_gaps-files.result + 1) (vec_capacity path) _ (grind (arith, common_steps, c.max-most.ensures, c.max-room.ensures, room)) (c.deepest_of_gaps-files.ensures.room k d less))
    c.with_capacity.ensures.exact
