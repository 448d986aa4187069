use Rattle.std.proofs.Common.{rules, ◌≡◌, ◌∙◌, ◌+◌, ◌<◌, ◌≤◌, ℕ, suc, List, [], ◌++◌, Ok, Err, length, get_or, refl, subst, ap, arith}
use Rattle.jcuts.specs.Cuts.{Asked}
use Rattle.jcuts.specs.declared.lines.Telling.TheVariants.{Nodes}
use Rattle.jstops.specs.Planned.{Forming}
use Rattle.jhalts.specs.InRow.{RowPoint, forming_in_row, row_point_of}
use Rattle.jhalts.specs.Halts.{TellsHalt}
use Rattle.jupdate.specs.View.{left_of}
use Rattle.jhalts.proofs.StandingLemmas.{row_by}
use Rattle.jhalts.proofs.HaltLemmas.{Told, all_told, next_fits, none_told, told_next, told_stop}
use Rattle.jhalts.proofs.halts.tell_ops.Goals as goal

pub loop-accepted-init : goal.loop-accepted-init
loop-accepted-init g c =
    let a = c.args in
    let asked : Asked = record { telling = Nodes; ops = a.ops.now; lines = a.lines.now } in
    record {
      within = omega arith;
      ready = c.requires.ready;
      forming = refl;
      forms = [];
      told = none_told (forming_in_row a.plan.now) asked (row_point_of a.plan.now) (g.T.Sink.taken a.sink.now) (g.T.Sink.failures a.sink.now) a.plan.now.few;
    }

pub tell_op-requires : goal.tell_op-requires
tell_op-requires g c = c.loop-accepted.invariant.ready

pub overflow_add-nodes : goal.overflow_add-nodes
overflow_add-nodes g c =
    let l = c.loop-accepted in
    let inv = l.invariant in
    let a = c.args in
    let n : ℕ = l.accepted in
    let o = c.index-ops-accepted.result in
    let t = c.tell_op.new.plan in
    let line : ℕ = get_or a.lines.now n 0 in
    let below : n < length a.ops.now = search rules in
    let is : o ≡ get_or a.ops.now n o = search rules in
    let asked : Asked = record { telling = Nodes; ops = a.ops.now; lines = a.lines.now } in
    let at : RowPoint = row_point_of l.plan in
    let to : RowPoint = row_point_of t in
    let did = subst (λ (f : Forming). TellsHalt f (record { telling = Nodes; op = o; line = line }) at to (record { old = g.T.Sink.taken l.sink; new = g.T.Sink.taken c.tell_op.new.sink; before = g.T.Sink.failures l.sink; now = g.T.Sink.failures c.tell_op.new.sink }) (Ok c.in-Ok.more))
    inv.forming c.in-Ok.ensures.tells in
    let fit = next_fits (forming_in_row a.plan.now) asked (row_point_of a.plan.now) n o o inv.forms at to line (g.T.Sink.taken a.sink.now) (g.T.Sink.taken l.sink) (g.T.Sink.taken c.tell_op.new.sink)
    (g.T.Sink.failures a.sink.now) (g.T.Sink.failures l.sink) (g.T.Sink.failures c.tell_op.new.sink) (record { nodes = l.nodes; weak = l.weak }) c.in-Ok.more t.block t.blocks
    below c.requires.numbered is refl inv.told did t.flash (row_by a.plan.now.block t.block t.blocks (left_of t) (ap (λ (f : Forming). f.flash.size) (c.in-Ok.ensures.forming ∙ inv.forming)) (t.going c.in-Ok.ensures.ready.whole).openings) in
    let small : l.nodes + c.in-Ok.more.nodes ≤ 268435456 = fit.0 in
    omega (arith, small)

pub overflow_add-weak : goal.overflow_add-weak
overflow_add-weak g c =
    let l = c.loop-accepted in
    let inv = l.invariant in
    let a = c.args in
    let n : ℕ = l.accepted in
    let o = c.index-ops-accepted.result in
    let t = c.tell_op.new.plan in
    let line : ℕ = get_or a.lines.now n 0 in
    let below : n < length a.ops.now = search rules in
    let is : o ≡ get_or a.ops.now n o = search rules in
    let asked : Asked = record { telling = Nodes; ops = a.ops.now; lines = a.lines.now } in
    let at : RowPoint = row_point_of l.plan in
    let to : RowPoint = row_point_of t in
    let did = subst (λ (f : Forming). TellsHalt f (record { telling = Nodes; op = o; line = line }) at to (record { old = g.T.Sink.taken l.sink; new = g.T.Sink.taken c.tell_op.new.sink; before = g.T.Sink.failures l.sink; now = g.T.Sink.failures c.tell_op.new.sink }) (Ok c.in-Ok.more))
    inv.forming c.in-Ok.ensures.tells in
    let fit = next_fits (forming_in_row a.plan.now) asked (row_point_of a.plan.now) n o o inv.forms at to line (g.T.Sink.taken a.sink.now) (g.T.Sink.taken l.sink) (g.T.Sink.taken c.tell_op.new.sink)
    (g.T.Sink.failures a.sink.now) (g.T.Sink.failures l.sink) (g.T.Sink.failures c.tell_op.new.sink) (record { nodes = l.nodes; weak = l.weak }) c.in-Ok.more t.block t.blocks
    below c.requires.numbered is refl inv.told did t.flash (row_by a.plan.now.block t.block t.blocks (left_of t) (ap (λ (f : Forming). f.flash.size) (c.in-Ok.ensures.forming ∙ inv.forming)) (t.going c.in-Ok.ensures.ready.whole).openings) in
    let small : l.weak + c.in-Ok.more.weak ≤ 268435456 = fit.1 in
    omega (arith, small)

pub loop-accepted-preserved : goal.loop-accepted-preserved
loop-accepted-preserved g c =
    let l = c.loop-accepted in
    let inv = l.invariant in
    let a = c.args in
    let n : ℕ = l.accepted in
    let o = c.index-ops-accepted.result in
    let t = c.tell_op.new.plan in
    let line : ℕ = get_or a.lines.now n 0 in
    let below : n < length a.ops.now = search rules in
    let is : o ≡ get_or a.ops.now n o = search rules in
    let asked : Asked = record { telling = Nodes; ops = a.ops.now; lines = a.lines.now } in
    let at : RowPoint = row_point_of l.plan in
    let to : RowPoint = row_point_of t in
    let did = subst (λ (f : Forming). TellsHalt f (record { telling = Nodes; op = o; line = line }) at to (record { old = g.T.Sink.taken l.sink; new = g.T.Sink.taken c.tell_op.new.sink; before = g.T.Sink.failures l.sink; now = g.T.Sink.failures c.tell_op.new.sink }) (Ok c.in-Ok.more))
    inv.forming c.in-Ok.ensures.tells in
    let next : suc n ≡ n + 1 = omega arith in
    record {
      within = omega arith;
      ready = c.in-Ok.ensures.ready;
      forming = c.in-Ok.ensures.forming ∙ inv.forming;
      forms = inv.forms ++ did.1.forms;
      told = subst (λ (i : ℕ). Told (forming_in_row a.plan.now) asked (row_point_of a.plan.now) i (inv.forms ++ did.1.forms) to
          (record { old = g.T.Sink.taken a.sink.now; new = g.T.Sink.taken c.tell_op.new.sink; before = g.T.Sink.failures a.sink.now; now = g.T.Sink.failures c.tell_op.new.sink })
          (record { nodes = l.nodes + c.in-Ok.more.nodes; weak = l.weak + c.in-Ok.more.weak })) next
          (told_next (forming_in_row a.plan.now) asked (row_point_of a.plan.now) n o o inv.forms at to line (g.T.Sink.taken a.sink.now) (g.T.Sink.taken l.sink) (g.T.Sink.taken c.tell_op.new.sink)
          (g.T.Sink.failures a.sink.now) (g.T.Sink.failures l.sink) (g.T.Sink.failures c.tell_op.new.sink) (record { nodes = l.nodes; weak = l.weak }) c.in-Ok.more below c.requires.numbered is refl inv.told did);
    }

pub returns-in-Err-clause-tells : goal.returns-in-Err-clause-tells
returns-in-Err-clause-tells g c =
    let l = c.loop-accepted in
    let inv = l.invariant in
    let a = c.args in
    let n : ℕ = l.accepted in
    let o = c.index-ops-accepted.result in
    let t = c.tell_op.new.plan in
    let line : ℕ = get_or a.lines.now n 0 in
    let below : n < length a.ops.now = search rules in
    let is : o ≡ get_or a.ops.now n o = search rules in
    let asked : Asked = record { telling = Nodes; ops = a.ops.now; lines = a.lines.now } in
    let at : RowPoint = row_point_of l.plan in
    let to : RowPoint = row_point_of t in
    let did = subst (λ (f : Forming). TellsHalt f (record { telling = Nodes; op = o; line = line }) at to (record { old = g.T.Sink.taken l.sink; new = g.T.Sink.taken c.tell_op.new.sink; before = g.T.Sink.failures l.sink; now = g.T.Sink.failures c.tell_op.new.sink }) (Err c.in-Err.fault))
    inv.forming c.in-Err.ensures.tells in
    told_stop (forming_in_row a.plan.now) asked (row_point_of a.plan.now) n o o inv.forms at to line (g.T.Sink.taken a.sink.now) (g.T.Sink.taken l.sink) (g.T.Sink.taken c.tell_op.new.sink)
    (g.T.Sink.failures a.sink.now) (g.T.Sink.failures l.sink) (g.T.Sink.failures c.tell_op.new.sink) (record { nodes = l.nodes; weak = l.weak }) c.in-Err.fault below c.requires.numbered is refl inv.told did

pub returns-clause-tells : goal.returns-clause-tells
returns-clause-tells g c =
    let l = c.loop-accepted in
    let inv = l.invariant in
    let a = c.args in
    let all : l.accepted ≡ length a.ops.now = search rules in (
      inv.forms,
      all_told (forming_in_row a.plan.now) (record { telling = Nodes; ops = a.ops.now; lines = a.lines.now }) (row_point_of a.plan.now) l.accepted inv.forms (row_point_of l.plan)
          (record { old = g.T.Sink.taken a.sink.now; new = g.T.Sink.taken l.sink; before = g.T.Sink.failures a.sink.now; now = g.T.Sink.failures l.sink }) (record { nodes = l.nodes; weak = l.weak }) all inv.told,
    )

pub returns-clause-ready : goal.returns-clause-ready
returns-clause-ready g c = c.loop-accepted.invariant.ready

pub returns-clause-forming : goal.returns-clause-forming
returns-clause-forming g c = c.loop-accepted.invariant.forming

pub returns-in-Err-clause-forming : goal.returns-in-Err-clause-forming
returns-in-Err-clause-forming g c = c.in-Err.ensures.forming ∙ c.loop-accepted.invariant.forming
