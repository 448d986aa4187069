use Rattle.std.proofs.Common.{rules, ◌≡◌, ◌≤◌, ◌+◌, ◌<◌, [], ◌∷◌, ◌++◌, List, length, ℕ, take, take_all, get_or, suc, arith, subst, sym}
use Rattle.jsteps.specs.Laws.{IsPlanned}
use Rattle.jsteps.specs.Nodes.{Indexed, node_of, advanced_all}
use Rattle.jsteps.specs.declared.step.Step.{Step}
use Rattle.jlog.specs.Running.{node_len}
use Rattle.jlog.proofs.RoomCode.{len_at}
use Rattle.jlog.proofs.RunningLemmas.{can_at}
use Rattle.jview.specs.Through.{greatest_contents}
use Rattle.jpacked.specs.Forms.{ArePacked, IsChosen, content_chosen}
use Rattle.jpacked.proofs.ChooseLemmas.{chosen_room}
use Rattle.jpacked.proofs.MadeLemmas.{none_packed, packed_more}
use Rattle.jpacked.proofs.planning.choose_all.Goals as goal

pub loop-i-init : goal.loop-i-init
loop-i-init g c =
    let none : c.in_ok-streams.streams.items ≡ [] = search rules in
    record {
      within = omega arith;
      packed = subst (λ (l : List (List ℕ)). ArePacked g.E.Order.order c.args.index.now [] c.args.held l c.args.held) (sym none) (none_packed g.E.Order.order c.args.index.now c.args.held c.requires.held);
    }

pub choose-requires : goal.choose-requires
choose-requires g c = c.loop-i.invariant.packed.within

pub content_chosen-requires : goal.content_chosen-requires
content_chosen-requires g c =
    let e = g.E.Order.order in
    let a = c.args in
    let r = c.requires.steps in
    let s : Step = c.index-steps-i.result in
    let below : c.loop-i.i < length a.steps.now = search rules in
    let is : s ≡ get_or a.steps.now c.loop-i.i s = search rules in
    let own : node_len s ≤ 16452 = subst (λ (w : Step). node_len w ≤ 16452) (sym is) (len_at r.0 e a.index.now a.steps.now c.loop-i.i s r.1 r.2 below) in
    omega (arith, own)

pub loop-i-preserved : goal.loop-i-preserved
loop-i-preserved g c =
    let e = g.E.Order.order in
    let a = c.args in
    let r = c.requires.steps in
    let x : Indexed = a.index.now in
    let i : ℕ = c.loop-i.i in
    let s : Step = c.index-steps-i.result in
    let t : List ℕ = c.in_ok-stream.stream in
    let below : i < length a.steps.now = search rules in
    let is : s ≡ get_or a.steps.now i s = search rules in
    let chosen : IsChosen (node_of (advanced_all x (take i a.steps.now)) s) c.loop-i.sum t = search rules in
    let next : suc i ≡ i + 1 = omega arith in
    let more : ArePacked e x (take (suc i) a.steps.now) a.held (c.loop-i.streams.items ++ t ∷ []) (c.loop-i.sum + content_chosen s t) =
    packed_more r.0 e x a.steps.now a.held c.loop-i.sum c.loop-i.streams.items i s s t r.1 r.2 below is c.loop-i.invariant.packed chosen in
    let pushed : c.push.new.self.items ≡ c.loop-i.streams.items ++ t ∷ [] = search rules in
    let sum : c.loop-i.sum + c.content_chosen.result ≡ c.loop-i.sum + content_chosen s t = search rules in
    record {
      within = omega arith;
      packed = subst (λ (n : ℕ). ArePacked e x (take n a.steps.now) a.held c.push.new.self.items (c.loop-i.sum + c.content_chosen.result)) next
          (subst (λ (l : List (List ℕ)). ArePacked e x (take (suc i) a.steps.now) a.held l (c.loop-i.sum + c.content_chosen.result)) (sym pushed)
          (subst (ArePacked e x (take (suc i) a.steps.now) a.held (c.loop-i.streams.items ++ t ∷ [])) (sym sum) more));
    }

pub overflow_add-sum : goal.overflow_add-sum
overflow_add-sum g c =
    let e = g.E.Order.order in
    let a = c.args in
    let r = c.requires.steps in
    let x : Indexed = a.index.now in
    let i : ℕ = c.loop-i.i in
    let s : Step = c.index-steps-i.result in
    let t : List ℕ = c.in_ok-stream.stream in
    let below : i < length a.steps.now = search rules in
    let is : s ≡ get_or a.steps.now i s = search rules in
    let y : Indexed = advanced_all x (take i a.steps.now) in
    let chosen : IsChosen (node_of y s) c.loop-i.sum t = search rules in
    let planned : IsPlanned r.0 e (node_of y s) = subst (λ (w : Step). IsPlanned r.0 e (node_of y w)) (sym is) (can_at r.0 e x a.steps.now i s r.2 below).node in
    let most : c.loop-i.sum + content_chosen s t ≤ greatest_contents = chosen_room r.0 e y s c.loop-i.sum t r.1 planned chosen c.loop-i.invariant.packed.within in
    let same : c.content_chosen.result ≡ content_chosen s t = search rules in
    let far : c.loop-i.sum + c.content_chosen.result ≤ 1073741824 = omega (arith, most, same) in
    search (rules, far)

pub returns : goal.returns
returns g c =
    let a = c.args in
    let all : length a.steps.now ≤ c.loop-i.i = search rules in
    subst (λ (l : List Step). ArePacked g.E.Order.order a.index.now l a.held c.loop-i.streams.items c.loop-i.sum) (take_all c.loop-i.i a.steps.now all) c.loop-i.invariant.packed
