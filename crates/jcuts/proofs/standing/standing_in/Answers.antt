use Rattle.std.proofs.Common.{◌≡◌, ◌≤◌, ◌+◌, ◌-◌, sym, ℕ, List, Option, length, take, drop, ap, ap₂, ◌∙◌, arith, length-drop}
use Rattle.std.proofs.lemmas.List.{length-take-le}
use Rattle.jcuts.specs.Standing.{whole_len, least_weak}
use Rattle.jcuts.specs.declared.standing.Standing.{Standing}
use Rattle.jcuts.proofs.LeastLemmas.{least_weak_is}
use Rattle.jcuts.proofs.standing.standing_in.Goals as goal

pub returns : goal.returns
returns g c =
    let e = g.E.Order.order in
    let at : ℕ = c.args.place.addr in
    let n : ℕ = c.args.place.totlen in
    let skip : ℕ = at - c.args.from in
    let rest : List ℕ = drop skip c.args.out.now in
    let within : skip + n ≤ length c.args.out.now = c.requires.within in
    let size : skip + n - skip ≡ n = omega arith in
    let same : take (skip + n - skip) rest ≡ take n rest = ap (λ (i : ℕ). take i rest) size in
    let long : length (take n rest) ≡ n = length-take-le n rest (omega (arith, length-drop skip c.args.out.now)) in
    let told : ℕ → ℕ → Option ℕ → Standing = λ t s w. record { addr = at; totlen = t; stands_from = at + s; weak = w } in
    ap₂ (λ (t s : ℕ). told t s c.weak_cut.result) (sym long) (c.whole_len.ensures.len ∙ ap whole_len same)
    ∙ ap (told (length (take n rest)) (whole_len (take n rest))) (least_weak_is e (take (skip + n - skip) rest) c.weak_cut.result c.weak_cut.ensures ∙ ap (least_weak e) same)
