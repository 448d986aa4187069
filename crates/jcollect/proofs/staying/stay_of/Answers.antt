use Rattle.std.proofs.Common.{◌≡◌, ℕ, List, ap, sym, subst, ◌∙◌}
use Rattle.std.specs.BTreeSet.{contains}
use Rattle.std.specs.Ordering.{nat_cmp}
use Rattle.jclash.specs.Parting.{AreByAddress, Parts}
use Rattle.jclash.specs.declared.parting.LeftOut.{LeftOut}
use Rattle.jcompact.specs.Matters.{Placed}
use Rattle.jcollect.specs.Staying.{is_left_out}
use Rattle.jcollect.proofs.StayingLemmas.{stay_parted}
use Rattle.jcollect.proofs.staying.stay_of.Goals as goal

pub without_clashing-requires : goal.without_clashing-requires
without_clashing-requires c = subst AreByAddress (sym c.deref.ensures.value) c.requires

pub returns-clause-stay : goal.returns-clause-stay
returns-clause-stay c =
    let stay = c.in_ok-parted.parted.stay.items in
    let left : List LeftOut = c.in_ok-parted.parted.left.items in
    let parts : Parts c.args.nodes.items stay left = subst (λ (l : List Placed). Parts l stay left) c.deref.ensures.value c.in_ok-parted.ensures in
    (stay_parted c.args.nodes.items c.elsewhere.result.items stay left (λ (a : ℕ). contains nat_cmp c.in_ok-out.out a) c.requires parts
    (λ a. c.in_ok-out.ensures a ∙ ap (λ (l : List LeftOut). is_left_out l a) c.deref-2.ensures.value) c.elsewhere.ensures).0

pub returns-clause-same : goal.returns-clause-same
returns-clause-same c =
    let stay = c.in_ok-parted.parted.stay.items in
    let left : List LeftOut = c.in_ok-parted.parted.left.items in
    let parts : Parts c.args.nodes.items stay left = subst (λ (l : List Placed). Parts l stay left) c.deref.ensures.value c.in_ok-parted.ensures in
    (stay_parted c.args.nodes.items c.elsewhere.result.items stay left (λ (a : ℕ). contains nat_cmp c.in_ok-out.out a) c.requires parts
    (λ a. c.in_ok-out.ensures a ∙ ap (λ (l : List LeftOut). is_left_out l a) c.deref-2.ensures.value) c.elsewhere.ensures).1
