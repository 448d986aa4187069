use Rattle.std.proofs.Common.{rules, ◌≡◌, ℕ, List, [], ◌∷◌, length, true, refl, sym, subst, ◌∙◌}
use Rattle.std.specs.BTreeSet.{contains}
use Rattle.std.specs.Ordering.{nat_cmp}
use Rattle.std.proofs.lemmas.Bool.{eqb-true}
use Rattle.jlook.specs.Look.{IsLookAt}
use Rattle.jlook.proofs.mounting.mount_plain.Goals as goal

none_long : (xs : List ℕ) → length xs ≡ 0 → xs ≡ []
none_long [] is = refl
none_long (x ∷ xs) is = absurd (cc)

pub mount_look-requires : goal.mount_look-requires
mount_look-requires g c =
    let empty : c.is_empty.result ≡ true = search rules in
    let none : c.look_over.new.contents.items ≡ [] = none_long c.look_over.new.contents.items (sym c.look_over.new.contents.ok.0 ∙ eqb-true c.look_over.new.contents.len 0 (sym c.is_empty.ensures ∙ empty)) in
    record {
      looked = (
        contains nat_cmp c.args.wanted.now,
        subst (λ l. IsLookAt (contains nat_cmp c.args.wanted.now) g.E.Order.order c.args.geometry.block c.args.image.now l c.in_ok-look.look) none c.in_ok-look.ensures,
      );
    }

pub returns-in-Ok : goal.returns-in-Ok
returns-in-Ok g c =
    let empty : c.is_empty.result ≡ true = search rules in
    let none : c.look_over.new.contents.items ≡ [] = none_long c.look_over.new.contents.items (sym c.look_over.new.contents.ok.0 ∙ eqb-true c.look_over.new.contents.len 0 (sym c.is_empty.ensures ∙ empty)) in
    c.in-Ok.ensures (contains nat_cmp c.args.wanted.now)
    (subst (λ l. IsLookAt (contains nat_cmp c.args.wanted.now) g.E.Order.order c.args.geometry.block c.args.image.now l c.in_ok-look.look) none c.in_ok-look.ensures)
