use Rattle.std.proofs.Common.{ℕ, List, Option, None, Some, ◌≡◌, sym, subst, ◌∙◌}
use Rattle.std.specs.Prelude.{option_map}
use Rattle.jspare.specs.Paging.{left_by, pages_by}
use Rattle.jspare.specs.declared.layout.PageLayout.{PageLayout}
use Rattle.jspare.proofs.PagingLemmas.{all_at_first, all_of_bytes}
use Rattle.jspare.proofs.source.PageSource.new.Goals as goal
use Rattle.jspare.proofs.source.PageSource.new.Goals.{in-None, in-Some}

-- a layout that is known
by_known : (known given made : Option PageLayout) (left : ℕ) (rest : Option (List ℕ)) → given ≡ known → made ≡ known
    → option_map (left_by known left) rest ≡ option_map (pages_by known) rest
    → option_map (left_by made left) rest ≡ option_map (pages_by given) rest
by_known known given made left rest is made_is same =
    subst (λ (o : Option PageLayout). option_map (left_by o left) rest ≡ option_map (pages_by given) rest) (sym made_is)
    (subst (λ (o : Option PageLayout). option_map (left_by known left) rest ≡ option_map (pages_by o) rest) (sym is) same)

pub returns-clause-rest : goal.returns-clause-rest
returns-clause-rest g c = elim c.match-layout.branch [
  | in-None w ↦
      by_known None c.args.layout c.match-layout.layout _ _ w.in-None.is (w.layout-is ∙ w.in-None.is)
      (all_of_bytes c.match-layout.left (g.S.Source.rest c.args.source))
  | in-Some w ↦
      by_known (Some w.in-Some.layout) c.args.layout c.match-layout.layout _ _ w.in-Some.is w.layout-is
      (all_at_first w.in-Some.layout c.match-layout.left (g.S.Source.rest c.args.source) (w.left-is ∙ w.stride-left.ensures))
]
