use Rattle.std.proofs.Common.{◌≡◌, ◌==◌, ◌∙◌, ℕ, Bool, true, false, List, ◌++◌, ap, ◌&&◌, sym}
use Rattle.std.proofs.lemmas.List.Folds.{list_all-append}
use Rattle.jreserve.specs.Erased.{is_all_erased}
use Rattle.jopenings.proofs.erased.is_erased_block.Goals as goal

both : (front behind : List ℕ) (b : Bool) → is_all_erased front ≡ b → is_all_erased (front ++ behind) ≡ (b && is_all_erased behind)
both front behind b is = list_all-append (λ n. n == 0xFF) front behind ∙ ap (λ (t : Bool). t && is_all_erased behind) is

pub returns-then-is_erased : goal.returns-then-is_erased
returns-then-is_erased c =
    c.is_erased-then-is_erased.ensures
    ∙ sym (both c.args.block.now.front c.args.block.now.behind true (sym c.is_erased.ensures ∙ c.if-is_erased.true))

pub returns-else-is_erased : goal.returns-else-is_erased
returns-else-is_erased c =
    c.if-is_erased.false
    ∙ sym (both c.args.block.now.front c.args.block.now.behind false (sym c.is_erased.ensures ∙ c.if-is_erased.false))
