-- Items by number.
use Rattle.std.specs.Prelude.{ℕ, Vec, List, [], Option, Some, None}
use Rattle.std.specs.declared.alloc.Global.{Global}
use Rattle.std.specs.BTreeMap.{BTreeMap, get}
use Rattle.std.specs.Ordering.{nat_cmp}

abbrev pub items_or_none : {T : Type 0} → Option (Vec T Global) → List T
items_or_none None = []
items_or_none (Some group) = group.items

-- those of a number, in the order in which they came
unfoldable pub group_of : {T : Type 0} → BTreeMap ℕ (Vec T Global) → ℕ → List T
group_of groups number = items_or_none (get nat_cmp groups number)
