-- What contracts see of a mounted image.
use Rattle.std.specs.Prelude.{ℕ, Bool, List}
use Rattle.std.specs.Ordering.{nat_cmp}
use Rattle.std.specs.FinMap.{FinMap}
use Rattle.jscan.specs.declared.finding.Finding.{Finding}
use Rattle.jmount.specs.Tree.{State}

-- the bytes that were mounted, the file system that they hold with the greatest version of each
-- number, and what was found beside its nodes
pub record Mount : Type 0 where
  pub image : List ℕ
  pub state : State
  pub tops : FinMap nat_cmp ℕ
  pub findings : List Finding
  pub read_only : Bool
