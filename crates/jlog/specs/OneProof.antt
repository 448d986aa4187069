-- A mount is that of its image, by the blocks of a flash: a fact with one proof, so that a struct
-- may have it.
use Rattle.std.specs.Prelude.{ℕ, List}
use Rattle.std.specs.Coded.{Coded, coded_ℕ, coded_list}
use Rattle.std.specs.Ordering.{nat_cmp}
use Rattle.std.specs.FinMap as finite
use Rattle.std.specs.FinMap.{FinMap}
use Rattle.std.proofs.Props.{props}
use Rattle.jnode.specs.declared.order.Endian.{Endian}
use Rattle.jscan.specs.contracts.finding.Finding as finding
use Rattle.jscan.specs.declared.finding.Finding.{Finding}
use Rattle.jmount.specs.Codes.{tree_code}
use Rattle.jmount.specs.Mount.{Mount}
use Rattle.jmount.specs.Mounts.{IsMountOf}
use Rattle.jmount.specs.Tree.{State}
use Rattle.jlog.specs.declared.start.Flash.{Flash}

abbrev pub IsMounted : Endian → Flash → Mount → Type 0
IsMounted e flash mount = IsMountOf e flash.geometry.block mount

abbrev pub state_coded : Coded State
state_coded = tree_code (coded_list coded_ℕ)

abbrev pub tops_coded : Coded (FinMap nat_cmp ℕ)
tops_coded = finite.code coded_ℕ coded_ℕ

abbrev pub findings_coded : Coded (List Finding)
findings_coded = coded_list (finding.the_row).coded

pub one_proof : (e : Endian) (flash : Flash) (mount : Mount) → IsProp (IsMounted e flash mount)
one_proof e flash mount = Prim.hlevel (props, state_coded, tops_coded, findings_coded)
