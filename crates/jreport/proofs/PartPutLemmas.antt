-- What a call puts of the part of a tree that a path names.
use Rattle.std.proofs.Common.{◌≡◌, ℕ, List, Vec, Bor, Global, map, refl, sym, ap, ◌∙◌, subst, Option, Some, None, Result, Ok, Err}
use Rattle.std.specs.Prelude.{IsErrAnd, option_map}
use Rattle.jmount.specs.Tree.{State}
use Rattle.jmount.specs.Find.{find, find_names, path_names}
use Rattle.jmount.specs.declared.fault.FindFault.{FindFault}
use Rattle.jmount.specs.declared.fault.FindFault.TheVariants as fault
use Rattle.jreport.specs.TreeText.{Item, IsItemAt, PutsFrom, PutsPartAt}
use Rattle.jreport.specs.declared.faults.ProgramFault.{ProgramFault}
use Rattle.jreport.specs.declared.faults.ProgramFault.TheVariants as program
use Rattle.jreport.proofs.WalkLemmas.{none_put}
use Rattle.jreport.proofs.SinkLemmas.{sink_change}

-- ---- the names of a path that leads to an object

found_names : (s : State) (names : Option (List (List ℕ))) (i : ℕ) → find_names s names ≡ Ok i → (path : List (List ℕ)) × (names ≡ Some path)
found_names s None i found = absurd (cc)
found_names s (Some path) i found = (path, refl)

pub item_at : (s : State) (text : List ℕ) (i : ℕ) → find s text ≡ Ok i → (item : Item) × IsItemAt s text item
item_at s text i found =
    let path = found_names s (path_names text) i found in ((path.0, i), (path.1, found))

-- the names as they were read
pub item_of_names : (s : State) (text : List ℕ) (read : Option (Vec (Bor (List ℕ)) Global)) (names : Vec (Bor (List ℕ)) Global) (i : ℕ)
    → option_map (λ v. map (λ n. n.now) v.items) read ≡ path_names text → read ≡ Some names → Ok i ≡ find s text
    → IsItemAt s text (map (λ n. n.now) names.items, i)
item_of_names s text read names i are is found =
    (sym are ∙ ap (option_map (λ (v : Vec (Bor (List ℕ)) Global). map (λ n. n.now) v.items)) is, sym found)

pub no_names : (s : State) (text : List ℕ) (read : Option (Vec (Bor (List ℕ)) Global)) → option_map (λ v. map (λ n. n.now) v.items) read ≡ path_names text
    → read ≡ None → find s text ≡ Err fault.BadPath
no_names s text None are is = ap (find_names s) (sym are)
no_names s text (Some names) are is = absurd (cc)

-- ---- what is put

pub part_put : {T : Type 0} (s : State) (path : List ℕ) (item : Item) (a b : Option (List ℕ)) (before now : ℕ) (r : Result T ProgramFault)
    → IsItemAt s path item → PutsFrom {T = T} s item (sink_change a b before now) r → PutsPartAt {T = T} s path (sink_change a b before now) r
part_put s path item a b before now (Ok x) at put = (item, at, put)
part_put s path item a b before now (Err program.Output) at put = (item, at, put)
part_put s path item a b before now (Err program.OutOfMemory) at put = (item, at, put)
part_put s path item a b before now (Err (program.Load f)) at put = absurd put
part_put s path item a b before now (Err (program.Scan f)) at put = absurd put
part_put s path item a b before now (Err (program.Mount f)) at put = absurd put
part_put s path item a b before now (Err (program.File f)) at put = absurd put
part_put s path item a b before now (Err (program.NotRead f)) at put = absurd put
part_put s path item a b before now (Err (program.Listing line)) at put = absurd put
part_put s path item a b before now (Err (program.Session fault line cause)) at put = absurd put
part_put s path item a b before now (Err (program.Path f)) at put = absurd put
part_put s path item a b before now (Err program.NotRegular) at put = absurd put
part_put s path item a b before now (Err (program.NoSpace folder)) at put = absurd put
part_put s path item a b before now (Err (program.Data addr)) at put = absurd put
part_put s path item a b before now (Err (program.TooLong addr)) at put = absurd put
part_put s path item a b before now (Err (program.Image why)) at put = absurd put
part_put s path item a b before now (Err (program.Clash addr other)) at put = absurd put

-- the path names nothing
pub part_not_found : {T : Type 0} (s : State) (path : List ℕ) (a : Option (List ℕ)) (before : ℕ) (f : FindFault) (r : Result T ProgramFault)
    → IsErrAnd r (λ e. e ≡ program.Path f) → find s path ≡ Err f → PutsPartAt {T = T} s path (sink_change a a before before) r
part_not_found s path a before f (Ok x) is none = absurd is
part_not_found {T} s path a before f (Err e) is none =
    subst (λ (y : ProgramFault). PutsPartAt {T = T} s path (sink_change a a before before) (Err y)) (sym is) (none, refl, refl)

-- memory ran out before anything was put
pub part_out_of_memory : {T : Type 0} (s : State) (path : List ℕ) (i : ℕ) (a : Option (List ℕ)) (before : ℕ) (r : Result T ProgramFault)
    → IsErrAnd r (λ e. e ≡ program.OutOfMemory) → find s path ≡ Ok i → PutsPartAt {T = T} s path (sink_change a a before before) r
part_out_of_memory s path i a before (Ok x) is found = absurd is
part_out_of_memory {T} s path i a before (Err e) is found =
    let at = item_at s path i found in
    subst (λ (y : ProgramFault). PutsPartAt {T = T} s path (sink_change a a before before) (Err y)) (sym is)
    (at.0, at.1, (none_put s at.0 a, refl))
