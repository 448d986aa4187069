-- What is printed of an image that is looked at, as calls put it into a sink.
use Rattle.std.proofs.Common.{◌≡◌, ℕ, Bool, List, [], Option, None, Some, Ok, Err, arith, inl, inr, refl, sym, ◌∙◌}
use Rattle.std.specs.Prelude.{Result, take}
use Rattle.std.proofs.lemmas.Bool.{true≢false}
use Rattle.flashbase.specs.Device.{next_count}
use Rattle.flashbase.specs.Sinks.{SinkChange}
use Rattle.jnode.specs.declared.order.Endian.{Endian}
use Rattle.jscan.specs.Scans.{IsScannable}
use Rattle.jscan.specs.declared.geometry.ScanFault.TheVariants as scan
use Rattle.jmount.specs.Tree.{State}
use Rattle.jmount.specs.declared.fault.MountFault.TheVariants as mount
use Rattle.jreport.specs.Content.{PutsContent}
use Rattle.jreport.specs.Report.{scan_text}
use Rattle.jreport.specs.TreeText.{IsTextFrom, Item, PutsFrom, PutsPartAt, PutsTreeAt}
use Rattle.jreport.specs.WholeImage.{PutsCheck, PutsPartOfCheck}
use Rattle.jreport.specs.declared.faults.ProgramFault.{ProgramFault}
use Rattle.jreport.specs.declared.faults.ProgramFault.TheVariants as program
use Rattle.jedge.specs.Acts.{PutsBy}
use Rattle.jedge.specs.Showing.{Checks, Contains, IsListed, Lists, check_found, put_found}
use Rattle.jedge.specs.Told.{Told}
use Rattle.jedge.specs.declared.fault.Fault.TheVariants as fault
use Rattle.jedge.proofs.CostLemmas.{none_put}

-- ---- `check`

pub check_begun : (e : Endian) (size : ℕ) (shape : Bool) (image : List ℕ) (s : SinkChange)
    → PutsPartOfCheck e size image shape s.old s.new → s.now ≡ next_count s.before → PutsBy (Checks e size shape image) s (Err fault.Output)
check_begun e size shape image s (inl is) counts = record {
  text = take is.0 (scan_text e size image);
  says = inl (is.0, refl);
  put = is.1;
  counts = counts;
}
check_begun e size shape image s (inr is) counts = record {
  text = take is.3.0 is.0;
  says = inr (is.0, is.1, is.2, (is.3.0, refl));
  put = is.3.1;
  counts = counts;
}

pub checks_put : (e : Endian) (size : ℕ) (shape : Bool) (image : List ℕ) (s : SinkChange) (put : Result Bool ProgramFault)
    → IsScannable size image → PutsCheck e size image shape s put → PutsBy (Checks e size shape image) s (check_found put)
checks_put e size shape image s (Ok found) sized is = record {
  text = is.0;
  says = (found, is.1, refl);
  put = is.2;
  counts = is.3;
}
checks_put e size shape image s (Err program.Output) sized is = check_begun e size shape image s is.0 is.1
checks_put e size shape image s (Err (program.Mount mount.OutOfMemory)) sized is = record {
  text = scan_text e size image;
  says = (refl, is.0, refl);
  put = is.1;
  counts = is.2;
}
checks_put e size shape image s (Err program.OutOfMemory) sized is = record {
  text = scan_text e size image;
  says = (is.0, is.1, refl);
  put = is.2;
  counts = is.3;
}
checks_put e size shape image s (Err (program.Scan scan.BlockSize)) sized is = absurd (true≢false (sym sized.0 ∙ is.0))
checks_put e size shape image s (Err (program.Scan scan.TooLarge)) sized is = absurd (omega (arith, sized.1, is.0.1))
checks_put e size shape image s (Err (program.Scan scan.OutOfMemory)) sized is = absurd is
checks_put e size shape image s (Err (program.Scan (scan.Incompatible addr nodetype))) sized is = absurd is.0
checks_put e size shape image s (Err (program.Scan (scan.Compressed addr compr))) sized is = absurd is.0
checks_put e size shape image s (Err why) sized is = absurd is

-- ---- `ls`

-- what is put from an object on
pub from_put : (st : State) (part : Option (List ℕ)) (told : Told) (item : Item) (s : SinkChange) (put : Result Unit ProgramFault)
    → ((text : List ℕ) → IsTextFrom st item text → IsListed st part text)
    → PutsFrom {T = Unit} st item s put → PutsBy (Lists st part told) s (put_found told put)
from_put st part told item s (Ok _) listed is = record {
  text = is.0;
  says = (listed is.0 is.1, refl);
  put = is.2;
  counts = is.3;
}
from_put st part told item s (Err program.Output) listed is = record {
  text = take is.0.2.0 is.0.0;
  says = (is.0.0, listed is.0.0 is.0.1, (is.0.2.0, refl));
  put = is.0.2.1;
  counts = is.1;
}
from_put st part told item s (Err program.OutOfMemory) listed is = record {
  text = take is.0.2.0 is.0.0;
  says = (is.0.0, listed is.0.0 is.0.1, (is.0.2.0, refl));
  put = is.0.2.1;
  counts = is.1;
}
from_put st part told item s (Err why) listed is = absurd is

pub part_put : (st : State) (path : List ℕ) (told : Told) (s : SinkChange) (put : Result Unit ProgramFault)
    → PutsPartAt {T = Unit} st path s put → PutsBy (Lists st (Some path) told) s (put_found told put)
part_put st path told s (Err (program.Path reason)) is = record {
  text = [];
  says = ((reason, refl, is.0), refl);
  put = none_put s.old s.new is.1;
  counts = is.2;
}
part_put st path told s put is =
    from_put st (Some path) told is.0 s put (λ (text : List ℕ) from. (is.0, is.1, from)) is.2

pub lists_put : (st : State) (part : Option (List ℕ)) (told : Told) (s : SinkChange) (put : Result Unit ProgramFault)
    → PutsTreeAt {T = Unit} st part s put → PutsBy (Lists st part told) s (put_found told put)
lists_put st None told s put is = from_put st None told ([], 1) s put (λ (text : List ℕ) from. from) is
lists_put st (Some path) told s put is = part_put st path told s put is

-- ---- `cat`

pub contains_put : (content : Result (List ℕ) ProgramFault) (told : Told) (s : SinkChange) (put : Result Unit ProgramFault)
    → PutsContent {T = Unit} content s put → PutsBy (Contains content told) s (put_found told put)
contains_put content told s (Ok _) is = record {
  text = is.0;
  says = (is.1, refl);
  put = is.2;
  counts = is.3;
}
contains_put content told s (Err program.Output) is = record {
  text = take is.2.0 is.0;
  says = (is.0, is.1, (is.2.0, refl));
  put = is.2.1;
  counts = is.3;
}
contains_put content told s (Err (program.Path reason)) is = record {
  text = [];
  says = (is.0, refl);
  put = none_put s.old s.new is.1;
  counts = is.2;
}
contains_put content told s (Err program.NotRegular) is = record {
  text = [];
  says = (is.0, refl);
  put = none_put s.old s.new is.1;
  counts = is.2;
}
contains_put content told s (Err why) is = absurd is.0
