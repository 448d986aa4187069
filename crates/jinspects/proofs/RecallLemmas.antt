-- What an object was, as it is printed.
use Rattle.std.proofs.Common.{◌≡◌, ℕ, List, [], Option, None, Some, Result, Ok, Err, inl, inr, refl, subst}
use Rattle.std.specs.Prelude.{take}
use Rattle.jnode.specs.declared.order.Endian.{Endian}
use Rattle.flashbase.specs.Sinks.{SinkChange}
use Rattle.jversions.specs.Answers.{PutsRevision}
use Rattle.jversions.specs.declared.fault.RevisionFault.{RevisionFault}
use Rattle.jversions.specs.declared.fault.RevisionFault.TheVariants as revision
use Rattle.jversions.specs.declared.revision.Revision.{Revision}
use Rattle.jedge.specs.Acts.{PutsBy}
use Rattle.jedge.specs.Told.{Told}
use Rattle.jedge.specs.declared.fault.Fault.{Fault}
use Rattle.jedge.specs.declared.fault.Fault.TheVariants as fault
use Rattle.jedge.proofs.BlamingLemmas.{Unnamed, of_bytes, view_of}
use Rattle.jedge.proofs.CostLemmas.{none_put}
use Rattle.jedge.proofs.JudgingLemmas.{IsUnput}
use Rattle.jinspects.specs.Recalling.{Recalls, recall_fault, recalled_as}

pub recalls_put : (r : Revision) (e : Endian) (size : ℕ) (told : Told) (image : List ℕ) (s : SinkChange) (put : Result Unit RevisionFault)
    → PutsRevision {T = Unit} r e size image s put → PutsBy (Recalls r e size told image) s (recalled_as r.ino told put)
recalls_put r e size told image s (Ok _) is = record {
  text = is.1.0;
  says = ((is.0, is.1.1), refl);
  put = is.1.2;
  counts = is.1.3;
}
recalls_put r e size told image s (Err revision.Output) is = record {
  text = take is.1.2.0 is.1.0;
  says = (is.1.0, (is.0, is.1.1), (is.1.2.0, refl));
  put = is.1.2.1;
  counts = is.1.3;
}
recalls_put r e size told image s (Err revision.NoNode) is = record {
  text = [];
  says = (inr (inl (refl, is.1.0)), refl);
  put = none_put s.old s.new is.1.1;
  counts = is.1.2;
}
recalls_put r e size told image s (Err revision.NoContent) is = record {
  text = [];
  says = (inr (inr (refl, is.1.0, is.1.1)), refl);
  put = none_put s.old s.new is.1.2;
  counts = is.1.3;
}
recalls_put r e size told image s (Err (revision.Refused why)) is = record {
  text = [];
  says = (inl (why, refl, is.0), refl);
  put = none_put s.old s.new is.1;
  counts = is.2;
}

-- the same of the answers of a call
pub recalls_whole : (r : Revision) (e : Endian) (size : ℕ) (image : List ℕ) {told found : Told} (s : SinkChange) → told ≡ found
    → PutsRevision {T = Unit} r e size image s (Ok tt) → PutsBy (Recalls r e size told image) s (Ok found)
recalls_whole r e size image {told} s is puts = subst (λ (t : Told). PutsBy (Recalls r e size told image) s (Ok t)) is (recalls_put r e size told image s (Ok tt) puts)

pub recalls_failed : (r : Revision) (e : Endian) (size : ℕ) (image : List ℕ) {told : Told} {f : Fault} (s : SinkChange) (why : RevisionFault) → recall_fault r.ino why ≡ f
    → PutsRevision {T = Unit} r e size image s (Err why) → PutsBy (Recalls r e size told image) s (Err f)
recalls_failed r e size image {told} s why is puts = subst (λ (g : Fault). PutsBy (Recalls r e size told image) s (Err g)) is (recalls_put r e size told image s (Err why) puts)

pub recalls_unput : (r : Revision) (e : Endian) (size : ℕ) (told : Told) (image text : List ℕ) (f : Fault) → Recalls r e size told image text (Err f) → IsUnput f text
recalls_unput r e size told image text (fault.File file) is = absurd is
recalls_unput r e size told image text (fault.NotRead file) is = absurd is
recalls_unput r e size told image text (fault.NoNodes of others) is = absurd is
recalls_unput r e size told image text (fault.NoSpace folder) is = absurd is
recalls_unput r e size told image text (fault.Findings of findings) is = absurd is
recalls_unput r e size told image text (fault.Refused why) is = is.1
recalls_unput r e size told image text fault.Output is = tt
recalls_unput r e size told image text fault.OutOfMemory is = absurd is

-- ---- a fault is an event

pub recalls_unnamed : (r : Revision) (e : Endian) (size : ℕ) (told : Told) (image : List ℕ) → Unnamed (Recalls r e size told image)
recalls_unnamed r e size told image text (fault.File file) is = absurd is
recalls_unnamed r e size told image text (fault.NotRead file) is = absurd is
recalls_unnamed r e size told image text (fault.NoNodes of others) is = absurd is
recalls_unnamed r e size told image text (fault.NoSpace folder) is = absurd is
recalls_unnamed r e size told image text (fault.Findings of findings) is = absurd is
recalls_unnamed r e size told image text (fault.Refused why) (inl view, none) = of_bytes why view.1 (view_of view.0)
recalls_unnamed r e size told image text (fault.Refused why) (inr (inl lost), none) = of_bytes why lost.0 tt
recalls_unnamed r e size told image text (fault.Refused why) (inr (inr other), none) = of_bytes why other.0 tt
recalls_unnamed r e size told image text fault.Output is = tt
recalls_unnamed r e size told image text fault.OutOfMemory is = absurd is
