-- A verdict that ends early.
use Rattle.std.proofs.Common.{◌≡◌, ◌≢◌, ℕ, Bool, true, List, sym, refl, subst, Option, Result, Ok, Err}
use Rattle.std.specs.Prelude.{IsErrAnd, Decides}
use Rattle.std.specs.Bool.{one_answer}
use Rattle.flashbase.specs.Device.{PutsPart, next_count}
use Rattle.jnode.specs.declared.order.Endian.{Endian}
use Rattle.jmount.specs.Mount.{Mount}
use Rattle.jmount.specs.Tree.{outline}
use Rattle.jmount.specs.Shape.{HasShape}
use Rattle.jmount.specs.ShapeForm.{shape_of}
use Rattle.jmount.specs.Mounts.{Answers}
use Rattle.jmount.specs.declared.fault.MountFault.{MountFault}
use Rattle.jmount.specs.declared.fault.MountFault.TheVariants as mount
use Rattle.jmount.proofs.ShapeOfLemmas.{shape_is_decided}
use Rattle.jmount.proofs.ShapePathLemmas.{shape_is_of_outline}
use Rattle.jreport.specs.Verdict.{IsVerdict, PutsMounted, PutsVerdict, is_shaped, is_wrong, mounted_text, refused_line}
use Rattle.jreport.specs.declared.faults.ProgramFault.{ProgramFault}
use Rattle.jreport.specs.declared.faults.ProgramFault.TheVariants as program
use Rattle.jreport.specs.declared.faults.ProgramFault.TheVariants.{Output}
use Rattle.jreport.proofs.SinkLemmas.{sink_change}

pub mounted_failed : (asked : Bool) (m : Mount) (old new : Option (List ℕ)) (before now : ℕ) (r : Result Bool ProgramFault) → IsErrAnd r (λ x. x ≡ Output)
    → PutsPart old new (mounted_text asked m) → now ≡ next_count before → PutsMounted asked m (sink_change old new before now) r
mounted_failed asked m old new before now (Ok x) is part failed = absurd is
mounted_failed asked m old new before now (Err x) is part failed =
    subst (λ (y : ProgramFault). PutsMounted asked m (sink_change old new before now) (Err y)) (sym is) (part, failed)

pub refused_failed : (e : Endian) (size : ℕ) (image : List ℕ) (asked : Bool) (fault : MountFault) (old new : Option (List ℕ)) (before now : ℕ) (r : Result Bool ProgramFault)
    → IsErrAnd r (λ x. x ≡ Output) → Answers e size image (Err fault) → fault ≢ mount.OutOfMemory
    → PutsPart old new (refused_line fault) → now ≡ next_count before → PutsVerdict e size image asked (sink_change old new before now) r
refused_failed e size image asked fault old new before now (Ok x) is answers memory part failed = absurd is
refused_failed e size image asked fault old new before now (Err x) is answers memory part failed =
    subst (λ (y : ProgramFault). PutsVerdict e size image asked (sink_change old new before now) (Err y)) (sym is)
    (refused_line fault, true, record { answer = Err fault; answers = answers; memory = λ same. memory (injected fault mount.OutOfMemory (Err fault) (Err mount.OutOfMemory) refl refl same); said = refl; judged = refl }, part, failed)
  where
    injected : (f g : MountFault) (x y : Result Mount MountFault) → x ≡ Err f → y ≡ Err g → x ≡ y → f ≡ g
    injected f g x y is_f is_g same = cc

ok_is_no_err : (m : Mount) (f : MountFault) (x y : Result Mount MountFault) → x ≡ Ok m → y ≡ Err f → x ≡ y → ⊥
ok_is_no_err m f x y is_ok is_err same = cc

mounted_verdict : (e : Endian) (size : ℕ) (image : List ℕ) (asked : Bool) (m : Mount) → Answers e size image (Ok m) → IsVerdict e size image asked (mounted_text asked m) (is_wrong asked m)
mounted_verdict e size image asked m answers = record {
  answer = Ok m;
  answers = answers;
  memory = λ same. ok_is_no_err m mount.OutOfMemory (Ok m) (Err mount.OutOfMemory) refl refl same;
  said = refl;
  judged = refl;
}

pub verdict_of_mounted : (e : Endian) (size : ℕ) (image : List ℕ) (asked : Bool) (m : Mount) (old new : Option (List ℕ)) (before now : ℕ) (r : Result Bool ProgramFault)
    → Answers e size image (Ok m) → PutsMounted asked m (sink_change old new before now) r → PutsVerdict e size image asked (sink_change old new before now) r
verdict_of_mounted e size image asked m old new before now (Ok bad) answers put =
    (mounted_text asked m, subst (λ (b : Bool). IsVerdict e size image asked (mounted_text asked m) b) (sym put.0) (mounted_verdict e size image asked m answers), put.1, put.2)
verdict_of_mounted e size image asked m old new before now (Err program.Output) answers put =
    (mounted_text asked m, is_wrong asked m, mounted_verdict e size image asked m answers, put.0, put.1)
verdict_of_mounted e size image asked m old new before now (Err program.OutOfMemory) answers put = (m, answers, put.0, put.1)
verdict_of_mounted e size image asked m old new before now (Err (program.Load f)) answers put = absurd put
verdict_of_mounted e size image asked m old new before now (Err (program.Scan f)) answers put = absurd put
verdict_of_mounted e size image asked m old new before now (Err (program.Mount f)) answers put = absurd put
verdict_of_mounted e size image asked m old new before now (Err (program.File f)) answers put = absurd put
verdict_of_mounted e size image asked m old new before now (Err (program.NotRead f)) answers put = absurd put
verdict_of_mounted e size image asked m old new before now (Err (program.Listing line)) answers put = absurd put
verdict_of_mounted e size image asked m old new before now (Err (program.Session fault line cause)) answers put = absurd put
verdict_of_mounted e size image asked m old new before now (Err (program.Path f)) answers put = absurd put
verdict_of_mounted e size image asked m old new before now (Err program.NotRegular) answers put = absurd put
verdict_of_mounted e size image asked m old new before now (Err (program.NoSpace folder)) answers put = absurd put
verdict_of_mounted e size image asked m old new before now (Err (program.Data addr)) answers put = absurd put
verdict_of_mounted e size image asked m old new before now (Err (program.TooLong addr)) answers put = absurd put
verdict_of_mounted e size image asked m old new before now (Err (program.Image why)) answers put = absurd put
verdict_of_mounted e size image asked m old new before now (Err (program.Clash addr other)) answers put = absurd put

-- ---- the shape

-- what decides whether a tree has its shape is the computed form
pub is_shaped_by : (m : Mount) (shape : Bool) → Decides shape (HasShape m.state) → shape ≡ is_shaped m
unfolding is_shaped
is_shaped_by m shape decides =
    let computed = shape_is_decided (outline m.state) in
    let of = shape_is_of_outline m.state in
    one_answer shape (shape_of (outline m.state)) decides (λ h. of.0 (computed.0 h), λ has. computed.1 (of.1 has))
