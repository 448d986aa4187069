-- What holds from where a log goes on in a mounted image holds of the image.
use Rattle.std.proofs.Common.{◌≡◌, ◌∙◌, List, ℕ, ap, subst, sym, inl, inr, refl, rules, Ok, Err}
use Rattle.std.specs.Prelude.{Result, IfOk, IfErr, IsOk, ◌⊎◌}
use Rattle.jnode.specs.declared.order.Endian.{Endian}
use Rattle.jmount.specs.Mount.{Mount}
use Rattle.jmount.specs.Mounts.{Answers}
use Rattle.jmount.specs.declared.fault.MountFault.TheVariants as mount
use Rattle.jscan.specs.Scans.{IsScannable}
use Rattle.jlog.specs.Resuming.{resumes}
use Rattle.jlog.specs.declared.fault.SessionFault.{SessionFault}
use Rattle.jlog.specs.declared.start.Flash.{Flash}
use Rattle.jcalls.specs.Shown.{IsDueFault}
use Rattle.jcalls.specs.Told.{session_told, told_at}
use Rattle.jcalls.specs.Works.{ImageRefused, IsGoneOn}
use Rattle.jcalls.specs.declared.told.Told.{Told}

-- memory may be wanting behind a mount
pub memory_refuses : (e : Endian) (flash : Flash) (image : List ℕ) (m : Mount) → Answers e flash.geometry.block image (Ok m) → ImageRefused e flash image (told_at 7 0 0)
memory_refuses e flash image m answers =
    inl (mount.OutOfMemory, subst (λ (i : List ℕ). IsScannable flash.geometry.block i) answers.0 answers.1.mounts.sound.0, refl)

pub start_refuses : (e : Endian) (flash : Flash) (image : List ℕ) (m : Mount) (why : SessionFault) (told : Told) → Answers e flash.geometry.block image (Ok m)
    → resumes e flash m ≡ Err why → told ≡ session_told 0 why → ImageRefused e flash image told
start_refuses e flash image m why told answers refused is = inr (m, why, answers, refused, is)

-- where the log goes on, in what was mounted, is where it goes on in the image
pub gone_on : (e : Endian) (flash : Flash) (image : List ℕ) (m : Mount) (at : ℕ) → Answers e flash.geometry.block image (Ok m) → resumes e flash m ≡ Ok at → IsGoneOn e flash image
gone_on e flash image m at answers goes =
    let good : IsOk (resumes e flash m) = search (goes, rules) in
    (m, answers, good)

-- what was mounted is the image
pub image_mounted : (e : Endian) (flash : Flash) (image : List ℕ) (m start : Mount) → Answers e flash.geometry.block image (Ok m) → start ≡ m → start.image ≡ image
image_mounted e flash image m start answers same = ap (λ (it : Mount). it.image) same ∙ answers.0

-- what holds from there holds of the image
on_image : {V : Type 0} (flash given : Flash) (image other : List ℕ) (v : V) (P : Flash → List ℕ → V → Type 0) → given ≡ flash → other ≡ image → P given other v → P flash image v
on_image flash given image other v P flashes images has =
    subst (λ f. P f image v) flashes (subst (λ i. P given i v) images has)

pub made_on : {V : Type 0} (e : Endian) (flash given : Flash) (image : List ℕ) (m start : Mount) (at : ℕ) (r : Result V Told) (P : Flash → List ℕ → V → Type 0)
    → Answers e flash.geometry.block image (Ok m) → start ≡ m → given ≡ flash → resumes e flash m ≡ Ok at → IfOk r (P given start.image) → IfOk r (λ v. IsGoneOn e flash image × P flash image v)
made_on e flash given image m start at (Ok v) P answers same flashes goes has =
    (gone_on e flash image m at answers goes, on_image flash given image start.image v P flashes (image_mounted e flash image m start answers same) has)
made_on e flash given image m start at (Err told) P answers same flashes goes has = has

refused_one : (e : Endian) (flash given : Flash) (image : List ℕ) (m start : Mount) (told : Told) (P : Flash → List ℕ → Told → Type 0) → Answers e flash.geometry.block image (Ok m)
    → start ≡ m → given ≡ flash → (told ≡ told_at 7 0 0) ⊎ P given start.image told → ImageRefused e flash image told ⊎ P flash image told
refused_one e flash given image m start told P answers same flashes (inl memory) =
    inl (subst (λ t. ImageRefused e flash image t) (sym memory) (memory_refuses e flash image m answers))
refused_one e flash given image m start told P answers same flashes (inr has) =
    inr (on_image flash given image start.image told P flashes (image_mounted e flash image m start answers same) has)

-- memory may be wanting, or else it is refused for this
pub refused_on : {V : Type 0} (e : Endian) (flash given : Flash) (image : List ℕ) (m start : Mount) (r : Result V Told) (P : Flash → List ℕ → Told → Type 0)
    → Answers e flash.geometry.block image (Ok m) → start ≡ m → given ≡ flash → IfErr r (IsDueFault (λ told. (told ≡ told_at 7 0 0) ⊎ P given start.image told))
    → IfErr r (IsDueFault (λ told. ImageRefused e flash image told ⊎ P flash image told))
refused_on e flash given image m start (Ok v) P answers same flashes fails = fails
refused_on e flash given image m start (Err told) P answers same flashes fails = record {
  is = fails.is;
  other = fails.other;
  due = refused_one e flash given image m start told P answers same flashes fails.due;
}

pub memory_refused_on : {V : Type 0} (e : Endian) (flash : Flash) (image : List ℕ) (m : Mount) (r : Result V Told) → Answers e flash.geometry.block image (Ok m)
    → IfErr r (IsDueFault (λ told. told ≡ told_at 7 0 0)) → IfErr r (IsDueFault (ImageRefused e flash image))
memory_refused_on e flash image m (Ok v) answers fails = fails
memory_refused_on e flash image m (Err told) answers fails = record {
  is = fails.is;
  other = fails.other;
  due = subst (λ t. ImageRefused e flash image t) (sym fails.due) (memory_refuses e flash image m answers);
}
