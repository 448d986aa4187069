-- Which file system an image shows, and why it shows none.
use Rattle.std.proofs.Common.{◌≡◌, ◌≢◌, ◌<◌, ℕ, Bool, true, false, List, refl, ap, subst, sym, inr, cond, Option, Some, None, Ok, Err}
use Rattle.std.specs.Prelude.{Result, IfOk, IfErr, is_some, option_map}
use Rattle.std.proofs.lemmas.Bool.{false≢true}
use Rattle.jnode.specs.declared.order.Endian.{Endian}
use Rattle.jmount.specs.Shown.{shown}
use Rattle.jmount.specs.Tree.{State, ObjectOf, object, is_directory, is_there}
use Rattle.jmount.specs.declared.fault.MountFault.TheVariants as mount
use Rattle.jthrough.specs.declared.fault.ViewFault.TheVariants as view
use Rattle.jnode.specs.declared.order.Endian.TheVariants.{Little, Big}
use Rattle.jcalls.specs.Asked.{is_big, is_through, asked_order}
use Rattle.jcalls.specs.Looking.{LeadsToRow, LeadsNowhere, Stats, StatRefused}
use Rattle.jcalls.specs.Shown.{ShowsBy, RefusesBy, Shows, ShowsNone, IsDueFault}
use Rattle.jcalls.specs.Told.{told_at, told_by}
use Rattle.jcalls.specs.declared.how.How.{How}
use Rattle.jcalls.specs.declared.rows.Stat.{Stat}
use Rattle.jcalls.specs.declared.told.Fault.{Fault}
use Rattle.jcalls.specs.declared.told.Told.{Told}

-- memory may be wanting for the answer too
no_memory_by : (through : Bool) (e : Endian) (size : ℕ) (image : List ℕ) (s : State) → ShowsBy through e size image s → RefusesBy through e size image (told_at 7 0 0)
no_memory_by true e size image s shows = (view.OutOfMemory, shows.sound.scannable, refl)
no_memory_by false e size image s shows = (mount.OutOfMemory, shows.sound.0, refl)

pub no_memory_refuses : (how : How) (image : List ℕ) (s : State) → Shows how image s → ShowsNone how image (told_at 7 0 0)
no_memory_refuses how image s shows = no_memory_by (is_through how) (asked_order how) how.block image s shows

-- the root of what is shown is a directory
root_by : (through : Bool) (e : Endian) (size : ℕ) (image : List ℕ) (s : State) → ShowsBy through e size image s → is_directory s 1 ≡ true
root_by true e size image s shows = subst (λ t. is_directory t 1 ≡ true) shows.same shows.root
root_by false e size image s shows = subst (λ t. is_directory t 1 ≡ true) shows.same shows.root

pub shown_root : (how : How) (image : List ℕ) (s : State) → Shows how image s → is_directory s 1 ≡ true
shown_root how image s shows = root_by (is_through how) (asked_order how) how.block image s shows

-- the same of what an image shows by its own nodes
pub plain_fails : (e : Endian) (size : ℕ) (image : List ℕ) (s : State) (told : Told) → ShowsBy false e size image s → told ≡ told_at 7 0 0 → 0 < told.status → told.status ≢ 9
    → IsDueFault (RefusesBy false e size image) told
plain_fails e size image s told shows same is other = record {
  is = is;
  other = other;
  due = subst (λ t. RefusesBy false e size image t) (sym same) (no_memory_by false e size image s shows);
}

-- ---- what a path leads to in it

pub stats_by : (how : How) (image path : List ℕ) (s : State) (r : Result Stat Told) → Shows how image s → IfOk r (LeadsToRow s path) → IfOk r (Stats how image path)
stats_by how image path s (Ok row) shows leads = (s, shows, leads)
stats_by how image path s (Err told) shows leads = leads

pub stat_refused_by : (how : How) (image path : List ℕ) (s : State) (r : Result Stat Told) → Shows how image s → IfErr r (IsDueFault (LeadsNowhere s path))
    → IfErr r (IsDueFault (StatRefused how image path))
stat_refused_by how image path s (Ok row) shows fails = fails
stat_refused_by how image path s (Err told) shows fails =
    record { is = fails.is; other = fails.other; due = inr (s, shows, fails.due) }

-- what is told is what is answered and written
pub told_same : (told : Told) (status : ℕ) (fault : Fault) → status ≡ told.status → fault.address ≡ told.address → fault.detail ≡ told.detail → told ≡ told_by status fault
told_same told status fault s a d =
    λ i. record { status = sym s i; address = sym a i; detail = sym d i }

no_object_by : (o : Option (ObjectOf (List ℕ))) → is_some o ≡ true → option_map shown o ≡ None → ⊥
no_object_by None there none = absurd (false≢true there)
no_object_by (Some o) there none = false≢true (sym (ap is_some none))

pub object_there : (s : State) (i : ℕ) → is_there s i ≡ true → option_map shown (object s i) ≡ None → ⊥
object_there s i there none = no_object_by (object s i) there none

pub no_memory_fails : (how : How) (image : List ℕ) (s : State) (told : Told) → Shows how image s → told ≡ told_at 7 0 0 → 0 < told.status → told.status ≢ 9
    → IsDueFault (ShowsNone how image) told
no_memory_fails how image s told shows same is other = record {
  is = is;
  other = other;
  due = subst (λ t. ShowsNone how image t) (sym same) (no_memory_refuses how image s shows);
}

-- ---- the order that is asked for

pub asked_big : (how : How) → is_big how ≡ true → asked_order how ≡ Big
asked_big how big = ap (λ (b : Bool). cond b Big Little) big

pub asked_little : (how : How) → is_big how ≡ false → asked_order how ≡ Little
asked_little how little = ap (λ (b : Bool). cond b Big Little) little
