-- Texts of an image, that are given to a caller.
use Rattle.std.proofs.Common.{◌≡◌, ◌<◌, ◌++◌, ℕ, List, drop, length, sym, subst, inl, inr, Ok, Err}
use Rattle.std.specs.Prelude.{Result, IfOk, IfErr, ◌⊎◌}
use Rattle.jmount.specs.Tree.{State}
use Rattle.jcalls.specs.Looking.{LeadsNowhere, StatRefused}
use Rattle.jcalls.specs.Made.{Gives}
use Rattle.jcalls.specs.Shown.{Shows, ShowsNone, IsDueFault}
use Rattle.jcalls.specs.Told.{told_at}
use Rattle.jcalls.specs.declared.how.How.{How}
use Rattle.jcalls.specs.declared.told.Told.{Told}
use Rattle.jcalls.proofs.ShownLemmas.{no_memory_refuses}

-- what is given, and what is needed
pub text_given : (text bytes old new : List ℕ) (needed status : ℕ) → bytes ≡ text → Gives bytes old new needed status → status ≡ 0
    → (needed ≡ length text) × (new ≡ text ++ drop needed old)
text_given text bytes old new needed status same gives done =
    let given = subst (λ (b : List ℕ). Gives b old new needed status) same gives in
    (given.counted, subst (λ (n : ℕ). new ≡ text ++ drop n old) (sym given.counted) (given.given done))

pub text_needed : (text bytes old new : List ℕ) (needed status : ℕ) → bytes ≡ text → Gives bytes old new needed status → status ≡ 9
    → (needed ≡ length text) × (length old < needed)
text_needed text bytes old new needed status same gives small =
    let given = subst (λ (b : List ℕ). Gives b old new needed status) same gives in
    (given.counted, subst (λ (n : ℕ). length old < n) (sym given.counted) (given.short small))

-- a text of the file system that an image shows
pub shown_text : {V : Type 0} (how : How) (image : List ℕ) (s : State) (IsText : State → V → Type 0) (r : Result V Told)
    → Shows how image s → IfOk r (IsText s) → IfOk r (λ text. (x : State) × Shows how image x × IsText x text)
shown_text how image s IsText (Ok text) shows is = (s, shows, is)
shown_text how image s IsText (Err told) shows is = is

-- why there is none: the path leads to nothing in it, or memory runs out
refused_by : (how : How) (image path : List ℕ) (s : State) (told : Told) → Shows how image s → LeadsNowhere s path told ⊎ (told ≡ told_at 7 0 0) → StatRefused how image path told
refused_by how image path s told shows (inl nowhere) = inr (s, shows, nowhere)
refused_by how image path s told shows (inr same) =
    inl (subst (λ t. ShowsNone how image t) (sym same) (no_memory_refuses how image s shows))

pub unlisted_by : {V : Type 0} (how : How) (image path : List ℕ) (s : State) (r : Result V Told) → Shows how image s
    → IfErr r (IsDueFault (λ told. LeadsNowhere s path told ⊎ (told ≡ told_at 7 0 0))) → IfErr r (IsDueFault (StatRefused how image path))
unlisted_by how image path s (Ok text) shows fails = fails
unlisted_by how image path s (Err told) shows fails =
    record { is = fails.is; other = fails.other; due = refused_by how image path s told shows fails.due }
