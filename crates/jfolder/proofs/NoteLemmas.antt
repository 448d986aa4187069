-- What is told, part after part.
use Rattle.std.proofs.Common.{◌≡◌, ℕ, ◌+◌, ◌%◌, ◌^◌, ◌<◌, List, [], ◌++◌, length, length-append, refl, sym, ap, ◌∙◌, subst, arith, Option, Result, Ok, Err, inl}
use Rattle.std.specs.Io.KnownBytes.{Appends}
use Rattle.std.proofs.KnownBytes.{Appends-nil, Appends-trans}
use Rattle.std.proofs.lemmas.Grind.{flat_map-append}
use Rattle.flashbase.specs.Device.{PutsPart, next_count}
use Rattle.flashbase.proofs.DeviceLemmas.{part_behind}
use Rattle.jfolder.specs.Complete.{LeftOut}
use Rattle.jfolder.specs.Known.{Known}
use Rattle.jfolder.specs.Notes.{Tells, TellsMore, left_out_line, left_out_text}
use Rattle.jfolder.specs.SoFar.{IsBeginning}
use Rattle.jfolder.specs.declared.fault.ReadFault.{ReadFault}
use Rattle.jfolder.specs.declared.fault.ReadFault.TheVariants as fault
use Rattle.jfolder.specs.declared.found.Options.{Options}
use Rattle.jfolder.specs.declared.reading.FolderTree.{FolderTree}

-- what is said of paths that are left out
abbrev pub Fact : Type 1
Fact = List LeftOut → Type 0

-- all of what is told up to here went out
abbrev pub Told : Fact → Option (List ℕ) → Option (List ℕ) → ℕ → ℕ → ℕ → ℕ → Type 0
Told fits old new before now count total = TellsMore {X = ℕ} (λ _ lefts. fits lefts) (λ _. Unit {0}) (record { old = old; new = new; before = before; now = now }) count total (Ok 0)

pub tells_nothing : (F : Fact) (a : Option (List ℕ)) (x k : ℕ) → k < 2 ^ 64 → F [] → Told F a a x x k k
tells_nothing F a x k small none = ([], Appends-nil a, refl, omega arith, none)

count_more : (k m n i j : ℕ) → m ≡ (k + i) % 2 ^ 64 → n ≡ (m + j) % 2 ^ 64 → n ≡ (k + (i + j)) % 2 ^ 64
count_more k m n i j e f = omega arith

joined : (a b c : Option (List ℕ)) (xs ys : List LeftOut) → Appends a b (left_out_text xs) → Appends b c (left_out_text ys) → Appends a c (left_out_text (xs ++ ys))
joined a b c xs ys p q = subst (Appends a c) (sym (flat_map-append left_out_line xs ys)) (Appends-trans a b c (left_out_text xs) (left_out_text ys) p q)

-- what was told, and then what a call tells
pub tells_then : {X : Type 0} (F : Fact) (G H : X → Fact) (P Q : Fact) (a b c : Option (List ℕ)) (x y z k m n : ℕ) (r : Result X ReadFault)
    → ((v : X) (xs ys : List LeftOut) → F xs → G v ys → H v (xs ++ ys)) → ((xs ys : List LeftOut) → F xs → P ys → Q (xs ++ ys))
    → Told F a b x y k m → TellsMore G P (record { old = b; new = c; before = y; now = z }) m n r → TellsMore H Q (record { old = a; new = c; before = x; now = z }) k n r
tells_then F G H P Q a b c x y z k m n (Ok v) both part p q = (
  p.0 ++ q.0,
  joined a b c p.0 q.0 p.1 q.1,
  q.2 ∙ p.2,
  count_more k m n (length p.0) (length q.0) p.3 q.3 ∙ ap (λ (l : ℕ). (k + l) % 2 ^ 64) (sym (length-append p.0 q.0)),
  both v p.0 q.0 p.4 q.4,
)
tells_then F G H P Q a b c x y z k m n (Err fault.Notes) both part p q = (
  p.0 ++ q.0,
  subst (PutsPart a c) (sym (flat_map-append left_out_line p.0 q.0)) (part_behind a b c (left_out_text p.0) (left_out_text q.0) p.1 q.1),
  q.2 ∙ ap next_count p.2,
  part p.0 q.0 p.4 q.3,
)
tells_then F G H P Q a b c x y z k m n (Err (fault.Folder why)) both part p q = q
tells_then F G H P Q a b c x y z k m n (Err fault.OutOfMemory) both part p q = (p.0 ++ q.0, joined a b c p.0 q.0 p.1 q.1, q.2 ∙ p.2, part p.0 q.0 p.4 q.3)

-- another fact that follows
pub tells_as : {X : Type 0} (G H : X → Fact) (P Q : Fact) (a b : Option (List ℕ)) (x y k m : ℕ) (r : Result X ReadFault)
    → ((v : X) (ls : List LeftOut) → r ≡ Ok v → G v ls → H v ls) → ((ls : List LeftOut) → P ls → Q ls)
    → TellsMore G P (record { old = a; new = b; before = x; now = y }) k m r → TellsMore H Q (record { old = a; new = b; before = x; now = y }) k m r
tells_as G H P Q a b x y k m (Ok v) follows part p = (p.0, p.1, p.2, p.3, follows v p.0 refl p.4)
tells_as G H P Q a b x y k m (Err fault.Notes) follows part p = (p.0, p.1, p.2, part p.0 p.3)
tells_as G H P Q a b x y k m (Err (fault.Folder why)) follows part p = p
tells_as G H P Q a b x y k m (Err fault.OutOfMemory) follows part p = (p.0, p.1, p.2, part p.0 p.3)

-- memory ran out before anything was told
pub tells_no_more : (X : Type 0) (H : X → Fact) (Q : Fact) (a : Option (List ℕ)) (x k n : ℕ) (r : Result X ReadFault) → r ≡ Err fault.OutOfMemory → Q []
    → TellsMore H Q (record { old = a; new = a; before = x; now = x }) k n r
tells_no_more X H Q a x k n r is none =
    subst (λ (s : Result X ReadFault). TellsMore H Q (record { old = a; new = a; before = x; now = x }) k n s) (sym is) ([], Appends-nil a, refl, none)

-- a call failed, and the one above it with it
failed_same : (X Y : Type 0) (G : X → Fact) (H : Y → Fact) (P Q : Fact) (a b : Option (List ℕ)) (x y k m n : ℕ) (e : ReadFault) → ((ls : List LeftOut) → P ls → Q ls)
    → TellsMore G P (record { old = a; new = b; before = x; now = y }) k m (Err e) → TellsMore H Q (record { old = a; new = b; before = x; now = y }) k n (Err e)
failed_same X Y G H P Q a b x y k m n fault.Notes part p = (p.0, p.1, p.2, part p.0 p.3)
failed_same X Y G H P Q a b x y k m n (fault.Folder why) part p = p
failed_same X Y G H P Q a b x y k m n fault.OutOfMemory part p = (p.0, p.1, p.2, part p.0 p.3)

pub tells_failed : (X Y : Type 0) (G : X → Fact) (H : Y → Fact) (P Q : Fact) (a b : Option (List ℕ)) (x y k m n : ℕ) (e : ReadFault) (r : Result Y ReadFault) → r ≡ Err e → ((ls : List LeftOut) → P ls → Q ls)
    → TellsMore G P (record { old = a; new = b; before = x; now = y }) k m (Err e) → TellsMore H Q (record { old = a; new = b; before = x; now = y }) k n r
tells_failed X Y G H P Q a b x y k m n e r is part p =
    subst (λ (s : Result Y ReadFault). TellsMore H Q (record { old = a; new = b; before = x; now = y }) k n s) (sym is) (failed_same X Y G H P Q a b x y k m n e part p)

-- memory ran out after what was told
pub told_no_more : (X : Type 0) (F : Fact) (H : X → Fact) (Q : Fact) (a b : Option (List ℕ)) (x y k m n : ℕ) (r : Result X ReadFault) → r ≡ Err fault.OutOfMemory → ((ls : List LeftOut) → F ls → Q ls)
    → Told F a b x y k m → TellsMore H Q (record { old = a; new = b; before = x; now = y }) k n r
told_no_more X F H Q a b x y k m n r is part p =
    subst (λ (s : Result X ReadFault). TellsMore H Q (record { old = a; new = b; before = x; now = y }) k n s) (sym is) (p.0, p.1, p.2, part p.0 p.4)

-- what was told, and then what the part tells that failed
pub tells_up_to : (X Y : Type 0) (F : Fact) (G : X → Fact) (H : Y → Fact) (P Q : Fact) (a b c : Option (List ℕ)) (x y z k m n total : ℕ) (e v : ReadFault)
    (r : Result Y ReadFault) → r ≡ Err v → v ≡ e → ((xs ys : List LeftOut) → F xs → P ys → Q (xs ++ ys)) → Told F a b x y k m
    → TellsMore G P (record { old = b; new = c; before = y; now = z }) m n (Err e) → TellsMore H Q (record { old = a; new = c; before = x; now = z }) k total r
tells_up_to X Y F G H P Q a b c x y z k m n total e v r is same part p q =
    tells_failed X Y (λ _ _. Unit {0}) H Q Q a c x z k n total e r (is ∙ ap (λ (f : ReadFault). Err f) same) (λ ls h. h)
    (tells_then F G (λ _ _. Unit {0}) P Q a b c x y z k m n (Err e) (λ _ _ _ _ _. tt) part p q)

pub told_then : (F G H : Fact) (a b c : Option (List ℕ)) (x y z k m n : ℕ) → ((xs ys : List LeftOut) → F xs → G ys → H (xs ++ ys))
    → Told F a b x y k m → Told G b c y z m n → Told H a c x z k n
told_then F G H a b c x y z k m n both p q =
    tells_then {X = ℕ} F (λ _ ls. G ls) (λ _ ls. H ls) (λ _. Unit {0}) (λ _. Unit {0}) a b c x y z k m n (Ok 0) (λ _ xs ys f g. both xs ys f g) (λ _ _ _ _. tt) p q

pub told_same : (F G : Fact) (a b : Option (List ℕ)) (x y j k m n : ℕ) → j ≡ k → n ≡ m → ((ls : List LeftOut) → F ls → G ls) → Told F a b x y j m → Told G a b x y k n
told_same F G a b x y j k m n e f follows p =
    let q : Told G a b x y j m = (p.0, p.1, p.2, p.3, follows p.0 p.4) in
    subst (λ (l : ℕ). Told G a b x y k l) (sym f) (subst (λ (l : ℕ). Told G a b x y l m) e q)

-- ---- a whole reading

read_failed_at : (X : Type 0) (G : X → Fact) (known : Known) (options : Options) (a b : Option (List ℕ)) (x y k m : ℕ) (e : ReadFault)
    → TellsMore G (IsBeginning known options) (record { old = a; new = b; before = x; now = y }) k m (Err e)
    → Tells known options (record { old = a; new = b; before = x; now = y }) (Err e)
read_failed_at X G known options a b x y k m fault.Notes p = (inl (p.0, p.1, p.3), p.2)
read_failed_at X G known options a b x y k m (fault.Folder why) p = absurd p
read_failed_at X G known options a b x y k m fault.OutOfMemory p = ((p.0, p.1, p.3), p.2)

pub read_failed : (X : Type 0) (G : X → Fact) (known : Known) (options : Options) (a b : Option (List ℕ)) (x y k m : ℕ) (e v : ReadFault) (r : Result FolderTree ReadFault) → r ≡ Err v → v ≡ e
    → TellsMore G (IsBeginning known options) (record { old = a; new = b; before = x; now = y }) k m (Err e) → Tells known options (record { old = a; new = b; before = x; now = y }) r
read_failed X G known options a b x y k m e v r is same p =
    subst (λ (s : Result FolderTree ReadFault). Tells known options (record { old = a; new = b; before = x; now = y }) s) (sym (is ∙ ap (λ (f : ReadFault). Err f) same)) (read_failed_at X G known options a b x y k m e p)

-- memory ran out after what was told
pub read_no_more : (F : Fact) (known : Known) (options : Options) (a b : Option (List ℕ)) (x y k m : ℕ) (r : Result FolderTree ReadFault) → r ≡ Err fault.OutOfMemory → ((ls : List LeftOut) → F ls → IsBeginning known options ls)
    → Told F a b x y k m → Tells known options (record { old = a; new = b; before = x; now = y }) r
read_no_more F known options a b x y k m r is part p =
    subst (λ (s : Result FolderTree ReadFault). Tells known options (record { old = a; new = b; before = x; now = y }) s) (sym is) ((p.0, p.1, part p.0 p.4), p.2)
