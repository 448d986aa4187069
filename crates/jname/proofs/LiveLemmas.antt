-- What is live, and the greatest version, of the list of entries, by what is stored.
use Rattle.std.proofs.Common.{◌≡◌, ◌≢◌, ℕ, ◌≤◌, ◌<◌, Bool, true, false, ◌&&◌, List, [], Option, Some, None, refl, ap, sym, ◌∙◌, subst, ⊎_elim, arith}
use Rattle.std.specs.Prelude.{Contains, IsSome, filter, if◌then◌else◌, ◌==◌}
use Rattle.std.specs.Option.{option_and_then, option_map}
use Rattle.std.specs.Ordering.{nat_cmp}
use Rattle.std.specs.Str.{bytes_eq}
use Rattle.std.specs.BTreeMap.{get, IsOrdered}
use Rattle.std.proofs.lemmas.Bool.{eq-eqb, eqb-true, cases_lt, false≢true}
use Rattle.std.proofs.lemmas.Option.{same_Some}
use Rattle.std.proofs.lemmas.Slice.Eq.{bytes_eq-Decides}
use Rattle.flashbase.specs.Lists.{newest}
use Rattle.flashbase.proofs.ListLemmas.{newest_is_newest, newest_of_none}
use Rattle.jnode.specs.declared.node.Dirent.{Dirent}
use Rattle.jname.specs.declared.versions.Content.{Content}
use Rattle.jname.specs.declared.apart.Apart.{Apart}
use Rattle.jname.specs.Versions.{IsTop, IsLiveIn}
use Rattle.jname.specs.ContentsByName.{content_in}
use Rattle.jname.specs.NameMaps.{names_in}
use Rattle.jname.specs.Directories.{DirectoriesByNumber, content_at, content_held, highest_at}
use Rattle.jname.specs.Entries.{content_of_entry, entry_of, entries_of}
use Rattle.jname.specs.Live.{Key, is_at, ino_if_any, live, highest}
use Rattle.flashbase.proofs.MemberLemmas.{Contains-none, Contains-filter, Contains-filter_from}
use Rattle.jname.proofs.EntriesLemmas.{content_at-from_Contains, Contains-from_content_at}

pub both_true : (b c : Bool) → (b && c) ≡ true → (b ≡ true) × (c ≡ true)
both_true true c e = (refl, e)
both_true false c e = absurd (false≢true e)

pub some_of : {X : Type 0} (o : Option X) → IsSome o → (x : X) × (o ≡ Some x)
some_of None h = absurd (false≢true h)
some_of (Some x) h = (x, refl)

-- ---- the entries of one key

at_key : (key : Key) (x : Dirent) → x.pino ≡ key.0 → x.name ≡ key.1 → is_at key x ≡ true
at_key key x p n =
    ap (λ (b : Bool). b && bytes_eq x.name key.1) (eq-eqb x.pino key.0 p) ∙ (bytes_eq-Decides x.name key.1).1 n

pub key_at : (key : Key) (x : Dirent) → is_at key x ≡ true → (x.pino ≡ key.0) × (x.name ≡ key.1)
key_at key x e =
    let parts = both_true (x.pino == key.0) (bytes_eq x.name key.1) e in
    (eqb-true x.pino key.0 parts.0, (bytes_eq-Decides x.name key.1).0 parts.1)

abbrev at_of : DirectoriesByNumber → Key → ℕ → Option Content
at_of directories key v = content_at directories key.0 key.1 v

abbrev of_key : DirectoriesByNumber → Key → List Dirent
of_key directories key = filter (is_at key) (entries_of directories)

in_key : (directories : DirectoriesByNumber) (key : Key) (v : ℕ) (content : Content) → at_of directories key v ≡ Some content → Contains (of_key directories key) (entry_of key.0 key.1 (v, content))
in_key directories key v content h =
    Contains-filter (is_at key) (entries_of directories) (entry_of key.0 key.1 (v, content)) (at_key key (entry_of key.0 key.1 (v, content)) refl refl)
    (Contains-from_content_at directories (entry_of key.0 key.1 (v, content)) h)

from_key : (directories : DirectoriesByNumber) → IsOrdered nat_cmp directories → (key : Key) (x : Dirent) → Contains (of_key directories key) x → at_of directories key x.version ≡ Some (content_of_entry x)
from_key directories ordered key x h =
    let found = Contains-filter_from (is_at key) (entries_of directories) x h in
    let same = key_at key x found.1 in
    let there : content_at directories x.pino x.name x.version ≡ Some (content_of_entry x) = content_at-from_Contains directories ordered x found.0 in
    subst (λ (p : ℕ). content_at directories p key.1 x.version ≡ Some (content_of_entry x)) same.0
    (subst (λ (n : List ℕ). content_at directories x.pino n x.version ≡ Some (content_of_entry x)) same.1 there)

-- the newest entry of a key is its top
top_of_newest : (directories : DirectoriesByNumber) → IsOrdered nat_cmp directories → (key : Key) (z : Dirent) → newest (λ entry. entry.version) (of_key directories key) ≡ Some z → IsTop (at_of directories key) z.version (content_of_entry z)
top_of_newest directories ordered key z e =
    let is = newest_is_newest (of_key directories key) (λ entry. entry.version) z e in (
      from_key directories ordered key z is.0,
      λ w h. let there = some_of (at_of directories key w) h in is.1 (entry_of key.0 key.1 (w, there.0)) (in_key directories key w there.0 there.1),
    )

pub same_top : (at : ℕ → Option Content) (v w : ℕ) (c d : Content) → IsTop at v c → IsTop at w d → c ≡ d
same_top at v w c d a b =
    let low : v ≤ w = b.1 v (subst (λ (o : Option Content). IsSome o) (sym a.0) refl) in
    let high : w ≤ v = a.1 w (subst (λ (o : Option Content). IsSome o) (sym b.0) refl) in
    let same : v ≡ w = omega arith in
    same_Some c d (sym a.0 ∙ ap at same ∙ b.0)

gone : (z : Dirent) → z.ino ≡ 0 → ino_if_any z ≡ None
gone z e = ap (λ (b : Bool). if b then None else Some z.ino) (eq-eqb z.ino 0 e)

there_if : (n m : ℕ) (b : Bool) → (n == 0) ≡ b → n ≡ m → m ≢ 0 → (if b then None else Some n) ≡ Some m
there_if n m true e same not = absurd (not (sym same ∙ eqb-true n 0 e))
there_if n m false e same not = ap Some same

by_newest : (directories : DirectoriesByNumber) → IsOrdered nat_cmp directories → (key : Key) (r : Option ℕ) → IsLiveIn (at_of directories key) r → (o : Option Dirent) → newest (λ entry. entry.version) (of_key directories key) ≡ o → r ≡ option_and_then ino_if_any o
by_newest directories ordered key None h None e = refl
by_newest directories ordered key None h (Some z) e = sym (gone z (h z.version (content_of_entry z) (top_of_newest directories ordered key z e)))
by_newest directories ordered key (Some ino) h None e =
    let none : of_key directories key ≡ [] = newest_of_none (of_key directories key) (λ entry. entry.version) e in
    absurd (Contains-none (entry_of key.0 key.1 (h.1.0, h.1.1)) (subst (λ (xs : List Dirent). Contains xs (entry_of key.0 key.1 (h.1.0, h.1.1))) none (in_key directories key h.1.0 h.1.1 h.1.2.0)))
by_newest directories ordered key (Some ino) h (Some z) e =
    let same : content_of_entry z ≡ h.1.1 = same_top (at_of directories key) z.version h.1.0 (content_of_entry z) h.1.1 (top_of_newest directories ordered key z e) h.1.2 in
    sym (there_if z.ino ino (z.ino == 0) refl (ap (λ (c : Content). c.ino) same ∙ h.1.3) h.0)

pub live-is : (directories : DirectoriesByNumber) → IsOrdered nat_cmp directories → (key : Key) (r : Option ℕ) → IsLiveIn (at_of directories key) r → r ≡ live (entries_of directories) key
live-is directories ordered key r h = by_newest directories ordered key r h (newest (λ entry. entry.version) (of_key directories key)) refl

-- ---- the greatest version of a directory

abbrev of_directory : DirectoriesByNumber → ℕ → List Dirent
of_directory directories pino = filter (λ entry. entry.pino == pino) (entries_of directories)

in_number : (directories : DirectoriesByNumber) (pino : ℕ) (name : List ℕ) (v : ℕ) (content : Content) → content_at directories pino name v ≡ Some content → Contains (of_directory directories pino) (entry_of pino name (v, content))
in_number directories pino name v content h =
    Contains-filter (λ entry. entry.pino == pino) (entries_of directories) (entry_of pino name (v, content)) (eq-eqb pino pino refl)
    (Contains-from_content_at directories (entry_of pino name (v, content)) h)

from_number : (directories : DirectoriesByNumber) → IsOrdered nat_cmp directories → (pino : ℕ) (x : Dirent) → Contains (of_directory directories pino) x → content_at directories pino x.name x.version ≡ Some (content_of_entry x)
from_number directories ordered pino x h =
    let found = Contains-filter_from (λ entry. entry.pino == pino) (entries_of directories) x h in
    subst (λ (p : ℕ). content_at directories p x.name x.version ≡ Some (content_of_entry x)) (eqb-true x.pino pino found.1) (content_at-from_Contains directories ordered x found.0)

at_directory : (name : List ℕ) (v : ℕ) → Option Apart → Option Content
at_directory name v o = option_and_then (λ (d : Apart). content_held d name v) o

content_at-directory : (directories : DirectoriesByNumber) (pino : ℕ) (o : Option Apart) → get nat_cmp directories pino ≡ o → (name : List ℕ) (v : ℕ) → content_at directories pino name v ≡ at_directory name v o
unfolding at_directory
content_at-directory directories pino o e name v = ap (at_directory name v) e

is_none : (o : Option Content) → ((content : Content) → o ≡ Some content → ⊥) → o ≡ None
is_none None h = refl
is_none (Some content) h = absurd (h content refl)

by_highest : (directories : DirectoriesByNumber) → IsOrdered nat_cmp directories → (pino : ℕ) (o : Option Apart) → get nat_cmp directories pino ≡ o → (z : Option Dirent) → newest (λ entry. entry.version) (of_directory directories pino) ≡ z
    → option_map (λ (d : Apart). d.directory.value.highest) o ≡ option_map (λ (entry : Dirent). entry.version) z
unfolding at_directory
by_highest directories ordered pino None there None e = refl
by_highest directories ordered pino None there (Some z) e =
    let is = newest_is_newest (of_directory directories pino) (λ entry. entry.version) z e in
    let no : None ≡ Some (content_of_entry z) = sym (content_at-directory directories pino None there z.name z.version) ∙ from_number directories ordered pino z is.0 in
    cc
by_highest directories ordered pino (Some d) there None e =
    let none : of_directory directories pino ≡ [] = newest_of_none (of_directory directories pino) (λ entry. entry.version) e in
    absurd (d.directory.value.reached (λ name. is_none (content_in (names_in d.directory.value.names) name d.directory.value.highest) (λ content h.
    Contains-none (entry_of pino name (d.directory.value.highest, content)) (subst (λ (xs : List Dirent). Contains xs (entry_of pino name (d.directory.value.highest, content))) none
    (in_number directories pino name d.directory.value.highest content (content_at-directory directories pino (Some d) there name d.directory.value.highest ∙ h))))))
by_highest directories ordered pino (Some d) there (Some z) e =
    let is = newest_is_newest (of_directory directories pino) (λ entry. entry.version) z e in
    let content_z : content_in (names_in d.directory.value.names) z.name z.version ≡ Some (content_of_entry z) = sym (content_at-directory directories pino (Some d) there z.name z.version) ∙ from_number directories ordered pino z is.0 in
    let low : z.version ≤ d.directory.value.highest = d.directory.value.bounds z.name z.version (subst (λ (o : Option Content). IsSome o) (sym content_z) refl) in
    ⊎_elim
    (λ (lt : z.version < d.directory.value.highest). absurd (d.directory.value.reached (λ name. is_none (content_in (names_in d.directory.value.names) name d.directory.value.highest) (λ content h.
    let most : d.directory.value.highest ≤ z.version = is.1 (entry_of pino name (d.directory.value.highest, content)) (in_number directories pino name d.directory.value.highest content (content_at-directory directories pino (Some d) there name d.directory.value.highest ∙ h)) in
    absurd (omega arith)))))
    (λ (ge : d.directory.value.highest ≤ z.version). let same : d.directory.value.highest ≡ z.version = omega arith in ap Some same)
    (cases_lt z.version d.directory.value.highest)

pub highest-is : (directories : DirectoriesByNumber) → IsOrdered nat_cmp directories → (pino : ℕ) → highest_at directories pino ≡ highest (entries_of directories) pino
highest-is directories ordered pino = by_highest directories ordered pino (get nat_cmp directories pino) refl (newest (λ entry. entry.version) (of_directory directories pino)) refl
