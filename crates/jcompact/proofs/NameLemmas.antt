-- What a name stands for in a reached directory is the same of the nodes that matter.
use Rattle.std.proofs.Common.{◌≡◌, ℕ, ◌≤◌, Bool, true, false, cond, List, Option, Some, None, refl, ap, sym, subst, ◌∙◌, arith}
use Rattle.std.specs.Prelude.{◌&&◌, ◌==◌, not, filter, bytes_eq, Contains, is_some, option_and_then}
use Rattle.std.specs.List.{list_any}
use Rattle.std.proofs.lemmas.Bool.{eq-eqb, false_from_ne_true, true≢false, false≢true}
use Rattle.std.proofs.lemmas.Option.{same_Some}
use Rattle.std.proofs.lemmas.Slice.Eq.{bytes_eq-Decides}
use Rattle.flashbase.specs.Lists.{newest}
use Rattle.flashbase.proofs.ListLemmas.{newest_is_newest, newest_of_none}
use Rattle.flashbase.proofs.MemberLemmas.{Contains-none, Contains-map, Contains-map_from, Contains-filter, Contains-filter_from, Contains-filter_map, Contains-filter_map_from}
use Rattle.jnode.specs.declared.node.Dirent.{Dirent}
use Rattle.jnode.specs.declared.node.NodeRef.{NodeRef}
use Rattle.jnode.specs.declared.node.NodeRef.TheVariants.{Entry, Inode}
use Rattle.jname.specs.Live.{Key, is_at, key_of, ino_if_any, live}
use Rattle.jname.proofs.LiveLemmas.{both_true, key_at}
use Rattle.jmount.specs.Clash.{NoneClash}
use Rattle.jmount.specs.Collected.{without_addresses}
use Rattle.jmount.specs.StateOf.{entry_in, entries}
use Rattle.jmount.proofs.SameLemmas.{number_stable}
use Rattle.jcompact.specs.Matters.{Placed, is_for_same, is_above, counts_above, is_newest, is_folder, is_object, matters}
use Rattle.jcompact.proofs.TopLemmas.{both, not_true, none_of, none_any, not_above, IsTopOf, top_of}
use Rattle.jcompact.proofs.ObjectLemmas.{kept_in, kept_from}

-- ---- entries with their addresses

of_entry : (x : NodeRef) (entry : Dirent) → entry_in x ≡ Some entry → x ≡ Entry entry
of_entry (Entry n) entry e = ap (λ (m : Dirent). Entry m) (same_Some n entry e)
of_entry (Inode n) entry e = absurd (false≢true (ap is_some e))

pub entry_at : (xs : List Placed) (entry : Dirent) → Contains (entries (without_addresses xs)) entry → (addr : ℕ) × Contains xs (addr, Entry entry)
entry_at xs entry c =
    let found = Contains-filter_map_from entry_in (without_addresses xs) entry c in
    let placed = Contains-map_from (λ (n : Placed). n.1) xs found.0 found.1 in
    let is : placed.0.1 ≡ Entry entry = placed.2 ∙ of_entry found.0 entry found.2 in
    (placed.0.0, subst (λ (r : NodeRef). Contains xs (placed.0.0, r)) is placed.1)

pub at_entry : (xs : List Placed) (addr : ℕ) (entry : Dirent) → Contains xs (addr, Entry entry) → Contains (entries (without_addresses xs)) entry
at_entry xs addr entry c = Contains-filter_map entry_in (without_addresses xs) (Entry entry) entry (Contains-map (λ (n : Placed). n.1) xs (addr, Entry entry) c) refl

pub own_key : (entry : Dirent) → is_at (key_of entry) entry ≡ true
own_key entry = both (entry.pino == entry.pino) (bytes_eq entry.name entry.name) (eq-eqb _ _ refl) ((bytes_eq-Decides entry.name entry.name).1 refl)

of_key : (key : Key) (entry : Dirent) → is_at key entry ≡ true → key_of entry ≡ key
of_key key entry h = let parts = key_at key entry h in λ i. (parts.0 i, parts.1 i)

-- ---- the newest entry of a name says what it stands for

pub newest_live : (xs : List Placed) (addr : ℕ) (entry : Dirent) → NoneClash (without_addresses xs) → Contains xs (addr, Entry entry)
    → is_newest xs (addr, Entry entry) ≡ true → live (entries (without_addresses xs)) (key_of entry) ≡ ino_if_any entry
newest_live xs addr entry apart c is = by (newest (λ (e : Dirent). e.version) (filter (is_at (key_of entry)) (entries (without_addresses xs)))) refl
  where
    by : (o : Option Dirent) → newest (λ (e : Dirent). e.version) (filter (is_at (key_of entry)) (entries (without_addresses xs))) ≡ o
        → live (entries (without_addresses xs)) (key_of entry) ≡ ino_if_any entry
    by None e =
        let own = Contains-filter (is_at (key_of entry)) (entries (without_addresses xs)) entry (own_key entry) (at_entry xs addr entry c) in
        absurd (Contains-none entry (subst (λ (es : List Dirent). Contains es entry) (newest_of_none (filter (is_at (key_of entry)) (entries (without_addresses xs))) (λ (d : Dirent). d.version) e) own))
    by (Some x) e =
        let found = newest_is_newest (filter (is_at (key_of entry)) (entries (without_addresses xs))) (λ (d : Dirent). d.version) x e in
        let in_x = Contains-filter_from (is_at (key_of entry)) (entries (without_addresses xs)) x found.0 in
        let own = Contains-filter (is_at (key_of entry)) (entries (without_addresses xs)) entry (own_key entry) (at_entry xs addr entry c) in
        let least : entry.version ≤ x.version = found.1 entry own in
        let at = entry_at xs x in_x.0 in
        let no : counts_above (at.0, Entry x) (addr, Entry entry) ≡ false =
        none_of (λ (m : Placed). counts_above m (addr, Entry entry)) xs (not_true (list_any (λ (m : Placed). counts_above m (addr, Entry entry)) xs) is) (at.0, Entry x) at.1 in
        let below : is_above (at.0, Entry x) (addr, Entry entry) ≡ false =
        false_from_ne_true (is_above (at.0, Entry x) (addr, Entry entry))
        (λ up. true≢false (sym (both (is_at (key_of entry) x) (is_above (at.0, Entry x) (addr, Entry entry)) in_x.1 up) ∙ no)) in
        let most : x.version ≤ entry.version = not_above (at.0, Entry x) (addr, Entry entry) below in
        let key = key_at (key_of entry) x in_x.1 in
        let same : x.version ≡ entry.version = omega arith in
        let ino : x.ino ≡ entry.ino = number_stable x.ino entry.ino
        (λ un.
        apart (Entry x) (Entry entry) (Contains-map (λ (n : Placed). n.1) xs (at.0, Entry x) at.1) (Contains-map (λ (n : Placed). n.1) xs (addr, Entry entry) c)
        (record { directory = key.0; name = key.1; version = same; contents = λ (q : x ≡ entry). un (ap (λ (d : Dirent). d.ino) q) })) in
        ap (λ (o : Option Dirent). option_and_then ino_if_any o) e ∙ ap (λ (n : ℕ). cond (n == 0) None (Some n)) ino

-- ---- a live name has a newest entry

some_ino : (n j : ℕ) (b : Bool) → (n == 0) ≡ b → cond b None (Some n) ≡ Some j → (not (n == 0) ≡ true) × (n ≡ j)
some_ino n j true t e = absurd (false≢true (ap is_some e))
some_ino n j false t e = (ap not t, same_Some n j e)

pub ino_is : (entry : Dirent) (j : ℕ) → ino_if_any entry ≡ Some j → (not (entry.ino == 0) ≡ true) × (entry.ino ≡ j)
ino_is entry j e = some_ino entry.ino j (entry.ino == 0) refl e

abbrev is_named : Key → NodeRef → Bool
is_named key (Entry entry) = is_at key entry
is_named key (Inode node) = false

same_named : (r : NodeRef) (entry : Dirent) (key : Key) → is_for_same r (Entry entry) ≡ true → key_of entry ≡ key → is_named key r ≡ true
same_named (Entry a) entry key h e = ap (λ (k : Key). is_at k a) (sym e) ∙ h
same_named (Inode a) entry key h e = absurd (false≢true h)

pub record NewestOf (xs : List Placed) (key : Key) (addr : ℕ) (entry : Dirent) : Type 0 where
  pub there : Contains xs (addr, Entry entry)
  pub newest : is_newest xs (addr, Entry entry) ≡ true
  pub key_is : key_of entry ≡ key

named_top : (xs : List Placed) (key : Key) (n y : Placed) → IsTopOf (λ (m : Placed). is_named key m.1) xs n y → (addr : ℕ) × (entry : Dirent) × NewestOf xs key addr entry
named_top xs key n (addr, Inode node) t = absurd (false≢true t.passes)
named_top xs key n (addr, Entry entry) t =
    let same : key_of entry ≡ key = of_key key entry t.passes in
    let none : list_any (λ (m : Placed). counts_above m (addr, Entry entry)) xs ≡ false = none_any (λ (m : Placed). counts_above m (addr, Entry entry)) xs
    (λ m cm.
    false_from_ne_true (counts_above m (addr, Entry entry))
    (λ up.
    let parts = both_true (is_for_same m.1 (Entry entry)) (is_above m (addr, Entry entry)) up in
    true≢false (sym parts.1 ∙ t.none m cm (same_named m.1 entry key parts.0 same)))) in
    (addr, entry, record { there = t.there; newest = ap not none; key_is = same })

-- an entry of the name that it has, if it stands for anything
some_entry : (xs : List Placed) (key : Key) (j : ℕ) → live (entries (without_addresses xs)) key ≡ Some j
    → (entry : Dirent) × Contains (entries (without_addresses xs)) entry × (is_at key entry ≡ true)
some_entry xs key j is = by (newest (λ (e : Dirent). e.version) (filter (is_at key) (entries (without_addresses xs)))) refl
  where
    by : (o : Option Dirent) → newest (λ (e : Dirent). e.version) (filter (is_at key) (entries (without_addresses xs))) ≡ o
        → (entry : Dirent) × Contains (entries (without_addresses xs)) entry × (is_at key entry ≡ true)
    by None e = absurd (false≢true (ap is_some (sym (ap (λ (o : Option Dirent). option_and_then ino_if_any o) e) ∙ is)))
    by (Some x) e =
        let in_x = Contains-filter_from (is_at key) (entries (without_addresses xs)) x (newest_is_newest (filter (is_at key) (entries (without_addresses xs))) (λ (d : Dirent). d.version) x e).0 in
        (x, in_x.0, in_x.1)

pub live_entry : (xs : List Placed) (key : Key) (j : ℕ) → live (entries (without_addresses xs)) key ≡ Some j → (addr : ℕ) × (entry : Dirent) × NewestOf xs key addr entry
live_entry xs key j is =
    let some = some_entry xs key j is in
    let at = entry_at xs some.0 some.1 in
    let top = top_of (λ (m : Placed). is_named key m.1) xs (at.0, Entry some.0) at.1 some.2 in
    named_top xs key (at.0, Entry some.0) top.0 top.1

live_is : (xs : List Placed) (key : Key) (addr : ℕ) (entry : Dirent) → NoneClash (without_addresses xs) → NewestOf xs key addr entry
    → live (entries (without_addresses xs)) key ≡ ino_if_any entry
live_is xs key addr entry apart of =
    subst (λ (k : Key). live (entries (without_addresses xs)) k ≡ ino_if_any entry) of.key_is (newest_live xs addr entry apart of.there of.newest)

-- ---- the same of the nodes that matter

pub record LiveThere (ns : List Placed) (reached : ℕ → Bool) (key : Key) (j : ℕ) : Type 0 where
  pub live_is : live (entries (without_addresses ns)) key ≡ Some j
  pub reached_is : reached key.0 ≡ true
  pub folder_is : is_folder ns key.0 ≡ true
  pub object_is : is_object ns j ≡ true

module _ (ns kept : List Placed) (reached : ℕ → Bool) (apart : NoneClash (without_addresses ns)) (is : kept ≡ filter (matters ns reached) ns) where
  pub kept_apart : NoneClash (without_addresses kept)
  kept_apart a b in_a in_b clash = apart a b (from a in_a) (from b in_b) clash
    where
      from : (x : NodeRef) → Contains (without_addresses kept) x → Contains (without_addresses ns) x
      from x c =
          let found = Contains-map_from (λ (n : Placed). n.1) kept x c in
          subst (λ (r : NodeRef). Contains (without_addresses ns) r) found.2 (Contains-map (λ (n : Placed). n.1) ns found.0 (kept_from ns kept reached apart is found.0 found.1).0)

  -- a live name of those that matter is one of all, and its object is there
  pub kept_live : (key : Key) (j : ℕ) → live (entries (without_addresses kept)) key ≡ Some j → LiveThere ns reached key j
  kept_live key j h =
      let top = live_entry kept key j h in
      let entry : Dirent = top.1 in
      let found = kept_from ns kept reached apart is (top.0, Entry entry) top.2.there in
      let parts = both_true (is_newest ns (top.0, Entry entry)) (not (entry.ino == 0) && (reached entry.pino && (is_folder ns entry.pino && is_object ns entry.ino))) found.1 in
      let more = both_true (not (entry.ino == 0)) (reached entry.pino && (is_folder ns entry.pino && is_object ns entry.ino)) parts.1 in
      let folder = both_true (reached entry.pino) (is_folder ns entry.pino && is_object ns entry.ino) more.1 in
      let object = both_true (is_folder ns entry.pino) (is_object ns entry.ino) folder.1 in
      let stands : ino_if_any entry ≡ Some j = sym (live_is kept key top.0 entry kept_apart top.2) ∙ h in
      let pino : entry.pino ≡ key.0 = ap (λ (k : Key). k.0) top.2.key_is in
      record {
        live_is = live_is ns key top.0 entry apart (record { there = found.0; newest = parts.0; key_is = top.2.key_is }) ∙ stands;
        reached_is = ap reached (sym pino) ∙ folder.0;
        folder_is = ap (is_folder ns) (sym pino) ∙ object.0;
        object_is = ap (is_object ns) (sym (ino_is entry j stands).1) ∙ object.1;
      }

  pub fewer_newest : (n : Placed) → is_newest ns n ≡ true → is_newest kept n ≡ true
  fewer_newest n h =
      ap not (none_any (λ (m : Placed). counts_above m n) kept
      (λ m c. none_of (λ (x : Placed). counts_above x n) ns (not_true (list_any (λ (x : Placed). counts_above x n) ns) h) m (kept_from ns kept reached apart is m c).0))

  -- a live name of a reached directory, whose object is there, is one of those that matter
  pub live_kept : (dir : ℕ) (name : List ℕ) (j : ℕ) → reached dir ≡ true → is_folder ns dir ≡ true → is_object ns j ≡ true
      → live (entries (without_addresses ns)) (dir, name) ≡ Some j → live (entries (without_addresses kept)) (dir, name) ≡ Some j
  live_kept dir name j met folder object h =
      let top = live_entry ns (dir, name) j h in
      let entry : Dirent = top.1 in
      let n : Placed = (top.0, Entry entry) in
      let stands : ino_if_any entry ≡ Some j = sym (live_is ns (dir, name) top.0 entry apart top.2) ∙ h in
      let ino = ino_is entry j stands in
      let pino : entry.pino ≡ dir = ap (λ (k : Key). k.0) top.2.key_is in
      let matters_is : matters ns reached n ≡ true =
      both (is_newest ns n) (not (entry.ino == 0) && (reached entry.pino && (is_folder ns entry.pino && is_object ns entry.ino))) top.2.newest
      (both (not (entry.ino == 0)) (reached entry.pino && (is_folder ns entry.pino && is_object ns entry.ino)) ino.0
      (both (reached entry.pino) (is_folder ns entry.pino && is_object ns entry.ino) (ap reached pino ∙ met)
      (both (is_folder ns entry.pino) (is_object ns entry.ino) (ap (is_folder ns) pino ∙ folder) (ap (is_object ns) ino.1 ∙ object)))) in
      live_is kept (dir, name) top.0 entry kept_apart
      (record { there = kept_in ns kept reached apart is n top.2.there matters_is; newest = fewer_newest n top.2.newest; key_is = top.2.key_is })
      ∙ stands
