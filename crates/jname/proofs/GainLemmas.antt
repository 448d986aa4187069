-- One entry more: what the list gains, and which entries clash with it.
use Rattle.std.proofs.Common.{◌≡◌, ℕ, Bool, true, false, ◌&&◌, List, Option, Some, None, refl, ap, sym, ◌∙◌, subst, ⊎_elim, inl, inr}
use Rattle.std.specs.Prelude.{◌⊎◌, Contains, if◌then◌else◌, ◌==◌}
use Rattle.std.specs.Option.{option_and_then}
use Rattle.std.specs.Ordering.{nat_cmp}
use Rattle.std.specs.Str.{bytes_eq}
use Rattle.std.specs.BTreeMap.{get, IsOrdered, Updates}
use Rattle.std.specs.Cmp.{unsigned_tied}
use Rattle.std.proofs.lemmas.Bool.{eq-eqb, eqb-true}
use Rattle.std.proofs.lemmas.Option.{same_Some}
use Rattle.std.proofs.lemmas.Slice.Eq.{bytes_eq-Decides}
use Rattle.jnode.specs.declared.node.Dirent.{Dirent}
use Rattle.jname.specs.declared.versions.Content.{Content}
use Rattle.jname.specs.declared.apart.Apart.{Apart}
use Rattle.jname.specs.Versions.{Agrees, Differs}
use Rattle.jname.specs.Directories.{DirectoriesByNumber, content_at, content_held}
use Rattle.jname.specs.Entries.{content_of_entry, entry_of, entries_of}
use Rattle.jname.specs.Clash.{SomeEntryClashesWith, NoEntryClashesWith}
use Rattle.jname.specs.Live.{Gains}
use Rattle.jname.proofs.EntriesLemmas.{content_at-from_Contains, Contains-from_content_at}
use Rattle.jname.proofs.LiveLemmas.{both_true}

-- ---- one directory is replaced

at_place : (name : List ℕ) (v : ℕ) → Option Apart → Option Content
at_place name v o = option_and_then (λ (d : Apart). content_held d name v) o

-- one content more is stored
abbrev pub HoldsOneMore : DirectoriesByNumber → DirectoriesByNumber → ℕ → List ℕ → ℕ → Content → Type 0
HoldsOneMore old new pino name version content = (p : ℕ) (n : List ℕ) (v : ℕ) → content_at new p n v ≡ (if pino == p && (bytes_eq name n && version == v) then Some content else content_at old p n v)

replaced_at : (old new : DirectoriesByNumber) (pino : ℕ) (directory : Apart) → Updates nat_cmp old new pino (Some directory) → (p : ℕ) → get nat_cmp new p ≡ (if pino == p then Some directory else get nat_cmp old p)
replaced_at old new pino directory u p = u.0 p ∙ ap (λ (b : Bool). if b then Some directory else get nat_cmp old p) (unsigned_tied pino p)

content_by_test : (b : Bool) (directory : Apart) (before : Option Apart) (name n : List ℕ) (version v : ℕ) (content : Content) (was : Option Content)
    → (b ≡ true → content_held directory n v ≡ (if bytes_eq name n && version == v then Some content else was)) → at_place n v before ≡ was
    → at_place n v (if b then Some directory else before) ≡ (if b && (bytes_eq name n && version == v) then Some content else was)
unfolding at_place
content_by_test true directory before name n version v content was h same = h refl
content_by_test false directory before name n version v content was h same = same

pub content_at-replaced : (old new : DirectoriesByNumber) (pino : ℕ) (directory : Apart) (name : List ℕ) (version : ℕ) (content : Content) → Updates nat_cmp old new pino (Some directory)
    → ((n : List ℕ) (v : ℕ) → content_held directory n v ≡ (if bytes_eq name n && version == v then Some content else content_at old pino n v))
    → HoldsOneMore old new pino name version content
unfolding at_place
content_at-replaced old new pino directory name version content u h p n v =
    ap (at_place n v) (replaced_at old new pino directory u p)
    ∙ content_by_test (pino == p) directory (get nat_cmp old p) name n version v content (content_at old p n v)
    (λ e. h n v ∙ ap (λ (q : ℕ). if bytes_eq name n && version == v then Some content else content_at old q n v) (eqb-true pino p e)) refl

-- ---- entries by their place and content

pub same_entry : (x y : Dirent) → x.pino ≡ y.pino → x.name ≡ y.name → x.version ≡ y.version → content_of_entry x ≡ content_of_entry y → x ≡ y
same_entry x y p n v c = λ i. record { pino = p i; version = v i; ino = (c i).ino; mctime = (c i).mctime; kind = (c i).kind; name = n i }

abbrev is_there : Dirent → Dirent → Bool
is_there entry x = entry.pino == x.pino && (bytes_eq entry.name x.name && entry.version == x.version)

pub there-from : (entry x : Dirent) → is_there entry x ≡ true → (entry.pino ≡ x.pino) × (entry.name ≡ x.name) × (entry.version ≡ x.version)
there-from entry x e =
    let a = both_true (entry.pino == x.pino) (bytes_eq entry.name x.name && entry.version == x.version) e in
    let b = both_true (bytes_eq entry.name x.name) (entry.version == x.version) a.1 in
    (eqb-true entry.pino x.pino a.0, (bytes_eq-Decides entry.name x.name).0 b.0, eqb-true entry.version x.version b.1)

there-itself : (entry : Dirent) → is_there entry entry ≡ true
there-itself entry =
    ap (λ (b : Bool). b && (bytes_eq entry.name entry.name && entry.version == entry.version)) (eq-eqb entry.pino entry.pino refl)
    ∙ ap (λ (b : Bool). b && entry.version == entry.version) ((bytes_eq-Decides entry.name entry.name).1 refl)
    ∙ eq-eqb entry.version entry.version refl

content_at_place : DirectoriesByNumber → Dirent → Option Content
content_at_place directories x = content_at directories x.pino x.name x.version

content_at_place-same : (directories : DirectoriesByNumber) (x y : Dirent) → x.pino ≡ y.pino → x.name ≡ y.name → x.version ≡ y.version → content_at directories x.pino x.name x.version ≡ content_at directories y.pino y.name y.version
content_at_place-same directories x y p n v = λ i. content_at directories (p i) (n i) (v i)

-- nothing else is stored: what is stored is this
agreed : (o : Option Content) (there content : Content) → Agrees o content → o ≡ Some there → there ≡ content
agreed None there content h e = let no : None ≡ Some there = e in cc
agreed (Some x) there content h e = sym (same_Some x there e) ∙ h

-- ---- the list gains the entry

gained : (old : DirectoriesByNumber) (entry x : Dirent) (b : Bool) → is_there entry x ≡ b → (if b then Some (content_of_entry entry) else content_at old x.pino x.name x.version) ≡ Some (content_of_entry x) → Contains (entries_of old) x ⊎ (x ≡ entry)
gained old entry x true e h =
    let same = there-from entry x e in
    inr (same_entry x entry (sym same.0) (sym same.1) (sym same.2) (sym (same_Some (content_of_entry entry) (content_of_entry x) h)))
gained old entry x false e h = inl (Contains-from_content_at old x h)

still_there : (old : DirectoriesByNumber) (entry x : Dirent) (b : Bool) → is_there entry x ≡ b → Agrees (content_at old entry.pino entry.name entry.version) (content_of_entry entry) → content_at old x.pino x.name x.version ≡ Some (content_of_entry x)
    → (if b then Some (content_of_entry entry) else content_at old x.pino x.name x.version) ≡ Some (content_of_entry x)
still_there old entry x true e agrees h =
    let same = there-from entry x e in
    ap Some (sym (agreed (content_at old entry.pino entry.name entry.version) (content_of_entry x) (content_of_entry entry) agrees (content_at_place-same old entry x same.0 same.1 same.2 ∙ h)))
still_there old entry x false e agrees h = h

pub gains_one : (old new : DirectoriesByNumber) → IsOrdered nat_cmp old → IsOrdered nat_cmp new → (entry : Dirent) → HoldsOneMore old new entry.pino entry.name entry.version (content_of_entry entry)
    → Agrees (content_at old entry.pino entry.name entry.version) (content_of_entry entry) → Gains (entries_of old) (entries_of new) entry
gains_one old new old_ordered new_ordered entry more agrees x = (
  λ h. gained old entry x (is_there entry x) refl (sym (more x.pino x.name x.version) ∙ content_at-from_Contains new new_ordered x h),
  λ h. Contains-from_content_at new x (more x.pino x.name x.version ∙ ⊎_elim
      (λ before. still_there old entry x (is_there entry x) refl agrees (content_at-from_Contains old old_ordered x before))
      (λ (is : x ≡ entry). subst (λ (y : Dirent). (if is_there entry y then Some (content_of_entry entry) else content_at old y.pino y.name y.version) ≡ Some (content_of_entry y)) (sym is)
      (ap (λ (b : Bool). if b then Some (content_of_entry entry) else content_at old entry.pino entry.name entry.version) (there-itself entry)))
      h),
)

-- ---- clashes

pub none_clashes : (old : DirectoriesByNumber) → IsOrdered nat_cmp old → (entry : Dirent) → Agrees (content_at old entry.pino entry.name entry.version) (content_of_entry entry) → NoEntryClashesWith (entries_of old) entry
none_clashes old ordered entry agrees other there clash =
    let content : content_of_entry other ≡ content_of_entry entry =
    agreed (content_at old entry.pino entry.name entry.version) (content_of_entry other) (content_of_entry entry) agrees
    (content_at_place-same old entry other (sym clash.directory) (sym clash.name) (sym clash.version) ∙ content_at-from_Contains old ordered other there) in
    clash.contents (same_entry other entry clash.directory clash.name clash.version content)

differing : (old : DirectoriesByNumber) (entry : Dirent) (o : Option Content) → content_at old entry.pino entry.name entry.version ≡ o → Differs o (content_of_entry entry) → SomeEntryClashesWith (entries_of old) entry
differing old entry None e h = absurd h
differing old entry (Some there) e h =
    let other : Dirent = entry_of entry.pino entry.name (entry.version, there) in
    (other, Contains-from_content_at old other e, record { directory = refl; name = refl; version = refl; contents = λ (same : other ≡ entry). h (ap content_of_entry same) })

pub some_clashes : (old : DirectoriesByNumber) (entry : Dirent) → Differs (content_at old entry.pino entry.name entry.version) (content_of_entry entry) → SomeEntryClashesWith (entries_of old) entry
some_clashes old entry h = differing old entry (content_at old entry.pino entry.name entry.version) refl h
