-- What is live, and the greatest version, by which entries there are.
use Rattle.std.proofs.Common.{◌≡◌, ℕ, ◌≤◌, Bool, true, List, [], Option, Some, None, refl, ap, sym, ◌∙◌, subst, arith}
use Rattle.std.specs.Prelude.{Contains, filter, ◌==◌}
use Rattle.std.specs.Option.{option_and_then, option_map}
use Rattle.std.specs.FinMap.{same_map}
use Rattle.std.proofs.lemmas.Bool.{eq-eqb, eqb-true}
use Rattle.flashbase.specs.Lists.{newest}
use Rattle.flashbase.proofs.ListLemmas.{newest_is_newest, newest_of_none}
use Rattle.jnode.specs.declared.node.Dirent.{Dirent}
use Rattle.jname.specs.declared.versions.Content.{Content}
use Rattle.jname.specs.Entries.{content_of_entry}
use Rattle.jname.specs.Clash.{EntriesClash, NoEntriesClash}
use Rattle.jname.specs.Live.{Key, is_at, ino_if_any, live, live_names, highest, SameEntries}
use Rattle.jname.proofs.ContentsByNameLemmas.{by_test}
use Rattle.flashbase.proofs.MemberLemmas.{Contains-none, Contains-filter, Contains-filter_from}
use Rattle.jname.proofs.LiveLemmas.{key_at}
use Rattle.jname.proofs.GainLemmas.{same_entry}
use Rattle.jname.proofs.NamingLemmas.{key_cmp_total, key_cmp-IsAntisymmetric, get-live_names}

abbrev version_of : Dirent → ℕ
version_of entry = entry.version

pub same_filter : (p : Dirent → Bool) (a b : List Dirent) → SameEntries a b → SameEntries (filter p a) (filter p b)
same_filter p a b same x = (
  λ h. let found = Contains-filter_from p a x h in Contains-filter p b x found.1 ((same x).0 found.0),
  λ h. let found = Contains-filter_from p b x h in Contains-filter p a x found.1 ((same x).1 found.0),
)

-- where one list has no newest, neither has the other
none_newest : (a b : List Dirent) → SameEntries a b → newest version_of a ≡ None → (z : Dirent) → newest version_of b ≡ Some z → ⊥
none_newest a b same none z e =
    let empty : a ≡ [] = newest_of_none a version_of none in
    let is = newest_is_newest b version_of z e in
    Contains-none z (subst (λ (xs : List Dirent). Contains xs z) empty ((same z).1 is.0))

-- the newest of both are of one version
newest_version : (a b : List Dirent) → SameEntries a b → (y z : Dirent) → newest version_of a ≡ Some y → newest version_of b ≡ Some z → y.version ≡ z.version
newest_version a b same y z e f =
    let ya = newest_is_newest a version_of y e in
    let zb = newest_is_newest b version_of z f in
    let low : y.version ≤ z.version = zb.1 y ((same y).0 ya.0) in
    let high : z.version ≤ y.version = ya.1 z ((same z).1 zb.0) in
    omega arith

same_versions : (a b : List Dirent) → SameEntries a b → (o p : Option Dirent) → newest version_of a ≡ o → newest version_of b ≡ p → option_map version_of o ≡ option_map version_of p
same_versions a b same None None e f = refl
same_versions a b same None (Some z) e f = absurd (none_newest a b same e z f)
same_versions a b same (Some y) None e f = absurd (none_newest b a (λ x. ((same x).1, (same x).0)) f y e)
same_versions a b same (Some y) (Some z) e f = ap Some (newest_version a b same y z e f)

pub highest-same : (a b : List Dirent) (pino : ℕ) → SameEntries a b → highest a pino ≡ highest b pino
highest-same a b pino same =
    same_versions (filter (λ entry. entry.pino == pino) a) (filter (λ entry. entry.pino == pino) b) (same_filter (λ entry. entry.pino == pino) a b same)
    (newest version_of (filter (λ entry. entry.pino == pino) a)) (newest version_of (filter (λ entry. entry.pino == pino) b)) refl refl

-- ---- contents that cannot be told apart are the same

number_stable : (n m : ℕ) → ((n ≡ m → ⊥) → ⊥) → n ≡ m
number_stable n m h = by_test (n == m) (eqb-true n m) (λ no. absurd (h (λ e. let yes : (n == m) ≡ true = eq-eqb n m e in cc)))

content_stable : (a b : Content) → ((a ≡ b → ⊥) → ⊥) → a ≡ b
content_stable a b h =
    let ino : a.ino ≡ b.ino = number_stable a.ino b.ino (λ no. h (λ e. no (ap (λ (c : Content). c.ino) e))) in
    let mctime : a.mctime ≡ b.mctime = number_stable a.mctime b.mctime (λ no. h (λ e. no (ap (λ (c : Content). c.mctime) e))) in
    let kind : a.kind ≡ b.kind = number_stable a.kind b.kind (λ no. h (λ e. no (ap (λ (c : Content). c.kind) e))) in
    λ i. record { ino = ino i; mctime = mctime i; kind = kind i }

-- entries of one place that do not clash are the same
one_entry : (a b : Dirent) → (EntriesClash a b → ⊥) → a.pino ≡ b.pino → a.name ≡ b.name → a.version ≡ b.version → a ≡ b
one_entry a b apart p n v =
    same_entry a b p n v (content_stable (content_of_entry a) (content_of_entry b) (λ no. apart (record { directory = p; name = n; version = v; contents = λ (e : a ≡ b). no (ap content_of_entry e) })))

same_newest : (a b : List Dirent) (key : Key) → SameEntries a b → NoEntriesClash a → (o p : Option Dirent) → newest version_of (filter (is_at key) a) ≡ o → newest version_of (filter (is_at key) b) ≡ p → o ≡ p
same_newest a b key same apart None None e f = refl
same_newest a b key same apart None (Some z) e f = absurd (none_newest (filter (is_at key) a) (filter (is_at key) b) (same_filter (is_at key) a b same) e z f)
same_newest a b key same apart (Some y) None e f = absurd (none_newest (filter (is_at key) b) (filter (is_at key) a) (λ x. ((same_filter (is_at key) a b same x).1, (same_filter (is_at key) a b same x).0)) f y e)
same_newest a b key same apart (Some y) (Some z) e f =
    let ya = Contains-filter_from (is_at key) a y ((newest_is_newest (filter (is_at key) a) version_of y e).0) in
    let zb = Contains-filter_from (is_at key) b z ((newest_is_newest (filter (is_at key) b) version_of z f).0) in
    let yk = key_at key y ya.1 in
    let zk = key_at key z zb.1 in
    let version : y.version ≡ z.version = newest_version (filter (is_at key) a) (filter (is_at key) b) (same_filter (is_at key) a b same) y z e f in
    ap Some (one_entry y z (apart z ((same z).1 zb.0) y ya.0) (yk.0 ∙ sym zk.0) (yk.1 ∙ sym zk.1) version)

pub live-same : (a b : List Dirent) (key : Key) → SameEntries a b → NoEntriesClash a → live a key ≡ live b key
live-same a b key same apart =
    ap (λ (o : Option Dirent). option_and_then ino_if_any o)
    (same_newest a b key same apart (newest version_of (filter (is_at key) a)) (newest version_of (filter (is_at key) b)) refl refl)

pub live_names-same : (a b : List Dirent) → SameEntries a b → NoEntriesClash a → live_names a ≡ live_names b
live_names-same a b same apart =
    same_map key_cmp_total key_cmp-IsAntisymmetric (live_names a) (live_names b) (λ q. get-live_names a q ∙ live-same a b q same apart ∙ sym (get-live_names b q))
