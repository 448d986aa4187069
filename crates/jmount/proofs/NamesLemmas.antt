-- What names stand for, by their entries.
use Rattle.std.proofs.Common.{◌≡◌, ◌≢◌, ℕ, Bool, true, false, cond, List, [], Option, Some, None, refl, ap, sym, ◌∙◌, subst, inl, inr}
use Rattle.std.specs.Prelude.{◌⊎◌, Contains, filter, option_and_then, is_some, ◌==◌, bytes_eq}
use Rattle.std.proofs.lemmas.Bool.{false≢true, true≢false, and_from, eq-eqb, eqb-true, eqb-false}
use Rattle.std.proofs.lemmas.Option.{same_Some}
use Rattle.std.proofs.lemmas.Slice.Eq.{bytes_eq-Decides}
use Rattle.flashbase.specs.Lists.{newest}
use Rattle.flashbase.proofs.ListLemmas.{newest_is_newest, newest_of_none}
use Rattle.jnode.specs.declared.node.Dirent.{Dirent}
use Rattle.jname.specs.Live.{Key, is_at, ino_if_any, live}
use Rattle.jname.proofs.LiveLemmas.{key_at}
use Rattle.flashbase.proofs.MemberLemmas.{Contains-none, Contains-filter, Contains-filter_from}
use Rattle.jmount.specs.StateOf.{entries}
use Rattle.jmount.specs.Laws as law
use Rattle.jmount.specs.Laws.{IsNewestEntry}
use Rattle.jmount.proofs.NumbersLemmas.{named-state_of}

same_bytes : (bs cs : List ℕ) → bs ≡ cs → bytes_eq bs cs ≡ true
same_bytes bs cs e = (bytes_eq-Decides bs cs).1 e

at_key : (key : Key) (entry : Dirent) → entry.pino ≡ key.0 → entry.name ≡ key.1 → is_at key entry ≡ true
at_key key entry p n = and_from (entry.pino == key.0) (bytes_eq entry.name key.1) (eq-eqb entry.pino key.0 p) (same_bytes entry.name key.1 n)

newest_at : List Dirent → Key → Option Dirent
newest_at given key = newest (λ entry. entry.version) (filter (is_at key) given)

is_newest : (given : List Dirent) (key : Key) (entry : Dirent) → newest_at given key ≡ Some entry → IsNewestEntry given key.0 key.1 entry
unfolding newest_at
is_newest given key entry e =
    let is = newest_is_newest (filter (is_at key) given) (λ x. x.version) entry e in
    let found = Contains-filter_from (is_at key) given entry is.0 in
    let at = key_at key entry found.1 in
    record { there = found.0; directory = at.0; named = at.1; highest = λ other c p n. is.1 other (Contains-filter (is_at key) given other (at_key key other p n) c) }

none_at : (given : List Dirent) (key : Key) → newest_at given key ≡ None → (entry : Dirent) → Contains given entry → entry.pino ≡ key.0 → entry.name ≢ key.1
unfolding newest_at
none_at given key none entry c p n =
    let empty : filter (is_at key) given ≡ [] = newest_of_none (filter (is_at key) given) (λ x. x.version) none in
    Contains-none entry (subst (λ es. Contains es entry) empty (Contains-filter (is_at key) given entry (at_key key entry p n) c))

number_unless_0 : (i n : ℕ) (b : Bool) → (n == 0) ≡ b → cond b None (Some n) ≡ Some i → (i ≢ 0) × (n ≡ i)
number_unless_0 i n true zero e = absurd (false≢true (ap is_some e))
number_unless_0 i n false some e = let same : n ≡ i = same_Some n i e in (λ (z : i ≡ 0). eqb-false n 0 some (same ∙ z), same)

gone : (n : ℕ) (b : Bool) → (n == 0) ≡ b → cond b None (Some n) ≡ None → n ≡ 0
gone n true zero e = eqb-true n 0 zero
gone n false some e = absurd (true≢false (ap is_some e))

by_newest : (given : List Dirent) (key : Key) (i : ℕ) (found : Option Dirent) → newest_at given key ≡ found → option_and_then ino_if_any found ≡ Some i
    → (i ≢ 0) × ((entry : Dirent) × IsNewestEntry given key.0 key.1 entry × (entry.ino ≡ i))
by_newest given key i None none e = absurd (false≢true (ap is_some e))
by_newest given key i (Some entry) is e =
    let number = number_unless_0 i entry.ino (entry.ino == 0) refl e in
    (number.0, (entry, is_newest given key entry is, number.1))

pub live_is_of_newest : (given : List Dirent) (key : Key) (i : ℕ) → live given key ≡ Some i → (i ≢ 0) × ((entry : Dirent) × IsNewestEntry given key.0 key.1 entry × (entry.ino ≡ i))
unfolding newest_at
live_is_of_newest given key i e = by_newest given key i (newest_at given key) refl e

pub name_is_of_newest : law.NameIsOfNewest
unfolding newest_at
name_is_of_newest ns dir name i e = by_newest (entries ns) (dir, name) i (newest_at (entries ns) (dir, name)) refl (sym (named-state_of ns dir name) ∙ e)

by_none : (given : List Dirent) (key : Key) (found : Option Dirent) → newest_at given key ≡ found → option_and_then ino_if_any found ≡ None
    → ((entry : Dirent) × IsNewestEntry given key.0 key.1 entry × (entry.ino ≡ 0)) ⊎ ((entry : Dirent) → Contains given entry → entry.pino ≡ key.0 → entry.name ≢ key.1)
by_none given key None none e = inr (none_at given key none)
by_none given key (Some entry) is e = inl (entry, is_newest given key entry is, gone entry.ino (entry.ino == 0) refl e)

pub no_name_is_of_none : law.NoNameIsOfNone
unfolding newest_at
no_name_is_of_none ns dir name e = by_none (entries ns) (dir, name) (newest_at (entries ns) (dir, name)) refl (sym (named-state_of ns dir name) ∙ e)
