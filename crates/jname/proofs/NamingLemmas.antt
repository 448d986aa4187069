-- The order of keys tells keys apart, and the map of live names has at each key what `live` gives.
use Rattle.std.proofs.Common.{◌≡◌, ℕ, List, map, Some, refl, ap, sym, ◌∙◌, subst, Ordering}
use Rattle.std.specs.Prelude.{Contains, option_and_then, ◌==◌, T, bytes_eq}
use Rattle.std.specs.declared.cmp.Ordering.TheVariants.{Less, Equal, Greater}
use Rattle.std.specs.Ordering.{eq_by_cmp, nat_cmp, ordering_then, is_eq}
use Rattle.std.specs.Cmp.{IsTotalOrder, nat_cmp_total, unsigned_ties, then_total, on_total, both_tied, eq_by_cmp_equiv}
use Rattle.std.specs.Cmp.Lexicographic.{slice_cmp, nat_list_cmp_total, texts_ties}
use Rattle.std.specs.FinMap.{get, entries, get-entries, entries_sorted, IsAntisymmetric, nat_cmp-IsAntisymmetric, slice_cmp-IsAntisymmetric}
use Rattle.flashbase.specs.Lists.{newest}
use Rattle.flashbase.proofs.ListLemmas.{get-tabled_all, filter-no_key}
use Rattle.jnode.specs.declared.node.Dirent.{Dirent}
use Rattle.jname.proofs.SortedLemmas.{find-from_Contains, Contains-from_find}
use Rattle.jname.specs.Live.{Key, key_cmp, key_of, is_at, ino_if_any, live, live_names}

pub key_cmp_total : IsTotalOrder key_cmp
key_cmp_total = then_total (on_total (λ (k : Key). k.0) nat_cmp_total) (on_total (λ (k : Key). k.1) nat_list_cmp_total)

both_equal : (a b : Ordering) → ordering_then a b ≡ Equal → (a ≡ Equal) × (b ≡ Equal)
both_equal Less b e = absurd (subst (λ r. T (is_eq r)) (sym e) tt)
both_equal Equal b e = (refl, e)
both_equal Greater b e = absurd (subst (λ r. T (is_eq r)) (sym e) tt)

pub key_cmp-IsAntisymmetric : IsAntisymmetric key_cmp
key_cmp-IsAntisymmetric x y e =
    let parts = both_equal (nat_cmp x.0 y.0) (slice_cmp nat_cmp x.1 y.1) e in
    λ i. (nat_cmp-IsAntisymmetric x.0 y.0 parts.0 i, slice_cmp-IsAntisymmetric nat_cmp-IsAntisymmetric x.1 y.1 parts.1 i)

-- the test of an entry is the order's, from either side
pub is_at-tied : (key : Key) (entry : Dirent) → eq_by_cmp key_cmp key (key_of entry) ≡ is_at key entry
is_at-tied key entry =
    (eq_by_cmp_equiv key_cmp_total).symm key (key_of entry)
    ∙ sym (both_tied (entry.pino == key.0) (bytes_eq entry.name key.1) (nat_cmp entry.pino key.0) (slice_cmp nat_cmp entry.name key.1) (unsigned_ties entry.pino key.0) (texts_ties entry.name key.1))

pub get-live_names : (entries : List Dirent) (q : Key) → get (live_names entries) q ≡ live entries q
get-live_names entries q =
    get-tabled_all key_cmp key_cmp_total key_cmp-IsAntisymmetric (map key_of entries) (live entries) q
    (λ none. ap (λ es. option_and_then ino_if_any (newest (λ entry. entry.version) es)) (filter-no_key key_cmp key_of (is_at q) q (is_at-tied q) entries none))

-- an element of the map's entries is a name that is live
pub live-from_Contains : (given : List Dirent) (q : Key) (ino : ℕ) → Contains (entries (live_names given)) (q, ino) → live given q ≡ Some ino
live-from_Contains given q ino h =
    sym (get-live_names given q) ∙ get-entries (live_names given) q
    ∙ find-from_Contains key_cmp key_cmp_total (entries (live_names given)) q ino (entries_sorted (live_names given)) h

pub Contains-from_live : (given : List Dirent) (q : Key) (ino : ℕ) → live given q ≡ Some ino → Contains (entries (live_names given)) (q, ino)
Contains-from_live given q ino h =
    Contains-from_find key_cmp key_cmp-IsAntisymmetric (entries (live_names given)) q ino
    (sym (get-entries (live_names given) q) ∙ get-live_names given q ∙ h)
