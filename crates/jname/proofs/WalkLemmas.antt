-- The live names among what is stored, one by one.
use Rattle.std.proofs.Common.{◌≡◌, ℕ, Bool, true, false, List, ◌∷◌, Option, Some, None, refl, ap, sym, ◌∙◌}
use Rattle.std.specs.Prelude.{if◌then◌else◌, ◌==◌}
use Rattle.std.specs.List.{cons_option}
use Rattle.std.specs.Option.{option_map}
use Rattle.std.specs.Cow.{cow_slice_items}
use Rattle.std.proofs.lemmas.Bool.{eq-eqb, eqb-true}
use Rattle.jname.specs.declared.versions.Content.{Content}
use Rattle.jname.specs.declared.versions.Versions.{Versions}
use Rattle.jname.specs.Versions.{IsTop, IsLiveIn, version_at, newest_of}
use Rattle.jname.specs.ContentsByName.{Name}
use Rattle.jname.specs.Walk.{live_ino, names_under}
use Rattle.jname.proofs.LiveLemmas.{same_top}
use Rattle.jname.proofs.VersionLemmas.{greatest_of, newest_there, none_greater}

-- ---- one name

pub gone_is_zero : (at : ℕ → Option Content) (v : ℕ) (content : Content) → IsTop at v content → content.ino ≡ 0 → IsLiveIn at None
gone_is_zero at v content top zero w other other_top = ap (λ (c : Content). c.ino) (same_top at w v other content other_top top) ∙ zero

live_or_gone : (at : ℕ → Option Content) (v : ℕ) (content : Content) (b : Bool) → (content.ino == 0) ≡ b → IsTop at v content → IsLiveIn at (if b then None else Some content.ino)
live_or_gone at v content true e top = gone_is_zero at v content top (eqb-true content.ino 0 e)
live_or_gone at v content false e top = ((λ (zero : content.ino ≡ 0). let yes : (content.ino == 0) ≡ true = eq-eqb content.ino 0 zero in cc), (v, content, top, refl))

pub newest_is_top : (versions : Versions) → IsTop (version_at versions) (greatest_of versions) (newest_of versions)
newest_is_top versions = (newest_there versions, λ w h. none_greater versions w h)

pub live_ino-IsLiveIn : (versions : Versions) → IsLiveIn (version_at versions) (live_ino versions)
unfolding live_ino
live_ino-IsLiveIn versions = live_or_gone (version_at versions) (greatest_of versions) (newest_of versions) ((newest_of versions).ino == 0) refl (newest_is_top versions)

-- there is one answer
pub one_live : (at : ℕ → Option Content) (r s : Option ℕ) → IsLiveIn at r → IsLiveIn at s → r ≡ s
one_live at None None h k = refl
one_live at None (Some m) h k = absurd (k.0 (sym k.1.3 ∙ h k.1.0 k.1.1 k.1.2))
one_live at (Some n) None h k = absurd (h.0 (sym h.1.3 ∙ k h.1.0 h.1.1 h.1.2))
one_live at (Some n) (Some m) h k = ap Some (sym h.1.3 ∙ ap (λ (c : Content). c.ino) (same_top at h.1.0 k.1.0 h.1.1 k.1.1 h.1.2 k.1.2) ∙ k.1.3)

pub live_ino-is : (versions : Versions) (r : Option ℕ) → IsLiveIn (version_at versions) r → r ≡ live_ino versions
live_ino-is versions r h = one_live (version_at versions) r (live_ino versions) h (live_ino-IsLiveIn versions)

-- ---- the first of the names that are left

pub names_under-live : (s es : List (Name × Versions)) (name : Name) (versions : Versions) (bytes : List ℕ) (ino : ℕ) → s ≡ (name, versions) ∷ es → bytes ≡ cow_slice_items name → IsLiveIn (version_at versions) (Some ino)
    → names_under s ≡ (bytes, ino) ∷ names_under es
names_under-live s es name versions bytes ino is shown live =
    ap names_under is ∙ ap (λ (o : Option ℕ). cons_option (option_map (λ n. (cow_slice_items name, n)) o) (names_under es)) (sym (live_ino-is versions (Some ino) live))
    ∙ ap (λ (bs : List ℕ). (bs, ino) ∷ names_under es) (sym shown)

pub names_under-gone : (s es : List (Name × Versions)) (name : Name) (versions : Versions) → s ≡ (name, versions) ∷ es → IsLiveIn (version_at versions) None → names_under s ≡ names_under es
names_under-gone s es name versions is live =
    ap names_under is ∙ ap (λ (o : Option ℕ). cons_option (option_map (λ n. (cow_slice_items name, n)) o) (names_under es)) (sym (live_ino-is versions None live))
