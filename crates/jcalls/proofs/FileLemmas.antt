-- Files by their names.
use Rattle.std.proofs.Common.{◌≡◌, ◌∙◌, ◌<◌, ◌+◌, ℕ, Bool, true, false, cond, List, ◌∷◌, length, get_or, drop, refl, sym, ap, Option, Some, option_map}
use Rattle.std.specs.Prelude.{bytes_eq}
use Rattle.std.specs.Borrow.{Bor}
use Rattle.std.specs.BTreeMap.{BTreeMap, get_by, UpdatesBy}
use Rattle.std.specs.Cmp.Lexicographic.{slice_cmp}
use Rattle.std.specs.Ordering.{nat_cmp}
use Rattle.std.proofs.lemmas.List.{drop_more}
use Rattle.std.proofs.lemmas.Map.Text.{btree_map_updates_str}
use Rattle.jcalls.specs.Files.{HoldsFiles, bytes_in_row, file_in, name_in}
use Rattle.jcalls.specs.declared.given.FileRow.{FileRow}

abbrev pub no_row : FileRow
no_row = record { name_at = 0; name_len = 0; at = 0; length = 0 }

map_cond : {T U : Type 0} (f : T → U) (b : Bool) (x y : Option T) → option_map f (cond b x y) ≡ cond b (option_map f x) (option_map f y)
map_cond f true x y = refl
map_cond f false x y = refl

-- one more file in front of those that are held
pub holds_more : (bytes : List ℕ) (rows : List FileRow) (i : ℕ) (key content : Bor (List ℕ)) (old new : BTreeMap (Bor (List ℕ)) (Bor (List ℕ))) → i < length rows
    → key.now ≡ name_in bytes (get_or rows i no_row) → content.now ≡ bytes_in_row bytes (get_or rows i no_row)
    → UpdatesBy (λ x y. slice_cmp nat_cmp x.now y.now) (λ k. slice_cmp nat_cmp key.now k.now) old new (Some content)
    → HoldsFiles bytes (drop (i + 1) rows) old → HoldsFiles bytes (drop i rows) new
holds_more bytes rows i key content old new within named has updates before name =
    ap (option_map (λ it. it.now)) (btree_map_updates_str key.now old new (Some content) updates name)
    ∙ map_cond (λ it. it.now) (bytes_eq key.now name) (Some content) (get_by (λ k. slice_cmp nat_cmp name k.now) old)
    ∙ (λ j. cond (bytes_eq (named j) name) (Some (has j)) (before name j))
    ∙ sym (ap (λ l. file_in bytes l name) (drop_more rows i no_row within))
