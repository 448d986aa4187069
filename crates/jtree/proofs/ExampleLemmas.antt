-- The small tree is a tree.
use Rattle.std.proofs.Common.{◌≡◌, ◌≢◌, ℕ, ◌<◌, ◌^◌, get_or, List, [], ◌∷◌, length, refl, ap, sym, ◌∙◌, subst, inl, inr, arith, codes}
use Rattle.std.specs.Prelude.{All, Contains, IsTrue}
use Rattle.std.specs.List.{slice_get}
use Rattle.std.specs.String.{string_bytes}
use Rattle.std.specs.declared.alloc.Global.{Global}
use Rattle.std.specs.declared.string.String.{String}
use Rattle.std.proofs.lemmas.List.Elements.{All-nil, All-cons, All-contains, Contains-append_left, Contains-push}
use Rattle.jmount.specs.Find.{IsPath, is_name, path_text}
use Rattle.jfolder.specs.Actions.{AttributesFit, FitsListing, IsRooted, ItemFits}
use Rattle.jfolder.specs.Trees.{IsTree, MayFollow}
use Rattle.jfolder.specs.declared.tree.Item.{Item}
use Rattle.jfolder.specs.declared.tree.What.{What}
use Rattle.jfolder.specs.declared.tree.What.TheVariants as what
use Rattle.jtree.specs.Making.{bytes_of_what}
use Rattle.jtree.specs.Examples.{AreTexts, SmallIsMade, Texts, each_file, plain_attributes, small_items}

plain_fits : AttributesFit plain_attributes
plain_fits = record { mode = omega arith; uid = omega arith; gid = omega arith; time = omega arith }

rooted : (text : List ℕ) (rest : List ℕ) → text ≡ 47 ∷ rest → IsRooted text
rooted text rest e = ap (λ xs. slice_get xs 0) e

no_item : {X : Type 0} {P : Type 0} (x : X) → Contains [] x → P
no_item x (k, less, e) = absurd (omega arith)

-- each path of the small tree

abbrev item : String Global → What → Item
item path w = record { path = path; attributes = plain_attributes; what = w }

no_byte : (text : List ℕ) (b c : ℕ) → text ≡ b ∷ [] → b ≢ c → All (λ b. b ≢ c) text
no_byte text b c e other = subst (All (λ b. b ≢ c)) (sym e) (All-cons (λ b. b ≢ c) b [] other (All-nil (λ b. b ≢ c)))

small_fits : (t : Texts) → AreTexts t → FitsListing plain_attributes (small_items t)
small_fits t are =
    let one : length (string_bytes t.source) ≡ 1 = ap (λ (xs : List ℕ). length xs) are.source in
    let d = item t.directory what.Directory in
    let f = item t.file (what.Regular t.source) in
    let l = item t.symlink (what.Symlink t.source) in
    let k = item t.link (what.Link t.file) in
    record {
      root_fits = plain_fits;
      items_fit = All-cons ItemFits d (f ∷ l ∷ k ∷ [])
          (record { path = rooted (string_bytes t.directory) (codes "d") are.directory; attributes = plain_fits; what = tt })
          (All-cons ItemFits f (l ∷ k ∷ []) (record { path = rooted (string_bytes t.file) (codes "d/f") are.file; attributes = plain_fits; what = omega arith })
          (All-cons ItemFits l (k ∷ []) (record {
            path = rooted (string_bytes t.symlink) (codes "d/l") are.symlink;
            attributes = plain_fits;
            what = omega
                arith;
          })
          (All-cons ItemFits k [] (record {
            path = rooted (string_bytes t.link) (codes "k") are.link;
            attributes = plain_fits;
            what = rooted
                (string_bytes t.file) (codes "d/f") are.file;
          })
          (All-nil ItemFits))));
    }

-- the names of a path of one name, and of two
abbrev IsGood : List ℕ → Type 0
IsGood name = IsTrue (is_name name)

one_name : (text name : List ℕ) → text ≡ path_text (name ∷ []) → IsGood name → IsPath text (name ∷ [])
one_name text name e good = (e, All-cons IsGood name [] good (All-nil IsGood))

two_names : (text a b : List ℕ) → text ≡ path_text (a ∷ b ∷ []) → IsGood a → IsGood b → IsPath text (a ∷ b ∷ [])
two_names text a b e good_a good_b = (e, All-cons IsGood a (b ∷ []) good_a (All-cons IsGood b [] good_b (All-nil IsGood)))

other_length : (a b x y : List ℕ) → x ≡ a → y ≡ b → length a ≢ length b → x ≢ y
other_length a b x y is_x is_y apart e = apart (ap (λ (xs : List ℕ). length xs) (sym is_x ∙ e ∙ is_y))

other_byte : (k : ℕ) (a b x y : List ℕ) → x ≡ a → y ≡ b → get_or a k 0 ≢ get_or b k 0 → x ≢ y
other_byte k a b x y is_x is_y apart e = apart (ap (λ (xs : List ℕ). get_or xs k 0) (sym is_x ∙ e ∙ is_y))

abbrev IsOther : String Global → Item → Type 0
IsOther text o = string_bytes o.path ≢ string_bytes text

small_tree : (t : Texts) → AreTexts t → IsTree (small_items t)
small_tree t are =
    let one : length (string_bytes t.source) ≡ 1 = ap (λ (xs : List ℕ). length xs) are.source in
    let d = item t.directory what.Directory in
    let f = item t.file (what.Regular t.source) in
    let l = item t.symlink (what.Symlink t.source) in
    let k = item t.link (what.Link t.file) in
    let first : MayFollow [] d =
    record {
      way = [];
      name = codes "d";
      path = one_name (string_bytes t.directory) (codes "d") are.directory refl;
      short = omega arith;
      directory = inl refl;
      new = λ other among. no_item other among;
      link = tt;
      target = tt;
    } in
    let second : MayFollow (d ∷ []) f =
    record {
      way = codes "d" ∷ [];
      name = codes "f";
      path = two_names (string_bytes t.file) (codes "d") (codes "f") are.file refl refl;
      short = omega arith;
      directory = inr (d, Contains-push [] d, are.directory, refl);
      new = λ other among.
          All-contains (IsOther t.file) (d ∷ []) other
          (All-cons (IsOther t.file) d [] (other_length (codes "/d") (codes "/d/f") (string_bytes t.directory) (string_bytes t.file) are.directory
          are.file (λ e. omega arith)) (All-nil (IsOther t.file))) among;
      link = tt;
      target = tt;
    } in
    let third : MayFollow (d ∷ f ∷ []) l =
    record {
      way = codes "d" ∷ [];
      name = codes "l";
      path = two_names (string_bytes t.symlink) (codes "d") (codes "l") are.symlink refl refl;
      short = omega arith;
      directory = inr (d, Contains-append_left (d ∷ []) (f ∷ []) d (Contains-push [] d), are.directory, refl);
      new = λ other among.
          All-contains (IsOther t.symlink) (d ∷ f ∷ []) other
          (All-cons (IsOther t.symlink) d (f ∷ []) (other_length (codes "/d") (codes "/d/l") (string_bytes t.directory) (string_bytes t.symlink)
          are.directory are.symlink (λ e. omega arith))
          (All-cons (IsOther t.symlink) f [] (other_byte 3 (codes "/d/f") (codes "/d/l") (string_bytes t.file) (string_bytes t.symlink) are.file
          are.symlink (λ e. omega arith)) (All-nil (IsOther t.symlink)))) among;
      link = tt;
      target = (omega arith, omega arith, no_byte (string_bytes t.source) 102 0 are.source (λ e. omega arith));
    } in
    let fourth : MayFollow (d ∷ f ∷ l ∷ []) k =
    record {
      way = [];
      name = codes "k";
      path = one_name (string_bytes t.link) (codes "k") are.link refl;
      short = omega arith;
      directory = inl refl;
      new = λ other among.
          All-contains (IsOther t.link) (d ∷ f ∷ l ∷ []) other
          (All-cons (IsOther t.link) d (f ∷ l ∷ []) (other_byte 1 (codes "/d") (codes "/k") (string_bytes t.directory) (string_bytes t.link)
          are.directory are.link (λ e. omega arith))
          (All-cons (IsOther t.link) f (l ∷ []) (other_length (codes "/d/f") (codes "/k") (string_bytes t.file) (string_bytes t.link) are.file are.link
          (λ e. omega arith))
          (All-cons (IsOther t.link) l [] (other_length (codes "/d/l") (codes "/k") (string_bytes t.symlink) (string_bytes t.link) are.symlink are.link
          (λ e. omega arith)) (All-nil (IsOther t.link))))) among;
      link = (f, Contains-append_left (d ∷ f ∷ []) (l ∷ []) f (Contains-push (d ∷ []) f), refl, tt);
      target = tt;
    } in
    (first, (second, (third, (fourth, tt))))

abbrev IsShort : Item → Type 0
IsShort i = length (bytes_of_what each_file i.what) < 2 ^ 31

pub small_is_made : SmallIsMade
small_is_made t are =
    let one : length (string_bytes t.source) ≡ 1 = ap (λ (xs : List ℕ). length xs) are.source in
    let d = item t.directory what.Directory in
    let f = item t.file (what.Regular t.source) in
    let l = item t.symlink (what.Symlink t.source) in
    let k = item t.link (what.Link t.file) in
    record {
      fits = small_fits t are;
      tree = small_tree t are;
      files = All-cons IsShort d (f ∷ l ∷ k ∷ []) (omega arith) (All-cons IsShort f (l ∷ k ∷ []) (omega arith)
          (All-cons IsShort l (k ∷ []) (omega arith) (All-cons IsShort k [] (omega arith) (All-nil IsShort))));
      few = omega arith;
    }
