-- What `ls` and `cat` print of a tree depends on its outline, and on the bytes of what they show.
use Rattle.std.proofs.Common.{◌≡◌, ℕ, ◌==◌, ◌&&◌, ◌||◌, not, cond, Bool, true, false, List, [], ◌∷◌, ◌++◌, map, Option, None, Some, Result, Ok, Err, refl, sym, ap, subst, ◌∙◌}
use Rattle.std.specs.Prelude.{count_by, filter, option_map}
use Rattle.std.specs.Cmp.{eq_by_cmp_equiv, nat_cmp_total, unsigned_tied}
use Rattle.std.proofs.lemmas.Option.{same_Some, none-some}
use Rattle.jnode.specs.declared.order.Endian.{Endian}
use Rattle.jscan.specs.declared.finding.Finding.{Finding}
use Rattle.jmount.specs.Find.{find}
use Rattle.jmount.specs.Mount.{Mount}
use Rattle.jmount.specs.Shown.{bytes_if, kind_of, readable, shown, shown_outline}
use Rattle.jmount.specs.Tree.{ObjectOf, Outline, State, entries_in, has_bits, is_directory, is_there, object, outline, regular_bits, sized, symlink_bits, type_bits}
use Rattle.jmount.specs.declared.fault.FindFault.{FindFault}
use Rattle.jmount.specs.declared.object.Kind.{Kind}
use Rattle.jmount.specs.declared.object.Kind.TheVariants as kind
use Rattle.jmount.proofs.OutlineLemmas.{find-outline, is_directory-outline, is_there-outline, object-outline}
use Rattle.jthrough.specs.declared.fault.ViewFault.{ViewFault}
use Rattle.jthrough.specs.declared.fault.ViewFault.TheVariants as view
use Rattle.jlook.specs.Chosen.{is_that_object, object_by_path, symlinks_in}
use Rattle.jlook.specs.Laws.{ShowsSame}
use Rattle.jlook.proofs.ChosenLemmas.{object_is_the_same, tree_is_the_same}
use Rattle.jreport.specs.Content.{content_found, content_of}
use Rattle.jreport.specs.Notes.{is_noted, noted as findings}
use Rattle.jreport.specs.TreeText.{AreLinesOf, IsTextFrom, Item, Met, items_of, line_if, line_of, met_after, none_met, object_start, tail_shown, todo_after}
use Rattle.jreport.specs.declared.faults.ProgramFault.{ProgramFault}
use Rattle.jreport.specs.declared.faults.ProgramFault.TheVariants as program
use Rattle.jedge.specs.Commands.{cat_says, content_told, ls_says, read_told}
use Rattle.jedge.specs.Images.{view_refusal}
use Rattle.jedge.specs.Inflating.{CatIsAsThrough, LsIsAsThrough, SaysTheSame}
use Rattle.jedge.specs.Missing.{bytes_missing_at, missing_bytes, missing_in}
use Rattle.jedge.specs.Showing.{Contains, IsListed, Lists, NamesNothing}
use Rattle.jedge.specs.Told.{Told}
use Rattle.jedge.specs.declared.fault.Fault.{Fault}
use Rattle.jedge.specs.declared.fault.Fault.TheVariants as fault
use Rattle.jedge.proofs.MissingLemmas.{gaps_same}

by_test : {P : Type 0} (b : Bool) → (b ≡ true → P) → (b ≡ false → P) → P
by_test true yes_case no_case = yes_case refl
by_test false yes_case no_case = no_case refl

-- ---- kinds

kind_with : (fifo character directory block regular symlink socket : Bool) → Kind
kind_with fifo character directory block regular symlink socket =
    cond fifo kind.Fifo (cond character kind.CharacterDevice (cond directory kind.Directory (cond block kind.BlockDevice
    (cond regular kind.Regular (cond symlink kind.Symlink (cond socket kind.Socket kind.Other))))))

-- what is printed behind the path of all but a symlink
no_target : (a b : List ℕ) (again fifo character directory block regular socket : Bool)
    → tail_shown a (kind_with fifo character directory block regular false socket) again ≡ tail_shown b (kind_with fifo character directory block regular false socket) again
unfolding kind_with
no_target a b again true _ _ _ _ _ = refl
no_target a b again false true _ _ _ _ = refl
no_target a b again false false true _ _ _ = refl
no_target a b again false false false true _ _ = refl
no_target a b again false false false false true _ = refl
no_target a b again false false false false false true = refl
no_target a b again false false false false false false = refl

target_same : (bits : ℕ) (a b : List ℕ) (again : Bool) → ((bits == symlink_bits) ≡ true → a ≡ b) → tail_shown a (kind_of bits) again ≡ tail_shown b (kind_of bits) again
unfolding kind_with
target_same bits a b again same =
    by_test (bits == 10)
    (λ is. ap (λ (target : List ℕ). tail_shown target (kind_of bits) again) (same is))
    (λ isnt.
    ap (λ (link : Bool). tail_shown a (kind_with (bits == 1) (bits == 2) (bits == 4) (bits == 6) (bits == 8) link (bits == 12)) again) isnt
    ∙ no_target a b again (bits == 1) (bits == 2) (bits == 4) (bits == 6) (bits == 8) (bits == 12)
    ∙ sym (ap (λ (link : Bool). tail_shown b (kind_with (bits == 1) (bits == 2) (bits == 4) (bits == 6) (bits == 8) link (bits == 12)) again) isnt))

-- a line with it
tail_in : (start path a b : List ℕ) → a ≡ b → start ++ (path ++ (a ++ 10 ∷ [])) ≡ start ++ (path ++ (b ++ 10 ∷ []))
tail_in start path a b same = ap (λ (tail : List ℕ). start ++ (path ++ (tail ++ 10 ∷ []))) same

-- ---- two trees of one outline

link_sized : (o : Option (ObjectOf (List ℕ))) → has_bits symlink_bits (option_map sized o) ≡ has_bits symlink_bits o
link_sized None = refl
link_sized (Some o) = refl

module _ (s t : State) (outlines : outline s ≡ outline t) where
  sizes_same : (i : ℕ) → option_map sized (object s i) ≡ option_map sized (object t i)
  sizes_same i = sym (object-outline s i) ∙ ap (λ (o : Outline). object o i) outlines ∙ object-outline t i

  there_same : (i : ℕ) → is_there s i ≡ is_there t i
  there_same i = sym (is_there-outline s i) ∙ ap (λ (o : Outline). is_there o i) outlines ∙ is_there-outline t i

  directory_same : (i : ℕ) → is_directory s i ≡ is_directory t i
  directory_same i = sym (is_directory-outline s i) ∙ ap (λ (o : Outline). is_directory o i) outlines ∙ is_directory-outline t i

  link_same : (i : ℕ) → has_bits symlink_bits (object s i) ≡ has_bits symlink_bits (object t i)
  link_same i = sym (link_sized (object s i)) ∙ ap (has_bits symlink_bits) (sizes_same i) ∙ link_sized (object t i)

  find_same : (path : List ℕ) → find s path ≡ find t path
  find_same path = sym (find-outline s path) ∙ ap (λ (o : Outline). find o path) outlines ∙ find-outline t path

  entries_same : (dir : ℕ) → entries_in s dir ≡ entries_in t dir
  entries_same dir = ap (λ (o : Outline). entries_in o dir) outlines

  items_same : (path : List (List ℕ)) (names : List (List ℕ × ℕ)) → items_of s path names ≡ items_of t path names
  items_same path names =
      let there : (λ (i : ℕ). is_there s i) ≡ (λ (i : ℕ). is_there t i) = (λ k i. there_same i k) in
      ap (λ (is : ℕ → Bool). map (λ (e : List ℕ × ℕ). (path ++ e.0 ∷ [], e.1)) (filter (λ (e : List ℕ × ℕ). is e.1) names)) there

  met_same : (met : Met) (i : ℕ) → met_after s met i ≡ met_after t met i
  met_same met i = ap (λ (is : Bool). λ (j : ℕ). met j || (is && i == j)) (directory_same i)

  todo_same : (met : Met) (item : Item) (todo : List Item) → todo_after s met item todo ≡ todo_after t met item todo
  todo_same met item todo =
      ap (λ (is : Bool). cond (is && not (met item.1)) (items_of s item.0 (entries_in s item.1) ++ todo) todo) (directory_same item.1)
      ∙ ap (λ (items : List Item). cond (is_directory t item.1 && not (met item.1)) (items ++ todo) todo)
      (ap (items_of s item.0) (entries_same item.1) ∙ items_same item.0 (entries_in t item.1))

  -- ---- whose symlinks lead alike

  module _ (links : (i : ℕ) → has_bits symlink_bits (object t i) ≡ true → object s i ≡ object t i) where
    one_line : (path : List (List ℕ)) (i : ℕ) (again : Bool) → line_if s path i (option_map shown (object s i)) again ≡ line_if t path i (option_map shown (object t i)) again
    unfolding object_start
    one_line path i again = by (object s i) (object t i) refl refl (sizes_same i)
      where
        by : (o p : Option (ObjectOf (List ℕ))) → object s i ≡ o → object t i ≡ p → option_map sized o ≡ option_map sized p
            → line_if s path i (option_map shown o) again ≡ line_if t path i (option_map shown p) again
        by None None left right same = refl
        by None (Some p) left right same = absurd (none-some _ same)
        by (Some o) None left right same = absurd (none-some _ (sym same))
        by (Some o) (Some p) left right same =
            ap (λ (z : ObjectOf ℕ). line_if s path i (Some (shown_outline z)) again) (same_Some (sized o) (sized p) same)
            ∙ tail_in (object_start i (shown p)) _ (tail_shown (readable s i) (kind_of (type_bits p.mode)) again) (tail_shown (readable t i) (kind_of (type_bits p.mode)) again)
            (target_same (type_bits p.mode) (readable s i) (readable t i) again (λ is. ap bytes_if (links i (ap (has_bits symlink_bits) right ∙ is))))

    line_same : (met : Met) (item : Item) → line_of s met item ≡ line_of t met item
    line_same met item =
        ap (λ (is : Bool). line_if s item.0 item.1 (option_map shown (object s item.1)) (is && met item.1)) (directory_same item.1)
        ∙ one_line item.0 item.1 (is_directory t item.1 && met item.1)

    lines_same : (met : Met) (todo : List Item) (lines : List (List ℕ)) → AreLinesOf s met todo lines → AreLinesOf t met todo lines
    lines_same met [] lines are = are
    lines_same met (item ∷ todo) [] are = are
    lines_same met (item ∷ todo) (line ∷ lines) (first, rest) = (
      first ∙ line_same met item,
      lines_same (met_after t met item.1) (todo_after t met item todo) lines
          (subst (λ (m : Met). AreLinesOf s m (todo_after t met item todo) lines) (met_same met item.1)
          (subst (λ (items : List Item). AreLinesOf s (met_after s met item.1) items lines) (todo_same met item todo) rest)),
    )

    text_same : (item : Item) (text : List ℕ) → IsTextFrom s item text → IsTextFrom t item text
    text_same item text (lines, are, is) = (lines, lines_same none_met (item ∷ []) lines are, is)

    listed_same : (part : Option (List ℕ)) (text : List ℕ) → IsListed s part text → IsListed t part text
    listed_same None text is = text_same ([], 1) text is
    listed_same (Some path) text (item, (names, found), is) = (item, (names, sym (find_same path) ∙ found), text_same item text is)

    nothing_same : (part : Option (List ℕ)) (why : ProgramFault) → NamesNothing s part why → NamesNothing t part why
    nothing_same None why is = is
    nothing_same (Some path) why (reason, told, found) = (reason, told, sym (find_same path) ∙ found)

    lists_same : (part : Option (List ℕ)) (told : Told) (text : List ℕ) (result : Result Told Fault) → Lists s part told text result → Lists t part told text result
    lists_same part told text (Ok answer) (is, same) = (listed_same part text is, same)
    lists_same part told text (Err (fault.Refused why)) (is, none) = (nothing_same part why is, none)
    lists_same part told text (Err fault.Output) (whole, is, front) = (whole, listed_same part whole is, front)
    lists_same part told text (Err fault.OutOfMemory) (whole, is, front) = (whole, listed_same part whole is, front)
    lists_same part told text (Err (fault.File file)) is = absurd is
    lists_same part told text (Err (fault.NotRead file)) is = absurd is
    lists_same part told text (Err (fault.NoNodes of others)) is = absurd is
    lists_same part told text (Err (fault.NoSpace folder)) is = absurd is
    lists_same part told text (Err (fault.Findings of findings)) is = absurd is

  -- ---- of which the object that a path names is the same

  same_content : (path : List ℕ) → ((i : ℕ) → object_by_path path t i ≡ true → object s i ≡ object t i) → content_of s path ≡ content_of t path
  unfolding content_of
  same_content path wanted = ap (content_found s) (find_same path) ∙ by (find t path) wanted
    where
      by : (found : Result ℕ FindFault) → ((i : ℕ) → is_that_object found i ≡ true → object s i ≡ object t i) → content_found s found ≡ content_found t found
      by (Ok i) wanted =
          ap (λ (o : Option (ObjectOf (List ℕ))). cond (has_bits regular_bits o) (Ok (bytes_if o)) (Err program.NotRegular))
          (wanted i (sym (unsigned_tied i i) ∙ (eq_by_cmp_equiv nat_cmp_total).refl i))
      by (Err why) wanted = refl

-- ---- two mounts

told_same : (e : Endian) (size : ℕ) (wants : ℕ → Bool) (full looked : Mount) (others : Option ℕ) → ShowsSame wants full looked
    → read_told e size others looked ≡ read_told e size others full
told_same e size wants full looked others same =
    ap (λ (found : List Finding). read_told e size others (of looked.image found)) same.findings
    ∙ ap (λ (image : List ℕ). read_told e size others (of image full.findings)) same.image
  where
    of : List ℕ → List Finding → Mount
    of image found = record { image = image; state = full.state; tops = full.tops; findings = found; read_only = full.read_only }

ls_same : (e : Endian) (size : ℕ) (part : Option (List ℕ)) (others : Option ℕ) (full looked : Mount) → ShowsSame (symlinks_in full.state) full looked
    → SaysTheSame (ls_says e size part others) full (Ok looked)
ls_same e size part others full looked same text result =
    let told : read_told e size others looked ≡ read_told e size others full = told_same e size _ full looked others same in (
      λ says. lists_same looked.state full.state same.outline_is same.wanted part (read_told e size others full) text result
          (subst (λ (told : Told). Lists looked.state part told text result) told says),
      λ says. lists_same full.state looked.state (sym same.outline_is)
          (λ i is. sym (same.wanted i (sym (link_same looked.state full.state same.outline_is i) ∙ is))) part (read_told e size others looked) text result
          (subst (λ (told : Told). Lists full.state part told text result) (sym told) says),
    )

-- the same bytes are missing of the file that a path leads to
missing_by : (e : Endian) (size : ℕ) (full looked : Mount) (found : Result ℕ FindFault) → looked.image ≡ full.image
    → ((i : ℕ) → is_that_object found i ≡ true → object looked.state i ≡ object full.state i) → bytes_missing_at e size looked found ≡ bytes_missing_at e size full found
missing_by e size full looked (Ok i) image wanted =
    ap missing_in (gaps_same e size i full looked image (wanted i (sym (unsigned_tied i i) ∙ (eq_by_cmp_equiv nat_cmp_total).refl i)))
missing_by e size full looked (Err why) image wanted = refl

missing_same : (e : Endian) (size : ℕ) (path : List ℕ) (full looked : Mount) → ShowsSame (object_by_path path full.state) full looked
    → missing_bytes e size path looked ≡ missing_bytes e size path full
missing_same e size path full looked same =
    ap (λ (found : List Finding). cond (count_by (λ (f : Finding). is_noted f.kind) found == 0) 0 (bytes_missing_at e size looked (find looked.state path))) same.findings
    ∙ ap (λ (n : ℕ). cond (findings full == 0) 0 n)
    (ap (bytes_missing_at e size looked) (find_same looked.state full.state same.outline_is path) ∙ missing_by e size full looked (find full.state path) same.image same.wanted)

cat_same : (e : Endian) (size : ℕ) (strict : Bool) (path : List ℕ) (others : Option ℕ) (full looked : Mount) → ShowsSame (object_by_path path full.state) full looked
    → SaysTheSame (cat_says e size strict path others) full (Ok looked)
cat_same e size strict path others full looked same text result =
    let contents : content_of looked.state path ≡ content_of full.state path = same_content looked.state full.state same.outline_is path same.wanted in
    let by : Mount → Told = λ m. content_told strict (missing_bytes e size path m) (read_told e size others m) in
    let told : by looked ≡ by full =
    ap (λ (n : ℕ). content_told strict n (read_told e size others looked)) (missing_same e size path full looked same)
    ∙ ap (content_told strict (missing_bytes e size path full)) (told_same e size _ full looked others same) in (
      λ says. subst (λ (c : Result (List ℕ) ProgramFault). Contains c (by full) text result) contents
          (subst (λ (answer : Told). Contains (content_of looked.state path) answer text result) told says),
      λ says. subst (λ (c : Result (List ℕ) ProgramFault). Contains c (by looked) text result) (sym contents)
          (subst (λ (answer : Told). Contains (content_of full.state path) answer text result) (sym told) says),
    )

-- ---- the laws

refused_same : (says : Mount → List ℕ → Result Told Fault → Type 0) (full : Mount) (why : ProgramFault) (refused : ViewFault) → why ≡ view_refusal refused
    → refused ≡ view.OutOfMemory → SaysTheSame says full (Err (fault.Refused why))
refused_same says full why refused is out = ap (λ (f : ProgramFault). fault.Refused f) (is ∙ ap view_refusal out)

pub ls_is_as_through : LsIsAsThrough
ls_is_as_through order block part others e size image full (Ok looked) through chosen = ls_same order block part others full looked (tree_is_the_same e size image full (Ok looked) through chosen)
ls_is_as_through order block part others e size image full (Err (fault.Refused why)) through (refused, is, chosen) =
    refused_same (ls_says order block part others) full why refused is (tree_is_the_same e size image full (Err refused) through chosen)
ls_is_as_through order block part others e size image full (Err (fault.File file)) through chosen = absurd chosen
ls_is_as_through order block part others e size image full (Err (fault.NotRead file)) through chosen = absurd chosen
ls_is_as_through order block part others e size image full (Err (fault.NoNodes of count)) through chosen = absurd chosen
ls_is_as_through order block part others e size image full (Err (fault.NoSpace folder)) through chosen = absurd chosen
ls_is_as_through order block part others e size image full (Err (fault.Findings of findings)) through chosen = absurd chosen
ls_is_as_through order block part others e size image full (Err fault.Output) through chosen = absurd chosen
ls_is_as_through order block part others e size image full (Err fault.OutOfMemory) through chosen = absurd chosen

pub cat_is_as_through : CatIsAsThrough
cat_is_as_through order block strict path others e size image full (Ok looked) through chosen = cat_same order block strict path others full looked (object_is_the_same path e size image full (Ok looked) through chosen)
cat_is_as_through order block strict path others e size image full (Err (fault.Refused why)) through (refused, is, chosen) =
    refused_same (cat_says order block strict path others) full why refused is (object_is_the_same path e size image full (Err refused) through chosen)
cat_is_as_through order block strict path others e size image full (Err (fault.File file)) through chosen = absurd chosen
cat_is_as_through order block strict path others e size image full (Err (fault.NotRead file)) through chosen = absurd chosen
cat_is_as_through order block strict path others e size image full (Err (fault.NoNodes of count)) through chosen = absurd chosen
cat_is_as_through order block strict path others e size image full (Err (fault.NoSpace folder)) through chosen = absurd chosen
cat_is_as_through order block strict path others e size image full (Err (fault.Findings of findings)) through chosen = absurd chosen
cat_is_as_through order block strict path others e size image full (Err fault.Output) through chosen = absurd chosen
cat_is_as_through order block strict path others e size image full (Err fault.OutOfMemory) through chosen = absurd chosen
