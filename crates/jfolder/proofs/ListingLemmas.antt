-- The text of a tree, read as the actions that make it.
use Rattle.std.proofs.Common.{◌≡◌, ℕ, ◌^◌, ◌<◌, ◌≤◌, ◌==◌, ◌&&◌, Bool, true, false, cond, List, [], ◌∷◌, ◌++◌, length, sym, ap, ◌∙◌, subst, refl, arith, codes, Option, Some}
use Rattle.std.specs.List.{All, flat_map}
use Rattle.std.specs.Str.{IsUtf8}
use Rattle.std.specs.String.{string_bytes}
use Rattle.std.specs.Fmt.{decimal}
use Rattle.std.proofs.lemmas.Grind.{flat_map-append}
use Rattle.std.proofs.lemmas.List.Elements.{All-head, All-tail}
use Rattle.std.proofs.lemmas.Bool.Decides.{nat_tests}
use Rattle.std.proofs.lemmas.Str.{IsUtf8-string_bytes, is_utf8-from_IsUtf8}
use Rattle.jline.specs.Words.{octal, word_of}
use Rattle.jsteps.specs.declared.device.DeviceKind.{DeviceKind}
use Rattle.jsteps.specs.declared.op.Op.TheVariants as op
use Rattle.jline.specs.Read.{◌>>=◌}
use Rattle.jlisting.specs.Listing.{lines_in, lines_of, six_operands, statement_of_words, operation, owner_word, number}
use Rattle.jlisting.specs.declared.line.Action.{Action}
use Rattle.jlisting.specs.declared.line.Action.TheVariants as action
use Rattle.jlisting.specs.declared.statement.Statement.TheVariants as kind
use Rattle.jfolder.specs.Text.{device_letter, is_link, item_words, items_words, words_line, lines_text, listing_text, object_words, owner_words, root_words, settings_of_root, settings_with, time_words}
use Rattle.jfolder.specs.Actions.{AttributesFit, IsRooted, ItemFits, WhatFits, actions_of, item_actions, object_actions}
use Rattle.jfolder.specs.Laws.{ListingIsReadBack}
use Rattle.jfolder.specs.declared.settings.Settings.{Settings}
use Rattle.jfolder.specs.declared.tree.Attributes.{Attributes}
use Rattle.jfolder.specs.declared.tree.Item.{Item}
use Rattle.jfolder.specs.declared.tree.What.{What}
use Rattle.jfolder.specs.declared.tree.What.TheVariants as what
use Rattle.jfolder.proofs.SeenLemmas.{IsPlain, text_bytes}
use Rattle.jfolder.proofs.WordLemmas.{mode_read_back, name_read_back, number_read_back, owner_read_back}
use Rattle.jfolder.proofs.LineLemmas.{Reads, reads_nothing}
use Rattle.jfolder.proofs.ReadLemmas.{IsText, Set, decimal_plain, device_means, device_plain, fifo_means, file_means, lines_append, link_means, mkdir_means, mode_plain, none_plain, owner_means, path_plain, socket_means, symlink_means, then_action, then_settings, time_means, verb_plain, with}

four_plain : (v w x y : List ℕ) → IsPlain v → IsPlain w → IsPlain x → IsPlain y → All IsPlain (v ∷ w ∷ x ∷ y ∷ [])
four_plain v w x y a b c d = with v (w ∷ x ∷ y ∷ []) a (with w (x ∷ y ∷ []) b (with x (y ∷ []) c (with y [] d none_plain)))

-- ---- an object, where its settings are set

abbrev set_of : Attributes → Set
set_of a = record { time = a.time; uid = a.uid; gid = a.gid }

rooted_some : (path : List ℕ) → IsRooted path → 0 < length path
rooted_some [] is = cc
rooted_some (b ∷ bs) is = omega arith

moded_plain : (verb : List ℕ) (mode : ℕ) (path : List ℕ) → IsPlain verb → mode ≤ 0o7777 → All IsPlain (verb ∷ octal mode ∷ word_of path ∷ [])
moded_plain verb mode path plain fits =
    with verb (octal mode ∷ word_of path ∷ []) plain (with (octal mode) (word_of path ∷ []) (mode_plain mode fits) (with (word_of path) [] (path_plain path) none_plain))

paths_plain : (verb first second : List ℕ) → IsPlain verb → All IsPlain (verb ∷ word_of first ∷ word_of second ∷ [])
paths_plain verb first second plain =
    with verb (word_of first ∷ word_of second ∷ []) plain (with (word_of first) (word_of second ∷ []) (path_plain first) (with (word_of second) [] (path_plain second) none_plain))

reads_directory : (path : List ℕ) (a : Attributes) (rest : List ℕ) (actions : List Action) → AttributesFit a → IsText path → Reads (set_of a) rest actions
    → Reads (set_of a) (lines_text (object_words path a what.Directory) ++ rest) (object_actions path a what.Directory ++ actions)
reads_directory path a rest actions fit is next =
    then_action (set_of a) 109 (codes "kdir") (octal a.mode ∷ word_of path ∷ []) [] rest (action.Op (op.Mkdir a.time path a.mode a.uid a.gid)) actions refl
    (moded_plain (codes "mkdir") a.mode path (verb_plain (codes "mkdir") refl) fit.mode) (mkdir_means (set_of a) a.mode path fit.mode is) next

reads_device : (path : List ℕ) (a : Attributes) (device : DeviceKind) (major minor : ℕ) (rest : List ℕ) (actions : List Action) → AttributesFit a → major ≤ 4095 → minor ≤ 1048575 → IsText path
    → Reads (set_of a) rest actions → Reads (set_of a) (lines_text (object_words path a (what.Device device major minor)) ++ rest) (object_actions path a (what.Device device major minor) ++ actions)
reads_device path a device major minor rest actions fit low small is next =
    let numbers = with (decimal major) (decimal minor ∷ word_of path ∷ []) (decimal_plain major (omega arith))
    (with (decimal minor) (word_of path ∷ []) (decimal_plain minor (omega arith)) (with (word_of path) [] (path_plain path) none_plain)) in
    then_action (set_of a) 100 (codes "evice") (device_letter device ∷ octal a.mode ∷ decimal major ∷ decimal minor ∷ word_of path ∷ []) [] rest (action.Device a.time path device a.mode a.uid a.gid major minor) actions refl
    (with (codes "device") (device_letter device ∷ octal a.mode ∷ decimal major ∷ decimal minor ∷ word_of path ∷ []) (verb_plain (codes "device") refl)
    (with (device_letter device) (octal a.mode ∷ decimal major ∷ decimal minor ∷ word_of path ∷ []) (device_plain device)
    (with (octal a.mode) (decimal major ∷ decimal minor ∷ word_of path ∷ []) (mode_plain a.mode fit.mode) numbers)))
    (device_means (set_of a) device a.mode major minor path fit.mode low small is) next

reads_fifo : (path : List ℕ) (a : Attributes) (rest : List ℕ) (actions : List Action) → AttributesFit a → IsText path → Reads (set_of a) rest actions
    → Reads (set_of a) (lines_text (object_words path a what.Fifo) ++ rest) (object_actions path a what.Fifo ++ actions)
reads_fifo path a rest actions fit is next =
    then_action (set_of a) 102 (codes "ifo") (octal a.mode ∷ word_of path ∷ []) [] rest (action.Op (op.Fifo a.time path a.mode a.uid a.gid)) actions refl
    (moded_plain (codes "fifo") a.mode path (verb_plain (codes "fifo") refl) fit.mode) (fifo_means (set_of a) a.mode path fit.mode is) next

reads_socket : (path : List ℕ) (a : Attributes) (rest : List ℕ) (actions : List Action) → AttributesFit a → IsText path → Reads (set_of a) rest actions
    → Reads (set_of a) (lines_text (object_words path a what.Socket) ++ rest) (object_actions path a what.Socket ++ actions)
reads_socket path a rest actions fit is next =
    then_action (set_of a) 115 (codes "ocket") (octal a.mode ∷ word_of path ∷ []) [] rest (action.Op (op.Socket a.time path a.mode a.uid a.gid)) actions refl
    (moded_plain (codes "socket") a.mode path (verb_plain (codes "socket") refl) fit.mode) (socket_means (set_of a) a.mode path fit.mode is) next

reads_file : (s : Set) (mode : ℕ) (path file rest : List ℕ) (actions : List Action) → mode ≤ 0o7777 → IsText path → IsText file → IsUtf8 file → Reads s rest actions
    → Reads s (lines_text ((codes "file" ∷ octal mode ∷ word_of path ∷ word_of file ∷ []) ∷ []) ++ rest) (action.File s.time path mode s.uid s.gid file ∷ actions)
reads_file s mode path file rest actions fits is named text next =
    then_action s 102 (codes "ile") (octal mode ∷ word_of path ∷ word_of file ∷ []) [] rest (action.File s.time path mode s.uid s.gid file) actions refl
    (four_plain (codes "file") (octal mode) (word_of path) (word_of file) (verb_plain (codes "file") refl) (mode_plain mode fits) (path_plain path) (path_plain file))
    (file_means s mode path file fits is (name_read_back file named.bytes_fit named.some (is_utf8-from_IsUtf8 file text))) next

reads_symlink : (s : Set) (path target rest : List ℕ) (actions : List Action) → IsText path → IsText target → Reads s rest actions
    → Reads s (lines_text ((codes "symlink" ∷ word_of path ∷ word_of target ∷ []) ∷ []) ++ rest) (action.Op (op.Symlink s.time path target s.uid s.gid) ∷ actions)
reads_symlink s path target rest actions is to next =
    then_action s 115 (codes "ymlink") (word_of path ∷ word_of target ∷ []) [] rest (action.Op (op.Symlink s.time path target s.uid s.gid)) actions refl
    (paths_plain (codes "symlink") path target (verb_plain (codes "symlink") refl)) (symlink_means s path target is to) next

reads_link : (s : Set) (first path rest : List ℕ) (actions : List Action) → IsText first → IsText path → Reads s rest actions
    → Reads s (lines_text ((codes "link" ∷ word_of first ∷ word_of path ∷ []) ∷ []) ++ rest) (action.Op (op.Link s.time first path) ∷ actions)
reads_link s first path rest actions is to next =
    then_action s 108 (codes "ink") (word_of first ∷ word_of path ∷ []) [] rest (action.Op (op.Link s.time first path)) actions refl
    (paths_plain (codes "link") first path (verb_plain (codes "link") refl)) (link_means s first path is to) next

-- ---- what is set

time_set : (s : Set) (t : ℕ) (rest : List ℕ) (actions : List Action) → t < 2 ^ 32 → Reads (record { time = t; uid = s.uid; gid = s.gid }) rest actions
    → Reads s (lines_text (time_words s.time t) ++ rest) actions
time_set s t rest actions small next = by (t == s.time) refl
  where
    by : (same : Bool) → (t == s.time) ≡ same → Reads s (lines_text (cond same [] ((codes "time" ∷ decimal t ∷ []) ∷ [])) ++ rest) actions
    by true is = subst (λ (n : ℕ). Reads (record { time = n; uid = s.uid; gid = s.gid }) rest actions) (grind (arith, nat_tests)) next
    by false is =
        then_settings s (record { time = t; uid = s.uid; gid = s.gid }) 116 (codes "ime") (decimal t ∷ []) [] rest actions refl
        (with (codes "time") (decimal t ∷ []) (verb_plain (codes "time") refl) (with (decimal t) [] (decimal_plain t (omega arith)) none_plain))
        (time_means s t small) next

owner_set : (s : Settings) (a : Attributes) (rest : List ℕ) (actions : List Action) → AttributesFit a → Reads (set_of a) rest actions
    → Reads (record { time = a.time; uid = s.uid; gid = s.gid }) (lines_text (owner_words s a) ++ rest) actions
owner_set s a rest actions fit next = by (a.uid == s.uid) (a.gid == s.gid) refl refl
  where
    put : Reads (record { time = a.time; uid = s.uid; gid = s.gid }) (lines_text ((codes "owner" ∷ decimal a.uid ∷ decimal a.gid ∷ []) ∷ []) ++ rest) actions
    put = then_settings (record { time = a.time; uid = s.uid; gid = s.gid }) (set_of a) 111 (codes "wner") (decimal a.uid ∷ decimal a.gid ∷ []) [] rest actions refl
        (with (codes "owner") (decimal a.uid ∷ decimal a.gid ∷ []) (verb_plain (codes "owner") refl)
        (with (decimal a.uid) (decimal a.gid ∷ []) (decimal_plain a.uid (omega (arith, fit.uid))) (with (decimal a.gid) [] (decimal_plain a.gid (omega (arith, fit.gid))) none_plain)))
        (owner_means (record { time = a.time; uid = s.uid; gid = s.gid }) a.uid a.gid fit.uid fit.gid) next

    by : (u g : Bool) → (a.uid == s.uid) ≡ u → (a.gid == s.gid) ≡ g
        → Reads (record { time = a.time; uid = s.uid; gid = s.gid }) (lines_text (cond (u && g) [] ((codes "owner" ∷ decimal a.uid ∷ decimal a.gid ∷ []) ∷ [])) ++ rest) actions
    by true true is also =
        let one : a.uid ≡ s.uid = grind (arith, nat_tests) in
        let two : a.gid ≡ s.gid = grind (arith, nat_tests) in
        subst (λ (n : ℕ). Reads (record { time = a.time; uid = n; gid = s.gid }) rest actions) one
        (subst (λ (n : ℕ). Reads (record { time = a.time; uid = a.uid; gid = n }) rest actions) two next)
    by true false is also = put
    by false g is also = put

abbrev given : Settings → Set
given s = record { time = s.time; uid = s.uid; gid = s.gid }

-- ---- items

utf8_text : (bytes : List ℕ) → IsUtf8 bytes → 0 < length bytes → IsText bytes
utf8_text bytes is some = record { bytes_fit = text_bytes bytes is; some = some }

reads_owned : (s : Settings) (a : Attributes) (words : List (List (List ℕ))) (rest : List ℕ) (actions : List Action) → AttributesFit a
    → Reads (set_of a) (lines_text words ++ rest) actions
    → Reads (given s) (lines_text ((time_words s.time a.time ++ owner_words s a) ++ words) ++ rest) actions
reads_owned s a words rest actions fit next =
    subst (λ (l : List ℕ). Reads (given s) l actions)
    (sym (lines_append (time_words s.time a.time ++ owner_words s a) words rest ∙ lines_append (time_words s.time a.time) (owner_words s a) (lines_text words ++ rest)))
    (time_set (given s) a.time (lines_text (owner_words s a) ++ (lines_text words ++ rest)) actions fit.time
    (owner_set s a (lines_text words ++ rest) actions fit next))

reads_item : (s : Settings) (i : Item) (rest : List ℕ) (actions : List Action) → ItemFits i → Reads (given (settings_with s i)) rest actions
    → Reads (given s) (lines_text (item_words s i) ++ rest) (item_actions i ++ actions)
reads_item s i rest actions fits next = by i.what fits.what next
  where
    path : IsText (string_bytes i.path)
    path = utf8_text (string_bytes i.path) (IsUtf8-string_bytes i.path) (rooted_some (string_bytes i.path) fits.path)

    by : (w : What) → WhatFits w
        → Reads (record { time = i.attributes.time; uid = cond (is_link w) s.uid i.attributes.uid; gid = cond (is_link w) s.gid i.attributes.gid }) rest actions
        → Reads (given s) (lines_text ((time_words s.time i.attributes.time ++ cond (is_link w) [] (owner_words s i.attributes)) ++ object_words (string_bytes i.path) i.attributes w) ++ rest)
        (object_actions (string_bytes i.path) i.attributes w ++ actions)
    by what.Directory fit next =
        reads_owned s i.attributes (object_words (string_bytes i.path) i.attributes what.Directory) rest _ fits.attributes
        (reads_directory (string_bytes i.path) i.attributes rest actions fits.attributes path next)
    by (what.Regular file) fit next =
        reads_owned s i.attributes (object_words (string_bytes i.path) i.attributes (what.Regular file)) rest _ fits.attributes
        (reads_file (set_of i.attributes) i.attributes.mode (string_bytes i.path) (string_bytes file) rest actions fits.attributes.mode path
        (utf8_text (string_bytes file) (IsUtf8-string_bytes file) fit) (IsUtf8-string_bytes file) next)
    by (what.Device device major minor) fit next =
        reads_owned s i.attributes (object_words (string_bytes i.path) i.attributes (what.Device device major minor)) rest _ fits.attributes
        (reads_device (string_bytes i.path) i.attributes device major minor rest actions fits.attributes fit.0 fit.1 path next)
    by what.Fifo fit next =
        reads_owned s i.attributes (object_words (string_bytes i.path) i.attributes what.Fifo) rest _ fits.attributes
        (reads_fifo (string_bytes i.path) i.attributes rest actions fits.attributes path next)
    by what.Socket fit next =
        reads_owned s i.attributes (object_words (string_bytes i.path) i.attributes what.Socket) rest _ fits.attributes
        (reads_socket (string_bytes i.path) i.attributes rest actions fits.attributes path next)
    by (what.Symlink target) fit next =
        reads_owned s i.attributes (object_words (string_bytes i.path) i.attributes (what.Symlink target)) rest _ fits.attributes
        (reads_symlink (set_of i.attributes) (string_bytes i.path) (string_bytes target) rest actions path (utf8_text (string_bytes target) (IsUtf8-string_bytes target) fit) next)
    by (what.Link first) fit next =
        let words = object_words (string_bytes i.path) i.attributes (what.Link first) in
        let set : Set = record { time = i.attributes.time; uid = s.uid; gid = s.gid } in
        subst (λ (l : List ℕ). Reads (given s) l (object_actions (string_bytes i.path) i.attributes (what.Link first) ++ actions))
        (sym (lines_append (time_words s.time i.attributes.time ++ []) words rest ∙ lines_append (time_words s.time i.attributes.time) [] (lines_text words ++ rest)))
        (time_set (given s) i.attributes.time (lines_text words ++ rest) _ fits.attributes.time
        (reads_link set (string_bytes first) (string_bytes i.path) rest actions (utf8_text (string_bytes first) (IsUtf8-string_bytes first) (rooted_some (string_bytes first) fit)) path next))

reads_items : (s : Settings) (items : List Item) → All ItemFits items → Reads (given s) (lines_text (items_words s items)) (flat_map item_actions items)
reads_items s [] all = reads_nothing (given s)
reads_items s (i ∷ items) all =
    let more = reads_items (settings_with s i) items (All-tail ItemFits i items all) in
    let one = reads_item s i (lines_text (items_words (settings_with s i) items)) (flat_map item_actions items) (All-head ItemFits i items all) more in
    subst (λ (l : List ℕ). Reads (given s) l (item_actions i ++ flat_map item_actions items))
    (sym (flat_map-append words_line (item_words s i) (items_words (settings_with s i) items))) one

-- ---- the root

attr_means : (s : Set) (a : Attributes) → AttributesFit a
    → statement_of_words s (codes "attr" ∷ octal a.mode ∷ decimal a.uid ∷ decimal a.gid ∷ decimal a.time ∷ decimal a.time ∷ codes "/" ∷ [])
    ≡ Some (kind.Action (action.Op (op.SetAttributes s.time (47 ∷ []) (record { mode = a.mode; uid = a.uid; gid = a.gid; atime = a.time; mtime = a.time }))))
unfolding six_operands
attr_means s a fit =
    ap (λ (o : Option ℕ). o >>= λ mode. owner_word (decimal a.uid) >>= λ uid. owner_word (decimal a.gid) >>= λ gid. number (decimal a.time) >>= λ atime. number (decimal a.time) >>= λ mtime.
    operation (op.SetAttributes s.time (47 ∷ []) (record { mode = mode; uid = uid; gid = gid; atime = atime; mtime = mtime }))) (mode_read_back a.mode fit.mode)
    ∙ ap (λ (o : Option ℕ). o >>= λ uid. owner_word (decimal a.gid) >>= λ gid. number (decimal a.time) >>= λ atime. number (decimal a.time) >>= λ mtime.
    operation (op.SetAttributes s.time (47 ∷ []) (record { mode = a.mode; uid = uid; gid = gid; atime = atime; mtime = mtime }))) (owner_read_back a.uid fit.uid)
    ∙ ap (λ (o : Option ℕ). o >>= λ gid. number (decimal a.time) >>= λ atime. number (decimal a.time) >>= λ mtime.
    operation (op.SetAttributes s.time (47 ∷ []) (record { mode = a.mode; uid = a.uid; gid = gid; atime = atime; mtime = mtime }))) (owner_read_back a.gid fit.gid)
    ∙ ap (λ (o : Option ℕ). o >>= λ time. o >>= λ mtime.
    operation (op.SetAttributes s.time (47 ∷ []) (record { mode = a.mode; uid = a.uid; gid = a.gid; atime = time; mtime = mtime }))) (number_read_back a.time fit.time)

attr_plain : (a : Attributes) → AttributesFit a
    → All IsPlain (codes "attr" ∷ octal a.mode ∷ decimal a.uid ∷ decimal a.gid ∷ decimal a.time ∷ decimal a.time ∷ codes "/" ∷ [])
attr_plain a fit =
    let time = decimal_plain a.time (omega (arith, fit.time)) in
    let slash = with (codes "/") [] (verb_plain (codes "/") refl) none_plain in
    let last = with (decimal a.time) (codes "/" ∷ []) time slash in
    let times = with (decimal a.time) (decimal a.time ∷ codes "/" ∷ []) time last in
    let group = with (decimal a.gid) (decimal a.time ∷ decimal a.time ∷ codes "/" ∷ []) (decimal_plain a.gid (omega (arith, fit.gid))) times in
    let owners = with (decimal a.uid) (decimal a.gid ∷ decimal a.time ∷ decimal a.time ∷ codes "/" ∷ []) (decimal_plain a.uid (omega (arith, fit.uid))) group in
    let mode = with (octal a.mode) (decimal a.uid ∷ decimal a.gid ∷ decimal a.time ∷ decimal a.time ∷ codes "/" ∷ []) (mode_plain a.mode fit.mode) owners in
    with (codes "attr") (octal a.mode ∷ decimal a.uid ∷ decimal a.gid ∷ decimal a.time ∷ decimal a.time ∷ codes "/" ∷ []) (verb_plain (codes "attr") refl) mode

reads_root : (a : Attributes) (rest : List ℕ) (actions : List Action) → AttributesFit a → Reads (record { time = a.time; uid = 0; gid = 0 }) rest actions
    → Reads (record { time = 0; uid = 0; gid = 0 }) (lines_text (root_words a) ++ rest)
    (action.Op (op.SetAttributes a.time (47 ∷ []) (record { mode = a.mode; uid = a.uid; gid = a.gid; atime = a.time; mtime = a.time })) ∷ actions)
reads_root a rest actions fit next =
    let line = codes "attr" ∷ octal a.mode ∷ decimal a.uid ∷ decimal a.gid ∷ decimal a.time ∷ decimal a.time ∷ codes "/" ∷ [] in
    let attributes : Action = action.Op (op.SetAttributes a.time (47 ∷ []) (record { mode = a.mode; uid = a.uid; gid = a.gid; atime = a.time; mtime = a.time })) in
    subst (λ (l : List ℕ). Reads (record { time = 0; uid = 0; gid = 0 }) l (attributes ∷ actions)) (sym (lines_append (time_words 0 a.time) (line ∷ []) rest))
    (time_set (record { time = 0; uid = 0; gid = 0 }) a.time (lines_text (line ∷ []) ++ rest) (attributes ∷ actions) fit.time
    (then_action (record { time = a.time; uid = 0; gid = 0 }) 97 (codes "ttr")
    (octal a.mode ∷ decimal a.uid ∷ decimal a.gid ∷ decimal a.time ∷ decimal a.time ∷ codes "/" ∷ []) [] rest attributes actions refl
    (attr_plain a fit) (attr_means (record { time = a.time; uid = 0; gid = 0 }) a fit) next))

pub listing_is_read_back : ListingIsReadBack
unfolding listing_text lines_of actions_of
listing_is_read_back root items fits =
    let all = reads_root root (lines_text (items_words (settings_of_root root) items)) (flat_map item_actions items) fits.root_fits
    (reads_items (settings_of_root root) items fits.items_fit) 1 in
    (all.0, ap (λ (l : List ℕ). lines_in 1 (record { time = 0; uid = 0; gid = 0 }) l) (flat_map-append words_line (root_words root) (items_words (settings_of_root root) items)) ∙ all.1, all.2)
