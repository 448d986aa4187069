-- The lines of a tree, read as its actions.
use Rattle.std.proofs.Common.{◌≡◌, ℕ, ◌^◌, ◌<◌, ◌≤◌, ◌==◌, ◌&&◌, Bool, true, false, nat_le, List, [], ◌∷◌, ◌++◌, length, sym, ap, ◌∙◌, subst, refl, arith, append_assoc, codes, Option, Some}
use Rattle.std.specs.List.{All, list_all}
use Rattle.std.specs.Fmt.{decimal}
use Rattle.std.proofs.lemmas.Grind.{flat_map-append}
use Rattle.std.proofs.lemmas.List.Elements.{All-nil, All-cons}
use Rattle.std.proofs.lemmas.Bool.Decides.{nat_tests}
use Rattle.jline.specs.Words.{octal, word_of}
use Rattle.jsteps.specs.declared.device.DeviceKind.{DeviceKind}
use Rattle.jsteps.specs.declared.device.DeviceKind.TheVariants.{Character, Block}
use Rattle.jsteps.specs.declared.op.Op.TheVariants as op
use Rattle.jline.specs.Read.{◌>>=◌}
use Rattle.jlisting.specs.Listing.{five_operands, major_word, minor_word, one_operand, operation, owner_word, statement_of_words, three_operands, two_operands}
use Rattle.jlisting.specs.Words.{device_kind_of, escaped_name_of, mode_of, text_of}
use Rattle.jlisting.specs.declared.line.Action.{Action}
use Rattle.jlisting.specs.declared.line.Action.TheVariants as action
use Rattle.jlisting.specs.declared.statement.Settings as theirs
use Rattle.jlisting.specs.declared.statement.Statement.TheVariants as kind
use Rattle.jfolder.specs.Text.{device_letter, words_line, lines_text}
use Rattle.jfolder.proofs.SeenLemmas.{IsByte, IsPlain, IsSeen, Seen, decimal_seen, octal_seen, seen_plain, word_of_seen}
use Rattle.jfolder.proofs.WordLemmas.{major_read_back, minor_read_back, mode_read_back, number_read_back, owner_read_back, text_read_back}
use Rattle.jfolder.proofs.LineLemmas.{Reads, reads_action, reads_settings}

abbrev pub Set : Type 0
Set = theirs.Settings

-- ---- words

tested : (w : List ℕ) → list_all (λ b. nat_le 33 b) w ≡ true → Seen w
tested [] is = All-nil IsSeen
tested (b ∷ bs) is =
    let both = split (nat_le 33 b) (list_all (λ b. nat_le 33 b) bs) is in
    let seen : IsSeen b = grind (arith, nat_tests, both.0) in
    All-cons IsSeen b bs seen (tested bs both.1)
  where
    split : (x y : Bool) → (x && y) ≡ true → (x ≡ true) × (y ≡ true)
    split true y e = (refl, e)
    split false y e = cc

pub verb_plain : (w : List ℕ) → list_all (λ b. nat_le 33 b) w ≡ true → IsPlain w
verb_plain w is = seen_plain w (tested w is)

pub none_plain : All IsPlain []
none_plain = All-nil IsPlain

pub with : (w : List ℕ) (ws : List (List ℕ)) → IsPlain w → All IsPlain ws → All IsPlain (w ∷ ws)
with w ws here more = All-cons IsPlain w ws here more

pub decimal_plain : (n : ℕ) → n < 2 ^ 64 → IsPlain (decimal n)
decimal_plain n small = seen_plain (decimal n) (decimal_seen n small)

pub path_plain : (bytes : List ℕ) → IsPlain (word_of bytes)
path_plain bytes = seen_plain (word_of bytes) (word_of_seen bytes)

pub mode_plain : (n : ℕ) → n ≤ 0o7777 → IsPlain (octal n)
mode_plain n fits = seen_plain (octal n) (octal_seen n (omega arith))

-- bytes of a path or a target: some, and each a byte
pub record IsText (bytes : List ℕ) : Type 0 where
  pub bytes_fit : All IsByte bytes
  pub some : 0 < length bytes

text_read : (bytes : List ℕ) → IsText bytes → text_of (word_of bytes) ≡ Some bytes
text_read bytes is = text_read_back bytes is.bytes_fit is.some

-- ---- one line more

pub lines_cons : (words : List (List ℕ)) (more : List (List (List ℕ))) (rest : List ℕ) → lines_text (words ∷ more) ++ rest ≡ words_line words ++ (lines_text more ++ rest)
lines_cons words more rest = append_assoc (words_line words) (lines_text more) rest

pub lines_append : (xs ys : List (List (List ℕ))) (rest : List ℕ) → lines_text (xs ++ ys) ++ rest ≡ lines_text xs ++ (lines_text ys ++ rest)
lines_append xs ys rest = ap (λ (l : List ℕ). l ++ rest) (flat_map-append words_line xs ys) ∙ append_assoc (lines_text xs) (lines_text ys) rest

pub then_action : (s : Set) (b : ℕ) (w : List ℕ) (ws : List (List ℕ)) (more : List (List (List ℕ))) (rest : List ℕ) (a : Action) (actions : List Action)
    → (b == 35) ≡ false → All IsPlain ((b ∷ w) ∷ ws) → statement_of_words s ((b ∷ w) ∷ ws) ≡ Some (kind.Action a)
    → Reads s (lines_text more ++ rest) actions → Reads s (lines_text (((b ∷ w) ∷ ws) ∷ more) ++ rest) (a ∷ actions)
then_action s b w ws more rest a actions is all means next =
    subst (λ (l : List ℕ). Reads s l (a ∷ actions)) (sym (lines_cons ((b ∷ w) ∷ ws) more rest))
    (reads_action s b w ws (lines_text more ++ rest) a actions is all means next)

pub then_settings : (s then : Set) (b : ℕ) (w : List ℕ) (ws : List (List ℕ)) (more : List (List (List ℕ))) (rest : List ℕ) (actions : List Action)
    → (b == 35) ≡ false → All IsPlain ((b ∷ w) ∷ ws) → statement_of_words s ((b ∷ w) ∷ ws) ≡ Some (kind.Settings then)
    → Reads then (lines_text more ++ rest) actions → Reads s (lines_text (((b ∷ w) ∷ ws) ∷ more) ++ rest) actions
then_settings s then b w ws more rest actions is all means next =
    subst (λ (l : List ℕ). Reads s l actions) (sym (lines_cons ((b ∷ w) ∷ ws) more rest))
    (reads_settings s then b w ws (lines_text more ++ rest) actions is all means next)

-- ---- what each line means

pub time_means : (s : Set) (n : ℕ) → n < 2 ^ 32
    → statement_of_words s (codes "time" ∷ decimal n ∷ []) ≡ Some (kind.Settings (record { time = n; uid = s.uid; gid = s.gid }))
unfolding one_operand
time_means s n small = ap (λ (o : Option ℕ). o >>= λ time. Some (kind.Settings (record { time = time; uid = s.uid; gid = s.gid }))) (number_read_back n small)

pub owner_means : (s : Set) (u g : ℕ) → u < 2 ^ 16 → g < 2 ^ 16
    → statement_of_words s (codes "owner" ∷ decimal u ∷ decimal g ∷ []) ≡ Some (kind.Settings (record { time = s.time; uid = u; gid = g }))
unfolding two_operands
owner_means s u g small low =
    ap (λ (o : Option ℕ). o >>= λ uid. owner_word (decimal g) >>= λ gid. Some (kind.Settings (record { time = s.time; uid = uid; gid = gid }))) (owner_read_back u small)
    ∙ ap (λ (o : Option ℕ). o >>= λ gid. Some (kind.Settings (record { time = s.time; uid = u; gid = gid }))) (owner_read_back g low)

pub mkdir_means : (s : Set) (mode : ℕ) (path : List ℕ) → mode ≤ 0o7777 → IsText path
    → statement_of_words s (codes "mkdir" ∷ octal mode ∷ word_of path ∷ []) ≡ Some (kind.Action (action.Op (op.Mkdir s.time path mode s.uid s.gid)))
unfolding two_operands
mkdir_means s mode path fits is =
    ap (λ (o : Option ℕ). o >>= λ mode. text_of (word_of path) >>= λ path. operation (op.Mkdir s.time path mode s.uid s.gid)) (mode_read_back mode fits)
    ∙ ap (λ (o : Option (List ℕ)). o >>= λ path. operation (op.Mkdir s.time path mode s.uid s.gid)) (text_read path is)

pub symlink_means : (s : Set) (path target : List ℕ) → IsText path → IsText target
    → statement_of_words s (codes "symlink" ∷ word_of path ∷ word_of target ∷ []) ≡ Some (kind.Action (action.Op (op.Symlink s.time path target s.uid s.gid)))
unfolding two_operands
symlink_means s path target is to =
    ap (λ (o : Option (List ℕ)). o >>= λ path. text_of (word_of target) >>= λ target. operation (op.Symlink s.time path target s.uid s.gid)) (text_read path is)
    ∙ ap (λ (o : Option (List ℕ)). o >>= λ target. operation (op.Symlink s.time path target s.uid s.gid)) (text_read target to)

pub link_means : (s : Set) (old new : List ℕ) → IsText old → IsText new
    → statement_of_words s (codes "link" ∷ word_of old ∷ word_of new ∷ []) ≡ Some (kind.Action (action.Op (op.Link s.time old new)))
unfolding two_operands
link_means s old new is to =
    ap (λ (o : Option (List ℕ)). o >>= λ old. text_of (word_of new) >>= λ new. operation (op.Link s.time old new)) (text_read old is)
    ∙ ap (λ (o : Option (List ℕ)). o >>= λ new. operation (op.Link s.time old new)) (text_read new to)

pub fifo_means : (s : Set) (mode : ℕ) (path : List ℕ) → mode ≤ 0o7777 → IsText path
    → statement_of_words s (codes "fifo" ∷ octal mode ∷ word_of path ∷ []) ≡ Some (kind.Action (action.Op (op.Fifo s.time path mode s.uid s.gid)))
unfolding two_operands
fifo_means s mode path fits is =
    ap (λ (o : Option ℕ). o >>= λ mode. text_of (word_of path) >>= λ path. operation (op.Fifo s.time path mode s.uid s.gid)) (mode_read_back mode fits)
    ∙ ap (λ (o : Option (List ℕ)). o >>= λ path. operation (op.Fifo s.time path mode s.uid s.gid)) (text_read path is)

pub socket_means : (s : Set) (mode : ℕ) (path : List ℕ) → mode ≤ 0o7777 → IsText path
    → statement_of_words s (codes "socket" ∷ octal mode ∷ word_of path ∷ []) ≡ Some (kind.Action (action.Op (op.Socket s.time path mode s.uid s.gid)))
unfolding two_operands
socket_means s mode path fits is =
    ap (λ (o : Option ℕ). o >>= λ mode. text_of (word_of path) >>= λ path. operation (op.Socket s.time path mode s.uid s.gid)) (mode_read_back mode fits)
    ∙ ap (λ (o : Option (List ℕ)). o >>= λ path. operation (op.Socket s.time path mode s.uid s.gid)) (text_read path is)

device_read_back : (device : DeviceKind) → device_kind_of (device_letter device) ≡ Some device
device_read_back Character = refl
device_read_back Block = refl

pub device_means : (s : Set) (device : DeviceKind) (mode major minor : ℕ) (path : List ℕ) → mode ≤ 0o7777 → major ≤ 4095 → minor ≤ 1048575 → IsText path
    → statement_of_words s (codes "device" ∷ device_letter device ∷ octal mode ∷ decimal major ∷ decimal minor ∷ word_of path ∷ []) ≡ Some (kind.Action (action.Device s.time path device mode s.uid s.gid major minor))
unfolding five_operands
device_means s device mode major minor path fits low small is =
    ap (λ (o : Option DeviceKind). o >>= λ device. mode_of (octal mode) >>= λ mode. major_word (decimal major) >>= λ major. minor_word (decimal minor) >>= λ minor. text_of (word_of path) >>= λ path.
    Some (kind.Action (action.Device s.time path device mode s.uid s.gid major minor))) (device_read_back device)
    ∙ ap (λ (o : Option ℕ). o >>= λ mode. major_word (decimal major) >>= λ major. minor_word (decimal minor) >>= λ minor. text_of (word_of path) >>= λ path.
    Some (kind.Action (action.Device s.time path device mode s.uid s.gid major minor))) (mode_read_back mode fits)
    ∙ ap (λ (o : Option ℕ). o >>= λ major. minor_word (decimal minor) >>= λ minor. text_of (word_of path) >>= λ path.
    Some (kind.Action (action.Device s.time path device mode s.uid s.gid major minor))) (major_read_back major low)
    ∙ ap (λ (o : Option ℕ). o >>= λ minor. text_of (word_of path) >>= λ path. Some (kind.Action (action.Device s.time path device mode s.uid s.gid major minor))) (minor_read_back minor small)
    ∙ ap (λ (o : Option (List ℕ)). o >>= λ path. Some (kind.Action (action.Device s.time path device mode s.uid s.gid major minor))) (text_read path is)

pub device_plain : (device : DeviceKind) → IsPlain (device_letter device)
device_plain Character = verb_plain (codes "c") refl
device_plain Block = verb_plain (codes "b") refl

pub file_means : (s : Set) (mode : ℕ) (path file : List ℕ) → mode ≤ 0o7777 → IsText path → escaped_name_of (word_of file) ≡ Some file
    → statement_of_words s (codes "file" ∷ octal mode ∷ word_of path ∷ word_of file ∷ []) ≡ Some (kind.Action (action.File s.time path mode s.uid s.gid file))
unfolding three_operands
file_means s mode path file fits is name =
    ap (λ (o : Option ℕ). o >>= λ mode. text_of (word_of path) >>= λ path. escaped_name_of (word_of file) >>= λ file. Some (kind.Action (action.File s.time path mode s.uid s.gid file))) (mode_read_back mode fits)
    ∙ ap (λ (o : Option (List ℕ)). o >>= λ path. escaped_name_of (word_of file) >>= λ file. Some (kind.Action (action.File s.time path mode s.uid s.gid file))) (text_read path is)
    ∙ ap (λ (o : Option (List ℕ)). o >>= λ file. Some (kind.Action (action.File s.time path mode s.uid s.gid file))) name
