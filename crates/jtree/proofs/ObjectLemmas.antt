-- The operations of one item, and what they reach.
use Rattle.std.proofs.Common.{◌≡◌, ◌≢◌, ℕ, ◌+◌, ◌/◌, ◌%◌, ◌<◌, ◌≤◌, true, false, List, [], ◌∷◌, ◌++◌, length, map, None, ◌⊎◌, inl, inr, refl, ap, sym, ◌∙◌, subst, ⊎_elim, arith}
use Rattle.std.specs.Prelude.{All, Contains, ◌==◌, ◌&&◌, ◌||◌, nat_le}
use Rattle.std.specs.String.{string_bytes}
use Rattle.std.proofs.lemmas.Bool.{cond_both, cond-true, eq-eqb, ne_eqb}
use Rattle.jnode.specs.declared.order.Endian.{Endian}
use Rattle.jmount.specs.Find.{IsPath, path_text}
use Rattle.jmount.specs.Device.{number_held, device_held}
use Rattle.jmount.specs.Tree.{ObjectOf, State, type_bits, is_device, regular_bits, directory_bits}
use Rattle.jmount.proofs.ObjectsLemmas.{held_none}
use Rattle.jsteps.specs.Nodes.{Indexed}
use Rattle.jscan.specs.Pages.{IsPage}
use Rattle.jsteps.specs.Where.{names_on_path}
use Rattle.jnode.specs.Order.{bytes_in}
use Rattle.jnode.specs.declared.order.Endian.TheVariants.{Little, Big}
use Rattle.jsteps.specs.Device.{device_mode, device_number, new_number, old_number}
use Rattle.jsteps.specs.Steps.{after, bytes, own_bytes}
use Rattle.jsteps.specs.declared.device.DeviceKind.{DeviceKind}
use Rattle.jsteps.specs.declared.device.DeviceKind.TheVariants.{Character, Block}
use Rattle.jsteps.specs.declared.op.Op.{Op}
use Rattle.jsteps.specs.declared.op.Op.TheVariants as op
use Rattle.jsteps.specs.declared.step.Step.{Step}
use Rattle.jsteps.specs.declared.step.Step.TheVariants as step
use Rattle.jsteps.proofs.OwnLemmas.{own_of}
use Rattle.jfolder.specs.Actions.{AttributesFit, object_actions}
use Rattle.jfolder.specs.Trees.{HasTarget, IsRegular, LinksBack}
use Rattle.jfolder.specs.declared.tree.Attributes.{Attributes}
use Rattle.jfolder.specs.declared.tree.Item.{Item}
use Rattle.jfolder.specs.declared.tree.What.{What}
use Rattle.jfolder.specs.declared.tree.What.TheVariants as what
use Rattle.jtree.specs.Making.{Files, bytes_of_what, ops_with}
use Rattle.jtree.specs.Holding.{first_path, object_of_what, object_with}
use Rattle.jtree.proofs.AcceptLemmas.{device_free, fifo_free, file_free, make_steps_are, mkdir_free, socket_free, symlink_free}
use Rattle.jtree.proofs.GainLemmas.{gained_leads, new_gains, own}
use Rattle.jtree.proofs.ItemLemmas.{IsAhead, IsBuilt, Contains-from_map, Contains-mapped, ahead_placed, made_of, names_are, names_of}
use Rattle.jtree.proofs.LinkLemmas.{IsTarget, link_reaches}
use Rattle.jtree.proofs.MakeLemmas.{file_reaches, make_makes, make_reaches, new_object, held_nothing, own_none, some_numbers}
use Rattle.jtree.proofs.NodesLemmas.{Numbered, made_fill}
use Rattle.jtree.proofs.RoomLemmas.{AreAllAccepted, HasRoom, Passes, not_large, one_passes, room_of}
use Rattle.jtree.proofs.RunLemmas.{IsAt, Reaches, at_named, at_next, at_numbered, reaches_weaker}
use Rattle.jtree.proofs.StandLemmas.{Made, Stands}

abbrev pub made_at : Endian → Files → List ℕ → Attributes → What → Made
made_at e files path a w = record { names = names_on_path path; origin = names_on_path (first_path path w); object_is = object_of_what e files a w }

-- no item has this path yet
abbrev pub IsFresh : List Item → List ℕ → Type 0
IsFresh before path = (other : Item) → Contains before other → string_bytes other.path ≢ path

-- an item's names lead to its object, whose newest node has a device's number
abbrev pub IsNumbered : Endian → Indexed → State → State → List Step → List (List ℕ) → What → Type 0
IsNumbered e x s t steps names (what.Device device major minor) = Numbered x s t steps names (device_number e major minor)
IsNumbered e x s t steps names what.Directory = Unit {0}
IsNumbered e x s t steps names (what.Regular file) = Unit {0}
IsNumbered e x s t steps names what.Fifo = Unit {0}
IsNumbered e x s t steps names what.Socket = Unit {0}
IsNumbered e x s t steps names (what.Symlink target) = Unit {0}
IsNumbered e x s t steps names (what.Link first) = Unit {0}

-- the operations of one item, and the number of its device
pub record Does (page n : ℕ) (e : Endian) (x : Indexed) (s : State) (ops : List Op) (root : ObjectOf (List ℕ)) (made : List Made) (most : ℕ) (names : List (List ℕ)) (w : What) : Type 0 where
  pub reached : Reaches page n x s ops root made most
  pub numbered : IsNumbered e x s (after bytes s reached.steps) reached.steps names w

regular_mode : (mode : ℕ) → mode ≤ 0o7777 → (type_bits (0o100000 + mode) == regular_bits) ≡ true
regular_mode mode fits = eq-eqb ((0o100000 + mode) / 4096 % 16) 8 (omega arith)

plain_mode : (mode : ℕ) → mode ≤ 0o7777 → (type_bits (0o100000 + mode) == directory_bits) ≡ false
plain_mode mode fits = ne_eqb ((0o100000 + mode) / 4096 % 16) 4 (λ e. omega arith)

directory_reaches : (page n : ℕ) (e : Endian) (x : Indexed) (s : State) (files : Files) (path : List ℕ) (a : Attributes) (root : ObjectOf (List ℕ)) (made : List Made)
    → IsPage page → IsAt n x s → Stands root made s → IsAhead path s → AttributesFit a → HasRoom n page x (op.Mkdir a.time path a.mode a.uid a.gid)
    → Reaches page n x s (ops_with e files (object_actions path a what.Directory)) root (made ++ made_at e files path a what.Directory ∷ []) 2
directory_reaches page n e x s files path a root made is_page at stands ahead fits few =
    let p = ahead_placed n x s path at ahead in
    subst (λ ns. Reaches page n x s (op.Mkdir a.time path a.mode a.uid a.gid ∷ []) root (made ++ own ns (object_of_what e files a what.Directory) ∷ []) 2)
    (sym (names_are path (ahead.way ++ ahead.name ∷ []) ahead.path_is))
    (make_reaches page n x s (op.Mkdir a.time path a.mode a.uid a.gid) a.time (0o040000 + a.mode) a.uid a.gid [] [] (own_none (0o040000 + a.mode)) None (held_nothing (0o040000 + a.mode)) ahead.way ahead.name ahead.dir root made
    is_page at stands
    (fits.time, fits.uid, fits.gid)
    (mkdir_free page x a.time path a.mode a.uid a.gid ahead.dir ahead.name p (at_named n x s at ahead.dir ahead.name ∙ ahead.free) fits.mode)
    (make_steps_are x.tree a.time path (0o040000 + a.mode) a.uid a.gid [] ahead.dir ahead.name p)
    ahead.leads ahead.directory ahead.free ahead.short few)

-- a device has no bytes, and a number of few
own_device : (device : DeviceKind) (mode : ℕ) (number : List ℕ) → mode ≤ 0o7777 → own_bytes (device_mode device + mode) number ≡ []
unfolding own_bytes
own_device Character mode number fits =
    let is : type_bits (0o020000 + mode) ≡ 2 = omega arith in
    cond-true (is_device (0o020000 + mode)) [] number (ap (λ (n : ℕ). (n == 2) || (n == 6)) is)
own_device Block mode number fits =
    let is : type_bits (0o060000 + mode) ≡ 6 = omega arith in
    cond-true (is_device (0o060000 + mode)) [] number (ap (λ (n : ℕ). (n == 2) || (n == 6)) is)

held_device : (device : DeviceKind) (mode : ℕ) (number : List ℕ) → mode ≤ 0o7777 → device_held (device_mode device + mode) number ≡ number_held number
unfolding device_held
held_device Character mode number fits =
    let is : type_bits (0o020000 + mode) ≡ 2 = omega arith in
    cond-true (is_device (0o020000 + mode)) (number_held number) None (ap (λ (n : ℕ). (n == 2) || (n == 6)) is)
held_device Block mode number fits =
    let is : type_bits (0o060000 + mode) ≡ 6 = omega arith in
    cond-true (is_device (0o060000 + mode)) (number_held number) None (ap (λ (n : ℕ). (n == 2) || (n == 6)) is)

two_long : (e : Endian) (x : ℕ) → length (bytes_in e 2 x) ≡ 2
unfolding bytes_in
two_long Little x = refl
two_long Big x = refl

four_long : (e : Endian) (x : ℕ) → length (bytes_in e 4 x) ≡ 4
unfolding bytes_in
four_long Little x = refl
four_long Big x = refl

number_few : (e : Endian) (major minor : ℕ) → length (device_number e major minor) ≤ 4
unfolding device_number
number_few e major minor =
    cond_both (nat_le major 255 && nat_le minor 255) (bytes_in e 2 (old_number major minor)) (bytes_in e 4 (new_number major minor)) (λ (l : List ℕ). length l ≤ 4)
    (λ old. let two : length (bytes_in e 2 (old_number major minor)) ≡ 2 = two_long e (old_number major minor) in omega arith)
    (λ new. let four : length (bytes_in e 4 (new_number major minor)) ≡ 4 = four_long e (new_number major minor) in omega arith)

device_reaches : (page n : ℕ) (e : Endian) (x : Indexed) (s : State) (files : Files) (path : List ℕ) (a : Attributes) (device : DeviceKind) (major minor : ℕ) (root : ObjectOf (List ℕ)) (made : List Made)
    → IsPage page → IsAt n x s → Stands root made s → IsAhead path s → AttributesFit a → HasRoom n page x (op.Device a.time path device a.mode a.uid a.gid (device_number e major minor))
    → Does page n e x s (ops_with e files (object_actions path a (what.Device device major minor))) root (made ++ made_at e files path a (what.Device device major minor) ∷ []) 2
    (names_on_path path) (what.Device device major minor)
device_reaches page n e x s files path a device major minor root made is_page at stands ahead fits few =
    let p = ahead_placed n x s path at ahead in
    let number = device_number e major minor in
    let mode = device_mode device + a.mode in
    let o = op.Device a.time path device a.mode a.uid a.gid number in
    let names = ahead.way ++ ahead.name ∷ [] in
    let none : own_bytes mode number ≡ [] = own_device device a.mode number fits.mode in
    let steps = step.MakeObject a.time mode a.uid a.gid number ∷ step.SetName a.time ahead.dir ahead.name s.next ∷ [] in
    let t = after bytes s steps in
    let held : device_held mode number ≡ number_held number = held_device device a.mode number fits.mode in
    let makes = make_makes s a.time mode a.uid a.gid number [] (number_held number) ahead.dir ahead.name none held in
    let gains = new_gains s t ahead.dir ahead.name (new_object a.time mode a.uid a.gid (number_held number) []) makes (at_numbered n x s at) ahead.free in
    let next : t.next ≡ s.next + 1 = makes.next in
    let numbered : Numbered x s t steps names number = record {
      number = s.next;
      below_root = some_numbers n x s at;
      new = omega arith;
      used = omega arith;
      leads = gained_leads s t ahead.way ahead.name ahead.dir s.next gains ahead.leads ahead.directory;
      fill_is = made_fill s.next x a.time mode a.uid a.gid number a.time ahead.dir ahead.name s.next (at_next n x s at);
    } in
    subst (λ ns. Does page n e x s (o ∷ []) root (made ++ own ns (object_of_what e files a (what.Device device major minor)) ∷ []) 2 ns (what.Device device major minor))
    (sym (names_are path names ahead.path_is))
    (record {
      reached = make_reaches page n x s o a.time mode a.uid a.gid number [] none (number_held number) held ahead.way ahead.name ahead.dir root made
          is_page at stands
          (fits.time, fits.uid, fits.gid, number_few e major minor)
          (device_free page x a.time path device a.mode a.uid a.gid number ahead.dir ahead.name p (at_named n x s at ahead.dir ahead.name ∙ ahead.free) fits.mode)
          (make_steps_are x.tree a.time path mode a.uid a.gid number ahead.dir ahead.name p)
          ahead.leads ahead.directory ahead.free ahead.short few;
      numbered = numbered;
    })

fifo_reaches : (page n : ℕ) (e : Endian) (x : Indexed) (s : State) (files : Files) (path : List ℕ) (a : Attributes) (root : ObjectOf (List ℕ)) (made : List Made)
    → IsPage page → IsAt n x s → Stands root made s → IsAhead path s → AttributesFit a → HasRoom n page x (op.Fifo a.time path a.mode a.uid a.gid)
    → Reaches page n x s (ops_with e files (object_actions path a what.Fifo)) root (made ++ made_at e files path a what.Fifo ∷ []) 2
fifo_reaches page n e x s files path a root made is_page at stands ahead fits few =
    let p = ahead_placed n x s path at ahead in
    subst (λ ns. Reaches page n x s (op.Fifo a.time path a.mode a.uid a.gid ∷ []) root (made ++ own ns (object_of_what e files a what.Fifo) ∷ []) 2)
    (sym (names_are path (ahead.way ++ ahead.name ∷ []) ahead.path_is))
    (make_reaches page n x s (op.Fifo a.time path a.mode a.uid a.gid) a.time (0o010000 + a.mode) a.uid a.gid [] [] (own_none (0o010000 + a.mode)) None (held_nothing (0o010000 + a.mode)) ahead.way ahead.name ahead.dir root made
    is_page at stands
    (fits.time, fits.uid, fits.gid)
    (fifo_free page x a.time path a.mode a.uid a.gid ahead.dir ahead.name p (at_named n x s at ahead.dir ahead.name ∙ ahead.free) fits.mode)
    (make_steps_are x.tree a.time path (0o010000 + a.mode) a.uid a.gid [] ahead.dir ahead.name p)
    ahead.leads ahead.directory ahead.free ahead.short few)

socket_reaches : (page n : ℕ) (e : Endian) (x : Indexed) (s : State) (files : Files) (path : List ℕ) (a : Attributes) (root : ObjectOf (List ℕ)) (made : List Made)
    → IsPage page → IsAt n x s → Stands root made s → IsAhead path s → AttributesFit a → HasRoom n page x (op.Socket a.time path a.mode a.uid a.gid)
    → Reaches page n x s (ops_with e files (object_actions path a what.Socket)) root (made ++ made_at e files path a what.Socket ∷ []) 2
socket_reaches page n e x s files path a root made is_page at stands ahead fits few =
    let p = ahead_placed n x s path at ahead in
    subst (λ ns. Reaches page n x s (op.Socket a.time path a.mode a.uid a.gid ∷ []) root (made ++ own ns (object_of_what e files a what.Socket) ∷ []) 2)
    (sym (names_are path (ahead.way ++ ahead.name ∷ []) ahead.path_is))
    (make_reaches page n x s (op.Socket a.time path a.mode a.uid a.gid) a.time (0o140000 + a.mode) a.uid a.gid [] [] (own_none (0o140000 + a.mode)) None (held_nothing (0o140000 + a.mode)) ahead.way ahead.name ahead.dir root made
    is_page at stands
    (fits.time, fits.uid, fits.gid)
    (socket_free page x a.time path a.mode a.uid a.gid ahead.dir ahead.name p (at_named n x s at ahead.dir ahead.name ∙ ahead.free) fits.mode)
    (make_steps_are x.tree a.time path (0o140000 + a.mode) a.uid a.gid [] ahead.dir ahead.name p)
    ahead.leads ahead.directory ahead.free ahead.short few)

symlink_reaches : (page n : ℕ) (x : Indexed) (s : State) (files : Files) (path : List ℕ) (a : Attributes) (target : List ℕ) (root : ObjectOf (List ℕ))
    (made : List Made)
    → IsPage page → IsAt n x s → Stands root made s → IsAhead path s → AttributesFit a → 0 < length target → length target ≤ 4095
    → All (λ b. b ≢ 0) target → HasRoom n page x (op.Symlink a.time path target a.uid a.gid)
    → Reaches page n x s (op.Symlink a.time path target a.uid a.gid ∷ []) root (made ++ own (names_on_path path) (object_with 0o120777 a target) ∷ []) 2
symlink_reaches page n x s files path a target root made is_page at stands ahead fits some short none few =
    let p = ahead_placed n x s path at ahead in
    subst (λ ns. Reaches page n x s (op.Symlink a.time path target a.uid a.gid ∷ []) root (made ++ own ns (object_with 0o120777 a target) ∷ []) 2)
    (sym (names_are path (ahead.way ++ ahead.name ∷ []) ahead.path_is))
    (make_reaches page n x s (op.Symlink a.time path target a.uid a.gid) a.time 0o120777 a.uid a.gid target target (own_of 0o120777 target refl) None (held_none 0o120777 target refl) ahead.way ahead.name ahead.dir root made
    is_page at stands
    (fits.time, fits.uid, fits.gid)
    (symlink_free page x a.time path target a.uid a.gid ahead.dir ahead.name p (at_named n x s at ahead.dir ahead.name ∙ ahead.free) some short none)
    (make_steps_are x.tree a.time path 0o120777 a.uid a.gid target ahead.dir ahead.name p)
    ahead.leads ahead.directory ahead.free ahead.short few)

regular_reaches : (page n : ℕ) (x : Indexed) (s : State) (path : List ℕ) (a : Attributes) (all : List ℕ) (root : ObjectOf (List ℕ)) (made : List Made)
    → IsPage page → IsAt n x s → Stands root made s → IsAhead path s → AttributesFit a
    → (length all ≤ 2147483647) × (n + (8 + length all / 512) + 4 ≤ 0xFFFFFFFF) ⊎ Passes page x (op.File a.time path a.mode a.uid a.gid all)
    → Reaches page n x s (op.File a.time path a.mode a.uid a.gid all ∷ []) root (made ++ own (names_on_path path) (object_with (0o100000 + a.mode) a all) ∷ [])
    (8 + length all / 512)
regular_reaches page n x s path a all root made is_page at stands ahead fits has =
    let p = ahead_placed n x s path at ahead in
    let short : length all ≤ 2147483647 = ⊎_elim (λ few. few.0)
    (λ (pass : Passes page x (op.File a.time path a.mode a.uid a.gid all)). not_large 2147483647 (length all) pass.large) has in
    let room : HasRoom (n + (8 + length all / 512)) page x (op.File a.time path a.mode a.uid a.gid all) = ⊎_elim (λ few. inl few.1) (λ pass. inr pass) has in
    subst (λ ns. Reaches page n x s (op.File a.time path a.mode a.uid a.gid all ∷ []) root (made ++ own ns (object_with (0o100000 + a.mode) a all) ∷ [])
    (8 + length all / 512))
    (sym (names_are path (ahead.way ++ ahead.name ∷ []) ahead.path_is))
    (file_reaches page n x s a.time path a.mode a.uid a.gid all fits.mode ahead.way ahead.name ahead.dir root made is_page at stands
    (fits.time, fits.uid, fits.gid)
    (file_free page x a.time path a.mode a.uid a.gid all ahead.dir ahead.name p (at_named n x s at ahead.dir ahead.name ∙ ahead.free) fits.mode short)
    p ahead.leads ahead.directory ahead.free ahead.short room)

-- a regular file that stands may have further names
target_of : (e : Endian) (files : Files) (root : ObjectOf (List ℕ)) (before : List Item) (n : ℕ) (x : Indexed) (s : State) (i : Item) (first : List ℕ)
    → IsBuilt e files root before n x s → Contains before i
    → string_bytes i.path ≡ first → (w : What) → i.what ≡ w → IsRegular w → IsTarget (map (made_of e files) before) first (made_of e files i)
target_of e files root before n x s i first built among path (what.Regular file) is regular =
    let known = built.known i among in
    let mode : i.attributes.mode ≤ 0o7777 = known.fits.attributes.mode in
    let object : object_of_what e files i.attributes i.what ≡ object_of_what e files i.attributes (what.Regular file) = ap (object_of_what e files i.attributes) is in
    record {
      among = Contains-mapped (made_of e files) before i among;
      way = known.way;
      name = known.name;
      names = known.last;
      path_is = subst (λ text. IsPath text (known.way ++ known.name ∷ [])) path (subst (IsPath (string_bytes i.path)) known.last known.path);
      first = ap (λ w. names_on_path (first_path (string_bytes i.path) w)) (sym is);
      regular = ap (λ (o : ObjectOf (List ℕ)). type_bits o.mode == regular_bits) object ∙ regular_mode i.attributes.mode mode;
      plain = ap (λ (o : ObjectOf (List ℕ)). type_bits o.mode == directory_bits) object ∙ plain_mode i.attributes.mode mode;
    }
target_of e files root before n x s i first built among path what.Directory is regular = absurd regular
target_of e files root before n x s i first built among path (what.Device device major minor) is regular = absurd regular
target_of e files root before n x s i first built among path what.Fifo is regular = absurd regular
target_of e files root before n x s i first built among path what.Socket is regular = absurd regular
target_of e files root before n x s i first built among path (what.Symlink target) is regular = absurd regular
target_of e files root before n x s i first built among path (what.Link old) is regular = absurd regular

-- no item that stands has the names of a path that is new
pub fresh_names : (e : Endian) (files : Files) (root : ObjectOf (List ℕ)) (before : List Item) (n : ℕ) (x : Indexed) (s : State) (path : List ℕ)
    (names : List (List ℕ)) → IsBuilt e files root before n x s
    → IsPath path names → IsFresh before path → (p : Made) → Contains (map (made_of e files) before) p → p.names ≢ names
fresh_names e files root before n x s path names built is fresh p among same_names =
    let from = Contains-from_map (made_of e files) before p among in
    let same : names_of from.0 ≡ names = ap (λ (m : Made). m.names) from.2 ∙ same_names in
    fresh from.0 from.1 ((built.known from.0 from.1).path.0 ∙ ap path_text same ∙ sym is.0)

-- its bytes and the steps for them are few
pub record AreFewOf (n : ℕ) (files : Files) (w : What) : Type 0 where
  pub short : length (bytes_of_what files w) ≤ 2147483647
  pub few : n + (8 + length (bytes_of_what files w) / 512) + 4 ≤ 0xFFFFFFFF

-- the same by more steps
does_weaker : (page n : ℕ) (e : Endian) (x : Indexed) (s : State) (ops : List Op) (root : ObjectOf (List ℕ)) (made : List Made) (few most : ℕ) (names : List (List ℕ)) (w : What) → few ≤ most
    → Does page n e x s ops root made few names w → Does page n e x s ops root made most names w
does_weaker page n e x s ops root made few most names w le d = record { reached = reaches_weaker page n x s ops root made few most le d.reached; numbered = d.numbered }

pub object_reaches : (page n : ℕ) (e : Endian) (x : Indexed) (s : State) (files : Files) (path : List ℕ) (a : Attributes) (w : What) (root : ObjectOf (List ℕ))
    (before : List Item)
    → IsPage page → IsBuilt e files root before n x s → IsAhead path s → IsFresh before path → LinksBack before w → HasTarget w → AttributesFit a
    → AreFewOf n files w ⊎ AreAllAccepted page x (ops_with e files (object_actions path a w))
    → Does page n e x s (ops_with e files (object_actions path a w)) root (map (made_of e files) before ++ made_at e files path a w ∷ [])
    (8 + length (bytes_of_what files w) / 512) (names_on_path path) w
object_reaches page n e x s files path a what.Directory root before is_page built ahead fresh links target fits has =
    let reached = reaches_weaker page n x s (ops_with e files (object_actions path a what.Directory)) root
    (map (made_of e files) before ++ made_at e files path a what.Directory ∷ []) 2 (8 + length (bytes_of_what files what.Directory) / 512) (omega arith)
    (directory_reaches page n e x s files path a root (map (made_of e files) before) is_page built.is_at built.stands ahead fits
    (room_of n page x (op.Mkdir a.time path a.mode a.uid a.gid) (λ (few : AreFewOf n files what.Directory). let some : n + (8 + length (bytes_of_what files what.Directory) / 512) + 4 ≤ 0xFFFFFFFF = few.few in omega arith) has)) in
    record { reached = reached; numbered = tt }
object_reaches page n e x s files path a (what.Regular file) root before is_page built ahead fresh links target fits has =
    let reached = regular_reaches page n x s path a (files (string_bytes file)) root (map (made_of e files) before) is_page built.is_at built.stands ahead fits
    (⊎_elim (λ (few : AreFewOf n files (what.Regular file)). inl (few.short, few.few)) (λ all. inr (one_passes page x (op.File a.time path a.mode a.uid a.gid (files (string_bytes file))) all)) has) in
    record { reached = reached; numbered = tt }
object_reaches page n e x s files path a (what.Device device major minor) root before is_page built ahead fresh links target fits has =
    does_weaker page n e x s (ops_with e files (object_actions path a (what.Device device major minor))) root
    (map (made_of e files) before ++ made_at e files path a (what.Device device major minor) ∷ []) 2 (8 + length (bytes_of_what files (what.Device device major minor)) / 512) (names_on_path path)
    (what.Device device major minor) (omega arith)
    (device_reaches page n e x s files path a device major minor root (map (made_of e files) before) is_page built.is_at built.stands ahead fits
    (room_of n page x (op.Device a.time path device a.mode a.uid a.gid (device_number e major minor)) (λ (few : AreFewOf n files (what.Device device major minor)). let some : n + (8 + length (bytes_of_what files (what.Device device major minor)) / 512) + 4 ≤ 0xFFFFFFFF = few.few in omega arith) has))
object_reaches page n e x s files path a what.Fifo root before is_page built ahead fresh links target fits has =
    let reached = reaches_weaker page n x s (ops_with e files (object_actions path a what.Fifo)) root
    (map (made_of e files) before ++ made_at e files path a what.Fifo ∷ []) 2 (8 + length (bytes_of_what files what.Fifo) / 512) (omega arith)
    (fifo_reaches page n e x s files path a root (map (made_of e files) before) is_page built.is_at built.stands ahead fits
    (room_of n page x (op.Fifo a.time path a.mode a.uid a.gid) (λ (few : AreFewOf n files what.Fifo). let some : n + (8 + length (bytes_of_what files what.Fifo) / 512) + 4 ≤ 0xFFFFFFFF = few.few in omega arith) has)) in
    record { reached = reached; numbered = tt }
object_reaches page n e x s files path a what.Socket root before is_page built ahead fresh links target fits has =
    let reached = reaches_weaker page n x s (ops_with e files (object_actions path a what.Socket)) root
    (map (made_of e files) before ++ made_at e files path a what.Socket ∷ []) 2 (8 + length (bytes_of_what files what.Socket) / 512) (omega arith)
    (socket_reaches page n e x s files path a root (map (made_of e files) before) is_page built.is_at built.stands ahead fits
    (room_of n page x (op.Socket a.time path a.mode a.uid a.gid) (λ (few : AreFewOf n files what.Socket). let some : n + (8 + length (bytes_of_what files what.Socket) / 512) + 4 ≤ 0xFFFFFFFF = few.few in omega arith) has)) in
    record { reached = reached; numbered = tt }
object_reaches page n e x s files path a (what.Symlink t) root before is_page built ahead fresh links target fits has =
    let reached = reaches_weaker page n x s (ops_with e files (object_actions path a (what.Symlink t))) root
    (map (made_of e files) before ++ made_at e files path a (what.Symlink t) ∷ []) 2 (8 + length (bytes_of_what files (what.Symlink t)) / 512) (omega arith)
    (symlink_reaches page n x s files path a (string_bytes t) root (map (made_of e files) before) is_page built.is_at built.stands ahead fits target.0
    target.1 target.2
    (room_of n page x (op.Symlink a.time path (string_bytes t) a.uid a.gid) (λ (few : AreFewOf n files (what.Symlink t)). let some : n + (8 + length (bytes_of_what files (what.Symlink t)) / 512) + 4 ≤ 0xFFFFFFFF = few.few in omega arith) has)) in
    record { reached = reached; numbered = tt }
object_reaches page n e x s files path a (what.Link first) root before is_page built ahead fresh links target fits has =
    let i = links.0 in
    let names = ahead.way ++ ahead.name ∷ [] in
    let f = made_of e files i in
    let m = made_at e files path a (what.Link first) in
    let is = target_of e files root before n x s i (string_bytes first) built links.1 links.2 i.what refl links.3 in
    let origin : m.origin ≡ f.names = ap names_on_path (sym links.2) in
    let here : m.names ≡ names = names_are path names ahead.path_is in
    let reached = reaches_weaker page n x s (ops_with e files (object_actions path a (what.Link first))) root (map (made_of e files) before ++ m ∷ []) 1
    (8 + length (bytes_of_what files (what.Link first)) / 512) (omega arith)
    (link_reaches page n x s a.time (string_bytes first) path f m root (map (made_of e files) before) is_page built.is_at built.stands is ahead fits.time
    here origin
    (λ same. fresh_names e files root before n x s path names built ahead.path_is fresh f is.among (sym origin ∙ sym same ∙ here))
    (room_of n page x (op.Link a.time (string_bytes first) path) (λ (few : AreFewOf n files (what.Link first)). let some : n + (8 + length (bytes_of_what files (what.Link first)) / 512) + 4 ≤ 0xFFFFFFFF = few.few in omega arith) has)) in
    record { reached = reached; numbered = tt }
