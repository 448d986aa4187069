-- Notes on the base of an image that is written, and on its weak nodes.
use Rattle.std.specs.Prelude.{◌≡◌, ◌==◌, ◌++◌, ℕ, Bool, true, false, codes, flat_map, length, if◌then◌else◌, List, [], Option, Some, None, Result, Ok, Err, IsOk}
use Rattle.std.specs.Option.{option_map_or}
use Rattle.jnode.specs.declared.order.Endian.{Endian}
use Rattle.jmount.specs.Mount.{Mount}
use Rattle.jscan.specs.Pages.{page_size}
use Rattle.jsteps.specs.declared.op.Op.{Op}
use Rattle.jlog.specs.Headline.{AreAccepted}
use Rattle.jlog.specs.Resuming.{resumes}
use Rattle.jlog.specs.declared.start.Flash.{Flash}
use Rattle.jcuts.specs.Lines.{weak_count, weak_line}
use Rattle.jcuts.specs.Telling.{standings_told}
use Rattle.jcuts.specs.declared.standing.Standing.{Standing}
use Rattle.jreport.specs.ExtractionNotes.{left_attributes_line_of}
use Rattle.jedge.specs.Commands.{shown_noted}
use Rattle.jedge.specs.Told.{Told, either}
use Rattle.jedge.specs.declared.fault.Fault.{Fault}
use Rattle.jedge.specs.declared.fault.Fault.TheVariants as fault

-- the notes, and on how many nodes they are
pub record WeakNotes : Type 0 where
  pub text : List ℕ
  pub weak : ℕ

-- A node whose cut may go unseen is noted, at its address, with its least weak cut.
abbrev pub weak_node_note : Standing → List ℕ
weak_node_note standing = option_map_or
    (λ cut. codes "jffs2_image: note: " ++ weak_line standing.addr cut) standing.weak []

-- the nodes that all of these operations take on a base, in order of address
abbrev pub nodes_written : Endian → Flash → List ℕ → List Op → List Standing
nodes_written e flash base ops =
    standings_told flash.page e flash.geometry.block flash.blocks base ops (length ops)

-- a note on each of them that is weak, and how many are
pub record AreWeakNotes (e : Endian) (flash : Flash) (base : List ℕ) (ops : List Op)
    (notes : WeakNotes) : Type 0 where
  pub text : notes.text ≡ flat_map weak_node_note (nodes_written e flash base ops)
  pub weak : notes.weak ≡ weak_count (nodes_written e flash base ops)

-- A mounted image is gone on from, and all operations on it are accepted.
pub record AreTakenOn (e : Endian) (flash : Flash) (m : Mount) (ops : List Op) : Type 0 where
  pub resumes : IsOk (resumes e flash m)
  pub accepted : AreAccepted (page_size flash.page) e flash.geometry.block flash.blocks m.image ops
      (length ops)

abbrev pub no_notes : WeakNotes
no_notes = record { text = []; weak = 0 }

-- The notes where they are asked for; memory may run out. They count if all operations are
-- accepted: if one is not, writing them tells why.
abbrev pub TakesNotes : Bool → Endian → Flash → Mount → List Op → Result WeakNotes Fault → Type 0
TakesNotes false e flash m ops (Ok notes) = notes ≡ no_notes
TakesNotes true e flash m ops (Ok notes) =
    AreTakenOn e flash m ops → AreWeakNotes e flash m.image ops notes
TakesNotes false e flash m ops (Err f) = ⊥
TakesNotes true e flash m ops (Err f) = f ≡ fault.OutOfMemory

-- ---- what is told when all is written

-- what is said of them, if there are any
abbrev pub weak_notes_said : WeakNotes → Option (List ℕ)
weak_notes_said notes = if notes.weak == 0 then None else Some notes.text

-- one text, and then the other, of those that there are
abbrev pub both_said : Option (List ℕ) → Option (List ℕ) → Option (List ℕ)
both_said None second = second
both_said (Some first) None = Some first
both_said (Some first) (Some second) = Some (first ++ second)

-- a text, or an empty one
abbrev pub text_or_none : Option (List ℕ) → List ℕ
text_or_none None = []
text_or_none (Some text) = text

-- the note on so many nodes of extended attributes that are left out, if there are any
abbrev pub attributes_noted : ℕ → Option (List ℕ)
attributes_noted n = if n == 0 then None else Some (left_attributes_line_of n)

-- What is told of a base: its findings, or that no node is found in the image that was read, and
-- the extended attributes of that image that are left out. These are found.
abbrev pub base_told : ℕ → ℕ → Option ℕ → Told
base_told findings attributes others = record {
  counted = attributes;
  noted = both_said (shown_noted findings others) (attributes_noted attributes);
}

-- of an empty base
abbrev pub none_told : Told
none_told = record { counted = 0; noted = None }

-- a weak node is found, or else what is found of the base; what is told of that comes first
abbrev pub written_told : Told → WeakNotes → Told
written_told base notes = record {
  counted = either notes.weak base.counted;
  noted = both_said base.noted (weak_notes_said notes);
}
