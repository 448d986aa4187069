-- What is put into a file that is made.
use Rattle.std.proofs.Common.{◌≡◌, ℕ, List, [], Some, Result, Ok, Err, ◌∙◌, ap, refl, subst}
use Rattle.std.specs.Io.KnownBytes.{Appends}
use Rattle.std.specs.Prelude.{IfSome, length, take}
use Rattle.flashbase.specs.Device.{PutsPart, next_count}
use Rattle.flashbase.specs.Sinks.{SinkChange}
use Rattle.jnode.specs.declared.node.NodeRef.{NodeRef}
use Rattle.jnode.specs.declared.order.Endian.{Endian}
use Rattle.jconvert.specs.Apart.{HaveRoom, image_of_nodes}
use Rattle.jconvert.specs.Compressing.{IsPackedImage, PutsPackedPart}
use Rattle.jedge.proofs.Steps.{History, all_told}
use Rattle.jedge.specs.Acts.{CountsOutput, DoesFrom, PutsBy, Saying, and_closed, closes, prints_put}
use Rattle.jedge.specs.Calls.{Answers}
use Rattle.jedge.specs.declared.fault.Fault.{Fault}
use Rattle.jremakes.specs.Putting.{PutsAll, PutsCompressed, PutsInto, PutsNodes}
use Rattle.jremakes.specs.declared.remaking.Unput.TheVariants as unput

still : {before now : ℕ} → before ≡ 0 → now ≡ before → now ≡ 0
still none same = same ∙ none

once : {before now : ℕ} → before ≡ 0 → now ≡ next_count before → now ≡ 1
once none is = is ∙ ap next_count none

-- ---- all of it, or a beginning

pub all_put : {A : Type 0} (whole : List ℕ) (x : A) (s : SinkChange) → s.before ≡ 0 → Appends s.old s.new whole → s.now ≡ s.before → PutsInto (PutsAll whole x) s (Ok x)
all_put whole x s none put count = record { text = whole; puts = (refl, refl, still none count); put = put }

pub part_put : {A : Type 0} (whole : List ℕ) (x : A) (s : SinkChange) → s.before ≡ 0 → PutsPart s.old s.new whole → s.now ≡ next_count s.before → PutsInto (PutsAll whole x) s (Err unput.File)
part_put whole x s none put count = record { text = take put.0 whole; puts = ((put.0, refl), once none count); put = put.1 }

pub part_for_memory : {A : Type 0} (whole : List ℕ) (x : A) (s : SinkChange) → s.before ≡ 0 → PutsPart s.old s.new whole → s.now ≡ s.before → PutsInto (PutsAll whole x) s (Err unput.OutOfMemory)
part_for_memory whole x s none put count = record { text = take put.0 whole; puts = ((put.0, refl), still none count); put = put.1 }

-- ---- the same of an image that is compressed

pub packed_put : (e : Endian) (size : ℕ) (image out : List ℕ) (done : ℕ × ℕ) (s : SinkChange) → s.before ≡ 0
    → IsPackedImage e size image out done.0 → Appends s.old s.new out → done.1 ≡ length out → s.now ≡ s.before → PutsInto (PutsCompressed e size image) s (Ok done)
packed_put e size image out done s none is put bytes count = record { text = out; puts = (is, bytes, still none count); put = put }

pub packed_part : (e : Endian) (size : ℕ) (image : List ℕ) (s : SinkChange) → s.before ≡ 0 → PutsPackedPart e size image s.old s.new → s.now ≡ next_count s.before → PutsInto (PutsCompressed e size image) s (Err unput.File)
packed_part e size image s none is count = record {
  text = take is.3.0 is.0;
  puts = ((is.0, is.1, is.2, (is.3.0, refl)), once none count);
  put = is.3.1;
}

pub packed_for_memory : (e : Endian) (size : ℕ) (image : List ℕ) (s : SinkChange) → s.before ≡ 0 → PutsPackedPart e size image s.old s.new → s.now ≡ s.before
    → PutsInto (PutsCompressed e size image) s (Err unput.OutOfMemory)
packed_for_memory e size image s none is count = record {
  text = take is.3.0 is.0;
  puts = ((is.0, is.1, is.2, (is.3.0, refl)), still none count);
  put = is.3.1;
}

-- ---- the same of nodes

pub nodes_put : (e : Endian) (size end : ℕ) (nodes : List NodeRef) (s : SinkChange) → s.before ≡ 0 → HaveRoom e size nodes → Appends s.old s.new (image_of_nodes e size nodes)
    → end ≡ length (image_of_nodes e size nodes) → s.now ≡ s.before → PutsInto (PutsNodes e size nodes) s (Ok end)
nodes_put e size end nodes s none room put long count = record {
  text = image_of_nodes e size nodes;
  puts = (room, refl, long, still none count);
  put = put;
}

pub nodes_part : (e : Endian) (size : ℕ) (nodes : List NodeRef) (s : SinkChange) → s.before ≡ 0 → PutsPart s.old s.new (image_of_nodes e size nodes) → s.now ≡ next_count s.before
    → PutsInto (PutsNodes e size nodes) s (Err unput.File)
nodes_part e size nodes s none put count = record { text = take put.0 (image_of_nodes e size nodes); puts = ((put.0, refl), once none count); put = put.1 }

pub nodes_for_memory : (e : Endian) (size : ℕ) (nodes : List NodeRef) (s : SinkChange) → s.before ≡ 0 → PutsPart s.old s.new (image_of_nodes e size nodes) → s.now ≡ s.before
    → PutsInto (PutsNodes e size nodes) s (Err unput.OutOfMemory)
nodes_for_memory e size nodes s none put count = record { text = take put.0 (image_of_nodes e size nodes); puts = ((put.0, refl), still none count); put = put.1 }

-- ---- the line is printed

-- a sink that took nothing yet, a call that puts a text into it, and the end of it
pub put_printed : {A : Type 0} {h new : History} {Says : Saying A} (s : SinkChange) {answer result : Result A Fault} {closed : Result Unit Fault}
    → s.before ≡ 0 → IfSome h (λ _. s.old ≡ Some []) → PutsBy Says s answer
    → ((text : List ℕ) → IfSome h (λ _. s.new ≡ Some text) → DoesFrom h new (closes Answers s.now text) closed)
    → result ≡ and_closed answer closed
    → DoesFrom h new (prints_put Says) result
put_printed {h} {new} s {answer} {result} {closed} none fresh puts ends is =
    let done = ends puts.text (all_told h s.old s.new puts.text fresh puts.put) in record {
      events = done.events;
      acts = record {
        text = puts.text;
        answer = answer;
        failures = s.now;
        closed = closed;
        says = puts.says;
        counts = subst (λ (n : ℕ). CountsOutput n s.now answer) none puts.counts;
        out = done.acts;
        comes_to = is;
      };
      told = done.told;
    }
