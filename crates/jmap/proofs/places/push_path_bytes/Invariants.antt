use Rattle.std.proofs.Common.{◌≡◌, ◌++◌, drop}
use Rattle.jmap.specs.NodeTexts.{markup_name}
use Rattle.jmap.proofs.places.push_path_bytes.Given as goal

abbrev pub invariant-loop-byte : goal.invariant-loop-byte
invariant-loop-byte l =
    l.text.items ++ markup_name (drop l.byte-index l.name) ≡ l.fn.text.items ++ markup_name l.name
