use Rattle.std.proofs.Common.{◌≡◌, ◌++◌, drop, map}
use Rattle.jmap.specs.Places.{names_text}
use Rattle.jinspects.proofs.paths.text_of.Given as goal

abbrev pub invariant-loop-name : goal.invariant-loop-name
invariant-loop-name l =
    l.text.items ++ names_text (map (λ name. name.now) (drop l.name-index l.names))
    ≡ names_text (map (λ name. name.now) l.names)
