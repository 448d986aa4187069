use Rattle.std.proofs.Common.{[], ◌∷◌, refl, sym, codes}
use Rattle.jjson.proofs.JsonLemmas.{ascii_is_text, member_of_text}
use Rattle.jjson.proofs.examples.known_members.Goals as goal

pub returns-clause-plain : goal.returns-clause-plain
returns-clause-plain c = sym (member_of_text (codes "name") (codes "ab") (ascii_is_text (codes "ab") refl))

pub returns-clause-escaped : goal.returns-clause-escaped
returns-clause-escaped c = sym (member_of_text (codes "name") (34 ∷ 92 ∷ 10 ∷ []) (ascii_is_text (34 ∷ 92 ∷ 10 ∷ []) refl))
