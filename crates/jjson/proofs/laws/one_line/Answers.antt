use Rattle.std.proofs.Common.{◌≡◌, ℕ, Bool, true, false, refl, ⊎_elim, inl, inr}
use Rattle.std.specs.Prelude.{not}
use Rattle.std.proofs.lemmas.List.Elements.{All-weaker}
use Rattle.std.proofs.lemmas.List.Sums.{AllPass-from_list_all}
use Rattle.jjson.specs.Texts.{is_feed}
use Rattle.jjson.proofs.LineLemmas.{is_inside, json_line-one}
use Rattle.jjson.proofs.laws.one_line.Goals as goal

no_feed : (b : Bool) → not b ≡ true → b ≡ false
no_feed true is = let no : false ≡ true = is in cc
no_feed false is = refl

pub returns : goal.returns
returns c lines line =
    ⊎_elim
    (λ none. inl none)
    (λ one. inr (one.0, one.1, All-weaker (λ (b : ℕ). is_inside b ≡ true) (λ (b : ℕ). is_feed b ≡ false) (λ b is. no_feed (is_feed b) is) one.0 (AllPass-from_list_all is_inside one.0 one.2)))
    (json_line-one lines line)
