use Rattle.std.proofs.Common.{◌≡◌, ℕ, List, ◌++◌, ap, sym, ◌∙◌, subst, refl, rules, Option, Some, None, option_map, arith}
use Rattle.jline.specs.Read.{unescaped}
use Rattle.jline.proofs.ReadLemmas.{bytes_more}
use Rattle.jjson.proofs.words.push_unescaped.Goals as goal

pub loop-left-preserved : goal.loop-left-preserved
loop-left-preserved c =
    let rest = c.in-Some.rest.now in
    let bytes = c.loop-left.bytes.items in
    let before = c.loop-left.invariant in
    let read = before.read ∙ ap (option_map (λ (more : List ℕ). bytes ++ more)) c.in-Some.ensures.some in
    record {
      read = subst (λ (items : List ℕ). option_map (λ (more : List ℕ). c.args.bytes.now.items ++ more) (unescaped c.args.word.now) ≡ option_map (λ (more : List ℕ). items ++ more) (unescaped rest)) (sym c.push_reserved.ensures.items)
          (bytes_more bytes c.in-Some.byte (unescaped rest) (option_map (λ (more : List ℕ). c.args.bytes.now.items ++ more) (unescaped c.args.word.now)) read);
      room = c.push_reserved.ensures.capacity ∙ before.room;
      fits = omega (arith, c.push_reserved.ensures.len, c.push_reserved.ensures.capacity, before.fits, c.in-Some.ensures.shorter);
    }

none_before : (f g : List ℕ → List ℕ) (o left : Option (List ℕ)) → option_map f o ≡ option_map g left → left ≡ None → o ≡ None
none_before f g None left same none = refl
none_before f g (Some bytes) left same none = let no : Some (f bytes) ≡ None = same ∙ ap (option_map g) none in cc

pub returns-in_default-clause-not_read : goal.returns-in_default-clause-not_read
returns-in_default-clause-not_read c = λ _.
    none_before (λ (more : List ℕ). c.args.bytes.now.items ++ more) (λ (more : List ℕ). c.loop-left.bytes.items ++ more) (unescaped c.args.word.now) (unescaped c.loop-left.left.now)
    c.loop-left.invariant.read (search rules)
