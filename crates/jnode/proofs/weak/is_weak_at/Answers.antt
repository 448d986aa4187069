use Rattle.std.proofs.Common.{◌≡◌, ◌++◌, ◌-◌, ℕ, List, length, take, ap, sym, ◌∙◌, subst, arith}
use Rattle.std.proofs.lemmas.Bool.{both_ways}
use Rattle.std.proofs.lemmas.Slice.Eq.{bytes_eq-Decides}
use Rattle.flashbase.specs.Bytes.{erased, pad4_of}
use Rattle.flashbase.proofs.BytesLemmas.{le_pad4, pad4_words}
use Rattle.jnode.specs.Header.{IsGood, totlen_of}
use Rattle.jnode.specs.Reading.{seen_of}
use Rattle.jnode.specs.Weak.{is_sound}
use Rattle.jnode.proofs.HeaderLemmas.{good_found}
use Rattle.jnode.proofs.StoredLemmas.{weak_unchanged, left_of, IsLeft, length-left_of}
use Rattle.jnode.proofs.WholeLemmas.{whole_size, whole_intact, whole_lost, written_is_whole}
use Rattle.jnode.proofs.weak.is_weak_at.Goals as goal

pub returns-then-not-is_changed : goal.returns-then-not-is_changed
returns-then-not-is_changed g c =
    sym (weak_unchanged g.E.Order.order c.args.bytes.now c.args.cut c.is_changed.result c.is_changed.ensures.1 c.if-not-is_changed.true)

pub overflow_cast-bytes : goal.overflow_cast-bytes
overflow_cast-bytes g c = let size = whole_size g.E.Order.order c.args.bytes.now (written_is_whole g.E.Order.order c.args.bytes.now c.requires.written) in let most = size.most in omega arith

pub overflow_sub-size : goal.overflow_sub-size
overflow_sub-size g c =
    let up = le_pad4 (length c.args.bytes.now) in
    omega (arith, c.pad4-size.ensures, c.requires.within)

pub front_of-front-requires : goal.front_of-front-requires
front_of-front-requires g c =
    let xs = c.args.bytes.now in
    let size = whole_size g.E.Order.order xs (written_is_whole g.E.Order.order xs c.requires.written) in
    let least = size.least in
    let up = le_pad4 (length xs) in
    let left : c.new-left.result ≡ left_of xs c.args.cut = c.new-left.ensures ∙ ap (λ (n : ℕ). take c.args.cut xs ++ erased (n - c.args.cut)) c.pad4-size.ensures in
    omega (arith, ap length left, length-left_of xs c.args.cut c.requires.within)

pub front_of-requires : goal.front_of-requires
front_of-requires g c =
    let size = whole_size g.E.Order.order c.args.bytes.now (written_is_whole g.E.Order.order c.args.bytes.now c.requires.written) in
    let least = size.least in
    omega (arith, ap length c.whole.ensures)

pub read_part-requires-clause-good : goal.read_part-requires-clause-good
read_part-requires-clause-good g c =
    let xs = c.args.bytes.now in
    let left : c.new-left.result ≡ left_of xs c.args.cut = c.new-left.ensures ∙ ap (λ (n : ℕ). take c.args.cut xs ++ erased (n - c.args.cut)) c.pad4-size.ensures in
    let fronts : c.front_of-front.result ≡ c.front_of.result = (bytes_eq-Decides _ _).0 (sym c.eq.ensures ∙ c.if-eq.true) in
    let same : take 12 (left_of xs c.args.cut) ≡ take 12 xs =
    sym (ap (take 12) left) ∙ sym c.front_of-front.ensures ∙ fronts ∙ c.front_of.ensures ∙ ap (take 12) c.whole.ensures in
    let intact : IsLeft g.E.Order.order xs c.args.cut = whole_intact g.E.Order.order xs c.args.cut (written_is_whole g.E.Order.order xs c.requires.written) c.requires.within same in
    subst (IsGood g.E.Order.order) (sym left) (good_found g.E.Order.order (left_of xs c.args.cut) intact.good)

pub read_part-requires-clause-words : goal.read_part-requires-clause-words
read_part-requires-clause-words g c =
    let xs = c.args.bytes.now in
    let left : c.new-left.result ≡ left_of xs c.args.cut = c.new-left.ensures ∙ ap (λ (n : ℕ). take c.args.cut xs ++ erased (n - c.args.cut)) c.pad4-size.ensures in
    omega (arith, ap length left, length-left_of xs c.args.cut c.requires.within, pad4_words (length xs))

pub returns-then-eq : goal.returns-then-eq
returns-then-eq g c =
    let e = g.E.Order.order in
    let xs = c.args.bytes.now in
    let left : c.new-left.result ≡ left_of xs c.args.cut = c.new-left.ensures ∙ ap (λ (n : ℕ). take c.args.cut xs ++ erased (n - c.args.cut)) c.pad4-size.ensures in
    let fronts : c.front_of-front.result ≡ c.front_of.result = (bytes_eq-Decides _ _).0 (sym c.eq.ensures ∙ c.if-eq.true) in
    let same : take 12 (left_of xs c.args.cut) ≡ take 12 xs =
    sym (ap (take 12) left) ∙ sym c.front_of-front.ensures ∙ fronts ∙ c.front_of.ensures ∙ ap (take 12) c.whole.ensures in
    let intact : IsLeft e xs c.args.cut = whole_intact e xs c.args.cut (written_is_whole e xs c.requires.written) c.requires.within same in
    c.is_sound.ensures ∙ ap is_sound c.read_part.ensures.exact
    ∙ ap (λ (ys : List ℕ). is_sound (seen_of e (take (pad4_of (totlen_of e ys)) ys))) left
    ∙ intact.is (c.is_changed.ensures.0 c.if-not-is_changed.false)

pub returns-else-eq : goal.returns-else-eq
returns-else-eq g c =
    let e = g.E.Order.order in
    let xs = c.args.bytes.now in
    let left : c.new-left.result ≡ left_of xs c.args.cut = c.new-left.ensures ∙ ap (λ (n : ℕ). take c.args.cut xs ++ erased (n - c.args.cut)) c.pad4-size.ensures in
    let whole : c.front_of.result ≡ take 12 xs = c.front_of.ensures ∙ ap (take 12) c.whole.ensures in
    c.is_good_front.ensures
    ∙ whole_lost e xs c.args.cut c.front_of-front.result (written_is_whole e xs c.requires.written) c.requires.within (c.is_changed.ensures.0 c.if-not-is_changed.false)
    (c.front_of-front.ensures ∙ ap (take 12) left)
    (λ same. both_ways _ (sym c.eq.ensures ∙ c.if-eq.false) ((bytes_eq-Decides _ _).1 (same ∙ sym whole)))
