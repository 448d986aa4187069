-- A sound tile is a tile of its own whatever follows, and a sighted sound node has one.
use Rattle.std.proofs.Common.{◌≡◌, ◌≢◌, ℕ, ◌+◌, ◌*◌, ◌-◌, ◌%◌, ◌≤◌, true, List, [], ◌∷◌, ◌++◌, length, take, slice_index, sym, ap, ◌∙◌, arith, length-append}
use Rattle.std.specs.List.{AllByRecursion}
use Rattle.std.proofs.Math.Seq.{take-append_seam}
use Rattle.std.proofs.lemmas.Bool.{and_parts, eqb-true}
use Rattle.std.proofs.lemmas.List.{append-nil, take-append-le}
use Rattle.flashbase.specs.Bytes.{pad4_of, erased}
use Rattle.flashbase.proofs.BytesLemmas.{pad4_words}
use Rattle.jnode.specs.Order.{number_in}
use Rattle.jnode.specs.Header.{magic_of, totlen_of, has_header, is_good}
use Rattle.jnode.specs.Reading.{seen_of, tile_of}
use Rattle.jnode.specs.Weak.{is_sound}
use Rattle.jnode.specs.Writing.{filled}
use Rattle.jnode.specs.declared.header.Header.{Header}
use Rattle.jnode.specs.declared.order.Endian.{Endian}
use Rattle.jnode.specs.declared.order.Endian.TheVariants.{Little, Big}
use Rattle.jnode.proofs.HeaderLemmas.{header_is_twelve_bytes, header_holds, good_from}
use Rattle.jnode.proofs.TileLemmas.{tile_headed}
use Rattle.jexpand.specs.Expanded.{rest_at}
use Rattle.jexpand.proofs.SightedLemmas.{sighted_at, size_words}
use Rattle.jlog.proofs.PlaceLemmas.{pad4_same}
use Rattle.jlog.specs.Laws.{FitsBlock}
use Rattle.jcollect.specs.Tiles.{IsSoundTile, IsStorableTile, SightedIsTile}
use Rattle.jcollect.proofs.WalkLemmas.{Copy}

-- ---- a tile is words, so none is added to it

pub tile_words : (e : Endian) (tile : List ℕ) → IsSoundTile e tile → length tile % 4 ≡ 0
tile_words e tile is = ap (λ (n : ℕ). n % 4) is.whole.whole ∙ pad4_words (totlen_of e tile)

pub filled_tile : (e : Endian) (tile : List ℕ) → IsSoundTile e tile → filled tile ≡ tile
filled_tile e tile is =
    let same : pad4_of (length tile) ≡ length tile = pad4_same (length tile) (tile_words e tile is) in
    let none : pad4_of (length tile) - length tile ≡ 0 = omega (arith, same) in
    ap (λ (n : ℕ). tile ++ erased n) none ∙ append-nil tile

pub tile_long : (e : Endian) (tile : List ℕ) → IsSoundTile e tile → 12 ≤ length tile
tile_long e tile is = omega (arith, is.whole.within, is.whole.least)

-- ---- whatever follows

good_more : (e : Endian) (tile more : List ℕ) → IsSoundTile e tile → is_good e (tile ++ more) ≡ true
good_more e tile more is =
    let long : 12 ≤ length tile = tile_long e tile is in
    let words = header_is_twelve_bytes e (tile ++ more) tile (take-append-le 12 tile more long) in
    let totlen : totlen_of e (tile ++ more) ≡ totlen_of e tile = ap (λ (h : Header). h.totlen) words.1 in
    let sum : length (tile ++ more) ≡ length tile + length more = length-append tile more in
    good_from e (tile ++ more) (words.0 ∙ is.header) (omega (arith, sum)) (omega (arith, totlen, is.whole.least)) (omega (arith, totlen, sum, is.whole.within))

tile_more : (e : Endian) (tile more : List ℕ) → IsSoundTile e tile → tile_of e (tile ++ more) ≡ tile
tile_more e tile more is =
    let long : 12 ≤ length tile = tile_long e tile is in
    let words = header_is_twelve_bytes e (tile ++ more) tile (take-append-le 12 tile more long) in
    let totlen : totlen_of e (tile ++ more) ≡ totlen_of e tile = ap (λ (h : Header). h.totlen) words.1 in
    ap (λ (n : ℕ). take (pad4_of n) (tile ++ more)) totlen
    ∙ (ap (λ (n : ℕ). take n (tile ++ more)) (sym is.whole.whole) ∙ take-append_seam tile more)

pub tile_copies : (e : Endian) (size : ℕ) (tile : List ℕ) → IsStorableTile e size tile → Copy e size tile
tile_copies e size tile ok =
    let same : filled tile ≡ tile = filled_tile e tile ok.is in
    record {
      least = tile_long e tile ok.is;
      room = ok.room;
      good = λ more. ap (λ (t : List ℕ). is_good e (t ++ more)) same ∙ good_more e tile more ok.is;
      tile = λ more. ap (λ (t : List ℕ). tile_of e (t ++ more)) same ∙ (tile_more e tile more ok.is ∙ sym same);
      sound = ap (λ (t : List ℕ). is_sound (seen_of e t)) same ∙ ok.is.sound;
    }

pub tiles_copy : (e : Endian) (size : ℕ) (tiles : List (List ℕ)) → AllByRecursion (IsStorableTile e size) tiles → AllByRecursion (Copy e size) tiles
tiles_copy e size [] ok = tt
tiles_copy e size (t ∷ ts) ok = (tile_copies e size t ok.0, tiles_copy e size ts ok.1)

-- ---- it does not begin as erased flash does

magic_little : (xs : List ℕ) → magic_of Little xs ≡ slice_index xs 0 + 256 * slice_index xs 1
unfolding number_in
magic_little xs = omega arith

magic_big : (xs : List ℕ) → magic_of Big xs ≡ slice_index xs 0 * 256 + slice_index xs 1
unfolding number_in
magic_big xs = omega arith

magic_is : (e : Endian) (xs : List ℕ) → has_header e xs ≡ true → magic_of e xs ≡ 6533
unfolding has_header
magic_is e xs has = eqb-true _ _ (and_parts _ _ has).0

not_erased : (e : Endian) (xs : List ℕ) → has_header e xs ≡ true → slice_index xs 0 ≢ 0xFF
not_erased Little xs has same = omega (arith, magic_is Little xs has, magic_little xs, same)
not_erased Big xs has same = omega (arith, magic_is Big xs has, magic_big xs, same)

pub tiles_fit : (e : Endian) (size : ℕ) (tiles : List (List ℕ)) → AllByRecursion (IsStorableTile e size) tiles → AllByRecursion (FitsBlock size) tiles
tiles_fit e size [] ok = tt
tiles_fit e size (t ∷ ts) ok = (
  record {
    some = omega (arith, tile_long e t ok.0.is);
    written = not_erased e t ok.0.is.header;
    within = ok.0.room;
  },
  tiles_fit e size ts ok.1,
)

-- ---- a sighted sound node

pub sighted_is_tile : SightedIsTile
sighted_is_tile e size addr image s size_is has sound =
    let at = sighted_at e size image addr s (size_words size size_is) has in
    let rest : List ℕ = rest_at size image addr in
    let headed = tile_headed e rest at.good at.words in (
      record {
        whole = headed.whole;
        header = header_holds e (tile_of e rest) headed.right_magic headed.checksum;
        sound = ap is_sound (sym at.seen) ∙ sound;
      },
      at.seen,
    )
