-- Laws of what is told. Each is a statement: it holds since a public function's contract names it.
use Rattle.std.specs.Prelude.{◌≡◌, ℕ, ◌+◌, ◌%◌, ◌≤◌, nat_le, List, length, map, take, count_by}
use Rattle.std.specs.List.{AllByRecursion}
use Rattle.flashbase.specs.Ranges.{AreBytes}
use Rattle.jnode.specs.Weak.{IsLeastWeak}
use Rattle.jnode.specs.declared.order.Endian.{Endian}
use Rattle.jmount.specs.Mounts.{state, MountsAs}
use Rattle.jsteps.specs.Steps.{bytes, after}
use Rattle.jscan.specs.Pages.{page_size}
use Rattle.jsteps.specs.Laws.{OpFits}
use Rattle.jsteps.specs.declared.op.Op.{Op}
use Rattle.jscan.specs.declared.page.Page.{Page}
use Rattle.jlog.specs.Places.{places}
use Rattle.jlog.specs.Output.{output}
use Rattle.jlog.specs.Left.{IsLeft, count_whole}
use Rattle.jlog.specs.Headline.{IsBase, AreAccepted, resume_address}
use Rattle.jlog.specs.Laws.{FitsBlock}
use Rattle.jcuts.specs.Standing.{whole_len, IsWholeLen, least_weak, standings}
use Rattle.jcuts.specs.Lines.{weak_count}
use Rattle.jcuts.specs.Telling.{steps_told, bytes_told, first_told, standings_told}
use Rattle.jcuts.specs.declared.standing.Standing.{Standing}

-- So many first bytes make a node whole, and fewer do not.
abbrev pub WholeLenIsLeast : Type 0
WholeLenIsLeast = (node : List ℕ) → IsWholeLen node (whole_len node)

-- The cut that is told is the least weak one.
abbrev pub WeakIsLeast : Type 0
WeakIsLeast = (e : Endian) (node : List ℕ) → IsLeastWeak e node (least_weak e node)

-- The nodes stand at their places.
abbrev pub StandingsHavePlaces : Type 0
StandingsHavePlaces = (e : Endian) (size from : ℕ) (nodes : List (List ℕ))
    → map (λ standing. (standing.addr, standing.totlen)) (standings e size from nodes)
    ≡ places size from nodes

-- how many nodes stand where the bytes below an address were put
abbrev pub count_standing : ℕ → List Standing → ℕ
count_standing address told = count_by (λ standing. nat_le standing.stands_from address) told

-- After k bytes of what goes out as many nodes stand whole as stand from the address there or from
-- one below it.
abbrev pub StandingIsCounted : Type 0
StandingIsCounted = (e : Endian) (size from k : ℕ) (nodes : List (List ℕ)) → size % 4 ≡ 0
    → AllByRecursion (FitsBlock size) nodes
    → count_standing (from + k) (standings e size from nodes)
    ≡ count_whole from (output e size from nodes) k (places size from nodes)

-- A line for each node, in order: the lines of the first operations are those of their nodes.
abbrev pub LinesAreNodes : Type 0
LinesAreNodes = (page : Page) (e : Endian) (size blocks n : ℕ) (base : List ℕ) (ops : List Op)
    (lines : List ℕ) → length lines ≡ length ops
    → map (λ told. told.standing) (first_told page e size blocks base ops lines n)
    ≡ standings_told page e size blocks base ops n

-- Where no node of accepted operations is weak, a stop after any number of bytes leaves an image
-- that mounts as the file system after the steps whose nodes stand where the bytes below that
-- address were put: the first so many.
abbrev pub ToldSurvives : Type 0
ToldSurvives = (page : Page) (e : Endian) (size blocks n : ℕ) (base : List ℕ) (ops : List Op)
    → page_size page + 80 ≤ size → IsBase e size blocks base
    → AreBytes base → AllByRecursion OpFits ops
    → AreAccepted (page_size page) e size blocks base ops n
    → let from = resume_address e size blocks base in
    let out = output e size from (bytes_told page e size base ops n) in
    let told = standings_told page e size blocks base ops n in
    weak_count told ≡ 0
    → (k : ℕ) (image : List ℕ) → k ≤ length out → IsLeft e size blocks base from out k image
    → MountsAs e size image (after bytes (state e size base)
    (take (count_standing (from + k) told) (steps_told page e size base ops n)))
