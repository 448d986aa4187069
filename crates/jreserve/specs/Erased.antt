-- Erased blocks of a flash.
use Rattle.std.specs.Prelude.{ℕ, ◌==◌, Bool, List, count_by}
use Rattle.std.specs.List.{list_all}
use Rattle.flashbase.specs.Lists.{below}
use Rattle.jscan.specs.Image.{block_of}

-- all of these bytes are 0xFF
abbrev pub is_all_erased : List ℕ → Bool
is_all_erased bytes = list_all (λ b. b == 0xFF) bytes

-- how many blocks of a flash are erased that holds an image: those past its end are
abbrev pub erased_blocks : ℕ → ℕ → List ℕ → ℕ
erased_blocks block blocks image =
    count_by (λ b. is_all_erased (block_of block image b)) (below blocks)
