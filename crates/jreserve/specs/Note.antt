-- The note that fewer blank blocks are left than Linux keeps in reserve.
use Rattle.std.specs.Prelude.{ℕ, ◌==◌, List, ◌++◌, codes, decimal, if◌then◌else◌}

-- what is said of n blank blocks
unfoldable pub blank_text : ℕ → List ℕ
blank_text n = if n == 1
    then codes " blank block is left, Linux keeps "
    else codes " blank blocks are left, Linux keeps "

-- rule: What is printed: The note on blank blocks that are left.
--   definitions: jreserve.Note.reserve_line
--   code: jreserve::note::put_reserve_note
-- the line on standard error that says how many are left, and how many Linux keeps
unfoldable pub reserve_line : ℕ → ℕ → List ℕ
reserve_line left reserve = codes "jffs2_image: note: "
    ++ (decimal left ++ (blank_text left ++ (decimal reserve ++ codes " in reserve\n")))
