-- The pages by which files are cut.
use Rattle.std.specs.Prelude.{ℕ, ◌≤◌}
use Rattle.jscan.specs.declared.page.Page.{Page}
use Rattle.jscan.specs.declared.page.Page.TheVariants.{P4096, P8192, P16384}

-- the sizes that pages may have
pub record IsPage (page : ℕ) : Type 0 where
  pub least : 4096 ≤ page
  pub most : page ≤ 16384

-- rule: The log: Pages that bytes are cut at, and whether a block holds one.
--   definitions: jscan.Pages.page_size, jsteps.Planning.puts, jsteps.Planning.piece_puts,
--   jlog.Resuming.resumes, jlog.Resuming.page_fits
--   code: jsteps::planning::plan_paged, jlog::start::of, jlog::resuming::page_fits
--   laws: jsteps::examples::larger_page
abbrev pub page_size : Page → ℕ
page_size P4096 = 4096
page_size P8192 = 8192
page_size P16384 = 16384
