-- Where writing goes on in a mounted image.
use Rattle.std.specs.Prelude.{ℕ, ◌+◌, ◌&&◌, Bool, nat_le, if◌then◌else◌, Result, Ok, Err}
use Rattle.jnode.specs.Header.{header_len}
use Rattle.jnode.specs.Reading.{inode_len}
use Rattle.jnode.specs.declared.order.Endian.{Endian}
use Rattle.jmount.specs.Mount.{Mount}
use Rattle.jscan.specs.Pages.{page_size}
use Rattle.jscan.specs.declared.page.Page.{Page}
use Rattle.jlog.specs.Headline.{is_flash_of, resume_address}
use Rattle.jlog.specs.declared.fault.SessionFault.{SessionFault}
use Rattle.jlog.specs.declared.fault.SessionFault.TheVariants as fault
use Rattle.jlog.specs.declared.start.Flash.{Flash}

-- rule: The log: The address at which writing goes on in an image.
--   definitions: jlog.Resuming.resumes_at, jlog.Resuming.resumes, jscan.Blank.blank_from
--   code: jlog::resuming::resume_at, jlog::start::of, jlog::session::begin
--   laws: jscan::laws::blank_from_is_least
-- An image that may not be written is not resumed, nor is one that a flash of so many blocks does
-- not hold; any other is at the block from which on the flash is blank.
abbrev pub resumes_at : Endian → ℕ → ℕ → Mount → Result ℕ SessionFault
resumes_at e size blocks mount =
    if mount.read_only then Err fault.ReadOnly else
    if is_flash_of size blocks mount.image then Ok (resume_address e size blocks mount.image) else
    Err fault.Geometry

-- A block holds its marker, and a node of a page's bytes.
abbrev pub page_fits : ℕ → Page → Bool
page_fits size page = nat_le (page_size page + (header_len + inode_len)) size

-- Nor is an image resumed by a page that its blocks do not hold.
abbrev pub resumes_by : Page → Endian → ℕ → ℕ → Mount → Result ℕ SessionFault
resumes_by page e size blocks mount =
    if mount.read_only then Err fault.ReadOnly else
    if is_flash_of size blocks mount.image && page_fits size page then Ok
    (resume_address e size blocks mount.image) else Err fault.Geometry

-- the same on a flash, by its page
abbrev pub resumes : Endian → Flash → Mount → Result ℕ SessionFault
resumes e flash mount = resumes_by flash.page e flash.geometry.block flash.blocks mount
