-- Why a session was refused, or stopped, as far as it is known.
use Rattle.std.specs.Prelude.{ℕ, ◌*◌, ◌%◌, ◌==◌, nat_lt, if◌then◌else◌, List, [], ◌++◌, Option, Some, None, codes, decimal}
use Rattle.jscan.specs.Image.{greatest_image}
use Rattle.jlog.specs.Resuming.{page_fits}
use Rattle.jlog.specs.declared.fault.SessionFault.{SessionFault}
use Rattle.jlog.specs.declared.fault.SessionFault.TheVariants as session
use Rattle.jreport.specs.Reasons.{host_text}
use Rattle.jreport.specs.declared.reason.Reason.{Reason}
use Rattle.jreport.specs.declared.cause.Cause.{Cause}
use Rattle.jreport.specs.declared.cause.Cause.TheVariants as causes
use Rattle.jreport.specs.declared.cause.Limit.{Limit}
use Rattle.jreport.specs.declared.cause.Limit.TheVariants as limits
use Rattle.jreport.specs.declared.cause.Plan.{Plan}

-- the first limit that a flash does not keep, or an image on it
abbrev pub first_limit : Plan → Option Limit
first_limit plan =
    if nat_lt plan.geometry.block 8192 then Some limits.SmallBlock else
    if plan.geometry.block % 4 == 0 then
    if nat_lt 4194304 plan.geometry.block then Some limits.LargeBlock else
    if plan.blocks == 0 then Some limits.NoBlock else
    if nat_lt greatest_image (plan.blocks * plan.geometry.block) then Some limits.LargeFlash else
    if nat_lt (plan.blocks * plan.geometry.block) plan.length then Some limits.LongImage else
    if page_fits plan.geometry.block plan.page then None else Some limits.LargePage
    else Some limits.BlockMultiple

abbrev pub limit_cause : Option Limit → Cause
limit_cause (Some limit) = causes.Limit limit
limit_cause None = causes.Unknown

abbrev pub blocks_cause : Option ℕ → Cause
blocks_cause (Some blocks) = causes.Blocks blocks
blocks_cause None = causes.Unknown

-- Of a sink that failed the reason is the host's; of a flash that is not written, the first limit
-- that it does not keep; of a flash that is full, the blocks that the operation needs, where these
-- are known.
abbrev pub cause_of : Plan → SessionFault → Reason → Option ℕ → Cause
cause_of plan session.Sink reason blocks = causes.Host reason
cause_of plan session.Geometry reason blocks = limit_cause (first_limit plan)
cause_of plan (session.Full needed free) reason blocks = blocks_cause blocks
cause_of plan (session.Refused refused) reason blocks = causes.Unknown
cause_of plan session.ReadOnly reason blocks = causes.Unknown
cause_of plan session.OutOfMemory reason blocks = causes.Unknown
cause_of plan session.Broken reason blocks = causes.Unknown

-- what is said of a limit
unfoldable pub limit_note : Limit → List ℕ
limit_note limits.SmallBlock = codes "a flash that is written has blocks of at least 8192 bytes"
limit_note limits.BlockMultiple = codes "the size of a block is a multiple of 4"
limit_note limits.LargeBlock = codes "a block has at most 4194304 bytes"
limit_note limits.NoBlock = codes "a flash has at least one block"
limit_note limits.LargeFlash = codes "a flash has at most 268435456 bytes, blocks times their size"
limit_note limits.LongImage = codes "the image is longer than the flash, blocks times their size"
limit_note limits.LargePage = codes "a page and 80 bytes are more than a block"

-- what is said of a cause, if anything is
unfoldable pub cause_note : Cause → List ℕ
cause_note causes.Unknown = []
cause_note (causes.Host reason) = host_text reason
cause_note (causes.Limit limit) = limit_note limit
cause_note (causes.Blocks blocks) =
    codes "the operation fits into a flash of " ++ decimal blocks ++ codes " blocks"
