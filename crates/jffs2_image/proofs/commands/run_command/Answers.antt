use Rattle.std.proofs.Common.{ℕ, List, ◌∙◌, ap, sym}
use Rattle.std.specs.Borrow.{Bor}
use Rattle.jnode.specs.declared.order.Endian.{Endian}
use Rattle.jcommand.specs.Parsed.{appending_view, command_view, order_asked, packing_view, target_view, update_cuts_view, updating_view}
use Rattle.jcommand.specs.declared.parsed.Command.{Command}
use Rattle.jedge.specs.Commands.{reported}
use Rattle.jedge.proofs.Steps.{does_at}
use Rattle.jforetells.specs.Foretelling.{cuts_update_act}
use Rattle.jmakes.specs.Commands.{append_act, build_act}
use Rattle.jmakes.specs.Keeping.{base_of}
use Rattle.jmakes.specs.Writing.{image_asked}
use Rattle.jpacks.specs.Packing.{pack_act}
use Rattle.jremakes.specs.Asked.{AskedRemaking}
use Rattle.jremakes.specs.Commands.{apart_act, compact_act, compress_act, decompress_act}
use Rattle.jupdates.specs.Commands.{update_act}
use Rattle.jffs2_image.specs.Running.{command_act}
use Rattle.jffs2_image.proofs.commands.run_command.Goals as goal

pub returns-in-Scan : goal.returns-in-Scan
returns-in-Scan g c =
    does_at (λ (k : Command (Bor (List ℕ))). reported (command_act (command_view k))) (sym c.in-Scan.is)
    c.run_scan.ensures

pub returns-in-Check : goal.returns-in-Check
returns-in-Check g c =
    does_at (λ (k : Command (Bor (List ℕ))). reported (command_act (command_view k))) (sym c.in-Check.is)
    c.run_check.ensures

pub returns-in-CheckThrough : goal.returns-in-CheckThrough
returns-in-CheckThrough g c =
    does_at (λ (k : Command (Bor (List ℕ))). reported (command_act (command_view k))) (sym c.in-CheckThrough.is)
    c.run_check_through.ensures

pub returns-in-List : goal.returns-in-List
returns-in-List g c =
    does_at (λ (k : Command (Bor (List ℕ))). reported (command_act (command_view k))) (sym c.in-List.is)
    c.run_list.ensures

pub returns-in-Cat : goal.returns-in-Cat
returns-in-Cat g c =
    does_at (λ (k : Command (Bor (List ℕ))). reported (command_act (command_view k))) (sym c.in-Cat.is)
    c.run_cat.ensures

pub returns-in-CatInode : goal.returns-in-CatInode
returns-in-CatInode g c =
    does_at (λ (k : Command (Bor (List ℕ))). reported (command_act (command_view k))) (sym c.in-CatInode.is)
    c.run_cat_inode.ensures

pub returns-in-Info : goal.returns-in-Info
returns-in-Info g c =
    does_at (λ (k : Command (Bor (List ℕ))). reported (command_act (command_view k))) (sym c.in-Info.is)
    c.run_info.ensures

pub returns-in-Diff : goal.returns-in-Diff
returns-in-Diff g c =
    does_at (λ (k : Command (Bor (List ℕ))). reported (command_act (command_view k))) (sym c.in-Diff.is)
    c.run_diff.ensures

pub returns-in-Damage : goal.returns-in-Damage
returns-in-Damage g c =
    does_at (λ (k : Command (Bor (List ℕ))). reported (command_act (command_view k))) (sym c.in-Damage.is)
    c.run_damage.ensures

pub returns-in-Map : goal.returns-in-Map
returns-in-Map g c =
    does_at (λ (k : Command (Bor (List ℕ))). reported (command_act (command_view k))) (sym c.in-Map.is)
    c.run_map.ensures

pub returns-in-History : goal.returns-in-History
returns-in-History g c =
    does_at (λ (k : Command (Bor (List ℕ))). reported (command_act (command_view k))) (sym c.in-History.is)
    c.run_history.ensures

pub returns-in-Build : goal.returns-in-Build
returns-in-Build g c =
    does_at (λ (k : Command (Bor (List ℕ))). reported (command_act (command_view k))) (sym c.in-Build.is)
    (does_at (λ (e : Endian). reported (build_act (image_asked e (target_view c.in-Build.asked.target)) c.in-Build.asked.listing.now))
    (sym (ap order_asked (sym c.in-Build.is) ∙ c.requires)) c.run_build.ensures)

pub returns-in-Append : goal.returns-in-Append
returns-in-Append g c =
    does_at (λ (k : Command (Bor (List ℕ))). reported (command_act (command_view k))) (sym c.in-Append.is)
    (does_at (λ (e : Endian). reported (append_act (image_asked e (target_view c.in-Append.asked.target)) (base_of (appending_view c.in-Append.asked)) c.in-Append.asked.listing.now))
    (sym (ap order_asked (sym c.in-Append.is) ∙ c.requires)) c.run_append.ensures)

pub returns-in-Update : goal.returns-in-Update
returns-in-Update g c =
    does_at (λ (k : Command (Bor (List ℕ))). reported (command_act (command_view k))) (sym c.in-Update.is)
    (does_at (λ (e : Endian). reported (update_act e (updating_view c.in-Update.asked))) (sym (ap order_asked (sym c.in-Update.is) ∙ c.requires)) c.run_update.ensures)

pub returns-in-Cuts : goal.returns-in-Cuts
returns-in-Cuts g c =
    does_at (λ (k : Command (Bor (List ℕ))). reported (command_act (command_view k))) (sym c.in-Cuts.is)
    c.run_cuts.ensures

pub returns-in-CutsUpdate : goal.returns-in-CutsUpdate
returns-in-CutsUpdate g c =
    does_at (λ (k : Command (Bor (List ℕ))). reported (command_act (command_view k))) (sym c.in-CutsUpdate.is)
    (does_at (λ (e : Endian). reported (cuts_update_act e (update_cuts_view c.in-CutsUpdate.asked))) (sym (ap order_asked (sym c.in-CutsUpdate.is) ∙ c.requires)) c.run_cuts_update.ensures)

pub returns-in-Decompress : goal.returns-in-Decompress
returns-in-Decompress g c =
    does_at (λ (k : Command (Bor (List ℕ))). reported (command_act (command_view k))) (sym c.in-Decompress.is)
    (does_at (λ (x : AskedRemaking). reported (decompress_act x)) c.remaking.ensures.asked c.run_decompress.ensures)

pub returns-in-Apart : goal.returns-in-Apart
returns-in-Apart g c =
    does_at (λ (k : Command (Bor (List ℕ))). reported (command_act (command_view k))) (sym c.in-Apart.is)
    (does_at (λ (x : AskedRemaking). reported (apart_act x)) c.remaking-in-Apart.ensures.asked c.run_apart.ensures)

pub returns-in-Compress : goal.returns-in-Compress
returns-in-Compress g c =
    does_at (λ (k : Command (Bor (List ℕ))). reported (command_act (command_view k))) (sym c.in-Compress.is)
    (does_at (λ (x : AskedRemaking). reported (compress_act x)) c.remaking-in-Compress.ensures.asked c.run_compress.ensures)

pub returns-in-Compact : goal.returns-in-Compact
returns-in-Compact g c =
    does_at (λ (k : Command (Bor (List ℕ))). reported (command_act (command_view k))) (sym c.in-Compact.is)
    (does_at (λ (x : AskedRemaking). reported (compact_act x c.in-Compact.asked.blocks)) c.remaking-in-Compact.ensures.asked c.run_compact.ensures)

pub returns-in-Extract : goal.returns-in-Extract
returns-in-Extract g c =
    does_at (λ (k : Command (Bor (List ℕ))). reported (command_act (command_view k))) (sym c.in-Extract.is)
    c.run_extract.ensures

pub returns-in-Listing : goal.returns-in-Listing
returns-in-Listing g c =
    does_at (λ (k : Command (Bor (List ℕ))). reported (command_act (command_view k))) (sym c.in-Listing.is)
    c.run_listing.ensures

pub returns-in-Pack : goal.returns-in-Pack
returns-in-Pack g c =
    does_at (λ (k : Command (Bor (List ℕ))). reported (command_act (command_view k))) (sym c.in-Pack.is)
    (does_at (λ (e : Endian). reported (pack_act e (packing_view c.in-Pack.asked))) (sym (ap order_asked (sym c.in-Pack.is) ∙ c.requires)) c.run_pack.ensures)
