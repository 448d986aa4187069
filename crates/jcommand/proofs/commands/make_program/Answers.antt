use Rattle.jcommand.specs.Commands.{program}
use Rattle.jcommand.proofs.commands.make_program.Goals as goal

pub returns : goal.returns
unfolding program
returns c =
    let check = c.add_subcommand-command.ensures _ _ c.make_bare.ensures c.make_check.ensures in
    let ls = c.add_subcommand-command-2.ensures _ _ check c.make_ls.ensures in
    let cat = c.add_subcommand-command-3.ensures _ _ ls c.make_cat.ensures in
    let build = c.add_subcommand-command-4.ensures _ _ cat c.make_build.ensures in
    let append = c.add_subcommand-command-5.ensures _ _ build c.make_append.ensures in
    let update = c.add_subcommand-command-6.ensures _ _ append c.make_update.ensures in
    let decompress = c.add_subcommand-command-7.ensures _ _ update c.make_decompress.ensures in
    let compress = c.add_subcommand-command-8.ensures _ _ decompress c.make_compress.ensures in
    let compact = c.add_subcommand-command-9.ensures _ _ compress c.make_compact.ensures in
    let extract = c.add_subcommand-command-10.ensures _ _ compact c.make_extract.ensures in
    let listing = c.add_subcommand-command-11.ensures _ _ extract c.make_listing.ensures in
    let info = c.add_subcommand-command-12.ensures _ _ listing c.make_info.ensures in
    let cuts = c.add_subcommand-command-13.ensures _ _ info c.make_cuts.ensures in
    let diff = c.add_subcommand-command-14.ensures _ _ cuts c.make_diff.ensures in
    let damage = c.add_subcommand-command-15.ensures _ _ diff c.make_damage.ensures in
    let map = c.add_subcommand-command-16.ensures _ _ damage c.make_map.ensures in
    let history = c.add_subcommand-command-17.ensures _ _ map c.make_history.ensures in
    let pack = c.add_subcommand-command-18.ensures _ _ history c.make_pack.ensures in
    c.add_subcommand.ensures _ _ pack c.make_verify.ensures
