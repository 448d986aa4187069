use Rattle.std.proofs.Common.{ℕ, List, [], get_or, slice_index, ap, ◌∙◌, arith}
use Rattle.flashbase.specs.declared.tables.TheConstants.{TABLES}
use Rattle.flashbase.proofs.TableLemmas.{table_at}
use Rattle.flashbase.proofs.tables.table_entry.Goals as goal

pub returns : goal.returns
returns c = ap (slice_index (get_or {A = List ℕ} TABLES c.args.zeros [])) c.from.ensures ∙ table_at c.args.zeros c.args.byte c.requires (omega arith)
