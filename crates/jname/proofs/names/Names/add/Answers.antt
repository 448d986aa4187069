use Rattle.std.proofs.Common.{◌≡◌, ℕ, subst, List, Err, OnOk}
use Rattle.jnode.specs.declared.node.Dirent.{Dirent}
use Rattle.jname.specs.declared.fault.NameFault.TheVariants.{Clash}
use Rattle.jname.specs.Versions.{Agrees, Differs}
use Rattle.jname.specs.Directories.{content_at}
use Rattle.jname.specs.Entries.{content_of_entry, entries_of}
use Rattle.jname.specs.Clash.{NoEntryClashesWith, SomeEntryClashesWith}
use Rattle.jname.specs.Live.{Gains}
use Rattle.jname.proofs.ContentsByNameLemmas.{ok_map, ok_both}
use Rattle.jname.proofs.GainLemmas.{HoldsOneMore, gains_one, none_clashes, some_clashes}
use Rattle.jname.proofs.names.Names.add.Goals as goal

pub returns-clause-ok : goal.returns-clause-ok
returns-clause-ok c =
    subst (λ (given : List Dirent). OnOk c.add_entry.result (Gains given (entries_of c.add_entry.new.directories) c.args.entry.now)) c.self.view_is
    (ok_both c.add_entry.result (λ more agrees. gains_one c.self.inside.directories c.add_entry.new.directories c.self.invariant.0 c.add_entry.ensures.ordered c.args.entry.now
    (subst (λ (name : List ℕ). HoldsOneMore c.self.inside.directories c.add_entry.new.directories c.args.entry.now.pino name c.args.entry.now.version (content_of_entry c.args.entry.now)) (c.in_ok-name.ensures) more)
    (subst (λ (name : List ℕ). Agrees (content_at c.self.inside.directories c.args.entry.now.pino name c.args.entry.now.version) (content_of_entry c.args.entry.now)) (c.in_ok-name.ensures) agrees))
    c.add_entry.ensures.ok c.add_entry.ensures.alone)

pub returns-clause-alone : goal.returns-clause-alone
returns-clause-alone c =
    subst (λ (given : List Dirent). OnOk c.add_entry.result (NoEntryClashesWith given c.args.entry.now)) c.self.view_is
    (ok_map c.add_entry.result (λ agrees. none_clashes c.self.inside.directories c.self.invariant.0 c.args.entry.now
    (subst (λ (name : List ℕ). Agrees (content_at c.self.inside.directories c.args.entry.now.pino name c.args.entry.now.version) (content_of_entry c.args.entry.now)) (c.in_ok-name.ensures) agrees))
    c.add_entry.ensures.alone)

pub returns-clause-clash : goal.returns-clause-clash
returns-clause-clash c = λ (refused : c.add_entry.result ≡ Err Clash).
    subst (λ (given : List Dirent). SomeEntryClashesWith given c.args.entry.now) c.self.view_is
    (some_clashes c.self.inside.directories c.args.entry.now
    (subst (λ (name : List ℕ). Differs (content_at c.self.inside.directories c.args.entry.now.pino name c.args.entry.now.version) (content_of_entry c.args.entry.now)) (c.in_ok-name.ensures) (c.add_entry.ensures.clash refused)))
