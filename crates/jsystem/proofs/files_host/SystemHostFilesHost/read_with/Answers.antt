use Rattle.std.proofs.Common.{◌≡◌, ℕ, List, Some, refl, rules, subst}
use Rattle.std.specs.Prelude.{bytes_eq, if◌then◌else◌, string_bytes}
use Rattle.flashbase.specs.declared.source.LoadFault.TheVariants as load
use Rattle.jbuild.specs.HostFiles.{read_of}
use Rattle.jreport.specs.declared.reason.Reason.TheVariants as because
use Rattle.jsystem.proofs.ReadingLemmas.{file_kept, read_with_failed}
use Rattle.jsystem.proofs.files_host.SystemHostFilesHost.read_with.Goals as goal

pub returns-in_default : goal.returns-in_default
returns-in_default c = read_with_failed (string_bytes c.args.input.name) c.args.files.now because.Other load.OutOfMemory _ refl

pub returns-in-Ok-read : goal.returns-in-Ok-read
returns-in-Ok-read c =
    let name : List ℕ = string_bytes c.args.input.name in
    let same : string_bytes c.in-Ok.key ≡ name = search rules in
    let read = c.in-Ok-read.ensures.reads in
    file_kept name c.args.files.now c.read.new.self read.0 read.2
    (subst (λ (k : List ℕ). (n : List ℕ) → read_of c.read.new.self n ≡ (if bytes_eq k n then Some read.0 else read_of c.args.files.now n)) same read.3)

pub returns-in-Err : goal.returns-in-Err
returns-in-Err c = read_with_failed (string_bytes c.args.input.name) c.args.files.now _ c.in-Err.why c.unread.result c.unread.ensures
