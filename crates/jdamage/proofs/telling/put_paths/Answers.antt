use Rattle.std.proofs.Common.{◌≡◌, ◌+◌, ◌-◌, ◌++◌, ℕ, length, arith, ap, subst}
use Rattle.std.specs.Prelude.{Ok, Result, vec_capacity}
use Rattle.std.specs.Io.KnownBytes.{Appends}
use Rattle.flashbase.specs.Device.{PutsPart}
use Rattle.flashbase.specs.declared.source.DeviceFault.{DeviceFault}
use Rattle.flashbase.proofs.DeviceLemmas.{first_failed, then_failed, then_puts}
use Rattle.jdamage.specs.Ways.{root_paths}
use Rattle.jdamage.proofs.DamageLemmas.{names_are_told, of_names, paths_are_counted, told_of, whole_is_told}
use Rattle.jdamage.proofs.RoomLemmas.{held_first_fit}
use Rattle.jdamage.proofs.telling.put_paths.Goals as goal

pub put_names-requires : goal.put_names-requires
put_names-requires g c =
    let s = c.args.ways.now.up.mounted.now.state in
    held_first_fit s (vec_capacity c.args.path.now) (16 - c.in_ok-root.root) c.args.ino c.first_names-names.result.now (omega arith) c.first_names-names.ensures c.requires.room

pub returns-in_err-root-clause-puts : goal.returns-in_err-root-clause-puts
returns-in_err-root-clause-puts g c =
    let s = c.args.ways.now.up.mounted.now.state in
    let i = c.args.ino in
    let start = c.args.start.now in
    let put = c.in_err-root.ensures.puts in
    whole_is_told s i start _ _ _ _ _ (first_failed _ _ _ _ (told_of s i start (root_paths i)) (of_names s i start) _ c.from_residual.ensures.0 put.0 put.1)

pub returns-in_err-put_names-clause-puts : goal.returns-in_err-put_names-clause-puts
returns-in_err-put_names-clause-puts g c =
    let s = c.args.ways.now.up.mounted.now.state in
    let i = c.args.ino in
    let start = c.args.start.now in
    let root = c.in_ok-root.ensures.puts in
    let put = c.in_err-put_names.ensures.puts in
    let few : 16 - c.in_ok-root.root ≡ 16 - length (root_paths i) = ap (λ (n : ℕ). 16 - n) c.in_ok-root.ensures.count in
    let told = names_are_told s i start c.first_names-names.result.now (16 - c.in_ok-root.root) few c.first_names-names.ensures in
    whole_is_told s i start _ _ _ _ _
    (then_failed _ (g.T.Sink.taken c.put_root.new.sink) _ _ _ _ (told_of s i start (root_paths i)) (of_names s i start) _ c.from_residual-in_err-put_names.ensures.0 root.0 root.1
    (subst (PutsPart (g.T.Sink.taken c.put_root.new.sink) (g.T.Sink.taken c.put_names.new.sink)) told put.0) put.1)

pub returns-clause-puts : goal.returns-clause-puts
returns-clause-puts g c =
    let s = c.args.ways.now.up.mounted.now.state in
    let i = c.args.ino in
    let start = c.args.start.now in
    let root = c.in_ok-root.ensures.puts in
    let named = c.in_ok-put_names.ensures.puts in
    let few : 16 - c.in_ok-root.root ≡ 16 - length (root_paths i) = ap (λ (n : ℕ). 16 - n) c.in_ok-root.ensures.count in
    let told = names_are_told s i start c.first_names-names.result.now (16 - c.in_ok-root.root) few c.first_names-names.ensures in
    let a = g.T.Sink.taken c.args.sink.now in
    let b = g.T.Sink.taken c.put_root.new.sink in
    let d = g.T.Sink.taken c.put_names.new.sink in
    let before = g.T.Sink.failures c.args.sink.now in
    let mid = g.T.Sink.failures c.put_root.new.sink in
    let now = g.T.Sink.failures c.put_names.new.sink in
    let answer : Result ℕ DeviceFault = Ok (c.in_ok-root.root + c.count.result) in
    whole_is_told s i start a d before now answer
    (then_puts a b d before mid now (told_of s i start (root_paths i)) (of_names s i start) answer root.0 root.1 (subst (Appends b d) told named.0, named.1))

pub returns-clause-count : goal.returns-clause-count
returns-clause-count g c =
    paths_are_counted c.args.ways.now.up.mounted.now.state c.args.ino c.args.start.now c.in_ok-root.root c.count.result c.in_ok-root.ensures.count c.count.ensures.count
