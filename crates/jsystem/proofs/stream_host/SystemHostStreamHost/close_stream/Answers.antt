use Rattle.std.specs.Prelude.{string_bytes}
use Rattle.std.proofs.Common.{refl, rules}
use Rattle.jsystem.proofs.ReadingLemmas.{stream_closed, stream_failed}
use Rattle.jsystem.proofs.stream_host.SystemHostStreamHost.close_stream.Goals as goal

pub returns-then-failures-eq0 : goal.returns-then-failures-eq0
returns-then-failures-eq0 c = λ read left is. stream_closed (string_bytes c.args.streamed.name) _ read left (search rules)

pub returns : goal.returns
returns c = λ read left is. stream_failed (string_bytes c.args.streamed.name) _ read left _ (λ none. search rules) refl
