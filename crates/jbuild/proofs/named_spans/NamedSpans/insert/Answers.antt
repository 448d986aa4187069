use Rattle.std.proofs.Common.{◌≡◌, rules, None, Some, length}
use Rattle.std.specs.Prelude.{is_ok, string_bytes}
use Rattle.std.specs.BTreeMap.{get_by_text}
use Rattle.std.proofs.lemmas.Map.Text.{btree_map_updates_text}
use Rattle.jbuild.proofs.SpanLemmas.{all_stand_before, all_stand_new, all_stand_same}
use Rattle.jbuild.proofs.named_spans.NamedSpans.insert.Goals as goal

pub invariant_of-self-in-Break-branch-2 : goal.invariant_of-self-in-Break-branch-2
invariant_of-self-in-Break-branch-2 c =
    let s = c.args.self.now in
    record {
      named = rw c.in_ok-extend_from_slice.ensures.items
          (all_stand_before c.insert.new.self s.names.items c.as_bytes.result.now s.in_order.items (all_stand_same s.names.items s.by_name c.insert.new.self s.in_order.items (search rules) s.named));
    }

pub returns-then-is_some-clause-ok : goal.returns-then-is_some-clause-ok
returns-then-is_some-clause-ok c = λ n. btree_map_updates_text (string_bytes c.args.name) c.args.self.now.by_name c.insert.new.self (Some c.args.span) c.in_ok-insert.ensures.updates n

pub invariant_of-self-2 : goal.invariant_of-self-2
invariant_of-self-2 c =
    let s = c.args.self.now in
    let none : get_by_text s.by_name (string_bytes c.args.name) ≡ None = search rules in
    let from : c.len.result ≡ length s.names.items = search rules in
    record {
      named = rw (c.in_ok-extend_from_slice.ensures.items, c.as_bytes.ensures.value, c.push.ensures.items) (all_stand_new (is_ok c.push.result) (string_bytes c.args.name) s.names.items c.len.result c.len-2.result c.args.span s.by_name c.insert.new.self
          s.in_order.items from (search rules) c.in_ok-insert.ensures.updates none s.named);
    }

pub returns-clause-ok : goal.returns-clause-ok
returns-clause-ok c = λ n. btree_map_updates_text (string_bytes c.args.name) c.args.self.now.by_name c.insert.new.self (Some c.args.span) c.in_ok-insert.ensures.updates n
