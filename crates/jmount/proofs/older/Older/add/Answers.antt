use Rattle.std.proofs.Common.{rules, ◌≡◌, ◌<◌, length, Some, None, Option, sym, subst}
use Rattle.jname.proofs.ContentsByNameLemmas.{ok_map}
use Rattle.jnode.specs.declared.node.InodeNode.{InodeNode}
use Rattle.jmount.specs.ByVersion.{node_of_version}
use Rattle.jmount.specs.Inodes.{InodeAgrees, InodeDiffers}
use Rattle.jmount.proofs.OlderLemmas.{Contains-pushed, Contains-same, found_at, not_found, pushed_more, same_node_more, within_found}
use Rattle.jmount.proofs.older.Older.add.Goals as goal

pub index-requires : goal.index-requires
index-requires c =
    let within : c.in-Some.place < length c.place_of.new.self.nodes.items =
    within_found c.args.self.now.nodes.items c.place_of.new.self.nodes.items c.args.node.version c.in_ok-place.field-0 c.in-Some.place
    c.place_of.ensures.nodes c.in_ok-place.ensures.place c.in-Some.is in
    search rules

pub push-requires : goal.push-requires
push-requires c =
    not_found c.args.self.now.nodes.items c.place_of.new.self.nodes.items c.args.node.version c.in_ok-place.field-0
    c.place_of.ensures.nodes c.in_ok-place.ensures.place c.in-None.is

pub returns-in-Some-clause-clash : goal.returns-in-Some-clause-clash
returns-in-Some-clause-clash c fault =
    let nodes = c.args.self.now.nodes.items in
    let there : node_of_version nodes c.args.node.version ≡ Some c.index.result.now =
    found_at nodes c.place_of.new.self.nodes.items c.args.node.version c.in_ok-place.field-0 c.in-Some.place c.index.result.now
    c.args.self.now.found c.place_of.ensures.nodes c.in_ok-place.ensures.place c.in-Some.is c.index.ensures in
    subst (λ (o : Option InodeNode). InodeDiffers o c.args.node) (sym there) (c.agree.ensures.clash fault)

pub returns-in-Some-clause-alone : goal.returns-in-Some-clause-alone
returns-in-Some-clause-alone c =
    let nodes = c.args.self.now.nodes.items in
    let there : node_of_version nodes c.args.node.version ≡ Some c.index.result.now =
    found_at nodes c.place_of.new.self.nodes.items c.args.node.version c.in_ok-place.field-0 c.in-Some.place c.index.result.now
    c.args.self.now.found c.place_of.ensures.nodes c.in_ok-place.ensures.place c.in-Some.is c.index.ensures in
    ok_map c.agree.result (λ (is : c.index.result.now ≡ c.args.node). subst (λ (o : Option InodeNode). InodeAgrees o c.args.node) (sym there) is) c.agree.ensures.alone

pub returns-in-Some-clause-ok : goal.returns-in-Some-clause-ok
returns-in-Some-clause-ok c =
    let nodes = c.args.self.now.nodes.items in
    let there : node_of_version nodes c.args.node.version ≡ Some c.index.result.now =
    found_at nodes c.place_of.new.self.nodes.items c.args.node.version c.in_ok-place.field-0 c.in-Some.place c.index.result.now
    c.args.self.now.found c.place_of.ensures.nodes c.in_ok-place.ensures.place c.in-Some.is c.index.ensures in
    ok_map c.agree.result (λ (is : c.index.result.now ≡ c.args.node). same_node_more nodes c.place_of.new.self.nodes.items c.index.result.now c.args.node c.place_of.ensures.nodes there is)
    c.agree.ensures.alone

pub returns-in-Some-clause-nodes : goal.returns-in-Some-clause-nodes
returns-in-Some-clause-nodes c =
    ok_map c.agree.result (λ (is : c.index.result.now ≡ c.args.node). Contains-same c.args.self.now.nodes.items c.place_of.new.self.nodes.items c.args.node c.place_of.ensures.nodes)
    c.agree.ensures.alone

pub returns-in_ok-push-in-None-clause-alone : goal.returns-in_ok-push-in-None-clause-alone
returns-in_ok-push-in-None-clause-alone c =
    let nodes = c.args.self.now.nodes.items in
    let none : node_of_version nodes c.args.node.version ≡ None =
    not_found nodes nodes c.args.node.version c.in_ok-place.field-0 (λ i. nodes) c.in_ok-place.ensures.place c.in-None.is in
    subst (λ (o : Option InodeNode). InodeAgrees o c.args.node) (sym none) tt

pub returns-in_ok-push-in-None-clause-ok : goal.returns-in_ok-push-in-None-clause-ok
returns-in_ok-push-in-None-clause-ok c =
    let nodes = c.args.self.now.nodes.items in
    let now = c.place_of.new.self.nodes.items in
    pushed_more nodes now c.push.new.self.nodes.items c.args.node c.place_of.ensures.nodes
    (not_found nodes now c.args.node.version c.in_ok-place.field-0 c.place_of.ensures.nodes c.in_ok-place.ensures.place c.in-None.is)
    c.in_ok-push-in-None.ensures.ok

pub returns-in_ok-push-in-None-clause-nodes : goal.returns-in_ok-push-in-None-clause-nodes
returns-in_ok-push-in-None-clause-nodes c =
    Contains-pushed c.args.self.now.nodes.items c.place_of.new.self.nodes.items c.push.new.self.nodes.items c.args.node c.place_of.ensures.nodes c.in_ok-push-in-None.ensures.ok
