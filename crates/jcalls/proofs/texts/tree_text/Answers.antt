use Rattle.std.proofs.Common.{subst}
use Rattle.jcalls.specs.Looking.{StatRefused}
use Rattle.jcalls.proofs.ShownLemmas.{told_same}
use Rattle.jcalls.proofs.TextLemmas.{text_given, text_needed}
use Rattle.jcalls.proofs.texts.tree_text.Goals as goal

pub returns-in-Ok-clause-done : goal.returns-in-Ok-clause-done
returns-in-Ok-clause-done c done =
    let has = c.in-Ok.ensures.ok in
    let gives = text_given c.in-Ok.text.items c.deref.result.now c.args.out.now _ _ c.give_all.result c.deref.ensures.value c.give_all.ensures.gives done in
    (has.0, has.1, (c.in-Ok.text.items, has.2, gives.0, gives.1))

pub returns-in-Ok-clause-small : goal.returns-in-Ok-clause-small
returns-in-Ok-clause-small c small =
    let has = c.in-Ok.ensures.ok in
    let needs = text_needed c.in-Ok.text.items c.deref.result.now c.args.out.now _ _ c.give_all.result c.deref.ensures.value c.give_all.ensures.gives small in
    (has.0, has.1, (c.in-Ok.text.items, has.2, needs.0, needs.1))

pub returns-in-Err-clause-refused : goal.returns-in-Err-clause-refused
returns-in-Err-clause-refused c _ _ =
    subst (λ told. StatRefused c.args.how c.args.image.now c.args.path.now told)
    (told_same c.in-Err.told c.tell.result c.tell.new.fault c.tell.ensures.status c.tell.ensures.address c.tell.ensures.detail) c.in-Err.ensures.err.due
