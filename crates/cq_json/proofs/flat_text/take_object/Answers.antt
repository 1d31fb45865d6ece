use Rattle.cq_json.proofs.FlatText.{flat_said, nested_said, on_some}
use Rattle.cq_json.proofs.flat_text.take_object.Goals as goal

pub returns-in-End-default : goal.returns-in-End-default
returns-in-End-default c =
    let takes = rw (c.in-End-default.is-0, c.requires.members) at c.in_ok-rest.ensures in
    rw c.requires.inner (
    on_some c.ended.result (flat_said c.args.text.now c.in_ok-rest.field-0.1.now c.take_members.new.members.items c.utf8.text takes) c.ended.ensures
    )

pub returns-in_ok-take_rest-in-Inner-default : goal.returns-in_ok-take_rest-in-Inner-default
returns-in_ok-take_rest-in-Inner-default c =
    let prefix = rw (c.in-Inner-default.is-0, c.requires.members) at c.in_ok-rest.ensures in
    let within = rw c.requires.inner at c.in_ok-rest-in-Inner-default.ensures in
    on_some c.ended-in-Inner-default.result
    (nested_said c.args.text.now c.in_ok-rest.field-0.1.now c.in_ok-rest-in-Inner-default.rest.now c.in_ok-take_rest-in-Inner-default.field-0.now c.take_members.new.members.items
    c.take_rest.new.members.items c.take_rest-in-Inner-default.new.members.items c.utf8.text prefix within c.in_ok-take_rest-in-Inner-default.ensures)
    c.ended-in-Inner-default.ensures
