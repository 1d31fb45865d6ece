use Rattle.cq_json.specs.Keys.{key_text}
use Rattle.cq_json.proofs.FlatMembers.{last_named-next}
use Rattle.cq_json.proofs.flat.last_named.Goals.{then-is, else-is}
use Rattle.cq_json.proofs.flat.last_named.Goals as goal

pub loop-member-preserved : goal.loop-member-preserved
loop-member-preserved c =
    let next = last_named-next (key_text c.args.key) c.args.members.now c.loop-member.member-index _ c.loop-member.found c.if-is.found c.is.result c.loop-member-test.true c.loop-member.invariant c.is.ensures in
    elim c.if-is.branch [
      | then-is w ↦ next (rw w.if-is.true w.found-is)
      | else-is w ↦ next (rw w.if-is.false w.found-is)
    ]
