use Rattle.std.proofs.Common.{◌≡◌, None, take}
use Rattle.cq_json.specs.Flat.{last_named}
use Rattle.cq_json.specs.Keys.{key_text}
use Rattle.cq_json.proofs.flat.last_named.Given as goal

abbrev pub invariant-loop-member : goal.invariant-loop-member
invariant-loop-member l = l.found ≡ last_named (key_text l.key) None (take l.member-index l.members)
