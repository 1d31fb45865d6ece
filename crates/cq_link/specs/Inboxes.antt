-- What a contract sees of the ends of an inbox.
use Rattle.std.specs.Prelude.{Bool, List, length, drop}
use Rattle.atomic_table.specs.Seated.{TableId}
use Rattle.atomic_table.specs.declared.badge.Badge.{Badge}
use Rattle.crossbeam_channel.specs.declared.flavors.array.Key.{Key}
use Rattle.crossbeam_channel.specs.Claims.{view}
use Rattle.cq_link.specs.declared.rule.Tagged.{Tagged}
use Rattle.cq_link.specs.declared.inbox.InPut.{InPut}
use Rattle.cq_link.specs.declared.inbox.InTake.{InTake}
use Rattle.cq_link.specs.declared.inbox.InLeft.{InLeft}
use Rattle.cq_link.specs.Tags.{of, put_by}

-- Which inbox it is: by its table of passes, and the key that belongs to it.
abbrev pub InboxId : Type 0 → Type 0
InboxId T = TableId × Badge (Key (Tagged T))

module _ {T : Type 0} where
  -- the inbox of an end
  abbrev pub put_inbox : InPut T → InboxId T
  put_inbox p = (p.pass.table_id, p.pass.me.0.of)

  abbrev pub take_inbox : InTake T → InboxId T
  take_inbox t = (t.pass.table_id, t.pass.me.0.of)

  -- whether it is the second of the two ends on which items are put
  abbrev pub is_second : InPut T → Bool
  is_second p = p.second

  -- what was put on this end so far, in order
  abbrev pub put_in : InPut T → List T
  put_in p = put_by p.second (view p.pass)

  -- what was taken so far, in order, each with the end on which it was put
  abbrev pub taken_in : InTake T → List (Tagged T)
  taken_in t = (view t.pass).got

  -- what was put on one end and isn't taken, in order: `true` stands for the second end
  abbrev pub left_in : Bool → InLeft T → List T
  left_in second l = drop (length (of second (view l.pass).got)) (put_by second (view l.pass))
