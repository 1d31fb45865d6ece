-- What a contract sees of the ends of a link.
use Rattle.std.specs.Prelude.{List}
use denote.RawPtr.{Ptr}
use Rattle.std.specs.declared.alloc.Global.{Global}
use Rattle.rtrb.specs.Shared.{Names}
use Rattle.rtrb.specs.Ring.{sent, received, known_items}
use Rattle.cq_link.specs.declared.link.Putter.{Putter}
use Rattle.cq_link.specs.declared.link.Taker.{Taker}
use Rattle.cq_link.specs.declared.link.Left.{Left}

-- Which link it is: where its ring lies.
abbrev pub LinkId : Type 0
LinkId = Ptr × Ptr × Names × Global

module _ {T : Type 0} where
  -- the link of an end
  abbrev pub putter_link : Putter T → LinkId
  putter_link p = (p.producer.end.words, p.producer.end.slots, p.producer.end.names, p.producer.end.heap)

  abbrev pub taker_link : Taker T → LinkId
  taker_link t = (t.consumer.end.words, t.consumer.end.slots, t.consumer.end.names, t.consumer.end.heap)

  -- what was put on it so far, in order
  abbrev pub put_on : Putter T → List T
  put_on p = sent p.producer

  -- what was taken from it so far, in order
  abbrev pub taken_from : Taker T → List T
  taken_from t = received t.consumer

  -- what it knows to be there, in order
  abbrev pub known_to : Taker T → List T
  known_to t = known_items t.consumer

  -- what was put and isn't taken, in order
  abbrev pub left_on : Left T → List T
  left_on l = known_items l.consumer
