-- The ends at one server, and those of the two clients towards it.
use Rattle.std.specs.Prelude.{◌≡◌, [], true, false}
use Rattle.cq_link.specs.Links.{putter_link, taker_link, put_on, taken_from}
use Rattle.cq_link.specs.Inboxes.{take_inbox, put_in, taken_in}
use Rattle.cq_link.specs.declared.clients.ServerPorts.{ServerPorts}
use Rattle.cq_link.specs.declared.clients.ClientEnds.{ClientEnds}
use Rattle.cq_link.specs.Clients.{seat_of}

module _ {T : Type 0} where
  -- they are of the same links and of one inbox
  pub record IsTied (s : ServerPorts T) (one two : ClientEnds T) : Type 0 where
    pub first_link : putter_link s.first ≡ taker_link one.end
    pub second_link : putter_link s.second ≡ taker_link two.end
    pub first_inbox : (take_inbox s.inbox, false) ≡ seat_of one.out
    pub second_inbox : (take_inbox s.inbox, true) ≡ seat_of two.out

  -- nothing was put on any, and nothing was taken
  pub record IsFresh (s : ServerPorts T) (one two : ClientEnds T) : Type 0 where
    pub server : (put_on s.first ≡ []) × (put_on s.second ≡ []) × (taken_in s.inbox ≡ [])
    pub first_out : put_in one.out ≡ []
    pub first_end : taken_from one.end ≡ []
    pub second_out : put_in two.out ≡ []
    pub second_end : taken_from two.end ≡ []
