-- Which links and inboxes the ends between servers and the two clients are of, and what was put and taken.
use Rattle.std.specs.Prelude.{◌≡◌, ℕ, Bool, true, false, List, [], length, map, slice_get, Some}
use Rattle.std.specs.List.{All}
use Rattle.cq_base.specs.Relations.{IsPrefix}
use Rattle.cq_base.specs.declared.ask.Request.{Request}
use Rattle.cq_link.specs.declared.inbox.InPut.{InPut}
use Rattle.cq_link.specs.declared.inbox.InTake.{InTake}
use Rattle.cq_link.specs.declared.link.Taker.{Taker}
use Rattle.cq_link.specs.Tags.{of}
use Rattle.cq_link.specs.declared.rule.Tagged.{Tagged}
use Rattle.cq_link.specs.Links.{putter_link, taker_link, put_on, taken_from}
use Rattle.cq_link.specs.Inboxes.{InboxId, put_inbox, take_inbox, is_second, put_in, taken_in}
use Rattle.cq_link.specs.declared.clients.ServerPorts.{ServerPorts}
use Rattle.cq_link.specs.declared.clients.ClientWires.{ClientWires}

-- the inbox that an end is of, and whether it is the second of the two on which requests are put
abbrev pub seat_of : InPut Request → InboxId Request × Bool
seat_of out = (put_inbox out, is_second out)

-- the requests that were taken from an inbox, in order
abbrev pub requests_in : InTake Request → List Request
requests_in inbox = map (λ x. x.item) (taken_in inbox)

-- Of requests each is of one of two lists. Those of each list are a prefix of it, in its order.
pub record AreOfBoth (requests one two : List Request) : Type 0 where
  pub tagged : List (Tagged Request)
  pub items : requests ≡ map (λ x. x.item) tagged
  pub first : IsPrefix (of false tagged) one
  pub second : IsPrefix (of true tagged) two

module _ {T : Type 0} where
  -- Each end at a server and the end of a client at its place are of one link, or of one inbox: that of the first
  -- client is the first end of the inbox, that of the second client its second.
  pub record AreTied (wires : ClientWires T) : Type 0 where
    pub first_links : map (λ s. putter_link s.first) wires.servers.items ≡ map taker_link wires.first.ins.items
    pub second_links : map (λ s. putter_link s.second) wires.servers.items ≡ map taker_link wires.second.ins.items
    pub first_inboxes : map (λ s. (take_inbox s.inbox, false)) wires.servers.items ≡ map seat_of wires.first.outs.items
    pub second_inboxes : map (λ s. (take_inbox s.inbox, true)) wires.servers.items ≡ map seat_of wires.second.outs.items

  -- nothing was put on any of these, and nothing was taken
  pub record AreFresh (wires : ClientWires T) : Type 0 where
    pub servers : All (λ s. (put_on s.first ≡ []) × (put_on s.second ≡ []) × (taken_in s.inbox ≡ [])) wires.servers.items
    pub first_outs : All (λ out. put_in out ≡ []) wires.first.outs.items
    pub first_ins : All (λ end. taken_from end ≡ []) wires.first.ins.items
    pub second_outs : All (λ out. put_in out ≡ []) wires.second.outs.items
    pub second_ins : All (λ end. taken_from end ≡ []) wires.second.ins.items

  -- so many servers, and as many ends at each client
  pub record AreOf (count : ℕ) (wires : ClientWires T) : Type 0 where
    pub servers : length wires.servers.items ≡ count
    pub first_outs : length wires.first.outs.items ≡ count
    pub first_ins : length wires.first.ins.items ≡ count
    pub second_outs : length wires.second.outs.items ≡ count
    pub second_ins : length wires.second.ins.items ≡ count

  -- For each server: what a client took is a prefix of what the server put, and of the requests that the server took those
  -- of each client are a prefix of what that client put.
  pub record HaveServed (wires : ClientWires T) : Type 0 where
    pub to_first : (i : ℕ) (s : ServerPorts T) (end : Taker T) → slice_get wires.servers.items i ≡ Some s → slice_get wires.first.ins.items i ≡ Some end
        → IsPrefix (taken_from end) (put_on s.first)
    pub to_second : (i : ℕ) (s : ServerPorts T) (end : Taker T) → slice_get wires.servers.items i ≡ Some s → slice_get wires.second.ins.items i ≡ Some end
        → IsPrefix (taken_from end) (put_on s.second)
    pub requests : (i : ℕ) (s : ServerPorts T) (one two : InPut Request) → slice_get wires.servers.items i ≡ Some s
        → slice_get wires.first.outs.items i ≡ Some one → slice_get wires.second.outs.items i ≡ Some two → AreOfBoth (requests_in s.inbox) (put_in one) (put_in two)
