-- What a run of nodes leaves, and what is known once its links and inboxes are settled.
use Rattle.std.specs.Prelude.{◌≡◌, ◌||◌, ℕ, List, Bool}
use Rattle.cq_base.specs.declared.ask.Request.{Request}
use Rattle.cq_live.specs.within.Aparts.{Server, Master, Client, IsApart}
use Rattle.cq_live.specs.declared.apart.Apart.{Apart}
use Rattle.cq_chain.specs.declared.message.Message.{Message}
use Rattle.cq_link.specs.Inboxes.{put_in, take_inbox}
use Rattle.cq_link.specs.Links.{putter_link, taker_link, put_on, taken_from}
use Rattle.cq_link.specs.declared.inbox.InPut.{InPut}
use Rattle.cq_link.specs.declared.inbox.InTake.{InTake}
use Rattle.cq_link.specs.declared.link.Putter.{Putter}
use Rattle.cq_link.specs.declared.link.Taker.{Taker}
use Rattle.cq_nodes.specs.ClientNodes.{IsSameClient}
use Rattle.cq_nodes.specs.MasterNodes.{IsSameNode}
use Rattle.cq_live.specs.declared.nodes.LiveNodes.{LiveNodes}
use Rattle.cq_live.specs.declared.settle.Ended.{Ended}
use Rattle.cq_live.specs.Ended.{Nodes, HaveEnded, AreOf}
use Rattle.cq_live_plan.specs.declared.step.LiveStep.{LiveStep}
use Rattle.cq_threads.specs.SameNodes.{AreSame}
use Rattle.cq_link.specs.Clients as clients
use Rattle.cq_link.specs.Clients.{requests_in, seat_of}
use Rattle.cq_link.specs.Wirings as links

-- Nodes that came back from their threads, with ends of the same links, left this. It is known whether memory was wanting for
-- the master or a client.
pub record WasRun (live : LiveNodes) (apart : Apart) (short : Bool) : Type 0 where
  pub master : Master
  pub servers : List Server
  pub first : Client
  pub second : Client
  pub same_master : IsSameNode putter_link taker_link live.nodes.master master
  pub same_servers : AreSame putter_link taker_link take_inbox live.nodes.servers.items servers
  pub same_first : IsSameClient seat_of taker_link live.nodes.first first
  pub same_second : IsSameClient seat_of taker_link live.nodes.second second
  pub left : IsApart master live.own servers first second apart
  pub memory : short ≡ (master.starved || first.starved || second.starved)

-- All links and inboxes have handed over what they did, in order, and what nodes left is the same.
pub record IsSettled (apart : Apart) (ended : Ended) : Type 0 where
  pub delivered : links.HaveDelivered apart.ports.items
  pub served : clients.HaveServed apart.wires
  pub traces : ended.traces ≡ apart.traces
  pub first : ended.first ≡ apart.first
  pub second : ended.second ≡ apart.second
  pub starved : ended.starved ≡ apart.starved

-- There are nodes that have ended a live run of the steps, which left this.
pub record HasEnded (size : ℕ) (steps : List LiveStep) (ended : Ended) : Type 0 where
  pub count : ℕ
  pub nodes : Nodes (Putter Message) (Taker Message) (InTake Request) (InPut Request)
  pub known : HaveEnded put_on taken_from requests_in put_in count size steps nodes ended.starved.items
  pub traces : AreOf ended.traces.items nodes
  pub first : ended.first.items ≡ nodes.first.closed
  pub second : ended.second.items ≡ nodes.second.closed
