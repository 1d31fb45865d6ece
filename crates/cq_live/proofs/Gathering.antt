-- What is left of servers, one after another.
use Rattle.std.proofs.Common.{◌≡◌, ◌⊎◌, ℕ, zero, suc, ◌∙◌, ap, sym, subst, refl, List, [], ◌∷◌, ◌++◌, map, slice_get, Bool, true, false, inl, inr, Some}
use Rattle.std.proofs.lemmas.List.{append_assoc, append-nil, map_push}
use Rattle.std.proofs.lemmas.Option.{same_Some, none-some}
use Rattle.cq_base.proofs.Among.{among-append, among-left, among-right}
use Rattle.cq_base.specs.Relations.{Among}
use Rattle.cq_base.specs.declared.party.Party.TheVariants as parties
use Rattle.cq_chain.specs.declared.message.Message.{Message}
use Rattle.cq_chain.specs.declared.message.Answer.{Answer}
use Rattle.cq_link.specs.Inboxes.{put_in}
use Rattle.cq_link.specs.Links.{put_on, taken_from}
use Rattle.cq_nodes.specs.ClientNodes.{ClientDid}
use Rattle.cq_nodes.specs.Ends.{ends_of, in_ends_of, unread_in}
use Rattle.cq_nodes.specs.MasterNodes.{MasterLived}
use Rattle.cq_nodes.specs.Nodes.{held_in, Tells}
use Rattle.cq_link.specs.Clients.{requests_in}
use Rattle.cq_link.specs.declared.clients.ClientPorts.{ClientPorts}
use Rattle.cq_link.specs.declared.clients.ServerPorts.{ServerPorts}
use Rattle.cq_link.specs.declared.ports.Ports.{Ports}
use Rattle.cq_events.specs.declared.event.Event.{Event}
use Rattle.cq_events.specs.declared.trace.Trace.{Trace}
use Rattle.cq_live.specs.within.Aparts.{Server, Parts, Master, Ends, Client, Own, starved_part, starved_in, LeavesMaster, LeavesServers, LeavesClient, AreGathered, IsApart}
use Rattle.cq_live.specs.declared.apart.Apart.{Apart}
use Rattle.cq_live.specs.declared.apart.Piece.{Piece}
use Rattle.cq_live.specs.within.Adding.{Left, AreOf, HasNoServer, IsPieceOf, HasOneMore}
use Rattle.cq_live.proofs.Iterating.{each_push}

-- ---- starved servers

pub starved_push : (parts : List Parts) (p : Parts) → starved_in (parts ++ p ∷ []) ≡ starved_in parts ++ starved_part p.id p.starved
starved_push [] p = append-nil (starved_part p.id p.starved)
starved_push (q ∷ parts) p = ap (λ ids. starved_part q.id q.starved ++ ids) (starved_push parts p) ∙ sym (append_assoc (starved_part q.id q.starved) (starved_in parts) (starved_part p.id p.starved))

one_starved : (id : ℕ) (starved : Bool) → starved ≡ true → Among id (starved_part id starved)
one_starved id true is = inl refl
one_starved id false is = cc

pub among_starved : (parts : List Parts) (place : ℕ) (p : Parts) → slice_get parts place ≡ Some p → p.starved ≡ true → Among p.id (starved_in parts)
among_starved [] place p at is = absurd (none-some p at)
among_starved (q ∷ parts) zero p at is = among-left p.id (starved_part q.id q.starved) (starved_in parts)
    (subst (λ (r : Parts). Among p.id (starved_part r.id r.starved)) (sym (same_Some q p at)) (one_starved p.id p.starved is))
among_starved (q ∷ parts) (suc place) p at is = among-right p.id (starved_part q.id q.starved) (starved_in parts) (among_starved parts place p at is)

all_among : (parts : List Parts) (ids : List ℕ) → ids ≡ starved_in parts → (place : ℕ) (p : Parts) → slice_get parts place ≡ Some p → p.starved ≡ true → Among p.id ids
all_among parts ids e place p at is = subst (Among p.id) (sym e) (among_starved parts place p at is)

-- who is named found no memory
one_named : (n : ℕ) (starved : Bool) (id : ℕ) → Among id (starved_part n starved) → (id ≡ n) × (starved ≡ true)
one_named n true id (inl is) = (is, refl)
one_named n true id (inr nothing) = absurd nothing
one_named n false id h = absurd h

pub starved_named : (parts : List Parts) (id : ℕ) → Among id (starved_in parts) → (i : ℕ) × (p : Parts) × (slice_get parts i ≡ Some p) × (p.id ≡ id) × (p.starved ≡ true)
starved_named [] id h = absurd h
starved_named (q ∷ parts) id h = go (among-append id (starved_part q.id q.starved) (starved_in parts) h) (starved_named parts id) where
  go : Among id (starved_part q.id q.starved) ⊎ Among id (starved_in parts) → (Among id (starved_in parts) → (i : ℕ) × (p : Parts) × (slice_get parts i ≡ Some p) × (p.id ≡ id) × (p.starved ≡ true))
      → (i : ℕ) × (p : Parts) × (slice_get (q ∷ parts) i ≡ Some p) × (p.id ≡ id) × (p.starved ≡ true)
  go (inl here) rest = let own = one_named q.id q.starved id here in (0, q, refl, sym own.0, own.1)
  go (inr later) rest = let r = rest later in (suc r.0, r.1, r.2, r.3, r.4)

-- ---- one server more

-- what is gathered in a list of records, where one more is added
wired_push : {X Y Z : Type 0} (f : X → Y) (g : Z → Y) (xs : List X) (x : X) (before after : List Z) (z : Z) → after ≡ before ++ z ∷ [] → g z ≡ f x → map g before ≡ map f xs → map g after ≡ map f (xs ++ x ∷ [])
wired_push f g xs x before after z e same is = ap (map g) e ∙ map_push g before z ∙ ap (λ y. map g before ++ y ∷ []) same ∙ ap (λ ys. ys ++ f x ∷ []) is ∙ sym (map_push f xs x)

-- the same behind a first one
behind_push : {X Y Z : Type 0} (f : X → Y) (g : Z → Y) (first : Y) (xs : List X) (x : X) (before after : List Z) (z : Z) → after ≡ before ++ z ∷ [] → g z ≡ f x → map g before ≡ first ∷ map f xs → map g after ≡ first ∷ map f (xs ++ x ∷ [])
behind_push f g first xs x before after z e same is = ap (map g) e ∙ map_push g before z ∙ ap (λ y. map g before ++ y ∷ []) same ∙ ap (λ ys. ys ++ f x ∷ []) is ∙ ap (λ ys. first ∷ ys) (sym (map_push f xs x))

pub gathered_none : (ends : Ends) (own : Own) (first second : Left) (apart : Apart) → HasNoServer ends own first second apart → AreGathered ends own [] apart
gathered_none ends own first second apart none = record {
  outs = none.outs;
  ins = none.ins;
  firsts = ap (map (λ (w : ServerPorts Message). w.first)) none.wires;
  seconds = ap (map (λ (w : ServerPorts Message). w.second)) none.wires;
  inboxes = ap (map (λ (w : ServerPorts Message). w.inbox)) none.wires;
  parties = none.parties;
  events = none.events;
  starved = none.starved;
  all_starved = all_among [] apart.starved.items none.starved;
}

pub gathered_more : (ends : Ends) (own : Own) (parts : List Parts) (p : Parts) (piece : Piece) (old new : Apart) → IsPieceOf p piece → HasOneMore piece old new → AreGathered ends own parts old → AreGathered ends own (parts ++ p ∷ []) new
gathered_more ends own parts p piece old new its more before =
    let same : starved_part piece.id piece.starved ≡ starved_part p.id p.starved = ap (λ id. starved_part id piece.starved) its.id ∙ ap (λ b. starved_part p.id b) its.starved in
    let starved : new.starved.items ≡ starved_in (parts ++ p ∷ []) = more.starved ∙ ap (λ ids. old.starved.items ++ ids) same ∙ ap (λ ids. ids ++ starved_part p.id p.starved) before.starved ∙ sym (starved_push parts p) in
    record {
      outs = behind_push (λ (s : Parts). ends_of s.outs.items) (λ (t : Ports Message). t.outs.items) (own.0 ∷ ends_of ends.outs.items) parts p old.ports.items new.ports.items piece.port more.ports its.outs before.outs;
      ins = behind_push (λ (s : Parts). in_ends_of s.ins.items) (λ (t : Ports Message). t.ins.items) (own.1 ∷ in_ends_of ends.ins.items) parts p old.ports.items new.ports.items piece.port more.ports its.ins before.ins;
      firsts = wired_push (λ (s : Parts). s.clients.first) (λ (w : ServerPorts Message). w.first) parts p old.wires.servers.items new.wires.servers.items piece.wires more.wires its.first before.firsts;
      seconds = wired_push (λ (s : Parts). s.clients.second) (λ (w : ServerPorts Message). w.second) parts p old.wires.servers.items new.wires.servers.items piece.wires more.wires its.second before.seconds;
      inboxes = wired_push (λ (s : Parts). s.inbox) (λ (w : ServerPorts Message). w.inbox) parts p old.wires.servers.items new.wires.servers.items piece.wires more.wires its.inbox before.inboxes;
      parties = behind_push (λ (s : Parts). parties.Server s.id) (λ (t : Trace). t.party) parties.Master parts p old.traces.items new.traces.items piece.trace more.traces its.party before.parties;
      events = behind_push (λ (s : Parts). s.trace.items) (λ (t : Trace). t.events.items) ends.trace.items parts p old.traces.items new.traces.items piece.trace more.traces its.events before.events;
      starved = starved;
      all_starved = all_among (parts ++ p ∷ []) new.starved.items starved;
    }

pub left_none : LeavesServers [] []
left_none = record { held = refl; told = λ place p at. absurd (none-some p at) }

pub left_more : (servers : List Server) (parts : List Parts) (p : Parts) (server : Server) → held_in p ≡ server → Tells put_on taken_from requests_in p → LeavesServers servers parts → LeavesServers (servers ++ server ∷ []) (parts ++ p ∷ [])
left_more servers parts p server held tells before = record {
  held = map_push held_in parts p ∙ ap (λ xs. xs ++ held_in p ∷ []) before.held ∙ ap (λ (s : Server). servers ++ s ∷ []) held;
  told = each_push (λ (s : Parts). Tells put_on taken_from requests_in s) parts p before.told tells;
}

-- ---- the master and the clients

pub leaves_master : (master : Master) (ends : Ends) → MasterLived put_on taken_from master.size master.joins ends.outs.items ends.ins.items master.trace → ends_of ends.outs.items ≡ master.outs → in_ends_of ends.ins.items ≡ master.ins
    → unread_in ends.ins.items ≡ master.unread → ends.trace.items ≡ master.trace → LeavesMaster master ends
leaves_master master ends lived outs ins unread trace = record {
  lived = subst (λ (es : List Event). MasterLived put_on taken_from master.size master.joins ends.outs.items ends.ins.items es) (sym trace) lived;
  outs = outs;
  ins = ins;
  unread = unread;
  trace = trace;
}

pub leaves_client : (client : Client) (left : Left) (ports : ClientPorts Message) (answers : List Answer) → ClientDid put_in taken_from client → AreOf left ports → answers ≡ left.closed.items
    → left.outs.items ≡ client.outs → left.ins.items ≡ client.ins → left.closed.items ≡ client.closed → LeavesClient client ports answers
leaves_client client left ports answers did same closed its_outs its_ins its_closed = record {
  did = did;
  outs = same.0 ∙ its_outs;
  ins = same.1 ∙ its_ins;
  closed = closed ∙ its_closed;
}

-- ---- all of it

pub apart_none : (master : Master) (own : Own) (first second : Client) (ends : Ends) (one two : Left) (apart : Apart) → HasNoServer ends own one two apart → LeavesMaster master ends
    → LeavesClient first apart.wires.first apart.first.items → LeavesClient second apart.wires.second apart.second.items → IsApart master own [] first second apart
apart_none master own first second ends one two apart none its_master its_first its_second = record {
  ends = ends;
  parts = [];
  its_master = its_master;
  its_servers = left_none;
  gathered = gathered_none ends own one two apart none;
  its_first = its_first;
  its_second = its_second;
}

-- a client's are the same where its fields are
same_client : (client : Client) (old new : ClientPorts Message) (before after : List Answer) → new ≡ old → after ≡ before → LeavesClient client old before → LeavesClient client new after
same_client client old new before after ports answers leaves = record {
  did = leaves.did;
  outs = ap (λ (p : ClientPorts Message). p.outs.items) ports ∙ leaves.outs;
  ins = ap (λ (p : ClientPorts Message). p.ins.items) ports ∙ leaves.ins;
  closed = answers ∙ leaves.closed;
}

pub apart_more : (master : Master) (own : Own) (servers : List Server) (first second : Client) (p : Parts) (server : Server) (piece : Piece) (old new : Apart) → IsPieceOf p piece → HasOneMore piece old new → held_in p ≡ server → Tells put_on taken_from requests_in p
    → IsApart master own servers first second old → IsApart master own (servers ++ server ∷ []) first second new
apart_more master own servers first second p server piece old new its more held tells before = record {
  ends = before.ends;
  parts = before.parts ++ p ∷ [];
  its_master = before.its_master;
  its_servers = left_more servers before.parts p server held tells before.its_servers;
  gathered = gathered_more before.ends own before.parts p piece old new its more before.gathered;
  its_first = same_client first old.wires.first new.wires.first old.first.items new.first.items more.first_ends (ap (λ xs. xs.items) more.first_closed) before.its_first;
  its_second = same_client second old.wires.second new.wires.second old.second.items new.second.items more.second_ends (ap (λ xs. xs.items) more.second_closed) before.its_second;
}
