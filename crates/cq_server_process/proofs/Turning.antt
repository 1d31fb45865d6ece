-- One turn more, of a server, and the turns of all parties.
use Rattle.std.proofs.Common.{◌≡◌, ℕ, ◌∙◌, ap, sym, refl, subst, List, [], ◌∷◌, ◌++◌, append-nil, append_assoc, Option, None, Some, Result, Ok, Err}
use Rattle.std.specs.Prelude.{IfOk}
use Rattle.cq_base.specs.declared.party.Party.{Party}
use Rattle.cq_base.specs.declared.party.Party.TheVariants.{Master, Clients, Server}
use Rattle.cq_frames.specs.declared.response.Response.{Response}
use Rattle.cq_server_process.specs.declared.turn.Stop.{Stop}
use Rattle.cq_server_process.specs.Rounds.{AreInTurn, IsDue, OneTurn, TellsRounds, TellsServers, TellsSome, first_waiting, told_in, waiting_behind}
use Rattle.cq_server_process.specs.Turns.{At, HasTurn, TellsOf, frames}
use Rattle.cq_server_process.proofs.Sending.{told-behind}

told-append : (xs ys : List OneTurn) → told_in (xs ++ ys) ≡ told_in xs ++ told_in ys
told-append [] ys = refl
told-append (x ∷ xs) ys = ap (λ zs. x.told ++ zs) (told-append xs ys) ∙ sym (append_assoc x.told (told_in xs) (told_in ys))

waiting-last : (first : Option Party) (xs : List OneTurn) (one : OneTurn) → waiting_behind first (xs ++ one ∷ []) ≡ first_waiting (waiting_behind first xs) (Server one.id) one.stop
waiting-last first [] one = refl
waiting-last first (x ∷ xs) one = waiting-last (first_waiting first (Server x.id) x.stop) xs one

in-turn-last : (gone : List Party) (after : Option ℕ) (a : At) (turns : List OneTurn) (last : Option ℕ) (m b : At) (one : OneTurn) → AreInTurn gone after a turns last m → IsDue last m (Some one.id) → HasTurn gone (Server one.id) m b one.told one.stop
    → AreInTurn gone after a (turns ++ one ∷ []) (Some one.id) b
in-turn-last gone after a [] last m b one are due turn = (b, (subst (λ l. IsDue l a (Some one.id)) are.0 (subst (λ x. IsDue last x (Some one.id)) are.1 due), (subst (λ x. HasTurn gone (Server one.id) x b one.told one.stop) are.1 turn, (refl, refl))))
in-turn-last gone after a (x ∷ turns) last m b one are due turn = (are.0, (are.1.0, (are.1.1.0, in-turn-last gone (Some x.id) are.0 turns last m b one are.1.1.1 due turn)))

pub none-in-turn : (gone : List Party) (before : Option Party) (a : At) (old : List ℕ) → TellsSome gone before a None a before old old
none-in-turn gone before a old = ([], (sym (append-nil old), ((refl, refl), refl)))

pub one-in-turn : (gone : List Party) (before : Option Party) (a m b : At) (last : Option ℕ) (id : ℕ) (stop : Stop) (first : Option Party) (old mid new : List ℕ) → TellsSome gone before a last m first old mid → IsDue last m (Some id) → TellsOf gone (Server id) m b stop mid new
    → TellsSome gone before a (Some id) b (first_waiting first (Server id) stop) old new
one-in-turn gone before a m b last id stop first old mid new some due turn =
    let one : OneTurn = record { id = id; told = turn.0; stop = stop } in
    let told : told_in (some.0 ++ one ∷ []) ≡ told_in some.0 ++ turn.0 = told-append some.0 (one ∷ []) ∙ ap (λ xs. told_in some.0 ++ xs) (append-nil turn.0) in (
      some.0 ++ one ∷ [],
      (
        told-behind old mid new (told_in some.0) turn.0 some.1.0 turn.1.0 ∙ ap (λ xs. old ++ frames xs) (sym told),
        (
          in-turn-last gone None a some.0 last m b one some.1.1.0 due turn.1.1,
          ap (λ f. first_waiting f (Server id) stop) some.1.1.1 ∙ sym (waiting-last before some.0 one),
        ),
      ),
    )

pub all-in-turn : (gone : List Party) (before : Option Party) (a b : At) (last : Option ℕ) (first : Option Party) (old new : List ℕ) → TellsSome gone before a last b first old new → IsDue last b None → TellsServers gone before a b first old new
all-in-turn gone before a b last first old new some none = (told_in some.0, (some.1.0, record { turns = some.0; last = last; are = some.1.1.0; all = none; is = refl; waits = some.1.1.1 }))

-- clients, the master and all servers
pub rounds-told : {F : Type 0} (gone : List Party) (before : Option Party) (a b c d : At) (clients_stop master_stop : Stop) (old mid more new : List ℕ) (r : Result (Option Party) F) → TellsOf gone Clients a b clients_stop old mid → TellsOf gone Master b c master_stop mid more
    → IfOk r (λ first. TellsServers gone (first_waiting (first_waiting before Clients clients_stop) Master master_stop) c d first more new) → IfOk r (λ first. TellsRounds gone before a d first old new)
rounds-told gone before a b c d clients_stop master_stop old mid more new (Err fault) clients master servers = tt
rounds-told gone before a b c d clients_stop master_stop old mid more new (Ok first) clients master servers = (
  clients.0 ++ (master.0 ++ servers.0),
  (
    told-behind old mid new clients.0 (master.0 ++ servers.0) clients.1.0 (told-behind mid more new master.0 servers.0 master.1.0 servers.1.0),
    record {
      b = b;
      to_clients = clients.0;
      clients_stop = clients_stop;
      clients = clients.1.1;
      c = c;
      to_master = master.0;
      master_stop = master_stop;
      master = master.1.1;
      to_servers = servers.0;
      servers = servers.1.1;
      is = refl;
    },
  ),
)
