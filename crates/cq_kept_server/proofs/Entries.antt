-- Which entries a server has behind a frame: no others but for an arrival that happened, and then the one that the head of a chain makes of it.
use Rattle.std.proofs.Common.{◌≡◌, ℕ, ◌∙◌, ap, sym, refl, subst, if◌then◌else◌, List, [], ◌∷◌, ◌++◌, Bool, true, false, Option, Some, None, ◌⊎◌, inl, inr, Result, Ok, Err, map, length}
use Rattle.std.specs.Cmp.Lexicographic.{same_text}
use Rattle.std.specs.List.{AllByRecursion}
use Rattle.std.specs.Str.{bytes_eq}
use Rattle.std.proofs.lemmas.Bool.{cases_Bool, true≢false}
use Rattle.cq_base.specs.declared.ask.Entry.{Entry}
use Rattle.cq_base.specs.declared.ask.Query.{Query}
use Rattle.cq_base.specs.declared.ask.Request.{Request}
use Rattle.cq_base.specs.declared.party.Party.{Party}
use Rattle.cq_base.specs.declared.party.Party.TheVariants as parties
use Rattle.cq_chain.specs.declared.message.Message as rust
use Rattle.cq_chain.specs.declared.server.Server as rust_server
use Rattle.cq_chain.specs.Servers.{Server, acts}
use Rattle.cq_chain.specs.Steps.{appended, arrived, asked, settled, stamped}
use Rattle.cq_events.specs.Actions.{Action, Arrived, Asked, CoreState, Crashed, Detected, Joined, Put, Took}
use Rattle.cq_events.specs.Acts.{ServerActs}
use Rattle.cq_frames.specs.declared.command.Command.{Command}
use Rattle.cq_frames.specs.declared.command.Command.TheVariants as commands
use Rattle.cq_frames.specs.declared.number.PieceNumber.{PieceNumber}
use Rattle.cq_frames.specs.Layout.{command}
use Rattle.cq_frames.specs.Reading.{command_at}
use Rattle.cq_process_laws.specs.Deeds.{Acted, AllTo, AreTurns, Came, Deed, Ended, IsInTurns, Lost, Missed, Read, Rested, SendsTo, Threw, Told, actions_in, actions_of, in_turns}
use Rattle.cq_process_laws.specs.Runs.{BeginsWith, Done, IsCarriedOut, IsDone, IsRefusal, IsRefusedWith, PutsForNamed, core_of, state_of}
use Rattle.cq_process_laws.proofs.Answering.{answers-are-actions}
use Rattle.cq_process_laws.proofs.Turning.{all-both}
use Rattle.cq_server_copies.specs.declared.saving.SavingProcess.{SavingProcess}
use Rattle.cq_server_copies.specs.Saving as saving
use Rattle.cq_server_process.specs.Answers.{State}
use Rattle.cq_server_process.specs.Processes.{process_of}
use Rattle.cq_wire.specs.Layout.{whole}
use Rattle.cq_wire.specs.Reading.{whole_at}
use Rattle.cq_wire.proofs.Fronts.{ok_is}
use Rattle.cq_kept_server.specs.Servers.{CoreHas, HasEntries}
use Rattle.cq_kept_server.specs.Telling.{IsArrival}

-- ---- puts

abbrev IsPut : Action → Type 0
IsPut (Arrived clock request) = ⊥
IsPut (Asked query) = ⊥
IsPut (Put to x) = Unit {0}
IsPut (Took from x) = ⊥
IsPut (Crashed count) = ⊥
IsPut (Detected id) = ⊥
IsPut (Joined id) = ⊥

abbrev OnlyPuts : Deed → Type 0
OnlyPuts deed = AllByRecursion IsPut (actions_of deed)

abbrev AllPut : List Deed → Type 0
AllPut deeds = AllByRecursion OnlyPuts deeds

thrown-put : (to : Party) (messages : List rust.Message) → AllByRecursion IsPut (map (λ x. Put to x) messages)
thrown-put to [] = tt
thrown-put to (x ∷ messages) = (tt, thrown-put to messages)

sends-put : (to : Party) (gone : List Party) (deed : Deed) → SendsTo to gone deed → OnlyPuts deed
sends-put to gone Rested h = tt
sends-put to gone (Acted action) h = absurd h
sends-put to gone (Came from number piece) h = absurd h
sends-put to gone (Read from number piece message) h = absurd h
sends-put to gone (Missed from number piece code) h = absurd h
sends-put to gone (Lost party) h = absurd h
sends-put to gone (Told other number piece) h = tt
sends-put to gone (Ended other number piece message) h = (tt, tt)
sends-put to gone (Threw other messages) h = thrown-put other messages

all-put : (to : Party) (gone : List Party) (deeds : List Deed) → AllTo to gone deeds → AllPut deeds
all-put to gone [] h = tt
all-put to gone (deed ∷ deeds) h = (sends-put to gone deed h.0, all-put to gone deeds h.1)

turns-put : (gone : List Party) (turns : List (ℕ × List Deed)) → AreTurns gone turns → AllPut (in_turns turns)
turns-put gone [] h = tt
turns-put gone (turn ∷ turns) h = all-both OnlyPuts turn.1 (in_turns turns) (all-put (parties.Server turn.0) gone turn.1 h.0) (turns-put gone turns h.1)

rounds-put : (gone : List Party) (deeds : List Deed) → IsInTurns gone deeds → AllPut deeds
rounds-put gone deeds h =
    subst AllPut (sym h.is)
    (all-both OnlyPuts h.clients (h.master ++ in_turns h.servers) (all-put parties.Clients gone h.clients h.to_clients)
    (all-both OnlyPuts h.master (in_turns h.servers) (all-put parties.Master gone h.master h.to_master) (turns-put gone h.servers h.to_servers)))

named-put : (command : Command) (gone : List Party) (own : List Deed) → PutsForNamed command gone own → AllPut own
named-put (commands.Arrive stream clock request) gone own h = subst AllPut (sym h) tt
named-put (commands.Ask query) gone own h = subst AllPut (sym h) tt
named-put (commands.Take from number piece) gone own h = subst AllPut (sym h) tt
named-put (commands.Detect server) gone own h = subst AllPut (sym h) tt
named-put (commands.Join server) gone own h = subst AllPut (sym h) tt
named-put (commands.More to) gone own h = all-put to gone own h
named-put (commands.Gone server) gone own h = all-put (parties.Server server) gone own h
named-put commands.Save gone own h = subst AllPut (sym h) tt
named-put (commands.Load chunk) gone own h = subst AllPut (sym h) tt

actions-put : (deeds : List Deed) → AllPut deeds → AllByRecursion IsPut (actions_in deeds)
actions-put [] h = tt
actions-put (deed ∷ deeds) h = all-both IsPut (actions_of deed) (actions_in deeds) h.0 (actions-put deeds h.1)

-- by puts alone no entries come
puts-keep : (actions : List Action) (a b : CoreState rust_server.Server) (all : List Entry) → AllByRecursion IsPut actions → ServerActs a actions b → CoreHas a all → CoreHas b all
puts-keep [] a b all puts acts h = record { server = h.server; outbox = h.outbox; stands = acts h.server h.outbox h.stands; entries = h.entries }
puts-keep (Arrived clock request ∷ actions) a b all puts acts h = absurd puts.0
puts-keep (Asked query ∷ actions) a b all puts acts h = absurd puts.0
puts-keep (Put to x ∷ actions) a b all puts acts h =
    puts-keep actions acts.0 b all puts.1 acts.2 (record { server = h.server; outbox = _; stands = (acts.1.0 h.server h.outbox h.stands).1; entries = h.entries })
puts-keep (Took from x ∷ actions) a b all puts acts h = absurd puts.0
puts-keep (Crashed count ∷ actions) a b all puts acts h = absurd puts.0
puts-keep (Detected id ∷ actions) a b all puts acts h = absurd puts.0
puts-keep (Joined id ∷ actions) a b all puts acts h = absurd puts.0

deeds-keep : (deeds : List Deed) (a b : CoreState rust_server.Server) (all : List Entry) → AllPut deeds → ServerActs a (actions_in deeds) b → CoreHas a all → CoreHas b all
deeds-keep deeds a b all puts acts h = puts-keep (actions_in deeds) a b all (actions-put deeds puts) acts h

-- ---- requests and queries

settled-same : (s : Server) → (settled s).entries ≡ s.entries
settled-same s = elim (acts s) as (λ t. (if t then record s { acked = length s.entries; floor = length s.entries; full = true } else s).entries ≡ s.entries) [ true ↦ refl | false ↦ refl ]

arrived-entries : (clock : ℕ) (request : Request) (s : Server) → (arrived clock request s).server.entries ≡ s.entries ++ stamped s.entries clock request ∷ []
unfolding arrived
arrived-entries clock request s = settled-same (appended s (stamped s.entries clock request))

asked-entries : (query : Query) (s : Server) → (asked query s).server.entries ≡ s.entries
unfolding asked
asked-entries query s = refl

-- an arrival, and then puts
arrival-has : (clock : ℕ) (request : Request) (deeds : List Deed) (a b : CoreState rust_server.Server) (all : List Entry) → AllPut deeds → ServerActs a (Arrived clock request ∷ actions_in deeds) b
    → CoreHas a all → CoreHas b (all ++ stamped all clock request ∷ [])
arrival-has clock request deeds a b all puts acts h =
    deeds-keep deeds acts.0 b (all ++ stamped all clock request ∷ []) puts acts.2
    (record {
      server = (arrived clock request h.server).server;
      outbox = _;
      stands = acts.1.0 h.server h.outbox h.stands;
      entries = arrived-entries clock request h.server ∙ ap (λ (l : List Entry). l ++ stamped l clock request ∷ []) h.entries;
    })

query-keeps : (query : Query) (deeds : List Deed) (a b : CoreState rust_server.Server) (all : List Entry) → AllPut deeds → ServerActs a (Asked query ∷ actions_in deeds) b → CoreHas a all → CoreHas b all
query-keeps query deeds a b all puts acts h =
    deeds-keep deeds acts.0 b all puts acts.2
    (record { server = (asked query h.server).server; outbox = _; stands = acts.1.0 h.server h.outbox h.stands; entries = asked-entries query h.server ∙ h.entries })

-- ---- a frame

-- the entries behind an arrival that happened
abbrev HasArrived : List ℕ → CoreState rust_server.Server → List Entry → Type 0
HasArrived bytes b all = (stream : ℕ) × ((clock : ℕ) × ((request : Request) × (IsArrival bytes stream clock request × CoreHas b (all ++ stamped all clock request ∷ []))))

-- no entry came, or that of the arrival
abbrev Comes : List ℕ → CoreState rust_server.Server → List Entry → Type 0
Comes bytes b all = CoreHas b all ⊎ HasArrived bytes b all

-- it is no piece of another one
abbrev pub TakesNone : List ℕ → Type 0
TakesNone bytes = (from : Party) (number : PieceNumber) (piece : List ℕ) → whole_at command_at bytes ≡ Ok (commands.Take from number piece) → ⊥

begun-has : (bytes : List ℕ) (one : Command) (first rest : List Deed) (a b : CoreState rust_server.Server) (all : List Entry) → whole_at command_at bytes ≡ Ok one → TakesNone bytes → BeginsWith one first → AllPut rest
    → ServerActs a (actions_in (first ++ rest)) b → CoreHas a all → Comes bytes b all
begun-has bytes (commands.Arrive stream clock request) first rest a b all read none begins puts acts h =
    inr (stream, (clock, (request, (record { read = read }, arrival-has clock request rest a b all puts (subst (λ (f : List Deed). ServerActs a (actions_in (f ++ rest)) b) begins acts) h))))
begun-has bytes (commands.Ask query) first rest a b all read none begins puts acts h = inl (query-keeps query rest a b all puts (subst (λ (f : List Deed). ServerActs a (actions_in (f ++ rest)) b) begins acts) h)
begun-has bytes (commands.Take from number piece) first rest a b all read none begins puts acts h = absurd (none from number piece read)
begun-has bytes (commands.Detect server) first rest a b all read none begins puts acts h = absurd begins
begun-has bytes (commands.Join server) first rest a b all read none begins puts acts h = absurd begins
begun-has bytes (commands.More to) first rest a b all read none begins puts acts h = inl (deeds-keep rest a b all puts (subst (λ (f : List Deed). ServerActs a (actions_in (f ++ rest)) b) begins acts) h)
begun-has bytes (commands.Gone server) first rest a b all read none begins puts acts h = inl (deeds-keep rest a b all puts (subst (λ (f : List Deed). ServerActs a (actions_in (f ++ rest)) b) begins acts) h)
begun-has bytes commands.Save first rest a b all read none begins puts acts h = absurd begins
begun-has bytes (commands.Load chunk) first rest a b all read none begins puts acts h = absurd begins

refused-put : (bytes : List ℕ) (one : Command) (code : ℕ) (deeds : List Deed) → whole_at command_at bytes ≡ Ok one → TakesNone bytes → IsRefusedWith one code deeds → AllPut deeds
refused-put bytes (commands.Arrive stream clock request) code deeds read none h = subst AllPut (sym h) (tt, tt)
refused-put bytes (commands.Ask query) code deeds read none h = subst AllPut (sym h) (tt, tt)
refused-put bytes (commands.Take from number piece) code deeds read none h = absurd (none from number piece read)
refused-put bytes (commands.Detect server) code deeds read none h = subst AllPut (sym h) (tt, tt)
refused-put bytes (commands.Join server) code deeds read none h = subst AllPut (sym h) (tt, tt)
refused-put bytes (commands.More to) code deeds read none h = subst AllPut (sym h) (tt, tt)
refused-put bytes (commands.Gone server) code deeds read none h = subst AllPut (sym h) (tt, tt)
refused-put bytes commands.Save code deeds read none h = subst AllPut (sym h) (tt, tt)
refused-put bytes (commands.Load chunk) code deeds read none h = subst AllPut (sym h) (tt, tt)

carried-has : (p q : State) (bytes text : List ℕ) (one : Done) (all : List Entry) → TakesNone bytes → IsDone p q (Some bytes) text one → IsCarriedOut q.links.gone.keys bytes one.told one.deeds → CoreHas (core_of p) all → Comes bytes (core_of q) all
carried-has p q bytes text one all none done h has =
    begun-has bytes h.command h.first (h.own ++ h.turns) (core_of p) (core_of q) all h.read none h.begins
    (all-both OnlyPuts h.own h.turns (named-put h.command q.links.gone.keys h.own h.is_own) (rounds-put q.links.gone.keys h.turns h.in_turns))
    (subst (λ (deeds : List Deed). ServerActs (core_of p) (actions_in deeds) (core_of q)) h.is done.acts) has

refused-has : (p q : State) (bytes text : List ℕ) (one : Done) (all : List Entry) → TakesNone bytes → IsDone p q (Some bytes) text one → IsRefusal bytes one.told one.deeds → CoreHas (core_of p) all → CoreHas (core_of q) all
refused-has p q bytes text one all none done h has = deeds-keep one.deeds (core_of p) (core_of q) all (refused-put bytes h.command h.code one.deeds h.read none h.refused) done.acts has

passed-has : (p q : State) (frame : Option (List ℕ)) (text : List ℕ) (one : Done) (all : List Entry) → IsDone p q frame text one → one.deeds ≡ [] → CoreHas (core_of p) all → CoreHas (core_of q) all
passed-has p q frame text one all done nothing has = deeds-keep [] (core_of p) (core_of q) all tt (subst (λ (deeds : List Deed). ServerActs (core_of p) (actions_in deeds) (core_of q)) nothing done.acts) has

done-has : (p q : State) (bytes text : List ℕ) (one : Done) (all : List Entry) → TakesNone bytes → IsDone p q (Some bytes) text one → CoreHas (core_of p) all → Comes bytes (core_of q) all
done-has p q bytes text one all none done has = elim done.comes [
  | inl carried ↦ carried-has p q bytes text one all none done carried has
  | inr other ↦ elim other [
    | inl refused ↦ inl (refused-has p q bytes text one all none done refused has)
    | inr passed ↦ inl (passed-has p q (Some bytes) text one all done passed.nothing has)
  ]
]

-- ---- with copies between

same-process : (p q : SavingProcess) (all : List Entry) → q.process ≡ p.process → HasEntries p all → HasEntries q all
same-process p q all same h = subst (λ it. CoreHas (core_of (state_of it)) all) (sym same) h

saved-same : (p q : SavingProcess) (text : List ℕ) → saving.AnswersSave p q text → q.process ≡ p.process
saved-same p q text (told, (is, inl saves)) = saves.process
saved-same p q text (told, (is, inr lets)) = lets.process

is-save : (bytes : List ℕ) → bytes_eq bytes (whole command commands.Save) ≡ true → saving.IsSave (Some bytes)
is-save bytes is = ap Some (same_text bytes (whole command commands.Save) (sym is))

no-save : (bytes : List ℕ) → bytes_eq bytes (whole command commands.Save) ≡ false → saving.IsSave (Some bytes) → ⊥
unfolding whole command
no-save bytes other is = true≢false (sym (ap asks is) ∙ other) where
  asks : Option (List ℕ) → Bool
  asks None = true
  asks (Some l) = bytes_eq l (whole command commands.Save)

-- behind the bytes of a frame
pub bytes-has : (p q : SavingProcess) (bytes text : List ℕ) (all : List Entry) → TakesNone bytes → saving.Answers p (Some bytes) text q → HasEntries p all → Comes bytes (core_of (state_of q.process)) all
bytes-has p q bytes text all none h has = elim (cases_Bool (bytes_eq bytes (whole command commands.Save))) [
  | inl save ↦ inl (same-process p q all (saved-same p q text (h.saves (is-save bytes save))) has)
  | inr other ↦
      let answers = (h.others (no-save bytes other)).0 in
      let done = answers-are-actions (process_of p.process) (process_of q.process) (Some bytes) text answers in
      done-has (state_of p.process) (state_of q.process) bytes text done.0 all none done.1 has
]

-- behind one that is too long
pub none-has : (p q : SavingProcess) (text : List ℕ) (all : List Entry) → saving.Answers p None text q → HasEntries p all → HasEntries q all
none-has p q text all h has =
    let answers = (h.others (λ is. absurd cc)).0 in
    let done = answers-are-actions (process_of p.process) (process_of q.process) None text answers in
    passed-has (state_of p.process) (state_of q.process) None text done.0 all done.1 done.1.comes.nothing has

-- behind one that is no arrival
pub other-has : (p q : SavingProcess) (bytes text : List ℕ) (all : List Entry) → TakesNone bytes → ((stream clock : ℕ) (request : Request) → IsArrival bytes stream clock request → ⊥) → saving.Answers p (Some bytes) text q
    → HasEntries p all → HasEntries q all
other-has p q bytes text all none no_arrival h has = elim (bytes-has p q bytes text all none h has) [
  | inl same ↦ same
  | inr one ↦ absurd (no_arrival one.0 one.1.0 one.1.1.0 one.1.1.1.0)
]

-- behind an arrival
pub arrival-comes : (p q : SavingProcess) (bytes text : List ℕ) (stream clock : ℕ) (request : Request) (all : List Entry) → IsArrival bytes stream clock request → saving.Answers p (Some bytes) text q → HasEntries p all
    → HasEntries q all ⊎ HasEntries q (all ++ stamped all clock request ∷ [])
arrival-comes p q bytes text stream clock request all arrival h has = elim (bytes-has p q bytes text all none h has) [
  | inl same ↦ inl same
  | inr one ↦ inr (subst (λ (e : Entry). HasEntries q (all ++ e ∷ [])) (same_stamped one.0 one.1.0 one.1.1.0 one.1.1.1.0) one.1.1.1.1)
] where
  none : TakesNone bytes
  none from number piece read = let e : commands.Take from number piece ≡ commands.Arrive stream clock request = ok_is (commands.Take from number piece) (commands.Arrive stream clock request) (sym read ∙ arrival.read) in cc

  same_stamped : (s c : ℕ) (r : Request) → IsArrival bytes s c r → stamped all c r ≡ stamped all clock request
  same_stamped s c r other =
      let e : commands.Arrive s c r ≡ commands.Arrive stream clock request = ok_is (commands.Arrive s c r) (commands.Arrive stream clock request) (sym other.read ∙ arrival.read) in
      let clocks : c ≡ clock = cc in
      let requests : r ≡ request = cc in
      λ i. stamped all (clocks i) (requests i)
