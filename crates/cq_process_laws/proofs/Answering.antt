-- What is done of a frame, as deeds.
use Rattle.std.proofs.Common.{◌≡◌, ℕ, ◌+◌, ◌==◌, ◌&&◌, ◌∙◌, ap, sym, refl, subst, if◌then◌else◌, List, [], ◌∷◌, ◌++◌, append_assoc, Bool, true, false, Option, Some, None, inl, inr, Result, Ok, Err, arith}
use Rattle.std.specs.Prelude.{◌⊎◌, nat_lt}
use Rattle.std.specs.List.{AllByRecursion}
use Rattle.std.proofs.lemmas.Bool.{and_parts, cases_Bool, eqb-true, true≢false}
use Rattle.cq_base.specs.declared.party.Party.{Party}
use Rattle.cq_base.specs.declared.party.Party.TheVariants as parties
use Rattle.cq_chain.specs.declared.fault.WorldFault.{WorldFault}
use Rattle.cq_chain.specs.declared.fault.WorldFault.TheVariants as world_faults
use Rattle.cq_chain.specs.declared.server.Server as rust_server
use Rattle.cq_chain.specs.Faults as chain_faults
use Rattle.cq_chain.specs.Stands as chain
use Rattle.cq_chain_wire.specs.declared.reader.Progress.TheVariants.{More, Whole}
use Rattle.cq_events.specs.Actions.{Action, Arrived, Asked}
use Rattle.cq_events.proofs.Parties.{same-refl}
use Rattle.cq_frames.specs.declared.command.Command.{Command}
use Rattle.cq_frames.specs.declared.command.Command.TheVariants as commands
use Rattle.cq_frames.specs.declared.number.PieceNumber.{PieceNumber}
use Rattle.cq_frames.specs.declared.response.Response.{Response}
use Rattle.cq_frames.specs.declared.response.Response.TheVariants as responses
use Rattle.cq_frames.specs.declared.response.TheConstants.{STREAM_ENDED}
use Rattle.cq_frames.specs.Reading.{command_at}
use Rattle.cq_frames.specs.Streams.{stream_in, stream_of}
use Rattle.cq_frames.proofs.StreamLaws.{streams_are_first}
use Rattle.cq_process.specs.declared.incoming.TakeFault.{TakeFault}
use Rattle.cq_process.specs.declared.incoming.TakeFault.TheVariants as take_faults
use Rattle.cq_process.specs.declared.incoming.Taken.{Taken}
use Rattle.cq_process.specs.declared.incoming.Taken.TheVariants as taken_as
use Rattle.cq_process.specs.declared.outgoing.TheConstants.{LINK_LIMIT}
use Rattle.cq_process.specs.Faults.{take_code}
use Rattle.cq_process.specs.Links.{Received, TakesPiece, end_of, is_gone, received_from}
use Rattle.cq_process.specs.Taking.{is_next}
use Rattle.cq_server_process.specs.Answers.{Answers, AnswersBy, Beside, GoesAway, GoesOn, GoesWith, Happens, IsLate, IsUnread, Leaves, Process, Refuses, SendsMore, State, Takes, ended_with, has_ended, waiting}
use Rattle.cq_server_process.specs.Turns.{at, frames}
use Rattle.cq_wire.specs.declared.fault.ReadFault.{ReadFault}
use Rattle.cq_wire.specs.declared.fault.ReadFault.TheVariants as read_faults
use Rattle.cq_wire.specs.Reading.{Fails, whole_at}
use Rattle.cq_wire.proofs.Fronts.{ok_is}
use Rattle.cq_process_laws.specs.Deeds.{Acted, AllTo, IsInTurns, Came, Deed, Lost, Missed, Read, Rested, responses_in}
use Rattle.cq_process_laws.specs.Laws.{AnswersAreActions}
use Rattle.cq_process_laws.specs.Runs.{AreTold, PutsForNamed, BeginsWith, ComesOf, IsDone, IsRefusedWith, TellsNoPiece}
use Rattle.cq_process_laws.specs.Passing.{refusal_of}
use Rattle.cq_process_laws.proofs.Acting.{deeds-act, did-both, kept-from}
use Rattle.cq_process_laws.proofs.Bringing.{done-told}
use Rattle.cq_process_laws.proofs.Moments.{Did, DidAll, IsLetGo, IsNext, IsOutOfTurn, IsOwn, Misses, Now, OnlyFrom, Rests, Stays, now, with_at}
use Rattle.cq_process_laws.proofs.Streams.{FollowsIn, goes-in, late-in, none-in, refused-in}
use Rattle.cq_process_laws.proofs.Turning.{AllMake, Makes, all-turn, makes-none, responses-both, rests-same, sent, thrown-from}

-- What is done of a frame, by deeds from one state to the other, and what becomes of the streams.
pub record Doing (before : ℕ) (p q : State) (after : ℕ) (frame : Option (List ℕ)) (text : List ℕ) : Type 0 where
  pub told : List Response
  pub deeds : List Deed
  pub as_frames : text ≡ frames told
  pub are_told : AreTold told deeds
  pub comes : ComesOf q.links.gone.keys frame told deeds
  pub did : DidAll (now p) deeds (now q)
  pub follows : FollowsIn before frame told after

-- ---- states

-- the turns leave what came, and who is gone
same-now : (p q : State) → q.links.incoming ≡ p.links.incoming → q.links.gone ≡ p.links.gone → with_at (now p) (at q.links q.core) ≡ now q
same-now p q incoming gone =
    let keys : p.links.gone.keys ≡ q.links.gone.keys = ap (λ g. g.keys) (sym gone) in
    λ i. record { core = q.core; outgoing = q.links.outgoing; incoming = sym incoming i; gone = keys i }

stays-kept : (a b : Now) → chain.Keeps a.core b.core → b.outgoing ≡ a.outgoing → b.incoming ≡ a.incoming → b.gone ≡ a.gone → Stays a b
stays-kept a b keeps outgoing incoming gone = record {
  core = kept-from a.core b.core a.outgoing b.outgoing outgoing keeps;
  outgoing = λ to. subst (λ ends. Rests (end_of a.outgoing to) (end_of ends to)) (sym outgoing) (rests-same (end_of a.outgoing to));
  incoming = incoming;
  gone = gone;
}

-- ---- pieces that come

-- a piece that is next
next-is : (number : PieceNumber) (r : Received) → is_next number r.taken r.pieces ≡ true → IsNext number r
next-is number r h = let both = and_parts (number.message == r.taken + 1) ((number.index == r.pieces) && nat_lt number.index LINK_LIMIT) h in
    let index = and_parts (number.index == r.pieces) (nat_lt number.index LINK_LIMIT) both.1 in
    (eqb-true number.message (r.taken + 1) both.0, eqb-true number.index r.pieces index.0)

-- what isn't out of turn is in turn
in-turn : (r after : Received) (a b : rust_server.Server) (from : Party) (number : PieceNumber) (piece : List ℕ) (result : Result Taken TakeFault) → TakesPiece r after a b from number piece result → (result ≡ Err take_faults.NotNext → ⊥) → IsNext number r
in-turn r after a b from number piece result h other = elim (cases_Bool (is_next number r.taken r.pieces)) [
  | inl same ↦ next-is number r same
  | inr apart ↦ absurd (other (h.out_of_turn apart))
]

module _ (p q : State) (from : Party) (number : PieceNumber) (piece : List ℕ) where
  abbrev pub FirstOfTake : Type 0
  FirstOfTake = (first : List Deed) × (BeginsWith (commands.Take from number piece) first × (DidAll (now p) first (now q) × (responses_in first ≡ [])))

  piece-came : (taken : Taken) → OnlyFrom from (now p) (now q) → is_gone p.links.gone.keys from ≡ false
      → TakesPiece (received_from p.links.incoming from) (received_from q.links.incoming from) p.core q.core from number piece (Ok taken) → FirstOfTake
  piece-came taken_as.Piece only lives h = (
    Came from number piece ∷ [],
    (
      inl refl,
      (
        (
          now q,
          (
            record {
              only = only;
              lives = lives;
              keeps = h.idle (λ is. absurd cc);
              next = in-turn (received_from p.links.incoming from) (received_from q.links.incoming from) p.core q.core from number piece (Ok taken_as.Piece) h (λ is. absurd cc);
              so_far = h.read.0;
              read = h.read.1;
              taken = h.counted;
              pieces = h.pieces;
              left = ok_is (received_from q.links.incoming from).next (More h.read.0) (sym h.left ∙ h.read.1);
            },
            refl,
          ),
        ),
        refl,
      ),
    ),
  )
  piece-came taken_as.Message only lives h =
      let took = h.took refl in (
        Read from number piece took.message ∷ [],
        (
          inr (took.message, refl),
          (
            (
              now q,
              (
                record {
                  only = only;
                  lives = lives;
                  takes = took.done;
                  next = in-turn (received_from p.links.incoming from) (received_from q.links.incoming from) p.core q.core from number piece (Ok taken_as.Message) h (λ is. absurd cc);
                  read = took.whole;
                  taken = h.counted;
                  pieces = h.pieces;
                  left = h.left;
                },
                refl,
              ),
            ),
            refl,
          ),
        ),
      )

-- no fault of the core has that number
not-next : (fault : WorldFault) → chain_faults.code_of fault ≡ take_code take_faults.NotNext → ⊥
not-next world_faults.NoSuchServer h = omega (arith, h)
not-next world_faults.ServerDown h = omega (arith, h)
not-next world_faults.LinkEmpty h = omega (arith, h)
not-next world_faults.OutboxEmpty h = omega (arith, h)
not-next world_faults.LastFull h = omega (arith, h)
not-next world_faults.JoinPending h = omega (arith, h)
not-next world_faults.IdUsed h = omega (arith, h)
not-next world_faults.ChainFull h = omega (arith, h)
not-next world_faults.NotDown h = omega (arith, h)
not-next world_faults.NotHead h = omega (arith, h)
not-next world_faults.HistoryFull h = omega (arith, h)
not-next world_faults.NotTail h = omega (arith, h)
not-next world_faults.NoMemory h = omega (arith, h)

-- what a piece that is refused leaves
missed-left : (before after : Received) (a b : rust_server.Server) (from : Party) (number : PieceNumber) (piece : List ℕ) (code : ℕ) (fault : TakeFault) → code ≡ take_code fault → TakesPiece before after a b from number piece (Err fault)
    → IsOutOfTurn code before after ⊎ (IsNext number before × IsLetGo before piece code after)
missed-left before after a b from number piece code take_faults.NotNext is k = inl (is, (k.left, k.pieces))
missed-left before after a b from number piece code (take_faults.Unread fault) is k = inr (in-turn before after a b from number piece (Err (take_faults.Unread fault)) k (λ same. absurd cc), inl (k.left, k.pieces))
missed-left before after a b from number piece code (take_faults.Refused one) is k =
    inr (in-turn before after a b from number piece (Err (take_faults.Refused one)) k (λ same. absurd cc), inr ((λ same. not-next one (sym is ∙ same)), (k.read.0, (k.read.1, ok_is after.next (Whole k.read.0) (sym k.left ∙ k.read.1)))))

piece-left : (p q : State) (from : Party) (number : PieceNumber) (piece : List ℕ) (code : ℕ) (fault : TakeFault) → code ≡ take_code fault → OnlyFrom from (now p) (now q)
    → TakesPiece (received_from p.links.incoming from) (received_from q.links.incoming from) p.core q.core from number piece (Err fault) → Misses from number piece code (now p) (now q)
piece-left p q from number piece code fault is only h = record {
  only = only;
  keeps = h.idle (λ same. absurd cc);
  taken = h.counted;
  left = λ there. missed-left (received_from p.links.incoming from) (received_from q.links.incoming from) p.core q.core from number piece code fault is h;
}

pub left-missed : (p q : State) (from : Party) (number : PieceNumber) (piece : List ℕ) (code : ℕ) → Leaves from number piece code p q → Misses from number piece code (now p) (now q)
left-missed p q from number piece code h = elim (cases_Bool (is_gone p.links.gone.keys from)) [
  | inl away ↦ gone away (h.thrown away)
  | inr lives ↦ piece-left p q from number piece code h.fault h.is only (h.lives lives)
] where
  only : OnlyFrom from (now p) (now q)
  only = record { others = h.others; outgoing = h.outgoing; gone = ap (λ g. g.keys) h.gone }

  gone : is_gone p.links.gone.keys from ≡ true → (h.fault ≡ take_faults.NotNext) × (chain.Keeps p.core q.core × (q.links.incoming ≡ p.links.incoming)) → Misses from number piece code (now p) (now q)
  gone away k = record {
    only = only;
    keeps = k.1.0;
    taken = ap (λ ends. (received_from ends from).taken) k.1.1;
    left = λ lives. absurd (true≢false (sym away ∙ lives));
  }

-- ---- what comes of a command by itself

pub record Begun (command : Command) (p q : State) (told : List Response) : Type 0 where
  pub first : List Deed
  pub begins : BeginsWith command first
  pub mid : Now
  pub did : DidAll (now p) first mid
  pub quiet : responses_in first ≡ []
  pub own : List Deed
  pub is_own : PutsForNamed command q.links.gone.keys own
  pub did_own : DidAll mid own (now q)
  pub is : told ≡ responses_in own

beside-begun : (command : Command) (action : Action) (p q : State) (told : List Response) → told ≡ [] → BeginsWith command (Acted action ∷ []) → PutsForNamed command q.links.gone.keys [] → IsOwn action → Beside action p q → Begun command p q told
beside-begun command action p q told none begins no_own own h = record {
  first = Acted action ∷ [];
  begins = begins;
  mid = now q;
  did = (now q, (record { own = own; does = h.does; outgoing = ap (λ l. l.outgoing) h.links; incoming = ap (λ l. l.incoming) h.links; gone = ap (λ l. l.gone.keys) h.links }, refl));
  quiet = refl;
  own = [];
  is_own = no_own;
  did_own = refl;
  is = none;
}

takes-begun : (from : Party) (number : PieceNumber) (piece : List ℕ) (p q : State) (told : List Response) → told ≡ [] → Takes from number piece p q → Begun (commands.Take from number piece) p q told
takes-begun from number piece p q told none h =
    let first = piece-came p q from number piece h.taken (record { others = h.others; outgoing = h.outgoing; gone = ap (λ g. g.keys) h.gone }) h.lives h.takes in
    record {
      first = first.0;
      begins = first.1.0;
      mid = now q;
      did = first.1.1.0;
      quiet = first.1.1.1;
      own = [];
      is_own = refl;
      did_own = refl;
      is = none;
    }

away-begun : (server : ℕ) (p q : State) (told : List Response) → told ≡ [] → GoesAway server p q → Begun (commands.Gone server) p q told
away-begun server p q told none h = record {
  first = Lost party ∷ [];
  begins = refl;
  mid = with_at (now q) (at p.links p.core);
  did = (
    with_at (now q) (at p.links p.core),
    (
      record {
        core = refl;
        outgoing = refl;
        others = h.others;
        gone = h.gone;
        taken = ap (λ (r : Received). r.taken) h.lets_go;
      },
      refl,
    ),
  );
  quiet = refl;
  own = thrown.deeds;
  is_own = thrown.sends;
  did_own = thrown.did;
  is = none ∙ thrown.is;
} where
  party : Party
  party = parties.Server server

  gone : is_gone q.links.gone.keys party ≡ true
  gone = h.gone party ∙ ap (λ t. if t then true else is_gone p.links.gone.keys party) (same-refl party)

  thrown : Makes party (with_at (now q) (at p.links p.core)) (now q) []
  thrown = thrown-from (now q) (at p.links p.core) (at q.links q.core) party h.result (end_of p.links.outgoing party) (end_of q.links.outgoing party) gone refl refl h.throws h.ends

more-begun : (to : Party) (p q : State) (told : List Response) (before : Option Party) → SendsMore to p q told before → Begun (commands.More to) p q told
more-begun to p q told before h = record {
  first = [];
  begins = refl;
  mid = now p;
  did = refl;
  quiet = refl;
  own = makes.deeds;
  is_own = subst (λ gone. AllTo to gone makes.deeds) (sym makes.gone) makes.sends;
  did_own = makes.did;
  is = makes.is;
} where
  makes : Makes to (now p) (now q) told
  makes = elim (cases_Bool (is_gone p.links.gone.keys to)) [
    | inl away ↦ let k = h.thrown away in makes-none to (now p) (now q) told (ap now (sym k.0)) k.1.0
    | inr lives ↦ let k = h.lives lives in subst (λ n. Makes to (now p) n told) (same-now p q h.incoming h.gone) (sent (now p) (at p.links p.core) (at q.links q.core) to told k.0 lives k.1.0)
  ]

happens-begun : (command : Command) (p q : State) (told : List Response) (before : Option Party) → Happens command p q told before → Begun command p q told
happens-begun (commands.Arrive stream clock request) p q told before h = beside-begun (commands.Arrive stream clock request) (Arrived clock request) p q told h.0 refl refl tt h.1.1
happens-begun (commands.Ask query) p q told before h = beside-begun (commands.Ask query) (Asked query) p q told h.0 refl refl tt h.1.1
happens-begun (commands.Take from number piece) p q told before h = takes-begun from number piece p q told h.0 h.1.1
happens-begun (commands.Gone server) p q told before h = away-begun server p q told h.0 h.1.1
happens-begun (commands.More to) p q told before h = more-begun to p q told before h
happens-begun (commands.Detect server) p q told before h = absurd h
happens-begun (commands.Join server) p q told before h = absurd h
happens-begun commands.Save p q told before h = absurd h
happens-begun (commands.Load chunk) p q told before h = absurd h

-- ---- a command that is carried out

no-pieces : (first : Option Party) (one : Response) → TellsNoPiece one → AllByRecursion TellsNoPiece (waiting first ++ one ∷ [])
no-pieces None one h = (h, tt)
no-pieces (Some to) one h = (tt, (h, tt))

carried : (command : Command) (before : ℕ) (p q : State) (bytes text : List ℕ) (told : List Response) → text ≡ frames told → whole_at command_at bytes ≡ Ok command → has_ended before (stream_in command) ≡ false → GoesOn command p q told
    → Doing before p q before (Some bytes) text
carried command before p q bytes text told is read in_time h = record {
  told = told;
  deeds = begun.first ++ (begun.own ++ turns.deeds);
  as_frames = is;
  are_told = record {
    end = waiting h.first ++ responses.Done h.standing ∷ [];
    is = h.is ∙ ap (λ xs. xs ++ (waiting h.first ++ responses.Done h.standing ∷ [])) (goes.is ∙ all-told ∙ ap (λ xs. xs ++ responses_in (begun.own ++ turns.deeds)) (sym begun.quiet) ∙ sym (responses-both begun.first (begun.own ++ turns.deeds)));
    none = no-pieces h.first (responses.Done h.standing) tt;
  };
  comes = inl (record {
    command = command;
    read = read;
    first = begun.first;
    own = begun.own;
    turns = turns.deeds;
    is = refl;
    begins = begun.begins;
    before = h.put ++ waiting h.first;
    standing = h.standing;
    ends = ends;
    is_own = subst (λ gone. PutsForNamed command gone begun.own) same-gone begun.is_own;
    in_turns = subst (λ gone. IsInTurns gone turns.deeds) same-gone turns.turns;
  });
  did = did-both begun.first (begun.own ++ turns.deeds) (now p) begun.mid (now q) begun.did (did-both begun.own turns.deeds begun.mid (now goes.mid) (now q) begun.did_own turns.did);
  follows = goes-in before bytes told (ap (refusal_of None) ends ∙ done-told None (h.put ++ waiting h.first) h.standing) (ap (has_ended before) (streams_are_first bytes command read) ∙ in_time);
} where
  ends : told ≡ (h.put ++ waiting h.first) ++ responses.Done h.standing ∷ []
  ends = h.is ∙ sym (append_assoc h.put (waiting h.first) (responses.Done h.standing ∷ []))

  goes : GoesWith command p q h.put h.first
  goes = h.goes

  same-gone : goes.mid.links.gone.keys ≡ q.links.gone.keys
  same-gone = ap (λ g. g.keys) (sym goes.gone)

  begun : Begun command p goes.mid goes.of_it
  begun = happens-begun command p goes.mid goes.of_it goes.before goes.happens

  turns : AllMake (now goes.mid) (now q) goes.in_turns
  turns = subst (λ n. AllMake (now goes.mid) n goes.in_turns) (same-now goes.mid q goes.incoming goes.gone) (all-turn (now goes.mid) goes.before h.first (at goes.mid.links goes.mid.core) (at q.links q.core) goes.in_turns goes.rounds)

  all-told : goes.of_it ++ goes.in_turns ≡ responses_in (begun.own ++ turns.deeds)
  all-told = ap (λ xs. xs ++ goes.in_turns) begun.is ∙ ap (λ xs. responses_in begun.own ++ xs) turns.is ∙ sym (responses-both begun.own turns.deeds)

-- ---- one that is refused

one-refused : (deed : Deed) (before : ℕ) (p q : State) (after : ℕ) (bytes text : List ℕ) (command : Command) (code : ℕ) → FollowsIn before (Some bytes) (responses.Refused code ∷ []) after → text ≡ frames (responses.Refused code ∷ []) → whole_at command_at bytes ≡ Ok command → IsRefusedWith command code (deed ∷ []) → responses_in (deed ∷ []) ≡ []
    → Did deed (now p) (now q) → Doing before p q after (Some bytes) text
one-refused deed before p q after bytes text command code follows is read refused quiet did = record {
  told = responses.Refused code ∷ [];
  deeds = deed ∷ [];
  as_frames = is;
  are_told = record { end = responses.Refused code ∷ []; is = ap (λ xs. xs ++ responses.Refused code ∷ []) (sym quiet); none = (tt, tt) };
  comes = inr (inl (record { command = command; read = read; code = code; is = refl; refused = refused }));
  did = (now q, (did, refl));
  follows = follows;
}

same-stays : (p q : State) → q ≡ p → Stays (now p) (now q)
same-stays p q same = subst (λ r. Stays (now p) (now r)) (sym same) (stays-kept (now p) (now p) (λ s outbox i. i) refl refl refl)

refused : (command : Command) (before : ℕ) (p q : State) (after : ℕ) (bytes text : List ℕ) (code : ℕ) → FollowsIn before (Some bytes) (responses.Refused code ∷ []) after → text ≡ frames (responses.Refused code ∷ []) → whole_at command_at bytes ≡ Ok command → Refuses command code p q → Doing before p q after (Some bytes) text
refused (commands.Arrive stream clock request) before p q after bytes text code follows is read h = one-refused Rested before p q after bytes text (commands.Arrive stream clock request) code follows is read refl refl
    (stays-kept (now p) (now q) h.keeps (ap (λ l. l.outgoing) h.links) (ap (λ l. l.incoming) h.links) (ap (λ l. l.gone.keys) h.links))
refused (commands.Ask query) before p q after bytes text code follows is read h = one-refused Rested before p q after bytes text (commands.Ask query) code follows is read refl refl
    (stays-kept (now p) (now q) h.keeps (ap (λ l. l.outgoing) h.links) (ap (λ l. l.incoming) h.links) (ap (λ l. l.gone.keys) h.links))
refused (commands.Take from number piece) before p q after bytes text code follows is read h = one-refused (Missed from number piece code) before p q after bytes text (commands.Take from number piece) code follows is read refl refl (left-missed p q from number piece code h)
refused (commands.Gone server) before p q after bytes text code follows is read h = one-refused Rested before p q after bytes text (commands.Gone server) code follows is read refl refl (stays-kept (now p) (now q) h.keeps h.outgoing h.incoming h.gone)
refused (commands.More to) before p q after bytes text code follows is read h = absurd h
refused (commands.Detect server) before p q after bytes text code follows is read h = one-refused Rested before p q after bytes text (commands.Detect server) code follows is read refl refl (same-stays p q h.1)
refused (commands.Join server) before p q after bytes text code follows is read h = one-refused Rested before p q after bytes text (commands.Join server) code follows is read refl refl (same-stays p q h.1)
refused commands.Save before p q after bytes text code follows is read h = one-refused Rested before p q after bytes text commands.Save code follows is read refl refl (same-stays p q h.1)
refused (commands.Load chunk) before p q after bytes text code follows is read h = one-refused Rested before p q after bytes text (commands.Load chunk) code follows is read refl refl (same-stays p q h.1)

-- ---- an arrival that is late

-- nothing but an arrival is
late-rests : (command : Command) (ended : ℕ) → has_ended ended (stream_in command) ≡ true → IsRefusedWith command STREAM_ENDED (Rested ∷ [])
late-rests (commands.Take from number piece) ended h = absurd (true≢false (sym h))
late-rests command ended h = refl

late : (command : Command) (p q : Process) (bytes text : List ℕ) (told : List Response) → text ≡ frames told → whole_at command_at bytes ≡ Ok command → IsLate command p q told → Doing p.ended p.state q.state q.ended (Some bytes) text
late command p q bytes text told is read h = subst (λ (r : Process). Doing p.ended p.state r.state r.ended (Some bytes) text) (sym h.stays)
    (one-refused Rested p.ended p.state p.state p.ended bytes text command STREAM_ENDED
    (late-in p.ended bytes (responses.Refused STREAM_ENDED ∷ []) refl (ap (has_ended p.ended) (streams_are_first bytes command read) ∙ h.late))
    (is ∙ ap frames h.is) read (late-rests command p.ended h.late) refl (same-stays p.state p.state refl))

-- ---- and any other one

in-time : (command : Command) (p q : Process) (bytes text : List ℕ) (told : List Response) → text ≡ frames told → whole_at command_at bytes ≡ Ok command → has_ended p.ended (stream_in command) ≡ false
    → (is_refused : Bool) → AnswersBy is_refused command p.state q.state told → q.ended ≡ (if is_refused then ended_with p.ended (stream_in command) else p.ended) → Doing p.ended p.state q.state q.ended (Some bytes) text
in-time command p q bytes text told is read in_time false goes ended = subst (λ after. Doing p.ended p.state q.state after (Some bytes) text) (sym ended) (carried command p.ended p.state q.state bytes text told is read in_time goes)
in-time command p q bytes text told is read in_time true fault ended = refused command p.ended p.state q.state q.ended bytes text fault.code
    (refused-in p.ended bytes (responses.Refused fault.code ∷ []) q.ended refl (ended ∙ ap (ended_with p.ended) (sym (streams_are_first bytes command read)))) (is ∙ ap frames fault.is) read fault.refuses

-- ---- and one that isn't read

unread : (p q : Process) (frame : Option (List ℕ)) (text : List ℕ) (told : List Response) → text ≡ frames told → q.state ≡ p.state → AllByRecursion TellsNoPiece told → ComesOf q.state.links.gone.keys frame told [] → FollowsIn p.ended frame told q.ended
    → Doing p.ended p.state q.state q.ended frame text
unread p q frame text told is same none comes follows = record { told = told; deeds = []; as_frames = is; are_told = record { end = told; is = refl; none = none }; comes = comes; did = ap now (sym same); follows = follows }

unread-bytes : (fault : ReadFault) (p q : Process) (bytes text : List ℕ) (told : List Response) → text ≡ frames told → Fails fault (whole_at command_at bytes) → IsUnread fault (stream_of bytes) p q told → Doing p.ended p.state q.state q.ended (Some bytes) text
unread-bytes read_faults.NoMemory p q bytes text told is fails h = unread p q (Some bytes) text told is h.stays (subst (AllByRecursion TellsNoPiece) (sym h.is) (tt, tt)) (inr (inr (record { unread = inl h.is; nothing = refl })))
    (refused-in p.ended bytes told q.ended (ap (refusal_of None) h.is) h.ended)
unread-bytes (read_faults.Bad fault) p q bytes text told is fails h = unread p q (Some bytes) text told is h.stays (subst (AllByRecursion TellsNoPiece) (sym h.is) (tt, tt))
    (inr (inr (record { unread = inr (fault, (fails, h.is)); nothing = refl }))) (refused-in p.ended bytes told q.ended (ap (refusal_of None) h.is) h.ended)

pub doing : (p q : Process) (frame : Option (List ℕ)) (text : List ℕ) → Answers p frame text q → Doing p.ended p.state q.state q.ended frame text
doing p q None text h = unread p q None text h.0 h.1.0 h.1.1.stays (subst (AllByRecursion TellsNoPiece) (sym h.1.1.is) (tt, tt)) (record { unread = h.1.1.is; nothing = refl }) (none-in p.ended h.0 q.ended h.1.1.ended)
doing p q (Some bytes) text h = elim h.1.1 [
  | inl none ↦ unread-bytes none.0 p q bytes text h.0 h.1.0 none.1.0 none.1.1
  | inr one ↦ elim one.1.1 [
    | inl is_late ↦ late one.0 p q bytes text h.0 h.1.0 one.1.0 is_late
    | inr goes ↦ in-time one.0 p q bytes text h.0 h.1.0 one.1.0 goes.in_time goes.is_refused goes.answers goes.ended
  ]
]

pub done-of : (before : ℕ) (p q : State) (after : ℕ) (frame : Option (List ℕ)) (text : List ℕ) (d : Doing before p q after frame text) → IsDone p q frame text (record { told = d.told; deeds = d.deeds })
done-of before p q after frame text d = record { as_frames = d.as_frames; told = d.are_told; comes = d.comes; acts = deeds-act d.deeds (now p) (now q) d.did }

pub answers-are-actions : AnswersAreActions
answers-are-actions p q frame text h = let d = doing p q frame text h in (record { told = d.told; deeds = d.deeds }, done-of p.ended p.state q.state q.ended frame text d)
