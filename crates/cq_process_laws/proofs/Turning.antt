-- What turns do and tell, as deeds.
use Rattle.std.proofs.Common.{◌≡◌, ℕ, ◌∙◌, ap, sym, refl, subst, List, [], ◌∷◌, ◌++◌, Bool, true, false, Option, Some, None, inl, inr, Result, Ok, Err}
use Rattle.std.specs.List.{AllByRecursion}
use Rattle.std.proofs.lemmas.Bool.{cases_Bool}
use Rattle.std.proofs.lemmas.List.Concat.{flat_map-append}
use Rattle.cq_base.specs.declared.party.Party.{Party}
use Rattle.cq_base.specs.declared.party.Party.TheVariants as parties
use Rattle.cq_chain.specs.Parties.{same}
use Rattle.cq_chain.specs.Stands as chain
use Rattle.cq_events.specs.Actions.{Keeps, StandsAs}
use Rattle.cq_events.proofs.Parties.{same-true}
use Rattle.cq_frames.specs.declared.response.Response.{Response}
use Rattle.cq_process.specs.declared.outgoing.PutFault.{PutFault}
use Rattle.cq_process.specs.declared.outgoing.Written.{Written}
use Rattle.cq_process.specs.declared.outgoing.Written.TheVariants as written_as
use Rattle.cq_process.specs.Links.{ChangesOnly, IsOpened, PutsAt, ThrowsFrom, end_of, held_at, held_by, is_gone}
use Rattle.cq_process.specs.Outgoing.{End}
use Rattle.cq_process.specs.Putting.{Idles, IsCounted}
use Rattle.cq_server_process.specs.declared.turn.Stop.{Stop}
use Rattle.cq_server_process.specs.Rounds.{AreInTurn, OneTurn, Rounds, told_in}
use Rattle.cq_server_process.specs.Turns.{At, HasTurn, IsUnopened, Opens, Sends, SendsAll, Steps, ThrowsFor, TurnOf, put_of}
use Rattle.cq_process_laws.specs.Deeds.{AllTo, AreTurns, Deed, Ended, IsInTurns, Rested, SendsTo, Threw, Told, in_turns, responses_in, responses_of}
use Rattle.cq_process_laws.proofs.Acting.{by-back, did-both, kept-from}
use Rattle.cq_process_laws.proofs.Moments.{DidAll, Now, Rests, Stays, core_now, with_at}

-- Deeds that only put and tell for one party lead from one moment to another, and these are the responses that tell of them.
pub record Makes (to : Party) (a b : Now) (told : List Response) : Type 0 where
  pub deeds : List Deed
  pub did : DidAll a deeds b
  pub is : told ≡ responses_in deeds
  pub sends : AllTo to a.gone deeds
  pub gone : b.gone ≡ a.gone

pub all-both : {A : Type 0} (P : A → Type 0) (xs ys : List A) → AllByRecursion P xs → AllByRecursion P ys → AllByRecursion P (xs ++ ys)
all-both P [] ys h k = k
all-both P (x ∷ xs) ys h k = (h.0, all-both P xs ys h.1 k)

pub responses-both : (xs ys : List Deed) → responses_in (xs ++ ys) ≡ responses_in xs ++ responses_in ys
responses-both xs ys = flat_map-append responses_of xs ys

pub makes-both : (to : Party) (a b c : Now) (xs ys : List Response) → Makes to a b xs → Makes to b c ys → Makes to a c (xs ++ ys)
makes-both to a b c xs ys h k = record {
  deeds = h.deeds ++ k.deeds;
  did = did-both h.deeds k.deeds a b c h.did k.did;
  is = ap (λ zs. zs ++ ys) h.is ∙ ap (λ zs. responses_in h.deeds ++ zs) k.is ∙ sym (responses-both h.deeds k.deeds);
  sends = all-both (SendsTo to a.gone) h.deeds k.deeds h.sends (subst (λ gone. AllTo to gone k.deeds) h.gone k.sends);
  gone = k.gone ∙ h.gone;
}

pub makes-none : (to : Party) (a b : Now) (told : List Response) → a ≡ b → told ≡ [] → Makes to a b told
makes-none to a b told same none = record { deeds = []; did = same; is = none; sends = tt; gone = ap (λ (n : Now). n.gone) (sym same) }

makes-rest : (to : Party) (a b : Now) (told : List Response) → Stays a b → told ≡ [] → Makes to a b told
makes-rest to a b told stays none = record { deeds = Rested ∷ []; did = (b, (stays, refl)); is = none; sends = (tt, tt); gone = stays.gone }

-- ---- ends that rest

pub rests-same : (o : Option End) → Rests o o
rests-same None = tt
rests-same (Some end) = (refl, (refl, (refl, λ x h. h)))

pub rests-by : (old new : List (Party × End)) (to : Party) → ChangesOnly old new to → Rests (end_of old to) (end_of new to) → (p : Party) → Rests (end_of old p) (end_of new p)
rests-by old new to others here p = go (same to p) refl where
  go : (t : Bool) → same to p ≡ t → Rests (end_of old p) (end_of new p)
  go true e = subst (λ q. Rests (end_of old q) (end_of new q)) (same-true to p e) here
  go false e = subst (λ o. Rests (end_of old p) o) (sym (others p e)) (rests-same (end_of old p))

opened-rests : (o u : Option End) → IsOpened o u → Rests o u
opened-rests o None h = absurd h
opened-rests None (Some after) h = (h.put, (h.pieces, h.fresh))
opened-rests (Some before) (Some after) h = subst (λ e. Rests (Some before) (Some e)) (sym h) (rests-same (Some before))

opened-held : (o u : Option End) → IsOpened o u → held_at u ≡ held_at o
opened-held o None h = absurd h
opened-held None (Some after) h = h.held
opened-held (Some before) (Some after) h = ap (λ (e : End). e.held) h

-- what is held stays where the ends do
held-same : (old new : List (Party × End)) (to : Party) → ChangesOnly old new to → held_by new to ≡ held_by old to → (p : Party) → held_by old p ≡ held_by new p
held-same old new to others here p = go (same to p) refl where
  go : (t : Bool) → same to p ≡ t → held_by old p ≡ held_by new p
  go true e = subst (λ q. held_by old q ≡ held_by new q) (same-true to p e) (sym here)
  go false e = ap held_at (sym (others p e))

-- the core keeps all, and so do the ends but for one that rests
stays-at : (n : Now) (a b : At) (to : Party) → chain.Keeps a.core b.core → ChangesOnly a.ends b.ends to → held_by b.ends to ≡ held_by a.ends to → Rests (end_of a.ends to) (end_of b.ends to) → Stays (with_at n a) (with_at n b)
stays-at n a b to keeps others held rests = record {
  core = subst (λ back. Keeps StandsAs (core_now (with_at n a)) (record { core = b.core; back = back })) (λ i p. held-same a.ends b.ends to others held p i) (kept-from a.core b.core a.ends a.ends refl keeps);
  outgoing = rests-by a.ends b.ends to others rests;
  incoming = refl;
  gone = refl;
}

opens-stays : (n : Now) (a : At) (mid : List (Party × End)) (to : Party) → Opens to a.ends mid → Stays (with_at n a) (with_at n (record { ends = mid; core = a.core }))
opens-stays n a mid to opens = stays-at n a (record { ends = mid; core = a.core }) to (λ s outbox i. i) opens.others (opened-held (end_of a.ends to) (end_of mid to) opens.opened) (opened-rests (end_of a.ends to) (end_of mid to) opens.opened)

unopened-stays : (n : Now) (a b : At) (to : Party) → IsUnopened to a b → Stays (with_at n a) (with_at n b)
unopened-stays n a b to h = stays-at n a b to (subst (λ c. chain.Keeps a.core c) (sym h.core) (λ s outbox i. i)) h.others (ap held_at (h.is ∙ sym h.was))
    (subst (λ o. Rests o (end_of b.ends to)) (sym h.was) (subst (λ o. Rests None o) (sym h.is) tt))

-- ---- one piece

module _ (n : Now) (a b : At) (to : Party) (others : ChangesOnly a.ends b.ends to) where
  idle-stays : (was is : End) → end_of a.ends to ≡ Some was → end_of b.ends to ≡ Some is → IsCounted was.put was.pieces is → Idles a.core b.core to was is → Stays (with_at n a) (with_at n b)
  idle-stays was is old new counted idles = record {
    core = by-back (λ back. Keeps StandsAs (core_now (with_at n a)) (record { core = b.core; back = back })) a.ends b.ends to is.held others (ap held_at new) (idles.kept (held_by a.ends) (ap held_at old));
    outgoing = rests-by a.ends b.ends to others (subst (λ o. Rests o (end_of b.ends to)) (sym old) (subst (λ o. Rests (Some was) o) (sym new) (counted.0, (counted.1, (idles.writer, idles.same)))));
    incoming = refl;
    gone = refl;
  }

  pub wrote : (result : Result Written PutFault) (piece : List ℕ) → is_gone n.gone to ≡ false → PutsAt a.ends b.ends a.core b.core to [] piece result → Makes to (with_at n a) (with_at n b) (put_of to result piece)
  wrote (Ok written_as.Nothing) piece lives h = makes-rest to (with_at n a) (with_at n b) [] (idle-stays h.was h.becomes h.is_old h.is_new h.puts.numbers h.puts.idle) refl
  wrote (Err fault) piece lives h = makes-rest to (with_at n a) (with_at n b) [] (idle-stays h.was h.becomes h.is_old h.is_new h.puts.numbers h.puts.idle) refl
  wrote (Ok (written_as.Piece number)) piece lives h = record {
    deeds = Told to number piece ∷ [];
    did = (
      with_at n b,
      (
        record {
          only = record { others = others; incoming = refl; gone = refl };
          lives = lives;
          was = h.was;
          is_old = h.is_old;
          becomes = h.becomes;
          is_new = h.is_new;
          number_is = h.puts.numbers.0;
          put = h.puts.numbers.1.0;
          pieces = h.puts.numbers.1.1;
          writes = h.puts.some;
        },
        refl,
      ),
    );
    is = refl;
    sends = ((refl, lives), tt);
    gone = refl;
  }
  wrote (Ok (written_as.Message number)) piece lives h = record {
    deeds = Ended to number piece h.puts.last.message ∷ [];
    did = (
      with_at n b,
      (
        record {
          only = record { others = others; incoming = refl; gone = refl };
          lives = lives;
          was = h.was;
          is_old = h.is_old;
          becomes = h.becomes;
          is_new = h.is_new;
          number_is = h.puts.numbers.0;
          put = h.puts.numbers.1.0;
          pieces = h.puts.numbers.1.1;
          writes = h.puts.last;
          message_is = refl;
        },
        refl,
      ),
    );
    is = refl;
    sends = ((refl, lives), tt);
    gone = refl;
  }

pub sent : (n : Now) (a b : At) (to : Party) (told : List Response) (stop : Option Stop) → is_gone n.gone to ≡ false → Sends to a b told stop → Makes to (with_at n a) (with_at n b) told
sent n a b to told stop lives (inl h) = makes-both to (with_at n a) (with_at n m) (with_at n b) [] told (makes-rest to (with_at n a) (with_at n m) [] (opens-stays n a h.mid to h.opens) refl) more where
  m : At
  m = record { ends = h.mid; core = a.core }

  more : Makes to (with_at n m) (with_at n b) told
  more = elim h.writes [
    | inl w ↦ subst (λ xs. Makes to (with_at n m) (with_at n b) xs) (sym w.1.0.is) (wrote n m b to h.others w.0 w.1.0.piece lives w.1.0.puts)
    | inr w ↦ makes-rest to (with_at n m) (with_at n b) told (stays-at n m b to w.keeps h.others (ap (λ ends. held_by ends to) w.ends) (subst (λ ends. Rests (end_of h.mid to) (end_of ends to)) (sym w.ends) (rests-same (end_of h.mid to)))) w.none
  ]
sent n a b to told stop lives (inr h) = elim h.1.1 [
  | inl unopened ↦ makes-rest to (with_at n a) (with_at n b) told (unopened-stays n a b to unopened) h.1.0
  | inr same ↦ makes-none to (with_at n a) (with_at n b) told (ap (λ (x : At). with_at n x) (sym same)) h.1.0
]

-- ---- turns

stepped : (n : Now) (a b : At) (to : Party) (told : List Response) (stop : Option Stop) → is_gone n.gone to ≡ false → Steps to a b told stop → Makes to (with_at n a) (with_at n b) told
stepped n a b to told stop lives (inl h) = makes-none to (with_at n a) (with_at n b) told (ap (λ (x : At). with_at n x) (sym h.0)) h.1.0
stepped n a b to told stop lives (inr h) = sent n a b to told stop lives h.1

sent-all : (n : Now) (a b : At) (to : Party) (told : List Response) → is_gone n.gone to ≡ false → SendsAll to a told b → Makes to (with_at n a) (with_at n b) told
sent-all n a b to [] lives h = makes-none to (with_at n a) (with_at n b) [] (ap (λ (x : At). with_at n x) (sym h)) refl
sent-all n a b to (one ∷ rest) lives h = makes-both to (with_at n a) (with_at n h.0) (with_at n b) (one ∷ []) rest (stepped n a h.0 to (one ∷ []) None lives h.1.0) (sent-all n h.0 b to rest lives h.1.1)

turned : (n : Now) (a b : At) (to : Party) (told : List Response) (stop : Stop) → is_gone n.gone to ≡ false → TurnOf to a b told stop → Makes to (with_at n a) (with_at n b) told
turned n a b to told stop lives h = subst (λ xs. Makes to (with_at n a) (with_at n b) xs) (sym h.is)
    (makes-both to (with_at n a) (with_at n h.mid) (with_at n b) h.sent h.last (sent-all n a h.mid to h.sent lives h.sends) (stepped n h.mid b to h.last (Some stop) lives h.stops))

pub thrown-from : (n : Now) (a b : At) (to : Party) (result : Result (Unit {0}) PutFault) (o u : Option End) → is_gone n.gone to ≡ true → end_of a.ends to ≡ o → end_of b.ends to ≡ u → ThrowsFrom o u a.core b.core to result → ChangesOnly a.ends b.ends to
    → Makes to (with_at n a) (with_at n b) []
thrown-from n a b to result None u gone old new h others = makes-rest to (with_at n a) (with_at n b) [] (stays-at n a b to h.1.0 others (ap held_at (new ∙ h.0 ∙ sym old)) (subst (λ o. Rests (end_of a.ends to) o) (old ∙ sym h.0 ∙ sym new) (rests-same (end_of a.ends to)))) refl
thrown-from n a b to result (Some before) None gone old new h others = absurd h
thrown-from n a b to result (Some before) (Some after) gone old new h others = record {
  deeds = Threw to h.throws.messages ∷ [];
  did = (
    with_at n b,
    (
      record {
        only = record { others = others; incoming = refl; gone = refl };
        gone = gone;
        held = after.held;
        held_is = ap held_at new;
        puts = λ back is. h.throws.puts back (is ∙ ap held_at old);
      },
      refl,
    ),
  );
  is = refl;
  sends = ((refl, gone), tt);
  gone = refl;
}

thrown : (n : Now) (a b : At) (to : Party) (stop : Stop) → is_gone n.gone to ≡ true → ThrowsFor to a b stop → Makes to (with_at n a) (with_at n b) []
thrown n a b to stop gone (inl h) = makes-both to (with_at n a) (with_at n m) (with_at n b) [] [] (makes-rest to (with_at n a) (with_at n m) [] (opens-stays n a h.mid to h.opens) refl)
    (thrown-from n m b to h.result (end_of h.mid to) (end_of b.ends to) gone refl refl h.throws h.others)
  where
    m : At
    m = record { ends = h.mid; core = a.core }
thrown n a b to stop gone (inr h) = makes-rest to (with_at n a) (with_at n b) [] (unopened-stays n a b to h.1) refl

pub has-turn : (n : Now) (a b : At) (to : Party) (told : List Response) (stop : Stop) → HasTurn n.gone to a b told stop → Makes to (with_at n a) (with_at n b) told
has-turn n a b to told stop h = elim (cases_Bool (is_gone n.gone to)) [
  | inl gone ↦ let both = h.thrown gone in subst (λ xs. Makes to (with_at n a) (with_at n b) xs) (sym both.0) (thrown n a b to stop gone both.1)
  | inr lives ↦ turned n a b to told stop lives (h.lives lives)
]

-- deeds of servers, one after another
pub record ServersMake (a b : Now) (told : List Response) : Type 0 where
  pub turns : List (ℕ × List Deed)
  pub did : DidAll a (in_turns turns) b
  pub is : told ≡ responses_in (in_turns turns)
  pub are : AreTurns a.gone turns

in-turn : (n : Now) (after : Option ℕ) (a b : At) (turns : List OneTurn) (last : Option ℕ) → AreInTurn n.gone after a turns last b → ServersMake (with_at n a) (with_at n b) (told_in turns)
in-turn n after a b [] last h = record { turns = []; did = ap (λ (x : At). with_at n x) (sym h.1); is = refl; are = tt }
in-turn n after a b (one ∷ rest) last h =
    let this = has-turn n a h.0 (parties.Server one.id) one.told one.stop h.1.1.0 in
    let more = in-turn n (Some one.id) h.0 b rest last h.1.1.1 in
    record {
      turns = (one.id, this.deeds) ∷ more.turns;
      did = did-both this.deeds (in_turns more.turns) (with_at n a) (with_at n h.0) (with_at n b) this.did more.did;
      is = ap (λ zs. zs ++ told_in rest) this.is ∙ ap (λ zs. responses_in this.deeds ++ zs) more.is ∙ sym (responses-both this.deeds (in_turns more.turns));
      are = (this.sends, more.are);
    }

-- deeds of all parties in their turns
pub record AllMake (a b : Now) (told : List Response) : Type 0 where
  pub deeds : List Deed
  pub did : DidAll a deeds b
  pub is : told ≡ responses_in deeds
  pub turns : IsInTurns a.gone deeds

pub all-turn : (n : Now) (before first : Option Party) (a d : At) (told : List Response) → Rounds n.gone before a d told first → AllMake (with_at n a) (with_at n d) told
all-turn n before first a d told h =
    let clients = has-turn n a h.b parties.Clients h.to_clients h.clients_stop h.clients in
    let master = has-turn n h.b h.c parties.Master h.to_master h.master_stop h.master in
    let servers = in-turn n None h.c d h.servers.turns h.servers.last h.servers.are in
    record {
      deeds = clients.deeds ++ (master.deeds ++ in_turns servers.turns);
      did = did-both clients.deeds (master.deeds ++ in_turns servers.turns) (with_at n a) (with_at n h.b) (with_at n d) clients.did
          (did-both master.deeds (in_turns servers.turns) (with_at n h.b) (with_at n h.c) (with_at n d) master.did servers.did);
      is = h.is ∙ ap (λ zs. zs ++ (h.to_master ++ h.to_servers)) clients.is ∙ ap (λ zs. responses_in clients.deeds ++ (zs ++ h.to_servers)) master.is
          ∙ ap (λ zs. responses_in clients.deeds ++ (responses_in master.deeds ++ zs)) (h.servers.is ∙ servers.is)
          ∙ ap (λ zs. responses_in clients.deeds ++ zs) (sym (responses-both master.deeds (in_turns servers.turns))) ∙ sym (responses-both clients.deeds (master.deeds ++ in_turns servers.turns));
      turns = record { clients = clients.deeds; master = master.deeds; servers = servers.turns; is = refl; to_clients = clients.sends; to_master = master.sends; to_servers = servers.are };
    }
