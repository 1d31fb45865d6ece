-- What is answered, and which entry comes of it.
use Rattle.std.proofs.Common.{◌≡◌, ◌⊎◌, ◌<◌, ◌≤◌, ◌+◌, inl, inr, ℕ, List, [], ◌∷◌, ◌++◌, length, true, false, Option, None, Some, Result, Ok, Err, refl, sym, ◌∙◌, ap, subst, arith, append_assoc, length-append}
use Rattle.std.specs.Prelude.{OnErr, OnOk}
use Rattle.std.proofs.lemmas.Bool.{false≢true}
use Rattle.std.proofs.lemmas.List.Sums.{fold-append}
use Rattle.cq_base.specs.declared.ask.Entry.{Entry}
use Rattle.cq_base.specs.declared.ask.Request.{Request}
use Rattle.cq_base.specs.declared.party.Party.{Party}
use Rattle.cq_base.specs.queue.History.{last_moment}
use Rattle.cq_chain.specs.declared.server.Server as rust_server
use Rattle.cq_chain.specs.Messages.{Message}
use Rattle.cq_chain.specs.Servers as states
use Rattle.cq_chain.specs.Stands as chain
use Rattle.cq_chain.specs.Steps.{stamped}
use Rattle.cq_disk.specs.declared.device.Device.{Ghosts}
use Rattle.cq_events.specs.Actions.{behind}
use Rattle.cq_frames.specs.declared.command.Command.TheVariants as commands
use Rattle.cq_frames.specs.declared.response.Response.TheVariants as responses
use Rattle.cq_frames.specs.declared.response.Standing.{Standing}
use Rattle.cq_kept_entries.specs.Classes.{class_of}
use Rattle.cq_kept_entries.specs.Kept.{HasAdded, IsKept, added_text, entries_journal}
use Rattle.cq_kept_server.specs.Commands.{IsPlain, is_plain, room_for}
use Rattle.cq_kept_server.specs.Keeping.{AnswersFrame, Brings}
use Rattle.cq_kept_server.specs.Servers.{CoreHas, Has, HasEntries, HasRoom, State, device_of}
use Rattle.cq_kept_server.specs.Telling.{IsArrival, IsRefused, RefusesAhead}
use Rattle.cq_kept_server.proofs.Entries.{TakesNone, arrival-comes, none-has, other-has}
use Rattle.cq_kept_server.proofs.Moments.{OnlyNow, grows_none, grows_one, still_kept}
use Rattle.cq_process_frames.specs.Frames.{frame}
use Rattle.cq_process_laws.specs.Runs as runs
use Rattle.cq_server_copies.specs.declared.saving.SavingProcess.{SavingProcess}
use Rattle.cq_server_copies.specs.Saving as saving
use Rattle.cq_server_process.specs.Answers.{StandsSo}

-- the number of entries for which a server stands
abbrev pub CountsEntries : rust_server.Server → ℕ → Type 0
CountsEntries core count = (s : states.Server) (outbox : Party → List Message) → chain.StandsFor core s outbox → count ≡ length s.entries

count-is : (process : SavingProcess) (count : ℕ) (all : List Entry) → CountsEntries process.process.core count → HasEntries process all → count ≡ length all
count-is process count all counts h = counts h.server (λ to. behind ((runs.core_of (runs.state_of process.process)).back to) (h.outbox to)) h.stands.0 ∙ ap length h.entries

-- the last moment is that of the last entry
last-more : (entries : List Entry) (e : Entry) → last_moment (entries ++ e ∷ []) ≡ e.moment
unfolding last_moment
last-more entries e = fold-append (λ _ d. d.moment) 0 entries (e ∷ [])

last-is : (process : SavingProcess) (standing : Standing) (all : List Entry) (e : Entry) → StandsSo process.process.core standing → HasEntries process (all ++ e ∷ []) → standing.last ≡ e.moment
last-is process standing all e stands h =
    stands.last h.server (λ to. behind ((runs.core_of (runs.state_of process.process)).back to) (h.outbox to)) h.stands.0 ∙ ap last_moment h.entries ∙ last-more all e

plain-takes-none : (bytes : List ℕ) → IsPlain (Some bytes) → TakesNone bytes
plain-takes-none bytes plain from number piece read = false≢true (plain (commands.Take from number piece) read)

plain-no-arrival : (bytes : List ℕ) → IsPlain (Some bytes) → (stream clock : ℕ) (request : Request) → IsArrival bytes stream clock request → ⊥
plain-no-arrival bytes plain stream clock request arrival = false≢true (plain (commands.Arrive stream clock request) arrival.read)

more-than : (all : List Entry) (e : Entry) → length (all ++ e ∷ []) ≡ length all + 1
more-than all e = length-append all (e ∷ [])

-- what holds is so after an error
pub on_err : {A E : Type 0} {P : Type 0} (r : Result A E) → P → OnErr r P
on_err (Ok x) p = tt
on_err (Err e) p = p

-- where it went well, what was added was
pub on_ok_added : {A E : Type 0} {P Q : List Entry → Type 0} {T : Type 0} (r : Result A E) → ((more : List Entry) → P more → OnOk r (Q more)) → (((more : List Entry) → P more → Q more) → T) → OnOk r T
on_ok_added (Ok x) added told = told added
on_ok_added (Err e) added told = tt

module _ {D : Type 0} {g : Ghosts D} where
  -- the process answers, and no entry comes
  pub plain_goes : (p q : State D g) (bytes : Option (List ℕ)) (text : List ℕ) → OnlyNow g (device_of p) → IsKept p.kept → q.kept ≡ p.kept → q.ended ≡ p.ended → IsPlain bytes → saving.Answers p.process bytes text q.process → AnswersFrame p bytes text q
  plain_goes p q None text only ready same ended plain answers = record {
    ready = subst (λ it. IsKept it) (sym same) ready;
    tells = record { answers = answers; ended = ended };
    goes = grows_none p q (Brings p None) only ready (ap (λ it. entries_journal it) same) (ap (λ it. added_text it) same) (λ all has. none-has p.process q.process text all answers has) (λ all. refl);
  }
  plain_goes p q (Some bytes) text only ready same ended plain answers = record {
    ready = subst (λ it. IsKept it) (sym same) ready;
    tells = inl (record { answers = answers; ended = ended });
    goes = grows_none p q (Brings p (Some bytes)) only ready (ap (λ it. entries_journal it) same) (ap (λ it. added_text it) same)
        (λ all has. other-has p.process q.process bytes text all (plain-takes-none bytes plain) (plain-no-arrival bytes plain) answers has) (λ all. inl refl);
  }

  -- it is refused ahead of the process
  pub refused_goes : (p q : State D g) (bytes text : List ℕ) (code : ℕ) → OnlyNow g (device_of p) → IsKept p.kept → entries_journal q.kept ≡ entries_journal p.kept → added_text q.kept ≡ added_text p.kept → q.process ≡ p.process
      → IsRefused bytes p.ended q.ended code → text ≡ frame (responses.Refused code) → AnswersFrame p (Some bytes) text q
  refused_goes p q bytes text code only ready journal waits same refused told = record {
    ready = still_kept p.kept q.kept journal waits ready;
    tells = inr (record { code = code; refused = refused; stays = same; told = told });
    goes = grows_none p q (Brings p (Some bytes)) only ready journal waits (λ all has. subst (λ it. HasEntries it all) (sym same) has) (λ all. inl refl);
  }

  -- an arrival of which no entry came
  pub arrival_none : (p q : State D g) (bytes text : List ℕ) (stream clock : ℕ) (request : Request) (before : ℕ) (standing : Standing) → OnlyNow g (device_of p) → IsKept p.kept → q.kept ≡ p.kept → q.ended ≡ p.ended
      → IsArrival bytes stream clock request → saving.Answers p.process (Some bytes) text q.process → CountsEntries p.process.process.core before → StandsSo q.process.process.core standing → standing.count ≤ before
      → AnswersFrame p (Some bytes) text q
  arrival_none p q bytes text stream clock request before standing only ready same ended arrival answers counts stands few = record {
    ready = subst (λ it. IsKept it) (sym same) ready;
    tells = inl (record { answers = answers; ended = ended });
    goes = grows_none p q (Brings p (Some bytes)) only ready (ap (λ it. entries_journal it) same) (ap (λ it. added_text it) same) keeps (λ all. inl refl);
  } where
    keeps : (all : List Entry) → HasEntries p.process all → HasEntries q.process all
    keeps all has = elim (arrival-comes p.process q.process bytes text stream clock request all arrival answers has) [
      | inl none ↦ none
      | inr one ↦
          let was : before ≡ length all = count-is p.process before all counts has in
          let is : standing.count ≡ length (all ++ stamped all clock request ∷ []) = count-is q.process standing.count (all ++ stamped all clock request ∷ []) stands.count one in
          let more = more-than all (stamped all clock request) in
          absurd (omega (arith, was, is, more, few))
    ]

  -- an arrival of which its entry came, and was added
  pub arrival_one : (p q : State D g) (bytes text : List ℕ) (stream clock : ℕ) (request : Request) (before : ℕ) (standing : Standing) → OnlyNow g (device_of p) → IsKept p.kept → IsKept q.kept → entries_journal q.kept ≡ entries_journal p.kept → q.ended ≡ p.ended
      → IsArrival bytes stream clock request → HasRoom p.kept (class_of request.ask) (room_for bytes) → saving.Answers p.process (Some bytes) text q.process → CountsEntries p.process.process.core before → StandsSo q.process.process.core standing → before < standing.count
      → ((more : List Entry) → HasAdded p.kept more → HasAdded q.kept (more ++ record { moment = standing.last; request = request } ∷ [])) → AnswersFrame p (Some bytes) text q
  arrival_one p q bytes text stream clock request before standing only ready kept journal ended arrival room answers counts stands many added = record {
    ready = kept;
    tells = inl (record { answers = answers; ended = ended });
    goes = grows_one p q (Brings p (Some bytes)) only ready journal step;
  } where
    step : (first rest : List Entry) → Has p first rest → (e : Entry) × (Brings p (Some bytes) (first ++ rest) (e ∷ []) × (HasEntries q.process ((first ++ rest) ++ e ∷ []) × HasAdded q.kept (rest ++ e ∷ [])))
    step first rest has = elim (arrival-comes p.process q.process bytes text stream clock request (first ++ rest) arrival answers has.server) [
      | inl none ↦
          let was : before ≡ length (first ++ rest) = count-is p.process before (first ++ rest) counts has.server in
          let is : standing.count ≡ length (first ++ rest) = count-is q.process standing.count (first ++ rest) stands.count none in
          absurd (omega (arith, was, is, many))
      | inr one ↦
          let e : Entry = stamped (first ++ rest) clock request in
          let last : standing.last ≡ e.moment = last-is q.process standing (first ++ rest) e stands one in (
            e,
            (
              inr (record { stream = stream; clock = clock; request = request; arrival = arrival; room = room; is = refl }),
              (one, subst (λ (m : ℕ). HasAdded q.kept (rest ++ record { moment = m; request = request } ∷ [])) last (added rest has.added)),
            ),
          )
    ]
