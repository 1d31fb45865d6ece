-- A command with the turns behind it, and the end of its answer.
use Rattle.std.proofs.Common.{◌≡◌, ℕ, ◌∙◌, ap, append-nil, refl, subst, sym, Bool, true, false, if◌then◌else◌, List, [], ◌∷◌, ◌++◌, Option, inl, inr, Result, Ok, Err}
use Rattle.std.specs.Prelude.{OnOk, Some}
use Rattle.std.specs.Result.{is_err}
use Rattle.cq_base.specs.declared.party.Party.{Party}
use Rattle.cq_base.specs.Relations.{IsPrefix}
use Rattle.cq_frames.specs.declared.command.Command.{Command}
use Rattle.cq_frames.specs.declared.response.Response.TheVariants as responses
use Rattle.cq_frames.specs.declared.response.TheConstants.{STREAM_ENDED}
use Rattle.cq_frames.specs.Reading.{command_at}
use Rattle.cq_frames.specs.Streams.{stream_in}
use Rattle.cq_wire.specs.Reading.{whole_at}
use Rattle.cq_server_process.specs.Answers.{GoesWith, Process, State, TellsAnswer, TellsBy, TellsCommand, TellsEnd, TellsOfCommand, TellsOrRefuses, ended_with, has_ended, waiting}
use Rattle.cq_server_process.specs.Rounds.{TellsRounds}
use Rattle.cq_server_process.specs.Turns.{at, frames}
use Rattle.cq_server_process.proofs.Sending.{told-behind}

pub goes-told : (command : Command) (p mid q : State) (happened : Result (Option Party) ℕ) (before first : Option Party) (old m new : List ℕ) → happened ≡ Ok before → TellsOrRefuses command p mid happened old m
    → TellsRounds mid.links.gone.keys before (at mid.links mid.core) (at q.links q.core) first m new → q.links.incoming ≡ mid.links.incoming → q.links.gone ≡ mid.links.gone → TellsCommand command p q (Ok first) old new
goes-told command p mid q happened before first old m new is tells rounds incoming gone =
    let h : TellsOrRefuses command p mid (Ok before) old m = subst (λ o. TellsOrRefuses command p mid o old m) is tells in (
      h.0 ++ rounds.0,
      (
        told-behind old m new h.0 rounds.0 h.1.0 rounds.1.0,
        record {
          mid = mid;
          of_it = h.0;
          before = before;
          happens = h.1.1;
          in_turns = rounds.0;
          rounds = rounds.1.1;
          incoming = incoming;
          gone = gone;
          is = refl;
        },
      ),
    )

-- what is told comes behind the rest
pub told-front : (command : Command) (p q : State) (happened : Result (Option Party) ℕ) (old new : List ℕ) → TellsCommand command p q happened old new → IsPrefix old new
told-front command p q (Ok first) old new h = (frames h.0, h.1.0)
told-front command p q (Err code) old new h = ([], h.0 ∙ sym (append-nil old))

pub ended-told : (command : Command) (p q : State) (happened : Result (Option Party) ℕ) (old mid end : List ℕ) → TellsCommand command p q happened old mid → TellsEnd q.core happened end → TellsBy (is_err happened) command p q old mid end
ended-told command p q (Ok first) old mid end h k = (
  h.0 ++ (waiting first ++ responses.Done k.0 ∷ []),
  (
    told-behind old mid (mid ++ end) h.0 (waiting first ++ responses.Done k.0 ∷ []) h.1.0 (ap (λ xs. mid ++ xs) k.1.1),
    record { put = h.0; first = first; goes = h.1.1; standing = k.0; stands = k.1.0; is = refl },
  ),
)
ended-told command p q (Err code) old mid end h k = (
  responses.Refused code ∷ [],
  (ap (λ xs. xs ++ end) h.0 ∙ ap (λ xs. old ++ xs) k, record { code = code; refuses = h.1; is = refl }),
)

-- ---- by the streams

pub late-told : (command : Command) (p : Process) (old end : List ℕ) → has_ended p.ended (stream_in command) ≡ true → end ≡ frames (responses.Refused STREAM_ENDED ∷ []) → TellsOfCommand command p p old old end
late-told command p old end late is = (responses.Refused STREAM_ENDED ∷ [], (ap (λ xs. old ++ xs) is, inl (record { late = late; stays = refl; is = refl })))

pub in-time-told : (command : Command) (p q : Process) (is_refused : Bool) (old new end : List ℕ) → has_ended p.ended (stream_in command) ≡ false → TellsBy is_refused command p.state q.state old new end
    → q.ended ≡ (if is_refused then ended_with p.ended (stream_in command) else p.ended) → TellsOfCommand command p q old new end
in-time-told command p q is_refused old new end in_time h ended = (h.0, (h.1.0, inr (record { in_time = in_time; is_refused = is_refused; answers = h.1.1; ended = ended })))

-- what is told of a command is told of the bytes that it was read of
pub read-told : {E : Type 0} (r : Result (Unit {0}) E) (bytes : List ℕ) (command : Command) (p q : Process) (old new end : List ℕ) → whole_at command_at bytes ≡ Ok command → OnOk r (TellsOfCommand command p q old new end) → OnOk r (TellsAnswer (Some bytes) p q old new end)
read-told (Ok u) bytes command p q old new end read h = (frames h.0, (h.1.0, (h.0, (refl, inr (command, (read, h.1.1))))))
read-told (Err e) bytes command p q old new end read h = tt
