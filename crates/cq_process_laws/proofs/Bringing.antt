-- The pieces that frames bring, and those of them that count.
use Rattle.std.proofs.Common.{◌≡◌, ℕ, ◌∙◌, ap, sym, refl, subst, List, [], ◌∷◌, ◌++◌, append-nil, Option, Some, None, inl, inr, Ok}
use Rattle.std.proofs.lemmas.List.Concat.{flat_map-append}
use Rattle.cq_base.specs.declared.party.Party.{Party}
use Rattle.cq_base.specs.declared.party.Party.TheVariants as parties
use Rattle.cq_base.specs.Relations.{Among}
use Rattle.cq_chain.specs.declared.message.Message.{Message}
use Rattle.cq_frames.specs.declared.command.Command.{Command}
use Rattle.cq_frames.specs.declared.command.Command.TheVariants as commands
use Rattle.cq_frames.specs.declared.response.Response.{Response}
use Rattle.cq_frames.specs.declared.response.Response.TheVariants as responses
use Rattle.cq_frames.specs.declared.response.Standing.{Standing}
use Rattle.cq_frames.specs.Reading.{command_at}
use Rattle.cq_frame_loop.specs.Chains.{Step}
use Rattle.cq_server_process.specs.declared.process.ServerProcess.{ServerProcess}
use Rattle.cq_server_process.specs.Answers.{State}
use Rattle.cq_wire.specs.Reading.{whole_at}
use Rattle.cq_process_laws.specs.Deeds.{Acted, AllTo, AreTurns, Came, Deed, Ended, IsInTurns, Lost, Missed, Read, Rested, Threw, Told, in_turns}
use Rattle.cq_process_laws.specs.Passing.{Numbered, WereRead, brought_by, brought_in, refusal_of}
use Rattle.cq_process_laws.specs.Runs.{AreDone, BeginsWith, ComesOf, Done, IsCarriedOut, PutsForNamed, IsRefusedWith, brought_from, deeds_in, state_of}
use Rattle.cq_process_laws.proofs.Coming.{Holds, among-behind, among-more, piece_from, pieces_from, were-in}

-- ---- of a frame

-- what is put and told brings nothing
sent-none : (from to : Party) (gone : List Party) (deeds : List Deed) → AllTo to gone deeds → pieces_from from deeds ≡ []
sent-none from to gone [] h = refl
sent-none from to gone (Rested ∷ deeds) h = sent-none from to gone deeds h.1
sent-none from to gone (Acted action ∷ deeds) h = absurd h.0
sent-none from to gone (Came other number piece ∷ deeds) h = absurd h.0
sent-none from to gone (Read other number piece message ∷ deeds) h = absurd h.0
sent-none from to gone (Missed other number piece code ∷ deeds) h = absurd h.0
sent-none from to gone (Lost party ∷ deeds) h = absurd h.0
sent-none from to gone (Told other number piece ∷ deeds) h = sent-none from to gone deeds h.1
sent-none from to gone (Ended other number piece message ∷ deeds) h = sent-none from to gone deeds h.1
sent-none from to gone (Threw other messages ∷ deeds) h = sent-none from to gone deeds h.1

-- where two lists bring nothing, both bring nothing
none-both : (from : Party) (xs ys : List Deed) → pieces_from from xs ≡ [] → pieces_from from ys ≡ [] → pieces_from from (xs ++ ys) ≡ []
none-both from xs ys h k = flat_map-append (piece_from from) xs ys ∙ ap (λ zs. zs ++ pieces_from from ys) h ∙ k

turns-none : (from : Party) (gone : List Party) (turns : List (ℕ × List Deed)) → AreTurns gone turns → pieces_from from (in_turns turns) ≡ []
turns-none from gone [] h = refl
turns-none from gone (turn ∷ turns) h = none-both from turn.1 (in_turns turns) (sent-none from (parties.Server turn.0) gone turn.1 h.0) (turns-none from gone turns h.1)

all-none : (from : Party) (gone : List Party) (deeds : List Deed) → IsInTurns gone deeds → pieces_from from deeds ≡ []
all-none from gone deeds h = ap (pieces_from from) h.is ∙ none-both from h.clients (h.master ++ in_turns h.servers) (sent-none from parties.Clients gone h.clients h.to_clients)
    (none-both from h.master (in_turns h.servers) (sent-none from parties.Master gone h.master h.to_master) (turns-none from gone h.servers h.to_servers))

own-none : (from : Party) (command : Command) (gone : List Party) (own : List Deed) → PutsForNamed command gone own → pieces_from from own ≡ []
own-none from (commands.More to) gone own h = sent-none from to gone own h
own-none from (commands.Gone server) gone own h = sent-none from (parties.Server server) gone own h
own-none from command gone own h = ap (pieces_from from) h

begun-brings : (from : Party) (command : Command) (first : List Deed) → BeginsWith command first → brought_by from None (Ok command) ≡ pieces_from from first
begun-brings from (commands.Arrive stream clock request) first h = sym (ap (pieces_from from) h)
begun-brings from (commands.Ask query) first h = sym (ap (pieces_from from) h)
begun-brings from (commands.Take other number piece) first (inl h) = sym (append-nil (brought_by from None (Ok (commands.Take other number piece)))) ∙ sym (ap (pieces_from from) h)
begun-brings from (commands.Take other number piece) first (inr h) = sym (append-nil (brought_by from None (Ok (commands.Take other number piece)))) ∙ sym (ap (pieces_from from) h.1)
begun-brings from (commands.Gone server) first h = sym (ap (pieces_from from) h)
begun-brings from (commands.More to) first h = sym (ap (pieces_from from) h)
begun-brings from (commands.Detect server) first h = absurd h
begun-brings from (commands.Join server) first h = absurd h
begun-brings from commands.Save first h = absurd h
begun-brings from (commands.Load chunk) first h = absurd h

refused-brings : (from : Party) (command : Command) (code : ℕ) (deeds : List Deed) → IsRefusedWith command code deeds → brought_by from (Some code) (Ok command) ≡ pieces_from from deeds
refused-brings from (commands.Take other number piece) code deeds h = sym (append-nil (brought_by from (Some code) (Ok (commands.Take other number piece)))) ∙ sym (ap (pieces_from from) h)
refused-brings from (commands.Arrive stream clock request) code deeds h = sym (ap (pieces_from from) h)
refused-brings from (commands.Ask query) code deeds h = sym (ap (pieces_from from) h)
refused-brings from (commands.Gone server) code deeds h = sym (ap (pieces_from from) h)
refused-brings from (commands.More to) code deeds h = sym (ap (pieces_from from) h)
refused-brings from (commands.Detect server) code deeds h = sym (ap (pieces_from from) h)
refused-brings from (commands.Join server) code deeds h = sym (ap (pieces_from from) h)
refused-brings from commands.Save code deeds h = sym (ap (pieces_from from) h)
refused-brings from (commands.Load chunk) code deeds h = sym (ap (pieces_from from) h)

pub done-told : (so_far : Option ℕ) (before : List Response) (standing : Standing) → refusal_of so_far (before ++ responses.Done standing ∷ []) ≡ None
done-told so_far [] standing = refl
done-told so_far (one ∷ before) standing = done-told _ before standing

same-hold : (xs ys : List Numbered) → xs ≡ ys → Holds xs ys
same-hold xs ys same one h = subst (Among one) (sym same) h

carried-brings : (from : Party) (gone : List Party) (bytes : List ℕ) (told : List Response) (deeds : List Deed) → IsCarriedOut gone bytes told deeds → brought_in from (Some bytes) told ≡ pieces_from from deeds
carried-brings from gone bytes told deeds h =
    ap (λ refusal. brought_by from refusal (whole_at command_at bytes)) (ap (refusal_of None) h.ends ∙ done-told None h.before h.standing) ∙ ap (brought_by from None) h.read ∙ begun-brings from h.command h.first h.begins
    ∙ sym (append-nil (pieces_from from h.first)) ∙ ap (λ zs. pieces_from from h.first ++ zs) (sym (none-both from h.own h.turns (own-none from h.command gone h.own h.is_own) (all-none from gone h.turns h.in_turns)))
    ∙ sym (flat_map-append (piece_from from) h.first (h.own ++ h.turns)) ∙ ap (pieces_from from) (sym h.is)

frame-holds : (from : Party) (gone : List Party) (frame : Option (List ℕ)) (told : List Response) (deeds : List Deed) → ComesOf gone frame told deeds → Holds (brought_in from frame told) (pieces_from from deeds)
frame-holds from gone None told deeds h = same-hold [] (pieces_from from deeds) (sym (ap (pieces_from from) h.nothing))
frame-holds from gone (Some bytes) told deeds (inl h) = same-hold (brought_in from (Some bytes) told) (pieces_from from deeds) (carried-brings from gone bytes told deeds h)
frame-holds from gone (Some bytes) told deeds (inr (inl h)) = same-hold (brought_in from (Some bytes) told) (pieces_from from deeds)
    (ap (λ refusal. brought_by from refusal (whole_at command_at bytes)) (ap (refusal_of None) h.is) ∙ ap (brought_by from (Some h.code)) h.read ∙ refused-brings from h.command h.code deeds h.refused)
frame-holds from gone (Some bytes) told deeds (inr (inr h)) = λ one there. absurd (subst (λ ds. Among one (pieces_from from ds)) h.nothing there)

-- ---- of all frames

holds-both : (xs ys some more : List Numbered) → Holds xs some → Holds ys more → Holds (xs ++ ys) (some ++ more)
holds-both xs ys [] more h k one there = among-behind one xs ys (k one there)
holds-both xs ys (x ∷ some) more h k one (inl is) = among-more one xs ys (h one (inl is))
holds-both xs ys (x ∷ some) more h k one (inr there) = holds-both xs ys some more (λ other later. h other (inr later)) k one there

all-hold : (from : Party) (p : State) (steps : List (Step ServerProcess)) (done : List Done) → AreDone p steps done → Holds (brought_from from steps done) (pieces_from from (deeds_in done))
all-hold from p [] [] h = λ one there. there
all-hold from p [] (one ∷ rest) h = absurd h
all-hold from p (step ∷ steps) [] h = absurd h
all-hold from p (step ∷ steps) (one ∷ rest) h =
    subst (λ xs. Holds (brought_in from step.frame one.told ++ brought_from from steps rest) xs) (sym (flat_map-append (piece_from from) one.deeds (deeds_in rest)))
    (holds-both (brought_in from step.frame one.told) (brought_from from steps rest) (pieces_from from one.deeds) (pieces_from from (deeds_in rest))
    (frame-holds from (state_of step.after).links.gone.keys step.frame one.told one.deeds h.0.comes) (all-hold from (state_of step.after) steps rest h.1))

pub all-brought : (from : Party) (p : State) (steps : List (Step ServerProcess)) (done : List Done) (ms : List Message) → AreDone p steps done → WereRead 1 ms (pieces_from from (deeds_in done)) → WereRead 1 ms (brought_from from steps done)
all-brought from p steps done ms h read = were-in 1 ms (pieces_from from (deeds_in done)) (brought_from from steps done) (all-hold from p steps done h) read
