-- What the process of a master does of one frame, as actions, and what it tells of it as responses.
use Rattle.std.proofs.Common.{◌≡◌, ◌∙◌, ℕ, ◌+◌, ap, sym, refl, List, [], ◌∷◌, ◌++◌, map, append-nil, Bool, true, false, Option, Some, None, Result, Ok, Err, inl, inr}
use Rattle.std.specs.Prelude.{◌⊎◌}
use Rattle.std.proofs.lemmas.List.Concat.{flat_map-append}
use Rattle.cq_base.specs.declared.party.Party.TheVariants as parties
use Rattle.cq_chain.specs.declared.master.Master as rust_master
use Rattle.cq_events.specs.Actions.{Action, Took, Detected, Joined, CoreState, IsMasterAs, Keeps}
use Rattle.cq_events.specs.Acts.{ActsMaster, MasterActs}
use Rattle.cq_events.specs.Actions as actions
use Rattle.cq_frames.specs.declared.command.Command.{Command}
use Rattle.cq_frames.specs.declared.command.Command.TheVariants as commands
use Rattle.cq_frames.specs.declared.response.Response.{Response}
use Rattle.cq_frames.specs.declared.response.Response.TheVariants as responses
use Rattle.cq_frames.specs.declared.response.TheConstants.{NO_MEMORY}
use Rattle.cq_frames.specs.Reading.{command_at}
use Rattle.cq_master_process.specs.declared.process.MasterProcess.{MasterProcess}
use Rattle.cq_master_process.specs.Answering.{Answers, AnswersRead, IsDone, told_behind}
use Rattle.cq_master_process.specs.Cores.{ActsAll, alone}
use Rattle.cq_master_process.specs.Links.{counted, gone_of, put_of}
use Rattle.cq_master_process.specs.Putting.{Puts, Sent, action_of, response_of, told_all, told_of}
use Rattle.cq_master_process.specs.Steps.{Does, Keeps as SameProcess}
use Rattle.cq_master_process.proofs.Cores.{keeps-alone}
use Rattle.cq_process_frames.specs.Frames.{frame}
use Rattle.cq_server_process.specs.Turns.{frames}
use Rattle.cq_wire.specs.declared.fault.WireFault.{WireFault}
use Rattle.cq_wire.specs.declared.fault.WireFault.TheVariants.{BadNumber}
use Rattle.cq_wire.specs.Faults.{wire_code}
use Rattle.cq_wire.specs.Reading.{whole_at}

-- ---- actions one behind another

-- an action behind a call that changed nothing
does-after : (d : Action) (a b c : CoreState rust_master.Master) → Keeps IsMasterAs a b → ActsMaster d b c → ActsMaster d a c
does-after (actions.Arrived clock request) a b c k h = absurd h.0
does-after (actions.Asked query) a b c k h = absurd h.0
does-after (actions.Put to x) a b c k h = (λ m outbox i. h.0 m outbox (k m outbox i), tt)
does-after (Took from x) a b c k h = (λ m means s outbox i. h.0 m means s outbox (k s outbox i), tt)
does-after (actions.Crashed count) a b c k h = absurd h.0
does-after (Detected id) a b c k h = (λ m outbox i. h.0 m outbox (k m outbox i), λ m outbox i. h.1 m outbox (k m outbox i))
does-after (Joined id) a b c k h = (λ m outbox i. h.0 m outbox (k m outbox i), λ m outbox i. h.1 m outbox (k m outbox i))

acts-after : (ds : List Action) (a b c : CoreState rust_master.Master) → Keeps IsMasterAs a b → MasterActs b ds c → MasterActs a ds c
acts-after [] a b c k h = λ m outbox i. h m outbox (k m outbox i)
acts-after (d ∷ ds) a b c k h = (h.0, does-after d a b h.0 k h.1, h.2)

pub acts-both : (xs ys : List Action) (a b c : CoreState rust_master.Master) → MasterActs a xs b → MasterActs b ys c → MasterActs a (xs ++ ys) c
acts-both [] ys a b c h k = acts-after ys a b c h k
acts-both (x ∷ xs) ys a b c h k = (h.0, h.1, acts-both xs ys h.0 b c h.2 k)

-- ---- what is told of puts, as responses

abbrev pub told_once : Bool → Sent → ℕ → List Response
told_once true x number = []
told_once false x number = response_of x number ∷ []

abbrev pub responses_all : (ℕ → Bool) → (ℕ → ℕ) → List Sent → List Response
responses_all are_gone numbers [] = []
responses_all are_gone numbers (x ∷ xs) = told_once (are_gone x.to) x (numbers x.to + 1) ++ responses_all are_gone (counted numbers x.to) xs

once-frames : (is_gone : Bool) (x : Sent) (number : ℕ) → told_of is_gone x number ≡ frames (told_once is_gone x number)
once-frames true x number = refl
once-frames false x number = sym (append-nil (frame (response_of x number)))

all-frames : (are_gone : ℕ → Bool) (numbers : ℕ → ℕ) (xs : List Sent) → told_all are_gone numbers xs ≡ frames (responses_all are_gone numbers xs)
all-frames are_gone numbers [] = refl
all-frames are_gone numbers (x ∷ xs) =
    ap (λ t. t ++ told_all are_gone (counted numbers x.to) xs) (once-frames (are_gone x.to) x (numbers x.to + 1))
    ∙ ap (λ t. frames (told_once (are_gone x.to) x (numbers x.to + 1)) ++ t) (all-frames are_gone (counted numbers x.to) xs)
    ∙ sym (flat_map-append frame (told_once (are_gone x.to) x (numbers x.to + 1)) (responses_all are_gone (counted numbers x.to) xs))

-- what is told behind them
abbrev pub behind : Option ℕ → List Response
behind None = responses.Heard ∷ []
behind (Some id) = responses.Waiting (parties.Server id) ∷ responses.Heard ∷ []

behind-frames : (waits : Option ℕ) → told_behind waits ≡ frames (behind waits)
behind-frames None = sym (append-nil (frame responses.Heard))
behind-frames (Some id) = ap (λ t. frame (responses.Waiting (parties.Server id)) ++ t) (sym (append-nil (frame responses.Heard)))

-- ---- of a command

-- what a command is by itself
abbrev pub first_of : (p : MasterProcess) (command : Command) (q : MasterProcess) → Does p command q → List Action
first_of p (commands.Arrive stream clock request) q h = []
first_of p (commands.Ask query) q h = []
first_of p (commands.Take parties.Master number piece) q h = []
first_of p (commands.Take parties.Clients number piece) q h = []
first_of p (commands.Take (parties.Server from) number piece) q h = Took (parties.Server from) h.message ∷ []
first_of p (commands.Detect server) q h = Detected server ∷ []
first_of p (commands.Join server) q h = Joined server ∷ []
first_of p (commands.More to) q h = []
first_of p (commands.Gone server) q h = []
first_of p commands.Save q h = []
first_of p (commands.Load chunk) q h = []

one-act : (d : Action) (a b : CoreState rust_master.Master) → ActsMaster d a b → MasterActs a (d ∷ []) b
one-act d a b h = (b, h, λ m outbox i. i)

first-acts : (p : MasterProcess) (command : Command) (q : MasterProcess) (h : Does p command q) → ActsAll (first_of p command q h) p.core q.core
first-acts p (commands.Arrive stream clock request) q h = absurd h
first-acts p (commands.Ask query) q h = absurd h
first-acts p (commands.Take parties.Master number piece) q h = absurd h
first-acts p (commands.Take parties.Clients number piece) q h = absurd h
first-acts p (commands.Take (parties.Server from) number piece) q h = one-act (Took (parties.Server from) h.message) (alone p.core) (alone q.core) h.takes.done
first-acts p (commands.Detect server) q h = one-act (Detected server) (alone p.core) (alone q.core) h.done
first-acts p (commands.Join server) q h = one-act (Joined server) (alone p.core) (alone q.core) h.done
first-acts p (commands.More to) q h = keeps-alone p.core q.core h.core
first-acts p (commands.Gone server) q h = keeps-alone p.core q.core h.core
first-acts p commands.Save q h = absurd h
first-acts p (commands.Load chunk) q h = absurd h

-- ---- of a frame

-- It is a command: what that is by itself comes first, and then messages are put.
pub record Carries (p : MasterProcess) (bytes : List ℕ) (q : MasterProcess) (told : List Response) (acts : List Action) : Type 0 where
  pub command : Command
  pub read : whole_at command_at bytes ≡ Ok command
  pub mid : MasterProcess
  pub does : Does p command mid
  pub messages : List Sent
  pub text : List ℕ
  pub puts : Puts mid q messages text
  pub waits : Option ℕ
  pub are_told : told ≡ responses_all (gone_of mid.links) (put_of mid.links) messages ++ behind waits
  pub are_acts : acts ≡ first_of p command mid does ++ map action_of messages

-- it tells that a command was refused, or not read
abbrev pub IsRefusal : Response → Type 0
IsRefusal one = (code : ℕ) × ((one ≡ responses.Refused code) ⊎ (one ≡ responses.Unread code))

-- Or nothing changes, and a refusal is all that is told.
pub record Rests (p q : MasterProcess) (told : List Response) (acts : List Action) : Type 0 where
  pub keeps : SameProcess p q
  pub refusal : Response
  pub is : told ≡ refusal ∷ []
  pub so : IsRefusal refusal
  pub none : acts ≡ []

abbrev pub Comes : MasterProcess → Option (List ℕ) → MasterProcess → List Response → List Action → Type 0
Comes p None q told acts = Rests p q told acts
Comes p (Some bytes) q told acts = Carries p bytes q told acts ⊎ Rests p q told acts

pub record Doing (p : MasterProcess) (bytes : Option (List ℕ)) (text : List ℕ) (q : MasterProcess) : Type 0 where
  pub told : List Response
  pub acts : List Action
  pub as_frames : text ≡ frames told
  pub comes : Comes p bytes q told acts
  pub did : ActsAll acts p.core q.core

carried : (p : MasterProcess) (bytes text : List ℕ) (q : MasterProcess) (command : Command) → whole_at command_at bytes ≡ Ok command → IsDone p q command text → Doing p (Some bytes) text q
carried p bytes text q command read h =
    let put = responses_all (gone_of h.mid.links) (put_of h.mid.links) h.turns.messages in
    record {
      told = put ++ behind h.waits;
      acts = first_of p command h.mid h.done ++ map action_of h.turns.messages;
      as_frames = h.is ∙ ap (λ t. t ++ told_behind h.waits) (h.turns.puts.is ∙ all-frames (gone_of h.mid.links) (put_of h.mid.links) h.turns.messages) ∙ ap (λ t. frames put ++ t) (behind-frames h.waits)
          ∙ sym (flat_map-append frame put (behind h.waits));
      comes = inl (record { command = command; read = read; mid = h.mid; does = h.done; messages = h.turns.messages; text = h.puts; puts = h.turns.puts; waits = h.waits; are_told = refl; are_acts = refl });
      did = acts-both (first_of p command h.mid h.done) (map action_of h.turns.messages) (alone p.core) (alone h.mid.core) (alone q.core) (first-acts p command h.mid h.done) h.turns.puts.done;
    }

rested : (p : MasterProcess) (frame_of : Option (List ℕ)) (text : List ℕ) (q : MasterProcess) (one : Response) → SameProcess p q → text ≡ frame one → IsRefusal one → Doing p frame_of text q
rested p None text q one keeps is refusal = record { told = one ∷ []; acts = []; as_frames = is ∙ sym (append-nil (frame one)); comes = record { keeps = keeps; refusal = one; is = refl; so = refusal; none = refl }; did = keeps-alone p.core q.core keeps.core }
rested p (Some bytes) text q one keeps is refusal = record { told = one ∷ []; acts = []; as_frames = is ∙ sym (append-nil (frame one)); comes = inr (record { keeps = keeps; refusal = one; is = refl; so = refusal; none = refl }); did = keeps-alone p.core q.core keeps.core }

read-doing : (p : MasterProcess) (bytes text : List ℕ) (q : MasterProcess) (read : Result Command WireFault) → whole_at command_at bytes ≡ read → AnswersRead p read text q → Doing p (Some bytes) text q
read-doing p bytes text q (Ok command) is (inl h) = rested p (Some bytes) text q (responses.Refused h.code) h.keeps h.is (h.code, inl refl)
read-doing p bytes text q (Ok command) is (inr h) = carried p bytes text q command is h
read-doing p bytes text q (Err fault) is h = rested p (Some bytes) text q (responses.Unread (wire_code fault)) h.keeps h.is (wire_code fault, inr refl)

pub doing : (p : MasterProcess) (frame_of : Option (List ℕ)) (text : List ℕ) (q : MasterProcess) → Answers p frame_of text q → Doing p frame_of text q
doing p None text q h = rested p None text q (responses.Unread (wire_code BadNumber)) h.keeps h.is (wire_code BadNumber, inr refl)
doing p (Some bytes) text q (inl h) = rested p (Some bytes) text q (responses.Refused NO_MEMORY) h.keeps h.is (NO_MEMORY, inl refl)
doing p (Some bytes) text q (inr h) = read-doing p bytes text q (whole_at command_at bytes) refl h
