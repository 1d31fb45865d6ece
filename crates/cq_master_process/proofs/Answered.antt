-- What is told of commands and frames.
use Rattle.std.proofs.Common.{◌≡◌, ◌∙◌, ℕ, ap, sym, refl, subst, List, [], ◌++◌, append_assoc, append-nil, Option, Some, None, Result, Ok, Err, inl, inr}
use Rattle.std.specs.Prelude.{OnOk}
use Rattle.cq_base.specs.Relations.{IsPrefix}
use Rattle.cq_frames.specs.declared.command.Command.{Command}
use Rattle.cq_frames.specs.declared.response.Response.TheVariants.{Refused, Unread}
use Rattle.cq_frames.specs.Reading.{command_at}
use Rattle.cq_master_process.specs.declared.process.MasterProcess.{MasterProcess}
use Rattle.cq_frames.specs.declared.response.TheConstants.{NO_MEMORY}
use Rattle.cq_master_process.specs.Answering.{AnswersRead, told_behind}
use Rattle.cq_master_process.specs.Links.{put_of}
use Rattle.cq_master_process.specs.Refusing.{Refuses}
use Rattle.cq_master_process.specs.Steps.{Does, Keeps}
use Rattle.cq_master_process.specs.Turns.{IsLeft}
use Rattle.cq_master_process.specs.within.Behind.{AnswersBehind, AnswersCommand, PutsInOrder, TakesTurns, TellsTurns, told_of_fault}
use Rattle.cq_process_frames.specs.Frames.{frame}
use Rattle.cq_wire.specs.declared.fault.ReadFault.{ReadFault}
use Rattle.cq_wire.specs.declared.fault.ReadFault.TheVariants as faults
use Rattle.cq_wire.specs.declared.fault.WireFault.TheVariants.{BadNumber}
use Rattle.cq_wire.specs.Faults.{wire_code}
use Rattle.cq_wire.specs.Reading.{Fails, whole_at}

-- ---- bytes

pub same-front : (old : List ℕ) → IsPrefix old old
same-front old = ([], sym (append-nil old))

-- what is told at the end alone
pub at-end : (out before after told : List ℕ) → before ≡ [] → after ≡ before ++ told → out ++ after ≡ out ++ told
at-end out before after told none is = ap (λ xs. out ++ xs) (is ∙ ap (λ xs. xs ++ told) none)

-- what is told behind and at the end
pub at-both : (old out before after puts told : List ℕ) → out ≡ old ++ puts → before ≡ [] → after ≡ before ++ told → out ++ after ≡ old ++ (puts ++ told)
at-both old out before after puts told behind none is = at-end out before after told none is ∙ ap (λ xs. xs ++ told) behind ∙ append_assoc old puts told

-- ---- turns

pub takes-turns : (p q : MasterProcess) (waits : Option ℕ) (old new : List ℕ) → PutsInOrder p q old new → IsLeft q.core (put_of q.links) waits → TakesTurns p q waits old new
takes-turns p q waits old new h left = record {
  told = h.told;
  turns = record { messages = h.messages; puts = h.puts; most = h.most; order = h.order; thrown = h.thrown; left = left };
  bytes = h.bytes;
}

pub tells-turns : (p q : MasterProcess) (waits : Option ℕ) (old out before after : List ℕ) → TakesTurns p q waits old out → before ≡ [] → after ≡ before ++ told_behind waits → TellsTurns p q old (out ++ after)
tells-turns p q waits old out before after h none is = record { told = h.told; waits = waits; turns = h.turns; bytes = at-both old out before after h.told (told_behind waits) h.bytes none is }

-- ---- commands

pub done-command : {E : Type 0} (r : Result (Unit {0}) E) (p mid q : MasterProcess) (command : Command) (old new : List ℕ) → Does p command mid → OnOk r (TellsTurns mid q old new) → OnOk r (AnswersCommand p q command old new)
done-command (Ok u) p mid q command old new done h = record {
  told = h.told ++ told_behind h.waits;
  answers = inr (record { mid = mid; done = done; puts = h.told; waits = h.waits; turns = h.turns; is = refl });
  bytes = h.bytes;
}
done-command (Err e) p mid q command old new done h = tt

pub refused-command : (p q : MasterProcess) (command : Command) (code : ℕ) (old before after : List ℕ) → Refuses p command code → Keeps p q → before ≡ [] → after ≡ before ++ frame (Refused code) → AnswersCommand p q command old (old ++ after)
refused-command p q command code old before after why keeps none is = record {
  told = frame (Refused code);
  answers = inl (record { code = code; why = why; keeps = keeps; is = refl });
  bytes = at-end old before after (frame (Refused code)) none is;
}

-- ---- frames

pub same-process : (p : MasterProcess) → Keeps p p
same-process p = record { core = λ m outbox h. h; taken = refl; put = refl; gone = refl }

pub read-frame : {E : Type 0} (r : Result (Unit {0}) E) (p q : MasterProcess) (bytes : List ℕ) (command : Command) (old new : List ℕ) → whole_at command_at bytes ≡ Ok command → OnOk r (AnswersCommand p q command old new) → OnOk r (AnswersBehind p (Some bytes) q old new)
read-frame (Ok u) p q bytes command old new is h = (h.told, inr (subst (λ read. AnswersRead p read h.told q) (sym is) h.answers), h.bytes)
read-frame (Err e) p q bytes command old new is h = tt

pub fault-frame : (p : MasterProcess) (bytes : List ℕ) (fault : ReadFault) (old before after : List ℕ) → Fails fault (whole_at command_at bytes) → before ≡ [] → after ≡ before ++ told_of_fault fault → AnswersBehind p (Some bytes) p old (old ++ after)
fault-frame p bytes faults.NoMemory old before after is none told = (frame (Refused NO_MEMORY), inl (record { keeps = same-process p; is = refl }), at-end old before after (frame (Refused NO_MEMORY)) none told)
fault-frame p bytes (faults.Bad fault) old before after is none told = (
  frame (Unread (wire_code fault)),
  inr (subst (λ read. AnswersRead p read (frame (Unread (wire_code fault))) p) (sym is) (record { keeps = same-process p; is = refl })),
  at-end old before after (frame (Unread (wire_code fault))) none told,
)

pub long-frame : (p : MasterProcess) (code : ℕ) (old before after : List ℕ) → code ≡ wire_code BadNumber → before ≡ [] → after ≡ before ++ frame (Unread code) → AnswersBehind p None p old (old ++ after)
long-frame p code old before after is none told = (frame (Unread code), record { keeps = same-process p; is = ap (λ n. frame (Unread n)) is }, at-end old before after (frame (Unread code)) none told)
