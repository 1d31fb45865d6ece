-- What a command makes the process do by itself.
use Rattle.std.proofs.Common.{◌≡◌, ◌∙◌, ℕ, ◌+◌, ◌==◌, ◌&&◌, ap, sym, cond, List, Bool, true, false, Result, Ok, Err, inl, inr, ◌⊎◌}
use Rattle.std.specs.Prelude.{OnOk, OnErr, IfErr}
use Rattle.cq_chain.specs.declared.message.Message as rust
use Rattle.cq_chain_wire.specs.Limits.{IsMessage}
use Rattle.cq_chain_wire.specs.Reading.{message_at}
use Rattle.cq_frames.specs.declared.number.PieceNumber.{PieceNumber}
use Rattle.cq_master_process.specs.declared.process.MasterProcess.{MasterProcess}
use Rattle.cq_frames.specs.declared.response.TheConstants.{NO_MEMORY}
use Rattle.cq_master_process.specs.Cores.{piece_of}
use Rattle.cq_master_process.specs.Links.{counted, gone_of, taken_of}
use Rattle.cq_master_process.specs.Refusing.{IsNoMessage, RefusesTake}
use Rattle.cq_master_process.specs.Steps.{Keeps, Takes, TakesMessage, is_in_turn}
use Rattle.cq_wire.specs.declared.fault.ReadFault.{ReadFault}
use Rattle.cq_wire.specs.declared.fault.ReadFault.TheVariants as faults
use Rattle.cq_wire.specs.Faults.{code_of}
use Rattle.cq_wire.specs.Reading.{Fails, whole_at}

pub keeps-both : (p q r : MasterProcess) → Keeps p q → Keeps q r → Keeps p r
keeps-both p q r h k = record {
  core = λ m outbox i. k.core m outbox (h.core m outbox i);
  taken = k.taken ∙ h.taken;
  put = k.put ∙ h.put;
  gone = k.gone ∙ h.gone;
}

pub keeps-behind : {E : Type 0} (r : Result (Unit {0}) E) (p mid q : MasterProcess) → Keeps p mid → OnErr r (Keeps mid q) → OnErr r (Keeps p q)
keeps-behind (Ok u) p mid q h k = tt
keeps-behind (Err e) p mid q h k = keeps-both p mid q h k

-- a message that is taken behind a call that changes nothing
pub takes-behind : {E : Type 0} (r : Result (Unit {0}) E) (p mid q : MasterProcess) (from : ℕ) (x : rust.Message) → Keeps p mid → OnOk r (TakesMessage mid q from x) → OnOk r (TakesMessage p q from x)
takes-behind (Ok u) p mid q from x h k = record {
  done = (λ m means s outbox i. k.done.0 m means s outbox (h.core s outbox i.0, λ to. tt), tt);
  taken = k.taken ∙ ap (λ f. counted f from) h.taken;
  put = k.put ∙ h.put;
  gone = k.gone ∙ h.gone;
}
takes-behind (Err e) p mid q from x h k = tt

-- the message that a piece is
pub takes-read : {E : Type 0} (r : Result (Unit {0}) E) (p q : MasterProcess) (from : ℕ) (number : PieceNumber) (piece : List ℕ) (x : rust.Message) → is_in_turn p from number ≡ true → IsMessage x × (piece ≡ piece_of x) → OnOk r (TakesMessage p q from x) → OnOk r (Takes p q from number piece)
takes-read (Ok u) p q from number piece x turn read h = record { in_turn = turn; message = x; fits = read.0; read = read.1; takes = h }
takes-read (Err e) p q from number piece x turn read h = tt

pub refuses-memory : (r : Result (Unit {0}) ℕ) (p : MasterProcess) (from : ℕ) (number : PieceNumber) (piece : List ℕ) → is_in_turn p from number ≡ true → IfErr r (λ code. code ≡ NO_MEMORY) → IfErr r (λ code. RefusesTake p from number piece code)
refuses-memory (Ok u) p from number piece turn h = tt
refuses-memory (Err code) p from number piece turn h = inr (turn, inr h)

unread : (fault : ReadFault) (piece : List ℕ) (code : ℕ) → Fails fault (whole_at message_at piece) → code ≡ code_of fault → IsNoMessage piece code ⊎ (code ≡ NO_MEMORY)
unread faults.NoMemory piece code h is = inr is
unread (faults.Bad fault) piece code h is = inl (record { fault = fault; read = h; is = is })

pub refuses-unread : (fault : ReadFault) (p : MasterProcess) (from : ℕ) (number : PieceNumber) (piece : List ℕ) (code : ℕ) → is_in_turn p from number ≡ true → Fails fault (whole_at message_at piece) → code ≡ code_of fault → RefusesTake p from number piece code
refuses-unread fault p from number piece code turn h is = inr (turn, unread fault piece code h is)

-- ---- whose turn it is

pub turn-gone : (p : MasterProcess) (from : ℕ) (number : PieceNumber) → gone_of p.links from ≡ true → false ≡ is_in_turn p from number
turn-gone p from number gone = sym (ap (λ b. cond b false ((number.index == 0) && (number.message == taken_of p.links from + 1))) gone)

pub turn-here : (p : MasterProcess) (from : ℕ) (number : PieceNumber) (is : Bool) → gone_of p.links from ≡ false → is ≡ (number.index == 0) && (number.message == taken_of p.links from + 1) → is ≡ is_in_turn p from number
turn-here p from number is here h = h ∙ sym (ap (λ b. cond b false ((number.index == 0) && (number.message == taken_of p.links from + 1))) here)
