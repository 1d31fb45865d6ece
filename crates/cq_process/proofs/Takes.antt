-- Pieces that aren't taken, and messages that are thrown away.
use Rattle.std.proofs.Common.{◌≡◌, ℕ, ◌∙◌, sym, refl, List, true, false, Result, Ok, Err, Option, None, Some}
use Rattle.std.specs.Prelude.{IfErr}
use Rattle.std.proofs.lemmas.Bool.{true≢false}
use Rattle.cq_base.specs.declared.party.Party.{Party}
use Rattle.cq_chain.specs.declared.server.Server as rust_server
use Rattle.cq_frames.specs.declared.number.PieceNumber.{PieceNumber}
use Rattle.cq_process.specs.declared.incoming.TakeFault.TheVariants.{NotNext, Unread}
use Rattle.cq_process.specs.declared.outgoing.PutFault.{PutFault}
use Rattle.cq_process.specs.declared.outgoing.PutFault.TheVariants as put_faults
use Rattle.cq_process.specs.Links.{Received, TakesPiece, ThrowsFrom}
use Rattle.cq_process.specs.Outgoing.{End}
use Rattle.cq_process.specs.Taking.{is_next, nothing}
use Rattle.cq_wire.specs.declared.fault.ReadFault.TheVariants.{NoMemory}

pub not-next-taken : (r : Received) (core : rust_server.Server) (from : Party) (number : PieceNumber) (piece : List ℕ) → is_next number r.taken r.pieces ≡ false → TakesPiece r r core core from number piece (Err NotNext)
not-next-taken r core from number piece other = record {
  out_of_turn = λ h. refl;
  in_turn = λ h i. true≢false (sym h ∙ other);
  read = tt;
  counted = refl;
  pieces = refl;
  left = refl;
  took = λ h. absurd cc;
  idle = λ h s outbox i. i;
  refused = λ s outbox i. tt;
}

pub unread-taken : (r : Received) (core : rust_server.Server) (from : Party) (number : PieceNumber) (piece : List ℕ) → is_next number r.taken r.pieces ≡ true → r.pieces ≡ 0 → r.next ≡ nothing → TakesPiece r r core core from number piece (Err (Unread NoMemory))
unread-taken r core from number piece same none next = record {
  out_of_turn = λ h. absurd (true≢false (sym same ∙ h));
  in_turn = λ h i. absurd cc;
  read = tt;
  counted = refl;
  pieces = none;
  left = next;
  took = λ h. absurd cc;
  idle = λ h s outbox i. i;
  refused = λ s outbox i. tt;
}

pub throws-no-memory : (before after : Option End) (a b : rust_server.Server) (to : Party) (r : Result (Unit {0}) PutFault) → ThrowsFrom before after a b to r → r ≡ Err put_faults.NoMemory → ⊥
throws-no-memory None after a b to r h is = let ok = h.1.1 in absurd cc
throws-no-memory (Some before) None a b to r h is = h
throws-no-memory (Some before) (Some after) a b to r h is = only r h.fault is where
  only : (o : Result (Unit {0}) PutFault) → IfErr o (λ fault. fault ≡ put_faults.NumbersSpent) → o ≡ Err put_faults.NoMemory → ⊥
  only (Ok u) h is = absurd cc
  only (Err put_faults.NoMemory) h is = absurd cc
  only (Err put_faults.NumbersSpent) h is = absurd cc
