-- A piece that is written behind its front, as one that is written behind nothing.
use Rattle.std.proofs.Common.{◌≡◌, ◌≤◌, ◌∙◌, ℕ, ap, sym, refl, subst, List, [], ◌++◌, length, append-nil, append_assoc, length-append, arith, Result, Ok, Err}
use Rattle.std.specs.Prelude.{IfOk, OnOk, OnErr}
use Rattle.cq_base.specs.declared.party.Party.{Party}
use Rattle.cq_base.specs.Relations.{IsPrefix}
use Rattle.cq_chain.specs.declared.server.Server.{Server}
use Rattle.cq_process.specs.declared.outgoing.PutFault.{PutFault}
use Rattle.cq_process.specs.declared.outgoing.Written.{Written}
use Rattle.cq_process.specs.declared.outgoing.Written.TheVariants as written_as
use Rattle.cq_process.specs.Links.{PutsAt, PutsPiece}
use Rattle.cq_process.specs.Outgoing.{End}
use Rattle.cq_process_frames.specs.declared.put.Unput.{Unput}
use Rattle.cq_process_frames.specs.Frames.{PutsFrame, front, told_of}

-- it is the same piece, whatever stands before it
abbrev pub IsBehind : List (Party × End) → List (Party × End) → Server → Server → Party → List ℕ → List ℕ → Result Written PutFault → Type 0
IsBehind before after a b to old new r = (piece : List ℕ) × ((new ≡ old ++ piece) × PutsAt before after a b to [] piece r)

pub rebased : (before after : List (Party × End)) (a b : Server) (to : Party) (old new : List ℕ) (r : Result Written PutFault) → PutsAt before after a b to old new r → IsBehind before after a b to old new r
rebased before after a b to old new (Ok written_as.Nothing) h = (
  [],
  (
    h.puts.bytes ∙ sym (append-nil old),
    record {
      was = h.was;
      is_old = h.is_old;
      becomes = h.becomes;
      is_new = h.is_new;
      puts = record {
        spent = h.puts.spent;
        unspent = h.puts.unspent;
        numbers = h.puts.numbers;
        some = tt;
        last = tt;
        idle = h.puts.idle;
        bytes = refl;
        held = h.puts.held;
        empty = h.puts.empty;
      };
    },
  ),
)
rebased before after a b to old new (Ok (written_as.Piece number)) h = (
  h.puts.some.written.text,
  (
    h.puts.some.written.bytes,
    record {
      was = h.was;
      is_old = h.is_old;
      becomes = h.becomes;
      is_new = h.is_new;
      puts = record {
        spent = h.puts.spent;
        unspent = h.puts.unspent;
        numbers = h.puts.numbers;
        some = record {
          message = h.puts.some.message;
          same = h.puts.some.same;
          held = h.puts.some.held;
          written = record { text = h.puts.some.written.text; bytes = refl; piece = h.puts.some.written.piece; sound = h.puts.some.written.sound; last = h.puts.some.written.last };
          kept = h.puts.some.kept;
        };
        last = tt;
        idle = tt;
        bytes = tt;
        held = h.puts.held;
        empty = h.puts.empty;
      };
    },
  ),
)
rebased before after a b to old new (Ok (written_as.Message number)) h = (
  h.puts.last.written.text,
  (
    h.puts.last.written.bytes,
    record {
      was = h.was;
      is_old = h.is_old;
      becomes = h.becomes;
      is_new = h.is_new;
      puts = record {
        spent = h.puts.spent;
        unspent = h.puts.unspent;
        numbers = h.puts.numbers;
        some = tt;
        last = record {
          message = h.puts.last.message;
          same = h.puts.last.same;
          writer = h.puts.last.writer;
          written = record { text = h.puts.last.written.text; bytes = refl; piece = h.puts.last.written.piece; sound = h.puts.last.written.sound; last = h.puts.last.written.last };
          put = h.puts.last.put;
          held = h.puts.last.held;
          fresh = h.puts.last.fresh;
        };
        idle = tt;
        bytes = tt;
        held = h.puts.held;
        empty = h.puts.empty;
      };
    },
  ),
)
rebased before after a b to old new (Err fault) h = (
  [],
  (
    h.puts.bytes ∙ sym (append-nil old),
    record {
      was = h.was;
      is_old = h.is_old;
      becomes = h.becomes;
      is_new = h.is_new;
      puts = record {
        spent = h.puts.spent;
        unspent = h.puts.unspent;
        numbers = h.puts.numbers;
        some = tt;
        last = tt;
        idle = h.puts.idle;
        bytes = refl;
        held = h.puts.held;
        empty = h.puts.empty;
      };
    },
  ),
)

-- nothing is taken off
pub grows : (before after : List (Party × End)) (a b : Server) (to : Party) (old new : List ℕ) (r : Result Written PutFault) → PutsAt before after a b to old new r → length old ≤ length new
grows before after a b to old new r puts = let h = rebased before after a b to old new r puts in let long = ap (λ xs. length xs) h.1.0 ∙ length-append old h.0 in omega (arith, long)

-- what was written is told
pub framed : (before after : List (Party × End)) (a b : Server) (to : Party) (old mid new : List ℕ) (r : Result Written PutFault) (q : Result (Result Written PutFault) Unput) → PutsAt before after a b to (old ++ front to) mid r
    → IfOk q (λ told. told ≡ r) → ((piece : List ℕ) → mid ≡ (old ++ front to) ++ piece → OnOk q (new ≡ old ++ told_of to r piece)) → IfOk q (PutsFrame before after a b to old new)
framed before after a b to old mid new r (Err fault) puts same tells = tt
framed before after a b to old mid new r (Ok told) puts same tells =
    let h = rebased before after a b to (old ++ front to) mid r puts in
    subst (PutsFrame before after a b to old new) (sym same) (record { piece = h.0; puts = h.1.1; told = tells h.0 h.1.0 })

-- ---- what stands before it

-- a piece behind it leaves it there
pub still-front : {A F : Type 0} (r : Result A F) (old mid new piece : List ℕ) → mid ≡ old ++ piece → OnErr r (new ≡ mid) → OnErr r (IsPrefix old new)
still-front (Ok x) old mid new piece is h = tt
still-front (Err fault) old mid new piece is h = (piece, h ∙ is)

-- so does a front
pub front-front : {A F : Type 0} (r : Result A F) (old mid new piece : List ℕ) → mid ≡ old ++ piece → OnErr r (IsPrefix mid new) → OnErr r (IsPrefix old new)
front-front (Ok x) old mid new piece is h = tt
front-front (Err fault) old mid new piece is h = (piece ++ h.0, h.1 ∙ ap (λ xs. xs ++ h.0) is ∙ append_assoc old piece h.0)

pub same-front : (old new : List ℕ) → new ≡ old → IsPrefix old new
same-front old new is = ([], is ∙ sym (append-nil old))
