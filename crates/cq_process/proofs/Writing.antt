-- The next piece of the message that is held, as that of the first message for a party.
use Rattle.std.proofs.Common.{◌≡◌, ℕ, refl, sym, subst, List, Option, Some, Result, Ok, Err}
use Rattle.cq_base.specs.declared.party.Party.{Party}
use Rattle.cq_chain.specs.declared.message.Message as rust
use Rattle.cq_chain.specs.declared.server.Server as rust_server
use Rattle.cq_process.specs.declared.outgoing.PutFault.{PutFault}
use Rattle.cq_process.specs.declared.outgoing.Written.{Written}
use Rattle.cq_process.specs.declared.outgoing.Written.TheVariants as what
use Rattle.cq_process.specs.Outgoing.{End}
use Rattle.cq_process.specs.Putting.{Idles, IsHeld, OnMessage, OnNone, OnPiece, Passes, PutsNext, WritesLast, WritesOn, WritesSome}
use Rattle.cq_process.proofs.Cores.{put-done}

-- what is held, where the message that was held before stays
abbrev pub Stays : Option rust.Message → Option rust.Message → Type 0
Stays before o = (x : rust.Message) → before ≡ Some x → o ≡ Some x

-- what the core stands for, with that held
abbrev pub PassesFrom : rust_server.Server → rust_server.Server → Party → Option rust.Message → Option rust.Message → Type 0
PassesFrom a b to before o = (back : Party → Option rust.Message) → back to ≡ before → Passes a b back to o

same-held : (before o : Option rust.Message) (m : rust.Message) → Stays before o → o ≡ Some m → IsHeld before m
same-held before o m same is x was = let other = same x was in cc

pub some-on : (a b : rust_server.Server) (to : Party) (before after : End) (o : Option rust.Message) (old new : List ℕ) (r : Result Written PutFault) → PassesFrom a b to before.held o → Stays before.held o
    → OnPiece r (WritesSome (record { put = before.put; pieces = before.pieces; held = o; writer = before.writer }) after old new) → OnPiece r (WritesOn a b to before after old new)
some-on a b to before after o old new (Ok what.Nothing) passes same h = tt
some-on a b to before after o old new (Ok (what.Message number)) passes same h = tt
some-on a b to before after o old new (Err fault) passes same h = tt
some-on a b to before after o old new (Ok (what.Piece number)) passes same h = record {
  message = h.message;
  same = same-held before.held o h.message same h.was;
  held = h.held;
  written = h.written;
  kept = λ back is. subst (Passes a b back to) h.was (passes back is);
}

pub last-on : (a b : rust_server.Server) (to : Party) (before after : End) (o : Option rust.Message) (old new : List ℕ) (r : Result Written PutFault) → PassesFrom a b to before.held o → Stays before.held o
    → OnMessage r (WritesLast (record { put = before.put; pieces = before.pieces; held = o; writer = before.writer }) after old new) → OnMessage r (PutsNext a b to before after old new)
last-on a b to before after o old new (Ok what.Nothing) passes same h = tt
last-on a b to before after o old new (Ok (what.Piece number)) passes same h = tt
last-on a b to before after o old new (Err fault) passes same h = tt
last-on a b to before after o old new (Ok (what.Message number)) passes same h = record {
  message = h.message;
  same = same-held before.held o h.message same h.was;
  writer = h.writer;
  written = h.written;
  put = λ back is. put-done a b back to h.message (subst (Passes a b back to) h.was (passes back is));
  held = h.held;
  fresh = h.fresh;
}

idles : (a b : rust_server.Server) (to : Party) (before after : End) (o : Option rust.Message) → PassesFrom a b to before.held o → Stays before.held o → after ≡ record { put = before.put; pieces = before.pieces; held = o; writer = before.writer } → Idles a b to before after
idles a b to before after o passes same is = subst (Idles a b to before) (sym is) (record { writer = refl; same = same; kept = passes })

pub none-on : (a b : rust_server.Server) (to : Party) (before after : End) (o : Option rust.Message) (r : Result Written PutFault) → PassesFrom a b to before.held o → Stays before.held o
    → OnNone r (after ≡ record { put = before.put; pieces = before.pieces; held = o; writer = before.writer }) → OnNone r (Idles a b to before after)
none-on a b to before after o (Ok what.Nothing) passes same h = idles a b to before after o passes same h
none-on a b to before after o (Ok (what.Piece number)) passes same h = tt
none-on a b to before after o (Ok (what.Message number)) passes same h = tt
none-on a b to before after o (Err fault) passes same h = idles a b to before after o passes same h
