-- The clients of the queues. A client asks one thing at a time, each under a number of its own, and may ask the same
-- once more under the same number (a choice of this project: SQS has no such numbers).
use Rattle.std.specs.Prelude.{◌≡◌, ℕ, ◌+◌, ◌==◌, ◌&&◌, Bool, is_some, nat_lt, if◌then◌else◌, Option, None, Some}
use Rattle.std.specs.Option.{option_map}
use Rattle.cq_base.specs.declared.limits.TheConstants.{REQUESTS_LIMIT}
use Rattle.cq_base.specs.declared.ask.Ask.{Ask}
use Rattle.cq_base.specs.declared.ask.Request.{Request}
use Rattle.cq_chain.specs.declared.client.Client as rust
use Rattle.cq_chain.specs.declared.fault.ClientFault.{ClientFault}
use Rattle.cq_chain.specs.declared.fault.ClientFault.TheVariants.{Busy, NumbersSpent}

-- What a client knows.
pub record Client : Type 0 where
  -- its id, which all its requests bear
  pub id : ℕ
  -- the number of its last request, 0 before the first
  pub used : ℕ
  -- what its open request asks: the last one, where no answer has closed it
  pub pending : Option Ask
  -- the length of the last answer that closed a request, 0 before the first
  pub length : ℕ

-- a client that has asked nothing
abbrev pub first_client : ℕ → Client
first_client id = record { id = id; used = 0; pending = None; length = 0 }

-- Why an ask is refused, if it is: a client waits for the answer to one request before it makes the next.
abbrev pub refusal_of_ask : Client → Option ClientFault
refusal_of_ask c = if is_some c.pending then Some Busy else if nat_lt c.used REQUESTS_LIMIT then None else Some NumbersSpent

-- what a client asks, under that number
abbrev pub request_of : Client → ℕ → Ask → Request
request_of c number ask = record { client = c.id; number = number; ask = ask }

-- The request that an ask becomes: it bears the number after the last one, so that numbers count from 1.
abbrev pub next_request : Client → Ask → Request
next_request c ask = request_of c (c.used + 1) ask

-- A client that has made its next request, which is open.
abbrev pub asked : Client → Ask → Client
asked c ask = record c { used = c.used + 1; pending = Some ask }

-- the open request, as it was made, if one is open
abbrev pub open_request : Client → Option Request
open_request c = option_map (request_of c c.used) c.pending

-- An answer closes the open request if it bears the request's number, and a length above that of the last answer that
-- closed one. So an old answer, or the same one once more, closes nothing (a choice of this project).
abbrev pub closes : Client → ℕ → ℕ → Bool
closes c number length = is_some c.pending && number == c.used && nat_lt c.length length

-- A client whose open request was closed by an answer of that length.
abbrev pub closed : Client → ℕ → Client
closed c length = record c { pending = None; length = length }

-- A client to which an answer of that number and length came: it changes nothing unless it closes the open request.
abbrev pub after_answer : Client → ℕ → ℕ → Client
after_answer c number length = if closes c number length then closed c length else c

-- What is kept of a client stands for what it knows: each part is as it is kept.
unfoldable pub StandsFor : rust.Client → Client → Type 0
StandsFor kept c = c ≡ record { id = kept.id; used = kept.used; pending = kept.pending; length = kept.length }
