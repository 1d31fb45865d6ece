-- The bytes of each value.
use Rattle.std.specs.Prelude.{ℕ, List, [], ◌∷◌, ◌++◌, length, Bool, true, false, Option, Some, None}
use Rattle.std.specs.Int.{w32, w64, to_le_bytes}
use Rattle.std.specs.List.{flat_map}
use Rattle.cq_base.specs.declared.ask.Ask.{Ask}
use Rattle.cq_base.specs.declared.ask.Ask.TheVariants.{Create, Remove, Send, Receive, Delete, Change}
use Rattle.cq_base.specs.declared.ask.Request.{Request}
use Rattle.cq_base.specs.declared.ask.Entry.{Entry}
use Rattle.cq_base.specs.declared.ask.Query.{Query}
use Rattle.cq_base.specs.declared.reply.Delivery.{Delivery}
use Rattle.cq_base.specs.declared.reply.Reply.{Reply}
use Rattle.cq_base.specs.declared.reply.Reply.TheVariants.{Created, Removed, Sent, Received, Deleted, Changed, Counts, Refused}
use Rattle.cq_base.specs.Handle.{Handle}
use Rattle.cq_base.specs.Refusals.{refusal_code}
use Rattle.cq_wire.specs.declared.version.TheConstants.{VERSION}

-- ---- parts

-- a number in four bytes, the lowest first
unfoldable pub number32 : ℕ → List ℕ
number32 n = to_le_bytes w32 n

-- a number in eight bytes, the lowest first
unfoldable pub number64 : ℕ → List ℕ
number64 n = to_le_bytes w64 n

-- how many bytes it has, in four, and the bytes
unfoldable pub text : List ℕ → List ℕ
text bytes = number32 (length bytes) ++ bytes

-- 0 for no, 1 for yes
unfoldable pub flag : Bool → List ℕ
flag false = 0 ∷ []
flag true = 1 ∷ []

-- 0 for none; 1, and the value
unfoldable pub optional : {A : Type 0} → (A → List ℕ) → Option A → List ℕ
optional one None = 0 ∷ []
optional one (Some x) = 1 ∷ one x

-- how many there are, in eight bytes, and each
unfoldable pub listed : {A : Type 0} → (A → List ℕ) → List A → List ℕ
listed one xs = number64 (length xs) ++ flat_map one xs

-- the three numbers of a receipt
unfoldable pub receipt : Handle → List ℕ
receipt h = number64 h.incarnation ++ (number64 h.sequence ++ number64 h.handing)

-- ---- values: a byte for the kind where there are several, and the parts in their order

unfoldable pub ask : Ask → List ℕ
ask (Create queue visibility content) = 0 ∷ (text queue ++ (number32 visibility ++ flag content))
ask (Remove queue) = 1 ∷ text queue
ask (Send queue group dedup body) = 2 ∷ (text queue ++ (text group ++ (optional text dedup ++ text body)))
ask (Receive queue size visibility) = 3 ∷ (text queue ++ (number32 size ++ optional number32 visibility))
ask (Delete queue handle) = 4 ∷ (text queue ++ receipt handle)
ask (Change queue handle visibility) = 5 ∷ (text queue ++ (receipt handle ++ number32 visibility))

unfoldable pub request : Request → List ℕ
request r = number32 r.client ++ (number64 r.number ++ ask r.ask)

unfoldable pub entry : Entry → List ℕ
entry e = number64 e.moment ++ request e.request

unfoldable pub query : Query → List ℕ
query q = number32 q.client ++ (number64 q.tag ++ text q.queue)

unfoldable pub delivery : Delivery → List ℕ
delivery d = receipt d.receipt ++ (text d.group ++ text d.body)

unfoldable pub reply : Reply → List ℕ
reply (Created incarnation) = 0 ∷ number64 incarnation
reply Removed = 1 ∷ []
reply (Sent sequence) = 2 ∷ number64 sequence
reply (Received deliveries) = 3 ∷ listed delivery deliveries
reply (Deleted removed) = 4 ∷ flag removed
reply Changed = 5 ∷ []
reply (Counts visible in_flight) = 6 ∷ (number64 visible ++ number64 in_flight)
reply (Refused refusal) = 7 ∷ number32 (refusal_code refusal)

-- ---- wholes

-- the version, and the value
unfoldable pub whole : {A : Type 0} → (A → List ℕ) → A → List ℕ
whole one x = VERSION ∷ one x
