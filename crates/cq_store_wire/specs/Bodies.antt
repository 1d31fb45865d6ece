-- The bodies in the replies that are kept: each is spelled at its first mention, and told by that mention's number after.
use Rattle.std.specs.Prelude.{ℕ, List, [], ◌∷◌, ◌++◌, Bool, Option, None, Some, Result, Ok, Err, slice_get, unwrap_or, if◌then◌else◌}
use Rattle.std.specs.List.{fold, list_any, position_or_len}
use Rattle.std.specs.Str.{bytes_eq}
use Rattle.cq_base.specs.declared.reply.Delivery.{Delivery}
use Rattle.cq_base.specs.declared.reply.Reply.{Reply}
use Rattle.cq_base.specs.declared.reply.Reply.TheVariants as replies
use Rattle.cq_store.specs.Stands.{ClientRecord}
use Rattle.cq_wire.specs.declared.fault.WireFault.{WireFault}
use Rattle.cq_wire.specs.declared.fault.WireFault.TheVariants.{BadNumber, BadTag}
use Rattle.cq_wire.specs.Reading.{◌>>=◌}
use Rattle.cq_store_wire.specs.declared.reply.Mention.{Mention}
use Rattle.cq_store_wire.specs.declared.reply.Mention.TheVariants.{First, Again}
use Rattle.cq_store_wire.specs.declared.reply.DeliveryRecord.{DeliveryRecord}
use Rattle.cq_store_wire.specs.declared.reply.ReplyRecord.{ReplyRecord}
use Rattle.cq_store_wire.specs.declared.reply.ReplyRecord.TheVariants as records

-- ---- the bodies so far, each once, in the order of their first mentions

abbrev pub is_known : List (List ℕ) → List ℕ → Bool
is_known known body = list_any (bytes_eq body) known

-- the bodies so far with one more, if it is a new one
unfoldable pub and_body : List (List ℕ) → List ℕ → List (List ℕ)
and_body known body = if is_known known body then known else known ++ body ∷ []

abbrev pub and_bodies : List (List ℕ) → List Delivery → List (List ℕ)
and_bodies known deliveries = fold (λ so_far d. and_body so_far d.body) known deliveries

-- the deliveries of a reply that has some
abbrev pub deliveries_in : Reply → Option (List Delivery)
deliveries_in (replies.Received deliveries) = Some deliveries
deliveries_in _ = None

abbrev pub and_reply : List (List ℕ) → Reply → List (List ℕ)
and_reply known reply = and_bodies known (unwrap_or (deliveries_in reply) [])

-- those in the kept replies of these clients
abbrev pub bodies_of : List (ℕ × ClientRecord) → List (List ℕ)
bodies_of clients = fold (λ so_far c. and_reply so_far c.1.reply) [] clients

-- ---- how they are mentioned

-- a known body by its place, and a new one itself
unfoldable pub mention : List (List ℕ) → List ℕ → Mention
mention known body = if is_known known body then Again (position_or_len (bytes_eq body) known) else First body

abbrev pub recorded : List (List ℕ) → Delivery → DeliveryRecord
recorded known d = record { receipt = d.receipt; group = d.group; body = mention known d.body }

unfoldable pub all_recorded : List (List ℕ) → List Delivery → List DeliveryRecord
all_recorded known [] = []
all_recorded known (d ∷ ds) = recorded known d ∷ all_recorded (and_body known d.body) ds

-- a reply as it is kept, by its deliveries
abbrev pub recorded_by : List (List ℕ) → Reply → Option (List Delivery) → ReplyRecord
recorded_by known reply None = records.Other reply
recorded_by known reply (Some deliveries) = records.Received (all_recorded known deliveries)

abbrev pub reply_recorded : List (List ℕ) → Reply → ReplyRecord
reply_recorded known reply = recorded_by known reply (deliveries_in reply)

-- ---- what mentions mean: no body is spelled twice, and each number is one of a body

-- the body of a number, if there is one
abbrev pub or_bad_number : Option (List ℕ) → Result (List ℕ) WireFault
or_bad_number None = Err BadNumber
or_bad_number (Some body) = Ok body

unfoldable pub resolve : List (List ℕ) → Mention → Result (List ℕ) WireFault
resolve known (First body) = if is_known known body then Err BadNumber else Ok body
resolve known (Again number) = or_bad_number (slice_get known number)

unfoldable pub resolved : List (List ℕ) → DeliveryRecord → Result Delivery WireFault
resolved known d = resolve known d.body >>= λ body. Ok (record { receipt = d.receipt; group = d.group; body = body })

unfoldable pub all_resolved : List (List ℕ) → List DeliveryRecord → Result (List Delivery) WireFault
all_resolved known [] = Ok []
all_resolved known (d ∷ ds) = do
  first ← resolved known d
  others ← all_resolved (and_body known first.body) ds
  Ok (first ∷ others)

-- a reply that is spelled without mentions has no deliveries
abbrev pub other_resolved : Reply → Option (List Delivery) → Result Reply WireFault
other_resolved reply None = Ok reply
other_resolved reply (Some deliveries) = Err BadTag

unfoldable pub reply_resolved : List (List ℕ) → ReplyRecord → Result Reply WireFault
reply_resolved known (records.Received ds) = all_resolved known ds >>= λ deliveries. Ok (replies.Received deliveries)
reply_resolved known (records.Other reply) = other_resolved reply (deliveries_in reply)
