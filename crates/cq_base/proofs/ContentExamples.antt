-- Worked lists on queues that make the deduplication ids of sends that have none, and on one that doesn't. The
-- ids of `abc` and `hello` are those that `sha256sum` gives; the replies were worked out by hand.
use Rattle.std.proofs.Common.{◌≡◌, ℕ, List, [], ◌∷◌, length, map, None, Some, true, false, codes, refl}
use Rattle.std.specs.List.{filter, last_or}
use Rattle.hex.specs.Hex.{encode_with}
use Rattle.sha2.specs.Sha256.{first_words, schedule, rounds, compress, hash_after, digest_bytes, sha256}
use Rattle.cq_base.specs.declared.ask.Ask.{Ask}
use Rattle.cq_base.specs.declared.ask.Ask.TheVariants.{Create, Send}
use Rattle.cq_base.specs.declared.reply.Refusal.TheVariants.{QueueDoesNotExist, QueueNameExists, MissingDedupId}
use Rattle.cq_base.specs.declared.reply.Reply.{Reply}
use Rattle.cq_base.specs.declared.reply.Reply.TheVariants.{Created, Sent, Refused}
use Rattle.cq_base.specs.queue.Clients.{of_client, is_fresh, is_stale, kept_reply}
use Rattle.cq_base.specs.queue.Effects.{effect_on, effect_off, effect_of}
use Rattle.cq_base.specs.queue.Outcomes.{Outcome, about, on}
use Rattle.cq_base.specs.queue.History.{fresh_outcome, reply_again, outcome_of, history}
use Rattle.cq_base.specs.queue.Incarnations.{lifetime, is_use, is_clocked}
use Rattle.cq_base.specs.queue.Lifetimes.{live, creations, removed_lately}
use Rattle.cq_base.specs.queue.Messages.{messages, duplicate, is_sent, hands, touches, until, is_deleted, message_of, remaining, moment_of}
use Rattle.cq_base.specs.queue.Receiving.{delivery_order, to_hand}
use Rattle.cq_base.specs.Texts.{made_id}
use Rattle.cq_base.proofs.Examples.{numbered, name, replies}

-- the id that is made of `abc`
abbrev pub id_of_abc : List ℕ
id_of_abc = codes "ba7816bf8f01cfea414140de5dae2223b00361a396177a9cb410ff61f20015ad"

made_of_abc : made_id (codes "abc") ≡ id_of_abc
unfolding first_words schedule rounds compress hash_after digest_bytes sha256 encode_with
made_of_abc = refl

made_of_hello : made_id (codes "hello") ≡ codes "2cf24dba5fb0a30e26e83b2ac5b9e29e1b161e5c1fa7425e73043362938b9824"
unfolding first_words schedule rounds compress hash_after digest_bytes sha256 encode_with
made_of_hello = refl

-- a creation that asks for made ids, with a visibility timeout of 30 s
abbrev pub create_making : ℕ → ℕ × Ask
create_making moment = (moment, Create name 30 true)

-- one that asks for none
abbrev create_plain : ℕ → ℕ × Ask
create_plain moment = (moment, Create name 30 false)

-- a send without a deduplication id, in group a
abbrev pub send_without : ℕ → List ℕ → ℕ × Ask
send_without moment body = (moment, Send name (codes "a") None body)

-- one with this id
abbrev pub send_with : ℕ → List ℕ → List ℕ → ℕ × Ask
send_with moment dedup body = (moment, Send name (codes "a") (Some dedup) body)

-- An id is made of the body where none is given, and is the same as that id given; another id that is given
-- counts in its place. It counts for five minutes.
abbrev making_asks : List (ℕ × Ask)
making_asks =
    create_making 0
    ∷ send_without 0 (codes "abc")
    ∷ send_with 1 id_of_abc (codes "abc")
    ∷ send_with 2 (codes "x") (codes "abc")
    ∷ send_without 3 (codes "abd")
    ∷ send_without 300000 (codes "abc")
    ∷ create_plain 300000
    ∷ create_making 300000
    ∷ []

abbrev making_replies : List Reply
making_replies =
    Created 1
    ∷ Sent 1
    ∷ Sent 1
    ∷ Sent 2
    ∷ Sent 3
    ∷ Sent 4
    ∷ Refused QueueNameExists
    ∷ Created 1
    ∷ []

making : replies (numbered 1 making_asks) ≡ making_replies
unfolding about on of_client is_fresh is_stale kept_reply live creations removed_lately messages duplicate is_sent hands touches until is_deleted message_of remaining delivery_order to_hand effect_on effect_off effect_of fresh_outcome reply_again outcome_of history first_words schedule rounds compress hash_after digest_bytes sha256 encode_with
making = refl

-- An id that is given first counts for the made one that equals it, to the last of the five minutes, whatever
-- the group.
abbrev given_first_asks : List (ℕ × Ask)
given_first_asks =
    create_making 0
    ∷ send_with 1 id_of_abc (codes "x")
    ∷ send_without 300000 (codes "abc")
    ∷ send_without 300001 (codes "abc")
    ∷ []

given_first : replies (numbered 1 given_first_asks) ≡ Created 1 ∷ Sent 1 ∷ Sent 1 ∷ Sent 2 ∷ []
unfolding about on of_client is_fresh is_stale kept_reply live creations removed_lately messages duplicate is_sent hands touches until is_deleted message_of remaining delivery_order to_hand effect_on effect_off effect_of fresh_outcome reply_again outcome_of history first_words schedule rounds compress hash_after digest_bytes sha256 encode_with
given_first = refl

-- A queue that makes no ids refuses a send without one, also where its body's id was given before; before that
-- the queue has to live. The refused send renews nothing and frees nothing.
abbrev plain_asks : List (ℕ × Ask)
plain_asks =
    send_without 0 (codes "abc")
    ∷ create_plain 0
    ∷ send_without 0 (codes "abc")
    ∷ send_with 1 id_of_abc (codes "abc")
    ∷ send_without 2 (codes "abc")
    ∷ send_with 300000 id_of_abc (codes "abc")
    ∷ send_without 300000 (codes "abc")
    ∷ send_with 300001 id_of_abc (codes "abc")
    ∷ create_making 300001
    ∷ []

abbrev plain_replies : List Reply
plain_replies =
    Refused QueueDoesNotExist
    ∷ Created 1
    ∷ Refused MissingDedupId
    ∷ Sent 1
    ∷ Refused MissingDedupId
    ∷ Sent 1
    ∷ Refused MissingDedupId
    ∷ Sent 2
    ∷ Refused QueueNameExists
    ∷ []

plain : replies (numbered 1 plain_asks) ≡ plain_replies
unfolding about on of_client is_fresh is_stale kept_reply live creations removed_lately messages duplicate is_sent hands touches until is_deleted message_of remaining delivery_order to_hand effect_on effect_off effect_of fresh_outcome reply_again outcome_of history first_words schedule rounds compress hash_after digest_bytes sha256 encode_with
plain = refl

-- what happens to an incarnation that makes no ids
abbrev lifetime_of_plain : List (ℕ × Ask) → List Outcome
lifetime_of_plain asks = lifetime 1 (record { visibility = 30; content = false }) (numbered 1 asks)

-- A send that is refused for want of an id is a use, and gives the last moment.
refused_uses : map (λ asks. length (filter is_use (lifetime_of_plain asks))) ((send_with 4 (codes "x") (codes "x") ∷ []) ∷ (send_with 4 (codes "x") (codes "x") ∷ send_without 5 (codes "abc") ∷ []) ∷ []) ≡ 1 ∷ 2 ∷ []
unfolding messages duplicate is_sent hands touches until is_deleted message_of remaining delivery_order to_hand effect_on lifetime
refused_uses = refl

refused_moment : moment_of (last_or None (filter is_clocked (lifetime_of_plain (send_with 4 (codes "x") (codes "x") ∷ send_without 5 (codes "abc") ∷ [])))) ≡ 5
unfolding messages duplicate is_sent hands touches until is_deleted message_of remaining delivery_order to_hand effect_on lifetime
refused_moment = refl
