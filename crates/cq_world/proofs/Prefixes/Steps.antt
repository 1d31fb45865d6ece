-- Each step of a server that lives is a turn that keeps histories prefixes of each other.
use Rattle.std.proofs.Common.{◌≡◌, ℕ, zero, suc, ◌+◌, ◌≤◌, ◌∙◌, ap, sym, List, [], ◌∷◌, ◌++◌, length, drop, take, ◌&&◌, ◌⊎◌, Option, Some, None, is_none, not, Bool, true, false, cond, eqb, subst, refl, inl, inr, arith, min, max, nat_le, nat_lt, append_assoc, length-append}
use Rattle.std.proofs.lemmas.Bool.{eqb-true, eq-eqb, both_ways, and_parts, cases_Bool, leb-true, leb-false}
use Rattle.std.proofs.lemmas.List.{take-append-drop}
use Rattle.cq_base.specs.declared.ask.Entry.{Entry}
use Rattle.cq_base.specs.declared.ask.Query.{Query}
use Rattle.cq_base.specs.declared.ask.Request.{Request}
use Rattle.cq_base.specs.declared.party.Party.{Party}
use Rattle.cq_base.specs.declared.party.Party.TheVariants as parties
use Rattle.cq_base.specs.queue.History.{last_moment}
use Rattle.cq_base.specs.Relations.{IsPrefix}
use Rattle.cq_chain.specs.Masters.{is_in, is_last}
use Rattle.cq_chain.specs.Messages.{Message, Fwd, Snap, Ack, BeHead, Report, Adopt, BeTail, Feed, Adopted, Caught, Ready, Answers}
use Rattle.cq_chain.specs.Servers.{Server, acts, reaches, is_that}
use Rattle.cq_chain.specs.Steps.{silent, to_server, when, appended, settled, begins_to_act, answer_to, passed_on, tail_news, stamped, arrived, asked, is_next, forwarded, is_restoring, with_history, restored, forwards, repair, feeding, as_tail, tailed, takes}
use Rattle.cq_world.specs.Laws.{Speaks}
use Rattle.cq_events.specs.Worlds.{set_at}
use Rattle.cq_world.proofs.Prefixes.Climbing.{reports, one, ups, Climbs, Grows, climbs-own, climbs-same, climbs-next}
use Rattle.cq_world.proofs.Eaches.{Each, each-append, each-when, each-to_server, prefix-refl, prefix-more, prefix-next, cons_nil}
use Rattle.cq_world.proofs.Settled.{is_settled, that_some}
use Rattle.cq_world.proofs.ExtendedChains.{extended-cases, member-extended, out-extended, joiner-out}
use Rattle.cq_world.proofs.Prefixes.{Prefixes, Turn, Heads, Harmless, Outsider, is_first, master_after, ups_after, rest_of, each-end}
use Rattle.cq_world.proofs.Views.{View, extended}

-- all that is sent is of that history
abbrev pub AllSpeak : List Entry → List (Party × Message) → Type 0
AllSpeak entries sent = Each (λ x. Speaks entries x.1) sent

-- a server is a member, or none and an outsider
abbrev pub Placed : View → ℕ → Type 0
Placed v k = (is_in v.master.chain k ≡ true) ⊎ ((is_in v.master.chain k ≡ false) × Outsider (v.server k) (v.channel parties.Master (parties.Server k)))

-- so is each that lives
pub lives-placed : (v : View) (k : ℕ) → Prefixes v → is_in v.master.used k ≡ true → (v.server k).down ≡ false → Placed v k
lives-placed v k h known lives = elim (cases_Bool (is_in (extended v.master) k)) [
  | inl there ↦ elim (extended-cases v.master.chain v.master.joiner k there) [ inl member ↦ inl member | inr joins ↦ inr (joiner-out v.master.chain v.master.joiner k h.apart joins, h.aside k joins) ]
  | inr out ↦ elim (h.away k known out) [ inl down ↦ absurd (both_ways (v.server k).down lives down) | inr b ↦ inr ((out-extended v.master.chain v.master.joiner k out).0, b) ]
]

-- an outsider doesn't act
pub aside-acts : (s : Server) → s.at_least ≡ None → acts s ≡ false
aside-acts s none = ap (λ o. reaches (length s.entries) o) none

-- who acts, is full or is the head is a member
pub acting-member : (v : View) (k : ℕ) → Placed v k → acts (v.server k) ≡ true → is_in v.master.chain k ≡ true
acting-member v k (inl member) does = member
acting-member v k (inr b) does = absurd (both_ways (acts (v.server k)) (aside-acts (v.server k) b.1.at_least) does)

pub full-member : (v : View) (k : ℕ) → Placed v k → (v.server k).full ≡ true → is_in v.master.chain k ≡ true
full-member v k (inl member) full = member
full-member v k (inr b) full = absurd (both_ways (v.server k).full b.1.full full)

pub head-member : (v : View) (k : ℕ) → Placed v k → (v.server k).head ≡ true → is_in v.master.chain k ≡ true
head-member v k (inl member) head = member
head-member v k (inr b) head = absurd (both_ways (v.server k).head b.1.head head)

-- the same, in the extended chain
head_extended : (v : View) (k : ℕ) → Prefixes v → is_in v.master.used k ≡ true → (v.server k).down ≡ false → (v.server k).head ≡ true → is_in (extended v.master) k ≡ true
head_extended v k h known lives head = member-extended v.master.chain v.master.joiner k (head-member v k (lives-placed v k h known lives) head)

-- who is told what no outsider is told is a member
pub told-member : (v : View) (k : ℕ) (m : Message) (rest : List Message) → Placed v k → v.channel parties.Master (parties.Server k) ≡ m ∷ rest → (Harmless m → ⊥) → is_in v.master.chain k ≡ true
told-member v k m rest (inl member) at word = member
told-member v k m rest (inr b) at word = absurd (word (subst (λ ms. Each Harmless ms) at b.1.told).0)

-- an outsider that settles stays what it is
pub aside-settled : (x : Server) → x.at_least ≡ None → settled x ≡ x
aside-settled x none = ap (λ b. cond b (record x { acked = length x.entries; floor = length x.entries; full = true }) x) (aside-acts x none)

-- an outsider that stays one
bystands : (v : View) (from : Party) (k : ℕ) (prefix rest : List Message) (s : Server) → v.channel from (parties.Server k) ≡ prefix ++ rest → s.full ≡ (v.server k).full → s.at_least ≡ (v.server k).at_least → s.head ≡ (v.server k).head → s.succ ≡ (v.server k).succ
    → Outsider (v.server k) (v.channel parties.Master (parties.Server k)) → Outsider s (master_after v from k rest)
bystands v from k prefix rest s taken full least head succ b = let left = rest_of v from k prefix rest taken in record {
  full = full ∙ b.full;
  at_least = least ∙ b.at_least;
  head = head ∙ b.head;
  succ = succ ∙ b.succ;
  told = each-end Harmless left.0 (master_after v from k rest) (subst (λ ms. Each Harmless ms) left.1 b.told);
}

-- the same, where it settles
bystands_settled : (v : View) (from : Party) (k : ℕ) (prefix rest : List Message) (x : Server) → v.channel from (parties.Server k) ≡ prefix ++ rest → x.full ≡ (v.server k).full → x.at_least ≡ (v.server k).at_least → x.head ≡ (v.server k).head → x.succ ≡ (v.server k).succ
    → Outsider (v.server k) (v.channel parties.Master (parties.Server k)) → Outsider (settled x) (master_after v from k rest)
bystands_settled v from k prefix rest x taken full least head succ b = subst (λ y. Outsider y (master_after v from k rest)) (sym (aside-settled x (least ∙ b.at_least))) (bystands v from k prefix rest x taken full least head succ b)

-- no outsider is told that
no_outsider : (v : View) (k : ℕ) (m : Message) (rest : List Message) (s : Server) → v.channel parties.Master (parties.Server k) ≡ m ∷ rest → (Harmless m → ⊥) → Outsider (v.server k) (v.channel parties.Master (parties.Server k)) → Outsider s rest
no_outsider v k m rest s taken word b = absurd (word (subst (λ ms. Each Harmless ms) taken b.told).0)

-- the server that has become another, among all
grows_at : (f : ℕ → Server) (k : ℕ) (s : Server) → IsPrefix (f k).entries s.entries → (f k).down ≡ false → Grows f (set_at f k s) k
grows_at f k s prefix lives = record {
  others = λ j other. ap (λ b. cond b s (f j)) other;
  grows = subst (λ b. IsPrefix (f k).entries (cond b s (f k)).entries) (sym (eq-eqb k k refl)) prefix;
  down = λ is. absurd (both_ways (f k).down lives is);
}

own_entries : (f : ℕ → Server) (k : ℕ) (s : Server) → (set_at f k s k).entries ≡ s.entries
own_entries f k s = ap (λ b. (cond b s (f k)).entries) (eq-eqb k k refl)

-- ---- turns that change neither history nor place

pub calm-turn : (v : View) (from : Party) (k : ℕ) (prefix rest : List Message) (s : Server) (out : List (Party × Message)) → Prefixes v → is_in v.master.used k ≡ true → (v.server k).down ≡ false
    → v.channel from (parties.Server k) ≡ prefix ++ rest → reports (master_after v from k rest) ≡ reports (v.channel parties.Master (parties.Server k))
    → s.entries ≡ (v.server k).entries → s.pred ≡ (v.server k).pred → s.head ≡ (v.server k).head → AllSpeak (v.server k).entries out
    → (Outsider (v.server k) (v.channel parties.Master (parties.Server k)) → Outsider s (master_after v from k rest)) → Turn v from k rest s out
calm-turn v from k prefix rest s out h known lives taken told entries pred head speaks aside = let grows = subst (λ us. IsPrefix (v.server k).entries us) (sym entries) (prefix-refl (v.server k).entries) in
    let same_ups : ups_after v from k rest s ≡ ups v k = ap (λ p. one p ++ reports (master_after v from k rest)) pred ∙ ap (λ us. one (v.server k).pred ++ us) told in record {
      known = known;
      lives = lives;
      prefix = prefix;
      taken = taken;
      grows = grows;
      speaks = subst (λ us. AllSpeak us out) (sym entries) speaks;
      climbs = subst (λ us. Climbs (set_at v.server k s) k us) (sym same_ups) (climbs-same v.server (set_at v.server k s) k (ups v k) (grows_at v.server k s grows lives) lives (own_entries v.server k s ∙ entries) (h.climbs k));
      last = λ first p last. ap (λ us. is_last us p) same_ups ∙ last;
      head = λ is_head member. same_ups ∙ h.headless k member (sym head ∙ is_head);
      aside = aside;
    }

-- ---- turns with a longer history

-- the server takes what its predecessor has
pub longer-turn : (v : View) (p k : ℕ) (prefix rest : List Message) (s : Server) (out : List (Party × Message)) → Prefixes v → is_in v.master.used k ≡ true → (v.server k).down ≡ false
    → v.channel (parties.Server p) (parties.Server k) ≡ prefix ++ rest → (v.server k).pred ≡ Some p → IsPrefix (v.server k).entries s.entries → IsPrefix s.entries (v.server p).entries
    → s.pred ≡ (v.server k).pred → s.head ≡ (v.server k).head → AllSpeak s.entries out
    → (Outsider (v.server k) (v.channel parties.Master (parties.Server k)) → Outsider s (v.channel parties.Master (parties.Server k))) → Turn v (parties.Server p) k rest s out
longer-turn v p k prefix rest s out h known lives taken is_pred grows below pred head speaks aside =
    let told = reports (v.channel parties.Master (parties.Server k)) in
    let same_ups : ups_after v (parties.Server p) k rest s ≡ ups v k = ap (λ o. one o ++ told) pred in record {
      known = known;
      lives = lives;
      prefix = prefix;
      taken = taken;
      grows = grows;
      speaks = speaks;
      climbs = subst (λ us. Climbs (set_at v.server k s) k us) (sym (same_ups ∙ ap (λ o. one o ++ told) is_pred))
          (climbs-own v.server (set_at v.server k s) k p told (grows_at v.server k s grows lives) lives (subst (λ us. IsPrefix us (v.server p).entries) (sym (own_entries v.server k s)) below) (subst (λ o. Climbs v.server k (one o ++ told)) is_pred (h.climbs k)));
      last = λ first q last. ap (λ us. is_last us q) same_ups ∙ last;
      head = λ is_head member. same_ups ∙ h.headless k member (sym head ∙ is_head);
      aside = aside;
    }

-- ---- what is sent

-- an entry that is passed on stands at its place
passed_speaks : (s : Server) (e : Entry) → AllSpeak (s.entries ++ e ∷ []) (passed_on s e)
passed_speaks s e = each-append (λ x. Speaks (s.entries ++ e ∷ []) x.1) (to_server s.succ (Fwd (length s.entries + 1) e)) (when (acts (appended s e)) ((parties.Clients, Answers (answer_to s.entries e)) ∷ []))
    (each-to_server (λ x. Speaks (s.entries ++ e ∷ []) x.1) s.succ (Fwd (length s.entries + 1) e) (λ id. (s.entries, [], refl, refl)))
    (each-when (λ x. Speaks (s.entries ++ e ∷ []) x.1) (acts (appended s e)) ((parties.Clients, Answers (answer_to s.entries e)) ∷ []) (λ h. (tt, tt)))

-- what a tail says of itself tells of no entry
tail_speaks : (entries : List Entry) (before now : Server) → AllSpeak entries (tail_news before now)
tail_speaks entries before now = each-append (λ x. Speaks entries x.1) (when (acts now) (to_server before.pred (Ack (length now.entries)))) (when (begins_to_act before now) ((parties.Master, Ready) ∷ []))
    (each-when (λ x. Speaks entries x.1) (acts now) (to_server before.pred (Ack (length now.entries))) (λ h. each-to_server (λ x. Speaks entries x.1) before.pred (Ack (length now.entries)) (λ id. tt)))
    (each-when (λ x. Speaks entries x.1) (begins_to_act before now) ((parties.Master, Ready) ∷ []) (λ h. (tt, tt)))

-- what is told of a snapshot tells of none either
restored_speaks : (from : ℕ) (entries : List Entry) (s : Server) → AllSpeak entries (restored from entries s).sent
restored_speaks from entries s = each-append (λ x. Speaks entries x.1) (tail_news s (with_history s entries)) (when (is_none s.at_least) ((parties.Master, Caught from (length entries)) ∷ [])) (tail_speaks entries s (with_history s entries))
    (each-when (λ x. Speaks entries x.1) (is_none s.at_least) ((parties.Master, Caught from (length entries)) ∷ []) (λ none. (tt, tt)))

-- entries that are sent one by one stand at their places
forwards_speak : (to : ℕ) (entries before es : List Entry) (place : ℕ) → entries ≡ before ++ es → length before + 1 ≡ place → AllSpeak entries (forwards to place es)
unfolding forwards
forwards_speak to entries before [] place split at = tt
forwards_speak to entries before (e ∷ es) place split at = (
  (before, es, split, at),
  forwards_speak to entries (before ++ e ∷ []) es (place + 1) (split ∙ sym (append_assoc before (e ∷ []) es)) (omega (arith, at, length-append before (e ∷ []))),
)

-- nothing is sent of entries beyond the last
dropped_all : (n : ℕ) (es : List Entry) → length es ≤ n → drop n es ≡ []
dropped_all zero [] le = refl
dropped_all (suc n) [] le = refl
dropped_all zero (e ∷ es) le = absurd (omega (arith, le))
dropped_all (suc n) (e ∷ es) le = dropped_all n es (omega (arith, le))

taken_length : (n : ℕ) (es : List Entry) → n ≤ length es → length (take n es) ≡ n
taken_length zero es le = refl
taken_length (suc n) [] le = absurd (omega (arith, le))
taken_length (suc n) (e ∷ es) le = omega (arith, taken_length n es (omega (arith, le)))

forwards_none : (to : ℕ) (entries : List Entry) (place : ℕ) → AllSpeak entries (forwards to place [])
unfolding forwards
forwards_none to entries place = tt

after_have : (to have : ℕ) (entries : List Entry) → AllSpeak entries (forwards to (have + 1) (drop have entries))
after_have to have entries = go (nat_le have (length entries)) refl where
  go : (t : Bool) → nat_le have (length entries) ≡ t → AllSpeak entries (forwards to (have + 1) (drop have entries))
  go true within = forwards_speak to entries (take have entries) (drop have entries) (have + 1) (sym (take-append-drop have entries)) (omega (arith, taken_length have entries (leb-true have (length entries) within)))
  go false beyond = subst (λ es. AllSpeak entries (forwards to (have + 1) es)) (sym (dropped_all have entries (omega (arith, leb-false have (length entries) beyond)))) (forwards_none to entries (have + 1))

repair_speaks : (to have : ℕ) (s : Server) → AllSpeak s.entries (repair to have s)
repair_speaks to have s = go (nat_le s.floor have) where
  go : (t : Bool) → AllSpeak s.entries (cond t (forwards to (have + 1) (drop have s.entries)) ((parties.Server to, Snap s.entries) ∷ []))
  go true = after_have to have s.entries
  go false = (prefix-refl s.entries, tt)

-- ---- messages of other servers

-- of two prefixes of one list the shorter is a prefix of the longer
pub shorter-prefix : (xs ys zs : List Entry) → IsPrefix xs zs → IsPrefix ys zs → length xs ≤ length ys → IsPrefix xs ys
shorter-prefix [] ys zs h k le = (ys, refl)
shorter-prefix (x ∷ xs) [] zs h k le = absurd (omega (arith, le))
shorter-prefix (x ∷ xs) (y ∷ ys) zs h k le = let same : x ∷ (xs ++ h.0) ≡ y ∷ (ys ++ k.0) = sym h.1 ∙ k.1 in
    let rest = shorter-prefix xs ys (ys ++ k.0) (h.0, sym (ap (λ us. drop 1 us) same)) (k.0, refl) (omega (arith, le)) in
    (rest.0, ap (λ u. u ∷ ys) (sym (heads_same x y (xs ++ h.0) (ys ++ k.0) same)) ∙ ap (λ us. x ∷ us) rest.1) where
      heads_same : (a b : Entry) (us vs : List Entry) → a ∷ us ≡ b ∷ vs → a ≡ b
      heads_same a b us vs e = cc

-- the history that the predecessor's forwarded entry gives
pub forwarded_prefix : (s : Server) (theirs : List Entry) (p place : ℕ) (e : Entry) → IsPrefix s.entries theirs → is_next s p place e ≡ true → Speaks theirs (Fwd place e) → IsPrefix (s.entries ++ e ∷ []) theirs
forwarded_prefix s theirs p place e below accepts says =
    let own = and_parts (is_that s.pred p) (eqb place (length s.entries + 1)) (and_parts (is_that s.pred p && eqb place (length s.entries + 1)) (nat_le (last_moment s.entries) e.moment) accepts).0 in
    prefix-next s.entries theirs says.0 says.1 e below says.2 (omega (arith, says.3, eqb-true place (length s.entries + 1) own.1))

-- a server's history is a prefix of its predecessor's
pub below-pred : (v : View) (k p : ℕ) → Prefixes v → (v.server k).pred ≡ Some p → IsPrefix (v.server k).entries (v.server p).entries
below-pred v k p h is_pred = first (reports (v.channel parties.Master (parties.Server k))) (subst (λ o. Climbs v.server k (one o ++ reports (v.channel parties.Master (parties.Server k)))) is_pred (h.climbs k)) where
  first : (r : List ℕ) → Climbs v.server k (p ∷ r) → IsPrefix (v.server k).entries (v.server p).entries
  first [] c = c
  first (z ∷ r) c = c.0

-- the turn of a server that takes a message of another one
server_turn : (v : View) (p k : ℕ) (m : Message) (rest : List Message) → Prefixes v → is_in v.master.used k ≡ true → (v.server k).down ≡ false → v.channel (parties.Server p) (parties.Server k) ≡ m ∷ rest
    → Speaks (v.server p).entries m → Turn v (parties.Server p) k rest (takes (parties.Server p) m (v.server k)).server (takes (parties.Server p) m (v.server k)).sent
unfolding takes
server_turn v p k (Fwd place e) rest h known lives taken says = go (is_next (v.server k) p place e) refl where
  go : (t : Bool) → is_next (v.server k) p place e ≡ t → Turn v (parties.Server p) k rest (cond t (forwarded e (v.server k)) (silent (v.server k))).server (cond t (forwarded e (v.server k)) (silent (v.server k))).sent
  go true accepts =
      let now = is_settled (appended (v.server k) e) in
      let is_pred = that_some (v.server k).pred p (and_parts (is_that (v.server k).pred p) (eqb place (length (v.server k).entries + 1)) (and_parts (is_that (v.server k).pred p && eqb place (length (v.server k).entries + 1)) (nat_le (last_moment (v.server k).entries) e.moment) accepts).0).0 in
      longer-turn v p k (Fwd place e ∷ []) rest (settled (appended (v.server k) e)) (passed_on (v.server k) e ++ tail_news (v.server k) (appended (v.server k) e)) h known lives taken is_pred
      (subst (λ us. IsPrefix (v.server k).entries us) (sym now.entries) (prefix-more (v.server k).entries (e ∷ [])))
      (subst (λ us. IsPrefix us (v.server p).entries) (sym now.entries) (forwarded_prefix (v.server k) (v.server p).entries p place e (below-pred v k p h is_pred) accepts says))
      now.pred now.head
      (subst (λ us. AllSpeak us (passed_on (v.server k) e ++ tail_news (v.server k) (appended (v.server k) e))) (sym now.entries)
      (each-append (λ x. Speaks ((v.server k).entries ++ e ∷ []) x.1) (passed_on (v.server k) e) (tail_news (v.server k) (appended (v.server k) e)) (passed_speaks (v.server k) e) (tail_speaks ((v.server k).entries ++ e ∷ []) (v.server k) (appended (v.server k) e))))
      (bystands_settled v (parties.Server p) k (Fwd place e ∷ []) rest (appended (v.server k) e) taken refl refl refl refl)
  go false ignores = calm-turn v (parties.Server p) k (Fwd place e ∷ []) rest (v.server k) [] h known lives taken refl refl refl refl tt (bystands v (parties.Server p) k (Fwd place e ∷ []) rest (v.server k) taken refl refl refl refl)
server_turn v p k (Snap entries) rest h known lives taken says = go (is_restoring (v.server k) p entries) refl where
  go : (t : Bool) → is_restoring (v.server k) p entries ≡ t → Turn v (parties.Server p) k rest (cond t (restored p entries (v.server k)) (silent (v.server k))).server (cond t (restored p entries (v.server k)) (silent (v.server k))).sent
  go true accepts =
      let now = is_settled (with_history (v.server k) entries) in
      let parts = and_parts (is_that (v.server k).pred p && is_none (v.server k).succ) (nat_le (length (v.server k).entries) (length entries)) accepts in
      let is_pred = that_some (v.server k).pred p (and_parts (is_that (v.server k).pred p) (is_none (v.server k).succ) parts.0).0 in
      longer-turn v p k (Snap entries ∷ []) rest (settled (with_history (v.server k) entries)) (restored p entries (v.server k)).sent h known lives taken is_pred
      (subst (λ us. IsPrefix (v.server k).entries us) (sym now.entries) (shorter-prefix (v.server k).entries entries (v.server p).entries (below-pred v k p h is_pred) says (leb-true (length (v.server k).entries) (length entries) parts.1)))
      (subst (λ us. IsPrefix us (v.server p).entries) (sym now.entries) says)
      now.pred now.head
      (subst (λ us. AllSpeak us (restored p entries (v.server k)).sent) (sym now.entries) (restored_speaks p entries (v.server k)))
      (bystands_settled v (parties.Server p) k (Snap entries ∷ []) rest (with_history (v.server k) entries) taken refl refl refl refl)
  go false ignores = calm-turn v (parties.Server p) k (Snap entries ∷ []) rest (v.server k) [] h known lives taken refl refl refl refl tt (bystands v (parties.Server p) k (Snap entries ∷ []) rest (v.server k) taken refl refl refl refl)
server_turn v p k (Ack n) rest h known lives taken says = go (nat_lt (v.server k).acked (min n (length (v.server k).entries))) where
  go : (t : Bool) → Turn v (parties.Server p) k rest (cond t (record { server = record (v.server k) { acked = min n (length (v.server k).entries); floor = max (v.server k).floor (min n (length (v.server k).entries)) }; sent = to_server (v.server k).pred (Ack (min n (length (v.server k).entries))) }) (silent (v.server k))).server
      (cond t (record { server = record (v.server k) { acked = min n (length (v.server k).entries); floor = max (v.server k).floor (min n (length (v.server k).entries)) }; sent = to_server (v.server k).pred (Ack (min n (length (v.server k).entries))) }) (silent (v.server k))).sent
  go true = calm-turn v (parties.Server p) k (Ack n ∷ []) rest _ (to_server (v.server k).pred (Ack (min n (length (v.server k).entries)))) h known lives taken refl refl refl refl
      (each-to_server (λ x. Speaks (v.server k).entries x.1) (v.server k).pred (Ack (min n (length (v.server k).entries))) (λ i. tt))
      (bystands v (parties.Server p) k (Ack n ∷ []) rest _ taken refl refl refl refl)
  go false = calm-turn v (parties.Server p) k (Ack n ∷ []) rest (v.server k) [] h known lives taken refl refl refl refl tt (bystands v (parties.Server p) k (Ack n ∷ []) rest (v.server k) taken refl refl refl refl)
server_turn v p k m rest h known lives taken says = calm-turn v (parties.Server p) k (m ∷ []) rest (v.server k) [] h known lives taken refl refl refl refl tt (bystands v (parties.Server p) k (m ∷ []) rest (v.server k) taken refl refl refl refl)

-- ---- messages of the master

-- what a server is told that is told to be the head
heads_of : (v : View) (k : ℕ) (rest : List Message) → Prefixes v → is_in v.master.used k ≡ true → (v.server k).down ≡ false → v.channel parties.Master (parties.Server k) ≡ BeHead ∷ rest → Heads (extended v.master) k (BeHead ∷ rest)
heads_of v k rest h known lives taken = subst (λ us. Heads (extended v.master) k us) taken (h.heads k (member-extended v.master.chain v.master.joiner k (told-member v k BeHead rest (lives-placed v k h known lives) taken (λ word. word))))

-- a server is told that it is the head
be_head_turn : (v : View) (k : ℕ) (rest : List Message) → Prefixes v → is_in v.master.used k ≡ true → (v.server k).down ≡ false → v.channel parties.Master (parties.Server k) ≡ BeHead ∷ rest
    → Turn v parties.Master k rest (record (v.server k) { head = true; pred = None }) []
be_head_turn v k rest h known lives taken = let told = heads_of v k rest h known lives taken in record {
  known = known;
  lives = lives;
  prefix = BeHead ∷ [];
  taken = taken;
  grows = prefix-refl (v.server k).entries;
  speaks = tt;
  climbs = subst (λ us. Climbs (set_at v.server k (record (v.server k) { head = true; pred = None })) k us) (sym told.1) tt;
  last = λ first p last. absurd (both_ways (is_first (extended v.master) k) first told.0);
  head = λ is_head member. told.1;
  aside = no_outsider v k BeHead rest (record (v.server k) { head = true; pred = None }) taken (λ word. word);
}

-- a list with an element isn't empty, whatever stands before
more_nil : (xs : List ℕ) (x : ℕ) (ys : List ℕ) → xs ++ (x ∷ ys) ≡ [] → ⊥
more_nil [] x ys e = cons_nil x ys e
more_nil (y ∷ xs) x ys e = cons_nil y (xs ++ (x ∷ ys)) e

-- without a predecessor before it, or with one
one_less : (f : ℕ → Server) (k : ℕ) (o : Option ℕ) (p : ℕ) (r : List ℕ) → Climbs f k (one o ++ (p ∷ r)) → Climbs f k (p ∷ r)
one_less f k None p r c = c
one_less f k (Some q) p r c = climbs-next f k q p r c

last_less : (o : Option ℕ) (p : ℕ) (r : List ℕ) (q : ℕ) → is_last (one o ++ (p ∷ r)) q ≡ true → is_last (p ∷ r) q ≡ true
last_less None p r q last = last
last_less (Some o) p r q last = last

-- it is told its predecessor
report_turn : (v : View) (k p : ℕ) (rest : List Message) (out : List (Party × Message)) → Prefixes v → is_in v.master.used k ≡ true → (v.server k).down ≡ false → v.channel parties.Master (parties.Server k) ≡ Report p ∷ rest
    → AllSpeak (v.server k).entries out → Turn v parties.Master k rest (record (v.server k) { pred = Some p }) out
report_turn v k p rest out h known lives taken says =
    let s : Server = record (v.server k) { pred = Some p } in
    let before : ups v k ≡ one (v.server k).pred ++ (p ∷ reports rest) = ap (λ ms. one (v.server k).pred ++ reports ms) taken in record {
      known = known;
      lives = lives;
      prefix = Report p ∷ [];
      taken = taken;
      grows = prefix-refl (v.server k).entries;
      speaks = says;
      climbs = climbs-same v.server (set_at v.server k s) k (p ∷ reports rest) (grows_at v.server k s (prefix-refl (v.server k).entries) lives) lives (own_entries v.server k s)
          (one_less v.server k (v.server k).pred p (reports rest) (subst (λ us. Climbs v.server k us) before (h.climbs k)));
      last = λ first q last. last_less (v.server k).pred p (reports rest) q (sym (ap (λ us. is_last us q) before) ∙ last);
      head = λ is_head member. absurd (more_nil (one (v.server k).pred) p (reports rest) (sym before ∙ h.headless k member is_head));
      aside = bystands v parties.Master k (Report p ∷ []) rest s taken refl refl refl refl;
    }

-- what a server sends when it becomes the tail
tailed_speaks : (least : ℕ) (s : Server) → AllSpeak s.entries (tailed least s).sent
tailed_speaks least s = each-when (λ x. Speaks s.entries x.1) (acts (as_tail least s)) (to_server s.pred (Ack (length s.entries)) ++ (parties.Master, Ready) ∷ [])
    (λ acting. each-append (λ x. Speaks s.entries x.1) (to_server s.pred (Ack (length s.entries))) ((parties.Master, Ready) ∷ []) (each-to_server (λ x. Speaks s.entries x.1) s.pred (Ack (length s.entries)) (λ i. tt)) (tt, tt))

-- the turn of a server that takes a message of the master
told_turn : (v : View) (k : ℕ) (m : Message) (rest : List Message) → Prefixes v → is_in v.master.used k ≡ true → (v.server k).down ≡ false → v.channel parties.Master (parties.Server k) ≡ m ∷ rest
    → Turn v parties.Master k rest (takes parties.Master m (v.server k)).server (takes parties.Master m (v.server k)).sent
unfolding takes
told_turn v k BeHead rest h known lives taken = be_head_turn v k rest h known lives taken
told_turn v k (Report p) rest h known lives taken = report_turn v k p rest _ h known lives taken (tt, (tt, tt))
told_turn v k (Adopt succ have) rest h known lives taken = calm-turn v parties.Master k (Adopt succ have ∷ []) rest (record (v.server k) { at_least = None; succ = Some succ }) _ h known lives taken (sym (ap reports taken)) refl refl refl
    (each-append (λ x. Speaks (v.server k).entries x.1) (when (not (is_that (v.server k).succ succ)) (repair succ have (v.server k))) ((parties.Master, Adopted succ (length (v.server k).entries)) ∷ [])
    (each-when (λ x. Speaks (v.server k).entries x.1) (not (is_that (v.server k).succ succ)) (repair succ have (v.server k)) (λ new. repair_speaks succ have (v.server k))) (tt, tt))
    (no_outsider v k (Adopt succ have) rest (record (v.server k) { at_least = None; succ = Some succ }) taken (λ word. word))
told_turn v k (BeTail least) rest h known lives taken = let now = is_settled (as_tail least (v.server k)) in
    calm-turn v parties.Master k (BeTail least ∷ []) rest (settled (as_tail least (v.server k))) _ h known lives taken (sym (ap reports taken)) now.entries now.pred now.head (tailed_speaks least (v.server k))
    (no_outsider v k (BeTail least) rest (settled (as_tail least (v.server k))) taken (λ word. word))
told_turn v k (Feed succ) rest h known lives taken = go (acts (v.server k)) where
  go : (t : Bool) → Turn v parties.Master k rest (cond t (feeding succ (v.server k)) (silent (v.server k))).server (cond t (feeding succ (v.server k)) (silent (v.server k))).sent
  go true = calm-turn v parties.Master k (Feed succ ∷ []) rest (record (v.server k) { succ = succ }) (to_server succ (Snap (v.server k).entries)) h known lives taken (sym (ap reports taken)) refl refl refl
      (each-to_server (λ x. Speaks (v.server k).entries x.1) succ (Snap (v.server k).entries) (λ i. prefix-refl (v.server k).entries)) (no_outsider v k (Feed succ) rest (record (v.server k) { succ = succ }) taken (λ word. word))
  go false = calm-turn v parties.Master k (Feed succ ∷ []) rest (v.server k) [] h known lives taken (sym (ap reports taken)) refl refl refl tt (bystands v parties.Master k (Feed succ ∷ []) rest (v.server k) taken refl refl refl refl)
told_turn v k m rest h known lives taken = calm-turn v parties.Master k (m ∷ []) rest (v.server k) [] h known lives taken (sym (ap reports taken)) refl refl refl tt (bystands v parties.Master k (m ∷ []) rest (v.server k) taken refl refl refl refl)

-- the turn of a server that takes any message
pub take-turn : (v : View) (from : Party) (k : ℕ) (m : Message) (rest : List Message) → Prefixes v → is_in v.master.used k ≡ true → (v.server k).down ≡ false → v.channel from (parties.Server k) ≡ m ∷ rest
    → Turn v from k rest (takes from m (v.server k)).server (takes from m (v.server k)).sent
unfolding takes
take-turn v parties.Master k m rest h known lives taken = told_turn v k m rest h known lives taken
take-turn v parties.Clients k m rest h known lives taken = calm-turn v parties.Clients k (m ∷ []) rest (v.server k) [] h known lives taken refl refl refl refl tt (bystands v parties.Clients k (m ∷ []) rest (v.server k) taken refl refl refl refl)
take-turn v (parties.Server p) k m rest h known lives taken = server_turn v p k m rest h known lives taken (subst (λ ms. Each (Speaks (v.server p).entries) ms) taken (h.speaks p (parties.Server k))).0

-- ---- requests, queries and crashes

-- a request arrives at the head
pub arrive-turn : (v : View) (k clock : ℕ) (request : Request) → Prefixes v → is_in v.master.used k ≡ true → (v.server k).down ≡ false → (v.server k).head ≡ true
    → Turn v parties.Clients k (v.channel parties.Clients (parties.Server k)) (arrived clock request (v.server k)).server (arrived clock request (v.server k)).sent
unfolding arrived
arrive-turn v k clock request h known lives is_head =
    let e : Entry = stamped (v.server k).entries clock request in
    let s : Server = settled (appended (v.server k) e) in
    let now = is_settled (appended (v.server k) e) in
    let none = h.headless k (head_extended v k h known lives is_head) is_head in
    let after : ups_after v parties.Clients k (v.channel parties.Clients (parties.Server k)) s ≡ [] = ap (λ o. one o ++ reports (v.channel parties.Master (parties.Server k))) now.pred ∙ none in record {
      known = known;
      lives = lives;
      prefix = [];
      taken = refl;
      grows = subst (λ us. IsPrefix (v.server k).entries us) (sym now.entries) (prefix-more (v.server k).entries (e ∷ []));
      speaks = subst (λ us. AllSpeak us (passed_on (v.server k) e)) (sym now.entries) (passed_speaks (v.server k) e);
      climbs = subst (λ us. Climbs (set_at v.server k s) k us) (sym after) tt;
      last = λ first p last. ap (λ us. is_last us p) (after ∙ sym none) ∙ last;
      head = λ is member. after;
      aside = λ b. absurd (both_ways (v.server k).head b.head is_head);
    }

-- a query
pub ask-turn : (v : View) (k : ℕ) (query : Query) → Prefixes v → is_in v.master.used k ≡ true → (v.server k).down ≡ false
    → Turn v parties.Clients k (v.channel parties.Clients (parties.Server k)) (asked query (v.server k)).server (asked query (v.server k)).sent
unfolding asked
ask-turn v k query h known lives = calm-turn v parties.Clients k [] (v.channel parties.Clients (parties.Server k)) (v.server k) _ h known lives refl refl refl refl refl (tt, tt) (bystands v parties.Clients k [] (v.channel parties.Clients (parties.Server k)) (v.server k) refl refl refl refl refl)

-- a crash
pub crash-turn : (v : View) (k : ℕ) → Prefixes v → is_in v.master.used k ≡ true → (v.server k).down ≡ false
    → Turn v parties.Clients k (v.channel parties.Clients (parties.Server k)) (record (v.server k) { down = true }) []
crash-turn v k h known lives = calm-turn v parties.Clients k [] (v.channel parties.Clients (parties.Server k)) (record (v.server k) { down = true }) [] h known lives refl refl refl refl refl tt
    (bystands v parties.Clients k [] (v.channel parties.Clients (parties.Server k)) (record (v.server k) { down = true }) refl refl refl refl refl)
