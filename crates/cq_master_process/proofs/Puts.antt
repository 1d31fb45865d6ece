-- Messages that are put one after another.
use Rattle.std.proofs.Common.{◌≡◌, ◌∙◌, ℕ, ◌+◌, ◌<◌, ◌≤◌, ap, sym, refl, subst, List, [], ◌∷◌, ◌++◌, map, append_assoc, append-nil, Bool, true, false, arith}
use Rattle.cq_base.specs.declared.party.Party.TheVariants as parties
use Rattle.cq_base.specs.Relations.{IsPrefix}
use Rattle.cq_chain.specs.declared.message.Message as rust
use Rattle.cq_events.specs.Actions.{Put}
use Rattle.cq_master_process.specs.declared.process.MasterProcess.{MasterProcess}
use Rattle.cq_master_process.specs.Cores.{Acts, alone}
use Rattle.cq_master_process.specs.Links.{counted, gone_of, put_of, taken_of}
use Rattle.cq_master_process.specs.Putting.{AllFit, AreInOrder, IsTold, Puts, Sent, counted_all, response_of, sent_to, told_all, told_of}
use Rattle.cq_master_process.specs.Steps.{Keeps}
use Rattle.cq_master_process.specs.within.Behind.{PutsFor}
use Rattle.cq_master_process.specs.within.Telling.{IsFirstFor, TellsFirst}
use Rattle.cq_master_process.proofs.Cores.{acts-both, acts-kept, keeps-alone}
use Rattle.cq_process.specs.declared.outgoing.TheConstants.{LINK_LIMIT}
use Rattle.cq_process_frames.specs.Frames.{frame}

-- ---- lists

counted-both : (numbers : ℕ → ℕ) (xs ys : List Sent) → counted_all numbers (xs ++ ys) ≡ counted_all (counted_all numbers xs) ys
counted-both numbers [] ys = refl
counted-both numbers (x ∷ xs) ys = counted-both (counted numbers x.to) xs ys

told-both : (gone : ℕ → Bool) (numbers : ℕ → ℕ) (xs ys : List Sent) → told_all gone numbers (xs ++ ys) ≡ told_all gone numbers xs ++ told_all gone (counted_all numbers xs) ys
told-both gone numbers [] ys = refl
told-both gone numbers (x ∷ xs) ys =
    ap (λ u. told_of (gone x.to) x (numbers x.to + 1) ++ u) (told-both gone (counted numbers x.to) xs ys)
    ∙ sym (append_assoc (told_of (gone x.to) x (numbers x.to + 1)) (told_all gone (counted numbers x.to) xs) (told_all gone (counted_all (counted numbers x.to) xs) ys))

fit-both : (gone : ℕ → Bool) (numbers : ℕ → ℕ) (xs ys : List Sent) → AllFit gone numbers xs → AllFit gone (counted_all numbers xs) ys → AllFit gone numbers (xs ++ ys)
fit-both gone numbers [] ys h k = k
fit-both gone numbers (x ∷ xs) ys h k = (h.0, (h.1.0, fit-both gone (counted numbers x.to) xs ys h.1.1 k))

sent-both : (to : ℕ) (xs ys : List rust.Message) → map (sent_to to) (xs ++ ys) ≡ map (sent_to to) xs ++ map (sent_to to) ys
sent-both to [] ys = refl
sent-both to (x ∷ xs) ys = ap (λ us. sent_to to x ∷ us) (sent-both to xs ys)

pub order-from : (a b c : ℕ) (ys : List Sent) → a ≤ b → AreInOrder b ys c → AreInOrder a ys c
order-from a b c [] h k = omega arith
order-from a b c (y ∷ ys) h k = let first = k.0 in (omega arith, k.1)

pub order-both : (a b c : ℕ) (xs ys : List Sent) → AreInOrder a xs b → AreInOrder b ys c → AreInOrder a (xs ++ ys) c
order-both a b c [] ys h k = order-from a b c ys h k
order-both a b c (x ∷ xs) ys h k = (h.0, order-both x.to b c xs ys h.1 k)

pub order-for : (to : ℕ) (xs : List rust.Message) → AreInOrder to (map (sent_to to) xs) to
order-for to [] = omega arith
order-for to (x ∷ xs) = (omega arith, order-for to xs)

-- ---- puts

pub puts-none : (p : MasterProcess) → Puts p p [] []
puts-none p = record { done = λ m outbox h. h; put = refl; is = refl; fits = tt; taken = refl; gone = refl }

pub puts-both : (p q r : MasterProcess) (xs ys : List Sent) (t u : List ℕ) → Puts p q xs t → Puts q r ys u → Puts p r (xs ++ ys) (t ++ u)
puts-both p q r xs ys t u h k = record {
  done = acts-both xs ys (alone p.core) (alone q.core) (alone r.core) h.done k.done;
  put = k.put ∙ ap (λ n. counted_all n ys) h.put ∙ sym (counted-both (put_of p.links) xs ys);
  is = ap (λ a. a ++ u) h.is ∙ ap (λ b. told_all (gone_of p.links) (put_of p.links) xs ++ b) (k.is ∙ ap (λ g. told_all g (put_of q.links) ys) h.gone ∙ ap (λ n. told_all (gone_of p.links) n ys) h.put)
      ∙ sym (told-both (gone_of p.links) (put_of p.links) xs ys);
  fits = fit-both (gone_of p.links) (put_of p.links) xs ys h.fits
      (subst (λ g. AllFit g (counted_all (put_of p.links) xs) ys) h.gone (subst (λ n. AllFit (gone_of q.links) n ys) h.put k.fits));
  taken = k.taken ∙ h.taken;
  gone = k.gone ∙ h.gone;
}

pub puts-kept : (p q r : MasterProcess) (xs : List Sent) (t : List ℕ) → Puts p q xs t → Keeps q r → Puts p r xs t
puts-kept p q r xs t h k = record {
  done = acts-kept xs (alone p.core) (alone q.core) (alone r.core) h.done (keeps-alone q.core r.core k.core);
  put = k.put ∙ h.put;
  is = h.is;
  fits = h.fits;
  taken = k.taken ∙ h.taken;
  gone = k.gone ∙ h.gone;
}

puts-one : (p q : MasterProcess) (to : ℕ) (x : rust.Message) (is_gone : Bool) → gone_of p.links to ≡ is_gone → Acts (Put (parties.Server to) x) p.core q.core → put_of q.links ≡ counted (put_of p.links) to
    → put_of p.links to < LINK_LIMIT → IsTold is_gone (sent_to to x) (put_of p.links to + 1) → taken_of q.links ≡ taken_of p.links → gone_of q.links ≡ gone_of p.links
    → Puts p q (sent_to to x ∷ []) (told_of is_gone (sent_to to x) (put_of p.links to + 1))
puts-one p q to x is_gone here acts counts unspent fits taken gone = record {
  done = (alone q.core, acts, λ m outbox h. h);
  put = counts;
  is = sym (append-nil (told_of is_gone (sent_to to x) (put_of p.links to + 1))) ∙ ap (λ b. told_of b (sent_to to x) (put_of p.links to + 1) ++ []) (sym here);
  fits = (unspent, (subst (λ b. IsTold b (sent_to to x) (put_of p.links to + 1)) (sym here) fits, tt));
  taken = taken;
  gone = gone;
}

-- ---- for one server

pub none-for : (p : MasterProcess) (to : ℕ) (old : List ℕ) → PutsFor p p to old old
none-for p to old = record { messages = []; told = []; puts = puts-none p; bytes = sym (append-nil old) }

pub both-for : (p q r : MasterProcess) (to : ℕ) (old mid new : List ℕ) → PutsFor p q to old mid → PutsFor q r to mid new → PutsFor p r to old new
both-for p q r to old mid new h k = record {
  messages = h.messages ++ k.messages;
  told = h.told ++ k.told;
  puts = subst (λ xs. Puts p r xs (h.told ++ k.told)) (sym (sent-both to h.messages k.messages)) (puts-both p q r (map (sent_to to) h.messages) (map (sent_to to) k.messages) h.told k.told h.puts k.puts);
  bytes = k.bytes ∙ ap (λ u. u ++ k.told) h.bytes ∙ append_assoc old h.told k.told;
}

pub front-for : (p q : MasterProcess) (to : ℕ) (old mid new : List ℕ) → PutsFor p q to old mid → new ≡ mid → IsPrefix old new
front-for p q to old mid new h is = (h.told, is ∙ h.bytes)

-- a message is told
pub told-for : (p q : MasterProcess) (to : ℕ) (old new : List ℕ) → gone_of p.links to ≡ false → put_of p.links to < LINK_LIMIT → TellsFirst p.core to (put_of p.links to + 1) old new
    → ((x : rust.Message) → IsFirstFor p.core to x → Acts (Put (parties.Server to) x) p.core q.core) → put_of q.links ≡ counted (put_of p.links) to → taken_of q.links ≡ taken_of p.links → gone_of q.links ≡ gone_of p.links
    → PutsFor p q to old new
told-for p q to old new here unspent tells acts counts taken gone = record {
  messages = tells.message ∷ [];
  told = frame (response_of (sent_to to tells.message) (put_of p.links to + 1));
  puts = puts-one p q to tells.message false here (acts tells.message tells.first) counts unspent (tells.fits, (tells.server, ((omega arith, omega arith), tells.short))) taken gone;
  bytes = tells.bytes;
}

-- or thrown away
pub thrown-for : (p q : MasterProcess) (to : ℕ) (x : rust.Message) (old : List ℕ) → gone_of p.links to ≡ true → put_of p.links to < LINK_LIMIT → Acts (Put (parties.Server to) x) p.core q.core
    → put_of q.links ≡ counted (put_of p.links) to → taken_of q.links ≡ taken_of p.links → gone_of q.links ≡ gone_of p.links → PutsFor p q to old old
thrown-for p q to x old here unspent acts counts taken gone = record {
  messages = x ∷ [];
  told = [];
  puts = puts-one p q to x true here acts counts unspent tt taken gone;
  bytes = sym (append-nil old);
}
