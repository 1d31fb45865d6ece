-- Keys are the same where their names are.
use Rattle.std.proofs.Common.{◌≡◌, ℕ, List, [], codes, if◌then◌else◌, nat_eq, refl, sym, ap, ◌∙◌}
use Rattle.std.specs.Str.{bytes_eq}
use Rattle.std.proofs.lemmas.Slice.Eq.{bytes_eq-Decides}
use Rattle.std.proofs.lemmas.Bool.Decides.{Decides-eqb, same_from_decides}
use Rattle.cq_json.specs.Keys.{key_text, key_number}
use Rattle.cq_json.specs.declared.key.Key.{Key}
use Rattle.cq_json.specs.declared.key.Key.TheVariants.{Op, At, Clock, Client, Number, Ask, Tag, Queue, From, To, Server, Kind, Visibility, ContentDedup, Group, Dedup, Body, Size, Receipt}

-- the name of the key with that number
abbrev text_of : ℕ → List ℕ
text_of n = if nat_eq n 0 then codes "op" else (if nat_eq n 1 then codes "at" else (if nat_eq n 2 then codes "clock" else (if nat_eq n 3 then codes "client" else (if nat_eq n 4 then codes "number" else (if nat_eq n 5 then codes "ask" else (if nat_eq n 6 then codes "tag" else (if nat_eq n 7 then codes "queue" else (if nat_eq n 8 then codes "from" else (if nat_eq n 9 then codes "to" else (if nat_eq n 10 then codes "server" else (if nat_eq n 11 then codes "kind" else (if nat_eq n 12 then codes "visibility" else (if nat_eq n 13 then codes "content_dedup" else (if nat_eq n 14 then codes "group" else (if nat_eq n 15 then codes "dedup" else (if nat_eq n 16 then codes "body" else (if nat_eq n 17 then codes "size" else (if nat_eq n 18 then codes "receipt" else ([])))))))))))))))))))

-- the number of the key with that name
abbrev number_of : List ℕ → ℕ
number_of name = if bytes_eq name (codes "op") then 0 else (if bytes_eq name (codes "at") then 1 else (if bytes_eq name (codes "clock") then 2 else (if bytes_eq name (codes "client") then 3 else (if bytes_eq name (codes "number") then 4 else (if bytes_eq name (codes "ask") then 5 else (if bytes_eq name (codes "tag") then 6 else (if bytes_eq name (codes "queue") then 7 else (if bytes_eq name (codes "from") then 8 else (if bytes_eq name (codes "to") then 9 else (if bytes_eq name (codes "server") then 10 else (if bytes_eq name (codes "kind") then 11 else (if bytes_eq name (codes "visibility") then 12 else (if bytes_eq name (codes "content_dedup") then 13 else (if bytes_eq name (codes "group") then 14 else (if bytes_eq name (codes "dedup") then 15 else (if bytes_eq name (codes "body") then 16 else (if bytes_eq name (codes "size") then 17 else (if bytes_eq name (codes "receipt") then 18 else (100)))))))))))))))))))

text_said : (k : Key) → text_of (key_number k) ≡ key_text k
text_said Op = refl
text_said At = refl
text_said Clock = refl
text_said Client = refl
text_said Number = refl
text_said Ask = refl
text_said Tag = refl
text_said Queue = refl
text_said From = refl
text_said To = refl
text_said Server = refl
text_said Kind = refl
text_said Visibility = refl
text_said ContentDedup = refl
text_said Group = refl
text_said Dedup = refl
text_said Body = refl
text_said Size = refl
text_said Receipt = refl

number_said : (k : Key) → number_of (key_text k) ≡ key_number k
number_said Op = refl
number_said At = refl
number_said Clock = refl
number_said Client = refl
number_said Number = refl
number_said Ask = refl
number_said Tag = refl
number_said Queue = refl
number_said From = refl
number_said To = refl
number_said Server = refl
number_said Kind = refl
number_said Visibility = refl
number_said ContentDedup = refl
number_said Group = refl
number_said Dedup = refl
number_said Body = refl
number_said Size = refl
number_said Receipt = refl

-- two numbers are the same where the names are
pub same_key : (k l : Key) → nat_eq (key_number k) (key_number l) ≡ bytes_eq (key_text k) (key_text l)
same_key k l =
    let numbers = Decides-eqb (key_number k) (key_number l) in
    same_from_decides (nat_eq (key_number k) (key_number l)) (bytes_eq (key_text k) (key_text l))
    (λ yes. sym (text_said k) ∙ ap text_of (numbers.0 yes) ∙ text_said l, λ same. numbers.1 (sym (number_said k) ∙ ap number_of same ∙ number_said l))
    (bytes_eq-Decides (key_text k) (key_text l))
