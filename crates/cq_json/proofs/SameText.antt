-- Texts with the same tokens, commas and colons.
use Rattle.std.proofs.Common.{◌≡◌, ℕ, codes, List, [], ◌∷◌, ◌++◌, true, false, cond, ◌||◌, refl, sym, ap, ap₂, ◌∙◌, append_assoc}
use Rattle.std.specs.Fmt.{decimal}
use Rattle.json.specs.Token.{begin_object, end_object, string, number, boolean, null, bad}
use Rattle.json.specs.Word.{ends_word, is_operator, is_space, word}
use Rattle.json.specs.Lex.{token, comma, colon, string_token, lex, between}
use Rattle.json.specs.Print.{escape, quoted}
use Rattle.json.proofs.Printed.Strings.{content-escape, lex-escape}
use Rattle.json.proofs.Printed.Numbers.{lex-number, in_word-ended}
use Rattle.json.proofs.Printed.Decimals.{IsNumber-decimal}
use Rattle.cq_json.specs.Keys.{key_text}
use Rattle.cq_json.specs.within.FlatText.{IsInRange}
use Rattle.cq_json.specs.within.FlatText.{Same, IsWhole, value_text, member_text, members_text, AreInRange}
use Rattle.cq_json.specs.declared.flat.Scalar.{Scalar}
use Rattle.cq_json.specs.declared.flat.Scalar.TheVariants.{Text, Number, Truth, Null, Inner}
use Rattle.cq_json.specs.declared.flat.Member.{Member}

-- ---- one byte

pub behind_brace : (a b : List ℕ) → Same a b → Same (123 ∷ a) (123 ∷ b)
unfolding lex
behind_brace a b same = ap (λ l. token begin_object ∷ l) same

pub behind_comma : (a b : List ℕ) → Same a b → Same (44 ∷ a) (44 ∷ b)
unfolding lex
behind_comma a b same = ap (λ l. comma ∷ l) same

pub behind_colon : (a b : List ℕ) → Same a b → Same (58 ∷ a) (58 ∷ b)
unfolding lex
behind_colon a b same = ap (λ l. colon ∷ l) same

pub behind_end : (a b : List ℕ) → Same a b → Same (125 ∷ a) (125 ∷ b)
unfolding lex
behind_end a b same = ap (λ l. token end_object ∷ l) same

-- ---- white space

pub space_passed : (text rest : List ℕ) → text ≡ 32 ∷ rest → Same text rest
unfolding lex
space_passed text rest is = ap (lex between) is

pub spaces_passed : (text rest : List ℕ) → text ≡ codes "                " ++ rest → Same text rest
unfolding lex
spaces_passed text rest is = ap (lex between) is

pub tab_passed : (text rest : List ℕ) → text ≡ 9 ∷ rest → Same text rest
unfolding lex
tab_passed text rest is = ap (lex between) is

pub return_passed : (text rest : List ℕ) → text ≡ 13 ∷ rest → Same text rest
unfolding lex
return_passed text rest is = ap (lex between) is

pub space_ends : (text rest : List ℕ) → text ≡ 32 ∷ rest → ends_word text ≡ true
space_ends text rest is = ap ends_word is

pub spaces_end : (text rest : List ℕ) → text ≡ codes "                " ++ rest → ends_word text ≡ true
spaces_end text rest is = ap ends_word is

pub tab_ends : (text rest : List ℕ) → text ≡ 9 ∷ rest → ends_word text ≡ true
tab_ends text rest is = ap ends_word is

pub return_ends : (text rest : List ℕ) → text ≡ 13 ∷ rest → ends_word text ≡ true
return_ends text rest is = ap ends_word is

pub operator_ends : (text rest : List ℕ) (c : ℕ) → text ≡ c ∷ rest → is_operator c ≡ true → ends_word text ≡ true
operator_ends text rest c is operator = ap ends_word is ∙ ap (λ b. b || is_space c) operator

-- ---- a value

pub lex-quoted : (s r : List ℕ) → lex between (quoted s ++ r) ≡ token (string s) ∷ lex between r
unfolding lex
lex-quoted s r =
    ap (λ l. lex between (34 ∷ l)) (append_assoc (escape s) (34 ∷ []) r) ∙ ap₂ (λ o l. token (string_token o) ∷ l) (content-escape s r) (lex-escape s r)

pub behind_quoted : (s a b : List ℕ) → Same a b → Same (quoted s ++ a) (quoted s ++ b)
behind_quoted s a b same = lex-quoted s a ∙ ap (λ l. token (string s) ∷ l) same ∙ sym (lex-quoted s b)

lex-true : (r : List ℕ) → ends_word r ≡ true → lex between (116 ∷ 114 ∷ 117 ∷ 101 ∷ r) ≡ token (boolean true) ∷ lex between r
unfolding lex word
lex-true r ended = ap₂ (λ b l. token (cond b (boolean true) bad) ∷ l) ended (in_word-ended r ended)

lex-false : (r : List ℕ) → ends_word r ≡ true → lex between (102 ∷ 97 ∷ 108 ∷ 115 ∷ 101 ∷ r) ≡ token (boolean false) ∷ lex between r
unfolding lex word
lex-false r ended = ap₂ (λ b l. token (cond b (boolean false) bad) ∷ l) ended (in_word-ended r ended)

lex-null : (r : List ℕ) → ends_word r ≡ true → lex between (110 ∷ 117 ∷ 108 ∷ 108 ∷ r) ≡ token null ∷ lex between r
unfolding lex word
lex-null r ended = ap₂ (λ b l. token (cond b null bad) ∷ l) ended (in_word-ended r ended)

module _ (inner : List ℕ) (whole : IsWhole inner) where
  value_whole : (s : Scalar) → IsInRange s → IsWhole (value_text inner s)
  value_whole (Text t) fits a b x y same = behind_quoted t.now a b same
  value_whole (Number n) fits a b x y same =
      lex-number (decimal n) a (IsNumber-decimal n fits) x ∙ ap (λ l. token (number (decimal n)) ∷ l) same ∙ sym (lex-number (decimal n) b (IsNumber-decimal n fits) y)
  value_whole (Truth true) fits a b x y same = lex-true a x ∙ ap (λ l. token (boolean true) ∷ l) same ∙ sym (lex-true b y)
  value_whole (Truth false) fits a b x y same = lex-false a x ∙ ap (λ l. token (boolean false) ∷ l) same ∙ sym (lex-false b y)
  value_whole Null fits a b x y same = lex-null a x ∙ ap (λ l. token null ∷ l) same ∙ sym (lex-null b y)
  value_whole Inner fits a b x y same = whole a b x y same

  -- ---- members

  member_apart : (m : Member) (r : List ℕ) → member_text inner m ++ r ≡ quoted (key_text m.key) ++ (58 ∷ (value_text inner m.value ++ r))
  member_apart m r = append_assoc (quoted (key_text m.key)) (58 ∷ value_text inner m.value) r

  member_whole : (m : Member) → IsInRange m.value → IsWhole (member_text inner m)
  member_whole m fits a b x y same =
      let values = value_whole m.value fits a b x y same in
      let keys = behind_quoted (key_text m.key) _ _ (behind_colon _ _ values) in
      ap (lex between) (member_apart m a) ∙ keys ∙ sym (ap (lex between) (member_apart m b))

  -- members behind others
  later_whole : (ms : List Member) → AreInRange ms → IsWhole (members_text inner 44 ms)
  later_whole [] fits a b x y same = same
  later_whole (m ∷ []) fits a b x y same =
      let apart = λ (r : List ℕ). ap (λ l. lex between (44 ∷ l)) (append_assoc (member_text inner m) [] r) in
      apart a ∙ behind_comma _ _ (member_whole m fits.0 a b x y same) ∙ sym (apart b)
  later_whole (m ∷ n ∷ ms) fits a b x y same =
      let apart = λ (r : List ℕ). ap (λ l. lex between (44 ∷ l)) (append_assoc (member_text inner m) (members_text inner 44 (n ∷ ms)) r) in
      apart a ∙ behind_comma _ _ (member_whole m fits.0 _ _ refl refl (later_whole (n ∷ ms) fits.1 a b x y same)) ∙ sym (apart b)

  first_apart : (m : Member) (ms : List Member) (r : List ℕ) → Same (members_text inner 123 (m ∷ ms) ++ r) (123 ∷ (member_text inner m ++ (members_text inner 44 ms ++ r)))
  first_apart m ms r = ap (λ l. lex between (123 ∷ l)) (append_assoc (member_text inner m) (members_text inner 44 ms) r)

  -- all members from the object's bracket on
  pub members_whole : (ms : List Member) → AreInRange ms → IsWhole (members_text inner 123 ms)
  members_whole [] fits a b x y same = same
  members_whole (m ∷ []) fits a b x y same = first_apart m [] a ∙ behind_brace _ _ (member_whole m fits.0 a b x y same) ∙ sym (first_apart m [] b)
  members_whole (m ∷ n ∷ ms) fits a b x y same =
      first_apart m (n ∷ ms) a ∙ behind_brace _ _ (member_whole m fits.0 _ _ refl refl (later_whole (n ∷ ms) fits.1 a b x y same)) ∙ sym (first_apart m (n ∷ ms) b)
