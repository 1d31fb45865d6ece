-- The text of a flat object is that of its tokens, which say its data.
use Rattle.std.proofs.Common.{◌≡◌, ℕ, suc, ◌+◌, ◌-◌, ◌*◌, ◌/◌, ◌%◌, ◌<◌, ◌≤◌, List, [], ◌∷◌, ◌++◌, length, take, drop, get_or, Bool, true, false, Option, Some, None, OnSome, IsUtf8, refl, sym, ap, ap₂, ◌∙◌, arith, append_assoc, append-nil, length-append}
use Rattle.std.proofs.lemmas.List.{take-append-drop, drop_more, take_more as take_next}
use Rattle.std.proofs.lemmas.Fmt.{decimal_digit, decimal_step}
use Rattle.std.specs.List.{prefix_len}
use Rattle.std.specs.Fmt.{decimal}
use Rattle.json.specs.Token.{Token, begin_object, end_object, key, string, number, boolean, null}
use Rattle.json.specs.Lex.{lex, between, fresh, punctuate, tokens}
use Rattle.json.specs.Json as json
use Rattle.json.specs.Word.{ends_word, is_operator}
use Rattle.json.specs.Run.{is_plain}
use Rattle.json.specs.Print.{escape, quoted, print_from, print, ArePrintable}
use Rattle.json.proofs.Printed.Decimals.{IsNumber-decimal}
use Rattle.json.proofs.Printed.Tokens.{tokens-print}
use Rattle.serde_json.specs.Data.{object, Members, no_members, put}
use Rattle.serde_json.specs.Read.{of_json, converted, max_depth}
use Rattle.cq_json.specs.Fields.{json_of}
use Rattle.cq_json.specs.Keys.{key_text}
use Rattle.cq_json.specs.Flat.{scalar_data, is_inner, puts, inner_members}
use Rattle.cq_json.specs.within.FlatText.{IsInRange, run_end, Same, IsWhole, value_text, member_text, members_text, AreInRange, Takes}
use Rattle.cq_json.specs.declared.flat_text.Pause.TheVariants as pauses
use Rattle.cq_json.proofs.PlainText.{escape_plain}
use Rattle.cq_json.proofs.SameText.{behind_brace, behind_comma, behind_colon, behind_end, behind_quoted, members_whole}
use Rattle.cq_json.proofs.FlatReading.{rest_of, member_read, members_over, opened, text_read, scalar_read}
use Rattle.cq_json.specs.declared.flat.Scalar.{Scalar}
use Rattle.cq_json.specs.declared.flat.Scalar.TheVariants.{Text, Number, Truth, Null, Inner}
use Rattle.cq_json.specs.declared.flat.Member.{Member}

-- ---- strings

-- the prefix of a string whose bytes stand for themselves, and the byte behind it
pub run_prefix : (d : List ℕ) (n : ℕ) → n ≡ prefix_len is_plain d → n < length d → d ≡ escape (take n d) ++ (get_or d n 0 ∷ drop (n + 1) d)
run_prefix d n is within =
    let plain : take n d ≡ escape (take n d) = rw is (sym (escape_plain d)) in
    sym (take-append-drop n d) ∙ ap₂ (λ a b. a ++ b) plain (drop_more d n 0 within)

pub run_end_ascii : (ends : Bool) → run_end ends < 128
run_end_ascii true = omega arith
run_end_ascii false = omega arith

-- ---- numbers

pub zero_prefix : (d : List ℕ) → 0 < length d → get_or d 0 0 ≡ 48 → d ≡ decimal 0 ++ drop 1 d
zero_prefix d some is = drop_more d 0 0 some ∙ ap (λ x. x ∷ drop 1 d) is ∙ ap (λ t. t ++ drop 1 d) (sym (decimal_digit 0 (omega arith)))

pub first_digit : (d : List ℕ) → 0 < length d → 48 ≤ get_or d 0 0 → get_or d 0 0 ≤ 57 → decimal (get_or d 0 0 - 48) ≡ take 1 d
first_digit d some low high =
    let same : 48 + (get_or d 0 0 - 48) ≡ get_or d 0 0 = omega arith in
    decimal_digit (get_or d 0 0 - 48) (omega arith) ∙ ap (λ x. x ∷ []) same ∙ sym (take_next d 0 0 some)

pub digit_more : (d : List ℕ) (n value : ℕ) → decimal value ≡ take n d → 0 < value → value < 1000000000000000000 → n < length d → 48 ≤ get_or d n 0 → get_or d n 0 ≤ 57
    → decimal (value * 10 + (get_or d n 0 - 48)) ≡ take (n + 1) d
digit_more d n value is some small within low high =
    let x = get_or d n 0 in
    let prefix : (value * 10 + (x - 48)) / 10 ≡ value = omega arith in
    let last : 48 + (value * 10 + (x - 48)) % 10 ≡ x = omega arith in
    decimal_step (value * 10 + (x - 48)) (omega arith) (omega arith)
    ∙ ap₂ (λ a b. a ++ b ∷ []) (ap decimal prefix ∙ is) last ∙ sym (take_next d n 0 within)

-- ---- one member more

abbrev pub opening_of : List Member → ℕ
opening_of [] = 123
opening_of (m ∷ ms) = 44

more_behind : (inner : List ℕ) (opening : ℕ) (m : Member) (ms : List Member) (n : Member)
    → members_text inner opening ((m ∷ ms) ++ n ∷ []) ≡ members_text inner opening (m ∷ ms) ++ (44 ∷ member_text inner n)
more_behind inner opening m [] n =
    ap (λ t. opening ∷ (member_text inner m ++ 44 ∷ t)) (append-nil (member_text inner n))
    ∙ ap (λ t. opening ∷ (t ++ 44 ∷ member_text inner n)) (sym (append-nil (member_text inner m)))
more_behind inner opening m (l ∷ ms) n =
    ap (λ t. opening ∷ (member_text inner m ++ t)) (more_behind inner 44 l ms n)
    ∙ ap (λ t. opening ∷ t) (sym (append_assoc (member_text inner m) (members_text inner 44 (l ∷ ms)) (44 ∷ member_text inner n)))

pub members_text-push : (inner : List ℕ) (ms : List Member) (n : Member) → members_text inner 123 (ms ++ n ∷ []) ≡ members_text inner 123 ms ++ (opening_of ms ∷ member_text inner n)
members_text-push inner [] n = ap (λ t. 123 ∷ t) (append-nil (member_text inner n))
members_text-push inner (m ∷ ms) n = more_behind inner 123 m ms n

pub AreInRange-push : (ms : List Member) (n : Member) → IsInRange n.value → AreInRange ms → AreInRange (ms ++ n ∷ [])
AreInRange-push [] n fits all = (fits, tt)
AreInRange-push (m ∷ ms) n fits all = (all.0, AreInRange-push ms n fits all.1)

pub opening_first : (ms : List Member) → length ms ≡ 0 → opening_of ms ≡ 123
opening_first [] none = refl
opening_first (m ∷ ms) none = absurd (omega arith)

pub opening_later : (ms : List Member) → 0 < length ms → opening_of ms ≡ 44
opening_later [] some = absurd (omega arith)
opening_later (m ∷ ms) some = refl

value_apart : (inner : List ℕ) (s : Scalar) → is_inner s ≡ false → value_text [] s ≡ value_text inner s
value_apart inner (Text t) scalar = refl
value_apart inner (Number n) scalar = refl
value_apart inner (Truth b) scalar = refl
value_apart inner Null scalar = refl
value_apart inner Inner scalar = absurd (cc)

value_empty : (s : Scalar) (t : List ℕ) → is_inner s ≡ true → value_text [] s ++ t ≡ t
value_empty (Text x) t is = absurd (cc)
value_empty (Number n) t is = absurd (cc)
value_empty (Truth b) t is = absurd (cc)
value_empty Null t is = absurd (cc)
value_empty Inner t is = refl

value_inner : (inner after : List ℕ) (s : Scalar) → is_inner s ≡ true → value_text [] s ++ (inner ++ after) ≡ value_text inner s ++ after
value_inner inner after (Text t) is = absurd (cc)
value_inner inner after (Number n) is = absurd (cc)
value_inner inner after (Truth b) is = absurd (cc)
value_inner inner after Null is = absurd (cc)
value_inner inner after Inner is = refl

opening_ends : (ms : List Member) (a : List ℕ) → ends_word (opening_of ms ∷ a) ≡ true
opening_ends [] a = refl
opening_ends (m ∷ ms) a = refl

pub opening_operator : (ms : List Member) → is_operator (opening_of ms) ≡ true
opening_operator [] = refl
opening_operator (m ∷ ms) = refl

opening_same : (ms : List Member) (a b : List ℕ) → Same a b → Same (opening_of ms ∷ a) (opening_of ms ∷ b)
opening_same [] a b same = behind_brace a b same
opening_same (m ∷ ms) a b same = behind_comma a b same

module _ (text : List ℕ) (read now : List Member) (rest next left : List ℕ)
    (took : (inner : List ℕ) → IsWhole inner → AreInRange read → Same (members_text inner 123 read ++ text) (members_text inner 123 now ++ rest))
    (fits : AreInRange read → AreInRange now) where
  take_one : (m : Member) (inner after : List ℕ) → IsWhole inner → AreInRange read → Same rest (opening_of now ∷ next) → ends_word rest ≡ true → Same next (member_text inner m ++ after)
      → Same (members_text inner 123 read ++ text) (members_text inner 123 (now ++ m ∷ []) ++ after)
  take_one m inner after whole all opened ends member =
      let behind = opening_of now ∷ (member_text inner m ++ after) in
      took inner whole all ∙ members_whole inner whole now (fits all) rest behind ends (opening_ends now (member_text inner m ++ after)) (opened ∙ opening_same now next (member_text inner m ++ after) member)
      ∙ ap (lex between) (sym (append_assoc (members_text inner 123 now) (opening_of now ∷ member_text inner m) after)
      ∙ ap (λ t. t ++ after) (sym (members_text-push inner now m)))

  pub take_more : (m : Member) → Same rest (opening_of now ∷ next) → ends_word rest ≡ true → Same next (member_text [] m ++ left) → is_inner m.value ≡ false → (inner : List ℕ) → IsWhole inner → AreInRange read
      → Same (members_text inner 123 read ++ text) (members_text inner 123 (now ++ m ∷ []) ++ left)
  take_more m opened ends member scalar = λ inner whole all.
      take_one m inner left whole all opened ends (member ∙ ap (λ v. lex between ((quoted (key_text m.key) ++ 58 ∷ v) ++ left)) (value_apart inner m.value scalar))

  pub take_inner : (m : Member) → Same rest (opening_of now ∷ next) → ends_word rest ≡ true → Same next (member_text [] m ++ left) → is_inner m.value ≡ true → (inner after : List ℕ) → IsWhole inner → AreInRange read
      → Same left (inner ++ after) → Same (members_text inner 123 read ++ text) (members_text inner 123 (now ++ m ∷ []) ++ after)
  take_inner m opened ends member is = λ inner after whole all follows.
      take_one m inner after whole all opened ends
      (member
      ∙ ap (lex between) (append_assoc (quoted (key_text m.key)) (58 ∷ value_text [] m.value) left ∙ ap (λ t. quoted (key_text m.key) ++ 58 ∷ t) (value_empty m.value left is))
      ∙ behind_quoted (key_text m.key) (58 ∷ left) (58 ∷ (inner ++ after)) (behind_colon left (inner ++ after) follows)
      ∙ ap (lex between) (ap (λ t. quoted (key_text m.key) ++ 58 ∷ t) (sym (value_empty m.value (inner ++ after) is) ∙ value_inner inner after m.value is)
      ∙ sym (append_assoc (quoted (key_text m.key)) (58 ∷ value_text inner m.value) after)))

-- ---- the tokens of a flat object, where the inner one has those after its bracket

abbrev pub value_tokens : List Token → Scalar → List Token
value_tokens inner (Text text) = string text.now ∷ []
value_tokens inner (Number n) = number (decimal n) ∷ []
value_tokens inner (Truth truth) = boolean truth ∷ []
value_tokens inner Null = null ∷ []
value_tokens inner Inner = begin_object ∷ inner

abbrev pub members_tokens : List Token → List Member → List Token
members_tokens inner [] = end_object ∷ []
members_tokens inner (m ∷ ms) = key (key_text m.key) ∷ (value_tokens inner m.value ++ members_tokens inner ms)

-- a text is that of an object whose bracket has these tokens behind it, which say these members
pub record SaysObject (text : List ℕ) (ts : List Token) (is : Members) (level : ℕ) : Type 0 where
  pub printed : (us : List Token) → print_from false (begin_object ∷ (ts ++ us)) ≡ text ++ print_from true us
  pub printable : ArePrintable ts
  pub read : (depth : ℕ) → level ≤ depth → (r : List Token) → converted of_json (json.value depth (begin_object ∷ (ts ++ r))) ≡ Some (object is, r)

printable_both : (ts us : List Token) → ArePrintable ts → ArePrintable us → ArePrintable (ts ++ us)
unfolding ArePrintable
printable_both [] us h k = k
printable_both (t ∷ ts) us h k = (h.0, printable_both ts us h.1 k)

pub empty_object : SaysObject (123 ∷ 125 ∷ []) (end_object ∷ []) no_members 1
unfolding print_from ArePrintable
empty_object = record {
  printed = λ us. refl;
  printable = (tt, tt);
  read = λ depth deep r. opened (end_object ∷ r) r no_members depth (omega arith) (members_over (depth - 1) no_members _ (end_object ∷ r) r (omega arith) refl);
}

module _ (text : List ℕ) (ts : List Token) (is : Members) (level : ℕ) (inner : SaysObject text ts is level) where
  value_printed : (s : Scalar) (us : List Token) → print_from false (value_tokens ts s ++ us) ≡ value_text text s ++ print_from true us
  unfolding print_from
  value_printed (Text t) us = refl
  value_printed (Number n) us = refl
  value_printed (Truth b) us = refl
  value_printed Null us = refl
  value_printed Inner us = inner.printed us

  value_printable : (s : Scalar) → IsInRange s → ArePrintable (value_tokens ts s)
  unfolding ArePrintable
  value_printable (Text t) fits = (tt, tt)
  value_printable (Number n) fits = (IsNumber-decimal n fits, tt)
  value_printable (Truth b) fits = (tt, tt)
  value_printable Null fits = (tt, tt)
  value_printable Inner fits = (tt, inner.printable)

  value_said : (s : Scalar) → IsInRange s → (depth : ℕ) → level ≤ depth → (r : List Token) → converted of_json (json.value depth (value_tokens ts s ++ r)) ≡ Some (scalar_data is s, r)
  value_said (Text t) fits depth deep r = scalar_read is depth (Text t) r fits refl
  value_said (Number n) fits depth deep r = scalar_read is depth (Number n) r fits refl
  value_said (Truth b) fits depth deep r = scalar_read is depth (Truth b) r fits refl
  value_said Null fits depth deep r = scalar_read is depth Null r fits refl
  value_said Inner fits depth deep r = inner.read depth deep r

  member_printed : (m : Member) (us : List Token) → print_from false (key (key_text m.key) ∷ (value_tokens ts m.value ++ us)) ≡ member_text text m ++ print_from true us
  unfolding print_from
  member_printed m us =
      append_assoc (quoted (key_text m.key)) (58 ∷ []) _
      ∙ ap (λ t. quoted (key_text m.key) ++ 58 ∷ t) (value_printed m.value us)
      ∙ sym (append_assoc (quoted (key_text m.key)) (58 ∷ value_text text m.value) (print_from true us))

  members_printed : (ms : List Member) (us : List Token) → print_from true (members_tokens ts ms ++ us) ≡ members_text text 44 ms ++ (125 ∷ print_from true us)
  unfolding print_from
  members_printed [] us = refl
  members_printed (m ∷ ms) us =
      ap (λ l. print_from true (key (key_text m.key) ∷ l)) (append_assoc (value_tokens ts m.value) (members_tokens ts ms) us)
      ∙ ap (λ t. 44 ∷ t) (member_printed m (members_tokens ts ms ++ us) ∙ ap (λ t. member_text text m ++ t) (members_printed ms us)
      ∙ sym (append_assoc (member_text text m) (members_text text 44 ms) (125 ∷ print_from true us)))

  members_printable : (ms : List Member) → AreInRange ms → ArePrintable (members_tokens ts ms)
  unfolding ArePrintable
  members_printable [] fits = (tt, tt)
  members_printable (m ∷ ms) fits = (tt, printable_both (value_tokens ts m.value) (members_tokens ts ms) (value_printable m.value fits.0) (members_printable ms fits.1))

  members_said : (ms : List Member) → AreInRange ms → (depth : ℕ) → level ≤ depth → (found : Members) (n : ℕ) (r : List Token) → length (members_tokens ts ms ++ r) ≤ n
      → rest_of found depth n (members_tokens ts ms ++ r) ≡ Some (puts is ms found, r)
  members_said [] fits depth deep found n r enough = members_over depth found n (end_object ∷ r) r enough refl
  members_said (m ∷ ms) fits depth deep found n r enough =
      let rest = members_tokens ts ms ++ r in
      let apart = append_assoc (value_tokens ts m.value) (members_tokens ts ms) r in
      let long : length ((value_tokens ts m.value ++ members_tokens ts ms) ++ r) ≡ length (value_tokens ts m.value) + length rest = ap length apart ∙ length-append (value_tokens ts m.value) rest in
      ap (λ l. rest_of found depth n (key (key_text m.key) ∷ l)) apart
      ∙ member_read depth found n (key_text m.key) (key (key_text m.key) ∷ (value_tokens ts m.value ++ rest)) (value_tokens ts m.value ++ rest) rest (scalar_data is m.value) (omega arith) refl
      (value_said m.value fits.0 depth deep rest)
      ∙ members_said ms fits.1 depth deep (put (key_text m.key) (scalar_data is m.value) found) (n - 1) r (omega arith)

  object_read : (ms : List Member) → AreInRange ms → (depth : ℕ) → suc level ≤ depth → (r : List Token)
      → converted of_json (json.value depth (begin_object ∷ (members_tokens ts ms ++ r))) ≡ Some (object (puts is ms no_members), r)
  object_read ms fits depth deep r =
      opened (members_tokens ts ms ++ r) r (puts is ms no_members) depth (omega arith)
      (members_said ms fits (depth - 1) (omega arith) no_members (length (members_tokens ts ms ++ r)) r (omega arith))

  object_printed : (ms : List Member) → 0 < length ms → (us : List Token)
      → print_from false (begin_object ∷ (members_tokens ts ms ++ us)) ≡ (members_text text 123 ms ++ 125 ∷ []) ++ print_from true us
  unfolding print_from
  object_printed [] some us = absurd (omega arith)
  object_printed (m ∷ ms) some us =
      ap (λ l. print_from false (begin_object ∷ key (key_text m.key) ∷ l)) (append_assoc (value_tokens ts m.value) (members_tokens ts ms) us)
      ∙ ap (λ t. 123 ∷ t) (member_printed m (members_tokens ts ms ++ us) ∙ ap (λ t. member_text text m ++ t) (members_printed ms us)
      ∙ sym (append_assoc (member_text text m) (members_text text 44 ms) (125 ∷ print_from true us)))
      ∙ sym (append_assoc (members_text text 123 (m ∷ ms)) (125 ∷ []) (print_from true us))

  pub outer_object : (ms : List Member) → 0 < length ms → AreInRange ms → SaysObject (members_text text 123 ms ++ 125 ∷ []) (members_tokens ts ms) (puts is ms no_members) (suc level)
  outer_object ms some fits = record {
    printed = object_printed ms some;
    printable = members_printable ms fits;
    read = object_read ms fits;
  }

-- the data of a text with the same tokens
object_said : (text other : List ℕ) (ts : List Token) (is : Members) (level : ℕ) → SaysObject other ts is level → Same text other → level ≤ max_depth → IsUtf8 text → json_of text ≡ Some (object is)
unfolding print_from ArePrintable
object_said text other ts is level says same deep utf8 =
    let printed : print (begin_object ∷ ts) ≡ other = ap (λ l. print (begin_object ∷ l)) (sym (append-nil ts)) ∙ says.printed [] ∙ append-nil other in
    let read : converted of_json (json.value max_depth (begin_object ∷ ts)) ≡ Some (object is, []) = ap (λ l. converted of_json (json.value max_depth (begin_object ∷ l))) (sym (append-nil ts)) ∙ says.read max_depth deep [] in
    text_read text (begin_object ∷ ts) (object is) utf8 (sym (tokens-print (begin_object ∷ ts) (tt, says.printable)) ∙ ap tokens printed ∙ ap (punctuate fresh) (sym same)) read

-- ---- the whole text

abbrev two_braces : List ℕ
two_braces = 123 ∷ 125 ∷ []

braces_whole : IsWhole two_braces
braces_whole a b x y same = behind_brace _ _ (behind_end _ _ same)

-- a whole object stands there
object_whole : (inner : List ℕ) → IsWhole inner → (ms : List Member) → AreInRange ms → IsWhole (members_text inner 123 ms ++ 125 ∷ [])
object_whole inner whole ms fits a b x y same =
    let text = members_text inner 123 ms in
    ap (lex between) (append_assoc text (125 ∷ []) a)
    ∙ members_whole inner whole ms fits (125 ∷ a) (125 ∷ b) refl refl (behind_end _ _ same)
    ∙ ap (lex between) (sym (append_assoc text (125 ∷ []) b))

-- the bracket that closes an object, behind its members
pub take_end : (text : List ℕ) (read now : List Member) (behind rest : List ℕ)
    → ((inner : List ℕ) → IsWhole inner → AreInRange read → Same (members_text inner 123 read ++ text) (members_text inner 123 now ++ behind))
    → (AreInRange read → AreInRange now) → Same behind (125 ∷ rest) → ends_word behind ≡ true
    → (inner : List ℕ) → IsWhole inner → AreInRange read → Same (members_text inner 123 read ++ text) (members_text inner 123 now ++ (125 ∷ rest))
take_end text read now behind rest took fits closed ends = λ inner whole all.
    took inner whole all ∙ members_whole inner whole now (fits all) behind (125 ∷ rest) ends refl closed

-- nothing but white space behind the last bracket
last_same : (inner : List ℕ) → IsWhole inner → (ms : List Member) → AreInRange ms → (rest : List ℕ) → Same rest [] → Same (members_text inner 123 ms ++ (125 ∷ rest)) (members_text inner 123 ms ++ 125 ∷ [])
last_same inner whole ms fits rest none = members_whole inner whole ms fits (125 ∷ rest) (125 ∷ []) refl refl (behind_end rest [] none)

text_said : (text inner_text : List ℕ) (ts : List Token) (is : Members) (level : ℕ) (ms : List Member) → SaysObject inner_text ts is level → suc level ≤ max_depth → IsUtf8 text
    → Same text (members_text inner_text 123 ms ++ 125 ∷ []) → 0 < length ms → AreInRange ms → json_of text ≡ Some (object (puts is ms no_members))
text_said text inner_text ts is level ms inner deep utf8 same some fits =
    object_said text (members_text inner_text 123 ms ++ 125 ∷ []) (members_tokens ts ms) (puts is ms no_members) (suc level) (outer_object inner_text ts is level inner ms some fits) same deep utf8

pub flat_said : (text rest : List ℕ) (members : List Member) → IsUtf8 text → Takes text [] pauses.End rest members → Same rest []
    → json_of text ≡ Some (object (puts (inner_members []) members no_members))
flat_said text rest members utf8 takes none =
    text_said text two_braces (end_object ∷ []) no_members 1 members empty_object (omega arith) utf8
    (takes.0 two_braces braces_whole tt ∙ last_same two_braces braces_whole members (takes.1.0 tt) rest none) takes.1.1 (takes.1.0 tt)

pub nested_said : (text opened closed rest : List ℕ) (ms inner members : List Member) → IsUtf8 text → Takes text [] pauses.Inner opened ms → Takes opened [] pauses.End closed inner
    → Takes closed ms pauses.End rest members → Same rest [] → json_of text ≡ Some (object (puts (inner_members inner) members no_members))
nested_said text opened closed rest ms inner members utf8 prefix within back none =
    let inner_text = members_text two_braces 123 inner ++ 125 ∷ [] in
    let whole = object_whole two_braces braces_whole inner (within.1.0 tt) in
    let is = within.0 two_braces braces_whole tt ∙ ap (lex between) (sym (append_assoc (members_text two_braces 123 inner) (125 ∷ []) closed)) in
    text_said text inner_text (members_tokens (end_object ∷ []) inner) (inner_members inner) 2 members
    (outer_object two_braces (end_object ∷ []) no_members 1 empty_object inner within.1.1 (within.1.0 tt)) (omega arith) utf8
    (prefix.0 inner_text closed whole tt is ∙ back.0 inner_text whole (prefix.1.0 tt) ∙ last_same inner_text whole members (back.1.0 (prefix.1.0 tt)) rest none) back.1.1 (back.1.0 (prefix.1.0 tt))

pub on_some : {A P Q : Type 0} (o : Option A) → (P → Q) → OnSome o P → OnSome o Q
on_some (Some x) f p = f p
on_some None f p = p
