-- Bytes of a text, each with the two before it, that show no character that a body may not have.
use Rattle.std.specs.Prelude.{◌≡◌, ◌≤◌, ℕ, true}
use Rattle.cq_base.specs.Texts.{is_body_character}
use Rattle.cq_base.specs.declared.text.TheConstants.{NONCHARACTER_FIRST, NONCHARACTER_SECOND, FFFE_LAST, FFFF_LAST}

-- The byte c, behind a and b, is none of the controls and no last byte of U+FFFE and U+FFFF.
abbrev pub IsPlain : ℕ → ℕ → ℕ → Type 0
IsPlain a b c = (is_body_character c ≡ true) × (a ≡ NONCHARACTER_FIRST → b ≡ NONCHARACTER_SECOND → FFFE_LAST ≤ c → c ≤ FFFF_LAST → ⊥)
