-- The tokens of what is left of a pattern, and its first one.
use Rattle.std.specs.Prelude.{◌≡◌, ℕ, ◌<◌, length, ◌∷◌, [], Bool, List, Option, Some, None, chars, option_map}
use Rattle.byte_text.specs.Names.{Bytes}
use Rattle.byte_text.specs.Globs.{Token, any_list, one_char, Item, Place, outside, signs, tokens_from, fits}
use Rattle.glob_match.specs.declared.tokens.TokenAt.{TokenAt}
use Rattle.glob_match.specs.declared.tokens.TokenAt.TheVariants as at

-- the tokens of a text from a place on
abbrev pub left : Bytes → Place → Option (List Token)
left text place = tokens_from (signs (chars text)) place

-- a token before others
abbrev pub with_token : Token → Option (List Token) → Option (List Token)
with_token token others = option_map (λ ts. token ∷ ts) others

-- a token of one character stands before the others, and this is whether the character meets it
pub record Begins (all rest : Option (List Token)) (c : ℕ) (hit : Bool) : Type 0 where
  pub others : Bool
  pub items : List Item
  pub same : all ≡ with_token (one_char others items) rest
  pub hits : hit ≡ fits others items c

abbrev pub OnToken : TokenAt → Option (List Token) → ℕ → Type 0
OnToken at.End all c = all ≡ Some []
OnToken at.Broken all c = all ≡ None
OnToken (at.AnyList rest) all c = all ≡ with_token any_list (left rest.now outside)
OnToken (at.OneChar hit rest) all c = Begins all (left rest.now outside) c hit

-- the text behind it is shorter
abbrev pub IsShorter : TokenAt → ℕ → Type 0
IsShorter at.End len = Unit {0}
IsShorter at.Broken len = Unit {0}
IsShorter (at.AnyList rest) len = length rest.now < len
IsShorter (at.OneChar hit rest) len = length rest.now < len
