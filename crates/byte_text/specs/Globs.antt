-- Patterns and what meets them. Patterns and names are read as lists of Unicode characters.
use Rattle.std.specs.Prelude.{ℕ, Bool, true, false, not, ◌&&◌, ◌==◌, nat_le, List, [], ◌∷◌, Option, Some, None, if◌then◌else◌, option_map, is_some}
use Rattle.std.specs.Prelude.{chars}
use Rattle.std.specs.List.{list_any}
use Rattle.byte_text.specs.Names.{Bytes}

-- a character of a pattern, by itself or behind a `\`; or a `\` with none behind it
pub data Sign : Type 0 where
  plain : (c : ℕ) → Sign
  literal : (c : ℕ) → Sign
  unpaired : Sign

abbrev pub signs : List ℕ → List Sign
signs [] = []
signs (c ∷ []) = (if c == 92 then unpaired else plain c) ∷ []
signs (c ∷ d ∷ cs) = if c == 92 then literal d ∷ signs cs else plain c ∷ signs (d ∷ cs)

-- the characters from low to high
abbrev pub Item : Type 0
Item = ℕ × ℕ

-- what one place of a pattern meets: any list, or one character, which is in one of the items, or in none of them
pub data Token : Type 0 where
  any_list : Token
  one_char : (others : Bool) → (items : List Item) → Token

-- any character is one that is in no item of none
abbrev pub any_char : Token
any_char = one_char true []

-- this character alone
abbrev pub this_char : ℕ → Token
this_char c = one_char false ((c, c) ∷ [])

-- where a reading stands: outside a class; behind its `[`; or in it, with the items so far (the last one first), behind an
-- item, behind a character that may begin a range, and behind that and a `-`
pub data Place : Type 0 where
  outside : Place
  opened : Place
  behind_item : (others : Bool) → (items : List Item) → Place
  behind_char : (others : Bool) → (items : List Item) → (low : ℕ) → Place
  behind_dash : (others : Bool) → (items : List Item) → (low : ℕ) → Place

-- what one sign makes of a place: another place, a token that ends outside, or nothing well formed
pub data Turn : Type 0 where
  goes : Place → Turn
  ends : Token → Turn
  fails : Turn

-- a class has an item
abbrev pub class_end : Bool → List Item → Turn
class_end others [] = fails
class_end others (i ∷ items) = ends (one_char others (i ∷ items))

-- a character by itself: `*`, `?` and `[` outside, `^` first in a class, a `-` behind a character and `]` in one have a meaning
abbrev pub plain_turn : Place → ℕ → Turn
plain_turn outside c = if c == 42 then ends any_list else if c == 63 then ends any_char else if c == 91 then goes opened else ends (this_char c)
plain_turn opened c = if c == 94 then goes (behind_item true []) else if c == 93 then fails else goes (behind_char false [] c)
plain_turn (behind_item others items) c = if c == 93 then class_end others items else goes (behind_char others items c)
plain_turn (behind_char others items low) c =
    if c == 93 then class_end others ((low, low) ∷ items) else
    if c == 45 then goes (behind_dash others items low) else
    goes (behind_char others ((low, low) ∷ items) c)
plain_turn (behind_dash others items low) c =
    if c == 93 then class_end others ((45, 45) ∷ (low, low) ∷ items) else
    goes (behind_item others ((low, c) ∷ items))

-- a character behind a `\` is that character, and may begin and end a range
abbrev pub literal_turn : Place → ℕ → Turn
literal_turn outside c = ends (this_char c)
literal_turn opened c = goes (behind_char false [] c)
literal_turn (behind_item others items) c = goes (behind_char others items c)
literal_turn (behind_char others items low) c = goes (behind_char others ((low, low) ∷ items) c)
literal_turn (behind_dash others items low) c = goes (behind_item others ((low, c) ∷ items))

abbrev pub turn : Place → Sign → Turn
turn place (plain c) = plain_turn place c
turn place (literal c) = literal_turn place c
turn place unpaired = fails

abbrev pub turned : Turn → (Place → Option (List Token)) → Option (List Token)
turned (goes place) next = next place
turned (ends token) next = option_map (λ tokens. token ∷ tokens) (next outside)
turned fails next = None

-- a pattern ends outside a class
abbrev pub at_end : Place → Option (List Token)
at_end outside = Some []
at_end opened = None
at_end (behind_item others items) = None
at_end (behind_char others items low) = None
at_end (behind_dash others items low) = None

-- the tokens of the signs from a place on, where they are well formed
abbrev pub tokens_from : List Sign → Place → Option (List Token)
tokens_from [] place = at_end place
tokens_from (s ∷ ss) place = turned (turn place s) (tokens_from ss)

-- the tokens of a pattern, where it is well formed
abbrev pub tokens : Bytes → Option (List Token)
tokens pattern = tokens_from (signs (chars pattern)) outside

unfoldable pub is_well_formed : Bytes → Bool
is_well_formed pattern = is_some (tokens pattern)

-- a pattern, where there is one, is well formed
abbrev pub is_sound_glob : Option Bytes → Bool
is_sound_glob None = true
is_sound_glob (Some pattern) = is_well_formed pattern

abbrev pub in_item : ℕ → Item → Bool
in_item c i = nat_le i.0 c && nat_le c i.1

-- one character meets a token's items
abbrev pub fits : Bool → List Item → ℕ → Bool
fits others items c = if others then not (list_any (in_item c) items) else list_any (in_item c) items

-- the list, and what is left of it behind each of its beginnings
abbrev pub endings : List ℕ → List (List ℕ)
endings [] = [] ∷ []
endings (c ∷ cs) = (c ∷ cs) ∷ endings cs

-- tokens meet a list of characters
abbrev pub tokens_meet : List Token → List ℕ → Bool
tokens_meet [] [] = true
tokens_meet [] (c ∷ cs) = false
tokens_meet (any_list ∷ ts) cs = list_any (tokens_meet ts) (endings cs)
tokens_meet (one_char others items ∷ ts) [] = false
tokens_meet (one_char others items ∷ ts) (c ∷ cs) = fits others items c && tokens_meet ts cs

abbrev pub option_meets : Option (List Token) → Bytes → Bool
option_meets None name = false
option_meets (Some ts) name = tokens_meet ts (chars name)

-- a pattern meets a name; one that is not well formed meets none
unfoldable pub glob_meets : Bytes → Bytes → Bool
glob_meets pattern name = option_meets (tokens pattern) name
