-- Reading a class.
use Rattle.std.proofs.Common.{◌≡◌, ◌≢◌, ℕ, Bool, true, false, not, ◌&&◌, ◌||◌, nat_le, List, [], ◌∷◌, Option, None, refl, sym, ap, ◌∙◌, ne_eqb, true≢false, if◌then◌else◌}
use Rattle.std.specs.List.{list_any}
use Rattle.byte_text.specs.Names.{Bytes}
use Rattle.byte_text.specs.Globs.{Token, Item, Sign, plain, literal, unpaired, Place, outside, opened, behind_item, behind_char, class_end, turned, tokens_from, in_item}
use Rattle.glob_match.specs.Tokens.{left, Begins}

-- ---- a character that may begin a range, where it begins none

-- the first sign is no `-`
abbrev pub NoDash : List Sign → Type 0
NoDash [] = Unit {0}
NoDash (plain c ∷ ss) = c ≢ 45
NoDash (literal c ∷ ss) = Unit {0}
NoDash (unpaired ∷ ss) = Unit {0}

pub no_dash : (ss : List Sign) (others : Bool) (items : List Item) (low : ℕ) → NoDash ss → tokens_from ss (behind_char others items low) ≡ tokens_from ss (behind_item others ((low, low) ∷ items))
no_dash [] others items low n = refl
no_dash (plain c ∷ ss) others items low n = rw (ne_eqb c 45 n) refl
no_dash (literal c ∷ ss) others items low n = refl
no_dash (unpaired ∷ ss) others items low n = refl

-- a `-` that no character of the class follows
pub dash_alone : (ss : List Sign) (others : Bool) (items : List Item) (low : ℕ) → (ss ≡ []) → tokens_from (plain 45 ∷ ss) (behind_char others items low) ≡ tokens_from (plain 45 ∷ ss) (behind_item others ((low, low) ∷ items))
dash_alone ss others items low e = rw e refl

pub dash_unpaired : (ss rest : List Sign) (others : Bool) (items : List Item) (low : ℕ) → (ss ≡ unpaired ∷ rest) → tokens_from (plain 45 ∷ ss) (behind_char others items low) ≡ tokens_from (plain 45 ∷ ss) (behind_item others ((low, low) ∷ items))
dash_unpaired ss rest others items low e = rw e refl

pub dash_closed : (ss rest : List Sign) (others : Bool) (items : List Item) (low : ℕ) → (ss ≡ plain 93 ∷ rest) → tokens_from (plain 45 ∷ ss) (behind_char others items low) ≡ tokens_from (plain 45 ∷ ss) (behind_item others ((low, low) ∷ items))
dash_closed ss rest others items low e = rw e refl

-- a range
pub to_plain : (ss rest : List Sign) (others : Bool) (items : List Item) (low high : ℕ) → high ≢ 93 → (ss ≡ plain high ∷ rest) → tokens_from (plain 45 ∷ ss) (behind_char others items low) ≡ tokens_from rest (behind_item others ((low, high) ∷ items))
to_plain ss rest others items low high n e = rw (e, ne_eqb high 93 n) refl

pub to_literal : (ss rest : List Sign) (others : Bool) (items : List Item) (low high : ℕ) → (ss ≡ literal high ∷ rest) → tokens_from (plain 45 ∷ ss) (behind_char others items low) ≡ tokens_from rest (behind_item others ((low, high) ∷ items))
to_literal ss rest others items low high e = rw e refl

-- ---- the items of a class

abbrev has_item : List Item → Bool
has_item [] = false
has_item (i ∷ items) = true

-- the pattern from here, read in a class with some items, is what it was from the class's beginning
pub record InClass (whole : Option (List Token)) (text : Bytes) (others some hit : Bool) (c : ℕ) : Type 0 where
  pub items : List Item
  pub same : left text (behind_item others items) ≡ whole
  pub are_some : some ≡ has_item items
  pub hits : hit ≡ list_any (in_item c) items

pub starts : (text : Bytes) (others : Bool) (c : ℕ) → InClass (left text (behind_item others [])) text others false false c
starts text others c = record { items = []; same = refl; are_some = refl; hits = refl }

closed_some : (others : Bool) (items : List Item) (whole : Option (List Token)) (rest : Bytes) (hit : Bool) (c : ℕ) → turned (class_end others items) (left rest) ≡ whole → true ≡ has_item items → hit ≡ list_any (in_item c) items
    → Begins whole (left rest outside) c (if others then not hit else hit)
closed_some others [] whole rest hit c e some h = absurd (true≢false some)
closed_some others (i ∷ items) whole rest hit c e some h = record { others = others; items = i ∷ items; same = sym e; hits = ap (λ (b : Bool). if others then not b else b) h }

closed_none : (others : Bool) (items : List Item) (next : Place → Option (List Token)) → false ≡ has_item items → turned (class_end others items) next ≡ None
closed_none others [] next e = refl
closed_none others (i ∷ items) next e = absurd (true≢false (sym e))

-- the reading of a text in a class, whatever its items so far
abbrev pub EndsAt : Bytes → Bytes → Type 0
EndsAt text rest = (o : Bool) (items : List Item) → left text (behind_item o items) ≡ turned (class_end o items) (left rest)

pub ends : (whole : Option (List Token)) (text rest : Bytes) (others hit : Bool) (c : ℕ) → InClass whole text others true hit c → EndsAt text rest → Begins whole (left rest outside) c (if others then not hit else hit)
ends whole text rest others hit c h next = closed_some others h.items whole rest hit c (sym (next others h.items) ∙ h.same) h.are_some h.hits

pub ends_early : (whole : Option (List Token)) (text rest : Bytes) (others hit : Bool) (c : ℕ) → InClass whole text others false hit c → EndsAt text rest → whole ≡ None
ends_early whole text rest others hit c h next = sym h.same ∙ next others h.items ∙ closed_none others h.items (left rest) h.are_some

pub ends_open : (whole : Option (List Token)) (text : Bytes) (others some hit : Bool) (c : ℕ) → InClass whole text others some hit c → ((o : Bool) (items : List Item) → left text (behind_item o items) ≡ None) → whole ≡ None
ends_open whole text others some hit c h next = sym h.same ∙ next others h.items

pub goes_on : (whole : Option (List Token)) (text behind : Bytes) (others some hit hit' : Bool) (low high c : ℕ) → InClass whole text others some hit c
    → ((o : Bool) (items : List Item) → left text (behind_item o items) ≡ left behind (behind_item o ((low, high) ∷ items)))
    → hit' ≡ ((nat_le low c && nat_le c high) || hit) → InClass whole behind others true hit' c
goes_on whole text behind others some hit hit' low high c h next e =
    record { items = (low, high) ∷ h.items; same = sym (next others h.items) ∙ h.same; are_some = refl; hits = e ∙ ap (λ (b : Bool). (nat_le low c && nat_le c high) || b) h.hits }

-- ---- the first sign of a class

-- the first sign is no `^`
abbrev pub NoCaret : List Sign → Type 0
NoCaret [] = Unit {0}
NoCaret (plain c ∷ ss) = c ≢ 94
NoCaret (literal c ∷ ss) = Unit {0}
NoCaret (unpaired ∷ ss) = Unit {0}

pub no_caret : (ss : List Sign) → NoCaret ss → tokens_from ss opened ≡ tokens_from ss (behind_item false [])
no_caret [] n = refl
no_caret (plain c ∷ ss) n = rw (ne_eqb c 94 n) refl
no_caret (literal c ∷ ss) n = refl
no_caret (unpaired ∷ ss) n = refl

pub begins_at : (all same rest : Option (List Token)) (c : ℕ) (hit : Bool) → all ≡ same → Begins same rest c hit → Begins all rest c hit
begins_at all same rest c hit e b = record { others = b.others; items = b.items; same = e ∙ b.same; hits = b.hits }
