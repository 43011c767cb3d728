-- What may be live, and what is.
use Rattle.std.proofs.Common.{◌≡◌, ◌≤◌, ◌<◌, ℕ, ◌+◌, Bool, true, false, refl, sym, ap, ◌∙◌, List, ◌∷◌, length, arith}
use Rattle.std.specs.Prelude.{Option, Some, None, ◌&&◌, nat_le, is_some, codes, if◌then◌else◌}
use Rattle.std.proofs.lemmas.Bool.Decides.{nat_tests}
use Rattle.byte_text.specs.Names.{Bytes}
use Rattle.byte_text.specs.Requests.{FitsRequest, total, max_words, max_request}
use Rattle.world_model.specs.Commands.{command_spelled}
use Rattle.world_model.specs.declared.commands.Command.{Command}
use Rattle.live_fence.specs.LiveFences.{live_name, begins_search, fence_request, is_within, is_live, pair_of, live_pair}
use Rattle.live_fence.specs.FenceWord.{has_fence, may_be_live}
use Rattle.live_fence.proofs.FenceForms.{setting_has_fence}

none_where : (session : ℕ) (words : List Bytes) → is_live session words ≡ false → live_pair session words ≡ None
none_where session words e = ap (λ (b : Bool). if b then Some (pair_of session words) else None) e

some_where : (session : ℕ) (words : List Bytes) → is_live session words ≡ true → live_pair session words ≡ Some (pair_of session words)
some_where session words e = ap (λ (b : Bool). if b then Some (pair_of session words) else None) e

-- without FENCE no setting is spelled
unspelled : (rest : List Bytes) → has_fence rest ≡ false → is_some (command_spelled (codes "SETCHAN" ∷ rest)) ≡ false
unspelled rest e = by (command_spelled (codes "SETCHAN" ∷ rest)) refl
  where
    by : (o : Option Command) → command_spelled (codes "SETCHAN" ∷ rest) ≡ o → is_some o ≡ false
    by None f = refl
    by (Some c) f = absurd (cc (sym e ∙ setting_has_fence rest c f))

last_false : (a b c : Bool) → c ≡ false → (a && b && c) ≡ false
last_false true true c e = e
last_false true false c e = refl
last_false false b c e = refl

middle_false : (a b c : Bool) → b ≡ false → (a && b && c) ≡ false
middle_false true b c e = ap (λ (x : Bool). x && c) e
middle_false false b c e = refl

too_many : (session : ℕ) (words : List Bytes) → nat_le (length words + 2) max_words ≡ false → is_within (fence_request session words) ≡ false
too_many session words e =
    let long : nat_le (length (fence_request session words)) max_words ≡ false = grind (arith, nat_tests) in
    ap (λ (b : Bool). b && nat_le (total (fence_request session words)) max_request) long

pub cannot_be : (session : ℕ) (words : List Bytes) → may_be_live words ≡ false → live_pair session words ≡ None
cannot_be session words e = none_where session words (by (nat_le (length words + 2) max_words) (begins_search words) (has_fence words) refl refl refl e)
  where
    by : (few begun fenced : Bool) → nat_le (length words + 2) max_words ≡ few → begins_search words ≡ begun → has_fence words ≡ fenced
        → (few && begun && fenced) ≡ false → is_live session words ≡ false
    by false begun fenced f b h e =
        middle_false (begins_search words) (is_within (fence_request session words)) (is_some (command_spelled (fence_request session words)))
        (too_many session words f)
    by true false fenced f b h e =
        ap (λ (x : Bool). x && is_within (fence_request session words) && is_some (command_spelled (fence_request session words))) b
    by true true false f b h e =
        last_false (begins_search words) (is_within (fence_request session words)) (is_some (command_spelled (fence_request session words)))
        (unspelled (live_name session ∷ words) h)
    by true true true f b h e = absurd (cc e)

begun : (words : List Bytes) → may_be_live words ≡ true → begins_search words ≡ true
begun words e = by (nat_le (length words + 2) max_words) (begins_search words) (has_fence words) e
  where
    by : (few begun fenced : Bool) → (few && begun && fenced) ≡ true → begun ≡ true
    by true true fenced e = refl
    by true false fenced e = absurd (cc e)
    by false begun fenced e = absurd (cc e)

pub few_words : (words : List Bytes) → may_be_live words ≡ true → length words ≤ 4094
few_words words e = by (nat_le (length words + 2) max_words) (begins_search words) (has_fence words) refl e
  where
    by : (few begun fenced : Bool) → nat_le (length words + 2) max_words ≡ few → (few && begun && fenced) ≡ true → length words ≤ 4094
    by true begun fenced f e = grind (arith, nat_tests)
    by false begun fenced f e = absurd (cc e)

-- a setting whose words may be live is within the limits of a request as far as its bytes are

front_total : (channel : Bytes) (words : List Bytes) → total (codes "SETCHAN" ∷ channel ∷ words) ≡ total words + length channel + 7
front_total channel words = omega arith

pub setting_fits : (channel : Bytes) (words : List Bytes) → FitsRequest words → length words ≤ 4094 → length channel ≤ 255
    → total (codes "SETCHAN" ∷ channel ∷ words) ≤ max_request
    → FitsRequest (codes "SETCHAN" ∷ channel ∷ words)
setting_fits channel words fits few short small =
    record { few = omega (arith, few); short = (omega arith, (omega (arith, short), fits.short)); small = small }

module _ (session : ℕ) (words : List Bytes) (may : may_be_live words ≡ true) where
  abbrev setting : List Bytes
  setting = fence_request session words

  -- the bytes decide whether the setting is within the limits
  within_is : is_within setting ≡ nat_le (total setting) max_request
  within_is =
      let few = few_words words may in
      let enough : nat_le (length setting) max_words ≡ true = grind (arith, nat_tests) in
      ap (λ (b : Bool). b && nat_le (total setting) max_request) enough

  pub too_long : max_request < total setting → live_pair session words ≡ None
  too_long more =
      let long : nat_le (total setting) max_request ≡ false = grind (arith, nat_tests) in
      none_where session words (middle_false (begins_search words) (is_within setting) (is_some (command_spelled setting)) (within_is ∙ long))

  pub no_spelling : is_some (command_spelled setting) ≡ false → live_pair session words ≡ None
  no_spelling e = none_where session words (last_false (begins_search words) (is_within setting) (is_some (command_spelled setting)) e)

  pub spelling : total setting ≤ max_request → is_some (command_spelled setting) ≡ true → live_pair session words ≡ Some (pair_of session words)
  spelling small e =
      let short : nat_le (total setting) max_request ≡ true = grind (arith, nat_tests) in
      some_where session words (all (begins_search words) (is_within setting) (is_some (command_spelled setting)) (begun words may)
      (within_is ∙ short) e)
    where
      all : (a b c : Bool) → a ≡ true → b ≡ true → c ≡ true → (a && b && c) ≡ true
      all true true true d e f = refl
      all true true false d e f = absurd (cc f)
      all true false c d e f = absurd (cc e)
      all false b c d e f = absurd (cc d)
