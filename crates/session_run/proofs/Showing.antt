-- What is shown of frames one by one, and what requests set one by one.
use Rattle.std.proofs.Common.{◌≡◌, ◌<◌, ◌+◌, ℕ, zero, suc, Bool, true, false, refl, sym, ap, ◌∙◌, List, [], ◌∷◌, ◌++◌, take, append_assoc, arith}
use Rattle.std.specs.Prelude.{Some, ◌||◌}
use Rattle.std.specs.List.{slice_get, list_any}
use Rattle.std.proofs.lemmas.Bool.{or_from, or_parts}
use Rattle.std.proofs.lemmas.List.{append-nil}
use Rattle.byte_text.specs.Names.{Bytes}
use Rattle.world_model.specs.declared.events.Asked.{Asked}
use Rattle.live_fence.specs.Parts.{shown}
use Rattle.session_run.specs.Live.{sets_channel, shown_bytes}

same_frame : (a b : Bytes) → Some a ≡ Some b → a ≡ b
same_frame a b e = cc e

same_ask : (a b : Asked) → Some a ≡ Some b → a ≡ b
same_ask a b e = cc e

one_more : (i : ℕ) → suc (i + 1) ≡ suc i + 1
one_more i = omega arith

-- one frame more
pub shown_next : (n : ℕ) (frames : List Bytes) (i : ℕ) (f : Bytes) → slice_get frames i ≡ Some f
    → shown_bytes n (take (i + 1) frames) ≡ shown_bytes n (take i frames) ++ shown n f
shown_next n [] i f at = absurd (cc)
shown_next n (g ∷ frames) zero f at = append-nil (shown n g) ∙ ap (shown n) (same_frame g f at)
shown_next n (g ∷ frames) (suc i) f at =
    sym (ap (λ (k : ℕ). shown_bytes n (take k (g ∷ frames))) (one_more i)) ∙ ap (λ (l : Bytes). shown n g ++ l) (shown_next n frames i f at)
    ∙ sym (append_assoc (shown n g) (shown_bytes n (take i frames)) (shown n f))

first_true : (a b : Bool) → a ≡ true → (a || b) ≡ true
first_true true b h = refl
first_true false b h = absurd (cc)

second_true : (a b : Bool) → b ≡ true → (a || b) ≡ true
second_true true b h = refl
second_true false b h = h

-- one of the requests sets the channel
pub set_at : (n : ℕ) (asks : List Asked) (i count : ℕ) (a : Asked) → i < count → slice_get asks i ≡ Some a → sets_channel n a ≡ true
    → list_any (sets_channel n) (take count asks) ≡ true
set_at n [] i count a less at is = absurd (cc)
set_at n (b ∷ asks) i zero a less at is = absurd (omega (arith, less))
set_at n (b ∷ asks) zero (suc count) a less at is =
    first_true (sets_channel n b) (list_any (sets_channel n) (take count asks)) (ap (sets_channel n) (same_ask b a at) ∙ is)
set_at n (b ∷ asks) (suc i) (suc count) a less at is =
    second_true (sets_channel n b) (list_any (sets_channel n) (take count asks)) (set_at n asks i count a (omega (arith, less)) at is)

-- one request more, which does not
pub none_next : (n : ℕ) (asks : List Asked) (i : ℕ) (a : Asked) → slice_get asks i ≡ Some a → sets_channel n a ≡ false
    → list_any (sets_channel n) (take i asks) ≡ false → list_any (sets_channel n) (take (i + 1) asks) ≡ false
none_next n [] i a at is none = absurd (cc)
none_next n (b ∷ asks) zero a at is none = ap (λ (x : Bool). x || false) (ap (sets_channel n) (same_ask b a at) ∙ is)
none_next n (b ∷ asks) (suc i) a at is none =
    let parts = or_parts (sets_channel n b) (list_any (sets_channel n) (take i asks)) none in
    sym (ap (λ (k : ℕ). list_any (sets_channel n) (take k (b ∷ asks))) (one_more i))
    ∙ or_from (sets_channel n b) (list_any (sets_channel n) (take (i + 1) asks)) parts.0 (none_next n asks i a at is parts.1)
