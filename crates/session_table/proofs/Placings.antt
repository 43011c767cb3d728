-- Frames that are placed one after another on a session, which may be cut on the way.
use Rattle.std.proofs.Common.{◌≡◌, ℕ, ◌+◌, ◌≤◌, ◌<◌, Bool, true, false, true≢false, List, ◌++◌, length, take, drop, refl, sym, ap, ◌∙◌, arith}
use Rattle.std.proofs.Math.Seq.{take-add}
use Rattle.std.proofs.lemmas.List.{length-drop, take-append-le}
use Rattle.byte_text.specs.Names.{Bytes}
use Rattle.world_model.specs.Halls.{Session, is_live, placed_each}
use Rattle.delivery_model.specs.Placing.{dead_takes_none, each_append}

-- one that is served now was served before
pub live_before : (s : Session) (frames : List Bytes) → is_live (placed_each s frames) ≡ true → is_live s ≡ true
live_before s frames lives = by (is_live s) refl
  where
    by : (b : Bool) → is_live s ≡ b → is_live s ≡ true
    by true e = e
    by false e = absurd (true≢false (sym lives ∙ ap is_live (dead_takes_none s frames e) ∙ e))

-- the first of what is left is placed behind the first ones
pub placed_more : (was s v : Session) (some all : List Bytes) (i : ℕ) → s ≡ placed_each was (take i all)
    → (is_live s ≡ true → take 1 some ≡ take 1 (drop i all)) → v ≡ placed_each s (take 1 some) → v ≡ placed_each was (take (i + 1) all)
placed_more was s v some all i before next step = by (is_live s) refl
  where
    both : placed_each s (take 1 (drop i all)) ≡ placed_each was (take (i + 1) all)
    both =
        ap (λ (t : Session). placed_each t (take 1 (drop i all))) before
        ∙ sym (each_append was (take i all) (take 1 (drop i all)))
        ∙ ap (placed_each was) (sym (take-add i 1 all))

    by : (b : Bool) → is_live s ≡ b → v ≡ placed_each was (take (i + 1) all)
    by true e = step ∙ ap (placed_each s) (next e) ∙ both
    by false e = step ∙ dead_takes_none s (take 1 some) e ∙ sym (dead_takes_none s (take 1 (drop i all)) e) ∙ both

pub some_left : (i : ℕ) (all : List Bytes) → i < length all → 1 ≤ length (drop i all)
some_left i all l = let long = length-drop i all in omega (arith, long, l)

pub first_of : (i : ℕ) (all more : List Bytes) → i < length all → take 1 (drop i all ++ more) ≡ take 1 (drop i all)
first_of i all more l = take-append-le 1 (drop i all) more (some_left i all l)

-- frames that a session has where it is served
pub placed_those : (s : Session) (own frames : List Bytes) → (is_live s ≡ true → own ≡ frames) → placed_each s own ≡ placed_each s frames
placed_those s own frames are = by (is_live s) refl
  where
    by : (b : Bool) → is_live s ≡ b → placed_each s own ≡ placed_each s frames
    by true e = ap (placed_each s) (are e)
    by false e = dead_takes_none s own e ∙ sym (dead_takes_none s frames e)

-- it holds whether a session is served or not
pub either_way : (P : Type 0) (s : Session) → (is_live s ≡ true → P) → (is_live s ≡ false → P) → P
either_way P s live dead = by (is_live s) refl
  where
    by : (b : Bool) → is_live s ≡ b → P
    by true e = live e
    by false e = dead e
