-- The frames of a block: what its text and its ends are, as frames are put, kept and read.
use Rattle.std.proofs.Common.{◌≡◌, ℕ, zero, suc, ◌+◌, ◌-◌, ◌<◌, ◌≤◌, List, [], ◌∷◌, ◌++◌, length, take, drop, refl, sym, ap, ◌∙◌, subst, append_assoc, append-nil, arith}
use Rattle.std.specs.Prelude.{Some, slice_get, get_or}
use Rattle.std.proofs.lemmas.List.{take_at, drop_at, length-append}
use Rattle.std.proofs.Math.Seq.{drop-append-add}
use Rattle.byte_text.specs.Names.{Bytes}
use Rattle.world_data.specs.Frames.{AreEnds, text_of, ends_of, frames_between}

-- the way back
pub between_ends : (from : ℕ) (frames : List Bytes) → frames_between from (ends_of from frames) (text_of frames) ≡ frames
between_ends from [] = refl
between_ends from (f ∷ frames) =
    let long : (from + length f) - from ≡ length f = omega arith in
    let first : take ((from + length f) - from) (f ++ text_of frames) ≡ f = take_at f (text_of frames) _ (sym long) in
    let rest : drop ((from + length f) - from) (f ++ text_of frames) ≡ text_of frames = drop_at f (text_of frames) _ (sym long) in
    ap (λ (g : Bytes). g ∷ frames_between (from + length f) (ends_of (from + length f) frames) (drop ((from + length f) - from) (f ++ text_of frames))) first
    ∙ ap (λ (t : Bytes). f ∷ frames_between (from + length f) (ends_of (from + length f) frames) t) rest
    ∙ ap (λ (gs : List Bytes). f ∷ gs) (between_ends (from + length f) frames)

pub are_ends : (frames : List Bytes) → AreEnds (ends_of 0 frames) (text_of frames)
are_ends frames = record {
  text_is = ap text_of (sym (between_ends 0 frames));
  ends_are = ap (ends_of 0) (sym (between_ends 0 frames));
}

-- whatever ends and text are those of frames stand for these
pub ends_for : (ends : List ℕ) (text : Bytes) (frames : List Bytes) → ends ≡ ends_of 0 frames → text ≡ text_of frames → AreEnds ends text
ends_for ends text frames e t =
    subst (λ (x : List ℕ). AreEnds x text) (sym e) (subst (λ (x : Bytes). AreEnds (ends_of 0 frames) x) (sym t) (are_ends frames))

pub frames_for : (ends : List ℕ) (text : Bytes) (frames : List Bytes) → ends ≡ ends_of 0 frames → text ≡ text_of frames → frames_between 0 ends text ≡ frames
frames_for ends text frames e t =
    ap (λ (x : List ℕ). frames_between 0 x text) e ∙ ap (frames_between 0 (ends_of 0 frames)) t ∙ between_ends 0 frames

pub as_many : (from : ℕ) (ends : List ℕ) (text : Bytes) → length (frames_between from ends text) ≡ length ends
as_many from [] text = refl
as_many from (e ∷ ends) text = ap suc (as_many e ends (drop (e - from) text))

pub text_append : (a b : List Bytes) → text_of (a ++ b) ≡ text_of a ++ text_of b
text_append [] b = refl
text_append (f ∷ a) b = ap (λ (t : Bytes). f ++ t) (text_append a b) ∙ sym (append_assoc f (text_of a) (text_of b))

pub text_last : (a : List Bytes) (f : Bytes) → text_of (a ++ f ∷ []) ≡ text_of a ++ f
text_last a f = text_append a (f ∷ []) ∙ ap (λ (t : Bytes). text_of a ++ t) (append-nil f)

pub ends_last : (from : ℕ) (a : List Bytes) (f : Bytes) → ends_of from (a ++ f ∷ []) ≡ ends_of from a ++ (from + length (text_of a ++ f)) ∷ []
ends_last from [] f = refl
ends_last from (g ∷ a) f =
    let long : (from + length g) + length (text_of a ++ f) ≡ from + length ((g ++ text_of a) ++ f) =
    let one = length-append g (text_of a) in
    let two = length-append (g ++ text_of a) f in
    let three = length-append (text_of a) f in
    omega (arith, one, two, three) in
    ap (λ (es : List ℕ). (from + length g) ∷ es) (ends_last (from + length g) a f)
    ∙ ap (λ (n : ℕ). (from + length g) ∷ (ends_of (from + length g) a ++ n ∷ [])) long

pub ends_take : (from : ℕ) (n : ℕ) (a : List Bytes) → take n (ends_of from a) ≡ ends_of from (take n a)
ends_take from zero a = refl
ends_take from (suc n) [] = refl
ends_take from (suc n) (f ∷ a) = ap (λ (es : List ℕ). (from + length f) ∷ es) (ends_take (from + length f) n a)

-- the text of the first frames stands first
pub text_take : (n : ℕ) (a : List Bytes) → take (length (text_of (take n a))) (text_of a) ≡ text_of (take n a)
text_take zero a = refl
text_take (suc n) [] = refl
text_take (suc n) (f ∷ a) =
    let t = text_of (take n a) in
    let whole = text_split n a in
    ap (λ (u : Bytes). take (length (f ++ t)) (f ++ u)) whole
    ∙ ap (take (length (f ++ t))) (sym (append_assoc f t (text_of (drop n a))))
    ∙ take_at (f ++ t) (text_of (drop n a)) (length (f ++ t)) refl
  where
    text_split : (n : ℕ) (a : List Bytes) → text_of a ≡ text_of (take n a) ++ text_of (drop n a)
    text_split zero a = refl
    text_split (suc n) [] = refl
    text_split (suc n) (f ∷ a) = ap (λ (u : Bytes). f ++ u) (text_split n a) ∙ sym (append_assoc f (text_of (take n a)) (text_of (drop n a)))

-- the last of the first ends
pub end_at : (from : ℕ) (a : List Bytes) (i : ℕ) (d : ℕ) → i < length a → get_or (ends_of from a) i d ≡ from + length (text_of (take (suc i) a))
end_at from [] i d l = absurd (omega (arith, l))
end_at from (f ∷ a) zero d l = ap (λ (t : Bytes). from + length t) (sym (append-nil f))
end_at from (f ∷ a) (suc i) d l =
    let inner = end_at (from + length f) a i d (omega (arith, l)) in
    let one = length-append f (text_of (take (suc i) a)) in
    inner ∙ omega (arith, one)

-- the first frames have no more bytes than all, and than the first ones and one more
pub less_text : (n : ℕ) (a : List Bytes) → length (text_of (take n a)) ≤ length (text_of a)
less_text zero a = omega arith
less_text (suc n) [] = omega arith
less_text (suc n) (f ∷ a) =
    let inner = less_text n a in
    let one = length-append f (text_of (take n a)) in
    let two = length-append f (text_of a) in
    omega (arith, inner, one, two)

pub more_text : (n : ℕ) (a : List Bytes) → length (text_of (take n a)) ≤ length (text_of (take (suc n) a))
more_text zero a = omega arith
more_text (suc n) [] = omega arith
more_text (suc n) (f ∷ a) =
    let inner = more_text n a in
    let one = length-append f (text_of (take n a)) in
    let two = length-append f (text_of (take (suc n) a)) in
    omega (arith, inner, one, two)

-- a frame stands between the ends
pub frame_at : (a : List Bytes) (i : ℕ) → i < length a
    → slice_get a i ≡ Some (take (length (text_of (take (suc i) a)) - length (text_of (take i a))) (drop (length (text_of (take i a))) (text_of a)))
frame_at [] i l = absurd (omega (arith, l))
frame_at (f ∷ a) zero l =
    let long : length (f ++ []) ≡ length f = ap length (append-nil f) in
    ap Some (sym (take_at f (text_of a) (length (f ++ []) - 0) (omega (arith, long))))
frame_at (f ∷ a) (suc i) l =
    let t = text_of (take i a) in
    let u = text_of (take (suc i) a) in
    let one = length-append f t in
    let two = length-append f u in
    let size : length u - length t ≡ length (f ++ u) - length (f ++ t) = omega (arith, one, two) in
    let rest : drop (length (f ++ t)) (f ++ text_of a) ≡ drop (length t) (text_of a) =
    ap (λ (n : ℕ). drop n (f ++ text_of a)) one ∙ drop-append-add f (text_of a) (length t) in
    frame_at a i (omega (arith, l))
    ∙ ap (λ (n : ℕ). Some (take n (drop (length t) (text_of a)))) size
    ∙ ap (λ (r : Bytes). Some (take (length (f ++ u) - length (f ++ t)) r)) (sym rest)

-- the same from the beginning on
pub ends_pushed : (a : List Bytes) (f : Bytes) → ends_of 0 (a ++ f ∷ []) ≡ ends_of 0 a ++ length (text_of a ++ f) ∷ []
ends_pushed a f =
    let none : 0 + length (text_of a ++ f) ≡ length (text_of a ++ f) = omega arith in
    ends_last 0 a f ∙ ap (λ (n : ℕ). ends_of 0 a ++ n ∷ []) none

pub end_is : (a : List Bytes) (i d : ℕ) → i < length a → get_or (ends_of 0 a) i d ≡ length (text_of (take (suc i) a))
end_is a i d l = let at = end_at 0 a i d l in omega (arith, at)
