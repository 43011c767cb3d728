-- A word that is read moves from the words that are left to those that were read.
use Rattle.std.proofs.Common.{◌≡◌, ℕ, ◌≤◌, false, refl, subst, sym, arith, ◌+◌, ◌<◌, List, [], ◌∷◌, ◌++◌, length, take, drop, length-drop, ap, ◌∙◌}
use Rattle.std.specs.Prelude.{Some, slice_get}
use Rattle.std.proofs.lemmas.Option.{get_or_from_slice_get}
use Rattle.std.proofs.lemmas.List.{take_more, drop_all}
use Rattle.byte_text.specs.Names.{Bytes, is_word}
use Rattle.world_model.specs.Commands.{shown_of}
use Rattle.world_model.specs.declared.faults.WordFault.TheVariants as fault
use Rattle.cmd_words.specs.Progress.{Place, place_at, IsBehind, IsNot, IsFault, IsRefusal}
use Rattle.cmd_words.specs.LeftWords.{one_less}
use Rattle.cmd_words.specs.declared.faults.CommandFault.{CommandFault}

pub one_more : (words : List Bytes) (read : ℕ) (w : Bytes) → read < length words → slice_get words read ≡ Some w → take (read + 1) words ≡ take read words ++ w ∷ []
one_more words read w lt e = take_more words read w lt ∙ ap (λ v. take read words ++ v ∷ []) (get_or_from_slice_get words read w w e)

pub behind : (words : List Bytes) (read : ℕ) (w : Bytes) (p : Place) → place_at words read ≡ p → read < length words → slice_get words read ≡ Some w → IsBehind w p (place_at words (read + 1))
behind words read w p e lt g = subst (λ (q : Place). IsBehind w q (place_at words (read + 1))) e (record { left = one_less words read w lt g; read = one_more words read w lt g })

pub none_left : (words : List Bytes) (read : ℕ) (p : Place) → place_at words read ≡ p → length words ≤ read → p.left ≡ []
none_left words read p e h = subst (λ (q : Place). q.left ≡ []) e (drop_all read words h)

pub one_left : (words : List Bytes) (read : ℕ) (w : Bytes) (p : Place) → place_at words read ≡ p → read < length words → slice_get words read ≡ Some w → p.left ≡ w ∷ drop (read + 1) words
one_left words read w p e lt g = subst (λ (q : Place). q.left ≡ w ∷ drop (read + 1) words) e (one_less words read w lt g)

pub not_next : (called w : Bytes) (rest : List Bytes) (p : Place) → p.left ≡ w ∷ rest → is_word w called ≡ false → IsNot called p.left
not_next called w rest p l e = subst (IsNot called) (sym l) e

pub refused_next : (words : List Bytes) (p : Place) (w : Bytes) (rest : List Bytes) (why : CommandFault) → p.left ≡ w ∷ rest → IsFault (fault.Invalid (shown_of w)) why → IsRefusal words p.left why
refused_next words p w rest why l f = subst (λ (left : List Bytes). IsRefusal words left why) (sym l) f

pub nothing_next : (called : Bytes) (p : Place) → p.left ≡ [] → IsNot called p.left
nothing_next called p l = subst (IsNot called) (sym l) tt

some_of : (words : List Bytes) → 0 < length words → (w : Bytes) × (rest : List Bytes) × (words ≡ w ∷ rest)
some_of [] h = absurd (omega arith)
some_of (w ∷ rest) h = (w, rest, refl)

pub some_left : (words : List Bytes) (read : ℕ) (p : Place) → place_at words read ≡ p → read < length words → (w : Bytes) × (rest : List Bytes) × (p.left ≡ w ∷ rest)
some_left words read p e h =
    let n = length-drop read words in
    let long : 0 < length (drop read words) = omega (arith, n) in
    some_of p.left (subst (λ (q : Place). 0 < length q.left) e long)
