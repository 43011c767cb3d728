-- Who may not hear a message hears nothing of it, and who is marked stays so.
use Rattle.std.proofs.Common.{◌≡◌, Bool, true, false, true≢false, refl, sym, ap, subst, ◌∙◌, List, [], ◌∷◌, ◌++◌, map}
use Rattle.std.specs.Prelude.{◌||◌, ◌&&◌, not, filter, get_or, if◌then◌else◌}
use Rattle.std.specs.List.{list_any}
use Rattle.std.proofs.Math.Bool.{or-true}
use Rattle.std.proofs.lemmas.Slice.Eq.{bytes_eq-Decides}
use Rattle.byte_text.specs.Names.{Bytes, same}
use Rattle.byte_text.specs.Globs.{glob_meets}
use Rattle.fence_model.specs.Messages.{Message}
use Rattle.world_model.specs.Subscriptions.{Sub}
use Rattle.world_model.specs.Halls.{frames_for, holds_name, pattern_meets, pattern_frame, message_frame}
use Rattle.session_table.specs.Marks.{Marked, AreMarked, is_marked, may_hear, mark_of}

-- a subscription that does not hear a name
record IsDeaf (n : Bytes) (s : Sub) : Type 0 where
  to_name : holds_name n s ≡ false
  to_pattern : pattern_meets n s ≡ false

is_deaf : (m : Marked) (n : Bytes) (s : Sub) → is_marked m s ≡ true → may_hear m (mark_of n) ≡ false → IsDeaf n s
is_deaf m n s marked quiet = by s.pattern refl
  where
    other : (b : Bool) → same s.word n ≡ b → get_or m.names (mark_of s.word) false ≡ true → same s.word n ≡ false
    other true e at =
        let is : s.word ≡ n = (bytes_eq-Decides s.word n).0 e in
        let heard : get_or m.names (mark_of n) false ≡ true = subst (λ w. get_or m.names (mark_of w) false ≡ true) is at in
        absurd (true≢false (sym (ap (λ b. m.patterns || b) heard ∙ or-true m.patterns) ∙ quiet))
    other false e at = e

    by : (b : Bool) → s.pattern ≡ b → IsDeaf n s
    by true e =
        let any : m.patterns ≡ true = sym (ap (λ b. if b then m.patterns else get_or m.names (mark_of s.word) false) e) ∙ marked in
        absurd (true≢false (sym (ap (λ b. b || get_or m.names (mark_of n) false) any) ∙ quiet))
    by false e =
        let at : get_or m.names (mark_of s.word) false ≡ true =
        sym (ap (λ b. if b then m.patterns else get_or m.names (mark_of s.word) false) e) ∙ marked in
        record {
          to_name = ap (λ b. not b && same s.word n) e ∙ other (same s.word n) refl at;
          to_pattern = ap (λ b. if b then glob_meets s.word n else false) e;
        }

are_deaf : (m : Marked) (n : Bytes) (subs : List Sub) → AreMarked m subs → may_hear m (mark_of n) ≡ false
    → (list_any (holds_name n) subs ≡ false) × (filter (pattern_meets n) subs ≡ [])
are_deaf m n [] marked quiet = (refl, refl)
are_deaf m n (s ∷ subs) marked quiet =
    let one = is_deaf m n s marked.0 quiet in
    let rest = are_deaf m n subs marked.1 quiet in (
      ap (λ b. b || list_any (holds_name n) subs) one.to_name ∙ rest.0,
      ap (λ (b : Bool). if b then s ∷ filter (pattern_meets n) subs else filter (pattern_meets n) subs) one.to_pattern ∙ rest.1,
    )

pub hears_nothing : (m : Marked) (msg : Message) (subs : List Sub) → AreMarked m subs → may_hear m (mark_of msg.0) ≡ false → frames_for msg subs ≡ []
hears_nothing m msg subs marked quiet =
    let deaf = are_deaf m msg.0 subs marked quiet in
    ap (λ (b : Bool). (if b then message_frame msg ∷ [] else []) ++ map (λ s. pattern_frame s.word msg) (filter (pattern_meets msg.0) subs)) deaf.0
    ∙ ap (map (λ s. pattern_frame s.word msg)) deaf.1

-- more marks, and one more that is marked
pub marked_with : (m n : Marked) (subs : List Sub) (s : Sub) → AreMarked m subs → ((t : Sub) → is_marked m t ≡ true → is_marked n t ≡ true)
    → is_marked n s ≡ true → AreMarked n (subs ++ s ∷ [])
marked_with m n [] s marked kept one = (one, tt)
marked_with m n (t ∷ subs) s marked kept one = (kept t marked.0, marked_with m n subs s marked.1 kept one)
