-- What stands behind GET's key and id.
use Rattle.std.proofs.Common.{◌≡◌, inl, inr, ◌<◌, Bool, true, false, refl, sym, ◌∙◌, ap, subst, List, [], ◌∷◌, ◌++◌, length, arith, length-append, append_assoc}
use Rattle.std.specs.Prelude.{codes, Some, None, Ok, Err}
use Rattle.std.specs.Str.{str_to_ascii_lowercase}
use Rattle.std.specs.List.{list_any}
use Rattle.std.proofs.lemmas.Slice.Eq.{bytes_eq-Decides}
use Rattle.std.proofs.lemmas.List.{append-nil}
use Rattle.byte_text.specs.Names.{Bytes, is_word}
use Rattle.world_model.specs.Grammar.{Form, a_word, Reading, spells, runs_out, done, live, goes_on, wants_coordinate, wants_geojson}
use Rattle.world_model.specs.Commands.{readings, reads, fault_at, shown_of, command_spelled}
use Rattle.world_model.specs.declared.commands.Command.{Command}
use Rattle.world_model.specs.declared.commands.Command.TheVariants as command
use Rattle.world_model.specs.declared.object_commands.ObjectCommand.TheVariants as of_object
use Rattle.world_data.specs.declared.queries.Shown.{Shown}
use Rattle.world_data.specs.declared.queries.Shown.TheVariants as shown
use Rattle.world_model.specs.declared.faults.WordFault.TheVariants as fault
use Rattle.cmd_words.specs.Progress.{Place, all_words, IsBehind, Moves, Follows, Took, Answers, IsEnd, ReadsShown, IsNot, IsShown, IsNotShown, get_output, get_options, answered}
use Rattle.cmd_words.proofs.Follows.{stopped, spelt, now, no_more, some_more, open_by, shut_by}
use Rattle.cmd_words.specs.declared.faults.CommandFault.{CommandFault}

pub lower_word : (w n : Bytes) → is_word w n ≡ true → str_to_ascii_lowercase w ≡ str_to_ascii_lowercase n
lower_word w n e = (bytes_eq-Decides (str_to_ascii_lowercase w) (str_to_ascii_lowercase n)).0 e

-- one more word of a form
pub step : (f g : Form Command) (old new : Place) (w : Bytes) → IsBehind w old new → ((more : List Bytes) → live (f (w ∷ more)) ≡ live (g more)) → Follows old f → Follows new g
step f g old new w b e h = record {
  begun = subst (λ (l : List Bytes). 0 < length l) (sym b.read) (let n = length-append old.read (w ∷ []) in omega (arith, n));
  goes = λ more.
      let same : new.read ++ more ≡ old.read ++ w ∷ more = ap (λ (l : List Bytes). l ++ more) b.read ∙ append_assoc old.read (w ∷ []) more in
      ap readings same ∙ h.goes (w ∷ more) ∙ e more;
}

-- a command that is complete, and could go on
pub ends : (p : Place) (f : Form Command) (c : Command) (rs : List (Reading Command)) → live (f []) ≡ spells c [] ∷ rs → p.left ≡ [] → Follows p f → reads (all_words p) ≡ Ok c
ends p f c rs e l h =
    let there : readings p.read ≡ spells c [] ∷ rs = now p f h ∙ e in
    let said : command_spelled p.read ≡ Some c = rw there refl in
    rw (no_more p l) (spelt p.read c said)

plain : (read : List Bytes) (w : Bytes) (c : Command) (rs : List (Reading Command)) → 0 < length read → list_any goes_on rs ≡ true → list_any wants_coordinate rs ≡ false → list_any wants_geojson rs ≡ false
    → fault_at read w (spells c [] ∷ rs) ≡ fault.Invalid (shown_of w)
plain [] w c rs b g x y = absurd (omega arith)
plain (first ∷ read) w c rs b g x y = rw (g, x, y) refl

pub stops : (p : Place) (f : Form Command) (c : Command) (rs : List (Reading Command)) (w : Bytes) (rest : List Bytes) → live (f []) ≡ spells c [] ∷ rs
    → list_any goes_on rs ≡ true → list_any wants_coordinate rs ≡ false → list_any wants_geojson rs ≡ false
    → p.left ≡ w ∷ rest → live (f (w ∷ [])) ≡ [] → Follows p f → reads (all_words p) ≡ Err (fault.Invalid (shown_of w))
stops p f c rs w rest e g x y l s h =
    let there : readings p.read ≡ spells c [] ∷ rs = now p f h ∙ e in
    let shut : readings (p.read ++ w ∷ []) ≡ [] = h.goes (w ∷ []) ∙ s in
    let at = stopped p.read w rest (open_by p.read (spells c []) rs there) (shut_by (p.read ++ w ∷ []) shut) in
    rw (some_more p w rest l) (at ∙ ap Err (ap (fault_at p.read w) there ∙ plain p.read w c rs h.begun g x y))

-- GET

abbrev pub whole : Bool → Bytes × Bytes → Command
whole b k = command.Object (of_object.Get k.0 k.1 b shown.Objects)

output_takes : (b : Bool) (k : Bytes × Bytes) (w : Bytes) (how : Shown) (more : List Bytes) → IsShown w how → live (get_output b k (w ∷ more)) ≡ live (done (command.Object (of_object.Get k.0 k.1 b how)) more)
output_takes b k w shown.Objects more e = let l : str_to_ascii_lowercase w ≡ codes "object" = lower_word w (codes "OBJECT") e in rw l (refl {a = live (done (command.Object (of_object.Get k.0 k.1 b shown.Objects)) more)})
output_takes b k w shown.Points more e = let l : str_to_ascii_lowercase w ≡ codes "point" = lower_word w (codes "POINT") e in rw l (refl {a = live (done (command.Object (of_object.Get k.0 k.1 b shown.Points)) more)})
output_takes b k w shown.Bounds more e = let l : str_to_ascii_lowercase w ≡ codes "bounds" = lower_word w (codes "BOUNDS") e in rw l (refl {a = live (done (command.Object (of_object.Get k.0 k.1 b shown.Bounds)) more)})
output_takes b k w shown.Ids more e = absurd e
output_takes b k w shown.Count more e = absurd e

options_takes : (k : Bytes × Bytes) (w : Bytes) (how : Shown) (more : List Bytes) → IsShown w how → live (get_options k (w ∷ more)) ≡ live (done (command.Object (of_object.Get k.0 k.1 false how)) more)
options_takes k w shown.Objects more e = let l : str_to_ascii_lowercase w ≡ codes "object" = lower_word w (codes "OBJECT") e in rw l (refl {a = live (done (command.Object (of_object.Get k.0 k.1 false shown.Objects)) more)})
options_takes k w shown.Points more e = let l : str_to_ascii_lowercase w ≡ codes "point" = lower_word w (codes "POINT") e in rw l (refl {a = live (done (command.Object (of_object.Get k.0 k.1 false shown.Points)) more)})
options_takes k w shown.Bounds more e = let l : str_to_ascii_lowercase w ≡ codes "bounds" = lower_word w (codes "BOUNDS") e in rw l (refl {a = live (done (command.Object (of_object.Get k.0 k.1 false shown.Bounds)) more)})
options_takes k w shown.Ids more e = absurd e
options_takes k w shown.Count more e = absurd e

fields_taken : (k : Bytes × Bytes) (w : Bytes) (more : List Bytes) → is_word w (codes "WITHFIELDS") ≡ true → live (get_options k (w ∷ more)) ≡ live (get_output true k more)
fields_taken k w more e = let l : str_to_ascii_lowercase w ≡ codes "withfields" = lower_word w (codes "WITHFIELDS") e in rw l (ap (λ (rs : List (Reading Command)). live rs) (append-nil (get_output true k more)))

output_stops : (b : Bool) (k : Bytes × Bytes) (w : Bytes) → IsNotShown (w ∷ []) → live (get_output b k (w ∷ [])) ≡ []
output_stops b k w n = let x = n.0 in let y = n.1 in let z = n.2 in rw (x, y, z) refl

options_stop : (k : Bytes × Bytes) (w : Bytes) → is_word w (codes "WITHFIELDS") ≡ false → IsNotShown (w ∷ []) → live (get_options k (w ∷ [])) ≡ []
options_stop k w e n = let x = n.0 in let y = n.1 in let z = n.2 in rw (e, x, y, z) refl

-- behind WITHFIELDS
pub fields_said : (k : Bytes × Bytes) (old new : Place) (w : Bytes) → is_word w (codes "WITHFIELDS") ≡ true → IsBehind w old new → Follows old (get_options k) → Follows new (get_output true k)
fields_said k old new w e b h = step (get_options k) (get_output true k) old new w b (λ more. fields_taken k w more e) h

pub output_said : (b : Bool) (k : Bytes × Bytes) (old new : Place) (w : Bytes) (how : Shown) → IsShown w how → IsBehind w old new → Follows old (get_output b k) → Follows new (done (command.Object (of_object.Get k.0 k.1 b how)))
output_said b k old new w how e behind h = step (get_output b k) (done (command.Object (of_object.Get k.0 k.1 b how))) old new w behind (λ more. output_takes b k w how more e) h

pub option_said : (k : Bytes × Bytes) (old new : Place) (w : Bytes) (how : Shown) → IsShown w how → IsBehind w old new → Follows old (get_options k) → Follows new (done (command.Object (of_object.Get k.0 k.1 false how)))
option_said k old new w how e behind h = step (get_options k) (done (command.Object (of_object.Get k.0 k.1 false how))) old new w behind (λ more. options_takes k w how more e) h

pub output_ends : (b : Bool) (k : Bytes × Bytes) (p : Place) → p.left ≡ [] → Follows p (get_output b k) → reads (all_words p) ≡ Ok (whole b k)
output_ends b k p l h = ends p (get_output b k) (whole b k) (runs_out a_word ∷ runs_out a_word ∷ runs_out a_word ∷ []) refl l h

pub options_end : (k : Bytes × Bytes) (p : Place) → p.left ≡ [] → Follows p (get_options k) → reads (all_words p) ≡ Ok (whole false k)
options_end k p l h = ends p (get_options k) (whole false k) (runs_out a_word ∷ runs_out a_word ∷ runs_out a_word ∷ runs_out a_word ∷ []) refl l h

pub output_refused : (b : Bool) (k : Bytes × Bytes) (p : Place) (w : Bytes) (rest : List Bytes) → p.left ≡ w ∷ rest → IsNotShown (w ∷ []) → Follows p (get_output b k) → reads (all_words p) ≡ Err (fault.Invalid (shown_of w))
output_refused b k p w rest l n h = stops p (get_output b k) (whole b k) (runs_out a_word ∷ runs_out a_word ∷ runs_out a_word ∷ []) w rest refl refl refl refl l (output_stops b k w n) h

pub option_refused : (k : Bytes × Bytes) (p : Place) (w : Bytes) (rest : List Bytes) → p.left ≡ w ∷ rest → is_word w (codes "WITHFIELDS") ≡ false → IsNotShown (w ∷ []) → Follows p (get_options k) → reads (all_words p) ≡ Err (fault.Invalid (shown_of w))
option_refused k p w rest l e n h = stops p (get_options k) (whole false k) (runs_out a_word ∷ runs_out a_word ∷ runs_out a_word ∷ runs_out a_word ∷ []) w rest refl refl refl refl l (options_stop k w e n) h

pub moved : (w : Bytes) (old new : Place) → IsBehind w old new → all_words new ≡ all_words old
moved w old new b = rw (b.read, b.left) (append_assoc old.read (w ∷ []) new.left)

pub moves : (w : Bytes) (old new : Place) → IsBehind w old new → Moves old new
moves w old new b = record { words = moved w old new b; fewer = let n = ap length b.left in omega (arith, n) }

pub moves_on : (old mid new : Place) → Moves old mid → Moves mid new → Moves old new
moves_on old mid new a b = let n = a.fewer in let m = b.fewer in record { words = b.words ∙ a.words; fewer = omega (arith, n, m) }

-- the words behind GET's key and id, from the word WITHFIELDS or its absence on
shown_read : (b : Bool) (k : Bytes × Bytes) (p q r : Place) (how : Shown) → Took (codes "WITHFIELDS") p q b → ReadsShown q r (Some how) → Follows p (get_options k) → Follows r (done (command.Object (of_object.Get k.0 k.1 b how)))
shown_read true k p q r how t s h = output_said true k q r s.0 how s.1 s.2 (fields_said k p q t.0 t.1 t.2 h)
shown_read false k p q r how t s h = option_said k p r s.0 how s.1 (subst (λ x. IsBehind s.0 x r) t.0 s.2) h

words_kept : (b : Bool) (p q : Place) → Took (codes "WITHFIELDS") p q b → all_words q ≡ all_words p
words_kept true p q t = moved t.0 p q t.2
words_kept false p q t = ap all_words t.0

pub shown_behind : (b : Bool) (k : Bytes × Bytes) (p q r : Place) (how : Shown) → Took (codes "WITHFIELDS") p q b → ReadsShown q r (Some how) → Follows p (get_options k)
    → Follows r (done (command.Object (of_object.Get k.0 k.1 b how))) × (all_words r ≡ all_words p)
shown_behind b k p q r how t s h = (shown_read b k p q r how t s h, moved s.0 q r s.2 ∙ words_kept b p q t)

said_here : (b : Bool) (k : Bytes × Bytes) (p q : Place) → Took (codes "WITHFIELDS") p q b → q.left ≡ [] → Follows p (get_options k) → reads (all_words p) ≡ Ok (whole b k)
said_here true k p q t l h = subst (λ ws. reads ws ≡ Ok (whole true k)) (moved t.0 p q t.2) (output_ends true k q l (fields_said k p q t.0 t.1 t.2 h))
said_here false k p q t l h = options_end k p (subst (λ x. x.left ≡ []) t.0 l) h

pub objects_read : (b : Bool) (k : Bytes × Bytes) (p q r : Place) → Took (codes "WITHFIELDS") p q b → ReadsShown q r None → r.left ≡ [] → Follows p (get_options k) → reads (all_words p) ≡ Ok (whole b k)
objects_read b k p q r t s l h = said_here b k p q t (subst (λ x. x.left ≡ []) s.0 l) h

refused_here : (b : Bool) (k : Bytes × Bytes) (p q : Place) (w : Bytes) (rest : List Bytes) → Took (codes "WITHFIELDS") p q b → IsNotShown q.left → q.left ≡ w ∷ rest → Follows p (get_options k) → reads (all_words p) ≡ Err (fault.Invalid (shown_of w))
refused_here true k p q w rest t n l h =
    subst (λ ws. reads ws ≡ Err (fault.Invalid (shown_of w))) (moved t.0 p q t.2) (output_refused true k q w rest l (subst IsNotShown l n) (fields_said k p q t.0 t.1 t.2 h))
refused_here false k p q w rest t n l h =
    let here : p.left ≡ w ∷ rest = subst (λ x. x.left ≡ w ∷ rest) t.0 l in
    let not_fields : is_word w (codes "WITHFIELDS") ≡ false = subst (λ ws. IsNot (codes "WITHFIELDS") ws) here t.1 in
    option_refused k p w rest here not_fields (subst IsNotShown l n) h

pub option_faults : (b : Bool) (k : Bytes × Bytes) (p q r : Place) (why : CommandFault) → Took (codes "WITHFIELDS") p q b → ReadsShown q r None → IsEnd (λ w. fault.Invalid (shown_of w)) r (Err why) → Follows p (get_options k)
    → Answers (all_words p) (Err why)
option_faults b k p q r why t s (w, rest, l, inl m) h = inl m
option_faults b k p q r why t s (w, rest, l, inr e) h = inr (rw e (ap answered (refused_here b k p q w rest t s.1 (subst (λ x. x.left ≡ w ∷ rest) s.0 l) h)))
