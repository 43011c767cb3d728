-- What goes on with the next word, where other forms could be due too.
use Rattle.std.proofs.Common.{◌≡◌, ◌⊎◌, inl, inr, ◌<◌, false, refl, sym, ◌∙◌, ap, subst, List, [], ◌∷◌, ◌++◌, length, arith, length-append, append_assoc}
use Rattle.std.specs.Prelude.{Option, None, Some, Result, Ok, Err}
use Rattle.std.specs.List.{list_any}
use Rattle.std.proofs.lemmas.List.{append-nil}
use Rattle.byte_text.specs.Names.{Bytes}
use Rattle.world_model.specs.Grammar.{Form, Reading, spells, runs_out, a_word, a_coordinate, a_geojson, ◌>>=◌, ◌or◌, one_word, live, spelled, wants_coordinate, wants_geojson}
use Rattle.world_model.specs.Commands.{readings, reads, shown_of, fault_at, command_spelled, wrong_count}
use Rattle.world_model.specs.declared.commands.Command.{Command}
use Rattle.world_model.specs.declared.faults.WordFault.{WordFault}
use Rattle.world_model.specs.declared.faults.WordFault.TheVariants as fault
use Rattle.world_model.specs.FormLaws.{Each}
use Rattle.cmd_words.specs.Progress.{Place, all_words, IsBehind, Follows, Reads, IsWordDue, WantsWord, IsAhead, ParsesAhead, IsSilent, ReadsBeside, IsFault, IsOne, IsRefusal, due_fault, answers, answered}
use Rattle.cmd_words.proofs.Follows.{stopped, now, no_more, some_more, open_by, shut_by, ran_out}
use Rattle.cmd_words.proofs.Gets.{moves, moves_on}
use Rattle.cmd_words.proofs.Binds.{bind_assoc}
use Rattle.cmd_words.specs.declared.faults.CommandFault.{CommandFault}
use Rattle.cmd_words.specs.declared.faults.CommandFault.TheVariants.{Refused, Memory}

pub live_both : {A : Type 0} (xs ys : List (Reading A)) → live (xs ++ ys) ≡ live xs ++ live ys
live_both [] ys = refl
live_both (spells a [] ∷ xs) ys = ap (λ l. spells a [] ∷ l) (live_both xs ys)
live_both (spells a (w ∷ rest) ∷ xs) ys = live_both xs ys
live_both (runs_out due ∷ xs) ys = ap (λ l. runs_out due ∷ l) (live_both xs ys)

-- where nothing but a word is due

pub due_live : {A : Type 0} (rs : List (Reading A)) → Each IsWordDue rs → live rs ≡ rs
due_live [] d = refl
due_live (spells a rest ∷ rs) d = absurd d.0
due_live (runs_out due ∷ rs) d = ap (λ l. runs_out due ∷ l) (due_live rs d.1)

pub none_spelled : {A : Type 0} (rs : List (Reading A)) → Each IsWordDue rs → spelled rs ≡ None
none_spelled [] d = refl
none_spelled (spells a rest ∷ rs) d = absurd d.0
none_spelled (runs_out due ∷ rs) d = none_spelled rs d.1

pub no_coordinate : {A : Type 0} (rs : List (Reading A)) → Each IsWordDue rs → list_any wants_coordinate rs ≡ false
no_coordinate [] d = refl
no_coordinate (spells a rest ∷ rs) d = absurd d.0
no_coordinate (runs_out a_word ∷ rs) d = no_coordinate rs d.1
no_coordinate (runs_out a_coordinate ∷ rs) d = absurd d.0
no_coordinate (runs_out a_geojson ∷ rs) d = absurd d.0

pub no_geojson : {A : Type 0} (rs : List (Reading A)) → Each IsWordDue rs → list_any wants_geojson rs ≡ false
no_geojson [] d = refl
no_geojson (spells a rest ∷ rs) d = absurd d.0
no_geojson (runs_out a_word ∷ rs) d = no_geojson rs d.1
no_geojson (runs_out a_coordinate ∷ rs) d = absurd d.0
no_geojson (runs_out a_geojson ∷ rs) d = absurd d.0

invalid_there : (read : List Bytes) (w : Bytes) (rs : List (Reading Command)) → 0 < length read → Each IsWordDue rs → fault_at read w rs ≡ fault.Invalid (shown_of w)
invalid_there [] w rs b d = absurd (omega arith)
invalid_there (first ∷ read) w rs b d = let c = none_spelled rs d in let x = no_coordinate rs d in let g = no_geojson rs d in rw (c, x, g) refl

-- the next word

pub ahead : (p : Place) (f : Form Command) → Follows p f → IsAhead p f
ahead p f h = record { begun = h.begun; goes = λ w rest l more. h.goes (w ∷ more) }

pub next_read : (f g : Form Command) (old new : Place) (w : Bytes) → IsBehind w old new → ((more : List Bytes) → live (f (w ∷ more)) ≡ live (g more)) → IsAhead old f → Follows new g
next_read f g old new w b e h = record {
  begun = subst (λ (l : List Bytes). 0 < length l) (sym b.read) (let n = length-append old.read (w ∷ []) in omega (arith, n));
  goes = λ more.
      let same : new.read ++ more ≡ old.read ++ w ∷ more = ap (λ (l : List Bytes). l ++ more) b.read ∙ append_assoc old.read (w ∷ []) more in
      ap readings same ∙ h.goes w new.left b.left more ∙ e more;
}

pub ahead_same : (p : Place) (f g : Form Command) → ((w : Bytes) (rest : List Bytes) → p.left ≡ w ∷ rest → (more : List Bytes) → live (f (w ∷ more)) ≡ live (g (w ∷ more))) → IsAhead p f → IsAhead p g
ahead_same p f g e h = record { begun = h.begun; goes = λ w rest l more. h.goes w rest l more ∙ e w rest l more }

pub wants_by : (p : Place) (r : Reading Command) (rs : List (Reading Command)) → readings p.read ≡ r ∷ rs → Each IsWordDue (r ∷ rs) → WantsWord p
wants_by p r rs e d = record { first = r; others = rs; there = e; each = d }

-- how all words are refused where no form goes on with the next one

abbrev refused_by : List Bytes → List Bytes → WordFault
refused_by words [] = wrong_count words
refused_by words (w ∷ left) = fault.Invalid (shown_of w)

fault_is : (words left : List Bytes) (why : CommandFault) → IsRefusal words left why → (why ≡ Memory) ⊎ (why ≡ Refused (refused_by words left))
fault_is words [] why r = r
fault_is words (w ∷ left) why r = r

module _ (f : Form Command) (p : Place) (h : IsAhead p f) (d : WantsWord p) where
  at_end : p.left ≡ [] → reads (all_words p) ≡ Err (wrong_count (all_words p))
  at_end l =
      let none : command_spelled p.read ≡ None = ap spelled d.there ∙ none_spelled (d.first ∷ d.others) d.each in
      rw (no_more p l) (ran_out p.read (open_by p.read d.first d.others d.there) none)

  at_word : (w : Bytes) (rest : List Bytes) → p.left ≡ w ∷ rest → live (f (w ∷ [])) ≡ [] → reads (all_words p) ≡ Err (fault.Invalid (shown_of w))
  at_word w rest l n =
      let shut : readings (p.read ++ w ∷ []) ≡ [] = h.goes w rest l [] ∙ n in
      let at = stopped p.read w rest (open_by p.read d.first d.others d.there) (shut_by (p.read ++ w ∷ []) shut) in
      rw (some_more p w rest l) (at ∙ ap Err (ap (fault_at p.read w) d.there ∙ invalid_there p.read w (d.first ∷ d.others) h.begun d.each))

  refused_there : (left : List Bytes) → p.left ≡ left → ((w : Bytes) (rest : List Bytes) → left ≡ w ∷ rest → live (f (w ∷ [])) ≡ []) → reads (all_words p) ≡ Err (refused_by (all_words p) left)
  refused_there [] l n = at_end l
  refused_there (w ∷ rest) l n = at_word w rest l (n w rest refl)

pub none_ahead : {A : Type 0} (form : (A → Form Command) → Form Command) (p q new : Place) (why : CommandFault) → q ≡ p
    → ((next : A → Form Command) (w : Bytes) (rest : List Bytes) → p.left ≡ w ∷ rest → live (form next (w ∷ [])) ≡ []) → IsRefusal (all_words q) q.left why → ParsesAhead form p new (Err why)
none_ahead form p q new why same quiet r = by (fault_is (all_words p) p.left why (subst (λ (x : Place). IsRefusal (all_words x) x.left why) same r))
  where
    by : (why ≡ Memory) ⊎ (why ≡ Refused (refused_by (all_words p) p.left)) → ParsesAhead form p new (Err why)
    by (inl m) = inl m
    by (inr e) = inr (λ next h d. ap answered (refused_there (form next) p h d p.left refl (quiet next)) ∙ ap Err (sym e))

-- a coordinate, beside a form that is silent
module _ {A : Type 0} (kind : Bytes → Option A) (next : A → Form Command) (other : Form Command) where
  abbrev coordinate_or : Form Command
  coordinate_or = (one_word a_coordinate kind >>= next) or other

  due_there : (p : Place) → Each IsWordDue (other []) → Follows p coordinate_or → readings p.read ≡ runs_out a_coordinate ∷ other []
  due_there p d h = now p coordinate_or h ∙ ap (λ l. runs_out a_coordinate ∷ l) (due_live (other []) d)

  beside_took : (old new : Place) (w : Bytes) (a : A) → IsBehind w old new → kind w ≡ Some a → IsSilent other old.left → Follows old coordinate_or → Follows new (next a)
  beside_took old new w a b e s h = next_read coordinate_or (next a) old new w b
      (λ more. let quiet : other (w ∷ more) ≡ [] = s.next w new.left b.left more in rw (e, quiet) (ap live (append-nil (next a more ++ []) ∙ append-nil (next a more)))) (ahead old coordinate_or h)

  beside_lacks : (p : Place) → p.left ≡ [] → IsSilent other p.left → Follows p coordinate_or → reads (all_words p) ≡ Err (wrong_count (all_words p))
  beside_lacks p l s h =
      let there = due_there p s.due h in
      let none : command_spelled p.read ≡ None = ap spelled there ∙ none_spelled (other []) s.due in
      rw (no_more p l) (ran_out p.read (open_by p.read (runs_out a_coordinate) (other []) there) none)

  faulty : (read : List Bytes) (w : Bytes) → 0 < length read → Each IsWordDue (other []) → fault_at read w (runs_out a_coordinate ∷ other []) ≡ due_fault a_coordinate w
  faulty [] w b d = absurd (omega arith)
  faulty (first ∷ read) w b d = let c = none_spelled (other []) d in let g = no_geojson (other []) d in rw (c, g) refl

  beside_refuses : (p : Place) (w : Bytes) (rest : List Bytes) → p.left ≡ w ∷ rest → kind w ≡ None → IsSilent other p.left → Follows p coordinate_or → reads (all_words p) ≡ Err (due_fault a_coordinate w)
  beside_refuses p w rest l k s h =
      let there = due_there p s.due h in
      let quiet : other (w ∷ []) ≡ [] = s.next w rest l [] in
      let past : live (coordinate_or (w ∷ [])) ≡ [] = rw (k, quiet) refl in
      let shut : readings (p.read ++ w ∷ []) ≡ [] = h.goes (w ∷ []) ∙ past in
      let at = stopped p.read w rest (open_by p.read (runs_out a_coordinate) (other []) there) (shut_by (p.read ++ w ∷ []) shut) in
      rw (some_more p w rest l) (at ∙ ap Err (ap (fault_at p.read w) there ∙ faulty p.read w h.begun s.due))

module _ {A : Type 0} (kind : Bytes → Option A) where
  pub beside_absent : (old new : Place) (why : CommandFault) → (new ≡ old) × (old.left ≡ []) → IsFault (wrong_count (all_words new)) why → ReadsBeside (one_word a_coordinate kind) old new (Err why)
  beside_absent old new why e (inl m) = inl m
  beside_absent old new why e (inr f) = inr (λ next other s h. ap answered (beside_lacks kind next other old e.1 s h) ∙ ap Err (ap (λ p. Refused (wrong_count (all_words p))) (sym e.0) ∙ sym f))

  pub beside_found : (old new : Place) (w : Bytes) (r : Result A CommandFault) → IsBehind w old new → IsOne a_coordinate kind w r → ReadsBeside (one_word a_coordinate kind) old new r
  beside_found old new w (Ok a) b e = (moves w old new b, λ next other s h. beside_took kind next other old new w a b e s h)
  beside_found old new w (Err why) b (inl m) = inl m
  beside_found old new w (Err why) b (inr f) = inr (λ next other s h. ap answered (beside_refuses kind next other old w new.left b.left f.0 s h) ∙ ap Err (sym f.1))

-- a form behind another that was read beside a silent one
module _ {A B : Type 0} (f : Form A) (g : A → Form B) where
  regroup : (next : B → Form Command) (other : Form Command) (p : Place) → Follows p (((f >>= g) >>= next) or other) → Follows p ((f >>= λ a. g a >>= next) or other)
  regroup next other p h = record { begun = h.begun; goes = λ more. h.goes more ∙ ap (λ l. live (l ++ other more)) (bind_assoc f g next more) }

  pub beside_fails : (old mid new : Place) (why : CommandFault) → ReadsBeside f old mid (Err why) → ReadsBeside (f >>= g) old new (Err why)
  beside_fails old mid new why (inl m) = inl m
  beside_fails old mid new why (inr r) = inr (λ next other s h. r (λ a. g a >>= next) other s (regroup next other old h))

  pub beside_then : (old mid new : Place) (a : A) (r : Result B CommandFault) → ReadsBeside f old mid (Ok a) → Reads (g a) mid new r → ReadsBeside (f >>= g) old new r
  beside_then old mid new a (Ok b) k i = (moves_on old mid new k.0 i.0, λ next other s h. i.1 next (k.1 (λ x. g x >>= next) other s (regroup next other old h)))
  beside_then old mid new a (Err why) k (inl m) = inl m
  beside_then old mid new a (Err why) k (inr i) = inr (λ next other s h. subst (λ ws. answers ws ≡ Err why) k.0.words (i next (k.1 (λ x. g x >>= next) other s (regroup next other old h))))
