-- What stands behind SET's key and id: options in any order, and a place.
use Rattle.std.proofs.Common.{◌≡◌, ◌<◌, ℕ, zero, suc, Bool, true, false, inl, inr, refl, sym, ◌∙◌, ap, subst, List, [], ◌∷◌, ◌++◌, length, arith}
use Rattle.std.specs.Prelude.{codes, is_none, if◌then◌else◌, ◌&&◌, Option, Some, None, Ok, Err, Result, IfOk, IfErr}
use Rattle.std.specs.List.{list_any}
use Rattle.std.specs.Str.{str_to_ascii_lowercase}
use Rattle.std.proofs.lemmas.List.{append-nil}
use Rattle.byte_text.specs.Names.{Bytes, is_word}
use Rattle.geo_text.specs.Texts.{Shape, point_text, bounds_text, corners}
use Rattle.planar_geom.specs.Points.{Point, Bounds}
use Rattle.planar_geom.specs.declared.shapes.Part.TheVariants.{Spot, Face}
use Rattle.world_model.specs.Grammar.{Form, a_word, Reading, runs_out, ◌>>=◌, ◌>>◌, done, where_, word, live, spelled, wants_coordinate, wants_geojson}
use Rattle.world_model.specs.Kinds.{name, value, seconds, lat_lon, four, geojson}
use Rattle.world_data.specs.Filters.{Field}
use Rattle.world_model.specs.Commands.{SetOptions, set_option, field, place, readings, shown_of, fault_at, command_spelled, wrong_count}
use Rattle.world_model.specs.declared.object_commands.Only.{Only}
use Rattle.world_model.specs.declared.object_commands.Only.TheVariants.{Absent, Present}
use Rattle.world_model.specs.declared.commands.Command.{Command}
use Rattle.world_model.specs.declared.faults.WordFault.TheVariants as fault
use Rattle.world_model.specs.FormLaws.{Takes, Fair, fair_done, fair_word, fair_bind, takes_word, takes_bind, each_append}
use Rattle.cmd_words.specs.Progress.{Place, all_words, IsBehind, Moves, Follows, Reads, IsFault, IsRefusal, answers, answered}
use Rattle.cmd_words.specs.declared.set_options.OptionWord.{OptionWord}
use Rattle.cmd_words.specs.declared.set_options.OptionWord.TheVariants as option
use Rattle.cmd_words.specs.declared.object_places.PlaceWord.{PlaceWord}
use Rattle.cmd_words.specs.declared.object_places.PlaceWord.TheVariants as at
use Rattle.cmd_words.specs.Sets.{options_and_place, option_name, may_come, LacksOption, place_name, LacksPlace, ReadsPlace, Goes, Refuses}
use Rattle.cmd_words.proofs.Gets.{lower_word, step, moves, moves_on}
use Rattle.cmd_words.proofs.Follows.{stopped, now, no_more, some_more, open_by, shut_by, ran_out}
use Rattle.cmd_words.proofs.Binds.{unrolled, done_behind}
use Rattle.cmd_words.specs.declared.faults.CommandFault.{CommandFault}
use Rattle.cmd_words.specs.declared.faults.CommandFault.TheVariants.{Memory}

-- every option takes a word

pub takes_where : {A : Type 0} (test : Bool) (f : Form A) → Takes f → Takes (where_ test f)
takes_where true f p = p
takes_where false f p = λ words. tt

pub takes_behind : {A B : Type 0} (called : Bytes) (f : Form A) (made : A → B) → Fair f → Takes (word called >> f >>= λ a. done (made a))
takes_behind called f made fair = takes_bind (word called >> f) (λ a. done (made a)) (takes_bind (word called) (λ _. f) (takes_word a_word _) (λ _. fair)) (λ a. fair_done (made a))

pub takes_alone : {A : Type 0} (called : Bytes) (a : A) → Takes (word called >> done a)
takes_alone called a = takes_bind (word called) (λ _. done a) (takes_word a_word _) (λ _. fair_done a)

fair_field : Fair field
fair_field = fair_bind name _ (fair_word a_word _) (λ n. fair_bind value _ (fair_word a_word _) (λ v. fair_done (n, v)))

takes_option : (o : SetOptions) → Takes (set_option o)
takes_option o words =
    each_append _ _ _ (takes_behind (codes "FIELD") field _ fair_field words) (
    each_append _ _ _ (takes_where (is_none o.after_ex) _ (takes_behind (codes "EX") seconds _ (fair_word a_word _)) words) (
    each_append _ _ _ (takes_where (is_none o.only) _ (takes_alone (codes "NX") _) words) (
    each_append _ _ _ (takes_where (is_none o.only) _ (takes_alone (codes "XX") _) words) tt)))

pub unroll : (o : SetOptions) (next : SetOptions → Bytes × Shape → Form Command) (words : List Bytes)
    → options_and_place o next words ≡ (place >>= next o) words ++ (set_option o >>= λ p. options_and_place p next) words
unroll o next words = unrolled set_option takes_option (λ all. place >>= next all) o words

pub nothing : {A : Type 0} (b : Bool) → if◌then◌else◌ {A = List A} b [] [] ≡ []
nothing true = refl
nothing false = refl

module _ (o : SetOptions) (next : SetOptions → Bytes × Shape → Form Command) (w : Bytes) (more : List Bytes) where
  field_goes : str_to_ascii_lowercase w ≡ codes "field" → options_and_place o next (w ∷ more) ≡ (field >>= λ f. options_and_place (record o { given = o.given ++ f ∷ [] }) next) more
  field_goes e = unroll o next (w ∷ more) ∙ rw (e, nothing (is_none o.after_ex), nothing (is_none o.only)) (simp append-nil (done_behind (λ (f : Field). record o { given = o.given ++ f ∷ [] }) (λ p. options_and_place p next) (field more)))

  seconds_goes : str_to_ascii_lowercase w ≡ codes "ex" → is_none o.after_ex ≡ true → options_and_place o next (w ∷ more) ≡ (seconds >>= λ s. options_and_place (record o { after_ex = Some s }) next) more
  seconds_goes e x = unroll o next (w ∷ more) ∙ rw (e, x, nothing (is_none o.only)) (simp append-nil (done_behind (λ (s : ℕ). record o { after_ex = Some s }) (λ p. options_and_place p next) (seconds more)))

  absent_goes : str_to_ascii_lowercase w ≡ codes "nx" → is_none o.only ≡ true → options_and_place o next (w ∷ more) ≡ options_and_place (record o { only = Some Absent }) next more
  absent_goes e x = unroll o next (w ∷ more) ∙ rw (e, x, nothing (is_none o.after_ex)) (append-nil (options_and_place (record o { only = Some Absent }) next more))

  present_goes : str_to_ascii_lowercase w ≡ codes "xx" → is_none o.only ≡ true → options_and_place o next (w ∷ more) ≡ options_and_place (record o { only = Some Present }) next more
  present_goes e x = unroll o next (w ∷ more) ∙ rw (e, x, nothing (is_none o.after_ex)) (append-nil (options_and_place (record o { only = Some Present }) next more))

  point_goes : str_to_ascii_lowercase w ≡ codes "point" → options_and_place o next (w ∷ more) ≡ (lat_lon >>= λ p. next o (point_text p, Spot p ∷ [])) more
  point_goes e = unroll o next (w ∷ more) ∙ rw (e, nothing (is_none o.after_ex), nothing (is_none o.only)) (simp append-nil (done_behind (λ (p : Point). (point_text p, Spot p ∷ [])) (next o) (lat_lon more)))

  bounds_goes : str_to_ascii_lowercase w ≡ codes "bounds" → options_and_place o next (w ∷ more) ≡ (four >>= λ b. next o (bounds_text b, Face (corners b ∷ []) ∷ [])) more
  bounds_goes e = unroll o next (w ∷ more) ∙ rw (e, nothing (is_none o.after_ex), nothing (is_none o.only)) (simp append-nil (done_behind (λ (b : Bounds). (bounds_text b, Face (corners b ∷ []) ∷ [])) (next o) (four more)))

  object_goes : str_to_ascii_lowercase w ≡ codes "object" → options_and_place o next (w ∷ more) ≡ (geojson >>= next o) more
  object_goes e = unroll o next (w ∷ more) ∙ rw (e, nothing (is_none o.after_ex), nothing (is_none o.only)) (simp append-nil)

-- a word that begins neither an option that may still come nor a place

pub absent_when : {A : Type 0} (b e : Bool) (xs : List A) → (b && e) ≡ false → (e ≡ false → xs ≡ []) → (if b then xs else []) ≡ []
absent_when false e xs h n = refl
absent_when true e xs h n = n h

no_word : {A : Type 0} (w n : Bytes) (g : Bytes → Form A) (more : List Bytes) → is_word w n ≡ false → (word n >>= g) (w ∷ more) ≡ []
no_word w n g more e = rw e refl

module _ (o : SetOptions) (w : Bytes) (more : List Bytes) (n : LacksOption o (w ∷ [])) where
  no_option : set_option o (w ∷ more) ≡ []
  no_option =
      let no_field : is_word w (codes "FIELD") ≡ false = n option.Field in
      rw (
        no_field,
        absent_when (is_none o.after_ex) (is_word w (codes "EX")) ((word (codes "EX") >> seconds >>= λ s. done (record o { after_ex = Some s })) (w ∷ more)) (n option.Seconds) (λ e. rw e refl),
        absent_when (is_none o.only) (is_word w (codes "NX")) ((word (codes "NX") >> done (record o { only = Some Absent })) (w ∷ more)) (n option.Absent) (λ e. rw e refl),
        absent_when (is_none o.only) (is_word w (codes "XX")) ((word (codes "XX") >> done (record o { only = Some Present })) (w ∷ more)) (n option.Present) (λ e. rw e refl),
      ) refl

  none_goes : (next : SetOptions → Bytes × Shape → Form Command) → LacksPlace (w ∷ more) → options_and_place o next (w ∷ more) ≡ []
  none_goes next p = let no_point = p at.Point in let no_bounds = p at.Bounds in let no_object = p at.Object in unroll o next (w ∷ more) ∙ rw (no_option, no_point, no_bounds, no_object) refl

-- where the words run out

abbrev due_words : ℕ → List (Reading Command)
due_words zero = []
due_words (suc n) = runs_out a_word ∷ due_words n

due_by : (x : Option ℕ) (only : Option Only) (given : List Field) (next : SetOptions → Bytes × Shape → Form Command) → let o : SetOptions = record { given = given; after_ex = x; only = only } in (n : ℕ) × (live ((place >>= next o) [] ++ (set_option o >>= λ p. options_and_place p next) []) ≡ due_words (suc n))
due_by None None given next = (6, refl)
due_by None (Some k) given next = (4, refl)
due_by (Some s) None given next = (5, refl)
due_by (Some s) (Some k) given next = (3, refl)

due_there : (o : SetOptions) (next : SetOptions → Bytes × Shape → Form Command) → (n : ℕ) × (live (options_and_place o next []) ≡ due_words (suc n))
due_there o next = let d = due_by o.after_ex o.only o.given next in (d.0, ap live (unroll o next []) ∙ d.1)

no_command : (n : ℕ) → spelled (due_words n) ≡ None
no_command zero = refl
no_command (suc n) = no_command n

no_coordinate : (n : ℕ) → list_any wants_coordinate (due_words n) ≡ false
no_coordinate zero = refl
no_coordinate (suc n) = no_coordinate n

no_geojson : (n : ℕ) → list_any wants_geojson (due_words n) ≡ false
no_geojson zero = refl
no_geojson (suc n) = no_geojson n

invalid_there : (read : List Bytes) (w : Bytes) (n : ℕ) → 0 < length read → fault_at read w (due_words (suc n)) ≡ fault.Invalid (shown_of w)
invalid_there [] w n b = absurd (omega arith)
invalid_there (first ∷ read) w n b = let c = no_command n in let x = no_coordinate n in let g = no_geojson n in rw (c, x, g) refl

module _ (o : SetOptions) (p : Place) where
  pub words_run_out : (why : CommandFault) → p.left ≡ [] → IsFault (wrong_count (all_words p)) why → Refuses o p why
  words_run_out why l (inl m) = inl m
  words_run_out why l (inr e) = inr (λ next h.
      let due = due_there o next in
      let there = now p (options_and_place o next) h ∙ due.1 in
      let none : command_spelled p.read ≡ None = ap spelled there ∙ no_command due.0 in
      rw (no_more p l) (ap answered (ran_out p.read (open_by p.read (runs_out a_word) (due_words due.0) there) none)) ∙ ap Err (sym e))

  pub word_refused : (w : Bytes) (rest : List Bytes) (why : CommandFault) → p.left ≡ w ∷ rest → LacksOption o (w ∷ []) → LacksPlace (w ∷ []) → IsFault (fault.Invalid (shown_of w)) why → Refuses o p why
  word_refused w rest why l n q (inl m) = inl m
  word_refused w rest why l n q (inr e) = inr (λ next h.
      let due = due_there o next in
      let there = now p (options_and_place o next) h ∙ due.1 in
      let shut : readings (p.read ++ w ∷ []) ≡ [] = h.goes (w ∷ []) ∙ ap live (none_goes o w [] n next q) in
      let at = stopped p.read w rest (open_by p.read (runs_out a_word) (due_words due.0) there) (shut_by (p.read ++ w ∷ []) shut) in
      rw (some_more p w rest l) (ap answered (at ∙ ap Err (ap (fault_at p.read w) there ∙ invalid_there p.read w due.0 h.begun))) ∙ ap Err (sym e))

refused_at : (o : SetOptions) (p : Place) (left : List Bytes) (why : CommandFault) → p.left ≡ left → LacksOption o left → LacksPlace left → IsRefusal (all_words p) left why → Refuses o p why
refused_at o p [] why l n q f = words_run_out o p why l f
refused_at o p (w ∷ rest) why l n q f = word_refused o p w rest why l n q f

-- neither an option nor a place is next
pub nothing_next : (o : SetOptions) (p q : Place) (why : CommandFault) → (q ≡ p) × LacksPlace p.left → LacksOption o p.left → IsRefusal (all_words q) q.left why → Refuses o p why
nothing_next o p q why t n f = refused_at o p p.left why refl n t.1 (subst (λ (x : Place). IsRefusal (all_words x) x.left why) t.0 f)

-- what is read behind a word that begins an option or a place
module _ {A : Type 0} (o : SetOptions) (f : Form A) (behind : (SetOptions → Bytes × Shape → Form Command) → A → Form Command) (old mid new : Place) (w : Bytes) (b : IsBehind w old mid)
    (goes : (next : SetOptions → Bytes × Shape → Form Command) (more : List Bytes) → options_and_place o next (w ∷ more) ≡ (f >>= behind next) more) where
  begun : (next : SetOptions → Bytes × Shape → Form Command) → Follows old (options_and_place o next) → Follows mid (f >>= behind next)
  begun next h = step (options_and_place o next) (f >>= behind next) old mid w b (λ more. ap live (goes next more)) h

  value_read : (a : A) → Reads f mid new (Ok a) → Moves old new × (length new.left < length old.left) × ((next : SetOptions → Bytes × Shape → Form Command) → Follows old (options_and_place o next) → Follows new (behind next a))
  value_read a k = (moves_on old mid new (moves w old mid b) k.0, (let n = ap length b.left in let m = k.0.fewer in omega (arith, n, m)), λ next h. k.1 (behind next) (begun next h))

  value_refused : (why : CommandFault) → Reads f mid new (Err why) → Refuses o old why
  value_refused why (inl m) = inl m
  value_refused why (inr r) = inr (λ next h. subst (λ ws. answers ws ≡ Err why) (moves w old mid b).words (r (behind next) (begun next h)))

-- the word begins this option, which may still come; this place
abbrev IsOption : SetOptions → Bytes → OptionWord → Type 0
IsOption o w kind = (is_word w (option_name kind) ≡ true) × (may_come o kind ≡ true)

abbrev IsPlace : Bytes → PlaceWord → Type 0
IsPlace w kind = is_word w (place_name kind) ≡ true

module _ (o : SetOptions) (old mid new : Place) (w : Bytes) (b : IsBehind w old mid) where
  pub field_read : (f : Field) → IsOption o w option.Field → Reads field mid new (Ok f) → Goes o (record o { given = o.given ++ f ∷ [] }) old new × (length new.left < length old.left)
  field_read f e k =
      let r = value_read o field (λ next x. options_and_place (record o { given = o.given ++ x ∷ [] }) next) old mid new w b (λ next more. field_goes o next w more (lower_word w (codes "FIELD") e.0)) f k in
      (record { moves = r.0; follows = r.2 }, r.1)

  pub field_refused : (why : CommandFault) → IsOption o w option.Field → Reads field mid new (Err why) → Refuses o old why
  field_refused why e k = value_refused o field (λ next x. options_and_place (record o { given = o.given ++ x ∷ [] }) next) old mid new w b (λ next more. field_goes o next w more (lower_word w (codes "FIELD") e.0)) why k

  pub seconds_read : (s : ℕ) → IsOption o w option.Seconds → Reads seconds mid new (Ok s) → Goes o (record o { after_ex = Some s }) old new × (length new.left < length old.left)
  seconds_read s e k =
      let r = value_read o seconds (λ next x. options_and_place (record o { after_ex = Some x }) next) old mid new w b (λ next more. seconds_goes o next w more (lower_word w (codes "EX") e.0) e.1) s k in
      (record { moves = r.0; follows = r.2 }, r.1)

  pub seconds_refused : (why : CommandFault) → IsOption o w option.Seconds → Reads seconds mid new (Err why) → Refuses o old why
  seconds_refused why e k = value_refused o seconds (λ next x. options_and_place (record o { after_ex = Some x }) next) old mid new w b (λ next more. seconds_goes o next w more (lower_word w (codes "EX") e.0) e.1) why k

  alone : (p : SetOptions) → ((next : SetOptions → Bytes × Shape → Form Command) (more : List Bytes) → options_and_place o next (w ∷ more) ≡ options_and_place p next more) → Goes o p old mid × (length mid.left < length old.left)
  alone p goes = (record { moves = moves w old mid b; follows = λ next h. step (options_and_place o next) (options_and_place p next) old mid w b (λ more. ap live (goes next more)) h }, (let n = ap length b.left in omega (arith, n)))

  pub absent_read : IsOption o w option.Absent → Goes o (record o { only = Some Absent }) old mid × (length mid.left < length old.left)
  absent_read e = alone (record o { only = Some Absent }) (λ next more. absent_goes o next w more (lower_word w (codes "NX") e.0) e.1)

  pub present_read : IsOption o w option.Present → Goes o (record o { only = Some Present }) old mid × (length mid.left < length old.left)
  present_read e = alone (record o { only = Some Present }) (λ next more. present_goes o next w more (lower_word w (codes "XX") e.0) e.1)

  pub point_read : (p : Point) → IsPlace w at.Point → Reads lat_lon mid new (Ok p) → ReadsPlace o old new (Ok (point_text p, Spot p ∷ []))
  point_read p e k =
      let r = value_read o lat_lon (λ next x. next o (point_text x, Spot x ∷ [])) old mid new w b (λ next more. point_goes o next w more (lower_word w (codes "POINT") e)) p k in
      (r.0, r.2)

  pub point_refused : (why : CommandFault) → IsPlace w at.Point → Reads lat_lon mid new (Err why) → Refuses o old why
  point_refused why e k = value_refused o lat_lon (λ next x. next o (point_text x, Spot x ∷ [])) old mid new w b (λ next more. point_goes o next w more (lower_word w (codes "POINT") e)) why k

  pub bounds_read : (x : Bounds) → IsPlace w at.Bounds → Reads four mid new (Ok x) → ReadsPlace o old new (Ok (bounds_text x, Face (corners x ∷ []) ∷ []))
  bounds_read x e k =
      let r = value_read o four (λ next y. next o (bounds_text y, Face (corners y ∷ []) ∷ [])) old mid new w b (λ next more. bounds_goes o next w more (lower_word w (codes "BOUNDS") e)) x k in
      (r.0, r.2)

  pub bounds_refused : (why : CommandFault) → IsPlace w at.Bounds → Reads four mid new (Err why) → Refuses o old why
  bounds_refused why e k = value_refused o four (λ next y. next o (bounds_text y, Face (corners y ∷ []) ∷ [])) old mid new w b (λ next more. bounds_goes o next w more (lower_word w (codes "BOUNDS") e)) why k

  pub object_read : (r : Result (Bytes × Shape) CommandFault) → IsPlace w at.Object → Reads geojson mid new r → ReadsPlace o old new r
  object_read (Ok t) e k =
      let r = value_read o geojson (λ next. next o) old mid new w b (λ next more. object_goes o next w more (lower_word w (codes "OBJECT") e)) t k in
      (r.0, r.2)
  object_read (Err why) e k = value_refused o geojson (λ next. next o) old mid new w b (λ next more. object_goes o next w more (lower_word w (codes "OBJECT") e)) why k

-- a place whose text and shape are made of what was read, or memory ran out
pub made_read : (o : SetOptions) (old new : Place) (t : Bytes × Shape) (r : Result (Bytes × Shape) CommandFault) → IfOk r (λ x. x ≡ t) → IfErr r (λ why. why ≡ Memory) → ReadsPlace o old new (Ok t) → ReadsPlace o old new r
made_read o old new t (Ok x) ok err k = subst (λ y. ReadsPlace o old new (Ok y)) (sym ok) k
made_read o old new t (Err why) ok err k = inl err

-- options in order
pub goes_on_from : (o : SetOptions) (p : Place) → Goes o o p p
goes_on_from o p = record { moves = record { words = refl; fewer = omega arith }; follows = λ next h. h }

pub goes_further : (o p q : SetOptions) (first old new : Place) → Goes o p first old → Goes p q old new → Goes o q first new
goes_further o p q first old new g h = record { moves = moves_on first old new g.moves h.moves; follows = λ next f. h.follows next (g.follows next f) }

pub refused_further : (o p : SetOptions) (first old : Place) (why : CommandFault) → Goes o p first old → Refuses p old why → Refuses o first why
refused_further o p first old why g (inl m) = inl m
refused_further o p first old why g (inr r) = inr (λ next h. subst (λ ws. answers ws ≡ Err why) g.moves.words (r next (g.follows next h)))

pub options_done : (first_options o p : SetOptions) (first old new : Place) → Goes first_options o first old → (new ≡ old) × (p ≡ o) × LacksOption o old.left → Goes first_options p first new × LacksOption p new.left
options_done first_options o p first old new g e = rw (e.0, e.1) (g, e.2)
