-- How a whole WITHIN, INTERSECTS or NEARBY is read or refused.
use Rattle.std.proofs.Common.{◌≡◌, ℕ, true, false, inl, inr, refl, sym, ◌∙◌, ap, subst, List, [], ◌∷◌, ◌++◌, arith}
use Rattle.std.specs.Prelude.{codes, Option, Some, None, Result, Ok, Err, unwrap_or}
use Rattle.std.proofs.lemmas.List.{append-nil}
use Rattle.byte_text.specs.Names.{Bytes, is_word}
use Rattle.byte_text.specs.Numbers.{natural_within}
use Rattle.planar_geom.specs.Points.{Point, Bounds}
use Rattle.world_data.specs.Limits.{max_meters}
use Rattle.world_model.specs.Grammar.{Form, Reading, spells, runs_out, a_word, ◌>>=◌, done, live}
use Rattle.world_model.specs.Kinds.{lat_lon, four}
use Rattle.world_model.specs.Commands.{AreaRead, SearchOptions, no_search_options, output, reads, wrong_count}
use Rattle.world_data.specs.declared.channels.Kind.{Kind}
use Rattle.world_data.specs.declared.queries.Shown.{Shown}
use Rattle.world_data.specs.declared.queries.Shown.TheVariants as shown
use Rattle.world_model.specs.declared.commands.Command.{Command}
use Rattle.world_model.specs.FormLaws.{Each, each_append}
use Rattle.cmd_words.specs.Progress.{Place, IsWordDue, all_words, IsBehind, Moves, Follows, Parses, ParsesAhead, Reads, ReadsBeside, Answers, IsAhead, IsSilent, WantsWord, IsEnd, IsNot, IsOne, IsRefusal, Took, a_name, answers, answered}
use Rattle.cmd_words.specs.Options.{options_then, IsNoOption, ReadsOptions}
use Rattle.cmd_words.specs.SearchWords.{search_table, output_name, ReadsOutput}
use Rattle.cmd_words.specs.Areas.{box_area, an_area, area_name, behind_area, LacksArea, TakesArea}
use Rattle.cmd_words.specs.Searches.{output_and_area, box_or_area, search_of, search_area, behind_search, a_point, output_and_point, reach_of, ReadsReach, nearby_of, nearby_point, behind_nearby}
use Rattle.cmd_words.specs.declared.search_options.SearchWord.TheVariants as option
use Rattle.cmd_words.specs.declared.areas.AreaWord.{AreaWord}
use Rattle.cmd_words.specs.declared.areas.AreaWord.TheVariants as at
use Rattle.cmd_words.proofs.Gets.{lower_word, ends, stops, step, moves, moves_on}
use Rattle.cmd_words.proofs.Follows.{now, finished, unfinished}
use Rattle.cmd_words.proofs.Ends.{end_refused}
use Rattle.cmd_words.proofs.NoNumbers.{no_coordinate_word}
use Rattle.cmd_words.proofs.Ahead.{due_live, ahead, next_read, ahead_same, wants_by, none_ahead}
use Rattle.cmd_words.proofs.AreaWords.{area_goes, area_stops, area_wanted}
use Rattle.cmd_words.proofs.Options.{options_done, same_words, next_ahead, unroll, behind_options, options_due}
use Rattle.cmd_words.proofs.SearchWords.{search_laws}
use Rattle.cmd_words.specs.declared.faults.CommandFault.{CommandFault}

-- no word of an option begins an output or an area, or an output or a point

pub no_option_word : (kind : Kind) (key : Bytes) → IsNoOption (search_table false) (search_area kind key)
no_option_word kind key o option.Match w more e = rw (lower_word w (codes "MATCH") e) refl
no_option_word kind key o option.Cursor w more e = rw (lower_word w (codes "CURSOR") e) refl
no_option_word kind key o option.Limit w more e = rw (lower_word w (codes "LIMIT") e) refl
no_option_word kind key o option.NoFields w more e = rw (lower_word w (codes "NOFIELDS") e) refl
no_option_word kind key o option.Ascending w more e = rw (lower_word w (codes "ASC") e) refl
no_option_word kind key o option.Descending w more e = rw (lower_word w (codes "DESC") e) refl
no_option_word kind key o option.Where w more e = rw (lower_word w (codes "WHERE") e) refl
no_option_word kind key o option.WhereIn w more e = rw (lower_word w (codes "WHEREIN") e) refl

pub no_option_point : (key : Bytes) → IsNoOption (search_table false) (nearby_point key)
no_option_point key o option.Match w more e = rw (lower_word w (codes "MATCH") e) refl
no_option_point key o option.Cursor w more e = rw (lower_word w (codes "CURSOR") e) refl
no_option_point key o option.Limit w more e = rw (lower_word w (codes "LIMIT") e) refl
no_option_point key o option.NoFields w more e = rw (lower_word w (codes "NOFIELDS") e) refl
no_option_point key o option.Ascending w more e = rw (lower_word w (codes "ASC") e) refl
no_option_point key o option.Descending w more e = rw (lower_word w (codes "DESC") e) refl
no_option_point key o option.Where w more e = rw (lower_word w (codes "WHERE") e) refl
no_option_point key o option.WhereIn w more e = rw (lower_word w (codes "WHEREIN") e) refl

-- an output, and an area behind it

module _ (next : Shown × AreaRead → Form Command) where
  abbrev shown_as : Shown → AreaRead → Form Command
  shown_as how a = next (how, a)

  output_goes : (how : Shown) (w : Bytes) (more : List Bytes) → is_word w (output_name how) ≡ true → is_word w (codes "BOUNDS") ≡ false → output_and_area next (w ∷ more) ≡ an_area (shown_as how) more
  output_goes shown.Count w more e n = rw (lower_word w (codes "COUNT") e) (append-nil (an_area (shown_as shown.Count) more))
  output_goes shown.Ids w more e n = rw (lower_word w (codes "IDS") e) (append-nil (an_area (shown_as shown.Ids) more))
  output_goes shown.Objects w more e n = rw (lower_word w (codes "OBJECTS") e) (append-nil (an_area (shown_as shown.Objects) more))
  output_goes shown.Points w more e n = rw (lower_word w (codes "POINTS") e) (append-nil (an_area (shown_as shown.Points) more))
  output_goes shown.Bounds w more e n = absurd (cc (e, n))

  bounds_goes : (w : Bytes) (more : List Bytes) → is_word w (codes "BOUNDS") ≡ true → output_and_area next (w ∷ more) ≡ box_or_area next more
  bounds_goes w more e =
      let here : an_area (shown_as shown.Objects) (w ∷ more) ≡ behind_area at.Bounds (shown_as shown.Objects) more = area_goes (shown_as shown.Objects) more at.Bounds w e in
      ap (λ (l : List (Reading Command)). l ++ (output >>= λ how. an_area (shown_as how)) (w ∷ more)) here
      ∙ ap (λ (l : List (Reading Command)). behind_area at.Bounds (shown_as shown.Objects) more ++ l) (there e)
    where
      there : is_word w (codes "BOUNDS") ≡ true → (output >>= λ how. an_area (shown_as how)) (w ∷ more) ≡ an_area (shown_as shown.Bounds) more
      there e = rw (lower_word w (codes "BOUNDS") e) (append-nil (an_area (shown_as shown.Bounds) more))

  none_goes : (w : Bytes) (rest more : List Bytes) → ((how : Shown) → IsNot (output_name how) (w ∷ rest)) → output_and_area next (w ∷ more) ≡ an_area (shown_as shown.Objects) (w ∷ more)
  none_goes w rest more n =
      let no_count = n shown.Count in
      let no_ids = n shown.Ids in
      let no_objects = n shown.Objects in
      let no_points = n shown.Points in
      let no_bounds = n shown.Bounds in
      rw (no_count, no_ids, no_objects, no_points, no_bounds) (append-nil _)

  -- the word BOUNDS, and what is behind it
  module _ (old mid new : Place) (t : Took (codes "BOUNDS") old mid true) where
    bounds_follow : IsAhead old (output_and_area next) → Follows mid (box_or_area next)
    bounds_follow h = next_read (output_and_area next) (box_or_area next) old mid t.0 t.2 (λ more. ap live (bounds_goes t.0 more t.1)) h

pub bounds_read : (old mid new : Place) → Took (codes "BOUNDS") old mid true → (r : Result (Shown × AreaRead) CommandFault) → Parses box_or_area mid new r → ParsesAhead output_and_area old new r
bounds_read old mid new t (Ok x) k = (moves_on old mid new (moves t.0 old mid t.2) k.0, λ next h. k.1 next (bounds_follow next old mid new t h))
bounds_read old mid new t (Err why) (inl m) = inl m
bounds_read old mid new t (Err why) (inr r) = inr (λ next h d. subst (λ ws. answers ws ≡ Err why) (moves t.0 old mid t.2).words (r next (bounds_follow next old mid new t h)))

-- another output or none, and an area behind it
module _ (old p mid new : Place) (n : Took (codes "BOUNDS") old p false) where
  not_bounds : (w : Bytes) → IsBehind w p mid → is_word w (codes "BOUNDS") ≡ false
  not_bounds w b = subst (IsNot (codes "BOUNDS")) (ap (λ (x : Place). x.left) (sym n.0) ∙ b.left) n.1

  area_ahead : (o : Option Shown) → ReadsOutput p mid o → (next : Shown × AreaRead → Form Command) → IsAhead old (output_and_area next) → IsAhead mid (an_area (λ a. next (unwrap_or o shown.Objects, a)))
  area_ahead (Some how) t next h = ahead mid (an_area (λ a. next (how, a)))
      (next_read (output_and_area next) (an_area (λ a. next (how, a))) p mid t.0 t.2 (λ more. ap live (output_goes next how t.0 more t.1 (not_bounds t.0 t.2))) (subst (λ (x : Place). IsAhead x (output_and_area next)) (sym n.0) h))
  area_ahead None t next h = ahead_same mid (output_and_area next) (an_area (λ a. next (shown.Objects, a)))
      (λ w rest l more. ap live (none_goes next w rest more (λ how. subst (IsNot (output_name how)) (ap (λ (x : Place). x.left) (sym t.0) ∙ l) (t.1 how)))) (subst (λ (x : Place). IsAhead x (output_and_area next)) (sym n.0 ∙ sym t.0) h)

  area_due : (o : Option Shown) → ReadsOutput p mid o → (next : Shown × AreaRead → Form Command) → IsAhead old (output_and_area next) → WantsWord old → WantsWord mid
  area_due (Some how) t next h d = area_wanted (λ a. next (how, a)) mid
      (next_read (output_and_area next) (an_area (λ a. next (how, a))) p mid t.0 t.2 (λ more. ap live (output_goes next how t.0 more t.1 (not_bounds t.0 t.2))) (subst (λ (x : Place). IsAhead x (output_and_area next)) (sym n.0) h))
  area_due None t next h d = subst WantsWord (sym n.0 ∙ sym t.0) d

  moved : (o : Option Shown) → ReadsOutput p mid o → Moves old mid
  moved (Some how) t = subst (λ (x : Place). Moves x mid) n.0 (moves t.0 p mid t.2)
  moved None t = subst (λ (x : Place). Moves old x) (sym n.0 ∙ sym t.0) (record { words = refl; fewer = omega arith })

  pub area_found : (o : Option Shown) → ReadsOutput p mid o → (a : AreaRead) → ParsesAhead an_area mid new (Ok a) → ParsesAhead output_and_area old new (Ok (unwrap_or o shown.Objects, a))
  area_found o t a k = (moves_on old mid new (moved o t) k.0, λ next h. k.1 (λ x. next (unwrap_or o shown.Objects, x)) (area_ahead o t next h))

  pub area_refused : (o : Option Shown) → ReadsOutput p mid o → (why : CommandFault) → ParsesAhead an_area mid new (Err why) → ParsesAhead output_and_area old new (Err why)
  area_refused o t why (inl m) = inl m
  area_refused o t why (inr r) = inr (λ next h d. subst (λ ws. answers ws ≡ Err why) (moved o t).words (r (λ x. next (unwrap_or o shown.Objects, x)) (area_ahead o t next h) (area_due o t next h d)))

-- behind BOUNDS: an area is next, so that it was an output

no_box : (w : Bytes) (more : List Bytes) (g : Bounds → Form Command) → (kind : AreaWord) → is_word w (area_name kind) ≡ true → (four >>= g) (w ∷ more) ≡ []
no_box w more g at.Bounds e = let none = no_coordinate_word w 98 (codes "ounds") (lower_word w (codes "BOUNDS") e) (omega arith) in rw none refl
no_box w more g at.Object e = let none = no_coordinate_word w 111 (codes "bject") (lower_word w (codes "OBJECT") e) (omega arith) in rw none refl
no_box w more g at.Circle e = let none = no_coordinate_word w 99 (codes "ircle") (lower_word w (codes "CIRCLE") e) (omega arith) in rw none refl
no_box w more g at.Get e = let none = no_coordinate_word w 103 (codes "et") (lower_word w (codes "GET") e) (omega arith) in rw none refl

module _ (old mid new : Place) (kind : AreaWord) (t : TakesArea old mid (Some kind)) where
  behind_follows : (next : Shown × AreaRead → Form Command) → Follows old (box_or_area next) → Follows mid (behind_area kind (λ a. next (shown.Bounds, a)))
  behind_follows next h = step (box_or_area next) (behind_area kind (λ a. next (shown.Bounds, a))) old mid t.0 t.2
      (λ more. ap live (ap (λ (l : List (Reading Command)). l ++ an_area (λ a. next (shown.Bounds, a)) (t.0 ∷ more)) (no_box t.0 more (λ b. next (shown.Objects, box_area b)) kind t.1) ∙ area_goes (λ a. next (shown.Bounds, a)) more kind t.0 t.1)) h

  pub second_found : (a : AreaRead) → Parses (behind_area kind) mid new (Ok a) → Parses box_or_area old new (Ok (shown.Bounds, a))
  second_found a k = (moves_on old mid new (moves t.0 old mid t.2) k.0, λ next h. k.1 (λ x. next (shown.Bounds, x)) (behind_follows next h))

  pub second_refused : (why : CommandFault) → Parses (behind_area kind) mid new (Err why) → Parses box_or_area old new (Err why)
  second_refused why (inl m) = inl m
  second_refused why (inr r) = inr (λ next h. subst (λ ws. answers ws ≡ Err why) (moves t.0 old mid t.2).words (r (λ x. next (shown.Bounds, x)) (behind_follows next h)))

-- behind BOUNDS: no area is next, so that it is one

module _ (old mid new : Place) (t : TakesArea old mid None) where
  silent : (next : Shown × AreaRead → Form Command) → IsSilent (an_area (λ a. next (shown.Bounds, a))) mid.left
  silent next = record {
    next = λ w rest l more. area_stops (λ a. next (shown.Bounds, a)) w rest more (subst LacksArea (ap (λ (x : Place). x.left) (sym t.0) ∙ l) t.1);
    due = (tt, (tt, (tt, (tt, tt))));
  }

  pub box_found : (b : Bounds) → ReadsBeside four mid new (Ok b) → Parses box_or_area old new (Ok (shown.Objects, box_area b))
  box_found b k = subst (λ (x : Place). Parses box_or_area x new (Ok (shown.Objects, box_area b))) t.0
      (k.0, λ next h. k.1 (λ x. next (shown.Objects, box_area x)) (an_area (λ a. next (shown.Bounds, a))) (silent next) h)

  pub box_faults : (why : CommandFault) → ReadsBeside four mid new (Err why) → Parses box_or_area old new (Err why)
  box_faults why (inl m) = inl m
  box_faults why (inr r) = subst (λ (x : Place). Parses box_or_area x new (Err why)) t.0
      (inr (λ next h. r (λ x. next (shown.Objects, box_area x)) (an_area (λ a. next (shown.Bounds, a))) (silent next) h))

-- a whole WITHIN or INTERSECTS

-- what was read behind the options, where words are due behind them
module _ {A : Type 0} (form : (A → Form Command) → Form Command) (make : Bytes → SearchOptions → A → Form Command) (quiet : (key : Bytes) → IsNoOption (search_table false) (λ o. form (make key o)))
    (due : (next : A → Form Command) → (first : Reading Command) × (others : List (Reading Command)) × (form next [] ≡ first ∷ others) × Each IsWordDue (first ∷ others))
    (old behind_key : Place) (key : Bytes) (a : Parses a_name old behind_key (Ok key)) (h : Follows old (a_name (λ k. options_then (search_table false) no_search_options (λ o. form (make k o))))) (mid : Place) (o : SearchOptions) (g : ReadsOptions (search_table false) no_search_options behind_key mid (Ok o)) where
  form_ahead : IsAhead mid (form (make key o))
  form_ahead = next_ahead (search_table false) (search_laws false) no_search_options (λ k p. form (make k p)) quiet old behind_key key a h mid o g

  words_are : all_words mid ≡ all_words old
  words_are = same_words (search_table false) (search_laws false) no_search_options (λ k p. form (make k p)) quiet old behind_key key a h mid o g

  form_wanted : WantsWord mid
  form_wanted =
      let d = due (make key o) in
      let next : SearchOptions → Form Command = λ p. form (make key p) in
      let rest : List (Reading Command) = behind_options (search_table false) (search_laws false) o next in
      let all_due : Each IsWordDue (d.0 ∷ (d.1 ++ rest)) = each_append IsWordDue (d.0 ∷ d.1) rest d.3 (options_due (search_table false) (search_laws false) o next) in
      let there : options_then (search_table false) o next [] ≡ d.0 ∷ (d.1 ++ rest) = unroll (search_table false) (search_laws false) o next [] ∙ ap (λ (l : List (Reading Command)). l ++ rest) d.2 in
      wants_by mid d.0 (d.1 ++ rest) (now mid (options_then (search_table false) o next) (options_done (search_table false) (search_laws false) no_search_options (λ k p. form (make k p)) quiet old behind_key key a h mid o g) ∙ ap live there ∙ due_live (d.0 ∷ (d.1 ++ rest)) all_due) all_due

  pub form_refused : (new : Place) (why : CommandFault) → ParsesAhead form mid new (Err why) → Answers (all_words old) (Err why)
  form_refused new why (inl m) = inl m
  form_refused new why (inr r) = inr (subst (λ ws. answers ws ≡ Err why) words_are (r (make key o) form_ahead form_wanted))

  module _ (new : Place) (x : A) (k : ParsesAhead form mid new (Ok x)) where
    pub made_follows : Follows new (make key o x)
    made_follows = k.1 (make key o) form_ahead

    pub made_words : all_words new ≡ all_words old
    made_words = k.0.words ∙ words_are

abbrev pub search_made : Kind → Bytes → SearchOptions → Shown × AreaRead → Form Command
search_made kind key o x = done (search_of kind key o x)

abbrev pub nearby_made : Bytes → SearchOptions → Shown × Point → Form Command
nearby_made key o x = reach_of (nearby_of key o x)

pub area_is_due : (next : Shown × AreaRead → Form Command) → (first : Reading Command) × (others : List (Reading Command)) × (output_and_area next [] ≡ first ∷ others) × Each IsWordDue (first ∷ others)
area_is_due next = (runs_out a_word, _, refl, (tt, (tt, (tt, (tt, (tt, (tt, (tt, (tt, (tt, tt))))))))))

pub point_is_due : (next : Shown × Point → Form Command) → (first : Reading Command) × (others : List (Reading Command)) × (output_and_point next [] ≡ first ∷ others) × Each IsWordDue (first ∷ others)
point_is_due next = (runs_out a_word, _, refl, (tt, (tt, (tt, (tt, (tt, (tt, tt)))))))

module _ (kind : Kind) (old behind_key : Place) (key : Bytes) (a : Parses a_name old behind_key (Ok key)) (h : Follows old (a_name (behind_search kind))) (mid new : Place) (o : SearchOptions) (g : ReadsOptions (search_table false) no_search_options behind_key mid (Ok o)) where
  pub search_refused : (why : CommandFault) → ParsesAhead output_and_area mid new (Err why) → Answers (all_words old) (Err why)
  search_refused why r = form_refused output_and_area (search_made kind) (no_option_word kind) area_is_due old behind_key key a h mid o g new why r

  module _ (x : Shown × AreaRead) (k : ParsesAhead output_and_area mid new (Ok x)) where
    follows : Follows new (done (search_of kind key o x))
    follows = made_follows output_and_area (search_made kind) (no_option_word kind) area_is_due old behind_key key a h mid o g new x k

    same : all_words new ≡ all_words old
    same = made_words output_and_area (search_made kind) (no_option_word kind) area_is_due old behind_key key a h mid o g new x k

    pub search_not_ended : (why : CommandFault) → IsEnd (λ _. wrong_count (all_words new)) new (Err why) → Answers (all_words old) (Err why)
    search_not_ended why e = subst (λ ws. Answers ws (Err why)) same (end_refused new (search_of kind key o x) why e follows)

    pub search_read : new.left ≡ [] → reads (all_words old) ≡ Ok (search_of kind key o x)
    search_read l = subst (λ ws. reads ws ≡ Ok (search_of kind key o x)) same (finished new (search_of kind key o x) l follows)

-- a whole NEARBY

module _ (next : Shown × Point → Form Command) where
  point_goes : (how : Shown) (w : Bytes) (more : List Bytes) → is_word w (output_name how) ≡ true → output_and_point next (w ∷ more) ≡ a_point (λ p. next (how, p)) more
  point_goes shown.Count w more e = rw (lower_word w (codes "COUNT") e) (append-nil (a_point (λ p. next (shown.Count, p)) more))
  point_goes shown.Ids w more e = rw (lower_word w (codes "IDS") e) (append-nil (a_point (λ p. next (shown.Ids, p)) more))
  point_goes shown.Objects w more e = rw (lower_word w (codes "OBJECTS") e) (append-nil (a_point (λ p. next (shown.Objects, p)) more))
  point_goes shown.Points w more e = rw (lower_word w (codes "POINTS") e) (append-nil (a_point (λ p. next (shown.Points, p)) more))
  point_goes shown.Bounds w more e = rw (lower_word w (codes "BOUNDS") e) (append-nil (a_point (λ p. next (shown.Bounds, p)) more))

  no_output_goes : (w : Bytes) (rest more : List Bytes) → ((how : Shown) → IsNot (output_name how) (w ∷ rest)) → output_and_point next (w ∷ more) ≡ a_point (λ p. next (shown.Objects, p)) (w ∷ more)
  no_output_goes w rest more n =
      let no_count = n shown.Count in
      let no_ids = n shown.Ids in
      let no_objects = n shown.Objects in
      let no_points = n shown.Points in
      let no_bounds = n shown.Bounds in
      rw (no_count, no_ids, no_objects, no_points, no_bounds) (append-nil _)

abbrev with_shown : Option Shown → Result Point CommandFault → Result (Shown × Point) CommandFault
with_shown o (Ok p) = Ok (unwrap_or o shown.Objects, p)
with_shown o (Err why) = Err why

module _ (old mid : Place) where
  point_follows : (how : Shown) → ReadsOutput old mid (Some how) → (next : Shown × Point → Form Command) → IsAhead old (output_and_point next) → Follows mid (a_point (λ p. next (how, p)))
  point_follows how t next h = next_read (output_and_point next) (a_point (λ p. next (how, p))) old mid t.0 t.2 (λ more. ap live (point_goes next how t.0 more t.1)) h

  point_ahead : (o : Option Shown) → ReadsOutput old mid o → (next : Shown × Point → Form Command) → IsAhead old (output_and_point next) → IsAhead mid (a_point (λ p. next (unwrap_or o shown.Objects, p)))
  point_ahead (Some how) t next h = ahead mid (a_point (λ p. next (how, p))) (point_follows how t next h)
  point_ahead None t next h = ahead_same mid (output_and_point next) (a_point (λ p. next (shown.Objects, p)))
      (λ w rest l more. ap live (no_output_goes next w rest more (λ how. subst (IsNot (output_name how)) (ap (λ (x : Place). x.left) (sym t.0) ∙ l) (t.1 how)))) (subst (λ (x : Place). IsAhead x (output_and_point next)) (sym t.0) h)

  point_due : (o : Option Shown) → ReadsOutput old mid o → (next : Shown × Point → Form Command) → IsAhead old (output_and_point next) → WantsWord old → WantsWord mid
  point_due (Some how) t next h d = wants_by mid (runs_out a_word) [] (now mid (a_point (λ p. next (how, p))) (point_follows how t next h)) (tt, tt)
  point_due None t next h d = subst WantsWord (sym t.0) d

  output_moved : (o : Option Shown) → ReadsOutput old mid o → Moves old mid
  output_moved (Some how) t = moves t.0 old mid t.2
  output_moved None t = subst (λ (x : Place). Moves old x) (sym t.0) (record { words = refl; fewer = omega arith })

  -- behind the output or none
  behind_output : (new : Place) (o : Option Shown) → ReadsOutput old mid o → (r : Result Point CommandFault) → ParsesAhead a_point mid new r → ParsesAhead output_and_point old new (with_shown o r)
  behind_output new o t (Ok p) k = (moves_on old mid new (output_moved o t) k.0, λ next h. k.1 (λ x. next (unwrap_or o shown.Objects, x)) (point_ahead o t next h))
  behind_output new o t (Err why) (inl m) = inl m
  behind_output new o t (Err why) (inr r) = inr (λ next h d. subst (λ ws. answers ws ≡ Err why) (output_moved o t).words (r (λ x. next (unwrap_or o shown.Objects, x)) (point_ahead o t next h) (point_due o t next h d)))

  pub no_point_next : (q new : Place) (o : Option Shown) → ReadsOutput old mid o → Took (codes "POINT") mid q false → (why : CommandFault) → IsRefusal (all_words q) q.left why → ParsesAhead output_and_point old new (Err why)
  no_point_next q new o t n why r = behind_output new o t (Err why) (none_ahead a_point mid q new why n.0 (λ next w rest l. let other : is_word w (codes "POINT") ≡ false = subst (IsNot (codes "POINT")) l n.1 in rw other refl) r)

  module _ (new q : Place) (o : Option Shown) (t : ReadsOutput old mid o) (n : Took (codes "POINT") mid q true) where
    lat_lon_follows : (next : Point → Form Command) → IsAhead mid (a_point next) → Follows q (lat_lon >>= next)
    lat_lon_follows next h = next_read (a_point next) (lat_lon >>= next) mid q n.0 n.2 (λ more. rw (lower_word n.0 (codes "POINT") n.1) (ap live (append-nil ((lat_lon >>= next) more)))) h

    pub point_found : (p : Point) → Reads lat_lon q new (Ok p) → ParsesAhead output_and_point old new (Ok (unwrap_or o shown.Objects, p))
    point_found p k = behind_output new o t (Ok p) (moves_on mid q new (moves n.0 mid q n.2) k.0, λ next h. k.1 next (lat_lon_follows next h))

    pub point_refused : (why : CommandFault) → Reads lat_lon q new (Err why) → ParsesAhead output_and_point old new (Err why)
    point_refused why (inl m) = inl m
    point_refused why (inr r) = behind_output new o t (Err why) (inr (λ next h d. subst (λ ws. answers ws ≡ Err why) (moves n.0 mid q n.2).words (r next (lat_lon_follows next h))))

-- the meters at the end

reach_there : (make : Option ℕ → Command) → live (reach_of make []) ≡ spells (make None) [] ∷ runs_out a_word ∷ []
reach_there make = refl

pub no_reach : (old : Place) → old.left ≡ [] → ReadsReach old (Ok None)
no_reach old l make h = ends old (reach_of make) (make None) (runs_out a_word ∷ []) (reach_there make) l h

module _ (old mid : Place) (w : Bytes) (b : IsBehind w old mid) where
  pub reach_refused : (why : CommandFault) → IsOne a_word (natural_within 0 max_meters) w (Err why) → ReadsReach old (Err why)
  reach_refused why (inl m) = inl m
  reach_refused why (inr e) = inr (λ make h. ap answered (stops old (reach_of make) (make None) (runs_out a_word ∷ []) w mid.left (reach_there make) refl refl refl b.left (let none = e.0 in rw none refl) h) ∙ ap Err (sym e.1))

  module _ (n : ℕ) (e : natural_within 0 max_meters w ≡ Some n) where
    reach_follows : (make : Option ℕ → Command) → Follows old (reach_of make) → Follows mid (done (make (Some n)))
    reach_follows make h = step (reach_of make) (done (make (Some n))) old mid w b (λ more. rw e refl) h

    pub reach_not_ended : (why : CommandFault) → IsEnd (λ _. wrong_count (all_words mid)) mid (Err why) → ReadsReach old (Err why)
    reach_not_ended why (v, rest, l, inl m) = inl m
    reach_not_ended why (v, rest, l, inr f) = inr (λ make h. subst (λ ws. answers ws ≡ Err why) (moves w old mid b).words (ap answered (unfinished mid v rest (make (Some n)) l (reach_follows make h)) ∙ ap Err (sym f)))

    pub reach_read : mid.left ≡ [] → ReadsReach old (Ok (Some n))
    reach_read l make h = subst (λ ws. reads ws ≡ Ok (make (Some n))) (moves w old mid b).words (finished mid (make (Some n)) l (reach_follows make h))

module _ (old behind_key : Place) (key : Bytes) (a : Parses a_name old behind_key (Ok key)) (h : Follows old (a_name behind_nearby)) (mid new : Place) (o : SearchOptions) (g : ReadsOptions (search_table false) no_search_options behind_key mid (Ok o)) where
  pub nearby_refused : (why : CommandFault) → ParsesAhead output_and_point mid new (Err why) → Answers (all_words old) (Err why)
  nearby_refused why r = form_refused output_and_point nearby_made no_option_point point_is_due old behind_key key a h mid o g new why r

  module _ (x : Shown × Point) (k : ParsesAhead output_and_point mid new (Ok x)) where
    reach_ahead : Follows new (reach_of (nearby_of key o x))
    reach_ahead = made_follows output_and_point nearby_made no_option_point point_is_due old behind_key key a h mid o g new x k

    same_all : all_words new ≡ all_words old
    same_all = made_words output_and_point nearby_made no_option_point point_is_due old behind_key key a h mid o g new x k

    pub nearby_not_ended : (why : CommandFault) → ReadsReach new (Err why) → Answers (all_words old) (Err why)
    nearby_not_ended why (inl m) = inl m
    nearby_not_ended why (inr r) = inr (subst (λ ws. answers ws ≡ Err why) same_all (r (nearby_of key o x) reach_ahead))

    pub nearby_read : (reach : Option ℕ) → ReadsReach new (Ok reach) → reads (all_words old) ≡ Ok (nearby_of key o x reach)
    nearby_read reach r = subst (λ ws. reads ws ≡ Ok (nearby_of key o x reach)) same_all (r (nearby_of key o x) reach_ahead)
