-- Every beginning of a command can be finished.
use Rattle.std.proofs.Common.{◌≡◌, ◌⊎◌, inl, inr, ℕ, ℤ, pos, Bool, true, false, refl, sym, subst, List, [], ◌∷◌, ◌++◌, length, arith, suc, zero, ◌+◌}
use Rattle.std.specs.Prelude.{map, Option, Some, None, codes, nat_lt, is_none, not, ◌&&◌, neg_ℤ, int_le, decimal, option_and_then, if◌then◌else◌}
use Rattle.std.specs.Fmt.{signed_decimal, digits}
use Rattle.std.specs.Str.{chars, is_utf8, str_to_ascii_lowercase}
use Rattle.std.specs.List.{AllByRecursion}
use Rattle.byte_text.specs.Names.{Bytes, is_word}
use Rattle.byte_text.specs.Numbers.{whole, whole_within}
use Rattle.byte_text.specs.Globs.{is_well_formed}
use Rattle.planar_geom.specs.Points.{pt}
use Rattle.geo_text.specs.Texts.{shape_of}
use Rattle.world_data.specs.Limits.{max_coord, max_tests}
use Rattle.world_model.specs.Grammar.{a_word, a_coordinate, a_geojson, Reading, spells, runs_out, Form, ◌>>=◌, ◌>>◌, done, ◌or◌, one_of, where_, word, maybe, at_most_times, repeated, once_or_more, times, live, spelled}
use Rattle.world_model.specs.Kinds.{name, glob, value, value_of_word, between, meters, seconds, coordinate_from, coordinate, lat_lon, four, geojson, bound, text, text_of_word, again, same_text, list_of}
use Rattle.world_model.specs.Commands as table
use Rattle.world_data.specs.declared.values.Value.TheVariants.{Whole}
use Rattle.world_data.specs.declared.channels.Kind.{Kind}
use Rattle.world_data.specs.declared.channels.Kind.TheVariants.{Within, Intersects, Near}
use Rattle.planar_geom.specs.declared.shapes.Area.TheVariants.{Disc}
use Rattle.world_data.specs.declared.queries.Shown.TheVariants as shown
use Rattle.world_data.specs.declared.channels.Watch.TheVariants as watch
use Rattle.world_model.specs.declared.commands.Command.{Command}
use Rattle.world_model.specs.declared.commands.Command.TheVariants as command
use Rattle.world_model.specs.declared.object_commands.ObjectCommand.TheVariants as of_object
use Rattle.world_model.specs.declared.search_commands.SearchCommand.TheVariants as of_search
use Rattle.std.proofs.lemmas.Bool.Decides.{nat_tests}
use Rattle.std.proofs.lemmas.List.{append-nil}
use Rattle.byte_text.specs.ByteOrder.{same_refl}
use Rattle.world_model.specs.FormLaws.{Out, Spells, Takes, Fair, fair_done, fair_or, fair_bind, fair_word, fair_times, takes_word, takes_bind, takes_or, takes_where, spells_left, spells_right}
use Rattle.world_model.specs.PrefixLaws.{Taking}
use Rattle.world_model.specs.RowLaws.{of_families}
use Rattle.world_data.specs.declared.queries.Rule.TheVariants.{InArea, Nearest}
use Rattle.world_model.specs.MadeForms.{Makes, makes_done, makes_none, makes_behind, makes_then, makes_any, makes_word, makes_if, first}
use Rattle.worked_examples.proofs.Finishing.{Finished, Weak, Good, good_done, good_or, good_or_weak, weak_or, weak_none, weak_where, good_word, good_any, weak_any, good_bind, good_repeated, good_loop, through}

-- kinds of word

good_the_word : (n : Bytes) → Good (word n)
good_the_word n = good_word a_word (λ w. if is_word w n then Some n else None) n n (rw (same_refl (str_to_ascii_lowercase n)) refl)

pub good_name : Good name
unfolding chars is_utf8 lib.Utf8.encode
good_name = good_word a_word _ (codes "a") (codes "a") refl

good_glob : Good glob
unfolding chars is_utf8 lib.Utf8.encode is_well_formed
good_glob = good_word a_word _ (codes "a") (codes "a") refl

good_value : Good value
unfolding chars is_utf8 lib.Utf8.encode digits
good_value = good_word a_word value_of_word (codes "0") (Whole (pos 0)) refl

good_meters : Good meters
unfolding digits
good_meters = good_word a_word _ (codes "0") 0 refl

good_seconds : Good seconds
unfolding digits
good_seconds = good_word a_word _ (codes "1") 1 refl

good_cursor : Good (between 0 4294967295)
unfolding digits
good_cursor = good_word a_word _ (codes "0") 0 refl

good_limit : Good (between 1 1000000)
unfolding digits
good_limit = good_word a_word _ (codes "1") 1 refl

good_count : Good (between 1 256)
unfolding digits
good_count = good_word a_word _ (codes "1") 1 refl

good_coordinate : Good coordinate
unfolding digits
good_coordinate = good_word a_coordinate _ (codes "0") (pos 0) refl

good_geojson : Good geojson
unfolding shape_of digits
good_geojson = good_word a_geojson _ (codes "{\"type\":\"Point\",\"coordinates\":[0,0]}") _ refl

good_bound : Good bound
good_bound = good_word a_word _ (codes "inf") None refl

good_text : Good text
unfolding chars is_utf8 lib.Utf8.encode digits
good_text = good_word a_word text_of_word (codes "a") (codes "a") refl

good_again : (t : Bytes) → Good (again t)
good_again t = good_word a_word (same_text t) t t (rw (same_refl t) refl)

good_detect : Good (list_of table.detect_names)
good_detect = good_word a_word _ (codes "inside") _ refl

good_commands : Good (list_of table.command_names)
good_commands = good_word a_word _ (codes "set") _ refl

good_two : {A B : Type 0} (f : Form A) (g : Form B) → Good f → Good g → Good (f >> g)
good_two f g p q = good_any f (λ _. g) p (λ a. q)

weak_two : {A B : Type 0} (f : Form A) (g : Form B) → Weak f → Good g → Weak (f >> g)
weak_two f g p q = weak_any f (λ _. g) p (λ a. q)

-- behind a word of the command's own
said : {B : Type 0} (called : Bytes) (g : Form B) → Good g → Good (word called >> g)
said called g q = good_two (word called) g (good_the_word called) q

good_lat_lon : Good lat_lon
good_lat_lon = good_any coordinate _ good_coordinate (λ lat. good_any coordinate _ good_coordinate (λ lon. good_done (pt lon lat)))

abbrev IsBelow : ℤ → Type 0
IsBelow z = int_le z (pos max_coord) ≡ true

below_is : (low z : ℤ) (o : Option ℤ) → option_and_then (λ x. if int_le low x && int_le x (pos max_coord) then Some x else None) o ≡ Some z → IsBelow z
below_is low z None e = absurd cc
below_is low z (Some x) e = by_test (int_le low x) (int_le x (pos max_coord)) refl refl e
  where
    by_test : (a b : Bool) → int_le low x ≡ a → int_le x (pos max_coord) ≡ b → (if a && b then Some x else None) ≡ Some z → IsBelow z
    by_test true true p q f = let same : x ≡ z = cc in subst IsBelow same q
    by_test true false p q f = absurd cc
    by_test false b p q f = absurd cc

makes_below : Makes IsBelow coordinate
makes_below = makes_word IsBelow a_coordinate (whole_within (neg_ℤ (pos max_coord)) (pos max_coord)) (λ w z e. below_is (neg_ℤ (pos max_coord)) z (whole w) e)

good_from : (low : ℤ) → IsBelow low → Good (coordinate_from low)
unfolding digits
good_from low below = good_word a_coordinate (whole_within low (pos max_coord)) (codes "1000000000") (pos 1000000000) (rw below refl)

good_four : Good four
good_four = good_bind IsBelow coordinate _ good_coordinate makes_below (λ a p. good_bind IsBelow coordinate _ good_coordinate makes_below (λ b q. good_any (coordinate_from a) _ (good_from a p) (λ c. good_any (coordinate_from b) _ (good_from b q) (λ d. good_done _))))

good_times : {A : Type 0} (n : ℕ) (f : Form A) → Good f → Good (times n f)
good_times zero f p = good_done []
good_times (suc n) f p = good_any f _ p (λ a. good_any (times n f) _ (good_times n f p) (λ rest. good_done (a ∷ rest)))

-- tests, options, places and areas

good_field : Good table.field
good_field = good_any name _ good_name (λ n. good_any value _ good_value (λ v. good_done (n, v)))

good_range : (n : Bytes) → Good (table.where_range n)
good_range n = good_any bound _ good_bound (λ a. good_any bound _ good_bound (λ b. good_done _))

good_same : (n : Bytes) → Good (table.where_same n)
good_same n = good_any text _ good_text (λ t. good_any (again t) _ (good_again t) (λ u. good_done _))

good_test : Good table.test
good_test = good_or table.where_test table.wherein_test
    (said (codes "WHERE") _ (good_any name _ good_name (λ n. good_or (table.where_range n) (table.where_same n) (good_range n) (good_same n))))
    (said (codes "WHEREIN") _ (good_any name _ good_name (λ n. good_any (between 1 256) _ good_count (λ count. good_any (times count value) _ (good_times count value good_value) (λ values. good_done _)))))

alternative : {A : Type 0} {f g : Form A} → Weak f → Weak g → Weak (f or g)
alternative {f = f} {g = g} p q = weak_or f g p q

first_good : {A : Type 0} {f g : Form A} → Good f → Weak g → Good (f or g)
first_good {f = f} {g = g} p q = good_or_weak f g p q

done_behind : {A B : Type 0} (f : Form A) (make : A → B) → Good f → Good (f >>= λ a. done (make a))
done_behind f make p = good_any f (λ a. done (make a)) p (λ a. good_done (make a))

weak_set_option : (o : table.SetOptions) → Weak (table.set_option o)
weak_set_option o =
    alternative (done_behind (word (codes "FIELD") >> table.field) _ (said (codes "FIELD") table.field good_field)).weak (
    alternative (weak_where (is_none o.after_ex) _ (done_behind (word (codes "EX") >> seconds) _ (said (codes "EX") seconds good_seconds)).weak) (
    alternative (weak_where (is_none o.only) _ (said (codes "NX") _ (good_done _)).weak) (
    alternative (weak_where (is_none o.only) _ (said (codes "XX") _ (good_done _)).weak) weak_none)))

good_place : Good table.place
good_place =
    first_good (done_behind (word (codes "POINT") >> lat_lon) _ (said (codes "POINT") lat_lon good_lat_lon)) (
    alternative (done_behind (word (codes "BOUNDS") >> four) _ (said (codes "BOUNDS") four good_four)).weak (
    alternative (said (codes "OBJECT") geojson good_geojson).weak weak_none))

weak_search_option : (ordered : Bool) (o : table.SearchOptions) → Weak (table.search_option ordered o)
weak_search_option ordered o =
    alternative (weak_where (is_none o.glob) _ (done_behind (word (codes "MATCH") >> glob) _ (said (codes "MATCH") glob good_glob)).weak) (
    alternative (weak_where (is_none o.cursor) _ (done_behind (word (codes "CURSOR") >> between 0 4294967295) _ (said (codes "CURSOR") _ good_cursor)).weak) (
    alternative (weak_where (is_none o.limit) _ (done_behind (word (codes "LIMIT") >> between 1 1000000) _ (said (codes "LIMIT") _ good_limit)).weak) (
    alternative (weak_where (not o.bare) _ (said (codes "NOFIELDS") _ (good_done _)).weak) (
    alternative (weak_where (ordered && is_none o.down) _ (said (codes "ASC") _ (good_done _)).weak) (
    alternative (weak_where (ordered && is_none o.down) _ (said (codes "DESC") _ (good_done _)).weak) (
    alternative (weak_where (nat_lt (length o.tests) max_tests) _ (done_behind table.test _ good_test).weak) weak_none))))))

good_search_options : (ordered : Bool) → Good (repeated (table.search_option ordered) table.no_search_options)
good_search_options ordered = good_repeated (λ o. Unit {0}) (table.search_option ordered) (λ o r. weak_search_option ordered o) (λ o r. makes_any (table.search_option ordered o)) table.no_search_options tt

good_maybe : {A : Type 0} (absent : A) (f : Form A) → Weak f → Good (maybe absent f)
good_maybe absent f p = good_or_weak (done absent) f (good_done absent) p

weak_output : Weak table.output
weak_output = alternative (said (codes "COUNT") _ (good_done _)).weak (alternative (said (codes "IDS") _ (good_done _)).weak (alternative (said (codes "OBJECTS") _ (good_done _)).weak (
    alternative (said (codes "POINTS") _ (good_done _)).weak (alternative (said (codes "BOUNDS") _ (good_done _)).weak weak_none))))

weak_shown : Weak table.as_objects
weak_shown = alternative (said (codes "OBJECT") _ (good_done _)).weak (alternative (said (codes "POINT") _ (good_done _)).weak (alternative (said (codes "BOUNDS") _ (good_done _)).weak weak_none))

good_area : Good table.area
good_area =
    first_good (done_behind (word (codes "BOUNDS") >> four) _ (said (codes "BOUNDS") four good_four)) (
    alternative (done_behind (word (codes "OBJECT") >> geojson) _ (said (codes "OBJECT") geojson good_geojson)).weak (
    alternative (good_any (word (codes "CIRCLE") >> lat_lon) _ (said (codes "CIRCLE") lat_lon good_lat_lon) (λ p. done_behind meters _ good_meters)).weak (
    alternative (good_any (word (codes "GET") >> name) _ (said (codes "GET") name good_name) (λ key. done_behind name _ good_name)).weak weak_none)))

-- commands

good_set : Good table.set_words
good_set = good_any name _ good_name (λ key. good_any name _ good_name (λ id. good_any (repeated table.set_option _) _
    (good_repeated (λ o. Unit {0}) table.set_option (λ o r. weak_set_option o) (λ o r. makes_any (table.set_option o)) _ tt) (λ o. done_behind table.place _ good_place)))

good_get : Good table.get_words
good_get = good_any name _ good_name (λ key. good_any name _ good_name (λ id. good_any (maybe false (word (codes "WITHFIELDS") >> done true)) _ (good_maybe false _ (said (codes "WITHFIELDS") _ (good_done true)).weak) (λ fields.
    done_behind (maybe shown.Objects table.as_objects) (λ how. command.Object (of_object.Get key id fields how)) (good_maybe shown.Objects table.as_objects weak_shown))))

good_pair : (make : Bytes → Bytes → Command) → Good (table.of_key_and_id make)
good_pair make = good_any name _ good_name (λ key. done_behind name _ good_name)

good_single : (kind : Form Bytes) (make : Bytes → Command) → Good kind → Good (table.of_one kind make)
good_single kind make p = done_behind kind make p

good_once : {S : Type 0} (step : S → Form S) → ((s : S) → Good (step s)) → (s : S) → Good (once_or_more step s)
good_once step p s = good_any (step s) (repeated step) (p s) (λ t. good_repeated (λ o. Unit {0}) step (λ o r. (p o).weak) (λ o r. makes_any (step o)) t tt)

good_some : (kind : Form Bytes) (make : List Bytes → Command) → Good kind → Good (table.of_some kind make)
good_some kind make p = done_behind (once_or_more (λ read. kind >>= λ w. done (read ++ w ∷ [])) []) make (good_once (λ read. kind >>= λ w. done (read ++ w ∷ [])) (λ read. done_behind kind (λ w. read ++ w ∷ []) p) [])

good_pdel : Good table.pdel_words
good_pdel = good_any name _ good_name (λ key. done_behind glob _ good_glob)

good_fset : Good table.fset_words
good_fset = good_any name _ good_name (λ key. good_any name _ good_name (λ id. done_behind (once_or_more (λ read. table.field >>= λ f. done (read ++ f ∷ [])) []) _
    (good_once (λ read. table.field >>= λ f. done (read ++ f ∷ [])) (λ read. done_behind table.field (λ f. read ++ f ∷ []) good_field) [])))

good_fget : Good table.fget_words
good_fget = good_any name _ good_name (λ key. good_any name _ good_name (λ id. done_behind name _ good_name))

good_expire : Good table.expire_words
good_expire = good_any name _ good_name (λ key. good_any name _ good_name (λ id. done_behind seconds _ good_seconds))

good_how : Good (maybe shown.Objects table.output)
good_how = good_maybe shown.Objects table.output weak_output

good_scan : Good table.scan_words
good_scan = good_any name _ good_name (λ key. good_any (repeated (table.search_option true) table.no_search_options) _ (good_search_options true) (λ o. done_behind (maybe shown.Objects table.output) (λ how. command.Search (of_search.Scan key (table.query_of o how (table.scan_rule o.down)))) good_how))

good_search : (kind : Kind) → Good (table.area_words kind)
good_search kind = good_any name _ good_name (λ key. good_any (repeated (table.search_option false) table.no_search_options) _ (good_search_options false) (λ o.
    good_any (maybe shown.Objects table.output) _ good_how (λ how. done_behind table.area (λ a. command.Search (of_search.Area key (table.query_of o how (InArea kind a.area)) a.from)) good_area)))

good_nearby : Good table.nearby_words
good_nearby = good_any name _ good_name (λ key. good_any (repeated (table.search_option false) table.no_search_options) _ (good_search_options false) (λ o.
    good_any (maybe shown.Objects table.output) _ good_how (λ how. said (codes "POINT") _ (good_any lat_lon _ good_lat_lon (λ at.
    done_behind (maybe None (meters >>= λ r. done (Some r))) (λ reach. command.Search (of_search.Nearby key (table.query_of o how Nearest) at reach)) (good_maybe None _ (done_behind meters (λ r. Some r) good_meters).weak))))))

-- channels

abbrev Options : Type 0
Options = table.FenceOptions

weak_fence_option : (near : Bool) (o : Options) → Weak (table.fence_option near o)
weak_fence_option near o =
    alternative (weak_where (is_none o.glob) _ (done_behind (word (codes "MATCH") >> glob) _ (said (codes "MATCH") glob good_glob)).weak) (
    alternative (weak_where (nat_lt (length o.tests) max_tests) _ (done_behind table.test _ good_test).weak) (
    alternative (weak_where (not o.fence) _ (said (codes "FENCE") _ (good_done _)).weak) (
    alternative (weak_where (is_none o.detect && not o.nodwell) _ (done_behind (word (codes "DETECT") >> list_of table.detect_names) _ (said (codes "DETECT") _ good_detect)).weak) (
    alternative (weak_where (is_none o.commands) _ (done_behind (word (codes "COMMANDS") >> list_of table.command_names) _ (said (codes "COMMANDS") _ good_commands)).weak) (
    alternative (weak_where (near && not o.nodwell && is_none o.detect) _ (said (codes "NODWELL") _ (good_done _)).weak) weak_none)))))

-- each option takes a word

after_word : {B : Type 0} (n : Bytes) (g : Form B) → Fair g → Takes (word n >> g)
after_word n g fair = takes_bind (word n) (λ _. g) (takes_word a_word _) (λ _. fair)

takes_test : Takes table.test
takes_test = takes_or table.where_test table.wherein_test
    (after_word (codes "WHERE") _ (search (fair_bind, fair_done, fair_or, fair_word) depth 40 fits 2000))
    (after_word (codes "WHEREIN") _ (fair_bind name _ (fair_word a_word _) (λ n. fair_bind (between 1 256) _ (fair_word a_word _) (λ count. fair_bind (times count value) _ (fair_times count value (fair_word a_word _)) (λ values. fair_done _)))))

takes_then_done : {A B : Type 0} (f : Form A) (make : A → B) → Takes f → Takes (f >>= λ a. done (make a))
takes_then_done f make p = takes_bind f (λ a. done (make a)) p (λ a. fair_done (make a))

takes_alternative : {A : Type 0} {f g : Form A} → Taking f → Taking g → Taking (f or g)
takes_alternative {f = f} {g = g} p q = record { takes = takes_or f g p.takes q.takes }

taking : {A : Type 0} {f : Form A} → Takes f → Taking f
taking p = record { takes = p }

taking_where : {A : Type 0} (test : Bool) (f : Form A) → Takes f → Taking (where_ test f)
taking_where test f p = record { takes = takes_where test f p }

takes_fence_option : (near : Bool) (o : Options) → Taking (table.fence_option near o)
takes_fence_option near o =
    takes_alternative (taking_where (is_none o.glob) _ (takes_then_done (word (codes "MATCH") >> glob) _ (after_word (codes "MATCH") glob (fair_word a_word _)))) (
    takes_alternative (taking_where (nat_lt (length o.tests) max_tests) _ (takes_then_done table.test _ takes_test)) (
    takes_alternative (taking_where (not o.fence) _ (after_word (codes "FENCE") _ (fair_done _))) (
    takes_alternative (taking_where (is_none o.detect && not o.nodwell) _ (takes_then_done (word (codes "DETECT") >> list_of table.detect_names) _ (after_word (codes "DETECT") _ (fair_word a_word _)))) (
    takes_alternative (taking_where (is_none o.commands) _ (takes_then_done (word (codes "COMMANDS") >> list_of table.command_names) _ (after_word (codes "COMMANDS") _ (fair_word a_word _)))) (
    takes_alternative (taking_where (near && not o.nodwell && is_none o.detect) _ (after_word (codes "NODWELL") _ (fair_done _))) (record { takes = λ ws. tt }))))))

-- FENCE can always be added where it is missing

abbrev with_fence : Options → Options
with_fence o = record o { fence = true }

fence_spelled : (near : Bool) (o : Options) (ws : List Bytes) → o.fence ≡ false → Spells (with_fence o) ws (table.fence_option near o (codes "FENCE" ∷ ws))
fence_spelled near o ws open_ =
    let words : List Bytes = codes "FENCE" ∷ ws in
    let glob_form : Form Options = where_ (is_none o.glob) (word (codes "MATCH") >> glob >>= λ pattern. done (record o { glob = Some pattern })) in
    let test_form : Form Options = where_ (nat_lt (length o.tests) max_tests) (table.test >>= λ t. done (record o { tests = o.tests ++ t ∷ [] })) in
    let fence_form : Form Options = where_ (not o.fence) (word (codes "FENCE") >> done (record o { fence = true })) in
    let detect_form : Form Options = where_ (is_none o.detect && not o.nodwell) (word (codes "DETECT") >> list_of table.detect_names >>= λ l. done (record o { detect = Some l })) in
    let command_form : Form Options = where_ (is_none o.commands) (word (codes "COMMANDS") >> list_of table.command_names >>= λ l. done (record o { commands = Some l })) in
    let dwell_form : Form Options = where_ (near && not o.nodwell && is_none o.detect) (word (codes "NODWELL") >> done (record o { nodwell = true })) in
    spells_right (with_fence o) ws (glob_form words) (test_form words ++ (fence_form words ++ (detect_form words ++ (command_form words ++ (dwell_form words ++ [])))))
    (spells_right (with_fence o) ws (test_form words) (fence_form words ++ (detect_form words ++ (command_form words ++ (dwell_form words ++ []))))
    (spells_left (with_fence o) ws (fence_form words) (detect_form words ++ (command_form words ++ (dwell_form words ++ []))) (rw open_ (inl (refl, refl)))))

-- steps may be none, or one

module _ {S : Type 0} (step : S → Form S) where
  now_many : (n : ℕ) (s : S) (ws : List Bytes) → Spells s ws (at_most_times n step s ws)
  now_many zero s ws = inl (refl, refl)
  now_many (suc n) s ws = inl (refl, refl)

  now : (s : S) (ws : List Bytes) → Spells s ws (repeated step s ws)
  now s ws = now_many (length ws + 1) s ws

  one_many : (n : ℕ) (s t : S) (ws vs : List Bytes) → Spells t vs (step s ws) → Spells t vs (at_most_times (suc n) step s ws)
  one_many n s t ws vs h = inr (through (at_most_times n step) t vs t vs (step s ws) h (now_many n t vs))

  one : (s t : S) (w : Bytes) (ws vs : List Bytes) → Spells t vs (step s (w ∷ ws)) → Spells t vs (repeated step s (w ∷ ws))
  one s t w ws vs h = let fuel : length (w ∷ ws) + 1 ≡ suc (length (w ∷ ws)) = omega arith in rw fuel (one_many (length (w ∷ ws)) s t (w ∷ ws) vs h)

-- from every state a channel can be finished, with FENCE where it is missing
restarted : {B : Type 0} (near : Bool) (tail : Options → Form B) (o : Options) (b : Bool) → o.fence ≡ b
    → (o.fence ≡ true → Finished (tail o) []) → Finished (tail (with_fence o)) [] → Finished (repeated (table.fence_option near) o >>= tail) []
restarted near tail o true e has later = let x = has e in (x.0, x.1, through tail o x.0 x.1 [] (repeated (table.fence_option near) o x.0) (now (table.fence_option near) o x.0) x.2)
restarted near tail o false e has later = (
  codes "FENCE" ∷ later.0,
  later.1,
  through tail (with_fence o) later.0 later.1 [] (repeated (table.fence_option near) o (codes "FENCE" ∷ later.0))
      (one (table.fence_option near) o (with_fence o) (codes "FENCE") later.0 later.0 (fence_spelled near o later.0 e)) later.2,
)

-- an area behind FENCE

abbrev area_tail : (called : Bytes) (kind : Kind) (channel : table.Called) (key : Bytes) → Options → Form Command
area_tail called kind channel key o = where_ o.fence table.area >>= λ a. done (table.setting channel called key o (watch.Zone kind a.area) a.words (Some a.from))

area_there : (called : Bytes) (kind : Kind) (channel : table.Called) (key : Bytes) (o : Options) → o.fence ≡ true → Finished (area_tail called kind channel key o) []
area_there called kind channel key o e = subst (λ b. Finished (where_ b table.area >>= λ a. done (table.setting channel called key o (watch.Zone kind a.area) a.words (Some a.from))) []) (sym e)
    (done_behind table.area (λ a. table.setting channel called key o (watch.Zone kind a.area) a.words (Some a.from)) good_area).start

good_setchan_area : (called : Bytes) (kind : Kind) (channel : table.Called) → Good (table.setchan_area called kind channel)
good_setchan_area called kind channel = said called _ (good_any name _ good_name (λ key.
    good_loop (λ o. Unit {0}) (table.fence_option false) (λ o r. weak_fence_option false o) (λ o r. makes_any (table.fence_option false o)) (λ o. (takes_fence_option false o).takes)
    (area_tail called kind channel key) (λ o r. weak_any (where_ o.fence table.area) _ (weak_where o.fence table.area good_area.weak) (λ a. good_done _))
    (λ o r. restarted false (area_tail called kind channel key) o o.fence refl (area_there called kind channel key o) (area_there called kind channel key (with_fence o) refl)) table.no_fence_options tt))

-- a disc, or objects near others

weak_near_area : (channel : table.Called) (key : Bytes) (o : Options) → Weak (table.near_area channel key o)
weak_near_area channel key o =
    alternative (weak_where (not o.nodwell) _ (good_any (word (codes "POINT") >> lat_lon) _ (said (codes "POINT") lat_lon good_lat_lon) (λ p. done_behind meters _ good_meters)).weak) (
    alternative (weak_where (is_none o.detect) _ (good_any (word (codes "ROAM") >> name) _ (said (codes "ROAM") name good_name) (λ other. good_any glob _ good_glob (λ p. done_behind meters _ good_meters))).weak) weak_none)

-- NODWELL does not stand beside DETECT
abbrev Apart : Options → Type 0
Apart o = (o.nodwell && not (is_none o.detect)) ≡ false

no_dwell : (o : Options) (l : List Bytes) → (is_none o.detect && not o.nodwell) ≡ true → Apart (record o { detect = Some l })
no_dwell o l e = grind arith

no_detect : (o : Options) → (true && not o.nodwell && is_none o.detect) ≡ true → Apart (record o { nodwell = true })
no_detect o e = grind arith

makes_apart : (o : Options) → Apart o → Makes Apart (table.fence_option true o)
makes_apart o h =
    first (makes_if Apart (is_none o.glob) _ (λ e. makes_behind Apart (word (codes "MATCH") >> glob) _ (λ p. makes_done Apart _ h))) (
    first (makes_if Apart (nat_lt (length o.tests) max_tests) _ (λ e. makes_behind Apart table.test _ (λ t. makes_done Apart _ h))) (
    first (makes_if Apart (not o.fence) _ (λ e. makes_then Apart (word (codes "FENCE")) _ (makes_done Apart _ h))) (
    first (makes_if Apart (is_none o.detect && not o.nodwell) _ (λ e. makes_behind Apart (word (codes "DETECT") >> list_of table.detect_names) _ (λ l. makes_done Apart (record o { detect = Some l }) (no_dwell o l e)))) (
    first (makes_if Apart (is_none o.commands) _ (λ e. makes_behind Apart (word (codes "COMMANDS") >> list_of table.command_names) _ (λ l. makes_done Apart _ h))) (
    first (makes_if Apart (true && not o.nodwell && is_none o.detect) _ (λ e. makes_then Apart (word (codes "NODWELL")) _ (makes_done Apart (record o { nodwell = true }) (no_detect o e)))) (makes_none Apart))))))

abbrev near_tail : (channel : table.Called) (key : Bytes) → Options → Form Command
near_tail channel key o = where_ o.fence (table.near_area channel key o)

abbrev point_form : (channel : table.Called) (key : Bytes) → Options → Form Command
point_form channel key o = word (codes "POINT") >> lat_lon >>= λ p. meters >>= λ r. done (table.setting channel (codes "NEARBY") key o (watch.Zone Near (Disc p r)) (codes "POINT" ∷ signed_decimal p.y ∷ signed_decimal p.x ∷ decimal r ∷ []) None)

abbrev roam_form : (channel : table.Called) (key : Bytes) → Options → Form Command
roam_form channel key o = word (codes "ROAM") >> name >>= λ other. glob >>= λ pattern. meters >>= λ r. done (table.setting channel (codes "NEARBY") key o (watch.Roam other pattern r o.nodwell) (codes "ROAM" ∷ other ∷ pattern ∷ decimal r ∷ []) None)

good_point : (channel : table.Called) (key : Bytes) (o : Options) → Good (point_form channel key o)
good_point channel key o = good_any (word (codes "POINT") >> lat_lon) _ (said (codes "POINT") lat_lon good_lat_lon) (λ p. done_behind meters _ good_meters)

good_roam : (channel : table.Called) (key : Bytes) (o : Options) → Good (roam_form channel key o)
good_roam channel key o = good_any (word (codes "ROAM") >> name) _ (said (codes "ROAM") name good_name) (λ other. good_any glob _ good_glob (λ p. done_behind meters _ good_meters))

second_good : {A : Type 0} (f g : Form A) → Weak f → Good g → Good (f or g)
second_good f g p q = record { weak = weak_or f g p q.weak; start = (q.start.0, q.start.1, spells_right q.start.1 [] (f q.start.0) (g q.start.0) q.start.2) }

-- by NODWELL, and by the want of DETECT
abbrev near_of : (channel : table.Called) (key : Bytes) → Options → Bool → Bool → Form Command
near_of channel key o a b = where_ (not a) (point_form channel key o) or (where_ b (roam_form channel key o) or one_of [])

near_good : (channel : table.Called) (key : Bytes) (o : Options) (a b : Bool) → (a && not b) ≡ false → Good (near_of channel key o a b)
near_good channel key o false b h = good_or_weak (point_form channel key o) (where_ b (roam_form channel key o) or one_of []) (good_point channel key o) (weak_or _ _ (weak_where b _ (good_roam channel key o).weak) weak_none)
near_good channel key o true true h = second_good (where_ false (point_form channel key o)) (roam_form channel key o or one_of []) (weak_where false _ (good_point channel key o).weak) (good_or_weak (roam_form channel key o) (one_of []) (good_roam channel key o) weak_none)
near_good channel key o true false h = absurd cc

near_there : (channel : table.Called) (key : Bytes) (o : Options) → Apart o → o.fence ≡ true → Finished (near_tail channel key o) []
near_there channel key o h e = subst (λ b. Finished (where_ b (table.near_area channel key o)) []) (sym e) (near_good channel key o o.nodwell (is_none o.detect) h).start

good_setchan_near : (channel : table.Called) → Good (table.setchan_near channel)
good_setchan_near channel = said (codes "NEARBY") _ (good_any name _ good_name (λ key.
    good_loop Apart (table.fence_option true) (λ o r. weak_fence_option true o) makes_apart (λ o. (takes_fence_option true o).takes)
    (near_tail channel key) (λ o r. weak_where o.fence _ (weak_near_area channel key o))
    (λ o r. restarted true (near_tail channel key) o o.fence refl (near_there channel key o r) (near_there channel key (with_fence o) r refl)) table.no_fence_options refl))

good_kinds : (channel : table.Called) → Good (table.setchan_kinds channel)
good_kinds channel =
    first_good (good_setchan_area (codes "WITHIN") Within channel) (alternative (good_setchan_area (codes "INTERSECTS") Intersects channel).weak (alternative (good_setchan_near channel).weak weak_none))

good_ex : Good table.after_ex_words
good_ex = good_maybe None _ (done_behind (word (codes "EX") >> seconds) (λ s. Some s) (said (codes "EX") seconds good_seconds)).weak

good_setchan : Good table.setchan_words
good_setchan = good_any name _ good_name (λ n. good_any table.after_ex_words _ good_ex (λ after_ex. good_kinds (record { name = n; after_ex = after_ex })))

-- every command

abbrev AreGood : List table.Row → Type 0
AreGood rows = AllByRecursion (λ r. Good r.behind) rows

good_objects : AreGood table.object_rows
good_objects = (
  good_set,
  (
    good_get,
    (
      good_pair _,
      (
        good_pdel,
        (
          good_single name _ good_name,
          (
            good_fset,
            (
              good_fget,
              (
                good_expire,
                (
                  good_pair _,
                  (
                    good_pair _,
                    (
                      good_single glob _ good_glob,
                      (good_single name _ good_name, (good_some name _ good_name, (good_done _, (good_done _, tt)))),
                    ),
                  ),
                ),
              ),
            ),
          ),
        ),
      ),
    ),
  ),
)

good_searches : AreGood table.search_rows
good_searches = (good_scan, (good_search Within, (good_search Intersects, (good_nearby, tt))))

good_channels : AreGood table.channel_rows
good_channels = (good_setchan, (good_single name _ good_name, (good_single glob _ good_glob, (good_single glob _ good_glob, tt))))

good_sessions : AreGood table.session_rows
good_sessions = (good_some name _ good_name, (good_some glob _ good_glob, (good_done _, (good_done _, tt))))

weak_rows : (rows : List table.Row) → AreGood rows → Weak (one_of (map table.form_of rows))
weak_rows [] all = weak_none
weak_rows (r ∷ rows) all = weak_or (table.form_of r) (one_of (map table.form_of rows)) (said r.called r.behind all.0).weak (weak_rows rows all.1)

weak_table : Weak table.command_table
weak_table = weak_rows table.command_rows (of_families (λ r. Good r.behind) good_objects good_searches good_channels good_sessions)

-- an open list of words is the beginning of a spelling

live_is : {A : Type 0} (rs : List (Reading A)) → nat_lt 0 (length (live rs)) ≡ true → Out rs ⊎ ((a : A) × Spells a [] rs)
live_is {A = A} [] e = absurd (grind (arith, nat_tests))
live_is {A = A} (spells a [] ∷ rs) e = inr (a, inl (refl, refl))
live_is {A = A} (spells a (w ∷ rest) ∷ rs) e = later (live_is rs e)
  where
    later : Out rs ⊎ ((b : A) × Spells b [] rs) → Out rs ⊎ ((b : A) × Spells b [] (spells a (w ∷ rest) ∷ rs))
    later (inl o) = inl o
    later (inr x) = inr (x.0, inr x.1)
live_is {A = A} (runs_out due ∷ rs) e = inl tt

spelled_some : {A : Type 0} (rs : List (Reading A)) (a : A) → Spells a [] rs → (b : A) × (spelled (live rs) ≡ Some b)
spelled_some [] a s = absurd s
spelled_some (spells b [] ∷ rs) a s = (b, refl)
spelled_some (spells b (w ∷ rest) ∷ rs) a (inl e) = absurd (longer e.1)
  where
    longer : w ∷ rest ≡ [] → ⊥
    longer f = absurd cc
spelled_some (spells b (w ∷ rest) ∷ rs) a (inr s) = spelled_some rs a s
spelled_some (runs_out due ∷ rs) a s = spelled_some rs a s

finished : (words : List Bytes) → Out (table.command_table words) ⊎ ((c : Command) × Spells c [] (table.command_table words)) → Finished table.command_table words
finished words (inl o) = weak_table.goes words o
finished words (inr x) = ([], x.0, subst (λ l. Spells x.0 [] (table.command_table l)) (sym (append-nil words)) x.1)

pub open_is_begun : (words : List Bytes) → table.is_open words ≡ true → (more : List Bytes) × (c : Command) × (table.command_spelled (words ++ more) ≡ Some c)
unfolding table.readings
open_is_begun words e =
    let x = finished words (live_is (table.command_table words) e) in
    let y = spelled_some (table.command_table (words ++ x.0)) x.1 x.2 in
    (x.0, y.0, y.1)
