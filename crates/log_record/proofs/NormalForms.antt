-- What stands in a setting is read again as it was printed: numbers, values, tests, lists of names and areas.
use Rattle.std.proofs.Common.{◌≡◌, ℕ, zero, suc, ℤ, pos, Bool, true, false, ◌&&◌, ◌||◌, List, [], ◌∷◌, ◌++◌, length, map, flat_map, refl, sym, ap, subst, ◌∙◌, arith}
use Rattle.std.specs.Prelude.{Option, Some, None, is_none, codes, decimal, neg_ℤ, nat_le, option_and_then, if◌then◌else◌, Result, Ok, Err, ◌==◌}
use Rattle.std.specs.List.{list_any, list_all, AllByRecursion}
use Rattle.std.specs.Fmt.{signed_decimal}
use Rattle.std.specs.Str.{str_to_ascii_lowercase}
use Rattle.std.proofs.lemmas.Bool.{or_right}
use Rattle.byte_text.specs.Names.{Bytes, same, is_name}
use Rattle.byte_text.specs.Numbers.{whole, natural, whole_within, natural_within, digits_value}
use Rattle.byte_text.specs.Globs.{is_well_formed}
use Rattle.byte_text.specs.ByteOrder.{same_equal, same_refl}
use Rattle.planar_geom.specs.Points.{Point, Bounds, pt}
use Rattle.geo_text.specs.Texts.{Shape, shape_of}
use Rattle.geo_text.specs.declared.faults.GeoFault.{GeoFault}
use Rattle.world_data.specs.Limits.{max_coord, max_meters, max_values}
use Rattle.world_data.specs.Filters.{number_in, value_in, value_text}
use Rattle.world_data.specs.declared.values.Value.{Value}
use Rattle.world_data.specs.declared.filters.Test.{Test}
use Rattle.world_data.specs.declared.filters.Test.TheVariants.{Range, Same, Among}
use Rattle.world_model.specs.Grammar.{Form, go_on, done, word, a_word, read_as, times, ◌>>=◌, ◌>>◌, ◌or◌}
use Rattle.world_model.specs.Kinds.{when, name, glob, value, value_of_word, between, meters, coordinate_from, coordinate, lat_lon, four, geojson, accepted, bound, bound_of, text, text_of_word, again, same_text, pieces, is_in, list_of}
use Rattle.geo_text.specs.Texts.{joins_first}
use Rattle.world_model.specs.Commands.{test, where_range, where_same, where_test, wherein_test, test_words, bound_word, wants}
use Rattle.world_model.specs.SoundLaws.{when_is}
use Rattle.world_model.specs.MadeForms.{Makes, makes_done, makes_or, makes_word, makes_bind, makes_then}
use Rattle.log_record.specs.RecordsRead.{first, second}
use Rattle.log_record.specs.ValuesBack.{whole_printed, within_whole, number_printed, value_again}
use Rattle.log_record.proofs.ReadBack.{Reads, literal, reads_done, reads_word, reads_bind, reads_then, reads_left, reads_right}

-- numbers

-- the number's text is read as the number
abbrev pub IsWhole : ℤ → ℤ → ℤ → Type 0
IsWhole low high z = whole_within low high (signed_decimal z) ≡ Some z

whole_again : (low high : ℤ) (w : Bytes) (z : ℤ) → whole_within low high w ≡ Some z → IsWhole low high z
whole_again low high w z e = subst (λ v. whole_within low high v ≡ Some z) (sym (whole_printed w z (within_whole low high z (whole w) e))) e

printed_natural : (w : Bytes) (v n : ℕ) (b : Bool) → same (decimal v) w ≡ b → (if b then Some v else None) ≡ Some n → decimal n ≡ w
printed_natural w v n true test e = let it : v ≡ n = cc e in subst (λ x. decimal x ≡ w) it (same_equal (decimal v) w test)
printed_natural w v n false test e = absurd (cc e)

natural_printed : (w : Bytes) (n : ℕ) → natural w ≡ Some n → decimal n ≡ w
natural_printed w n e = printed_natural w (digits_value w) n (same (decimal (digits_value w)) w) refl e

kept_natural : (x n : ℕ) (b : Bool) → (if b then Some x else None) ≡ Some n → Some x ≡ Some n
kept_natural x n true e = e
kept_natural x n false e = absurd (cc e)

within_natural : (low high n : ℕ) (o : Option ℕ) → option_and_then (λ x. if nat_le low x && nat_le x high then Some x else None) o ≡ Some n → o ≡ Some n
within_natural low high n None e = absurd (cc e)
within_natural low high n (Some x) e = kept_natural x n (nat_le low x && nat_le x high) e

abbrev pub IsNatural : ℕ → ℕ → ℕ → Type 0
IsNatural low high n = natural_within low high (decimal n) ≡ Some n

natural_again : (low high : ℕ) (w : Bytes) (n : ℕ) → natural_within low high w ≡ Some n → IsNatural low high n
natural_again low high w n e = subst (λ v. natural_within low high v ≡ Some n) (sym (natural_printed w n (within_natural low high n (natural w) e))) e

pub makes_between : (low high : ℕ) → Makes (IsNatural low high) (between low high)
makes_between low high = makes_word (IsNatural low high) a_word (natural_within low high) (natural_again low high)

pub makes_meters : Makes (IsNatural 0 max_meters) meters
makes_meters = makes_between 0 max_meters

-- names

abbrev pub IsNamed : Bytes → Type 0
IsNamed w = when (is_name w) w ≡ Some w

pub makes_name : Makes IsNamed name
makes_name = makes_word IsNamed a_word (λ w. when (is_name w) w) (λ w a e. subst (λ v. when (is_name v) v ≡ Some a) (when_is (is_name w) w a e).1 e)

abbrev pub IsPattern : Bytes → Type 0
IsPattern w = when (is_name w && is_well_formed w) w ≡ Some w

pub makes_glob : Makes IsPattern glob
makes_glob = makes_word IsPattern a_word (λ w. when (is_name w && is_well_formed w) w) (λ w a e. subst (λ v. when (is_name v && is_well_formed v) v ≡ Some a) (when_is (is_name w && is_well_formed w) w a e).1 e)

-- values

-- the value's text is read as the value
abbrev pub IsAgain : Value → Type 0
IsAgain v = value_of_word (value_text v) ≡ Some v

value_read : (w : Bytes) (v : Value) → value_of_word w ≡ Some v → IsAgain v
value_read w v e =
    let text : value_text v ≡ w = ap value_text (sym (when_is (is_name w) (value_in w) v e).1) ∙ value_again w in
    subst (λ u. value_of_word u ≡ Some v) (sym text) e

pub makes_value : Makes IsAgain value
makes_value = makes_word IsAgain a_word value_of_word value_read

-- bounds of a range

bounded : (w : Bytes) (z : ℤ) → bound_of w ≡ Some (Some z) → number_in w ≡ Some z
bounded w z e = grind arith

bound_printed : (w : Bytes) (z : ℤ) → bound_of w ≡ Some (Some z) → signed_decimal z ≡ w
bound_printed w z e = number_printed w z (bounded w z e)

abbrev pub IsBound : Bytes → Option ℤ → Type 0
IsBound endless o = bound_of (bound_word endless o) ≡ Some o

bound_again : (endless : Bytes) → bound_of endless ≡ Some None → (w : Bytes) (o : Option ℤ) → bound_of w ≡ Some o → IsBound endless o
bound_again endless none w None e = none
bound_again endless none w (Some z) e = subst (λ v. bound_of v ≡ Some (Some z)) (sym (bound_printed w z e)) e

abbrev pub IsEnd : Option ℤ → Type 0
IsEnd o = IsBound (codes "-inf") o × IsBound (codes "+inf") o

pub makes_bound : Makes IsEnd bound
makes_bound = makes_word IsEnd a_word bound_of (λ w o e. (bound_again (codes "-inf") refl w o e, bound_again (codes "+inf") refl w o e))

-- texts that are no bounds

abbrev pub IsPlain : Bytes → Type 0
IsPlain t = text_of_word t ≡ Some t

makes_text : Makes IsPlain text
makes_text = makes_word IsPlain a_word text_of_word (λ w t e. subst (λ v. text_of_word v ≡ Some t) (when_is (is_name w && is_none (bound_of w)) w t e).1 e)

refused : (b : Bool) (w : Bytes) → when (b && false) w ≡ None
refused true w = refl
refused false w = refl

-- a bound is no text, and a text no bound
no_text : (w : Bytes) (o : Option ℤ) → bound_of w ≡ Some o → text_of_word w ≡ None
no_text w o e = ap (λ (b : Option (Option ℤ)). when (is_name w && is_none b) w) e ∙ refused (is_name w) w

nothing : (o : Option (Option ℤ)) → is_none o ≡ true → o ≡ None
nothing None e = refl
nothing (Some b) e = absurd (cc e)

no_bound : (t : Bytes) → IsPlain t → bound_of t ≡ None
no_bound t is = nothing (bound_of t) (second (is_name t) (is_none (bound_of t)) (when_is (is_name t && is_none (bound_of t)) t t is).0)

-- tests

abbrev pub AreAgain : List Value → Type 0
AreAgain values = AllByRecursion IsAgain values

abbrev pub IsNormalTest : Test → Type 0
IsNormalTest (Range n low high) = IsNamed n × IsBound (codes "-inf") low × IsBound (codes "+inf") high
IsNormalTest (Same n t) = IsNamed n × IsPlain t
IsNormalTest (Among n values) = IsNamed n × IsNatural 1 max_values (length values) × AreAgain values

abbrev AreSo : ℕ → List Value → Type 0
AreSo n values = (length values ≡ n) × AreAgain values

makes_times : (n : ℕ) → Makes (AreSo n) (times n value)
makes_times zero = makes_done (AreSo 0) [] (refl, tt)
makes_times (suc n) = makes_bind IsAgain (AreSo (suc n)) value _ makes_value (λ v again_is.
    makes_bind (AreSo n) (AreSo (suc n)) (times n value) _ (makes_times n) (λ values are. makes_done (AreSo (suc n)) (v ∷ values) (ap suc are.0, (again_is, are.1))))

makes_range : (n : Bytes) → IsNamed n → Makes IsNormalTest (where_range n)
makes_range n named = makes_bind IsEnd IsNormalTest bound _ makes_bound (λ low l. makes_bind IsEnd IsNormalTest bound _ makes_bound (λ high h. makes_done IsNormalTest (Range n low high) (named, l.0, h.1)))

makes_same : (n : Bytes) → IsNamed n → Makes IsNormalTest (where_same n)
makes_same n named = makes_bind IsPlain IsNormalTest text _ makes_text (λ t is. makes_then IsNormalTest (again t) _ (makes_done IsNormalTest (Same n t) (named, is)))

makes_where_test : Makes IsNormalTest where_test
makes_where_test = makes_then IsNormalTest (word (codes "WHERE")) _ (makes_bind IsNamed IsNormalTest name _ makes_name (λ n named.
    makes_or IsNormalTest (where_range n) (where_same n) (makes_range n named) (makes_same n named)))

makes_wherein_test : Makes IsNormalTest wherein_test
makes_wherein_test = makes_then IsNormalTest (word (codes "WHEREIN")) _ (makes_bind IsNamed IsNormalTest name _ makes_name (λ n named.
    makes_bind (IsNatural 1 max_values) IsNormalTest (between 1 max_values) _ (makes_between 1 max_values) (λ count counted. makes_bind (AreSo count) IsNormalTest (times count value) _ (makes_times count) (λ values are.
    makes_done IsNormalTest (Among n values) (named, subst (IsNatural 1 max_values) (sym are.0) counted, are.1)))))

pub makes_test : Makes IsNormalTest test
makes_test = makes_or IsNormalTest where_test wherein_test makes_where_test makes_wherein_test

reads_times : (values : List Value) (rest : List Bytes) → AreAgain values → Reads (times (length values) value) (map value_text values ++ rest) values rest
reads_times [] rest are = reads_done
reads_times (v ∷ values) rest are =
    reads_bind value (λ a. times (length values) value >>= (λ vs. done (a ∷ vs))) (reads_word a_word value_of_word are.0)
    (reads_bind (times (length values) value) (λ vs. done (v ∷ vs)) (reads_times values rest are.1) reads_done)

abbrev where_behind : Bytes → Form Test
where_behind n = where_range n or where_same n

reads_where_test : (n : Bytes) {t : Test} {words rest : List Bytes} → IsNamed n → Reads (where_behind n) words t rest → Reads where_test (codes "WHERE" ∷ n ∷ words) t rest
reads_where_test n named behind = reads_then (word (codes "WHERE")) (name >>= where_behind) (literal (codes "WHERE") _ refl)
    (reads_bind name where_behind (reads_word a_word (λ w. when (is_name w) w) named) behind)

-- a form that begins with a word which is none of its kind reads nothing
no_range : (n w : Bytes) (words : List Bytes) → bound_of w ≡ None → where_range n (w ∷ words) ≡ []
no_range n w words e = ap (λ (o : Option (Option ℤ)). flat_map (go_on (λ low. bound >>= (λ high. done (Range n low high)))) (read_as o words)) e

no_same : (n w : Bytes) (words : List Bytes) → text_of_word w ≡ None → where_same n (w ∷ words) ≡ []
no_same n w words e = ap (λ (o : Option Bytes). flat_map (go_on (λ t. again t >> done (Same n t))) (read_as o words)) e

reads_range : (n : Bytes) (low high : Option ℤ) (rest : List Bytes) → IsNormalTest (Range n low high) → Reads where_test (test_words (Range n low high) ++ rest) (Range n low high) rest
reads_range n low high rest is =
    let lowest = bound_word (codes "-inf") low in
    let highest = bound_word (codes "+inf") high in
    reads_where_test n is.0 (reads_left (where_range n) (where_same n)
    (reads_bind bound (λ l. bound >>= (λ h. done (Range n l h))) (reads_word a_word bound_of is.1)
    (reads_bind bound (λ h. done (Range n low h)) (reads_word a_word bound_of is.2) reads_done))
    (no_same n lowest (highest ∷ rest) (no_text lowest low is.1)))

reads_same : (n t : Bytes) (rest : List Bytes) → IsNormalTest (Same n t) → Reads where_test (test_words (Same n t) ++ rest) (Same n t) rest
reads_same n t rest is =
    reads_where_test n is.0 (reads_right (where_range n) (where_same n) (no_range n t (t ∷ rest) (no_bound t is.1))
    (reads_bind text (λ u. again u >> done (Same n u)) (reads_word a_word text_of_word is.1)
    (reads_then (again t) (done (Same n t)) (reads_word a_word (same_text t) (ap (λ (b : Bool). when b t) (same_refl t))) reads_done)))

abbrev among_behind : Form Test
among_behind = name >>= (λ n. between 1 max_values >>= (λ count. times count value >>= (λ values. done (Among n values))))

reads_among : (n : Bytes) (values : List Value) (rest : List Bytes) → IsNormalTest (Among n values) → Reads wherein_test (test_words (Among n values) ++ rest) (Among n values) rest
reads_among n values rest is =
    reads_then (word (codes "WHEREIN")) among_behind (literal (codes "WHEREIN") _ refl)
    (reads_bind name (λ m. between 1 max_values >>= (λ count. times count value >>= (λ vs. done (Among m vs)))) (reads_word a_word (λ w. when (is_name w) w) is.0)
    (reads_bind (between 1 max_values) (λ count. times count value >>= (λ vs. done (Among n vs))) (reads_word a_word (natural_within 1 max_values) is.1)
    (reads_bind (times (length values) value) (λ vs. done (Among n vs)) (reads_times values rest is.2) reads_done)))

pub reads_test : (t : Test) (rest : List Bytes) → IsNormalTest t → Reads test (test_words t ++ rest) t rest
reads_test (Range n low high) rest is = reads_left where_test wherein_test (reads_range n low high rest is) refl
reads_test (Same n t) rest is = reads_left where_test wherein_test (reads_same n t rest is) refl
reads_test (Among n values) rest is = reads_right where_test wherein_test refl (reads_among n values rest is)

-- places

abbrev pub least_coordinate : ℤ
least_coordinate = neg_ℤ (pos max_coord)

abbrev pub IsFrom : ℤ → ℤ → Type 0
IsFrom low z = IsWhole low (pos max_coord) z

pub makes_from : (low : ℤ) → Makes (IsFrom low) (coordinate_from low)
makes_from low = makes_word (IsFrom low) _ (whole_within low (pos max_coord)) (whole_again low (pos max_coord))

abbrev pub IsPlace : Point → Type 0
IsPlace p = IsFrom least_coordinate p.y × IsFrom least_coordinate p.x

pub makes_lat_lon : Makes IsPlace lat_lon
makes_lat_lon = makes_bind (IsFrom least_coordinate) IsPlace coordinate _ (makes_from least_coordinate) (λ lat l. makes_bind (IsFrom least_coordinate) IsPlace coordinate _ (makes_from least_coordinate) (λ lon o. makes_done IsPlace (pt lon lat) (l, o)))

pub reads_lat_lon : (p : Point) (rest : List Bytes) → IsPlace p → Reads lat_lon (signed_decimal p.y ∷ signed_decimal p.x ∷ rest) p rest
reads_lat_lon p rest is = reads_bind _ _ (reads_word _ _ is.0) (reads_bind _ _ (reads_word _ _ is.1) reads_done)

abbrev pub IsBox : Bounds → Type 0
IsBox b = IsFrom least_coordinate b.min.y × IsFrom least_coordinate b.min.x × IsFrom b.min.y b.max.y × IsFrom b.min.x b.max.x

pub makes_four : Makes IsBox four
makes_four = makes_bind (IsFrom least_coordinate) IsBox coordinate _ (makes_from least_coordinate) (λ a x. makes_bind (IsFrom least_coordinate) IsBox coordinate _ (makes_from least_coordinate) (λ b y.
    makes_bind (IsFrom a) IsBox (coordinate_from a) _ (makes_from a) (λ c z. makes_bind (IsFrom b) IsBox (coordinate_from b) _ (makes_from b) (λ d w.
    makes_done IsBox (record { min = pt b a; max = pt d c }) (x, y, z, w)))))

pub reads_four : (b : Bounds) (rest : List Bytes) → IsBox b → Reads four (signed_decimal b.min.y ∷ signed_decimal b.min.x ∷ signed_decimal b.max.y ∷ signed_decimal b.max.x ∷ rest) b rest
reads_four b rest is = reads_bind _ _ (reads_word _ _ is.0) (reads_bind _ _ (reads_word _ _ is.1) (reads_bind _ _ (reads_word _ _ is.2) (reads_bind _ _ (reads_word _ _ is.3) reads_done)))

abbrev pub IsText : Bytes × Shape → Type 0
IsText t = accepted t.0 (shape_of t.0) ≡ Some t

accepted_is : (w : Bytes) (r : Result Shape GeoFault) (t : Bytes × Shape) → accepted w r ≡ Some t → w ≡ t.0
accepted_is w (Ok shape) t e = let it : (w, shape) ≡ t = cc e in ap (λ x. x.0) it
accepted_is w (Err fault) t e = absurd (cc e)

pub makes_geojson : Makes IsText geojson
makes_geojson = makes_word IsText _ (λ w. accepted w (shape_of w)) (λ w t e. subst (λ v. accepted v (shape_of v) ≡ Some t) (accepted_is w (shape_of w) t e) e)

-- lists of names

abbrev pub list_reader : List Bytes → Bytes → Option (List Bytes)
list_reader names w = let found = pieces (str_to_ascii_lowercase w) in when (list_all (is_in names) found) found

-- some of the names are in the list
abbrev pub WantsSome : List Bytes → List Bytes → Type 0
WantsSome names found = list_any (wants (Some found)) names ≡ true

by_name : (n : Bytes) (names : List Bytes) (x : Bytes) (found : List Bytes) (b : Bool) → same x n ≡ b → (c : Bool) → is_in names x ≡ c → (same x n || is_in names x) ≡ true → (is_in names x ≡ true → WantsSome names (x ∷ found)) → WantsSome (n ∷ names) (x ∷ found)
by_name n names x found true here c in_others e others = let again : same n x ≡ true = subst (λ v. same n v ≡ true) (sym (same_equal x n here)) (same_refl n) in ap (λ b. (b || list_any (same n) found) || list_any (wants (Some (x ∷ found))) names) again
by_name n names x found false other true in_others e others = ap (λ b. wants (Some (x ∷ found)) n || b) (others in_others) ∙ or_right (wants (Some (x ∷ found)) n) true refl
by_name n names x found false other false in_others e others = absurd (cc (other, in_others, e, ap (λ a. a || is_in names x) other, ap (λ a. false || a) in_others))

some_wanted : (names : List Bytes) (x : Bytes) (found : List Bytes) → is_in names x ≡ true → WantsSome names (x ∷ found)
some_wanted [] x found e = absurd (cc e)
some_wanted (n ∷ names) x found e = by_name n names x found (same x n) refl (is_in names x) refl e (some_wanted names x found)

some_piece : (names : List Bytes) (found : List Bytes) → (x : Bytes) (more : List Bytes) → found ≡ x ∷ more → list_all (is_in names) found ≡ true → WantsSome names found
some_piece names found x more e all = subst (WantsSome names) (sym e) (some_wanted names x more (first (is_in names x) (list_all (is_in names) more) (subst (λ l. list_all (is_in names) l ≡ true) e all)))

some_pieces : (w : Bytes) → (x : Bytes) × (more : List Bytes) × (pieces w ≡ x ∷ more)
some_pieces [] = ([], [], refl)
some_pieces (b ∷ w) = by_comma (b == 44)
  where
    joined_first : (ws : List Bytes) → (x : Bytes) × (more : List Bytes) × (joins_first b ws ≡ x ∷ more)
    joined_first [] = (b ∷ [], [], refl)
    joined_first (v ∷ ws) = (b ∷ v, ws, refl)

    by_comma : (t : Bool) → (x : Bytes) × (more : List Bytes) × ((if t then [] ∷ pieces w else joins_first b (pieces w)) ≡ x ∷ more)
    by_comma true = ([], pieces w, refl)
    by_comma false = joined_first (pieces w)

list_made : (names : List Bytes) (w : Bytes) (found : List Bytes) → list_reader names w ≡ Some found → WantsSome names found
list_made names w found e =
    let all = pieces (str_to_ascii_lowercase w) in
    let some = some_pieces (str_to_ascii_lowercase w) in
    let read = when_is (list_all (is_in names) all) all found e in
    subst (WantsSome names) read.1 (some_piece names all some.0 some.1 some.2 read.0)

pub makes_list : (names : List Bytes) → Makes (WantsSome names) (list_of names)
makes_list names = makes_word (WantsSome names) a_word (list_reader names) (list_made names)
