-- Every command that words spell is sound.
use Rattle.std.proofs.Common.{◌≡◌, ℕ, ℤ, pos, Bool, true, false, refl, sym, ◌∙◌, ap, subst, List, [], ◌∷◌, ◌++◌, arith, ◌≤ℤ◌, rules}
use Rattle.std.specs.Prelude.{Option, Some, None, Result, Ok, Err, ◌&&◌, int_le, nat_le, neg_ℤ, codes, option_and_then, if◌then◌else◌, is_none, not}
use Rattle.std.specs.Prelude.{length, nat_lt}
use Rattle.std.specs.List.{list_all, AllByRecursion}
use Rattle.std.specs.Cmp.Derive.{both_true}
use Rattle.byte_text.specs.TestLaws.{both_of, is_le}
use Rattle.byte_text.specs.Names.{Bytes, is_name}
use Rattle.byte_text.specs.Numbers.{whole, natural, whole_within, natural_within}
use Rattle.byte_text.specs.Globs.{is_well_formed, is_sound_glob}
use Rattle.planar_geom.specs.Points.{Point, Bounds, pt, InPlane, IsCoordinate, IsBox}
use Rattle.planar_geom.specs.declared.shapes.Area.{Area}
use Rattle.planar_geom.specs.declared.shapes.Part.TheVariants.{Spot, Face}
use Rattle.geo_text.specs.Texts.{Shape, shape_of, stored_or, walked, point_text, bounds_text, corners}
use Rattle.geo_text.specs.declared.faults.GeoFault.{GeoFault}
use Rattle.geo_text.specs.StoredLaws.{point_back, bounds_back}
use Rattle.world_data.specs.Limits.{max_coord, max_meters, max_tests}
use Rattle.world_model.specs.Grammar.{Form, Reading, spells, runs_out, done, word, maybe, ◌>>=◌, ◌>>◌, repeated, a_word, a_coordinate, a_geojson}
use Rattle.world_model.specs.Kinds.{when, name, glob, meters, coordinate_from, coordinate, lat_lon, four, geojson, accepted}
use Rattle.world_model.specs.Commands as table
use Rattle.world_model.specs.Sound.{IsSoundCommand, is_sound_from, is_sound_reach, takes_areas}
use Rattle.world_data.specs.Sound.{is_sound_rule, is_sound_watch, is_sound_area}
use Rattle.world_data.specs.Filters.{Field, are_fields}
use Rattle.world_data.specs.declared.channels.Kind.{Kind}
use Rattle.world_data.specs.declared.channels.Kind.TheVariants.{Within, Intersects}
use Rattle.world_data.specs.declared.channels.Watch.TheVariants as watch
use Rattle.world_data.specs.declared.queries.Rule.TheVariants.{InArea, Nearest}
use Rattle.world_data.specs.declared.queries.Shown.TheVariants as shown
use Rattle.world_model.specs.declared.commands.Command.{Command}
use Rattle.world_model.specs.declared.commands.Command.TheVariants as command
use Rattle.world_model.specs.declared.object_commands.ObjectCommand.TheVariants as of_object
use Rattle.world_model.specs.declared.search_commands.SearchCommand.TheVariants as of_search
use Rattle.world_model.specs.FormLaws.{Each}
use Rattle.world_model.specs.MadeForms.{Makes, Said, first, makes_done, makes_none, makes_where, makes_word, makes_bind, makes_behind, makes_then}
use Rattle.world_model.specs.MadeForms.{makes_maybe, makes_any, makes_repeated, makes_once, spelled_said}
use Rattle.world_model.specs.RowLaws.{of_families, makes_rows}
use Rattle.world_data.specs.FieldLaws.{with_values-are_fields}

-- kinds of word

-- a word that is read passed the test of its kind
pub when_is : {A : Type 0} (test : Bool) (a b : A) → when test a ≡ Some b → (test ≡ true) × (a ≡ b)
when_is true a b e = (refl, cc)
when_is false a b e = absurd cc

well_formed : (w p : Bytes) → when (is_name w && is_well_formed w) w ≡ Some p → is_well_formed p ≡ true
well_formed w p e = let h = when_is (is_name w && is_well_formed w) w p e in let t = both_of (is_name w) (is_well_formed w) h.0 in
    subst (λ x. is_well_formed x ≡ true) h.1 t.1

makes_glob : Makes (λ p. is_well_formed p ≡ true) glob
makes_glob = makes_word (λ p. is_well_formed p ≡ true) a_word (λ w. when (is_name w && is_well_formed w) w) well_formed

within_is : (low high z : ℤ) (o : Option ℤ) → option_and_then (λ x. if int_le low x && int_le x high then Some x else None) o ≡ Some z
    → (int_le low z ≡ true) × (int_le z high ≡ true)
within_is low high z None e = absurd cc
within_is low high z (Some x) e = let h = when_is (int_le low x && int_le x high) x z e in let t = both_of (int_le low x) (int_le x high) h.0 in
    (subst (λ y. int_le low y ≡ true) h.1 t.0, subst (λ y. int_le y high ≡ true) h.1 t.1)

natural_is_within : (low high n : ℕ) (o : Option ℕ) → option_and_then (λ x. if nat_le low x && nat_le x high then Some x else None) o ≡ Some n
    → nat_le n high ≡ true
natural_is_within low high n None e = absurd cc
natural_is_within low high n (Some x) e = let h = when_is (nat_le low x && nat_le x high) x n e in
    let t = both_of (nat_le low x) (nat_le x high) h.0 in subst (λ y. nat_le y high ≡ true) h.1 t.1

makes_meters : Makes (λ r. nat_le r max_meters ≡ true) meters
makes_meters = makes_word (λ r. nat_le r max_meters ≡ true) a_word (natural_within 0 max_meters)
    (λ w n e. natural_is_within 0 max_meters n (natural w) e)

makes_from : (low : ℤ) → Makes (λ z. (low ≤ℤ z) × (z ≤ℤ pos max_coord)) (coordinate_from low)
makes_from low = makes_word (λ z. (low ≤ℤ z) × (z ≤ℤ pos max_coord)) a_coordinate (whole_within low (pos max_coord))
    (λ w z e. let h = within_is low (pos max_coord) z (whole w) e in (is_le low z h.0, is_le z (pos max_coord) h.1))

makes_coordinate : Makes IsCoordinate coordinate
makes_coordinate = record { made = λ words. each_coordinate (coordinate words) ((makes_from (neg_ℤ (pos max_coord))).made words) }
  where
    each_coordinate : (rs : List (Reading ℤ)) → Each (Said (λ z. (neg_ℤ (pos max_coord) ≤ℤ z) × (z ≤ℤ pos max_coord))) rs
        → Each (Said IsCoordinate) rs
    each_coordinate [] all = tt
    each_coordinate (spells a rest ∷ rs) all = (record { low = all.0.0; high = all.0.1 }, each_coordinate rs all.1)
    each_coordinate (runs_out due ∷ rs) all = (tt, each_coordinate rs all.1)

makes_lat_lon : Makes InPlane lat_lon
makes_lat_lon = makes_bind IsCoordinate InPlane coordinate _ makes_coordinate
    (λ lat in_lat. makes_bind IsCoordinate InPlane coordinate _ makes_coordinate
    (λ lon in_lon. makes_done InPlane (pt lon lat) (record { x_in = in_lon; y_in = in_lat })))

above : (low z : ℤ) → IsCoordinate low → (low ≤ℤ z) × (z ≤ℤ pos max_coord) → IsCoordinate z
above low z in_low h = record { low = search rules; high = h.1 }

makes_four : Makes IsBox four
makes_four = makes_bind IsCoordinate IsBox coordinate _ makes_coordinate
    (λ a in_a. makes_bind IsCoordinate IsBox coordinate _ makes_coordinate (λ b in_b.
    makes_bind (λ z. (a ≤ℤ z) × (z ≤ℤ pos max_coord)) IsBox (coordinate_from a) _ (makes_from a)
    (λ c in_c. makes_bind (λ z. (b ≤ℤ z) × (z ≤ℤ pos max_coord)) IsBox (coordinate_from b) _ (makes_from b) (λ d in_d.
    makes_done IsBox (record { min = pt b a; max = pt d c }) (record {
      min_in_plane = record { x_in = in_b; y_in = in_a };
      max_in_plane = record { x_in = above b d in_b in_d; y_in = above a c in_a in_c };
      x_ordered = in_d.0;
      y_ordered = in_c.0;
    })))))

-- texts have the shapes that they are read with

abbrev HasShape : Bytes × Shape → Type 0
HasShape t = shape_of t.0 ≡ Ok t.1

points_are_stored : (p : Point) → InPlane p → shape_of (point_text p) ≡ Ok (Spot p ∷ [])
unfolding shape_of
points_are_stored p h = ap (λ s. stored_or s (walked (point_text p))) (point_back p h)

bounds_are_stored : (b : Bounds) → IsBox b → shape_of (bounds_text b) ≡ Ok (Face (corners b ∷ []) ∷ [])
unfolding shape_of
bounds_are_stored b h = ap (λ s. stored_or s (walked (bounds_text b))) (bounds_back b h)

accepted_is : (w : Bytes) (r : Result Shape GeoFault) (t : Bytes × Shape) → accepted w r ≡ Some t → (w ≡ t.0) × (r ≡ Ok t.1)
accepted_is w (Ok shape) t e = let same : (w, shape) ≡ t = cc in (ap (λ x. x.0) same, ap (λ x. Ok x.1) same)
accepted_is w (Err fault) t e = absurd cc

makes_geojson : Makes HasShape geojson
makes_geojson = makes_word HasShape a_geojson (λ w. accepted w (shape_of w))
    (λ w t e. let h = accepted_is w (shape_of w) t e in ap shape_of (sym h.0) ∙ h.1)

behind_word : {A B : Type 0} (P : A → Type 0) (Q : B → Type 0) (called : Bytes) (f : Form A) (g : A → Form B) → Makes P f
    → ((a : A) → P a → Makes Q (g a)) → Makes Q (word called >> f >>= g)
behind_word P Q called f g p goes = makes_bind P Q (word called >> f) g (makes_then P (word called) f p) goes

makes_place : Makes HasShape table.place
makes_place =
    first (behind_word InPlane HasShape (codes "POINT") lat_lon _ makes_lat_lon
    (λ p h. makes_done HasShape (point_text p, Spot p ∷ []) (points_are_stored p h))) (
    first (behind_word IsBox HasShape (codes "BOUNDS") four _ makes_four
    (λ b h. makes_done HasShape (bounds_text b, Face (corners b ∷ []) ∷ []) (bounds_are_stored b h))) (
    first (makes_then HasShape (word (codes "OBJECT")) geojson makes_geojson) (makes_none HasShape)))

-- fields are in order

given_are_fields : (given : List Field) → are_fields (table.nonzero_of given) ≡ true
given_are_fields given = with_values-are_fields [] given refl

makes_set : Makes IsSoundCommand table.set_words
makes_set = makes_behind IsSoundCommand name _
    (λ key. makes_behind IsSoundCommand name _ (λ id. makes_behind IsSoundCommand (repeated table.set_option _) _ (λ o.
    makes_bind HasShape IsSoundCommand table.place _ makes_place (λ at h. makes_done IsSoundCommand _ (given_are_fields o.given, h)))))

makes_fset : Makes IsSoundCommand table.fset_words
makes_fset = makes_behind IsSoundCommand name _ (λ key. makes_behind IsSoundCommand name _ (λ id.
    makes_behind IsSoundCommand _ _ (λ given. makes_done IsSoundCommand _ (given_are_fields given))))

-- areas

abbrev SoundArea : table.AreaRead → Type 0
SoundArea a = (is_sound_area a.area ≡ true) × (is_sound_from a.from ≡ true)

makes_area : Makes SoundArea table.area
makes_area =
    first (makes_behind SoundArea (word (codes "BOUNDS") >> four) _ (λ b. makes_done SoundArea _ (refl, refl))) (
    first (makes_behind SoundArea (word (codes "OBJECT") >> geojson) _ (λ t. makes_done SoundArea _ (refl, refl))) (
    first (makes_behind SoundArea (word (codes "CIRCLE") >> lat_lon) _
    (λ p. makes_bind (λ r. nat_le r max_meters ≡ true) SoundArea meters _ makes_meters (λ r h. makes_done SoundArea _ (h, h)))) (
    first (makes_behind SoundArea (word (codes "GET") >> name) _ (λ key. makes_behind SoundArea name _ (λ id. makes_done SoundArea _ (refl, refl))))
    (makes_none SoundArea))))

-- searches

-- the options of a search say of its glob what a glob says, and nothing where none is given
module _ (IsSaid : Option Bytes → Type 0) (IsGlob : Bytes → Type 0) (is_glob : Makes IsGlob glob)
    (said : (p : Bytes) → IsGlob p → IsSaid (Some p)) where
  abbrev Options : table.SearchOptions → Type 0
  Options o = IsSaid o.glob

  makes_search_option : (ordered : Bool) (o : table.SearchOptions) → Options o → Makes Options (table.search_option ordered o)
  makes_search_option ordered o h =
      first (makes_where Options (is_none o.glob) _
      (behind_word IsGlob Options (codes "MATCH") glob _ is_glob (λ p w. makes_done Options _ (said p w)))) (
      first (makes_where Options (is_none o.cursor) _ (makes_behind Options (word (codes "CURSOR") >> _) _ (λ n. makes_done Options _ h))) (
      first (makes_where Options (is_none o.limit) _ (makes_behind Options (word (codes "LIMIT") >> _) _ (λ n. makes_done Options _ h))) (
      first (makes_where Options (not o.bare) _ (makes_then Options (word (codes "NOFIELDS")) _ (makes_done Options _ h))) (
      first (makes_where Options (ordered && is_none o.down) _ (makes_then Options (word (codes "ASC")) _ (makes_done Options _ h))) (
      first (makes_where Options (ordered && is_none o.down) _ (makes_then Options (word (codes "DESC")) _ (makes_done Options _ h))) (
      first (makes_where Options (nat_lt (length o.tests) max_tests) _ (makes_behind Options table.test _ (λ t. makes_done Options _ h)))
      (makes_none Options)))))))

  pub makes_search_options : (ordered : Bool) → IsSaid None
      → Makes (λ o. IsSaid o.glob) (repeated (table.search_option ordered) table.no_search_options)
  makes_search_options ordered none = makes_repeated Options (table.search_option ordered) (makes_search_option ordered) table.no_search_options none

abbrev SoundOptions : table.SearchOptions → Type 0
SoundOptions o = is_sound_glob o.glob ≡ true

sound_options : (ordered : Bool) → Makes SoundOptions (repeated (table.search_option ordered) table.no_search_options)
sound_options ordered = makes_search_options (λ g. is_sound_glob g ≡ true) (λ p. is_well_formed p ≡ true) makes_glob (λ p w. w) ordered refl

scan_rule_sound : (down : Option Bool) → is_sound_rule (table.scan_rule down) ≡ true
scan_rule_sound None = refl
scan_rule_sound (Some true) = refl
scan_rule_sound (Some false) = refl

makes_scan : Makes IsSoundCommand table.scan_words
makes_scan = makes_behind IsSoundCommand name _ (λ key. makes_bind SoundOptions IsSoundCommand _ _ (sound_options true) (λ o h.
    makes_behind IsSoundCommand (maybe shown.Objects table.output) _
    (λ how. makes_done IsSoundCommand (command.Search (of_search.Scan key (table.query_of o how (table.scan_rule o.down))))
    (both_true h (scan_rule_sound o.down)))))

makes_search : (kind : Kind) → ((a : Area) → is_sound_area a ≡ true → is_sound_rule (InArea kind a) ≡ true)
    → Makes IsSoundCommand (table.area_words kind)
makes_search kind sound = makes_behind IsSoundCommand name _ (λ key. makes_bind SoundOptions IsSoundCommand _ _ (sound_options false) (λ o h.
    makes_behind IsSoundCommand (maybe shown.Objects table.output) _
    (λ how. makes_bind SoundArea IsSoundCommand table.area _ makes_area
    (λ a s. makes_done IsSoundCommand (command.Search (of_search.Area key (table.query_of o how (InArea kind a.area)) a.from))
    (both_true h (sound a.area s.0), s.1)))))

makes_reach : Makes (λ r. is_sound_reach r ≡ true) (maybe None (meters >>= λ r. done (Some r)))
makes_reach = makes_maybe (λ r. is_sound_reach r ≡ true) None _ refl
    (makes_bind (λ r. nat_le r max_meters ≡ true) (λ r. is_sound_reach r ≡ true) meters _ makes_meters
    (λ r h. makes_done (λ x. is_sound_reach x ≡ true) (Some r) h))

makes_nearby : Makes IsSoundCommand table.nearby_words
makes_nearby = makes_behind IsSoundCommand name _ (λ key. makes_bind SoundOptions IsSoundCommand _ _ (sound_options false) (λ o h.
    makes_behind IsSoundCommand (maybe shown.Objects table.output) _
    (λ how. makes_then IsSoundCommand (word (codes "POINT")) _ (makes_behind IsSoundCommand lat_lon _ (λ at.
    makes_bind (λ r. is_sound_reach r ≡ true) IsSoundCommand _ _ makes_reach
    (λ r s. makes_done IsSoundCommand (command.Search (of_search.Nearby key (table.query_of o how Nearest) at r)) (both_true h refl, s)))))))

-- channels

abbrev SoundFence : table.FenceOptions → Type 0
SoundFence o = is_sound_glob o.glob ≡ true

makes_fence_option : (near : Bool) (o : table.FenceOptions) → SoundFence o → Makes SoundFence (table.fence_option near o)
makes_fence_option near o h =
    first (makes_where SoundFence (is_none o.glob) _
    (behind_word (λ p. is_well_formed p ≡ true) SoundFence (codes "MATCH") glob _ makes_glob (λ p w. makes_done SoundFence _ w))) (
    first (makes_where SoundFence (nat_lt (length o.tests) max_tests) _ (makes_behind SoundFence table.test _ (λ t. makes_done SoundFence _ h))) (
    first (makes_where SoundFence (not o.fence) _ (makes_then SoundFence (word (codes "FENCE")) _ (makes_done SoundFence _ h))) (
    first (makes_where SoundFence (is_none o.detect && not o.nodwell) _
    (makes_behind SoundFence (word (codes "DETECT") >> _) _ (λ l. makes_done SoundFence _ h))) (
    first (makes_where SoundFence (is_none o.commands) _ (makes_behind SoundFence (word (codes "COMMANDS") >> _) _ (λ l. makes_done SoundFence _ h)))
    (
    first (makes_where SoundFence (near && not o.nodwell && is_none o.detect) _
    (makes_then SoundFence (word (codes "NODWELL")) _ (makes_done SoundFence _ h))) (makes_none SoundFence))))))

makes_fence_options : (near : Bool) → Makes SoundFence (repeated (table.fence_option near) table.no_fence_options)
makes_fence_options near = makes_repeated SoundFence (table.fence_option near) (makes_fence_option near) table.no_fence_options refl

makes_setchan_area : (kind_word : Bytes) (kind : Kind) (channel : table.Called)
    → ((a : Area) → is_sound_area a ≡ true → (is_sound_watch (watch.Zone kind a) ≡ true) × (takes_areas (watch.Zone kind a) ≡ true))
    → Makes IsSoundCommand (table.setchan_area kind_word kind channel)
makes_setchan_area kind_word kind channel sound =
    makes_then IsSoundCommand (word kind_word) _
    (makes_behind IsSoundCommand name _ (λ key. makes_bind SoundFence IsSoundCommand _ _ (makes_fence_options false) (λ o h.
    makes_bind SoundArea IsSoundCommand _ _ (makes_where SoundArea o.fence table.area makes_area)
    (λ a s. let t = sound a.area s.0 in makes_done IsSoundCommand _ (both_true (both_true h t.0) (both_true s.1 t.1))))))

makes_near_area : (channel : table.Called) (key : Bytes) (o : table.FenceOptions) → SoundFence o
    → Makes IsSoundCommand (table.near_area channel key o)
makes_near_area channel key o h =
    first (makes_where IsSoundCommand (not o.nodwell) _ (makes_behind IsSoundCommand (word (codes "POINT") >> lat_lon) _ (λ p.
    makes_bind (λ r. nat_le r max_meters ≡ true) IsSoundCommand meters _ makes_meters
    (λ r s. makes_done IsSoundCommand _ (both_true h (both_true s refl)))))) (
    first (makes_where IsSoundCommand (is_none o.detect) _ (makes_behind IsSoundCommand (word (codes "ROAM") >> name) _ (λ other.
    makes_bind (λ p. is_well_formed p ≡ true) IsSoundCommand glob _ makes_glob
    (λ p w. makes_behind IsSoundCommand meters _ (λ r. makes_done IsSoundCommand _ (both_true h w)))))) (makes_none IsSoundCommand))

makes_setchan_near : (channel : table.Called) → Makes IsSoundCommand (table.setchan_near channel)
makes_setchan_near channel = makes_then IsSoundCommand (word (codes "NEARBY")) _
    (makes_behind IsSoundCommand name _ (λ key. makes_bind SoundFence IsSoundCommand _ _ (makes_fence_options true) (λ o h.
    makes_where IsSoundCommand o.fence _ (makes_near_area channel key o h))))

makes_setchan_kinds : (channel : table.Called) → Makes IsSoundCommand (table.setchan_kinds channel)
makes_setchan_kinds channel =
    first (makes_setchan_area (codes "WITHIN") Within channel (λ a s. (s, refl))) (
    first (makes_setchan_area (codes "INTERSECTS") Intersects channel (λ a s. (s, refl))) (
    first (makes_setchan_near channel) (makes_none IsSoundCommand)))

makes_setchan : Makes IsSoundCommand table.setchan_words
makes_setchan = makes_behind IsSoundCommand name _
    (λ n. makes_behind IsSoundCommand table.after_ex_words _
    (λ after_ex. makes_setchan_kinds (record { name = n; after_ex = after_ex })))

-- the others

makes_pair : (make : Bytes → Bytes → Command) → ((key id : Bytes) → IsSoundCommand (make key id)) → Makes IsSoundCommand (table.of_key_and_id make)
makes_pair make sound = makes_behind IsSoundCommand name _
    (λ key. makes_behind IsSoundCommand name _ (λ id. makes_done IsSoundCommand _ (sound key id)))

makes_single : (P : Bytes → Type 0) (kind : Form Bytes) (make : Bytes → Command) → Makes P kind → ((w : Bytes) → P w → IsSoundCommand (make w))
    → Makes IsSoundCommand (table.of_one kind make)
makes_single P kind make p sound = makes_bind P IsSoundCommand kind _ p (λ w h. makes_done IsSoundCommand _ (sound w h))

all_snoc : (p : Bytes → Bool) (ws : List Bytes) (w : Bytes) → list_all p ws ≡ true → p w ≡ true → list_all p (ws ++ w ∷ []) ≡ true
all_snoc p [] w all here = rw here refl
all_snoc p (v ∷ ws) w all here = let ih = all_snoc p ws w in grind arith

makes_some : (make : List Bytes → Command) → ((ws : List Bytes) → list_all is_well_formed ws ≡ true → IsSoundCommand (make ws))
    → Makes IsSoundCommand (table.of_some glob make)
makes_some make sound = makes_bind (λ ws. list_all is_well_formed ws ≡ true) IsSoundCommand _ _
    (makes_once (λ ws. list_all is_well_formed ws ≡ true) _
    (λ ws all. makes_bind (λ p. is_well_formed p ≡ true) (λ vs. list_all is_well_formed vs ≡ true) glob _ makes_glob
    (λ p w. makes_done (λ vs. list_all is_well_formed vs ≡ true) _ (all_snoc is_well_formed ws p all w))) [] refl)
    (λ ws all. makes_done IsSoundCommand _ (sound ws all))

makes_names : (make : List Bytes → Command) → ((ws : List Bytes) → IsSoundCommand (make ws)) → Makes IsSoundCommand (table.of_some name make)
makes_names make sound = makes_behind IsSoundCommand _ _ (λ ws. makes_done IsSoundCommand _ (sound ws))

makes_get : Makes IsSoundCommand table.get_words
makes_get = makes_behind IsSoundCommand name _
    (λ key. makes_behind IsSoundCommand name _
    (λ id. makes_behind IsSoundCommand (maybe false (word (codes "WITHFIELDS") >> done true)) _
    (λ with_fields. makes_behind IsSoundCommand (maybe shown.Objects table.as_objects) _
    (λ how. makes_done IsSoundCommand (command.Object (of_object.Get key id with_fields how)) tt))))

makes_pdel : Makes IsSoundCommand table.pdel_words
makes_pdel = makes_behind IsSoundCommand name _
    (λ key. makes_bind (λ p. is_well_formed p ≡ true) IsSoundCommand glob _ makes_glob (λ p w. makes_done IsSoundCommand _ w))

makes_fget : Makes IsSoundCommand table.fget_words
makes_fget = makes_behind IsSoundCommand name _
    (λ key. makes_behind IsSoundCommand name _ (λ id. makes_behind IsSoundCommand name _ (λ field. makes_done IsSoundCommand _ tt)))

makes_expire : Makes IsSoundCommand table.expire_words
makes_expire = makes_behind IsSoundCommand name _
    (λ key. makes_behind IsSoundCommand name _ (λ id. makes_behind IsSoundCommand _ _ (λ s. makes_done IsSoundCommand _ tt)))

-- each family

abbrev AreSound : List table.Row → Type 0
AreSound rows = AllByRecursion (λ r. Makes IsSoundCommand r.behind) rows

makes_objects : AreSound table.object_rows
makes_objects = (
  makes_set,
  (
    makes_get,
    (
      makes_pair _ (λ key id. tt),
      (
        makes_pdel,
        (
          makes_single (λ w. Unit {0}) name _ (makes_any name) (λ w h. tt),
          (
            makes_fset,
            (
              makes_fget,
              (
                makes_expire,
                (
                  makes_pair _ (λ key id. tt),
                  (
                    makes_pair _ (λ key id. tt),
                    (
                      makes_single (λ p. is_well_formed p ≡ true) glob _ makes_glob (λ w h. h),
                      (
                        makes_single (λ w. Unit {0}) name _ (makes_any name) (λ w h. tt),
                        (
                          makes_names _ (λ ws. tt),
                          (makes_done IsSoundCommand _ tt, (makes_done IsSoundCommand _ tt, tt)),
                        ),
                      ),
                    ),
                  ),
                ),
              ),
            ),
          ),
        ),
      ),
    ),
  ),
)

makes_searches : AreSound table.search_rows
makes_searches = (makes_scan, (makes_search Within (λ a s. s), (makes_search Intersects (λ a s. s), (makes_nearby, tt))))

makes_channels : AreSound table.channel_rows
makes_channels = (
  makes_setchan,
  (
    makes_single (λ w. Unit {0}) name _ (makes_any name) (λ w h. tt),
    (
      makes_single (λ p. is_well_formed p ≡ true) glob _ makes_glob (λ w h. h),
      (makes_single (λ p. is_well_formed p ≡ true) glob _ makes_glob (λ w h. h), tt),
    ),
  ),
)

makes_sessions : AreSound table.session_rows
makes_sessions = (makes_names _ (λ ws. tt), (makes_some _ (λ ws all. all), (makes_done IsSoundCommand _ tt, (makes_done IsSoundCommand _ tt, tt))))

makes_table : Makes IsSoundCommand table.command_table
makes_table = makes_rows IsSoundCommand table.command_rows
    (of_families (λ r. Makes IsSoundCommand r.behind) makes_objects makes_searches makes_channels makes_sessions)

-- what is spelled is sound

pub spellings_are_sound : (words : List Bytes) (c : Command) → table.command_spelled words ≡ Some c → IsSoundCommand c
unfolding table.readings
spellings_are_sound words c e = spelled_said IsSoundCommand (table.command_table words) c (makes_table.made words) e

-- a command that is read was spelled
pub ok_spelled : (words : List Bytes) (o : Option Command) (c : Command) → table.ok_or_fault words o ≡ Ok c → o ≡ Some c
ok_spelled words (Some d) c e = ap Some (cc e)
ok_spelled words None c e = absurd cc

pub reads_sound : (words : List Bytes) (c : Command) → table.reads words ≡ Ok c → IsSoundCommand c
reads_sound words c e = spellings_are_sound words c (ok_spelled words (table.command_spelled words) c e)
