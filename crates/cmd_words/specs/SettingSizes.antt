-- The normal words of a setting that words spell: how many they are, and how long.
use Rattle.std.proofs.Common.{◌≡◌, ℕ, ◌+◌, ◌≤◌, Bool, true, false, List, [], ◌∷◌, ◌++◌, length, refl, ap, subst, arith, length-append}
use Rattle.std.specs.Prelude.{Option, Some, None, Result, Ok, Err, codes, decimal, pos, neg_ℤ, not, is_none}
use Rattle.std.specs.Fmt.{signed_decimal}
use Rattle.byte_text.specs.Names.{Bytes}
use Rattle.byte_text.specs.Requests.{AreShort, max_word}
use Rattle.geo_text.specs.Texts.{Shape, shape_of}
use Rattle.geo_text.specs.declared.faults.GeoFault.{GeoFault}
use Rattle.planar_geom.specs.Points.{Point, Bounds, pt}
use Rattle.planar_geom.specs.declared.shapes.Area.TheVariants.{Rect, Disc, Figure}
use Rattle.world_data.specs.Limits.{max_coord, max_seconds}
use Rattle.world_data.specs.declared.channels.Kind.{Kind}
use Rattle.world_data.specs.declared.channels.Kind.TheVariants.{Within, Intersects, Near}
use Rattle.world_data.specs.declared.channels.Watch.{Watch}
use Rattle.world_data.specs.declared.channels.Watch.TheVariants as watch
use Rattle.world_model.specs.Grammar.{a_coordinate, a_geojson, Reading, spells, runs_out, Form, ◌>>=◌, ◌>>◌, done, where_, word, repeated}
use Rattle.world_model.specs.FormLaws.{each_map}
use Rattle.world_model.specs.MadeForms.{Said}
use Rattle.world_model.specs.TableParts.{SetsNone, setting_form, setting_said}
use Rattle.world_model.specs.Kinds.{name, glob, seconds, meters, coordinate_from, coordinate, lat_lon, four, geojson, accepted}
use Rattle.world_model.specs.Commands as table
use Rattle.world_model.specs.declared.search_commands.AreaWords.{AreaWords}
use Rattle.world_model.specs.declared.search_commands.AreaWords.TheVariants.{Given, Of}
use Rattle.world_model.specs.declared.commands.Command.{Command}
use Rattle.world_model.specs.declared.commands.Command.TheVariants as command
use Rattle.world_model.specs.declared.channel_commands.ChannelCommand.TheVariants as of_channel
use Rattle.cmd_words.specs.SmallWords.{IsSmall, AreSmall, small, small_name, small_signed, small_append, AreLight, light_of, light_text, light_append}
use Rattle.cmd_words.specs.Costs.{Counts, Costs, costs_done, costs_none, costs_or, costs_where, costs_word, costs_bind, costs_then}
use Rattle.cmd_words.specs.SettingWords.{IsName, IsNumber, costs_whole, costs_between, costs_meters, costs_name, costs_glob, options_count, AreFine}
use Rattle.cmd_words.specs.SettingWords.{with_options}
use Rattle.cmd_words.specs.SettingWords.{costs_options, options_few, options_small}

-- areas

least_fits : IsNumber (neg_ℤ (pos max_coord))
least_fits = record { sfits = omega arith }

abbrev ArePlaced : Point → Type 0
ArePlaced p = IsNumber p.y × IsNumber p.x

costs_lat_lon : (before : ℕ) → Costs before (λ p. before + 1 + 1) ArePlaced lat_lon
costs_lat_lon before =
    costs_bind before (λ z. before + 1) IsNumber (λ p. before + 1 + 1) ArePlaced coordinate _
    (costs_whole before a_coordinate _ max_coord least_fits refl) (λ lat l.
    costs_bind (before + 1) (λ z. before + 1 + 1) IsNumber (λ p. before + 1 + 1) ArePlaced coordinate _
    (costs_whole (before + 1) a_coordinate _ max_coord least_fits refl) (λ lon o.
    costs_done (before + 1 + 1) (λ p. before + 1 + 1) ArePlaced (pt lon lat) (omega arith) (l, o)))

abbrev AreBounded : Bounds → Type 0
AreBounded b = IsNumber b.min.y × IsNumber b.min.x × IsNumber b.max.y × IsNumber b.max.x

costs_four : (before : ℕ) → Costs before (λ b. before + 1 + 1 + 1 + 1) AreBounded four
costs_four before =
    let all : Bounds → ℕ = λ b. before + 1 + 1 + 1 + 1 in
    costs_bind before (λ z. before + 1) IsNumber all AreBounded coordinate _ (costs_whole before a_coordinate _ max_coord least_fits refl) (λ a x.
    costs_bind (before + 1) (λ z. before + 1 + 1) IsNumber all AreBounded coordinate _
    (costs_whole (before + 1) a_coordinate _ max_coord least_fits refl) (λ b y.
    costs_bind (before + 1 + 1) (λ z. before + 1 + 1 + 1) IsNumber all AreBounded (coordinate_from a) _
    (costs_whole (before + 1 + 1) a_coordinate a max_coord x refl) (λ c z.
    costs_bind (before + 1 + 1 + 1) (λ z. before + 1 + 1 + 1 + 1) IsNumber all AreBounded (coordinate_from b) _
    (costs_whole (before + 1 + 1 + 1) a_coordinate b max_coord y refl) (λ d w.
    costs_done (before + 1 + 1 + 1 + 1) all AreBounded (record { min = pt b a; max = pt d c }) (omega arith) (x, y, z, w)))))

accepted_is : (w : Bytes) (r : Result Shape GeoFault) (t : Bytes × Shape) → accepted w r ≡ Some t → w ≡ t.0
accepted_is w (Ok shape) t e = let it : (w, shape) ≡ t = cc e in ap (λ x. x.0) it
accepted_is w (Err fault) t e = absurd (cc e)

abbrev IsText : Bytes × Shape → Type 0
IsText t = length t.0 ≤ max_word

costs_geojson : (before : ℕ) → Costs before (λ t. before + 1) IsText geojson
costs_geojson before = costs_word before (λ t. before + 1) IsText a_geojson (λ w. accepted w (shape_of w)) (λ w t short e.
    (omega arith, subst (λ v. length v ≤ max_word) (accepted_is w (shape_of w) t e) short))

-- the words that take the place of an object's name are to come, and are no more than it
abbrev pub later : Option AreaWords → ℕ
later None = 0
later (Some (Given a)) = 0
later (Some (Of key id)) = 2

abbrev pub FitAs : Option AreaWords → List Bytes → Type 0
FitAs None words = AreLight words
FitAs (Some (Given a)) words = AreLight words
FitAs (Some (Of key id)) words = AreSmall words

fit_behind : (from : Option AreaWords) (xs ys : List Bytes) → AreSmall xs → FitAs from ys → FitAs from (xs ++ ys)
fit_behind None xs ys s fit = light_append xs ys s fit
fit_behind (Some (Given a)) xs ys s fit = light_append xs ys s fit
fit_behind (Some (Of key id)) xs ys s fit = small_append xs ys s fit

abbrev IsFit : table.AreaRead → Type 0
IsFit a = FitAs (Some a.from) a.words

module _ (before : ℕ) where
  abbrev with_area : table.AreaRead → ℕ
  with_area a = before + length a.words + later (Some a.from)

  costs_box : Costs before with_area IsFit
      (word (codes "BOUNDS") >> four >>= λ b.
      done (table.given_area (Rect b)
      (codes "BOUNDS" ∷ signed_decimal b.min.y ∷ signed_decimal b.min.x ∷ signed_decimal b.max.y ∷ signed_decimal b.max.x ∷ [])))
  costs_box =
      let all : Bounds → ℕ = λ b. before + 1 + 1 + 1 + 1 + 1 in
      costs_bind before all AreBounded with_area IsFit (word (codes "BOUNDS") >> four) _
      (costs_then before all AreBounded (codes "BOUNDS") four (costs_four (before + 1))) (λ b is.
      let words = codes "BOUNDS" ∷ signed_decimal b.min.y ∷ signed_decimal b.min.x ∷ signed_decimal b.max.y ∷ signed_decimal b.max.x ∷ [] in
      costs_done (before + 1 + 1 + 1 + 1 + 1) with_area IsFit (table.given_area (Rect b) words) (omega arith)
      (light_of words (
        small (codes "BOUNDS") refl,
        (small_signed b.min.y is.0, (small_signed b.min.x is.1, (small_signed b.max.y is.2, (small_signed b.max.x is.3, tt)))),
      )))

  costs_object : Costs before with_area IsFit
      (word (codes "OBJECT") >> geojson >>= λ t. done (table.given_area (Figure t.1) (codes "OBJECT" ∷ t.0 ∷ [])))
  costs_object =
      costs_bind before (λ t. before + 1 + 1) IsText with_area IsFit (word (codes "OBJECT") >> geojson) _
      (costs_then before (λ t. before + 1 + 1) IsText (codes "OBJECT") geojson (costs_geojson (before + 1))) (λ t is.
      costs_done (before + 1 + 1) with_area IsFit (table.given_area (Figure t.1) (codes "OBJECT" ∷ t.0 ∷ [])) (omega arith)
      (light_text (codes "OBJECT") t.0 (small (codes "OBJECT") refl) is))

  costs_disc : Costs before with_area IsFit
      (word (codes "CIRCLE") >> lat_lon >>= λ p. meters >>= λ r.
      done (table.given_area (Disc p r) (codes "CIRCLE" ∷ signed_decimal p.y ∷ signed_decimal p.x ∷ decimal r ∷ [])))
  costs_disc =
      costs_bind before (λ p. before + 1 + 1 + 1) ArePlaced with_area IsFit (word (codes "CIRCLE") >> lat_lon) _
      (costs_then before (λ p. before + 1 + 1 + 1) ArePlaced (codes "CIRCLE") lat_lon (costs_lat_lon (before + 1))) (λ p is.
      costs_bind (before + 1 + 1 + 1) (λ r. before + 1 + 1 + 1 + 1) (λ r. IsSmall (decimal r)) with_area IsFit meters _
      (costs_meters (before + 1 + 1 + 1)) (λ r far.
      let words = codes "CIRCLE" ∷ signed_decimal p.y ∷ signed_decimal p.x ∷ decimal r ∷ [] in
      costs_done (before + 1 + 1 + 1 + 1) with_area IsFit (table.given_area (Disc p r) words) (omega arith)
      (light_of words (small (codes "CIRCLE") refl, (small_signed p.y is.0, (small_signed p.x is.1, (far, tt)))))))

  costs_of : Costs before with_area IsFit
      (word (codes "GET") >> name >>= λ key. name >>= λ id. done (record { from = Of key id; area = table.nowhere; words = [] }))
  costs_of =
      costs_bind before (λ n. before + 1 + 1) IsName with_area IsFit (word (codes "GET") >> name) _
      (costs_then before (λ n. before + 1 + 1) IsName (codes "GET") name (costs_name (before + 1))) (λ key k.
      costs_bind (before + 1 + 1) (λ n. before + 1 + 1 + 1) IsName with_area IsFit name _ (costs_name (before + 1 + 1)) (λ id i.
      costs_done (before + 1 + 1 + 1) with_area IsFit (record { from = Of key id; area = table.nowhere; words = [] }) (omega arith) tt))

  costs_area : Costs before with_area IsFit table.area
  costs_area =
      costs_or before with_area IsFit _ _ costs_box (costs_or before with_area IsFit _ _ costs_object (
      costs_or before with_area IsFit _ _ costs_disc (costs_or before with_area IsFit _ _ costs_of (costs_none before with_area IsFit))))

-- settings

-- EX and seconds are two words
abbrev pub ex_count : Option ℕ → ℕ
ex_count None = 0
ex_count (Some s) = 2

abbrev with_setting : Command → ℕ
with_setting (command.Channel (of_channel.Setchan c from after_ex)) = 2 + ex_count after_ex + length c.words + later from
with_setting c = 0

abbrev IsSized : Command → Type 0
IsSized (command.Channel (of_channel.Setchan c from after_ex)) = IsName c.name × FitAs from c.words
IsSized c = Unit {0}

-- the words before the kind, from SETCHAN on
abbrev before_kind : table.Called → ℕ
before_kind channel = 2 + ex_count channel.after_ex

-- and with the options behind the key
abbrev behind_key : table.Called → table.FenceOptions → ℕ
behind_key channel o = with_options (before_kind channel + 1 + 1) o

module _ (channel : table.Called) (called key : Bytes) (o : table.FenceOptions) (w : Watch) (words : List Bytes) (from : Option AreaWords) where
  setting_counts : o.fence ≡ true → with_setting (table.setting channel called key o w words from) ≤ behind_key channel o + length words + later from
  setting_counts fence =
      let few = options_few o fence in
      let n = length-append (table.option_words o) words in
      omega (arith, few, n)

  setting_sized : IsName channel.name → IsSmall called → IsName key → AreFine o → FitAs from words
      → IsSized (table.setting channel called key o w words from)
  setting_sized s t u fine fit = (s, fit_behind from (called ∷ key ∷ table.option_words o) words (t, (small_name key u, options_small o fine)) fit)

first_options : (k : ℕ) (near : Bool) → Costs k (with_options k) AreFine (repeated (table.fence_option near) table.no_fence_options)
first_options k near =
    let none : options_count table.no_fence_options ≡ 0 = refl in
    let same : k + options_count table.no_fence_options ≡ k = omega (arith, none) in
    subst (λ n. Costs n (with_options k) AreFine (repeated (table.fence_option near) table.no_fence_options)) same (costs_options k near)

abbrev CostsSetting : ℕ → Form Command → Type 0
CostsSetting before f = Costs before with_setting IsSized f

costs_setchan_area : (called : Bytes) (kind : Kind) (channel : table.Called) → IsSmall called → IsName channel.name
    → CostsSetting (before_kind channel) (table.setchan_area called kind channel)
costs_setchan_area called kind channel t s =
    let k = before_kind channel in
    costs_then k with_setting IsSized called _ (
    costs_bind (k + 1) (λ n. k + 1 + 1) IsName with_setting IsSized name _ (costs_name (k + 1)) (λ key u.
    costs_bind (k + 1 + 1) (behind_key channel) AreFine with_setting IsSized (repeated (table.fence_option false) table.no_fence_options) _
    (first_options (k + 1 + 1) false)
    (λ o fine.
    behind key u o fine o.fence refl)))
  where
    behind : (key : Bytes) → IsName key → (o : table.FenceOptions) → AreFine o → (b : Bool) → o.fence ≡ b
        → CostsSetting (behind_key channel o)
        (where_ b table.area >>= λ a. done (table.setting channel called key o (watch.Zone kind a.area) a.words (Some a.from)))
    behind key u o fine true fence =
        let k = behind_key channel o in
        costs_bind k (with_area k) IsFit with_setting IsSized table.area _ (costs_area k) (λ a fit.
        let few = setting_counts channel called key o (watch.Zone kind a.area) a.words (Some a.from) fence in
        costs_done (with_area k a) with_setting IsSized _ few
        (setting_sized channel called key o (watch.Zone kind a.area) a.words (Some a.from) s t u fine fit))
    behind key u o fine false fence = record { cost = λ words short. tt }

costs_near_area : (channel : table.Called) (key : Bytes) (o : table.FenceOptions) → IsName channel.name → IsName key → AreFine o
    → o.fence ≡ true
    → CostsSetting (behind_key channel o) (table.near_area channel key o)
costs_near_area channel key o s u fine fence =
    let k = behind_key channel o in
    let near = codes "NEARBY" in
    costs_or k with_setting IsSized _ _ (costs_where k with_setting IsSized (not o.nodwell) _ (λ dwells.
    costs_bind k (λ p. k + 1 + 1 + 1) ArePlaced with_setting IsSized (word (codes "POINT") >> lat_lon) _
    (costs_then k (λ p. k + 1 + 1 + 1) ArePlaced (codes "POINT") lat_lon (costs_lat_lon (k + 1))) (λ p is.
    costs_bind (k + 1 + 1 + 1) (λ r. k + 1 + 1 + 1 + 1) (λ r. IsSmall (decimal r)) with_setting IsSized meters _ (costs_meters (k + 1 + 1 + 1))
    (λ r far.
    let w = watch.Zone Near (Disc p r) in
    let words = codes "POINT" ∷ signed_decimal p.y ∷ signed_decimal p.x ∷ decimal r ∷ [] in
    let few = setting_counts channel near key o w words None fence in
    costs_done (k + 1 + 1 + 1 + 1) with_setting IsSized (table.setting channel near key o w words None) (omega (arith, few))
    (setting_sized channel near key o w words None s (small near refl) u fine
    (light_of words (small (codes "POINT") refl, (small_signed p.y is.0, (small_signed p.x is.1, (far, tt)))))))))) (
    costs_or k with_setting IsSized _ _ (costs_where k with_setting IsSized (is_none o.detect) _ (λ none.
    costs_bind k (λ n. k + 1 + 1) IsName with_setting IsSized (word (codes "ROAM") >> name) _
    (costs_then k (λ n. k + 1 + 1) IsName (codes "ROAM") name (costs_name (k + 1))) (λ other n.
    costs_bind (k + 1 + 1) (λ p. k + 1 + 1 + 1) IsSmall with_setting IsSized glob _ (costs_glob (k + 1 + 1)) (λ pattern g.
    costs_bind (k + 1 + 1 + 1) (λ r. k + 1 + 1 + 1 + 1) (λ r. IsSmall (decimal r)) with_setting IsSized meters _ (costs_meters (k + 1 + 1 + 1))
    (λ r far.
    let w = watch.Roam other pattern r o.nodwell in
    let words = codes "ROAM" ∷ other ∷ pattern ∷ decimal r ∷ [] in
    let few = setting_counts channel near key o w words None fence in
    costs_done (k + 1 + 1 + 1 + 1) with_setting IsSized (table.setting channel near key o w words None) (omega (arith, few))
    (setting_sized channel near key o w words None s (small near refl) u fine
    (light_of words (small (codes "ROAM") refl, (small_name other n, (g, (far, tt)))))))))))
    (costs_none k with_setting IsSized))

costs_setchan_near : (channel : table.Called) → IsName channel.name → CostsSetting (before_kind channel) (table.setchan_near channel)
costs_setchan_near channel s =
    let k = before_kind channel in
    costs_then k with_setting IsSized (codes "NEARBY") _ (
    costs_bind (k + 1) (λ n. k + 1 + 1) IsName with_setting IsSized name _ (costs_name (k + 1)) (λ key u.
    costs_bind (k + 1 + 1) (behind_key channel) AreFine with_setting IsSized (repeated (table.fence_option true) table.no_fence_options) _
    (first_options (k + 1 + 1) true)
    (λ o fine.
    costs_where (behind_key channel o) with_setting IsSized o.fence _ (costs_near_area channel key o s u fine))))

costs_kinds : (channel : table.Called) → IsName channel.name → CostsSetting (before_kind channel) (table.setchan_kinds channel)
costs_kinds channel s =
    let k = before_kind channel in
    costs_or k with_setting IsSized _ _ (costs_setchan_area (codes "WITHIN") Within channel (small (codes "WITHIN") refl) s) (
    costs_or k with_setting IsSized _ _ (costs_setchan_area (codes "INTERSECTS") Intersects channel (small (codes "INTERSECTS") refl) s) (
    costs_or k with_setting IsSized _ _ (costs_setchan_near channel s) (costs_none k with_setting IsSized)))

abbrev with_ex : Option ℕ → ℕ
with_ex after_ex = 2 + ex_count after_ex

abbrev OfAny : Option ℕ → Type 0
OfAny after_ex = Unit {0}

costs_ex : Costs 2 with_ex OfAny table.after_ex_words
costs_ex =
    costs_or 2 with_ex OfAny (done None) _ (costs_done 2 with_ex OfAny None (omega arith) tt) (
    costs_bind 2 (λ s. 2 + 1 + 1) (λ s. IsSmall (decimal s)) with_ex OfAny (word (codes "EX") >> seconds) _
    (costs_then 2 (λ s. 2 + 1 + 1) (λ s. IsSmall (decimal s)) (codes "EX") seconds (costs_between (2 + 1) 1 max_seconds refl)) (λ s is.
    costs_done (2 + 1 + 1) with_ex OfAny (Some s) (omega arith) tt))

costs_setchan : CostsSetting 0 setting_form
costs_setchan =
    costs_then 0 with_setting IsSized (codes "SETCHAN") _ (
    costs_bind 1 (λ n. 2) IsName with_setting IsSized name _ (costs_name 1) (λ n s.
    costs_bind 2 with_ex OfAny with_setting IsSized table.after_ex_words _ costs_ex (λ after_ex is.
    costs_kinds (record { name = n; after_ex = after_ex }) s)))

-- every command that so many words spell: of a setting the words are no more, and leave as many as EX and its seconds are

abbrev pub IsWithin : ℕ → Command → Type 0
IsWithin n (command.Channel (of_channel.Setchan c from after_ex)) =
    (2 + ex_count after_ex + length c.words + later from ≤ n) × IsName c.name × FitAs from c.words
IsWithin n c = Unit {0}

of_setting : (n : ℕ) (r : Reading Command) → Counts with_setting IsSized (0 + n) r → Said (IsWithin n) r
of_setting n (spells (command.Channel (of_channel.Setchan c from after_ex)) rest) x = let le = x.0 in let s = x.2 in (omega (arith, le), s.0, s.1)
of_setting n (spells c rest) x = tt
of_setting n (runs_out due) x = tt

-- another command is no setting
others_within : (n : ℕ) (c : Command) → SetsNone c → IsWithin n c
others_within n (command.Channel (of_channel.Setchan c from after_ex)) none = absurd none
others_within n c none = tt

pub spelled_within : (words : List Bytes) (c : Command) → AreShort words → table.command_spelled words ≡ Some c → IsWithin (length words) c
spelled_within words c short e =
    let settings = each_map (Counts with_setting IsSized (0 + length words)) (Said (IsWithin (length words))) (of_setting (length words))
    (setting_form words) (costs_setchan.cost words short) in
    setting_said (IsWithin (length words)) (others_within (length words)) words c settings e

-- of whatever setting, no word but one is long
pub fit_light : (from : Option AreaWords) (words : List Bytes) → FitAs from words → AreLight words
fit_light None words fit = fit
fit_light (Some (Given a)) words fit = fit
fit_light (Some (Of key id)) words fit = light_of words fit
