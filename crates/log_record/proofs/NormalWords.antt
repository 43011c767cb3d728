-- The normal words of a setting spell it again.
use Rattle.std.proofs.Common.{◌≡◌, ◌≤◌, ◌<◌, ℕ, Bool, true, false, not, ◌&&◌, List, [], ◌∷◌, ◌++◌, length, refl, sym, ap, subst, ◌∙◌, arith, append-nil, append_assoc, length-append}
use Rattle.std.specs.Prelude.{Option, Some, None, Ok, codes, decimal, filter, flat_map, is_none, is_some, IfSome, if◌then◌else◌, nat_lt}
use Rattle.std.specs.List.{list_all, AllByRecursion}
use Rattle.std.specs.Fmt.{signed_decimal}
use Rattle.byte_text.specs.Names.{Bytes, is_name}
use Rattle.byte_text.specs.Globs.{is_well_formed}
use Rattle.ordered_lists.specs.Reading.{each-append}
use Rattle.byte_text.specs.Numbers.{natural_within}
use Rattle.planar_geom.specs.Points.{Point, Bounds}
use Rattle.planar_geom.specs.declared.shapes.Area.{Area}
use Rattle.planar_geom.specs.declared.shapes.Area.TheVariants.{Rect, Disc, Figure}
use Rattle.geo_text.specs.Texts.{Shape, shape_of, with_commas}
use Rattle.world_data.specs.Limits.{max_tests, max_meters}
use Rattle.world_data.specs.declared.channels.Channel.{Channel}
use Rattle.world_data.specs.declared.channels.Kind.{Kind}
use Rattle.world_data.specs.declared.channels.Kind.TheVariants.{Within, Intersects, Near}
use Rattle.world_data.specs.declared.channels.Watch.{Watch}
use Rattle.world_data.specs.declared.channels.Watch.TheVariants as watch
use Rattle.world_data.specs.declared.channels.Wanted.{Wanted}
use Rattle.world_data.specs.declared.filters.Test.{Test}
use Rattle.world_model.specs.Grammar.{a_word, a_geojson, Form, go_on, done, word, ◌>>=◌, ◌>>◌, where_, repeated, live, spelled}
use Rattle.world_model.specs.Kinds.{when, name, glob, seconds, lat_lon, four, meters, geojson, list_of, accepted}
use Rattle.world_model.specs.Commands as table
use Rattle.world_model.specs.Effects.{settled_channel}
use Rattle.world_model.specs.TableParts.{SetsNone, setting_form, setting_said}
use Rattle.world_model.specs.MadeForms.{Makes, makes_done, makes_none, makes_bind, makes_behind, makes_then, makes_repeated, makes_if, first}
use Rattle.world_model.specs.declared.search_commands.AreaWords.{AreaWords}
use Rattle.world_model.specs.declared.search_commands.AreaWords.TheVariants.{Given, Of}
use Rattle.world_model.specs.declared.commands.Command.{Command}
use Rattle.world_model.specs.declared.commands.Command.TheVariants as command
use Rattle.world_model.specs.declared.channel_commands.ChannelCommand.TheVariants as of_channel
use Rattle.log_record.specs.Words.{deadline_front, normal_words, IsNormal, SettingsAreNormal}
use Rattle.log_record.specs.RecordsRead.{second}
use Rattle.log_record.proofs.ReadBack.{Reads, literal, reads_done, reads_word, reads_bind, reads_then, reads_left, reads_here, reads_there, reads_where, none_where, skip, over, Goes, stays, goes_then, goes_all}
use Rattle.log_record.proofs.NormalForms.{IsNamed, IsPattern, IsNormalTest, IsNatural, IsPlace, IsBox, IsText, WantsSome, makes_name, makes_glob, makes_test, makes_list, makes_meters, makes_lat_lon, makes_four, makes_geojson, reads_lat_lon, reads_four}
use Rattle.log_record.proofs.NormalLists.{five, three, five_read, three_read, five_in, three_in}
use Rattle.log_record.proofs.NormalOptions.{so_far, normal, no_option, Waits, leads_glob, leads_tests, leads_fence, leads_nodwell, leads_detect, leads_commands}

-- what the options of a setting keep to
pub record AreNormal (near : Bool) (o : table.FenceOptions) : Type 0 where
  pub glob : IfSome o.glob IsPattern
  pub tests : AllByRecursion IsNormalTest o.tests
  pub few : length o.tests ≤ max_tests
  pub detect : IfSome o.detect (WantsSome table.detect_names)
  pub commands : IfSome o.commands (WantsSome table.command_names)
  pub lone : (o.nodwell && is_some o.detect) ≡ false
  pub only_near : o.nodwell ≡ true → near ≡ true

alone : (n : Bool) (d : Option (List Bytes)) → (is_none d && not n) ≡ true → n ≡ false
alone false d e = refl
alone true None e = absurd (cc e)
alone true (Some l) e = absurd (cc e)

undetected : (near n : Bool) (d : Option (List Bytes)) → (near && not n && is_none d) ≡ true → (near ≡ true) × (is_some d ≡ false)
undetected true false None e = (refl, refl)
undetected true false (Some l) e = absurd (cc e)
undetected true true d e = absurd (cc e)
undetected false n d e = absurd (cc e)

makes_option : (near : Bool) (o : table.FenceOptions) → AreNormal near o → Makes (AreNormal near) (table.fence_option near o)
makes_option near o h =
    let P = AreNormal near in
    first (makes_if P (is_none o.glob) _ (λ t. makes_bind IsPattern P (word (codes "MATCH") >> glob) _ (makes_then IsPattern (word (codes "MATCH")) glob makes_glob) (λ p is. makes_done P _
    (record { glob = is; tests = h.tests; few = h.few; detect = h.detect; commands = h.commands; lone = h.lone; only_near = h.only_near })))) (
    first (makes_if P (nat_lt (length o.tests) max_tests) _ (λ few. makes_bind IsNormalTest P table.test _ makes_test (λ t is. makes_done P _
    (record { glob = h.glob; tests = each-append IsNormalTest o.tests (t ∷ []) h.tests (is, tt); few = let less : length o.tests < max_tests = grind (few, arith) in omega (arith, less, length-append o.tests (t ∷ [])); detect = h.detect; commands = h.commands; lone = h.lone; only_near = h.only_near })))) (
    first (makes_if P (not o.fence) _ (λ t. makes_then P (word (codes "FENCE")) _ (makes_done P _
    (record { glob = h.glob; tests = h.tests; few = h.few; detect = h.detect; commands = h.commands; lone = h.lone; only_near = h.only_near })))) (
    first (makes_if P (is_none o.detect && not o.nodwell) _ (λ t. makes_bind (WantsSome table.detect_names) P (word (codes "DETECT") >> list_of table.detect_names) _ (makes_then (WantsSome table.detect_names) (word (codes "DETECT")) (list_of table.detect_names) (makes_list table.detect_names)) (λ l is. makes_done P _
    (record { glob = h.glob; tests = h.tests; few = h.few; detect = is; commands = h.commands; lone = ap (λ b. b && true) (alone o.nodwell o.detect t); only_near = h.only_near })))) (
    first (makes_if P (is_none o.commands) _ (λ t. makes_bind (WantsSome table.command_names) P (word (codes "COMMANDS") >> list_of table.command_names) _ (makes_then (WantsSome table.command_names) (word (codes "COMMANDS")) (list_of table.command_names) (makes_list table.command_names)) (λ l is. makes_done P _
    (record { glob = h.glob; tests = h.tests; few = h.few; detect = h.detect; commands = is; lone = h.lone; only_near = h.only_near })))) (
    first (makes_if P (near && not o.nodwell && is_none o.detect) _ (λ t. makes_then P (word (codes "NODWELL")) _ (makes_done P _
    (record { glob = h.glob; tests = h.tests; few = h.few; detect = h.detect; commands = h.commands; lone = (undetected near o.nodwell o.detect t).1; only_near = λ n. (undetected near o.nodwell o.detect t).0 })))) (makes_none P))))))

makes_options : (near : Bool) → Makes (AreNormal near) (repeated (table.fence_option near) table.no_fence_options)
makes_options near = makes_repeated (AreNormal near) (table.fence_option near) (makes_option near) table.no_fence_options
    (record { glob = tt; tests = tt; few = omega arith; detect = tt; commands = tt; lone = refl; only_near = λ e. absurd (cc e) })

-- the options as the normal words say them: what they want is the same
abbrev last : table.FenceOptions → table.FenceOptions
last o = so_far o.glob o.tests true (normal table.detect_names o.detect) (normal table.command_names o.commands) o.nodwell

record SameFive (d e : Option (List Bytes)) : Type 0 where
  inside : table.wants d (codes "inside") ≡ table.wants e (codes "inside")
  outside : table.wants d (codes "outside") ≡ table.wants e (codes "outside")
  enter : table.wants d (codes "enter") ≡ table.wants e (codes "enter")
  exit : table.wants d (codes "exit") ≡ table.wants e (codes "exit")
  cross : table.wants d (codes "cross") ≡ table.wants e (codes "cross")

record SameThree (d e : Option (List Bytes)) : Type 0 where
  set : table.wants d (codes "set") ≡ table.wants e (codes "set")
  del : table.wants d (codes "del") ≡ table.wants e (codes "del")
  drop : table.wants d (codes "drop") ≡ table.wants e (codes "drop")

left : (a b : Bool) → (a && b) ≡ true → true ≡ a
left true b e = refl
left false b e = absurd (cc e)

five_of_all : (l : List Bytes) (b : Bool) → list_all (table.wants (Some l)) table.detect_names ≡ b → SameFive (if b then None else Some (filter (table.wants (Some l)) table.detect_names)) (Some l)
five_of_all l true all =
    let w : Bytes → Bool = table.wants (Some l) in
    let two = second (w (codes "inside")) _ all in
    let three = second (w (codes "outside")) _ two in
    let four = second (w (codes "enter")) _ three in
    let five = second (w (codes "exit")) _ four in
    record { inside = left (w (codes "inside")) _ all; outside = left (w (codes "outside")) _ two; enter = left (w (codes "enter")) _ three; exit = left (w (codes "exit")) _ four; cross = left (w (codes "cross")) _ five }
five_of_all l false some =
    let w : Bytes → Bool = table.wants (Some l) in
    let are = five_in (w (codes "inside")) (w (codes "outside")) (w (codes "enter")) (w (codes "exit")) (w (codes "cross")) in
    record { inside = are.inside; outside = are.outside; enter = are.enter; exit = are.exit; cross = are.cross }

same_five : (d : Option (List Bytes)) → SameFive (normal table.detect_names d) d
same_five None = record { inside = refl; outside = refl; enter = refl; exit = refl; cross = refl }
same_five (Some l) = five_of_all l (list_all (table.wants (Some l)) table.detect_names) refl

three_of_all : (l : List Bytes) (b : Bool) → list_all (table.wants (Some l)) table.command_names ≡ b → SameThree (if b then None else Some (filter (table.wants (Some l)) table.command_names)) (Some l)
three_of_all l true all =
    let w : Bytes → Bool = table.wants (Some l) in
    let two = second (w (codes "set")) _ all in
    let three = second (w (codes "del")) _ two in
    record { set = left (w (codes "set")) _ all; del = left (w (codes "del")) _ two; drop = left (w (codes "drop")) _ three }
three_of_all l false some =
    let w : Bytes → Bool = table.wants (Some l) in
    let are = three_in (w (codes "set")) (w (codes "del")) (w (codes "drop")) in
    record { set = are.set; del = are.del; drop = are.drop }

same_three : (d : Option (List Bytes)) → SameThree (normal table.command_names d) d
same_three None = record { set = refl; del = refl; drop = refl }
same_three (Some l) = three_of_all l (list_all (table.wants (Some l)) table.command_names) refl

abbrev five_words : Bool → Bool → Bool → Bool → Bool → List Bytes
five_words a b c d e = if a && (b && (c && (d && (e && true)))) then [] else codes "DETECT" ∷ with_commas (five a b c d e) ∷ []

abbrev three_words : Bool → Bool → Bool → List Bytes
three_words a b c = if a && (b && (c && true)) then [] else codes "COMMANDS" ∷ with_commas (three a b c) ∷ []

module _ (A : Type 0) where
  ap3 : (f : Bool → Bool → Bool → A) (a b c x y z : Bool) → a ≡ x → b ≡ y → c ≡ z → f a b c ≡ f x y z
  ap3 f a b c x y z p q r = ap (λ v. f v b c) p ∙ ap (λ v. f x v c) q ∙ ap (λ v. f x y v) r

  ap5 : (f : Bool → Bool → Bool → Bool → Bool → A) (a b c d e v w x y z : Bool) → a ≡ v → b ≡ w → c ≡ x → d ≡ y → e ≡ z → f a b c d e ≡ f v w x y z
  ap5 f a b c d e v w x y z p q r s t = ap (λ u. f u b c d e) p ∙ ap (λ u. f v u c d e) q ∙ ap3 (f v w) c d e x y z r s t

detect_words : (d : Option (List Bytes)) → table.list_words (codes "DETECT") table.detect_names (normal table.detect_names d) ≡ table.list_words (codes "DETECT") table.detect_names d
detect_words d = let s = same_five d in ap5 (List Bytes) five_words _ _ _ _ _ _ _ _ _ _ s.inside s.outside s.enter s.exit s.cross

command_words : (d : Option (List Bytes)) → table.list_words (codes "COMMANDS") table.command_names (normal table.command_names d) ≡ table.list_words (codes "COMMANDS") table.command_names d
command_words d = let s = same_three d in ap3 (List Bytes) three_words _ _ _ _ _ _ s.set s.del s.drop

same_wanted : (o : table.FenceOptions) → table.wanted_of (last o) ≡ table.wanted_of o
same_wanted o =
    let s = same_five o.detect in
    let t = same_three o.commands in
    ap5 Wanted (λ a b c d e. record { inside = a; outside = b; enter = c; exit = d; cross = e; set = table.wants (normal table.command_names o.commands) (codes "set"); del = table.wants (normal table.command_names o.commands) (codes "del"); drop = table.wants (normal table.command_names o.commands) (codes "drop") }) _ _ _ _ _ _ _ _ _ _ s.inside s.outside s.enter s.exit s.cross
    ∙ ap3 Wanted (λ a b c. record { inside = table.wants o.detect (codes "inside"); outside = table.wants o.detect (codes "outside"); enter = table.wants o.detect (codes "enter"); exit = table.wants o.detect (codes "exit"); cross = table.wants o.detect (codes "cross"); set = a; del = b; drop = c }) _ _ _ _ _ _ t.set t.del t.drop

abbrev words_of : table.FenceOptions → List Bytes → List Bytes → List Bytes
words_of o d c = table.glob_words o.glob ++ flat_map table.test_words o.tests ++ codes "FENCE" ∷ (if o.nodwell then codes "NODWELL" ∷ [] else []) ++ d ++ c

same_words : (o : table.FenceOptions) → table.option_words (last o) ≡ table.option_words o
same_words o = ap (λ d. words_of o d (table.list_words (codes "COMMANDS") table.command_names (normal table.command_names o.commands))) (detect_words o.detect) ∙ ap (λ c. words_of o (table.list_words (codes "DETECT") table.detect_names o.detect) c) (command_words o.commands)

-- a setting without the seconds of EX, of a channel without a deadline
abbrev plain : Bytes → table.Called
plain channel = record { name = channel; after_ex = None }

abbrev channel_set : Bytes → Bytes → Bytes → table.FenceOptions → Wanted → Watch → List Bytes → Channel
channel_set channel kind_word key o wanted w words = record {
  name = channel;
  fence = record { key = key; glob = o.glob; tests = o.tests; wanted = wanted; watch = w };
  words = kind_word ∷ key ∷ words;
  deadline = None;
}

abbrev setting_with : table.Called → Bytes → Bytes → table.FenceOptions → Wanted → List Bytes → Watch → List Bytes → Option AreaWords → Command
setting_with called kind_word key o wanted words w area_words from =
    command.Channel (of_channel.Setchan (channel_set called.name kind_word key o wanted w (words ++ area_words)) from called.after_ex)

same_setting : (called : table.Called) (kind_word key : Bytes) (o : table.FenceOptions) (w : Watch) (area_words : List Bytes) (from : Option AreaWords)
    → table.setting called kind_word key (last o) w area_words from ≡ table.setting called kind_word key o w area_words from
same_setting called kind_word key o w area_words from =
    ap (λ x. setting_with called kind_word key o x (table.option_words (last o)) w area_words from) (same_wanted o)
    ∙ ap (λ x. setting_with called kind_word key o (table.wanted_of o) x w area_words from) (same_words o)

-- the options are read again, up to what stands behind them

regroup : (p t n d c a : List Bytes) → (p ++ t ++ codes "FENCE" ∷ n ++ d ++ c) ++ a ≡ p ++ (t ++ codes "FENCE" ∷ (n ++ (d ++ (c ++ a))))
regroup p t n d c a = simp append_assoc

and_false : (n : Bool) → (n && true) ≡ false → n ≡ false
and_false true e = absurd (cc e)
and_false false e = refl

module _ {B : Type 0} (near : Bool) (g : table.FenceOptions → Form B) (waits : Waits g) where
  by_detect : (o : Option Bytes) (tests : List Test) (d : Option (List Bytes)) (n : Bool) (rest : List Bytes) → (n && is_some d) ≡ false → IfSome d (WantsSome table.detect_names)
      → Goes (table.fence_option near) g (so_far o tests true None None n) (table.list_words (codes "DETECT") table.detect_names d ++ rest) (so_far o tests true (normal table.detect_names d) None n) rest
  by_detect o tests None n rest lone some = stays (table.fence_option near) g (so_far o tests true None None n) rest
  by_detect o tests (Some l) n rest lone some =
      let w : Bytes → Bool = table.wants (Some l) in
      leads_detect near g waits o tests n (list_all w table.detect_names) (with_commas (filter w table.detect_names)) (filter w table.detect_names) rest (and_false n lone)
      (five_read (w (codes "inside")) (w (codes "outside")) (w (codes "enter")) (w (codes "exit")) (w (codes "cross")) some)

  by_commands : (o : Option Bytes) (tests : List Test) (d : Option (List Bytes)) (n : Bool) (c : Option (List Bytes)) (rest : List Bytes) → IfSome c (WantsSome table.command_names)
      → Goes (table.fence_option near) g (so_far o tests true d None n) (table.list_words (codes "COMMANDS") table.command_names c ++ rest) (so_far o tests true d (normal table.command_names c) n) rest
  by_commands o tests d n None rest some = stays (table.fence_option near) g (so_far o tests true d None n) rest
  by_commands o tests d n (Some l) rest some =
      let w : Bytes → Bool = table.wants (Some l) in
      leads_commands near g waits o tests d n (list_all w table.command_names) (with_commas (filter w table.command_names)) (filter w table.command_names) rest
      (three_read (w (codes "set")) (w (codes "del")) (w (codes "drop")) some)

  grouped : (o : table.FenceOptions) (a : List Bytes) → let d = table.list_words (codes "DETECT") table.detect_names o.detect in let c = table.list_words (codes "COMMANDS") table.command_names o.commands in let n : List Bytes = if o.nodwell then codes "NODWELL" ∷ [] else [] in
      table.option_words o ++ a ≡ table.glob_words o.glob ++ (flat_map table.test_words o.tests ++ codes "FENCE" ∷ (n ++ (d ++ (c ++ a))))
  grouped o a = regroup (table.glob_words o.glob) (flat_map table.test_words o.tests) (if o.nodwell then codes "NODWELL" ∷ [] else []) (table.list_words (codes "DETECT") table.detect_names o.detect) (table.list_words (codes "COMMANDS") table.command_names o.commands) a

  all_options : (o : table.FenceOptions) (a : List Bytes) → AreNormal near o → Goes (table.fence_option near) g table.no_fence_options (table.option_words o ++ a) (last o) a
  all_options o a h =
      let step = table.fence_option near in
      let c = table.list_words (codes "COMMANDS") table.command_names o.commands ++ a in
      let d = table.list_words (codes "DETECT") table.detect_names o.detect ++ c in
      let n : List Bytes = (if o.nodwell then codes "NODWELL" ∷ [] else []) ++ d in
      subst (λ l. Goes step g table.no_fence_options l (last o) a) (sym (grouped o a))
      (goes_then step g (leads_glob near g waits o.glob (flat_map table.test_words o.tests ++ codes "FENCE" ∷ n) h.glob)
      (goes_then step g (leads_tests near g waits o.glob [] o.tests (codes "FENCE" ∷ n) h.tests (omega (arith, h.few)))
      (goes_then step g (leads_fence near g waits o.glob o.tests n)
      (goes_then step g (leads_nodwell g waits near o.glob o.tests o.nodwell d h.only_near)
      (goes_then step g (by_detect o.glob o.tests o.detect o.nodwell c h.lone h.detect)
      (by_commands o.glob o.tests (normal table.detect_names o.detect) o.nodwell o.commands a h.commands))))))

-- areas, whose words are read again and are no options

abbrev NormalFrom : AreaWords → table.AreaRead → Type 0
NormalFrom (Given x) a = Reads table.area a.words a [] × ((s : table.FenceOptions) → table.fence_option false s a.words ≡ [])
NormalFrom (Of key id) a = a ≡ record { from = Of key id; area = table.nowhere; words = [] }

abbrev IsNormalArea : table.AreaRead → Type 0
IsNormalArea a = NormalFrom a.from a

abbrev box_words : Bounds → List Bytes
box_words b = codes "BOUNDS" ∷ signed_decimal b.min.y ∷ signed_decimal b.min.x ∷ signed_decimal b.max.y ∷ signed_decimal b.max.x ∷ []

abbrev disc_words : Point → ℕ → List Bytes
disc_words p r = codes "CIRCLE" ∷ signed_decimal p.y ∷ signed_decimal p.x ∷ decimal r ∷ []

abbrev box_form : Form table.AreaRead
box_form = word (codes "BOUNDS") >> four >>= (λ b. done (table.given_area (Rect b) (box_words b)))

abbrev text_form : Form table.AreaRead
text_form = word (codes "OBJECT") >> geojson >>= (λ t. done (table.given_area (Figure t.1) (codes "OBJECT" ∷ t.0 ∷ [])))

abbrev disc_form : Form table.AreaRead
disc_form = word (codes "CIRCLE") >> lat_lon >>= (λ p. meters >>= (λ r. done (table.given_area (Disc p r) (disc_words p r))))

abbrev get_form : Form table.AreaRead
get_form = word (codes "GET") >> name >>= (λ key. name >>= (λ id. done (record { from = Of key id; area = table.nowhere; words = [] })))

box_area : (b : Bounds) → IsBox b → IsNormalArea (table.given_area (Rect b) (box_words b))
box_area b is = (
  reads_here box_form (text_form ∷ disc_form ∷ get_form ∷ []) (reads_bind (word (codes "BOUNDS") >> four) (λ x. done (table.given_area (Rect x) (box_words x)))
      (reads_then (word (codes "BOUNDS")) four (literal (codes "BOUNDS") _ refl) (reads_four b [] is)) reads_done) refl,
  λ s. no_option false s (box_words b) refl refl refl refl refl refl,
)

text_area : (t : Bytes × Shape) → IsText t → IsNormalArea (table.given_area (Figure t.1) (codes "OBJECT" ∷ t.0 ∷ []))
text_area t is = (
  reads_there box_form (text_form ∷ disc_form ∷ get_form ∷ []) refl (reads_here text_form (disc_form ∷ get_form ∷ []) (reads_bind (word (codes "OBJECT") >> geojson) (λ x. done (table.given_area (Figure x.1) (codes "OBJECT" ∷ x.0 ∷ [])))
      (reads_then (word (codes "OBJECT")) geojson (literal (codes "OBJECT") _ refl) (reads_word a_geojson (λ w. accepted w (shape_of w)) is)) reads_done) refl),
  λ s. no_option false s (codes "OBJECT" ∷ t.0 ∷ []) refl refl refl refl refl refl,
)

disc_area : (p : Point) (r : ℕ) → IsPlace p → IsNatural 0 max_meters r → IsNormalArea (table.given_area (Disc p r) (disc_words p r))
disc_area p r is far = (
  reads_there box_form (text_form ∷ disc_form ∷ get_form ∷ []) refl (reads_there text_form (disc_form ∷ get_form ∷ []) refl (reads_here disc_form (get_form ∷ [])
      (reads_bind (word (codes "CIRCLE") >> lat_lon) (λ x. meters >>= (λ y. done (table.given_area (Disc x y) (disc_words x y)))) (reads_then (word (codes "CIRCLE")) lat_lon (literal (codes "CIRCLE") _ refl) (reads_lat_lon p _ is))
      (reads_bind meters (λ y. done (table.given_area (Disc p y) (disc_words p y))) (reads_word a_word (natural_within 0 max_meters) far) reads_done)) refl)),
  λ s. no_option false s (disc_words p r) refl refl refl refl refl refl,
)

makes_area : Makes IsNormalArea table.area
makes_area =
    first (makes_bind IsBox IsNormalArea (word (codes "BOUNDS") >> four) _ (makes_then IsBox (word (codes "BOUNDS")) four makes_four) (λ b is. makes_done IsNormalArea _ (box_area b is))) (
    first (makes_bind IsText IsNormalArea (word (codes "OBJECT") >> geojson) _ (makes_then IsText (word (codes "OBJECT")) geojson makes_geojson) (λ t is. makes_done IsNormalArea _ (text_area t is))) (
    first (makes_bind IsPlace IsNormalArea (word (codes "CIRCLE") >> lat_lon) _ (makes_then IsPlace (word (codes "CIRCLE")) lat_lon makes_lat_lon) (λ p is. makes_bind (IsNatural 0 max_meters) IsNormalArea meters _ makes_meters (λ r far. makes_done IsNormalArea _ (disc_area p r is far)))) (
    first (makes_behind IsNormalArea (word (codes "GET") >> name) _ (λ key. makes_behind IsNormalArea name _ (λ id. makes_done IsNormalArea (record { from = Of key id; area = table.nowhere; words = [] }) refl))) (makes_none IsNormalArea))))

-- settings

record Spells (c : Channel) (from : Option AreaWords) : Type 0 where
  reads : Reads setting_form (normal_words c) (command.Channel (of_channel.Setchan c from None)) []
  undated : deadline_front c.words ≡ (None, c.words)

-- the setting's normal words spell it, where its area stands in them; else they do once the area's text stands there
abbrev Respells : Channel → Option AreaWords → Type 0
Respells c None = Spells c None
Respells c (Some (Given a)) = Spells c (Some (Given a))
Respells c (Some (Of key id)) = (text : Bytes) (shape : Shape) → shape_of text ≡ Ok shape
    → let d = settled_channel c (Figure shape) (codes "OBJECT" ∷ text ∷ []) in Spells d (Some (Given (Figure shape)))

abbrev IsRespelled : Command → Type 0
IsRespelled (command.Channel (of_channel.Setchan c from after_ex)) = Respells c from
IsRespelled c = Unit {0}

-- what goes on behind the options of an area
none_behind : {A B : Type 0} (test : Bool) (f : Form A) (g : A → Form B) (words : List Bytes) → f words ≡ [] → (where_ test f >>= g) words ≡ []
none_behind true f g words none = ap (flat_map (go_on g)) none
none_behind false f g words none = refl

closed_behind : {A B : Type 0} (test : Bool) (f : Form A) (g : A → Form B) (words : List Bytes) → test ≡ false → (where_ test f >>= g) words ≡ []
closed_behind test f g words e = ap (λ t. (where_ t f >>= g) words) e

closed_where : {A : Type 0} (test : Bool) (f : Form A) (words : List Bytes) → test ≡ false → where_ test f words ≡ []
closed_where test f words e = ap (λ t. where_ t f words) e

area_waits : (kind_word : Bytes) (kind : Kind) (channel : table.Called) (key : Bytes)
    → Waits (λ o. where_ o.fence table.area >>= (λ a. done (table.setting channel kind_word key o (watch.Zone kind a.area) a.words (Some a.from))))
area_waits kind_word kind channel key = record {
  closed = λ s words e. closed_behind s.fence table.area _ words e;
  before_nodwell = λ s words. none_behind s.fence table.area _ (codes "NODWELL" ∷ words) refl;
  before_detect = λ s words. none_behind s.fence table.area _ (codes "DETECT" ∷ words) refl;
  before_commands = λ s words. none_behind s.fence table.area _ (codes "COMMANDS" ∷ words) refl;
}

abbrev disc_near : table.Called → Bytes → table.FenceOptions → Form Command
disc_near channel key o = word (codes "POINT") >> lat_lon >>= (λ p. meters >>= (λ r.
    done (table.setting channel (codes "NEARBY") key o (watch.Zone Near (Disc p r)) (codes "POINT" ∷ signed_decimal p.y ∷ signed_decimal p.x ∷ decimal r ∷ []) None)))

abbrev roam_near : table.Called → Bytes → table.FenceOptions → Form Command
roam_near channel key o = word (codes "ROAM") >> name >>= (λ other. glob >>= (λ pattern. meters >>= (λ r.
    done (table.setting channel (codes "NEARBY") key o (watch.Roam other pattern r o.nodwell) (codes "ROAM" ∷ other ∷ pattern ∷ decimal r ∷ []) None))))

no_near : (channel : table.Called) (key : Bytes) (o : table.FenceOptions) (words : List Bytes) → disc_near channel key o words ≡ [] → roam_near channel key o words ≡ [] → table.near_area channel key o words ≡ []
no_near channel key o words d r = over (not o.nodwell) (disc_near channel key o) (where_ (is_none o.detect) (roam_near channel key o) ∷ []) words d (over (is_none o.detect) (roam_near channel key o) [] words r refl)

abbrev behind_near : table.Called → Bytes → table.FenceOptions → Form Command
behind_near channel key o = where_ o.fence (table.near_area channel key o)

near_waits : (channel : table.Called) (key : Bytes) → Waits (behind_near channel key)
near_waits channel key = record {
  closed = λ s words e. closed_where s.fence (table.near_area channel key s) words e;
  before_nodwell = λ s words. none_where s.fence (table.near_area channel key s) (codes "NODWELL" ∷ words) (no_near channel key s (codes "NODWELL" ∷ words) refl refl);
  before_detect = λ s words. none_where s.fence (table.near_area channel key s) (codes "DETECT" ∷ words) (no_near channel key s (codes "DETECT" ∷ words) refl refl);
  before_commands = λ s words. none_where s.fence (table.near_area channel key s) (codes "COMMANDS" ∷ words) (no_near channel key s (codes "COMMANDS" ∷ words) refl refl);
}

abbrev behind_area : Bytes → Kind → table.Called → Bytes → table.FenceOptions → Form Command
behind_area kind_word kind channel key o = where_ o.fence table.area >>= (λ a. done (table.setting channel kind_word key o (watch.Zone kind a.area) a.words (Some a.from)))

spells_area : (kind_word : Bytes) (kind : Kind) (channel : table.Called) (key : Bytes) (o : table.FenceOptions) (a : table.AreaRead)
    → ((rest : List Bytes) → Reads (word kind_word) (kind_word ∷ rest) kind_word rest) → IsNamed key → AreNormal false o → Reads table.area a.words a [] → ((s : table.FenceOptions) → table.fence_option false s a.words ≡ [])
    → Reads (table.setchan_area kind_word kind channel) (kind_word ∷ key ∷ table.option_words o ++ a.words) (table.setting channel kind_word key o (watch.Zone kind a.area) a.words (Some a.from)) []
spells_area kind_word kind channel key o a word_is named h reads no_option =
    subst (λ c. Reads (table.setchan_area kind_word kind channel) (kind_word ∷ key ∷ table.option_words o ++ a.words) c []) (same_setting channel kind_word key o (watch.Zone kind a.area) a.words (Some a.from))
    (reads_then (word kind_word) (name >>= (λ k. repeated (table.fence_option false) table.no_fence_options >>= behind_area kind_word kind channel k)) (word_is _)
    (reads_bind name (λ k. repeated (table.fence_option false) table.no_fence_options >>= behind_area kind_word kind channel k) (reads_word a_word (λ w. when (is_name w) w) named)
    (goes_all (table.fence_option false) (behind_area kind_word kind channel key) (all_options false (behind_area kind_word kind channel key) (area_waits kind_word kind channel key) o a.words h) (no_option (last o))
    (reads_bind (where_ true table.area) (λ b. done (table.setting channel kind_word key (last o) (watch.Zone kind b.area) b.words (Some b.from))) (reads_where true table.area refl reads) reads_done))))

none_detected : (d : Option (List Bytes)) → is_none d ≡ true → is_none (normal table.detect_names d) ≡ true
none_detected None e = refl
none_detected (Some l) e = absurd (cc e)

spells_disc : (channel : table.Called) (key : Bytes) (o : table.FenceOptions) (p : Point) (r : ℕ) → IsNamed key → AreNormal true o → not o.nodwell ≡ true → IsPlace p → IsNatural 0 max_meters r
    → let a = codes "POINT" ∷ signed_decimal p.y ∷ signed_decimal p.x ∷ decimal r ∷ [] in
    Reads (table.setchan_near channel) (codes "NEARBY" ∷ key ∷ table.option_words o ++ a) (table.setting channel (codes "NEARBY") key o (watch.Zone Near (Disc p r)) a None) []
spells_disc channel key o p r named h dwells place far =
    let a = codes "POINT" ∷ signed_decimal p.y ∷ signed_decimal p.x ∷ decimal r ∷ [] in
    subst (λ c. Reads (table.setchan_near channel) (codes "NEARBY" ∷ key ∷ table.option_words o ++ a) c []) (same_setting channel (codes "NEARBY") key o (watch.Zone Near (Disc p r)) a None)
    (reads_then (word (codes "NEARBY")) (name >>= (λ k. repeated (table.fence_option true) table.no_fence_options >>= behind_near channel k)) (literal (codes "NEARBY") _ refl)
    (reads_bind name (λ k. repeated (table.fence_option true) table.no_fence_options >>= behind_near channel k) (reads_word a_word (λ w. when (is_name w) w) named)
    (goes_all (table.fence_option true) (behind_near channel key) (all_options true (behind_near channel key) (near_waits channel key) o a h) (no_option true (last o) a refl refl refl refl refl refl)
    (reads_where true (table.near_area channel key (last o)) refl (reads_here (where_ (not o.nodwell) (disc_near channel key (last o))) (where_ (is_none (last o).detect) (roam_near channel key (last o)) ∷ [])
    (reads_where (not o.nodwell) (disc_near channel key (last o)) dwells
    (reads_bind (word (codes "POINT") >> lat_lon) (λ x. meters >>= (λ y. done (table.setting channel (codes "NEARBY") key (last o) (watch.Zone Near (Disc x y)) (codes "POINT" ∷ signed_decimal x.y ∷ signed_decimal x.x ∷ decimal y ∷ []) None)))
    (reads_then (word (codes "POINT")) lat_lon (literal (codes "POINT") _ refl) (reads_lat_lon p _ place))
    (reads_bind meters (λ y. done (table.setting channel (codes "NEARBY") key (last o) (watch.Zone Near (Disc p y)) (codes "POINT" ∷ signed_decimal p.y ∷ signed_decimal p.x ∷ decimal y ∷ []) None)) (reads_word a_word (natural_within 0 max_meters) far) reads_done)))
    (over (is_none (last o).detect) (roam_near channel key (last o)) [] a refl refl))))))

spells_roam : (channel : table.Called) (key : Bytes) (o : table.FenceOptions) (other pattern : Bytes) (r : ℕ) → IsNamed key → AreNormal true o → is_none o.detect ≡ true → IsNamed other → IsPattern pattern → IsNatural 0 max_meters r
    → let a = codes "ROAM" ∷ other ∷ pattern ∷ decimal r ∷ [] in
    Reads (table.setchan_near channel) (codes "NEARBY" ∷ key ∷ table.option_words o ++ a) (table.setting channel (codes "NEARBY") key o (watch.Roam other pattern r o.nodwell) a None) []
spells_roam channel key o other pattern r named h alone_is named_other is far =
    let a = codes "ROAM" ∷ other ∷ pattern ∷ decimal r ∷ [] in
    subst (λ c. Reads (table.setchan_near channel) (codes "NEARBY" ∷ key ∷ table.option_words o ++ a) c []) (same_setting channel (codes "NEARBY") key o (watch.Roam other pattern r o.nodwell) a None)
    (reads_then (word (codes "NEARBY")) (name >>= (λ k. repeated (table.fence_option true) table.no_fence_options >>= behind_near channel k)) (literal (codes "NEARBY") _ refl)
    (reads_bind name (λ k. repeated (table.fence_option true) table.no_fence_options >>= behind_near channel k) (reads_word a_word (λ w. when (is_name w) w) named)
    (goes_all (table.fence_option true) (behind_near channel key) (all_options true (behind_near channel key) (near_waits channel key) o a h) (no_option true (last o) a refl refl refl refl refl refl)
    (reads_where true (table.near_area channel key (last o)) refl (skip (not o.nodwell) (disc_near channel key (last o)) (where_ (is_none (last o).detect) (roam_near channel key (last o)) ∷ []) refl
    (reads_here (where_ (is_none (last o).detect) (roam_near channel key (last o))) [] (reads_where (is_none (last o).detect) (roam_near channel key (last o)) (none_detected o.detect alone_is)
    (reads_bind (word (codes "ROAM") >> name) (λ x. glob >>= (λ y. meters >>= (λ z. done (table.setting channel (codes "NEARBY") key (last o) (watch.Roam x y z o.nodwell) (codes "ROAM" ∷ x ∷ y ∷ decimal z ∷ []) None))))
    (reads_then (word (codes "ROAM")) name (literal (codes "ROAM") _ refl) (reads_word a_word (λ w. when (is_name w) w) named_other))
    (reads_bind glob (λ y. meters >>= (λ z. done (table.setting channel (codes "NEARBY") key (last o) (watch.Roam other y z o.nodwell) (codes "ROAM" ∷ other ∷ y ∷ decimal z ∷ []) None))) (reads_word a_word (λ w. when (is_name w && is_well_formed w) w) is)
    (reads_bind meters (λ z. done (table.setting channel (codes "NEARBY") key (last o) (watch.Roam other pattern z o.nodwell) (codes "ROAM" ∷ other ∷ pattern ∷ decimal z ∷ []) None)) (reads_word a_word (natural_within 0 max_meters) far) reads_done)))) refl))))))

-- a whole setting, by how its form stands among the three

abbrev SpellsKind : Bytes → List Bytes → Command → Type 0
SpellsKind channel words c = Reads (table.setchan_kinds (plain channel)) words c []

abbrev behind_name : Bytes → Form Command
behind_name channel = table.after_ex_words >>= (λ after_ex. table.setchan_kinds (record { name = channel; after_ex = after_ex }))

abbrev ex_form : Form (Option ℕ)
ex_form = word (codes "EX") >> seconds >>= (λ s. done (Some s))

-- words that begin with no EX
spells_setting : (channel : Bytes) (words : List Bytes) (c : Command) → IsNamed channel → ex_form words ≡ [] → SpellsKind channel words c
    → Reads setting_form (codes "SETCHAN" ∷ channel ∷ words) c []
spells_setting channel words c named none kind =
    reads_then (word (codes "SETCHAN")) (name >>= behind_name) (literal (codes "SETCHAN") _ refl)
    (reads_bind name behind_name (reads_word a_word (λ w. when (is_name w) w) named)
    (reads_bind table.after_ex_words (λ after_ex. table.setchan_kinds (record { name = channel; after_ex = after_ex }))
    (reads_left (done None) ex_form reads_done none) kind))

abbrev zone_set : Bytes → Bytes → Bytes → table.FenceOptions → Watch → List Bytes → Channel
zone_set channel kind_word key o w area_words = channel_set channel kind_word key o (table.wanted_of o) w (table.option_words o ++ area_words)

abbrev SpellsSetting : Bytes → Kind → Type 0
SpellsSetting kind_word kind = (channel key : Bytes) (o : table.FenceOptions) (a : table.AreaRead) → IsNamed channel → IsNamed key → AreNormal false o
    → Reads table.area a.words a [] → ((s : table.FenceOptions) → table.fence_option false s a.words ≡ [])
    → Spells (zone_set channel kind_word key o (watch.Zone kind a.area) a.words) (Some a.from)

abbrev within_form : Bytes → Form Command
within_form channel = table.setchan_area (codes "WITHIN") Within (plain channel)

abbrev intersects_form : Bytes → Form Command
intersects_form channel = table.setchan_area (codes "INTERSECTS") Intersects (plain channel)

abbrev near_form : Bytes → Form Command
near_form channel = table.setchan_near (plain channel)

within_spelled : SpellsSetting (codes "WITHIN") Within
within_spelled channel key o a named key_named h reads no_option = record {
  reads = spells_setting channel _ _ named refl (reads_here (within_form channel) (intersects_form channel ∷ near_form channel ∷ [])
      (spells_area (codes "WITHIN") Within (plain channel) key o a (λ rest. record { is = refl }) key_named h reads no_option) refl);
  undated = refl;
}

intersects_spelled : SpellsSetting (codes "INTERSECTS") Intersects
intersects_spelled channel key o a named key_named h reads no_option = record {
  reads = spells_setting channel _ _ named refl (reads_there (within_form channel) (intersects_form channel ∷ near_form channel ∷ []) refl
      (reads_here (intersects_form channel) (near_form channel ∷ [])
      (spells_area (codes "INTERSECTS") Intersects (plain channel) key o a (λ rest. record { is = refl }) key_named h reads no_option) refl));
  undated = refl;
}

near_spelled : (channel key : Bytes) (o : table.FenceOptions) (w : Watch) (area_words : List Bytes) → IsNamed channel
    → let c = zone_set channel (codes "NEARBY") key o w area_words in
    Reads (near_form channel) c.words (command.Channel (of_channel.Setchan c None None)) [] → Spells c None
near_spelled channel key o w area_words named near = record {
  reads = spells_setting channel _ _ named refl (reads_there (within_form channel) (intersects_form channel ∷ near_form channel ∷ []) refl
      (reads_there (intersects_form channel) (near_form channel ∷ []) refl (reads_here (near_form channel) [] near refl)));
  undated = refl;
}

text_is : (text : Bytes) (shape : Shape) → shape_of text ≡ Ok shape → IsText (text, shape)
text_is text shape e = ap (accepted text) e

by_from : (kind_word : Bytes) (kind : Kind) → SpellsSetting kind_word kind → (channel : table.Called) (key : Bytes) (o : table.FenceOptions) → IsNamed channel.name
    → IsNamed key → AreNormal false o → (from : AreaWords) (area : Area) (words : List Bytes) → IsNormalArea (record { from = from; area = area; words = words })
    → IsRespelled (table.setting channel kind_word key o (watch.Zone kind area) words (Some from))
by_from kind_word kind spelled_is channel key o named key_named h (Given x) area words is =
    spelled_is channel.name key o (record { from = Given x; area = area; words = words }) named key_named h is.0 is.1
by_from kind_word kind spelled_is channel key o named key_named h (Of k id) area words is = λ text shape accepted_is.
    let t = text_area (text, shape) (text_is text shape accepted_is) in
    let given = codes "OBJECT" ∷ text ∷ [] in
    let none : words ≡ [] = ap (λ (a : table.AreaRead). a.words) is in
    let joined_words : table.option_words o ++ given ≡ (table.option_words o ++ words) ++ given = ap (λ l. l ++ given) (sym (append-nil (table.option_words o)) ∙ ap (λ l. table.option_words o ++ l) (sym none)) in
    subst (λ l. Spells (channel_set channel.name kind_word key o (table.wanted_of o) (watch.Zone kind (Figure shape)) l) (Some (Given (Figure shape))))
    joined_words (spelled_is channel.name key o (table.given_area (Figure shape) given) named key_named h t.0 t.1)

makes_setchan_area : (kind_word : Bytes) (kind : Kind) → SpellsSetting kind_word kind → (channel : table.Called) → IsNamed channel.name
    → Makes IsRespelled (table.setchan_area kind_word kind channel)
makes_setchan_area kind_word kind spelled_is channel named = makes_then IsRespelled (word kind_word) _ (makes_bind IsNamed IsRespelled name _ makes_name (λ key key_named. makes_bind (AreNormal false) IsRespelled _ _ (makes_options false) (λ o h.
    makes_bind IsNormalArea IsRespelled _ _ (makes_if IsNormalArea o.fence table.area (λ fence. makes_area)) (λ a is. makes_done IsRespelled _ (by_from kind_word kind spelled_is channel key o named key_named h a.from a.area a.words is)))))

makes_near_area : (channel : table.Called) (key : Bytes) (o : table.FenceOptions) → IsNamed channel.name → IsNamed key → AreNormal true o
    → Makes IsRespelled (table.near_area channel key o)
makes_near_area channel key o named key_named h =
    first (makes_if IsRespelled (not o.nodwell) _ (λ dwells. makes_bind IsPlace IsRespelled (word (codes "POINT") >> lat_lon) _ (makes_then IsPlace (word (codes "POINT")) lat_lon makes_lat_lon) (λ p place.
    makes_bind (IsNatural 0 max_meters) IsRespelled meters _ makes_meters (λ r far. makes_done IsRespelled _
    (near_spelled channel.name key o _ _ named (spells_disc (plain channel.name) key o p r key_named h dwells place far)))))) (
    first (makes_if IsRespelled (is_none o.detect) _ (λ none. makes_bind IsNamed IsRespelled (word (codes "ROAM") >> name) _ (makes_then IsNamed (word (codes "ROAM")) name makes_name) (λ other named_other.
    makes_bind IsPattern IsRespelled glob _ makes_glob (λ pattern is. makes_bind (IsNatural 0 max_meters) IsRespelled meters _ makes_meters (λ r far. makes_done IsRespelled _
    (near_spelled channel.name key o _ _ named (spells_roam (plain channel.name) key o other pattern r key_named h none named_other is far))))))) (makes_none IsRespelled))

makes_kinds : (channel : table.Called) → IsNamed channel.name → Makes IsRespelled (table.setchan_kinds channel)
makes_kinds channel named =
    first (makes_setchan_area (codes "WITHIN") Within within_spelled channel named) (
    first (makes_setchan_area (codes "INTERSECTS") Intersects intersects_spelled channel named) (
    first (makes_then IsRespelled (word (codes "NEARBY")) _ (makes_bind IsNamed IsRespelled name _ makes_name (λ key key_named. makes_bind (AreNormal true) IsRespelled _ _ (makes_options true) (λ o h.
    makes_if IsRespelled o.fence _ (λ fence. makes_near_area channel key o named key_named h))))) (makes_none IsRespelled)))

makes_setchan : Makes IsRespelled setting_form
makes_setchan = makes_then IsRespelled (word (codes "SETCHAN")) _ (makes_bind IsNamed IsRespelled name _ makes_name
    (λ channel named. makes_behind IsRespelled table.after_ex_words _ (λ after_ex. makes_kinds (record { name = channel; after_ex = after_ex }) named)))

-- another command is no setting
others_are : (c : Command) → SetsNone c → IsRespelled c
others_are (command.Channel (of_channel.Setchan c from after_ex)) none = absurd none
others_are c none = tt

respelled : (words : List Bytes) (c : Command) → table.command_spelled words ≡ Some c → IsRespelled c
respelled words c e = setting_said IsRespelled others_are words c (makes_setchan.made words) e

normal_again : (c : Channel) (from : Option AreaWords) → Spells c from → IsNormal c from
unfolding table.readings
normal_again c from is = record { spelled = ap (λ l. spelled (live (l ++ []))) is.reads.is; undated = is.undated }

pub settings_are_normal : SettingsAreNormal
settings_are_normal = record {
  given = λ words c a after_ex e. normal_again c (Some (Given a)) (respelled words (command.Channel (of_channel.Setchan c (Some (Given a)) after_ex)) e);
  near = λ words c after_ex e. normal_again c None (respelled words (command.Channel (of_channel.Setchan c None after_ex)) e);
  stored = λ words c after_ex key id text shape e accepted_is.
      normal_again (settled_channel c (Figure shape) (codes "OBJECT" ∷ text ∷ [])) (Some (Given (Figure shape)))
      (respelled words (command.Channel (of_channel.Setchan c (Some (Of key id)) after_ex)) e text shape accepted_is);
}
