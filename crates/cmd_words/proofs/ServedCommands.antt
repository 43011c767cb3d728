-- What every command that is asked for keeps to.
use Rattle.std.proofs.Common.{◌≡◌, ◌<◌, Bool, true, false, not, refl, subst, List, [], ◌∷◌, ◌++◌, length, arith}
use Rattle.std.specs.Prelude.{◌&&◌, Option, Some, None, is_none, unwrap_or, Ok, codes, IfSome, nat_lt}
use Rattle.std.specs.List.{AllByRecursion}
use Rattle.byte_text.specs.Names.{Bytes, is_name}
use Rattle.ordered_lists.specs.Reading.{both_of}
use Rattle.world_model.specs.Grammar.{Form, done, word, maybe, ◌>>=◌, ◌>>◌, ◌or◌, where_, repeated, once_or_more, a_word}
use Rattle.world_model.specs.Kinds.{name, glob, seconds, meters, lat_lon, four, geojson, when}
use Rattle.world_data.specs.Limits.{max_tests}
use Rattle.byte_text.specs.Globs.{is_well_formed}
use Rattle.world_model.specs.Commands as table
use Rattle.world_model.specs.Commands.{reads}
use Rattle.world_model.specs.Sound.{IsSoundCommand, is_sound_from}
use Rattle.world_data.specs.declared.channels.Kind.{Kind}
use Rattle.world_data.specs.declared.channels.Kind.TheVariants.{Within, Intersects}
use Rattle.world_data.specs.declared.channels.Watch.TheVariants as watch
use Rattle.world_data.specs.declared.queries.Rule.TheVariants.{InArea, Nearest}
use Rattle.world_data.specs.declared.queries.Shown.TheVariants as shown
use Rattle.world_model.specs.declared.object_commands.Only.TheVariants.{Any}
use Rattle.world_model.specs.declared.commands.Command.{Command}
use Rattle.world_model.specs.declared.commands.Command.TheVariants as command
use Rattle.world_model.specs.declared.object_commands.ObjectCommand.TheVariants as of_object
use Rattle.world_model.specs.declared.search_commands.SearchCommand.TheVariants as of_search
use Rattle.world_model.specs.declared.channel_commands.ChannelCommand.TheVariants as of_channel
use Rattle.world_model.specs.declared.session_commands.SessionCommand.TheVariants as of_session
use Rattle.world_model.specs.RowLaws.{of_families, makes_rows}
use Rattle.world_model.specs.MadeForms.{Makes, makes_done, makes_or, makes_none, makes_where, makes_word, makes_bind, makes_behind, makes_then, makes_maybe, makes_repeated, spelled_said}
use Rattle.world_model.specs.SoundLaws.{reads_sound}
use Rattle.world_model.specs.SoundLaws.{when_is}
use Rattle.cmd_words.specs.ReadLaws.{ok_spelled}
use Rattle.cmd_words.specs.Laws.{IsServed, IsOfObject, IsPattern, IsById, IsKept}

abbrev IsName : Bytes → Type 0
IsName w = is_name w ≡ true

-- where the command is sound, it is one that is served
abbrev Keeps : Command → Type 0
Keeps c = IsSoundCommand c → IsServed c

name_is : (w n : Bytes) → when (is_name w) w ≡ Some n → IsName n
name_is w n e = let h = when_is (is_name w) w n e in subst IsName h.1 h.0

makes_name : Makes IsName name
makes_name = makes_word IsName a_word (λ w. when (is_name w) w) name_is

glob_is : (w p : Bytes) → when (is_name w && is_well_formed w) w ≡ Some p → IsPattern p
glob_is w p e = let h = when_is (is_name w && is_well_formed w) w p e in subst IsPattern h.1 (both_of (is_name w) (is_well_formed w) h.0)

makes_glob : Makes IsPattern glob
makes_glob = makes_word IsPattern a_word (λ w. when (is_name w && is_well_formed w) w) glob_is

-- a command of a key and an id, whatever else there is
behind_both : (f : Bytes → Bytes → Form Command) → ((key id : Bytes) → IsName key → IsName id → Makes Keeps (f key id)) → Makes Keeps (name >>= λ key. name >>= λ id. f key id)
behind_both f goes = makes_bind IsName Keeps name _ makes_name (λ key k. makes_bind IsName Keeps name _ makes_name (λ id i. goes key id k i))

-- SET

makes_set : Makes Keeps table.set_words
makes_set = behind_both _ (λ key id k i. makes_behind Keeps (repeated table.set_option _) _ (λ o. makes_behind Keeps table.place _ (λ at.
    makes_done Keeps (command.Object (of_object.Set key id (table.nonzero_of o.given) (table.cleared_of o.given) o.after_ex (unwrap_or o.only Any) at.0 at.1)) (λ sound. (k, i, sound.0, sound.1)))))

-- fields and deadlines

makes_fset : Makes Keeps table.fset_words
makes_fset = behind_both _ (λ key id k i. makes_behind Keeps _ _ (λ given. makes_done Keeps (command.Object (of_object.Fset key id (table.nonzero_of given) (table.cleared_of given))) (λ sound. (k, i, sound))))

makes_fget : Makes Keeps table.fget_words
makes_fget = behind_both _ (λ key id k i. makes_bind IsName Keeps name _ makes_name (λ field f. makes_done Keeps (command.Object (of_object.Fget key id field)) (λ sound. (k, i, f))))

makes_expire : Makes Keeps table.expire_words
makes_expire = behind_both _ (λ key id k i. makes_behind Keeps seconds _ (λ s. makes_done Keeps (command.Object (of_object.Expire key id s)) (λ sound. (k, i))))

makes_persist : Makes Keeps (table.of_key_and_id (λ key id. command.Object (of_object.Persist key id)))
makes_persist = behind_both _ (λ key id k i. makes_done Keeps (command.Object (of_object.Persist key id)) (λ sound. (k, i)))

makes_ttl : Makes Keeps (table.of_key_and_id (λ key id. command.Object (of_object.Ttl key id)))
makes_ttl = behind_both _ (λ key id k i. makes_done Keeps (command.Object (of_object.Ttl key id)) (λ sound. (k, i)))

-- patterns

makes_pdel : Makes Keeps table.pdel_words
makes_pdel = makes_bind IsName Keeps name _ makes_name (λ key k. makes_bind IsPattern Keeps glob _ makes_glob (λ pattern p. makes_done Keeps (command.Object (of_object.Pdel key pattern)) (λ sound. (k, p))))

makes_keys : Makes Keeps (table.of_one glob (λ pattern. command.Object (of_object.Keys pattern)))
makes_keys = makes_bind IsPattern Keeps glob _ makes_glob (λ pattern p. makes_done Keeps (command.Object (of_object.Keys pattern)) (λ sound. p))

-- SCAN

abbrev NamedGlob : table.SearchOptions → Type 0
NamedGlob o = IfSome o.glob IsName

first : {A : Type 0} {P : A → Type 0} {f g : Form A} → Makes P f → Makes P g → Makes P (f or g)
first {P = P} {f = f} {g = g} p q = makes_or P f g p q

makes_option : (ordered : Bool) (o : table.SearchOptions) → NamedGlob o → Makes NamedGlob (table.search_option ordered o)
makes_option ordered o h =
    first (makes_where NamedGlob (is_none o.glob) _ (makes_bind IsPattern NamedGlob (word (codes "MATCH") >> glob) _ (makes_then IsPattern (word (codes "MATCH")) glob makes_glob) (λ p w. makes_done NamedGlob _ w.0))) (
    first (makes_where NamedGlob (is_none o.cursor) _ (makes_behind NamedGlob (word (codes "CURSOR") >> _) _ (λ n. makes_done NamedGlob _ h))) (
    first (makes_where NamedGlob (is_none o.limit) _ (makes_behind NamedGlob (word (codes "LIMIT") >> _) _ (λ n. makes_done NamedGlob _ h))) (
    first (makes_where NamedGlob (not o.bare) _ (makes_then NamedGlob (word (codes "NOFIELDS")) _ (makes_done NamedGlob _ h))) (
    first (makes_where NamedGlob (ordered && is_none o.down) _ (makes_then NamedGlob (word (codes "ASC")) _ (makes_done NamedGlob _ h))) (
    first (makes_where NamedGlob (ordered && is_none o.down) _ (makes_then NamedGlob (word (codes "DESC")) _ (makes_done NamedGlob _ h))) (
    first (makes_where NamedGlob (nat_lt (length o.tests) max_tests) _ (makes_behind NamedGlob table.test _ (λ t. makes_done NamedGlob _ h))) (makes_none NamedGlob)))))))

makes_options : (ordered : Bool) → Makes NamedGlob (repeated (table.search_option ordered) table.no_search_options)
makes_options ordered = makes_repeated NamedGlob (table.search_option ordered) (makes_option ordered) table.no_search_options tt

by_id : (down : Option Bool) → IsById (table.scan_rule down)
by_id None = tt
by_id (Some true) = tt
by_id (Some false) = tt

makes_scan : Makes Keeps table.scan_words
makes_scan = makes_bind IsName Keeps name _ makes_name (λ key k. makes_bind NamedGlob Keeps _ _ (makes_options true) (λ o n.
    makes_behind Keeps (maybe shown.Objects table.output) _ (λ how. makes_done Keeps (command.Search (of_search.Scan key (table.query_of o how (table.scan_rule o.down)))) (λ sound. (k, record { sound = sound; by_id = by_id o.down; named = n })))))

-- WITHIN, INTERSECTS and NEARBY

-- the area is kept where what it is from is sound
abbrev HasArea : table.AreaRead → Type 0
HasArea a = (kind : Kind) → is_sound_from a.from ≡ true → IsKept (InArea kind a.area) a.from

makes_area : Makes HasArea table.area
makes_area =
    first (makes_behind HasArea (word (codes "BOUNDS") >> four) _ (λ b. makes_done HasArea _ (λ kind s. (refl, s)))) (
    first (makes_behind HasArea (word (codes "OBJECT") >> geojson) _ (λ t. makes_done HasArea _ (λ kind s. (refl, s)))) (
    first (makes_behind HasArea (word (codes "CIRCLE") >> lat_lon) _ (λ p. makes_behind HasArea meters _ (λ r. makes_done HasArea _ (λ kind s. (refl, s))))) (
    first (makes_bind IsName HasArea (word (codes "GET") >> name) _ (makes_then IsName (word (codes "GET")) name makes_name) (λ key k. makes_bind IsName HasArea name _ makes_name (λ id i. makes_done HasArea _ (λ kind s. (k, i))))) (makes_none HasArea))))

makes_search : (kind : Kind) → Makes Keeps (table.area_words kind)
makes_search kind = makes_bind IsName Keeps name _ makes_name (λ key k. makes_bind NamedGlob Keeps _ _ (makes_options false) (λ o n.
    makes_behind Keeps (maybe shown.Objects table.output) _ (λ how. makes_bind HasArea Keeps table.area _ makes_area (λ a h.
    makes_done Keeps (command.Search (of_search.Area key (table.query_of o how (InArea kind a.area)) a.from)) (λ sound. (k, record { sound = sound.0; kept = h kind sound.1; named = n }))))))

makes_nearby : Makes Keeps table.nearby_words
makes_nearby = makes_bind IsName Keeps name _ makes_name (λ key k. makes_bind NamedGlob Keeps _ _ (makes_options false) (λ o n.
    makes_behind Keeps (maybe shown.Objects table.output) _ (λ how. makes_then Keeps (word (codes "POINT")) _ (makes_behind Keeps lat_lon _ (λ at. makes_behind Keeps (maybe None (meters >>= λ r. done (Some r))) _ (λ reach.
    makes_done Keeps (command.Search (of_search.Nearby key (table.query_of o how Nearest) at reach)) (λ sound. (k, record { sound = sound.0; nearest = refl; within = sound.1; named = n }))))))))

-- GET

makes_output : Makes IsOfObject (maybe shown.Objects table.as_objects)
makes_output = makes_maybe IsOfObject shown.Objects table.as_objects tt (
    makes_or IsOfObject _ _ (makes_then IsOfObject (word (codes "OBJECT")) _ (makes_done IsOfObject shown.Objects tt)) (
    makes_or IsOfObject _ _ (makes_then IsOfObject (word (codes "POINT")) _ (makes_done IsOfObject shown.Points tt)) (
    makes_or IsOfObject _ _ (makes_then IsOfObject (word (codes "BOUNDS")) _ (makes_done IsOfObject shown.Bounds tt)) (makes_none IsOfObject))))

makes_get : Makes Keeps table.get_words
makes_get = makes_bind IsName Keeps name _ makes_name (λ key k. makes_bind IsName Keeps name _ makes_name (λ id i. makes_behind Keeps (maybe false _) _ (λ with_fields.
    makes_bind IsOfObject Keeps (maybe shown.Objects table.as_objects) _ makes_output (λ how h. makes_done Keeps (command.Object (of_object.Get key id with_fields how)) (λ sound. (k, i, h))))))

-- STATS, SUBSCRIBE and PSUBSCRIBE

module _ (Is : Bytes → Type 0) (kind : Form Bytes) (makes_one : Makes Is kind) where
  abbrev AreSome : List Bytes → Type 0
  AreSome words = (0 < length words) × AllByRecursion Is words

  one_more : (words : List Bytes) (w : Bytes) → AllByRecursion Is words → Is w → AreSome (words ++ w ∷ [])
  one_more [] w all k = (omega arith, (k, tt))
  one_more (other ∷ words) w all k = (omega arith, (all.0, (one_more words w all.1 k).1))

  step : (read : List Bytes) → AllByRecursion Is read → Makes AreSome (kind >>= λ w. done (read ++ w ∷ []))
  step read all = makes_bind Is AreSome kind _ makes_one (λ w k. makes_done AreSome (read ++ w ∷ []) (one_more read w all k))

  repeats : (words : List Bytes) → AreSome words → Makes AreSome (repeated (λ read. kind >>= λ w. done (read ++ w ∷ [])) words)
  repeats words all = makes_repeated AreSome (λ read. kind >>= λ w. done (read ++ w ∷ [])) (λ read some. step read some.1) words all

  makes_words : Makes AreSome (once_or_more (λ read. kind >>= λ w. done (read ++ w ∷ [])) [])
  makes_words = makes_bind AreSome AreSome _ _ (step [] tt) (λ words all. repeats words all)

  makes_some : (make : List Bytes → Command) → ((words : List Bytes) → AreSome words → Keeps (make words)) → Makes Keeps (table.of_some kind make)
  makes_some make keeps = makes_bind AreSome Keeps _ _ makes_words (λ words all. makes_done Keeps (make words) (keeps words all))

makes_stats : Makes Keeps (table.of_some name (λ keys. command.Object (of_object.Stats keys)))
makes_stats = makes_some IsName name makes_name (λ keys. command.Object (of_object.Stats keys)) (λ keys all sound. all)

makes_subscribe : Makes Keeps (table.of_some name (λ names. command.Session (of_session.Subscribe names)))
makes_subscribe = makes_some IsName name makes_name (λ names. command.Session (of_session.Subscribe names)) (λ names all sound. all)

makes_psubscribe : Makes Keeps (table.of_some glob (λ patterns. command.Session (of_session.Psubscribe patterns)))
makes_psubscribe = makes_some IsPattern glob makes_glob (λ patterns. command.Session (of_session.Psubscribe patterns)) (λ patterns all sound. all)

-- SETCHAN: every channel that is read is sound

makes_over : (called : Bytes) (kind : Kind) (channel : table.Called) → Makes Keeps (table.setchan_area called kind channel)
makes_over called kind channel = makes_then Keeps (word called) _ (makes_behind Keeps name _ (λ key. makes_behind Keeps (repeated (table.fence_option false) table.no_fence_options) _ (λ o.
    makes_behind Keeps (where_ o.fence table.area) _ (λ a. makes_done Keeps (table.setting channel called key o (watch.Zone kind a.area) a.words (Some a.from)) (λ sound. sound)))))

makes_around : (channel : table.Called) (key : Bytes) (o : table.FenceOptions) → Makes Keeps (table.near_area channel key o)
makes_around channel key o =
    first (makes_where Keeps (not o.nodwell) _ (makes_behind Keeps (word (codes "POINT") >> lat_lon) _ (λ p. makes_behind Keeps meters _ (λ r. makes_done Keeps _ (λ sound. sound))))) (
    first (makes_where Keeps (is_none o.detect) _ (makes_behind Keeps (word (codes "ROAM") >> name) _ (λ other. makes_behind Keeps glob _ (λ pattern. makes_behind Keeps meters _ (λ r.
    makes_done Keeps _ (λ sound. sound)))))) (makes_none Keeps))

makes_near : (channel : table.Called) → Makes Keeps (table.setchan_near channel)
makes_near channel = makes_then Keeps (word (codes "NEARBY")) _ (makes_behind Keeps name _ (λ key. makes_behind Keeps (repeated (table.fence_option true) table.no_fence_options) _ (λ o.
    makes_where Keeps o.fence _ (makes_around channel key o))))

makes_kinds : (channel : table.Called) → Makes Keeps (table.setchan_kinds channel)
makes_kinds channel = first (makes_over (codes "WITHIN") Within channel) (first (makes_over (codes "INTERSECTS") Intersects channel) (first (makes_near channel) (makes_none Keeps)))

makes_setchan : Makes Keeps table.setchan_words
makes_setchan = makes_behind Keeps name _ (λ n. makes_behind Keeps table.after_ex_words _ (λ after_ex. makes_kinds (record { name = n; after_ex = after_ex })))

-- DELCHAN, PDELCHAN and CHANS

makes_delchan : Makes Keeps (table.of_one name (λ channel. command.Channel (of_channel.Delchan channel)))
makes_delchan = makes_bind IsName Keeps name _ makes_name (λ n k. makes_done Keeps (command.Channel (of_channel.Delchan n)) (λ sound. k))

makes_pdelchan : Makes Keeps (table.of_one glob (λ pattern. command.Channel (of_channel.Pdelchan pattern)))
makes_pdelchan = makes_bind IsPattern Keeps glob _ makes_glob (λ pattern p. makes_done Keeps (command.Channel (of_channel.Pdelchan pattern)) (λ sound. p))

makes_chans : Makes Keeps (table.of_one glob (λ pattern. command.Channel (of_channel.Chans pattern)))
makes_chans = makes_bind IsPattern Keeps glob _ makes_glob (λ pattern p. makes_done Keeps (command.Channel (of_channel.Chans pattern)) (λ sound. p))

-- the others

makes_del : Makes Keeps (table.of_key_and_id (λ key id. command.Object (of_object.Del key id)))
makes_del = makes_bind IsName Keeps name _ makes_name (λ key k. makes_bind IsName Keeps name _ makes_name (λ id i. makes_done Keeps (command.Object (of_object.Del key id)) (λ sound. (k, i))))

makes_drop : Makes Keeps (table.of_one name (λ key. command.Object (of_object.Drop key)))
makes_drop = makes_bind IsName Keeps name _ makes_name (λ key k. makes_done Keeps (command.Object (of_object.Drop key)) (λ sound. k))

makes_bounds : Makes Keeps (table.of_one name (λ key. command.Object (of_object.Bounds key)))
makes_bounds = makes_bind IsName Keeps name _ makes_name (λ key k. makes_done Keeps (command.Object (of_object.Bounds key)) (λ sound. k))

-- each family

abbrev AreServed : List table.Row → Type 0
AreServed rows = AllByRecursion (λ r. Makes Keeps r.behind) rows

objects_served : AreServed table.object_rows
objects_served = (
  makes_set,
  (
    makes_get,
    (
      makes_del,
      (
        makes_pdel,
        (
          makes_drop,
          (
            makes_fset,
            (
              makes_fget,
              (
                makes_expire,
                (
                  makes_persist,
                  (
                    makes_ttl,
                    (
                      makes_keys,
                      (makes_bounds, (makes_stats, (makes_done Keeps _ (λ sound. tt), (makes_done Keeps _ (λ sound. tt), tt)))),
                    ),
                  ),
                ),
              ),
            ),
          ),
        ),
      ),
    ),
  ),
)

searches_served : AreServed table.search_rows
searches_served = (makes_scan, (makes_search Within, (makes_search Intersects, (makes_nearby, tt))))

channels_served : AreServed table.channel_rows
channels_served = (makes_setchan, (makes_delchan, (makes_pdelchan, (makes_chans, tt))))

sessions_served : AreServed table.session_rows
sessions_served = (makes_subscribe, (makes_psubscribe, (makes_done Keeps _ (λ sound. tt), (makes_done Keeps _ (λ sound. tt), tt))))

makes_table : Makes Keeps table.command_table
makes_table = makes_rows Keeps table.command_rows (of_families (λ r. Makes Keeps r.behind) objects_served searches_served channels_served sessions_served)

spelled_keeps : (words : List Bytes) (c : Command) → table.command_spelled words ≡ Some c → Keeps c
unfolding table.readings
spelled_keeps words c e = spelled_said Keeps (table.command_table words) c (makes_table.made words) e

pub commands_are_served : (words : List Bytes) (c : Command) → reads words ≡ Ok c → IsServed c
commands_are_served words c e = spelled_keeps words c (ok_spelled words (table.command_spelled words) c e) (reads_sound words c e)
