-- What is served is asked as it has to be.
use Rattle.world_model.specs.declared.commands.Command.{Command}
use Rattle.world_model.specs.declared.commands.Command.TheVariants as family
use Rattle.world_model.specs.declared.object_commands.ObjectCommand.TheVariants as of_object
use Rattle.world_model.specs.declared.search_commands.SearchCommand.TheVariants as of_search
use Rattle.world_model.specs.declared.channel_commands.ChannelCommand.TheVariants as of_channel
use Rattle.world_model.specs.declared.session_commands.SessionCommand.TheVariants as of_session
use Rattle.cmd_words.specs.Laws.{IsOfObject, IsPattern, IsServed}
use Rattle.cmd_words.specs.ReadLaws.{ok_spelled}
use Rattle.std.proofs.Common.{◌≡◌, ◌≢◌, true, false, refl, arith, List, [], ◌∷◌}
use Rattle.std.specs.Prelude.{Some, Ok}
use Rattle.std.specs.List.{AllByRecursion}
use Rattle.byte_text.specs.Names.{Bytes, is_name}
use Rattle.byte_text.specs.Globs.{is_sound_glob}
use Rattle.world_data.specs.Sound.{is_sound_query}
use Rattle.world_data.specs.declared.queries.Query.{Query}
use Rattle.world_data.specs.declared.queries.Shown.{Shown}
use Rattle.world_data.specs.declared.queries.Shown.TheVariants as shown
use Rattle.byte_text.specs.Requests.{FitsRequest}
use Rattle.world_model.specs.Commands.{command_spelled, reads}
use Rattle.delivery_model.specs.Plans.{subs_of}
use Rattle.session_table.specs.Sessions.{AreSoundSubs}
use Rattle.log_record.specs.Words.{SettingsAreNormal}
use Rattle.command_plans.specs.Asking.{IsAsked}
use Rattle.command_plans.proofs.Settings.{recordable}

named : (patterns : List Bytes) → AllByRecursion IsPattern patterns → AllByRecursion (λ w. is_name w ≡ true) patterns
named [] all = tt
named (p ∷ patterns) all = (all.0.0, named patterns all.1)

sound : (patterns : List Bytes) → AllByRecursion IsPattern patterns → AreSoundSubs (subs_of true patterns)
sound [] all = tt
sound (p ∷ patterns) all = (all.0.1, sound patterns all.1)

-- what words ask for they spell
spelled_of : (words : List Bytes) (c : Command) → reads words ≡ Ok c → command_spelled words ≡ Some c
spelled_of words c e = ok_spelled words (command_spelled words) c e

-- an output of one object is no count
no_count : (how : Shown) → IsOfObject how → how ≢ shown.Count
no_count shown.Objects s = λ e. absurd (cc e)
no_count shown.Points s = λ e. absurd (cc e)
no_count shown.Bounds s = λ e. absurd (cc e)
no_count shown.Ids s = absurd s
no_count shown.Count s = absurd s

glob_sound : (q : Query) → is_sound_query q ≡ true → is_sound_glob q.glob ≡ true
glob_sound q e = grind arith

pub served_asked : SettingsAreNormal → (words : List Bytes) → FitsRequest words → (c : Command) → reads words ≡ Ok c → IsServed c → IsAsked c
served_asked normal words fits (family.Object (of_object.Set key id given cleared after_ex only text shape)) e s = s.3
served_asked normal words fits (family.Object (of_object.Get key id with_fields how)) e s = no_count how s.2
served_asked normal words fits (family.Object (of_object.Pdel key pattern)) e s = s.1.1
served_asked normal words fits (family.Object (of_object.Keys pattern)) e s = s.1
served_asked normal words fits (family.Object c) e s = tt
served_asked normal words fits (family.Search (of_search.Scan key q)) e s = glob_sound q s.1.sound
served_asked normal words fits (family.Search (of_search.Area key q from)) e s = glob_sound q s.1.sound
served_asked normal words fits (family.Search (of_search.Nearby key q at reach)) e s = glob_sound q s.1.sound
served_asked normal words fits (family.Channel (of_channel.Setchan c from after_ex)) e s =
    (s, recordable normal words fits c from after_ex (spelled_of words (family.Channel (of_channel.Setchan c from after_ex)) e))
served_asked normal words fits (family.Channel (of_channel.Delchan name)) e s = tt
served_asked normal words fits (family.Channel (of_channel.Pdelchan pattern)) e s = s.1
served_asked normal words fits (family.Channel (of_channel.Chans pattern)) e s = s.1
served_asked normal words fits (family.Session (of_session.Subscribe names)) e s = s.1
served_asked normal words fits (family.Session (of_session.Psubscribe patterns)) e s = (named patterns s.1, sound patterns s.1)
served_asked normal words fits (family.Session of_session.Ping) e s = tt
served_asked normal words fits (family.Session of_session.Quit) e s = tt

-- a name has no pattern to be well formed
pub names_sound : (words : List Bytes) → AreSoundSubs (subs_of false words)
names_sound [] = tt
names_sound (w ∷ words) = (refl, names_sound words)
