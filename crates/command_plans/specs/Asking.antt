-- What a command that words ask for keeps to.
use Rattle.std.specs.Prelude.{◌≡◌, true}
use Rattle.std.specs.List.{AllByRecursion}
use Rattle.byte_text.specs.Names.{is_name}
use Rattle.world_model.specs.declared.commands.Command.{Command}
use Rattle.world_model.specs.declared.commands.Command.TheVariants as family
use Rattle.world_model.specs.declared.session_commands.SessionCommand.{SessionCommand}
use Rattle.world_model.specs.declared.session_commands.SessionCommand.TheVariants as of_session
use Rattle.session_table.specs.Sessions.{AreSoundSubs}
use Rattle.delivery_model.specs.Plans.{subs_of}
use Rattle.object_plans.specs.Asking as objects
use Rattle.search_plans.specs.Asking as searches
use Rattle.channel_plans.specs.Asking as channels

-- words that are subscribed to are names, and patterns are well formed
abbrev pub IsAskedOfSession : SessionCommand → Type 0
IsAskedOfSession (of_session.Subscribe names) = AllByRecursion (λ w. is_name w ≡ true) names
IsAskedOfSession (of_session.Psubscribe patterns) = AllByRecursion (λ w. is_name w ≡ true) patterns × AreSoundSubs (subs_of true patterns)
IsAskedOfSession of_session.Ping = Unit {0}
IsAskedOfSession of_session.Quit = Unit {0}

-- what its family asks for
abbrev pub IsAsked : Command → Type 0
IsAsked (family.Object c) = objects.IsAsked c
IsAsked (family.Search c) = searches.IsAsked c
IsAsked (family.Channel c) = channels.IsAsked c
IsAsked (family.Session c) = IsAskedOfSession c
