-- What searches answer.
use Rattle.planar_geom.specs.declared.shapes.Area.{Area}
use Rattle.world_data.specs.Worlds.{objects_of}
use Rattle.fence_model.specs.Queries.{matches, near_matches}
use Rattle.world_model.specs.Replies.{page_reply}
use Rattle.world_data.specs.declared.worlds.World.{World}
use Rattle.world_data.specs.declared.queries.Rule.{Rule}
use Rattle.world_data.specs.declared.queries.Rule.TheVariants.{All, Descending, InArea, Nearest}
use Rattle.world_model.specs.declared.search_commands.SearchCommand.{SearchCommand}
use Rattle.world_model.specs.declared.search_commands.SearchCommand.TheVariants as of_search
use Rattle.world_model.specs.EffectParts.{Effect, says, resolved}

-- the rule with the area in its place
abbrev pub rule_over : Rule → Area → Rule
rule_over (InArea kind old) a = InArea kind a
rule_over All a = All
rule_over Descending a = Descending
rule_over Nearest a = Nearest

-- what a search answers in a world
abbrev pub search_effect : World → SearchCommand → Effect
search_effect w (of_search.Scan key q) = says (page_reply q (matches q (objects_of w key)))
search_effect w (of_search.Area key q from) =
    resolved w from (λ a words. says (page_reply q (matches (record q { rule = rule_over q.rule a }) (objects_of w key))))
search_effect w (of_search.Nearby key q p reach) = says (page_reply q (near_matches q p reach (objects_of w key)))
