use Rattle.std.proofs.Common.{◌∙◌, ap}
use Rattle.clap.specs.Words.{is_simple_and_free}
use Rattle.tile_top.proofs.FollowApp.{follow_is_free}
use Rattle.tile_top.proofs.follow_words.follow_words.Goals as goal

pub matched-requires : goal.matched-requires
matched-requires c = ap is_simple_and_free c.in_ok-follow_command.ensures ∙ follow_is_free
