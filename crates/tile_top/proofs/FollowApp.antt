-- The command is simple.
use Rattle.std.proofs.Common.{◌≡◌, true, refl}
use Rattle.clap.specs.Words.{is_simple_and_free}
use Rattle.clap.proofs.OnLiterals.{clap_on_literals}
use Rattle.tile_top.specs.FollowWords.{follow_app}

pub follow_is_free : is_simple_and_free follow_app ≡ true
unfolding follow_app clap_on_literals
follow_is_free = refl
