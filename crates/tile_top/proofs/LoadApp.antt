-- The command is simple.
use Rattle.std.proofs.Common.{◌≡◌, true, refl}
use Rattle.clap.specs.Words.{is_simple_and_free}
use Rattle.clap.proofs.OnLiterals.{clap_on_literals}
use Rattle.tile_top.specs.LoadWords.{load_app}

pub load_is_free : is_simple_and_free load_app ≡ true
unfolding load_app clap_on_literals
load_is_free = refl
