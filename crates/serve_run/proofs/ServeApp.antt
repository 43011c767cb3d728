-- The commands are simple.
use Rattle.std.proofs.Common.{◌≡◌, true, refl}
use Rattle.clap.specs.Words.{is_simple_and_free}
use Rattle.clap.proofs.OnLiterals.{clap_on_literals}
use Rattle.serve_run.specs.Words.{link_app, serve_app, ws_app}

pub serve_is_free : is_simple_and_free serve_app ≡ true
unfolding serve_app link_app clap_on_literals
serve_is_free = refl

pub ws_is_free : is_simple_and_free ws_app ≡ true
unfolding ws_app link_app clap_on_literals
ws_is_free = refl
