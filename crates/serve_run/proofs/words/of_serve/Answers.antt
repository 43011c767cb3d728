use Rattle.std.proofs.Common.{◌∙◌, ap}
use Rattle.clap.specs.Words.{is_simple_and_free}
use Rattle.serve_run.proofs.ServeApp.{serve_is_free}
use Rattle.serve_run.proofs.words.of_serve.Goals as goal

pub matched-requires : goal.matched-requires
matched-requires c = ap is_simple_and_free c.in_ok-serve_command.ensures ∙ serve_is_free
