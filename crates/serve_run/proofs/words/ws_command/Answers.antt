use Rattle.serve_run.specs.Words.{ws_app}
use Rattle.serve_run.proofs.words.ws_command.Goals as goal

pub returns : goal.returns
unfolding ws_app
returns c = c.link_command.ensures
