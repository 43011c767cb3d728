use Rattle.std.proofs.Common.{◌∙◌, ap}
use Rattle.clap.specs.Words.{is_simple_and_free}
use Rattle.tile_top.proofs.LoadApp.{load_is_free}
use Rattle.tile_top.proofs.workloads.load_words.Goals as goal

pub matched-requires : goal.matched-requires
matched-requires c = ap is_simple_and_free c.in_ok-load_command.ensures ∙ load_is_free
