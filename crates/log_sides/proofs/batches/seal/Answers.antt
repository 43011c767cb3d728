use Rattle.std.proofs.Common.{◌∙◌}
use Rattle.log_sides.specs.Texts.{number_bytes}
use Rattle.log_sides.specs.Sealing.{sealed_is}
use Rattle.log_sides.proofs.batches.seal.Goals as goal

pub returns : goal.returns
unfolding number_bytes
returns c = sealed_is c.args.bytes.now c.copy_from_slice.new.self c.requires (c.copy_from_slice.ensures.after ∙ c.to_be_bytes.ensures)
