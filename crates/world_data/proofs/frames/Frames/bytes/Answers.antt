use Rattle.std.proofs.Common.{length, ap, ◌∙◌}
use Rattle.std.proofs.lemmas.List.Concat.{length-flat_map}
use Rattle.byte_text.specs.Names.{Bytes}
use Rattle.world_data.specs.Frames.{FrameList, text_of}
use Rattle.world_data.proofs.frames.Frames.bytes.Goals as goal

pub returns-clause-all : goal.returns-clause-all
returns-clause-all c =
    c.bytes.ensures ∙ c.self.invariant.0.text_is ∙ ap (λ (f : FrameList). text_of f.list) c.self.view_is

pub returns-clause-size : goal.returns-clause-size
returns-clause-size c =
    ap length (c.bytes.ensures ∙ c.self.invariant.0.text_is ∙ ap (λ (f : FrameList). text_of f.list) c.self.view_is)
    ∙ length-flat_map (λ (f : Bytes). f) c.args.self.now.list
