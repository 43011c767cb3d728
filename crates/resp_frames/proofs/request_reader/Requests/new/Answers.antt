use Rattle.std.proofs.Common.{sym, subst}
use Rattle.resp_frames.specs.declared.request_places.Place.TheVariants.{Star}
use Rattle.std.proofs.Common.{Some}
use Rattle.resp_frames.specs.RequestReader.{IsReader}
use Rattle.resp_frames.proofs.ReaderLaws.{reader_begins}
use Rattle.resp_frames.proofs.request_reader.Requests.new.Goals as goal

pub invariant_of-result : goal.invariant_of-result
invariant_of-result c = subst (λ held. IsReader (Some Star) held) (sym c.new.ensures.items) reader_begins
