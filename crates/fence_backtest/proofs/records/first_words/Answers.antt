use Rattle.std.proofs.Common.{List, subst}
use Rattle.std.specs.Prelude.{Option}
use Rattle.byte_text.specs.Names.{Bytes}
use Rattle.resp_frames.specs.RequestReader.{IsFed}
use Rattle.fence_backtest.proofs.RecordsRead.{fed_found}
use Rattle.fence_backtest.proofs.records.first_words.Goals as goal

pub returns : goal.returns
returns c =
    let held = c.new-reader.result in
    let new = c.feed.new.self in
    let bytes = c.args.bytes.now in
    let fed = subst (λ (r : Option (List Bytes)). IsFed held new bytes c.in-Ok.field-0.taken r) c.in-Some.is c.in-Ok.ensures.fed in
    fed_found held new bytes c.in-Ok.field-0.taken c.in-Some.words c.new-reader.ensures fed
