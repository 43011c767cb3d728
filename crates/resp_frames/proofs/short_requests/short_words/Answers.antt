use Rattle.std.proofs.Common.{◌+◌, ◌∷◌, ◌++◌, [], arith}
use Rattle.resp_frames.proofs.ShortLaws.{more_words, short_fits}
use Rattle.resp_frames.proofs.short_requests.short_words.Goals as goal

pub push-requires : goal.push-requires
push-requires c =
    let words = more_words c.loop.request c.in-Some.word.now c.loop.counter c.loop.invariant.words_are c.in-Some.ensures.short in
    short_fits (c.loop.request ++ c.in-Some.word.now ∷ []) (c.loop.counter + 1) words (omega (arith, c.loop-test.true, c.requires))
