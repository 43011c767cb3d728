use Rattle.resp_frames.proofs.ShortLaws.{Begun}
use Rattle.resp_frames.proofs.short_requests.short_words.Given as goal

abbrev pub invariant-loop : goal.invariant-loop
invariant-loop l = Begun l.bytes l.request l.rest l.counter
