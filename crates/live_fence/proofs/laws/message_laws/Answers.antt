use Rattle.live_fence.proofs.Messages.{messages_shown, payloads_are, payloads_placed}
use Rattle.live_fence.proofs.laws.message_laws.Goals as goal

pub returns-clause-shown : goal.returns-clause-shown
returns-clause-shown c = messages_shown c.frame_texts_differ.ensures

pub returns-clause-payloads : goal.returns-clause-payloads
returns-clause-payloads c = payloads_are c.frame_texts_differ.ensures

pub returns-clause-placed : goal.returns-clause-placed
returns-clause-placed c =
    payloads_placed c.frame_texts_differ.ensures c.staging_laws.ensures.each c.room_laws.ensures.counts c.room_laws.ensures.all
