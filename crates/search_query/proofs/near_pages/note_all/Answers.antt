use Rattle.std.proofs.Common.{◌++◌, ◌∙◌, ap, List, length, take, arith}
use Rattle.std.specs.Prelude.{filter}
use Rattle.std.proofs.lemmas.List.{take_all}
use Rattle.world_data.specs.declared.objects.Object.{Object}
use Rattle.fence_model.specs.Queries.{meets_query, page_ids}
use Rattle.search_query.proofs.Noted.{noted, few_noted}
use Rattle.search_query.proofs.near_pages.note_all.Goals as goal

pub note-requires-clause-room : goal.note-requires-clause-room
note-requires-clause-room c =
    let s = c.requires.seen in
    let few = few_noted (meets_query c.args.query.now) s.0 c.args.objects.now c.loop-i.i c.loop-i.all c.args.found (c.loop-i.invariant.count s.0 s.1) s.1 in
    let room = c.requires.room in
    omega (arith, few, room)

pub loop-i-preserved : goal.loop-i-preserved
loop-i-preserved c = record {
  count = λ seen was.
      let p = meets_query c.args.query.now in
      let read = c.args.objects.now in
      let more = noted p seen read c.loop-i.i c.at.result.now c.at.ensures in
      rw more (c.in_ok-all.ensures.count (seen ++ filter p (take c.loop-i.i read)) (c.loop-i.invariant.count seen was));
  ids = λ seen was ids.
      let p = meets_query c.args.query.now in
      let read = c.args.objects.now in
      let more = noted p seen read c.loop-i.i c.at.result.now c.at.ensures in
      rw more (c.in_ok-all.ensures.ids (seen ++ filter p (take c.loop-i.i read)) (c.loop-i.invariant.count seen was) (c.loop-i.invariant.ids seen was ids));
}

pub returns-clause-count : goal.returns-clause-count
returns-clause-count c = λ seen was.
    let p = meets_query c.args.query.now in
    let all = take_all c.loop-i.i c.args.objects.now (omega arith) in
    c.loop-i.invariant.count seen was ∙ ap (λ (l : List Object). length (seen ++ filter p l)) all

pub returns-clause-ids : goal.returns-clause-ids
returns-clause-ids c = λ seen was ids.
    let p = meets_query c.args.query.now in
    let all = take_all c.loop-i.i c.args.objects.now (omega arith) in
    c.loop-i.invariant.ids seen was ids ∙ ap (λ (l : List Object). page_ids c.args.query.now (seen ++ filter p l)) all
