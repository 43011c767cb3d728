use Rattle.std.proofs.Common.{◌≡◌, length, [], ◌∷◌, ◌++◌, ◌∙◌, ap, sym, subst, All, append-nil}
use Rattle.std.proofs.lemmas.List.Elements.{All-get_or}
use Rattle.std.proofs.lemmas.Result.{err_from_is_err_and}
use Rattle.rtree.specs.Pairs.{IsPart, ids_meeting}
use Rattle.rtree.specs.Subtrees.{Subtree, entries_at}
use Rattle.rtree.specs.Slots.{IsSlot, all_entries, slot_entries}
use Rattle.rtree.proofs.LedgerLaws.{read_one, read_below, read_none, le-trans}
use Rattle.rtree.proofs.Meetings.{met_more, met_part, no_part, meeting_none, meeting_leaf}
use Rattle.rtree.proofs.nodes.Node.+search.Goals as goal
use Rattle.rtree.proofs.nodes.Node.+search.Goals.{then-meets+in-None+in_ok-push-in-None, then-meets+in-Some+in_ok-search-in-Some, else-meets}

pub returns-in_err-push-in-None-clause-err : goal.returns-in_err-push-in-None-clause-err
returns-in_err-push-in-None-clause-err g t c =
    let p = err_from_is_err_and c.from_residual.result c.from_residual.ensures.1 in
    let items = c.deref-slot-items.result.now in
    let b = c.args.b.now in
    let s = c.slot-item.result in
    let whole : all_entries items ≡ c.args.self.now.entries = ap all_entries c.deref-slot-items.ensures.value ∙ ap (λ (v : Subtree). v.entries) c.self.view_is in
    let none = no_part c.loop-slot.into c.push.new.self (ids_meeting b (slot_entries s)) c.in_err-push-in-None.ensures.err in
    rw (p.1) (subst (λ es. IsPart c.args.into.now c.push.new.self (ids_meeting b es)) whole (met_part b items c.loop-slot.slot-index s c.args.into.now c.loop-slot.into c.push.new.self c.loop-slot-test.true c.slot-item.is c.loop-slot.invariant.0 none))

pub returns-in_err-search-in-Some-clause-err : goal.returns-in_err-search-in-Some-clause-err
returns-in_err-search-in-Some-clause-err g t c =
    let p = err_from_is_err_and c.from_residual-in_err-search-in-Some.result c.from_residual-in_err-search-in-Some.ensures.1 in
    let items = c.deref-slot-items.result.now in
    let b = c.args.b.now in
    let s = c.slot-item.result in
    let whole : all_entries items ≡ c.args.self.now.entries = ap all_entries c.deref-slot-items.ensures.value ∙ ap (λ (v : Subtree). v.entries) c.self.view_is in
    let child : slot_entries s ≡ c.in-Some.child.entries = ap (entries_at s.first) c.in-Some.is in
    let part = subst (λ es. IsPart c.loop-slot.into c.search.new.into (ids_meeting b es)) (sym child) c.in_err-search-in-Some.ensures.err in
    rw (p.1) (subst (λ es. IsPart c.args.into.now c.search.new.into (ids_meeting b es)) whole (met_part b items c.loop-slot.slot-index s c.args.into.now c.loop-slot.into c.search.new.into c.loop-slot-test.true c.slot-item.is c.loop-slot.invariant.0 part))

pub loop-slot-preserved : goal.loop-slot-preserved
loop-slot-preserved g t c =
    let h = c.self.inside.height in
    let items = c.deref-slot-items.result.now in
    let b = c.args.b.now in
    let s = c.slot-item.result in
    let old = c.loop-slot.into in
    let short = length c.args.into.now in
    let from = c.tick.new.self.count in
    let count = c.loop-slot.steps.count in
    let each = subst (All (IsSlot h)) (sym c.deref-slot-items.ensures.value) c.self.invariant.each in
    let slot = subst (IsSlot h) (sym c.slot-item.is) (All-get_or (IsSlot h) items c.loop-slot.slot-index s c.loop-slot-test.true each) in
    let more = met_more h b items c.loop-slot.slot-index s c.args.into.now old c.if-meets.into c.loop-slot-test.true c.slot-item.is c.loop-slot.invariant.0 in
    elim c.if-meets.branch [
      | then-meets+in-None+in_ok-push-in-None w ↦
          let meets = sym c.meets.ensures.value ∙ w.if-meets.true in
          (more (w.into-is ∙ (w.in_ok-push-in-None.ensures.ok ∙ ap (λ x. old ++ x) (ap (λ n. n ∷ []) w.id.ensures ∙ meeting_leaf h b s slot w.in-None.is meets))), rw (w.steps-is) c.loop-slot.invariant.1, rw (w.steps-is, w.into-is) (read_one short c.loop-slot.slot-index from count old w.push.new.self w.id.result w.in_ok-push-in-None.ensures.ok c.loop-slot.invariant.2))
      | then-meets+in-Some+in_ok-search-in-Some w ↦
          let child : slot_entries s ≡ w.in-Some.child.entries = ap (entries_at s.first) w.in-Some.is in
          (more (w.into-is ∙ (w.in_ok-search-in-Some.ensures.ok ∙ ap (λ es. old ++ ids_meeting b es) (sym child))), rw (w.steps-is) (le-trans c.loop-slot.invariant.1 w.search.ensures.later), rw (w.steps-is, w.into-is) (read_below short c.loop-slot.slot-index from count w.search.new.steps.count old w.search.new.into w.search.ensures.later c.loop-slot.invariant.2 w.search.ensures.enough))
      | else-meets w ↦
          let apart = sym c.meets.ensures.value ∙ w.if-meets.false in
          (more (w.into-is ∙ (sym (append-nil old) ∙ ap (λ x. old ++ x) (meeting_none b s.bounds (slot_entries s) apart slot.summed.covers))), rw (w.steps-is) c.loop-slot.invariant.1, rw (w.steps-is, w.into-is) (read_none short c.loop-slot.slot-index from count old c.loop-slot.invariant.2))
    ]
