use Rattle.std.proofs.Common.{◌∙◌, sym, subst}
use Rattle.std.proofs.lemmas.Result.{IfOk-weaker}
use Rattle.fence_backtest.specs.Telling.{AreTold}
use Rattle.fence_backtest.proofs.ReportLaws.{told_long, told_report}
use Rattle.fence_backtest.proofs.reports.report_changes.Goals as goal

pub joined-requires : goal.joined-requires
joined-requires g c =
    let size = c.in_ok-stretches.stretches.size in
    let channel = c.args.channel.now in
    let area = c.watched_box-area.result in
    told_long channel area c.args.changes.now size c.as_slice.result.now
    (subst (AreTold channel area c.args.changes.now size) (sym c.as_slice.ensures.value) c.in_ok-told.ensures)

pub returns : goal.returns
returns g c =
    let size = c.in_ok-stretches.stretches.size in
    let channel = c.args.channel.now in
    let area = c.watched_box-area.result in
    let changes = c.args.changes.now in
    let are = subst (AreTold channel area changes size) (sym c.as_slice.ensures.value) c.in_ok-told.ensures in
    IfOk-weaker c.report_of.result _ _ (λ text is. is ∙ told_report channel area changes c.in_ok-all.all c.watched_box-area.ensures (c.in_ok-all.ensures.told channel area changes size are)) c.report_of.ensures
