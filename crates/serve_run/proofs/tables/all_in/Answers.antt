use Rattle.std.proofs.Common.{rules, refl, sym, ◌∙◌}
use Rattle.serve_run.specs.Feeds.{FedBy}
use Rattle.serve_run.proofs.Keeping.{feeds_none, feeds_table}
use Rattle.serve_run.proofs.tables.all_in.Goals as goal

pub loop-place-init : goal.loop-place-init
loop-place-init g c = record {
  seat = c.requires.seat;
  ends = search rules;
  block = refl;
  keeps = λ told timely.
      feeds_none (FedBy (g.H.FeedApi.answers c.args.hall.now) c.args.terms) told c.args.terms (g.H.HallApi.knows c.args.seat.now) c.args.table.now.items;
}

pub loop-place-preserved : goal.loop-place-preserved
loop-place-preserved g c = record {
  seat = c.one_in-touched.ensures.seat;
  ends = c.loop-place.invariant.ends ∙ sym c.one_in-touched.ensures.length;
  block = c.one_in-touched.ensures.block ∙ c.loop-place.invariant.block;
  keeps = λ told timely.
      feeds_table (FedBy (g.H.FeedApi.answers c.args.hall.now) c.args.terms) told c.args.terms (g.H.HallApi.knows c.args.seat.now)
      (g.H.HallApi.knows c.loop-place.seat) (g.H.HallApi.knows c.one_in-touched.new.seat) c.args.table.now.items c.loop-place.table.items c.one_in-touched.new.table.items
      (c.loop-place.invariant.keeps told timely) (c.one_in-touched.ensures.keeps told timely);
}
