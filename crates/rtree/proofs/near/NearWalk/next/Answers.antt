use Rattle.std.proofs.Common.{None}
use Rattle.rtree.proofs.Nears.{found_part, nothing_found}
use Rattle.rtree.proofs.near.NearWalk.next.Goals as goal

pub returns-then-self-clause-err : goal.returns-then-self-clause-err
returns-then-self-clause-err g c =
    let left = c.args.self.now.left in
    let into = c.args.into.now in
    found_part None c.args.self.now.from left left into into (nothing_found c.args.self.now.from left into)
