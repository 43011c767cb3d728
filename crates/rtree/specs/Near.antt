-- What a walk by distance has met and not given yet, and what it gives.
use Rattle.std.specs.Prelude.{ℕ, ◌≡◌, ◌≤◌, ◌<◌, Bool, Option, Some, None, List, [], ◌∷◌, ◌++◌, length, All, flat_map}
use Rattle.std.specs.Borrow.{Bor}
use Rattle.std.specs.List.{sum_by}
use Rattle.std.specs.List.Sorted.{IsPermutation}
use Rattle.std.specs.BinaryHeap.{IsHeap}
use Rattle.std.specs.declared.cmp.Ordering.{Ordering}
use Rattle.std.specs.Ordering.{nat_cmp, on, flip_args}
use Rattle.planar_geom.specs.Points.{Point, box_dist2}
use Rattle.rtree.specs.declared.waiting.Met.{Met}
use Rattle.rtree.specs.declared.waiting.Met.TheVariants.{One, Below}
use Rattle.rtree.specs.declared.waiting.Waiting.{Waiting}
use Rattle.rtree.specs.Pairs.{Pair, ids}

-- a walk: the point from which it goes, the pairs not given yet in no particular order, and whether it was given up
pub record Walk : Type 0 where
  pub from : Point
  pub left : List Pair
  pub given_up : Bool

-- the less far is the greater
abbrev pub nearest_first : Waiting → Waiting → Ordering
nearest_first = flip_args (on (λ w. w.distance) nat_cmp)

-- the pairs of what was met
abbrev pub met_pairs : Met → List Pair
met_pairs (One e) = e.now ∷ []
met_pairs (Below n) = n.now.entries

-- how many nodes there are in what was met
abbrev pub met_nodes : Met → ℕ
met_nodes (One e) = 0
met_nodes (Below n) = n.now.nodes

-- the pairs of all that waits
abbrev pub pairs_of : List Waiting → List Pair
pairs_of ws = flat_map (λ w. met_pairs w.met) ws

-- how many nodes there are in all that waits
abbrev pub nodes_in : List Waiting → ℕ
nodes_in ws = sum_by (λ w. met_nodes w.met) ws

-- a walk with what waits
abbrev pub walk : Point → List Waiting → Bool → Walk
walk from ws given_up = record { from = from; left = pairs_of ws; given_up = given_up }

-- no pair of what waits is nearer than its distance says, and one pair alone is just as far
pub record IsNear (from : Point) (w : Waiting) : Type 0 where
  pub least : All (λ p. w.distance ≤ box_dist2 from p.bounds) (met_pairs w.met)
  pub exact : (e : Bor Pair) → w.met ≡ One e → w.distance ≡ box_dist2 from e.now.bounds

-- what waits stands in a heap's order, each with its distance
pub record IsQueue (from : Point) (ws : List Waiting) : Type 0 where
  pub heap : IsHeap nearest_first ws
  pub near : All (IsNear from) ws

-- the distance is at most what was found, if anything was
abbrev pub IsDue : Option ℕ → ℕ → Type 0
IsDue None n = Unit {0}
IsDue (Some d) n = n ≤ d

-- w was taken out of what waits: it is due, and the others are no nearer
pub record IsTop (found : Option ℕ) (w : Waiting) (old new : List Waiting) : Type 0 where
  pub due : IsDue found w.distance
  pub taken : IsPermutation old (w ∷ new)
  pub heap : IsHeap nearest_first new
  pub nearest : All (λ v. w.distance ≤ v.distance) new

-- nothing is left that is due
abbrev pub IsUndue : Option ℕ → List Waiting → List Waiting → Type 0
IsUndue None old new = (old ≡ []) × (new ≡ old)
IsUndue (Some d) old new = All (λ v. d < v.distance) old × (new ≡ old)

-- of the old pairs some were given, all of them d away, and the new ones are left, none of them nearer; the numbers of those given were put behind
-- the ones before
pub record IsGiving (d : ℕ) (from : Point) (old new : List Pair) (before after : List ℕ) : Type 0 where
  pub given : List Pair
  pub whole : IsPermutation old (given ++ new)
  pub alike : All (λ p. box_dist2 from p.bounds ≡ d) given
  pub no_nearer : All (λ p. d ≤ box_dist2 from p.bounds) new
  pub put : after ≡ before ++ ids given

-- all pairs at the least distance d were given, and there were some
pub record IsNearest (d : ℕ) (from : Point) (old new : List Pair) (before after : List ℕ) : Type 0 where
  pub giving : IsGiving d from old new before after
  pub some : 1 ≤ length giving.given
  pub farther : All (λ p. d < box_dist2 from p.bounds) new

-- what a walk answers: no pair was left, or those nearest were given
abbrev pub IsAnswer : Option ℕ → Point → List Pair → List Pair → List ℕ → List ℕ → Type 0
IsAnswer None from old new before after = (old ≡ []) × (new ≡ []) × (after ≡ before)
IsAnswer (Some d) from old new before after = IsNearest d from old new before after

-- some of the pairs at the least distance were given, if any
pub record IsCutOff (from : Point) (old : List Pair) (before after : List ℕ) : Type 0 where
  pub distance : ℕ
  pub others : List Pair
  pub giving : IsGiving distance from old others before after
