-- What a core that goes on has of its log: one list of batches, from which whatever a crash may leave grew.
use Rattle.std.proofs.Common.{◌≡◌, ◌∙◌, ℕ, Bool, true, false, List, Option, Some, sym, ap, subst, true≢false}
use Rattle.byte_text.specs.Names.{Bytes}
use Rattle.outside.specs.Crashes.{EachSince}
use Rattle.outside.specs.Sides.{Sides, side_of}
use Rattle.log_sides.specs.Texts.{StandsFor}
use Rattle.append_log.specs.Once.{stands_once}
use Rattle.journal.specs.Growing.{grown_of}
use Rattle.journal.specs.Journals.{Keeps}
use Rattle.journal.specs.KeptLaws.{kept_left}
use Rattle.journal.specs.Logs.{HasGrown}
use Rattle.journal.specs.declared.journals.Journal.{Journal}
use Rattle.durable_core.specs.Written.{Sided}
use Rattle.shared_hall.specs.Cores.{SidedIn, disk_in, hall_in, writing_in}
use Rattle.shared_hall.specs.declared.places.Place.{Place}
use Rattle.shared_hall.specs.declared.places.Place.TheVariants.{Inside, Out}

module _ {D : Type 0} (crashes : D → Bool) (seen : D → Option Sides) (images : D → Sides → Type 0) where
  -- the disk tells which batches a journal keeps
  pub keeps_once : (k : Journal D) (xs copied ys others : List Bytes) → Keeps crashes seen images k xs copied → Keeps crashes seen images k ys others → xs ≡ ys
  keeps_once k xs copied ys others one two =
      let here = one.log.safe in
      let there = two.log.safe in
      let told = here.told in
      let too = there.told in
      let same : here.contents ≡ there.contents = cc in
      stands_once k.log.version k.log.generation xs ys (side_of there.contents k.log.side)
      (subst (λ (x : Sides). StandsFor k.log.version k.log.generation xs (side_of x k.log.side)) same here.has) there.has

  pub once_in : (p : Place D) → (hall_in p).stopped ≡ false → (t u : Sided) → SidedIn crashes seen images p t → SidedIn crashes seen images p u → t.batches ≡ u.batches
  once_in (Inside c) going t u one two = keeps_once c.tail.journal t.batches t.copied u.batches u.copied one two
  once_in (Out left) going t u one two = absurd (true≢false going)

  pub left_in : (moment : D → ℕ) (left_since : D → ℕ → Sides → Type 0) → ((disk : D) (image : Sides) → left_since disk (moment disk) image → images disk image)
      → (p : Place D) → (hall_in p).stopped ≡ false → crashes (disk_in p) ≡ true → (t : Sided) → SidedIn crashes seen images p t
      → EachSince left_since (disk_in p) (moment (disk_in p)) (HasGrown (writing_in p).generation t.batches)
  left_in moment left_since only_now (Inside c) going crash t keeps = λ image at.
      let k = c.tail.journal in
      grown_of k.log.version k.log.generation t.batches image
      (kept_left (crashes k.disk) (seen k.disk) (images k.disk) k.log.side k.log.version k.log.generation k.log.gate k.rewriter t.batches t.copied keeps crash image (only_now k.disk image at))
  left_in moment left_since only_now (Out left) going crash t keeps = absurd (true≢false going)
