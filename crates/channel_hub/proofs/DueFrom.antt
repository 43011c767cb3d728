-- A moment before which no channel is due.
use Rattle.std.proofs.Common.{◌≡◌, ◌≤◌, ◌<◌, ℕ, true, false, not, List, [], ◌∷◌, refl, sym, ap, arith}
use Rattle.std.specs.Prelude.{Option, None, Some, nat_le, min, unwrap_or}
use Rattle.std.specs.List.{list_all, AllByRecursion}
use Rattle.std.proofs.lemmas.Bool.{and_from}
use Rattle.std.proofs.lemmas.Bool.Decides.{nat_tests}
use Rattle.std.proofs.Math.Nat.{min-le_left, min-le_right}
use Rattle.ordered_lists.specs.Lists.{sorted_by}
use Rattle.ordered_lists.specs.Reading.{filter-all, filter-none}
use Rattle.world_data.specs.Expiry.{channel_due_before, has_come, is_channel_due}
use Rattle.world_data.specs.declared.channels.Channel.{Channel}
use Rattle.channel_hub.specs.Dues.{due_in, earlier, least_due, left_at}

-- a deadline does not come before this moment
abbrev pub IsFrom : ℕ → Option ℕ → Type 0
IsFrom due_from deadline = (d : ℕ) → deadline ≡ Some d → due_from ≤ d

-- none of these channels is due before it
abbrev pub AreFrom : ℕ → List Channel → Type 0
AreFrom due_from channels = AllByRecursion (λ c. IsFrom due_from c.deadline) channels

too_late : (n k : ℕ) → n < k → nat_le k n ≡ false
too_late n k less = grind (arith, nat_tests)

not_come : (from now : ℕ) (deadline : Option ℕ) → IsFrom from deadline → now < from → not (has_come now deadline) ≡ true
not_come from now None is less = refl
not_come from now (Some d) is less =
    let first : from ≤ d = is d refl in
    ap not (too_late now d (omega (arith, first, less)))

none_due : (from now : ℕ) (channels : List Channel) → AreFrom from channels → now < from
    → list_all (λ c. not (is_channel_due now c)) channels ≡ true
none_due from now [] are less = refl
none_due from now (c ∷ channels) are less =
    and_from (not (is_channel_due now c)) (list_all (λ d. not (is_channel_due now d)) channels) (not_come from now c.deadline are.0 less)
    (none_due from now channels are.1 less)

-- before that moment all are left, and none is due
pub all_left : (from now : ℕ) (channels : List Channel) → AreFrom from channels → now < from → channels ≡ left_at now channels
all_left from now channels are less = sym (filter-all (λ (c : Channel). not (is_channel_due now c)) channels (none_due from now channels are less))

pub nothing_due : (from now : ℕ) (channels : List Channel) → AreFrom from channels → now < from → [] ≡ due_in now channels
nothing_due from now channels are less =
    sym (ap (sorted_by channel_due_before) (filter-none (is_channel_due now) channels (none_due from now channels are less)))

-- the least deadline is such a moment
earlier_first : (a b : Option ℕ) (least d : ℕ) → IsFrom least (earlier a b) → a ≡ Some d → least ≤ d
earlier_first None b least d is e = absurd (cc e)
earlier_first (Some x) None least d is e = is d e
earlier_first (Some x) (Some y) least d is e =
    let both = is (min x y) refl in
    let left = min-le_left x y in
    let same : x ≡ d = cc e in
    omega (arith, both, left, same)

earlier_second : (a b : Option ℕ) (least : ℕ) → IsFrom least (earlier a b) → IsFrom least b
earlier_second None b least is d e = is d e
earlier_second (Some x) None least is d e = absurd (cc e)
earlier_second (Some x) (Some y) least is d e =
    let both = is (min x y) refl in
    let right = min-le_right x y in
    let same : y ≡ d = cc e in
    omega (arith, both, right, same)

pub from_least : (channels : List Channel) (least : ℕ) → IsFrom least (least_due channels) → AreFrom least channels
from_least [] least is = tt
from_least (c ∷ channels) least is = (
  λ d e. earlier_first c.deadline (least_due channels) least d is e,
  from_least channels least (earlier_second c.deadline (least_due channels) least is),
)

or_last : (o : Option ℕ) (last : ℕ) → IsFrom (unwrap_or o last) o
or_last None last d e = absurd (cc e)
or_last (Some x) last d e = let same : x ≡ d = cc e in omega (arith, same)

pub from_least_or : (channels : List Channel) (last : ℕ) → AreFrom (unwrap_or (least_due channels) last) channels
from_least_or channels last = from_least channels (unwrap_or (least_due channels) last) (or_last (least_due channels) last)
