-- Laws of versions: what a version can say, each later one says in the same words.
use Rattle.std.proofs.Common.{arith, ◌≡◌, ℕ, ◌≤◌, ◌<◌, Bool, true, false, List, [], ◌∷◌, Option, Some, None, refl, ap, subst, ◌∙◌, nat_le}
use Rattle.std.proofs.Common.{if◌then◌else◌, is_some, leb-true, le-leb}
use Rattle.std.specs.List.{AllByRecursion, list_any}
use Rattle.std.proofs.lemmas.Bool.Decides.{nat_tests}
use Rattle.byte_text.specs.Names.{Bytes}
use Rattle.world_data.specs.Records.{record_reader}
use Rattle.world_data.specs.declared.worlds.Change.{Change}
use Rattle.world_data.specs.declared.worlds.Change.TheVariants.{Put, Del, Drop, Flush, SetChan, DelChan}
use Rattle.log_sides.specs.Texts.{newest}
use Rattle.log_record.specs.Words.{change_of_words, IsRecorded}
use Rattle.log_record.specs.Versions.{least_version, in_version, change_of_version, has_text, names_text, text_version, IsRecordedIn}

text_known : (some : Bool) → (1 ≤ text_version some) × (text_version some ≤ newest)
text_known true = (omega arith, omega arith)
text_known false = (omega arith, omega arith)

setting_known : (dated some : Bool) → let version = if dated then 3 else text_version some in (1 ≤ version) × (version ≤ newest)
setting_known true some = (omega arith, omega arith)
setting_known false some = text_known some

-- each change is said by some version, and by the newest
pub least_known : (c : Change) → (1 ≤ least_version c) × (least_version c ≤ newest)
unfolding least_version
least_known (Put o) = text_known (has_text o.fields)
least_known (SetChan c) = setting_known (is_some c.deadline) (list_any names_text c.fence.tests)
least_known (Del key id) = (omega arith, omega arith)
least_known (Drop key) = (omega arith, omega arith)
least_known Flush = (omega arith, omega arith)
least_known (DelChan name) = (omega arith, omega arith)

kept_by : (b : Bool) (c d : Change) → (if b then Some c else None) ≡ Some d → (c ≡ d) × (b ≡ true)
kept_by true c d e = (cc e, refl)
kept_by false c d e = absurd (cc e)

said_by : (v : ℕ) (o : Option Change) (c : Change) → in_version v o ≡ Some c → (o ≡ Some c) × (least_version c ≤ v)
said_by v None c e = absurd (cc e)
said_by v (Some d) c e =
    let kept = kept_by (nat_le (least_version d) v) d c e in
    (ap Some kept.0, subst (λ (x : Change). least_version x ≤ v) kept.0 (leb-true (least_version d) v kept.1))

pub version_read : (v : ℕ) (words : List Bytes) (c : Change) → change_of_version v words ≡ Some c
    → (change_of_words words ≡ Some c) × (least_version c ≤ v)
unfolding change_of_version
version_read v words c e = said_by v (change_of_words words) c e

pub version_says : (v : ℕ) (words : List Bytes) (c : Change) → change_of_words words ≡ Some c → least_version c ≤ v
    → change_of_version v words ≡ Some c
unfolding change_of_version
version_says v words c e said = ap (in_version v) e ∙ rw (le-leb (least_version c) v said) refl

too_late : (n k : ℕ) → n < k → nat_le k n ≡ false
too_late n k less = grind (arith, nat_tests)

pub version_lacks : (v : ℕ) (words : List Bytes) (c : Change) → change_of_words words ≡ Some c → v < least_version c
    → change_of_version v words ≡ None
unfolding change_of_version
version_lacks v words c e late = ap (in_version v) e ∙ rw (too_late v (least_version c) late) refl

pub no_version : (v : ℕ) (words : List Bytes) → change_of_words words ≡ None → change_of_version v words ≡ None
unfolding change_of_version
no_version v words e = ap (in_version v) e

-- changes with records

pub read_back_in : (v : ℕ) (c : Change) → IsRecordedIn v c → change_of_version v (record_reader c) ≡ Some c
read_back_in v c is = version_says v (record_reader c) c is.recorded.read_back is.said

pub recorded_later : (v w : ℕ) (changes : List Change) → v ≤ w → AllByRecursion (IsRecordedIn v) changes → AllByRecursion (IsRecordedIn w) changes
recorded_later v w [] later are = tt
recorded_later v w (c ∷ changes) later are =
    (record { recorded = are.0.recorded; said = omega (arith, are.0.said, later) }, recorded_later v w changes later are.1)

pub recorded_newest : (changes : List Change) → AllByRecursion IsRecorded changes → AllByRecursion (IsRecordedIn newest) changes
recorded_newest [] are = tt
recorded_newest (c ∷ changes) are = (record { recorded = are.0; said = (least_known c).1 }, recorded_newest changes are.1)

pub recorded_any : (v : ℕ) (changes : List Change) → AllByRecursion (IsRecordedIn v) changes → AllByRecursion IsRecorded changes
recorded_any v [] are = tt
recorded_any v (c ∷ changes) are = (are.0.recorded, recorded_any v changes are.1)
