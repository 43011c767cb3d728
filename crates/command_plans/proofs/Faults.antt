-- The frame of a refusal of words is short.
use Rattle.std.proofs.Common.{◌≡◌, ℕ, ◌≤◌, Bool, true, false, refl, sym, subst, lit≤, List, [], ◌∷◌, ◌++◌, length, length-append, length-take, arith}
use Rattle.std.proofs.lemmas.List.{length-map}
use Rattle.std.specs.Prelude.{Option, Some, None, Result, Ok, Err, map, codes, nat_le, if◌then◌else◌, ◌&&◌, not, is_some}
use Rattle.std.specs.List.{AllByRecursion, list_any}
use Rattle.std.specs.Str.{str_to_ascii_lowercase}
use Rattle.byte_text.specs.Names.{Bytes}
use Rattle.byte_text.specs.Replies.{frame_text}
use Rattle.byte_text.specs.Requests.{max_word, FitsRequest}
use Rattle.geo_text.specs.Texts.{shape_of, Shape}
use Rattle.geo_text.specs.declared.faults.GeoFault.{GeoFault}
use Rattle.geo_text.specs.declared.faults.GeoFault.TheVariants as geo
use Rattle.world_model.specs.Grammar.{Reading, spelled, goes_on, wants_coordinate, wants_geojson}
use Rattle.world_data.specs.Limits.{max_reply}
use Rattle.world_model.specs.Replies.{error}
use Rattle.world_model.specs.Refusals.{fault_reply}
use Rattle.world_model.specs.Commands.{reads, is_fraction, command_spelled, ok_or_fault, fault_of, fault_at, geo_fault_of, stop_behind, is_open, wrong_count, shown_of, Stop, readings}
use Rattle.world_model.specs.declared.commands.Command.{Command}
use Rattle.world_model.specs.declared.faults.WordFault.{WordFault}
use Rattle.world_model.specs.declared.faults.WordFault.TheVariants as fault

abbrev AreShort : List Bytes → Type 0
AreShort words = AllByRecursion (λ w. length w ≤ max_word) words

-- the word that it shows is short
abbrev IsShortFault : WordFault → Type 0
IsShortFault (fault.Unknown w) = length w ≤ max_word
IsShortFault (fault.WrongCount w) = length w ≤ max_word
IsShortFault (fault.Invalid w) = length w ≤ max_word
IsShortFault (fault.Fraction w) = length w ≤ max_word
IsShortFault (fault.Geo f) = Unit {0}

framed : (t : Bytes) → length t ≤ 2000000 → length (frame_text (error t)) ≤ max_reply
framed t le = sizes (codes "ERR ") (lit≤ tt) le
  where
    sizes : (e : Bytes) → length e ≤ 4 → length t ≤ 2000000 → length ((45 ∷ ((e ++ t) ++ 13 ∷ 10 ∷ [])) ++ []) ≤ max_reply
    sizes e p q = omega (arith, p, q, length-append ((e ++ t) ++ 13 ∷ 10 ∷ []) [], length-append (e ++ t) (13 ∷ 10 ∷ []), length-append e t)

-- a byte as a refusal shows it, and a word in quotes
abbrev shown : ℕ → ℕ
shown b = if nat_le 32 b && nat_le b 126 then b else 63

abbrev in_quotes : Bytes → Bytes
in_quotes w = codes "'" ++ map shown w ++ codes "'"

quotes : (q w : Bytes) → length q ≤ 1 → length w ≤ max_word → length (q ++ map shown w ++ q) ≤ 1500000
quotes q w a b = omega (arith, a, b, length-append (q ++ map shown w) q, length-append q (map shown w), length-map w shown)

behind : (before t : Bytes) → length before ≤ 100 → length t ≤ 1500000 → length (before ++ t) ≤ 2000000
behind before t a b = omega (arith, a, b, length-append before t)

between : (before t after : Bytes) → length before ≤ 100 → length t ≤ 1500000 → length after ≤ 100 → length (before ++ t ++ after) ≤ 2000000
between before t after a b c = omega (arith, a, b, c, length-append (before ++ t) after, length-append before t)

geo_fits : (f : GeoFault) → length (frame_text (fault_reply (fault.Geo f))) ≤ max_reply
geo_fits geo.NotJson = lit≤ tt
geo_fits geo.NotSpatial = lit≤ tt
geo_fits geo.BadType = lit≤ tt
geo_fits geo.NotWhole = lit≤ tt
geo_fits geo.OutOfRange = lit≤ tt
geo_fits geo.BadRing = lit≤ tt
geo_fits geo.TooFew = lit≤ tt
geo_fits geo.TooMany = lit≤ tt
geo_fits geo.BadPosition = lit≤ tt

fault_fits : (f : WordFault) → IsShortFault f → length (frame_text (fault_reply f)) ≤ max_reply
fault_fits (fault.Unknown w) s = framed (codes "unknown command " ++ in_quotes w) (behind (codes "unknown command ") (in_quotes w) (lit≤ tt) (quotes (codes "'") w (lit≤ tt) s))
fault_fits (fault.WrongCount w) s = framed (codes "wrong number of arguments for " ++ in_quotes w ++ codes " command") (between (codes "wrong number of arguments for ") (in_quotes w) (codes " command") (lit≤ tt) (quotes (codes "'") w (lit≤ tt) s) (lit≤ tt))
fault_fits (fault.Invalid w) s = framed (codes "invalid argument " ++ in_quotes w) (behind (codes "invalid argument ") (in_quotes w) (lit≤ tt) (quotes (codes "'") w (lit≤ tt) s))
fault_fits (fault.Fraction w) s = framed (codes "coordinate is not a whole number " ++ in_quotes w) (behind (codes "coordinate is not a whole number ") (in_quotes w) (lit≤ tt) (quotes (codes "'") w (lit≤ tt) s))
fault_fits (fault.Geo f) s = geo_fits f

-- how words are refused

lower_short : (w : Bytes) → length w ≤ max_word → length (str_to_ascii_lowercase w) ≤ max_word
lower_short w le = subst (λ n. n ≤ max_word) (sym (length-map w _)) le

count_short : (words : List Bytes) → AreShort words → IsShortFault (wrong_count words)
count_short [] s = lit≤ tt
count_short (w ∷ words) s = lower_short w s.0

shown_short : (w : Bytes) → length (shown_of w) ≤ max_word
shown_short w = omega (arith, length-take 64 w)

geo_short : (w : Bytes) (r : Result Shape GeoFault) → IsShortFault (geo_fault_of w r)
geo_short w (Ok shape) = shown_short w
geo_short w (Err f) = tt

at_short : (read : List Bytes) (w : Bytes) (found : List (Reading Command)) → AreShort read → IsShortFault (fault_at read w found)
at_short [] w found s = shown_short w
at_short (first ∷ read) w found s = by (is_some (spelled found) && not (list_any goes_on found)) (list_any wants_coordinate found && is_fraction w) (list_any wants_geojson found)
  where
    by : (a b c : Bool) → IsShortFault (if a then wrong_count (first ∷ read) else if b then fault.Fraction (shown_of w) else if c then geo_fault_of w (shape_of w) else fault.Invalid (shown_of w))
    by true b c = count_short (first ∷ read) s
    by false true c = shown_short w
    by false false true = geo_short w (shape_of w)
    by false false false = shown_short w

both_short : (xs : List Bytes) (w : Bytes) → AreShort xs → length w ≤ max_word → AreShort (xs ++ w ∷ [])
both_short [] w s p = (p, tt)
both_short (x ∷ xs) w s p = (s.0, both_short xs w s.1 p)

earlier_short : (read words : List Bytes) (stop : Stop) → AreShort read → AreShort words → stop_behind read words ≡ Some stop → AreShort stop.earlier
earlier_short read [] stop r s e = absurd (cc)
earlier_short read (w ∷ words) stop r s e = by (is_open (read ++ w ∷ [])) (λ f. earlier_short (read ++ w ∷ []) words stop (both_short read w r s.0) s.1 f) e
  where
    by : (b : Bool) → (stop_behind (read ++ w ∷ []) words ≡ Some stop → AreShort stop.earlier) → (if b then stop_behind (read ++ w ∷ []) words else Some (record { earlier = read; at = w })) ≡ Some stop → AreShort stop.earlier
    by true ih f = ih f
    by false ih f = let same : record { earlier = read; at = w } ≡ stop = cc in subst (λ (t : Stop). AreShort t.earlier) same r

stopped_short : (words : List Bytes) (stop : Option Stop) → AreShort words → stop_behind [] words ≡ stop → IsShortFault (fault_of words stop)
stopped_short words None s e = count_short words s
stopped_short words (Some stop) s e = at_short stop.earlier stop.at (readings stop.earlier) (earlier_short [] words stop tt s e)

refusal_fits : (words : List Bytes) (f : WordFault) → AllByRecursion (λ w. length w ≤ max_word) words → reads words ≡ Err f → length (frame_text (fault_reply f)) ≤ max_reply
refusal_fits words f s e = fault_fits f (of_command (command_spelled words) e)
  where
    of_command : (c : Option Command) → ok_or_fault words c ≡ Err f → IsShortFault f
    of_command (Some c) g = absurd (cc)
    of_command None g =
        let same : fault_of words (stop_behind [] words) ≡ f = cc in
        subst IsShortFault same (stopped_short words (stop_behind [] words) s refl)

-- of words that are refused
pub answer_fits : (words : List Bytes) (f : WordFault) → FitsRequest words → reads words ≡ Err f → length (frame_text (fault_reply f)) ≤ max_reply
answer_fits words f fits e = refusal_fits words f fits.short e
