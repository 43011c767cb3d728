-- The normal words of a setting are short, and no more than the words that spell it.
use Rattle.std.proofs.Common.{◌≡◌, ℕ, ℤ, pos, negsuc, ◌+◌, ◌-◌, ◌^◌, ◌≤◌, Bool, true, false, List, [], ◌∷◌, ◌++◌, length, map, refl, sym, ap, subst}
use Rattle.std.proofs.Common.{arith, length-append}
use Rattle.std.specs.Prelude.{Option, Some, None, IfSome, codes, decimal, filter, flat_map, nat_le, int_le, neg_ℤ, option_and_then, ◌&&◌, not}
use Rattle.std.specs.Prelude.{is_none, if◌then◌else◌, nat_lt}
use Rattle.std.specs.List.{AllByRecursion, list_all}
use Rattle.std.proofs.lemmas.Bool.{leb-true}
use Rattle.std.proofs.lemmas.List.{length-map}
use mir.Syntax.{w64}
use mir.Val.{SFits as FitsSigned}
use Rattle.byte_text.specs.Names.{Bytes, is_name}
use Rattle.byte_text.specs.Numbers.{whole, natural, whole_within, natural_within}
use Rattle.byte_text.specs.Globs.{is_well_formed}
use Rattle.geo_text.specs.Texts.{with_commas}
use Rattle.ordered_lists.specs.Reading.{both_of, each-append}
use Rattle.world_data.specs.Limits.{max_meters, max_values, max_tests}
use Rattle.world_data.specs.declared.filters.Test.{Test}
use Rattle.world_data.specs.declared.filters.Test.TheVariants.{Range, Same, Among}
use Rattle.world_data.specs.declared.values.Value.{Value}
use Rattle.world_data.specs.Filters.{number_in, number_or_text, value_in, value_text}
use Rattle.world_model.specs.Grammar.{Due, a_word, Form, ◌>>=◌, ◌>>◌, ◌or◌, done, where_, one_word, word, repeated, times}
use Rattle.world_model.specs.Kinds.{when, name, glob, value, value_of_word, between, meters, bound, bound_of, text, text_of_word, again, same_text, list_of}
use Rattle.world_model.specs.Commands as table
use Rattle.world_model.specs.SoundLaws.{when_is}
use Rattle.cmd_words.specs.SmallWords.{IsSmall, AreSmall, small, small_name, small_decimal, small_signed, small_append}
use Rattle.cmd_words.specs.Costs.{Costs, costs_done, costs_none, costs_or, costs_where, costs_word, costs_bind, costs_then, costs_repeated, AreSo}
use Rattle.cmd_words.specs.Costs.{costs_times}

-- names, and numbers of eight bytes

abbrev pub IsName : Bytes → Type 0
IsName w = is_name w ≡ true

abbrev pub IsNumber : ℤ → Type 0
IsNumber z = FitsSigned w64 z

chosen : {A : Type 0} (passes : A → Bool) (x z : A) (b : Bool) → passes x ≡ b → (if b then Some x else None) ≡ Some z → passes z ≡ true
chosen passes x z true test e = let same : x ≡ z = cc e in subst (λ v. passes v ≡ true) same test
chosen passes x z false test e = absurd (cc e)

passed : {A : Type 0} (passes : A → Bool) (z : A) (o : Option A) → option_and_then (λ x. if passes x then Some x else None) o ≡ Some z
    → passes z ≡ true
passed passes z None e = absurd (cc e)
passed passes z (Some x) e = chosen passes x z (passes x) refl e

whole_passes : (low high : ℤ) (w : Bytes) (z : ℤ) → whole_within low high w ≡ Some z → (int_le low z && int_le z high) ≡ true
whole_passes low high w z e = passed (λ x. int_le low x && int_le x high) z (whole w) e

between_fits : (low : ℤ) (high : ℕ) (z : ℤ) → IsNumber low → high ≤ 9223372036854775807 → (int_le low z && int_le z (pos high)) ≡ true → IsNumber z
between_fits low high (pos n) fits most e =
    let l : n ≤ high = leb-true n high (both_of (int_le low (pos n)) _ e).1 in record { sfits = omega (arith, l, most) }
between_fits (pos m) high (negsuc n) fits most e = absurd (cc (both_of (int_le (pos m) (negsuc n)) (int_le (negsuc n) (pos high)) e).0)
between_fits (negsuc m) high (negsuc n) fits most e =
    let l : n ≤ m = leb-true n m (both_of (int_le (negsuc m) (negsuc n)) _ e).0 in
    let limit = fits.sfits in
    let small_m : m ≤ 9223372036854775807 = grind arith in
    record { sfits = omega (arith, l, small_m) }

natural_small : (low high : ℕ) (w : Bytes) (n : ℕ) → nat_le high 18446744073709551615 ≡ true → natural_within low high w ≡ Some n
    → IsSmall (decimal n)
natural_small low high w n most e =
    let within = passed (λ x. nat_le low x && nat_le x high) n (natural w) e in
    let l : n ≤ high = leb-true n high (both_of (nat_le low n) _ within).1 in
    let m : high ≤ 18446744073709551615 = leb-true high 18446744073709551615 most in
    small_decimal n (omega (arith, l, m))

pub costs_whole : (before : ℕ) (due : Due) (low : ℤ) (high : ℕ) → IsNumber low → nat_le high 9223372036854775807 ≡ true
    → Costs before (λ z. before + 1) IsNumber (one_word due (whole_within low (pos high)))
costs_whole before due low high fits most =
    costs_word before (λ z. before + 1) IsNumber due (whole_within low (pos high))
    (λ w z short e. (omega arith, between_fits low high z fits (leb-true high 9223372036854775807 most) (whole_passes low (pos high) w z e)))

least_fits : IsNumber (neg_ℤ (pos (2 ^ 63)))
least_fits = record { sfits = omega arith }

pub costs_between : (before low high : ℕ) → nat_le high 18446744073709551615 ≡ true
    → Costs before (λ n. before + 1) (λ n. IsSmall (decimal n)) (between low high)
costs_between before low high most = costs_word before (λ n. before + 1) (λ n. IsSmall (decimal n)) a_word (natural_within low high)
    (λ w n short e. (omega arith, natural_small low high w n most e))

pub costs_meters : (before : ℕ) → Costs before (λ n. before + 1) (λ n. IsSmall (decimal n)) meters
costs_meters before = costs_between before 0 max_meters refl

-- names

pub costs_name : (before : ℕ) → Costs before (λ n. before + 1) IsName name
costs_name before = costs_word before (λ n. before + 1) IsName a_word (λ w. when (is_name w) w) (λ w n short e.
    let is = when_is (is_name w) w n e in (omega arith, subst IsName is.1 is.0))

pub costs_glob : (before : ℕ) → Costs before (λ n. before + 1) IsSmall glob
costs_glob before = costs_word before (λ n. before + 1) IsSmall a_word (λ w. when (is_name w && is_well_formed w) w) (λ w n short e.
    let is = when_is (is_name w && is_well_formed w) w n e in
    (omega arith, subst IsSmall is.1 (small_name w (both_of (is_name w) (is_well_formed w) is.0).0)))

-- values

number_fits : (w : Bytes) (z : ℤ) → number_in w ≡ Some z → IsNumber z
number_fits w z e =
    between_fits (neg_ℤ (pos (2 ^ 63))) (2 ^ 63 - 1) z least_fits (omega arith)
    (whole_passes (neg_ℤ (pos (2 ^ 63))) (pos (2 ^ 63 - 1)) w z e)

abbrev IsSmallValue : Value → Type 0
IsSmallValue v = IsSmall (value_text v)

value_small : (w : Bytes) → is_name w ≡ true → IsSmallValue (value_in w)
value_small w named = by (number_in w) refl
  where
    by : (o : Option ℤ) → number_in w ≡ o → IsSmallValue (number_or_text w o)
    by None e = small_name w named
    by (Some z) e = small_signed z (number_fits w z e)

costs_value : (before : ℕ) → Costs before (λ v. before + 1) IsSmallValue value
costs_value before = costs_word before (λ v. before + 1) IsSmallValue a_word value_of_word (λ w v short e.
    let is = when_is (is_name w) (value_in w) v e in (omega arith, subst IsSmallValue is.1 (value_small w is.0)))

costs_text : (before : ℕ) → Costs before (λ t. before + 1) IsSmall text
costs_text before = costs_word before (λ t. before + 1) IsSmall a_word text_of_word (λ w t short e.
    let is = when_is (is_name w && is_none (bound_of w)) w t e in
    (omega arith, subst IsSmall is.1 (small_name w (both_of (is_name w) (is_none (bound_of w)) is.0).0)))

costs_again : (before : ℕ) (t : Bytes) → Costs before (λ u. before + 1) (λ u. Unit {0}) (again t)
costs_again before t = costs_word before (λ u. before + 1) (λ u. Unit {0}) a_word (same_text t) (λ w u short e. (omega arith, tt))

-- tests

bounded : (w : Bytes) (z : ℤ) → bound_of w ≡ Some (Some z) → number_in w ≡ Some z
bounded w z e = grind arith

bound_fits : (w : Bytes) (o : Option ℤ) → bound_of w ≡ Some o → IfSome o IsNumber
bound_fits w None e = tt
bound_fits w (Some z) e = number_fits w z (bounded w z e)

costs_bound : (before : ℕ) → Costs before (λ o. before + 1) (λ o. IfSome o IsNumber) bound
costs_bound before = costs_word before (λ o. before + 1) (λ o. IfSome o IsNumber) a_word bound_of (λ w o short e. (omega arith, bound_fits w o e))

bound_small : (endless : Bytes) (o : Option ℤ) → IsSmall endless → IfSome o IsNumber → IsSmall (table.bound_word endless o)
bound_small endless None s fits = s
bound_small endless (Some z) s fits = small_signed z fits

abbrev pub IsSmallTest : Test → Type 0
IsSmallTest t = AreSmall (table.test_words t)

values_small : (values : List Value) → AllByRecursion IsSmallValue values → AreSmall (map value_text values)
values_small [] fit = tt
values_small (v ∷ values) fit = (fit.0, values_small values fit.1)

module _ (before : ℕ) where
  abbrev with_test : Test → ℕ
  with_test t = before + length (table.test_words t)

  costs_range : (n : Bytes) → IsName n → Costs (before + 1 + 1) with_test IsSmallTest (table.where_range n)
  costs_range n named =
      costs_bind (before + 1 + 1) (λ o. before + 1 + 1 + 1) (λ o. IfSome o IsNumber) with_test IsSmallTest bound _ (costs_bound (before + 1 + 1))
      (λ low l.
      costs_bind (before + 1 + 1 + 1) (λ o. before + 1 + 1 + 1 + 1) (λ o. IfSome o IsNumber) with_test IsSmallTest bound _
      (costs_bound (before + 1 + 1 + 1)) (λ high h.
      costs_done (before + 1 + 1 + 1 + 1) with_test IsSmallTest (Range n low high) (omega arith) (
        small (codes "WHERE") refl,
        (
          small_name n named,
          (
            bound_small (codes "-inf") low (small (codes "-inf") refl) l,
            (bound_small (codes "+inf") high (small (codes "+inf") refl) h, tt),
          ),
        ),
      )))

  costs_same : (n : Bytes) → IsName n → Costs (before + 1 + 1) with_test IsSmallTest (table.where_same n)
  costs_same n named =
      costs_bind (before + 1 + 1) (λ t. before + 1 + 1 + 1) IsSmall with_test IsSmallTest text _ (costs_text (before + 1 + 1)) (λ t s.
      costs_bind (before + 1 + 1 + 1) (λ u. before + 1 + 1 + 1 + 1) (λ u. Unit {0}) with_test IsSmallTest (again t) _
      (costs_again (before + 1 + 1 + 1) t) (λ u is.
      costs_done (before + 1 + 1 + 1 + 1) with_test IsSmallTest (Same n t) (omega arith)
      (small (codes "WHERE") refl, (small_name n named, (s, (s, tt))))))

  costs_where_test : Costs before with_test IsSmallTest table.where_test
  costs_where_test =
      costs_then before with_test IsSmallTest (codes "WHERE") _ (
      costs_bind (before + 1) (λ n. before + 1 + 1) IsName with_test IsSmallTest name _ (costs_name (before + 1)) (λ n named.
      costs_or (before + 1 + 1) with_test IsSmallTest (table.where_range n) (table.where_same n) (costs_range n named) (costs_same n named)))

  costs_among : Costs before with_test IsSmallTest table.wherein_test
  costs_among =
      costs_then before with_test IsSmallTest (codes "WHEREIN") _ (
      costs_bind (before + 1) (λ n. before + 1 + 1) IsName with_test IsSmallTest name _ (costs_name (before + 1)) (λ n named.
      costs_bind (before + 1 + 1) (λ k. before + 1 + 1 + 1) (λ k. IsSmall (decimal k)) with_test IsSmallTest (between 1 max_values) _
      (costs_between (before + 1 + 1) 1 max_values refl) (λ count counted.
      costs_bind (before + 1 + 1 + 1) (λ values. before + 1 + 1 + 1 + count) (AreSo IsSmallValue count) with_test IsSmallTest (times count value) _
      (costs_times IsSmallValue value costs_value count (before + 1 + 1 + 1)) (λ values are.
      let many = length-map values value_text in
      let so = are.0 in
      costs_done (before + 1 + 1 + 1 + count) with_test IsSmallTest (Among n values) (omega (arith, many, so))
      (small (codes "WHEREIN") refl, (small_name n named, (subst (λ k. IsSmall (decimal k)) (sym so) counted, values_small values are.1)))))))

  costs_test : Costs before with_test IsSmallTest table.test
  costs_test = costs_or before with_test IsSmallTest table.where_test table.wherein_test costs_where_test costs_among

-- lists of names

abbrev joined : List Bytes → ℕ
joined [] = 0
joined (w ∷ ws) = length w + 1 + joined ws

commas_most : (ws : List Bytes) → length (with_commas ws) ≤ joined ws
commas_most [] = omega arith
commas_most (t ∷ []) = omega arith
commas_most (t ∷ u ∷ ts) = let ih = commas_most (u ∷ ts) in let n = length-append t (44 ∷ with_commas (u ∷ ts)) in omega (arith, ih, n)

filter_most : (p : Bytes → Bool) (ws : List Bytes) → joined (filter p ws) ≤ joined ws
filter_most p [] = omega arith
filter_most p (w ∷ ws) = by (p w) (filter_most p ws)
  where
    by : (b : Bool) → joined (filter p ws) ≤ joined ws → joined (if b then w ∷ filter p ws else filter p ws) ≤ joined (w ∷ ws)
    by true ih = omega (arith, ih)
    by false ih = omega (arith, ih)

abbrev pub listed : Option (List Bytes) → ℕ
listed None = 0
listed (Some l) = 2

few_if : (b : Bool) (called w : Bytes) → length (if b then [] else called ∷ w ∷ []) ≤ 2
few_if true called w = omega arith
few_if false called w = omega arith

small_if : (b : Bool) (called w : Bytes) → IsSmall called → IsSmall w → AreSmall (if b then [] else called ∷ w ∷ [])
small_if true called w s t = tt
small_if false called w s t = (s, (t, tt))

names_few : (called : Bytes) (names : List Bytes) (found : Option (List Bytes)) → list_all (table.wants None) names ≡ true
    → length (table.list_words called names found) ≤ listed found
names_few called names None all = rw all (omega arith)
names_few called names (Some l) all = few_if (list_all (table.wants (Some l)) names) called (with_commas (filter (table.wants (Some l)) names))

names_small : (called : Bytes) (names : List Bytes) (found : Option (List Bytes)) → IsSmall called → nat_le (joined names) 255 ≡ true
    → AreSmall (table.list_words called names found)
names_small called names found s most =
    let w = with_commas (filter (table.wants found) names) in
    let a = commas_most (filter (table.wants found) names) in
    let b = filter_most (table.wants found) names in
    let c = leb-true (joined names) 255 most in
    small_if (list_all (table.wants found) names) called w s (omega (arith, a, b, c))

-- options

abbrev pub flag : Bool → ℕ
flag true = 1
flag false = 0

abbrev pub options_count : table.FenceOptions → ℕ
options_count o = length (table.glob_words o.glob) + length
    (flat_map table.test_words o.tests) + flag o.fence + flag o.nodwell + listed o.detect + listed o.commands

pub record AreFine (o : table.FenceOptions) : Type 0 where
  pub glob : AreSmall (table.glob_words o.glob)
  pub tests : AllByRecursion IsSmallTest o.tests

tests_count : (ts : List Test) (t : Test) → length (flat_map table.test_words (ts ++ t ∷ []))
    ≡ length (flat_map table.test_words ts) + length (table.test_words t)
tests_count [] t = let n = length-append (table.test_words t) [] in omega (arith, n)
tests_count (u ∷ ts) t =
    let ih = tests_count ts t in
    let n = length-append (table.test_words u) (flat_map table.test_words (ts ++ t ∷ [])) in
    let m = length-append (table.test_words u) (flat_map table.test_words ts) in
    omega (arith, ih, n, m)

one_more : (ts : List Test) (t : Test) → AllByRecursion IsSmallTest ts → IsSmallTest t → AllByRecursion IsSmallTest (ts ++ t ∷ [])
one_more ts t all s = each-append IsSmallTest ts (t ∷ []) all (s, tt)

tests_small : (ts : List Test) → AllByRecursion IsSmallTest ts → AreSmall (flat_map table.test_words ts)
tests_small [] all = tt
tests_small (t ∷ ts) all = small_append (table.test_words t) (flat_map table.test_words ts) all.0 (tests_small ts all.1)

module _ (k : ℕ) where
  abbrev pub with_options : table.FenceOptions → ℕ
  with_options o = k + options_count o

  module _ (near : Bool) (o : table.FenceOptions) (fine : AreFine o) where
    abbrev CostsOption : Form table.FenceOptions → Type 0
    CostsOption f = Costs (with_options o) with_options AreFine f

    costs_match : CostsOption (word (codes "MATCH") >> glob >>= λ pattern. done (record o { glob = Some pattern }))
    costs_match = costs_bind (with_options o) (λ p. with_options o + 1 + 1) IsSmall with_options AreFine (word (codes "MATCH") >> glob) _
        (costs_then (with_options o) (λ p. with_options o + 1 + 1) IsSmall (codes "MATCH") glob (costs_glob (with_options o + 1))) (λ p s.
        costs_done (with_options o + 1 + 1) with_options AreFine (record o { glob = Some p }) (omega arith)
        (record { glob = (small (codes "MATCH") refl, (s, tt)); tests = fine.tests }))

    costs_tests : CostsOption (table.test >>= λ t. done (record o { tests = o.tests ++ t ∷ [] }))
    costs_tests = costs_bind (with_options o) (λ t. with_options o + length (table.test_words t)) IsSmallTest with_options AreFine table.test _
        (costs_test (with_options o)) (λ t s.
        let n = tests_count o.tests t in
        costs_done (with_options o + length (table.test_words t)) with_options AreFine (record o { tests = o.tests ++ t ∷ [] }) (omega (arith, n))
        (record { glob = fine.glob; tests = one_more o.tests t fine.tests s }))

    costs_fence : CostsOption (word (codes "FENCE") >> done (record o { fence = true }))
    costs_fence = costs_then (with_options o) with_options AreFine (codes "FENCE") _
        (costs_done (with_options o + 1) with_options AreFine (record o { fence = true }) (omega arith)
        (record { glob = fine.glob; tests = fine.tests }))

    costs_nodwell : CostsOption (word (codes "NODWELL") >> done (record o { nodwell = true }))
    costs_nodwell = costs_then (with_options o) with_options AreFine (codes "NODWELL") _
        (costs_done (with_options o + 1) with_options AreFine (record o { nodwell = true }) (omega arith)
        (record { glob = fine.glob; tests = fine.tests }))

    costs_list : (called : Bytes) (names : List Bytes)
        → Costs (with_options o) (λ l. with_options o + 1 + 1) (λ l. Unit {0}) (word called >> list_of names)
    costs_list called names = costs_then (with_options o) (λ l. with_options o + 1 + 1) (λ l. Unit {0}) called (list_of names)
        (costs_word (with_options o + 1) (λ l. with_options o + 1 + 1) (λ l. Unit {0}) a_word _ (λ w l short e. (omega arith, tt)))

    costs_detect : CostsOption (word (codes "DETECT") >> list_of table.detect_names >>= λ l. done (record o { detect = Some l }))
    costs_detect = costs_bind (with_options o) (λ l. with_options o + 1 + 1) (λ l. Unit {0}) with_options AreFine
        (word (codes "DETECT") >> list_of table.detect_names) _
        (costs_list (codes "DETECT") table.detect_names) (λ l u.
        costs_done (with_options o + 1 + 1) with_options AreFine (record o { detect = Some l }) (omega arith)
        (record { glob = fine.glob; tests = fine.tests }))

    costs_commands : CostsOption (word (codes "COMMANDS") >> list_of table.command_names >>= λ l. done (record o { commands = Some l }))
    costs_commands = costs_bind (with_options o) (λ l. with_options o + 1 + 1) (λ l. Unit {0}) with_options AreFine
        (word (codes "COMMANDS") >> list_of table.command_names) _
        (costs_list (codes "COMMANDS") table.command_names) (λ l u.
        costs_done (with_options o + 1 + 1) with_options AreFine (record o { commands = Some l }) (omega arith)
        (record { glob = fine.glob; tests = fine.tests }))

    next : (f g : Form table.FenceOptions) (test : Bool) → CostsOption f → CostsOption g → CostsOption (where_ test f or g)
    next f g test p q = costs_or (with_options o) with_options AreFine (where_ test f) g
        (costs_where (with_options o) with_options AreFine test f (λ is. p)) q

    costs_option : CostsOption (table.fence_option near o)
    costs_option =
        next _ _ (is_none o.glob) costs_match (
        next _ _ (nat_lt (length o.tests) max_tests) costs_tests (
        next _ _ (not o.fence) costs_fence (
        next _ _ (is_none o.detect && not o.nodwell) costs_detect (
        next _ _ (is_none o.commands) costs_commands (
        next _ _ (near && not o.nodwell && is_none o.detect) costs_nodwell (costs_none (with_options o) with_options AreFine))))))

  pub costs_options : (near : Bool) → Costs (k + options_count table.no_fence_options) with_options AreFine
      (repeated (table.fence_option near) table.no_fence_options)
  costs_options near = costs_repeated with_options AreFine (table.fence_option near) (costs_option near) table.no_fence_options
      (record { glob = tt; tests = tt })

count_of : (g t n d c : List Bytes) → length (g ++ t ++ codes "FENCE" ∷ n ++ d ++ c) ≡ length g + length t + 1 + length n + length d + length c
count_of g t n d c = grind (arith, length-append)

small_of : (g t n d c : List Bytes) → AreSmall g → AreSmall t → AreSmall n → AreSmall d → AreSmall c
    → AreSmall (g ++ t ++ codes "FENCE" ∷ n ++ d ++ c)
small_of g t n d c sg st sn sd sc =
    let front = small_append (g ++ t) (codes "FENCE" ∷ n) (small_append g t sg st) (small (codes "FENCE") refl, sn) in
    small_append (g ++ t ++ codes "FENCE" ∷ n ++ d) c (small_append (g ++ t ++ codes "FENCE" ∷ n) d front sd) sc

nodwell_few : (b : Bool) → length (if b then codes "NODWELL" ∷ [] else []) ≤ flag b
nodwell_few true = omega arith
nodwell_few false = omega arith

nodwell_small : (b : Bool) → AreSmall (if b then codes "NODWELL" ∷ [] else [])
nodwell_small true = (small (codes "NODWELL") refl, tt)
nodwell_small false = tt

-- the normal words of options of which FENCE is one
pub options_few : (o : table.FenceOptions) → o.fence ≡ true → length (table.option_words o) ≤ options_count o
options_few o fence =
    let n = count_of (table.glob_words o.glob) (flat_map table.test_words o.tests) (if o.nodwell then codes "NODWELL" ∷ [] else [])
    (table.list_words (codes "DETECT") table.detect_names o.detect) (table.list_words (codes "COMMANDS") table.command_names o.commands) in
    let a = nodwell_few o.nodwell in
    let b = names_few (codes "DETECT") table.detect_names o.detect refl in
    let c = names_few (codes "COMMANDS") table.command_names o.commands refl in
    let d : flag o.fence ≡ 1 = ap flag fence in
    omega (arith, n, a, b, c, d)

pub options_small : (o : table.FenceOptions) → AreFine o → AreSmall (table.option_words o)
options_small o fine =
    small_of (table.glob_words o.glob) (flat_map table.test_words o.tests) (if o.nodwell then codes "NODWELL" ∷ [] else [])
    (table.list_words (codes "DETECT") table.detect_names o.detect) (table.list_words (codes "COMMANDS") table.command_names o.commands)
    fine.glob (tests_small o.tests fine.tests) (nodwell_small o.nodwell)
    (names_small (codes "DETECT") table.detect_names o.detect (small (codes "DETECT") refl) refl)
    (names_small (codes "COMMANDS") table.command_names o.commands (small (codes "COMMANDS") refl) refl)
