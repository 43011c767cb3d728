-- The options of a setting are read again from its normal words, one behind another.
use Rattle.std.proofs.Common.{◌≡◌, ◌≤◌, ◌<◌, ◌+◌, ℕ, suc, Bool, true, false, not, ◌&&◌, List, [], ◌∷◌, ◌++◌, length, refl, sym, ap, subst, arith, append-nil, append_assoc, length-append}
use Rattle.std.specs.Prelude.{Option, Some, None, codes, filter, flat_map, is_none, IfSome, if◌then◌else◌, nat_lt}
use Rattle.std.specs.List.{list_all, AllByRecursion}
use Rattle.byte_text.specs.Names.{Bytes}
use Rattle.world_data.specs.Limits.{max_tests}
use Rattle.world_data.specs.declared.filters.Test.{Test}
use Rattle.world_data.specs.declared.filters.Test.TheVariants.{Range, Same, Among}
use Rattle.byte_text.specs.Names.{is_name}
use Rattle.byte_text.specs.Globs.{is_well_formed}
use Rattle.world_model.specs.Kinds.{when, glob, list_of}
use Rattle.world_model.specs.Grammar.{Form, a_word, word, done, where_, one_of, ◌>>=◌, ◌>>◌}
use Rattle.world_model.specs.Commands.{FenceOptions, fence_option, test, detect_names, command_names, wants, test_words, glob_words}
use Rattle.log_record.proofs.ReadBack.{Reads, literal, reads_done, reads_word, reads_bind, reads_then, reads_here, reads_where, skip, over, Goes, stays, goes_then, goes_one}
use Rattle.log_record.proofs.NormalForms.{IsPattern, IsNormalTest, reads_test, list_reader}

-- what the options have said so far
abbrev pub so_far : Option Bytes → List Test → Bool → Option (List Bytes) → Option (List Bytes) → Bool → FenceOptions
so_far g tests f d c n = record { glob = g; tests = tests; fence = f; detect = d; commands = c; nodwell = n }

-- the names that are printed of a list of them: those that are wanted, where not all are
abbrev pub normal : List Bytes → Option (List Bytes) → Option (List Bytes)
normal names found = if list_all (wants found) names then None else Some (filter (wants found) names)

-- the options, each by itself, and those behind one

abbrev match_form : FenceOptions → Form FenceOptions
match_form s = word (codes "MATCH") >> glob >>= (λ pattern. done (record s { glob = Some pattern }))

abbrev test_form : FenceOptions → Form FenceOptions
test_form s = test >>= (λ t. done (record s { tests = s.tests ++ t ∷ [] }))

abbrev fence_form : FenceOptions → Form FenceOptions
fence_form s = word (codes "FENCE") >> done (record s { fence = true })

abbrev detect_form : FenceOptions → Form FenceOptions
detect_form s = word (codes "DETECT") >> list_of detect_names >>= (λ l. done (record s { detect = Some l }))

abbrev commands_form : FenceOptions → Form FenceOptions
commands_form s = word (codes "COMMANDS") >> list_of command_names >>= (λ l. done (record s { commands = Some l }))

abbrev nodwell_form : FenceOptions → Form FenceOptions
nodwell_form s = word (codes "NODWELL") >> done (record s { nodwell = true })

abbrev behind_commands : Bool → FenceOptions → List (Form FenceOptions)
behind_commands near s = where_ (near && not s.nodwell && is_none s.detect) (nodwell_form s) ∷ []

abbrev behind_detect : Bool → FenceOptions → List (Form FenceOptions)
behind_detect near s = where_ (is_none s.commands) (commands_form s) ∷ behind_commands near s

abbrev behind_fence : Bool → FenceOptions → List (Form FenceOptions)
behind_fence near s = where_ (is_none s.detect && not s.nodwell) (detect_form s) ∷ behind_detect near s

abbrev behind_tests : Bool → FenceOptions → List (Form FenceOptions)
behind_tests near s = where_ (not s.fence) (fence_form s) ∷ behind_fence near s

abbrev behind_match : Bool → FenceOptions → List (Form FenceOptions)
behind_match near s = where_ (nat_lt (length s.tests) max_tests) (test_form s) ∷ behind_tests near s

module _ (near : Bool) (s : FenceOptions) (words : List Bytes) where
  no_nodwell : nodwell_form s words ≡ [] → one_of (behind_commands near s) words ≡ []
  no_nodwell e = over (near && not s.nodwell && is_none s.detect) (nodwell_form s) [] words e refl

  no_commands : commands_form s words ≡ [] → nodwell_form s words ≡ [] → one_of (behind_detect near s) words ≡ []
  no_commands c e = over (is_none s.commands) (commands_form s) (behind_commands near s) words c (no_nodwell e)

  no_detect : detect_form s words ≡ [] → commands_form s words ≡ [] → nodwell_form s words ≡ [] → one_of (behind_fence near s) words ≡ []
  no_detect d c e = over (is_none s.detect && not s.nodwell) (detect_form s) (behind_detect near s) words d (no_commands c e)

  no_fence : fence_form s words ≡ [] → detect_form s words ≡ [] → commands_form s words ≡ [] → nodwell_form s words ≡ [] → one_of (behind_tests near s) words ≡ []
  no_fence f d c e = over (not s.fence) (fence_form s) (behind_fence near s) words f (no_detect d c e)

  no_test : test_form s words ≡ [] → fence_form s words ≡ [] → detect_form s words ≡ [] → commands_form s words ≡ [] → nodwell_form s words ≡ [] → one_of (behind_match near s) words ≡ []
  no_test t f d c e = over (nat_lt (length s.tests) max_tests) (test_form s) (behind_tests near s) words t (no_fence f d c e)

  pub no_option : match_form s words ≡ [] → test_form s words ≡ [] → fence_form s words ≡ [] → detect_form s words ≡ [] → commands_form s words ≡ [] → nodwell_form s words ≡ [] → fence_option near s words ≡ []
  no_option m t f d c e = over (is_none s.glob) (match_form s) (behind_match near s) words m (no_test t f d c e)

  module _ (t : FenceOptions) (rest : List Bytes) where
    at_match : Reads (where_ (is_none s.glob) (match_form s)) words t rest → one_of (behind_match near s) words ≡ [] → Reads (fence_option near s) words t rest
    at_match is none = reads_here (where_ (is_none s.glob) (match_form s)) (behind_match near s) is none

    past_match : match_form s words ≡ [] → Reads (one_of (behind_match near s)) words t rest → Reads (fence_option near s) words t rest
    past_match m is = skip (is_none s.glob) (match_form s) (behind_match near s) m is

    past_test : test_form s words ≡ [] → Reads (one_of (behind_tests near s)) words t rest → Reads (one_of (behind_match near s)) words t rest
    past_test m is = skip (nat_lt (length s.tests) max_tests) (test_form s) (behind_tests near s) m is

    past_fence : fence_form s words ≡ [] → Reads (one_of (behind_fence near s)) words t rest → Reads (one_of (behind_tests near s)) words t rest
    past_fence m is = skip (not s.fence) (fence_form s) (behind_fence near s) m is

    past_detect : detect_form s words ≡ [] → Reads (one_of (behind_detect near s)) words t rest → Reads (one_of (behind_fence near s)) words t rest
    past_detect m is = skip (is_none s.detect && not s.nodwell) (detect_form s) (behind_detect near s) m is

    past_commands : commands_form s words ≡ [] → Reads (one_of (behind_commands near s)) words t rest → Reads (one_of (behind_detect near s)) words t rest
    past_commands m is = skip (is_none s.commands) (commands_form s) (behind_commands near s) m is

reads_match : (near : Bool) (tests : List Test) (f : Bool) (d c : Option (List Bytes)) (n : Bool) (p : Bytes) (rest : List Bytes) → IsPattern p
    → Reads (fence_option near (so_far None tests f d c n)) (codes "MATCH" ∷ p ∷ rest) (so_far (Some p) tests f d c n) rest
reads_match near tests f d c n p rest is =
    let s = so_far None tests f d c n in
    at_match near s (codes "MATCH" ∷ p ∷ rest) (so_far (Some p) tests f d c n) rest
    (reads_where true (match_form s) refl (reads_bind (word (codes "MATCH") >> glob) (λ pattern. done (record s { glob = Some pattern }))
    (reads_then (word (codes "MATCH")) glob (literal (codes "MATCH") (p ∷ rest) refl) (reads_word a_word (λ v. when (is_name v && is_well_formed v) v) is)) reads_done))
    (no_test near s (codes "MATCH" ∷ p ∷ rest) refl refl refl refl refl)

one_test : (near : Bool) (s : FenceOptions) (t : Test) (rest : List Bytes) → IsNormalTest t → nat_lt (length s.tests) max_tests ≡ true
    → match_form s (test_words t ++ rest) ≡ [] → one_of (behind_tests near s) (test_words t ++ rest) ≡ []
    → Reads (fence_option near s) (test_words t ++ rest) (record s { tests = s.tests ++ t ∷ [] }) rest
one_test near s t rest is few match others =
    past_match near s (test_words t ++ rest) (record s { tests = s.tests ++ t ∷ [] }) rest match
    (reads_here (where_ (nat_lt (length s.tests) max_tests) (test_form s)) (behind_tests near s)
    (reads_where (nat_lt (length s.tests) max_tests) (test_form s) few (reads_bind test (λ u. done (record s { tests = s.tests ++ u ∷ [] })) (reads_test t rest is) reads_done))
    others)

module _ (near : Bool) (g : Option Bytes) (tests : List Test) (f : Bool) (d c : Option (List Bytes)) (n : Bool) where
  abbrev now : FenceOptions
  now = so_far g tests f d c n

  reads_one_test : (t : Test) (rest : List Bytes) → IsNormalTest t → nat_lt (length tests) max_tests ≡ true → Reads (fence_option near now) (test_words t ++ rest) (so_far g (tests ++ t ∷ []) f d c n) rest
  reads_one_test (Range name low high) rest is few = one_test near now (Range name low high) rest is few refl (no_fence near now (test_words (Range name low high) ++ rest) refl refl refl refl)
  reads_one_test (Same name text) rest is few = one_test near now (Same name text) rest is few refl (no_fence near now (test_words (Same name text) ++ rest) refl refl refl refl)
  reads_one_test (Among name values) rest is few = one_test near now (Among name values) rest is few refl (no_fence near now (test_words (Among name values) ++ rest) refl refl refl refl)

reads_fence : (near : Bool) (g : Option Bytes) (tests : List Test) (d c : Option (List Bytes)) (n : Bool) (rest : List Bytes)
    → Reads (fence_option near (so_far g tests false d c n)) (codes "FENCE" ∷ rest) (so_far g tests true d c n) rest
reads_fence near g tests d c n rest =
    let s = so_far g tests false d c n in
    let to = so_far g tests true d c n in
    let words = codes "FENCE" ∷ rest in
    past_match near s words to rest refl (past_test near s words to rest refl
    (reads_here (where_ true (fence_form s)) (behind_fence near s) (reads_where true (fence_form s) refl (reads_then (word (codes "FENCE")) (done to) (literal (codes "FENCE") rest refl) reads_done)) (no_detect near s words refl refl refl)))

reads_nodwell : (g : Option Bytes) (tests : List Test) (f : Bool) (c : Option (List Bytes)) (rest : List Bytes)
    → Reads (fence_option true (so_far g tests f None c false)) (codes "NODWELL" ∷ rest) (so_far g tests f None c true) rest
reads_nodwell g tests f c rest =
    let s = so_far g tests f None c false in
    let to = so_far g tests f None c true in
    let words = codes "NODWELL" ∷ rest in
    past_match true s words to rest refl (past_test true s words to rest refl (past_fence true s words to rest refl (past_detect true s words to rest refl (past_commands true s words to rest refl
    (reads_here (where_ true (nodwell_form s)) [] (reads_where true (nodwell_form s) refl (reads_then (word (codes "NODWELL")) (done to) (literal (codes "NODWELL") rest refl) reads_done)) refl)))))

reads_detect : (near : Bool) (g : Option Bytes) (tests : List Test) (f : Bool) (c : Option (List Bytes)) (n : Bool) (w : Bytes) (found rest : List Bytes) → n ≡ false → list_reader detect_names w ≡ Some found
    → Reads (fence_option near (so_far g tests f None c n)) (codes "DETECT" ∷ w ∷ rest) (so_far g tests f (Some found) c n) rest
reads_detect near g tests f c n w found rest none is =
    let s = so_far g tests f None c n in
    let to = so_far g tests f (Some found) c n in
    let words = codes "DETECT" ∷ w ∷ rest in
    past_match near s words to rest refl (past_test near s words to rest refl (past_fence near s words to rest refl
    (reads_here (where_ (not n) (detect_form s)) (behind_detect near s) (reads_where (not n) (detect_form s) (ap not none)
    (reads_bind (word (codes "DETECT") >> list_of detect_names) (λ l. done (record s { detect = Some l })) (reads_then (word (codes "DETECT")) (list_of detect_names) (literal (codes "DETECT") (w ∷ rest) refl) (reads_word a_word (list_reader detect_names) is)) reads_done))
    (no_commands near s words refl refl))))

reads_commands : (near : Bool) (g : Option Bytes) (tests : List Test) (f : Bool) (d : Option (List Bytes)) (n : Bool) (w : Bytes) (found rest : List Bytes) → list_reader command_names w ≡ Some found
    → Reads (fence_option near (so_far g tests f d None n)) (codes "COMMANDS" ∷ w ∷ rest) (so_far g tests f d (Some found) n) rest
reads_commands near g tests f d n w found rest is =
    let s = so_far g tests f d None n in
    let to = so_far g tests f d (Some found) n in
    let words = codes "COMMANDS" ∷ w ∷ rest in
    past_match near s words to rest refl (past_test near s words to rest refl (past_fence near s words to rest refl (past_detect near s words to rest refl
    (reads_here (where_ true (commands_form s)) (behind_commands near s) (reads_where true (commands_form s) refl
    (reads_bind (word (codes "COMMANDS") >> list_of command_names) (λ l. done (record s { commands = Some l })) (reads_then (word (codes "COMMANDS")) (list_of command_names) (literal (codes "COMMANDS") (w ∷ rest) refl) (reads_word a_word (list_reader command_names) is)) reads_done))
    (no_nodwell near s words refl)))))

few_of : (n m : ℕ) → n + suc m ≤ max_tests → nat_lt n max_tests ≡ true
few_of n m few = grind arith

-- what goes on behind the options reads nothing where an option stands
pub record Waits {B : Type 0} (g : FenceOptions → Form B) : Type 0 where
  pub closed : (s : FenceOptions) (words : List Bytes) → s.fence ≡ false → g s words ≡ []
  pub before_nodwell : (s : FenceOptions) (words : List Bytes) → g s (codes "NODWELL" ∷ words) ≡ []
  pub before_detect : (s : FenceOptions) (words : List Bytes) → g s (codes "DETECT" ∷ words) ≡ []
  pub before_commands : (s : FenceOptions) (words : List Bytes) → g s (codes "COMMANDS" ∷ words) ≡ []

module _ {B : Type 0} (near : Bool) (g : FenceOptions → Form B) (waits : Waits g) where
  abbrev Leads : FenceOptions → List Bytes → FenceOptions → List Bytes → Type 0
  Leads s words t rest = Goes (fence_option near) g s words t rest

  pub leads_glob : (o : Option Bytes) (rest : List Bytes) → IfSome o IsPattern → Leads (so_far None [] false None None false) (glob_words o ++ rest) (so_far o [] false None None false) rest
  leads_glob None rest is = stays (fence_option near) g (so_far None [] false None None false) rest
  leads_glob (Some p) rest is = goes_one (fence_option near) g (reads_match near [] false None None false p rest is) (waits.closed _ (codes "MATCH" ∷ p ∷ rest) refl) (omega arith)

  shorter_test : (t : Test) (rest : List Bytes) → length rest < length (test_words t ++ rest)
  shorter_test (Range n low high) rest = omega arith
  shorter_test (Same n t) rest = omega arith
  shorter_test (Among n values) rest = omega (arith, length-append (test_words (Among n values)) rest)

  pub leads_tests : (o : Option Bytes) (tests more : List Test) (rest : List Bytes) → AllByRecursion IsNormalTest more → length tests + length more ≤ max_tests
      → Leads (so_far o tests false None None false) (flat_map test_words more ++ rest) (so_far o (tests ++ more) false None None false) rest
  leads_tests o tests [] rest are few = subst (λ l. Leads (so_far o tests false None None false) rest (so_far o l false None None false) rest) (sym (append-nil tests)) (stays (fence_option near) g (so_far o tests false None None false) rest)
  leads_tests o tests (t ∷ more) rest are few =
      let words = flat_map test_words more ++ rest in
      let one : Leads (so_far o tests false None None false) (test_words t ++ words) (so_far o (tests ++ t ∷ []) false None None false) words =
      goes_one (fence_option near) g (reads_one_test near o tests false None None false t words are.0 (few_of (length tests) (length more) few)) (waits.closed _ (test_words t ++ words) refl) (shorter_test t words) in
      let others = leads_tests o (tests ++ t ∷ []) more rest are.1 (omega (arith, few, length-append tests (t ∷ []))) in
      subst (λ l. Leads (so_far o tests false None None false) l (so_far o (tests ++ t ∷ more) false None None false) rest) (sym (append_assoc (test_words t) (flat_map test_words more) rest))
      (subst (λ l. Leads (so_far o tests false None None false) (test_words t ++ words) (so_far o l false None None false) rest) (append_assoc tests (t ∷ []) more) (goes_then (fence_option near) g one others))

  pub leads_fence : (o : Option Bytes) (tests : List Test) (rest : List Bytes) → Leads (so_far o tests false None None false) (codes "FENCE" ∷ rest) (so_far o tests true None None false) rest
  leads_fence o tests rest = goes_one (fence_option near) g (reads_fence near o tests None None false rest) (waits.closed _ (codes "FENCE" ∷ rest) refl) (omega arith)

  pub leads_detect : (o : Option Bytes) (tests : List Test) (n all : Bool) (w : Bytes) (found rest : List Bytes) → n ≡ false → list_reader detect_names w ≡ Some found
      → Leads (so_far o tests true None None n) ((if all then [] else codes "DETECT" ∷ w ∷ []) ++ rest) (so_far o tests true (if all then None else Some found) None n) rest
  leads_detect o tests n true w found rest none is = stays (fence_option near) g (so_far o tests true None None n) rest
  leads_detect o tests n false w found rest none is = goes_one (fence_option near) g (reads_detect near o tests true None n w found rest none is) (waits.before_detect _ (w ∷ rest)) (omega arith)

  pub leads_commands : (o : Option Bytes) (tests : List Test) (d : Option (List Bytes)) (n all : Bool) (w : Bytes) (found rest : List Bytes) → list_reader command_names w ≡ Some found
      → Leads (so_far o tests true d None n) ((if all then [] else codes "COMMANDS" ∷ w ∷ []) ++ rest) (so_far o tests true d (if all then None else Some found) n) rest
  leads_commands o tests d n true w found rest is = stays (fence_option near) g (so_far o tests true d None n) rest
  leads_commands o tests d n false w found rest is = goes_one (fence_option near) g (reads_commands near o tests true d n w found rest is) (waits.before_commands _ (w ∷ rest)) (omega arith)

module _ {B : Type 0} (g : FenceOptions → Form B) (waits : Waits g) where
  pub leads_nodwell : (near : Bool) (o : Option Bytes) (tests : List Test) (n : Bool) (rest : List Bytes) → (n ≡ true → near ≡ true)
      → Goes (fence_option near) g (so_far o tests true None None false) ((if n then codes "NODWELL" ∷ [] else []) ++ rest) (so_far o tests true None None n) rest
  leads_nodwell near o tests false rest only = stays (fence_option near) g (so_far o tests true None None false) rest
  leads_nodwell true o tests true rest only = goes_one (fence_option true) g (reads_nodwell o tests true None rest) (waits.before_nodwell _ rest) (omega arith)
  leads_nodwell false o tests true rest only = absurd (cc (only refl))
