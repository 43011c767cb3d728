-- The texts of lists, name by name.
use Rattle.std.proofs.Common.{◌≡◌, ◌∙◌, ◌<◌, Bool, true, false, List, [], ◌∷◌, ◌++◌, length, map, refl, sym, ap, arith, append_assoc, length-append}
use Rattle.std.specs.Prelude.{Option, codes, filter, if◌then◌else◌}
use Rattle.std.specs.List.{AllByRecursion, list_all}
use Rattle.byte_text.specs.Names.{Bytes}
use Rattle.geo_text.specs.Texts.{with_commas}
use Rattle.world_model.specs.Commands.{FenceOptions, wants, wanted_of, list_words, detect_names, command_names}
use Rattle.cmd_words.specs.ListTexts.{behind, listed, detect_list, commands_list}

abbrev HasByte : Bytes → Type 0
HasByte n = 0 < length n

-- the names that are wanted, and the text of them name by name
abbrev kept : List (Bool × Bytes) → List Bytes
kept [] = []
kept ((true, n) ∷ ps) = n ∷ kept ps
kept ((false, n) ∷ ps) = kept ps

abbrev chain : Bytes → List (Bool × Bytes) → Bytes
chain text [] = text
chain text (p ∷ ps) = chain (listed text p.0 p.1) ps

abbrev joined : Bytes → List Bytes → Bytes
joined text [] = text
joined text (n ∷ names) = joined (behind text n) names

chain_kept : (text : Bytes) (ps : List (Bool × Bytes)) → chain text ps ≡ joined text (kept ps)
chain_kept text [] = refl
chain_kept text ((true, n) ∷ ps) = chain_kept (behind text n) ps
chain_kept text ((false, n) ∷ ps) = chain_kept text ps

behind_some : (text n : Bytes) → HasByte text → behind text n ≡ text ++ 44 ∷ n
behind_some [] n h = absurd (omega (arith, h))
behind_some (b ∷ text) n h = refl

joined_front : (front text : Bytes) (names : List Bytes) → HasByte text → joined (front ++ text) names ≡ front ++ joined text names
joined_front front text [] h = refl
joined_front front text (n ∷ names) h =
    let size = length-append front text in
    let long : HasByte (front ++ text) = omega (arith, size, h) in
    let more = length-append text (44 ∷ n) in
    let longer : HasByte (text ++ 44 ∷ n) = omega (arith, more, h) in
    ap (λ (t : Bytes). joined t names) (behind_some (front ++ text) n long ∙ append_assoc front text (44 ∷ n))
    ∙ joined_front front (text ++ 44 ∷ n) names longer ∙ ap (λ (t : Bytes). front ++ joined t names) (sym (behind_some text n h))

commas_joined : (n : Bytes) (names : List Bytes) → HasByte n → AllByRecursion HasByte names → with_commas (n ∷ names) ≡ joined n names
commas_joined n [] h all = refl
commas_joined n (m ∷ names) h all =
    ap (λ (t : Bytes). n ++ 44 ∷ t) (commas_joined m names all.0 all.1) ∙ sym (append_assoc n (44 ∷ []) (joined m names))
    ∙ sym (joined_front (n ++ 44 ∷ []) m names all.0) ∙ ap (λ (t : Bytes). joined t names) (append_assoc n (44 ∷ []) m ∙ sym (behind_some n m h))

all_joined : (names : List Bytes) → AllByRecursion HasByte names → with_commas names ≡ joined [] names
all_joined [] all = refl
all_joined (n ∷ names) all = commas_joined n names all.0 all.1

module _ (p : Bytes → Bool) where
  abbrev marked : List Bytes → List (Bool × Bytes)
  marked names = map (λ n. (p n, n)) names

  kept_one : (b : Bool) (n : Bytes) (ps : List (Bool × Bytes)) → (if b then n ∷ kept ps else kept ps) ≡ kept ((b, n) ∷ ps)
  kept_one true n ps = refl
  kept_one false n ps = refl

  filter_kept : (names : List Bytes) → filter p names ≡ kept (marked names)
  filter_kept [] = refl
  filter_kept (n ∷ names) = rw (filter_kept names) (kept_one (p n) n (marked names))

  some_kept : (names : List Bytes) → AllByRecursion HasByte names → AllByRecursion HasByte (filter p names)
  some_kept [] all = tt
  some_kept (n ∷ names) all = by (p n) (some_kept names all.1)
    where
      by : (b : Bool) → AllByRecursion HasByte (filter p names) → AllByRecursion HasByte (if b then n ∷ filter p names else filter p names)
      by true more = (all.0, more)
      by false more = more

  pub list_text : (names : List Bytes) → AllByRecursion HasByte names → with_commas (filter p names) ≡ chain [] (marked names)
  list_text names all = all_joined (filter p names) (some_kept names all) ∙ ap (λ l. joined [] l) (filter_kept names) ∙ sym (chain_kept [] (marked names))

-- the words of a list

none_listed : (called : Bytes) (names : List Bytes) (found : Option (List Bytes)) → list_all (wants found) names ≡ true → list_words called names found ≡ []
none_listed called names found e = rw e refl

some_listed : (called : Bytes) (names : List Bytes) (found : Option (List Bytes)) → list_all (wants found) names ≡ false → list_words called names found ≡ called ∷ with_commas (filter (wants found) names) ∷ []
some_listed called names found e = rw e refl

module _ (o : FenceOptions) where
  detect_bytes : AllByRecursion HasByte detect_names
  detect_bytes = (omega arith, (omega arith, (omega arith, (omega arith, (omega arith, tt)))))

  command_bytes : AllByRecursion HasByte command_names
  command_bytes = (omega arith, (omega arith, (omega arith, tt)))

  pub all_detected : list_all (wants o.detect) detect_names ≡ true → list_words (codes "DETECT") detect_names o.detect ≡ []
  all_detected e = none_listed (codes "DETECT") detect_names o.detect e

  pub some_detected : list_all (wants o.detect) detect_names ≡ false → list_words (codes "DETECT") detect_names o.detect ≡ codes "DETECT" ∷ detect_list (wanted_of o) ∷ []
  some_detected e = some_listed (codes "DETECT") detect_names o.detect e ∙ ap (λ (t : Bytes). codes "DETECT" ∷ t ∷ []) (list_text (wants o.detect) detect_names detect_bytes)

  pub all_commanded : list_all (wants o.commands) command_names ≡ true → list_words (codes "COMMANDS") command_names o.commands ≡ []
  all_commanded e = none_listed (codes "COMMANDS") command_names o.commands e

  pub some_commanded : list_all (wants o.commands) command_names ≡ false → list_words (codes "COMMANDS") command_names o.commands ≡ codes "COMMANDS" ∷ commands_list (wanted_of o) ∷ []
  some_commanded e = some_listed (codes "COMMANDS") command_names o.commands e ∙ ap (λ (t : Bytes). codes "COMMANDS" ∷ t ∷ []) (list_text (wants o.commands) command_names command_bytes)
