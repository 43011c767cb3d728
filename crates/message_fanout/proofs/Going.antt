-- Messages staged one after another: of the pairs of a roaming channel, and of some channels.
use Rattle.std.proofs.Common.{◌≡◌, ◌≤◌, ◌<◌, ℕ, ◌+◌, ◌||◌, Bool, true, false, refl, sym, ◌∙◌, ap, subst, List, [], ◌∷◌, ◌++◌, length, take, map, flat_map, arith}
use Rattle.std.specs.Prelude.{Option, Some, None, IfSome, find, option_map, slice_get}
use Rattle.std.specs.List.{list_all}
use Rattle.std.proofs.lemmas.List.{take_all, append-nil, map-append, length-map}
use Rattle.std.proofs.lemmas.Grind.{flat_map-append}
use Rattle.std.proofs.lemmas.Option.{slice_get_within, get_or_from_slice_get, slice_get-map, slice_get-get_or}
use Rattle.ordered_lists.specs.Reading.{all_get}
use Rattle.byte_text.specs.Names.{Bytes}
use Rattle.byte_text.specs.ListLaws.{take_next}
use Rattle.fence_model.specs.Messages.{Message, roam_payload}
use Rattle.collection.specs.Objects.{has_id}
use Rattle.roam_fence.specs.Pairs.{is_near_now, shown}
use Rattle.world_data.specs.declared.objects.Object.{Object}
use Rattle.world_data.specs.declared.channels.Detect.{Detect}
use Rattle.world_data.specs.declared.channels.Channel.{Channel}
use Rattle.session_table.specs.Sessions.{State}
use Rattle.session_table.specs.Fans.{AreBrought}
use Rattle.session_table.specs.FanLaws.{brought_both}
use Rattle.message_fanout.specs.Raises.{ArePairs, sent, detect_of}
use Rattle.message_fanout.proofs.Payloads.{pair_in}

-- neither of two
pub neither : (p q : Bool) → (p || q) ≡ false → (p ≡ false) × (q ≡ false)
neither true q e = absurd (let clash : true ≡ false = e in cc)
neither false q e = (refl, e)

-- channels one by one
pub channel_more : (on : Channel → List Message) (a b d : List State) (channels : List Channel) (i : ℕ) (c : Channel) → slice_get channels i ≡ Some c
    → AreBrought (flat_map on (take i channels)) a b → AreBrought (on c) b d → AreBrought (flat_map on (take (i + 1) channels)) a d
channel_more on a b d channels i c at done next =
    let before = take i channels in
    let whole : flat_map on (take (i + 1) channels) ≡ flat_map on before ++ on c =
    ap (flat_map on) (take_next channels i c at) ∙ flat_map-append on before (c ∷ []) ∙ ap (λ (ms : List Message). flat_map on before ++ ms) (append-nil (on c)) in
    subst (λ (ms : List Message). AreBrought ms a d) (sym whole) (brought_both (flat_map on before) (on c) a b d done next)

-- behind the last of them all are
pub all_channels : (on : Channel → List Message) (a b : List State) (channels : List Channel) (i : ℕ) → length channels ≤ i → AreBrought (flat_map on (take i channels)) a b → AreBrought (flat_map on channels) a b
all_channels on a b channels i long done = subst (λ (cs : List Channel). AreBrought (flat_map on cs) a b) (take_all i channels long) done

-- what all items pass, the one at a place does
pub passes_at : {A : Type 0} (test : A → Bool) (xs : List A) (i : ℕ) (x : A) → list_all test xs ≡ true → slice_get xs i ≡ Some x → test x ≡ true
passes_at test xs i x all at = subst (λ y. test y ≡ true) (get_or_from_slice_get xs i x x at) (all_get test xs i x (slice_get_within xs i x at) all)

-- pairs one by one
module _ (c : Channel) (new : Object) (a b : List State) where
  abbrev raised : List (Object × Detect) → List Message
  raised list = sent c (map (roam_payload c.name new) list)

  pair_more : (d : List State) (list : List (Object × Detect)) (i : ℕ) (x : Object × Detect) → slice_get list i ≡ Some x → AreBrought (raised (take i list)) a b → AreBrought (raised (x ∷ [])) b d → AreBrought (raised (take (i + 1) list)) a d
  pair_more d list i x at done next =
      let before = take i list in
      let whole : raised (take (i + 1) list) ≡ raised before ++ raised (x ∷ []) =
      ap raised (take_next list i x at) ∙ ap (sent c) (map-append (roam_payload c.name new) before (x ∷ [])) ∙ map-append (λ p. (c.name, p)) (map (roam_payload c.name new) before) (map (roam_payload c.name new) (x ∷ [])) in
      subst (λ (ms : List Message). AreBrought ms a d) (sym whole) (brought_both (raised before) (raised (x ∷ [])) a b d done next)

  -- the pair at a place is raised where its other object is found by the id that is shown
  pub pair_step : (d : List State) (objects : List Object) (pairs : List (Bytes × Bool)) (i : ℕ) (id : Bytes) (near : Bool) → i < length pairs
      → IfSome (slice_get pairs i) (λ p. id ≡ p.0) → IfSome (slice_get pairs i) (λ p. near ≡ p.1)
      → ((o : Object) → find (has_id id) objects ≡ Some o → AreBrought (raised ((o, detect_of near) ∷ [])) b d)
      → ((list : List (Object × Detect)) → ArePairs objects list → pairs ≡ map shown list → AreBrought (raised (take i list)) a b)
      → (list : List (Object × Detect)) → ArePairs objects list → pairs ≡ map shown list → AreBrought (raised (take (i + 1) list)) a d
  pair_step d objects pairs i id near within ids nears next done list all is = by (slice_get list i) refl
    where
      shows : slice_get pairs i ≡ option_map shown (slice_get list i)
      shows = ap (λ ps. slice_get ps i) is ∙ slice_get-map shown list i

      by : (x : Option (Object × Detect)) → slice_get list i ≡ x → AreBrought (raised (take (i + 1) list)) a d
      by None e =
          let some = slice_get-get_or pairs i ([], true) within in
          let none : slice_get pairs i ≡ None = shows ∙ ap (option_map shown) e in
          absurd (cc)
      by (Some x) e =
          let here : slice_get pairs i ≡ Some (shown x) = shows ∙ ap (option_map shown) e in
          let id_is : id ≡ x.0.id = subst (λ (s : Option (Bytes × Bool)). IfSome s (λ p. id ≡ p.0)) here ids in
          let near_is : near ≡ is_near_now x.1 = subst (λ (s : Option (Bytes × Bool)). IfSome s (λ p. near ≡ p.1)) here nears in
          let pair = pair_in objects list i x all e in
          let is_other : find (has_id id) objects ≡ Some x.0 = ap (λ (n : Bytes). find (has_id n) objects) id_is ∙ pair.0 in
          let detect_is : detect_of near ≡ x.1 = ap detect_of near_is ∙ pair.1 in
          pair_more d list i x e (done list all is) (subst (λ (t : Detect). AreBrought (raised ((x.0, t) ∷ [])) b d) detect_is (next x.0 is_other))

  -- behind the last of them all are
  pub all_pairs : (objects : List Object) (pairs : List (Bytes × Bool)) (i : ℕ) → length pairs ≤ i → ((list : List (Object × Detect)) → ArePairs objects list → pairs ≡ map shown list → AreBrought (raised (take i list)) a b)
      → (list : List (Object × Detect)) → ArePairs objects list → pairs ≡ map shown list → AreBrought (raised list) a b
  all_pairs objects pairs i long done list all is =
      let as_long : length pairs ≡ length list = ap length is ∙ length-map list shown in
      subst (λ (l : List (Object × Detect)). AreBrought (raised l) a b) (take_all i list (omega (arith, long, as_long))) (done list all is)
