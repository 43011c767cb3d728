-- The places of puts go with the world.
use Rattle.std.proofs.Common.{◌≡◌, ◌∙◌, ◌<◌, ◌≤◌, ℕ, zero, suc, ◌+◌, ◌-◌, ◌*◌, ◌^◌, min, ◌==◌, ◌&&◌, ◌||◌, Bool, true, false, not, List, [], ◌∷◌, ◌++◌, take, length, filter, Option, Some, None, refl, sym, ap, subst, cond, arith}
use Rattle.std.specs.Prelude.{slice_get, if◌then◌else◌, find, Result, Ok, Err, IfOk, OnOk}
use Rattle.std.specs.Cmp.Lexicographic.{pointwise}
use Rattle.std.specs.List.{AllZip, range_with_len}
use Rattle.std.specs.Map.{lookup}
use Rattle.byte_text.specs.Names.{Bytes, same, before}
use Rattle.byte_text.specs.ByteOrder.{before_self, before_tie, same_equal, same_refl}
use Rattle.ordered_lists.specs.Lists.{put_in}
use Rattle.world_data.specs.Worlds.{after, empty_world, has_key, is_at, object_at, object_before}
use Rattle.world_data.specs.declared.channels.Channel.{Channel}
use Rattle.world_data.specs.declared.objects.Object.{Object}
use Rattle.world_data.specs.declared.worlds.Change.{Change}
use Rattle.world_data.specs.declared.worlds.Change.TheVariants.{Put, Del, Drop, Flush, SetChan, DelChan}
use Rattle.world_data.specs.declared.worlds.World.{World}
use Rattle.log_record.specs.EventWriteLaws.{folded-append}
use Rattle.log_record.specs.Folding.{folded}
use Rattle.fence_backtest.specs.Cuts.{IsCut, front, part}
use Rattle.fence_backtest.specs.Outcomes.{object_of, object_put}
use Rattle.fence_backtest.specs.Reports.{stood}
use Rattle.fence_backtest.specs.Standing.{AreStood, AreStretches, IsPlaced, IsStretch, IsStretchAt, Known, StoodSo, WentSo, behind, by_before, nowhere, old_of, places_behind, stood_here}
use Rattle.fence_backtest.specs.declared.standing.Stood.{Stood}
use Rattle.fence_backtest.specs.declared.standing.Stood.TheVariants.{Here}
use Rattle.fence_backtest.proofs.Cutting.{front_more, front_none, got, part_min, zip_at, zip_count}
use Rattle.fence_backtest.proofs.LineLaws.{take_more}

-- what is found in a list

module _ {A : Type 0} (lt : A → A → Bool) (test : A → Bool) (o : A) (behind : (y : A) → test o ≡ true → lt y o ≡ true → test y ≡ true → ⊥) (ties : (y : A) → lt o y
    ≡ false → lt y o ≡ false → test y ≡ test o) where
  put_step : (y : A) (ys : List A) (first second own there : Bool) → lt o y ≡ first → lt y o ≡ second → test o ≡ own → test y ≡ there
      → find test (put_in lt o ys) ≡ cond own (Some o) (find test ys)
      → find test (if first then o ∷ y ∷ ys else if second then y ∷ put_in lt o ys else o ∷ ys) ≡ cond own (Some o) (cond there (Some y) (find test ys))
  put_step y ys true second own there f s e t ih = rw (e, t) refl
  put_step y ys false true own false f s e t ih = rw t ih
  put_step y ys false true false true f s e t ih = rw t refl
  put_step y ys false true true true f s e t ih = absurd (behind y e s t)
  put_step y ys false false true there f s e t ih = rw e refl
  put_step y ys false false false false f s e t ih = rw e refl
  put_step y ys false false false true f s e t ih = absurd (let clash : true ≡ false = sym t ∙ ties y f s ∙ e in cc)

  pub found_put : (xs : List A) → find test (put_in lt o xs) ≡ cond (test o) (Some o) (find test xs)
  found_put [] = refl
  found_put (y ∷ ys) = put_step y ys (lt o y) (lt y o) (test o) (test y) refl refl refl refl (found_put ys)

module _ {A : Type 0} (test gone : A → Bool) where
  none_step : (y : A) (ys : List A) (g t : Bool) → gone y ≡ g → test y ≡ t → (t ≡ true → g ≡ true) → find test (filter (λ x. not (gone x)) ys) ≡ None
      → find test (if not g then y ∷ filter (λ x. not (gone x)) ys else filter (λ x. not (gone x)) ys) ≡ None
  none_step y ys true t e f all ih = ih
  none_step y ys false false e f all ih = rw f ih
  none_step y ys false true e f all ih = absurd (let clash : false ≡ true = all refl in cc)

  -- all that pass are gone
  pub found_gone : ((y : A) → test y ≡ true → gone y ≡ true) → (xs : List A) → find test (filter (λ x. not (gone x)) xs) ≡ None
  found_gone all [] = refl
  found_gone all (y ∷ ys) = none_step y ys (gone y) (test y) refl refl (all y) (found_gone all ys)

  kept_step : (y : A) (ys : List A) (g t : Bool) → gone y ≡ g → test y ≡ t → (t ≡ true → g ≡ false)
      → find test (filter (λ x. not (gone x)) ys) ≡ find test ys
      → find test (if not g then y ∷ filter (λ x. not (gone x)) ys else filter (λ x. not (gone x)) ys) ≡ cond t (Some y) (find test ys)
  kept_step y ys false t e f all ih = ap (λ (o : Option A). cond (test y) (Some y) o) ih ∙ ap (λ (b : Bool). cond b (Some y) (find test ys)) f
  kept_step y ys true false e f all ih = ih
  kept_step y ys true true e f all ih = absurd (let clash : true ≡ false = all refl in cc)

  -- none that passes is
  pub found_kept : ((y : A) → test y ≡ true → gone y ≡ false) → (xs : List A) → find test (filter (λ x. not (gone x)) xs) ≡ find test xs
  found_kept none [] = refl
  found_kept none (y ∷ ys) = kept_step y ys (gone y) (test y) refl refl (none y) (found_kept none ys)

-- objects by key and id

both : (a b : Bool) → (a && b) ≡ true → (a ≡ true) × (b ≡ true)
both true true e = (refl, refl)
both true false e = absurd (cc e)
both false b e = absurd (cc e)

none_of : (a b c : Bool) → (a || (b && c)) ≡ false → (a ≡ false) × (b ≡ true → c ≡ false)
none_of true b c e = absurd (cc e)
none_of false true c e = (refl, λ is. e)
none_of false false c e = (refl, λ is. absurd (cc is))

either_of : (a b c : Bool) → (a || (b && c)) ≡ true → a ≡ false → c ≡ true
either_of true b c e f = absurd (cc f)
either_of false true c e f = e
either_of false false c e f = absurd (cc e)

at_key : (key id : Bytes) (o : Object) → is_at key id o ≡ true → (o.key ≡ key) × (o.id ≡ id)
at_key key id o e = let parts = both (same o.key key) (same o.id id) e in (same_equal o.key key parts.0, same_equal o.id id parts.1)

not_behind : (key id : Bytes) (o y : Object) → is_at key id o ≡ true → object_before y o ≡ true → is_at key id y ≡ true → ⊥
not_behind key id o y e less f =
    let a = at_key key id o e in
    let b = at_key key id y f in
    let keys : y.key ≡ o.key = b.0 ∙ sym a.0 in
    let ids : y.id ≡ o.id = b.1 ∙ sym a.1 in
    let first : before y.key o.key ≡ false = ap (before y.key) (sym keys) ∙ before_self y.key in
    let second : before y.id o.id ≡ false = ap (before y.id) (sym ids) ∙ before_self y.id in
    let clash : true ≡ false = sym (either_of (before y.key o.key) (same y.key o.key) (before y.id o.id) less first) ∙ second in
    cc

tied : (key id : Bytes) (o y : Object) → object_before o y ≡ false → object_before y o ≡ false → is_at key id y ≡ is_at key id o
tied key id o y f s =
    let a = none_of (before o.key y.key) (same o.key y.key) (before o.id y.id) f in
    let b = none_of (before y.key o.key) (same y.key o.key) (before y.id o.id) s in
    let keys : o.key ≡ y.key = before_tie o.key y.key a.0 b.0 in
    let ids : o.id ≡ y.id = before_tie o.id y.id (a.1 (ap (same o.key) (sym keys) ∙ same_refl o.key)) (b.1 (ap (same y.key) keys ∙ same_refl y.key)) in
    ap (λ (k : Bytes). same k key && same y.id id) (sym keys) ∙ ap (λ (i : Bytes). same o.key key && same i id) (sym ids)

object_put_in : (key id : Bytes) (w : World) (o : Object) → object_at (after w (Put o)) key id ≡ cond (is_at key id o) (Some o) (object_at w key id)
object_put_in key id w o = found_put object_before (is_at key id) o (not_behind key id o) (tied key id o) w.objects

-- a test that fails, by its parts
not_at : (a b : Bool) → b ≡ false → (a && b) ≡ false
not_at true b e = e
not_at false b e = refl

abbrev eq : Bytes → Bytes → Bool
eq = pointwise ◌==◌

module _ (key : Bytes) (changes : List Change) (w : World) where
  other_key : (o : Object) → same o.key key ≡ false → (id : Bytes) → object_at (after w (Put o)) key id ≡ object_at w key id
  other_key o e id = object_put_in key id w o ∙ ap (λ (b : Bool). cond (b && same o.id id) (Some o) (object_at w key id)) e

  own_key : (o : Object) → same o.key key ≡ true → (id : Bytes) → object_at (after w (Put o)) key id ≡ cond (same o.id id) (Some o) (object_at w key id)
  own_key o e id = object_put_in key id w o ∙ ap (λ (b : Bool). cond (b && same o.id id) (Some o) (object_at w key id)) e

  by_id : (at : ℕ) (o : Object) (t : Bool) (found : Option ℕ) (there : Option Object) → slice_get changes at ≡ Some (Put o) → object_put changes found ≡ there
      → object_put changes (cond t (Some at) found) ≡ cond t (Some o) there
  by_id at o true found there here is = ap object_of here
  by_id at o false found there here is = is

  gone_id : (t : Bool) (found : Option ℕ) (there left : Option Object) → object_put changes found ≡ there → (t ≡ true → left ≡ None) → (t ≡ false → left ≡ there)
      → object_put changes (cond t None found) ≡ left
  gone_id true found there left is none kept = sym (none refl)
  gone_id false found there left is none kept = is ∙ sym (kept refl)

  own_del : (other id name : Bytes) → same other key ≡ true → same id name ≡ true → object_at (after w (Del other id)) key name ≡ None
  own_del other id name own e =
      found_gone (is_at key name) (is_at other id) (λ y at.
      let a = at_key key name y at in
      let one : same y.key other ≡ true = ap (λ (k : Bytes). same k other) a.0 ∙ ap (same key) (same_equal other key own) ∙ same_refl key in
      let two : same y.id id ≡ true = ap (λ (k : Bytes). same k id) a.1 ∙ ap (same name) (same_equal id name e) ∙ same_refl name in
      rw (one, two) refl) w.objects

  else_del : (other id name : Bytes) → ((y : Object) → is_at key name y ≡ true → is_at other id y ≡ false) → object_at (after w (Del other id)) key name ≡ object_at w key name
  else_del other id name apart = found_kept (is_at key name) (is_at other id) apart w.objects

  differs : (a b : Bytes) → same a b ≡ false → (b ≡ a → ⊥)
  differs a b e is = absurd (let clash : true ≡ false = sym (same_refl a) ∙ ap (same a) (sym is) ∙ e in cc)

  not_same : (a b : Bytes) (t : Bool) → same a b ≡ t → (a ≡ b → ⊥) → t ≡ false
  not_same a b true e apart = absurd (apart (same_equal a b e))
  not_same a b false e apart = refl

-- what is named is behind what was named, but at one id
named_more : (t emptied : Bool) (place before : Option ℕ) (there : Option (Option ℕ))
    → by_before before (stood_here (cond t (Some place) there) emptied) ≡ cond t place (by_before before (stood_here there emptied))
named_more true emptied place before there = refl
named_more false emptied place before there = refl

abbrev Named : Type 0
Named = List (Bytes × Option ℕ)

abbrev Renamed : Named → Named → Bytes → Option ℕ → Type 0
Renamed named next id place = (name : Bytes) → lookup (eq name) next ≡ cond (eq id name) (Some place) (lookup (eq name) named)

module _ (key : Bytes) (changes : List Change) (w : World) (places : Bytes → Option ℕ) where
  renamed : (named next : Named) (emptied : Bool) (id : Bytes) (place : Option ℕ) → Renamed named next id place → (name : Bytes)
      → behind next emptied places name ≡ cond (eq id name) place (behind named emptied places name)
  renamed named next emptied id place more name =
      ap (λ (there : Option (Option ℕ)). by_before (places name) (stood_here there emptied)) (more name) ∙ named_more (eq id name) emptied place (places name) (lookup (eq name) named)

  pub stood_put : (named next : Named) (emptied : Bool) (at : ℕ) (o : Object) (old : Stood) → same o.key key ≡ true → slice_get changes at ≡ Some (Put o)
      → IsPlaced key changes (behind named emptied places) w → old ≡ stood_here (lookup (eq o.id) named) emptied → Renamed named next o.id (Some at)
      → StoodSo key changes places next emptied w (Put o) old
  stood_put named next emptied at o old own here is found more = record {
    stood_is = ap (λ (x : Stood). object_put changes (by_before (places o.id) x)) found ∙ is o.id ∙ ap (λ (b : Bool). if b then object_at w key o.id else None) (sym own);
    next = λ id. ap (object_put changes) (renamed named next emptied o.id (Some at) more id)
        ∙ by_id key changes w at o (eq o.id id) (behind named emptied places id) (object_at w key id) here (is id) ∙ sym (own_key key changes w o own id);
  }

  pub stood_put_else : (named : Named) (emptied : Bool) (o : Object) → same o.key key ≡ false → IsPlaced key changes (behind named emptied places) w
      → StoodSo key changes places named emptied w (Put o) (Here None)
  stood_put_else named emptied o other is = record {
    stood_is = ap (λ (b : Bool). if b then object_at w key o.id else None) (sym other);
    next = λ id. is id ∙ sym (other_key key changes w o other id);
  }

  pub stood_del : (named next : Named) (emptied : Bool) (other id : Bytes) (old : Stood) → same other key ≡ true → IsPlaced key changes (behind named emptied places) w
      → old ≡ stood_here (lookup (eq id) named) emptied → Renamed named next id None → StoodSo key changes places next emptied w (Del other id) old
  stood_del named next emptied other id old own is found more = record {
    stood_is = ap (λ (x : Stood). object_put changes (by_before (places id) x)) found ∙ is id ∙ ap (λ (b : Bool). if b then object_at w key id else None) (sym own);
    next = λ name. ap (object_put changes) (renamed named next emptied id None more name)
        ∙ gone_id key changes w (eq id name) (behind named emptied places name) (object_at w key name) (object_at (after w (Del other id)) key name) (is name) (own_del key changes w other id name own)
        (λ e. else_del key changes w other id name (λ y at. not_at (same y.key other) (same y.id id) (not_same key changes w y.id id (same y.id id) refl (λ i. differs key changes w id name e (sym (at_key key name y at).1 ∙ i)))));
  }

  pub stood_del_else : (named : Named) (emptied : Bool) (other id : Bytes) → same other key ≡ false → IsPlaced key changes (behind named emptied places) w
      → StoodSo key changes places named emptied w (Del other id) (Here None)
  stood_del_else named emptied other id else_key is = record {
    stood_is = ap (λ (b : Bool). if b then object_at w key id else None) (sym else_key);
    next = λ name. is name ∙ sym (else_del key changes w other id name (λ y at.
        let apart : same y.key other ≡ false = not_same key changes w y.key other (same y.key other) refl (λ i. differs key changes w other key else_key (sym (at_key key name y at).0 ∙ i)) in
        rw apart refl));
  }

  emptied_now : (named : Named) → named ≡ [] → (id : Bytes) → behind named true places id ≡ None
  emptied_now named none id = ap (λ (l : Named). behind l true places id) none

  pub stood_drop : (named : Named) (other : Bytes) → same other key ≡ true → named ≡ [] → StoodSo key changes places named true w (Drop other) (Here None)
  stood_drop named other own none = record {
    stood_is = refl;
    next = λ name. ap (object_put changes) (emptied_now named none name) ∙ sym (found_gone (is_at key name) (has_key other) (λ y at.
        ap (λ (k : Bytes). same k other) (at_key key name y at).0 ∙ ap (same key) (same_equal other key own) ∙ same_refl key) w.objects);
  }

  pub stood_drop_else : (named : Named) (emptied : Bool) (other : Bytes) → same other key ≡ false → IsPlaced key changes (behind named emptied places) w
      → StoodSo key changes places named emptied w (Drop other) (Here None)
  stood_drop_else named emptied other else_key is = record {
    stood_is = refl;
    next = λ name. is name ∙ sym (found_kept (is_at key name) (has_key other) (λ y at.
        not_same key changes w y.key other (same y.key other) refl (λ i. differs key changes w other key else_key (sym (at_key key name y at).0 ∙ i))) w.objects);
  }

  pub stood_flush : (named : Named) → named ≡ [] → StoodSo key changes places named true w Flush (Here None)
  stood_flush named none = record { stood_is = refl; next = λ name. ap (object_put changes) (emptied_now named none name) }

  pub stood_set : (named : Named) (emptied : Bool) (c : Channel) → IsPlaced key changes (behind named emptied places) w
      → StoodSo key changes places named emptied w (SetChan c) (Here None)
  stood_set named emptied c is = record { stood_is = refl; next = is }

  pub stood_end : (named : Named) (emptied : Bool) (name : Bytes) → IsPlaced key changes (behind named emptied places) w
      → StoodSo key changes places named emptied w (DelChan name) (Here None)
  stood_end named emptied name is = record { stood_is = refl; next = is }

  -- the same for a change under another name
  pub stood_as : (named : Named) (emptied : Bool) (old : Stood) (change other : Change) → other ≡ change → StoodSo key changes places named emptied w change old
      → StoodSo key changes places named emptied w other old
  stood_as named emptied old change other is stood_is = subst (λ (z : Change). StoodSo key changes places named emptied w z old) (sym is) stood_is

pub if_ok_both : {T E : Type 0} (r : Result T E) (P R : T → Type 0) (Q : Type 0) → ((x : T) → P x → Q → R x) → IfOk r P → OnOk r Q → IfOk r R
if_ok_both (Ok x) P R Q f p q = f x p q
if_ok_both (Err e) P R Q f p q = tt

-- stretches

-- before the first change of a stretch
pub went_none : (key : Bytes) (all : List Change) (places : Bytes → Option ℕ) (w : World) → IsPlaced key all places w → WentSo key all places w [] [] false []
went_none key all places w placed = record { next = placed; olds_are = tt }

stood_more : (key : Bytes) (all : List Change) (places : Bytes → Option ℕ) (w : World) (changes : List Change) (olds : List Stood) (change : Change) (old : Stood)
    → AreStood key all places w changes olds → object_put all (old_of places change old) ≡ stood key (folded w changes) change
    → AreStood key all places w (changes ++ change ∷ []) (olds ++ old ∷ [])
stood_more key all places w [] [] change old are is = (is, tt)
stood_more key all places w [] (o ∷ olds) change old are is = absurd are
stood_more key all places w (c ∷ changes) [] change old are is = absurd are
stood_more key all places w (c ∷ changes) (o ∷ olds) change old are is = (are.0, stood_more key all places (after w c) changes olds change old are.1 is)

-- one more change
pub went_more : (key : Bytes) (all : List Change) (places : Bytes → Option ℕ) (w : World) (changes : List Change) (i : ℕ) (change : Change) (named next : Named) (emptied now : Bool)
    (olds : List Stood) (old : Stood) → slice_get changes i ≡ Some change → WentSo key all places w (take i changes) named emptied olds
    → StoodSo key all places next now (folded w (take i changes)) change old → WentSo key all places w (take (i + 1) changes) next now (olds ++ old ∷ [])
went_more key all places w changes i change named next emptied now olds old here went so =
    let step : i + 1 ≡ suc i = omega arith in
    let more : take (i + 1) changes ≡ take i changes ++ change ∷ [] = ap (λ n. take n changes) step ∙ take_more changes i change here in
    subst (λ (l : List Change). WentSo key all places w l next now (olds ++ old ∷ [])) (sym more) (record {
      next = subst (IsPlaced key all (behind next now places)) (sym (folded-append w (take i changes) (change ∷ []))) so.next;
      olds_are = stood_more key all places w (take i changes) olds change old went.olds_are so.stood_is;
    })

-- the places behind one stretch more
pub places_more : (places : Bytes → Option ℕ) (stretches : List Known) (s : Known) → places_behind places (stretches ++ s ∷ []) ≡ behind s.named s.emptied (places_behind places stretches)
places_more places [] s = refl
places_more places (r ∷ stretches) s = places_more (behind r.named r.emptied places) stretches s

pub stretch_is_at : (key : Bytes) (all : List Change) (size : ℕ) (stretches : List Known) (k : ℕ) (s : Known) → AllZip (IsStretchAt key all size) (range_with_len 0 (length stretches)) stretches
    → slice_get stretches k ≡ Some s → IsStretchAt key all size k s
stretch_is_at key all size stretches k s are here =
    let none : 0 + k ≡ k = omega arith in
    subst (λ (n : ℕ). IsStretchAt key all size n s) none (zip_at (IsStretchAt key all size) 0 (length stretches) stretches k s are here)

-- so the places behind the first stretches are those of the world behind their changes
pub placed : (key : Bytes) (all : List Change) (size : ℕ) (stretches : List Known) (k : ℕ) → AllZip (IsStretchAt key all size) (range_with_len 0 (length stretches)) stretches
    → k ≤ length stretches → IsPlaced key all (places_behind nowhere (take k stretches)) (folded empty_world (front all size k))
placed key all size stretches zero are within = λ id. sym (ap (λ (l : List Change). object_at (folded empty_world l) key id) (front_none all size))
placed key all size stretches (suc k) are within =
    let here = got stretches k (omega (arith, within)) in
    let s = here.0 in
    let at = stretch_is_at key all size stretches k s are here.1 in
    let before = placed key all size stretches k are (omega (arith, within)) in
    let went = at.goes (places_behind nowhere (take k stretches)) (folded empty_world (front all size k)) before in
    let places : places_behind nowhere (take (suc k) stretches) ≡ behind s.named s.emptied (places_behind nowhere (take k stretches)) =
    ap (places_behind nowhere) (take_more stretches k s here.1) ∙ places_more nowhere (take k stretches) s in
    let world : folded empty_world (front all size (suc k)) ≡ folded (folded empty_world (front all size k)) (part all s.from (length s.olds)) =
    ap (folded empty_world) (front_more all size k) ∙ folded-append empty_world (front all size k) (part all (k * size) size)
    ∙ ap (folded (folded empty_world (front all size k))) (sym at.part_is) in
    subst (λ (f : Bytes → Option ℕ). IsPlaced key all f (folded empty_world (front all size (suc k)))) (sym places)
    (subst (IsPlaced key all (behind s.named s.emptied (places_behind nowhere (take k stretches)))) (sym world) went.next)

pub if_ok_three : {T E : Type 0} (r : Result T E) (P Q R S : T → Type 0) → ((x : T) → P x → Q x → R x → S x) → IfOk r P → IfOk r Q → IfOk r R → IfOk r S
if_ok_three (Ok x) P Q R S f p q r = f x p q r
if_ok_three (Err e) P Q R S f p q r = tt

-- the stretch of a number is one of so many changes from its place on
pub is_stretch_at : (key : Bytes) (all : List Change) (size at len : ℕ) (s : Known) → at * size < length all → len ≡ min size (length all - at * size) → s.from ≡ at * size
    → (length s.olds ≡ len) × (at * size + len < 2 ^ 64) → IsStretch key all s → IsStretchAt key all size at s
is_stretch_at key all size at len s inside is from_is long goes = record {
  from_is = from_is;
  within = omega (arith, inside, is, from_is, long.0);
  fits = subst (λ (n : ℕ). n < 2 ^ 64) (ap (λ (n : ℕ). n + len) (sym from_is) ∙ ap (λ (n : ℕ). s.from + n) (sym long.0)) long.1;
  part_is = ap (λ (n : ℕ). part all s.from n) long.0 ∙ ap (λ (n : ℕ). part all n len) from_is ∙ part_min all (at * size) size len is;
  goes = goes;
}

-- all of them, by their cuts
pub are_stretches : (key : Bytes) (all : List Change) (size count : ℕ) (stretches : List Known) → IsCut (length all) count size
    → AllZip (IsStretchAt key all size) (range_with_len 0 count) stretches → AreStretches key all size stretches
are_stretches key all size count stretches cut each =
    let as_many : count ≡ length stretches = sym (zip_count (IsStretchAt key all size) 0 count stretches each) in
    record {
      cut = subst (λ (n : ℕ). IsCut (length all) n size) as_many cut;
      each = subst (λ (n : ℕ). AllZip (IsStretchAt key all size) (range_with_len 0 n) stretches) as_many each;
    }
