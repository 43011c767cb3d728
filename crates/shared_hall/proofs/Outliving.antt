-- The parts that all lives of a leader tell are answers out of one list of logs: of each generation that of the last life that gave a part of it.
use Rattle.std.proofs.Common.{◌≡◌, ◌⊎◌, ◌∙◌, ℕ, List, [], ◌∷◌, ◌++◌, Option, Some, refl, sym, ap, subst, inl, inr, arith, append_assoc}
use Rattle.std.proofs.lemmas.List.Elements.{All-contains, All-from_recursion}
use Rattle.std.specs.List.{AllByRecursion, Contains}
use Rattle.byte_text.specs.Names.{Bytes}
use Rattle.outside.specs.Crashes.{EachImage}
use Rattle.outside.specs.Sides.{Sides}
use Rattle.world_model.specs.Halls.{Hall}
use Rattle.world_model.specs.Histories.{opening_hall}
use Rattle.world_model.specs.Seats.{Act, act_of}
use Rattle.world_model.specs.declared.events.Entry.{Entry}
use Rattle.log_sides.specs.Texts.{newest}
use Rattle.journal.specs.Logs.{Grows, HasGrown}
use Rattle.journal.specs.Openings.{AreWhole}
use Rattle.world_recovery.specs.Recorded.{record_fault}
use Rattle.repl_stream.specs.Laws.{AsksAreApart, PartsAreApart}
use Rattle.repl_node.specs.Deliveries.{AreAnswered, Delivery, IsAnswered, PublishesBeginnings, Shows, ShowsNothing, TakesRecords}
use Rattle.durable_core.specs.Histories.{Writing}
use Rattle.shared_hall.specs.Fed.{AreAllWhole, AreFed, GrewFrom, IsFed, IsFound, LastsOn, WasTold}
use Rattle.shared_hall.specs.Followers.{IsTold}
use Rattle.shared_hall.specs.Restarts.{AreLives, FollowOn, FollowersOutlive, FollowersTakeLives, GrewOn, HistoriesAreLives, IsToldBy, Life, ShowsLife}
use Rattle.shared_hall.proofs.Following.{TellsTold, is_answered, shows_told, tells_told}

-- the first list, or the other one where it is empty
abbrev or_else : List Bytes → List Bytes → List Bytes
or_else [] ys = ys
or_else (x ∷ xs) ys = x ∷ xs

-- of each generation the log of the last of these lives that has one
abbrev logs_of : List Life → ℕ → List Bytes
logs_of [] n = []
logs_of (l ∷ more) n = or_else (logs_of more n) (l.feeds.logs n)

-- a list begins with these batches
record Begins (bs log : List Bytes) : Type 0 where
  rest : List Bytes
  is : log ≡ bs ++ rest

either_begun : (bs xs ys : List Bytes) → (xs ≡ []) ⊎ Begins bs xs → (ys ≡ []) ⊎ Begins bs ys → (or_else xs ys ≡ []) ⊎ Begins bs (or_else xs ys)
either_begun bs [] ys first second = second
either_begun bs (x ∷ xs) ys first second = first

second_begun : (bs xs ys : List Bytes) → (xs ≡ []) ⊎ Begins bs xs → Begins bs ys → Begins bs (or_else xs ys)
second_begun bs [] ys first second = second
second_begun bs (x ∷ xs) ys (inl none) second = absurd (cc none)
second_begun bs (x ∷ xs) ys (inr first) second = first

-- no batches alone are a beginning of an empty list, and they are one of any
first_begun : (bs xs ys : List Bytes) → Begins bs xs → Begins bs (or_else xs ys)
first_begun [] [] ys first = record { rest = ys; is = refl }
first_begun (b ∷ bs) [] ys first = absurd (cc first.is)
first_begun bs (x ∷ xs) ys first = first

-- what a life was opened on had grown from these batches, so its log of their generation begins with them, if it has one
log_begun : (m : Life) (g : ℕ) (bs : List Bytes) → GrewOn m.opened g bs → (m.feeds.logs g ≡ []) ⊎ WasTold (GrewFrom (GrewOn m.opened)) m.feeds.logs g
    → (m.feeds.logs g ≡ []) ⊎ Begins bs (m.feeds.logs g)
log_begun m g bs grew (inl none) = inl none
log_begun m g bs grew (inr t) = by (t.grew_so g bs grew)
  where
    by : Grows g g bs t.batches → (m.feeds.logs g ≡ []) ⊎ Begins bs (m.feeds.logs g)
    by (inl more) = inr (record {
      rest = more.1.0 ++ t.later;
      is = t.begun ∙ ap (λ (l : List Bytes). l ++ t.later) more.1.1 ∙ append_assoc bs more.1.0 t.later;
    })
    by (inr below) = absurd (omega (arith, below))

-- what a life left grew from these batches, so the logs of the lives behind it begin with them
later_begun : (g : ℕ) (bs : List Bytes) (l : Life) (more : List Life) → FollowOn l more → HasGrown g bs l.left → (logs_of more g ≡ []) ⊎ Begins bs (logs_of more g)
later_begun g bs l [] follow grown = inl refl
later_begun g bs l (m ∷ more) follow grown =
    let opened : GrewOn m.opened g bs = subst (λ (s : Sides). HasGrown g bs s) (sym follow.0) grown in
    either_begun bs (logs_of more g) (m.feeds.logs g) (later_begun g bs m more follow.1 (m.carries g bs opened)) (log_begun m g bs opened (m.feeds.told g))

-- batches with which a life's log begins, and from which what it left grew, are a beginning of these logs
abbrev BegunIn : (ℕ → List Bytes) → Life → Type 0
BegunIn logs l = (g : ℕ) (bs : List Bytes) → Begins bs (l.feeds.logs g) → HasGrown g bs l.left → Begins bs (logs g)

each_so : (P Q : Life → Type 0) → ((l : Life) → P l → Q l) → (ls : List Life) → AllByRecursion P ls → AllByRecursion Q ls
each_so P Q so [] all = tt
each_so P Q so (l ∷ ls) all = (so l all.0, each_so P Q so ls all.1)

lives_behind : (l : Life) (more : List Life) → FollowOn l more → AreLives more
lives_behind l [] follow = tt
lives_behind l (m ∷ more) follow = follow.1

-- so it is with each of the lives
all_begun : (lives : List Life) → AreLives lives → AllByRecursion (BegunIn (logs_of lives)) lives
all_begun [] follow = tt
all_begun (l ∷ more) follow = (
  λ g bs begun grown. second_begun bs (logs_of more g) (l.feeds.logs g) (later_begun g bs l more follow grown) begun,
  each_so (BegunIn (logs_of more)) (BegunIn (logs_of (l ∷ more))) (λ m one g bs begun grown. first_begun bs (logs_of more g) (l.feeds.logs g) (one g bs begun grown)) more
      (all_begun more (lives_behind l more follow)),
)

begun_in : (lives : List Life) → AreLives lives → (l : Life) → Contains lives l → BegunIn (logs_of lives) l
begun_in lives follow l lived = All-contains (BegunIn (logs_of lives)) lives l (All-from_recursion (BegunIn (logs_of lives)) lives (all_begun lives follow)) lived

whole_or : (xs ys : List Bytes) → AreWhole (record_fault newest) xs → AreWhole (record_fault newest) ys → AreWhole (record_fault newest) (or_else xs ys)
whole_or [] ys first second = second
whole_or (x ∷ xs) ys first second = first

all_whole : (lives : List Life) → AreAllWhole (logs_of lives)
all_whole [] n = tt
all_whole (l ∷ more) n = whole_or (logs_of more n) (l.feeds.logs n) (all_whole more n) (l.feeds.whole n)

-- what the sides on which a life was opened grew from was found there
found_on : (seen : Option Sides) (images : Sides → Type 0) (opened : Sides) → seen ≡ Some opened → EachImage images (λ image. image ≡ opened)
    → (before : ℕ) (earlier : List Bytes) → GrewOn opened before earlier → IsFound seen images before earlier
found_on seen images opened told settled before earlier grown = record {
  sides = opened;
  told = told;
  grown = grown;
  each = λ c image. subst (λ (s : Sides). HasGrown before earlier s) (sym (settled c image)) grown;
}

-- what a crash left lasts
fed_left : (left_since : ℕ → Sides → Type 0) (left : Sides) (logs : ℕ → List Bytes) (h : Hall) (first : Writing) (acts : List Act) (entries : List Entry)
    → AreFed (LastsOn left_since) logs h first acts entries → AllByRecursion (λ e. left_since e.moment left) entries
    → AreFed (LastsOn (λ since image. image ≡ left)) logs h first acts entries
fed_left left_since left logs h first acts [] fed lefts = tt
fed_left left_since left logs h first acts (e ∷ es) fed lefts = (by fed.0, fed_left left_since left logs h first (acts ++ act_of e ∷ []) es fed.1 lefts.1)
  where
    by : (e.note ≡ []) ⊎ IsFed (LastsOn left_since) logs h first (acts ++ act_of e ∷ []) e.moment e.note
        → (e.note ≡ []) ⊎ IsFed (LastsOn (λ since image. image ≡ left)) logs h first (acts ++ act_of e ∷ []) e.moment e.note
    by (inl none) = inl none
    by (inr f) = inr (record {
      hall = f.hall;
      end = f.end;
      writes = f.writes;
      batches = f.batches;
      later = f.later;
      begun = f.begun;
      noted = f.noted;
      lasts = λ image is. subst (λ (s : Sides). HasGrown f.end.generation f.batches s) (sym is) (f.lasts left lefts.0);
    })

told_on : (seen : Option Sides) (images : Sides → Type 0) (opened : Sides) → seen ≡ Some opened → EachImage images (λ image. image ≡ opened)
    → (logs : ℕ → List Bytes) (n : ℕ) → (logs n ≡ []) ⊎ WasTold (GrewFrom (IsFound seen images)) logs n → (logs n ≡ []) ⊎ WasTold (GrewFrom (GrewOn opened)) logs n
told_on seen images opened told settled logs n (inl none) = inl none
told_on seen images opened told settled logs n (inr t) = inr (record {
  batches = t.batches;
  later = t.later;
  begun = t.begun;
  grew_so = λ before earlier grown. t.grew_so before earlier (found_on seen images opened told settled before earlier grown);
})

pub histories_live : {D : Type 0} (seen : D → Option Sides) (images : D → Sides → Type 0) (left_since : D → ℕ → Sides → Type 0) → HistoriesAreLives seen images left_since
histories_live seen images left_since old new begun opened left first k told settled f carries lefts =
    let l : Life = record {
      opened = opened;
      left = left;
      first = first;
      knows = k;
      feeds = record {
        logs = f.logs;
        whole = f.whole;
        told = λ n. told_on (seen old) (images old) opened told settled f.logs n (f.told n);
        fed = fed_left (left_since new) left f.logs (opening_hall k.opening.world k.opening.logged) first [] k.seen f.fed lefts.1;
      };
      carries = λ before earlier grown. carries before earlier (found_on (seen old) (images old) opened told settled before earlier grown) left lefts.0;
    } in
    (l, refl, refl, refl, refl)

-- what lasts in a life, and how its logs grew
abbrev LastsIn : Life → ℕ → ℕ → List Bytes → Type 0
LastsIn l = LastsOn (λ since image. image ≡ l.left)

module _ (asks : AsksAreApart) (parts : PartsAreApart) where
  -- the entry of a part of a life
  tells_in : (l : Life) (d : Delivery) (told : IsTold l.knows.seen d) → TellsTold (LastsIn l) l.feeds.logs l.first l.knows d told
  tells_in l d told = tells_told asks parts (LastsIn l) (GrewFrom (GrewOn l.opened)) l.first l.knows l.feeds d told

  -- its batches are a beginning of the logs of the lives
  begun_told : (lives : List Life) → AreLives lives → (d : Delivery) (by : IsToldBy lives d) (t : TellsTold (LastsIn by.life) by.life.feeds.logs by.life.first by.life.knows d by.told)
      → Begins t.batches (logs_of lives t.end.generation)
  begun_told lives follow d by t =
      begun_in lives follow by.life by.lived t.end.generation t.batches (record { rest = t.later; is = t.begun }) (t.lasts by.life.left refl)

  one_answered : (lives : List Life) → AreLives lives → (d : Delivery) → IsToldBy lives d → IsAnswered (logs_of lives) d
  one_answered lives follow d by =
      let t = tells_in by.life d by.told in
      let b = begun_told lives follow d by t in
      is_answered (logs_of lives) t.end.generation t.hall.world t.batches b.rest t.ask d.part d.bytes b.is t.given

  all_answered : (lives : List Life) → AreLives lives → (ds : List Delivery) → AllByRecursion (IsToldBy lives) ds → AreAnswered (logs_of lives) ds
  all_answered lives follow [] told = tt
  all_answered lives follow (d ∷ ds) told = (one_answered lives follow d told.0, all_answered lives follow ds told.1)

  pub lives_taken : TakesRecords → FollowersTakeLives
  lives_taken takes lives ds node next follow told heard one refused =
      takes (logs_of lives) ds node next (all_answered lives follow ds told) heard (one_answered lives follow next one) (all_whole lives next.part.generation) refused

  pub lives_shown : PublishesBeginnings → FollowersOutlive
  lives_shown beginnings lives ds node follow told heard = by (beginnings (logs_of lives) ds node (all_answered lives follow ds told) heard)
    where
      by : ShowsNothing node ⊎ ((batches : List Bytes) × Shows (logs_of lives) ds node batches) → ShowsNothing node ⊎ ShowsLife lives ds node
      by (inl nothing) = inl nothing
      by (inr shows) =
          let s = shows.1 in
          let tell = All-contains (IsToldBy lives) ds s.delivery (All-from_recursion (IsToldBy lives) ds told) s.heard in
          let l = tell.life in
          let t = tells_in l s.delivery tell.told in
          let b = begun_told lives follow s.delivery tell t in
          inr (record {
            life = l;
            lived = tell.lived;
            shows = shows_told (LastsIn l) l.feeds.logs (logs_of lives) l.first l.knows ds node shows.0 s tell.told t b.rest b.is;
          })
