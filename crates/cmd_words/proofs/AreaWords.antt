-- The words of an area, and the numbers that they are not.
use Rattle.std.proofs.Common.{◌≡◌, ℕ, true, inl, inr, refl, sym, ◌∙◌, ap, subst, List, [], ◌∷◌}
use Rattle.std.specs.Prelude.{codes, Some, None, Ok, Err, Result, IfOk, IfErr}
use Rattle.std.proofs.lemmas.List.{append-nil}
use Rattle.byte_text.specs.Names.{Bytes, is_word}
use Rattle.planar_geom.specs.Points.{Point, Bounds}
use Rattle.geo_text.specs.Texts.{Shape}
use Rattle.world_model.specs.Grammar.{Form, a_word, runs_out, ◌>>=◌, done, live}
use Rattle.world_model.specs.Kinds.{name, meters, lat_lon, four, geojson}
use Rattle.world_model.specs.Commands.{AreaRead}
use Rattle.world_model.specs.declared.commands.Command.{Command}
use Rattle.cmd_words.specs.Progress.{Place, all_words, Follows, Parses, ParsesAhead, Reads, IsAhead, WantsWord, IsRefusal, answers, key_and_id}
use Rattle.cmd_words.specs.Areas.{box_area, figure_area, disc_area, object_area, an_area, area_name, behind_area, LacksArea, TakesArea}
use Rattle.cmd_words.specs.declared.areas.AreaWord.{AreaWord}
use Rattle.cmd_words.specs.declared.areas.AreaWord.TheVariants as at
use Rattle.cmd_words.proofs.Gets.{lower_word, moves, moves_on}
use Rattle.cmd_words.proofs.Follows.{now}
use Rattle.cmd_words.proofs.Binds.{bind_assoc, bind_same, done_behind}
use Rattle.cmd_words.proofs.Ahead.{next_read, none_ahead, wants_by}
use Rattle.cmd_words.specs.declared.faults.CommandFault.{CommandFault}
use Rattle.cmd_words.specs.declared.faults.CommandFault.TheVariants.{Memory}

-- an area behind its first word

module _ (next : AreaRead → Form Command) (more : List Bytes) where
  disc_goes : ((lat_lon >>= λ p. meters >>= λ r. done (disc_area p r)) >>= next) more ≡ behind_area at.Circle next more
  disc_goes = bind_assoc lat_lon (λ p. meters >>= λ r. done (disc_area p r)) next more
      ∙ bind_same lat_lon (λ p. (meters >>= λ r. done (disc_area p r)) >>= next) (λ p. meters >>= λ r. next (disc_area p r)) (λ p rest. done_behind (disc_area p) next (meters rest)) more

  object_goes : ((name >>= λ key. name >>= λ id. done (object_area key id)) >>= next) more ≡ behind_area at.Get next more
  object_goes = bind_assoc name (λ key. name >>= λ id. done (object_area key id)) next more
      ∙ bind_same name (λ key. (name >>= λ id. done (object_area key id)) >>= next) (λ key. name >>= λ id. next (object_area key id)) (λ key rest. done_behind (object_area key) next (name rest)) more

  box_goes : ((four >>= λ b. done (box_area b)) >>= next) more ≡ behind_area at.Bounds next more
  box_goes = done_behind box_area next (four more)

  figure_goes : ((geojson >>= λ t. done (figure_area t)) >>= next) more ≡ behind_area at.Object next more
  figure_goes = done_behind figure_area next (geojson more)

  pub area_goes : (kind : AreaWord) (w : Bytes) → is_word w (area_name kind) ≡ true → an_area next (w ∷ more) ≡ behind_area kind next more
  area_goes at.Bounds w e = rw (lower_word w (codes "BOUNDS") e) (simp append-nil box_goes)
  area_goes at.Object w e = rw (lower_word w (codes "OBJECT") e) (simp append-nil figure_goes)
  area_goes at.Circle w e = rw (lower_word w (codes "CIRCLE") e) (simp append-nil disc_goes)
  area_goes at.Get w e = rw (lower_word w (codes "GET") e) (simp append-nil object_goes)

pub area_stops : (next : AreaRead → Form Command) (w : Bytes) (rest more : List Bytes) → LacksArea (w ∷ rest) → an_area next (w ∷ more) ≡ []
area_stops next w rest more n =
    let no_bounds = n at.Bounds in
    let no_object = n at.Object in
    let no_circle = n at.Circle in
    let no_get = n at.Get in
    rw (no_bounds, no_object, no_circle, no_get) refl

pub area_wanted : (next : AreaRead → Form Command) (p : Place) → Follows p (an_area next) → WantsWord p
area_wanted next p h = wants_by p (runs_out a_word) (runs_out a_word ∷ runs_out a_word ∷ runs_out a_word ∷ []) (now p (an_area next) h) (tt, (tt, (tt, (tt, tt))))

-- the area that is next

module _ (old mid new : Place) (kind : AreaWord) (t : TakesArea old mid (Some kind)) where
  behind_follows : (next : AreaRead → Form Command) → IsAhead old (an_area next) → Follows mid (behind_area kind next)
  behind_follows next h = next_read (an_area next) (behind_area kind next) old mid t.0 t.2 (λ more. ap live (area_goes next more kind t.0 t.1)) h

  pub area_read : (r : Result AreaRead CommandFault) → Parses (behind_area kind) mid new r → ParsesAhead an_area old new r
  area_read (Ok a) k = (moves_on old mid new (moves t.0 old mid t.2) k.0, λ next h. k.1 next (behind_follows next h))
  area_read (Err why) (inl m) = inl m
  area_read (Err why) (inr r) = inr (λ next h d. subst (λ ws. answers ws ≡ Err why) (moves t.0 old mid t.2).words (r next (behind_follows next h)))

pub no_area : (p q new : Place) (why : CommandFault) → TakesArea p q None → IsRefusal (all_words q) q.left why → ParsesAhead an_area p new (Err why)
no_area p q new why t r = none_ahead an_area p q new why t.0 (λ next w rest l. ap live (area_stops next w rest [] (subst LacksArea l t.1))) r

-- what is read behind the first word

pub box_read : (old new : Place) (b : Bounds) → Reads four old new (Ok b) → Parses (behind_area at.Bounds) old new (Ok (box_area b))
box_read old new b k = (k.0, λ next h. k.1 (λ x. next (box_area x)) h)

pub box_refused : (old new : Place) (why : CommandFault) → Reads four old new (Err why) → Parses (behind_area at.Bounds) old new (Err why)
box_refused old new why (inl m) = inl m
box_refused old new why (inr r) = inr (λ next h. r (λ x. next (box_area x)) h)

pub figure_read : (old new : Place) (t : Bytes × Shape) (r : Result AreaRead CommandFault) → Reads geojson old new (Ok t) → IfOk r (λ a. a ≡ figure_area t) → IfErr r (λ why. why ≡ Memory) → Parses (behind_area at.Object) old new r
figure_read old new t (Ok a) k ok err = (k.0, λ next h. subst (λ (x : AreaRead). Follows new (next x)) (sym ok) (k.1 (λ x. next (figure_area x)) h))
figure_read old new t (Err why) k ok err = inl err

pub figure_refused : (old new : Place) (why : CommandFault) → Reads geojson old new (Err why) → Parses (behind_area at.Object) old new (Err why)
figure_refused old new why (inl m) = inl m
figure_refused old new why (inr r) = inr (λ next h. r (λ x. next (figure_area x)) h)

pub centre_refused : (old new : Place) (why : CommandFault) → Reads lat_lon old new (Err why) → Parses (behind_area at.Circle) old new (Err why)
centre_refused old new why (inl m) = inl m
centre_refused old new why (inr r) = inr (λ next h. r (λ p. meters >>= λ x. next (disc_area p x)) h)

pub radius_refused : (old mid new : Place) (p : Point) (why : CommandFault) → Reads lat_lon old mid (Ok p) → Reads meters mid new (Err why) → Parses (behind_area at.Circle) old new (Err why)
radius_refused old mid new p why k (inl m) = inl m
radius_refused old mid new p why k (inr r) = inr (λ next h. subst (λ ws. answers ws ≡ Err why) k.0.words (r (λ x. next (disc_area p x)) (k.1 (λ q. meters >>= λ x. next (disc_area q x)) h)))

pub disc_read : (old mid new : Place) (p : Point) (n : ℕ) → Reads lat_lon old mid (Ok p) → Reads meters mid new (Ok n) → Parses (behind_area at.Circle) old new (Ok (disc_area p n))
disc_read old mid new p n k r = (moves_on old mid new k.0 r.0, λ next h. r.1 (λ x. next (disc_area p x)) (k.1 (λ q. meters >>= λ x. next (disc_area q x)) h))

pub holder_refused : (old new : Place) (why : CommandFault) → Parses key_and_id old new (Err why) → Parses (behind_area at.Get) old new (Err why)
holder_refused old new why (inl m) = inl m
holder_refused old new why (inr r) = inr (λ next h. r (λ k. next (object_area k.0 k.1)) h)

pub holder_read : (old new : Place) (k : Bytes × Bytes) → Parses key_and_id old new (Ok k) → Parses (behind_area at.Get) old new (Ok (object_area k.0 k.1))
holder_read old new k r = (r.0, λ next h. r.1 (λ x. next (object_area x.0 x.1)) h)
