-- The words of other commands do not ask to follow, and what is told where memory wanted for reading those that do.
use Rattle.std.proofs.Common.{◌≡◌, ◌⊎◌, ℕ, Bool, true, false, refl, sym, ap, ◌∙◌, subst, List, [], ◌∷◌, inl, inr}
use Rattle.std.specs.Prelude.{Option, None, Some, option_and_then, IfSome, bytes_eq, codes, ◌||◌, if◌then◌else◌}
use Rattle.byte_text.specs.Names.{Bytes}
use Rattle.outside.specs.Causes.{Rose}
use Rattle.outside.specs.Doors.{DoorState}
use Rattle.outside.specs.Waits.{WaitState}
use Rattle.serve_run.specs.Ends.{IsEnd, memory_line}
use Rattle.serve_run.specs.Options.{begins_with, rows_taken}
use Rattle.serve_run.specs.Words.{Serve, begins_to_serve, serve_of, serve_taken, ws_taken}
use Rattle.tile_top.specs.FollowWords.{Follow, follow_app, follow_in, follow_of}
use Rattle.tile_top.specs.Follows.{Follows}
use Rattle.tile_top.specs.LoadWords.{load_app, load_in, load_of}
use Rattle.tile_top.specs.declared.workloads.LoadWords.{LoadWords}
use Rattle.tile_top.proofs.Wanting.{begins_alone, serving_of}

begun_otherwise : (words : List Bytes) → begins_with (codes "follow") words ≡ false → follow_of words ≡ None
begun_otherwise words is = ap (λ (b : Bool). if b then option_and_then follow_in (rows_taken follow_app words) else None) is

-- words that are another one alone
pub alone_unfollowed : (words : List Bytes) (name : Bytes) → bytes_eq name (codes "follow") ≡ false → words ≡ name ∷ [] → follow_of words ≡ None
alone_unfollowed words name apart is = begun_otherwise words (ap (begins_with (codes "follow")) is ∙ apart)

either : (a b : Bool) → (a || b) ≡ true → (a ≡ true) ⊎ (b ≡ true)
either true b is = inl refl
either false b is = inr is

serves : (words : List Bytes) → (begins_with (codes "serve") words ≡ true) ⊎ (begins_with (codes "ws") words ≡ true) → follow_of words ≡ None
serves words (inl serve) = begun_otherwise words (begins_alone words (codes "serve") (codes "follow") refl serve)
serves words (inr ws) = begun_otherwise words (begins_alone words (codes "ws") (codes "follow") refl ws)

-- words that begin as those that ask to serve, or that ask for it
pub begun_unfollowed : (words : List Bytes) → begins_to_serve words ≡ true → follow_of words ≡ None
begun_unfollowed words begun = serves words (either (begins_with (codes "serve") words) (begins_with (codes "ws") words) begun)

pub served_unfollowed : (words : List Bytes) (s : Serve) → Some s ≡ serve_of words → follow_of words ≡ None
served_unfollowed words s is =
    serves words (serving_of (begins_with (codes "serve") words) (begins_with (codes "ws") words) (serve_taken words) (ws_taken words) s is)

-- words that begin as those that ask for the workload, or that ask for it
pub load_unfollowed : (words : List Bytes) → begins_with (codes "load") words ≡ true → follow_of words ≡ None
load_unfollowed words begun = begun_otherwise words (begins_alone words (codes "load") (codes "follow") refl begun)

begun_if : {A : Type 0} (begun : Bool) (o : Option A) (x : A) → Some x ≡ (if begun then o else None) → begun ≡ true
begun_if true o x is = refl
begun_if false o x is = absurd (cc)

pub loaded_unfollowed : (words : List Bytes) (w : LoadWords) → Some w ≡ load_of words → follow_of words ≡ None
loaded_unfollowed words w is =
    load_unfollowed words (begun_if (begins_with (codes "load") words) (option_and_then load_in (rows_taken load_app words)) w is)

-- whatever is told of following, where none was asked for
pub follow_unasked : (words : List Bytes) (Told : Follow → Type 0) → follow_of words ≡ None → IfSome (follow_of words) Told
follow_unasked words Told is = subst (λ (o : Option Follow). IfSome o Told) (sym is) tt

caused : {A : Type 0} → (◌≡◌ {A = ℕ} 7 4) ⊎ A → A
caused (inl is) = absurd (cc)
caused (inr cause) = cause

-- whatever following was asked for
pub follow_wanting : (o : Option Follow) (door : DoorState) (wait : WaitState) (held held' : Option Bytes) (failed failed' status : ℕ)
    → IsEnd held held' 7 memory_line status → (status ≡ 4 → (◌≡◌ {A = ℕ} 7 4) ⊎ Rose failed failed')
    → IfSome o (λ f. Follows f door door wait wait held held' failed failed' status)
follow_wanting None door wait held held' failed failed' status end cause = tt
follow_wanting (Some f) door wait held held' failed failed' status end cause = inl (record { same_door = refl; same_wait = refl; ended = end; unwritten = λ is. caused (cause is) })
