-- What clap makes of a command line.
use Rattle.std.proofs.Common.{◌≡◌, ◌&&◌, Bool, true, false, refl, List, [], ◌∷◌, None}
use Rattle.clap.specs.Words.{is_simple, is_simple_and_free}
use Rattle.clap.specs.Kinds.{IsAmong, Kinds}
use Rattle.clap.specs.Simple.{App}
use Rattle.clap.specs.Walk.{Row}
use Rattle.clap.specs.declared.error.kind.ErrorKind.{ErrorKind}
use Rattle.serve_run.specs.Options.{rows_if}

both_left : (a b : Bool) → (a && b) ≡ true → a ≡ true
both_left true b both = refl
both_left false b both = both

pub free_is_simple : (app : App) → is_simple_and_free app ≡ true → is_simple app ≡ true
free_is_simple app free = both_left (is_simple app) _ free

-- what is refused finds nothing
pub refused : (kind : ErrorKind) (kinds : Kinds) (rows : List Row) → IsAmong kind kinds → None ≡ rows_if kinds rows
refused kind [] rows among = absurd among
refused kind (k ∷ kinds) rows among = refl
