-- Lists of names as they are printed: some of the names, in their order, and read again.
use Rattle.std.proofs.Common.{◌≡◌, Bool, true, false, ◌||◌, List, [], ◌∷◌, refl}
use Rattle.std.specs.Prelude.{Some, codes, if◌then◌else◌}
use Rattle.byte_text.specs.Names.{Bytes}
use Rattle.geo_text.specs.Texts.{with_commas}
use Rattle.world_model.specs.Kinds.{is_in}
use Rattle.world_model.specs.Commands.{detect_names, command_names}
use Rattle.log_record.proofs.NormalForms.{list_reader}

abbrev chosen : Bool → Bytes → List Bytes → List Bytes
chosen b name names = if b then name ∷ names else names

abbrev pub five : Bool → Bool → Bool → Bool → Bool → List Bytes
five a b c d e = chosen a (codes "inside") (chosen b (codes "outside") (chosen c (codes "enter") (chosen d (codes "exit") (chosen e (codes "cross") []))))

abbrev pub three : Bool → Bool → Bool → List Bytes
three a b c = chosen a (codes "set") (chosen b (codes "del") (chosen c (codes "drop") []))

-- a list of names is read as the names that it was printed of

pub five_read : (a b c d e : Bool) → (a || (b || (c || (d || (e || false))))) ≡ true → list_reader detect_names (with_commas (five a b c d e)) ≡ Some (five a b c d e)
five_read true true true true true some = refl
five_read true true true true false some = refl
five_read true true true false true some = refl
five_read true true true false false some = refl
five_read true true false true true some = refl
five_read true true false true false some = refl
five_read true true false false true some = refl
five_read true true false false false some = refl
five_read true false true true true some = refl
five_read true false true true false some = refl
five_read true false true false true some = refl
five_read true false true false false some = refl
five_read true false false true true some = refl
five_read true false false true false some = refl
five_read true false false false true some = refl
five_read true false false false false some = refl
five_read false true true true true some = refl
five_read false true true true false some = refl
five_read false true true false true some = refl
five_read false true true false false some = refl
five_read false true false true true some = refl
five_read false true false true false some = refl
five_read false true false false true some = refl
five_read false true false false false some = refl
five_read false false true true true some = refl
five_read false false true true false some = refl
five_read false false true false true some = refl
five_read false false true false false some = refl
five_read false false false true true some = refl
five_read false false false true false some = refl
five_read false false false false true some = refl
five_read false false false false false some = absurd (cc some)

pub three_read : (a b c : Bool) → (a || (b || (c || false))) ≡ true → list_reader command_names (with_commas (three a b c)) ≡ Some (three a b c)
three_read true true true some = refl
three_read true true false some = refl
three_read true false true some = refl
three_read true false false some = refl
three_read false true true some = refl
three_read false true false some = refl
three_read false false true some = refl
three_read false false false some = absurd (cc some)

-- and holds those names alone
pub record AreFive (a b c d e : Bool) (names : List Bytes) : Type 0 where
  pub inside : is_in names (codes "inside") ≡ a
  pub outside : is_in names (codes "outside") ≡ b
  pub enter : is_in names (codes "enter") ≡ c
  pub exit : is_in names (codes "exit") ≡ d
  pub cross : is_in names (codes "cross") ≡ e

pub five_in : (a b c d e : Bool) → AreFive a b c d e (five a b c d e)
five_in true true true true true = record { inside = refl; outside = refl; enter = refl; exit = refl; cross = refl }
five_in true true true true false = record { inside = refl; outside = refl; enter = refl; exit = refl; cross = refl }
five_in true true true false true = record { inside = refl; outside = refl; enter = refl; exit = refl; cross = refl }
five_in true true true false false = record { inside = refl; outside = refl; enter = refl; exit = refl; cross = refl }
five_in true true false true true = record { inside = refl; outside = refl; enter = refl; exit = refl; cross = refl }
five_in true true false true false = record { inside = refl; outside = refl; enter = refl; exit = refl; cross = refl }
five_in true true false false true = record { inside = refl; outside = refl; enter = refl; exit = refl; cross = refl }
five_in true true false false false = record { inside = refl; outside = refl; enter = refl; exit = refl; cross = refl }
five_in true false true true true = record { inside = refl; outside = refl; enter = refl; exit = refl; cross = refl }
five_in true false true true false = record { inside = refl; outside = refl; enter = refl; exit = refl; cross = refl }
five_in true false true false true = record { inside = refl; outside = refl; enter = refl; exit = refl; cross = refl }
five_in true false true false false = record { inside = refl; outside = refl; enter = refl; exit = refl; cross = refl }
five_in true false false true true = record { inside = refl; outside = refl; enter = refl; exit = refl; cross = refl }
five_in true false false true false = record { inside = refl; outside = refl; enter = refl; exit = refl; cross = refl }
five_in true false false false true = record { inside = refl; outside = refl; enter = refl; exit = refl; cross = refl }
five_in true false false false false = record { inside = refl; outside = refl; enter = refl; exit = refl; cross = refl }
five_in false true true true true = record { inside = refl; outside = refl; enter = refl; exit = refl; cross = refl }
five_in false true true true false = record { inside = refl; outside = refl; enter = refl; exit = refl; cross = refl }
five_in false true true false true = record { inside = refl; outside = refl; enter = refl; exit = refl; cross = refl }
five_in false true true false false = record { inside = refl; outside = refl; enter = refl; exit = refl; cross = refl }
five_in false true false true true = record { inside = refl; outside = refl; enter = refl; exit = refl; cross = refl }
five_in false true false true false = record { inside = refl; outside = refl; enter = refl; exit = refl; cross = refl }
five_in false true false false true = record { inside = refl; outside = refl; enter = refl; exit = refl; cross = refl }
five_in false true false false false = record { inside = refl; outside = refl; enter = refl; exit = refl; cross = refl }
five_in false false true true true = record { inside = refl; outside = refl; enter = refl; exit = refl; cross = refl }
five_in false false true true false = record { inside = refl; outside = refl; enter = refl; exit = refl; cross = refl }
five_in false false true false true = record { inside = refl; outside = refl; enter = refl; exit = refl; cross = refl }
five_in false false true false false = record { inside = refl; outside = refl; enter = refl; exit = refl; cross = refl }
five_in false false false true true = record { inside = refl; outside = refl; enter = refl; exit = refl; cross = refl }
five_in false false false true false = record { inside = refl; outside = refl; enter = refl; exit = refl; cross = refl }
five_in false false false false true = record { inside = refl; outside = refl; enter = refl; exit = refl; cross = refl }
five_in false false false false false = record { inside = refl; outside = refl; enter = refl; exit = refl; cross = refl }

pub record AreThree (a b c : Bool) (names : List Bytes) : Type 0 where
  pub set : is_in names (codes "set") ≡ a
  pub del : is_in names (codes "del") ≡ b
  pub drop : is_in names (codes "drop") ≡ c

pub three_in : (a b c : Bool) → AreThree a b c (three a b c)
three_in true true true = record { set = refl; del = refl; drop = refl }
three_in true true false = record { set = refl; del = refl; drop = refl }
three_in true false true = record { set = refl; del = refl; drop = refl }
three_in true false false = record { set = refl; del = refl; drop = refl }
three_in false true true = record { set = refl; del = refl; drop = refl }
three_in false true false = record { set = refl; del = refl; drop = refl }
three_in false false true = record { set = refl; del = refl; drop = refl }
three_in false false false = record { set = refl; del = refl; drop = refl }
