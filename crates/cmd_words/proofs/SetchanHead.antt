-- What stands behind SETCHAN, as it is read.
use Rattle.std.proofs.Common.{◌≡◌, Bool, true, false, not, refl, sym, ◌∙◌, List, [], ◌++◌}
use Rattle.std.specs.Prelude.{codes, is_none}
use Rattle.byte_text.specs.Names.{Bytes}
use Rattle.world_data.specs.declared.channels.Kind.{Kind}
use Rattle.world_data.specs.declared.channels.Kind.TheVariants as kind
use Rattle.world_model.specs.Grammar.{Form, ◌>>=◌, ◌>>◌, done, where_, word, repeated}
use Rattle.world_model.specs.Kinds.{name, glob, meters, lat_lon}
use Rattle.world_model.specs.Commands as table
use Rattle.world_model.specs.declared.commands.Command.{Command}
use Rattle.cmd_words.specs.Progress.{a_name}
use Rattle.cmd_words.specs.FenceAreas.{around, beside, near_area}
use Rattle.cmd_words.specs.Channels.{setchan_of, behind_key, behind_ex, behind_setchan}
use Rattle.cmd_words.specs.declared.fence_areas.FenceArea.{FenceArea}
use Rattle.cmd_words.specs.declared.fence_areas.FenceArea.TheVariants as area
use Rattle.cmd_words.proofs.Binds.{bind_assoc, bind_same, done_behind}

-- forms behind a test, and three or two beside one another

where_behind : {A B : Type 0} (b : Bool) (f : Form A) (g : A → Form B) (words : List Bytes) → (where_ b f >>= g) words ≡ where_ b (f >>= g) words
where_behind true f g words = refl
where_behind false f g words = refl

where_same : {A : Type 0} (b : Bool) (f g : Form A) → ((words : List Bytes) → f words ≡ g words) → (words : List Bytes) → where_ b f words ≡ where_ b g words
where_same true f g e words = e words
where_same false f g e words = refl

three : {A : Type 0} (a b c x y z : List A) → a ≡ x → b ≡ y → c ≡ z → a ++ (b ++ (c ++ [])) ≡ x ++ (y ++ (z ++ []))
three a b c x y z p q r = rw (p, q, r) refl

two : {A : Type 0} (a b x y : List A) → a ≡ x → b ≡ y → a ++ (b ++ []) ≡ x ++ (y ++ [])
two a b x y p q = rw (p, q) refl

module _ (n : table.Called) where
  abbrev made : Kind → Bytes → table.FenceOptions → FenceArea → Form Command
  made kind key o x = done (setchan_of n kind key o x)

  -- WITHIN and INTERSECTS

  within_same : (words : List Bytes) → table.setchan_area (codes "WITHIN") kind.Within n words ≡ (word (codes "WITHIN") >> a_name (behind_key n kind.Within)) words
  within_same words = bind_same (word (codes "WITHIN")) _ _ (λ w behind. bind_same name _ _ (λ key more. bind_same (repeated (table.fence_option false) table.no_fence_options) _ _
      (λ o rest. where_behind o.fence table.area _ rest) more) behind) words

  intersects_same : (words : List Bytes) → table.setchan_area (codes "INTERSECTS") kind.Intersects n words ≡ (word (codes "INTERSECTS") >> a_name (behind_key n kind.Intersects)) words
  intersects_same words = bind_same (word (codes "INTERSECTS")) _ _ (λ w behind. bind_same name _ _ (λ key more. bind_same (repeated (table.fence_option false) table.no_fence_options) _ _
      (λ o rest. where_behind o.fence table.area _ rest) more) behind) words

  -- NEARBY

  module _ (key : Bytes) (o : table.FenceOptions) where
    abbrev next : FenceArea → Form Command
    next = made kind.Near key o

    abbrev behind_point : Form Command
    behind_point = lat_lon >>= λ p. meters >>= λ r. next (area.Around p r)

    around_same : (words : List Bytes) → (around >>= next) words ≡ behind_point words
    around_same words = bind_assoc lat_lon (λ p. meters >>= λ r. done (area.Around p r)) next words
        ∙ bind_same lat_lon (λ p. (meters >>= λ r. done (area.Around p r)) >>= next) (λ p. meters >>= λ r. next (area.Around p r)) (λ p rest. done_behind (area.Around p) next (meters rest)) words

    point_same : (words : List Bytes) → (word (codes "POINT") >> lat_lon >>= λ p. meters >>= λ r. next (area.Around p r)) words ≡ (word (codes "POINT") >> (around >>= next)) words
    point_same words = bind_assoc (word (codes "POINT")) (λ _. lat_lon) (λ p. meters >>= λ r. next (area.Around p r)) words
        ∙ bind_same (word (codes "POINT")) (λ _. behind_point) (λ _. around >>= next) (λ w rest. sym (around_same rest)) words

    abbrev behind_pattern : Bytes → Bytes → Form Command
    behind_pattern other pattern = meters >>= λ r. next (area.Beside other pattern r)

    abbrev behind_other : Bytes → Form Command
    behind_other other = glob >>= behind_pattern other

    beside_same : (words : List Bytes) → (beside >>= next) words ≡ (name >>= behind_other) words
    beside_same words = bind_assoc name (λ other. glob >>= λ pattern. meters >>= λ r. done (area.Beside other pattern r)) next words
        ∙ bind_same name (λ other. (glob >>= λ pattern. meters >>= λ r. done (area.Beside other pattern r)) >>= next) behind_other
        (λ other more. bind_assoc glob (λ pattern. meters >>= λ r. done (area.Beside other pattern r)) next more
        ∙ bind_same glob (λ pattern. (meters >>= λ r. done (area.Beside other pattern r)) >>= next) (behind_pattern other) (λ pattern rest. done_behind (area.Beside other pattern) next (meters rest)) more) words

    roam_same : (words : List Bytes) → (word (codes "ROAM") >> name >>= behind_other) words ≡ (word (codes "ROAM") >> (beside >>= next)) words
    roam_same words = bind_assoc (word (codes "ROAM")) (λ _. name) behind_other words
        ∙ bind_same (word (codes "ROAM")) (λ _. name >>= behind_other) (λ _. beside >>= next) (λ w rest. sym (beside_same rest)) words

    near_area_same : (words : List Bytes) → table.near_area n key o words ≡ near_area o next words
    near_area_same words = two _ _ _ _ (where_same (not o.nodwell) _ _ point_same words) (where_same (is_none o.detect) _ _ roam_same words)

  near_same : (words : List Bytes) → table.setchan_near n words ≡ (word (codes "NEARBY") >> a_name (behind_key n kind.Near)) words
  near_same words = bind_same (word (codes "NEARBY")) _ _ (λ w behind. bind_same name _ _ (λ key more. bind_same (repeated (table.fence_option true) table.no_fence_options) _ _
      (λ o rest. where_same o.fence _ _ (near_area_same key o) rest) more) behind) words

  kinds_same : (words : List Bytes) → table.setchan_kinds n words ≡ behind_ex n words
  kinds_same words = three _ _ _ _ _ _ (within_same words) (intersects_same words) (near_same words)

-- the channel's name, and what stands behind it
pub setchan_same : (words : List Bytes) → table.setchan_words words ≡ a_name behind_setchan words
setchan_same words = bind_same name _ _ (λ n rest. bind_same table.after_ex_words _ _ (λ after_ex more. kinds_same (record { name = n; after_ex = after_ex }) more) rest) words
