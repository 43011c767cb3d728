-- What the requests of a live search ask for.
use Rattle.std.proofs.Common.{◌≡◌, ◌<◌, ◌^◌, ℕ, Bool, true, false, refl, sym, ap, subst, ◌∙◌, List, [], ◌∷◌, ◌++◌, length, append-nil, arith, rules}
use Rattle.std.specs.Prelude.{Option, Some, None, Ok, bytes_eq, ◌&&◌, ◌||◌, nat_le, is_some, is_none, not, codes, decimal, flat_map, if◌then◌else◌}
use Rattle.std.specs.Str.{is_utf8, IsAscii, str_to_ascii_lowercase}
use Rattle.std.proofs.lemmas.Bool.Decides.{nat_tests}
use Rattle.std.proofs.lemmas.Str.{is_utf8-from_IsUtf8, IsAscii-append, IsUtf8-from_ascii}
use Rattle.std.proofs.lemmas.Slice.Eq.{bytes_eq-Decides}
use Rattle.std.proofs.lemmas.Fmt.{length-decimal-le, IsAscii-decimal}
use Rattle.byte_text.specs.Names.{Bytes, is_word, is_name}
use Rattle.world_data.specs.declared.channels.Kind.{Kind}
use Rattle.world_data.specs.declared.channels.Kind.TheVariants.{Within, Intersects}
use Rattle.world_model.specs.Grammar.{Reading, read_as, Form, go_on, ◌>>=◌, ◌>>◌, done, word, repeated, where_}
use Rattle.world_model.specs.FormLaws.{Each}
use Rattle.world_model.specs.MadeForms.{Makes, Said, makes_done, makes_or, makes_none, makes_where, makes_behind, makes_then, spelled_said}
use Rattle.world_model.specs.Kinds.{name, glob, meters, lat_lon, seconds}
use Rattle.world_model.specs.Commands as table
use Rattle.world_model.specs.Commands.{reads, ok_or_fault}
use Rattle.world_model.specs.declared.commands.Command.{Command}
use Rattle.world_model.specs.declared.commands.Command.TheVariants as command
use Rattle.world_model.specs.declared.channel_commands.ChannelCommand.TheVariants as of_channel
use Rattle.world_model.specs.declared.session_commands.SessionCommand.TheVariants as of_session
use Rattle.live_fence.specs.LiveFences.{live_name, is_search, is_within, is_live, fence_request, listen_request, end_request}
use Rattle.live_fence.specs.Laws.{IsSetting, PairsAsk}
use Rattle.live_fence.proofs.FenceForms.{table_is}

-- the channel's name is one
named : (session : ℕ) → session < 2 ^ 32 → is_name (live_name session) ≡ true
named session small =
    let most = length-decimal-le 10 session (omega arith) (omega (arith, small)) (omega (arith, small)) in
    let low : nat_le 1 (length (live_name session)) ≡ true = grind (arith, nat_tests) in
    let high : nat_le (length (live_name session)) 255 ≡ true = grind (arith, nat_tests, most) in
    let letters : IsAscii (codes "live/") = search rules in
    let utf8 : is_utf8 (live_name session) ≡ true = is_utf8-from_IsUtf8 (live_name session) (IsUtf8-from_ascii (live_name session)
    (IsAscii-append (codes "live/") (decimal session) letters (IsAscii-decimal session (omega (arith, small))))) in
    rw (low, high, utf8) refl

-- every setting that is spelled is of the channel that was named
module _ (n : Bytes) where
  abbrev Sets : Command → Type 0
  Sets = IsSetting n

  abbrev channel : table.Called
  channel = record { name = n; after_ex = None }

  makes_area : (kind_word : Bytes) (kind : Kind) → Makes Sets (table.setchan_area kind_word kind channel)
  makes_area kind_word kind = makes_then Sets (word kind_word) _ (makes_behind Sets name _ (λ key.
      makes_behind Sets (repeated (table.fence_option false) table.no_fence_options) _ (λ o.
      makes_behind Sets (where_ o.fence table.area) _ (λ a. makes_done Sets _ (refl, refl)))))

  makes_near : Makes Sets (table.setchan_near channel)
  makes_near = makes_then Sets (word (codes "NEARBY")) _ (makes_behind Sets name _ (λ key.
      makes_behind Sets (repeated (table.fence_option true) table.no_fence_options) _ (λ o.
      makes_where Sets o.fence (table.near_area channel key o)
      (makes_or Sets _ _ (makes_where Sets (not o.nodwell) _ (makes_behind Sets (word (codes "POINT") >> lat_lon) _ (λ p. makes_behind Sets meters _ (λ r. makes_done Sets _ (refl, refl)))))
      (makes_or Sets _ _ (makes_where Sets (is_none o.detect) _ (makes_behind Sets (word (codes "ROAM") >> name) _ (λ other. makes_behind Sets glob _ (λ pattern. makes_behind Sets meters _ (λ r. makes_done Sets _ (refl, refl))))))
      (makes_none Sets))))))

  makes_kinds : Makes Sets (table.setchan_kinds channel)
  makes_kinds = makes_or Sets _ _ (makes_area (codes "WITHIN") Within) (makes_or Sets _ _ (makes_area (codes "INTERSECTS") Intersects)
      (makes_or Sets _ _ makes_near (makes_none Sets)))

  -- EX is no name of a search, so the words behind the name are of a kind
  module _ (is : is_name n ≡ true) (w : Bytes) (words : List Bytes) (other : is_word w (codes "EX") ≡ false) where
    abbrev kinds : Option ℕ → Form Command
    kinds ex = table.setchan_kinds (record { name = n; after_ex = ex })

    abbrev behind : Bytes → Form Command
    behind m = table.after_ex_words >>= λ ex. table.setchan_kinds (record { name = m; after_ex = ex })

    at_kinds : table.setchan_words (n ∷ w ∷ words) ≡ table.setchan_kinds channel (w ∷ words)
    at_kinds =
        ap (λ (b : Bool). flat_map (go_on behind) (read_as (if b then Some n else None) (w ∷ words))) is
        ∙ append-nil (behind n (w ∷ words))
        ∙ ap (λ (b : Bool). kinds None (w ∷ words) ++ flat_map (go_on kinds) (flat_map (go_on (λ s. done (Some s)))
        (flat_map (go_on (λ _. seconds)) (read_as (if b then Some (codes "EX") else None) words)))) other
        ∙ append-nil (kinds None (w ∷ words))

    sets : (c : Command) → table.command_spelled (codes "SETCHAN" ∷ n ∷ w ∷ words) ≡ Some c → IsSetting n c
    unfolding table.readings
    sets c e = spelled_said Sets (table.command_table (codes "SETCHAN" ∷ n ∷ w ∷ words)) c
        (subst (λ (rs : List (Reading Command)). Each (Said Sets) rs) (sym (table_is (n ∷ w ∷ words) ∙ at_kinds)) (makes_kinds.made (w ∷ words))) e

no_ex : (w : Bytes) → is_search w ≡ true → is_word w (codes "EX") ≡ false
no_ex w e = by (is_word w (codes "WITHIN")) (is_word w (codes "INTERSECTS")) (is_word w (codes "NEARBY")) refl refl refl e
  where
    lower : Bytes
    lower = str_to_ascii_lowercase w

    other : (v : Bytes) → bytes_eq lower v ≡ true → bytes_eq v (codes "ex") ≡ false → bytes_eq lower (codes "ex") ≡ false
    other v f g = ap (λ (u : Bytes). bytes_eq u (codes "ex")) ((bytes_eq-Decides lower v).0 f) ∙ g

    by : (a b c : Bool) → is_word w (codes "WITHIN") ≡ a → is_word w (codes "INTERSECTS") ≡ b → is_word w (codes "NEARBY") ≡ c
        → (a || (b || (c || false))) ≡ true → is_word w (codes "EX") ≡ false
    by true b c p q r e = other (codes "within") p refl
    by false true c p q r e = other (codes "intersects") q refl
    by false false true p q r e = other (codes "nearby") r refl
    by false false false p q r e = absurd (cc e)

spelled_some : (words : List Bytes) → is_some (table.command_spelled words) ≡ true → (c : Command) × (table.command_spelled words ≡ Some c)
spelled_some words e = by (table.command_spelled words) refl e
  where
    by : (o : Option Command) → table.command_spelled words ≡ o → is_some o ≡ true → (c : Command) × (table.command_spelled words ≡ Some c)
    by (Some c) f e = (c, f)
    by None f e = absurd (cc e)

read_of : (words : List Bytes) (c : Command) → table.command_spelled words ≡ Some c → reads words ≡ Ok c
read_of words c e = ap (ok_or_fault words) e

ends : (a b c : Bool) → (a && b && c) ≡ true → (a ≡ true) × (c ≡ true)
ends true true true e = (refl, refl)
ends true true false e = absurd (cc e)
ends true false c e = absurd (cc e)
ends false b c e = absurd (cc e)

module _ (session : ℕ) (small : session < 2 ^ 32) where
  abbrev n : Bytes
  n = live_name session

  asks_fence : (words : List Bytes) → is_live session words ≡ true → (c : Command) × (reads (fence_request session words) ≡ Ok c) × IsSetting n c
  asks_fence [] live = absurd (cc (ends false (is_within (fence_request session [])) (is_some (table.command_spelled (fence_request session []))) live).0)
  asks_fence (w ∷ words) live =
      let setting = fence_request session (w ∷ words) in
      let both = ends (is_search w) (is_within setting) (is_some (table.command_spelled setting)) live in
      let found = spelled_some setting both.1 in
      (found.0, read_of setting found.0 found.1, sets n (named session small) w words (no_ex w both.0) found.0 found.1)

  listens : table.command_spelled (listen_request session) ≡ Some (command.Session (of_session.Subscribe (n ∷ [])))
  unfolding table.readings
  listens = rw (named session small) refl

  deletes : table.command_spelled (end_request session) ≡ Some (command.Channel (of_channel.Delchan n))
  unfolding table.readings
  deletes = rw (named session small) refl

pub pairs_ask : PairsAsk
pairs_ask session words small live = record {
  fence = asks_fence session small words live;
  listen = read_of (listen_request session) _ (listens session small);
  end = read_of (end_request session) _ (deletes session small);
}
