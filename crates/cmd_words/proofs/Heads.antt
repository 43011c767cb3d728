-- What stands behind a command's name.
use Rattle.std.proofs.Common.{◌≡◌, inl, inr, ◌<◌, true, refl, sym, ap, subst, ◌∙◌, List, [], ◌∷◌, ◌++◌, length, arith}
use Rattle.std.specs.Prelude.{false, map, codes, Err}
use Rattle.std.specs.List.{AllByRecursion}
use Rattle.std.specs.Str.{str_to_ascii_lowercase}
use Rattle.std.proofs.lemmas.List.{append-nil}
use Rattle.byte_text.specs.Names.{Bytes, is_word}
use Rattle.world_model.specs.Grammar.{Form, done, live, one_of, ◌>>=◌, once_or_more}
use Rattle.world_model.specs.Commands.{Row, form_of, command_rows, setchan_words, readings, reads, is_open, shown_of, wrong_count}
use Rattle.world_model.specs.declared.faults.WordFault.TheVariants as fault
use Rattle.cmd_words.proofs.Follows.{stopped, shut_by}
use Rattle.world_model.specs.declared.commands.Command.{Command}
use Rattle.world_model.specs.declared.commands.Command.TheVariants as command
use Rattle.world_model.specs.declared.object_commands.ObjectCommand.TheVariants as of_object
use Rattle.world_model.specs.declared.channel_commands.ChannelCommand.TheVariants as of_channel
use Rattle.world_model.specs.declared.session_commands.SessionCommand.TheVariants as of_session
use Rattle.cmd_words.specs.CommandNames.{IsNoName}
use Rattle.cmd_words.specs.Progress.{Place, Follows, Answers, IsFault, a_name, key_and_id, get_options, name_of, glob_of, answered}
use Rattle.cmd_words.specs.Sets.{behind_set, field_step, fields_first, fset_of}
use Rattle.cmd_words.proofs.Binds.{bind_same}
use Rattle.cmd_words.proofs.FieldLists.{first_field}
use Rattle.world_model.specs.Kinds.{name, glob, seconds}
use Rattle.cmd_words.specs.NameLists.{some_names}
use Rattle.cmd_words.specs.Scans.{behind_scan}
use Rattle.cmd_words.specs.Searches.{behind_search, behind_nearby}
use Rattle.cmd_words.specs.Channels.{behind_setchan}
use Rattle.cmd_words.proofs.SetchanHead.{setchan_same}
use Rattle.world_data.specs.declared.channels.Kind.TheVariants.{Within, Intersects}
use Rattle.cmd_words.proofs.Gets.{lower_word}
use Rattle.cmd_words.proofs.NameLists.{first_name}
use Rattle.cmd_words.specs.declared.faults.CommandFault.{CommandFault}

-- the name of a command, and the words behind it
begins : (called : Bytes) (p : Place) (f : Form Command) → p.read ≡ called ∷ [] → ((more : List Bytes) → readings (called ∷ more) ≡ live (f more)) → Follows p f
begins called p f r e = record { begun = subst (λ (l : List Bytes). 0 < length l) (sym r) (omega arith); goes = λ more. ap (λ (l : List Bytes). readings (l ++ more)) r ∙ e more }

set_goes : (called : Bytes) (more : List Bytes) → str_to_ascii_lowercase called ≡ codes "set" → readings (called ∷ more) ≡ live (key_and_id behind_set more)
unfolding readings
set_goes called more e = rw e (simp append-nil)

get_goes : (called : Bytes) (more : List Bytes) → str_to_ascii_lowercase called ≡ codes "get" → readings (called ∷ more) ≡ live (key_and_id get_options more)
unfolding readings
get_goes called more e = rw e (simp append-nil)

del_goes : (called : Bytes) (more : List Bytes) → str_to_ascii_lowercase called ≡ codes "del" → readings (called ∷ more) ≡ live (key_and_id (λ k. done (command.Object (of_object.Del k.0 k.1))) more)
unfolding readings
del_goes called more e = rw e (simp append-nil)

drop_goes : (called : Bytes) (more : List Bytes) → str_to_ascii_lowercase called ≡ codes "drop" → readings (called ∷ more) ≡ live (a_name (λ key. done (command.Object (of_object.Drop key))) more)
unfolding readings
drop_goes called more e = rw e (simp append-nil)

bounds_goes : (called : Bytes) (more : List Bytes) → str_to_ascii_lowercase called ≡ codes "bounds" → readings (called ∷ more) ≡ live (a_name (λ key. done (command.Object (of_object.Bounds key))) more)
unfolding readings
bounds_goes called more e = rw e (simp append-nil)

stats_goes : (called : Bytes) (more : List Bytes) → str_to_ascii_lowercase called ≡ codes "stats" → readings (called ∷ more) ≡ live (some_names name_of (λ keys. command.Object (of_object.Stats keys)) more)
unfolding readings
stats_goes called more e = rw e (simp append-nil (first_name name_of (λ keys. command.Object (of_object.Stats keys)) more))

flush_goes : (called : Bytes) (more : List Bytes) → str_to_ascii_lowercase called ≡ codes "flushdb" → readings (called ∷ more) ≡ live (done (command.Object of_object.Flush) more)
unfolding readings
flush_goes called more e = rw e refl

ping_goes : (called : Bytes) (more : List Bytes) → str_to_ascii_lowercase called ≡ codes "ping" → readings (called ∷ more) ≡ live (done (command.Session of_session.Ping) more)
unfolding readings
ping_goes called more e = rw e refl

quit_goes : (called : Bytes) (more : List Bytes) → str_to_ascii_lowercase called ≡ codes "quit" → readings (called ∷ more) ≡ live (done (command.Session of_session.Quit) more)
unfolding readings
quit_goes called more e = rw e refl

pub set_head : (called : Bytes) (p : Place) → p.read ≡ called ∷ [] → is_word called (codes "SET") ≡ true → Follows p (key_and_id behind_set)
set_head called p r e = begins called p _ r (λ more. set_goes called more (lower_word called (codes "SET") e))

fget_goes : (called : Bytes) (more : List Bytes) → str_to_ascii_lowercase called ≡ codes "fget" → readings (called ∷ more) ≡ live ((key_and_id (λ k. name >>= λ field. done (command.Object (of_object.Fget k.0 k.1 field)))) more)
unfolding readings
fget_goes called more e = rw e (simp append-nil)

pub fget_head : (called : Bytes) (p : Place) → p.read ≡ called ∷ [] → is_word called (codes "FGET") ≡ true → Follows p (key_and_id (λ k. name >>= λ field. done (command.Object (of_object.Fget k.0 k.1 field))))
fget_head called p r e = begins called p _ r (λ more. fget_goes called more (lower_word called (codes "FGET") e))

expire_goes : (called : Bytes) (more : List Bytes) → str_to_ascii_lowercase called ≡ codes "expire" → readings (called ∷ more) ≡ live ((key_and_id (λ k. seconds >>= λ s. done (command.Object (of_object.Expire k.0 k.1 s)))) more)
unfolding readings
expire_goes called more e = rw e (simp append-nil)

pub expire_head : (called : Bytes) (p : Place) → p.read ≡ called ∷ [] → is_word called (codes "EXPIRE") ≡ true → Follows p (key_and_id (λ k. seconds >>= λ s. done (command.Object (of_object.Expire k.0 k.1 s))))
expire_head called p r e = begins called p _ r (λ more. expire_goes called more (lower_word called (codes "EXPIRE") e))

persist_goes : (called : Bytes) (more : List Bytes) → str_to_ascii_lowercase called ≡ codes "persist" → readings (called ∷ more) ≡ live ((key_and_id (λ k. done (command.Object (of_object.Persist k.0 k.1)))) more)
unfolding readings
persist_goes called more e = rw e (simp append-nil)

pub persist_head : (called : Bytes) (p : Place) → p.read ≡ called ∷ [] → is_word called (codes "PERSIST") ≡ true → Follows p (key_and_id (λ k. done (command.Object (of_object.Persist k.0 k.1))))
persist_head called p r e = begins called p _ r (λ more. persist_goes called more (lower_word called (codes "PERSIST") e))

ttl_goes : (called : Bytes) (more : List Bytes) → str_to_ascii_lowercase called ≡ codes "ttl" → readings (called ∷ more) ≡ live ((key_and_id (λ k. done (command.Object (of_object.Ttl k.0 k.1)))) more)
unfolding readings
ttl_goes called more e = rw e (simp append-nil)

pub ttl_head : (called : Bytes) (p : Place) → p.read ≡ called ∷ [] → is_word called (codes "TTL") ≡ true → Follows p (key_and_id (λ k. done (command.Object (of_object.Ttl k.0 k.1))))
ttl_head called p r e = begins called p _ r (λ more. ttl_goes called more (lower_word called (codes "TTL") e))

pdel_goes : (called : Bytes) (more : List Bytes) → str_to_ascii_lowercase called ≡ codes "pdel" → readings (called ∷ more) ≡ live ((a_name (λ key. glob >>= λ pattern. done (command.Object (of_object.Pdel key pattern)))) more)
unfolding readings
pdel_goes called more e = rw e (simp append-nil)

pub pdel_head : (called : Bytes) (p : Place) → p.read ≡ called ∷ [] → is_word called (codes "PDEL") ≡ true → Follows p (a_name (λ key. glob >>= λ pattern. done (command.Object (of_object.Pdel key pattern))))
pdel_head called p r e = begins called p _ r (λ more. pdel_goes called more (lower_word called (codes "PDEL") e))

keys_goes : (called : Bytes) (more : List Bytes) → str_to_ascii_lowercase called ≡ codes "keys" → readings (called ∷ more) ≡ live ((glob >>= λ pattern. done (command.Object (of_object.Keys pattern))) more)
unfolding readings
keys_goes called more e = rw e (simp append-nil)

pub keys_head : (called : Bytes) (p : Place) → p.read ≡ called ∷ [] → is_word called (codes "KEYS") ≡ true → Follows p (glob >>= λ pattern. done (command.Object (of_object.Keys pattern)))
keys_head called p r e = begins called p _ r (λ more. keys_goes called more (lower_word called (codes "KEYS") e))

fset_goes : (called : Bytes) (more : List Bytes) → str_to_ascii_lowercase called ≡ codes "fset" → readings (called ∷ more) ≡ live (key_and_id (λ k. once_or_more field_step [] >>= λ given. done (fset_of k given)) more)
unfolding readings
fset_goes called more e = rw e (simp append-nil)

fields_go : (more : List Bytes) → key_and_id (λ k. once_or_more field_step [] >>= λ given. done (fset_of k given)) more ≡ key_and_id (λ k. fields_first (fset_of k)) more
fields_go more = bind_same name _ _ (λ key rest. bind_same name _ _ (λ id words. first_field (fset_of (key, id)) words) rest) more

pub fset_head : (called : Bytes) (p : Place) → p.read ≡ called ∷ [] → is_word called (codes "FSET") ≡ true → Follows p (key_and_id (λ k. fields_first (fset_of k)))
fset_head called p r e = begins called p _ r (λ more. fset_goes called more (lower_word called (codes "FSET") e) ∙ ap live (fields_go more))

scan_goes : (called : Bytes) (more : List Bytes) → str_to_ascii_lowercase called ≡ codes "scan" → readings (called ∷ more) ≡ live (a_name behind_scan more)
unfolding readings
scan_goes called more e = rw e (simp append-nil)

pub scan_head : (called : Bytes) (p : Place) → p.read ≡ called ∷ [] → is_word called (codes "SCAN") ≡ true → Follows p (a_name behind_scan)
scan_head called p r e = begins called p _ r (λ more. scan_goes called more (lower_word called (codes "SCAN") e))

within_goes : (called : Bytes) (more : List Bytes) → str_to_ascii_lowercase called ≡ codes "within" → readings (called ∷ more) ≡ live (a_name (behind_search Within) more)
unfolding readings
within_goes called more e = rw e (simp append-nil)

pub within_head : (called : Bytes) (p : Place) → p.read ≡ called ∷ [] → is_word called (codes "WITHIN") ≡ true → Follows p (a_name (behind_search Within))
within_head called p r e = begins called p _ r (λ more. within_goes called more (lower_word called (codes "WITHIN") e))

intersects_goes : (called : Bytes) (more : List Bytes) → str_to_ascii_lowercase called ≡ codes "intersects" → readings (called ∷ more) ≡ live (a_name (behind_search Intersects) more)
unfolding readings
intersects_goes called more e = rw e (simp append-nil)

pub intersects_head : (called : Bytes) (p : Place) → p.read ≡ called ∷ [] → is_word called (codes "INTERSECTS") ≡ true → Follows p (a_name (behind_search Intersects))
intersects_head called p r e = begins called p _ r (λ more. intersects_goes called more (lower_word called (codes "INTERSECTS") e))

nearby_goes : (called : Bytes) (more : List Bytes) → str_to_ascii_lowercase called ≡ codes "nearby" → readings (called ∷ more) ≡ live (a_name behind_nearby more)
unfolding readings
nearby_goes called more e = rw e (simp append-nil)

pub nearby_head : (called : Bytes) (p : Place) → p.read ≡ called ∷ [] → is_word called (codes "NEARBY") ≡ true → Follows p (a_name behind_nearby)
nearby_head called p r e = begins called p _ r (λ more. nearby_goes called more (lower_word called (codes "NEARBY") e))

pub get_head : (called : Bytes) (p : Place) → p.read ≡ called ∷ [] → is_word called (codes "GET") ≡ true → Follows p (key_and_id get_options)
get_head called p r e = begins called p _ r (λ more. get_goes called more (lower_word called (codes "GET") e))

pub del_head : (called : Bytes) (p : Place) → p.read ≡ called ∷ [] → is_word called (codes "DEL") ≡ true → Follows p (key_and_id (λ k. done (command.Object (of_object.Del k.0 k.1))))
del_head called p r e = begins called p _ r (λ more. del_goes called more (lower_word called (codes "DEL") e))

pub drop_head : (called : Bytes) (p : Place) → p.read ≡ called ∷ [] → is_word called (codes "DROP") ≡ true → Follows p (a_name (λ key. done (command.Object (of_object.Drop key))))
drop_head called p r e = begins called p _ r (λ more. drop_goes called more (lower_word called (codes "DROP") e))

pub bounds_head : (called : Bytes) (p : Place) → p.read ≡ called ∷ [] → is_word called (codes "BOUNDS") ≡ true → Follows p (a_name (λ key. done (command.Object (of_object.Bounds key))))
bounds_head called p r e = begins called p _ r (λ more. bounds_goes called more (lower_word called (codes "BOUNDS") e))

pub stats_head : (called : Bytes) (p : Place) → p.read ≡ called ∷ [] → is_word called (codes "STATS") ≡ true → Follows p (some_names name_of (λ keys. command.Object (of_object.Stats keys)))
stats_head called p r e = begins called p _ r (λ more. stats_goes called more (lower_word called (codes "STATS") e))

pub flush_head : (called : Bytes) (p : Place) → p.read ≡ called ∷ [] → is_word called (codes "FLUSHDB") ≡ true → Follows p (done (command.Object of_object.Flush))
flush_head called p r e = begins called p _ r (λ more. flush_goes called more (lower_word called (codes "FLUSHDB") e))

pub ping_head : (called : Bytes) (p : Place) → p.read ≡ called ∷ [] → is_word called (codes "PING") ≡ true → Follows p (done (command.Session of_session.Ping))
ping_head called p r e = begins called p _ r (λ more. ping_goes called more (lower_word called (codes "PING") e))

pub quit_head : (called : Bytes) (p : Place) → p.read ≡ called ∷ [] → is_word called (codes "QUIT") ≡ true → Follows p (done (command.Session of_session.Quit))
quit_head called p r e = begins called p _ r (λ more. quit_goes called more (lower_word called (codes "QUIT") e))

shrink_goes : (called : Bytes) (more : List Bytes) → str_to_ascii_lowercase called ≡ codes "aofshrink" → readings (called ∷ more) ≡ live (done (command.Object of_object.Shrink) more)
unfolding readings
shrink_goes called more e = rw e refl

pub shrink_head : (called : Bytes) (p : Place) → p.read ≡ called ∷ [] → is_word called (codes "AOFSHRINK") ≡ true → Follows p (done (command.Object of_object.Shrink))
shrink_head called p r e = begins called p _ r (λ more. shrink_goes called more (lower_word called (codes "AOFSHRINK") e))

-- channels and subscriptions

delchan_goes : (called : Bytes) (more : List Bytes) → str_to_ascii_lowercase called ≡ codes "delchan" → readings (called ∷ more) ≡ live (a_name (λ n. done (command.Channel (of_channel.Delchan n))) more)
unfolding readings
delchan_goes called more e = rw e (simp append-nil)

pub delchan_head : (called : Bytes) (p : Place) → p.read ≡ called ∷ [] → is_word called (codes "DELCHAN") ≡ true → Follows p (a_name (λ n. done (command.Channel (of_channel.Delchan n))))
delchan_head called p r e = begins called p _ r (λ more. delchan_goes called more (lower_word called (codes "DELCHAN") e))

pdelchan_goes : (called : Bytes) (more : List Bytes) → str_to_ascii_lowercase called ≡ codes "pdelchan" → readings (called ∷ more) ≡ live ((glob >>= λ pattern. done (command.Channel (of_channel.Pdelchan pattern))) more)
unfolding readings
pdelchan_goes called more e = rw e (simp append-nil)

pub pdelchan_head : (called : Bytes) (p : Place) → p.read ≡ called ∷ [] → is_word called (codes "PDELCHAN") ≡ true → Follows p (glob >>= λ pattern. done (command.Channel (of_channel.Pdelchan pattern)))
pdelchan_head called p r e = begins called p _ r (λ more. pdelchan_goes called more (lower_word called (codes "PDELCHAN") e))

chans_goes : (called : Bytes) (more : List Bytes) → str_to_ascii_lowercase called ≡ codes "chans" → readings (called ∷ more) ≡ live ((glob >>= λ pattern. done (command.Channel (of_channel.Chans pattern))) more)
unfolding readings
chans_goes called more e = rw e (simp append-nil)

pub chans_head : (called : Bytes) (p : Place) → p.read ≡ called ∷ [] → is_word called (codes "CHANS") ≡ true → Follows p (glob >>= λ pattern. done (command.Channel (of_channel.Chans pattern)))
chans_head called p r e = begins called p _ r (λ more. chans_goes called more (lower_word called (codes "CHANS") e))

subscribe_goes : (called : Bytes) (more : List Bytes) → str_to_ascii_lowercase called ≡ codes "subscribe" → readings (called ∷ more) ≡ live (some_names name_of (λ names. command.Session (of_session.Subscribe names)) more)
unfolding readings
subscribe_goes called more e = rw e (simp append-nil (first_name name_of (λ names. command.Session (of_session.Subscribe names)) more))

pub subscribe_head : (called : Bytes) (p : Place) → p.read ≡ called ∷ [] → is_word called (codes "SUBSCRIBE") ≡ true → Follows p (some_names name_of (λ names. command.Session (of_session.Subscribe names)))
subscribe_head called p r e = begins called p _ r (λ more. subscribe_goes called more (lower_word called (codes "SUBSCRIBE") e))

psubscribe_goes : (called : Bytes) (more : List Bytes) → str_to_ascii_lowercase called ≡ codes "psubscribe" → readings (called ∷ more) ≡ live (some_names glob_of (λ patterns. command.Session (of_session.Psubscribe patterns)) more)
unfolding readings
psubscribe_goes called more e = rw e (simp append-nil (first_name glob_of (λ patterns. command.Session (of_session.Psubscribe patterns)) more))

pub psubscribe_head : (called : Bytes) (p : Place) → p.read ≡ called ∷ [] → is_word called (codes "PSUBSCRIBE") ≡ true → Follows p (some_names glob_of (λ patterns. command.Session (of_session.Psubscribe patterns)))
psubscribe_head called p r e = begins called p _ r (λ more. psubscribe_goes called more (lower_word called (codes "PSUBSCRIBE") e))

setchan_goes : (called : Bytes) (more : List Bytes) → str_to_ascii_lowercase called ≡ codes "setchan" → readings (called ∷ more) ≡ live (setchan_words more)
unfolding readings
setchan_goes called more e = rw e (simp append-nil)

pub setchan_head : (called : Bytes) (p : Place) → p.read ≡ called ∷ [] → is_word called (codes "SETCHAN") ≡ true → Follows p (a_name behind_setchan)
setchan_head called p r e = begins called p _ r (λ more. setchan_goes called more (lower_word called (codes "SETCHAN") e) ∙ ap live (setchan_same more))

-- no word, or no command's name
nothing_starts : is_open [] ≡ true
unfolding readings
nothing_starts = refl

nothing_spelled : reads [] ≡ Err (wrong_count [])
unfolding readings
nothing_spelled = refl

no_row : (rows : List Row) (called : Bytes) (more : List Bytes) → AllByRecursion (λ r. is_word called r.called ≡ false) rows → one_of (map form_of rows) (called ∷ more) ≡ []
no_row [] called more none = refl
no_row (r ∷ rows) called more none = rw none.0 (no_row rows called more none.1)

nothing_goes : (called : Bytes) → IsNoName called → readings (called ∷ []) ≡ []
unfolding readings
nothing_goes called none = ap live (no_row command_rows called [] none)

unknown : (called : Bytes) (rest : List Bytes) → IsNoName called → reads (called ∷ rest) ≡ Err (fault.Unknown (shown_of called))
unknown called rest n = stopped [] called rest nothing_starts (shut_by (called ∷ []) (nothing_goes called n))

pub not_known : (called : Bytes) (rest : List Bytes) (why : CommandFault) → IsNoName called → IsFault (fault.Unknown (shown_of called)) why → Answers (called ∷ rest) (Err why)
not_known called rest why n (inl m) = inl m
not_known called rest why n (inr e) = inr (rw e (ap answered (unknown called rest n)))

pub no_words : (why : CommandFault) → IsFault (wrong_count []) why → Answers [] (Err why)
no_words why (inl m) = inl m
no_words why (inr e) = inr (rw e (ap answered nothing_spelled))
