-- Worked runs of the machine: what waits for a session after requests of two sessions.
use Rattle.std.specs.Prelude.{◌≡◌, ℕ, ◌+◌, List, [], ◌∷◌, ◌++◌, codes, Some, None, Option, length, map, if◌then◌else◌}
use Prim.Native.String.{String}
use Rattle.byte_text.specs.Names.{Bytes}
use Rattle.byte_text.specs.Replies.{frame_text, array, bulk, number}
use Rattle.world_data.specs.Worlds.{empty_world}
use Rattle.worked_examples.specs.Commands.{line}
use Rattle.world_model.specs.Commands.{reads}
use Rattle.world_model.specs.Halls.{Hall, Session, session_of, is_live, due, do_words}
use Rattle.world_model.specs.Histories.{Ending, answer, refusal, doing, opening_hall, gave, acknowledges, acked_count}
use Rattle.world_model.specs.declared.events.Asked.TheVariants.{Words, Broken}
use Rattle.world_model.specs.declared.events.CallOutcome.TheVariants as called
use Rattle.world_model.specs.declared.events.Entry.{Entry}
use Rattle.world_model.specs.declared.events.Event.{Event}
use Rattle.world_model.specs.declared.events.Event.TheVariants.{Enter, Call, Take, Tick, Close, Remove, Rewrite, Retire}
use Rattle.world_model.specs.declared.events.Outcome.{Outcome}
use Rattle.world_model.specs.declared.events.Outcome.TheVariants.{Given}

abbrev done_words : Hall → Option Session → List Bytes → Hall
done_words h None words = h
done_words h (Some s) words = if is_live s then do_words h s (reads words) else h

-- the hall after an event where nothing fails; every command is read, also one that the step does not serve yet
abbrev after_event : Hall → Event → Hall
after_event h (Call n moment (Words words)) = let later = due h moment in done_words later (session_of later n) words
after_event h (Call n moment (Broken f)) = (doing h (Call n moment (Broken f))).1
after_event h Enter = (doing h Enter).1
after_event h (Take n) = (doing h (Take n)).1
after_event h (Tick moment) = (doing h (Tick moment)).1
after_event h (Close n) = (doing h (Close n)).1
after_event h (Remove n) = (doing h (Remove n)).1
after_event h Rewrite = (doing h Rewrite).1
after_event h Retire = (doing h Retire).1

abbrev or_done : Hall → Event → Option Ending → Hall
or_done h e None = after_event h e
or_done h e (Some refused) = refused.1

abbrev pub run : Hall → List Event → Hall
run h [] = h
run h (e ∷ events) = run (or_done h e (refusal h e)) events

abbrev fresh : Hall
fresh = opening_hall empty_world 17

abbrev pub asks : ℕ → ℕ → String → Event
asks n moment s = Call n moment (Words (line s))

abbrev pub frames_in : Option Session → List Bytes
frames_in None = []
frames_in (Some s) = s.frames

-- the frames that wait for a session after a run of two sessions
abbrev pub waiting : ℕ → List Event → List Bytes
waiting n events = frames_in (session_of (run fresh (Enter ∷ Enter ∷ events)) n)

abbrev confirmed : String → Bytes
confirmed name = frame_text (array (bulk (codes "subscribe") ∷ bulk (codes name) ∷ number 1 ∷ []))

abbrev on : String → String → Bytes
on name payload = frame_text (array (bulk (codes "message") ∷ bulk (codes name) ∷ bulk (codes payload) ∷ []))

-- the channel of most examples: session 1 listens to z, session 2 sets it over the square of side 10
abbrev square : List Event
square = asks 1 0 "SUBSCRIBE z" ∷ asks 2 0 "SETCHAN z WITHIN k FENCE BOUNDS 0 0 10 10" ∷ []

abbrev replies : ℕ → List String → List Bytes
replies n lines = waiting n (map (asks n 0) lines)

abbrev ends : Event → Outcome → Entry
ends event outcome = record { event = event; outcome = outcome; note = []; moment = 0; count = 0 }

-- a frame is given, a step of rewriting is done, and another wants memory
abbrev rewriting : List Entry
rewriting = ends (Take 1) (Given (codes "+OK\r\n" ∷ [])) ∷ ends Rewrite (answer called.Ok) ∷ ends Rewrite (answer called.Memory) ∷ []

pub record HoldsRuns : Type 0 where
  pub one_point : waiting 1 (asks 1 0 "SET fleet truck1 POINT 33 112" ∷ asks 1 0 "GET fleet truck1" ∷ [])
      ≡ codes "+OK\r\n" ∷ codes "$39\r\n{\"type\":\"Point\",\"coordinates\":[112,33]}\r\n" ∷ []
  -- an object jumps over the square: it crosses it
  pub cross : waiting 1 (square ++ asks 2 0 "SET k a POINT 5 -5" ∷ asks 2 0 "SET k a POINT 5 15" ∷ [])
      ≡ confirmed "z" ∷ on "z"
      "{\"command\":\"set\",\"detect\":\"outside\",\"hook\":\"z\",\"key\":\"k\",\"id\":\"a\",\"object\":{\"type\":\"Point\",\"coordinates\":[-5,5]}}"
      ∷ on "z" "{\"command\":\"set\",\"detect\":\"cross\",\"hook\":\"z\",\"key\":\"k\",\"id\":\"a\",\"object\":{\"type\":\"Point\",\"coordinates\":[15,5]}}"
      ∷ on "z" "{\"command\":\"set\",\"detect\":\"outside\",\"hook\":\"z\",\"key\":\"k\",\"id\":\"a\",\"object\":{\"type\":\"Point\",\"coordinates\":[15,5]}}" ∷ []
  -- one in it twice: enter, inside, inside
  pub stays : length (waiting 1 (square ++ asks 2 0 "SET k b POINT 1 1" ∷ asks 2 0 "SET k b POINT 1 1" ∷ [])) ≡ 4
  -- two objects whose deadlines are equal go by id, at the second tick
  pub expiry : waiting 1 (asks 1 0 "SUBSCRIBE z" ∷ asks 2 0 "SETCHAN z WITHIN k FENCE COMMANDS del BOUNDS 0 0 10 10"
      ∷ asks 2 0 "SET k b EX 1 POINT 1 1" ∷ asks 2 0 "SET k a EX 1 POINT 2 2" ∷ Tick 999 ∷ Tick 1000 ∷ [])
      ≡ confirmed "z" ∷ on "z" "{\"command\":\"del\",\"hook\":\"z\",\"key\":\"k\",\"id\":\"a\"}" ∷
      on "z" "{\"command\":\"del\",\"hook\":\"z\",\"key\":\"k\",\"id\":\"b\"}" ∷ []
  -- a channel goes before what is due later, silently, and hears nothing of it
  pub channel_goes : waiting 1 (asks 1 0 "SUBSCRIBE z" ∷ asks 2 0 "SETCHAN z EX 1 WITHIN k FENCE DETECT inside BOUNDS 0 0 10 10"
      ∷ asks 2 0 "SET k a EX 1 POINT 1 1" ∷ asks 2 0 "SET k b EX 2 POINT 1 1" ∷ Tick 2000 ∷ [])
      ≡ confirmed "z"
      ∷ on "z" "{\"command\":\"set\",\"detect\":\"inside\",\"hook\":\"z\",\"key\":\"k\",\"id\":\"a\",\"object\":{\"type\":\"Point\",\"coordinates\":[1,1]}}"
      ∷ on "z" "{\"command\":\"set\",\"detect\":\"inside\",\"hook\":\"z\",\"key\":\"k\",\"id\":\"b\",\"object\":{\"type\":\"Point\",\"coordinates\":[1,1]}}"
      ∷ on "z" "{\"command\":\"del\",\"hook\":\"z\",\"key\":\"k\",\"id\":\"a\"}" ∷ []
  -- its deadline stands in no words, and a setting without EX has none
  pub channel_stays : replies 1 ("SETCHAN z EX 1 WITHIN k FENCE BOUNDS 0 0 1 1" ∷ "CHANS *" ∷ "SETCHAN z WITHIN k FENCE BOUNDS 0 0 1 1" ∷ [])
      ≡ codes ":1\r\n" ∷
      codes "*1\r\n*3\r\n$1\r\nz\r\n$1\r\nk\r\n*8\r\n$6\r\nWITHIN\r\n$1\r\nk\r\n$5\r\nFENCE\r\n$6\r\nBOUNDS\r\n$1\r\n0\r\n$1\r\n0\r\n$1\r\n1\r\n$1\r\n1\r\n"
      ∷ codes ":1\r\n" ∷ []
  pub channel_set_anew : waiting 1 (asks 1 0 "SETCHAN z EX 1 WITHIN k FENCE BOUNDS 0 0 1 1" ∷ asks 1 999 "SETCHAN z WITHIN k FENCE BOUNDS 0 0 1 1" ∷
      asks 1 1000 "PDELCHAN *" ∷ asks 1 1000 "SETCHAN z EX 1 WITHIN k FENCE BOUNDS 0 0 1 1" ∷ asks 1 2000 "PDELCHAN *" ∷ [])
      ≡ codes ":1\r\n" ∷ codes ":1\r\n" ∷ codes ":1\r\n" ∷ codes ":1\r\n" ∷ codes ":0\r\n" ∷ []
  pub ttl : waiting 1 (asks 1 0 "SET k a EX 1 POINT 2 2" ∷ asks 1 1 "TTL k a" ∷ asks 1 1000 "TTL k a" ∷ [])
      ≡ codes "+OK\r\n" ∷ codes ":1\r\n" ∷ codes ":-2\r\n" ∷ []
  -- a cursor counts the matches passed
  pub cursor : replies 1 ("SET s a POINT 1 1" ∷ "SET s b POINT 1 1" ∷ "SET s c POINT 1 1" ∷ "SET s d POINT 1 1" ∷ "SET s e POINT 1 1"
      ∷ "SCAN s LIMIT 2 IDS" ∷ "DEL s a" ∷ "SCAN s CURSOR 2 LIMIT 2 IDS" ∷ "SCAN s DESC LIMIT 1 IDS" ∷ "SCAN none IDS" ∷ [])
      ≡ codes "+OK\r\n" ∷ codes "+OK\r\n" ∷ codes "+OK\r\n" ∷ codes "+OK\r\n" ∷ codes "+OK\r\n"
      ∷ codes "*2\r\n:2\r\n*2\r\n$1\r\na\r\n$1\r\nb\r\n" ∷ codes ":1\r\n" ∷ codes "*2\r\n:0\r\n*2\r\n$1\r\nd\r\n$1\r\ne\r\n"
      ∷ codes "*2\r\n:1\r\n*1\r\n$1\r\ne\r\n" ∷ codes "*2\r\n:0\r\n*0\r\n" ∷ []
  pub nearest : replies 1 ("SET n c POINT 0 3" ∷ "SET n a POINT 3 0" ∷ "SET n b POINT 0 -3" ∷ "NEARBY n LIMIT 2 IDS POINT 0 0" ∷
      "NEARBY n COUNT POINT 0 0 2" ∷ [])
      ≡ codes "+OK\r\n" ∷ codes "+OK\r\n" ∷ codes "+OK\r\n" ∷ codes "*2\r\n:2\r\n*2\r\n$1\r\na\r\n$1\r\nb\r\n" ∷ codes ":0\r\n" ∷ []
  pub fields : replies 1 ("SET k a FIELD speed 55 POINT 1 2" ∷ "GET k a WITHFIELDS" ∷ "GET k a POINT" ∷ "FSET k a speed 0" ∷ "FGET k a speed" ∷
      "SCAN k WHERE speed 1 +inf COUNT" ∷ "SET k a NX POINT 9 9" ∷ "STATS k none" ∷ [])
      ≡ codes "+OK\r\n" ∷ codes "*2\r\n$36\r\n{\"type\":\"Point\",\"coordinates\":[2,1]}\r\n*2\r\n$5\r\nspeed\r\n$2\r\n55\r\n" ∷
      codes "*2\r\n$1\r\n1\r\n$1\r\n2\r\n"
      ∷ codes ":1\r\n" ∷ codes "$1\r\n0\r\n" ∷ codes ":0\r\n" ∷ codes "$-1\r\n" ∷
      codes "*2\r\n*4\r\n$11\r\nnum_objects\r\n:1\r\n$10\r\nnum_points\r\n:1\r\n*-1\r\n" ∷ []
  pub texts : replies 1 ("SET k a FIELD state idle FIELD n 3 POINT 1 2" ∷ "FGET k a state" ∷ "SCAN k WHERE state idle idle COUNT" ∷
      "SCAN k WHERE state -inf +inf COUNT" ∷ "SCAN k WHEREIN state 2 3 idle COUNT" ∷ "SCAN k WHERE state idle busy COUNT" ∷
      "FSET k a state idle n idle" ∷ "FSET k a state 0" ∷ [])
      ≡ codes "+OK\r\n" ∷ codes "$4\r\nidle\r\n" ∷ codes ":1\r\n" ∷ codes ":0\r\n" ∷ codes ":1\r\n" ∷
      codes "-ERR invalid argument 'busy'\r\n" ∷ codes ":1\r\n" ∷ codes ":1\r\n" ∷ []
  pub refused : replies 1 ("SET fleet t POINT 33.5123 -112.2693" ∷ "GET fleet t" ∷ "FGET k a x" ∷ "SUBSCRIBE z" ∷ "GET k a" ∷ [])
      ≡ codes "-ERR coordinate is not a whole number '33.5123'\r\n" ∷ codes "$-1\r\n" ∷ codes "-ERR key not found\r\n" ∷ confirmed "z"
      ∷ codes "-ERR only SUBSCRIBE, PSUBSCRIBE, PING and QUIT are served while subscribed\r\n" ∷ []
  -- roaming with NODWELL: near, still near, and away
  pub roam : waiting 1 (asks 1 0 "SUBSCRIBE r" ∷ asks 2 0 "SETCHAN r NEARBY people FENCE NODWELL ROAM people * 10" ∷ asks 2 0 "SET people a POINT 0 0"
      ∷ asks 2 0 "SET people b POINT 0 5" ∷ asks 2 0 "SET people b POINT 0 6" ∷ asks 2 0 "SET people b POINT 0 50" ∷ [])
      ≡ confirmed "r"
      ∷ on "r" "{\"command\":\"set\",\"detect\":\"roam\",\"hook\":\"r\",\"key\":\"people\",\"id\":\"b\",\"object\":{\"type\":\"Point\",\"coordinates\":[5,0]},\"nearby\":{\"key\":\"people\",\"id\":\"a\",\"object\":{\"type\":\"Point\",\"coordinates\":[0,0]},\"meters\":5}}"
      ∷ on "r" "{\"command\":\"set\",\"detect\":\"roam\",\"hook\":\"r\",\"key\":\"people\",\"id\":\"b\",\"object\":{\"type\":\"Point\",\"coordinates\":[50,0]},\"faraway\":{\"key\":\"people\",\"id\":\"a\",\"object\":{\"type\":\"Point\",\"coordinates\":[0,0]},\"meters\":50}}" ∷ []
  -- without NODWELL what is still near is told again
  pub roam_again : waiting 1 (asks 1 0 "SUBSCRIBE r" ∷ asks 2 0 "SETCHAN r NEARBY people FENCE ROAM people * 10" ∷ asks 2 0 "SET people a POINT 0 0"
      ∷ asks 2 0 "SET people b POINT 0 5" ∷ asks 2 0 "SET people b POINT 0 6" ∷ [])
      ≡ confirmed "r"
      ∷ on "r" "{\"command\":\"set\",\"detect\":\"roam\",\"hook\":\"r\",\"key\":\"people\",\"id\":\"b\",\"object\":{\"type\":\"Point\",\"coordinates\":[5,0]},\"nearby\":{\"key\":\"people\",\"id\":\"a\",\"object\":{\"type\":\"Point\",\"coordinates\":[0,0]},\"meters\":5}}"
      ∷ on "r" "{\"command\":\"set\",\"detect\":\"roam\",\"hook\":\"r\",\"key\":\"people\",\"id\":\"b\",\"object\":{\"type\":\"Point\",\"coordinates\":[6,0]},\"nearby\":{\"key\":\"people\",\"id\":\"a\",\"object\":{\"type\":\"Point\",\"coordinates\":[0,0]},\"meters\":6}}" ∷ []
  -- a name and two patterns: three frames of one message
  pub patterns : map length
      (waiting 1 (asks 2 0 "SETCHAN z WITHIN k FENCE COMMANDS del BOUNDS 0 0 10 10" ∷ asks 2 0 "SET k a POINT 1 1" ∷ asks 1 0 "SUBSCRIBE z" ∷
      asks 1 0 "PSUBSCRIBE * z*" ∷ asks 2 0 "DEL k a" ∷ []))
      ≡ 30 ∷ 32 ∷ 33 ∷ 78 ∷ 86 ∷ 87 ∷ []
  pub record_length : (run fresh (Enter ∷ asks 1 0 "SET k a POINT 1 2" ∷ [])).logged ≡ 17 + 82
  -- the area of a stored object stands in the channel's words
  pub chans : replies 1 ("SET k a POINT 1 2" ∷ "SETCHAN z WITHIN k FENCE DETECT enter,exit GET k a" ∷ "CHANS *" ∷ [])
      ≡ codes "+OK\r\n" ∷ codes ":1\r\n" ∷
      codes "*1\r\n*3\r\n$1\r\nz\r\n$1\r\nk\r\n*7\r\n$6\r\nWITHIN\r\n$1\r\nk\r\n$5\r\nFENCE\r\n$6\r\nDETECT\r\n$10\r\nenter,exit\r\n$6\r\nOBJECT\r\n$36\r\n{\"type\":\"Point\",\"coordinates\":[2,1]}\r\n" ∷ []
  -- two of three entries are acknowledged; where frames alone acknowledge, the first
  pub acked : acked_count acknowledges rewriting ≡ 2
  pub acked_by_frames : acked_count gave rewriting ≡ 1
