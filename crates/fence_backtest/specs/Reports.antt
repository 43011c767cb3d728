-- What a fence would have told: the report of a log's changes on a channel.
use Rattle.std.specs.Prelude.{ℕ, ℤ, ◌+◌, ◌*◌, ◌/◌, ◌-ℤ◌, nat_abs, ◌==◌, Bool, false, ◌&&◌, List, [], ◌∷◌, ◌++◌, length, map, filter, flat_map, Option}
use Rattle.std.specs.Prelude.{Some, None, if◌then◌else◌, codes, decimal}
use Rattle.byte_text.specs.Names.{Bytes, same}
use Rattle.planar_geom.specs.Points.{Point, Bounds, in_box}
use Rattle.planar_geom.specs.Relations.{area_box}
use Rattle.script_text.specs.Escaped.{escaped}
use Rattle.world_data.specs.Worlds.{after, empty_world, object_at}
use Rattle.world_data.specs.declared.channels.Channel.{Channel}
use Rattle.world_data.specs.declared.channels.Raised.{Raised}
use Rattle.world_data.specs.declared.channels.Raised.TheVariants as raised
use Rattle.world_data.specs.declared.channels.Watch.{Watch}
use Rattle.world_data.specs.declared.channels.Watch.TheVariants.{Zone, Roam}
use Rattle.world_data.specs.declared.objects.Object.{Object}
use Rattle.world_data.specs.declared.worlds.Change.{Change}
use Rattle.world_data.specs.declared.worlds.Change.TheVariants.{Put, Del, Drop, Flush, SetChan, DelChan}
use Rattle.world_data.specs.declared.worlds.World.{World}
use Rattle.fence_model.specs.Fences.{place_of, raised_by_drop, raised_of}
use Rattle.fence_model.specs.Messages.{detect_name}

-- items

-- the object that stands in a world where a change of this key puts or deletes one
abbrev pub stood : Bytes → World → Change → Option Object
stood key w (Put o) = if same o.key key then object_at w key o.id else None
stood key w (Del other id) = if same other key then object_at w key id else None
stood key w (Drop other) = None
stood key w Flush = None
stood key w (SetChan c) = None
stood key w (DelChan name) = None

-- what a change raises on a channel, by the object that stood there: a put is taken as that of SET
abbrev pub raised_by : Channel → Option Object → Change → List Raised
raised_by c old (Put o) = if same o.key c.fence.key then raised_of c old (Some o) else []
raised_by c old (Del key id) = if same key c.fence.key then raised_of c old None else []
raised_by c old (Drop key) = if same key c.fence.key && raised_by_drop c.fence then raised.Drop ∷ [] else []
raised_by c old Flush = []
raised_by c old (SetChan d) = []
raised_by c old (DelChan name) = []

-- what each of these changes raises, from a world on
abbrev pub raised_from : Channel → World → List Change → List (List Raised)
raised_from c w [] = []
raised_from c w (change ∷ changes) = raised_by c (stood c.fence.key w change) change ∷ raised_from c (after w change) changes

-- lines

abbrev pub raised_name : Raised → Bytes
raised_name (raised.Set d) = detect_name d
raised_name raised.Del = codes "del"
raised_name raised.Drop = codes "drop"

-- the id behind what was raised; a drop has none
abbrev pub id_word : Change → Bytes
id_word (Put o) = 32 ∷ escaped o.id
id_word (Del key id) = 32 ∷ escaped id
id_word (Drop key) = []
id_word Flush = []
id_word (SetChan c) = []
id_word (DelChan name) = []

-- the line of an item: the number of the change's record, what it raises, and the id
abbrev pub item_line : ℕ → Change → Raised → Bytes
item_line number change item = decimal number ++ 32 ∷ (raised_name item ++ (id_word change ++ 10 ∷ []))

-- the lines of changes and what each raises, numbered from a number on
abbrev pub lines_of : ℕ → List Change → List (List Raised) → List Bytes
lines_of number [] items = []
lines_of number (change ∷ changes) [] = []
lines_of number (change ∷ changes) (items ∷ others) = map (item_line number change) items ++ lines_of (number + 1) changes others

abbrev pub item_lines : Channel → List Change → List Bytes
item_lines c changes = lines_of 1 changes (raised_from c empty_world changes)

-- the grid

-- in which of eight equal parts of a range, from 0 on, a number of it stands
abbrev pub eighth : ℤ → ℤ → ℤ → ℕ
eighth low high a = nat_abs (a -ℤ low) * 8 / (nat_abs (high -ℤ low) + 1)

-- the point is in this part of the box, by row from the south and column from the west
abbrev pub is_in_cell : Bounds → ℕ → ℕ → Point → Bool
is_in_cell b row column p = in_box b p && (eighth b.min.y b.max.y p.y == row && eighth b.min.x b.max.x p.x == column)

-- a put of this key whose object has its place there
abbrev pub is_put_in : Bytes → Bounds → ℕ → ℕ → Change → Bool
is_put_in key b row column (Put o) = same o.key key && is_in_cell b row column (place_of o)
is_put_in key b row column (Del other id) = false
is_put_in key b row column (Drop other) = false
is_put_in key b row column Flush = false
is_put_in key b row column (SetChan c) = false
is_put_in key b row column (DelChan name) = false

abbrev pub put_count : Bytes → Bounds → List Change → ℕ → ℕ → ℕ
put_count key b changes row column = length (filter (is_put_in key b row column) changes)

-- eight numbers in a line
abbrev pub row_text : (ℕ → ℕ) → Bytes
row_text count = decimal (count 0) ++ (flat_map (λ column. 32 ∷ decimal (count column)) (1 ∷ 2 ∷ 3 ∷ 4 ∷ 5 ∷ 6 ∷ 7 ∷ []) ++ 10 ∷ [])

-- eight lines of them
abbrev pub grid_text : (ℕ → ℕ → ℕ) → Bytes
grid_text count = flat_map (λ row. row_text (count row)) (0 ∷ 1 ∷ 2 ∷ 3 ∷ 4 ∷ 5 ∷ 6 ∷ 7 ∷ [])

-- the box of what a channel watches
abbrev pub watch_box : Watch → Option Bounds
watch_box (Zone kind a) = Some (area_box a)
watch_box (Roam key pattern meters nodwell) = None

abbrev pub grid_of : Channel → List Change → Option Bounds → Bytes
grid_of c changes None = []
grid_of c changes (Some b) = grid_text (put_count c.fence.key b changes)

-- the report

abbrev pub total_line : ℕ → Bytes
total_line total = codes "total " ++ (decimal total ++ 10 ∷ [])

-- The items of the changes as lines, how many these are, and how many puts of the key had their place in each part of the area's box.
-- Nothing of it says how the work is cut: it is what one thread tells that does the changes one by one.
abbrev pub report : Channel → List Change → Bytes
report c changes = let lines = item_lines c changes in
    flat_map (λ line. line) lines ++ (total_line (length lines) ++ grid_of c changes (watch_box c.fence.watch))
