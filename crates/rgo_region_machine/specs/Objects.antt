-- Which objects instructions make and touch, and how objects are placed in pages.
-- The tests on actions and instructions have a line for each, so that a new one has to be classified here.
use Rattle.std.specs.Prelude.{ℕ, ◌+◌, ◌-◌, ◌/◌, Bool, true, false, not, ◌&&◌, List, [], ◌∷◌, length, Option, Some, None}
use Rattle.std.specs.Prelude.{slice_get, nat_le, nat_lt, min, max, if◌then◌else◌}
use Rattle.rgo_typed.specs.declared.actions.Action.{Action}
use Rattle.rgo_typed.specs.declared.actions.Action.TheVariants as action
use Rattle.rgo_memory.specs.declared.values.Value.{Value}
use Rattle.rgo_memory.specs.declared.values.Value.TheVariants as value
use Rattle.rgo_memory.specs.Memory.{Object, StructObject, SliceObject, Channel}
use Rattle.rgo_tac.specs.declared.regions.Class.{Class}
use Rattle.rgo_tac.specs.declared.regions.Class.TheVariants.{NoClass}
use Rattle.rgo_tac.specs.Frames.{TacFrame, operand_values}
use Rattle.rgo_tac.specs.Tac.{TacState}
use Rattle.rgo_code.specs.Code.{CodeOp, CodeFn, Do, Call, Go, Print, Jump, Branch, Return}
use Rattle.rgo_code.specs.Names.{class_of}
use Rattle.rgo_region_machine.specs.declared.regions.Region.{Region}
use Rattle.rgo_region_machine.specs.Regions.{same_region, is_live, Bindings, class_region}
use Rattle.rgo_region_machine.specs.States.{Holder, RegionState}

-- ---- objects that are made

-- whether an action makes an object, unless it traps
abbrev pub makes_object : Action → Bool
makes_object (action.New n) = true
makes_object action.Slice = true
makes_object action.Chan = true
makes_object (action.Int k) = false
makes_object (action.Bool b) = false
makes_object action.Nil = false
makes_object action.Copy = false
makes_object (action.Binary op) = false
makes_object action.Neg = false
makes_object action.Not = false
makes_object action.IsNil = false
makes_object action.Len = false
makes_object (action.Load k) = false
makes_object (action.Store k) = false
makes_object action.At = false
makes_object action.Put = false
makes_object action.Recv = false
makes_object action.Send = false
makes_object action.Close = false
makes_object (action.Get n) = false
makes_object (action.Set n) = false

-- the class of the variable that an instruction writes
abbrev pub target_class : Option CodeFn → Option ℕ → Class
target_class None to = NoClass
target_class (Some f) None = NoClass
target_class (Some f) (Some d) = class_of f d

-- The region in which an instruction makes an object: that of the variable which takes it. The instruction itself names no region,
-- so the two cannot disagree.
abbrev pub making_region : Option CodeFn → Bindings → CodeOp → Option Region
making_region f names (Do to action from removes) =
    if makes_object action then class_region names (target_class f to) else None
making_region f names (Call to n from passes protects removes) = None
making_region f names (Go n from passes removes) = None
making_region f names (Print pieces from removes) = None
making_region f names (Jump target removes) = None
making_region f names (Branch test target removes other otherwise) = None
making_region f names (Return value) = None

-- the object that a step made, if it made one: a step adds at most one object, at the end of the heap
abbrev pub new_object : TacState → TacState → Option Object
new_object old next = slice_get next.memory.heap (length old.memory.heap)

-- ---- objects that are read or written

-- The object that an action reads or writes. A channel operation touches the channel, and not the object to which the value that
-- is sent or received points. An action on nil touches nothing, whatever it then does.
abbrev pub touched_by : Action → List Value → Option ℕ
touched_by (action.Load k) (value.Object o ∷ vs) = Some o
touched_by (action.Store k) (value.Object o ∷ vs) = Some o
touched_by action.At (value.Object o ∷ vs) = Some o
touched_by action.Put (value.Object o ∷ vs) = Some o
touched_by action.Len (value.Object o ∷ vs) = Some o
touched_by action.Recv (value.Object o ∷ vs) = Some o
touched_by action.Send (value.Object o ∷ vs) = Some o
touched_by action.Close (value.Object o ∷ vs) = Some o
touched_by (action.Load k) _ = None
touched_by (action.Store k) _ = None
touched_by action.At _ = None
touched_by action.Put _ = None
touched_by action.Len _ = None
touched_by action.Recv _ = None
touched_by action.Send _ = None
touched_by action.Close _ = None
touched_by (action.Int k) vs = None
touched_by (action.Bool b) vs = None
touched_by action.Nil vs = None
touched_by action.Copy vs = None
touched_by (action.Binary op) vs = None
touched_by action.Neg vs = None
touched_by action.Not vs = None
touched_by action.IsNil vs = None
touched_by (action.New n) vs = None
touched_by action.Slice vs = None
touched_by action.Chan vs = None
touched_by (action.Get n) vs = None
touched_by (action.Set n) vs = None

-- Only actions touch objects. A call, a start and a return pass pointers on without following them.
abbrev pub touched : TacFrame → CodeOp → Option ℕ
touched frame (Do to action from removes) = touched_by action (operand_values frame from)
touched frame (Call to n from passes protects removes) = None
touched frame (Go n from passes removes) = None
touched frame (Print pieces from removes) = None
touched frame (Jump target removes) = None
touched frame (Branch test target removes other otherwise) = None
touched frame (Return value) = None

-- whether the region of an object that was looked up is live; false if there is no such object
abbrev pub owner_live : RegionState → Option Region → Bool
owner_live s None = false
owner_live s (Some r) = is_live s.regions r

-- whether the object's region is live; what touches nothing may always be done
abbrev pub may_touch : RegionState → Option ℕ → Bool
may_touch s None = true
may_touch s (Some o) = owner_live s (slice_get s.owners o)

-- ---- pages

-- The words of an object. A struct has at least one, so that two objects never have one address. A slice has its length before
-- the elements. A channel has two words before the places of its buffer, and at least one place: without a buffer the value on
-- offer is there.
abbrev pub object_words : Object → ℕ
object_words (StructObject cells) = max 1 (length cells)
object_words (SliceObject cells) = 1 + length cells
object_words (Channel capacity queue closed) = 2 + max 1 capacity

-- An object of more words than a page has is spread over a lead page and data pages. These hold nothing else, so that a cell's
-- page and its place in the page follow from its number alone.
abbrev pub is_spread : (page_words : ℕ) → Object → Bool
is_spread page_words object = nat_lt page_words (object_words object)

-- the cells of an object: fields, elements, or the places of a buffer
abbrev pub cells : Object → ℕ
cells (StructObject fields) = length fields
cells (SliceObject elements) = length elements
cells (Channel capacity queue closed) = max 1 capacity

-- the data pages of an object: as many as its cells fill, the last one perhaps in part; none unless it is spread
abbrev pub data_pages : (page_words : ℕ) → Object → ℕ
data_pages page_words object = if is_spread page_words object then (cells object - 1) / page_words + 1 else 0

-- How many data pages an object can have: the lead page has all of their numbers, after at most two words, and 64 is a limit of
-- rgo. There is no second level of pages, which every access would have to go down.
abbrev pub most_data_pages : (page_words : ℕ) → ℕ
most_data_pages page_words = min 64 (page_words - 2)

-- whether the object needs more data pages than an object can have
abbrev pub is_too_large : (page_words : ℕ) → Object → Bool
is_too_large page_words object = nat_lt (most_data_pages page_words) (data_pages page_words object)

-- the words used of a goroutine's own page in a region; none if it has no page there
abbrev pub fill_of : List (Region × ℕ) → Region → Option ℕ
fill_of [] r = None
fill_of (f ∷ fs) r = if same_region f.0 r then Some f.1 else fill_of fs r

-- the fills, after n words of the own page in r are used; each region has one entry
abbrev pub with_fill : List (Region × ℕ) → Region → ℕ → List (Region × ℕ)
with_fill [] r n = (r, n) ∷ []
with_fill (f ∷ fs) r n = if same_region f.0 r then (r, n) ∷ fs else f ∷ with_fill fs r n

-- whether n words more fit in a page of which `used` are used; false if there is no page
abbrev pub fits_in_page : (page_words : ℕ) → Option ℕ → ℕ → Bool
fits_in_page page_words None n = false
fits_in_page page_words (Some used) n = nat_le (used + n) page_words

-- Whether a page is to be taken before this object: a spread object still lacks its lead page or a data page, or any other object
-- does not fit what is left of the own page. For an object that is too large no page is taken, since it is never made.
abbrev pub wants_page : (page_words : ℕ) → (reserved : ℕ) → (used : Option ℕ) → Object → Bool
wants_page page_words reserved used object =
    if is_spread page_words object
    then not (is_too_large page_words object) && nat_le reserved (data_pages page_words object)
    else not (fits_in_page page_words used (object_words object))

-- The holder after that page was taken. For a spread object the page is reserved, and the own page stays as it is, so that small
-- objects after the spread one still use what is left of it. For any other object it becomes the own page, filled from its beginning.
abbrev pub with_page : (page_words : ℕ) → Holder → Region → Object → Holder
with_page page_words h r object = record h {
  fills = if is_spread page_words object then h.fills else with_fill h.fills r 0;
  reserved = if is_spread page_words object then h.reserved + 1 else h.reserved;
}

-- An object is placed in the own page of its region, if it fits there: the holder after it, and the owner of the new object as a
-- list, which is appended to the owners.
abbrev pub placed : (page_words : ℕ) → Holder → Region → Object → Option ℕ → Option (Holder × List Region)
placed page_words h r object None = None
placed page_words h r object (Some used) =
    if nat_le (used + object_words object) page_words
    then Some (record h { fills = with_fill h.fills r (used + object_words object) }, r ∷ []) else None

-- A spread object that is not too large is placed in the pages reserved for it, once all of them are reserved.
abbrev pub spread_out : (page_words : ℕ) → Holder → Region → Object → Option (Holder × List Region)
spread_out page_words h r object =
    if not (is_too_large page_words object) && nat_lt (data_pages page_words object) h.reserved
    then Some (record h { reserved = 0 }, r ∷ []) else None

-- Where the object of an instruction goes, if it makes one. Without a region for it, or without its pages, the instruction has no
-- step. It is a law of rgo_sound that for checked code some page steps later it has one (`no_step_missing`).
abbrev pub allotted : (page_words : ℕ) → Holder → Option Region → Option Object → Option (Holder × List Region)
allotted page_words h region None = Some (h, [])
allotted page_words h None (Some object) = None
allotted page_words h (Some r) (Some object) =
    if is_spread page_words object
    then spread_out page_words h r object else placed page_words h r object (fill_of h.fills r)
