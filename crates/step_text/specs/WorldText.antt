-- The text of a world, line by line.
use Rattle.std.specs.Prelude.{ℕ, zero, suc, ◌+◌, ◌≡◌, ◌==◌, List, [], ◌∷◌, ◌++◌, Option, None, Some, length, codes, decimal, if◌then◌else◌}
use Rattle.std.specs.List.{flat_map}
use Rattle.commons.specs.Calls.{desk_full}
use Rattle.step_core.specs.World.{World, Seg, Packet, link_in}
use Rattle.step_core.specs.declared.view.Head.{Head}
use Rattle.step_core.specs.declared.view.View.{View}
use Rattle.step_core.specs.declared.view.Desk.{Desk}
use Rattle.step_core.specs.Links.{Spells}
use Rattle.element_text.specs.Elements.{base_text, elements_text, joined}
use Rattle.step_text.specs.Ascending.{ascending}

-- a link value: an element, or `-` for the end
abbrev pub end_text : ℕ → List ℕ
end_text zero = codes "-"
end_text (suc element) = decimal element

-- a segment: its element and its base
unfoldable pub segment_text : Seg → List ℕ
segment_text seg = decimal seg.elem ++ base_text seg.base

-- a head: its top and its count
unfoldable pub head_text : Head → List ℕ
head_text head = codes "head " ++ end_text head.top ++ codes " " ++ decimal head.count

-- the line of the head
unfoldable pub head_line : Head → List ℕ
head_line head = head_text head ++ codes "\n"

-- What a worker has: its credit, the elements of its hand ascending, whatever their count, and
-- those that it holds ascending, each as often as it is held.
unfoldable pub view_text : ℕ → View → List ℕ
view_text worker v =
    codes "view " ++ decimal worker ++ codes " credit " ++ decimal v.credit ++ codes "\n"
    ++ codes "hand " ++ decimal worker ++ elements_text (ascending (v.hand ++ v.zeros))
    ++ codes "holds " ++ decimal worker ++ elements_text (ascending v.holds)

-- the lines of each view, of the workers from this one on
abbrev pub views_text : ℕ → List View → List ℕ
views_text worker [] = []
views_text worker (v ∷ views) = view_text worker v ++ views_text (worker + 1) views

-- the segments in a slot; nothing in an empty one
abbrev pub slot_text : Option Packet → List ℕ
slot_text None = []
slot_text (Some packet) = joined segment_text packet

-- the packet of a full desk
abbrev pub shelf_text : Desk → List ℕ
shelf_text d = if d.word == desk_full then codes ":" ++ slot_text d.slot else []

-- a desk: its word, and its packet where it is full
unfoldable pub desk_text : ℕ → Desk → List ℕ
desk_text number d =
    codes "desk " ++ decimal number ++ codes " phase " ++ decimal d.word
    ++ shelf_text d ++ codes "\n"

-- a line for each desk, from this number on
abbrev pub desks_text : ℕ → List Desk → List ℕ
desks_text number [] = []
desks_text number (d ∷ desks) = desk_text number d ++ desks_text (number + 1) desks

-- the count of an element; nothing where it is 1
unfoldable pub count_text : ℕ → ℕ → List ℕ
count_text element count =
    if count == 1 then []
    else codes "count " ++ decimal element ++ codes " " ++ decimal count ++ codes "\n"

-- a line for each count that isn't 1, from this element on
abbrev pub counts_text : ℕ → List ℕ → List ℕ
counts_text element [] = []
counts_text element (count ∷ counts) = count_text element count ++ counts_text (element + 1) counts

-- a world whose common list is this
unfoldable pub text_with : List ℕ → World → List ℕ
text_with common w =
    head_line w.head ++ codes "length " ++ decimal w.length ++ codes "\n"
    ++ codes "common" ++ elements_text common
    ++ views_text 1 w.views ++ desks_text 0 w.desks ++ counts_text 0 w.counts

-- this is the text of a world: the common list is the one that its links spell from the head's top
pub record IsTextOf (w : World) (text : List ℕ) : Type 0 where
  pub common : List ℕ
  pub spelled : Spells (link_in w.links) w.head.top common
  pub is : text ≡ text_with common w
