-- What one step leaves as it was.
use Rattle.std.specs.Prelude.{◌≡◌, ◌≢◌, ℕ, Option, length, slice_set}
use Rattle.step_core.specs.World.{World, Packet, view_of, desk_at}

-- apart from the views at most one word, or one slot, is another one
pub data OneWord (w u : World) : Type 0 where
  Neither : u ≡ record w { views = u.views } → OneWord w u
  HeadWord : u ≡ record w { head = u.head; views = u.views } → OneWord w u
  LengthWord : u ≡ record w { length = u.length; views = u.views } → OneWord w u
  LinkWord : (i j : ℕ) → u ≡ record w { links = slice_set w.links i j; views = u.views } → OneWord w u
  CountWord : (i n : ℕ) → u ≡ record w { counts = slice_set w.counts i n; views = u.views } → OneWord w u
  DeskWord : (d n : ℕ) → u ≡ record w {
    desks = slice_set w.desks d (record { word = n; slot = (desk_at w.desks d).slot });
    views = u.views;
  } → OneWord w u
  Slot : (d : ℕ) (slot : Option Packet) →
      u ≡ record w {
        desks = slice_set w.desks d (record { word = (desk_at w.desks d).word; slot = slot });
        views = u.views;
      } → OneWord w u

-- a step of this worker changes at most one word or slot, and no other worker's view, and no part
pub record ChangesOne (worker : ℕ) (w u : World) : Type 0 where
  pub word : OneWord w u
  pub views : length u.views ≡ length w.views
  pub others : (other : ℕ) → other ≢ worker → view_of u.views other ≡ view_of w.views other
  pub part : (view_of u.views worker).part ≡ (view_of w.views worker).part
