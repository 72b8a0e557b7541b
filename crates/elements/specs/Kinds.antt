-- When a pixel and when an event is at most another.
use Rattle.std.specs.Prelude.{Bool, ◌&&◌, ◌||◌, ◌==◌, nat_le, nat_lt}
use Rattle.elements.specs.declared.pixel.Pixel.{Pixel}
use Rattle.elements.specs.declared.event.Event.{Event}

-- by size
abbrev pub pixel_most : Pixel → Pixel → Bool
pixel_most a b = nat_le a.0 b.0

-- by key, then by stamp
abbrev pub event_most : Event → Event → Bool
event_most a b = nat_lt a.key b.key || (a.key == b.key && nat_le a.stamp b.stamp)
