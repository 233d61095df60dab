-- Which boxes there are.
use Rattle.std.specs.Prelude.{Bool, true, false, cond, ◌&&◌, T, ℤ, Some, None, Ok, Err, Option, Result, int_le}
use Rattle.refusal.specs.Told.{Told, plain}
use Rattle.geometry.specs.Range.{least_coordinate, most_coordinate, in_range}
use Rattle.geometry.specs.declared.bounds.Point.{Point}
use Rattle.geometry.specs.declared.bounds.Span.{Span}
use Rattle.geometry.specs.declared.bounds.Bounds.{Bounds}

-- what `make` gives where the test holds, which `make` may use
abbrev pub given : {A : Type 0} → (b : Bool) → (T b → Option A) → Option A
given true make = make tt
given false make = None

-- the span with these ends, where there is one
unfoldable pub span_at : ℤ → ℤ → Option Span
span_at low high =
    given (int_le least_coordinate low)
    (λ a. given (int_le low high)
    (λ b. given (int_le high most_coordinate)
    (λ c. Some (record { low = low; high = high; least = record { le = a }; ordered = record { le = b }; most = record { le = c } }))))

-- the box of three spans, where there are all three
abbrev box_of : Option Span → Option Span → Option Span → Option Bounds
box_of (Some e) (Some n) (Some l) = Some (record { easting = e; northing = n; level = l })
box_of (Some e) (Some n) None = None
box_of (Some e) None l = None
box_of None n l = None

-- the box with these corners, where there is one
abbrev pub bounds_at : Point → Point → Option Bounds
bounds_at low high =
    box_of (span_at low.easting high.easting) (span_at low.northing high.northing) (span_at low.level high.level)

abbrev pub point_in_range : Point → Bool
point_in_range p = in_range p.easting && (in_range p.northing && in_range p.level)

-- the ends are in range, so it is for their order where there is no box
abbrev or_reversed : Option Bounds → Result Bounds Told
or_reversed (Some b) = Ok b
or_reversed None = Err (plain 6)

-- the box with these corners: refused by 5 if an end is out of range, then by 6 if a low end lies above its high end
unfoldable pub bounds_of : Point → Point → Result Bounds Told
bounds_of low high = cond (point_in_range low && point_in_range high) (or_reversed (bounds_at low high)) (Err (plain 5))
