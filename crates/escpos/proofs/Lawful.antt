-- What follows of an operand in its range: the lawful value that is made of it goes on.
use Rattle.std.proofs.Common.{◌≡◌, ℕ, ◌+◌, ◌≤◌, ◌&&◌, Some, ap, ◌∙◌, nat_le, nat_lt, slice_set, List, refl, arith}
use Rattle.std.proofs.lemmas.Bool.{ne_eqb}
use Rattle.glass.specs.declared.area.Area.{Area}
use Rattle.glass.specs.declared.frame.Column.{Column}
use Rattle.glass.specs.declared.frame.GlassPosition.{GlassPosition}
use Rattle.glass.specs.declared.frame.Frame.{Frame}
use Rattle.glass.specs.Places.{holds, whole, lawful}
use Rattle.glass.specs.Frames.{column_of, position_of, frame_of}
use Rattle.glass.proofs.Made.{made_of}
use Rattle.commands.specs.declared.words.Slot.{Slot}
use Rattle.commands.specs.declared.words.WindowChange.TheVariants as change
use Rattle.commands.specs.declared.words.Command.TheVariants.{GoTo, Window}
use Rattle.escpos.specs.declared.columns.Columns.{Columns}
use Rattle.escpos.specs.declared.reading.Reading.{Reading}
use Rattle.escpos.specs.declared.reading.Reading.TheVariants.{GoToX, GoToY, WindowX1, WindowY1, WindowX2, WindowY2, DefineLength, DefineColumn}
use Rattle.commands.specs.declared.outcome.Glance.TheVariants as glance
use Rattle.escpos.specs.Glances.{glance_of}
use Rattle.escpos.specs.Names.{go_to, window}
use Rattle.escpos.specs.Steps.{columns_of, blanks, done, wait, step}

pub column_made : (x : Column) → column_of x.number ≡ Some x
column_made x = made_of (nat_le 1 x.number && nat_le x.number 20) (λ h. record { number = x.number; on_glass = h }) x.on_glass

pub position_made : (p : GlassPosition) → position_of p.at.column p.at.row ≡ Some p
position_made p = made_of (holds whole p.at.column p.at.row) (λ h. record { at = p.at; on_glass = h }) p.on_glass

pub frame_made : (a : Area) (f : Frame) → a ≡ f.area → frame_of a ≡ Some f
frame_made a f area = ap frame_of area ∙ made_of (lawful f.area) (λ h. record { area = f.area; on_glass = h }) f.on_glass

pub columns_made : (columns : List ℕ) (at size : ℕ) (c : Columns) → c.columns ≡ columns → c.at ≡ at → c.size ≡ size → columns_of columns at size ≡ Some c
columns_made columns at size c h k l =
    rw (← h, ← k, ← l, made_of {A = Columns} (nat_lt c.at c.size && nat_le c.size 5) (λ h. record { columns = c.columns; at = c.at; size = c.size; fits = h }) c.fits)

pub x_read : (r : Reading) (x : Column) → r ≡ GoToX → wait (GoToY x) ≡ step r x.number
x_read r x is = rw (is, column_made x)

pub y_read : (r : Reading) (x : Column) (p : GlassPosition) → r ≡ GoToY x → x.number ≡ p.at.column → done (GoTo p go_to) ≡ step r p.at.row
y_read r x p is same = rw (is, same, position_made p)

pub x1_read : (r : Reading) (slot : Slot) (x : Column) → r ≡ WindowX1 slot → wait (WindowY1 slot x) ≡ step r x.number
x1_read r slot x is = rw (is, column_made x)

pub y1_read : (r : Reading) (slot : Slot) (x : Column) (p : GlassPosition) → r ≡ WindowY1 slot x → x.number ≡ p.at.column → wait (WindowX2 slot p) ≡ step r p.at.row
y1_read r slot x p is same = rw (is, same, position_made p)

pub x2_read : (r : Reading) (slot : Slot) (p : GlassPosition) (f : Frame) (b : ℕ) → r ≡ WindowX2 slot p → record { x1 = p.at.column; y1 = p.at.row; x2 = b; y2 = p.at.row } ≡ f.area → wait (WindowY2 slot f) ≡ step r b
x2_read r slot p f b is area = rw (is, frame_made _ f area)

pub y2_read : (r : Reading) (slot : Slot) (f g : Frame) (b : ℕ) → r ≡ WindowY2 slot f → record f.area { y2 = b } ≡ g.area → done (Window (change.Define slot g) window) ≡ step r b
y2_read r slot f g b is area = rw (is, frame_made _ g area)

pub length_read : (r : Reading) (code last : ℕ) (c : Columns) → r ≡ DefineLength code last → c.columns ≡ blanks → c.at ≡ 0 → 1 ≤ c.size → wait (DefineColumn code last c) ≡ step r c.size
length_read r code last c is blank none some = rw (is, ne_eqb c.size 0 (λ e. omega arith), columns_made _ _ _ c blank none refl)

pub column_read : (code last : ℕ) (c d : Columns) (b : ℕ) → d.columns ≡ slice_set c.columns c.at b → d.at ≡ c.at + 1 → d.size ≡ c.size → wait (DefineColumn code last d) ≡ step (DefineColumn code last c) b
column_read code last c d b columns at size = rw (columns_made _ _ _ d columns at size)

pub y_glance : (r : Reading) (x : Column) (p : GlassPosition) → r ≡ GoToY x → x.number ≡ p.at.column → glance.GoTo p go_to ≡ glance_of r p.at.row
y_glance r x p is same = rw (is, same, position_made p)
