-- DOCUMENT 01, "THE SHEET": what the lines so far say, and one line more. A sheet in memory is made of these columns.
use Rattle.std.specs.Prelude.{◌≡◌, Bool, true, Option, Some, None, ℕ, ◌<◌, leb}
use Rattle.model.specs.Limits.{window_counts, train_counts, order_counts}
use Rattle.lines.specs.declared.Line.{Line}
use Rattle.lines.specs.declared.Line.TheVariants as L
use Rattle.rows.specs.WindowLines.{no_windows, with_window}
use Rattle.rows.specs.TrainLines.{no_trains, with_train, with_fixed_train}
use Rattle.rows.specs.OrderLines.{no_orders, with_order}
use Rattle.gather.specs.declared.Kind.{Kind}
use Rattle.gather.specs.declared.Kind.TheVariants as K
use Rattle.gather.specs.declared.SheetLines.{SheetLines}

-- the kind of a line
abbrev pub kind : Line → Kind
kind (L.Gap g) = K.Gap
kind (L.Window w) = K.Window
kind (L.Train t) = K.Train
kind (L.FixedTrain t) = K.Train
kind (L.Order o) = K.Order

-- "Kinds come in the order G, W, T, O (or X, O)": a kind's place in that order
abbrev pub place : Kind → ℕ
place K.Gap = 1
place K.Window = 2
place K.Train = 3
place K.Order = 4

-- not "earlier than the line above allows", where there is one
abbrev pub late_enough : Option Kind → Kind → Bool
late_enough None k = true
late_enough (Some above) k = leb (place above) (place k)

unfoldable pub no_lines : SheetLines
unfolding no_windows no_trains no_orders
no_lines = record { above = None; gap = None; windows = no_windows; trains = no_trains; orders = no_orders }

-- there is room for one of its kind
abbrev pub OneMore : SheetLines → Line → Type 0
OneMore s (L.Gap g) = s.gap ≡ None
OneMore s (L.Window w) = s.windows.count < window_counts.most
OneMore s (L.Train t) = s.trains.count < train_counts.most
OneMore s (L.FixedTrain t) = s.trains.count < train_counts.most
OneMore s (L.Order o) = s.orders.count < order_counts.most

-- with a line more: its kind, and what it says
unfoldable pub with_line : SheetLines → Line → SheetLines
with_line s (L.Gap g) = record { above = Some K.Gap; gap = Some g.gap; windows = s.windows; trains = s.trains; orders = s.orders }
with_line s (L.Window w) =
    record { above = Some K.Window; gap = s.gap; windows = with_window s.windows w; trains = s.trains; orders = s.orders }
with_line s (L.Train t) =
    record { above = Some K.Train; gap = s.gap; windows = s.windows; trains = with_train s.trains t; orders = s.orders }
with_line s (L.FixedTrain t) =
    record { above = Some K.Train; gap = s.gap; windows = s.windows; trains = with_fixed_train s.trains t; orders = s.orders }
with_line s (L.Order o) =
    record { above = Some K.Order; gap = s.gap; windows = s.windows; trains = s.trains; orders = with_order s.orders o }
