-- That a sheet is admitted has one proof at most, so a struct can hold it. Assumes nothing.
use Rattle.std.specs.Prelude.{ℕ}
use Rattle.std.specs.Coded.{Unit-prop, le_prop}
use Rattle.model.specs.Sheet.{Paths, windows, timetable, Sheet}
use Rattle.model.specs.Admission.{FewWindows, SomeWindow, PathsInRange, PathsInOrder, Admitted}

few_windows_once : (f : Paths) → IsProp (FewWindows f)
few_windows_once (windows w) = le_prop
few_windows_once (timetable t) = Unit-prop

some_window_once : (f : Paths) → IsProp (SomeWindow f)
some_window_once (windows w) = le_prop
some_window_once (timetable t) = Unit-prop

in_range_once : (f : Paths) (q : ℕ) → IsProp (PathsInRange f q)
in_range_once (windows w) q = hlevel le_prop
in_range_once (timetable t) q = hlevel le_prop

in_order_once : (f : Paths) (q : ℕ) → IsProp (PathsInOrder f q)
in_order_once (windows w) q = hlevel le_prop
in_order_once (timetable t) q = hlevel le_prop

pub admitted_once : (s : Sheet) → IsProp (Admitted s)
admitted_once s = hlevel (le_prop, few_windows_once, some_window_once, in_range_once, in_order_once)
