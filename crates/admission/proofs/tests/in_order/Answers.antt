-- `tests::in_order` meets its contract, by cases on the form. Assumes nothing.
use Rattle.model.specs.Admission.{is_in_order}
use Rattle.admission.proofs.tests.in_order.Goals as goal

pub returns-in-Windows : goal.returns-in-Windows
unfolding is_in_order
returns-in-Windows c = rw c.in-Windows.is c.windows_in_order.ensures

pub returns-in-Timetable : goal.returns-in-Timetable
unfolding is_in_order
returns-in-Timetable c = rw c.in-Timetable.is c.times_in_order.ensures

pub windows_in_order-requires : goal.windows_in_order-requires
windows_in_order-requires c = rw c.in-Windows.is at c.requires.windows
